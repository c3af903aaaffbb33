-- The links into a job, on the state that a sequence leads to: they say of the job what the table's links say after the sequence.
-- A row holds a number above 0 exactly where a link comes from, and then the strongest link's latency; so each side is at least the other.
use Prim.Native.Nat.{ℕ, ◌+◌, ◌-◌, ◌≤◌, ◌<◌, max}
use native.Mathlib.Omega.{arith}
use mathlib.Core.Path.{◌≡◌, refl}
use mathlib.Core.Bool.{true, false, cond}
use mathlib.Core.Logic.{◌⊎◌, inl, inr}
use mathlib.Core.List.Memᴰ
use mathlib.Core.List.{List, [], map, Memᴰ}
use lib.Dec.{ltb}
use lib.ListN.{get_or}
use borrow.Author.Tests.{lt-ltb, ltb-true}
use Rattle.laws.specs.Lists.{all, count, largest}
use Rattle.laws.proofs.Members.{either, true_not_false, not_false_true, same_test, keep_member, count_member, largest_bounds, largest_least}
use Rattle.laws.proofs.Keeping.{all_members}
use Rattle.records.specs.Record.{link}
use Rattle.records.specs.declared.Link.{Link}
use Rattle.records.specs.declared.JobRecord.{JobRecord}
use Rattle.records.specs.declared.JobRecord.TheVariants.{L}
use Rattle.jobs.specs.Judge.{Sound}
use Rattle.jobs.specs.Jobs.{release, strongest}
use Rattle.jobs.specs.Arrays.{jobs_of}
use Rattle.jobs.proofs.Sound.{link_known, strongest_bounds, strongest_attained}
use Rattle.std.specs.Prelude.{Some, None}
use Rattle.search.specs.Run.{has, linked_from, end_in, free, links_allow, start_after, run}
use Rattle.search.specs.Order.{Sequence}
use Rattle.search.specs.State.{at, is_placed, linked, start_at, links_into}
use Rattle.search.proofs.Meanings.{has_member, all_linked}
use Rattle.search.proofs.Rest.{rest_member}
use Rattle.search.proofs.Running.{links_allow_least, links_allow_bounds}
use Rattle.search.proofs.ByNumber.{release_at, link_at, limit, limit_above, limit_most}
use Rattle.search.proofs.States.{state_of, state_free, state_ends, state_left}

module _ (table : List JobRecord) (sound : Sound table) (k : ℕ) (below : k < 48) where
  -- the row of links into the job, and the jobs that it is linked from
  abbrev pub row : List ℕ
  row = get_or (links_into table) k []

  abbrev pub sources : List ℕ
  sources = linked row (limit table)

  -- they are those from which a link comes
  source_linked : (i : ℕ) → Memᴰ i sources → (i < 48) × Memᴰ (L (link i k (at row i - 1))) table
  unfolding linked
  source_linked i m =
      let r = (keep_member (λ i. ltb 0 (at row i)) (count 0 (limit table)) i).0 m in
      let small : i < 48 = omega (arith, (count_member 0 (limit table) i).0 r.0, limit_most table) in
      let same = link_at table k below i small in
      (small, strongest_attained table i k (at row i - 1) (omega (arith, ltb-true 0 (at row i) r.1)))

  linked_source : (l : Link) → Memᴰ (L l) table → l.to ≡ k → Memᴰ l.from sources × (l.latency < at row l.from)
  unfolding linked
  linked_source l m e =
      let known = (link_known table sound l m).0 in
      let above = limit_above table l.from known in
      let strong : l.latency < strongest table l.from k = rw e at (strongest_bounds table l.from l.to l.latency m) in
      let latent : l.latency < at row l.from = omega (arith, link_at table k below l.from (omega (arith, limit_most table))) in
      ((keep_member (λ i. ltb 0 (at row i)) (count 0 (limit table)) l.from).1 ((count_member 0 (limit table) l.from).1 (omega arith), lt-ltb 0 (at row l.from) (omega arith)), latent)

  module _ (q : List ℕ) (s : Sequence table q) where
    -- all of them have run exactly when each of the table's links to the job comes from the sequence
    pub sources_run : all (is_placed (state_of table q).placed) sources ≡ all (linked_from q k) table
    sources_run =
        same_test (all (is_placed (state_of table q).placed) sources) (all (linked_from q k) table) (
          λ h. (all_linked table q k).1 (λ l m e. in_sequence l m e (either (has q l.from)) ((all_members (is_placed (state_of table q).placed) sources).0 h)),
          λ h. (all_members (is_placed (state_of table q).placed) sources).1 (λ i m. has_run i m ((all_linked table q k).0 h)),
        )
      where
        in_sequence : (l : Link) → Memᴰ (L l) table → l.to ≡ k → (has q l.from ≡ true) ⊎ (has q l.from ≡ false)
            → ((i : ℕ) → Memᴰ i sources → is_placed (state_of table q).placed i ≡ true) → Memᴰ l.from q
        in_sequence l m e (inl h) run = (has_member q l.from).0 h
        in_sequence l m e (inr h) run =
            let source = (linked_source l m e).0 in
            let left = (rest_member table q l.from).1 ((link_known table sound l m).0, λ p. true_not_false ((has_member q l.from).1 p) h) in
            absurd (true_not_false (run l.from source) ((state_left table sound q s l.from (source_linked l.from source).0).1 left))

        has_run : (i : ℕ) → Memᴰ i sources → ((l : Link) → Memᴰ (L l) table → l.to ≡ k → Memᴰ l.from q) → is_placed (state_of table q).placed i ≡ true
        has_run i m links =
            let r = source_linked i m in
            not_false_true (is_placed (state_of table q).placed i) (λ h. ((rest_member table q i).0 ((state_left table sound q s i r.0).0 h)).1 (links (link i k (at row i - 1)) r.1 refl))

    -- and the largest of their ends plus latency is that of the links
    pub sources_allow : largest (map (λ i. at (state_of table q).ends i + (at row i - 1)) sources) ≡ links_allow table (run table q) k
    sources_allow = omega (arith, most, least)
      where
        ends : (i : ℕ) → i < 48 → at (state_of table q).ends i ≡ end_in (run table q) i
        ends = state_ends table sound q s

        most : largest (map (λ i. at (state_of table q).ends i + (at row i - 1)) sources) ≤ links_allow table (run table q) k
        most =
            largest_least (map (λ i. at (state_of table q).ends i + (at row i - 1)) sources) (links_allow table (run table q) k)
            (λ x m.
            let i = Memᴰ.of_map (λ i. at (state_of table q).ends i + (at row i - 1)) sources m in
            let r = source_linked i.0 i.1 in
            omega (arith, i.2, ends i.0 r.0, links_allow_bounds table (run table q) (link i.0 k (at row i.0 - 1)) r.1))

        least : links_allow table (run table q) k ≤ largest (map (λ i. at (state_of table q).ends i + (at row i - 1)) sources)
        least =
            links_allow_least table (run table q) k (largest (map (λ i. at (state_of table q).ends i + (at row i - 1)) sources))
            (λ l m e.
            let r = linked_source l m e in
            omega (
              arith,
              r.1,
              ends l.from (source_linked l.from r.0).0,
              largest_bounds (map (λ i. at (state_of table q).ends i + (at row i - 1)) sources) (at (state_of table q).ends l.from + (at row l.from - 1)) (Memᴰ.map (λ i. at (state_of table q).ends i + (at row i - 1)) r.0),
            ))

    -- so the job may start when it does after the sequence, if it may follow
    pub starts : start_at row (state_of table q).placed (state_of table q).ends (max (state_of table q).free (at (jobs_of table).release k)) sources
        ≡ cond (all (linked_from q k) table) (Some (start_after table (run table q) k)) None
    unfolding start_at start_after
    starts =
        let z : max (max (free (run table q)) (release table k)) (links_allow table (run table q) k) ≡ max (free (run table q)) (max (release table k) (links_allow table (run table q) k)) = omega arith in
        rw (sources_run, sources_allow, state_free table q, release_at table k below, z)
