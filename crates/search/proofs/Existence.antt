-- The search finds what exists. From feasible starts an open sequence is built job by job, always going on with a job left that starts first:
-- what it is linked from starts earlier, so it has run; each job runs no later than it starts there; and the jobs left all start after the last one's end.
-- They run without overlap, so that all their costs together fit before the end of the one that ends last: by induction on how many are left.
use Prim.Native.Nat.{ℕ, zero, suc, ◌+◌, ◌≤◌}
use native.Mathlib.Omega.{arith}
use mathlib.Core.Bool.{true, false}
use mathlib.Core.Path.{◌≡◌, refl, ap, sym, ◌∙◌}
use mathlib.Core.Logic.{◌⊎◌, inl, inr}
use mathlib.Core.List.{List, [], ◌∷◌, map, Memᴰ}
use lib.ListN.{length}
use Rattle.laws.specs.Lists.{Every, total}
use Rattle.laws.proofs.Lists.{every_weaker}
use Rattle.laws.proofs.Members.{either, true_not_false}
use Rattle.laws.proofs.Parts.{length_none, least_by}
use Rattle.records.specs.declared.Job.{Job}
use Rattle.records.specs.declared.Link.{Link}
use Rattle.records.specs.declared.Slot.{Slot}
use Rattle.records.specs.declared.JobRecord.{JobRecord}
use Rattle.records.specs.declared.JobRecord.TheVariants.{J, L}
use Rattle.jobs.specs.Judge.{Sound}
use Rattle.jobs.specs.Jobs.{numbers, cost, deadline, job_at}
use Rattle.jobs.specs.Starts.{Feasible}
use Rattle.jobs.proofs.Sound.{number_known, job_known, link_known, cost_positive, PermittedByNumber, permitted_by_number}
use Rattle.search.specs.Run.{has, end_in, free, start_after, run_next, run}
use Rattle.search.specs.Live.{remaining}
use Rattle.search.specs.Order.{MayFollow, Live, Open, Full}
use Rattle.search.proofs.Meanings.{has_member}
use Rattle.search.proofs.Rest.{rest, rest_member, rest_remaining, remaining_every, remaining_costs, full_rest, rest_total, rest_length}
use Rattle.search.proofs.Opening.{open_start, open_next}
use Rattle.search.proofs.Running.{links_allow_least, end_in_early}

-- a job left that starts first of those left
pub record Next (table : List JobRecord) (start : ℕ → ℕ) (q : List ℕ) (k : ℕ) : Type 0 where
  pub left : Memᴰ k (rest table q)
  pub first : (n : ℕ) → Memᴰ n (rest table q) → start k ≤ start n

-- a slot of a job of the table ends by the job's end at some starts
abbrev pub Early : List JobRecord → (ℕ → ℕ) → Slot → Type 0
Early table start s = Memᴰ s.number (numbers table) × (s.end ≤ start s.number + cost table s.number)

-- a sequence that runs no later than some starts: each job of it ends by its end there, and the jobs left start after its end
pub record Ahead (table : List JobRecord) (start : ℕ → ℕ) (q : List ℕ) : Type 0 where
  pub early : Every (Early table start) (run table q)
  pub later : (n : ℕ) → Memᴰ n (rest table q) → free (run table q) ≤ start n

-- the jobs left fit together after t: t and all their costs end by the end of one of them
abbrev pub Fits : List JobRecord → (ℕ → ℕ) → List ℕ → ℕ → Type 0
Fits table start q t = (rest table q ≡ []) ⊎ ((n : ℕ) × Memᴰ n (rest table q) × (t + total (map (cost table) (rest table q)) ≤ start n + cost table n))

-- where any job is left, one of them starts first
pub next : (table : List JobRecord) (start : ℕ → ℕ) (q : List ℕ) → (rest table q ≡ []) ⊎ ((k : ℕ) × Next table start q k)
next table start q = step (rest table q) refl
  where
    step : (ns : List ℕ) → rest table q ≡ ns → (rest table q ≡ []) ⊎ ((k : ℕ) × Next table start q k)
    step [] e = inl e
    step (n ∷ ns) e = let r = least_by start n ns in inr (r.0, record { left = rw e r.1; first = λ m h. r.2 m (rw e at h) })

module _ (table : List JobRecord) (sound : Sound table) (start : ℕ → ℕ) (feasible : Feasible table start) where
  -- the starts are permitted, by number
  permitted : PermittedByNumber table start
  permitted = (permitted_by_number table sound start).0 feasible.permitted

  -- no two jobs overlap, by number
  apart : (a b : ℕ) → Memᴰ a (numbers table) → Memᴰ b (numbers table) → (a ≡ b → ⊥) → (start a + cost table a ≤ start b) ⊎ (start b + cost table b ≤ start a)
  apart a b m n other =
      let j = number_known table a m in
      let k = number_known table b n in
      of_jobs a b j.0 k.0 j.1 k.1 j.2 k.2 other
    where
      of_jobs : (a b : ℕ) (j k : Job) → Memᴰ (J j) table → Memᴰ (J k) table → j.number ≡ a → k.number ≡ b → (a ≡ b → ⊥)
          → (start a + cost table a ≤ start b) ⊎ (start b + cost table b ≤ start a)
      of_jobs a b j k m n e f other =
          let cost-j : j.cost ≡ cost table a = sym (job_known table sound j m).1 ∙ ap (cost table) e in
          let cost-k : k.cost ≡ cost table b = sym (job_known table sound k n).1 ∙ ap (cost table) f in
          rw (e, f, cost-j, cost-k) at (feasible.apart j k m n (λ s. other (sym e ∙ s ∙ f)))

  -- of two jobs the one that starts no later has ended when the other starts
  pub ended_before : (a b : ℕ) → Memᴰ a (numbers table) → Memᴰ b (numbers table) → (a ≡ b → ⊥) → start a ≤ start b → start a + cost table a ≤ start b
  ended_before a b m n other h = step (apart a b m n other)
    where
      step : (start a + cost table a ≤ start b) ⊎ (start b + cost table b ≤ start a) → start a + cost table a ≤ start b
      step (inl l) = l
      step (inr l) = absurd (omega (arith, cost_positive table sound b n))

  -- so a job that starts first of those left has ended when the others start
  pub next_ended : (q : List ℕ) (k : ℕ) → Next table start q k → (n : ℕ) → Memᴰ n (rest table (k ∷ q)) → Memᴰ n (rest table q) × (start k + cost table k ≤ start n)
  next_ended q k x n m =
      let out = (rest_member table (k ∷ q) n).0 m in
      let still = (rest_member table q n).1 (out.0, λ h. out.1 (Memᴰ.tail h)) in
      (still, ended_before k n ((rest_member table q k).0 x.left).0 out.0 (λ e. out.1 (Memᴰ.head (sym e))) (x.first n still))

  -- the jobs left fit together: if they all start after t, then t and all their costs end by the end of one of them
  pub rest_fits_lem : (left : ℕ) (q : List ℕ) (t : ℕ) → length (rest table q) ≡ left → ((n : ℕ) → Memᴰ n (rest table q) → t ≤ start n) → Fits table start q t
  rest_fits_lem zero q t e h = inl (length_none (rest table q) e)
  rest_fits_lem (suc left) q t e h =
      step (next table start q) (λ k x. rest_fits_lem left (k ∷ q) (start k + cost table k) (omega (arith, rest_length table q k x.left)) (λ n m. (next_ended q k x n m).1))
    where
      with_next : (k : ℕ) → Next table start q k → Fits table start (k ∷ q) (start k + cost table k) → Fits table start q t
      with_next k x (inl none) =
          inr (k, x.left, omega (arith, rest_total table q k x.left (cost table), ap (λ (l : List ℕ). total (map (cost table) l)) none, h k x.left))
      with_next k x (inr r) =
          inr (r.0, (next_ended q k x r.0 r.1).0, omega (arith, rest_total table q k x.left (cost table), r.2, h k x.left))

      step : (rest table q ≡ []) ⊎ ((k : ℕ) × Next table start q k) → ((k : ℕ) → Next table start q k → Fits table start (k ∷ q) (start k + cost table k)) → Fits table start q t
      step (inl none) below = inl none
      step (inr x) below = with_next x.0 x.1 (below x.0 x.1)

  -- a sequence that runs no later than the starts is live
  pub ahead_live : (q : List ℕ) → Ahead table start q → Live table q
  unfolding job_at
  ahead_live q a =
      record {
        on_time = every_weaker (Early table start) (λ s. s.end ≤ deadline table s.number) (λ s h. omega (arith, h.1, permitted.windows s.number h.0)) (run table q) a.early;
        each_fits = remaining_every table q _ (λ n m. omega (arith, a.later n m, permitted.windows n ((rest_member table q n).0 m).0));
        all_fit = together (rest_fits_lem (length (rest table q)) q (free (run table q)) refl a.later);
      }
    where
      together : Fits table start q (free (run table q))
          → (remaining table q ≡ []) ⊎ ((j : Job) × Memᴰ j (remaining table q) × (free (run table q) + total (map (λ k. k.cost) (remaining table q)) ≤ j.deadline))
      together (inl none) = inl ((full_rest table q).1 none)
      together (inr r) =
          inr (job_at table r.0, rest_remaining table q r.0 r.1, omega (arith, r.2, remaining_costs table q, permitted.windows r.0 ((rest_member table q r.0).0 r.1).0))

  -- a job left that starts first may follow
  pub next_follows : (q : List ℕ) (k : ℕ) → Next table start q k → MayFollow table q k
  next_follows q k x =
      let out = (rest_member table q k).0 x.left in
      let j = number_known table k out.0 in
      record { job = j.0; of_table = j.1; numbered = j.2; distinct = out.1; linked = λ l m e. run_before l m e (either (has q l.from)) }
    where
      run_before : (l : Link) → Memᴰ (L l) table → l.to ≡ k → (has q l.from ≡ true) ⊎ (has q l.from ≡ false) → Memᴰ l.from q
      run_before l m e (inl h) = (has_member q l.from).0 h
      run_before l m e (inr h) =
          let from = (link_known table sound l m).0 in
          let left = (rest_member table q l.from).1 (from, λ p. true_not_false ((has_member q l.from).1 p) h) in
          absurd (omega (arith, x.first l.from left, permitted.links l.from l.to l.latency m, ap start e, cost_positive table sound l.from from))

  -- and runs no later than it starts
  pub next_start : (q : List ℕ) (k : ℕ) → Ahead table start q → Next table start q k → start_after table (run table q) k ≤ start k
  unfolding start_after
  next_start q k a x =
      omega (arith, a.later k x.left, permitted.windows k ((rest_member table q k).0 x.left).0, links_allow_least table (run table q) k (start k) linked)
    where
      ends : (i : ℕ) → end_in (run table q) i ≤ start i + cost table i
      ends =
          end_in_early (run table q) (λ n. start n + cost table n)
          (every_weaker (Early table start) (λ s. s.end ≤ start s.number + cost table s.number) (λ s h. h.1) (run table q) a.early)

      linked : (l : Link) → Memᴰ (L l) table → l.to ≡ k → end_in (run table q) l.from + l.latency ≤ start k
      linked l m e = omega (arith, ends l.from, permitted.links l.from l.to l.latency m, ap start e)

  -- so that the sequence with it runs no later than the starts
  pub next_ahead : (q : List ℕ) (k : ℕ) → Ahead table start q → Next table start q k → Ahead table start (k ∷ q)
  unfolding run run_next free
  next_ahead q k a x =
      record {
        early = ((((rest_member table q k).0 x.left).0, omega (arith, next_start q k a x)), a.early);
        later = λ n m. omega (arith, next_start q k a x, (next_ended q k x n m).1);
      }

  -- and so on, until no job is left
  pub found_from : (left : ℕ) (q : List ℕ) → length (rest table q) ≡ left → Open table q → Ahead table start q → (p : List ℕ) × Open table p × Full table p
  found_from zero q e o a = (q, o, (full_rest table q).1 (length_none (rest table q) e))
  found_from (suc left) q e o a =
      step (next table start q)
      (λ k x.
      let more = next_ahead q k a x in
      found_from left (k ∷ q) (omega (arith, rest_length table q k x.left)) (open_next table o (next_follows q k x) (ahead_live (k ∷ q) more)) more)
    where
      step : (rest table q ≡ []) ⊎ ((k : ℕ) × Next table start q k) → ((k : ℕ) → Next table start q k → (p : List ℕ) × Open table p × Full table p) → (p : List ℕ) × Open table p × Full table p
      step (inl none) below = (q, o, (full_rest table q).1 none)
      step (inr x) below = below x.0 x.1

  -- where feasible starts exist, so does an open sequence that holds all jobs
  pub feasible_found : (p : List ℕ) × Open table p × Full table p
  unfolding run free
  feasible_found = found_from (length (rest table [])) [] refl (open_start table (ahead_live [] begun)) begun
    where
      begun : Ahead table start []
      begun = record { early = tt; later = λ n m. omega arith }
