-- The normal form by number, as the search takes it: the arrays that the code makes are those of the normal form's jobs, and each cell of the chosen square is its strongest link.
-- At a number of no job both sides are 0: no gap leads to it, and its last start is 0. A pair has one link in the normal form, which is thereby the strongest.
use Prim.Native.Nat.{ℕ, zero, suc, ◌+◌, ◌-◌, ◌<◌, ◌≤◌}
use native.Mathlib.Omega.{arith}
use mathlib.Core.Path.{◌≡◌, refl, sym, ap, ◌∙◌}
use mathlib.Core.Bool.{Bool, true, false}
use mathlib.Core.Logic.{◌⊎◌, inl, inr}
use mathlib.Core.List.{List, [], map, Memᴰ}
use lib.Dec.{ltb}
use lib.ListN.{get_or}
use borrow.Author.Tests.{ltb-true, ltb-false}
use Rattle.laws.specs.Lists.{count, any}
use Rattle.laws.proofs.Members.{true_not_false, same_test, map_same}
use Rattle.laws.proofs.Rows.{get_d_row}
use Rattle.records.specs.Record.{link}
use Rattle.records.specs.declared.JobRecord.{JobRecord}
use Rattle.jobs.specs.declared.Jobs.{Jobs}
use Rattle.jobs.specs.Judge.{is_job}
use Rattle.jobs.specs.Jobs.{numbers, cost, release, deadline, strongest}
use Rattle.jobs.specs.Arrays.{jobs_of}
use Rattle.jobs.proofs.Sound.{numbers_member, strongest_bounds, strongest_attained}
use Rattle.normal.specs.declared.Windows.{Windows}
use Rattle.normal.specs.Gaps.{Square, cell}
use Rattle.normal.specs.Windows.{earliest_of, latest_of, windows}
use Rattle.normal.specs.Normal.{normal_form}
use Rattle.normal.specs.Arrays.{Holds}
use Rattle.normal.specs.Chosen.{chosen_cell, chosen_row, chosen}
use Rattle.normal.proofs.WindowsEarliest.{gap, earliest, latest, earliest_least}
use Rattle.normal.proofs.WindowsLatest.{latest_last}
use Rattle.normal.proofs.NormalRecords.{Written, normal_link_member}
use Rattle.normal.proofs.NormalSound.{normal_numbers, normal_values}
use Rattle.normal.proofs.NumbersFrom.{cost_of}
use Rattle.normal.proofs.Held.{normalisable, gap_known, known_or_none, no_value}
use Rattle.normal.proofs.ChosenLaws.{chosen_none, chosen_over, chosen_under}
use Rattle.normal.proofs.FormHeld.{below_48, no_last}

module _ {table : List JobRecord} {jobs : Jobs} {square : Square} (held : Holds table jobs square) where
  -- the normal form has a job with a number exactly where the table has
  present_form : (n : ℕ) → n < 48 → any (is_job n) table ≡ any (is_job n) (normal_form table)
  present_form n h =
      same_test (any (is_job n) table) (any (is_job n) (normal_form table)) (
        λ e. ((numbers_member (normal_form table) n).0 (rw (normal_numbers (normalisable held)) ((numbers_member table n).1 (h, e)))).1,
        λ e. ((numbers_member table n).0 (rw (normal_numbers (normalisable held)) at ((numbers_member (normal_form table) n).1 (h, e)))).1,
      )

  -- its costs are the table's, and the windows stand in place of releases and deadlines, also where there is no job
  values_form : (n : ℕ) → n < 48
      → (cost table n ≡ cost (normal_form table) n) × (earliest table n ≡ release (normal_form table) n) × (latest table n + cost table n ≡ deadline (normal_form table) n)
  values_form n h = go (known_or_none table n h)
    where
      go : Memᴰ n (numbers table) ⊎ (any (is_job n) table ≡ false)
          → (cost table n ≡ cost (normal_form table) n) × (earliest table n ≡ release (normal_form table) n) × (latest table n + cost table n ≡ deadline (normal_form table) n)
      go (inl m) = let v = normal_values (normalisable held) n m in (sym v.0, sym v.1, sym v.2)
      go (inr e) =
          let none : any (is_job n) (normal_form table) ≡ false = sym (present_form n h) ∙ e in
          let free = no_value (λ j. j.cost) table n e in
          let first : earliest table n ≤ 0 = earliest_least table n 0 (omega (arith, no_value (λ j. j.release) table n e)) (λ i m p. absurd (true_not_false ((numbers_member table n).0 (gap_known held i n p).1).1 e)) in (
            omega (arith, free, no_value (λ j. j.cost) (normal_form table) n none),
            omega (arith, first, no_value (λ j. j.release) (normal_form table) n none),
            omega (arith, free, latest_last table n, no_last table n e, no_value (λ j. j.deadline) (normal_form table) n none),
          )

  module _ (w : Windows) (same : w ≡ windows table square) where
    -- the windows by number
    earliest_of_lem : (n : ℕ) → n < 48 → get_or w.earliest n 0 ≡ earliest table n
    unfolding windows
    earliest_of_lem n h = ap (λ v. get_or v.earliest n 0) same ∙ get_d_row (earliest_of table square) 48 n 0 h ∙ ap (λ s. earliest_of table s n) held.gaps_held

    latest_of_lem : (n : ℕ) → n < 48 → get_or w.latest n 0 ≡ latest table n
    unfolding windows
    latest_of_lem n h = ap (λ v. get_or v.latest n 0) same ∙ get_d_row (latest_of table square) 48 n 0 h ∙ ap (λ s. latest_of table s n) held.gaps_held

    -- the arrays are those of the normal form's jobs
    pub jobs_given : {ends : List ℕ} → ends ≡ map (λ n. get_or w.latest n 0 + get_or jobs.cost n 0) (count 0 48)
        → ◌≡◌ {A = Jobs} (record { present = jobs.present; cost = jobs.cost; release = w.earliest; deadline = ends }) (jobs_of (normal_form table))
    unfolding jobs_of windows
    jobs_given e = λ i. record { present = presents i; cost = costs i; release = releases i; deadline = (e ∙ deadlines) i }
      where
        presents : jobs.present ≡ (jobs_of (normal_form table)).present
        presents = ap (λ j. j.present) held.jobs_held ∙ map_same _ _ (count 0 48) (λ n m. present_form n (below_48 n m))

        costs : jobs.cost ≡ (jobs_of (normal_form table)).cost
        costs = ap (λ j. j.cost) held.jobs_held ∙ map_same _ _ (count 0 48) (λ n m. (values_form n (below_48 n m)).0)

        releases : w.earliest ≡ (jobs_of (normal_form table)).release
        releases =
            ap (λ v. v.earliest) same
            ∙ map_same _ _ (count 0 48) (λ n m. ap (λ s. earliest_of table s n) held.gaps_held ∙ (values_form n (below_48 n m)).1)

        deadlines : map (λ n. get_or w.latest n 0 + get_or jobs.cost n 0) (count 0 48) ≡ (jobs_of (normal_form table)).deadline
        deadlines =
            map_same (λ n. get_or w.latest n 0 + get_or jobs.cost n 0) (deadline (normal_form table)) (count 0 48)
            (λ n m. omega (arith, latest_of_lem n (below_48 n m), cost_of table held.jobs_held n (below_48 n m), (values_form n (below_48 n m)).2))

    -- a cell of the chosen square
    chosen_at : (i j : ℕ) → i < 48 → j < 48 → cell (chosen jobs w square) i j ≡ chosen_cell (cost table i) (latest table i) (earliest table j) (gap table i j)
    unfolding chosen chosen_row
    chosen_at i j h k =
        ap (λ row. get_or row j 0) (get_d_row (λ i. chosen_row (get_or jobs.cost i 0) (get_or w.latest i 0) w.earliest (get_or square i [])) 48 i [] h)
        ∙ get_d_row (λ j. chosen_cell (get_or jobs.cost i 0) (get_or w.latest i 0) (get_or w.earliest j 0) (cell square i j)) 48 j 0 k
        ∙ rw (cost_of table held.jobs_held i h, latest_of_lem i h, earliest_of_lem j k, held.gaps_held)

  -- a strongest link of the normal form is that of a pair which is written
  strongest_written : (i j l : ℕ) → strongest (normal_form table) i j ≡ suc l → Written table i j × (l ≡ gap table i j - cost table i)
  strongest_written i j l e = let r = (normal_link_member table (link i j l)).0 (strongest_attained (normal_form table) i j l e) in go r.2 r.3
    where
      go : {a b : ℕ} → Written table a b → link i j l ≡ link a b (gap table a b - cost table a) → Written table i j × (l ≡ gap table i j - cost table i)
      go pair same = rw (ap (λ k. k.from) same, ap (λ k. k.to) same) (pair, ap (λ k. k.latency) same)

  -- so there is none where the pair is not written
  strongest_none : (i j : ℕ) → (Written table i j → ⊥) → strongest (normal_form table) i j ≡ 0
  strongest_none i j none = go (strongest (normal_form table) i j) refl
    where
      go : (s : ℕ) → strongest (normal_form table) i j ≡ s → strongest (normal_form table) i j ≡ 0
      go zero e = e
      go (suc l) e = absurd (none (strongest_written i j l e).0)

  -- and the pair's own link where it is
  strongest_some : (i j : ℕ) → Written table i j → strongest (normal_form table) i j ≡ gap table i j - cost table i + 1
  strongest_some i j pair = go (strongest (normal_form table) i j) refl
    where
      bound : gap table i j - cost table i < strongest (normal_form table) i j
      bound = strongest_bounds (normal_form table) i j (gap table i j - cost table i) ((normal_link_member table (link i j (gap table i j - cost table i))).1 (i, j, pair, refl))

      go : (s : ℕ) → strongest (normal_form table) i j ≡ s → strongest (normal_form table) i j ≡ gap table i j - cost table i + 1
      go zero e = absurd (omega (arith, bound))
      go (suc l) e = omega (arith, (strongest_written i j l e).1)

  -- the strongest link between two jobs is what the chosen cell says
  strongest_form : (i j : ℕ) → chosen_cell (cost table i) (latest table i) (earliest table j) (gap table i j) ≡ strongest (normal_form table) i j
  strongest_form i j = go (gap table i j) refl (ltb (earliest table j) (gap table i j + latest table i)) refl
    where
      go : (g : ℕ) → gap table i j ≡ g → (t : Bool) → ltb (earliest table j) (gap table i j + latest table i) ≡ t
          → chosen_cell (cost table i) (latest table i) (earliest table j) (gap table i j) ≡ strongest (normal_form table) i j
      go zero e t over = chosen_none _ _ _ _ e ∙ sym (strongest_none i j (λ pair. omega (arith, pair.chained)))
      go (suc g) e true over =
          let known = gap_known held i j (omega arith) in
          chosen_over _ _ _ _ (λ z. omega arith) (ltb-true _ _ over)
          ∙ sym (strongest_some i j (record { from = known.0; to = known.1; chained = omega arith; over = ltb-true _ _ over }))
      go (suc g) e false over =
          chosen_under _ _ _ _ (λ z. omega arith) (ltb-false _ _ over)
          ∙ sym (strongest_none i j (λ pair. omega (arith, pair.over, ltb-false (earliest table j) (gap table i j + latest table i) over)))

  -- so each cell of the chosen square is the normal form's strongest link
  pub links_given : (w : Windows) → w ≡ windows table square → (i j : ℕ) → i < 48 → j < 48 → cell (chosen jobs w square) i j ≡ strongest (normal_form table) i j
  links_given w same i j h k = chosen_at w same i j h k ∙ strongest_form i j
