-- What the code writes of a table that 3 to 8 do not refuse is its normal form, and it fits: new deadlines and latencies are 16-bit numbers.
-- The code goes through all numbers below 48 where the definition goes through the job numbers; between others than jobs of the table there is no gap, so nothing more is written.
use Prim.Native.Nat.{ℕ, zero, suc, ◌+◌, ◌-◌, ◌<◌, ◌≤◌}
use native.Mathlib.Numerals.{add-one}
use native.Mathlib.Omega.{arith}
use mathlib.Core.Path.{◌≡◌, refl, sym, ap, ap₂, ◌∙◌}
use mathlib.Core.Bool.{Bool, true, false, cond}
use mathlib.Core.Logic.{◌⊎◌, inl, inr}
use mathlib.Core.List.{List, [], ◌∷◌, ◌++◌, map, map-map, Memᴰ}
use lib.Dec.{ltb}
use lib.ListN.{get_or}
use Rattle.laws.specs.Lists.{count, any, keep, only, flat}
use Rattle.laws.proofs.Members.{true_not_false, count_member, keep_same, map_same, flat_same}
use Rattle.laws.proofs.Rows.{get_d_row}
use Rattle.records.specs.Record.{job, link}
use Rattle.records.specs.declared.Link.{Link}
use Rattle.records.specs.declared.JobRecord.{JobRecord}
use Rattle.records.specs.declared.JobRecord.TheVariants.{J, L}
use Rattle.jobs.specs.declared.Jobs.{Jobs}
use Rattle.jobs.specs.Judge.{is_job}
use Rattle.jobs.specs.Jobs.{numbers, cost, job_at, jobs_in_order}
use Rattle.jobs.proofs.Sound.{numbers_member, numbers_below, deadline_limit}
use Rattle.normal.specs.declared.Windows.{Windows}
use Rattle.normal.specs.Gaps.{Square, cell}
use Rattle.normal.specs.Windows.{last_start, latest_of, windows}
use Rattle.normal.specs.Normal.{normal_job, pair_link, normal_links, normal_records, normal_by, normal_form}
use Rattle.normal.specs.Arrays.{Holds}
use Rattle.normal.specs.Chosen.{present_in, job_in, jobs_in, EndsFit, Writable, chosen_cell, chosen_row, chosen, link_of, row_links, links_in}
use Rattle.normal.proofs.WindowsEarliest.{gaps_right, gap, latest, gap_chain, chain_cost, gap_earliest, earliest_ends}
use Rattle.normal.proofs.WindowsLatest.{latest_last, last_ends}
use Rattle.normal.proofs.NumbersFrom.{present_of, cost_of}
use Rattle.normal.proofs.Held.{normalisable, gap_known, known_or_none, no_value}

-- lists of no element add nothing
flat_keep : {A B : Type 0} (p : A → Bool) (f : A → List B) (xs : List A) → ((x : A) → Memᴰ x xs → p x ≡ false → f x ≡ []) → flat f (keep p xs) ≡ flat f xs
flat_keep p f [] h = refl
flat_keep p f (x ∷ xs) h = go (p x) refl (flat_keep p f xs (λ y m. h y (Memᴰ.tail m)))
  where
    go : (t : Bool) → p x ≡ t → flat f (keep p xs) ≡ flat f xs → flat f (only t x ++ keep p xs) ≡ f x ++ flat f xs
    go true e rest = ap (λ r. f x ++ r) rest
    go false e rest = rest ∙ sym (ap (λ r. r ++ flat f xs) (h x (Memᴰ.head refl) e))

-- where each list has no element, there is none
flat_empty : {A B : Type 0} (f : A → List B) (xs : List A) → ((x : A) → Memᴰ x xs → f x ≡ []) → flat f xs ≡ []
flat_empty f [] h = refl
flat_empty f (x ∷ xs) h = ap₂ ◌++◌ (h x (Memᴰ.head refl)) (flat_empty f xs (λ y m. h y (Memᴰ.tail m)))

-- a number of the row from 0 on is below its end
pub below_48 : (n : ℕ) → Memᴰ n (count 0 48) → n < 48
below_48 n m = ((count_member 0 48 n).0 m).1

-- the link that a chosen cell holds is the pair's
link_chosen : (table : List JobRecord) (w : Windows) (i j gap : ℕ) → link_of i j (chosen_cell (cost table i) (get_or w.latest i 0) (get_or w.earliest j 0) gap) ≡ pair_link table w i j gap
unfolding link_of chosen_cell pair_link
link_chosen table w i j zero = refl
link_chosen table w i j (suc gap) = go (ltb (get_or w.earliest j 0) (suc gap + get_or w.latest i 0))
  where
    go : (t : Bool) → link_of i j (cond t (suc gap - cost table i + 1) 0) ≡ only t (link i j (suc gap - cost table i))
    go true = ap (link_of i j) (add-one (suc gap - cost table i))
    go false = refl

pair_none : (table : List JobRecord) (w : Windows) (i j gap : ℕ) → gap ≡ 0 → pair_link table w i j gap ≡ []
unfolding pair_link
pair_none table w i j gap e = rw e

-- the last start of a number of no job is 0
pub no_last : (table : List JobRecord) (n : ℕ) → any (is_job n) table ≡ false → last_start table n ≡ 0
unfolding last_start
no_last table n e = omega (arith, no_value (λ j. j.deadline) table n e)

module _ {table : List JobRecord} {jobs : Jobs} {square : Square} (held : Holds table jobs square) where
  -- the numbers of the jobs are the table's
  present_numbers : present_in jobs ≡ numbers table
  unfolding present_in numbers
  present_numbers = keep_same _ _ (count 0 48) (λ n m. present_of table held.jobs_held n (below_48 n m))

  module _ (w : Windows) where
    -- the jobs that are written are the normal form's
    jobs_form : jobs_in jobs w ≡ map (normal_job w) (jobs_in_order table)
    unfolding jobs_in job_in jobs_in_order job_at normal_job
    jobs_form =
        ap (map (job_in jobs w)) present_numbers
        ∙ map_same (job_in jobs w) (λ n. normal_job w (job_at table n)) (numbers table)
        (λ n m. ap (λ c. job n c (get_or w.earliest n 0) (get_or w.latest n 0 + c)) (cost_of table held.jobs_held n (numbers_below table n m)))
        ∙ sym (map-map (normal_job w) (job_at table) (numbers table))

    -- no gap leads from or to a number of no job
    gap_none : (i j : ℕ) → (0 < gap table i j → ⊥) → cell square i j ≡ 0
    gap_none i j h = ap (λ s. cell s i j) held.gaps_held ∙ go (gap table i j) refl
      where
        go : (g : ℕ) → gap table i j ≡ g → gap table i j ≡ 0
        go zero e = e
        go (suc g) e = absurd (h (omega arith))

    from_none : (i j : ℕ) → any (is_job i) table ≡ false → cell square i j ≡ 0
    from_none i j e = gap_none i j (λ p. true_not_false ((numbers_member table i).0 (gap_known held i j p).0).1 e)

    to_none : (i j : ℕ) → any (is_job j) table ≡ false → cell square i j ≡ 0
    to_none i j e = gap_none i j (λ p. true_not_false ((numbers_member table j).0 (gap_known held i j p).1).1 e)

    -- the links of the pairs from a job, through all numbers
    pairs : ℕ → List ℕ → List Link
    pairs i js = flat (λ j. pair_link table w i j (cell square i j)) js

    pairs_row : (i : ℕ) → pairs i (numbers table) ≡ pairs i (count 0 48)
    unfolding pairs numbers
    pairs_row i = flat_keep (λ n. any (is_job n) table) (λ j. pair_link table w i j (cell square i j)) (count 0 48) (λ j m e. pair_none table w i j (cell square i j) (to_none i j e))

    -- the links that a chosen row holds are those
    row_form : (i : ℕ) → i < 48 → row_links (chosen jobs w square) i ≡ pairs i (count 0 48)
    unfolding row_links chosen chosen_row pairs
    row_form i h = flat_same _ _ (count 0 48) (λ j m.
        ap (λ row. link_of i j (get_or row j 0)) (get_d_row (λ i. chosen_row (get_or jobs.cost i 0) (get_or w.latest i 0) w.earliest (get_or square i [])) 48 i [] h)
        ∙ ap (link_of i j) (get_d_row (λ j. chosen_cell (get_or jobs.cost i 0) (get_or w.latest i 0) (get_or w.earliest j 0) (cell square i j)) 48 j 0 (below_48 j m))
        ∙ ap (λ c. link_of i j (chosen_cell c (get_or w.latest i 0) (get_or w.earliest j 0) (cell square i j))) (cost_of table held.jobs_held i h)
        ∙ link_chosen table w i j (cell square i j))

    -- the links that are written are the normal form's
    links_form : links_in (chosen jobs w square) ≡ normal_links table square w
    unfolding links_in normal_links pairs numbers
    links_form =
        flat_same (row_links (chosen jobs w square)) (λ i. pairs i (numbers table)) (count 0 48) (λ i m. row_form i (below_48 i m) ∙ sym (pairs_row i))
        ∙ sym (flat_keep (λ n. any (is_job n) table) (λ i. pairs i (numbers table)) (count 0 48)
        (λ i m e. flat_empty (λ j. pair_link table w i j (cell square i j)) (numbers table) (λ j m. pair_none table w i j (cell square i j) (from_none i j e))))

    -- so the records are
    pub form_held : w ≡ windows table square → map J (jobs_in jobs w) ++ map L (links_in (chosen jobs w square)) ≡ normal_form table
    unfolding normal_records normal_by normal_form
    form_held e =
        ap₂ (λ js ls. map J js ++ map L ls) jobs_form links_form
        ∙ ap (normal_records table square) e
        ∙ ap (λ s. normal_records table s (windows table s)) held.gaps_held

    -- and they fit: the new deadlines
    pub ends_fit : w ≡ windows table square → EndsFit jobs w
    unfolding windows
    ends_fit e n h =
        let found : get_or w.latest n 0 ≡ latest table n = ap (λ v. get_or v.latest n 0) e ∙ get_d_row (latest_of table square) 48 n 0 h ∙ ap (λ s. latest_of table s n) held.gaps_held in
        omega (arith, cost_of table held.jobs_held n h, ends (known_or_none table n h))
      where
        ends : Memᴰ n (numbers table) ⊎ (any (is_job n) table ≡ false) → latest table n + cost table n ≤ 48000
        ends (inl m) = omega (arith, latest_last table n, last_ends (normalisable held) n m, deadline_limit table held.sound n m)
        ends (inr none) = omega (arith, latest_last table n, no_last table n none, no_value (λ j. j.cost) table n none)

  -- and the latencies
  pub writable : (i j : ℕ) → Writable (get_or jobs.cost i 0) (cell square i j)
  writable i j = rw held.gaps_held (go (gap table i j) refl)
    where
      go : (g : ℕ) → gap table i j ≡ g → Writable (get_or jobs.cost i 0) (gap table i j)
      go zero e = (omega arith, λ p. absurd (omega arith))
      go (suc g) e =
          let positive : 0 < gap table i j = omega arith in
          let known = gap_known held i j positive in
          let chain = gap_chain (gaps_right (normalisable held)) i j positive in (
            omega (arith, gap_earliest table i j known.0 positive, earliest_ends (normalisable held) j known.1, deadline_limit table held.sound j known.1),
            λ p. omega (arith, chain_cost held.sound chain, cost_of table held.jobs_held i (numbers_below table i known.0)),
          )
