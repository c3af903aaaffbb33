-- Laws of a job table that 3, 4 and 5 do not refuse: its job numbers are those of its J records, each given once, so that what is looked up by number is what
-- the job's own record says; its costs, deadlines and latencies are within the limits; its links join two different jobs of the table; and its strongest links are its links.
-- No first record at fault means that no record is; the rest is by induction on the table.
use Prim.Native.Nat.{ℕ, suc, ◌+◌, ◌<◌, ◌≤◌, max}
use native.Mathlib.Omega.{arith}
use mathlib.Core.Path.{◌≡◌, refl, sym, ap, ◌∙◌}
use mathlib.Core.Bool.{Bool, true, false, cond, not, ◌&&◌, ◌||◌, and-eq-true_iff}
use mathlib.Core.Logic.{◌↔◌, ◌⊎◌, inl, inr}
use mathlib.Core.List.Memᴰ
use mathlib.Core.List.{List, [], ◌∷◌, Memᴰ}
use borrow.Author.Tests.{eqb-true, eqb-false, ltb-false, eq-eqb, not-false, ltb-true}
use lib.Dec.{eqb, ltb}
use Rattle.laws.specs.Lists.{count, any}
use Rattle.laws.proofs.Members.{true_not_false, or_false, every_member, member_every, member_any, any_member, keep_member, keep_same, same_test, count_member, Faultless, first_fault_none, faultless_each, Rising, count_rising, keep_rising}
use Rattle.records.specs.Record.{link}
use Rattle.records.specs.declared.Job.{Job}
use Rattle.records.specs.declared.Link.{Link}
use Rattle.records.specs.declared.JobRecord.{JobRecord}
use Rattle.records.specs.declared.JobRecord.TheVariants.{J, L}
use Rattle.jobs.specs.Judge.{is_job, bad_number, bad_value, loose_link, fault3, fault4, fault5, Sound}
use Rattle.jobs.specs.Jobs.{numbers, of_job, cost, release, deadline, strongest}
use Rattle.jobs.specs.Starts.{Meets, Permitted, HasCost}

-- a J record is not an L record
pub job_not_link : {j : Job} {l : Link} → J j ≡ L l → ⊥
job_not_link e = let z : ◌≡◌ {A = ℕ} 0 1 = cc in omega arith

-- the job numbers are those below 48 that a J record has
pub numbers_member : (table : List JobRecord) (n : ℕ) → Memᴰ n (numbers table) ↔ ((n < 48) × (any (is_job n) table ≡ true))
unfolding numbers
numbers_member table n = (
  λ m. let r = (keep_member (λ n. any (is_job n) table) (count 0 48) n).0 m in let b = (count_member 0 48 n).0 r.0 in (omega arith, r.1),
  λ h. (keep_member (λ n. any (is_job n) table) (count 0 48) n).1 ((count_member 0 48 n).1 (omega arith), h.1),
)

-- the job numbers rise
pub numbers_rising : (table : List JobRecord) → Rising (numbers table)
unfolding numbers
numbers_rising table = keep_rising (λ n. any (is_job n) table) (count 0 48) (count_rising 0 48)

-- each job number is below 48
pub numbers_below : (table : List JobRecord) (n : ℕ) → Memᴰ n (numbers table) → n < 48
numbers_below table n m = ((numbers_member table n).0 m).0

-- tables with the same job numbers list the same
pub numbers_same : (t u : List JobRecord) → ((n : ℕ) → Memᴰ n (numbers t) ↔ Memᴰ n (numbers u)) → numbers t ≡ numbers u
unfolding numbers
numbers_same t u h = keep_same (λ n. any (is_job n) t) (λ n. any (is_job n) u) (count 0 48) (λ n m. same_test _ _ (there n m, back n m))
  where
    there : (n : ℕ) → Memᴰ n (count 0 48) → any (is_job n) t ≡ true → any (is_job n) u ≡ true
    there n m e = let b = (count_member 0 48 n).0 m in ((numbers_member u n).0 ((h n).0 ((numbers_member t n).1 (omega arith, e)))).1

    back : (n : ℕ) → Memᴰ n (count 0 48) → any (is_job n) u ≡ true → any (is_job n) t ≡ true
    back n m e = let b = (count_member 0 48 n).0 m in ((numbers_member t n).0 ((h n).1 ((numbers_member u n).1 (omega arith, e)))).1

-- a record that is the job with a number is a J record with that number
pub is_job_lem : (n : ℕ) (r : JobRecord) → is_job n r ≡ true → (j : Job) × (r ≡ J j) × (j.number ≡ n)
is_job_lem n (J j) h = (j, refl, eqb-true j.number n h)
is_job_lem n (L l) h = absurd (true_not_false h refl)

-- where some record is the job with a number, there is a J record with it
pub any_job : (table : List JobRecord) (n : ℕ) → any (is_job n) table ≡ true → (j : Job) × Memᴰ (J j) table × (j.number ≡ n)
any_job table n h =
    let r = any_member (is_job n) table h in
    let k = is_job_lem n r.0 r.2 in
    (k.0, rw k.1 at r.1, k.2)

-- a job number is that of a J record
pub number_known : (table : List JobRecord) (n : ℕ) → Memᴰ n (numbers table) → (j : Job) × Memᴰ (J j) table × (j.number ≡ n)
number_known table n m = any_job table n ((numbers_member table n).0 m).1

-- a J record is the job with its number
pub job_any : {table : List JobRecord} {j : Job} → Memᴰ (J j) table → any (is_job j.number) table ≡ true
job_any {table} {j} m = member_any (is_job j.number) m (eq-eqb j.number j.number refl)

-- where no record is at fault by 3, a J record's number is below 48 and that of no record before it
pub fresh : (before table : List JobRecord) → Faultless bad_number before table → (j : Job) → Memᴰ (J j) table → (j.number < 48) × (any (is_job j.number) before ≡ false)
fresh before [] h j m = absurd (Memᴰ.not-nil m)
fresh before (r ∷ table) h j m = step (Memᴰ.cases_cons m) (fresh (r ∷ before) table h.1 j)
  where
    step : (J j ≡ r) ⊎ Memᴰ (J j) table → (Memᴰ (J j) table → (j.number < 48) × (any (is_job j.number) (r ∷ before) ≡ false)) → (j.number < 48) × (any (is_job j.number) before ≡ false)
    step (inl e) below =
        let good : bad_number before (J j) ≡ false = ap (bad_number before) e ∙ h.0 in
        let both = or_false (ltb 47 j.number) (any (is_job j.number) before) good in
        (omega (arith, ltb-false 47 j.number both.0), both.1)
    step (inr m) below = let b = below m in (b.0, (or_false (is_job j.number r) (any (is_job j.number) before) b.1).1)

-- so what is looked up by a J record's number is what that record says
looked_up : (value : Job → ℕ) (before table : List JobRecord) → Faultless bad_number before table → (j : Job) → Memᴰ (J j) table → of_job value table j.number ≡ value j
unfolding of_job
looked_up value before [] h j m = absurd (Memᴰ.not-nil m)
looked_up value before (J k ∷ table) h j m = step (Memᴰ.cases_cons m) (looked_up value (J k ∷ before) table h.1 j)
  where
    step : (J j ≡ J k) ⊎ Memᴰ (J j) table → (Memᴰ (J j) table → of_job value table j.number ≡ value j) → cond (eqb k.number j.number) (value k) (of_job value table j.number) ≡ value j
    step (inl e) below = let same : j ≡ k = cc in rw (same, eq-eqb k.number k.number refl)
    step (inr m) below =
        let other : eqb k.number j.number ≡ false = (or_false (is_job j.number (J k)) (any (is_job j.number) before) (fresh (J k ∷ before) table h.1 j m).1).0 in
        rw other (below m)
looked_up value before (L l ∷ table) h j m = step (Memᴰ.cases_cons m) (looked_up value (L l ∷ before) table h.1 j)
  where
    step : (J j ≡ L l) ⊎ Memᴰ (J j) table → (Memᴰ (J j) table → of_job value table j.number ≡ value j) → of_job value table j.number ≡ value j
    step (inl e) below = absurd (job_not_link e)
    step (inr m) below = below m

module _ (table : List JobRecord) (sound : Sound table) where
  -- none of its records is at fault by 3, by 4 and by 5
  faultless_three : Faultless bad_number [] table
  unfolding fault3
  faultless_three = (first_fault_none bad_number [] 0 table).0 sound.three

  faultless_four : (r : JobRecord) → Memᴰ r table → bad_value r ≡ false
  unfolding fault4
  faultless_four = (faultless_each bad_value [] table).0 ((first_fault_none (λ before r. bad_value r) [] 0 table).0 sound.four)

  faultless_five : (r : JobRecord) → Memᴰ r table → loose_link table r ≡ false
  unfolding fault5
  faultless_five = (faultless_each (loose_link table) [] table).0 ((first_fault_none (λ before r. loose_link table r) [] 0 table).0 sound.five)

  -- what is looked up by a job's number is what its own record says
  pub job_value : (value : Job → ℕ) (j : Job) → Memᴰ (J j) table → of_job value table j.number ≡ value j
  job_value value = looked_up value [] table faultless_three

  -- a job's number is among the job numbers, and its cost, release and deadline are those of its number
  pub job_known : (j : Job) → Memᴰ (J j) table
      → Memᴰ j.number (numbers table) × (cost table j.number ≡ j.cost) × (release table j.number ≡ j.release) × (deadline table j.number ≡ j.deadline)
  job_known j m = (
    (numbers_member table j.number).1 ((fresh [] table faultless_three j m).0, job_any m),
    job_value (λ j. j.cost) j m,
    job_value (λ j. j.release) j m,
    job_value (λ j. j.deadline) j m,
  )

  -- a job's number, cost and deadline are within the limits
  pub job_limits : (j : Job) → Memᴰ (J j) table → (j.number < 48) × (0 < j.cost) × (j.deadline ≤ 48000)
  job_limits j m =
      let both = or_false (eqb j.cost 0) (ltb 48000 j.deadline) (faultless_four (J j) m) in
      let some-cost : j.cost ≡ 0 → ⊥ = eqb-false j.cost 0 both.0 in
      ((fresh [] table faultless_three j m).0, omega arith, ltb-false 48000 j.deadline both.1)

  -- the cost of a job number is above 0
  pub cost_positive : (n : ℕ) → Memᴰ n (numbers table) → 0 < cost table n
  cost_positive n m = let r = number_known table n m in rw (← r.2, job_value (λ j. j.cost) r.0 r.1) (job_limits r.0 r.1).1

  -- the deadline of a job number is at most 48000
  pub deadline_limit : (n : ℕ) → Memᴰ n (numbers table) → deadline table n ≤ 48000
  deadline_limit n m = let r = number_known table n m in rw (← r.2, job_value (λ j. j.deadline) r.0 r.1) (job_limits r.0 r.1).2

  -- the table holds a job with a number and a cost exactly when that number has that cost
  pub cost_by_number : (n c : ℕ) → HasCost table n c ↔ (Memᴰ n (numbers table) × (cost table n ≡ c))
  cost_by_number n c = (there, back)
    where
      there : HasCost table n c → Memᴰ n (numbers table) × (cost table n ≡ c)
      there r = let k = job_known r.0 r.1 in rw (← r.2, ← r.3) (k.0, k.1)

      back : Memᴰ n (numbers table) × (cost table n ≡ c) → HasCost table n c
      back h = let r = number_known table n h.0 in (r.0, r.1, r.2, sym (job_value (λ j. j.cost) r.0 r.1) ∙ ap (cost table) r.2 ∙ h.1)

  -- a link joins two different jobs of the table, with a latency within the limit
  pub link_known : (l : Link) → Memᴰ (L l) table
      → Memᴰ l.from (numbers table) × Memᴰ l.to (numbers table) × (l.from ≡ l.to → ⊥) × (l.latency ≤ 48000)
  link_known l m =
      let ends = or_false (eqb l.from l.to || not (any (is_job l.from) table)) (not (any (is_job l.to) table)) (faultless_five (L l) m) in
      let loop = or_false (eqb l.from l.to) (not (any (is_job l.from) table)) ends.0 in
      (number l.from (not-false _ loop.1), number l.to (not-false _ ends.1), eqb-false l.from l.to loop.0, ltb-false 48000 l.latency (faultless_four (L l) m))
    where
      number : (n : ℕ) → any (is_job n) table ≡ true → Memᴰ n (numbers table)
      number n h = let r = any_job table n h in (numbers_member table n).1 (rw r.2 at (job_limits r.0 r.1).0, h)

-- each link's latency is below what `strongest` holds, which is one more than the largest
pub strongest_bounds : (table : List JobRecord) (i j l : ℕ) → Memᴰ (L (link i j l)) table → l < strongest table i j
unfolding strongest
strongest_bounds [] i j l m = absurd (Memᴰ.not-nil m)
strongest_bounds (J k ∷ table) i j l m = step (Memᴰ.cases_cons m) (strongest_bounds table i j l)
  where
    step : (L (link i j l) ≡ J k) ⊎ Memᴰ (L (link i j l)) table → (Memᴰ (L (link i j l)) table → l < strongest table i j) → l < strongest table i j
    step (inl e) below = absurd (job_not_link (sym e))
    step (inr m) below = below m
strongest_bounds (L k ∷ table) i j l m = step (Memᴰ.cases_cons m) (strongest_bounds table i j l)
  where
    step : (L (link i j l) ≡ L k) ⊎ Memᴰ (L (link i j l)) table → (Memᴰ (L (link i j l)) table → l < strongest table i j)
        → l < max (cond (eqb k.from i && eqb k.to j) (k.latency + 1) 0) (strongest table i j)
    step (inl e) below = let same : link i j l ≡ k = cc in rw (← same, eq-eqb i i refl, eq-eqb j j refl) (omega arith)
    step (inr m) below = let b = below m in omega arith

-- what `strongest` holds, where it is above 0, is one more than the latency of a link
pub strongest_attained : (table : List JobRecord) (i j l : ℕ) → strongest table i j ≡ suc l → Memᴰ (L (link i j l)) table
unfolding strongest
strongest_attained [] i j l e = absurd (omega arith)
strongest_attained (J k ∷ table) i j l e = Memᴰ.tail (strongest_attained table i j l e)
strongest_attained (L k ∷ table) i j l e = step (eqb k.from i && eqb k.to j) refl e (strongest_attained table i j l)
  where
    here : (t : Bool) → ltb (strongest table i j) (k.latency + 1) ≡ t → (eqb k.from i && eqb k.to j) ≡ true → max (k.latency + 1) (strongest table i j) ≡ suc l
        → (strongest table i j ≡ suc l → Memᴰ (L (link i j l)) table) → Memᴰ (L (link i j l)) (L k ∷ table)
    here true lt ends e below =
        let both = (and-eq-true_iff (eqb k.from i) (eqb k.to j)).0 ends in
        let a : k.from ≡ i = eqb-true k.from i both.0 in
        let b : k.to ≡ j = eqb-true k.to j both.1 in
        let c : k.latency ≡ l = omega (arith, ltb-true (strongest table i j) (k.latency + 1) lt) in
        Memᴰ.head {x = L k} (rw (← a, ← b, ← c))
    here false lt ends e below = Memᴰ.tail (below (omega (arith, ltb-false (strongest table i j) (k.latency + 1) lt)))

    step : (t : Bool) → (eqb k.from i && eqb k.to j) ≡ t → max (cond t (k.latency + 1) 0) (strongest table i j) ≡ suc l
        → (strongest table i j ≡ suc l → Memᴰ (L (link i j l)) table) → Memᴰ (L (link i j l)) (L k ∷ table)
    step true ends e below = here (ltb (strongest table i j) (k.latency + 1)) refl ends e below
    step false ends e below = Memᴰ.tail (below (omega arith))

-- start times are permitted, said by number: each job number's start lies in its window, and each link is kept
pub record PermittedByNumber (table : List JobRecord) (start : ℕ → ℕ) : Type 0 where
  pub windows : (n : ℕ) → Memᴰ n (numbers table) → (release table n ≤ start n) × (start n + cost table n ≤ deadline table n)
  pub links : (i j l : ℕ) → Memᴰ (L (link i j l)) table → start i + cost table i + l ≤ start j

-- the two ways to say that start times are permitted are the same
pub permitted_by_number : (table : List JobRecord) → Sound table → (start : ℕ → ℕ) → Permitted table start ↔ PermittedByNumber table start
unfolding Permitted
permitted_by_number table sound start = (
  λ h. record {
    windows = λ n m. let r = number_known table n m in let k = job_known table sound r.0 r.1 in
        let w = every_member (Meets table start) h (J r.0) r.1 in rw (← r.2, k.1, k.2, k.3) w;
    links = λ i j l m. every_member (Meets table start) h (L (link i j l)) m;
  },
  λ h. member_every (Meets table start) table (meets h),
)
  where
    meets : PermittedByNumber table start → (r : JobRecord) → Memᴰ r table → Meets table start r
    meets h (J j) m = let k = job_known table sound j m in rw (← k.1, ← k.2, ← k.3) (h.windows j.number k.0)
    meets h (L l) m = h.links l.from l.to l.latency m
