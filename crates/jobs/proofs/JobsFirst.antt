-- A job table with its J records first and its L records after them, as the normal form and an expanded table are: its records, and when it is within the limits.
-- Rising job numbers repeat none before them; the other limits are judged record by record.
use Prim.Native.Nat.{ℕ, ◌<◌, ◌≤◌}
use native.Mathlib.Omega.{arith}
use mathlib.Core.Path.{◌≡◌, refl, sym, ap}
use mathlib.Core.Bool.{false, not}
use mathlib.Core.Logic.{◌↔◌, ◌⊎◌, inl, inr}
use mathlib.Core.List.Memᴰ
use mathlib.Core.List.{List, [], ◌∷◌, ◌++◌, map, Memᴰ}
use borrow.Author.Tests.{le-ltb, ne_eqb}
use Rattle.laws.specs.Lists.{any}
use Rattle.laws.proofs.Members.{false_or, every_member, Faultless, first_fault_none, faultless_each, Rising}
use Rattle.records.specs.declared.Job.{Job}
use Rattle.records.specs.declared.Link.{Link}
use Rattle.records.specs.declared.JobRecord.{JobRecord}
use Rattle.records.specs.declared.JobRecord.TheVariants.{J, L}
use Rattle.jobs.specs.Judge.{is_job, bad_number, bad_value, loose_link, fault3, fault4, fault5, Sound}
use Rattle.jobs.proofs.Sound.{job_not_link, job_any}

-- some jobs and then some links, as records
abbrev pub jobs_first : List Job → List Link → List JobRecord
jobs_first js ls = map J js ++ map L ls

module _ (js : List Job) (ls : List Link) where
  -- its J records are the jobs
  pub job_of : (j : Job) → Memᴰ (J j) (jobs_first js ls) ↔ Memᴰ j js
  job_of j = (λ m. there (Memᴰ.append_cases (map J js) m), λ m. Memᴰ.append_left (map L ls) (Memᴰ.map J m))
    where
      there : Memᴰ (J j) (map J js) ⊎ Memᴰ (J j) (map L ls) → Memᴰ j js
      there (inl m) = let r = Memᴰ.of_map J js m in let same : j ≡ r.0 = cc r.2 in Memᴰ.cast same r.1
      there (inr m) = let r = Memᴰ.of_map L ls m in absurd (job_not_link (sym r.2))

  -- its L records are the links
  pub link_of_lem : (l : Link) → Memᴰ (L l) (jobs_first js ls) ↔ Memᴰ l ls
  link_of_lem l = (λ m. there (Memᴰ.append_cases (map J js) m), λ m. Memᴰ.append_right (map J js) (Memᴰ.map L m))
    where
      there : Memᴰ (L l) (map J js) ⊎ Memᴰ (L l) (map L ls) → Memᴰ l ls
      there (inl m) = let r = Memᴰ.of_map J js m in absurd (job_not_link r.2)
      there (inr m) = let r = Memᴰ.of_map L ls m in let same : l ≡ r.0 = cc r.2 in Memᴰ.cast same r.1

-- links give no job number twice
links_faultless : (before : List JobRecord) (ls : List Link) → Faultless bad_number before (map L ls)
links_faultless before [] = tt
links_faultless before (l ∷ ls) = (refl, links_faultless (L l ∷ before) ls)

-- jobs with rising numbers below 48, none of them given before, give none twice
jobs_faultless : (before : List JobRecord) (js : List Job) (ls : List Link) → Rising (map (λ j. j.number) js)
    → ((j : Job) → Memᴰ j js → (j.number < 48) × (any (is_job j.number) before ≡ false)) → Faultless bad_number before (jobs_first js ls)
jobs_faultless before [] ls rising h = links_faultless before ls
jobs_faultless before (j ∷ js) ls rising h =
    let first = h j (Memᴰ.head refl) in
    (false_or (le-ltb 47 j.number (omega arith)) first.1, jobs_faultless (J j ∷ before) js ls rising.1 others)
  where
    others : (k : Job) → Memᴰ k js → (k.number < 48) × (any (is_job k.number) (J j ∷ before) ≡ false)
    others k m =
        let known = h k (Memᴰ.tail m) in
        let above : j.number < k.number = every_member (λ y. j.number < y) rising.0 k.number (Memᴰ.map (λ j. j.number) m) in
        (known.0, false_or (ne_eqb j.number k.number (λ e. omega arith)) known.1)

-- some jobs and then some links are within the limits, if the jobs are, by rising number, and each link joins two different ones of them
pub jobs_first_sound : (js : List Job) (ls : List Link) → Rising (map (λ j. j.number) js)
    → ((j : Job) → Memᴰ j js → (j.number < 48) × (0 < j.cost) × (j.deadline ≤ 48000))
    → ((l : Link) → Memᴰ l ls → (l.from ≡ l.to → ⊥) × (l.latency ≤ 48000))
    → ((l : Link) → Memᴰ l ls → Memᴰ l.from (map (λ j. j.number) js) × Memᴰ l.to (map (λ j. j.number) js))
    → Sound (jobs_first js ls)
unfolding fault3 fault4 fault5
jobs_first_sound js ls rising limits latencies ends =
    record {
      three = (first_fault_none bad_number [] 0 table).1 (jobs_faultless [] js ls rising (λ j m. ((limits j m).0, refl)));
      four = (first_fault_none (λ before r. bad_value r) [] 0 table).1 ((faultless_each bad_value [] table).1 good);
      five = (first_fault_none (λ before r. loose_link table r) [] 0 table).1 ((faultless_each (loose_link table) [] table).1 joined);
    }
  where
    table : List JobRecord
    table = jobs_first js ls

    good : (r : JobRecord) → Memᴰ r table → bad_value r ≡ false
    good (J j) m = let l = limits j ((job_of js ls j).0 m) in false_or (ne_eqb j.cost 0 (λ e. omega arith)) (le-ltb 48000 j.deadline l.2)
    good (L l) m = le-ltb 48000 l.latency (latencies l ((link_of_lem js ls l).0 m)).1

    known : (n : ℕ) → Memᴰ n (map (λ j. j.number) js) → not (any (is_job n) table) ≡ false
    known n m =
        let r = Memᴰ.of_map (λ j. j.number) js m in
        ap not (rw r.2 at (job_any ((job_of js ls r.0).1 r.1)))

    joined : (r : JobRecord) → Memᴰ r table → loose_link table r ≡ false
    joined (J j) m = refl
    joined (L l) m =
        let n = (link_of_lem js ls l).0 m in
        false_or (false_or (ne_eqb l.from l.to (latencies l n).0) (known l.from (ends l n).0)) (known l.to (ends l n).1)
