-- What an accepted pass table expands to is itself a job table within the limits: none of 1 to 5 holds of it. Its jobs are numbered one after another from 0 on, below 48;
-- each has a cost, and a deadline within the cycle; and each link joins two different ones. Assumes nothing.
use Prim.Native.Nat.{ℕ, ◌+◌, ◌%◌, ◌<◌, ◌≤◌}
use native.Mathlib.Omega.{arith}
use mathlib.Core.Path.{◌≡◌, refl, sym, ap, ◌∙◌}
use mathlib.Core.Bool.{true, false}
use mathlib.Core.Logic.{◌⊎◌, inl, inr}
use mathlib.Core.List.{List, [], ◌∷◌, ◌++◌, map, Memᴰ}
use lib.ListN.{length, length-map}
use borrow.Author.Tests.{eq-eqb, ne_eqb, le-ltb}
use Rattle.laws.specs.Lists.{count, any, Every, flat}
use Rattle.laws.proofs.Members.{false_or, member_any, every_member, member_every, count_member, Faultless, first_fault_none, faultless_each}
use Rattle.records.specs.Bytes.{Bytes}
use Rattle.records.specs.Record.{job_bytes, PassFits, JobFits}
use Rattle.records.specs.Table.{bad_length, encode}
use Rattle.records.specs.declared.Pass.{Pass}
use Rattle.records.specs.declared.PassRecord.{PassRecord}
use Rattle.records.specs.declared.PassRecord.TheVariants.{P}
use Rattle.records.specs.declared.Job.{Job}
use Rattle.records.specs.declared.Link.{Link}
use Rattle.records.specs.declared.JobRecord.{JobRecord}
use Rattle.records.specs.declared.JobRecord.TheVariants.{J, L}
use Rattle.records.proofs.Tables.{pass_tables, job_tables}
use Rattle.jobs.specs.Judge.{is_job, bad_number, bad_value, loose_link, fault3, fault4, fault5, Sound}
use Rattle.jobs.specs.Call.{job_table, jobs_number}
use Rattle.passes.specs.Expand.{pass_at, passes_in_order, flows_of, cycle_of, jobs_from, job_count, flow_links, expanded}
use Rattle.passes.specs.Call.{pass_table, passes_number, expanded_bytes}
use Rattle.passes.proofs.Sound.{any_pass, order_member, pass_known}
use Rattle.passes.proofs.Judging.{Within, accepted}
use Rattle.passes.proofs.Instances.{length_jobs}
use Rattle.passes.proofs.Exactly.{job_numbers, job_instance, order_rising, window_within}
use Rattle.passes.proofs.Apart.{link_ends}
use Rattle.passes.proofs.Size.{expanded_size}

-- a pass's cost fits its bytes
cost_fits : (bytes : List ℕ) → Bytes bytes → passes_number bytes 0 ≡ 0 → (p : Pass) → Memᴰ p (passes_in_order (pass_table bytes)) → p.cost < 65536
unfolding pass_table
cost_fits bytes small ok p m =
    let n = order_member (pass_table bytes) p m in
    let own = any_pass (pass_table bytes) n.0 n.2 in
    let fits = every_member PassFits (pass_tables.decode_fits bytes small) (P own.0) own.1 in
    let same : p ≡ own.0 = n.3 ∙ ap (pass_at (pass_table bytes)) (sym own.2) ∙ pass_known (pass_table bytes) (accepted bytes ok).sound own.0 own.1 in
    rw same fits.1

-- no job before has a number from `first` on
abbrev Lower : ℕ → List JobRecord → Type 0
Lower first before = (n : ℕ) → first ≤ n → any (is_job n) before ≡ false

-- jobs numbered one after another, below 48 and behind lower ones, are not at fault by 3, and neither are links
numbered : (js : List Job) (ls : List Link) (first : ℕ) (before : List JobRecord) → map (λ j. j.number) js ≡ count first (length js) → first + length js ≤ 48 → Lower first before
    → Faultless bad_number before (map J js ++ map L ls)
numbered [] [] first before e h lower = tt
numbered [] (l ∷ ls) first before e h lower = (refl, numbered [] ls first (L l ∷ before) e h lower)
numbered (j ∷ js) ls first before e h lower =
    let own : j.number ≡ first = cc in
    let others : map (λ j. j.number) js ≡ count (first + 1) (length js) = cc in (
      false_or (le-ltb 47 j.number (omega arith)) (lower j.number (omega arith)),
      numbered js ls (first + 1) (J j ∷ before) others (omega arith) (λ n high. false_or (ne_eqb j.number n (λ same. omega arith)) (lower n (omega arith))),
    )

module _ (bytes : List ℕ) (ok : passes_number bytes 0 ≡ 0) where
  abbrev table : List PassRecord
  table = pass_table bytes

  abbrev js : List Job
  js = jobs_from (cycle_of table) 0 (passes_in_order table)

  abbrev ls : List Link
  ls = flat (flow_links table (cycle_of table)) (flows_of table)

  within : Within bytes
  within = accepted bytes ok

  -- there are as many jobs as are counted
  many : length js ≡ job_count (cycle_of table) (passes_in_order table)
  many = sym (length-map js J) ∙ length_jobs (cycle_of table) 0 (passes_in_order table)

  -- each number below that is a job's
  has_job : (n : ℕ) → n < job_count (cycle_of table) (passes_in_order table) → any (is_job n) (expanded table) ≡ true
  unfolding expanded
  has_job n h =
      let among : Memᴰ n (map (λ j. j.number) js) = rw (job_numbers (cycle_of table) 0 (passes_in_order table)) ((count_member 0 (job_count (cycle_of table) (passes_in_order table)) n).1 (omega arith)) in
      let r = mathlib.Core.List.Memᴰ.of_map (λ j. j.number) js among in
      member_any (is_job n) (mathlib.Core.List.Memᴰ.append_left (map L ls) (mathlib.Core.List.Memᴰ.map J r.1)) (eq-eqb r.0.number n r.2)

  -- what holds of each job and of each link holds of each record
  each_record : (Good : JobRecord → Type 0) → ((j : Job) → Memᴰ j js → Good (J j)) → ((l : Link) → Memᴰ l ls → Good (L l)) → (r : JobRecord) → Memᴰ r (expanded table) → Good r
  unfolding expanded
  each_record Good job link r m = step (mathlib.Core.List.Memᴰ.append_cases (map J js) m)
    where
      step : Memᴰ r (map J js) ⊎ Memᴰ r (map L ls) → Good r
      step (inl n) = let k = mathlib.Core.List.Memᴰ.of_map J js n in rw (sym k.2) (job k.0 k.1)
      step (inr n) = let k = mathlib.Core.List.Memᴰ.of_map L ls n in rw (sym k.2) (link k.0 k.1)

  -- none of 3, 4 and 5 holds of it
  pub expanded_sound : Sound (expanded table)
  unfolding fault3 fault4 fault5 expanded
  expanded_sound = record {
    three = (first_fault_none bad_number [] 0 (expanded table)).1 (numbered js ls 0 [] (job_numbers (cycle_of table) 0 (passes_in_order table) ∙ ap (count 0) (sym many)) (omega (arith, many, within.jobs)) (λ n h. refl));
    four = (first_fault_none (λ before r. bad_value r) [] 0 (expanded table)).1 ((faultless_each bad_value [] (expanded table)).1 (each_record (λ r. bad_value r ≡ false)
        (λ j m. let w = window_within table within.sound j m in false_or (ne_eqb j.cost 0 (omega arith)) (le-ltb 48000 j.deadline (omega (arith, within.ticks))))
        (λ l m. le-ltb 48000 l.latency (link_ends table within.sound l m).3)));
    five = (first_fault_none (λ before r. loose_link (expanded table) r) [] 0 (expanded table)).1 ((faultless_each (loose_link (expanded table)) [] (expanded table)).1 (each_record (λ r. loose_link (expanded table) r ≡ false)
        (λ j m. refl)
        (λ l m. let e = link_ends table within.sound l m in rw (ne_eqb l.from l.to e.2, has_job l.from e.0, has_job l.to e.1))));
  }

  -- its records' fields fit their bytes, if those that it was read from are bytes
  expanded_fits : Bytes bytes → Every JobFits (expanded table)
  expanded_fits small = member_every JobFits (expanded table) (each_record JobFits job link)
    where
      job : (j : Job) → Memᴰ j js → JobFits (J j)
      job j m =
          let w = window_within table within.sound j m in
          let number = (count_member 0 (job_count (cycle_of table) (passes_in_order table)) j.number).0 (rw (job_numbers (cycle_of table) 0 (passes_in_order table)) at (mathlib.Core.List.Memᴰ.map (λ j. j.number) m)) in
          let own = job_instance (cycle_of table) 0 (passes_in_order table) (order_rising table) j m in
          (omega (arith, within.jobs), omega (arith, own.cost, cost_fits bytes small ok own.pass own.listed), omega (arith, within.ticks), omega (arith, within.ticks))

      link : (l : Link) → Memᴰ l ls → JobFits (L l)
      link l m = let e = link_ends table within.sound l m in (omega (arith, within.jobs), omega (arith, within.jobs), omega arith)

  -- so decoding its bytes gives it back
  pub expanded_decodes : Bytes bytes → job_table (expanded_bytes bytes) ≡ expanded table
  unfolding job_table expanded_bytes
  expanded_decodes small = job_tables.decode_encode (expanded table) (expanded_fits small)

  -- and none of 1 to 5 holds of them: expanding, and then normalising or scheduling, is never refused 1 to 5
  pub expanded_accepted : Bytes bytes → jobs_number (expanded_bytes bytes) 0 ≡ 0
  unfolding jobs_number expanded_bytes bad_length
  expanded_accepted small =
      let size = job_tables.encode_length (expanded table) in
      let few = expanded_size bytes ok in
      let whole : length (encode job_bytes (expanded table)) % 12 ≡ 0 = omega arith in
      rw (
        eq-eqb (length (encode job_bytes (expanded table)) % 12) 0 whole,
        le-ltb 49152 (length (encode job_bytes (expanded table))) (omega arith),
        job_tables.encode_readable (expanded table) (expanded_fits small),
        expanded_decodes small,
        expanded_sound.three,
        expanded_sound.four,
        expanded_sound.five,
      )
