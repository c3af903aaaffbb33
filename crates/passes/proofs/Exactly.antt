-- The jobs and links of a table in plain words. A job is an instance of a pass, numbered by the jobs before it; its window lies within the cycle;
-- and there is a link exactly where an instance of a flow's source and one of its target start their periods together.
-- Both are read off the definitions: a job stands among those of its pass, behind those of the passes of lower number, as the passes rise in number.
use Prim.Native.Nat.{ℕ, zero, suc, ◌+◌, ◌-◌, ◌*◌, ◌/◌, ◌<◌, ◌≤◌}
use native.Mathlib.Nat.{zero-add, add-zero, div-mul-le_self, mul-le-mul_right, le_of_lt, le_refl}
use native.Mathlib.Omega.{arith}
use mathlib.Core.Path.{◌≡◌, refl, sym, ap, ap₂, ◌∙◌}
use mathlib.Core.Bool.{cond}
use mathlib.Core.Logic.{◌↔◌, ◌⊎◌, inl, inr}
use mathlib.Core.List.Memᴰ
use mathlib.Core.List.{List, [], ◌∷◌, ◌++◌, map, map-append, Memᴰ}
use lib.Dec.{eqb, ltb}
use borrow.Author.Tests.{eqb-true, eq-eqb, lt-ltb, le-ltb}
use Rattle.laws.specs.Lists.{count, flat, Every, any, keep}
use Rattle.laws.proofs.Members.{every_member, count_member, flat_member, only_member, Rising, count_rising, keep_rising}
use Rattle.records.specs.Record.{link}
use Rattle.records.specs.declared.Pass.{Pass}
use Rattle.records.specs.declared.Flow.{Flow}
use Rattle.records.specs.declared.Job.{Job}
use Rattle.records.specs.declared.Link.{Link}
use Rattle.records.specs.declared.PassRecord.{PassRecord}
use Rattle.passes.specs.Judge.{is_pass}
use Rattle.passes.specs.Expand.{pass_at, passes_in_order, flows_of, cycle_of, instances, instance_of, jobs_from, job_count, first_job, pair_links, links_between, flow_links}
use Rattle.passes.proofs.Sound.{Sound, order_limits}
use Rattle.passes.proofs.Instances.{periods}

-- numbers in a row, and those after them
count_append : (m k n : ℕ) → count m (k + n) ≡ count m k ++ count (m + k) n
count_append m zero n = rw (zero-add, add-zero)
count_append m (suc k) n =
    let more : suc k + n ≡ suc (k + n) = omega arith in
    let on : m + 1 + k ≡ m + suc k = omega arith in
    rw more (ap (λ ks. m ∷ ks) (count_append (m + 1) k n ∙ ap (λ a. count (m + 1) k ++ count a n) on))

-- the numbers of the jobs of a pass
numbers_of : (p : Pass) (first n : ℕ) → map (λ j. j.number) (map (instance_of p first) (count 1 n)) ≡ count first n
unfolding instance_of
numbers_of p first n = go 0 n ∙ ap (λ m. count m n) (add-zero first)
  where
    go : (s n : ℕ) → map (λ j. j.number) (map (instance_of p first) (count (s + 1) n)) ≡ count (first + s) n
    go s zero = refl
    go s (suc n) =
        let here : first + (s + 1 - 1) ≡ first + s = omega arith in
        let on : first + (s + 1) ≡ first + s + 1 = omega arith in
        ap₂ ◌∷◌ here (go (s + 1) n ∙ ap (λ m. count m n) on)

-- "Jobs are numbered from 0": one after another
pub job_numbers : (cycle first : ℕ) (ps : List Pass) → map (λ j. j.number) (jobs_from cycle first ps) ≡ count first (job_count cycle ps)
unfolding jobs_from job_count
job_numbers cycle first [] = refl
job_numbers cycle first (p ∷ ps) =
    map-append (λ j. j.number) (map (instance_of p first) (count 1 (instances cycle p))) (jobs_from cycle (first + instances cycle p) ps)
    ∙ ap₂ ◌++◌ (numbers_of p first (instances cycle p)) (job_numbers cycle (first + instances cycle p) ps)
    ∙ sym (count_append first (instances cycle p) (job_count cycle ps))

-- "Instance k, from 1, has release (k-1)·T + phase, deadline release + finish within, and the pass's cost": a job of the passes listed is such an instance,
-- numbered behind the jobs of the passes of lower number
pub record InstanceOf (cycle : ℕ) (ps : List Pass) (first : ℕ) (j : Job) : Type 0 where
  pub pass : Pass
  pub listed : Memᴰ pass ps
  pub k : ℕ
  pub from_one : 1 ≤ k
  pub to_last : k ≤ cycle / pass.period
  pub number : j.number ≡ first + first_job cycle ps pass.number + (k - 1)
  pub cost : j.cost ≡ pass.cost
  pub release : j.release ≡ (k - 1) * pass.period + pass.phase
  pub deadline : j.deadline ≡ j.release + pass.within

-- the passes listed rise in number
abbrev RisingPasses : List Pass → Type 0
RisingPasses [] = Unit {0}
RisingPasses (p ∷ ps) = Every (λ q. p.number < q.number) ps × RisingPasses ps

-- passes of no lower number do not count
none_lower : (cycle n : ℕ) (ps : List Pass) → Every (λ q. n < q.number) ps → first_job cycle ps n ≡ 0
unfolding first_job
none_lower cycle n [] h = refl
none_lower cycle n (p ∷ ps) h = rw (le-ltb p.number n (le_of_lt h.0)) (omega (arith, none_lower cycle n ps h.1))

-- each job of passes that rise in number is an instance of one of them
pub job_instance : (cycle first : ℕ) (ps : List Pass) → RisingPasses ps → (j : Job) → Memᴰ j (jobs_from cycle first ps) → InstanceOf cycle ps first j
unfolding jobs_from instance_of first_job instances
job_instance cycle first [] rising j m = absurd (Memᴰ.not-nil m)
job_instance cycle first (p ∷ ps) rising j m = step (Memᴰ.append_cases (map (instance_of p first) (count 1 (instances cycle p))) m) (job_instance cycle (first + instances cycle p) ps rising.1 j)
  where
    step : Memᴰ j (map (instance_of p first) (count 1 (instances cycle p))) ⊎ Memᴰ j (jobs_from cycle (first + instances cycle p) ps)
        → (Memᴰ j (jobs_from cycle (first + instances cycle p) ps) → InstanceOf cycle ps (first + instances cycle p) j) → InstanceOf cycle (p ∷ ps) first j
    step (inl n) below =
        let r = Memᴰ.of_map (instance_of p first) (count 1 (instances cycle p)) n in
        let b = (count_member 1 (instances cycle p) r.0).0 r.1 in
        let own = none_lower cycle p.number ps rising.0 in
        rw (sym r.2) (record {
          pass = p;
          listed = Memᴰ.head refl;
          k = r.0;
          from_one = b.0;
          to_last = omega arith;
          number = rw (le-ltb p.number p.number (le_refl p.number)) (omega arith);
          cost = refl;
          release = refl;
          deadline = refl;
        })
    step (inr n) below =
        let r = below n in
        let behind = every_member (λ q. p.number < q.number) rising.0 r.pass r.listed in
        record {
          pass = r.pass;
          listed = Memᴰ.tail r.listed;
          k = r.k;
          from_one = r.from_one;
          to_last = r.to_last;
          number = rw (lt-ltb p.number r.pass.number behind) (omega (arith, r.number));
          cost = r.cost;
          release = r.release;
          deadline = r.deadline;
        }

-- and each instance of a pass listed is a job
pub instance_job : (cycle first : ℕ) (ps : List Pass) → RisingPasses ps → (p : Pass) → Memᴰ p ps → (k : ℕ) → 1 ≤ k → k ≤ cycle / p.period
    → Memᴰ (instance_of p (first + first_job cycle ps p.number) k) (jobs_from cycle first ps)
unfolding jobs_from first_job instances
instance_job cycle first [] rising p m k low high = absurd (Memᴰ.not-nil m)
instance_job cycle first (q ∷ ps) rising p m k low high = step (Memᴰ.cases_cons m) (instance_job cycle (first + instances cycle q) ps rising.1 p)
  where
    step : (p ≡ q) ⊎ Memᴰ p ps
        → (Memᴰ p ps → (k : ℕ) → 1 ≤ k → k ≤ cycle / p.period → Memᴰ (instance_of p (first + instances cycle q + first_job cycle ps p.number) k) (jobs_from cycle (first + instances cycle q) ps))
        → Memᴰ (instance_of p (first + first_job cycle (q ∷ ps) p.number) k) (jobs_from cycle first (q ∷ ps))
    step (inl e) below =
        let own : first + (cond (ltb q.number q.number) (instances cycle q) 0 + first_job cycle ps q.number) ≡ first =
        rw (le-ltb q.number q.number (le_refl q.number)) (omega (arith, none_lower cycle q.number ps rising.0)) in
        let last : k ≤ cycle / q.period = rw (sym (ap (λ p. p.period) e)) high in
        rw (e, own) (Memᴰ.append_left (jobs_from cycle (first + instances cycle q) ps) (Memᴰ.map (instance_of q first) ((count_member 1 (instances cycle q) k).1 (low, omega arith))))
    step (inr n) below =
        let behind = every_member (λ r. q.number < r.number) rising.0 p n in
        let on : first + (cond (ltb q.number p.number) (instances cycle q) 0 + first_job cycle ps p.number) ≡ first + instances cycle q + first_job cycle ps p.number =
        rw (lt-ltb q.number p.number behind) (omega arith) in
        rw on (Memᴰ.append_right (map (instance_of q first) (count 1 (instances cycle q))) (below n k low high))

-- the passes of a table rise in number
pub order_rising : (table : List PassRecord) → RisingPasses (passes_in_order table)
unfolding passes_in_order pass_at
order_rising table = go (keep (λ n. any (is_pass n) table) (count 0 24)) (keep_rising (λ n. any (is_pass n) table) (count 0 24) (count_rising 0 24))
  where
    over : (n : ℕ) (ns : List ℕ) → Every (λ m. n < m) ns → Every (λ q. n < q.number) (map (pass_at table) ns)
    over n [] h = tt
    over n (m ∷ ns) h = (h.0, over n ns h.1)

    go : (ns : List ℕ) → Rising ns → RisingPasses (map (pass_at table) ns)
    go [] h = tt
    go (n ∷ ns) h = (over n ns h.0, go ns h.1)

-- a job's window lies within the cycle
pub window_within : (table : List PassRecord) → Sound table → (j : Job) → Memᴰ j (jobs_from (cycle_of table) 0 (passes_in_order table))
    → (0 < j.cost) × (j.release ≤ j.deadline) × (j.deadline ≤ cycle_of table)
window_within table sound j m =
    let r = job_instance (cycle_of table) 0 (passes_in_order table) (order_rising table) j m in
    let limits = order_limits table sound r.pass r.listed in
    let t = r.pass.period in (
      omega (arith, r.cost, limits.0),
      omega (arith, r.deadline),
      omega (arith, r.release, r.deadline, limits.1.1, periods r.k t r.from_one, mul-le-mul_right t r.to_last, div-mul-le_self (cycle_of table) t),
    )

-- "For a flow, instance i of the source and j of the target are linked when (i-1)·(source period) = (j-1)·(target period), with the flow's latency"
pub record LinkedBy (table : List PassRecord) (l : Link) : Type 0 where
  pub flow : Flow
  pub given : Memᴰ flow (flows_of table)
  pub i : ℕ
  pub j : ℕ
  pub source : (1 ≤ i) × (i ≤ cycle_of table / (pass_at table flow.source).period)
  pub target : (1 ≤ j) × (j ≤ cycle_of table / (pass_at table flow.target).period)
  pub together : (i - 1) * (pass_at table flow.source).period ≡ (j - 1) * (pass_at table flow.target).period
  pub ends : l ≡ link (first_job (cycle_of table) (passes_in_order table) flow.source + (i - 1)) (first_job (cycle_of table) (passes_in_order table) flow.target + (j - 1)) flow.latency

-- the links of a table are exactly these
pub links_exact : (table : List PassRecord) (l : Link) → Memᴰ l (flat (flow_links table (cycle_of table)) (flows_of table)) ↔ LinkedBy table l
unfolding flow_links links_between pair_links instances pass_at
links_exact table l = (there, back)
  where
    there : Memᴰ l (flat (flow_links table (cycle_of table)) (flows_of table)) → LinkedBy table l
    there m =
        let f = (flat_member (flow_links table (cycle_of table)) (flows_of table) l).0 m in
        let p = pass_at table f.0.source in
        let q = pass_at table f.0.target in
        let i = (flat_member (λ i. flat (pair_links (cycle_of table) (passes_in_order table) f.0 p q i) (count 1 (cycle_of table / q.period))) (count 1 (cycle_of table / p.period)) l).0 f.2 in
        let j = (flat_member (pair_links (cycle_of table) (passes_in_order table) f.0 p q i.0) (count 1 (cycle_of table / q.period)) l).0 i.2 in
        let bi = (count_member 1 (cycle_of table / p.period) i.0).0 i.1 in
        let bj = (count_member 1 (cycle_of table / q.period) j.0).0 j.1 in
        let r = (only_member (eqb ((i.0 - 1) * p.period) ((j.0 - 1) * q.period)) _ l).0 j.2 in
        record { flow = f.0; given = f.1; i = i.0; j = j.0; source = (bi.0, omega arith); target = (bj.0, omega arith); together = eqb-true _ _ r.0; ends = r.1 }

    back : LinkedBy table l → Memᴰ l (flat (flow_links table (cycle_of table)) (flows_of table))
    back h =
        let f = h.flow in
        let p = pass_at table f.source in
        let q = pass_at table f.target in
        let one = (only_member (eqb ((h.i - 1) * p.period) ((h.j - 1) * q.period)) _ l).1 (eq-eqb _ _ h.together, h.ends) in
        let pair = (flat_member (pair_links (cycle_of table) (passes_in_order table) f p q h.i) (count 1 (cycle_of table / q.period)) l).1 (h.j, (count_member 1 (cycle_of table / q.period) h.j).1 (h.target.0, omega (arith, h.target)), one) in
        let own = (flat_member (λ i. flat (pair_links (cycle_of table) (passes_in_order table) f p q i) (count 1 (cycle_of table / q.period))) (count 1 (cycle_of table / p.period)) l).1
        (h.i, (count_member 1 (cycle_of table / p.period) h.i).1 (h.source.0, omega (arith, h.source)), pair) in
        (flat_member (flow_links table (cycle_of table)) (flows_of table) l).1 (f, h.given, own)
