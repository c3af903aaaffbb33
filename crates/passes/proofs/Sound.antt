-- Laws of a pass table that 3, 4 and 5 do not refuse: each pass number is given once and is below 24, so that what is looked up by number is what the pass's own record says;
-- a pass has a cost, a period and a window within it; and a flow joins two different passes of the table.
-- No first record at fault means that no record is; the rest is by induction on the table.
use Prim.Native.Nat.{ℕ, ◌+◌, ◌<◌, ◌≤◌}
use native.Mathlib.Omega.{arith}
use mathlib.Core.Path.{◌≡◌, refl, sym, ap, ◌∙◌}
use mathlib.Core.Bool.{true, false, cond, not, ◌||◌}
use mathlib.Core.Logic.{◌↔◌, ◌⊎◌, inl, inr}
use mathlib.Core.List.Memᴰ
use mathlib.Core.List.{List, [], ◌∷◌, Memᴰ}
use Rattle.std.specs.Prelude.{None}
use borrow.Author.Tests.{eqb-true, eqb-false, ltb-false, eq-eqb, not-false}
use lib.Dec.{eqb, ltb}
use Rattle.laws.specs.Lists.{count, any, keep}
use Rattle.laws.proofs.Members.{true_not_false, or_false, member_any, any_member, keep_member, count_member, Faultless, first_fault_none, faultless_each}
use Rattle.records.specs.declared.Pass.{Pass}
use Rattle.records.specs.declared.Flow.{Flow}
use Rattle.records.specs.declared.PassRecord.{PassRecord}
use Rattle.records.specs.declared.PassRecord.TheVariants.{P, F}
use Rattle.passes.specs.Judge.{is_pass, bad_number, bad_value, loose_flow, fault3, fault4, fault5}
use Rattle.passes.specs.Expand.{of_pass, pass_at, passes_in_order, flows_of}
use Rattle.passes.specs.Timely.{Timely}

-- none of 3, 4 and 5 holds of a pass table
pub record Sound (table : List PassRecord) : Type 0 where
  pub three : fault3 table ≡ None
  pub four : fault4 table ≡ None
  pub five : fault5 table ≡ None

-- a P record is not an F record
pub pass_not_flow : {p : Pass} {f : Flow} → P p ≡ F f → ⊥
pass_not_flow e = let z : ◌≡◌ {A = ℕ} 0 1 = cc in omega arith

-- where some record is the pass with a number, there is a P record with it
pub any_pass : (table : List PassRecord) (n : ℕ) → any (is_pass n) table ≡ true → (p : Pass) × Memᴰ (P p) table × (p.number ≡ n)
any_pass table n h = let r = any_member (is_pass n) table h in step r.0 r.1 r.2
  where
    step : (r : PassRecord) → Memᴰ r table → is_pass n r ≡ true → (p : Pass) × Memᴰ (P p) table × (p.number ≡ n)
    step (P p) m t = (p, m, eqb-true p.number n t)
    step (F f) m t = absurd (true_not_false t refl)

-- a P record is the pass with its number
pub pass_any : {table : List PassRecord} {p : Pass} → Memᴰ (P p) table → any (is_pass p.number) table ≡ true
pass_any {table} {p} m = member_any (is_pass p.number) m (eq-eqb p.number p.number refl)

-- where no record is at fault by 3, a P record's number is below 24 and that of no record before it
pub fresh : (before table : List PassRecord) → Faultless bad_number before table → (p : Pass) → Memᴰ (P p) table → (p.number < 24) × (any (is_pass p.number) before ≡ false)
fresh before [] h p m = absurd (Memᴰ.not-nil m)
fresh before (r ∷ table) h p m = step (Memᴰ.cases_cons m) (fresh (r ∷ before) table h.1 p)
  where
    step : (P p ≡ r) ⊎ Memᴰ (P p) table → (Memᴰ (P p) table → (p.number < 24) × (any (is_pass p.number) (r ∷ before) ≡ false)) → (p.number < 24) × (any (is_pass p.number) before ≡ false)
    step (inl e) below =
        let good : bad_number before (P p) ≡ false = ap (bad_number before) e ∙ h.0 in
        let both = or_false (ltb 23 p.number) (any (is_pass p.number) before) good in
        (omega (arith, ltb-false 23 p.number both.0), both.1)
    step (inr m) below = let b = below m in (b.0, (or_false (is_pass p.number r) (any (is_pass p.number) before) b.1).1)

-- so what is looked up by a P record's number is what that record says
looked_up : (value : Pass → ℕ) (before table : List PassRecord) → Faultless bad_number before table → (p : Pass) → Memᴰ (P p) table → of_pass value table p.number ≡ value p
unfolding of_pass
looked_up value before [] h p m = absurd (Memᴰ.not-nil m)
looked_up value before (P k ∷ table) h p m = step (Memᴰ.cases_cons m) (looked_up value (P k ∷ before) table h.1 p)
  where
    step : (P p ≡ P k) ⊎ Memᴰ (P p) table → (Memᴰ (P p) table → of_pass value table p.number ≡ value p) → cond (eqb k.number p.number) (value k) (of_pass value table p.number) ≡ value p
    step (inl e) below = let same : p ≡ k = cc in rw (same, eq-eqb k.number k.number refl)
    step (inr m) below =
        let other : eqb k.number p.number ≡ false = (or_false (is_pass p.number (P k)) (any (is_pass p.number) before) (fresh (P k ∷ before) table h.1 p m).1).0 in
        rw other (below m)
looked_up value before (F f ∷ table) h p m = step (Memᴰ.cases_cons m) (looked_up value (F f ∷ before) table h.1 p)
  where
    step : (P p ≡ F f) ⊎ Memᴰ (P p) table → (Memᴰ (P p) table → of_pass value table p.number ≡ value p) → of_pass value table p.number ≡ value p
    step (inl e) below = absurd (pass_not_flow e)
    step (inr m) below = below m

-- the flows of a table are those of its F records
pub flows_member : (table : List PassRecord) (f : Flow) → Memᴰ f (flows_of table) ↔ Memᴰ (F f) table
unfolding flows_of
flows_member table f = (there table, back table)
  where
    there : (table : List PassRecord) → Memᴰ f (flows_of table) → Memᴰ (F f) table
    there [] m = absurd (Memᴰ.not-nil m)
    there (P p ∷ table) m = Memᴰ.tail (there table m)
    there (F g ∷ table) m = step (Memᴰ.cases_cons m) (there table)
      where
        step : (f ≡ g) ⊎ Memᴰ f (flows_of table) → (Memᴰ f (flows_of table) → Memᴰ (F f) table) → Memᴰ (F f) (F g ∷ table)
        step (inl e) below = Memᴰ.head (ap F e)
        step (inr m) below = Memᴰ.tail (below m)

    back : (table : List PassRecord) → Memᴰ (F f) table → Memᴰ f (flows_of table)
    back [] m = absurd (Memᴰ.not-nil m)
    back (P p ∷ table) m = step (Memᴰ.cases_cons m) (back table)
      where
        step : (F f ≡ P p) ⊎ Memᴰ (F f) table → (Memᴰ (F f) table → Memᴰ f (flows_of table)) → Memᴰ f (flows_of table)
        step (inl e) below = absurd (pass_not_flow (sym e))
        step (inr m) below = below m
    back (F g ∷ table) m = step (Memᴰ.cases_cons m) (back table)
      where
        step : (F f ≡ F g) ⊎ Memᴰ (F f) table → (Memᴰ (F f) table → Memᴰ f (flows_of table)) → Memᴰ f (g ∷ flows_of table)
        step (inl e) below = let same : f ≡ g = cc in Memᴰ.head same
        step (inr m) below = Memᴰ.tail (below m)

-- the passes in order are those of the numbers below 24 that a P record has
pub order_member : (table : List PassRecord) (p : Pass) → Memᴰ p (passes_in_order table) → (n : ℕ) × (n < 24) × (any (is_pass n) table ≡ true) × (p ≡ pass_at table n)
unfolding passes_in_order
order_member table p m =
    let r = Memᴰ.of_map (pass_at table) (keep (λ n. any (is_pass n) table) (count 0 24)) m in
    let k = (keep_member (λ n. any (is_pass n) table) (count 0 24) r.0).0 r.1 in
    let b = (count_member 0 24 r.0).0 k.0 in
    (r.0, omega arith, k.1, sym r.2)

pub member_order : (table : List PassRecord) (n : ℕ) → n < 24 → any (is_pass n) table ≡ true → Memᴰ (pass_at table n) (passes_in_order table)
unfolding passes_in_order
member_order table n h e = Memᴰ.map (pass_at table) ((keep_member (λ n. any (is_pass n) table) (count 0 24) n).1 ((count_member 0 24 n).1 (omega arith), e))

module _ (table : List PassRecord) (sound : Sound table) where
  -- none of its records is at fault by 3, by 4 and by 5
  faultless_three : Faultless bad_number [] table
  unfolding fault3
  faultless_three = (first_fault_none bad_number [] 0 table).0 sound.three

  faultless_four : (r : PassRecord) → Memᴰ r table → bad_value r ≡ false
  unfolding fault4
  faultless_four = (faultless_each bad_value [] table).0 ((first_fault_none (λ before r. bad_value r) [] 0 table).0 sound.four)

  faultless_five : (r : PassRecord) → Memᴰ r table → loose_flow table r ≡ false
  unfolding fault5
  faultless_five = (faultless_each (loose_flow table) [] table).0 ((first_fault_none (λ before r. loose_flow table r) [] 0 table).0 sound.five)

  -- the pass with a P record's number is that record's
  pub pass_known : (p : Pass) → Memᴰ (P p) table → pass_at table p.number ≡ p
  unfolding pass_at
  pass_known p m = rw (value (λ p. p.cost), value (λ p. p.period), value (λ p. p.phase), value (λ p. p.within))
    where
      value : (v : Pass → ℕ) → of_pass v table p.number ≡ v p
      value v = looked_up v [] table faultless_three p m

  -- a pass has a number below 24, a cost, and a window within its period
  pub pass_limits : (p : Pass) → Memᴰ (P p) table → (p.number < 24) × (0 < p.cost) × Timely p
  pass_limits p m =
      let wide = or_false (eqb p.cost 0 || eqb p.period 0) (ltb p.period (p.phase + p.within)) (faultless_four (P p) m) in
      let both = or_false (eqb p.cost 0) (eqb p.period 0) wide.0 in
      let some-cost : p.cost ≡ 0 → ⊥ = eqb-false p.cost 0 both.0 in
      let some-period : p.period ≡ 0 → ⊥ = eqb-false p.period 0 both.1 in
      ((fresh [] table faultless_three p m).0, omega arith, (omega arith, ltb-false p.period (p.phase + p.within) wide.1))

  -- so has the pass with any number that the table has
  pub number_limits : (n : ℕ) → any (is_pass n) table ≡ true → (n < 24) × (0 < (pass_at table n).cost) × Timely (pass_at table n)
  number_limits n e =
      let r = any_pass table n e in
      rw (← r.2, pass_known r.0 r.1) (pass_limits r.0 r.1)

  -- and each of the passes in order
  pub order_limits : (p : Pass) → Memᴰ p (passes_in_order table) → (0 < p.cost) × Timely p
  order_limits p m = let r = order_member table p m in let l = number_limits r.0 r.2 in rw r.3 (l.1, l.2)

  -- a flow joins two different passes of the table, with a latency within the limit
  pub flow_known : (f : Flow) → Memᴰ (F f) table
      → (any (is_pass f.source) table ≡ true) × (any (is_pass f.target) table ≡ true) × (f.source ≡ f.target → ⊥) × (f.latency ≤ 48000)
  flow_known f m =
      let ends = or_false (eqb f.source f.target || not (any (is_pass f.source) table)) (not (any (is_pass f.target) table)) (faultless_five (F f) m) in
      let own = or_false (eqb f.source f.target) (not (any (is_pass f.source) table)) ends.0 in
      (not-false _ own.1, not-false _ ends.1, eqb-false f.source f.target own.0, ltb-false 48000 f.latency (faultless_four (F f) m))
