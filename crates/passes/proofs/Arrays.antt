-- The array of a table's passes, filled record by record: a pass in front is stored at its number, and a flow changes nothing.
-- A loop that fills it in the table's order has it for the reversed table, which has the same passes where each pass number is given once.
use Prim.Native.Nat.{ℕ, ◌<◌, ◌≤◌}
use mathlib.Core.Path.{◌≡◌, refl, sym, ap, ◌∙◌, fun_ext}
use mathlib.Core.Bool.{Bool, true, false, cond, ◌||◌}
use mathlib.Core.List.{List, [], ◌∷◌, map, reverse, reverse_aux}
use Rattle.std.specs.Prelude.{Option, None, Some}
use lib.Dec.{eqb, ltb}
use lib.ListN.{length, set}
use borrow.Author.Tests.{eqb-true, eq-eqb, ne_eqb}
use Rattle.laws.specs.Lists.{any, count}
use Rattle.laws.proofs.Members.{or_false, Faultless, first_fault_none}
use Rattle.laws.proofs.Storing.{set_row}
use Rattle.laws.proofs.Walking.{any_reverse, behind, behind_all}
use Rattle.records.specs.declared.Pass.{Pass}
use Rattle.records.specs.declared.Flow.{Flow}
use Rattle.records.specs.declared.PassRecord.{PassRecord}
use Rattle.records.specs.declared.PassRecord.TheVariants.{P, F}
use Rattle.passes.specs.Judge.{is_pass, bad_number, fault3}
use Rattle.passes.specs.Expand.{of_pass, pass_at}
use Rattle.passes.specs.Arrays.{pass_of, passes_of}
use Rattle.passes.specs.declared.Passes.{Passes}

-- passes with the same array are the same
same_passes : {a b : Passes} → a.by_number ≡ b.by_number → a ≡ b
same_passes e = λ i. record { by_number = e i }

-- a pass in front is stored at its number
pub passes_more : (p : Pass) (before : List PassRecord) → p.number < 24 → {passes : Passes} → passes ≡ passes_of before
    → ◌≡◌ {A = Passes} (record { by_number = set passes.by_number p.number (Some p) }) (passes_of (P p ∷ before))
unfolding passes_of pass_at of_pass
passes_more p before below e =
    same_passes (ap (λ (passes : Passes). set passes.by_number p.number (Some p)) e
    ∙ set_row (pass_of before) (pass_of (P p ∷ before)) 24 p.number (Some p) below
    (rw (eq-eqb p.number p.number refl))
    (λ i other. rw (ne_eqb p.number i (λ same. other (sym same)))))

-- a flow in front changes nothing of the passes
pub passes_flow : (f : Flow) (before : List PassRecord) → passes_of (F f ∷ before) ≡ passes_of before
unfolding passes_of pass_at of_pass
passes_flow l before = refl

-- of a pass that the table does not have each value is 0
no_value : (value : Pass → ℕ) (table : List PassRecord) (n : ℕ) → any (is_pass n) table ≡ false → of_pass value table n ≡ 0
unfolding of_pass
no_value value [] n e = refl
no_value value (P k ∷ table) n e = let both = or_false (eqb k.number n) (any (is_pass n) table) e in rw both.0 (no_value value table n both.1)
no_value value (F f ∷ table) n e = no_value value table n e

-- where each pass number is given once, a pass's values are found from either end of the table
value_reverse : (value : Pass → ℕ) (table : List PassRecord) → Faultless bad_number [] table → (n : ℕ) → of_pass value (reverse table) n ≡ of_pass value table n
unfolding of_pass
value_reverse value table h n = go table [] h
  where
    go : (table before : List PassRecord) → Faultless bad_number before table → of_pass value (reverse_aux table before) n ≡ cond (any (is_pass n) before) (of_pass value before n) (of_pass value table n)
    go [] before h = step (any (is_pass n) before) refl
      where
        step : (t : Bool) → any (is_pass n) before ≡ t → of_pass value before n ≡ cond t (of_pass value before n) 0
        step true e = refl
        step false e = no_value value before n e
    go (P k ∷ table) before h = go table (P k ∷ before) h.1 ∙ step (eqb k.number n) refl
      where
        step : (t : Bool) → eqb k.number n ≡ t
            → cond (t || any (is_pass n) before) (cond t (value k) (of_pass value before n)) (of_pass value table n)
            ≡ cond (any (is_pass n) before) (of_pass value before n) (cond t (value k) (of_pass value table n))
        step true e =
            let new : any (is_pass n) before ≡ false = rw (eqb-true k.number n e) at (or_false (ltb 23 k.number) (any (is_pass k.number) before) h.0).1 in
            rw new
        step false e = refl
    go (F f ∷ table) before h = go table (F f ∷ before) h.1

-- so a table that 3 does not refuse has the same passes in reversed order
passes_reverse : (table : List PassRecord) → fault3 table ≡ None → passes_of (reverse table) ≡ passes_of table
unfolding passes_of pass_at fault3
passes_reverse table e = same_passes (ap (λ (f : ℕ → Option Pass). map f (count 0 24)) (fun_ext reversed))
  where
    value : (v : Pass → ℕ) (n : ℕ) → of_pass v (reverse table) n ≡ of_pass v table n
    value v n = value_reverse v table ((first_fault_none bad_number [] 0 table).0 e) n

    reversed : (n : ℕ) → pass_of (reverse table) n ≡ pass_of table n
    reversed n = rw (any_reverse (is_pass n) table, value (λ p. p.cost) n, value (λ p. p.period) n, value (λ p. p.phase) n, value (λ p. p.within) n)

-- and once all of it is passed, what was filled are its passes
pub passes_passed : (table : List PassRecord) (i : ℕ) → length table ≤ i → fault3 table ≡ None → passes_of (behind i table) ≡ passes_of table
passes_passed table i h three = ap passes_of (behind_all table i h) ∙ passes_reverse table three
