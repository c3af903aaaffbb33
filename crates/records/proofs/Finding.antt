-- What a place that code answers says of the place looked for, and what a row of refusals comes to: for any kind of table.
use Prim.Native.Nat.{ℕ, suc, ◌*◌, ◌/◌, ◌%◌, ◌≤◌}
use native.Mathlib.Omega.{arith}
use mathlib.Core.Path.{◌≡◌, refl}
use mathlib.Core.Bool.{Bool, true, false, not}
use mathlib.Core.List.{List}
use Rattle.std.specs.Prelude.{Option, None, Some}
use lib.Dec.{eqb, ltb}
use lib.ListN.{length}
use borrow.Author.Tests.{eqb-true, ltb-false, not-false}
use Rattle.laws.specs.Lists.{found}
use Rattle.laws.proofs.Members.{true_not_false, or_false}
use Rattle.records.specs.Outcome.{refuse}
use Rattle.records.specs.Table.{bad_length}

-- where nothing is found, there is nothing
pub found_false : (o : Option ℕ) → found o ≡ false → o ≡ None
found_false None e = refl
found_false (Some x) e = absurd (true_not_false refl e)

-- a refusal that does not come about leaves what comes after it
pub refuse_zero : (n : ℕ) (t : Bool) {later : ℕ} → refuse (suc n) t later ≡ 0 → (t ≡ false) × (later ≡ 0)
refuse_zero n true e = absurd (omega arith)
refuse_zero n false e = (refl, e)

-- where a row of refusals comes to 0, another in its last place comes to that one
pub refuse_rest : (n : ℕ) (t : Bool) {later other w : ℕ} → refuse (suc n) t later ≡ 0 → (later ≡ 0 → other ≡ w) → refuse (suc n) t other ≡ w
refuse_rest n true e rest = absurd (omega arith)
refuse_rest n false e rest = rest e

-- where it comes to a number from 1 on, what stands in its last place does not matter
pub refuse_first : (n m : ℕ) (t : Bool) {later other : ℕ} → refuse (suc n) t later ≡ suc m → (later ≡ suc m → other ≡ suc m) → refuse (suc n) t other ≡ suc m
refuse_first n m true e rest = e
refuse_first n m false e rest = rest e

-- a length that 1 does not refuse is that of whole records, 4,096 at most
pub whole_records : (bytes : List ℕ) → bad_length bytes ≡ false → (length bytes ≡ 12 * (length bytes / 12)) × (length bytes ≤ 49152)
unfolding bad_length
whole_records bytes e =
    let both = or_false (not (eqb (length bytes % 12) 0)) (ltb 49152 (length bytes)) e in
    let rest : length bytes % 12 ≡ 0 = eqb-true (length bytes % 12) 0 (not-false (eqb (length bytes % 12) 0) both.0) in
    (omega arith, ltb-false 49152 (length bytes) both.1)
