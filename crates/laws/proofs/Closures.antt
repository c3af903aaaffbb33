-- What comes of a closure that is called at each number below n, as `array::from_fn` and `(0..n).any(..)` call it.
-- Each call is to give what a function says and to leave the closure as it is; the result is then told by that function.
use Prim.Native.Nat.{ℕ, zero, suc, ◌+◌, ◌<◌}
use native.Mathlib.Omega.{arith}
use mathlib.Core.Path.{◌≡◌, refl, ap, ◌∙◌}
use mathlib.Core.Bool.{Bool, true, false, ◌||◌}
use mathlib.Core.List.{List, [], ◌∷◌, map}
use lib.ListN.{get_or}
use denote.Param.Members.{Mut}
use Rattle.std.specs.Prelude.{Option}
use Rattle.std.specs.List.{list_any, FoldsTo}
use Rattle.std.specs.Option.{MatchOption}
use Rattle.std.specs.Fn.{Called}
use Rattle.std.specs.Array.{IsFromFnResultFrom, IsFromFnResult}
use Rattle.std.specs.Iterator.{YieldsThen}
use Rattle.std.specs.declared.ops.Range.{Range}
use Rattle.std.proofs.iter.Yields.{nat_range_steps}
use Rattle.std.proofs.lemmas.List.FromFn.{fill_by_all}
use Rattle.std.proofs.lemmas.Iterator.{YieldsList-from_range}
use Rattle.std.proofs.lemmas.Iterator.Search.{any_from_yields_List}
use Rattle.laws.specs.Lists.{count, any}
use Rattle.laws.proofs.Lists.{numbers_same}

-- std's word for a test that holds of some element is ours
any_same : (test : ℕ → Bool) (xs : List ℕ) → list_any test xs ≡ any test xs
any_same test [] = refl
any_same test (x ∷ xs) = ap (λ t. test x || t) (any_same test xs)

module _ {F B : Type 0} (g : Mut F (ℕ × Unit {0}) B) (f : F) (h : ℕ → B) where
  -- each call at a number below n gives the function's value there, and leaves the closure as it is
  abbrev pub CallsBelow : ℕ → Type 0
  CallsBelow n = (i : ℕ) (y : B) (q : F) → i < n → Called g f (i, tt) y q → (q ≡ f) × (y ≡ h i)

  called_from : (ys : List B) (d : B) (m n : ℕ) → CallsBelow (m + n) → IsFromFnResultFrom g f ys m n → (i k : ℕ) → i < n → k ≡ m + i → get_or ys k d ≡ h k
  called_from ys d m zero says made i k below e = absurd (omega arith)
  called_from ys d m (suc n) says (q, y, here, call, rest) zero k below e = let at : k ≡ m = omega arith in rw at (here.1 d ∙ (says m y q (omega arith) call).1)
  called_from ys d m (suc n) says (q, y, here, call, rest) (suc i) k below e =
      called_from ys d (m + 1) n (λ j z p b. says j z p (omega arith)) (rw (says m y q (omega arith) call).0 at rest) i k (omega arith) (omega arith)

  -- the array that it fills is the function's values at the numbers from 0 on
  pub array_by_number : {ys : List B} {n : ℕ} → IsFromFnResult g f ys n → CallsBelow n → ys ≡ map h (count 0 n)
  array_by_number {ys = []} {n} made says = let none : 0 ≡ n = made.long in rw (← none) refl
  array_by_number {ys = y ∷ ys} {n} made says =
      fill_by_all h (y ∷ ys) n y made.long (λ k b. called_from (y ∷ ys) y 0 n (λ i z q l. says i z q (omega arith)) made.each k k b (omega arith))
      ∙ ap (map h) (numbers_same 0 n)

-- its test holds of some number below n exactly when the function's does
pub any_below : {F : Type 0} {g : Mut F (ℕ × Unit {0}) Bool} (n : ℕ) (test : ℕ → Bool) (s u : Range ℕ) (f : F) {r : Bool}
    → (xs : List ℕ) × (o : Option ℕ) × (j : F) × YieldsThen nat_range_steps s xs o u × FoldsTo (λ p x q. Called g p (x, tt) false q) f xs j × MatchOption o (r ≡ false) (λ x. (r ≡ true) × ((h : F) × Called g j (x, tt) true h))
    → s ≡ record { start = 0; end = n }
    → ((x : ℕ) (b : Bool) (q : F) → Called g f (x, tt) b q → (q ≡ f) × (b ≡ test x))
    → r ≡ any test (count 0 n)
any_below n test s u f {r} ran range says =
    any_from_yields_List test u f r ran (YieldsList-from_range 0 n n range (omega arith)) says
    ∙ ap (list_any test) (numbers_same 0 n)
    ∙ any_same test (count 0 n)
