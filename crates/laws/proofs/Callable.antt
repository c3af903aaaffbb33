-- A closure that is called at each number below n, as `array::from_fn` does, may be called there: it may at each number, and each call leaves it as it is.
use Prim.Native.Nat.{ℕ, ◌<◌}
use mathlib.Core.Path.{◌≡◌, sym, subst}
use mathlib.Core.List.{List, [], ◌∷◌}
use Rattle.std.specs.List.{FoldsTo}
use Rattle.std.specs.Array.{index_steps}
use Rattle.std.specs.Iterator.{CallableAtEachTurn}

-- after calls that each leave the closure as it is, it is as it was
kept : {F : Type 0} (R : F → ℕ → F → Type 0) (f : F) → ((x : ℕ) (q : F) → R f x q → q ≡ f) → (xs : List ℕ) (q : F) → FoldsTo R f xs q → q ≡ f
kept R f keeps [] q c = sym c
kept R f keeps (x ∷ xs) q c = kept R f keeps xs q (subst (λ p. FoldsTo R p xs q) (keeps x c.0 c.1) c.2)

-- so it may be called at each number in turn
pub callable_below : {F : Type 0} {R : F → ℕ → F → Type 0} {Q : F → ℕ → Type 0} (f : F) (n : ℕ) → ((x : ℕ) (q : F) → R f x q → q ≡ f) → ((x : ℕ) → x < n → Q f x) → CallableAtEachTurn (index_steps n) R Q 0 f
callable_below {R = R} {Q = Q} f n keeps may =
    record { at = λ xs t q x u yielded calls step. subst (λ p. Q p x) (sym (kept R f keeps xs q calls)) (may x (rw step.1 step.0)) }
