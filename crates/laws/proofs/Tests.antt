-- What a test on numbers or on a whole list says: exactly what its words say. By induction on the list.
use Prim.Native.Nat.{ℕ, ◌≤◌, max}
use native.Mathlib.Omega.{arith}
use mathlib.Core.Bool.{Bool, true, false, and-eq-true_iff}
use mathlib.Core.Path.{◌≡◌, refl}
use mathlib.Core.Logic.{◌↔◌}
use mathlib.Core.List.Memᴰ
use mathlib.Core.List.{List, [], ◌∷◌, Memᴰ}
use lib.Dec.{leb}
use borrow.Author.Tests.{leb-true, leb-false, le-leb}
use Rattle.laws.specs.Lists.{all, largest, Every}

-- the test for at most
pub leb_means : (a b : ℕ) → (leb a b ≡ true) ↔ (a ≤ b)
leb_means a b = (leb-true a b, le-leb a b)

-- a test passes on the whole list exactly when every element has what it tests
pub all_means : {A : Type 0} {p : A → Bool} {P : A → Type 0} → ((x : A) → (p x ≡ true) ↔ P x) → (xs : List A) → (all p xs ≡ true) ↔ Every P xs
all_means means [] = (λ h. tt, λ h. refl)
all_means {p} means (x ∷ xs) = (
  λ h. let both = (and-eq-true_iff (p x) (all p xs)).0 h in ((means x).0 both.0, (all_means means xs).0 both.1),
  λ h. (and-eq-true_iff (p x) (all p xs)).1 ((means x).1 h.0, (all_means means xs).1 h.1),
)

-- the largest of some numbers is one of them
pub largest_attained : (x : ℕ) (xs : List ℕ) → Memᴰ (largest (x ∷ xs)) (x ∷ xs)
largest_attained x [] = let alone : max x 0 ≡ x = omega arith in Memᴰ.head alone
largest_attained x (y ∷ ys) = choose (leb (largest (y ∷ ys)) x) refl (largest_attained y ys)
  where
    choose : (t : Bool) → leb (largest (y ∷ ys)) x ≡ t → Memᴰ (largest (y ∷ ys)) (y ∷ ys) → Memᴰ (max x (largest (y ∷ ys))) (x ∷ y ∷ ys)
    choose true e below =
        let first : max x (largest (y ∷ ys)) ≡ x = omega (arith, leb-true (largest (y ∷ ys)) x e) in
        Memᴰ.head first
    choose false e below =
        let others : max x (largest (y ∷ ys)) ≡ largest (y ∷ ys) = omega (arith, leb-false (largest (y ∷ ys)) x e) in
        Memᴰ.cast others (Memᴰ.tail below)
