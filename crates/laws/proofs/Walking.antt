-- A loop that goes through a list place by place and stops at the first element at fault. At place i it has passed `take i`, and the rest is `drop i`;
-- the first element at fault of the whole list is then that of the rest, judged with those passed before it, the last one first.
use Prim.Native.Nat.{ℕ, zero, suc, ◌+◌, ◌≤◌}
use native.Mathlib.Numerals.{add-one}
use native.Mathlib.Omega.{arith}
use mathlib.Core.Path.{◌≡◌, refl, sym, ap, ◌∙◌}
use mathlib.Core.Bool.{Bool, true, false, ◌||◌, or_assoc, or_comm, or-false}
use mathlib.Core.List.{List, [], ◌∷◌, ◌++◌, reverse, reverse_aux, reverse-append, Memᴰ}
use Rattle.std.specs.Prelude.{None, Some, slice_get}
use lib.ListN.{length, take, drop, drop_of_length-le, take-append-drop}
use lib.Seq.{take_all}
use Rattle.laws.specs.Lists.{any, first_fault}

module _ {A : Type 0} where
  -- x is the next element at place i: the first of the rest, and the last of those passed one place on
  pub record Next (xs : List A) (i : ℕ) (x : A) : Type 0 where
    pub rest : drop i xs ≡ x ∷ drop (i + 1) xs
    pub passed : take (i + 1) xs ≡ take i xs ++ x ∷ []

  -- the element that the rest begins with is the next one
  pub next_of : (xs : List A) (i : ℕ) {x : A} {ys : List A} → drop i xs ≡ x ∷ ys → Next xs i x
  next_of xs i {x} {ys} e = record { rest = e ∙ ap (λ (l : List A). x ∷ l) (sym (rw add-one (others i xs e))); passed = rw add-one (first i xs e) }
    where
      others : (i : ℕ) (xs : List A) → drop i xs ≡ x ∷ ys → drop (suc i) xs ≡ ys
      others zero [] e = let z : ◌≡◌ {A = ℕ} 0 1 = cc in absurd (omega arith)
      others zero (z ∷ zs) e = cc
      others (suc i) [] e = let z : ◌≡◌ {A = ℕ} 0 1 = cc in absurd (omega arith)
      others (suc i) (z ∷ zs) e = others i zs e

      first : (i : ℕ) (xs : List A) → drop i xs ≡ x ∷ ys → take (suc i) xs ≡ take i xs ++ x ∷ []
      first zero [] e = let z : ◌≡◌ {A = ℕ} 0 1 = cc in absurd (omega arith)
      first zero (z ∷ zs) e = let same : z ≡ x = cc in rw same
      first (suc i) [] e = let z : ◌≡◌ {A = ℕ} 0 1 = cc in absurd (omega arith)
      first (suc i) (z ∷ zs) e = ap (λ (l : List A). z ∷ l) (first i zs e)

  -- the next element stands at its place
  pub next_get : (xs : List A) (i : ℕ) {x : A} → Next xs i x → slice_get xs i ≡ Some x
  next_get xs i {x} next = go xs i next.rest
    where
      go : (xs : List A) (i : ℕ) {ys : List A} → drop i xs ≡ x ∷ ys → slice_get xs i ≡ Some x
      go [] zero e = let z : ◌≡◌ {A = ℕ} 0 1 = cc in absurd (omega arith)
      go [] (suc i) e = let z : ◌≡◌ {A = ℕ} 0 1 = cc in absurd (omega arith)
      go (z ∷ zs) zero e = cc
      go (z ∷ zs) (suc i) e = go zs i e

  -- an element that stands at a place is the next one there
  pub next_at : (xs : List A) (i : ℕ) {x : A} → slice_get xs i ≡ Some x → Next xs i x
  next_at xs i {x} e = next_of xs i (go xs i e).1
    where
      go : (xs : List A) (i : ℕ) → slice_get xs i ≡ Some x → (ys : List A) × (drop i xs ≡ x ∷ ys)
      go [] i e = let z : ◌≡◌ {A = ℕ} 0 1 = cc in absurd (omega arith)
      go (z ∷ zs) zero e = let same : z ≡ x = cc in (zs, rw same)
      go (z ∷ zs) (suc i) e = go zs i e

  -- a test holds of some element of a reversed list exactly when it does of the list
  pub any_reverse : (p : A → Bool) (xs : List A) → any p (reverse xs) ≡ any p xs
  any_reverse p xs = go xs [] ∙ or-false (any p xs)
    where
      go : (xs ys : List A) → any p (reverse_aux xs ys) ≡ (any p xs || any p ys)
      go [] ys = refl
      go (x ∷ xs) ys = go xs (x ∷ ys) ∙ sym (or_assoc (any p xs) (p x) (any p ys)) ∙ ap (λ t. t || any p ys) (or_comm (any p xs) (p x))

  -- a test holds of some element of two lists that are joined
  pub any_append : (p : A → Bool) (xs ys : List A) → any p (xs ++ ys) ≡ (any p xs || any p ys)
  any_append p [] ys = refl
  any_append p (x ∷ xs) ys = ap (λ t. p x || t) (any_append p xs ys) ∙ sym (or_assoc (p x) (any p xs) (any p ys))

  -- the elements passed before place i, the last one first
  abbrev pub behind : ℕ → List A → List A
  behind i xs = reverse (take i xs)

  -- the next element is the first behind the next place
  pub behind_next : (xs : List A) (i : ℕ) {x : A} → Next xs i x → behind (i + 1) xs ≡ x ∷ behind i xs
  behind_next xs i {x} next = ap reverse next.passed ∙ reverse-append (take i xs) (x ∷ [])

  -- at the end all elements are behind
  pub behind_all : (xs : List A) (i : ℕ) → length xs ≤ i → behind i xs ≡ reverse xs
  behind_all xs i h = ap reverse (take_all i xs h)

  -- the next element is one of the list
  pub next_member : (xs : List A) (i : ℕ) {x : A} → Next xs i x → Memᴰ x xs
  next_member xs i {x} next =
      let after : Memᴰ x (drop i xs) = rw next.rest (mathlib.Core.List.Memᴰ.head {x = x} refl) in
      rw (take-append-drop i xs) at (mathlib.Core.List.Memᴰ.append_right (take i xs) after)

module _ {A : Type 0} (bad : List A → A → Bool) where
  -- where the first element is not at fault, the others decide
  first_good : (before : List A) (place : ℕ) (x : A) (ys : List A) → bad before x ≡ false → first_fault bad before place (x ∷ ys) ≡ first_fault bad (x ∷ before) (place + 1) ys
  first_good before place x ys good = rw (first_fault, good)

  -- where it is, its place is found
  first_bad : (before : List A) (place : ℕ) (x : A) (ys : List A) → bad before x ≡ true → first_fault bad before place (x ∷ ys) ≡ Some place
  first_bad before place x ys at-fault = rw (first_fault, at-fault)

  module _ (xs : List A) where
    -- the first element at fault is that of the rest from place i on
    abbrev pub FaultFrom : ℕ → Type 0
    FaultFrom i = first_fault bad [] 0 xs ≡ first_fault bad (behind i xs) i (drop i xs)

    -- an element that is not at fault is passed
    pub fault_step : (i : ℕ) {x : A} → Next xs i x → bad (behind i xs) x ≡ false → FaultFrom i → FaultFrom (i + 1)
    fault_step i {x} next good e = e ∙ rw (next.rest, behind_next xs i next) (first_good (behind i xs) i x (drop (i + 1) xs) good)

    -- an element at fault is the first one
    pub fault_here : (i : ℕ) {x : A} → Next xs i x → bad (behind i xs) x ≡ true → FaultFrom i → first_fault bad [] 0 xs ≡ Some i
    fault_here i {x} next at-fault e = e ∙ rw next.rest (first_bad (behind i xs) i x (drop (i + 1) xs) at-fault)

    -- at the end there is none
    pub fault_end : (i : ℕ) → length xs ≤ i → FaultFrom i → first_fault bad [] 0 xs ≡ None
    fault_end i h e = e ∙ rw (drop_of_length-le xs h)
