-- What being an element of a list says of the words of `specs/`: each law tells from one element what a word says of the whole list, and back.
-- All of it is by induction on the list, or by cases on a test whose equation is kept.
use Prim.Native.Nat.{ℕ, zero, suc, ◌+◌, ◌*◌, ◌<◌, ◌≤◌}
use native.Mathlib.Nat.{mul-suc}
use native.Mathlib.Omega.{arith}
use mathlib.Core.Path.{◌≡◌, refl, sym, ap, ◌∙◌}
use mathlib.Core.Bool.{Bool, true, false, ◌||◌}
use mathlib.Core.Logic.{◌↔◌, ◌⊎◌, inl, inr}
use mathlib.Core.List.{List, [], ◌∷◌, ◌++◌, map}
use mathlib.Core.List.Memᴰ
use mathlib.Core.List.{Memᴰ}
use Rattle.std.specs.Prelude.{Option, None, Some}
use lib.Dec.{ltb}
use lib.ListN.{length, length-append}
use borrow.Author.Tests.{ltb-true, ltb-false}
use Rattle.laws.specs.Lists.{count, largest, only, any, keep, Every, first_fault, flat}

-- a truth value is true or false, with its equation
pub either : (t : Bool) → (t ≡ true) ⊎ (t ≡ false)
either true = inl refl
either false = inr refl

-- true is not false
pub true_not_false : {t : Bool} → t ≡ true → t ≡ false → ⊥
true_not_false p q = let z : ◌≡◌ {A = Bool} true false = cc in let n : ◌≡◌ {A = ℕ} 0 1 = cc in omega arith

-- a test that does not fail passes
pub not_false_true : (t : Bool) → (t ≡ false → ⊥) → t ≡ true
not_false_true true h = refl
not_false_true false h = absurd (h refl)

-- a test that does not pass fails
pub not_true_false : (t : Bool) → (t ≡ true → ⊥) → t ≡ false
not_true_false true h = absurd (h refl)
not_true_false false h = refl

-- one of two tests passes, the first or the second
pub or_true : (s t : Bool) → (s || t) ≡ true → (s ≡ true) ⊎ (t ≡ true)
or_true true t h = inl refl
or_true false t h = inr h

-- neither of two tests passes
pub or_false : (s t : Bool) → (s || t) ≡ false → (s ≡ false) × (t ≡ false)
or_false true t h = absurd (true_not_false refl h)
or_false false t h = (refl, h)

-- where two tests fail, neither passes
pub false_or : {s t : Bool} → s ≡ false → t ≡ false → (s || t) ≡ false
false_or {s} {t} p q = rw (p, q)

-- two tests that pass together are equal
pub same_test : (s t : Bool) → ((s ≡ true) ↔ (t ≡ true)) → s ≡ t
same_test true t h = sym (h.0 refl)
same_test false true h = h.1 refl
same_test false false h = refl

module _ {A : Type 0} where
  -- each element has the property, if every element has it
  pub every_member : (P : A → Type 0) {xs : List A} → Every P xs → (x : A) → Memᴰ x xs → P x
  every_member P h x m = step m h
    where
      step : {ys : List A} → Memᴰ x ys → Every P ys → P x
      step (Memᴰ.head e) here = rw e here.0
      step (Memᴰ.tail n) here = step n here.1

  -- every element has the property, if each element has it
  pub member_every : (P : A → Type 0) (xs : List A) → ((x : A) → Memᴰ x xs → P x) → Every P xs
  member_every P [] h = tt
  member_every P (x ∷ xs) h = (h x (Memᴰ.head refl), member_every P xs (λ y m. h y (Memᴰ.tail m)))

  -- a test that holds of an element holds of some element
  pub member_any : (p : A → Bool) {x : A} {xs : List A} → Memᴰ x xs → p x ≡ true → any p xs ≡ true
  member_any p {x} (Memᴰ.head {x = y} e) h = let e' : p y ≡ true = cc in rw e'
  member_any p {x} (Memᴰ.tail {x = y} {xs = ys} m) h = step (p y) (member_any p m h)
    where
      step : (t : Bool) → any p ys ≡ true → (t || any p ys) ≡ true
      step true e = refl
      step false e = e

  -- a test that holds of some element holds of an element
  pub any_member : (p : A → Bool) (xs : List A) → any p xs ≡ true → (x : A) × Memᴰ x xs × (p x ≡ true)
  any_member p [] h = absurd (true_not_false h refl)
  any_member p (x ∷ xs) h = step (or_true (p x) (any p xs) h) (any_member p xs)
    where
      step : (p x ≡ true) ⊎ (any p xs ≡ true) → (any p xs ≡ true → (y : A) × Memᴰ y xs × (p y ≡ true)) → (y : A) × Memᴰ y (x ∷ xs) × (p y ≡ true)
      step (inl e) below = (x, Memᴰ.head refl, e)
      step (inr e) below = let r = below e in (r.0, Memᴰ.tail r.1, r.2)

  -- a test that holds of no element fails of each
  pub any_false : (p : A → Bool) (xs : List A) → any p xs ≡ false → (x : A) → Memᴰ x xs → p x ≡ false
  any_false p xs h x m = not_true_false (p x) (λ e. true_not_false (member_any p m e) h)

  -- the one element where a test holds
  pub only_member : (t : Bool) (x y : A) → Memᴰ y (only t x) ↔ ((t ≡ true) × (y ≡ x))
  only_member true x y = (λ m. (refl, elim (Memᴰ.cases_cons m) [ inl e ↦ e | inr n ↦ absurd (Memᴰ.not-nil n) ]), λ h. Memᴰ.head h.1)
  only_member false x y = (λ m. absurd (Memᴰ.not-nil m), λ h. absurd (true_not_false h.0 refl))

  -- the elements kept are those of which the test holds
  pub keep_member : (p : A → Bool) (xs : List A) (x : A) → Memᴰ x (keep p xs) ↔ (Memᴰ x xs × (p x ≡ true))
  keep_member p [] x = (λ m. absurd (Memᴰ.not-nil m), λ h. absurd (Memᴰ.not-nil h.0))
  keep_member p (y ∷ ys) x = (λ m. there (Memᴰ.append_cases (only (p y) y) m) (keep_member p ys x).0, λ h. back (Memᴰ.cases_cons h.0) h.1 (keep_member p ys x).1)
    where
      there : Memᴰ x (only (p y) y) ⊎ Memᴰ x (keep p ys) → (Memᴰ x (keep p ys) → Memᴰ x ys × (p x ≡ true)) → Memᴰ x (y ∷ ys) × (p x ≡ true)
      there (inl m) below = let r = (only_member (p y) y x).0 m in (Memᴰ.head r.1, ap p r.1 ∙ r.0)
      there (inr m) below = let r = below m in (Memᴰ.tail r.0, r.1)

      back : (x ≡ y) ⊎ Memᴰ x ys → p x ≡ true → (Memᴰ x ys × (p x ≡ true) → Memᴰ x (keep p ys)) → Memᴰ x (keep p (y ∷ ys))
      back (inl e) h below = Memᴰ.append_left (keep p ys) ((only_member (p y) y x).1 (ap p (sym e) ∙ h, e))
      back (inr m) h below = Memᴰ.append_right (only (p y) y) (below (m, h))

  -- tests that agree on each element keep the same elements
  pub keep_same : (p q : A → Bool) (xs : List A) → ((x : A) → Memᴰ x xs → p x ≡ q x) → keep p xs ≡ keep q xs
  keep_same p q [] h = refl
  keep_same p q (x ∷ xs) h =
      let first : p x ≡ q x = h x (Memᴰ.head refl) in
      let others : keep p xs ≡ keep q xs = keep_same p q xs (λ y m. h y (Memᴰ.tail m)) in
      rw (first, others)

  -- no more elements are kept than there are
  pub keep_length : (p : A → Bool) (xs : List A) → length (keep p xs) ≤ length xs
  keep_length p [] = omega arith
  keep_length p (x ∷ xs) = step (p x) (keep_length p xs)
    where
      step : (t : Bool) → length (keep p xs) ≤ length xs → length (only t x ++ keep p xs) ≤ suc (length xs)
      step true h = omega arith
      step false h = omega arith

  -- no element is at fault, each judged by those before it
  abbrev pub Faultless : (List A → A → Bool) → List A → List A → Type 0
  Faultless bad before [] = Unit {0}
  Faultless bad before (x ∷ xs) = (bad before x ≡ false) × Faultless bad (x ∷ before) xs

  -- there is no first element at fault exactly when no element is
  pub first_fault_none : (bad : List A → A → Bool) (before : List A) (place : ℕ) (xs : List A) → (first_fault bad before place xs ≡ None) ↔ Faultless bad before xs
  first_fault_none bad before place [] = (λ e. tt, λ h. refl)
  first_fault_none bad before place (x ∷ xs) = step (bad before x) (first_fault_none bad (x ∷ before) (place + 1) xs)
    where
      later : Option ℕ
      later = first_fault bad (x ∷ before) (place + 1) xs

      step : (t : Bool) → ((later ≡ None) ↔ Faultless bad (x ∷ before) xs) → (◌≡◌ {A = Option ℕ} (elim t [ true ↦ Some place | false ↦ later ]) None) ↔ ((t ≡ false) × Faultless bad (x ∷ before) xs)
      step true below = (λ f. let n : ◌≡◌ {A = ℕ} 0 1 = cc in absurd (omega arith), λ h. absurd (true_not_false refl h.0))
      step false below = (λ f. (refl, below.0 f), λ h. below.1 h.1)

  -- where the elements before do not matter, no element is at fault exactly when each is not
  pub faultless_each : (bad : A → Bool) (before xs : List A) → Faultless (λ before x. bad x) before xs ↔ ((x : A) → Memᴰ x xs → bad x ≡ false)
  faultless_each bad before xs = (λ h. every_member (λ x. bad x ≡ false) ((go before xs).0 h), λ h. (go before xs).1 (member_every (λ x. bad x ≡ false) xs h))
    where
      go : (before xs : List A) → Faultless (λ before x. bad x) before xs ↔ Every (λ x. bad x ≡ false) xs
      go before [] = (λ h. tt, λ h. tt)
      go before (x ∷ xs) = (λ h. (h.0, (go (x ∷ before) xs).0 h.1), λ h. (h.0, (go (x ∷ before) xs).1 h.1))

module _ {A B : Type 0} where
  -- an element of the lists of the elements, one after another, is in the list of one of them
  pub flat_member : (f : A → List B) (xs : List A) (y : B) → Memᴰ y (flat f xs) ↔ ((x : A) × Memᴰ x xs × Memᴰ y (f x))
  flat_member f [] y = (λ m. absurd (Memᴰ.not-nil m), λ h. absurd (Memᴰ.not-nil h.1))
  flat_member f (x ∷ xs) y = (λ m. there (Memᴰ.append_cases (f x) m) (flat_member f xs y).0, λ h. back h.0 (Memᴰ.cases_cons h.1) h.2 (flat_member f xs y).1)
    where
      there : Memᴰ y (f x) ⊎ Memᴰ y (flat f xs) → (Memᴰ y (flat f xs) → (z : A) × Memᴰ z xs × Memᴰ y (f z)) → (z : A) × Memᴰ z (x ∷ xs) × Memᴰ y (f z)
      there (inl m) below = (x, Memᴰ.head refl, m)
      there (inr m) below = let r = below m in (r.0, Memᴰ.tail r.1, r.2)

      back : (z : A) → (z ≡ x) ⊎ Memᴰ z xs → Memᴰ y (f z) → ((z : A) × Memᴰ z xs × Memᴰ y (f z) → Memᴰ y (flat f xs)) → Memᴰ y (f x ++ flat f xs)
      back z (inl e) m below = Memᴰ.append_left (flat f xs) (rw e at m)
      back z (inr n) m below = Memᴰ.append_right (f x) (below (z, n, m))

  -- lists of at most so many elements each, one after another
  pub flat_length : (f : A → List B) (most : ℕ) (xs : List A) → ((x : A) → length (f x) ≤ most) → length (flat f xs) ≤ most * length xs
  flat_length f most [] h = omega arith
  flat_length f most (x ∷ xs) h = omega (arith, length-append (f x) (flat f xs), h x, flat_length f most xs h, mul-suc most (length xs))

  -- functions that agree on each element give the same list
  pub map_same : (f g : A → B) (xs : List A) → ((x : A) → Memᴰ x xs → f x ≡ g x) → map f xs ≡ map g xs
  map_same f g [] h = refl
  map_same f g (x ∷ xs) h =
      let first : f x ≡ g x = h x (Memᴰ.head refl) in
      let others : map f xs ≡ map g xs = map_same f g xs (λ y m. h y (Memᴰ.tail m)) in
      rw (first, others)

  -- functions that agree on each element give the same lists, one after another
  pub flat_same : (f g : A → List B) (xs : List A) → ((x : A) → Memᴰ x xs → f x ≡ g x) → flat f xs ≡ flat g xs
  flat_same f g [] h = refl
  flat_same f g (x ∷ xs) h =
      let first : f x ≡ g x = h x (Memᴰ.head refl) in
      let others : flat f xs ≡ flat g xs = flat_same f g xs (λ y m. h y (Memᴰ.tail m)) in
      rw (first, others)

-- the numbers from m on, n of them
pub count_member : (m n k : ℕ) → Memᴰ k (count m n) ↔ ((m ≤ k) × (k < m + n))
count_member m zero k = (λ h. absurd (Memᴰ.not-nil h), λ h. absurd (omega arith))
count_member m (suc n) k = (λ h. there (Memᴰ.cases_cons h) (count_member (m + 1) n k).0, λ h. back (ltb m k) refl h (count_member (m + 1) n k).1)
  where
    there : (k ≡ m) ⊎ Memᴰ k (count (m + 1) n) → (Memᴰ k (count (m + 1) n) → (m + 1 ≤ k) × (k < m + 1 + n)) → (m ≤ k) × (k < m + suc n)
    there (inl e) below = omega arith
    there (inr h) below = let r = below h in omega arith

    back : (t : Bool) → ltb m k ≡ t → (m ≤ k) × (k < m + suc n) → ((m + 1 ≤ k) × (k < m + 1 + n) → Memᴰ k (count (m + 1) n)) → Memᴰ k (count m (suc n))
    back true e h below = let l : m < k = ltb-true m k e in Memᴰ.tail (below (omega arith))
    back false e h below = let same : k ≡ m = omega (arith, ltb-false m k e) in Memᴰ.head same

-- each number rises over those before it
abbrev pub Rising : List ℕ → Type 0
Rising [] = Unit {0}
Rising (x ∷ xs) = Every (λ y. x < y) xs × Rising xs

-- the numbers from m on rise
pub count_rising : (m n : ℕ) → Rising (count m n)
count_rising m zero = tt
count_rising m (suc n) = (member_every (λ y. m < y) (count (m + 1) n) (λ k h. let r = (count_member (m + 1) n k).0 h in omega arith), count_rising (m + 1) n)

-- those of rising numbers that are kept rise
pub keep_rising : (p : ℕ → Bool) (xs : List ℕ) → Rising xs → Rising (keep p xs)
keep_rising p [] h = tt
keep_rising p (x ∷ xs) h = step (p x) (keep_rising p xs h.1)
  where
    step : (t : Bool) → Rising (keep p xs) → Rising (only t x ++ keep p xs)
    step true below = (member_every (λ y. x < y) (keep p xs) (λ k m. every_member (λ y. x < y) h.0 k ((keep_member p xs k).0 m).0), below)
    step false below = below

-- the largest of some numbers is at least each of them
pub largest_bounds : (xs : List ℕ) (x : ℕ) → Memᴰ x xs → x ≤ largest xs
largest_bounds xs x m = every_member (λ y. y ≤ largest xs) (go xs) x m
  where
    go : (xs : List ℕ) → Every (λ y. y ≤ largest xs) xs
    go [] = tt
    go (x ∷ xs) = (omega arith, member_every (λ y. y ≤ largest (x ∷ xs)) xs (λ y m. let r = every_member (λ y. y ≤ largest xs) (go xs) y m in omega arith))

-- the largest of some numbers is at most what each of them is at most
pub largest_least : (xs : List ℕ) (bound : ℕ) → ((x : ℕ) → Memᴰ x xs → x ≤ bound) → largest xs ≤ bound
largest_least [] bound h = omega arith
largest_least (x ∷ xs) bound h =
    let first : x ≤ bound = h x (Memᴰ.head refl) in
    let others : largest xs ≤ bound = largest_least xs bound (λ y m. h y (Memᴰ.tail m)) in
    omega arith
