-- Laws on lists and truth values that proofs of more than one crate cite. Each is by induction on its list, or by cases on its test; a law on `count` is proved from any first number on.
use Prim.Native.Nat.{ℕ, zero, suc, ◌+◌, ◌<◌}
use native.Mathlib.Omega.{arith}
use mathlib.Core.Path.{◌≡◌, refl, ap, ap₂, ◌∙◌}
use mathlib.Core.Bool.{Bool, true, false, cond, and-eq-true_iff}
use mathlib.Core.List.{List, [], ◌∷◌, map}
use Rattle.std.specs.Prelude.{Option, None, Some}
use Rattle.std.specs.List.{range_with_len}
use lib.ListN.{length, get_or, drop}
use Rattle.laws.specs.Lists.{count, all, Every}

-- std's word for numbers in a row is ours
pub numbers_same : (m n : ℕ) → range_with_len m n ≡ count m n
numbers_same m zero = refl
numbers_same m (suc n) = ap (◌∷◌ m) (numbers_same (m + 1) n)

module _ {A : Type 0} where
  -- two lists are equally long and have equal elements at equal places
  abbrev pub Same : List A → List A → Type 0
  Same [] [] = Unit {0}
  Same [] (y ∷ ys) = ⊥
  Same (x ∷ xs) [] = ⊥
  Same (x ∷ xs) (y ∷ ys) = (x ≡ y) × Same xs ys

  -- lists with the same elements are equal
  pub same : (xs ys : List A) → Same xs ys → xs ≡ ys
  same [] [] h = refl
  same [] (y ∷ ys) h = absurd h
  same (x ∷ xs) [] h = absurd h
  same (x ∷ xs) (y ∷ ys) h = ap₂ ◌∷◌ h.0 (same xs ys h.1)

  -- a test that passes on the whole list passes on every element
  pub all_every : (p : A → Bool) (xs : List A) → all p xs ≡ true → Every (λ x. p x ≡ true) xs
  all_every p [] h = tt
  all_every p (x ∷ xs) h = let both = (and-eq-true_iff (p x) (all p xs)).0 h in (both.0, all_every p xs both.1)

  -- a weaker property holds of every element too
  pub every_weaker : (P Q : A → Type 0) → ((x : A) → P x → Q x) → (xs : List A) → Every P xs → Every Q xs
  every_weaker P Q f [] h = tt
  every_weaker P Q f (x ∷ xs) h = (f x h.0, every_weaker P Q f xs h.1)

  -- what holds of every element and of the default holds of whatever is looked up
  pub every_get_d : (P : A → Type 0) (xs : List A) (d : A) → P d → Every P xs → (k : ℕ) → P (get_or xs k d)
  every_get_d P [] d p h k = p
  every_get_d P (x ∷ xs) d p h zero = h.0
  every_get_d P (x ∷ xs) d p h (suc k) = every_get_d P xs d p h.1 k

  -- what is left of a list after its first elements has the property too
  pub every_drop : (P : A → Type 0) (n : ℕ) (xs : List A) → Every P xs → Every P (drop n xs)
  every_drop P zero xs h = h
  every_drop P (suc n) [] h = tt
  every_drop P (suc n) (x ∷ xs) h = every_drop P n xs h.1

  -- what a function gives at n numbers in a row has a property, if it has it at each number below their end
  pub every_count : (P : A → Type 0) (f : ℕ → A) (m n : ℕ) → ((k : ℕ) → k < m + n → P (f k)) → Every P (map f (count m n))
  every_count P f m zero h = tt
  every_count P f m (suc n) h = (h m (omega arith), every_count P f (m + 1) n (λ k l. h k (omega arith)))

  -- a list is what a function gives at as many numbers in a row, if the function gives its elements
  pub map_count : (f : ℕ → A) (m n : ℕ) (xs : List A) (d : A) → length xs ≡ n → ((k : ℕ) → k < n → f (m + k) ≡ get_or xs k d) → map f (count m n) ≡ xs
  map_count f m zero [] d e h = refl
  map_count f m zero (x ∷ xs) d e h = absurd (omega arith)
  map_count f m (suc n) [] d e h = absurd (omega arith)
  map_count f m (suc n) (x ∷ xs) d e h = ap₂ ◌∷◌ (ap f (omega arith) ∙ h 0 (omega arith)) (map_count f (m + 1) n xs d (omega arith) (λ k l. ap f (omega arith) ∙ h (suc k) (omega arith)))

  -- whatever an optional value gives has a property
  abbrev pub Gives : (A → Type 0) → Option A → Type 0
  Gives P o = (r : A) → o ≡ Some r → P r

  -- what gives nothing gives what one likes
  pub gives_none : (P : A → Type 0) → Gives P None
  gives_none P r e = let z : ◌≡◌ {A = ℕ} 0 1 = cc in absurd (omega arith)

  -- a value with the property is given
  pub gives_some : (P : A → Type 0) {x : A} → P x → Gives P (Some x)
  gives_some P {x} h r e = let same : x ≡ r = cc in rw same at h

  -- a choice gives what its branches give, the first of them where the test passes
  pub gives_cond : {P : A → Type 0} {x y : Option A} (t : Bool) → (t ≡ true → Gives P x) → Gives P y → Gives P (cond t x y)
  gives_cond true f g = f refl
  gives_cond false f g = g
