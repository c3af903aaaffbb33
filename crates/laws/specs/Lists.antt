-- Words on lists and truth values that definitions of more than one crate use.
use Rattle.std.specs.Prelude.{ℕ, zero, suc, ◌+◌, max, Bool, true, false, ◌&&◌, ◌||◌, List, [], ◌∷◌, ◌++◌, Option, None, Some}

-- the numbers from m on, n of them
abbrev pub count : ℕ → ℕ → List ℕ
count m zero = []
count m (suc n) = m ∷ count (m + 1) n

-- the largest of a list of numbers, 0 for none
abbrev pub largest : List ℕ → ℕ
largest [] = 0
largest (x ∷ xs) = max x (largest xs)

-- the sum of a list of numbers
abbrev pub total : List ℕ → ℕ
total [] = 0
total (x ∷ xs) = x + total xs

module _ {ℓ} {A : Type ℓ} where
  -- the list of one element where a test holds, else none
  abbrev pub only : Bool → A → List A
  only true x = x ∷ []
  only false x = []

  -- a test holds of some element
  abbrev pub any : (A → Bool) → List A → Bool
  any p [] = false
  any p (x ∷ xs) = p x || any p xs

  -- a test holds of every element
  abbrev pub all : (A → Bool) → List A → Bool
  all p [] = true
  all p (x ∷ xs) = p x && all p xs

  -- the elements of which a test holds, in their order
  abbrev pub keep : (A → Bool) → List A → List A
  keep p [] = []
  keep p (x ∷ xs) = only (p x) x ++ keep p xs

  -- every element has a property
  abbrev pub Every : (A → Type 0) → List A → Type 0
  Every P [] = Unit {0}
  Every P (x ∷ xs) = P x × Every P xs

module _ {A : Type 0} where
  -- there is a value
  abbrev pub found : Option A → Bool
  found None = false
  found (Some x) = true

  -- the place of the first element at fault, counted on from `place`; the test also sees the elements before it, the last one first
  abbrev pub first_fault : (List A → A → Bool) → List A → ℕ → List A → Option ℕ
  first_fault bad before place [] = None
  first_fault bad before place (x ∷ xs) = elim (bad before x) [ true ↦ Some place | false ↦ first_fault bad (x ∷ before) (place + 1) xs ]

-- each element's own list, one after another
abbrev pub flat {ℓ κ} : {A : Type ℓ} {B : Type κ} → (A → List B) → List A → List B
flat f [] = []
flat f (x ∷ xs) = f x ++ flat f xs
