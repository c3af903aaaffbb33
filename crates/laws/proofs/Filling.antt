-- A loop that fills a list from the front, one element a turn: below the place that it has reached, the list holds what a function gives at each place.
-- When every place is filled, the list is what the function gives at the numbers from 0 on.
use Prim.Native.Nat.{ℕ, ◌+◌, ◌<◌}
use native.Mathlib.Nat.{zero-add}
use mathlib.Core.Path.{◌≡◌, sym, ap, ◌∙◌}
use mathlib.Core.List.{List, map}
use lib.ListN.{length, get_or, set, length-map, get_or-map}
use Rattle.std.proofs.lemmas.List.Edits.{fill_by_more}
use Rattle.std.proofs.lemmas.List.FromFn.{fill_by_all}
use Rattle.laws.specs.Lists.{count}
use Rattle.laws.proofs.Lists.{numbers_same, map_count}

module _ {A : Type 0} (d : A) (f : ℕ → A) where
  -- the list holds the function's values at the places below k
  abbrev pub Filled : ℕ → List A → Type 0
  Filled k xs = (i : ℕ) → i < k → get_or xs i d ≡ f i

  -- a turn: with the next value stored, one more place is filled
  pub filled_more : (k : ℕ) (xs : List A) {v : A} → Filled k xs → k < length xs → v ≡ f k → Filled (k + 1) (set xs k v)
  filled_more k xs {v} h l e = rw e (fill_by_more f xs k d l h)

  -- at the end the list is those values
  pub filled_all : (n : ℕ) (xs : List A) → length xs ≡ n → Filled n xs → xs ≡ map f (count 0 n)
  filled_all n xs l h = fill_by_all f xs n d l h ∙ ap (map f) (numbers_same 0 n)

-- a function's values at the elements of a list, looked up one by one, are its values at the list
pub map_places : {A B : Type 0} (g : A → B) (ys : List A) (e : A) (n : ℕ) → length ys ≡ n → map (λ k. g (get_or ys k e)) (count 0 n) ≡ map g ys
map_places g ys e n l =
    map_count (λ k. g (get_or ys k e)) 0 n (map g ys) (g e) (length-map ys g ∙ l)
    (λ k b. ap (λ i. g (get_or ys i e)) (zero-add k) ∙ sym (get_or-map g ys k e))
