-- A loop that puts a function's value in the place of each element of a list, from the front on.
-- At place i the list is the function's values at the first i elements, and then the elements that were there.
use Prim.Native.Nat.{ℕ, ◌+◌, ◌<◌, ◌≤◌}
use native.Mathlib.Numerals.{add-one}
use native.Mathlib.Omega.{arith}
use mathlib.Core.Path.{◌≡◌, sym, ap, ◌∙◌}
use mathlib.Core.List.{List, [], ◌∷◌, ◌++◌, map, map-append, append-nil}
use lib.ListN.{length, get_or, set, take, drop, length-map, drop_of_length-le}
use lib.Seq.{length-take-le, take_all, take-suc, drop-cons, append_snoc, set_at, get_or_at, set-get_or}

module _ {A : Type 0} (g : A → A) (d : A) (xs : List A) where
  -- the first i elements changed, the others as they were
  abbrev pub partly : ℕ → List A
  partly i = map g (take i xs) ++ drop i xs

  module _ (i : ℕ) (h : i < length xs) where
    changed : length (map g (take i xs)) ≡ i
    changed = length-map (take i xs) g ∙ length-take-le i xs (omega arith)

    parts : partly i ≡ map g (take i xs) ++ get_or xs i d ∷ drop (i + 1) xs
    parts = rw (add-one, ← drop-cons xs i d h)

    one_more : map g (take i xs) ++ g (get_or xs i d) ∷ [] ≡ map g (take (i + 1) xs)
    one_more = sym (map-append g (take i xs) (get_or xs i d ∷ [])) ∙ ap (map g) (sym (take-suc xs i d h) ∙ ap (λ n. take n xs) (sym (add-one i)))

    -- the element at place i is the one that was there
    pub partly_read : get_or (partly i) i d ≡ get_or xs i d
    partly_read = ap (λ l. get_or l i d) parts ∙ get_or_at (map g (take i xs)) (get_or xs i d) (drop (i + 1) xs) d i changed

    -- with the function's value in its place, one more element is changed
    pub partly_more : set (partly i) i (g (get_or xs i d)) ≡ partly (i + 1)
    partly_more =
        ap (λ l. set l i (g (get_or xs i d))) parts
        ∙ set_at (map g (take i xs)) (get_or xs i d) (drop (i + 1) xs) (g (get_or xs i d)) i changed
        ∙ sym (append_snoc (map g (take i xs)) (g (get_or xs i d)) (drop (i + 1) xs))
        ∙ ap (λ l. l ++ drop (i + 1) xs) one_more

    -- and so where the function leaves the element as it is
    pub partly_same : g (get_or xs i d) ≡ get_or xs i d → partly i ≡ partly (i + 1)
    partly_same e = sym (set-get_or (partly i) i d) ∙ ap (set (partly i) i) (partly_read ∙ sym e) ∙ partly_more

  -- at the end every element is changed
  pub partly_all : (i : ℕ) → length xs ≤ i → partly i ≡ map g xs
  partly_all i h = rw (take_all i xs h, drop_of_length-le xs h) (append-nil (map g xs))
