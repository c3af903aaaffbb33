-- Two lists that are pasted one behind the other are one paste of both: the second paste leaves the first as it is, and what comes after both is as it was.
use Prim.Native.Nat.{ℕ, ◌+◌, ◌≤◌}
use native.Mathlib.Nat.{add_assoc}
use native.Mathlib.Omega.{arith}
use mathlib.Core.Path.{◌≡◌, refl, sym, ap, ◌∙◌}
use mathlib.Core.List.{List, [], ◌∷◌, ◌++◌, append_assoc}
use lib.ListN.{length, take, drop, length-append}
use lib.Seq.{paste, take_all, drop-drop, take-paste, drop-paste}
use Rattle.laws.specs.Lists.{flat}

-- two pastes that adjoin are one
pub paste_join : (d : List ℕ) (at : ℕ) (xs ys : List ℕ) (m n : ℕ) → length xs ≡ m → length ys ≡ n → at + m ≤ length d
    → paste (paste d at xs m) (at + m) ys n ≡ paste d at (xs ++ ys) (m + n)
paste_join d at xs ys m n ex ey h =
    let room : at ≤ length d = omega arith in
    let whole : m ≤ length xs = omega arith in
    let before : take (at + m) (paste d at xs m) ≡ take at d ++ take m xs = take-paste d at xs m room whole in
    let after : drop (at + m + n) (paste d at xs m) ≡ drop (at + m + n) d = sym (drop-drop n (at + m) (paste d at xs m)) ∙ ap (drop n) (drop-paste d at xs m room whole) ∙ drop-drop n (at + m) d in
    let first : take m xs ≡ xs = take_all m xs (omega arith) in
    let second : take n ys ≡ ys = take_all n ys (omega arith) in
    let both : take (m + n) (xs ++ ys) ≡ xs ++ ys = take_all (m + n) (xs ++ ys) (omega (arith, length-append xs ys)) in
    rw (before, after, first, second, both, ← add_assoc at m n, append_assoc (take at d) xs ys)

-- the lists of the elements of two lists, one after another
pub flat_append : {A B : Type 0} (f : A → List B) (xs ys : List A) → flat f (xs ++ ys) ≡ flat f xs ++ flat f ys
flat_append f [] ys = refl
flat_append f (x ∷ xs) ys = ap (λ rest. f x ++ rest) (flat_append f xs ys) ∙ sym (append_assoc (f x) (flat f xs) (flat f ys))
