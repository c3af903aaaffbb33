-- How many jobs and links there are, as the code counts them: the marks that are set, and the cells that are not 0.
use Prim.Native.Nat.{ℕ, zero, suc, ◌+◌, ◌≤◌}
use native.Mathlib.Nat.{zero-add}
use native.Mathlib.Omega.{arith}
use mathlib.Core.Path.{◌≡◌, refl, sym, ap, ap₂, ◌∙◌}
use mathlib.Core.Bool.{Bool, true, false, not, cond}
use mathlib.Core.List.{List, [], ◌∷◌, map}
use lib.Dec.{eqb}
use lib.ListN.{length, get_or, length-append}
use Rattle.std.specs.List.{sum_by, count_by}
use Rattle.std.proofs.Math.Dec.{eqb-suc-zero}
use Rattle.std.proofs.lemmas.List.Sums.{sum_by-cons}
use Rattle.laws.specs.Lists.{count, keep, only, flat}
use Rattle.laws.proofs.Lists.{map_count}
use Rattle.laws.proofs.Members.{flat_length}
use Rattle.jobs.specs.declared.Jobs.{Jobs}
use Rattle.normal.specs.Gaps.{Square, cell}
use Rattle.normal.specs.Chosen.{present_in, link_of, row_links, links_in}

-- how many cells of a row hold a link
abbrev pub holding : List ℕ → ℕ
holding row = count_by (λ j. not (eqb (get_or row j 0) 0)) (count 0 48)

-- a list is what it holds at its places
by_place : {A : Type 0} (xs : List A) (d : A) (n : ℕ) → length xs ≡ n → map (λ k. get_or xs k d) (count 0 n) ≡ xs
by_place xs d n long = map_count (λ k. get_or xs k d) 0 n xs d long (λ k b. ap (λ i. get_or xs i d) (zero-add k))

-- a sum over what a function gives is a sum over what it is given
sum_given : {A B : Type 0} (size : B → ℕ) (f : A → B) (xs : List A) → sum_by (λ x. size (f x)) xs ≡ sum_by size (map f xs)
sum_given size f [] = refl
sum_given size f (x ∷ xs) = sum_by-cons (λ y. size (f y)) x xs ∙ ap (◌+◌ (size (f x))) (sum_given size f xs) ∙ sym (sum_by-cons size (f x) (map f xs))

-- as many elements of a list pass a test as places of it
pub places_counted : {A : Type 0} (p : A → Bool) (xs : List A) (d : A) → length xs ≡ 48 → count_by (λ j. p (get_or xs j d)) (count 0 48) ≡ count_by p xs
places_counted p xs d long = sum_given (λ x. cond (p x) 1 0) (λ j. get_or xs j d) (count 0 48) ∙ ap (count_by p) (by_place xs d 48 long)

-- as many numbers are kept as pass
kept : (p : ℕ → Bool) (ns : List ℕ) → length (keep p ns) ≡ count_by p ns
kept p [] = refl
kept p (n ∷ ns) = length-append (only (p n) n) (keep p ns) ∙ ap₂ ◌+◌ (one (p n)) (kept p ns) ∙ sym (sum_by-cons (λ k. cond (p k) 1 0) n ns)
  where
    one : (t : Bool) → length (only t n) ≡ cond t 1 0
    one true = refl
    one false = refl

-- lists one after another have the sum of their lengths
flat_sum : {A : Type 0} (f : ℕ → List A) (size : ℕ → ℕ) → ((n : ℕ) → length (f n) ≡ size n) → (ns : List ℕ) → length (flat f ns) ≡ sum_by size ns
flat_sum f size h [] = refl
flat_sum f size h (n ∷ ns) = length-append (f n) (flat f ns) ∙ ap₂ ◌+◌ (h n) (flat_sum f size h ns) ∙ sym (sum_by-cons size n ns)

-- the jobs are as many as the marks that are set
pub present_counted : (jobs : Jobs) → length jobs.present ≡ 48 → length (present_in jobs) ≡ count_by (λ b. b) jobs.present
unfolding present_in
present_counted jobs long = kept (λ n. get_or jobs.present n false) (count 0 48) ∙ places_counted (λ b. b) jobs.present false long

-- a cell holds a link where it is not 0
one_link : (i j c : ℕ) → length (link_of i j c) ≡ cond (not (eqb c 0)) 1 0
unfolding link_of
one_link i j zero = refl
one_link i j (suc latency) = rw (eqb-suc-zero latency)

-- the links are as many as the cells that hold one, row by row
pub links_counted : (links : Square) → length links ≡ 48 → length (links_in links) ≡ sum_by holding links
unfolding links_in row_links
links_counted links long =
    flat_sum (row_links links) (λ i. holding (get_or links i [])) row (count 0 48)
    ∙ sum_given holding (λ i. get_or links i []) (count 0 48)
    ∙ ap (sum_by holding) (by_place links [] 48 long)
  where
    row : (i : ℕ) → length (row_links links i) ≡ holding (get_or links i [])
    row i = flat_sum (λ j. link_of i j (cell links i j)) (λ j. cond (not (eqb (cell links i j) 0)) 1 0) (λ j. one_link i j (cell links i j)) (count 0 48)

-- and there are no more than cells
pub links_most : (links : Square) → length (links_in links) ≤ 2304
unfolding links_in row_links link_of
links_most links = flat_length (row_links links) 48 (count 0 48) (λ i. flat_length (λ j. link_of i j (cell links i j)) 1 (count 0 48) (λ j. at_most i j (cell links i j)))
  where
    at_most : (i j c : ℕ) → length (link_of i j c) ≤ 1
    at_most i j zero = omega arith
    at_most i j (suc latency) = omega arith
