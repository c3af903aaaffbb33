-- A loop that goes through a list place by place and gathers what each element gives: at place i, what is still to come is what the rest gives.
use Prim.Native.Nat.{ℕ, ◌+◌, ◌≤◌}
use native.Mathlib.Omega.{arith}
use mathlib.Core.Path.{◌≡◌, ap, ◌∙◌}
use mathlib.Core.List.{List, [], ◌++◌}
use lib.ListN.{length, drop, length-append, drop_of_length-le}
use Rattle.laws.specs.Lists.{flat}
use Rattle.laws.proofs.Walking.{Next}

module _ {A B : Type 0} (g : A → List B) (xs : List A) (i : ℕ) where
  -- the next element gives its own, and the rest after it theirs
  pub gather_more : {x : A} → Next xs i x → flat g (drop i xs) ≡ g x ++ flat g (drop (i + 1) xs)
  gather_more next = ap (flat g) next.rest

  -- at the end nothing is to come
  pub gather_end : length xs ≤ i → flat g (drop i xs) ≡ []
  gather_end h = ap (flat g) (drop_of_length-le xs h)

  -- a turn of a loop that counts what is gathered
  pub tally_more : {x : A} (had : ℕ) {next w : ℕ} → Next xs i x → next ≡ had + length (g x) → w ≡ had + length (flat g (drop i xs)) → w ≡ next + length (flat g (drop (i + 1) xs))
  tally_more {x} had here on whole =
      let split = ap length (gather_more here) ∙ length-append (g x) (flat g (drop (i + 1) xs)) in
      omega arith

  -- its end
  pub tally_end : (had : ℕ) {w : ℕ} → length xs ≤ i → w ≡ had + length (flat g (drop i xs)) → had ≡ w
  tally_end had h whole = let none_left = ap length (gather_end h) in omega arith
