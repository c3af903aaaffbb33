-- The order of words, and lists of sequences in that order. Two words that begin alike are compared where they go on;
-- a list is in order if its two halves are, and each sequence of the first stands before each of the second. Of two words only one stands before the other, so that
-- one list at most holds given sequences in order.
use Prim.Native.Nat.{ℕ, ◌<◌}
use native.Mathlib.Omega.{arith}
use mathlib.Core.List.{List, [], ◌∷◌, ◌++◌, reverse, reverse-cons, append-nil}
use mathlib.Core.List.Memᴰ
use mathlib.Core.List.{Memᴰ}
use mathlib.Core.Logic.{◌↔◌, ◌⊎◌, inl, inr}
use mathlib.Core.Path.{◌≡◌, refl, ap, ap₂, sym, ◌∙◌}
use lib.Seq.{append_snoc}
use Rattle.laws.specs.Lists.{Every}
use Rattle.laws.proofs.Members.{every_member}
use Rattle.laws.proofs.Parts.{every_append}
use Rattle.search.specs.Order.{Before, beginning, differs, same, InOrder}

-- a word stands before all that go on from it
pub before_longer : (u : List ℕ) (k : ℕ) (w : List ℕ) → Before u (u ++ k ∷ w)
before_longer [] k w = beginning
before_longer (x ∷ u) k w = same (before_longer u k w)

-- words that begin alike and then differ stand as the jobs do where they differ
pub before_differs : (u : List ℕ) {k m : ℕ} (v w : List ℕ) → k < m → Before (u ++ k ∷ v) (u ++ m ∷ w)
before_differs [] v w h = differs h
before_differs (x ∷ u) v w h = same (before_differs u v w h)

-- what the first jobs of two words say, if one stands before the other
abbrev Compared : List ℕ → List ℕ → Type 0
Compared v [] = ⊥
Compared [] (m ∷ w) = Unit {0}
Compared (k ∷ v) (m ∷ w) = (k < m) ⊎ ((k ≡ m) × Compared v w)

compared : {v w : List ℕ} → Before v w → Compared v w
compared beginning = tt
compared (differs h) = inl h
compared (same h) = inr (refl, compared h)

-- of two words only one stands before the other
pub before_one_way : {v w : List ℕ} → Before v w → Before w v → ⊥
before_one_way {v} {w} h k = go v w (compared h) (compared k)
  where
    go : (v w : List ℕ) → Compared v w → Compared w v → ⊥
    go v [] h k = h
    go [] (m ∷ w) h k = k
    go (k ∷ v) (m ∷ w) (inl h) (inl i) = omega arith
    go (k ∷ v) (m ∷ w) (inl h) (inr i) = omega arith
    go (k ∷ v) (m ∷ w) (inr h) (inl i) = omega arith
    go (k ∷ v) (m ∷ w) (inr h) (inr i) = go v w h.1 i.1

-- one sequence stands before another
abbrev pub Sooner : List ℕ → List ℕ → Type 0
Sooner p q = Before (reverse p) (reverse q)

-- two lists in order are in order one after the other, if each sequence of the first stands before each of the second
pub in_order_append : (ps qs : List (List ℕ)) → InOrder ps → InOrder qs → Every (λ p. Every (Sooner p) qs) ps → InOrder (ps ++ qs)
in_order_append [] qs h k between = k
in_order_append (p ∷ ps) qs h k between = (every_append (Sooner p) ps qs h.0 between.0, in_order_append ps qs h.1 k between.1)

-- in a list in order each sequence stands before those after it
pub in_order_after : (before : List (List ℕ)) (q : List ℕ) (after : List (List ℕ)) → InOrder (before ++ q ∷ after) → Every (Sooner q) after
in_order_after [] q after h = h.0
in_order_after (p ∷ before) q after h = in_order_after before q after h.1

-- lists in order that hold the same sequences are equal
pub in_order_same : (ps qs : List (List ℕ)) → InOrder ps → InOrder qs → ((r : List ℕ) → Memᴰ r ps ↔ Memᴰ r qs) → ps ≡ qs
in_order_same [] [] h k e = refl
in_order_same [] (q ∷ qs) h k e = absurd (Memᴰ.not-nil ((e q).1 (Memᴰ.head refl)))
in_order_same (p ∷ ps) [] h k e = absurd (Memᴰ.not-nil ((e p).0 (Memᴰ.head refl)))
in_order_same (p ∷ ps) (q ∷ qs) h k e = ap₂ ◌∷◌ first (in_order_same ps qs h.1 k.1 (λ r. (later first h.0 (λ m. (e r).0 m), later (sym first) k.0 (λ m. (e r).1 m))))
  where
    compare : (p ≡ q) ⊎ Memᴰ p qs → (q ≡ p) ⊎ Memᴰ q ps → p ≡ q
    compare (inl s) other = s
    compare (inr m) (inl s) = sym s
    compare (inr m) (inr n) = absurd (before_one_way (every_member (Sooner p) h.0 q n) (every_member (Sooner q) k.0 p m))

    first : p ≡ q
    first = compare (Memᴰ.cases_cons ((e p).0 (Memᴰ.head refl))) (Memᴰ.cases_cons ((e q).1 (Memᴰ.head refl)))

    later : {a b r : List ℕ} {us vs : List (List ℕ)} → a ≡ b → Every (Sooner a) us → (Memᴰ r (a ∷ us) → Memᴰ r (b ∷ vs)) → Memᴰ r us → Memᴰ r vs
    later {a} {b} {r} {us} {vs} s sooner there m = step (Memᴰ.cases_cons (there (Memᴰ.tail m)))
      where
        step : (r ≡ b) ⊎ Memᴰ r vs → Memᴰ r vs
        step (inl t) = let itself : Sooner a a = rw (t ∙ sym s) at (every_member (Sooner a) sooner r m) in absurd (before_one_way itself itself)
        step (inr n) = n

-- a sequence goes on from another
abbrev pub Extends : List ℕ → List ℕ → Type 0
Extends q r = (w : List ℕ) × (reverse r ≡ reverse q ++ w)

-- a sequence goes on from itself, by nothing
pub extends_itself : (q : List ℕ) → Extends q q
extends_itself q = ([], sym (append-nil (reverse q)))

-- what goes on with a job has that job next
pub extends_word : (q : List ℕ) (k : ℕ) (r : List ℕ) → Extends (k ∷ q) r → (w : List ℕ) × (reverse r ≡ reverse q ++ k ∷ w)
extends_word q k r x = (x.0, x.1 ∙ ap (λ (l : List ℕ). l ++ x.0) (reverse-cons k q) ∙ append_snoc (reverse q) k x.0)

-- what goes on with a job goes on
pub extends_next : (q : List ℕ) (k : ℕ) (r : List ℕ) → Extends (k ∷ q) r → Extends q r
extends_next q k r x = let y = extends_word q k r x in (k ∷ y.0, y.1)

-- "a beginning before its extensions"
pub extends_sooner : (q : List ℕ) (k : ℕ) (r : List ℕ) → Extends (k ∷ q) r → Sooner q r
extends_sooner q k r x = let y = extends_word q k r x in rw y.1 (before_longer (reverse q) k y.0)

-- "by the first job number that differs"
pub differ_sooner : (q : List ℕ) {k m : ℕ} → k < m → (p r : List ℕ) → Extends (k ∷ q) p → Extends (m ∷ q) r → Sooner p r
differ_sooner q {k} {m} h p r x y =
    let u = extends_word q k p x in
    let v = extends_word q m r y in
    rw (u.1, v.1) (before_differs (reverse q) u.0 v.0 h)
