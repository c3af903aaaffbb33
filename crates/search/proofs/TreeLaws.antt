-- Laws of the tree of states and of a search through it: what each return of `open` and `try_next` shows.
-- A search through two lists of states goes on with the second where nothing of the first ends it; the tree is gone through a step at a time.
use Prim.Native.Nat.{ℕ, zero, suc, ◌+◌, ◌-◌, ◌≤◌, ◌<◌}
use native.Mathlib.Omega.{arith}
use mathlib.Core.Path.{◌≡◌, refl, sym, ap, ◌∙◌}
use mathlib.Core.Bool.{Bool, true, false, cond}
use mathlib.Core.List.{List, [], ◌∷◌, ◌++◌}
use lib.Dec.{eqb}
use borrow.Author.Tests.{eq-eqb, ne_eqb}
use Rattle.laws.proofs.Counting.{count_more, count_end}
use Rattle.records.specs.Outcome.{Outcome, done, refused, overwrite}
use Rattle.search.specs.declared.State.{State}
use Rattle.search.specs.declared.Found.{Found}
use Rattle.search.specs.declared.Found.TheVariants.{Schedule, Nothing, Spent}
use Rattle.std.specs.Prelude.{Some, None}
use Rattle.search.specs.State.{Given, next_at, place_at, slots_in, Node, node, try_each_at, states_from, opened, tried, walk, number_of, openings_of, Answers}

-- the tree, a step at a time
module _ (g : Given) (s : State) (d : ℕ) where
  opened_step : d < g.count → opened g s d ≡ node s d ∷ tried g s d 0
  unfolding opened tried states_from
  opened_step h =
      let e : g.count - d ≡ suc (g.count - (d + 1)) = omega arith in
      let z : g.limit - 0 ≡ g.limit = omega arith in
      rw (e, z)

  opened_some : (xs : List Node) × (opened g s d ≡ node s d ∷ xs)
  unfolding opened states_from
  opened_some = go (g.count - d)
    where
      go : (n : ℕ) → (xs : List Node) × (states_from g n s d ≡ node s d ∷ xs)
      go zero = (_, refl)
      go (suc n) = (_, refl)

  module _ (k : ℕ) where
    tried_none : g.limit ≤ k → tried g s d k ≡ []
    unfolding tried try_each_at
    tried_none h = rw (count_end k g.limit h)

    tried_ends : (e : ℕ) → k < g.limit → next_at g s k ≡ Some e → tried g s d k ≡ opened g (place_at s k e d) (d + 1) ++ tried g s d (k + 1)
    unfolding tried try_each_at
    tried_ends e h l = rw (count_more k g.limit h, try_each_at, l)

    tried_not : k < g.limit → next_at g s k ≡ None → tried g s d k ≡ tried g s d (k + 1)
    unfolding tried try_each_at
    tried_not h l = rw (count_more k g.limit h, try_each_at, l)

-- what an outcome comes to where more states follow: the search goes on where no full one was found, with the openings so far
abbrev go_on : Outcome → (ℕ → Outcome) → Outcome
go_on o more = cond (eqb o.number 10) (more o.openings) o

module _ (g : Given) (budget : ℕ) where
  -- what is seen at one state, by whether the budget is spent and whether the state is full
  abbrev full : Node → ℕ → Outcome
  full x n = done (n + 1) (slots_in g.cost x.state.order x.state.ends g.count)

  abbrev seen : Node → ℕ → Outcome → Bool → Bool → Outcome
  seen x n rest p q = elim p [ true ↦ refused 11 budget | false ↦ elim q [ true ↦ full x n | false ↦ rest ] ]

  -- a search, a step at a time
  module _ (x : Node) (xs : List Node) (n : ℕ) where
    pub walk_spent : n ≡ budget → walk g budget (x ∷ xs) n ≡ refused 11 budget
    unfolding walk
    walk_spent h = rw (walk, eq-eqb n budget h)

    pub walk_full : (n ≡ budget → ⊥) → x.depth ≡ g.count → walk g budget (x ∷ xs) n ≡ full x n
    unfolding walk
    walk_full h f = rw (walk, ne_eqb n budget h, eq-eqb x.depth g.count f)

    pub walk_on : (n ≡ budget → ⊥) → (x.depth ≡ g.count → ⊥) → walk g budget (x ∷ xs) n ≡ walk g budget xs (n + 1)
    unfolding walk
    walk_on h f = rw (walk, ne_eqb n budget h, ne_eqb x.depth g.count f)

  -- a search through two lists
  walk_append : (xs ys : List Node) (n : ℕ) → walk g budget (xs ++ ys) n ≡ go_on (walk g budget xs n) (walk g budget ys)
  unfolding walk
  walk_append [] ys n = refl
  walk_append (x ∷ xs) ys n = step (eqb n budget) (eqb x.depth g.count) (walk_append xs ys (n + 1))
    where
      step : (p q : Bool) → walk g budget (xs ++ ys) (n + 1) ≡ go_on (walk g budget xs (n + 1)) (walk g budget ys)
          → seen x n (walk g budget (xs ++ ys) (n + 1)) p q ≡ go_on (seen x n (walk g budget xs (n + 1)) p q) (walk g budget ys)
      step true q ih = refl
      step false true ih = refl
      step false false ih = ih

  -- where no full one was found, there is nothing to write
  walk_none : (xs : List Node) (n : ℕ) → (walk g budget xs n).number ≡ 10 → (walk g budget xs n).bytes ≡ []
  unfolding walk
  walk_none [] n h = refl
  walk_none (x ∷ xs) n h = step (eqb n budget) (eqb x.depth g.count) h (walk_none xs (n + 1))
    where
      step : (p q : Bool) → (seen x n (walk g budget xs (n + 1)) p q).number ≡ 10 → ((walk g budget xs (n + 1)).number ≡ 10 → (walk g budget xs (n + 1)).bytes ≡ [])
          → (seen x n (walk g budget xs (n + 1)) p q).bytes ≡ []
      step true q h ih = refl
      step false true h ih = absurd (omega (arith, h))
      step false false h ih = ih h

-- an answer that is not of the kind that goes on
some_found : (r : Found) → ((m : ℕ) → r ≡ Nothing m → ⊥) → number_of r ≡ 10 → ⊥
some_found (Schedule m) h e = absurd (omega (arith, e))
some_found (Nothing m) h e = h m refl
some_found (Spent m) h e = absurd (omega (arith, e))

module _ (g : Given) (s : State) (d b n : ℕ) where
  -- what each return of `open` shows
  module _ (before : List ℕ) where
    pub open_spent : (r : Found) (after : List ℕ) → n ≡ b → number_of r ≡ 11 → openings_of r ≡ b → after ≡ before → Answers (walk g b (opened g s d) n) r before after
    open_spent r after h number openings output =
        let e = opened_some g s d in
        rw (e.1, walk_spent g b (node s d) e.0 n h) record { number = number; openings = openings; output = output }

    pub open_full : (r : Found) (after : List ℕ) → (n ≡ b → ⊥) → d ≡ g.count → number_of r ≡ 0 → openings_of r ≡ n + 1
        → after ≡ overwrite (slots_in g.cost s.order s.ends g.count) before → Answers (walk g b (opened g s d) n) r before after
    open_full r after h f number openings output =
        let e = opened_some g s d in
        rw (e.1, walk_full g b (node s d) e.0 n h f) record { number = number; openings = openings; output = output }

    pub open_on : (r : Found) (after : List ℕ) → (n ≡ b → ⊥) → d < g.count → Answers (walk g b (tried g s d 0) (n + 1)) r before after
        → Answers (walk g b (opened g s d) n) r before after
    open_on r after h l a = rw (opened_step g s d l, walk_on g b (node s d) (tried g s d 0) n h (λ e. omega arith)) a

  -- what each turn of the loop of `try_next` and each of its returns shows
  module _ (k : ℕ) where
    pub next_none : (before : List ℕ) → g.limit ≤ k → Answers (walk g b (tried g s d k) n) (Nothing n) before before
    unfolding walk
    next_none before h = rw (tried_none g s d k h) record { number = refl; openings = refl; output = refl }

    module _ (l : k < g.limit) where
      pub next_not : next_at g s k ≡ None → walk g b (tried g s d (k + 1)) n ≡ walk g b (tried g s d k) n
      next_not e = rw (tried_not g s d k l e)

      module _ (t : State) (e : ℕ) (ends : next_at g s k ≡ Some e) (placed : t ≡ place_at s k e d) (r : Found) (before after : List ℕ)
          (a : Answers (walk g b (opened g t (d + 1)) n) r before after) where
        pub next_stop : ((m : ℕ) → r ≡ Nothing m → ⊥) → Answers (walk g b (tried g s d k) n) r before after
        next_stop h =
            rw (tried_ends g s d k e l ends, ← placed, walk_append g b, ne_eqb (walk g b (opened g t (d + 1)) n).number 10 (λ z. some_found r h (a.number ∙ z))) a

        module _ (m : ℕ) (nothing : r ≡ Nothing m) where
          ten : (walk g b (opened g t (d + 1)) n).number ≡ 10
          ten = sym a.number ∙ ap number_of nothing

          pub next_on : walk g b (tried g s d (k + 1)) m ≡ walk g b (tried g s d k) n
          next_on =
              let found : m ≡ (walk g b (opened g t (d + 1)) n).openings = rw nothing at a.openings in
              rw (tried_ends g s d k e l ends, ← placed, walk_append g b, eq-eqb (walk g b (opened g t (d + 1)) n).number 10 ten, found)

          pub next_kept : after ≡ before
          next_kept = a.output ∙ ap (λ bytes. overwrite bytes before) (walk_none g b (opened g t (d + 1)) n ten)

-- an answer of trying the jobs from a number on is one from the same number on, however that is spelled
pub trying_from : (g : Given) (s : State) (d b n i j : ℕ) (r : Found) (before after : List ℕ) → Answers (walk g b (tried g s d i) n) r before after → i ≡ j
    → Answers (walk g b (tried g s d j) n) r before after
trying_from g s d b n i j r before after a e = rw (← e) a

-- an answer to an outcome is one to an equal outcome, with an equal output before
pub answers_same : (o p : Outcome) (r : Found) (before begun after : List ℕ) → o ≡ p → before ≡ begun → Answers o r before after → Answers p r begun after
answers_same o p r before begun after e f a = rw (← e, ← f) a
