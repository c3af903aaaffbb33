-- The schedule and the openings. The list of open sequences falls into those before its first full one, that one and those after it; it is in order,
-- so that the one found is the first in the order of words, and the openings are as many as the open sequences that stand before it, and it.
use Prim.Native.Nat.{ℕ, ◌+◌}
use native.Mathlib.Omega.{arith}
use mathlib.Core.Bool.{Bool, true, false}
use mathlib.Core.Path.{◌≡◌, refl, ap, sym, ◌∙◌}
use mathlib.Core.Logic.{◌↔◌, ◌⊎◌, inl, inr}
use Rattle.std.specs.Prelude.{Option, None, Some}
use Rattle.std.proofs.lemmas.Option.{none-some}
use mathlib.Core.List.{List, [], ◌∷◌, ◌++◌}
use mathlib.Core.List.Memᴰ
use mathlib.Core.List.{Memᴰ}
use lib.ListN.{length}
use Rattle.laws.specs.Lists.{Every}
use Rattle.laws.proofs.Members.{true_not_false, every_member, member_every}
use Rattle.records.specs.declared.JobRecord.{JobRecord}
use Rattle.jobs.specs.Judge.{Sound}
use Rattle.jobs.specs.Jobs.{numbers}
use Rattle.search.specs.Tree.{open_sequences, full, first_full, up_to_full, schedule, openings}
use Rattle.search.specs.Order.{Open, Full, First, InOrder, Lists, Openings, up_to}
use Rattle.search.proofs.Words.{Sooner, before_one_way, in_order_after}
use Rattle.search.proofs.Rest.{full_means}
use Rattle.search.proofs.Opening.{lists_open, lists_unique}

-- a list of sequences around its first full one, and the count up to it
pub record Around (n : ℕ) (qs : List (List ℕ)) (q : List ℕ) : Type 0 where
  pub before : List (List ℕ)
  pub after : List (List ℕ)
  pub whole : qs ≡ before ++ q ∷ after
  pub not_before : Every (λ p. full n p ≡ false) before
  pub is_full : full n q ≡ true
  pub counted : up_to_full n qs ≡ length before + 1

-- the count up to the first full sequence, by whether the list begins with one
counted_first : (n : ℕ) (p : List ℕ) (qs : List (List ℕ)) (t : Bool) → full n p ≡ t → up_to_full n (p ∷ qs) ≡ elim t [ true ↦ 1 | false ↦ up_to_full n qs + 1 ]
unfolding up_to_full
counted_first n p qs t e = ap (λ (s : Bool). elim s as (λ b. ℕ) [ true ↦ 1 | false ↦ up_to_full n qs + 1 ]) e

-- where a first full sequence is found, the list falls into parts around it
pub first_full_some : (n : ℕ) (qs : List (List ℕ)) (q : List ℕ) → first_full n qs ≡ Some q → Around n qs q
unfolding first_full
first_full_some n [] q e = absurd (none-some q e)
first_full_some n (p ∷ qs) q e = step (full n p) refl e (first_full_some n qs q)
  where
    step : (t : Bool) → full n p ≡ t → ◌≡◌ {A = Option (List ℕ)} (elim t [ true ↦ Some p | false ↦ first_full n qs ]) (Some q) → (first_full n qs ≡ Some q → Around n qs q) → Around n (p ∷ qs) q
    step true h e below =
        let same : p ≡ q = cc in
        record { before = []; after = qs; whole = ap (λ (r : List ℕ). r ∷ qs) same; not_before = tt; is_full = ap (full n) (sym same) ∙ h; counted = counted_first n p qs true h ∙ omega arith }
    step false h e below =
        let r = below e in
        record {
          before = p ∷ r.before;
          after = r.after;
          whole = ap (λ (l : List (List ℕ)). p ∷ l) r.whole;
          not_before = (h, r.not_before);
          is_full = r.is_full;
          counted = counted_first n p qs false h ∙ omega (arith, r.counted);
        }

-- where none is found, none of the list is full, and all are counted
pub first_full_none : (n : ℕ) (qs : List (List ℕ)) → first_full n qs ≡ None → Every (λ p. full n p ≡ false) qs × (up_to_full n qs ≡ length qs)
unfolding first_full up_to_full
first_full_none n [] e = (tt, refl)
first_full_none n (p ∷ qs) e = step (full n p) refl e (first_full_none n qs)
  where
    step : (t : Bool) → full n p ≡ t → ◌≡◌ {A = Option (List ℕ)} (elim t [ true ↦ Some p | false ↦ first_full n qs ]) None
        → (first_full n qs ≡ None → Every (λ p. full n p ≡ false) qs × (up_to_full n qs ≡ length qs))
        → Every (λ p. full n p ≡ false) (p ∷ qs) × (up_to_full n (p ∷ qs) ≡ length (p ∷ qs))
    step true h e below = absurd (none-some p (sym e))
    step false h e below = let r = below e in ((h, r.0), counted_first n p qs false h ∙ omega (arith, r.1))

-- there is only one first full sequence
pub first_unique : (table : List JobRecord) (p q : List ℕ) → First table p → First table q → p ≡ q
first_unique table p q f g = step (f.first q g.is_open g.is_full) (g.first p f.is_open f.is_full)
  where
    step : (q ≡ p) ⊎ Sooner p q → (p ≡ q) ⊎ Sooner q p → p ≡ q
    step (inl e) other = sym e
    step (inr h) (inl e) = e
    step (inr h) (inr k) = absurd (before_one_way h k)

-- the openings with a schedule: the listed sequences fall into those before it, none of them full, it, and those after it; counted are those before it, and it
pub record Opened (table : List JobRecord) (q : List ℕ) : Type 0 where
  pub before : List (List ℕ)
  pub after : List (List ℕ)
  pub whole : open_sequences table ≡ before ++ q ∷ after
  pub not_before : Every (λ p. Full table p → ⊥) before
  pub counted : openings table ≡ length before + 1

module _ (table : List JobRecord) (sound : Sound table) where
  -- the open sequences, as they are listed
  listed : Lists table (open_sequences table)
  listed = lists_open table sound

  -- a listed sequence that the test finds not full is not full
  not_full : (q : List ℕ) → Open table q → full (length (numbers table)) q ≡ false → Full table q → ⊥
  not_full q o e f = true_not_false ((full_means table sound q o.sequence).1 f) e

  -- "when there is none": no schedule means that no open sequence holds all jobs, and that all open sequences are counted
  pub schedule_none : schedule table ≡ None → ((q : List ℕ) → Open table q → Full table q → ⊥) × (openings table ≡ length (open_sequences table))
  unfolding schedule openings
  schedule_none e =
      let r = first_full_none (length (numbers table)) (open_sequences table) e in
      (λ q o f. not_full q o (every_member (λ p. full (length (numbers table)) p ≡ false) r.0 q (listed.complete q o)) f, r.1)

  -- a sequence that is listed is open
  is_open_lem : (p : List ℕ) → Memᴰ p (open_sequences table) → Open table p
  is_open_lem = every_member (Open table) listed.are_open

  module _ (q : List ℕ) (found : schedule table ≡ Some q) where
    -- the listed sequences around the schedule
    around : Around (length (numbers table)) (open_sequences table) q
    unfolding schedule
    around = first_full_some (length (numbers table)) (open_sequences table) q found

    -- in order around it
    ordered : InOrder (around.before ++ q ∷ around.after)
    ordered = rw around.whole at listed.in_order

    -- each open sequence stands in one of the parts around it
    parts : (p : List ℕ) → Open table p → Memᴰ p around.before ⊎ Memᴰ p (q ∷ around.after)
    parts p o = Memᴰ.append_cases around.before (rw around.whole at (listed.complete p o))

    -- those before it are listed
    earlier : (p : List ℕ) → Memᴰ p around.before → Memᴰ p (open_sequences table)
    earlier p m = rw around.whole (Memᴰ.append_left (q ∷ around.after) m)

    -- none of those before it is full
    none_before : Every (λ p. Full table p → ⊥) around.before
    none_before =
        member_every (λ p. Full table p → ⊥) around.before
        (λ p m. not_full p (is_open_lem p (earlier p m)) (every_member (λ p. full (length (numbers table)) p ≡ false) around.not_before p m))

    -- counted are those before it, and it
    counted_before : openings table ≡ length around.before + 1
    unfolding openings
    counted_before = around.counted

    -- "the number of open sequences up to and including it"
    pub schedule_openings : Opened table q
    schedule_openings = record { before = around.before; after = around.after; whole = around.whole; not_before = none_before; counted = counted_before }

    -- "The schedule is the first open sequence that holds all jobs"
    pub schedule_first : First table q
    schedule_first =
        record {
          is_open = opened;
          is_full = (full_means table sound q opened.sequence).0 around.is_full;
          first = λ other o f. step other f (parts other o);
        }
      where
        opened : Open table q
        opened = is_open_lem q (rw around.whole (Memᴰ.append_right around.before (Memᴰ.head refl)))

        later : (other : List ℕ) → (other ≡ q) ⊎ Memᴰ other around.after → (other ≡ q) ⊎ Sooner q other
        later other (inl e) = inl e
        later other (inr m) = inr (every_member (Sooner q) (in_order_after around.before q around.after ordered) other m)

        step : (other : List ℕ) → Full table other → Memᴰ other around.before ⊎ Memᴰ other (q ∷ around.after) → (other ≡ q) ⊎ Sooner q other
        step other f (inl m) = absurd (every_member (λ p. Full table p → ⊥) none_before other m f)
        step other f (inr m) = later other (Memᴰ.cases_cons m)

  -- there is a schedule exactly when there is a first open sequence that holds all jobs, and it is that one
  pub schedule_means : (q : List ℕ) → (schedule table ≡ Some q) ↔ First table q
  schedule_means q = (schedule_first q, λ f. step f (schedule table) refl)
    where
      step : First table q → (o : Option (List ℕ)) → schedule table ≡ o → schedule table ≡ Some q
      step f None e = absurd ((schedule_none e).0 q f.is_open f.is_full)
      step f (Some p) e = e ∙ ap Some (first_unique table p q (schedule_first p e) f)

  -- the openings where there is a first: of the list of just the open sequences, those before it, and it
  pub openings_first : (q : List ℕ) → First table q → (earlier : List (List ℕ)) × (later : List (List ℕ)) × Lists table (earlier ++ q ∷ later) × (openings table ≡ length earlier + 1)
  openings_first q f = let r = schedule_openings q ((schedule_means q).1 f) in (r.before, r.after, rw r.whole at listed, r.counted)

  -- the openings where there is none: all open sequences
  pub openings_all : ((q : List ℕ) → Open table q → Full table q → ⊥) → (qs : List (List ℕ)) → Lists table qs → openings table ≡ length qs
  openings_all h qs all = step (schedule table) refl
    where
      step : (o : Option (List ℕ)) → schedule table ≡ o → openings table ≡ length qs
      step None e = (schedule_none e).1 ∙ ap length (lists_unique table (open_sequences table) qs listed all)
      step (Some q) e = let f = schedule_first q e in absurd (h q f.is_open f.is_full)

  -- the openings are the number of open sequences up to and including the schedule, and of all of them where there is none
  pub openings_right : Openings table (openings table)
  openings_right = step (schedule table) refl
    where
      step : (o : Option (List ℕ)) → schedule table ≡ o → Openings table (openings table)
      step None e = rw (schedule_none e).1 (Openings.all (schedule_none e).0 listed)
      step (Some q) e =
          let f = schedule_first q e in
          let r = openings_first q f in
          rw r.3 (up_to r.0 r.1 f r.2)
