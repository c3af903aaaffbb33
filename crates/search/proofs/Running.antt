-- Running a sequence: what the start of a job is the largest of, and when each job of it starts and ends. A law on the links is by induction on the table's records,
-- a law on a job of the sequence by induction on the sequence: it is the last one, which starts after all others have ended, or stands before it and is not touched by it.
use Prim.Native.Nat.{ℕ, ◌+◌, ◌-◌, ◌≤◌, max}
use native.Mathlib.Omega.{arith}
use mathlib.Core.Bool.{Bool, true, false, cond}
use mathlib.Core.Path.{◌≡◌, refl, ap, sym, ◌∙◌}
use mathlib.Core.Logic.{◌⊎◌, inl, inr}
use mathlib.Core.List.Memᴰ
use mathlib.Core.List.{List, [], ◌∷◌, map, Memᴰ}
use lib.Dec.{eqb}
use borrow.Author.Tests.{eqb-true, eqb-false, eq-eqb, ne_eqb}
use Rattle.laws.specs.Lists.{Every}
use Rattle.laws.proofs.Members.{every_member, member_every}
use Rattle.records.specs.declared.Link.{Link}
use Rattle.records.specs.declared.Slot.{Slot}
use Rattle.records.specs.declared.JobRecord.{JobRecord}
use Rattle.records.specs.declared.JobRecord.TheVariants.{J, L}
use Rattle.jobs.specs.Jobs.{cost, release}
use Rattle.jobs.proofs.Sound.{job_not_link}
use Rattle.search.specs.Order.{Sequence}
use Rattle.search.specs.Run.{end_in, free, links_allow, start_after, run_next, run}

-- what the links allow is at most what each predecessor's end plus latency is at most
pub links_allow_least : (records : List JobRecord) (slots : List Slot) (k bound : ℕ)
    → ((l : Link) → Memᴰ (L l) records → l.to ≡ k → end_in slots l.from + l.latency ≤ bound) → links_allow records slots k ≤ bound
unfolding links_allow
links_allow_least [] slots k bound h = omega arith
links_allow_least (J j ∷ records) slots k bound h = links_allow_least records slots k bound (λ l m. h l (Memᴰ.tail m))
links_allow_least (L l ∷ records) slots k bound h = step (eqb l.to k) refl (links_allow_least records slots k bound (λ l m. h l (Memᴰ.tail m)))
  where
    step : (t : Bool) → eqb l.to k ≡ t → links_allow records slots k ≤ bound → max (cond t (end_in slots l.from + l.latency) 0) (links_allow records slots k) ≤ bound
    step true e below = omega (arith, h l (Memᴰ.head refl) (eqb-true l.to k e))
    step false e below = omega arith

-- what the links allow is at least each predecessor's end plus latency
pub links_allow_bounds : (records : List JobRecord) (slots : List Slot) (l : Link) → Memᴰ (L l) records → end_in slots l.from + l.latency ≤ links_allow records slots l.to
unfolding links_allow
links_allow_bounds [] slots l m = absurd (Memᴰ.not-nil m)
links_allow_bounds (J j ∷ records) slots l m = step (Memᴰ.cases_cons m) (links_allow_bounds records slots l)
  where
    step : (L l ≡ J j) ⊎ Memᴰ (L l) records → (Memᴰ (L l) records → end_in slots l.from + l.latency ≤ links_allow records slots l.to)
        → end_in slots l.from + l.latency ≤ links_allow records slots l.to
    step (inl e) below = absurd (job_not_link (sym e))
    step (inr m) below = below m
links_allow_bounds (L i ∷ records) slots l m = step (Memᴰ.cases_cons m) (links_allow_bounds records slots l)
  where
    step : (L l ≡ L i) ⊎ Memᴰ (L l) records → (Memᴰ (L l) records → end_in slots l.from + l.latency ≤ links_allow records slots l.to)
        → end_in slots l.from + l.latency ≤ max (cond (eqb i.to l.to) (end_in slots i.from + i.latency) 0) (links_allow records slots l.to)
    step (inl e) below = let same : l ≡ i = cc in rw (same, eq-eqb i.to i.to refl) (omega arith)
    step (inr m) below = omega (arith, below m)

-- a job ends in a run by the time by which its slot ends
pub end_in_early : (slots : List Slot) (end : ℕ → ℕ) → Every (λ s. s.end ≤ end s.number) slots → (i : ℕ) → end_in slots i ≤ end i
unfolding end_in
end_in_early [] end h i = omega arith
end_in_early (s ∷ slots) end h i = step (eqb s.number i) refl (end_in_early slots end h.1 i)
  where
    step : (t : Bool) → eqb s.number i ≡ t → end_in slots i ≤ end i → cond t s.end (end_in slots i) ≤ end i
    step true e below = rw (← eqb-true s.number i e) h.0
    step false e below = below

-- when a job of a sequence starts: a run holds ends, so a start is an end less the cost
abbrev pub start_in : List JobRecord → List ℕ → ℕ → ℕ
start_in table q i = end_in (run table q) i - cost table i

-- a job of a sequence starts at or after its release, runs for its cost, and has ended when the core is free
pub record Placed (table : List JobRecord) (q : List ℕ) (k : ℕ) : Type 0 where
  pub released : release table k ≤ start_in table q k
  pub ended : start_in table q k + cost table k ≡ end_in (run table q) k
  pub done : end_in (run table q) k ≤ free (run table q)

module _ (table : List JobRecord) where
  -- the last job ends a cost after all that it waits for allows
  pub end_last : (q : List ℕ) (k : ℕ) → end_in (run table (k ∷ q)) k ≡ start_after table (run table q) k + cost table k
  unfolding run run_next end_in
  end_last q k = rw (eq-eqb k k refl)

  -- every other job ends when it did without the last one
  pub end_other : (q : List ℕ) (k i : ℕ) → eqb k i ≡ false → end_in (run table (k ∷ q)) i ≡ end_in (run table q) i
  unfolding run run_next end_in
  end_other q k i e = rw e

  -- so the last job starts when all that it waits for allows
  pub start_last : (q : List ℕ) (k : ℕ) → start_in table (k ∷ q) k ≡ start_after table (run table q) k
  start_last q k = omega (arith, end_last q k)

  -- and every other job starts when it did without the last one
  pub start_other : (q : List ℕ) (k i : ℕ) → eqb k i ≡ false → start_in table (k ∷ q) i ≡ start_in table q i
  start_other q k i e = omega (arith, end_other q k i e)

  -- a run has a slot for each job of the sequence, in its order
  pub run_numbers : (q : List ℕ) → map (λ s. s.number) (run table q) ≡ q
  unfolding run run_next
  run_numbers [] = refl
  run_numbers (k ∷ q) = ap (λ (l : List ℕ). k ∷ l) (run_numbers q)

  -- so each slot is that of a job of the sequence
  pub run_holds : (q : List ℕ) (s : Slot) → Memᴰ s (run table q) → Memᴰ s.number q
  run_holds q s m = rw (run_numbers q) at (Memᴰ.map (λ s. s.number) m)

  -- a slot says when its job starts in the run of a sequence, and that it ends a cost later
  abbrev pub Says : List ℕ → Slot → Type 0
  Says q s = (start_in table q s.number ≡ s.start) × (s.end ≡ s.start + cost table s.number)

  -- so does each slot of the run
  pub run_slots : (q : List ℕ) → Sequence table q → Every (Says q) (run table q)
  unfolding run run_next
  run_slots [] h = tt
  run_slots (k ∷ q) h = ((start_last q k, refl), member_every (Says (k ∷ q)) (run table q) (λ s m. still s m (every_member (Says q) (run_slots q h.1) s m)))
    where
      still : (s : Slot) → Memᴰ s (run table q) → Says q s → Says (k ∷ q) s
      still s m says =
          (start_other q k s.number (ne_eqb k s.number (λ e. h.0.distinct (Memᴰ.cast e (run_holds q s m)))) ∙ says.0, says.1)

  -- a job of a sequence that is not the last one stands before it
  stands_before : (q : List ℕ) (k i : ℕ) → Memᴰ i (k ∷ q) → eqb k i ≡ false → Memᴰ i q
  stands_before q k i m e = step (Memᴰ.cases_cons m)
    where
      step : (i ≡ k) ⊎ Memᴰ i q → Memᴰ i q
      step (inl s) = absurd (eqb-false k i e (sym s))
      step (inr n) = n

  -- each job of a sequence is placed
  pub placed : (q : List ℕ) (i : ℕ) → Memᴰ i q → Placed table q i
  unfolding run run_next free start_after
  placed [] i m = absurd (Memᴰ.not-nil m)
  placed (k ∷ q) i m = step (eqb k i) refl (placed q i)
    where
      step : (t : Bool) → eqb k i ≡ t → (Memᴰ i q → Placed table q i) → Placed table (k ∷ q) i
      step true e below =
          let same = eqb-true k i e in
          let ends = ap (end_in (run table (k ∷ q))) same in
          omega (arith, end_last q k, ends, ap (release table) same, ap (cost table) same)
      step false e below =
          let b = below (stands_before q k i m e) in
          omega (arith, end_other q k i e)

  -- a job that stands before the last one has ended when the last one starts
  pub ended_before_last : (q : List ℕ) (k i : ℕ) → Memᴰ i q → eqb k i ≡ false → start_in table (k ∷ q) i + cost table i ≤ start_in table (k ∷ q) k
  unfolding start_after
  ended_before_last q k i m e = let p = placed q i m in omega (arith, start_last q k, start_other q k i e, p.ended, p.done)

  -- where two jobs do not overlap in the run of a sequence
  abbrev pub Disjoint : List ℕ → ℕ → ℕ → Type 0
  Disjoint q a b = (start_in table q a + cost table a ≤ start_in table q b) ⊎ (start_in table q b + cost table b ≤ start_in table q a)

  -- two jobs of a sequence do not overlap
  pub run_apart : (q : List ℕ) (a b : ℕ) → Memᴰ a q → Memᴰ b q → (a ≡ b → ⊥) → Disjoint q a b
  run_apart [] a b m n other = absurd (Memᴰ.not-nil m)
  run_apart (k ∷ q) a b m n other = step (eqb k a) refl (eqb k b) refl (λ m n. run_apart q a b m n other)
    where
      still : eqb k a ≡ false → eqb k b ≡ false → Disjoint q a b → Disjoint (k ∷ q) a b
      still d e (inl h) = inl (omega (arith, start_other q k a d, start_other q k b e))
      still d e (inr h) = inr (omega (arith, start_other q k a d, start_other q k b e))

      step : (s : Bool) → eqb k a ≡ s → (t : Bool) → eqb k b ≡ t → (Memᴰ a q → Memᴰ b q → Disjoint q a b) → Disjoint (k ∷ q) a b
      step true d true e below = absurd (other (sym (eqb-true k a d) ∙ eqb-true k b e))
      step true d false e below = inr (omega (arith, ended_before_last q k b (stands_before q k b n e) e, ap (start_in table (k ∷ q)) (eqb-true k a d)))
      step false d true e below = inl (omega (arith, ended_before_last q k a (stands_before q k a m d) d, ap (start_in table (k ∷ q)) (eqb-true k b e)))
      step false d false e below = still d e (below (stands_before q k a m d) (stands_before q k b n e))

  -- a sequence that holds a job holds what is linked to it
  pub holds_linked : (q : List ℕ) → Sequence table q → (l : Link) → Memᴰ (L l) table → Memᴰ l.to q → Memᴰ l.from q
  holds_linked [] s l m n = absurd (Memᴰ.not-nil n)
  holds_linked (k ∷ q) s l m n = step (Memᴰ.cases_cons n) (holds_linked q s.1 l m)
    where
      step : (l.to ≡ k) ⊎ Memᴰ l.to q → (Memᴰ l.to q → Memᴰ l.from q) → Memᴰ l.from (k ∷ q)
      step (inl e) below = Memᴰ.tail (s.0.linked l m e)
      step (inr n) below = Memᴰ.tail (below n)

  -- a job of a sequence starts at or after each predecessor's end plus latency
  pub run_linked : (q : List ℕ) → Sequence table q → (l : Link) → Memᴰ (L l) table → Memᴰ l.to q
      → start_in table q l.from + cost table l.from + l.latency ≤ start_in table q l.to
  unfolding start_after
  run_linked [] s l m n = absurd (Memᴰ.not-nil n)
  run_linked (k ∷ q) s l m n = step (eqb k l.to) refl (run_linked q s.1 l m)
    where
      not_last : Memᴰ l.from q → eqb k l.from ≡ false
      not_last p = ne_eqb k l.from (λ e. s.0.distinct (Memᴰ.cast e p))

      step : (t : Bool) → eqb k l.to ≡ t
          → (Memᴰ l.to q → start_in table q l.from + cost table l.from + l.latency ≤ start_in table q l.to)
          → start_in table (k ∷ q) l.from + cost table l.from + l.latency ≤ start_in table (k ∷ q) l.to
      step true e below =
          let same = eqb-true k l.to e in
          let first = s.0.linked l m (sym same) in
          omega (
            arith,
            start_last q k,
            start_other q k l.from (not_last first),
            (placed q l.from first).ended,
            links_allow_bounds table (run table q) l m,
            ap (links_allow table (run table q)) same,
            ap (start_in table (k ∷ q)) same,
          )
      step false e below =
          let stands = stands_before q k l.to n e in
          let first = holds_linked q s.1 l m stands in
          omega (arith, below stands, start_other q k l.from (not_last first), start_other q k l.to e)
