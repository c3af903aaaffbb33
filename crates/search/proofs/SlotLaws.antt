-- The slots of an order of jobs, written one behind the other; and that the jobs of an order have run, as each next one is placed.
use Prim.Native.Nat.{ℕ, ◌+◌, ◌-◌, ◌*◌, ◌≤◌, ◌<◌}
use native.Mathlib.Omega.{arith}
use mathlib.Core.Path.{◌≡◌, refl, ap, ◌∙◌}
use mathlib.Core.Bool.{Bool, true, false}
use mathlib.Core.List.{List, map}
use lib.Dec.{eqb}
use lib.ListN.{length, set}
use lib.Seq.{paste, get_or-set_same, get_or-set_other}
use borrow.Author.Tests.{eqb-true, eqb-false}
use Rattle.laws.specs.Lists.{count}
use Rattle.laws.proofs.Rows.{length_row}
use Rattle.laws.proofs.Counting.{count_more, count_end}
use Rattle.records.specs.Record.{slot, slot_bytes}
use Rattle.records.specs.Table.{encode}
use Rattle.records.specs.Outcome.{overwrite}
use Rattle.records.specs.declared.Slot.{Slot}
use Rattle.records.proofs.Codec.{slots}
use Rattle.records.proofs.Writing.{written_first}
use Rattle.records.proofs.WritingLoop.{Writing, writing_first, writing_one, writing_end}
use Rattle.search.specs.State.{at, slot_at, slots_in, HaveRun}

module _ (cost order ends : List ℕ) (n : ℕ) where
  -- the slots of the jobs from place i on, up to n
  unfoldable pub slots_from : ℕ → List Slot
  slots_from i = map (slot_at cost order ends) (count i (n - i))

  -- of the first n slots those from place i on are left to write
  abbrev pub SlotsLeft : List ℕ → List ℕ → ℕ → Type 0
  SlotsLeft before out i = Writing slot_bytes before 0 (slots_from 0) out i (slots_from i)

  -- at first all are left
  pub slots_first : (before : List ℕ) → 12 * n ≤ length before → SlotsLeft before before 0
  unfolding slots_from
  slots_first before h = writing_first slots before 0 (slots_from 0) (omega (arith, length_row (slot_at cost order ends) 0 (n - 0)))

  -- with the slot at place i written, those from i + 1 on are left
  pub slots_next : (before out : List ℕ) (i k : ℕ) (next : List ℕ) → SlotsLeft before out i → i < n → k ≡ at order i
      → next ≡ paste out (12 * i) (slot_bytes (slot (at order i) (at ends k - at cost k) (at ends k))) 12 → SlotsLeft before next (i + 1)
  unfolding slots_from
  slots_next before out i k next left below number made =
      writing_one slots left next (slot_at cost order ends i) (slots_from (i + 1)) (ap (map (slot_at cost order ends)) (count_more i n below)) (rw number at made)

  -- at the end all are written
  pub slots_end : (before out : List ℕ) (i : ℕ) → SlotsLeft before out i → n ≤ i → out ≡ overwrite (slots_in cost order ends n) before
  unfolding slots_from slots_in
  slots_end before out i left end =
      let all : n - 0 ≡ n = omega arith in
      writing_end slots left (ap (map (slot_at cost order ends)) (count_end i n end))
      ∙ written_first slots before (slots_from 0)
      ∙ ap (λ m. overwrite (encode slot_bytes (map (slot_at cost order ends) (count 0 m))) before) all

-- the first n jobs and the one placed after them have run
pub have_run_more : (cost order ends : List ℕ) (k end n : ℕ) → HaveRun cost order ends n → n < length order → k < length ends → k < 48 → at cost k ≤ end
    → HaveRun cost (set order n k) (set ends k end) (n + 1)
have_run_more cost order ends k end n h in_order inEnds below fits i l = step (eqb i n) refl
  where
    placed : (m : ℕ) (t : Bool) → eqb m k ≡ t → (m < 48) × (at cost m ≤ at ends m) → (m < 48) × (at cost m ≤ at (set ends k end) m)
    placed m true e r = let same : m ≡ k = eqb-true m k e in rw same (below, rw (get_or-set_same ends k end 0 inEnds) fits)
    placed m false e r = rw (get_or-set_other ends k m end 0 (eqb-false m k e)) r

    step : (t : Bool) → eqb i n ≡ t → (at (set order n k) i < 48) × (at cost (at (set order n k) i) ≤ at (set ends k end) (at (set order n k) i))
    step true e = let same : i ≡ n = eqb-true i n e in rw (same, get_or-set_same order n k 0 in_order) (below, rw (get_or-set_same ends k end 0 inEnds) fits)
    step false e =
        let other : i ≡ n → ⊥ = eqb-false i n e in
        rw (get_or-set_other order n i k 0 other) (placed (at order i) (eqb (at order i) k) refl (h i (omega arith)))

-- what `write_slots` is proved by
pub ruleset slots_laws = (slots_first, slots_next, slots_end)
