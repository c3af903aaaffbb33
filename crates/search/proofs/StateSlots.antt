-- The slots that the state of a sequence gives are those of the sequence's run, in running order: the order is the sequence, and each job ends in the state when it does in the run.
use Prim.Native.Nat.{ℕ, ◌-◌, ◌≤◌}
use native.Mathlib.Nat.{zero-add}
use native.Mathlib.Omega.{arith}
use mathlib.Core.Path.{◌≡◌, refl, sym, ap, ◌∙◌}
use mathlib.Core.List.{List, [], ◌∷◌, ◌++◌, map, map-map, map-append, map-id, reverse, reverse-cons, Memᴰ}
use lib.ListN.{length, get_or, take, length-map, get_or-map}
use lib.Seq.{length-take-le, get_or-take}
use Rattle.laws.specs.Lists.{count}
use Rattle.laws.proofs.Lists.{map_count}
use Rattle.laws.proofs.Members.{every_member, map_same}
use Rattle.records.specs.Record.{slot, slot_bytes}
use Rattle.records.specs.Table.{encode}
use Rattle.records.specs.declared.Slot.{Slot}
use Rattle.records.specs.declared.JobRecord.{JobRecord}
use Rattle.jobs.specs.Judge.{Sound}
use Rattle.jobs.specs.Jobs.{cost}
use Rattle.jobs.specs.Arrays.{jobs_of}
use Rattle.jobs.proofs.Sound.{numbers_below}
use Rattle.search.specs.Run.{end_in, run}
use Rattle.search.specs.Order.{Sequence}
use Rattle.search.specs.Call.{slots_bytes}
use Rattle.search.specs.State.{at, slots_in}
use Rattle.search.proofs.Rest.{sequence_known}
use Rattle.search.proofs.Running.{Says, run_numbers, run_holds, run_slots, placed}
use Rattle.search.proofs.ByNumber.{cost_at}
use Rattle.search.proofs.States.{state_of, order_length, state_order, state_ends}

module _ {A B : Type 0} where
  -- a function's values at the first places of a list are its values at the first elements
  map_front : (g : A → B) (ys : List A) (d : A) (n : ℕ) → n ≤ length ys → map (λ i. g (get_or ys i d)) (count 0 n) ≡ map g (take n ys)
  map_front g ys d n h =
      map_count (λ i. g (get_or ys i d)) 0 n (map g (take n ys)) (g d) (length-map (take n ys) g ∙ length-take-le n ys h)
      (λ k below. ap (λ i. g (get_or ys i d)) (zero-add k) ∙ sym (get_or-map g (take n ys) k d ∙ ap g (get_or-take n ys k d below)))

  -- a function's values at a list that is turned round are its values, turned round
  map_reverse : (g : A → B) (xs : List A) → map g (reverse xs) ≡ reverse (map g xs)
  map_reverse g [] = refl
  map_reverse g (x ∷ xs) =
      ap (map g) (reverse-cons x xs) ∙ map-append g (reverse xs) (x ∷ []) ∙ ap (λ (l : List B). l ++ (g x ∷ [])) (map_reverse g xs) ∙ sym (reverse-cons (g x) (map g xs))

module _ (table : List JobRecord) (sound : Sound table) (q : List ℕ) (s : Sequence table q) where
  -- a job's slot, by when it ends in the run
  slot_for : ℕ → Slot
  slot_for n = slot n (end_in (run table q) n - cost table n) (end_in (run table q) n)

  -- each slot of the run is its job's
  slots_run : map slot_for q ≡ run table q
  unfolding slot_for
  slots_run =
      ap (map slot_for) (sym (run_numbers table q))
      ∙ map-map slot_for (λ x. x.number) (run table q)
      ∙ map_same (λ x. slot_for x.number) (λ x. x) (run table q) one
      ∙ map-id (run table q)
    where
      one : (x : Slot) → Memᴰ x (run table q) → slot_for x.number ≡ x
      one x m =
          let says = every_member (Says table q) (run_slots table q s) x m in
          let ends : end_in (run table q) x.number ≡ x.end = omega (arith, says.0, says.1, (placed table q x.number (run_holds table q x m)).ended) in
          rw (says.0, ends)

  -- the state's slots are the run's
  pub slots_same : length q ≤ 48 → slots_in (jobs_of table).cost (state_of table q).order (state_of table q).ends (length q) ≡ slots_bytes table q
  unfolding slots_in slots_bytes slot_for
  slots_same short =
      ap (encode slot_bytes)
      (map_front of_state (state_of table q).order 0 (length q) (omega (arith, order_length table q))
      ∙ ap (map of_state) (state_order table q short)
      ∙ map_reverse of_state q
      ∙ ap reverse (map_same of_state slot_for q same ∙ slots_run))
    where
      of_state : ℕ → Slot
      of_state n = slot n (at (state_of table q).ends n - at (jobs_of table).cost n) (at (state_of table q).ends n)

      same : (n : ℕ) → Memᴰ n q → of_state n ≡ slot_for n
      same n m =
          let below = numbers_below table n (sequence_known table sound q s n m) in
          rw (state_ends table sound q s n below, cost_at table n below)
