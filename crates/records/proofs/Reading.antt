-- A loop that reads the records of a table one after another, for any kind of table: what it reads at place i is the next of the table's records.
-- The records from place i on are those that are read from there on; where nothing is unreadable, they are the decoded ones, each read.
use Prim.Native.Nat.{ℕ, zero, suc, ◌+◌, ◌*◌, ◌/◌, ◌≤◌, ◌<◌}
use native.Mathlib.Nat.{zero-add}
use native.Mathlib.Omega.{arith}
use mathlib.Core.Path.{◌≡◌, refl, sym, ap, ◌∙◌}
use mathlib.Core.Bool.{not}
use mathlib.Core.List.{List, [], ◌∷◌, map}
use Rattle.std.specs.Prelude.{Option, None, Some}
use lib.ListN.{length, drop, length-map}
use Rattle.laws.specs.Lists.{found}
use Rattle.laws.proofs.Walking.{Next, next_of, FaultFrom, fault_step, fault_here, fault_end}
use Rattle.records.specs.Bytes.{record_at}
use Rattle.records.specs.Table.{reads, read_all, unreadable, decode}
use Rattle.records.proofs.Tables.{unreadable_none}

module _ {A : Type 0} where
  -- what is left of records that were all read was read
  drop_map : (i : ℕ) (rs : List A) → drop i (map Some rs) ≡ map Some (drop i rs)
  drop_map zero rs = refl
  drop_map (suc i) [] = refl
  drop_map (suc i) (r ∷ rs) = drop_map i rs

  -- of records that were all read the first was read
  some_first : (rs : List A) {r : A} {os : List (Option A)} → map Some rs ≡ Some r ∷ os → (later : List A) × (rs ≡ r ∷ later)
  some_first [] e = let z : ◌≡◌ {A = ℕ} 0 1 = cc in absurd (omega arith)
  some_first (x ∷ rs) {r} e = let same : x ≡ r = cc in (rs, rw same)

  -- and is none that cannot be read
  none_first : (rs : List A) {os : List (Option A)} → map Some rs ≡ None ∷ os → ⊥
  none_first [] e = let z : ◌≡◌ {A = ℕ} 0 1 = cc in omega arith
  none_first (x ∷ rs) e = let z : ◌≡◌ {A = ℕ} 0 1 = cc in omega arith

module _ {A : Type 0} (read : (ℕ → ℕ) → Option A) (bytes : List ℕ) where
  -- as many records are read as are asked for
  length_reads : (n place : ℕ) → length (reads read bytes place n) ≡ n
  unfolding reads
  length_reads zero place = refl
  length_reads (suc n) place = ap suc (length_reads n (place + 1))

  -- after the first i records that are read comes the one i places on
  drop_reads : (i n place at : ℕ) → place + i ≡ at → i < n → (later : List (Option A)) × (drop i (reads read bytes place n) ≡ read (record_at bytes at) ∷ later)
  unfolding reads
  drop_reads i zero place at e h = absurd (omega arith)
  drop_reads zero (suc n) place at e h = let same : place ≡ at = omega arith in (reads read bytes (place + 1) n, rw same)
  drop_reads (suc i) (suc n) place at e h = drop_reads i n (place + 1) at (omega arith) (omega arith)

  -- the first record that cannot be read is that from place i on
  abbrev pub UnreadableFrom : ℕ → Type 0
  UnreadableFrom i = FaultFrom (λ before r. not (found r)) (read_all read bytes) i

  -- at place 0 nothing is passed
  pub unreadable_start : UnreadableFrom 0
  unreadable_start = refl

  module _ (n : ℕ) (whole : length bytes ≡ 12 * n) where
    -- a table of n records is read as n records
    pub length_read_all : length (read_all read bytes) ≡ n
    unfolding read_all
    length_read_all = length_reads (length bytes / 12) 0 ∙ omega arith

    -- what is read at place i is the next of all that is read
    pub next_read : (i : ℕ) → i < n → Next (read_all read bytes) i (read (record_at bytes i))
    unfolding read_all
    next_read i h = next_of (read_all read bytes) i (drop_reads i (length bytes / 12) 0 i (zero-add i) (omega arith)).1

    -- a record that can be read is passed
    pub unreadable_step : (i : ℕ) {r : A} → i < n → read (record_at bytes i) ≡ Some r → UnreadableFrom i → UnreadableFrom (i + 1)
    unreadable_step i h e = fault_step (λ before r. not (found r)) (read_all read bytes) i (next_read i h) (rw e)

    -- one that cannot is the first
    pub unreadable_here : (i : ℕ) → i < n → read (record_at bytes i) ≡ None → UnreadableFrom i → unreadable (read_all read bytes) ≡ Some i
    unfolding unreadable
    unreadable_here i h e = fault_here (λ before r. not (found r)) (read_all read bytes) i (next_read i h) (rw e)

    -- at the end there is none
    pub unreadable_end : (i : ℕ) → n ≤ i → UnreadableFrom i → unreadable (read_all read bytes) ≡ None
    unfolding unreadable
    unreadable_end i h = fault_end (λ before r. not (found r)) (read_all read bytes) i (omega (arith, length_read_all))

    module _ (all_read : unreadable (read_all read bytes) ≡ None) where
      -- a table of n records that can be read has n records
      pub length_decode : length (decode read bytes) ≡ n
      unfolding decode
      length_decode = sym (length-map (decode read bytes) Some) ∙ ap length (sym (unreadable_none (read_all read bytes) all_read)) ∙ length_read_all

      -- the decoded records from place i on are what is read from there on
      decoded_from : (i : ℕ) → i < n → map Some (drop i (decode read bytes)) ≡ read (record_at bytes i) ∷ drop (i + 1) (read_all read bytes)
      unfolding decode
      decoded_from i h = sym (drop_map i (decode read bytes)) ∙ ap (drop i) (sym (unreadable_none (read_all read bytes) all_read)) ∙ (next_read i h).rest

      -- the record at place i can be read
      pub can_read : (i : ℕ) → i < n → read (record_at bytes i) ≡ None → ⊥
      can_read i h e = none_first (drop i (decode read bytes)) (rw e at (decoded_from i h))

      -- the record read at place i is the next of the table's records
      pub next_record : (i : ℕ) {r : A} → i < n → read (record_at bytes i) ≡ Some r → Next (decode read bytes) i r
      next_record i {r} h e = next_of (decode read bytes) i (some_first (drop i (decode read bytes)) (rw e at (decoded_from i h))).1
