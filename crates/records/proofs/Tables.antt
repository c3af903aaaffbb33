-- A table and its records: decoding undoes encoding, and encoding undoes decoding, for every kind of table whose records obey the laws of `Codec`.
-- The records after the first are those of the table without its first twelve bytes, so that each law is by induction on the number of records.
-- A table of which nothing is unreadable reads as `map some rs`, for its records rs; both round trips go through that list.
use Prim.Native.Nat.{ℕ, zero, suc, ◌+◌, ◌-◌, ◌*◌, ◌/◌, ◌%◌, ◌<◌, ◌≤◌}
use native.Mathlib.Nat.{zero-add}
use native.Mathlib.Omega.{arith}
use mathlib.Core.Path.{◌≡◌, refl, ap, ap₂, sym, ◌∙◌, fun_ext}
use mathlib.Core.Bool.{not}
use mathlib.Core.List.{List, [], ◌∷◌, ◌++◌, map}
use Rattle.std.specs.Prelude.{Option, None, Some}
use lib.ListN.{length, get_or, take, drop, length-append, length-drop, take-append-drop, get_or-append}
use lib.Seq.{drop_at, get_or-drop, get_or-take, length-take-le, take_all}
use Rattle.laws.specs.Lists.{Every, found, first_fault}
use Rattle.laws.proofs.Lists.{every_get_d, every_drop, Gives}
use Rattle.records.specs.Bytes.{Bytes, record_at, twelve}
use Rattle.records.specs.Record.{in_passes, in_jobs, in_schedule, pass_bytes, job_bytes, slot_bytes, PassFits, JobFits, SlotFits}
use Rattle.records.specs.Table.{reads, read_all, unreadable, readable, decode, encode}
use Rattle.records.proofs.Codec.{Codec, passes, jobs, slots, twelve_bytes}

-- The laws of one kind of table.
pub record RoundTrips {A : Type 0} (read : (ℕ → ℕ) → Option A) (write : A → List ℕ) (Fits : A → Type 0) : Type 0 where
  -- decoding an encoded table gives its records
  pub decode_encode : (rs : List A) → Every Fits rs → decode read (encode write rs) ≡ rs
  -- nothing of an encoded table is unreadable
  pub encode_readable : (rs : List A) → Every Fits rs → unreadable (read_all read (encode write rs)) ≡ None
  -- an encoded table has twelve bytes for each record
  pub encode_length : (rs : List A) → length (encode write rs) ≡ 12 * length rs
  -- encoding a decoded table gives its bytes, if they are whole records and nothing of them is unreadable
  pub encode_decode : (bytes : List ℕ) → Bytes bytes → length bytes % 12 ≡ 0 → unreadable (read_all read bytes) ≡ None → encode write (decode read bytes) ≡ bytes
  -- decoding gives records that fit
  pub decode_fits : (bytes : List ℕ) → Bytes bytes → Every Fits (decode read bytes)

module _ {A : Type 0} where
  -- records that were all read are readable, each as it is
  pub readable_some : (rs : List A) → readable (map Some rs) ≡ rs
  unfolding readable
  readable_some [] = refl
  readable_some (r ∷ rs) = ap (λ (l : List A). r ∷ l) (readable_some rs)

  -- where all records were read, none is unreadable
  pub unreadable_some : (rs : List A) → unreadable (map Some rs) ≡ None
  unfolding unreadable
  unreadable_some rs = go rs [] 0
    where
      go : (rs : List A) (before : List (Option A)) (place : ℕ) → first_fault (λ before r. not (found r)) before place (map Some rs) ≡ None
      go [] before place = refl
      go (r ∷ rs) before place = go rs (Some r ∷ before) (place + 1)

  -- where none is unreadable, all records were read
  pub unreadable_none : (os : List (Option A)) → unreadable os ≡ None → os ≡ map Some (readable os)
  unfolding unreadable readable
  unreadable_none os = go os [] 0
    where
      go : (os before : List (Option A)) (place : ℕ) → first_fault (λ before r. not (found r)) before place os ≡ None → os ≡ map Some (readable os)
      go [] before place e = refl
      go (None ∷ os) before place e = let z : ◌≡◌ {A = ℕ} 0 1 = cc in absurd (omega arith)
      go (Some r ∷ os) before place e = ap (λ (l : List (Option A)). Some r ∷ l) (go os (Some r ∷ before) (place + 1) e)

  -- the readable records have a property, if the first of them has it and the others have
  pub readable_every : (P : A → Type 0) (o : Option A) (os : List (Option A)) → Gives P o → Every P (readable os) → Every P (readable (o ∷ os))
  unfolding readable
  readable_every P None os g h = h
  readable_every P (Some r) os g h = (g r refl, h)

-- the record at the next place is the one at this place of the table without its first record
pub record_at_drop : (bytes : List ℕ) (place : ℕ) → record_at bytes (place + 1) ≡ record_at (drop 12 bytes) place
record_at_drop bytes place = fun_ext (λ k. ap (λ (n : ℕ). get_or bytes n 0) (omega arith) ∙ sym (get_or-drop 12 bytes (12 * place + k) 0))

-- what a record of a table of bytes holds are bytes
pub record_at_byte : (bytes : List ℕ) → Bytes bytes → (place k : ℕ) → record_at bytes place k < 256
record_at_byte bytes small place k = every_get_d (λ b. b < 256) bytes 0 (omega arith) small (12 * place + k)

-- the first record of a table is its first twelve bytes
pub twelve_first : (bytes : List ℕ) → 12 ≤ length bytes → twelve (record_at bytes 0) ≡ take 12 bytes
twelve_first bytes long = twelve_bytes (take 12 bytes) (length-take-le 12 bytes long) (record_at bytes 0) (λ k l. rw (zero-add, get_or-take))

-- the record at a place is the first twelve bytes of those lent from there on
pub twelve_at : (bytes : List ℕ) (place k : ℕ) → k ≡ length bytes - 12 * place → 12 * place + 12 ≤ length bytes → twelve (record_at bytes place) ≡ take 12 (take k (drop (12 * place) bytes))
twelve_at bytes place k all room =
    let long : length (drop (12 * place) bytes) ≡ length bytes - 12 * place = length-drop (12 * place) bytes in
    let lent : take k (drop (12 * place) bytes) ≡ drop (12 * place) bytes = take_all k (drop (12 * place) bytes) (omega arith) in
    rw lent
    (twelve_bytes (take 12 (drop (12 * place) bytes)) (length-take-le 12 (drop (12 * place) bytes) (omega arith))
    (record_at bytes place) (λ k l. rw get_or-take (sym (get_or-drop (12 * place) bytes k 0))))

module _ {A : Type 0} (read : (ℕ → ℕ) → Option A) where
  -- the records from the next place on are those from this place on of the table without its first record
  pub reads_drop : (n : ℕ) (bytes : List ℕ) (place : ℕ) → reads read bytes (place + 1) n ≡ reads read (drop 12 bytes) place n
  unfolding reads
  reads_drop zero bytes place = refl
  reads_drop (suc n) bytes place = ap₂ ◌∷◌ (ap read (record_at_drop bytes place)) (reads_drop n bytes (place + 1))

module _ {A : Type 0} {read : (ℕ → ℕ) → Option A} {write : A → List ℕ} {Fits : A → Type 0} (laws : Codec read write Fits) where
  -- an encoded table has twelve bytes for each record
  pub length_encode : (rs : List A) → length (encode write rs) ≡ 12 * length rs
  unfolding encode
  length_encode [] = refl
  length_encode (r ∷ rs) = omega (arith, length-append (write r) (encode write rs), laws.sized r, length_encode rs)

  -- the record written first is read first
  pub read_first : (r : A) → Fits r → (rest : List ℕ) → read (record_at (write r ++ rest) 0) ≡ Some r
  read_first r h rest =
      laws.read_written r h (record_at (write r ++ rest) 0)
      (λ k l. let inside : k < length (write r) = omega (arith, laws.sized r) in rw (zero-add, get_or-append))

  -- the records of an encoded table are all read
  pub reads_encode : (rs : List A) → Every Fits rs → reads read (encode write rs) 0 (length rs) ≡ map Some rs
  unfolding encode reads
  reads_encode [] h = refl
  reads_encode (r ∷ rs) h =
      ap₂ ◌∷◌ (read_first r h.0 (encode write rs))
      (reads_drop read (length rs) (write r ++ encode write rs) 0 ∙ rw (drop_at (write r) (encode write rs) 12 (laws.sized r)) (reads_encode rs h.1))

  -- so every record over the whole length of an encoded table is read
  pub read_all_encode : (rs : List A) → Every Fits rs → read_all read (encode write rs) ≡ map Some rs
  unfolding read_all
  read_all_encode rs h = ap (λ (n : ℕ). reads read (encode write rs) 0 n) (omega (arith, length_encode rs)) ∙ reads_encode rs h

  -- records that were all read encode to the table that they were read from
  pub encode_reads : (n : ℕ) (rs : List A) (bytes : List ℕ) → Bytes bytes → length bytes ≡ 12 * n → reads read bytes 0 n ≡ map Some rs → encode write rs ≡ bytes
  unfolding encode reads
  encode_reads zero [] [] small e h = refl
  encode_reads zero [] (b ∷ bytes) small e h = absurd (omega arith)
  encode_reads zero (r ∷ rs) bytes small e h = let z : ◌≡◌ {A = ℕ} 0 1 = cc in absurd (omega arith)
  encode_reads (suc n) [] bytes small e h = let z : ◌≡◌ {A = ℕ} 0 1 = cc in absurd (omega arith)
  encode_reads (suc n) (r ∷ rs) bytes small e h =
      let first : read (record_at bytes 0) ≡ Some r = cc in
      let others : reads read bytes 1 n ≡ map Some rs = cc in
      ap₂ ◌++◌ (laws.written_read (record_at bytes 0) r (λ k l. record_at_byte bytes small 0 k) first ∙ twelve_first bytes (omega arith))
      (encode_reads n rs (drop 12 bytes) (every_drop (λ b. b < 256) 12 bytes small) (omega (arith, length-drop 12 bytes)) (sym (reads_drop read n bytes 0) ∙ others))
      ∙ take-append-drop 12 bytes

  -- the records that could be read fit
  pub reads_fit : (bytes : List ℕ) → Bytes bytes → (n place : ℕ) → Every Fits (readable (reads read bytes place n))
  unfolding reads readable
  reads_fit bytes small zero place = tt
  reads_fit bytes small (suc n) place =
      readable_every Fits (read (record_at bytes place)) (reads read bytes (place + 1) n)
      (λ r. laws.fits (record_at bytes place) r (λ k l. record_at_byte bytes small place k)) (reads_fit bytes small n (place + 1))

  -- a table whose records obey the laws makes both round trips
  pub round_trips : RoundTrips read write Fits
  unfolding decode read_all
  round_trips =
      record {
        decode_encode = λ rs h. ap readable (read_all_encode rs h) ∙ readable_some rs;
        encode_readable = λ rs h. ap unreadable (read_all_encode rs h) ∙ unreadable_some rs;
        encode_length = length_encode;
        encode_decode = λ bytes small whole e. encode_reads (length bytes / 12) (decode read bytes) bytes small (omega arith) (unreadable_none (read_all read bytes) e);
        decode_fits = λ bytes small. reads_fit bytes small (length bytes / 12) 0;
      }

-- pass tables make both round trips
pub pass_tables : RoundTrips in_passes pass_bytes PassFits
pass_tables = round_trips passes

-- job tables make both round trips
pub job_tables : RoundTrips in_jobs job_bytes JobFits
job_tables = round_trips jobs

-- schedules make both round trips
pub schedules : RoundTrips in_schedule slot_bytes SlotFits
schedules = round_trips slots
