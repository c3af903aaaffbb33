-- On bytes: the normal form's bytes of two tables are equal exactly when the tables have the same job numbers with the same costs and permit the same starts,
-- and normalising them again gives the same bytes. The records of a normal form fit their bytes, so that the bytes decode to the records, and all of it follows from the records.
use Prim.Native.Nat.{ℕ, ◌*◌, ◌%◌, ◌<◌}
use native.Mathlib.Omega.{arith}
use mathlib.Core.Path.{◌≡◌, sym, ap, ◌∙◌}
use mathlib.Core.Bool.{false, not}
use mathlib.Core.Logic.Iff
use mathlib.Core.Logic.{◌↔◌}
use mathlib.Core.List.{List}
use borrow.Author.Tests.{eq-eqb, le-ltb}
use lib.Dec.{ltb, lit<}
use lib.ListN.{length}
use Rattle.laws.proofs.Members.{false_or}
use Rattle.records.specs.Record.{job_bytes}
use Rattle.records.specs.Table.{bad_length, encode}
use Rattle.records.specs.Outcome.{refuse, unless_refused, done}
use Rattle.records.proofs.Tables.{job_tables}
use Rattle.jobs.specs.Call.{job_table, jobs_number}
use Rattle.jobs.specs.Starts.{SameJobs, SameStarts}
use Rattle.jobs.proofs.WellFormed.{refuse_passed, WellFormed, well_formed_number, number_well_formed}
use Rattle.normal.specs.Gaps.{gaps, ring_in}
use Rattle.normal.specs.Windows.{no_starts}
use Rattle.normal.specs.Normal.{normal_form}
use Rattle.normal.specs.Call.{starts_number, normal_bytes, normalise_number, normalise}
use Rattle.normal.proofs.WindowsEarliest.{Normalisable}
use Rattle.normal.proofs.NormalRecords.{normal_length}
use Rattle.normal.proofs.NormalSound.{normal_fits}
use Rattle.normal.proofs.NormalPermits.{normal_normalisable}
use Rattle.normal.proofs.Canonical.{canonical, idempotent}

-- the bytes of a table that the normaliser accepts: none of 1 to 5, 7 and 8 holds
pub record Accepted (bytes : List ℕ) : Type 0 where
  pub well_formed : WellFormed bytes
  pub normalisable : Normalisable (job_table bytes)

-- of accepted bytes the number is what comes after 1 to 8
pub accepted_later : {bytes : List ℕ} → Accepted bytes → (later : ℕ) → jobs_number bytes (starts_number (job_table bytes) later) ≡ later
unfolding starts_number
accepted_later accepted later = well_formed_number accepted.well_formed _ ∙ rw (accepted.normalisable.ringless, accepted.normalisable.starts)

-- bytes with a number that is none of 1 to 8 are accepted
pub later_accepted : (bytes : List ℕ) (later given : ℕ) → (0 < given → 8 < given) → jobs_number bytes (starts_number (job_table bytes) later) ≡ given → Accepted bytes
unfolding starts_number
later_accepted bytes later given above e =
    let formed = number_well_formed bytes _ given (λ h. omega (arith, above h)) e in
    let seven = refuse_passed 7 (ring_in (gaps (job_table bytes))) _ given (other 7 (lit< tt) (lit< tt)) formed.1 in
    let eight = refuse_passed 8 (no_starts (job_table bytes) (gaps (job_table bytes))) later given (other 8 (lit< tt) (lit< tt)) seven.1 in
    record { well_formed = formed.0; normalisable = record { sound = formed.0.sound; ringless = seven.0; starts = eight.0 } }
  where
    other : (n : ℕ) → 0 < n → n < 9 → given ≡ n → ⊥
    other n low high e = omega (arith, above (omega arith))

-- so bytes are accepted exactly when no number is given before 9
pub accepted_number : (bytes : List ℕ) → Accepted bytes ↔ (jobs_number bytes (starts_number (job_table bytes) 0) ≡ 0)
accepted_number bytes = (λ accepted. accepted_later accepted 0, later_accepted bytes 0 0 (λ h. omega arith))

module _ {bytes : List ℕ} (accepted : Accepted bytes) where
  -- the normal form's bytes decode to the normal form
  pub normal_table : job_table (normal_bytes bytes) ≡ normal_form (job_table bytes)
  unfolding job_table normal_bytes
  normal_table = job_tables.decode_encode (normal_form (job_table bytes)) (normal_fits accepted.normalisable)

  -- and are accepted
  pub normal_accepted : Accepted (normal_bytes bytes)
  unfolding normal_bytes bad_length
  normal_accepted =
      record {
        well_formed = record { whole = whole; readable = job_tables.encode_readable (normal_form (job_table bytes)) (normal_fits accepted.normalisable); sound = again.sound };
        normalisable = again;
      }
    where
      again : Normalisable (job_table (normal_bytes bytes))
      again = rw normal_table (normal_normalisable accepted.normalisable)

      sized : length (normal_bytes bytes) ≡ 12 * length (normal_form (job_table bytes))
      sized = job_tables.encode_length (normal_form (job_table bytes))

      whole : bad_length (normal_bytes bytes) ≡ false
      whole =
          false_or (ap not (eq-eqb (length (normal_bytes bytes) % 12) 0 (omega (arith, sized))))
          (le-ltb 49152 (length (normal_bytes bytes)) (omega (arith, sized, normal_length (job_table bytes))))

  -- their own normal form are they themselves
  pub normal_again : normal_bytes (normal_bytes bytes) ≡ normal_bytes bytes
  unfolding normal_bytes
  normal_again = ap (λ t. encode job_bytes (normal_form t)) normal_table ∙ ap (encode job_bytes) (idempotent accepted.normalisable)

  -- normalising accepted bytes refuses them by 9 or writes the normal form
  pub normalise_accepted : (room : ℕ) → normalise bytes room ≡ unless_refused (refuse 9 (ltb room (length (normal_bytes bytes))) 0) (done 0 (normal_bytes bytes))
  unfolding normalise normalise_number
  normalise_accepted room = ap (λ n. unless_refused n (done 0 (normal_bytes bytes))) (accepted_later accepted (refuse 9 (ltb room (length (normal_bytes bytes))) 0))

-- "Normalising a normal form writes it again"
pub written_again : {bytes : List ℕ} → Accepted bytes → (room : ℕ) → normalise (normal_bytes bytes) room ≡ normalise bytes room
written_again accepted room = normalise_accepted (normal_accepted accepted) room ∙ rw (normal_again accepted) (sym (normalise_accepted accepted room))

-- two tables have one normal form, byte for byte, exactly when they have the same job numbers with the same costs and permit the same starts
pub canonical_bytes : {a b : List ℕ} → Accepted a → Accepted b
    → (normal_bytes a ≡ normal_bytes b) ↔ (SameJobs (job_table a) (job_table b) × SameStarts (job_table a) (job_table b))
unfolding normal_bytes
canonical_bytes {a} {b} first second = Iff.trans (records, bytes) (canonical first.normalisable second.normalisable)
  where
    records : normal_bytes a ≡ normal_bytes b → normal_form (job_table a) ≡ normal_form (job_table b)
    records e = sym (normal_table first) ∙ ap job_table e ∙ normal_table second

    bytes : normal_form (job_table a) ≡ normal_form (job_table b) → normal_bytes a ≡ normal_bytes b
    bytes e = ap (encode job_bytes) e
