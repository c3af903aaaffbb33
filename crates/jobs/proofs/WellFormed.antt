-- A job table's bytes are well formed when none of 1 to 5 holds: what is known of them, and that a call then goes on to its later numbers.
-- A refusal that is not the number given does not hold, and the number given is what comes after it.
use Prim.Native.Nat.{ℕ, ◌<◌}
use native.Mathlib.Omega.{arith}
use mathlib.Core.Path.{◌≡◌, refl, sym}
use mathlib.Core.Bool.{Bool, true, false}
use mathlib.Core.List.{List}
use Rattle.std.specs.Prelude.{Option, None, Some}
use lib.Dec.{lit<}
use Rattle.laws.specs.Lists.{found}
use Rattle.laws.proofs.Members.{true_not_false}
use Rattle.records.specs.Record.{in_jobs}
use Rattle.records.specs.Table.{bad_length, read_all, unreadable}
use Rattle.records.specs.Outcome.{refuse}
use Rattle.jobs.specs.Judge.{Sound}
use Rattle.jobs.specs.Call.{job_table, jobs_number}

-- a refusal with another number than the one given does not hold, and that one comes after it
pub refuse_passed : (n : ℕ) (t : Bool) (later given : ℕ) → (given ≡ n → ⊥) → refuse n t later ≡ given → (t ≡ false) × (later ≡ given)
refuse_passed n true later given other e = absurd (other (sym e))
refuse_passed n false later given other e = (refl, e)

-- where nothing was found there is no value
pub found_none : {A : Type 0} (o : Option A) → found o ≡ false → o ≡ None
found_none None e = refl
found_none (Some x) e = absurd (true_not_false refl e)

-- none of 1 to 5 holds of a job table's bytes
pub record WellFormed (bytes : List ℕ) : Type 0 where
  pub whole : bad_length bytes ≡ false
  pub readable : unreadable (read_all in_jobs bytes) ≡ None
  pub sound : Sound (job_table bytes)

-- the number of such bytes is what comes after 1 to 5
pub well_formed_number : {bytes : List ℕ} → WellFormed bytes → (later : ℕ) → jobs_number bytes later ≡ later
unfolding jobs_number
well_formed_number h later = rw (h.whole, h.readable, h.sound.three, h.sound.four, h.sound.five)

-- none of 1 to 5 holds of bytes with another number, and that number comes after
pub number_well_formed : (bytes : List ℕ) (later given : ℕ) → (0 < given → 5 < given) → jobs_number bytes later ≡ given → WellFormed bytes × (later ≡ given)
unfolding jobs_number
number_well_formed bytes later given above e =
    let one = refuse_passed 1 _ _ given (other 1 (lit< tt) (lit< tt)) e in
    let two = refuse_passed 2 _ _ given (other 2 (lit< tt) (lit< tt)) one.1 in
    let three = refuse_passed 3 _ _ given (other 3 (lit< tt) (lit< tt)) two.1 in
    let four = refuse_passed 4 _ _ given (other 4 (lit< tt) (lit< tt)) three.1 in
    let five = refuse_passed 5 _ _ given (other 5 (lit< tt) (lit< tt)) four.1 in (
      record {
        whole = one.0;
        readable = found_none _ two.0;
        sound = record { three = found_none _ three.0; four = found_none _ four.0; five = found_none _ five.0 };
      },
      five.1,
    )
  where
    other : (n : ℕ) → 0 < n → n < 6 → given ≡ n → ⊥
    other n low high e = omega (arith, above (omega arith))
