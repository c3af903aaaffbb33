-- What a job table is that passes the tests that normalising and scheduling share, from what the calls ensured and how the tests came out; and that a refusal has a number.
use Prim.Native.Nat.{ℕ}
use native.Mathlib.Omega.{arith}
use mathlib.Core.Path.{◌≡◌}
use mathlib.Core.List.{List}
use Rattle.records.specs.Outcome.{number_of}
use Rattle.records.specs.declared.refusal.Refusal.{Refusal}
use Rattle.records.specs.declared.refusal.Refusal.TheVariants.{Length, Unreadable, Number, Value, Loose, TooLarge, Ring, NoStarts, NoRoom}
use Rattle.jobs.specs.Call.{jobs_number}
use Rattle.jobs.proofs.WellFormed.{WellFormed, number_well_formed}

-- no refusal has the number 0
pub number_above : (refusal : Refusal) → number_of refusal ≡ 0 → ⊥
number_above Length e = omega (arith, e)
number_above Unreadable e = omega (arith, e)
number_above Number e = omega (arith, e)
number_above Value e = omega (arith, e)
number_above Loose e = omega (arith, e)
number_above TooLarge e = omega (arith, e)
number_above Ring e = omega (arith, e)
number_above NoStarts e = omega (arith, e)
number_above NoRoom e = omega (arith, e)

-- where what comes after 1 to 5 is given 0, the bytes are well formed
pub formed : {bytes : List ℕ} (later : ℕ) → jobs_number bytes later ≡ 0 → WellFormed bytes
formed {bytes} later passed = (number_well_formed bytes later 0 (λ h. absurd (omega arith)) passed).0
