-- The cases of repeated links, by computation: what this crate's must-fail edit of the definitions breaks. Assumes nothing.
use mathlib.Core.Path.{◌≡◌, refl}
use Rattle.cases.specs.Further.{strong_first, strong_last}
use Rattle.jobs.specs.Jobs.{strongest}

-- of two links 0 to 1 the one of latency 3 counts, wherever it stands; the square holds one more than the latency
pub strongest_counts : (strongest strong_first 0 1 ≡ 4) × (strongest strong_last 0 1 ≡ 4)
unfolding strongest
strongest_counts = (refl, refl)
