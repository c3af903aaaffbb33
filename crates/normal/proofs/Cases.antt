-- The cases of normalising, by computation: what this crate's must-fail edits of the definitions break. Assumes nothing.
use mathlib.Core.Path.{◌≡◌, refl}
use mathlib.Core.Bool.{true}
use mathlib.Core.List.{◌++◌}
use Rattle.cases.specs.Case.{all_pass, of_calls, is_normalising}
use Rattle.cases.specs.Starred.{starred}
use Rattle.cases.specs.Further.{further}
use Rattle.cases.specs.Edges.{edges}
use Rattle.cases.proofs.Computes.{computes as cases}
use Rattle.normal.specs.Call.{normalise}
use Rattle.normal.proofs.Computes.{computes}

pub normalising_passes : all_pass (λ call. normalise) (of_calls is_normalising (starred ++ further ++ edges)) ≡ true
unfolding computes cases
normalising_passes = refl
