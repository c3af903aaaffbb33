-- The cases of expanding, by computation: what this crate's must-fail edits of the definitions break. Assumes nothing.
use mathlib.Core.Path.{◌≡◌, refl}
use mathlib.Core.Bool.{true}
use mathlib.Core.List.{◌++◌}
use Rattle.cases.specs.Case.{all_pass, of_calls, is_expanding}
use Rattle.cases.specs.Starred.{starred}
use Rattle.cases.specs.Further.{further}
use Rattle.cases.specs.Edges.{edges}
use Rattle.cases.proofs.Computes.{computes as cases}
use Rattle.passes.specs.Call.{expand}
use Rattle.passes.proofs.Computes.{computes}

pub expanding_passes : all_pass (λ call. expand) (of_calls is_expanding (starred ++ further ++ edges)) ≡ true
unfolding computes cases
expanding_passes = refl
