-- The cases of scheduling, by computation: what this crate's must-fail edits of the definitions break. Assumes nothing.
use mathlib.Core.Path.{◌≡◌, refl}
use mathlib.Core.Bool.{true}
use mathlib.Core.List.{◌++◌}
use Rattle.cases.specs.Case.{all_pass, of_calls, is_scheduling, budget_of}
use Rattle.cases.specs.Starred.{starred}
use Rattle.cases.specs.Further.{further}
use Rattle.cases.specs.Edges.{edges}
use Rattle.cases.proofs.Computes.{computes as cases}
use Rattle.search.specs.Call.{scheduled}
use Rattle.search.proofs.Computes.{computes}

pub scheduling_passes : all_pass (λ call bytes room. scheduled bytes (budget_of call) room) (of_calls is_scheduling (starred ++ further ++ edges)) ≡ true
unfolding computes cases
scheduling_passes = refl
