-- One name that opens this crate's definitions and those below it to computation.
use Rattle.records.proofs.Computes.{computes as records}
use Rattle.cases.specs.Case.{same_bytes, same_outcome, passes_by, all_pass, of_calls}
use Rattle.cases.specs.Starred.{starred}
use Rattle.cases.specs.Further.{further}
use Rattle.cases.specs.Edges.{edges}

unfoldable pub computes : Unit {0}
unfolding records same_bytes same_outcome passes_by all_pass of_calls starred further edges
computes = tt
