-- The definitions give the hand-worked cases, by computation. Assumes nothing.
use mathlib.Core.Path.{◌≡◌, refl}
use mathlib.Core.Bool.{true}
use Rattle.cases.specs.Case.{all_pass}
use Rattle.cases.specs.Starred.{starred}
use Rattle.cases.specs.Further.{further}
use Rattle.cases.specs.Edges.{edges}
use Rattle.cases.proofs.Computes.{computes as cases}
use Rattle.passes.proofs.Computes.{computes as passes}
use Rattle.search.proofs.Computes.{computes as search}
use Rattle.argilosco.specs.Calls.{comes_to}

-- all of cases A to J pass
pub starred_pass : all_pass comes_to starred ≡ true
unfolding cases passes search comes_to
starred_pass = refl

-- all of the further cases pass
pub further_pass : all_pass comes_to further ≡ true
unfolding cases passes search comes_to
further_pass = refl

-- all of the edges pass
pub edges_pass : all_pass comes_to edges ≡ true
unfolding cases passes search comes_to
edges_pass = refl
