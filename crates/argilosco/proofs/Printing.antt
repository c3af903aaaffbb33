-- The print program's lines, by computation: the example, and a refusal with openings. Assumes nothing.
use mathlib.Core.Path.{◌≡◌, refl}
use mathlib.Core.List.{[], ◌∷◌}
use Rattle.cases.specs.Case.{jobs}
use Rattle.cases.specs.Starred.{example_jobs, table_f}
use Rattle.cases.proofs.Computes.{computes as cases}
use Rattle.search.proofs.Computes.{computes as search}
use Rattle.argilosco.specs.Print.{digits, slot_line, opened_line, refused_line, printed, printed_for}

-- "0 0 300", "1 350 450", "2 500 600", "opened 4"
pub example_printed : printed_for (jobs example_jobs)
    ≡ 48 ∷ 32 ∷ 48 ∷ 32 ∷ 51 ∷ 48 ∷ 48 ∷ 10
    ∷ 49 ∷ 32 ∷ 51 ∷ 53 ∷ 48 ∷ 32 ∷ 52 ∷ 53 ∷ 48 ∷ 10
    ∷ 50 ∷ 32 ∷ 53 ∷ 48 ∷ 48 ∷ 32 ∷ 54 ∷ 48 ∷ 48 ∷ 10
    ∷ 111 ∷ 112 ∷ 101 ∷ 110 ∷ 101 ∷ 100 ∷ 32 ∷ 52 ∷ 10 ∷ []
unfolding cases search digits slot_line opened_line refused_line printed printed_for
example_printed = refl

-- "refused 10 opened 1"
pub refusal_printed : printed_for (jobs table_f)
    ≡ 114 ∷ 101 ∷ 102 ∷ 117 ∷ 115 ∷ 101 ∷ 100 ∷ 32 ∷ 49 ∷ 48 ∷ 32 ∷ 111 ∷ 112 ∷ 101 ∷ 110 ∷ 101 ∷ 100 ∷ 32 ∷ 49 ∷ 10 ∷ []
unfolding cases search digits slot_line opened_line refused_line printed printed_for
refusal_printed = refl
