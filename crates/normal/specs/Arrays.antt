-- How the code holds the square of gaps: no cell above a ceiling. And what it holds of a table that is not refused.
use Rattle.std.specs.Prelude.{ℕ, ◌≤◌, min, ◌≡◌, false, List, [], map, get_or}
use Rattle.laws.specs.Lists.{Every, count}
use Rattle.records.specs.declared.JobRecord.{JobRecord}
use Rattle.jobs.specs.declared.Jobs.{Jobs}
use Rattle.jobs.specs.Judge.{Sound}
use Rattle.jobs.specs.Arrays.{jobs_of}
use Rattle.normal.specs.Gaps.{Square, weight, gaps, ring_in}
use Rattle.normal.specs.Windows.{no_starts}

-- the code's ceiling: a gap as long as this misses every deadline
abbrev pub ceiling : ℕ
ceiling = 65535

-- a square with every cell above a ceiling cut down to it
unfoldable pub capped : ℕ → Square → Square
capped most square = map (map (min most)) square

-- what the strongest links weigh, from the costs by number and the square of the links
unfoldable pub weighed : List ℕ → Square → Square
weighed costs links = map (λ i. map (weight (get_or costs i 0)) (get_or links i [])) (count 0 48)

-- no cell of the row is above the ceiling
abbrev pub RowWithin : ℕ → List ℕ → Type 0
RowWithin most = Every (λ x. x ≤ most)

-- no cell of the square is
abbrev pub Within : ℕ → Square → Type 0
Within most = Every (RowWithin most)

-- jobs and a square that are those of a table which 3 to 8 do not refuse
pub record Holds (table : List JobRecord) (jobs : Jobs) (square : Square) : Type 0 where
  pub sound : Sound table
  pub ringless : ring_in (gaps table) ≡ false
  pub starts : no_starts table (gaps table) ≡ false
  pub jobs_held : jobs ≡ jobs_of table
  pub gaps_held : square ≡ gaps table
  pub within : Within ceiling square
