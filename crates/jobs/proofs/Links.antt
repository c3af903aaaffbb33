-- The square of a table's strongest links, filled record by record: a link in front raises one cell, and a job changes nothing.
-- A loop that fills it in the table's order has it for the reversed table, whose strongest links are the same.
use Prim.Native.Nat.{ℕ, ◌+◌, ◌<◌, ◌≤◌, max}
use native.Mathlib.Omega.{arith}
use mathlib.Core.Path.{◌≡◌, refl, sym, ap, ◌∙◌, fun_ext}
use mathlib.Core.Bool.{and-false}
use mathlib.Core.List.{List, [], ◌∷◌, map, reverse, reverse_aux}
use lib.ListN.{length, get_or, set}
use borrow.Author.Tests.{eq-eqb, ne_eqb}
use Rattle.laws.specs.Lists.{count}
use Rattle.laws.proofs.Rows.{get_d_row}
use Rattle.laws.proofs.Storing.{set_row}
use Rattle.laws.proofs.Walking.{behind, behind_all}
use Rattle.records.specs.declared.Job.{Job}
use Rattle.records.specs.declared.Link.{Link}
use Rattle.records.specs.declared.JobRecord.{JobRecord}
use Rattle.records.specs.declared.JobRecord.TheVariants.{J, L}
use Rattle.jobs.specs.Jobs.{strongest}
use Rattle.jobs.specs.Arrays.{links_of}

-- a row with the cell that a link names raised to one more than the link's latency
abbrev raised : Link → List ℕ → List ℕ
raised l row = set row l.to (max (l.latency + 1) (get_or row l.to 0))

module _ (l : Link) (before : List JobRecord) where
  -- a link in front raises the cell that it names
  strongest_here : strongest (L l ∷ before) l.from l.to ≡ max (l.latency + 1) (strongest before l.from l.to)
  unfolding strongest
  strongest_here = rw (eq-eqb l.from l.from refl, eq-eqb l.to l.to refl)

  -- and no other cell of its row
  strongest_row : (j : ℕ) → (j ≡ l.to → ⊥) → strongest before l.from j ≡ strongest (L l ∷ before) l.from j
  unfolding strongest
  strongest_row j other = rw (ne_eqb l.to j (λ same. other (sym same)), and-false) (omega arith)

  -- and no other row
  strongest_other : (i j : ℕ) → (i ≡ l.from → ⊥) → strongest before i j ≡ strongest (L l ∷ before) i j
  unfolding strongest
  strongest_other i j other = rw (ne_eqb l.from i (λ same. other (sym same))) (omega arith)

  module _ (from : l.from < 48) (to : l.to < 48) where
    -- so its row is raised
    row_more : raised l (map (strongest before l.from) (count 0 48)) ≡ map (strongest (L l ∷ before) l.from) (count 0 48)
    row_more =
        set_row (strongest before l.from) (strongest (L l ∷ before) l.from) 48 l.to _ to
        (ap (max (l.latency + 1)) (get_d_row (strongest before l.from) 48 l.to 0 to) ∙ sym strongest_here) strongest_row

    -- and the square has the raised row
    square_more : set (links_of before) l.from (raised l (get_or (links_of before) l.from [])) ≡ links_of (L l ∷ before)
    unfolding links_of
    square_more =
        ap (λ (row : List ℕ). set (links_of before) l.from (raised l row)) (get_d_row (λ i. map (strongest before i) (count 0 48)) 48 l.from [] from)
        ∙ set_row (λ i. map (strongest before i) (count 0 48)) (λ i. map (strongest (L l ∷ before) i) (count 0 48)) 48 l.from _ from row_more
        (λ i other. ap (λ (f : ℕ → ℕ). map f (count 0 48)) (fun_ext (λ j. strongest_other i j other)))

    -- storing the raised row of a link whose jobs are below 48 gives the square with the link in front
    pub links_more : {links : List (List ℕ)} {row : List ℕ} → links ≡ links_of before
        → row ≡ set (get_or links l.from []) l.to (max (l.latency + 1) (get_or (get_or links l.from []) l.to 0)) → set links l.from row ≡ links_of (L l ∷ before)
    links_more {links} {row} e f =
        ap (set links l.from) f ∙ ap (λ (links : List (List ℕ)). set links l.from (raised l (get_or links l.from []))) e ∙ square_more

-- a job in front changes nothing of the square
pub links_job : (j : Job) (before : List JobRecord) → links_of (J j ∷ before) ≡ links_of before
unfolding links_of strongest
links_job j before = refl

-- the strongest links are the same from either end of the table
strongest_reverse : (table : List JobRecord) (i j : ℕ) → strongest (reverse table) i j ≡ strongest table i j
unfolding strongest
strongest_reverse table i j = go table [] ∙ omega arith
  where
    go : (table before : List JobRecord) → strongest (reverse_aux table before) i j ≡ max (strongest table i j) (strongest before i j)
    go [] before = omega arith
    go (J k ∷ table) before = go table (J k ∷ before)
    go (L l ∷ table) before = go table (L l ∷ before) ∙ omega arith

-- so the square is the same in reversed order
links_reverse : (table : List JobRecord) → links_of (reverse table) ≡ links_of table
unfolding links_of
links_reverse table = ap (λ (f : ℕ → ℕ → ℕ). map (λ i. map (f i) (count 0 48)) (count 0 48)) (fun_ext (λ i. fun_ext (strongest_reverse table i)))

-- and once all of the table is passed, what was filled is its square
pub links_passed : (table : List JobRecord) (i : ℕ) → length table ≤ i → links_of (behind i table) ≡ links_of table
links_passed table i h = ap links_of (behind_all table i h) ∙ links_reverse table
