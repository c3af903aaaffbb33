-- The rounds of the code, through the jobs that are present by rising number: what is left to do to the square at each turn, cut down to the ceiling, is what was to do at first.
-- The square of the links that the rounds begin with is the definition's, cut down to the ceiling.
use Prim.Native.Nat.{ℕ, ◌+◌, ◌<◌, ◌≤◌, min}
use mathlib.Core.Path.{◌≡◌, sym, ap, ap₂, ◌∙◌}
use mathlib.Core.Bool.{true, false}
use mathlib.Core.List.{List, [], map, map-map}
use lib.ListN.{length, get_or, length-map}
use Rattle.laws.specs.Lists.{count}
use Rattle.laws.proofs.Members.{map_same, count_member}
use Rattle.laws.proofs.Rows.{length_row, get_d_row}
use Rattle.records.specs.declared.JobRecord.{JobRecord}
use Rattle.jobs.specs.declared.Jobs.{Jobs}
use Rattle.jobs.specs.Jobs.{numbers, cost, strongest}
use Rattle.jobs.specs.Arrays.{jobs_of, links_of}
use Rattle.normal.specs.Gaps.{Square, weight, link_square, through_row, round, rounds, gaps}
use Rattle.normal.specs.Arrays.{capped, weighed, Within}
use Rattle.normal.proofs.Ceiling.{capped_within, within_stays, rounds_cap}
use Rattle.normal.proofs.NumbersFrom.{numbers_from, from_first, from_end, from_present, from_absent, cost_of}

-- what the code's square of links weighs is the definition's square of the links
pub links_weighed : {jobs : Jobs} (table : List JobRecord) → jobs ≡ jobs_of table → weighed jobs.cost (links_of table) ≡ link_square table
unfolding weighed link_square links_of
links_weighed {jobs} table same = map_same _ _ (count 0 48) (λ i m. row i ((count_member 0 48 i).0 m).1)
  where
    row : (i : ℕ) → i < 48 → map (weight (get_or jobs.cost i 0)) (get_or (map (λ i. map (strongest table i) (count 0 48)) (count 0 48)) i []) ≡ map (λ j. weight (cost table i) (strongest table i j)) (count 0 48)
    row i h =
        ap₂ (λ c links. map (weight c) links) (cost_of table same i h) (get_d_row (λ i. map (strongest table i) (count 0 48)) 48 i [] h)
        ∙ map-map (weight (cost table i)) (strongest table i) (count 0 48)

-- What holds at turn k of the square at hand: it has 48 rows, no cell above the ceiling, and what is left of the rounds makes of it what all of them make of the first one.
pub record Rounding (most : ℕ) (jobs : Jobs) (square : Square) (k : ℕ) (now : Square) : Type 0 where
  pub size : length now ≡ 48
  pub within : Within most now
  pub left : (table : List JobRecord) → jobs ≡ jobs_of table → capped most (rounds (numbers_from table k) now) ≡ capped most (rounds (numbers table) square)

-- a square that is cut down has as many rows, and so has one after a round
length_capped : (most : ℕ) (square : Square) → length (capped most square) ≡ length square
unfolding capped
length_capped most square = length-map square (map (min most))

length_round : (k : ℕ) (square : Square) → length (round k square) ≡ length square
unfolding round
length_round k square = length-map square (λ row. through_row (get_or row k 0) row (get_or square k []))

length_weighed : (costs : List ℕ) (links : Square) → length (weighed costs links) ≡ 48
unfolding weighed
length_weighed costs links = length_row (λ i. map (weight (get_or costs i 0)) (get_or links i [])) 0 48

module _ (most : ℕ) (jobs : Jobs) where
  -- before the first turn all rounds are left
  pub rounding_first : (links square : Square) → square ≡ capped most (weighed jobs.cost links) → Rounding most jobs square 0 square
  rounding_first links square made = record {
    size = ap length made ∙ length_capped most (weighed jobs.cost links) ∙ length_weighed jobs.cost links;
    within = rw made (capped_within most (weighed jobs.cost links));
    left = λ table same. ap (λ ks. capped most (rounds ks square)) (from_first table);
  }

  module _ (positive : 0 < most) (square : Square) (k : ℕ) (now : Square) (inv : Rounding most jobs square k now) where
    -- a turn at a job that is present
    pub rounding_present : (next : Square) → k < 48 → get_or jobs.present k false ≡ true → next ≡ capped most (round k now) → Rounding most jobs square (k + 1) next
    unfolding rounds
    rounding_present next h e made = record {
      size = ap length made ∙ length_capped most (round k now) ∙ length_round k now ∙ inv.size;
      within = rw made (capped_within most (round k now));
      left = λ table same.
          ap (λ s. capped most (rounds (numbers_from table (k + 1)) s)) made
          ∙ rounds_cap most positive (numbers_from table (k + 1)) (round k now)
          ∙ sym (ap (λ ks. capped most (rounds ks now)) (from_present table same k h e))
          ∙ inv.left table same;
    }

    -- a turn at a number of no job
    pub rounding_absent : k < 48 → get_or jobs.present k false ≡ false → Rounding most jobs square (k + 1) now
    rounding_absent h e = record {
      size = inv.size;
      within = inv.within;
      left = λ table same. sym (ap (λ ks. capped most (rounds ks now)) (from_absent table same k h e)) ∙ inv.left table same;
    }

    -- after the last turn the square at hand is the square of gaps, cut down to the ceiling
    pub rounding_end : 48 ≤ k → (links : Square) → square ≡ capped most (weighed jobs.cost links)
        → (table : List JobRecord) → jobs ≡ jobs_of table → links ≡ links_of table → now ≡ capped most (gaps table)
    unfolding gaps rounds
    rounding_end h links made table same sameLinks =
        sym (within_stays most now inv.within)
        ∙ sym (ap (λ ks. capped most (rounds ks now)) (from_end table k h))
        ∙ inv.left table same
        ∙ ap (λ s. capped most (rounds (numbers table) s)) (made ∙ ap (capped most) (ap (weighed jobs.cost) sameLinks ∙ links_weighed table same))
        ∙ rounds_cap most positive (numbers table) (link_square table)
