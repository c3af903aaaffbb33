-- The loops through the normal form's jobs and links: what is left of its records at each turn.
use Prim.Native.Nat.{ℕ, zero, suc, ◌+◌, ◌-◌, ◌<◌, ◌≤◌}
use native.Mathlib.Omega.{arith}
use mathlib.Core.Path.{◌≡◌, refl, ap, ◌∙◌}
use mathlib.Core.Bool.{true, false}
use mathlib.Core.List.{List, [], ◌∷◌, ◌++◌}
use lib.ListN.{get_or}
use Rattle.laws.specs.Lists.{count, keep, flat}
use Rattle.laws.proofs.Scanning.{keep_taken, keep_left, keep_none, flat_more, flat_none}
use Rattle.records.specs.Record.{link}
use Rattle.records.specs.declared.Link.{Link}
use Rattle.jobs.specs.declared.Jobs.{Jobs}
use Rattle.normal.specs.Gaps.{Square, cell}
use Rattle.normal.specs.Chosen.{present_in, link_of, row_links, links_in}

module _ (jobs : Jobs) where
  -- the numbers of the jobs from n on
  unfoldable pub present_from : ℕ → List ℕ
  present_from n = keep (λ k. get_or jobs.present k false) (count n (48 - n))

  -- from 0 on they are all
  pub present_first : present_from 0 ≡ present_in jobs
  unfolding present_from present_in
  present_first = refl

  -- a number that is present is the next of them
  pub present_taken : (n : ℕ) → n < 48 → get_or jobs.present n false ≡ true → present_from n ≡ n ∷ present_from (n + 1)
  unfolding present_from
  present_taken n h e = keep_taken (λ k. get_or jobs.present k false) n 48 h e

  -- a number that is not is passed over
  pub present_left : (n : ℕ) → n < 48 → get_or jobs.present n false ≡ false → present_from n ≡ present_from (n + 1)
  unfolding present_from
  present_left n h e = keep_left (λ k. get_or jobs.present k false) n 48 h e

  -- at the end there are none
  pub present_end : (n : ℕ) → 48 ≤ n → present_from n ≡ []
  unfolding present_from
  present_end n h = keep_none (λ k. get_or jobs.present k false) n 48 h

-- the link of a cell, if it holds one
link_none : (i j cell : ℕ) → cell ≡ 0 → link_of i j cell ≡ []
unfolding link_of
link_none i j cell e = rw e

link_some : (i j cell : ℕ) → (cell ≡ 0 → ⊥) → link_of i j cell ≡ link i j (cell - 1) ∷ []
unfolding link_of
link_some i j zero h = absurd (h refl)
link_some i j (suc latency) h = ap (λ l. link i j l ∷ []) (omega arith)

module _ (links : Square) where
  -- the links from job i to the jobs from j on
  unfoldable pub row_from : ℕ → ℕ → List Link
  row_from i j = flat (λ k. link_of i k (cell links i k)) (count j (48 - j))

  -- from 0 on they are all
  pub row_first : (i : ℕ) → row_from i 0 ≡ row_links links i
  unfolding row_from row_links
  row_first i = refl

  -- a cell that holds a link is the next of them
  pub row_taken : (i j : ℕ) → j < 48 → (cell links i j ≡ 0 → ⊥) → row_from i j ≡ link i j (cell links i j - 1) ∷ row_from i (j + 1)
  unfolding row_from
  row_taken i j h some =
      flat_more (λ k. link_of i k (cell links i k)) j 48 h
      ∙ ap (λ first. first ++ flat (λ k. link_of i k (cell links i k)) (count (j + 1) (48 - (j + 1)))) (link_some i j (cell links i j) some)

  -- a cell that holds none is passed over
  pub row_left : (i j : ℕ) → j < 48 → cell links i j ≡ 0 → row_from i j ≡ row_from i (j + 1)
  unfolding row_from
  row_left i j h none =
      flat_more (λ k. link_of i k (cell links i k)) j 48 h
      ∙ ap (λ first. first ++ flat (λ k. link_of i k (cell links i k)) (count (j + 1) (48 - (j + 1)))) (link_none i j (cell links i j) none)

  -- at the end there are none
  pub row_end : (i j : ℕ) → 48 ≤ j → row_from i j ≡ []
  unfolding row_from
  row_end i j h = flat_none (λ k. link_of i k (cell links i k)) j 48 h

  -- the links from the jobs from i on
  unfoldable pub links_from : ℕ → List Link
  links_from i = flat (row_links links) (count i (48 - i))

  -- from 0 on they are all
  pub links_first : links_from 0 ≡ links_in links
  unfolding links_from links_in
  links_first = refl

  -- those from job i come first
  pub links_more : (i : ℕ) → i < 48 → links_from i ≡ row_links links i ++ links_from (i + 1)
  unfolding links_from
  links_more i h = flat_more (row_links links) i 48 h

  -- at the end there are none
  pub links_end : (i : ℕ) → 48 ≤ i → links_from i ≡ []
  unfolding links_from
  links_end i h = flat_none (row_links links) i 48 h
