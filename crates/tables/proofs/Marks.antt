-- The marks of the numbers that a table's records give, as code looks them up and sets them record by record.
use Prim.Native.Nat.{ℕ, ◌<◌, ◌≤◌}
use mathlib.Core.Path.{◌≡◌, refl, sym, ap, ◌∙◌, fun_ext}
use mathlib.Core.Bool.{Bool, true, false}
use mathlib.Core.List.{List, ◌∷◌, map}
use Rattle.std.specs.Prelude.{None, Some}
use lib.ListN.{length, get_or, set}
use borrow.Author.Tests.{eq-eqb, ne_eqb}
use Rattle.laws.specs.Lists.{any, count}
use Rattle.laws.proofs.Rows.{get_d_row}
use Rattle.laws.proofs.Storing.{set_row}
use Rattle.laws.proofs.Walking.{any_reverse, behind, behind_all}
use Rattle.tables.specs.Rules.{Rules}
use Rattle.tables.specs.Judge.{gives, marks}

module _ {A : Type 0} (rules : Rules A) where
  -- the mark of a number says whether the table gives it
  pub marked : (table : List A) (n : ℕ) → n < 256 → get_or (marks rules table) n false ≡ any (gives rules n) table
  unfolding marks
  marked table n h = get_d_row (λ n. any (gives rules n) table) 256 n false h

  -- a record that gives no number leaves the marks
  pub marks_kept : (r : A) (before : List A) → rules.number r ≡ None → marks rules (r ∷ before) ≡ marks rules before
  unfolding marks
  marks_kept r before e =
      let same : (λ n. any (gives rules n) (r ∷ before)) ≡ (λ n. any (gives rules n) before) = fun_ext (λ n. rw e) in
      ap (λ (f : ℕ → Bool). map f (count 0 256)) same

  -- one that gives a number sets its mark
  pub marks_more : (r : A) (before : List A) (n : ℕ) → rules.number r ≡ Some n → n < 256 → set (marks rules before) n true ≡ marks rules (r ∷ before)
  unfolding marks
  marks_more r before n e h =
      set_row (λ m. any (gives rules m) before) (λ m. any (gives rules m) (r ∷ before)) 256 n true h
      (rw (e, eq-eqb n n refl))
      (λ i other. rw (e, ne_eqb n i (λ same. other (sym same))))

  -- of the reversed table they are the same
  pub marks_passed : (table : List A) (i : ℕ) → length table ≤ i → marks rules (behind i table) ≡ marks rules table
  unfolding marks
  marks_passed table i h = ap (marks rules) (behind_all table i h) ∙ ap (λ (f : ℕ → Bool). map f (count 0 256)) (fun_ext (λ n. any_reverse (gives rules n) table))
