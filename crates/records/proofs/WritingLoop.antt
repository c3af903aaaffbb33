-- A loop that writes records one behind the other: what is left of them, written from the place at hand on, makes of the output at hand what all of them make of the output that was lent.
use Prim.Native.Nat.{ℕ, ◌+◌, ◌*◌, ◌≤◌}
use native.Mathlib.Omega.{arith}
use mathlib.Core.Path.{◌≡◌, refl, sym, ap, ◌∙◌}
use mathlib.Core.List.{List, [], ◌∷◌, ◌++◌}
use Rattle.std.specs.Prelude.{Option}
use lib.ListN.{length, length-append}
use lib.Seq.{paste}
use Rattle.records.proofs.Codec.{Codec}
use Rattle.records.proofs.Writing.{written, written_none, written_one, written_append, length_written}

-- `before` was lent, for all records from the first place on; `now` is the output at hand, with the rest to come from the place at hand on
pub record Writing {A : Type 0} (write : A → List ℕ) (before : List ℕ) (first : ℕ) (all : List A) (now : List ℕ) (place : ℕ) (rest : List A) : Type 0 where
  pub whole : length now ≡ length before
  pub room : 12 * (place + length rest) ≤ length now
  pub count : place + length rest ≡ first + length all
  pub left : written write now place rest ≡ written write before first all

module _ {A : Type 0} {read : (ℕ → ℕ) → Option A} {write : A → List ℕ} {Fits : A → Type 0} (laws : Codec read write Fits) where
  -- at first all are left
  pub writing_first : (before : List ℕ) (first : ℕ) (all : List A) → 12 * (first + length all) ≤ length before → Writing write before first all before first all
  writing_first before first all h = record { whole = refl; room = h; count = refl; left = refl }

  module _ {before : List ℕ} {first : ℕ} {all : List A} {now : List ℕ} {place : ℕ} {rest : List A} (w : Writing write before first all now place rest) where
    -- some of them written, the others are left
    pub writing_some : (next : List ℕ) (rs others : List A) → rest ≡ rs ++ others → next ≡ written write now place rs → Writing write before first all next (place + length rs) others
    writing_some next rs others split made =
        let sum : length rest ≡ length rs + length others = ap length split ∙ length-append rs others in
        let room : 12 * (place + length rs) ≤ length now = omega (arith, w.room) in
        let kept : length next ≡ length now = ap length made ∙ length_written laws now place rs room in
        record {
          whole = kept ∙ w.whole;
          room = omega (arith, w.room);
          count = omega (arith, w.count);
          left = ap (λ o. written write o (place + length rs) others) made ∙ written_append laws now place rs others room ∙ sym (ap (written write now place) split) ∙ w.left;
        }

    -- one of them written
    pub writing_one : (next : List ℕ) (r : A) (others : List A) → rest ≡ r ∷ others → next ≡ paste now (12 * place) (write r) 12 → Writing write before first all next (place + 1) others
    writing_one next r others split made = writing_some next (r ∷ []) others split (made ∙ written_one laws now place r)

    -- none of them written
    pub writing_none : (others : List A) → rest ≡ others → Writing write before first all now place others
    writing_none others split = rw split at w

    -- at the end all are written
    pub writing_end : rest ≡ [] → now ≡ written write before first all
    writing_end e = written_none laws now place ∙ sym (ap (written write now place) e) ∙ w.left
