-- An output whose first bytes are written, and which is then lent from there on: what is written to the part follows straight after what was written first.
use Prim.Native.Nat.{ℕ, ◌+◌, ◌-◌}
use native.Mathlib.Omega.{arith}
use mathlib.Core.Path.{◌≡◌, sym, ap, ap₂, ◌∙◌}
use mathlib.Core.List.{List, [], ◌++◌, append-nil, append_assoc}
use lib.ListN.{length, take, drop, length-append, length-drop, drop_of_length-le}
use lib.Seq.{take_at, drop_at, take_all, drop-drop}
use Rattle.records.specs.Outcome.{overwrite}

module _ (out first second : List ℕ) (at : ℕ) (size : length first ≡ at) where
  -- the part of the output after what was written first
  pub part_after : drop at (overwrite first out) ≡ drop at out
  part_after = drop_at first (drop (length first) out) at size ∙ ap (λ n. drop n out) size

  -- the output as it comes back, with the part written
  pub overwrite_part : (now part : List ℕ) → now ≡ overwrite first out → part ≡ overwrite second (take (length now - at) (drop at now))
      → take at now ++ (part ++ drop (length now - at) (drop at now)) ≡ overwrite (first ++ second) out
  overwrite_part now part made written =
      let long : length (drop at now) ≡ length now - at = length-drop at now in
      let rest : drop at now ≡ drop at out = ap (drop at) made ∙ part_after in
      let whole : take (length now - at) (drop at now) ≡ drop at out = take_all (length now - at) (drop at now) (omega arith) ∙ rest in
      let none : drop (length now - at) (drop at now) ≡ [] = drop_of_length-le (drop at now) {i = length now - at} (omega arith) in
      let before : take at now ≡ first = ap (take at) made ∙ take_at first (drop (length first) out) at size in
      let both : at + length second ≡ length (first ++ second) = omega (arith, length-append first second) in
      let later : drop (length second) (drop at out) ≡ drop (length (first ++ second)) out = drop-drop (length second) at out ∙ ap (λ n. drop n out) both in
      ap₂ ◌++◌ before (ap₂ ◌++◌ (written ∙ ap (overwrite second) whole) none ∙ append-nil (overwrite second (drop at out)))
      ∙ ap (λ r. first ++ (second ++ r)) later
      ∙ sym (append_assoc first second (drop (length (first ++ second)) out))
