-- A loop that copies a list into another, and a run of pieces that are written one behind the other.
use Prim.Native.Nat.{ℕ, ◌+◌, ◌<◌}
use mathlib.Core.Path.{◌≡◌, ◌∙◌, sym, ap}
use mathlib.Core.List.{List}
use lib.ListN.{length, get_or, set}
use lib.Seq.{paste, paste-suc}
use native.Mathlib.Numerals.{add-one}

-- a turn of a loop that copies: with the next element stored, one more is copied
pub paste_more : (d : List ℕ) (at : ℕ) (s : List ℕ) (k : ℕ) {out : List ℕ} → out ≡ paste d at s k → at + k < length d → k < length s
    → set out (at + k) (get_or s k 0) ≡ paste d at s (k + 1)
paste_more d at s k e hd hs =
    ap (λ o. set o (at + k) (get_or s k 0)) e ∙ paste-suc d at s k 0 hd hs ∙ ap (paste d at s) (sym (add-one k))
