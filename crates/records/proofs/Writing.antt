-- Records written one behind the other, for any kind of table: writing some from a place on, and then others behind them, writes all of them from that place on.
-- A record takes twelve bytes, so that the places of the records are those of their bytes, and two pastes that adjoin are one.
use Prim.Native.Nat.{ℕ, ◌+◌, ◌-◌, ◌*◌, ◌≤◌}
use native.Mathlib.Nat.{mul-add, zero-add}
use native.Mathlib.Omega.{arith}
use mathlib.Core.Path.{◌≡◌, sym, ap, ◌∙◌}
use mathlib.Core.List.{List, [], ◌∷◌, ◌++◌, append-nil, append_assoc}
use Rattle.std.specs.Prelude.{Option}
use lib.ListN.{length, take, drop, length-append, length-drop, drop_of_length-le}
use lib.Seq.{paste, paste-zero, length-paste, take-length, take_all, take_at, drop_at, drop-drop}
use Rattle.laws.proofs.Adjoining.{paste_join, flat_append}
use Rattle.records.specs.Table.{encode}
use Rattle.records.specs.Outcome.{overwrite}
use Rattle.records.proofs.Codec.{Codec}
use Rattle.records.proofs.Tables.{length_encode}

-- the output with these records from a place on
abbrev pub written : {A : Type 0} → (A → List ℕ) → List ℕ → ℕ → List A → List ℕ
written write out place rs = paste out (12 * place) (encode write rs) (12 * length rs)

module _ {A : Type 0} {read : (ℕ → ℕ) → Option A} {write : A → List ℕ} {Fits : A → Type 0} (laws : Codec read write Fits) where
  -- no record leaves the output as it is
  pub written_none : (out : List ℕ) (place : ℕ) → out ≡ written write out place []
  written_none out place = paste-zero out (12 * place) (encode write [])

  -- the twelve bytes of a record at its place write that record
  pub written_one : (out : List ℕ) (place : ℕ) (r : A) → paste out (12 * place) (write r) 12 ≡ written write out place (r ∷ [])
  unfolding encode
  written_one out place r = ap (λ bytes. paste out (12 * place) bytes 12) (sym (append-nil (write r)))

  -- records and then others behind them are all of them
  pub written_append : (out : List ℕ) (place : ℕ) (rs qs : List A) → 12 * (place + length rs) ≤ length out
      → written write (written write out place rs) (place + length rs) qs ≡ written write out place (rs ++ qs)
  unfolding encode
  written_append out place rs qs room =
      let all : 12 * length rs + 12 * length qs ≡ 12 * length (rs ++ qs) = omega (arith, length-append rs qs) in
      ap (λ at. paste (written write out place rs) at (encode write qs) (12 * length qs)) (mul-add 12 place (length rs))
      ∙ paste_join out (12 * place) (encode write rs) (encode write qs) (12 * length rs) (12 * length qs) (length_encode laws rs) (length_encode laws qs) (omega arith)
      ∙ ap (λ bytes. paste out (12 * place) bytes (12 * length rs + 12 * length qs)) (sym (flat_append write rs qs))
      ∙ ap (paste out (12 * place) (encode write (rs ++ qs))) all

  -- a turn of a loop that writes records: those of this turn are written, and the others are left
  pub written_more : (out : List ℕ) (place next : ℕ) (all rs qs : List A) {after goal : List ℕ} → all ≡ rs ++ qs → 12 * (place + length rs) ≤ length out → after ≡ written write out place rs → next ≡ place + length rs
      → written write out place all ≡ goal → written write after next qs ≡ goal
  written_more out place next all rs qs parts room wrote on left =
      ap (λ o. written write o next qs) wrote ∙ ap (λ p. written write (written write out place rs) p qs) on ∙ written_append out place rs qs room ∙ ap (written write out place) (sym parts) ∙ left

  -- its end: none is left
  pub written_end : (out : List ℕ) (place : ℕ) (all : List A) {goal : List ℕ} → all ≡ [] → written write out place all ≡ goal → out ≡ goal
  written_end out place all none left = written_none out place ∙ ap (written write out place) (sym none) ∙ left

  -- the output keeps its length, if there is room for the records
  pub length_written : (out : List ℕ) (place : ℕ) (rs : List A) → 12 * (place + length rs) ≤ length out → length (written write out place rs) ≡ length out
  length_written out place rs room =
      length-paste out (12 * place) (encode write rs) (12 * length rs) (omega arith) (omega (arith, length_encode laws rs))

  -- records from the first place on are the output's first bytes
  pub written_first : (out : List ℕ) (rs : List A) → written write out 0 rs ≡ overwrite (encode write rs) out
  written_first out rs = rw (← length_encode laws rs, take-length (encode write rs), zero-add (length (encode write rs)))

-- an output of which the rest from m on was lent: bytes written first, as many as m, and others written into the rest, are both the output's first bytes
pub overwrite_rest : (out first second : List ℕ) (m k : ℕ) {now part : List ℕ} → now ≡ overwrite first out → length first ≡ m → k ≡ length now - m → part ≡ overwrite second (take k (drop m now))
    → take m now ++ (part ++ drop k (drop m now)) ≡ overwrite (first ++ second) out
overwrite_rest out first second m k {now} {part} wrote size long wrote-rest =
    let before : take m now ≡ first = ap (take m) wrote ∙ take_at first (drop (length first) out) m size in
    let after : drop m now ≡ drop (length first) out = ap (drop m) wrote ∙ drop_at first (drop (length first) out) m size in
    let lent : take k (drop m now) ≡ drop m now = take_all k (drop m now) (omega (arith, length-drop m now)) in
    let none_left : drop k (drop m now) ≡ [] = drop_of_length-le (drop m now) {i = k} (omega (arith, length-drop m now)) in
    let rest : part ≡ second ++ drop (length (first ++ second)) out =
    wrote-rest ∙ ap (overwrite second) (lent ∙ after) ∙ ap (λ r. second ++ r) (drop-drop (length second) (length first) out ∙ ap (λ n. drop n out) (sym (length-append first second))) in
    rw (before, none_left, append-nil part, rest) (sym (append_assoc first second (drop (length (first ++ second)) out)))
