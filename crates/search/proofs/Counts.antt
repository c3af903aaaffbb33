-- Only one number is that of the openings: there is one list of just the open sequences and one first that holds all jobs, which stands at one place of the list, as it is in order.
use Prim.Native.Nat.{ℕ, ◌+◌}
use mathlib.Core.Path.{◌≡◌, refl, ap, ◌∙◌}
use mathlib.Core.List.Memᴰ
use mathlib.Core.List.{List, [], ◌∷◌, ◌++◌}
use native.Mathlib.Omega.{arith}
use lib.ListN.{length}
use Rattle.laws.proofs.Members.{every_member}
use Rattle.records.specs.declared.JobRecord.{JobRecord}
use Rattle.search.specs.Order.{InOrder, Openings, up_to}
use Rattle.search.proofs.Words.{Sooner, before_one_way}
use Rattle.search.proofs.Opening.{lists_unique}
use Rattle.search.proofs.Schedules.{first_unique}

-- a sequence stands at one place of a list in order
place_once : (q : List ℕ) (before after earlier later : List (List ℕ)) → InOrder (before ++ q ∷ after) → before ++ q ∷ after ≡ earlier ++ q ∷ later → length before ≡ length earlier
place_once q [] after [] later h e = refl
place_once q [] after (p ∷ earlier) later h e =
    let rest : after ≡ earlier ++ q ∷ later = cc in
    let itself = every_member (Sooner q) {xs = after} h.0 q (rw rest (Memᴰ.append_right earlier (Memᴰ.head refl))) in
    absurd (before_one_way itself itself)
place_once q (p ∷ before) after [] later h e =
    let same : p ≡ q = cc in
    let itself : Sooner q q = rw same at (every_member (Sooner p) h.0 q (Memᴰ.append_right before (Memᴰ.head refl))) in
    absurd (before_one_way itself itself)
place_once q (p ∷ before) after (r ∷ earlier) later h e =
    let rest : before ++ q ∷ after ≡ earlier ++ q ∷ later = cc in
    omega (arith, place_once q before after earlier later h.1 rest)

-- only one number is that of the openings
pub openings_once : {table : List JobRecord} {m n : ℕ} → Openings table m → Openings table n → m ≡ n
openings_once {table} (up_to {q} before after f a) (up_to {q = p} earlier later g b) =
    let same = first_unique table p q g f in
    ap (λ n. n + 1) (place_once q before after earlier later a.in_order (lists_unique table _ _ a b ∙ ap (λ r. earlier ++ r ∷ later) same))
openings_once (up_to {q} before after f a) (Openings.all none b) = absurd (none q f.is_open f.is_full)
openings_once (Openings.all none a) (up_to {q} earlier later g b) = absurd (none q g.is_open g.is_full)
openings_once {table} (Openings.all none a) (Openings.all empty b) = ap length (lists_unique table _ _ a b)
