-- The list of open sequences: it holds just these, in the order of words. Trying each of some jobs gives only sequences that go on with one of them, so that what holds of all that
-- go on from an open sequence is by induction on how many jobs may still come. A sequence that opens with one more job is found through the first job that it goes on with.
use Prim.Native.Nat.{ℕ, zero, suc, ◌<◌, ◌≤◌}
use native.Mathlib.Omega.{arith}
use mathlib.Core.Bool.{Bool, true, false, and-eq-true_iff}
use mathlib.Core.Path.{◌≡◌, refl, ap, sym, ◌∙◌}
use mathlib.Core.Logic.{◌↔◌, ◌⊎◌, inl, inr}
use mathlib.Core.List.{List, [], ◌∷◌, ◌++◌, reverse, reverse_aux, reverse-reverse, append-nil}
use mathlib.Core.List.Memᴰ
use mathlib.Core.List.{Memᴰ}
use lib.ListN.{length, length-reverse}
use Rattle.laws.specs.Lists.{Every}
use Rattle.laws.proofs.Lists.{every_weaker}
use Rattle.laws.proofs.Members.{true_not_false, every_member, Rising}
use Rattle.laws.proofs.Parts.{every_append}
use Rattle.records.specs.declared.JobRecord.{JobRecord}
use Rattle.jobs.specs.Judge.{Sound}
use Rattle.jobs.specs.Jobs.{numbers}
use Rattle.jobs.proofs.Sound.{numbers_rising}
use Rattle.search.specs.Run.{may_follow}
use Rattle.search.specs.Live.{live}
use Rattle.search.specs.Tree.{opens, try_each, open_from, open_sequences}
use Rattle.search.specs.Order.{MayFollow, Live, Open, InOrder, Lists}
use Rattle.search.proofs.Words.{Sooner, in_order_append, in_order_same, Extends, extends_itself, extends_next, extends_sooner, differ_sooner}
use Rattle.search.proofs.Meanings.{may_follow_means, live_means}
use Rattle.search.proofs.Rest.{rest_member, follows_rest, sequence_length}

module _ (table : List JobRecord) where
  -- an open sequence is live
  pub open_live : {q : List ℕ} → Open table q → Live table q
  open_live {q} o = o.live [] q refl

  -- the empty sequence is open where it is live
  pub open_start : Live table [] → Open table []
  open_start l = record { sequence = tt; live = go }
    where
      go : (later beginning : List ℕ) → later ++ beginning ≡ [] → Live table beginning
      go [] beginning e = rw e l
      go (k ∷ later) beginning e = absurd (grind arith)

  -- an open sequence stays open with a job that may follow it, if that makes it live
  pub open_next : {q : List ℕ} {k : ℕ} → Open table q → MayFollow table q k → Live table (k ∷ q) → Open table (k ∷ q)
  open_next {q} {k} o f l = record { sequence = (f, o.sequence); live = go }
    where
      go : (later beginning : List ℕ) → later ++ beginning ≡ k ∷ q → Live table beginning
      go [] beginning e = rw e l
      go (x ∷ later) beginning e = let shorter : later ++ beginning ≡ q = cc in o.live later beginning shorter

  -- an open sequence is open without its last job
  pub open_before : {q : List ℕ} {k : ℕ} → Open table (k ∷ q) → Open table q
  open_before {q} {k} o = record { sequence = o.sequence.1; live = λ later beginning e. o.live (k ∷ later) beginning (ap (λ (l : List ℕ). k ∷ l) e) }

  -- so is each beginning of it
  pub open_beginning : (w q : List ℕ) → Open table (reverse_aux w q) → Open table q
  open_beginning [] q o = o
  open_beginning (k ∷ w) q o = open_before (open_beginning w (k ∷ q) o)

  -- the test for a job that opens
  pub opens_means : (q : List ℕ) (k : ℕ) → Memᴰ k (numbers table) → (opens table q k ≡ true) ↔ (MayFollow table q k × Live table (k ∷ q))
  unfolding opens
  opens_means q k known = (
    λ h. let both = (and-eq-true_iff (may_follow table q k) (live table (k ∷ q))).0 h in ((may_follow_means table q k known).0 both.0, (live_means table (k ∷ q)).0 both.1),
    λ h. (and-eq-true_iff (may_follow table q k) (live table (k ∷ q))).1 ((may_follow_means table q k known).1 h.0, (live_means table (k ∷ q)).1 h.1),
  )

  module _ (below : List ℕ → List (List ℕ)) (q : List ℕ) where
    -- what trying each of some jobs gives has a property, if what goes on with each of them that opens has it
    pub try_each_every : (P : List ℕ → Type 0) (ks : List ℕ) → ((k : ℕ) → Memᴰ k ks → opens table q k ≡ true → Every P (below (k ∷ q))) → Every P (try_each table below q ks)
    unfolding try_each
    try_each_every P [] h = tt
    try_each_every P (k ∷ ks) h = step (opens table q k) refl (try_each_every P ks (λ j m. h j (Memᴰ.tail m)))
      where
        step : (t : Bool) → opens table q k ≡ t → Every P (try_each table below q ks)
            → Every P (elim t [ true ↦ below (k ∷ q) ++ try_each table below q ks | false ↦ try_each table below q ks ])
        step true e others = every_append P (below (k ∷ q)) (try_each table below q ks) (h k (Memᴰ.head refl) e) others
        step false e others = others

    -- trying each of some jobs gives all that goes on with one of them that opens
    pub try_each_member : (r : List ℕ) (k : ℕ) → opens table q k ≡ true → Memᴰ r (below (k ∷ q)) → (ks : List ℕ) → Memᴰ k ks → Memᴰ r (try_each table below q ks)
    unfolding try_each
    try_each_member r k e m [] n = absurd (Memᴰ.not-nil n)
    try_each_member r k e m (j ∷ ks) n = step (opens table q j) refl (Memᴰ.cases_cons n) (try_each_member r k e m ks)
      where
        step : (t : Bool) → opens table q j ≡ t → (k ≡ j) ⊎ Memᴰ k ks → (Memᴰ k ks → Memᴰ r (try_each table below q ks))
            → Memᴰ r (elim t [ true ↦ below (j ∷ q) ++ try_each table below q ks | false ↦ try_each table below q ks ])
        step true o (inl s) others = Memᴰ.append_left (try_each table below q ks) (rw s at m)
        step true o (inr n) others = Memᴰ.append_right (below (j ∷ q)) (others n)
        step false o (inl s) others = absurd (true_not_false e (ap (opens table q) s ∙ o))
        step false o (inr n) others = others n

  -- all that go on from an open sequence are open
  pub open_from_open : (n : ℕ) (q : List ℕ) → Open table q → Every (Open table) (open_from table n q)
  unfolding open_from
  open_from_open zero q o = (o, tt)
  open_from_open (suc n) q o = (
    o,
    try_each_every (open_from table n) q (Open table) (numbers table)
        (λ k m e. let both = (opens_means q k m).0 e in open_from_open n (k ∷ q) (open_next o both.0 both.1)),
  )

  -- all that go on from a sequence begin with it
  pub open_from_extends : (n : ℕ) (q : List ℕ) → Every (Extends q) (open_from table n q)
  unfolding open_from
  open_from_extends zero q = (extends_itself q, tt)
  open_from_extends (suc n) q = (
    extends_itself q,
    try_each_every (open_from table n) q (Extends q) (numbers table)
        (λ k m e. every_weaker (Extends (k ∷ q)) (Extends q) (λ r. extends_next q k r) (open_from table n (k ∷ q)) (open_from_extends n (k ∷ q))),
  )

  -- trying each of some jobs, rising, gives sequences in order, if what goes on with each of them is in order
  pub try_each_in_order : (below : List ℕ → List (List ℕ)) → ((p : List ℕ) → Every (Extends p) (below p)) → ((p : List ℕ) → InOrder (below p))
      → (q ks : List ℕ) → Rising ks → InOrder (try_each table below q ks)
  unfolding try_each
  try_each_in_order below extends ordered q [] rises = tt
  try_each_in_order below extends ordered q (k ∷ ks) rises = step (opens table q k) (try_each_in_order below extends ordered q ks rises.1)
    where
      others : (p : List ℕ) → Extends (k ∷ q) p → Every (Sooner p) (try_each table below q ks)
      others p x =
          try_each_every below q (Sooner p) ks
          (λ m n e. every_weaker (Extends (m ∷ q)) (Sooner p) (λ r y. differ_sooner q (every_member (λ j. k < j) rises.0 m n) p r x y) (below (m ∷ q)) (extends (m ∷ q)))

      step : (t : Bool) → InOrder (try_each table below q ks) → InOrder (elim t [ true ↦ below (k ∷ q) ++ try_each table below q ks | false ↦ try_each table below q ks ])
      step true h =
          in_order_append (below (k ∷ q)) (try_each table below q ks) (ordered (k ∷ q)) h
          (every_weaker (Extends (k ∷ q)) (λ p. Every (Sooner p) (try_each table below q ks)) others (below (k ∷ q)) (extends (k ∷ q)))
      step false h = h

  -- all that go on from a sequence are in order
  pub open_from_in_order : (n : ℕ) (q : List ℕ) → InOrder (open_from table n q)
  unfolding open_from
  open_from_in_order zero q = (tt, tt)
  open_from_in_order (suc n) q = (
    try_each_every (open_from table n) q (Sooner q) (numbers table)
        (λ k m e. every_weaker (Extends (k ∷ q)) (Sooner q) (λ r. extends_sooner q k r) (open_from table n (k ∷ q)) (open_from_extends n (k ∷ q))),
    try_each_in_order (open_from table n) (open_from_extends n) (open_from_in_order n) q (numbers table) (numbers_rising table),
  )

module _ (table : List JobRecord) (sound : Sound table) where
  -- an open sequence is among those that go on from each of its beginnings, where as many jobs may come
  pub open_from_complete : (n : ℕ) (q w : List ℕ) → length w ≤ n → Open table (reverse_aux w q) → Memᴰ (reverse_aux w q) (open_from table n q)
  unfolding open_from
  open_from_complete zero q [] l o = Memᴰ.head refl
  open_from_complete zero q (k ∷ w) l o = absurd (omega arith)
  open_from_complete (suc n) q [] l o = Memᴰ.head refl
  open_from_complete (suc n) q (k ∷ w) l o =
      let begun = open_beginning table w (k ∷ q) o in
      let known = ((rest_member table q k).0 (follows_rest table sound begun.sequence.0)).0 in
      let further = open_from_complete n (k ∷ q) w (omega arith) o in
      Memᴰ.tail
      (try_each_member table (open_from table n) q (reverse_aux w (k ∷ q)) k ((opens_means table q k known).1 (begun.sequence.0, open_live table begun)) further (numbers table) known)

  -- "the number of open sequences": the list holds just the open sequences, in order
  pub lists_open : Lists table (open_sequences table)
  unfolding open_sequences
  lists_open = step (live table []) refl
    where
      all : List (List ℕ)
      all = open_from table (length (numbers table)) []

      found : (q : List ℕ) → Open table q → Memᴰ q all
      found q o =
          Memᴰ.cast (sym (reverse-reverse q))
          (open_from_complete (length (numbers table)) [] (reverse q) (omega (arith, length-reverse q, sequence_length table sound q o.sequence)) (rw reverse-reverse o))

      step : (t : Bool) → live table [] ≡ t → Lists table (elim t [ true ↦ all | false ↦ [] ])
      step true e =
          record {
            are_open = open_from_open table (length (numbers table)) [] (open_start table ((live_means table []).0 e));
            complete = found;
            in_order = open_from_in_order table (length (numbers table)) [];
          }
      step false e =
          record {
            are_open = tt;
            complete = λ q o. absurd (true_not_false ((live_means table []).1 (o.live q [] (append-nil q))) e);
            in_order = tt;
          }

-- there is only one list of just the open sequences in order, and so only one number of them
pub lists_unique : (table : List JobRecord) (ps qs : List (List ℕ)) → Lists table ps → Lists table qs → ps ≡ qs
lists_unique table ps qs a b =
    in_order_same ps qs a.in_order b.in_order
    (λ r. (λ m. b.complete r (every_member (Open table) a.are_open r m), λ m. a.complete r (every_member (Open table) b.are_open r m)))
