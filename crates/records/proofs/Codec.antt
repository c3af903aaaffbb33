-- One record and its twelve bytes: what is written is read again, and what is read is written again, for each kind of table.
-- Reading looks at twelve bytes only, so that a record written is read by computation but for its 16-bit numbers.
-- A record read says which letter and which zeros its bytes have; that its bytes are those it writes, and that it fits, is then arithmetic, byte by byte.
use Prim.Native.Nat.{ℕ, ◌<◌}
use native.Mathlib.Omega.{arith}
use mathlib.Core.Path.{◌≡◌, refl, ap, ◌∙◌}
use mathlib.Core.Bool.{true, cond, ◌&&◌, and-eq-true_iff}
use mathlib.Core.List.{List, map}
use Rattle.std.specs.Prelude.{Option, None, Some}
use borrow.Author.Tests.{eqb-true}
use lib.Dec.{eqb}
use lib.ListN.{length, get_or}
use Rattle.laws.specs.Lists.{Every, count}
use Rattle.laws.proofs.Lists.{Same, same, all_every, every_weaker, every_count, map_count, Gives, gives_none, gives_some, gives_cond}
use Rattle.records.specs.Bytes.{Bytes, zeros, twelve}
use Rattle.records.specs.Record.{kind, in_passes, in_jobs, in_schedule, read_pass, read_flow, read_job, read_link, read_slot}
use Rattle.records.specs.Record.{pass_bytes, job_bytes, slot_bytes, PassFits, JobFits, SlotFits}
use Rattle.records.specs.declared.PassRecord.TheVariants.{P, F}
use Rattle.records.specs.declared.JobRecord.TheVariants.{J, L}
use Rattle.records.proofs.Words.{word_pair}

-- a list of bytes as a reader looks at it
abbrev pub lookup : List ℕ → ℕ → ℕ
lookup bytes k = get_or bytes k 0

-- The laws of one kind of table's records: how they are read, how they are written, and when their fields fit.
pub record Codec {A : Type 0} (read : (ℕ → ℕ) → Option A) (write : A → List ℕ) (Fits : A → Type 0) : Type 0 where
  -- a record takes twelve bytes
  pub sized : (r : A) → length (write r) ≡ 12
  -- what is written of a record that fits are bytes
  pub written : (r : A) → Fits r → Bytes (write r)
  -- a record that was written is read
  pub read_written : (r : A) → Fits r → (b : ℕ → ℕ) → ((k : ℕ) → k < 12 → b k ≡ get_or (write r) k 0) → read b ≡ Some r
  -- a record that was read is written with the bytes that it was read from
  pub written_read : (b : ℕ → ℕ) (r : A) → ((k : ℕ) → k < 12 → b k < 256) → read b ≡ Some r → write r ≡ map b (count 0 12)
  -- a record that was read fits
  pub fits : (b : ℕ → ℕ) (r : A) → ((k : ℕ) → k < 12 → b k < 256) → read b ≡ Some r → Fits r

-- a record fits, and is written with a reader's bytes
abbrev pub Restores : {A : Type 0} → (A → List ℕ) → (A → Type 0) → (ℕ → ℕ) → A → Type 0
Restores write Fits b r = Same (write r) (twelve b) × Fits r

-- a list of twelve bytes is what a reader sees that looks at it
pub twelve_bytes : (bytes : List ℕ) → length bytes ≡ 12 → (b : ℕ → ℕ) → ((k : ℕ) → k < 12 → b k ≡ get_or bytes k 0) → twelve b ≡ bytes
twelve_bytes bytes sized b e = map_count b 0 12 bytes 0 sized (λ k l. ap b (omega arith) ∙ e k l)

-- the laws follow where reading looks at twelve bytes only, reads what was written, and gives a record that restores the bytes
pub codec : {A : Type 0} (read : (ℕ → ℕ) → Option A) (write : A → List ℕ) (Fits : A → Type 0)
    → (local : (b : ℕ → ℕ) → read b ≡ read (lookup (twelve b)))
    → (sized : (r : A) → length (write r) ≡ 12)
    → (written : (r : A) → Fits r → Bytes (write r))
    → (back : (r : A) → Fits r → read (lookup (write r)) ≡ Some r)
    → (restores : (b : ℕ → ℕ) → Bytes (twelve b) → Gives (Restores write Fits b) (read b))
    → Codec read write Fits
codec read write Fits local sized written back restores =
    record {
      sized = sized;
      written = written;
      read_written = λ r h b e. local b ∙ ap (λ (l : List ℕ). read (lookup l)) (twelve_bytes (write r) (sized r) b e) ∙ back r h;
      written_read = λ b r small e. same _ _ (restores b (bytes b small) r e).0;
      fits = λ b r small e. (restores b (bytes b small) r e).1;
    }
  where
    bytes : (b : ℕ → ℕ) → ((k : ℕ) → k < 12 → b k < 256) → Bytes (twelve b)
    bytes b small = every_count (λ x. x < 256) b 0 12 (λ k l. small k (omega arith))

-- "bytes marked z are zero": each of them is
pub zeros_zero : (b : ℕ → ℕ) (k n : ℕ) → zeros b k n ≡ true → Every (λ i. b i ≡ 0) (count k n)
zeros_zero b k n t = every_weaker _ _ (λ i. eqb-true (b i) 0) (count k n) (all_every (λ i. eqb (b i) 0) (count k n) t)

module _ {A : Type 0} (G : A → Type 0) (b : ℕ → ℕ) where
  -- a record read for its letter has that letter
  pub gives_kind : {x y : Option A} (letter : ℕ) → (b 0 ≡ letter → Gives G x) → Gives G y → Gives G (cond (kind b letter) x y)
  gives_kind letter f = gives_cond (kind b letter) (λ t. f (eqb-true (b 0) letter t))

  -- a record read for its zeros has those zeros
  pub gives_zeros : (k n : ℕ) (x : A) → (Every (λ i. b i ≡ 0) (count k n) → G x) → Gives G (cond (zeros b k n) (Some x) None)
  gives_zeros k n x f = gives_cond (zeros b k n) (λ t. gives_some G (f (zeros_zero b k n t))) (gives_none G)

  -- a flow or a link, read for its zeros at two places, has them at both
  pub gives_gaps : (x : A) → (Every (λ i. b i ≡ 0) (count 3 1) × Every (λ i. b i ≡ 0) (count 6 6) → G x) → Gives G (cond (zeros b 3 1 && zeros b 6 6) (Some x) None)
  gives_gaps x f =
      gives_cond (zeros b 3 1 && zeros b 6 6)
      (λ t. let both = (and-eq-true_iff (zeros b 3 1) (zeros b 6 6)).0 t in gives_some G (f (zeros_zero b 3 1 both.0, zeros_zero b 6 6 both.1)))
      (gives_none G)

-- the records of a pass table
pub passes : Codec in_passes pass_bytes PassFits
unfolding in_passes read_pass read_flow pass_bytes
passes =
    codec in_passes pass_bytes PassFits (λ b. refl)
    (elim [ P p ↦ refl | F f ↦ refl ])
    (elim [ P p ↦ λ h. omega arith | F f ↦ λ h. omega arith ])
    (elim [ P p ↦ λ h. simp (word_pair, h.1, h.2, h.3, h.4) | F f ↦ λ h. simp (word_pair, h.2) ])
    (λ b small.
    gives_kind _ b 0x50 (λ k. gives_zeros _ b 10 2 _ (λ z. omega arith))
    (gives_kind _ b 0x46 (λ k. gives_gaps _ b _ (λ z. omega arith)) (gives_none _)))

-- the records of a job table
pub jobs : Codec in_jobs job_bytes JobFits
unfolding in_jobs read_job read_link job_bytes
jobs =
    codec in_jobs job_bytes JobFits (λ b. refl)
    (elim [ J j ↦ refl | L l ↦ refl ])
    (elim [ J j ↦ λ h. omega arith | L l ↦ λ h. omega arith ])
    (elim [ J j ↦ λ h. simp (word_pair, h.1, h.2, h.3) | L l ↦ λ h. simp (word_pair, h.2) ])
    (λ b small.
    gives_kind _ b 0x4a (λ k. gives_zeros _ b 8 4 _ (λ z. omega arith))
    (gives_kind _ b 0x4c (λ k. gives_gaps _ b _ (λ z. omega arith)) (gives_none _)))

-- the records of a schedule
pub slots : Codec in_schedule slot_bytes SlotFits
unfolding in_schedule read_slot slot_bytes
slots =
    codec in_schedule slot_bytes SlotFits (λ b. refl)
    (λ s. refl)
    (λ s h. omega arith)
    (λ s h. simp (word_pair, h.1, h.2))
    (λ b small. gives_kind _ b 0x53 (λ k. gives_zeros _ b 6 6 _ (λ z. omega arith)) (gives_none _))
