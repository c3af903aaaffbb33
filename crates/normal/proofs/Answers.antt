-- What a call finds out step by step, in terms of its number: which of 1 to 9 normalising gives, from what the code tested under its ceiling; and that the code then holds a table that is not refused.
use Prim.Native.Nat.{ℕ, ◌+◌, ◌*◌, ◌<◌, ◌≤◌}
use native.Mathlib.Omega.{arith}
use mathlib.Core.Path.{◌≡◌, refl, sym, ap, ◌∙◌}
use mathlib.Core.Bool.{Bool, true, false}
use mathlib.Core.List.{List, map, ◌++◌}
use lib.ListN.{length, length-append, length-map}
use borrow.Author.Tests.{lt-ltb, le-ltb}
use Rattle.laws.specs.Lists.{found}
use Rattle.records.specs.Record.{job_bytes, in_jobs}
use Rattle.records.specs.Table.{bad_length, read_all, unreadable, encode}
use Rattle.records.specs.Outcome.{refuse}
use Rattle.records.specs.declared.JobRecord.TheVariants.{J, L}
use Rattle.records.proofs.Codec.{jobs as job-tables}
use Rattle.records.proofs.Tables.{length_encode}
use Rattle.jobs.specs.declared.Jobs.{Jobs}
use Rattle.jobs.specs.Judge.{fault3, fault4, fault5}
use Rattle.jobs.specs.Call.{job_table, jobs_number}
use Rattle.jobs.specs.Arrays.{jobs_of}
use Rattle.jobs.proofs.WellFormed.{WellFormed, well_formed_number}
use Rattle.normal.specs.declared.Windows.{Windows}
use Rattle.normal.specs.Gaps.{Square, gaps, ring_in}
use Rattle.normal.specs.Windows.{no_starts, windows}
use Rattle.normal.specs.Call.{starts_number, normal_bytes, normalise_number}
use Rattle.normal.specs.Arrays.{ceiling, capped, Holds}
use Rattle.normal.specs.Chosen.{present_in, jobs_in, chosen, links_in}
use Rattle.normal.proofs.Ceiling.{capped_within}
use Rattle.normal.proofs.CeilingTells.{ring_capped, starts_capped, gaps_capped}
use Rattle.normal.proofs.CanonicalBytes.{accepted_later}
use Rattle.normal.proofs.Held.{normalisable}
use Rattle.normal.proofs.WriteLoops.{length_jobs_in}
use Rattle.normal.proofs.FormHeld.{form_held}

-- a number that is given stays, whatever comes after it
refuse_stays : (n : ℕ) (t : Bool) {now later given : ℕ} → (now ≡ given → later ≡ given) → refuse n t now ≡ given → refuse n t later ≡ given
refuse_stays n true go e = e
refuse_stays n false go e = go e

-- where one of 1 to 5 is given, it is the call's number
pub jobs_refused : (bytes : List ℕ) (given later : ℕ) → (given ≡ 0 → ⊥) → jobs_number bytes 0 ≡ given → jobs_number bytes later ≡ given
unfolding jobs_number
jobs_refused bytes given later some =
    refuse_stays 1 (bad_length bytes)
    (refuse_stays 2 (found (unreadable (read_all in_jobs bytes)))
    (refuse_stays 3 (found (fault3 (job_table bytes)))
    (refuse_stays 4 (found (fault4 (job_table bytes)))
    (refuse_stays 5 (found (fault5 (job_table bytes))) (λ e. absurd (some (sym e)))))))

-- so normalising gives it
pub jobs_normalised : (bytes : List ℕ) (room given : ℕ) → (given ≡ 0 → ⊥) → jobs_number bytes 0 ≡ given → normalise_number bytes room ≡ given
unfolding normalise_number
jobs_normalised bytes room given some e = jobs_refused bytes given _ some e

module _ {bytes : List ℕ} (formed : WellFormed bytes) {square : Square} (made : square ≡ capped ceiling (gaps (job_table bytes))) where
  -- what the square under the ceiling tells
  ring_told : {t : Bool} → t ≡ ring_in square → ring_in (gaps (job_table bytes)) ≡ t
  ring_told e = sym (e ∙ ap ring_in made ∙ ring_capped ceiling (omega arith) (gaps (job_table bytes)))

  starts_told : {t : Bool} → t ≡ no_starts (job_table bytes) square → no_starts (job_table bytes) (gaps (job_table bytes)) ≡ t
  starts_told e = sym (e ∙ ap (no_starts (job_table bytes)) made ∙ starts_capped ceiling (omega arith) (job_table bytes) formed.sound (gaps (job_table bytes)))

  -- 7
  pub ring_number : (later : ℕ) → true ≡ ring_in square → jobs_number bytes (starts_number (job_table bytes) later) ≡ 7
  unfolding starts_number
  ring_number later e = well_formed_number formed _ ∙ rw (ring_told e)

  pub ring_normalised : (room : ℕ) → true ≡ ring_in square → normalise_number bytes room ≡ 7
  unfolding normalise_number
  ring_normalised room e = ring_number _ e

  module _ (no-ring : false ≡ ring_in square) where
    -- 8
    pub starts_number_lem : (later : ℕ) → true ≡ no_starts (job_table bytes) square → jobs_number bytes (starts_number (job_table bytes) later) ≡ 8
    unfolding starts_number
    starts_number_lem later e = well_formed_number formed _ ∙ rw (ring_told no-ring, starts_told e)

    pub starts_normalised : (room : ℕ) → true ≡ no_starts (job_table bytes) square → normalise_number bytes room ≡ 8
    unfolding normalise_number
    starts_normalised room e = starts_number_lem _ e

    -- neither, and the code holds the table's jobs and its square of gaps
    pub table_held : (jobs : Jobs) → jobs ≡ jobs_of (job_table bytes) → false ≡ no_starts (job_table bytes) square → Holds (job_table bytes) jobs square
    table_held jobs same e =
        let starts = starts_told e in
        let ringless = ring_told no-ring in
        record {
          sound = formed.sound;
          ringless = ringless;
          starts = starts;
          jobs_held = same;
          gaps_held = made ∙ gaps_capped ceiling (omega arith) (record { sound = formed.sound; ringless = ringless; starts = starts });
          within = rw made (capped_within ceiling (gaps (job_table bytes)));
        }

module _ {bytes : List ℕ} (formed : WellFormed bytes) {jobs : Jobs} {square : Square} (held : Holds (job_table bytes) jobs square) where
  -- the number is then what comes after
  pub held_number : (later : ℕ) → jobs_number bytes (starts_number (job_table bytes) later) ≡ later
  held_number = accepted_later (record { well_formed = formed; normalisable = normalisable held })

  module _ (w : Windows) (same : w ≡ windows (job_table bytes) square) where
    -- the bytes of the normal form
    pub held_bytes : {links : Square} → links ≡ chosen jobs w square → encode job_bytes (map J (jobs_in jobs w) ++ map L (links_in links)) ≡ normal_bytes bytes
    unfolding normal_bytes
    held_bytes e = ap (λ links. encode job_bytes (map J (jobs_in jobs w) ++ map L (links_in links))) e ∙ ap (encode job_bytes) (form_held held w same)

    -- and their number
    pub held_length : length (normal_bytes bytes) ≡ 12 * (length (present_in jobs) + length (links_in (chosen jobs w square)))
    held_length =
        let js = map J (jobs_in jobs w) in
        let ls = map L (links_in (chosen jobs w square)) in
        sym (ap length (held_bytes refl))
        ∙ length_encode job-tables (js ++ ls)
        ∙ omega (arith, length-append js ls, length_jobs_in jobs w, length-map (links_in (chosen jobs w square)) L)

    -- 9, where there is no room for them
    pub room_number : (room : ℕ) → room < 12 * (length (present_in jobs) + length (links_in (chosen jobs w square))) → normalise_number bytes room ≡ 9
    unfolding normalise_number
    room_number room h = held_number _ ∙ ap (λ t. refuse 9 t 0) (lt-ltb room (length (normal_bytes bytes)) (omega (arith, held_length)))

    -- and 0 where there is
    pub done_number : (room : ℕ) → 12 * (length (present_in jobs) + length (links_in (chosen jobs w square))) ≤ room → normalise_number bytes room ≡ 0
    unfolding normalise_number
    done_number room h = held_number _ ∙ ap (λ t. refuse 9 t 0) (le-ltb room (length (normal_bytes bytes)) (omega (arith, held_length)))
