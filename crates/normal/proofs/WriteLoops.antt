-- The loops that write the normal form: at each turn the records from there on are left to be written, and there is room for them.
use Prim.Native.Nat.{ℕ, ◌+◌, ◌*◌, ◌-◌, ◌<◌, ◌≤◌}
use native.Mathlib.Omega.{arith}
use mathlib.Core.Path.{◌≡◌, sym, ap, ◌∙◌}
use mathlib.Core.Bool.{true, false}
use mathlib.Core.List.{List, [], ◌++◌, map, map-append}
use lib.ListN.{length, get_or, length-map, length-append}
use lib.Seq.{paste}
use Rattle.records.specs.Record.{job_bytes, link}
use Rattle.records.specs.Table.{encode}
use Rattle.records.specs.Outcome.{overwrite}
use Rattle.records.specs.declared.Link.{Link}
use Rattle.records.specs.declared.JobRecord.{JobRecord}
use Rattle.records.specs.declared.JobRecord.TheVariants.{J, L}
use Rattle.records.proofs.Codec.{jobs as job-tables}
use Rattle.records.proofs.Writing.{written, written_first}
use Rattle.records.proofs.WritingLoop.{Writing, writing_first, writing_some, writing_one, writing_none, writing_end}
use Rattle.jobs.specs.declared.Jobs.{Jobs}
use Rattle.normal.specs.declared.Windows.{Windows}
use Rattle.normal.specs.Gaps.{Square, cell}
use Rattle.normal.specs.Chosen.{present_in, job_in, jobs_in, row_links, links_in}
use Rattle.normal.proofs.RecordsFrom.{present_from, present_first, present_taken, present_left, present_end}
use Rattle.normal.proofs.RecordsFrom.{row_from, row_first, row_taken, row_left, row_end, links_from, links_first, links_more, links_end}

module _ (jobs : Jobs) (w : Windows) (before : List ℕ) where
  -- the jobs with some numbers, as records
  abbrev job_records : List ℕ → List JobRecord
  job_records ns = map J (map (job_in jobs w) ns)

  -- the jobs from n on are left to be written from a place on
  abbrev pub JobsLeft : ℕ → List ℕ → ℕ → Type 0
  JobsLeft n now place = Writing job_bytes before 0 (map J (jobs_in jobs w)) now place (job_records (present_from jobs n))

  -- a job has a record
  length_jobs : (ns : List ℕ) → length (job_records ns) ≡ length ns
  length_jobs ns = length-map (map (job_in jobs w) ns) J ∙ length-map ns (job_in jobs w)

  -- at first all are left
  pub jobs_left_first : 12 * length (present_in jobs) ≤ length before → JobsLeft 0 before 0
  unfolding jobs_in
  jobs_left_first h =
      writing_none job-tables (writing_first job-tables before 0 (job_records (present_in jobs)) (omega (arith, length_jobs (present_in jobs)))) _ (ap job_records (sym (present_first jobs)))

  module _ (n : ℕ) (now : List ℕ) (place : ℕ) (below : n < 48) (left : JobsLeft n now place) where
    -- a job that is present has room
    pub jobs_left_room : get_or jobs.present n false ≡ true → 12 * place + 12 ≤ length now
    jobs_left_room e = omega (arith, left.room, ap (λ ns. length (job_records ns)) (present_taken jobs n below e))

    -- and when it is written, the others are left
    pub jobs_left_present : (next : List ℕ) → get_or jobs.present n false ≡ true → next ≡ paste now (12 * place) (job_bytes (J (job_in jobs w n))) 12 → JobsLeft (n + 1) next (place + 1)
    jobs_left_present next e made = writing_one job-tables left next (J (job_in jobs w n)) _ (ap job_records (present_taken jobs n below e)) made

    -- a number of no job is passed over
    pub jobs_left_absent : get_or jobs.present n false ≡ false → JobsLeft (n + 1) now place
    jobs_left_absent e = writing_none job-tables left _ (ap job_records (present_left jobs n below e))

  -- at the end all are written
  pub jobs_left_end : (n : ℕ) (now : List ℕ) (place : ℕ) → 48 ≤ n → JobsLeft n now place → now ≡ overwrite (encode job_bytes (map J (jobs_in jobs w))) before
  jobs_left_end n now place h left = writing_end job-tables left (ap job_records (present_end jobs n h)) ∙ written_first job-tables before (map J (jobs_in jobs w))

-- the normal form has a J record for each number
pub length_jobs_in : (jobs : Jobs) (w : Windows) → length (map J (jobs_in jobs w)) ≡ length (present_in jobs)
unfolding jobs_in
length_jobs_in jobs w = length_jobs jobs w [] (present_in jobs)

module _ (links : Square) (before : List ℕ) where
  -- a link has a record
  pub length_links : (ls : List Link) → length (map L ls) ≡ length ls
  length_links ls = length-map ls L

  module _ (i first : ℕ) where
    -- the links from job i to the jobs from j on are left to be written from a place on
    abbrev pub RowLeft : ℕ → List ℕ → ℕ → Type 0
    RowLeft j now place = Writing job_bytes before first (map L (row_links links i)) now place (map L (row_from links i j))

    -- at first all are left
    pub row_left_first : 12 * (first + length (row_links links i)) ≤ length before → RowLeft 0 before first
    row_left_first h =
        writing_none job-tables (writing_first job-tables before first (map L (row_links links i)) (omega (arith, length_links (row_links links i)))) _ (ap (map L) (sym (row_first links i)))

    module _ (j : ℕ) (now : List ℕ) (place : ℕ) (below : j < 48) (left : RowLeft j now place) where
      -- a cell that holds a link has room
      pub row_left_room : (cell links i j ≡ 0 → ⊥) → 12 * place + 12 ≤ length now
      row_left_room e = omega (arith, left.room, ap (λ ls. length (map L ls)) (row_taken links i j below e))

      -- and when it is written, the others are left
      pub row_left_link : (next : List ℕ) → (cell links i j ≡ 0 → ⊥) → next ≡ paste now (12 * place) (job_bytes (L (link i j (cell links i j - 1)))) 12 → RowLeft (j + 1) next (place + 1)
      row_left_link next e made = writing_one job-tables left next (L (link i j (cell links i j - 1))) _ (ap (map L) (row_taken links i j below e)) made

      -- a cell that holds none is passed over
      pub row_left_none : cell links i j ≡ 0 → RowLeft (j + 1) now place
      row_left_none e = writing_none job-tables left _ (ap (map L) (row_left links i j below e))

    -- at the end all are written
    module _ (j : ℕ) (now : List ℕ) (place : ℕ) (end : 48 ≤ j) (left : RowLeft j now place) where
      pub row_left_place : place ≡ first + length (row_links links i)
      row_left_place = omega (arith, left.count, ap (λ ls. length (map L ls)) (row_end links i j end), length_links (row_links links i))

      pub row_left_end : now ≡ written job_bytes before first (map L (row_links links i))
      row_left_end = writing_end job-tables left (ap (map L) (row_end links i j end))

  -- the links from the jobs from i on are left to be written from a place on
  abbrev pub LinksLeft : ℕ → List ℕ → ℕ → Type 0
  LinksLeft i now place = Writing job_bytes before 0 (map L (links_in links)) now place (map L (links_from links i))

  -- at first all are left
  pub links_left_first : 12 * length (links_in links) ≤ length before → LinksLeft 0 before 0
  links_left_first h = writing_none job-tables (writing_first job-tables before 0 (map L (links_in links)) (omega (arith, length_links (links_in links)))) _ (ap (map L) (sym (links_first links)))

  module _ (i : ℕ) (now : List ℕ) (place : ℕ) (below : i < 48) (left : LinksLeft i now place) where
    split : map L (links_from links i) ≡ map L (row_links links i) ++ map L (links_from links (i + 1))
    split = ap (map L) (links_more links i below) ∙ map-append L (row_links links i) (links_from links (i + 1))

    -- the links from job i have room
    pub links_left_room : 12 * (place + length (row_links links i)) ≤ length now
    links_left_room = omega (arith, left.room, ap length split, length-append (map L (row_links links i)) (map L (links_from links (i + 1))), length_links (row_links links i))

    -- and when they are written, the others are left
    pub links_left_row : (next : List ℕ) (after : ℕ) → after ≡ place + length (row_links links i) → next ≡ written job_bytes now place (map L (row_links links i)) → LinksLeft (i + 1) next after
    links_left_row next after sum made =
        let same : after ≡ place + length (map L (row_links links i)) = sum ∙ ap (◌+◌ place) (sym (length_links (row_links links i))) in
        rw same (writing_some job-tables left next (map L (row_links links i)) (map L (links_from links (i + 1))) split made)

  -- at the end all are written
  pub links_left_end : (i : ℕ) (now : List ℕ) (place : ℕ) → 48 ≤ i → LinksLeft i now place → now ≡ overwrite (encode job_bytes (map L (links_in links))) before
  links_left_end i now place h left = writing_end job-tables left (ap (map L) (links_end links i h)) ∙ written_first job-tables before (map L (links_in links))
