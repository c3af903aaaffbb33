-- `jobs::load::load_links` meets its contract. The loop's invariant: the square holds the strongest links of the records passed.
-- A link of a table within the limits names two jobs below 48, and its latency fits. Assumes nothing.
use native.Mathlib.Omega.{arith}
use mathlib.Core.Path.{refl, ◌∙◌, sym, ap}
use mathlib.Core.List.{◌∷◌}
use lib.ListN.{length, set}
use Rattle.std.specs.Prelude.{ℕ, ◌≤◌}
use Rattle.laws.proofs.Walking.{next_at, behind, behind_next}
use Rattle.records.specs.declared.JobRecord.{JobRecord}
use Rattle.jobs.specs.Jobs.{strongest}
use Rattle.jobs.specs.Call.{job_table}
use Rattle.jobs.specs.Arrays.{links_of}
use Rattle.jobs.proofs.Links.{links_more, links_job, links_passed}
use Rattle.jobs.proofs.Judging.{link_fits}
use Rattle.jobs.proofs.load.load_links.Goals as goal
use Rattle.jobs.proofs.load.load_links.Goals.{in-L, in_default}

pub loop-place-init : goal.loop-place-init
unfolding links_of strongest
loop-place-init c = refl

pub bounds-links-from : goal.bounds-links-from
unfolding job_table
bounds-links-from c =
    let judged = c.args.judged.now in
    rw c.from.ensures (link_fits (job_table judged.table.bytes.now) judged.sound c.loop-place.place c.at.ensures c.in-L.link c.in-L.is).0

pub add_link-requires : goal.add_link-requires
unfolding job_table
add_link-requires c =
    let judged = c.args.judged.now in
    let fits = link_fits (job_table judged.table.bytes.now) judged.sound c.loop-place.place c.at.ensures c.in-L.link c.in-L.is in
    (fits.1, fits.2)

pub loop-place-preserved : goal.loop-place-preserved
unfolding job_table
loop-place-preserved c =
    let judged = c.args.judged.now in
    let table = job_table judged.table.bytes.now in
    let before = behind c.loop-place.place table in
    elim c.match-at.branch [
      | in-L w ↦
          let fits = link_fits table judged.sound c.loop-place.place c.at.ensures w.in-L.link w.in-L.is in
          w.links-is
          ∙ ap (λ (i : ℕ). set c.loop-place.links i w.add_link.new.row) w.from.ensures
          ∙ links_more w.in-L.link before fits.0 fits.1 c.loop-place.invariant (rw w.from.ensures at w.add_link.ensures)
          ∙ ap (λ (r : JobRecord). links_of (r ∷ before)) (sym w.in-L.is)
      | in_default w ↦ w.links-is ∙ c.loop-place.invariant ∙ sym (links_job _ before) ∙ ap (λ (r : JobRecord). links_of (r ∷ before)) (sym w.in_default.is)
    ]
    ∙ ap links_of (sym (behind_next table c.loop-place.place (next_at table c.loop-place.place c.at.ensures)))

pub returns : goal.returns
unfolding job_table
returns c =
    let judged = c.args.judged.now in
    let table = job_table judged.table.bytes.now in
    let end : length table ≤ c.loop-place.place = omega (arith, c.count-place-end.ensures, c.loop-place-test.false) in
    c.loop-place.invariant ∙ links_passed table c.loop-place.place end
