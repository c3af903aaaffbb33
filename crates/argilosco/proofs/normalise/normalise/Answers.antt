-- `argilosco::normalise::normalise` meets its contract: the code holds the table's jobs and its square of gaps, so that what is written is its normal form,
-- and the room is its exact length. Assumes nothing.
use Prim.Native.Nat.{◌+◌}
use native.Mathlib.Omega.{arith}
use mathlib.Core.Path.{refl, ap, ap₂, ◌∙◌}
use lib.ListN.{length}
use Rattle.std.proofs.lemmas.Result.{err_from_is_err_and}
use Rattle.records.specs.Outcome.{overwrite}
use Rattle.normal.specs.Call.{normalise_number}
use Rattle.normal.specs.Chosen.{links_in}
use Rattle.normal.proofs.FormHeld.{ends_fit, writable}
use Rattle.normal.proofs.Answers.{room_number, done_number, held_bytes, held_length}
use Rattle.argilosco.proofs.Passing.{number_above, formed}
use Rattle.argilosco.proofs.Normalising.{normalise_refused, normalise_done}
use Rattle.argilosco.proofs.normalise.normalise.Goals as goal

pub returns-in_err-held : goal.returns-in_err-held
unfolding normalise_number
returns-in_err-held c =
    let p = err_from_is_err_and c.from_residual.result c.from_residual.ensures.1 in
    rw (p.1, p.2) (normalise_refused _ _ _ (number_above _) (c.in_err-held.ensures _), refl)

pub windows-tight-requires : goal.windows-tight-requires
windows-tight-requires c = (_, c.in_ok-held.ensures.0)

pub choose-links-requires : goal.choose-links-requires
choose-links-requires c = writable c.in_ok-held.ensures.0

pub returns-then-out-room : goal.returns-then-out-room
returns-then-out-room c =
    let holds = c.in_ok-held.ensures.0 in
    let counted = ap₂ ◌+◌ c.count_jobs.ensures.1 (c.count_links.ensures.1 ∙ ap (λ links. length (links_in links)) c.choose-links.ensures) in
    (normalise_refused _ _ 9 (λ z. omega (arith, z)) (room_number (formed _ (c.in_ok-held.ensures.1 0)) holds c.windows-tight.result (c.windows-tight.ensures _ holds) _ (omega (arith, counted))), refl)

pub write_normal-requires : goal.write_normal-requires
write_normal-requires c =
    let holds = c.in_ok-held.ensures.0 in
    (ends_fit holds _ (c.windows-tight.ensures _ holds), omega arith)

pub returns : goal.returns
returns c =
    let holds = c.in_ok-held.ensures.0 in
    let well = formed _ (c.in_ok-held.ensures.1 0) in
    let counted = ap₂ ◌+◌ c.count_jobs.ensures.1 (c.count_links.ensures.1 ∙ ap (λ links. length (links_in links)) c.choose-links.ensures) in
    let same = c.windows-tight.ensures _ holds in
    rw (normalise_done c.args.jobs.now (length c.args.out.now) (done_number well holds c.windows-tight.result same (length c.args.out.now) (omega (arith, counted)))) (
      refl,
      omega (arith, counted, held_length well holds c.windows-tight.result same),
      c.write_normal.ensures ∙ ap (λ bytes. overwrite bytes c.args.out.now) (held_bytes well holds c.windows-tight.result same c.choose-links.ensures),
    )
