-- `passes::cycle::cycle_of` meets its contract: a pass joins the cycle, and where none stands it stays. Assumes nothing.
use Prim.Native.Nat.{◌+◌, ◌<◌}
use native.Mathlib.Omega.{arith}
use mathlib.Core.Path.{◌≡◌, ◌∙◌, sym}
use Rattle.passes.specs.Expand.{lcm}
use Rattle.passes.proofs.Ceiling.{kept_within, none_over, limit_passed, cycle_absent, cycle_present}
use Rattle.passes.proofs.Multiples.{lcm_from}
use Rattle.passes.proofs.Numbers.{passes_from, cycle_from_lem}
use Rattle.passes.proofs.cycle.cycle_of.Goals as goal
use Rattle.passes.proofs.cycle.cycle_of.Goals.{in-Some+in_ok-cycle, in_default}

pub returns-in_err-cycle : goal.returns-in_err-cycle
returns-in_err-cycle c =
    let passes = c.args.passes.now in
    let turn = c.loop-held in
    let joined = lcm turn.cycle c.in-Some.pass.period in
    let over : 48000 < joined = none_over joined (sym c.in_err-cycle.was ∙ c.common.ensures) in
    let more = cycle_present passes turn.held-index turn.cycle c.in-Some.is c.loop-held-test.true in
    c.from_residual.ensures ∙ limit_passed _ (omega (arith, over, cycle_from_lem joined (passes_from passes (turn.held-index + 1)), more, turn.invariant.2))

pub loop-held-preserved : goal.loop-held-preserved
loop-held-preserved c =
    let passes = c.args.passes.now in
    let turn = c.loop-held in
    elim c.match-held.branch [
      | in-Some+in_ok-cycle w ↦
          let joined = lcm turn.cycle w.in-Some.pass.period in
          let kept = kept_within joined (sym w.in_ok-cycle.was ∙ w.common.ensures) in
          let same : c.match-held.cycle ≡ joined = w.cycle-is ∙ kept.0 in
          rw same (omega (arith, lcm_from turn.cycle w.in-Some.pass.period, turn.invariant.0), kept.1, turn.invariant.2 ∙ cycle_present passes turn.held-index turn.cycle w.in-Some.is c.loop-held-test.true)
      | in_default w ↦ rw w.cycle-is (turn.invariant.0, turn.invariant.1, turn.invariant.2 ∙ cycle_absent passes turn.held-index turn.cycle w.in_default.is c.loop-held-test.true)
    ]
