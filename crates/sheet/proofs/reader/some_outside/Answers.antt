-- `some_outside`: one waypoint more in the flag.
use Rattle.std.proofs.Common.{◌+◌, ◌*◌, ◌||◌, ◌∙◌, refl, sym}
use Rattle.sheet.specs.Bytes.{any_below}
use Rattle.sheet.proofs.Below.{any_step}
use Rattle.sheet.proofs.Reach.{at_byte}
use Rattle.sheet.proofs.reader.some_outside.Goals as goal

pub loop-k-init : goal.loop-k-init
unfolding any_below
loop-k-init c = refl

pub loop-k-preserved : goal.loop-k-preserved
loop-k-preserved c =
    let l = c.loop-k in
    (λ j. l.invariant j || c.waypoint_outside-outside.ensures j) ∙ sym (any_step (λ k. at_byte c.args.s.now (c.args.from + 12 * k)) l.k)
