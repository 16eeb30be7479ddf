-- `add`: three parts of at most 512 numbers fit in the list, and an accepted sheet has its bounds.
use Rattle.sheet.proofs.Laws.{accepted_bounds}
use Rattle.floats_runs.proofs.seen.Seen.add.Goals as goal

pub invariant_of-add_axis-clause-bounds : goal.invariant_of-add_axis-clause-bounds
invariant_of-add_axis-clause-bounds c = accepted_bounds c.in-Ok.sheet.bytes.now c.in-Ok.sheet.accepted
