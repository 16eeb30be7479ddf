-- `legs`: an accepted sheet has waypoints.
use Rattle.std.proofs.Common.{arith}
use Rattle.sheet.specs.Fields.{kind}
use Rattle.sheet.proofs.ByKind.{least_two}
use Rattle.sheet.proofs.Laws.{accepted_bounds}
use Rattle.answers.proofs.opened.OpenSheet.legs.Goals as goal

pub leg_count-requires : goal.leg_count-requires
leg_count-requires c =
    let sheet = c.args.self.now in
    omega (arith, (accepted_bounds sheet.bytes.now sheet.accepted).enough, sheet.is_points, least_two (kind sheet.bytes.now))
