-- `waypoint`: the three numbers stand in the sheet.
use Rattle.std.proofs.Common.{arith}
use Rattle.join.proofs.Course.{waypoint_there}
use Rattle.join.proofs.shared.waypoint.Goals as goal

pub waypoint_on-requires : goal.waypoint_on-requires
waypoint_on-requires c = waypoint_there c.args.sheet.now _ c.args.i _ c.legs-legs.ensures c.requires (omega arith)

pub waypoint_on-requires-2 : goal.waypoint_on-requires-2
waypoint_on-requires-2 c = waypoint_there c.args.sheet.now _ c.args.i _ c.legs-legs.ensures c.requires (omega arith)

pub waypoint_on-requires-3 : goal.waypoint_on-requires-3
waypoint_on-requires-3 c = waypoint_there c.args.sheet.now _ c.args.i _ c.legs-legs.ensures c.requires (omega arith)
