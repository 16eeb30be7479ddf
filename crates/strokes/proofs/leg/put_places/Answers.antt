-- `put_places`: the positions are the places.
use Rattle.std.proofs.Common.{◌∙◌, to_z, of_z, w64, slice_set, rules, tests}
use Rattle.sheet.specs.Fields.{waypoint}
use Rattle.spline.specs.Position.{position}
use Rattle.place.specs.Places.{bend_of, place_on}
use Rattle.strokes.specs.Asked.{Filled}
use Rattle.strokes.proofs.leg.put_places.Goals as goal

pub returns-2 : goal.returns-2
unfolding place_on
returns-2 c =
    let l = c.args.leg.now in let s = l.laid.sheet.bytes.now in let list = l.laid.list.now in let axis = c.args.axis in
    let x = c.numbers_on-numbers.result in let n = c.numbers_on-numbers.ensures in
    let f : Filled (slice_set c.loop-u.x c.loop-u.u (to_z w64 (of_z w64 c.position.result))) l.ticks (λ u. position x.h u x.v x.w x.z x.y) = search (rules, tests) in
    record {
      at_offset = λ u on.
          f.at_offset u on
          ∙ (λ i. position (n.h i) u (n.ends.0 i) (n.ends.1 i) (n.bends.0 i) (n.bends.1 i))
          ∙ (λ i. position (l.is_ticks i) u (waypoint s axis l.start) (waypoint s axis (l.is_end i)) (bend_of s list axis l.start) (bend_of s list axis (l.is_end i)));
    }
