-- `waypoint_outside`: a number of each axis.
use Rattle.std.proofs.Common.{◌≡◌, ◌∙◌, ◌||◌, pos, length, get_or, ap, sym, rules}
use Rattle.sheet.specs.Bytes.{any_below}
use Rattle.sheet.specs.Reading.{reach_outside}
use Rattle.lists.proofs.tested.waypoint_outside.Goals as goal

pub returns : goal.returns
unfolding any_below
returns c =
    let w = c.args.waypoint.now in let three : length w ≡ 3 = c.told-waypoint in
    let north : c.reach_outside.result ≡ reach_outside 0 (get_or w 0 (pos 0)) = search rules in
    let east : c.reach_outside-2.result ≡ reach_outside 1 (get_or w 1 (pos 0)) = search rules in
    let up : c.reach_outside-3.result ≡ reach_outside 2 (get_or w 2 (pos 0)) = search rules in
    (λ j. north j || east j || up j) ∙ ap (any_below (λ axis. reach_outside axis (get_or w axis (pos 0)))) (sym three)
