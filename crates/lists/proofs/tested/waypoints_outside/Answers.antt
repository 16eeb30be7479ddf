-- `waypoints_outside`: the question of a list's threes, put as the definition puts it.
use Rattle.std.proofs.Common.{◌∙◌, ◌/◌, ℤ, pos, List, ap, length, get_or, rules, tests}
use Rattle.std.specs.List.{list_any}
use Rattle.std.specs.Simd.{first_chunks}
use Rattle.std.proofs.lemmas.Iterator.{YieldsList-from_slice}
use Rattle.std.proofs.lemmas.Iterator.Search.{any_from_yields_List}
use Rattle.sheet.specs.Bytes.{any_below}
use Rattle.sheet.specs.Reading.{reach_outside}
use Rattle.lists.proofs.Questions.{chunks_threes, threes_is}
use Rattle.lists.proofs.tested.waypoints_outside.Goals as goal

pub returns : goal.returns
returns c =
    let waypoints = c.args.waypoints.now in
    any_from_yields_List (λ (w : List ℤ). any_below (λ axis. reach_outside axis (get_or w axis (pos 0))) (length w)) _ _ c.any.result c.any.ensures.ran
    (YieldsList-from_slice (first_chunks 3 (length waypoints / 3) waypoints) cc) (λ x b q k. search (rules, tests))
    ∙ ap (list_any _) (chunks_threes waypoints) ∙ threes_is reach_outside waypoints (pos 0)
