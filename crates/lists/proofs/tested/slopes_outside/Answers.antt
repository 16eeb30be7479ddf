-- `slopes_outside`: the question of a list, put as the definition puts it.
use Rattle.std.proofs.Common.{◌∙◌, pos, rules, tests}
use Rattle.std.proofs.lemmas.Iterator.{YieldsList-from_slice}
use Rattle.std.proofs.lemmas.Iterator.Search.{any_from_yields_List}
use Rattle.sheet.specs.Reading.{slope_outside}
use Rattle.lists.proofs.Questions.{any_is}
use Rattle.lists.proofs.tested.slopes_outside.Goals as goal

pub returns : goal.returns
returns c =
    let slopes = c.args.slopes.now in
    any_from_yields_List slope_outside _ _ c.any.result c.any.ensures.ran (YieldsList-from_slice slopes cc) (λ x b q k. search (rules, tests))
    ∙ any_is slope_outside slopes (pos 0)
