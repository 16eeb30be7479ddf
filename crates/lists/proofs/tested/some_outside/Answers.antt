-- `some_outside`: the answers of a list, gathered, are the definition's question.
use Rattle.std.proofs.Common.{◌∙◌, ◌||◌, Bool, false, rules, tests}
use Rattle.std.proofs.lemmas.Iterator.{YieldsList-from_slice}
use Rattle.std.proofs.lemmas.Iterator.Consumers.{fold_from_yields_List}
use Rattle.sheet.specs.Reading.{leg_outside}
use Rattle.lists.proofs.Questions.{folded_is}
use Rattle.lists.proofs.tested.some_outside.Goals as goal

pub returns : goal.returns
returns c =
    let legs = c.args.legs.now in
    fold_from_yields_List _ (λ (b : Bool) x. b || leg_outside x) false c.fold.result c.fold.ensures.ran (YieldsList-from_slice legs cc)
    (λ a x b q k. search (rules, tests))
    ∙ folded_is leg_outside legs 0
