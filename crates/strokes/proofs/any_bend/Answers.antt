-- `any_bend`: each leg is asked.
use Rattle.std.proofs.Common.{◌∙◌, ℕ, Bool, refl, ap, rules, tests, arith}
use Rattle.std.proofs.lemmas.Iterator.{YieldsList-from_range}
use Rattle.std.proofs.lemmas.Iterator.Search.{any_from_yields_List}
use Rattle.sheet.specs.Bytes.{any_below}
use Rattle.place.specs.Places.{bend_outside}
use Rattle.sheet.proofs.Ranges.{any_counted}
use Rattle.strokes.specs.Strokes.{any_bend}
use Rattle.strokes.proofs.any_bend.Goals as goal

pub returns : goal.returns
unfolding any_bend
returns c =
    let l = c.args.laid.now in
    let asked : ℕ → Bool = bend_outside l.sheet.bytes.now l.list.now in
    any_from_yields_List asked _ _ _ c.any.ensures.ran (YieldsList-from_range 0 c.legs.result c.legs.result refl (omega arith)) (λ x b q k. search (rules, tests))
    ∙ any_counted asked c.legs.result
    ∙ ap (any_below asked) c.legs.ensures
