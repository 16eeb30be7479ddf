-- `bend_outside`: the question of each axis in turn.
use Rattle.std.proofs.Common.{◌≡◌, ◌||◌, ◌∙◌, ◌+◌, ◌*◌, ℕ, Bool, refl, rules, tests}
use Rattle.std.proofs.lemmas.Iterator.{YieldsList-from_range}
use Rattle.std.proofs.lemmas.Iterator.Search.{any_from_yields_List}
use Rattle.sheet.proofs.Ranges.{any_counted}
use Rattle.place.specs.Places.{beyond}
use Rattle.systems.specs.Passes.{at}
use Rattle.place.proofs.bends.bend_outside.Goals as goal

pub returns : goal.returns
returns c =
    let list = c.args.list.now in let n = c.args.points in
    let asked : ℕ → Bool = λ axis. beyond (at list (axis * n + c.args.start)) || beyond (at list (axis * n + c.args.end)) in
    any_from_yields_List asked _ _ _ c.any.ensures.ran (YieldsList-from_range 0 3 _ refl refl) (λ x b q k. search (rules, tests)) ∙ any_counted asked 3
