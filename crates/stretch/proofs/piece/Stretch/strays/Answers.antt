-- `strays`: each axis is asked.
use Rattle.std.proofs.Common.{◌∙◌, ℕ, Bool, refl, rules, tests}
use Rattle.std.proofs.lemmas.Iterator.{YieldsList-from_range}
use Rattle.std.proofs.lemmas.Iterator.Search.{any_from_yields_List}
use Rattle.stretch.specs.Asked.{tabled}
use Rattle.stretch.specs.Stretches.{strays_on, strays}
use Rattle.sheet.proofs.Ranges.{any_counted}
use Rattle.stretch.proofs.piece.Stretch.strays.Goals as goal

pub returns : goal.returns
unfolding strays
returns c =
    let s = c.args.self.now in
    let asked : ℕ → Bool = λ axis. strays_on s.leg.now.tolerance (tabled s.leg.now.places.now axis) s.start s.ticks in
    any_from_yields_List asked _ _ _ c.any.ensures.ran (YieldsList-from_range 0 3 _ refl refl) (λ x b q k. search (rules, tests))
    ∙ any_counted asked 3
