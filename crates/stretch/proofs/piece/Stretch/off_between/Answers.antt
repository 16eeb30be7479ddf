-- `off_between`: each tick of the range is asked.
use Rattle.std.proofs.Common.{◌-◌, ◌∙◌, ℕ, Bool, refl, rules, tests}
use Rattle.std.proofs.lemmas.Iterator.{YieldsList-from_range}
use Rattle.std.proofs.lemmas.Iterator.Search.{any_from_yields_List}
use Rattle.stretch.specs.Asked.{tabled}
use Rattle.stretch.specs.Stretches.{off_at}
use Rattle.sheet.proofs.Ranges.{any_ranged}
use Rattle.stretch.proofs.piece.Stretch.off_between.Goals as goal

pub returns : goal.returns
returns c =
    let a = c.args in let s = a.self.now in
    let asked : ℕ → Bool = off_at s.leg.now.tolerance (tabled s.leg.now.places.now a.axis) s.start s.ticks in
    any_from_yields_List asked _ _ _ c.any.ensures.ran (YieldsList-from_range a.low a.high _ refl refl) (λ x b q k. search (rules, tests))
    ∙ any_ranged asked a.low (a.high - a.low)
