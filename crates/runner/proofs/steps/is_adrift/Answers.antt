-- `is_adrift`: what the check finds alone, written since it is tried besides.
use Rattle.std.proofs.Common.{◌≡◌, ◌∙◌, true, refl, sym, rules}
use Rattle.integers.proofs.Tried.{Tried, tried}
use Rattle.runner.specs.Steps.{adrift}
use Rattle.runner.proofs.steps.is_adrift.Goals as goal

-- tried on an open course, at lap 1
pub returns-then-is_open : goal.returns-then-is_open
unfolding adrift
returns-then-is_open c =
    let a = c.args in
    let lap_tried : adrift a.sheet.now.bytes.now a.at ≡ true → a.at.laps ≡ 1 → Tried =
    λ f l. tried (λ (need : goal.returns-then-is_open). need c) (◌∙◌ {b = true} (simp l refl) (sym f)) in
    search rules
