-- `last_tick`: what the check finds alone, written since it is tried besides.
use Rattle.std.proofs.Common.{◌≡◌, ◌∙◌, refl, sym, rules}
use Rattle.integers.proofs.Tried.{Tried, tried}
use Rattle.runner.specs.Ticks.{runner}
use Rattle.runner.specs.Backs.{last_tick}
use Rattle.runner.proofs.backs.last_tick.Goals as goal

-- tried on leg 1 of 2 ticks: offset 1
last_tried : (c : goal.After-leg_length-offset) → let a = c.args in a.leg ≡ 1 → a.laps ≡ 0 → last_tick a.sheet.now.bytes.now 1 ≡ runner 1 1 → c.leg_length-offset.result ≡ 2
    → Tried
last_tried c l n r h = tried (λ (need : goal.returns). need c) (◌∙◌ {b = runner 1 1} (simp (l, n, h) refl) (sym (simp (l, n) r)))

pub returns : goal.returns
returns c = search rules
