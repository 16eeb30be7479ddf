-- `is_landed`: what the check finds alone, written since it is tried besides.
use Rattle.std.proofs.Common.{◌≡◌, ◌∙◌, false, refl, sym, rules}
use Rattle.integers.proofs.Tried.{Tried, tried}
use Rattle.runner.specs.Steps.{landed}
use Rattle.runner.proofs.steps.is_landed.Goals as goal

-- tried at the offset 3 of an open course's last leg of 4: not landed
pub returns-then-at-legs : goal.returns-then-at-legs
returns-then-at-legs c =
    let a = c.args in
    let early_tried : landed a.sheet.now.bytes.now a.at ≡ false → a.at.offset ≡ 3 → c.leg_length.result ≡ 4 → Tried =
    λ f u h. tried (λ (need : goal.returns-then-at-legs). need c) (◌∙◌ {b = false} (simp (u, h) refl) (sym f)) in
    search rules
