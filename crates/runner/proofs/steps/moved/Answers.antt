-- `moved`: what the check finds alone, written since it is tried besides.
use Rattle.std.proofs.Common.{◌≡◌, ◌∙◌, refl, sym, arith}
use Rattle.std.proofs.lemmas.Grind.{common_steps}
use Rattle.integers.proofs.Tried.{Tried, tried}
use Rattle.runner.specs.Ticks.{runner, at_lap}
use Rattle.runner.specs.Steps.{moved}
use Rattle.runner.proofs.steps.moved.Goals as goal

-- tried at the first waypoint: to offset 1, and no lap is added on leaving it
step_tried : (c : goal.Then-next-leg_length) → let a = c.args in moved a.sheet.now.bytes.now a.at ≡ runner 0 1 → a.at.leg ≡ 0 → a.at.offset ≡ 0 → a.at.laps ≡ 0 → Tried
step_tried c m l u n = tried (λ (need : goal.returns-then-next-leg_length). need c) (◌∙◌ {b = runner 0 1} (simp (l, u, n) refl) (sym m))

pub returns-then-next-leg_length : goal.returns-then-next-leg_length
unfolding moved
returns-then-next-leg_length c = grind (arith, common_steps)

-- tried at the last tick of a closed course, leg 2 and offset 3: round to the first waypoint, a lap flown
round_tried : (c : goal.After-next_lap) → let a = c.args in a.at ≡ runner 2 3 → moved a.sheet.now.bytes.now (runner 2 3) ≡ at_lap 1 (runner 0 0) → c.next_lap.result ≡ 1
    → Tried
round_tried c r m n = tried (λ (need : goal.returns-in-Closed). need c) (simp (r, m, n) refl)

pub returns-in-Closed : goal.returns-in-Closed
unfolding moved
returns-in-Closed c = let own = c.args.sheet.now.is_kind in grind (arith, common_steps)
