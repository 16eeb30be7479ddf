-- `spot_at`, tried at the tick 9 of a closed course of 8 ticks: 1.
use Rattle.std.proofs.Common.{◌≡◌, ◌∙◌, refl}
use Rattle.ends.specs.declared.EndKind.TheVariants.{Closed}
use Rattle.runner.proofs.ticks.spot_at.Goals.{After-reduced-here}

round_tried : (c : After-reduced-here) → let a = c.args in a.timed.now.sheet.kind ≡ Closed → a.timed.now.ticks ≡ 8 → a.tick ≡ 9 → c.reduced-here.result ≡ 1
round_tried c k p t = c.reduced-here.ensures ∙ simp (k, p, t) refl
