-- `waypoint_outside`: one test for each axis.
use Rattle.std.proofs.Common.{◌≡◌, ◌∙◌, ℕ, Bool, ap}
use Rattle.sheet.specs.Bytes.{signed32}
use Rattle.sheet.specs.Reading.{reach_outside}
use Rattle.sheet.proofs.Numbers.{any_axis}
use Rattle.sheet.proofs.reader.waypoint_outside.Goals as goal

-- a test's answer about the bits n, which are m
asked : (axis : ℕ) {n m : ℕ} {a : Bool} → a ≡ reach_outside axis (signed32 n) → n ≡ m → a ≡ reach_outside axis (signed32 m)
asked axis e f = e ∙ ap (λ (k : ℕ). reach_outside axis (signed32 k)) f

pub returns : goal.returns
returns c =
    any_axis reach_outside c.args.s.now c.args.at (asked 0 c.bits_outside.ensures c.read32.ensures.0) (asked 1 c.bits_outside-2.ensures c.read32-2.ensures.0)
    (asked 2 c.bits_outside-3.ensures c.read32-3.ensures.0)
