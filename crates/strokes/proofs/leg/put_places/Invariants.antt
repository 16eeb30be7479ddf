-- `put_places`: the numbers so far are the positions at their offsets.
use Rattle.std.proofs.Common.{ℕ, ◌≡◌, ◌<◌, length}
use Rattle.systems.specs.Passes.{at}
use Rattle.spline.specs.Position.{position}
use Rattle.strokes.proofs.leg.put_places.Given as goal

abbrev pub invariant-loop-u : goal.invariant-loop-u
invariant-loop-u l = record {
  same_length : length l.x ≡ 257;
  put : (k : ℕ) → k < l.u → at l.x k ≡ position l.numbers.h k l.numbers.v l.numbers.w l.numbers.z l.numbers.y;
}
