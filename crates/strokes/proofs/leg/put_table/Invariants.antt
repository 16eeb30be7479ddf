-- `put_table`: the axes so far have the leg's places.
use Rattle.std.proofs.Common.{ℕ, ◌≡◌, ◌≤◌, ◌<◌, length}
use Rattle.stretch.specs.Asked.{tabled}
use Rattle.strokes.specs.Strokes.{places_on}
use Rattle.strokes.proofs.leg.put_table.Given as goal

abbrev pub invariant-loop-axis : goal.invariant-loop-axis
invariant-loop-axis l = record {
  axes : length l.places ≡ 3;
  put : (axis u : ℕ) → axis < l.axis → u ≤ l.leg.ticks → tabled l.places axis u ≡ places_on l.leg.laid.sheet.bytes.now l.leg.laid.list.now l.leg.start axis u;
}
