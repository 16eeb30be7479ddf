-- `numbers_on`: the four numbers are those of the definitions, and within limits.
use Rattle.std.proofs.Common.{◌≡◌, ◌<◌, ◌∙◌, ℕ, ℤ, List, false, ap, arith}
use Rattle.integers.proofs.Made.{read, given, small}
use Rattle.sheet.specs.Fields.{points, legs, leg, waypoint}
use Rattle.sheet.specs.Reading.{Accepted}
use Rattle.place.specs.Asked.{OnLeg}
use Rattle.place.specs.Places.{end_of, bend_of, bend_outside}
use Rattle.place.proofs.Fitting.{numbers_fit}
use Rattle.place.proofs.leg.Leg.numbers_on.Goals as goal

-- the numbers as the code makes them, of a leg of h ticks that ends at waypoint e
numbers_made : (s : List ℕ) → Accepted s → (list : List ℤ) (i e h axis : ℕ) {v w z y : ℤ} → i < legs s → bend_outside s list i ≡ false → axis < 3
    → e ≡ end_of s i → e < points s → h ≡ leg s i → v ≡ waypoint s axis i → w ≡ waypoint s axis e → z ≡ bend_of s list axis i → y ≡ bend_of s list axis e
    → OnLeg h 0 (read v) (read w) (read z) (read y)
numbers_made s a list i e h axis fits inside on is_end end_fits is_ticks v w z y =
    let f = numbers_fit s a list i fits inside axis on (rw (← is_end) end_fits) in
    let w' = w ∙ ap (waypoint s axis) is_end in let y' = y ∙ ap (bend_of s list axis) is_end in record {
      leg_low = rw is_ticks f.leg_low;
      leg_high = rw is_ticks f.leg_high;
      offset = omega arith;
      start = small (given v f.start tt);
      end = small (given w' f.end tt);
      start_bend = small (given z f.start_bend tt);
      end_bend = small (given y' f.end_bend tt);
    }

pub invariant_of-result : goal.invariant_of-result
invariant_of-result c =
    let l = c.args.self.now in let o = l.laid.sheet in let e = c.ends_on-v.ensures in record {
      within = numbers_made o.bytes.now o.accepted l.laid.list.now l.start l.end l.ticks c.args.axis l.fits l.inside c.requires l.is_end l.end_fits l.is_ticks
          e.ends.0 e.ends.1 e.bends.0 e.bends.1;
    }
