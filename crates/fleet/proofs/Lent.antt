-- From what is promised of one seat's turn to what is promised of the list: the seat's record is set, and where the turn is no seat's the list is as it was.
use mathlib.Core.Path.{◌≡◌, refl, sym, ap, ◌∙◌}
use mathlib.Core.List.{List, [], ◌∷◌}
use Prim.Native.Nat.{ℕ, ◌≤◌}
use lib.IntN.{ℤ, pos}
use lib.ListN.{length, set, replicate, get_or-eq_default}
use lib.Seq.{set_out, set-get_or}
use Rattle.sheet.specs.Bytes.{be16, be32, signed32, any_below, sum_below}
use Rattle.sheet.specs.Reading.{read_by}
use Rattle.answers.proofs.Guards.{number_keeps}
use Rattle.spline.specs.Spline.{next}
use Rattle.layout.specs.Course.{course}
use Rattle.runner.specs.Ticks.{runner}
use Rattle.runner.specs.Steps.{off_legs, adrift, moved}
use Rattle.runner.specs.Worked.{sheet_a}
use Rattle.runner.specs.declared.Runner.{Runner}
use Rattle.place.specs.Places.{bend_outside}
use Rattle.seat.specs.Serving.{flown, served, seat_after, nobody}
use Rattle.fleet.specs.Round.{seat_of, round_answer, fleet_after}

-- tried: seat 1 goes over the waypoint, and seat 0 stays where it is
other_tried : fleet_after sheet_a (replicate 9 (pos 0)) (runner 0 0 ∷ runner 0 1 ∷ []) 1 ≡ runner 0 0 ∷ runner 1 0 ∷ []
unfolding be16 be32 signed32 any_below sum_below read_by course next off_legs adrift moved bend_outside flown served seat_after fleet_after
other_tried = refl

-- A9: a refused round leaves every record as it was
pub fleet_kept : (s : List ℕ) (list : List ℤ) (fleet : List Runner) (t : ℕ) → ¬ ((round_answer s list fleet t).number ≡ 0) → fleet_after s list fleet t ≡ fleet
unfolding fleet_after seat_after
fleet_kept s list fleet t h = ap (set fleet t) (number_keeps (round_answer s list fleet t) (moved s (seat_of fleet t)) (seat_of fleet t) h) ∙ set-get_or fleet t nobody

module _ (s : List ℕ) (list : List ℤ) (ys : List Runner) (t : ℕ) where
  -- the turn is no seat's: it was asked of nobody, and nothing is set
  module _ (h : length ys ≤ t) where
    pub away_told : served s list (length ys) t nobody ≡ round_answer s list ys t
    away_told = ap (served s list (length ys) t) (sym (get_or-eq_default ys nobody h))

    pub away_kept : ys ≡ fleet_after s list ys t
    unfolding fleet_after
    away_kept = sym (set_out ys t _ h)

  pub seat_set : (at : Runner) → at ≡ seat_after s list (length ys) t (seat_of ys t) → set ys t at ≡ fleet_after s list ys t
  unfolding fleet_after
  seat_set at e = ap (set ys t) e
