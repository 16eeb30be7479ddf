-- What the claim would say of a worked sheet, W5's, computed before it is proved: a false claim fails here, by its numbers. Nothing rests on this file; Own
-- names it so that it is checked first.
use mathlib.Core.Path.{refl, ap}
use mathlib.Core.List.{List, ◌∷◌, ◌++◌}
use Prim.Native.Nat.{ℕ}
use native.Mathlib.Omega.{arith}
use lib.Dec.{lit≤}
use lib.IntN.{ℤ, pos}
use lib.ListN.{replicate}
use Rattle.integers.proofs.Tried.{Tried, tried}
use Rattle.rounding.specs.Rounded.{rounded}
use Rattle.ends.specs.declared.EndKind.TheVariants.{Held}
use Rattle.sheet.specs.Answers.{Told}
use Rattle.sheet.specs.Bytes.{be16, be32, signed32, any_below, sum_below}
use Rattle.sheet.specs.Fields.{kind, ticks}
use Rattle.sheet.specs.Reading.{Accepted, read_by, most_points}
use Rattle.sheet.proofs.Laws.{read_accepted}
use Rattle.systems.specs.Passes.{target, renewed, turn, sweep, pass, passes}
use Rattle.spline.specs.Spline.{Exact, value_at, first_at, second_at, legs, next, prev, step_after, step_before, held_start_row, held_end_row, inner_row, along, row_of, rows_by}
use Rattle.spline.specs.Position.{numerator, position, Near}
use Rattle.spline.proofs.Examples.{held_curve, exact_by}
use Rattle.layout.specs.Course.{course}
use Rattle.layout.specs.Layout.{all_bends, laid_out, lay_out_by, laid_out_by}
use Rattle.runner.specs.Ticks.{walk, spot_at}
use Rattle.place.specs.Places.{place_on, place_at_tick_by}
use Rattle.station.specs.Claim.{Own, Answers, Claim}

-- held, a leg of 4 ticks from 0 to 16 north, slopes 0
abbrev held : List ℕ
held = 0 ∷ 0 ∷ 0 ∷ 58 ∷ 1 ∷ 1 ∷ 0 ∷ 2 ∷ 0 ∷ 4 ∷ (replicate 15 0 ++ 16 ∷ replicate 32 0)

accepted : Accepted held
unfolding read_by be16 be32 signed32 any_below sum_below
accepted = (read_accepted most_points held Held 2 4 refl).0

abbrev list : List ℤ
list = laid_out held (replicate 6 (pos 0))

own : Own held list
unfolding lay_out_by read_by be16 be32 signed32 any_below sum_below
own = record { lent = replicate 6 (pos 0); not_refused = refl; holds = refl }

exact : Exact (course held 0) held_curve
unfolding course be16 be32 signed32 value_at first_at second_at legs next prev
exact = exact_by (course held 0) held_curve (lit≤ tt) (tt, (refl, refl, λ a. absurd (omega arith))) (refl, refl)

-- at tick 1 the place is 3 and the spline at 5/2; at tick 2 it is at 8
near_tried : Tried
unfolding rounded target renewed turn sweep pass passes be16 be32 signed32 any_below sum_below read_by next prev step_after step_before inner_row held_start_row held_end_row along row_of rows_by numerator position course all_bends lay_out_by laid_out_by walk spot_at place_on Near value_at
near_tried = tried (λ (claim : Claim). ((claim held accepted).by_tick list own 1 (lit≤ tt)).near 0 (lit≤ tt) held_curve exact) (lit≤ tt)

-- tick 5 is past the end: it is refused as 10, so the claim must not speak of it
past_tried : Tried
unfolding rounded target renewed turn sweep pass passes be16 be32 signed32 any_below sum_below read_by next prev step_after step_before inner_row held_start_row held_end_row along row_of rows_by course all_bends lay_out_by laid_out_by place_at_tick_by
past_tried = tried {Fact = ¬ Answers (kind held) (ticks held) 5}
    (λ (claim : Claim) answered. omega (arith, ap (λ (t : Told). t.number) ((claim held accepted).by_tick list own 5 answered).place)) (λ answered. omega arith)

-- a list of 4 is too short for 6 numbers
short_tried : Tried
unfolding be16
short_tried = tried (λ (claim : Claim). (claim held accepted).laying (replicate 4 (pos 0))) (λ long. absurd (omega arith))
