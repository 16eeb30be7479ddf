-- The worked mirror image (W16), by computing; then each part of the statements, tried on this course and its image.
use mathlib.Core.Path.{refl, subst}
use mathlib.Core.List.{[], ◌∷◌}
use lib.Dec.{T}
use lib.IntN.{ℤ, pos, negsuc}
use lib.Signed.{lt_z}
use Rattle.rounding.specs.Rounded.{rounded}
use Rattle.sheet.specs.Answers.{Told}
use Rattle.sheet.specs.Bytes.{be16, be32, signed32, any_below, sum_below}
use Rattle.sheet.specs.Reading.{read_by}
use Rattle.systems.specs.Passes.{target, renewed, turn, sweep, pass, passes}
use Rattle.systems.proofs.Below.{below}
use Rattle.spline.specs.Spline.{rows, next, prev, step_after, step_before, inner_row, held_start_row, held_end_row, along, row_of, rows_by}
use Rattle.spline.specs.Position.{numerator, position}
use Rattle.layout.specs.Course.{course}
use Rattle.layout.specs.Layout.{all_bends, lay_out_by, laid_out_by}
use Rattle.runner.specs.Ticks.{walk, spot_at}
use Rattle.place.specs.Places.{bend_outside, place_on, place_at_tick_by}
use Rattle.mirror.specs.Images.{MirrorRows, MirrorSheet}
use Rattle.mirror.specs.Theorems.{PlaceNegated, BendsNegated}
use Rattle.mirror.specs.Worked.{original, image, slopes_kept, MirrorTried}

image_mirrors : MirrorSheet original image 0
unfolding be16 be32 signed32
image_mirrors = record {
  same_kind = refl;
  same_points = refl;
  same_leg = below 1 _ (tt, refl);
  waypoints = below 2 _ ((tt, refl), refl);
  slopes = λ held. (refl, refl);
}

-- its slope at the start is 8, and would have to be below 0
slopes_asked : ¬ MirrorSheet original slopes_kept 0
unfolding be16 be32 signed32
slopes_asked m = subst (λ (z : ℤ). T (lt_z (pos 0) z)) (m.slopes refl).0 tt

pub mirror_tried : MirrorTried
unfolding rounded target renewed turn sweep pass passes be16 be32 signed32 any_below sum_below read_by next prev step_after step_before inner_row held_start_row held_end_row along row_of rows_by numerator position course all_bends lay_out_by laid_out_by walk spot_at bend_outside place_on place_at_tick_by
mirror_tried = record {
  mirrors = image_mirrors;
  bends_of_original = refl;
  bends_of_image = refl;
  places_of_original = refl;
  places_of_image = refl;
  no_mirror = slopes_asked;
  other_bends = refl;
}

rows_tried : MirrorRows (rows (course original 0)) (rows (course image 0))
unfolding be16 be32 signed32 next prev step_after step_before held_start_row held_end_row along row_of rows_by course
rows_tried = record { size = refl; prev = below 2 _ ((tt, refl), refl); next = below 2 _ ((tt, refl), refl); row = below 2 _ ((tt, refl), refl) }

-- with these bend numbers on north, and with the answers at tick 1
bends_tried : BendsNegated original image 0 (negsuc 65_535 ∷ pos 65_536 ∷ []) (pos 65_536 ∷ negsuc 65_535 ∷ [])
unfolding be16
bends_tried = below 2 _ ((tt, refl), refl)

abbrev northern : ℤ → Told
northern z = record { number = 0; values = z ∷ pos 0 ∷ pos 0 ∷ [] }

place_tried : PlaceNegated 0 (northern (pos 6)) (northern (negsuc 5))
place_tried = record { answered = (refl, refl); number = refl }
