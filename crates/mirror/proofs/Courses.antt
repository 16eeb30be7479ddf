-- Why a mirrored course has negated bend numbers and positions: its rows are the same with negated right sides, whichever seat a waypoint has.
use mathlib.Core.Path.{◌≡◌, refl, sym, ap, ◌∙◌, subst}
use Prim.Native.Nat.{ℕ, zero, suc, ◌*◌, ◌-◌, ◌<◌}
use native.Mathlib.Omega.{arith}
use lib.IntN.{ℤ, pos, neg_ℤ, ◌-ℤ◌}
use lib.ListN.{replicate}
use Rattle.integers.proofs.Ring.{solve, ◌≋◌, ◌⊕◌, ◌⊖◌, ◌⊗◌, ⊝◌, #◌}
use Rattle.rounding.specs.Rounded.{rounded}
use Rattle.rounding.proofs.Laws.{rounded_mirrored}
use Rattle.systems.specs.Rows.{Row}
use Rattle.systems.specs.Passes.{passes}
use Rattle.spline.specs.Spline.{Course, InBounds, legs, next, prev, step_after, step_before, inner_row, free_row, held_start_row, held_end_row, rows_by, rows, bends}
use Rattle.spline.specs.Position.{numerator, position}
use Rattle.spline.proofs.Waypoints.{prev_lt, next_lt, counts}
use Rattle.spline.proofs.Seats.{last_point, inner_at, Seat, seat, seat_row, shared, free_start, free_end, held_start, held_end}
use Rattle.mirror.specs.Images.{negated, negated_row, MirrorRows, MirrorCourse}
use Rattle.mirror.specs.Theorems.{BendsMirrored, PositionMirrored}
use Rattle.mirror.proofs.Passes.{negated_zeros, passes_mirrored}

-- ---- the position
pub position_mirrored : PositionMirrored
unfolding numerator position
position_mirrored h u v w Z Y =
    ap (λ n. rounded n (65536 * h))
    (solve 6 (λ h t v w a b.
    # 65536 ⊗ (t ⊗ ⊝ w ⊕ (h ⊖ t) ⊗ ⊝ v) ⊖ t ⊗ (h ⊖ t) ⊗ ((h ⊕ t) ⊗ ⊝ b ⊕ (# 2 ⊗ h ⊖ t) ⊗ ⊝ a)
    ≋ ⊝ (# 65536 ⊗ (t ⊗ w ⊕ (h ⊖ t) ⊗ v) ⊖ t ⊗ (h ⊖ t) ⊗ ((h ⊕ t) ⊗ b ⊕ (# 2 ⊗ h ⊖ t) ⊗ a))) tt
    (pos h) (pos u) v w Z Y)
    ∙ rounded_mirrored (numerator h u v w Z Y) (65536 * h)

-- ---- rows
minus_negated : (a b : ℤ) → neg_ℤ a -ℤ neg_ℤ b ≡ neg_ℤ (a -ℤ b)
minus_negated = solve 2 (λ a b. ⊝ a ⊖ ⊝ b ≋ ⊝ (a ⊖ b)) tt

-- a row with another right side
abbrev with_right : Row → ℤ → Row
with_right r x = record { present = r.present; before = r.before; middle = r.middle; after = r.after; right = x }

module _ (k m : ℕ) where
  inner_negated : (g h : ℕ) (d e : ℤ) → inner_row k m g h (neg_ℤ d) (neg_ℤ e) ≡ negated_row (inner_row k m g h d e)
  unfolding inner_row
  inner_negated g h d e = ap (with_right (inner_row k m g h d e))
      (solve 5 (λ m g h d e. m ⊗ (g ⊗ ⊝ d ⊖ h ⊗ ⊝ e) ≋ ⊝ (m ⊗ (g ⊗ d ⊖ h ⊗ e))) tt (pos m) (pos g) (pos h) d e)

  held_start_negated : (h : ℕ) (d p : ℤ) → held_start_row k m h (neg_ℤ d) (neg_ℤ p) ≡ negated_row (held_start_row k m h d p)
  unfolding held_start_row
  held_start_negated h d p = ap (with_right (held_start_row k m h d p))
      (solve 4 (λ m h d p. m ⊗ (⊝ d ⊖ h ⊗ ⊝ p) ≋ ⊝ (m ⊗ (d ⊖ h ⊗ p))) tt (pos m) (pos h) d p)

  held_end_negated : (g : ℕ) (e p : ℤ) → held_end_row k m g (neg_ℤ e) (neg_ℤ p) ≡ negated_row (held_end_row k m g e p)
  unfolding held_end_row
  held_end_negated g e p = ap (with_right (held_end_row k m g e p))
      (solve 4 (λ m g e p. m ⊗ (g ⊗ ⊝ p ⊖ ⊝ e) ≋ ⊝ (m ⊗ (g ⊗ p ⊖ e))) tt (pos m) (pos g) e p)

free_negated : free_row ≡ negated_row free_row
unfolding free_row
free_negated = refl

-- ---- a course c, and beside it one of the same ends and waypoints with legs l, values v and slopes p and q
module _ (c : Course) (l : ℕ → ℕ) (v : ℕ → ℤ) (p q : ℤ) where
  abbrev image : Course
  image = record { ends = c.ends; points = c.points; leg = l; value = v; start_slope = p; end_slope = q }

  same_prev : (i : ℕ) → prev image i ≡ prev c i
  unfolding prev
  same_prev zero = refl
  same_prev (suc i) = refl

  module _ (bounds : InBounds c) (image_bounds : InBounds image) (mirror : MirrorCourse c image) where
    after_negated : (i : ℕ) → i < c.points → step_after image i ≡ neg_ℤ (step_after c i)
    unfolding step_after next
    after_negated i h = (λ j. mirror.value (next c i) (next_lt c i h) j -ℤ mirror.value i h j) ∙ minus_negated (c.value (next c i)) (c.value i)

    before_negated : (i : ℕ) → i < c.points → step_before image i ≡ neg_ℤ (step_before c i)
    unfolding step_before
    before_negated i h =
        ap (λ (x : ℕ). v i -ℤ v x) (same_prev i)
        ∙ (λ j. mirror.value i h j -ℤ mirror.value (prev c i) (prev_lt c i h) j)
        ∙ minus_negated (c.value i) (c.value (prev c i))

    module _ (k m : ℕ) where
      inner_at_lem : (i : ℕ) → prev c i < legs c → i < legs c → i < c.points → inner_at k m image i ≡ negated_row (inner_at k m c i)
      inner_at_lem i f g h =
          (λ j. inner_row k m ((ap l (same_prev i) ∙ mirror.leg (prev c i) f) j) (mirror.leg i g j) (after_negated i h j) (before_negated i h j))
          ∙ inner_negated k m (c.leg (prev c i)) (c.leg i) (step_after c i) (step_before c i)

      last_leg : l (prev image (last_point c)) ≡ c.leg (prev c (last_point c))
      unfolding prev
      last_leg = mirror.leg (legs c - 1) (omega (arith, counts bounds))

      seat_negated : {i : ℕ} {r : Row} → i < c.points → Seat k m c i r → Seat k m image i (negated_row r)
      unfolding legs
      seat_negated h (shared i f g) = subst (Seat k m image i) (inner_at_lem i f g h) (shared i (rw (same_prev i) f) g)
      seat_negated h (free_start e) = subst (Seat k m image 0) free_negated (free_start e)
      seat_negated h (free_end e) = subst (Seat k m image (last_point c)) free_negated (free_end e)
      seat_negated h (held_start e) = subst (Seat k m image 0)
          ((λ j. held_start_row k m (mirror.leg 0 (counts bounds).some_leg j) (after_negated 0 h j) ((mirror.slopes e).0 j))
          ∙ held_start_negated k m (c.leg 0) (step_after c 0) c.start_slope)
          (held_start e)
      seat_negated h (held_end e) = subst (Seat k m image (last_point c))
          ((λ j. held_end_row k m (last_leg j) (before_negated (last_point c) h j) ((mirror.slopes e).1 j))
          ∙ held_end_negated k m (c.leg (prev c (last_point c))) (step_before c (last_point c)) c.end_slope)
          (held_end e)

      rows_mirrored : MirrorRows (rows_by k m c) (rows_by k m image)
      unfolding rows_by next
      rows_mirrored = record {
        size = refl;
        prev = λ i h. same_prev i;
        next = λ i h. refl;
        row = λ i h. (seat_row k m image_bounds (seat_negated h (seat k m bounds i h))).1;
      }

    image_bends : bends image ≡ negated (bends c)
    image_bends =
        ap (passes (rows image) 65536 40) (sym (negated_zeros c.points))
        ∙ passes_mirrored (rows c) (rows image) (rows_mirrored 2 1) 65536 40 (replicate c.points (pos 0))

-- ---- two courses
pub bends_mirrored : BendsMirrored
bends_mirrored c e bounds image_bounds mirror =
    ap bends same
    ∙ image_bends c e.leg e.value e.start_slope e.end_slope bounds (subst InBounds same image_bounds) (subst (MirrorCourse c) same mirror)
  where
    same : e ≡ image c e.leg e.value e.start_slope e.end_slope
    same = λ i. record { ends = mirror.ends i; points = mirror.points i; leg = e.leg; value = e.value; start_slope = e.start_slope; end_slope = e.end_slope }
