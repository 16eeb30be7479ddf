-- Which row a waypoint has, in the code's terms (src/row.rt). All by spline's one case distinction, `Seat`.
use mathlib.Core.Path.{◌≡◌, refl, sym, ◌∙◌, ap, subst}
use mathlib.Core.Bool.{Bool, true, false}
use Prim.Native.Nat.{ℕ, ◌+◌, ◌-◌, ◌<◌}
use native.Mathlib.Omega.{arith}
use Rattle.integers.proofs.Order.{le_or_lt}
use Rattle.ends.specs.Ends.{leg_count}
use Rattle.ends.specs.declared.EndKind.{EndKind}
use Rattle.ends.specs.declared.EndKind.TheVariants.{Free, Held, Closed}
use Rattle.sheet.specs.Fields.{legs}
use Rattle.systems.specs.Rows.{Row}
use Rattle.spline.specs.Spline.{Course, prev, leg_before, step_after, step_before, inner_row, free_row, held_start_row, held_end_row, row_of}
use Rattle.spline.specs.Spline as spline
use Rattle.spline.proofs.Waypoints.{prev_lt}
use Rattle.spline.proofs.Seats.{last_point, inner_at, Seat, seat_row, shared, free_start, free_end, held_start, held_end}
use Rattle.layout.specs.Course.{course}
use Rattle.layout.specs.Inside.{along, AtEnd, Inner}
use Rattle.layout.specs.declared.axis.Axis.{Axis}
use Rattle.layout.proofs.Neighbours.{prev_later}
use Rattle.layout.proofs.Given.{same_legs, two_points, in_bounds}

-- the two legs of an inner waypoint
inner_legs : (c : Course) (k : EndKind) (n i : ℕ) → c.points ≡ n → Inner k n i → (prev c i < leg_count k n) × (i < leg_count k n)
inner_legs c Free n i e (a, b) = (omega (arith, prev_later c i a), omega arith)
inner_legs c Held n i e (a, b) = (omega (arith, prev_later c i a), omega arith)
inner_legs c Closed n i e h = (omega (arith, prev_lt c i (omega arith)), h)

module _ (x : Axis) where
  abbrev c : Course
  c = along x

  -- the kind that the code was told is the course's
  pub told_kind : (i : ℕ) → row_of 2 1 x.sheet.kind c i ≡ row_of 2 1 c.ends c i
  unfolding course
  told_kind i = ap (λ (e : EndKind). row_of 2 1 e c i) x.sheet.is_kind

  ends_are : {e : EndKind} → x.sheet.kind ≡ e → c.ends ≡ e
  unfolding course
  ends_are q = sym x.sheet.is_kind ∙ q

  seat_is : {i : ℕ} {r : Row} → Seat 2 1 c i r → row_of 2 1 x.sheet.kind c i ≡ r
  seat_is {i} t = told_kind i ∙ (seat_row 2 1 (in_bounds x) t).1

  pub shared_legs : (i : ℕ) → Inner x.sheet.kind x.sheet.points i → (prev c i < legs x.sheet.bytes.now) × (i < legs x.sheet.bytes.now)
  unfolding course
  shared_legs i h = rw (same_legs x) at (inner_legs c x.sheet.kind x.sheet.points i (sym x.sheet.is_points) h)

  pub inner_row_lem : (i : ℕ) → Inner x.sheet.kind x.sheet.points i → row_of 2 1 x.sheet.kind c i ≡ inner_at 2 1 c i
  unfolding course spline.legs
  inner_row_lem i h = let (f, g) = shared_legs i h in seat_is (shared i f g)

  -- an open course's last waypoint
  at_last : (e : EndKind) → x.sheet.kind ≡ e → leg_count e x.sheet.points ≡ x.sheet.points - 1
      → (r : ℕ → Row) → row_of 2 1 x.sheet.kind c (last_point c) ≡ r (last_point c)
      → (i : ℕ) → i + 1 ≡ x.sheet.points → row_of 2 1 x.sheet.kind c i ≡ r i
  unfolding course spline.legs
  at_last e q l r last_is i h =
      let last : last_point c ≡ i = omega (arith, ap (λ (j : EndKind). leg_count j x.sheet.points) q, same_legs x, two_points x) in
      subst (λ (j : ℕ). row_of 2 1 x.sheet.kind c j ≡ r j) last last_is

  pub held_start_row_lem : x.sheet.kind ≡ Held → row_of 2 1 x.sheet.kind c 0 ≡ held_start_row 2 1 (c.leg 0) (step_after c 0) c.start_slope
  held_start_row_lem q = seat_is (held_start (ends_are q))

  pub held_end_row_lem : x.sheet.kind ≡ Held → (i : ℕ) → i + 1 ≡ x.sheet.points → row_of 2 1 x.sheet.kind c i ≡ held_end_row 2 1 (leg_before c i) (step_before c i) c.end_slope
  held_end_row_lem q = at_last Held q refl (λ j. held_end_row 2 1 (leg_before c j) (step_before c j) c.end_slope) (seat_is (held_end (ends_are q)))

  free_start_row : x.sheet.kind ≡ Free → row_of 2 1 x.sheet.kind c 0 ≡ free_row
  free_start_row q = seat_is (free_start (ends_are q))

  free_end_row : x.sheet.kind ≡ Free → (i : ℕ) → i + 1 ≡ x.sheet.points → row_of 2 1 x.sheet.kind c i ≡ free_row
  free_end_row q = at_last Free q refl (λ j. free_row) (seat_is (free_end (ends_are q)))

  -- which of them a pass renews
  abbrev Present : Bool → ℕ → Type 0
  Present b i = (row_of 2 1 x.sheet.kind c i).present ≡ b

  pub inner_present : (i : ℕ) → Inner x.sheet.kind x.sheet.points i → Present true i
  unfolding inner_row
  inner_present i h = ap (λ (r : Row). r.present) (inner_row_lem i h)

  at_end : (b : Bool) (i : ℕ) → AtEnd x.sheet.points i → Present b 0 → (i + 1 ≡ x.sheet.points → Present b i) → Present b i
  at_end b i a first last = le_or_lt 1 i (Present b i) (λ h. last (a h)) (λ h. let e : 0 ≡ i = omega arith in subst (Present b) e first)

  pub held_present : x.sheet.kind ≡ Held → (i : ℕ) → AtEnd x.sheet.points i → Present true i
  unfolding held_start_row held_end_row
  held_present q i a = at_end true i a (ap (λ (r : Row). r.present) (held_start_row_lem q)) (λ h. ap (λ (r : Row). r.present) (held_end_row_lem q i h))

  pub free_absent : x.sheet.kind ≡ Free → (i : ℕ) → AtEnd x.sheet.points i → Present false i
  unfolding free_row
  free_absent q i a = at_end false i a (ap (λ (r : Row). r.present) (free_start_row q)) (λ h. ap (λ (r : Row). r.present) (free_end_row q i h))
