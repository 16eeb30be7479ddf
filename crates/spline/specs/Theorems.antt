-- What is proved of one axis of a course, each theorem as a statement that can be read without its proof; proofs/ has it under the same name in lower case.
use Rattle.std.specs.Prelude.{◌≡◌, true, [], ◌∷◌, ℕ, ◌+◌, ◌*◌, ◌≤◌, ◌<◌, replicate, ℤ, pos, nat_abs, ◌-ℤ◌, ◌*ℤ◌}
use Rattle.ends.specs.declared.EndKind.{EndKind}
use Rattle.ends.specs.declared.EndKind.TheVariants.{Free}
use Rattle.systems.specs.Rows.{gap, Solves}
use Rattle.systems.specs.Passes.{at, sweep, passes}
use Rattle.spline.specs.Spline.{Course, InBounds, legs, next, Curve, Exact, ExactSpline, SameCurve, value_at, bend6, row_of, rows, bends}
use Rattle.spline.specs.Position.{position, Near}

-- R6: in each row that there is, of whatever course, the outer factors add up to the gap, half the middle factor
abbrev pub RowGap : Type 0
RowGap = (e : EndKind) (c : Course) (i : ℕ) → let r = row_of 2 1 e c i in
    r.present ≡ true → (r.before + r.after ≡ gap r) × (2 * gap r ≡ r.middle)

-- E5: the bends of an exact spline solve the rows
abbrev pub RowsFollow : Type 0
RowsFollow = (c : Course) → InBounds c → (f : Curve) → Exact c f → Solves (rows c) (6 * f.denominator) (bend6 c f)

-- C4: there is an exact spline ..
abbrev pub SplineExists : Type 0
SplineExists = (c : Course) → InBounds c → ExactSpline c

-- .. and no other
abbrev pub OneCurve : Type 0
OneCurve = (c : Course) → InBounds c → (a b : Curve) → Exact c a → Exact c b → SameCurve c a b

-- a bend number Z is within b eighths of 65,536 times the exact bend at the waypoint i
abbrev pub Eighths : ℕ → Course → Curve → ℕ → ℤ → Type 0
Eighths b c f i Z = 8 * nat_abs (pos (6 * f.denominator) *ℤ Z -ℤ pos 65536 *ℤ bend6 c f i) ≤ b * (6 * f.denominator)

-- L6, of every exact spline
abbrev pub BendsNear : Type 0
BendsNear = (c : Course) → InBounds c → (f : Curve) → Exact c f → (i : ℕ) → i < c.points → Eighths 9 c f i (at (bends c) i)

-- W9, for all values: a free course of two waypoints has no row, and its bend numbers are 0
abbrev pub FreePairZeros : Type 0
FreePairZeros = (c : Course) → c.ends ≡ Free → c.points ≡ 2 → bends c ≡ pos 0 ∷ pos 0 ∷ []

-- sizes: every number in every pass, also half way through one (as far as i), is at most 65,536 × 2,005,000
abbrev pub BendsBounded : Type 0
BendsBounded = (c : Course) → InBounds c → (m i j : ℕ) → i ≤ c.points → j < c.points
    → nat_abs (at (sweep (rows c) 65536 i (passes (rows c) 65536 m (replicate c.points (pos 0)))) j) ≤ 131_399_680_000

-- the sharp form of C8: from bend numbers within b eighths, a position on a leg of h ticks is within 3×b×h×h / 2,097,152 + 1/2 of the exact spline
abbrev pub PositionSharp : Type 0
PositionSharp = (c : Course) → InBounds c → (f : Curve) → Exact c f → (i u : ℕ) → i < legs c → u ≤ c.leg i
    → (b : ℕ) (Z Y : ℤ) → Eighths b c f i Z → Eighths b c f (next c i) Y
    → 2_097_152 * nat_abs (pos f.denominator *ℤ position (c.leg i) u (c.value i) (c.value (next c i)) Z Y -ℤ value_at (f.cubic i) u)
    ≤ f.denominator * (1_048_576 + 3 * b * (c.leg i * c.leg i))

-- C8 on one axis: from the course's bend numbers every position is near
abbrev pub PositionNear : Type 0
PositionNear = (c : Course) → InBounds c → (f : Curve) → Exact c f → (i u : ℕ) → i < legs c → u ≤ c.leg i
    → Near f.denominator (value_at (f.cubic i) u) (position (c.leg i) u (c.value i) (c.value (next c i)) (at (bends c) i) (at (bends c) (next c i)))
