-- Mirror images (L7): of row systems, of courses on one axis, and of sheets on one axis.
use Rattle.std.specs.Prelude.{◌≡◌, List, map, ℕ, ◌<◌, ℤ, neg_ℤ}
use Rattle.ends.specs.declared.EndKind.TheVariants.{Held}
use Rattle.sheet.specs.Fields.{kind, points, legs, leg, waypoint, slope}
use Rattle.systems.specs.Rows.{Row, Rows}
use Rattle.spline.specs.Spline as spline
use Rattle.spline.specs.Spline.{Course}

-- every number of a list negated
abbrev pub negated : List ℤ → List ℤ
negated zs = map neg_ℤ zs

-- the same row with its right side negated
abbrev pub negated_row : Row → Row
negated_row r = record { present = r.present; before = r.before; middle = r.middle; after = r.after; right = neg_ℤ r.right }

-- S has as many unknowns as R, with the same neighbours and the same rows, their right sides negated
pub record MirrorRows (R S : Rows) : Type 0 where
  pub size : S.size ≡ R.size
  pub prev : (i : ℕ) → i < R.size → S.prev i ≡ R.prev i
  pub next : (i : ℕ) → i < R.size → S.next i ≡ R.next i
  pub row : (i : ℕ) → i < R.size → S.row i ≡ negated_row (R.row i)

-- e has the ends, waypoints and legs of c, with negated values and, if held, negated slopes
pub record MirrorCourse (c e : Course) : Type 0 where
  pub ends : e.ends ≡ c.ends
  pub points : e.points ≡ c.points
  pub leg : (i : ℕ) → i < spline.legs c → e.leg i ≡ c.leg i
  pub value : (i : ℕ) → i < c.points → e.value i ≡ neg_ℤ (c.value i)
  pub slopes : c.ends ≡ Held → (e.start_slope ≡ neg_ℤ c.start_slope) × (e.end_slope ≡ neg_ℤ c.end_slope)

-- L7: t has the kind, N and legs of s, and on this axis negated waypoint numbers and, if held, negated slopes. The other two axes are not asked.
pub record MirrorSheet (s t : List ℕ) (axis : ℕ) : Type 0 where
  pub same_kind : kind t ≡ kind s
  pub same_points : points t ≡ points s
  pub same_leg : (i : ℕ) → i < legs s → leg t i ≡ leg s i
  pub waypoints : (i : ℕ) → i < points s → waypoint t axis i ≡ neg_ℤ (waypoint s axis i)
  pub slopes : kind s ≡ Held → (slope t axis 0 ≡ neg_ℤ (slope s axis 0)) × (slope t axis 1 ≡ neg_ℤ (slope s axis 1))
