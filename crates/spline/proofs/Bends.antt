-- A course's bend numbers: its rows have all that crate systems asks of rows to be passed over. So forty passes come within nine eighths of every exact
-- spline (L6), no number on the way is large, and positions are near (C8).
use Prim.Native.Nat.{ℕ, ◌*◌, ◌-◌, ◌≤◌, ◌<◌}
use native.Mathlib.Omega.{arith}
use native.Mathlib.Nat.{mul-le-mul, mul-le-mul_left}
use lib.Dec.{lit≤}
use lib.ListN.{replicate, length-replicate, get_or-replicate}
use lib.IntN.{pos}
use Rattle.systems.specs.Passes.{at}
use Rattle.systems.specs.Theorems.{Passing}
use Rattle.systems.proofs.Distance.{passes_bounded, forty_passes_near}
use Rattle.spline.specs.Spline.{Course, InBounds, next, bend6, rows_by, rows, bends}
use Rattle.spline.specs.Position.{Near}
use Rattle.spline.specs.Theorems.{BendsNear, BendsBounded, PositionNear}
use Rattle.spline.proofs.Waypoints.{next_lt, counts}
use Rattle.spline.proofs.RowBounds.{Q, row_bounded, rows_dominant}
use Rattle.spline.proofs.RowsFollow.{rows_follow}
use Rattle.spline.proofs.Distance.{position_sharp}

-- what systems asks, of the rows of every k and m
pub rows_passing : (k m : ℕ) → 2 ≤ k → m ≤ k - 1 → {c : Course} → InBounds c → Passing k (rows_by k m c) 65536 Q (replicate c.points (pos 0))
unfolding rows_by
rows_passing k m two l {c} bounds = record {
  dominant = rows_dominant bounds k m two;
  small = λ i h. (row_bounded bounds k m two i h).small l;
  room = omega (arith, length-replicate c.points (pos 0));
  zeros = λ i h. get_or-replicate c.points i (pos 0) (pos 0) h;
}

pub bends_near : BendsNear
unfolding rows_by
bends_near c bounds f exact i l =
    forty_passes_near 2 (rows c) 65536 Q (replicate c.points (pos 0)) (rows_passing 2 1 (lit≤ tt) (lit≤ tt) bounds) (lit≤ tt)
    (6 * f.denominator) (bend6 c f) (rows_follow c bounds f exact) i l

pub bends_bounded : BendsBounded
unfolding rows_by
bends_bounded c bounds = passes_bounded 2 (rows c) 65536 Q (replicate c.points (pos 0)) (rows_passing 2 1 (lit≤ tt) (lit≤ tt) bounds)

-- at most 1/2 + 27 × 256 × 256 / 2,097,152 = 1 + 11/32
pub position_near : PositionNear
unfolding Near
position_near c bounds f exact i u l ul =
    let n : i < c.points = omega (arith, counts bounds) in
    omega (
      arith,
      position_sharp c bounds f exact i u l ul 9 (at (bends c) i) (at (bends c) (next c i))
          (bends_near c bounds f exact i n) (bends_near c bounds f exact (next c i) (next_lt c i n)),
      mul-le-mul_left f.denominator (mul-le-mul (bounds.leg i l).1 (bounds.leg i l).1),
    )
