-- How near passes come to an exact solution (L6), and how large their numbers are. A new number fulfils its row but for what rounding adds, at most half
-- the middle factor; the rest is arithmetic of one row.
use mathlib.Core.Path.{◌≡◌, ap}
use mathlib.Core.List.{List, [], ◌∷◌}
use mathlib.Core.Bool.{true, false}
use Prim.Native.Nat.{ℕ, zero, suc, ◌+◌, ◌*◌, ◌-◌, ◌^◌, ◌≤◌, ◌<◌}
use native.Mathlib.Omega.{arith}
use native.Mathlib.Nat.{mul-le-mul_left, mul-le-mul_right, mul-pos, le_of_mul-le-mul_left, pow-succ', one-le-pow}
use lib.IntN.{ℤ, pos, nat_abs, ◌+ℤ◌, ◌-ℤ◌, ◌*ℤ◌}
use Rattle.integers.proofs.Ring.{◌⊕◌, ◌⊖◌, ◌⊗◌, ⊝◌, #◌, ◌≋◌, solve}
use Rattle.integers.proofs.Linear.{◌≐◌, ◌⊢◌≗◌with◌, lin}
use Rattle.integers.proofs.Order.{abs_add, abs_sub, abs_mul}
use Rattle.rounding.proofs.Laws.{rounded_near}
use Rattle.systems.specs.Rows.{Row, row_sum, Rows, Solves}
use Rattle.systems.specs.Passes.{at, target, renewed, sweep, passes}
use Rattle.systems.specs.Theorems.{Passing, PassesNear, FortyPassesNear, PassesBounded}
use Rattle.systems.proofs.Size.{row_sizes, difference_sizes, sizes_bounded}
use Rattle.systems.proofs.Invariant.{Each, sweeps_hold}

-- the number z, between p and q, fulfils the row w with right side r but for s, which is at most half the middle factor
abbrev Nearly : Row → ℤ → ℤ → ℤ → ℤ → Type 0
Nearly w r p z q = (s : ℤ) × (row_sum w p z q ≡ r +ℤ s) × (2 * nat_abs s ≤ w.middle)

renewed_row : (R : Rows) (c : ℕ) (zs : List ℤ) (i : ℕ) → 1 ≤ (R.row i).middle
    → Nearly (R.row i) (pos c *ℤ (R.row i).right) (at zs (R.prev i)) (renewed R c zs i) (at zs (R.next i))
unfolding target renewed
renewed_row R c zs i h =
    let w : Row = R.row i in (
      pos w.middle *ℤ renewed R c zs i -ℤ target R c zs i,
      solve 4 (λ b m a r. b ⊕ m ⊕ a ≋ r ⊕ (m ⊖ (r ⊖ b ⊖ a))) tt
          (pos w.before *ℤ at zs (R.prev i)) (pos w.middle *ℤ renewed R c zs i) (pos w.after *ℤ at zs (R.next i)) (pos c *ℤ w.right),
      rounded_near (target R c zs i) w.middle h,
    )

-- ---- sizes, with no exact solution
-- the arithmetic of a turn: sizes p, q of the neighbours, y of the new number, to which rounding adds s. What is at most Q in size rounds to at most Q.
size_kept : (k : ℕ) (w : Row) (p y q r s Q : ℕ) → 2 ≤ k → 1 ≤ w.middle → k * (w.before + w.after) ≤ w.middle
    → w.middle * y ≤ w.before * p + w.after * q + (r + s) → k * r ≤ (k - 1) * w.middle * Q → 2 * s ≤ w.middle → p ≤ Q → q ≤ Q → y ≤ Q
size_kept zero w p y q r s Q two some outer row small rounds hp hq = absurd (omega arith)
size_kept (suc j) w p y q r s Q two some outer row small rounds hp hq =
    let e : suc j - 1 ≡ j = omega arith in
    let small' : suc j * r ≤ j * w.middle * Q = rw e at small in
    let twice : 2 * y ≤ 2 * Q + 1 = le_of_mul-le-mul_left {k = suc j * w.middle}
    (omega (
      arith,
      mul-le-mul_left (2 * suc j) row,
      mul-le-mul_left (2 * suc j * w.before) hp,
      mul-le-mul_left (2 * suc j * w.after) hq,
      mul-le-mul_left (suc j) rounds,
      mul-le-mul_right (2 * Q) outer,
    ))
    (mul-pos (omega arith) some) in
    omega arith

module _ (k : ℕ) (R : Rows) (c Q : ℕ) (zs : List ℤ) (g : Passing k R c Q zs) where
  abbrev Small : ℕ → ℕ → ℤ → Type 0
  Small m j z = nat_abs z ≤ Q

  small_new : (m : ℕ) (ys : List ℤ) → Each R (Small m) ys → (i : ℕ) → i < R.size → (R.row i).present ≡ true → nat_abs (renewed R c ys i) ≤ Q
  small_new m ys l i h present =
      let p = at ys (R.prev i) in
      let z = renewed R c ys i in
      let q = at ys (R.next i) in
      let d = g.dominant in
      let (s, e, rounds) = renewed_row R c ys i (d.some i h) in
      size_kept k (R.row i) (nat_abs p) (nat_abs z) (nat_abs q) (c * nat_abs (R.row i).right) (nat_abs s) Q d.two (d.some i h) (d.outer i h)
      (omega (
        arith,
        row_sizes (R.row i) p z q (pos c *ℤ (R.row i).right +ℤ s) e,
        abs_add (pos c *ℤ (R.row i).right) s,
        abs_mul (pos c) (R.row i).right,
      ))
      (g.small i h) rounds (l (R.prev i) (d.prev_fits i h)) (l (R.next i) (d.next_fits i h))

  numbers_bounded : (m i j : ℕ) → i ≤ R.size → j < R.size → nat_abs (at (sweep R c i (passes R c m zs)) j) ≤ Q
  numbers_bounded = sweeps_hold R c Small (record { weaker = λ m j z h. h; new = small_new; old = λ m i z h p l. l }) zs g.room
      (λ j h. rw (g.zeros j h) (omega arith))

pub passes_bounded : PassesBounded
passes_bounded = numbers_bounded

-- ---- the distance from an exact solution
-- the arithmetic of a turn: distances p, q of the neighbours, e of the new number, to which rounding adds s; P is 2^m
distance_halved : (w : Row) (P D Q p e q s : ℕ) → 1 ≤ w.middle → 2 * (w.before + w.after) ≤ w.middle
    → w.middle * e ≤ w.before * p + w.after * q + D * s → 2 * s ≤ w.middle → P * p ≤ D * (P + Q) → P * q ≤ D * (P + Q) → 2 * P * e ≤ D * (2 * P + Q)
distance_halved w P D Q p e q s some outer row rounds hp hq = le_of_mul-le-mul_left {k = w.middle}
    (omega (
      arith,
      mul-le-mul_left (2 * P) row,
      mul-le-mul_left (2 * w.before) hp,
      mul-le-mul_left (2 * w.after) hq,
      mul-le-mul_left (P * D) rounds,
      mul-le-mul_right (D * (P + Q)) outer,
    ))
    some

module _ (k : ℕ) (R : Rows) (c Q : ℕ) (zs : List ℤ) (g : Passing k R c Q zs) (D : ℕ) (x : ℕ → ℤ) (solves : Solves R D x) where
  -- how far z is from c times the exact number at j, over the denominator D
  distance : ℕ → ℤ → ℕ
  distance j z = nat_abs (pos D *ℤ z -ℤ pos c *ℤ x j)

  Near : ℕ → ℕ → ℤ → Type 0
  Near m j z = (2 ^ m * distance j z ≤ D * (2 ^ m + Q)) × ((R.row j).present ≡ false → z ≡ pos 0)

  -- the distances fulfil the row in sizes, with D times the rounding on the right
  distance_row : (i : ℕ) → i < R.size → (p z q s : ℤ) → row_sum (R.row i) p z q ≡ pos c *ℤ (R.row i).right +ℤ s
      → (R.row i).middle * distance i z ≤ (R.row i).before * distance (R.prev i) p + (R.row i).after * distance (R.next i) q + D * nat_abs s
  unfolding distance
  distance_row i h p z q s e =
      let r = (R.row i).right in
      omega (
        arith,
        abs_mul (pos D) s,
        difference_sizes (R.row i) (pos D) (pos c) p z q (x (R.prev i)) (x i) (x (R.next i)) (pos c *ℤ r +ℤ s) (pos D *ℤ r) (pos D *ℤ s) e (solves i h)
            (solve 4 (λ D c r s. D ⊗ (c ⊗ r ⊕ s) ⊖ c ⊗ (D ⊗ r) ≋ D ⊗ s) tt (pos D) (pos c) r s),
      )

  -- at the start: the size lemma, times c
  exact_bounded : (j : ℕ) → j < R.size → c * nat_abs (x j) ≤ D * Q
  exact_bounded = sizes_bounded k R g.dominant (λ i. c * nat_abs (x i)) (λ i. D * (c * nat_abs (R.row i).right)) (D * Q)
      (λ i h. omega (
        arith,
        mul-le-mul_left c (row_sizes (R.row i) (x (R.prev i)) (x i) (x (R.next i)) (pos D *ℤ (R.row i).right) (solves i h)),
        ap (λ (n : ℕ). c * n) (abs_mul (pos D) (R.row i).right),
      ))
      (λ i h. omega (arith, mul-le-mul_left D (g.small i h)))

  near_start : Each R (Near 0) zs
  unfolding Near distance
  near_start j h = (
    rw (g.zeros j h)
        (omega (arith, exact_bounded j h, abs_sub (pos D *ℤ pos 0) (pos c *ℤ x j), abs_mul (pos D) (pos 0), abs_mul (pos c) (x j))),
    λ p. g.zeros j h,
  )

  -- what is near after m + 1 passes was near enough after m
  near_weaker : (m j : ℕ) (z : ℤ) → Near (suc m) j z → Near m j z
  unfolding Near
  near_weaker m j z (h, p) = (omega (arith, rw (pow-succ' 2 m) at h), p)

  -- a turn halves the distance but for the rounding; of the dominance only the factor 2 is used
  near_new : (m : ℕ) (ys : List ℤ) → Each R (Near m) ys → (i : ℕ) → i < R.size → (R.row i).present ≡ true → Near (suc m) i (renewed R c ys i)
  unfolding Near
  near_new m ys l i h present =
      let p = at ys (R.prev i) in
      let z = renewed R c ys i in
      let q = at ys (R.next i) in
      let d = g.dominant in
      let (s, e, rounds) = renewed_row R c ys i (d.some i h) in (
        rw (pow-succ' 2 m)
            (distance_halved (R.row i) (2 ^ m) D Q (distance (R.prev i) p) (distance i z) (distance (R.next i) q) (nat_abs s) (d.some i h)
            (omega (arith, d.outer i h, mul-le-mul_right ((R.row i).before + (R.row i).after) d.two))
            (distance_row i h p z q s e) rounds (l (R.prev i) (d.prev_fits i h)).0 (l (R.next i) (d.next_fits i h)).0),
        λ absent. cc,
      )

  -- where there is no row, 0 fulfils the row x(i) = 0 exactly
  near_old : (m i : ℕ) (z : ℤ) → i < R.size → (R.row i).present ≡ false → Near m i z → Near (suc m) i z
  unfolding Near
  near_old m i z h p l =
      let (b, a, r) = g.dominant.absent i h p in
      let row = lin 6 (λ b m a c z r. z ≐ # 0 ∷ r ≐ # 0 ∷ [] ⊢ b ⊗ # 0 ⊕ m ⊗ z ⊕ a ⊗ # 0 ≗ c ⊗ r ⊕ # 0 with m ∷ ⊝ c ∷ []) tt
      (pos (R.row i).before) (pos (R.row i).middle) (pos (R.row i).after) (pos c) z (R.row i).right (l.1 p) r in
      let none : distance i z ≤ 0 = le_of_mul-le-mul_left {k = (R.row i).middle}
      (omega (
        arith,
        distance_row i h (pos 0) z (pos 0) (pos 0) row,
        ap (λ (n : ℕ). n * distance (R.prev i) (pos 0)) b,
        ap (λ (n : ℕ). n * distance (R.next i) (pos 0)) a,
      ))
      (g.dominant.some i h) in
      (omega (arith, mul-le-mul_left (2 ^ suc m) none), l.1)

  near : (m i : ℕ) → i < R.size → Near m i (at (passes R c m zs) i)
  unfolding sweep
  near m i h = sweeps_hold R c Near (record { weaker = near_weaker; new = near_new; old = near_old }) zs g.room near_start m 0 i (omega arith) h

pub passes_near : PassesNear
unfolding Near distance
passes_near k R c Q zs g D x s m i h = (near k R c Q zs g D x s m i h).0

-- enough passes come as near as 1 + 1/N
near_enough : (d D Q P N : ℕ) → 1 ≤ P → N * Q ≤ P → P * d ≤ D * (P + Q) → N * d ≤ (N + 1) * D
near_enough d D Q P N some enough near = le_of_mul-le-mul_left {k = P} (omega (arith, mul-le-mul_left N near, mul-le-mul_left D enough)) some

pub forty_passes_near : FortyPassesNear
forty_passes_near k R c Q zs g enough D x s i h = omega (
  arith,
  near_enough (nat_abs (pos D *ℤ at (passes R c 40 zs) i -ℤ pos c *ℤ x i)) D Q (2 ^ 40) 8 (one-le-pow 40 2 (omega arith)) enough
      (passes_near k R c Q zs g D x s 40 i h),
)
