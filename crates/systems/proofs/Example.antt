-- A worked system, computed: x0 = 0; x0 + 4 x1 + x2 = 7; x1 + 4 x2 + x3 = -9; x3 = 0, the outer two without a row. It has all that the theorems ask for, and
-- theorems are tried here before they are proved: what they would say of the system, or of a smaller one, is computed. Nothing rests on this file; Size and
-- Lists name it so that it is checked first, by `pub use`: an import that nothing uses is tidied away.
use mathlib.Core.Path.{◌≡◌, refl, ap}
use mathlib.Core.List.{List, [], ◌∷◌}
use mathlib.Core.Bool.{true, false, cond}
use Prim.Native.Nat.{ℕ, zero, suc, ◌+◌, ◌*◌, ◌-◌, ◌≤◌, ◌<◌}
use native.Mathlib.Omega.{arith}
use lib.Dec.{lit≤}
use lib.ListN.{replicate, get_or-replicate}
use lib.IntN.{ℤ, pos, negsuc, nat_abs, ◌*ℤ◌}
use Rattle.integers.proofs.Ring.{◌⊕◌, ◌⊗◌, ⊝◌, #◌}
use Rattle.integers.proofs.Linear.{◌≐◌, ◌⊢◌≗◌with◌, lin}
use Rattle.integers.proofs.Tried.{Tried, tried}
use Rattle.rounding.specs.Rounded.{rounded}
use Rattle.systems.specs.Rows.{Row, row_sum, Rows, Dominant, Solves, Solution}
use Rattle.systems.specs.Passes.{target, renewed, turn, sweep, pass, passes}
use Rattle.systems.specs.Theorems.{Solvable, Unique, Passing, FortyPassesNear, PassesBounded, EarlyEnd}
use Rattle.systems.proofs.Below.{below}

abbrev inner : ℤ → Row
inner r = record { present = true; before = 1; middle = 4; after = 1; right = r }

abbrev none : Row
none = record { present = false; before = 0; middle = 1; after = 0; right = pos 0 }

abbrev row : ℕ → Row
row zero = none
row (suc zero) = inner (pos 7)
row (suc (suc zero)) = inner (negsuc 8)
row (suc (suc (suc i))) = none

-- the neighbours of the outer two do not matter
abbrev rows : Rows
rows = record { size = 4; prev = λ i. i - 1; next = λ i. cond (row i).present (i + 1) i; row = row }

dominant : Dominant 2 rows
dominant = record {
  two = lit≤ tt;
  prev_fits = λ i h. omega arith;
  next_fits = below 4 (λ i. rows.next i < 4) ((((tt, lit≤ tt), lit≤ tt), lit≤ tt), lit≤ tt);
  outer = below 4 (λ i. 2 * ((row i).before + (row i).after) ≤ (row i).middle) ((((tt, lit≤ tt), lit≤ tt), lit≤ tt), lit≤ tt);
  some = below 4 (λ i. 1 ≤ (row i).middle) ((((tt, lit≤ tt), lit≤ tt), lit≤ tt), lit≤ tt);
  absent = below 4 (λ i. (row i).present ≡ false → ((row i).before ≡ 0) × ((row i).after ≡ 0) × ((row i).right ≡ pos 0))
      ((((tt, λ e. (refl, refl, refl)), λ e. (cc, cc, cc)), λ e. (cc, cc, cc)), λ e. (refl, refl, refl));
}

abbrev zeros : List ℤ
zeros = replicate 4 (pos 0)

-- the right sides, times 65,536, are small enough for numbers up to 5 × 65,536
passing : Passing 2 rows 65536 327680 zeros
passing = record {
  dominant = dominant;
  small = below 4 (λ i. 2 * (65536 * nat_abs (row i).right) ≤ (2 - 1) * (row i).middle * 327680) ((((tt, lit≤ tt), lit≤ tt), lit≤ tt), lit≤ tt);
  room = lit≤ tt;
  zeros = λ i h. get_or-replicate 4 i (pos 0) (pos 0) h;
}

-- the exact solution, over 15
abbrev exact : ℕ → ℤ
exact zero = pos 0
exact (suc zero) = pos 37
exact (suc (suc zero)) = negsuc 42
exact (suc (suc (suc i))) = pos 0

solves : Solves rows 15 exact
solves = below 4 (λ i. row_sum (row i) (exact (rows.prev i)) (exact i) (exact (rows.next i)) ≡ pos 15 *ℤ (row i).right) ((((tt, refl), refl), refl), refl)

-- 65,536 times the exact numbers are 161,655.47 and -187,869.87
computed : passes rows 65536 40 zeros ≡ pos 0 ∷ pos 161656 ∷ negsuc 187869 ∷ pos 0 ∷ []
unfolding rounded target renewed turn sweep pass passes
computed = refl

-- the first of them is 8/15 away: within nine eighths, not within four
near_tried : Tried
unfolding rounded target renewed turn sweep pass passes
near_tried = tried (λ (near : FortyPassesNear). near 2 rows 65536 327680 zeros passing (lit≤ tt) 15 exact solves 1 (lit≤ tt)) (lit≤ tt)

-- the solution over 30 has twice the numbers: 30 × 37 = 15 × 74
unique_tried : Tried
unique_tried = tried (λ (same : Unique). same 2 rows dominant 15 30 exact doubled solves (below 4 Row30 ((((tt, refl), refl), refl), refl)) 1 (lit≤ tt)) refl
  where
    doubled : ℕ → ℤ
    doubled i = pos 2 *ℤ exact i

    Row30 : ℕ → Type 0
    Row30 i = row_sum (row i) (doubled (rows.prev i)) (doubled i) (doubled (rows.next i)) ≡ pos 30 *ℤ (row i).right

-- passes settle, they do not go back: what 40 of them give is not what none gives
early_tried : Tried
early_tried = tried (λ (early : EarlyEnd). early rows 65536 zeros 40 0) (λ later settled. absurd (omega arith))

-- ---- 2 x = 1, passed over at the scale 1: a half is rounded up, and the bound Q = 1 is reached
abbrev half : Rows
half = record { size = 1; prev = λ i. 0; next = λ i. 0; row = λ i. record { present = true; before = 0; middle = 2; after = 0; right = pos 1 } }

half_passing : Passing 2 half 1 1 (pos 0 ∷ [])
half_passing = record {
  dominant = record {
    two = lit≤ tt;
    prev_fits = λ i h. lit≤ tt;
    next_fits = λ i h. lit≤ tt;
    outer = λ i h. lit≤ tt;
    some = λ i h. lit≤ tt;
    absent = λ i h e. (cc, cc, cc);
  };
  small = λ i h. lit≤ tt;
  room = lit≤ tt;
  zeros = λ i h. get_or-replicate 1 i (pos 0) (pos 0) h;
}

bound_tried : Tried
unfolding rounded target renewed turn sweep pass passes
bound_tried = tried (λ (bounded : PassesBounded). bounded 2 half 1 1 (pos 0 ∷ []) half_passing 1 0 0 (lit≤ tt) (lit≤ tt)) (lit≤ tt)

-- ---- x0 + x1 = 1 and x1 + x0 = 0: dominant by 1, and without solution. So 1 is not enough.
abbrev singular : Rows
singular = record {
  size = 2;
  prev = λ i. 1 - i;
  next = λ i. i;
  row = λ i. record { present = true; before = 1; middle = 1; after = 0; right = pos (1 - i) };
}

unsolved : ¬ Solution singular
unsolved s =
    let none : pos s.denominator ≡ pos 0 = lin 3
    (λ D x y. # 1 ⊗ y ⊕ # 1 ⊗ x ⊕ # 0 ⊗ x ≐ D ⊗ # 1 ∷ # 1 ⊗ x ⊕ # 1 ⊗ y ⊕ # 0 ⊗ y ≐ D ⊗ # 0 ∷ [] ⊢ D ≗ # 0 with ⊝ # 1 ∷ # 1 ∷ []) tt
    (pos s.denominator) (s.unknown 0) (s.unknown 1) (s.solves 0 (lit≤ tt)) (s.solves 1 (lit≤ tt)) in
    omega (arith, ap nat_abs none, s.positive)

one_tried : Tried
one_tried = tried {Fact = ¬ Dominant 1 singular} (λ (solvable : Solvable) dominant. unsolved (solvable 1 singular dominant)) (λ dominant. omega (arith, dominant.two))
