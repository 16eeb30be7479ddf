-- Numbers of 32 bits as the code reads them, and what a passed test tells of a number.
use mathlib.Core.Path.{◌≡◌, refl, sym, ap, ◌∙◌}
use mathlib.Core.Bool.{Bool, false, ◌||◌}
use mathlib.Core.List.{List}
use Prim.Native.Nat.{ℕ, zero, suc, ◌+◌, ◌-◌, ◌*◌, ◌%◌, ◌≤◌, ◌<◌}
use native.Mathlib.Nat.{add-zero}
use native.Mathlib.Omega.{arith}
use borrow.Author.Tests.{lt-ltb, le-ltb, ltb-false, eq-eqb, ne_eqb}
use lib.Dec.{ltb, eqb, leb-suc-suc}
use lib.IntN.{ℤ, pos, negsuc, neg_ℤ, nat_abs}
use lib.Signed.{lt_z, ◌≤ℤ◌, lt_z_no}
use mir.Syntax.{w32, w64}
use Rattle.std.proofs.Math.Facts.{to_z-neg, to_z_pos}
use mir.Val.{to_z, of_z}
use Rattle.integers.proofs.Machine.{back, fits_abs}
use Rattle.integers.proofs.Order.{le_or_lt, by_test}
use Rattle.sheet.specs.Bytes.{be32, signed32, any_below}
use Rattle.sheet.specs.Reading.{outside, reach_outside}
use Rattle.sheet.proofs.Below.{or_left, or_right, any_three}

-- ---- the two halves of the range
pub signed_low : (x : ℕ) → x < 2147483648 → signed32 x ≡ pos x
unfolding signed32
signed_low x h = simp (lt-ltb x 2147483648 h)

pub signed_high : (x : ℕ) → 2147483648 ≤ x → x < 4294967296 → signed32 x ≡ negsuc (4294967295 - x)
unfolding signed32
signed_high x h k = simp (le-ltb x 2147483648 h, lt-ltb x 4294967296 k) (ap negsuc (omega arith))

-- std's signed number of 32 bits
pub signed_bits : (x : ℕ) → x < 4294967296 → to_z w32 x ≡ signed32 x
signed_bits x h =
    le_or_lt 2147483648 x (to_z w32 x ≡ signed32 x)
    (λ k. let e : x ≡ 4294967296 - suc (4294967295 - x) = omega arith in ap (to_z w32) e ∙ to_z-neg w32 (4294967295 - x) (omega arith) ∙ sym (signed_high x k h))
    (λ k. to_z_pos w32 k ∙ sym (signed_low x k))

pub signed_size : (x : ℕ) → x < 4294967296 → nat_abs (signed32 x) ≤ 2147483648
signed_size x h =
    le_or_lt 2147483648 x (nat_abs (signed32 x) ≤ 2147483648)
    (λ k. rw (signed_high x k h) (omega arith))
    (λ k. rw (signed_low x k) (omega arith))

-- a number that was read, as a test gets it
pub as_read : {x y : ℤ} → y ≡ x → nat_abs y ≤ 2147483648 → to_z w64 (of_z w64 y) ≡ x
as_read {y = y} e h = back refl (fits_abs y (omega arith)) ∙ e

-- ---- the limits
pos_below : (a n : ℕ) → lt_z (pos n) (neg_ℤ (pos a)) ≡ false
pos_below zero n = le-ltb n 0 (omega arith)
pos_below (suc a) n = refl

negsuc_below : (a n : ℕ) → lt_z (negsuc n) (neg_ℤ (pos a)) ≡ ltb a (suc n)
negsuc_below zero n = sym (lt-ltb 0 (suc n) (omega arith))
negsuc_below (suc a) n = sym (leb-suc-suc (suc a) n)

-- within the limits: the size is bounded by what bounds both
within_most : (a b m : ℕ) (z : ℤ) → a ≤ m → b ≤ m → outside a b z ≡ false → nat_abs z ≤ m
within_most a b m (pos n) h k e = omega (arith, ltb-false b n (or_right (lt_z (pos n) (neg_ℤ (pos a))) (ltb b n) e))
within_most a b m (negsuc n) h k e =
    omega (arith, ltb-false a (suc n) (sym (negsuc_below a n) ∙ or_left (lt_z (negsuc n) (neg_ℤ (pos a))) false e))

pub within_size : (a : ℕ) (z : ℤ) → outside a a z ≡ false → nat_abs z ≤ a
within_size a z e = within_most a a a z (omega arith) (omega arith) e

-- N7: so on every axis
pub reach_size : (axis : ℕ) (z : ℤ) → reach_outside axis z ≡ false → nat_abs z ≤ 1_000_000
reach_size axis z =
    by_test (eqb axis 2) (outside 50_000 120_000 z) (outside 1_000_000 1_000_000 z) (λ b. b ≡ false → nat_abs z ≤ 1_000_000)
    (λ up. within_most 50_000 120_000 1_000_000 z (omega arith) (omega arith))
    (λ plan. within_size 1_000_000 z)

-- N7 as the code asks it: on up, and on the other axes
pub on_up : (axis : ℕ) (z : ℤ) → axis ≡ 2 → outside 50_000 120_000 z ≡ reach_outside axis z
on_up axis z e = simp (eq-eqb axis 2 e)

pub in_plan : (axis : ℕ) (z : ℤ) → (axis ≡ 2 → ⊥) → outside 1_000_000 1_000_000 z ≡ reach_outside axis z
in_plan axis z h = simp (ne_eqb axis 2 h)

-- one comparison of the 32 bits, moved up by a
pub outside_moved : (a b x : ℕ) → x < 4294967296 → a ≤ 2147483648 → b < 2147483648 → ltb (a + b) ((x + a) % 4294967296) ≡ outside a b (signed32 x)
outside_moved a b x h ha hb =
    le_or_lt 2147483648 x (ltb (a + b) ((x + a) % 4294967296) ≡ outside a b (signed32 x))
    (λ k. rw (signed_high x k h, negsuc_below a (4294967295 - x)) (
    le_or_lt 4294967296 (x + a) (ltb (a + b) ((x + a) % 4294967296) ≡ (ltb a (suc (4294967295 - x)) || false))
    (λ m. rw (le-ltb (a + b) ((x + a) % 4294967296) (omega arith), le-ltb a (suc (4294967295 - x)) (omega arith)))
    (λ m. rw (lt-ltb (a + b) ((x + a) % 4294967296) (omega arith), lt-ltb a (suc (4294967295 - x)) (omega arith)))
    ))
    (λ k. rw (signed_low x k, pos_below a x) (
    le_or_lt x b (ltb (a + b) ((x + a) % 4294967296) ≡ ltb b x)
    (λ m. rw (le-ltb (a + b) ((x + a) % 4294967296) (omega arith), le-ltb b x m))
    (λ m. rw (lt-ltb (a + b) ((x + a) % 4294967296) (omega arith), lt-ltb b x m))
    ))

-- within the limits neither is passed
pub within_floor : (a b : ℕ) (z : ℤ) → outside a b z ≡ false → neg_ℤ (pos a) ≤ℤ z
within_floor a b z e = lt_z_no (rw (or_left (lt_z z (neg_ℤ (pos a))) (lt_z (pos b) z) e) tt)

pub within_ceiling : (a b : ℕ) (z : ℤ) → outside a b z ≡ false → z ≤ℤ pos b
within_ceiling a b z e = lt_z_no (rw (or_right (lt_z z (neg_ℤ (pos a))) (lt_z (pos b) z) e) tt)

-- a question asked of the three axes, of which a triple of numbers has one each
pub any_axis : (f : ℕ → ℤ → Bool) (s : List ℕ) (at : ℕ) {a b c : Bool}
    → a ≡ f 0 (signed32 (be32 s at)) → b ≡ f 1 (signed32 (be32 s (at + 4))) → c ≡ f 2 (signed32 (be32 s (at + 8)))
    → (a || b || c) ≡ any_below (λ axis. f axis (signed32 (be32 s (at + 4 * axis)))) 3
any_axis f s at p q r =
    any_three (λ axis. f axis (signed32 (be32 s (at + 4 * axis)))) (p ∙ ap (λ (n : ℕ). f 0 (signed32 (be32 s n))) (sym (add-zero at))) q r
