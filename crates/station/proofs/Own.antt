-- The station's own bend numbers (C1): a laying out leaves them, and at axis × N + i of a list that has them stands the number that the passes leave at the
-- waypoint i of that axis (L5).
use mathlib.Core.Path.{◌≡◌, refl, sym, ◌∙◌, ap}
use mathlib.Core.List.{List, ◌++◌}
use Prim.Native.Nat.{ℕ, ◌+◌, ◌*◌, ◌≤◌, ◌<◌}
use native.Mathlib.Omega.{arith}
use native.Mathlib.Nat.{mul-le-mul_right, le-pred_of_lt}
use lib.IntN.{ℤ, pos}
use lib.ListN.{length, take, drop, replicate, length-append, length-take, length-replicate, get_or-append}
use lib.Seq.{get_or-take, get_or-append-add, take_at}
use Rattle.sheet.specs.Fields.{points}
use Rattle.sheet.specs.Reading.{most_points}
use Rattle.sheet.proofs.Laws.{accepted_bounds}
use Rattle.systems.specs.Passes.{at}
use Rattle.systems.proofs.Below.{below}
use Rattle.systems.proofs.Lists.{length_passes}
use Rattle.spline.specs.Spline.{Course, rows, bends}
use Rattle.layout.specs.Course.{course}
use Rattle.layout.specs.Layout.{all_bends}
use Rattle.layout.proofs.Outcomes.{done_answer, done_list}
use Rattle.place.specs.Places.{bend_of}
use Rattle.station.specs.Claim.{Own, OwnLaid}
pub use Rattle.station.proofs.Tried as tried

-- the laying out itself is the one that C1 asks for
pub own_laid : OwnLaid
own_laid s accepted list long = record { lent = list; not_refused = done_answer most_points s (length list) accepted (accepted_bounds s accepted).few long; holds = refl }

at_first : (xs ys : List ℤ) (j i : ℕ) → j ≡ i → i < length xs → at (xs ++ ys) j ≡ at xs i
at_first xs ys j i e h = ap (λ (k : ℕ). at (xs ++ ys) k) e ∙ get_or-append xs ys (pos 0) i h

at_second : (xs ys : List ℤ) (j i : ℕ) → j ≡ length xs + i → at (xs ++ ys) j ≡ at ys i
at_second xs ys j i e = ap (λ (k : ℕ). at (xs ++ ys) k) e ∙ get_or-append-add xs ys i (pos 0)

-- three parts of n numbers each, one after the other
module _ (n : ℕ) (part : ℕ → List ℤ) (sizes : (axis : ℕ) → axis < 3 → length (part axis) ≡ n) where
  length_two : length (part 0 ++ part 1) ≡ n + n
  length_two = omega (arith, length-append (part 0) (part 1), sizes 0 (omega arith), sizes 1 (omega arith))

  length_three : length (part 0 ++ part 1 ++ part 2) ≡ 3 * n
  length_three = omega (arith, length-append (part 0 ++ part 1) (part 2), length_two, sizes 2 (omega arith))

  at_three : (i : ℕ) → i < n → (axis : ℕ) → axis < 3 → at (part 0 ++ part 1 ++ part 2) (axis * n + i) ≡ at (part axis) i
  at_three i k =
      let two = length_two in
      let one = sizes 0 (omega arith) in
      let j : i < length (part 0) = omega arith in
      let north = at_first (part 0 ++ part 1) (part 2) (0 * n + i) i (omega arith) (omega arith) ∙ at_first (part 0) (part 1) i i refl j in
      let east =
      at_first (part 0 ++ part 1) (part 2) (1 * n + i) (n + i) (omega arith) (omega arith) ∙ at_second (part 0) (part 1) (n + i) i (omega arith) in
      let up = at_second (part 0 ++ part 1) (part 2) (2 * n + i) i (omega arith) in
      below 3 (λ axis. at (part 0 ++ part 1 ++ part 2) (axis * n + i) ≡ at (part axis) i) (((tt, north), east), up)

-- ---- a sheet's bend numbers
length_bends : (c : Course) → length (bends c) ≡ c.points
length_bends c = length_passes (rows c) 65536 40 (replicate c.points (pos 0)) ∙ length-replicate c.points (pos 0)

module _ (s : List ℕ) where
  part_length : (axis : ℕ) → axis < 3 → length (bends (course s axis)) ≡ points s
  unfolding course
  part_length axis h = length_bends (course s axis)

  pub length_all_bends : length (all_bends s) ≡ 3 * points s
  unfolding all_bends
  length_all_bends = length_three (points s) (λ axis. bends (course s axis)) part_length

  -- a list with the station's own numbers is long enough ..
  pub own_long : (list : List ℤ) → Own s list → 3 * points s ≤ length list
  own_long list o = omega (
    arith,
    simp length-take at (ap length o.holds),
    simp length-append at (ap length (done_list most_points s o.lent o.not_refused)),
    length_all_bends,
  )

  own_first : (list : List ℤ) → Own s list → take (3 * points s) list ≡ all_bends s
  own_first list o =
      o.holds
      ∙ ap (take (3 * points s)) (done_list most_points s o.lent o.not_refused)
      ∙ take_at (all_bends s) (drop (3 * points s) o.lent) (3 * points s) length_all_bends

  -- .. and the number at axis × N + i is the axis' own
  pub own_bend : (list : List ℤ) → Own s list → (i : ℕ) → i < points s → (axis : ℕ) → axis < 3 → bend_of s list axis i ≡ at (bends (course s axis)) i
  unfolding all_bends
  own_bend list o i h axis k =
      sym (get_or-take (3 * points s) list (axis * points s + i) (pos 0) (omega (arith, mul-le-mul_right (points s) (le-pred_of_lt k))))
      ∙ ap (λ (l : List ℤ). at l (axis * points s + i)) (own_first list o)
      ∙ at_three (points s) (λ axis. bends (course s axis)) part_length i h axis k
