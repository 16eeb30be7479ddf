-- The longest sheet (S9): an accepted one of 7,198 bytes, held, 512 waypoints at the home post, every leg 1 tick, every slope 0.
use mathlib.Core.Path.{◌≡◌, refl, ap, ◌∙◌}
use mathlib.Core.Bool.{false, not, ◌||◌}
use mathlib.Core.List.{List, ◌∷◌}
use Prim.Native.Nat.{ℕ, zero, suc, ◌+◌, ◌-◌, ◌*◌, ◌≤◌, ◌<◌}
use native.Mathlib.Omega.{arith}
use lib.Dec.{ltb, eqb}
use lib.IntN.{pos}
use lib.ListN.{length, replicate, length-replicate}
use Rattle.integers.proofs.Order.{by_test}
use Rattle.sheet.specs.Bytes.{byte, be16, be32, signed32, any_below}
use Rattle.sheet.specs.Fields.{length_field, points, leg, waypoint, slope}
use Rattle.sheet.specs.Reading.{Accepted, leg_outside, reach_outside, slope_outside}
use Rattle.courses.specs.Theorems.{Longest}
use Rattle.sheet.proofs.Below.{none_any}
use Rattle.sheet.proofs.Laws.{passing_accepted, accepted_bounds}

-- ---- n legs of 1 tick, then m zeros
body : ℕ → ℕ → List ℕ
body zero m = replicate m 0
body (suc n) m = 0 ∷ 1 ∷ body n m

body_length : (n m : ℕ) → length (body n m) ≡ n + n + m
unfolding body
body_length zero m = omega (arith, length-replicate {A = ℕ} m 0)
body_length (suc n) m = omega (arith, body_length n m)

body_leg : (n m i k : ℕ) → i < n → k ≡ 2 * i → (byte (body n m) k ≡ 0) × (byte (body n m) (suc k) ≡ 1)
unfolding body
body_leg zero m i k h e = absurd (omega arith)
body_leg (suc n) m zero zero h e = (refl, refl)
body_leg (suc n) m zero (suc k) h e = absurd (omega arith)
body_leg (suc n) m (suc i) zero h e = absurd (omega arith)
body_leg (suc n) m (suc i) (suc zero) h e = absurd (omega arith)
body_leg (suc n) m (suc i) (suc (suc k)) h e = body_leg n m i k (omega arith) (omega arith)

zeros_all : (m k : ℕ) → byte (replicate m 0) k ≡ 0
zeros_all zero k = refl
zeros_all (suc m) zero = refl
zeros_all (suc m) (suc k) = zeros_all m k

body_rest : (n m k : ℕ) → n + n ≤ k → byte (body n m) k ≡ 0
unfolding body
body_rest zero m k h = zeros_all m k
body_rest (suc n) m zero h = absurd (omega arith)
body_rest (suc n) m (suc zero) h = absurd (omega arith)
body_rest (suc n) m (suc (suc k)) h = body_rest n m k (omega arith)

-- ---- the sheet: S2 to S5, then 511 legs, the waypoints and the slopes
full : List ℕ
full = 0 ∷ 0 ∷ 28 ∷ 30 ∷ 1 ∷ 1 ∷ 2 ∷ 0 ∷ body 511 6168

full_length : length full ≡ 7_198
unfolding full
full_length = omega (arith, body_length 511 6168)

head : (length_field full ≡ 7_198) × (points full ≡ 512)
unfolding full be16 be32
head = (refl, refl)

-- behind the first eight bytes
abbrev eight : ℕ → ℕ
eight k = suc (suc (suc (suc (suc (suc (suc (suc k)))))))

-- every leg is 1, and every byte behind the legs is 0
leg_one : (i : ℕ) → i < 511 → leg full i ≡ 1
unfolding full be16
leg_one i h =
    let e : 8 + 2 * i ≡ eight (2 * i) = omega arith in let f : 8 + 2 * i + 1 ≡ eight (suc (2 * i)) = omega arith in
    let b = body_leg 511 6168 i (2 * i) h refl in
    (λ j. byte full (e j) * 256 + byte full (f j)) ∙ (λ j. b.0 j * 256 + b.1 j)

rest : (i : ℕ) → 1030 ≤ i → byte full i ≡ 0
unfolding full
rest i h = let e : i ≡ eight (i - 8) = omega arith in ap (byte full) e ∙ body_rest 511 6168 (i - 8) (omega arith)

rest_number : (i : ℕ) → 1030 ≤ i → signed32 (be32 full i) ≡ signed32 0
unfolding be16 be32
rest_number i h = rw (rest i h, rest (i + 1) (omega arith), rest (i + 2) (omega arith), rest (i + 2 + 1) (omega arith))

-- home is within reach on every axis
home_within : (axis : ℕ) → reach_outside axis (pos 0) ≡ false
home_within axis = by_test (eqb axis 2) false false (λ b. b ≡ false) (λ up. refl) (λ plan. refl)

accepted : Accepted full
unfolding full be16 be32 signed32
accepted = passing_accepted full (record {
  torn = (λ i. ltb (full_length i) 8 || not (eqb (head.0 i) (full_length i)));
  edition = refl;
  ends = refl;
  points = ap (λ n. ltb n 2 || ltb 512 n) head.1;
  size = ap (λ n. not (eqb n 7_198)) full_length;
  leg = none_any (λ i. leg_outside (leg full i)) 511 (λ i k. ap leg_outside (leg_one i k));
  reach = none_any (λ i. any_below (λ axis. reach_outside axis (waypoint full axis i)) 3) 512
      (λ i k. none_any (λ axis. reach_outside axis (waypoint full axis i)) 3 (λ axis l. ap (reach_outside axis) (rest_number (1030 + 12 * i + 4 * axis) (omega arith)) ∙ home_within axis));
  slope = none_any (λ side. any_below (λ axis. slope_outside (slope full axis side)) 3) 2
      (λ side k. none_any (λ axis. slope_outside (slope full axis side)) 3 (λ axis l. ap slope_outside (rest_number (7174 + 12 * side + 4 * axis) (omega arith))));
})

pub longest : Longest
longest = record {
  most = λ s a. (accepted_bounds s a).longest;
  reached = (full, accepted, full_length);
}
