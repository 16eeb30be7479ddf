-- The theorems of specs/Theorems: a sheet is read or has exactly one refusal, and an accepted sheet has the bounds that all later arithmetic rests on.
use mathlib.Core.Path.{◌≡◌, refl, sym, ap, ◌∙◌, subst}
use mathlib.Core.Bool.{Bool, true, false, not, ◌&&◌}
use mathlib.Core.List.{List, [], ◌∷◌}
use mathlib.Core.Logic.{◌⊎◌, inl, inr, ⊎_elim}
use Prim.Native.Nat.{ℕ, suc, ◌≤◌, ◌<◌}
use native.Mathlib.Omega.{arith}
use borrow.Author.Tests.{le-ltb, ltb-false, eqb-true, not-false}
use lib.Dec.{ltb, eqb}
use lib.IntN.{nat_abs}
use lib.ListN.{length}
use Rattle.ends.specs.Ends.{least_points}
use Rattle.ends.specs.declared.EndKind.{EndKind}
use Rattle.sheet.specs.declared.Course.{Course}
use Rattle.ends.specs.declared.EndKind.TheVariants.{Free, Held}
use Rattle.integers.proofs.Order.{le_or_lt}
use Rattle.sheet.specs.Answers.{number_of, told, Reading, read_course}
use Rattle.sheet.specs.Bytes.{any_below}
use Rattle.sheet.specs.Fields.{kind, points, legs, leg, ticks, waypoint, slope, sheet_length}
use Rattle.sheet.specs.Reading.{Accepted, leg_outside, reach_outside, slope_outside, slopes_outside, applies, refuse_if, lowest, tested, order, most_points, longest_sheet, read_by}
use Rattle.sheet.specs.Theorems.{ReadOrRefused, ReadAccepted, NeverAtStation, ReadAlike, AcceptedBounds, HeightsKept}
use Rattle.sheet.specs.declared.Refusal.{Refusal}
use Rattle.sheet.specs.declared.Refusal.TheVariants.{Torn, Edition, Ends, Points, Size, Leg, Reach, Slope, Shelf, Past, Adrift, Bend, Landed, Page, Start, Shut, Apart, Crowded, Seats, Turn, Grain, Ink, Board}
use Rattle.std.specs.Prelude.{Ok, Err}
use Rattle.sheet.proofs.Below.{or_left, or_right, any_none, sum_at_most, sum_at_least}
use Rattle.sheet.proofs.ByKind.{least_two, legs_at_most, legs_at_least, held_longest}
use Rattle.sheet.proofs.Lowest.{past, passed, stopped}
use Rattle.sheet.proofs.Numbers.{within_size, reach_size, within_floor, within_ceiling}
use Rattle.sheet.proofs.Told.{order_injective, order_positive, order_small}
pub use Rattle.sheet.proofs.Told.{told_injective}

-- ---- the limit, which 23 alone asks for
never : (b : Bool) → (b && not b) ≡ false
never true = refl
never false = refl

pub never_at_station : NeverAtStation
never_at_station s = never (ltb most_points (points s))

module _ (limit : ℕ) (s : List ℕ) where
  -- where 23 does not apply, every number applies as at the station
  alike : applies limit s Board ≡ false → (r : Refusal) → applies limit s r ≡ applies most_points s r
  alike e Torn = refl
  alike e Edition = refl
  alike e Ends = refl
  alike e Points = refl
  alike e Size = refl
  alike e Leg = refl
  alike e Reach = refl
  alike e Slope = refl
  alike e Shelf = refl
  alike e Past = refl
  alike e Adrift = refl
  alike e Bend = refl
  alike e Landed = refl
  alike e Page = refl
  alike e Start = refl
  alike e Shut = refl
  alike e Apart = refl
  alike e Crowded = refl
  alike e Seats = refl
  alike e Turn = refl
  alike e Grain = refl
  alike e Ink = refl
  alike e Board = e ∙ sym (never_at_station s)

  lowest_alike : applies limit s Board ≡ false → (rs : List Refusal) → lowest limit s rs ≡ lowest most_points s rs
  lowest_alike e [] = refl
  lowest_alike e (r ∷ rs) = λ i. refuse_if (alike e r i) r (lowest_alike e rs i)

pub read_alike : ReadAlike
unfolding read_by
read_alike limit s h = lowest_alike limit s (simp (le-ltb limit (points s) h)) tested

-- ---- read or refused: down the chain, each number in its turn applies or is passed
module _ (limit : ℕ) (s : List ℕ) where
  -- nothing that stands before k in the order applies
  abbrev Passed : ℕ → Type 0
  Passed k = (q : Refusal) → order q < k → applies limit s q ≡ false

  pass : (r : Refusal) → Passed (order r) → applies limit s r ≡ false → Passed (suc (order r))
  pass r p e q h =
      le_or_lt (order r) (order q) (applies limit s q ≡ false)
      (λ k. ap (applies limit s) (order_injective q r (omega arith)) ∙ e)
      (λ k. p q k)

  -- the answer x is that of an accepted sheet, or the first number's
  abbrev Answered : Reading → Type 0
  Answered x =
      (Passed 10 × (x ≡ read_course (kind s) (points s) (ticks s)))
      ⊎ ((r : Refusal) × (x ≡ Err r) × (applies limit s r ≡ true) × Passed (order r))

  ask : (r : Refusal) (rs : List Refusal) → Passed (order r)
      → (Passed (suc (order r)) → Answered (lowest limit s rs)) → Answered (lowest limit s (r ∷ rs))
  ask r rs p f = go (applies limit s r) refl
    where
      go : (b : Bool) → applies limit s r ≡ b → Answered (lowest limit s (r ∷ rs))
      go true e = inr (r, sym (stopped limit s r rs e), e, p)
      go false e = subst Answered (passed limit s r rs e) (f (pass r p e))

  answered : Answered (read_by limit s)
  unfolding read_by
  answered =
      ask Torn (past 1) (λ q h. absurd (omega (arith, order_positive q))) (λ a.
      ask Edition (past 2) a (λ b.
      ask Ends (past 3) b (λ c.
      ask Points (past 4) c (λ d.
      ask Board (past 5) d (λ e.
      ask Size (past 6) e (λ f.
      ask Leg (past 7) f (λ g.
      ask Reach (past 8) g (λ h.
      ask Slope (past 9) h (λ i. inl (i, refl))))))))))

  -- neither 23 nor 4 applies: N is within the limit
  kept : applies limit s Board ≡ false → applies limit s Points ≡ false → points s ≤ limit
  kept e f =
      ltb-false limit (points s)
      (by (ltb limit (points s)) (ltb most_points (points s)) e (or_right (ltb (points s) (least_points (kind s))) (ltb most_points (points s)) f))
    where
      by : (a b : Bool) → (a && not b) ≡ false → b ≡ false → a ≡ false
      by true true e f = f
      by true false e f = e
      by false b e f = refl

pub read_or_refused : ReadOrRefused
read_or_refused limit s =
    ⊎_elim
    (λ a. let within = a.0 Board (omega arith) in
    inl ((λ r h. sym (alike limit s within r) ∙ a.0 r (omega (arith, order_small (number_of r) h))), a.1, kept limit s within (a.0 Points (omega arith))))
    (λ a. inr (a.0, record { answer = a.1; applying = a.2; lower = a.3 }))
    (answered limit s)

-- the course of an answer
course_in : Reading → Course
course_in (Ok c) = c
course_in (Err r) = record { kind = Free; points = 0; ticks = 0 }

pub read_accepted : ReadAccepted
unfolding course_in
read_accepted limit s k n p e =
    ⊎_elim
    (λ a.
    let same : read_course k n p ≡ read_course (kind s) (points s) (ticks s) = sym e ∙ a.1 in
    (a.0, ap (λ x. (course_in x).kind) same, ap (λ x. (course_in x).points) same, ap (λ x. (course_in x).ticks) same, a.2))
    (λ a. let f = a.1.answer in (absurd (let z : ◌≡◌ {A = ℕ} 0 1 = cc in omega arith)))
    (read_or_refused limit s)

-- what a caller of the reader learns where it got a course
pub course_read : (limit : ℕ) (s : List ℕ) (r : Reading) (k : EndKind) (n p : ℕ) → told r ≡ told (read_by limit s) → r ≡ read_course k n p
    → Accepted s × (k ≡ kind s) × (n ≡ points s) × (p ≡ ticks s) × (points s ≤ limit)
course_read limit s r k n p e f = read_accepted limit s k n p (sym (told_injective r (read_by limit s) e) ∙ f)

-- the other way: what is accepted, and within the limit, is read ..
pub within_read : (limit : ℕ) (s : List ℕ) → Accepted s → points s ≤ limit → read_by limit s ≡ read_course (kind s) (points s) (ticks s)
unfolding read_by
within_read limit s a h = read_alike limit s h ∙ sym (
    passed most_points s Slope (past 9) (a Slope (omega arith))
    ∙ passed most_points s Reach (past 8) (a Reach (omega arith))
    ∙ passed most_points s Leg (past 7) (a Leg (omega arith))
    ∙ passed most_points s Size (past 6) (a Size (omega arith))
    ∙ passed most_points s Board (past 5) (never_at_station s)
    ∙ passed most_points s Points (past 4) (a Points (omega arith))
    ∙ passed most_points s Ends (past 3) (a Ends (omega arith))
    ∙ passed most_points s Edition (past 2) (a Edition (omega arith))
    ∙ passed most_points s Torn (past 1) (a Torn (omega arith))
    )

-- what passes the eight tests is accepted; reading asks no other number
pub record Passing (s : List ℕ) : Type 0 where
  pub torn : applies most_points s Torn ≡ false
  pub edition : applies most_points s Edition ≡ false
  pub ends : applies most_points s Ends ≡ false
  pub points : applies most_points s Points ≡ false
  pub size : applies most_points s Size ≡ false
  pub leg : applies most_points s Leg ≡ false
  pub reach : applies most_points s Reach ≡ false
  pub slope : applies most_points s Slope ≡ false

pub passing_accepted : (s : List ℕ) → Passing s → Accepted s
passing_accepted s p Torn h = p.torn
passing_accepted s p Edition h = p.edition
passing_accepted s p Ends h = p.ends
passing_accepted s p Points h = p.points
passing_accepted s p Size h = p.size
passing_accepted s p Leg h = p.leg
passing_accepted s p Reach h = p.reach
passing_accepted s p Slope h = p.slope
passing_accepted s p Shelf h = refl
passing_accepted s p Past h = refl
passing_accepted s p Adrift h = refl
passing_accepted s p Bend h = refl
passing_accepted s p Landed h = refl
passing_accepted s p Page h = refl
passing_accepted s p Start h = refl
passing_accepted s p Shut h = refl
passing_accepted s p Apart h = refl
passing_accepted s p Crowded h = refl
passing_accepted s p Seats h = refl
passing_accepted s p Turn h = refl
passing_accepted s p Grain h = refl
passing_accepted s p Ink h = refl
passing_accepted s p Board h = never_at_station s

-- ---- the bounds: each is what the test of its number leaves
module _ (s : List ℕ) (a : Accepted s) where
  enough : least_points (kind s) ≤ points s
  enough = ltb-false (points s) (least_points (kind s)) (or_left (ltb (points s) (least_points (kind s))) (ltb most_points (points s)) (a Points (omega arith)))

  few : points s ≤ most_points
  few = ltb-false most_points (points s) (or_right (ltb (points s) (least_points (kind s))) (ltb most_points (points s)) (a Points (omega arith)))

  size : length s ≡ sheet_length (kind s) (points s)
  size = let formula = sheet_length (kind s) (points s) in eqb-true (length s) formula (not-false (eqb (length s) formula) (a Size (omega arith)))

  leg_within : (i : ℕ) → i < legs s → leg_outside (leg s i) ≡ false
  leg_within = any_none (λ i. leg_outside (leg s i)) (legs s) (a Leg (omega arith))

  leg_low : (i : ℕ) → i < legs s → 1 ≤ leg s i
  leg_low i h = ltb-false (leg s i) 1 (or_left (ltb (leg s i) 1) (ltb 256 (leg s i)) (leg_within i h))

  leg_high : (i : ℕ) → i < legs s → leg s i ≤ 256
  leg_high i h = ltb-false 256 (leg s i) (or_right (ltb (leg s i) 1) (ltb 256 (leg s i)) (leg_within i h))

  pub reach_within : (axis i : ℕ) → axis < 3 → i < points s → reach_outside axis (waypoint s axis i) ≡ false
  reach_within axis i h k =
      let none = any_none (λ j. any_below (λ x. reach_outside x (waypoint s x j)) 3) (points s) (a Reach (omega arith)) i k in
      any_none (λ x. reach_outside x (waypoint s x i)) 3 none axis h

  slope_within : (axis side : ℕ) → axis < 3 → side < 2 → kind s ≡ Held → nat_abs (slope s axis side) ≤ 5_000
  slope_within axis side h k e =
      let held = sym (ap (λ (j : EndKind). slopes_outside j s) e) ∙ a Slope (omega arith) in
      let none = any_none (λ y. any_below (λ x. slope_outside (slope s x y)) 3) 2 held side k in
      within_size 5_000 (slope s axis side) (any_none (λ x. slope_outside (slope s x side)) 3 none axis h)

  longest : length s ≤ longest_sheet
  longest = omega (arith, few, size, held_longest (kind s) (points s) (omega (arith, enough, least_two (kind s))))

  some_ticks : 1 ≤ ticks s
  some_ticks = omega (arith, enough, least_two (kind s), legs_at_least (kind s) (points s), sum_at_least (leg s) 1 (legs s) leg_low)

  few_ticks : ticks s ≤ 131_072
  few_ticks = omega (arith, few, legs_at_most (kind s) (points s), sum_at_most (leg s) 256 (legs s) leg_high)

pub accepted_bounds : AcceptedBounds
accepted_bounds s a = record {
  enough = enough s a;
  few = few s a;
  size = size s a;
  leg_low = leg_low s a;
  leg_high = leg_high s a;
  reach = λ axis i h k. reach_size axis (waypoint s axis i) (reach_within s a axis i h k);
  slope = slope_within s a;
  longest = longest s a;
  some_ticks = some_ticks s a;
  few_ticks = few_ticks s a;
}

-- .. at the station without a word about the limit
pub accepted_read : (s : List ℕ) → Accepted s → read_by most_points s ≡ read_course (kind s) (points s) (ticks s)
accepted_read s a = within_read most_points s a (few s a)

pub heights_kept : HeightsKept
heights_kept s a i k =
    let within = reach_within s a 2 i (omega arith) k in
    (within_floor 50_000 120_000 (waypoint s 2 i) within, within_ceiling 50_000 120_000 (waypoint s 2 i) within)
