-- The chain of tests (specs/Answer), both ways: a call that is not refused leaves writable lists and room for them, and these pass every test.
-- (The worked lists are named so that they are checked first, by `pub use`: an import that nothing uses is tidied away.)
use mathlib.Core.Path.{◌≡◌, ap, ◌∙◌}
use mathlib.Core.Bool.{Bool, true, false, not, ◌||◌}
use mathlib.Core.List.{List}
use Prim.Native.Nat.{ℕ, ◌*◌, ◌≤◌, ◌<◌}
use borrow.Author.Tests.{ltb-false, le-ltb, lt-ltb, eqb-true, eq-eqb, ne_eqb, not-false}
use lib.Dec.{ltb, eqb}
use lib.IntN.{ℤ, pos}
use lib.ListN.{length, get_or}
use Rattle.ends.specs.Ends.{leg_count, least_points}
use Rattle.sheet.specs.Answers.{Told, refused}
use Rattle.sheet.specs.Bytes.{any_below}
use Rattle.sheet.specs.Reading.{leg_outside, reach_outside, slope_outside, most_points}
use Rattle.sheet.specs.declared.Refusal.TheVariants.{Ends, Points, Size, Leg, Reach, Slope, Page}
use Rattle.sheet.proofs.Below.{or_left, or_right, any_none, none_any}
use Rattle.answers.specs.Answers.{guard, told_count}
use Rattle.answers.proofs.Guards.{stopped, passed, not_refused}
use Rattle.std.specs.Prelude.{Ok}
use Rattle.lists.specs.Lists.{Lists, kind_in, points_in, number_on, slope_count, size_of}
use Rattle.lists.specs.Answer.{kind_outside, points_outside, counts_differ, some_leg_outside, some_reach_outside, some_slope_outside, write_numbers, write_sheet}
use Rattle.lists.specs.Inside.{Writable}
pub use Rattle.lists.proofs.Worked as worked

-- a test of two counts, passed and not
same : (a b : ℕ) → not (eqb a b) ≡ false → a ≡ b
same a b e = eqb-true a b (not-false (eqb a b) e)

alike : (a b : ℕ) → a ≡ b → not (eqb a b) ≡ false
alike a b e = rw (eq-eqb a b e)

apart : (a b : ℕ) → (a ≡ b → ⊥) → not (eqb a b) ≡ true
apart a b h = ap not (ne_eqb a b h)

-- ---- 6 to 8, then 14
module _ (size : ℕ) (hs : List ℕ) (ws ps : List ℤ) (room : ℕ) where
  -- what is left behind 6, 7 and 8
  abbrev pub behind_slopes : Told
  behind_slopes = guard (ltb room size) Page (told_count (Ok size))

  abbrev pub behind_reach : Told
  behind_reach = guard (some_slope_outside ps) Slope behind_slopes

  abbrev pub behind_legs : Told
  behind_legs = guard (some_reach_outside ws) Reach behind_reach

  -- none of them applies
  pub record Fitting : Type 0 where
    pub leg : some_leg_outside hs ≡ false
    pub reach : some_reach_outside ws ≡ false
    pub slope : some_slope_outside ps ≡ false
    pub page : ltb room size ≡ false

  numbers_fit : (write_numbers size hs ws ps room).number ≡ 0 → Fitting
  numbers_fit z =
      let l = not_refused (some_leg_outside hs) Leg behind_legs z in
      let r = not_refused (some_reach_outside ws) Reach behind_reach l.1 in
      let s = not_refused (some_slope_outside ps) Slope behind_slopes r.1 in
      let p = not_refused (ltb room size) Page (told_count (Ok size)) s.1 in
      record { leg = l.0; reach = r.0; slope = s.0; page = p.0 }

  numbers_answered : Fitting → told_count (Ok size) ≡ write_numbers size hs ws ps room
  numbers_answered f =
      passed (ltb room size) Page (told_count (Ok size)) f.page
      ∙ passed (some_slope_outside ps) Slope behind_slopes f.slope
      ∙ passed (some_reach_outside ws) Reach behind_reach f.reach
      ∙ passed (some_leg_outside hs) Leg behind_legs f.leg

-- ---- the whole chain
module _ (c : Lists) (room : ℕ) where
  abbrev n : ℕ
  n = points_in c.waypoints

  abbrev behind_counts : Told
  behind_counts = write_numbers (size_of c) c.legs c.waypoints c.slopes room

  abbrev behind_points : Told
  behind_points = guard (counts_differ c) Size behind_counts

  abbrev behind_kind : Told
  behind_kind = guard (points_outside c) Points behind_points

  -- none of the numbers applies
  pub record Unrefused : Type 0 where
    pub kind : kind_outside c ≡ false
    pub points : points_outside c ≡ false
    pub counts : counts_differ c ≡ false
    pub numbers : Fitting (size_of c) c.legs c.waypoints c.slopes room

  pub unrefused : (write_sheet c room).number ≡ 0 → Unrefused
  unfolding write_sheet
  unrefused z =
      let k = not_refused (kind_outside c) Ends behind_kind z in
      let p = not_refused (points_outside c) Points behind_points k.1 in
      let s = not_refused (counts_differ c) Size behind_counts p.1 in
      record { kind = k.0; points = p.0; counts = s.0; numbers = numbers_fit (size_of c) c.legs c.waypoints c.slopes room s.1 }

  pub answered : Unrefused → told_count (Ok (size_of c)) ≡ write_sheet c room
  unfolding write_sheet
  answered u =
      numbers_answered (size_of c) c.legs c.waypoints c.slopes room u.numbers
      ∙ passed (counts_differ c) Size behind_counts u.counts
      ∙ passed (points_outside c) Points behind_points u.points
      ∙ passed (kind_outside c) Ends behind_kind u.kind

  -- ---- what the tests leave
  pub writable : Unrefused → Writable c
  writable u =
      let w = not (eqb (length c.waypoints) (3 * n)) in
      let h = not (eqb (length c.legs) (leg_count (kind_in c) n)) in
      let p = not (eqb (length c.slopes) (slope_count (kind_in c))) in
      let low = ltb n (least_points (kind_in c)) in let high = ltb most_points n in
      record {
        kind_few = ltb-false 2 c.kind u.kind;
        enough = ltb-false n (least_points (kind_in c)) (or_left low high u.points);
        few = ltb-false most_points n (or_right low high u.points);
        three = same (length c.waypoints) (3 * n) (or_left w h (or_left (w || h) p u.counts));
        all_legs = same (length c.legs) (leg_count (kind_in c) n) (or_right w h (or_left (w || h) p u.counts));
        all_slopes = same (length c.slopes) (slope_count (kind_in c)) (or_right (w || h) p u.counts);
        leg_in = any_none (λ i. leg_outside (get_or c.legs i 0)) (length c.legs) u.numbers.leg;
        reach_in = λ axis i l k.
            any_none (λ x. reach_outside x (number_on c.waypoints x i)) 3
            (any_none (λ j. any_below (λ x. reach_outside x (number_on c.waypoints x j)) 3) n u.numbers.reach i k) axis l;
        slope_in = any_none (λ i. slope_outside (get_or c.slopes i (pos 0))) (length c.slopes) u.numbers.slope;
      }

  -- ---- and the other way
  pub nothing_applies : Writable c → size_of c ≤ room → Unrefused
  nothing_applies w fits =
      record {
        kind = le-ltb 2 c.kind w.kind_few;
        points = (λ i. le-ltb n (least_points (kind_in c)) w.enough i || le-ltb most_points n w.few i);
        counts = (λ i.
            alike (length c.waypoints) (3 * n) w.three i
            || alike (length c.legs) (leg_count (kind_in c) n) w.all_legs i
            || alike (length c.slopes) (slope_count (kind_in c)) w.all_slopes i);
        numbers = record {
          leg = none_any (λ i. leg_outside (get_or c.legs i 0)) (length c.legs) w.leg_in;
          reach = none_any (λ j. any_below (λ x. reach_outside x (number_on c.waypoints x j)) 3) n (λ i k.
              none_any (λ x. reach_outside x (number_on c.waypoints x i)) 3 (λ axis l. w.reach_in axis i l k));
          slope = none_any (λ i. slope_outside (get_or c.slopes i (pos 0))) (length c.slopes) w.slope_in;
          page = le-ltb room (size_of c) fits;
        };
      }

  -- ---- 3 to 5 as the code asks them: one that applies is given, and behind all of them the numbers decide
  pub kind_stops : 2 < c.kind → refused Ends ≡ write_sheet c room
  unfolding write_sheet
  kind_stops h = stopped (kind_outside c) Ends behind_kind (lt-ltb 2 c.kind h)

  module _ (few : c.kind ≤ 2) where
    kind_passed : behind_kind ≡ write_sheet c room
    unfolding write_sheet
    kind_passed = passed (kind_outside c) Ends behind_kind (le-ltb 2 c.kind few)

    pub low_stops : n < least_points (kind_in c) → refused Points ≡ write_sheet c room
    low_stops h = stopped (points_outside c) Points behind_points (λ i. lt-ltb n (least_points (kind_in c)) h i || ltb most_points n) ∙ kind_passed

    module _ (enough : least_points (kind_in c) ≤ n) where
      -- the other half of the test, either way
      upper : {b : Bool} → ltb most_points n ≡ b → points_outside c ≡ b
      upper e = (λ i. le-ltb n (least_points (kind_in c)) enough i || e i)

      pub high_stops : most_points < n → refused Points ≡ write_sheet c room
      high_stops h = stopped (points_outside c) Points behind_points (upper (lt-ltb most_points n h)) ∙ kind_passed

      module _ (most : n ≤ most_points) where
        points_passed : behind_points ≡ write_sheet c room
        points_passed = passed (points_outside c) Points behind_points (upper (le-ltb most_points n most)) ∙ kind_passed

        size_stops : counts_differ c ≡ true → refused Size ≡ write_sheet c room
        size_stops e = stopped (counts_differ c) Size behind_counts e ∙ points_passed

        pub waypoints_stop : (length c.waypoints ≡ 3 * n → ⊥) → refused Size ≡ write_sheet c room
        waypoints_stop h = size_stops (λ i.
            apart (length c.waypoints) (3 * n) h i
            || not (eqb (length c.legs) (leg_count (kind_in c) n))
            || not (eqb (length c.slopes) (slope_count (kind_in c))))

        module _ (three : length c.waypoints ≡ 3 * n) where
          pub legs_stop : (length c.legs ≡ leg_count (kind_in c) n → ⊥) → refused Size ≡ write_sheet c room
          legs_stop h = size_stops (λ i.
              alike (length c.waypoints) (3 * n) three i
              || apart (length c.legs) (leg_count (kind_in c) n) h i
              || not (eqb (length c.slopes) (slope_count (kind_in c))))

          module _ (all_legs : length c.legs ≡ leg_count (kind_in c) n) where
            -- the last part of the test, either way
            last : {b : Bool} → not (eqb (length c.slopes) (slope_count (kind_in c))) ≡ b → counts_differ c ≡ b
            last e = (λ i.
                alike (length c.waypoints) (3 * n) three i
                || alike (length c.legs) (leg_count (kind_in c) n) all_legs i
                || e i)

            pub slopes_stop : (length c.slopes ≡ slope_count (kind_in c) → ⊥) → refused Size ≡ write_sheet c room
            slopes_stop h = size_stops (last (apart (length c.slopes) (slope_count (kind_in c)) h))

            pub counts_passed : length c.slopes ≡ slope_count (kind_in c) → behind_counts ≡ write_sheet c room
            counts_passed h = passed (counts_differ c) Size behind_counts (last (alike (length c.slopes) (slope_count (kind_in c)) h)) ∙ points_passed
