-- The joined sheet is accepted and holds both courses in turn (J1 to J3): writing's theorem gives the fields of the joined lists, whose elements are the
-- first sheet's, then the second's.
use mathlib.Core.Path.{◌≡◌, refl, sym, ap, ◌∙◌}
use mathlib.Core.List.{List, ◌++◌}
use Prim.Native.Nat.{ℕ, zero, suc, ◌+◌, ◌*◌, ◌-◌, ◌≤◌, ◌<◌}
use native.Mathlib.Omega.{arith}
use lib.IntN.{ℤ, pos}
use lib.ListN.{length, get_or, drop, length-append, get_or-append}
use lib.Seq.{get_or-append-add, get_or-drop}
use Rattle.ends.specs.declared.EndKind.TheVariants.{Free}
use Rattle.sheet.specs.Answers.{Told}
use Rattle.sheet.specs.Bytes.{sum_below}
use Rattle.sheet.specs.Fields.{kind, points, legs, leg, ticks, waypoint}
use Rattle.sheet.proofs.Below.{any_none, sum_same, sum_append}
use Rattle.answers.specs.Answers.{told_count}
use Rattle.std.specs.Prelude.{Ok}
use Rattle.lists.specs.Lists.{Lists, lists_of}
use Rattle.lists.proofs.Fields.{legs_are, leg_is, numbers_are, number_is}
use Rattle.lists.proofs.Tests.{answered, nothing_applies}
use Rattle.writer.specs.Sheets.{written_sheet}
use Rattle.written.specs.Theorems.{WellWritten}
use Rattle.written.proofs.Accepted.{written_accepted}
use Rattle.join.specs.Joining.{differ, joined_lists, joined_sheet, join_sheets}
use Rattle.join.proofs.Differ.{not_differ}
use Rattle.join.proofs.Course.{Counts, first_counts, second_counts, count_joined, writable_joined}
use Rattle.join.proofs.Chain.{Joins, joins, joined_long, left_done}
use Rattle.place.specs.Theorems.{tick_of_waypoint}
use Rattle.joined.specs.Theorems.{WellJoined, JoinedAccepted}

module _ (s t out : List ℕ) (done : (join_sheets s t (length out)).number ≡ 0) where
  abbrev pub j : List ℕ
  j = joined_sheet s t

  abbrev c : Lists
  c = joined_lists s t

  passes : Joins s t (length out)
  passes = joins s t (length out) done

  pub n_counts : Counts s (points s)
  n_counts = first_counts s (points s) t (points t) passes.free

  pub m_counts : Counts t (points t)
  m_counts = second_counts s (points s) t (points t) passes.free

  -- writing the joined lists is not refused, so that what is proved of written sheets holds
  written : WellWritten c out
  written =
      let w = writable_joined s (points s) t (points t) passes.free passes.few in
      written_accepted c out (sym (ap (λ (x : Told). x.number) (answered c (length out) (nothing_applies c (length out) w passes.fits))))

  free : kind j ≡ Free
  unfolding written_sheet
  free = refl

  pub all_points : points j + 1 ≡ points s + points t
  all_points = omega (arith, written.fields.is_points, count_joined s (points s) t (points t) passes.free, n_counts.some, m_counts.some)

  all_legs : legs j ≡ legs s + legs t
  all_legs = written.fields.is_legs ∙ length-append (lists_of s).legs (lists_of t).legs ∙ (λ i. legs_are s i + legs_are t i)

  -- ---- legs
  leg_joined : (i : ℕ) → i < legs s + legs t → leg j i ≡ get_or ((lists_of s).legs ++ (lists_of t).legs) i 0
  leg_joined i h = written.fields.is_leg i (omega (arith, length-append (lists_of s).legs (lists_of t).legs, legs_are s, legs_are t))

  first_leg : (i : ℕ) → i < legs s → leg j i ≡ leg s i
  first_leg i h =
      leg_joined i (omega arith) ∙ get_or-append (lists_of s).legs (lists_of t).legs 0 i (omega (arith, legs_are s)) ∙ leg_is s i h

  second_leg : (i : ℕ) → i < legs t → leg j (legs s + i) ≡ leg t i
  second_leg i h =
      leg_joined (legs s + i) (omega arith)
      ∙ ap (λ n. get_or ((lists_of s).legs ++ (lists_of t).legs) (n + i) 0) (sym (legs_are s))
      ∙ get_or-append-add (lists_of s).legs (lists_of t).legs i 0 ∙ leg_is t i h

  -- ---- waypoints
  abbrev ws : List ℤ
  ws = (lists_of s).waypoints

  abbrev wt : List ℤ
  wt = (lists_of t).waypoints

  pub first_waypoint : (axis i : ℕ) → axis < 3 → i < points s → waypoint j axis i ≡ waypoint s axis i
  first_waypoint axis i h k =
      written.fields.is_waypoint axis i h (omega (arith, all_points, m_counts.some))
      ∙ get_or-append ws (drop 3 wt) (pos 0) (3 * i + axis) (omega (arith, numbers_are s))
      ∙ number_is s axis i h k

  shared : (axis : ℕ) → axis < 3 → waypoint s axis (points s - 1) ≡ waypoint t axis 0
  shared axis h = not_differ _ _ (any_none (λ x. differ (waypoint s x (points s - 1)) (waypoint t x 0)) 3 passes.meet axis h)

  pub second_waypoint : (axis i : ℕ) → axis < 3 → i < points t → waypoint j axis (points s - 1 + i) ≡ waypoint t axis i
  second_waypoint axis zero h k =
      let e : points s - 1 + 0 ≡ points s - 1 = omega arith in
      ap (waypoint j axis) e ∙ first_waypoint axis (points s - 1) h (omega (arith, n_counts.some)) ∙ shared axis h
  second_waypoint axis (suc i) h k =
      let some = n_counts.some in
      let at : 3 * (points s - 1 + suc i) + axis ≡ length ws + (3 * i + axis) = omega (arith, numbers_are s, some) in
      let up : 3 + (3 * i + axis) ≡ 3 * suc i + axis = omega arith in
      written.fields.is_waypoint axis (points s - 1 + suc i) h (omega (arith, all_points, some))
      ∙ ap (λ n. get_or (ws ++ drop 3 wt) n (pos 0)) at
      ∙ get_or-append-add ws (drop 3 wt) (3 * i + axis) (pos 0)
      ∙ get_or-drop 3 wt (3 * i + axis) (pos 0)
      ∙ ap (λ n. get_or wt n (pos 0)) up
      ∙ number_is t axis (suc i) h k

  -- ---- ticks
  pub first_tick : (i : ℕ) → i ≤ legs s → tick_of_waypoint j i ≡ tick_of_waypoint s i
  first_tick i h = sum_same (leg j) (leg s) i (λ k l. first_leg k (omega arith))

  pub second_tick : (i : ℕ) → i ≤ legs t → tick_of_waypoint j (legs s + i) ≡ ticks s + tick_of_waypoint t i
  second_tick i h =
      sum_append (leg j) (legs s) i
      ∙ (λ z. first_tick (legs s) (omega arith) z + sum_same (λ k. leg j (legs s + k)) (leg t) i (λ k l. second_leg k (omega arith)) z)

  all_ticks : ticks j ≡ ticks s + ticks t
  all_ticks = ap (sum_below (leg j)) all_legs ∙ second_tick (legs t) (omega arith)

  well_joined : WellJoined s t out
  well_joined = record {
    meeting = record {
      first = passes.free.first;
      second = passes.free.second;
      first_free = passes.free.first_free;
      second_free = passes.free.second_free;
      shared = shared;
    };
    answered = passes.answer ∙ ap (λ n. told_count (Ok n)) (sym (joined_long s t out done));
    slice = left_done s t out done;
    accepted = written.accepted;
    fields = record {
      free = free;
      all_points = all_points;
      all_legs = all_legs;
      first_leg = first_leg;
      second_leg = second_leg;
      first_waypoint = first_waypoint;
      second_waypoint = second_waypoint;
      all_ticks = all_ticks;
    };
    whole = written.whole;
  }

pub joined_accepted : JoinedAccepted
joined_accepted = well_joined
