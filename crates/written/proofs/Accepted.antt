-- A sheet that was written is accepted, and its fields are the lists (G5): every field stands where the section's law says, and each number passes the
-- test that the list's number passed.
use mathlib.Core.Path.{◌≡◌, refl, sym, ap, ◌∙◌}
use mathlib.Core.Bool.{false, not, ◌||◌}
use mathlib.Core.List.{List, [], ◌∷◌, ◌++◌}
use Prim.Native.Nat.{ℕ, zero, suc, ◌+◌, ◌*◌, ◌/◌, ◌%◌, ◌≤◌, ◌<◌}
use native.Mathlib.Omega.{arith}
use borrow.Author.Tests.{ltb-false, le-ltb, eq-eqb}
use lib.Dec.{ltb}
use lib.IntN.{pos}
use lib.ListN.{length, get_or, drop, length-append}
use Rattle.ends.specs.Ends.{leg_count, least_points}
use Rattle.ends.specs.declared.EndKind.{EndKind}
use Rattle.ends.specs.declared.EndKind.TheVariants.{Free, Held, Closed}
use Rattle.sheet.specs.Answers.{Told}
use Rattle.sheet.specs.Bytes.{be32, signed32, any_below}
use Rattle.sheet.specs.Fields.{length_field, kind, points, legs, leg, waypoint, slope, waypoints_from, slopes_from, sheet_length}
use Rattle.sheet.specs.Reading.{Accepted, leg_outside, reach_outside, slope_outside, slopes_outside, most_points}
use Rattle.sheet.proofs.Below.{or_right, none_any}
use Rattle.sheet.proofs.ByKind.{least_two, held_longest}
use Rattle.sheet.proofs.Laws.{passing_accepted}
use Rattle.answers.proofs.Guards.{done_changes}
use Rattle.answers.specs.Answers.{told_count}
use Rattle.std.specs.Prelude.{Ok}
use Rattle.lists.specs.Lists.{Lists, lists, kind_in, points_in, number_on, slope_count, size_of, list_below, lists_of}
use Rattle.writer.specs.Sheets.{written_sheet}
use Rattle.lists.specs.Answer.{write_sheet}
use Rattle.writer.specs.Writing.{written_into}
use Rattle.lists.specs.Inside.{Writable}
use Rattle.writer.proofs.Bytes.{read_two, read_four}
use Rattle.writer.proofs.Parts.{head, leg_part, waypoint_part, slope_part, length_legs, length_waypoints, cut_waypoints, cut_slopes, long, number_small, slope_small}
use Rattle.writer.proofs.Sections.{leg_written, number_written}
use Rattle.lists.proofs.Tests.{unrefused, answered, writable, nothing_applies}
use Rattle.written.specs.Theorems.{FieldsAre, WellWritten, WrittenAccepted}

-- the elements of a list, read one by one, are the list
listed : {A : Type 0} (l : List A) (g : ℕ → A) (n : ℕ) (d : A) → n ≡ length l → ((i : ℕ) → i < length l → g i ≡ get_or l i d) → list_below g n ≡ l
unfolding list_below
listed [] g zero d e h = refl
listed [] g (suc n) d e h = absurd (omega arith)
listed (x ∷ l) g zero d e h = absurd (omega arith)
listed (x ∷ l) g (suc n) d e h = let first = h 0 (omega arith) in let rest = listed l (λ i. g (suc i)) n d (omega arith) (λ i k. h (suc i) (omega arith)) in (λ i. first i ∷ rest i)

module _ (c : Lists) (w : Writable c) where
  abbrev s : List ℕ
  s = written_sheet c

  is_kind : kind s ≡ kind_in c
  unfolding written_sheet
  is_kind = refl

  is_points : points s ≡ points_in c.waypoints
  unfolding written_sheet
  is_points = read_two s 6 (points_in c.waypoints) (omega (arith, w.few)) refl refl

  is_legs : legs s ≡ length c.legs
  is_legs = (λ i. leg_count (is_kind i) (is_points i)) ∙ sym w.all_legs

  size_small : size_of c < 4294967296
  size_small = omega (arith, held_longest (kind_in c) (points_in c.waypoints) (omega (arith, w.enough, least_two (kind_in c))), w.few)

  is_length : length_field s ≡ length s
  unfolding written_sheet
  is_length = read_four s 0 (size_of c) size_small refl refl refl refl ∙ sym (long c w)

  leg_high : (i : ℕ) → i < length c.legs → get_or c.legs i 0 ≤ 256
  leg_high i h = let x = get_or c.legs i 0 in ltb-false 256 x (or_right (ltb x 1) (ltb 256 x) (w.leg_in i h))

  is_leg : (i : ℕ) → i < length c.legs → leg s i ≡ get_or c.legs i 0
  unfolding written_sheet
  is_leg i h = leg_written (head c) (waypoint_part c ++ slope_part c) c.legs i (8 + 2 * i) h refl (omega (arith, leg_high i h))

  before_waypoints : length (head c ++ leg_part c) ≡ waypoints_from s
  before_waypoints = omega (arith, length_legs c, is_legs)

  is_waypoint : (axis i : ℕ) → axis < 3 → i < points_in c.waypoints → waypoint s axis i ≡ number_on c.waypoints axis i
  is_waypoint axis i h k =
      let at = waypoints_from s + 12 * i + 4 * axis in
      ap (λ t. signed32 (be32 t at)) (cut_waypoints c)
      ∙ number_written (head c ++ leg_part c) (slope_part c) c.waypoints (3 * i + axis) at
      (omega (arith, w.three)) (omega (arith, before_waypoints)) (number_small c w axis i h k)

  before_slopes : length ((head c ++ leg_part c) ++ waypoint_part c) ≡ slopes_from s
  before_slopes = length-append (head c ++ leg_part c) (waypoint_part c) ∙ omega (arith, length_waypoints c, before_waypoints, w.three, is_points)

  is_slope : (axis side : ℕ) → axis < 3 → 3 * side + axis < length c.slopes → slope s axis side ≡ number_on c.slopes axis side
  is_slope axis side h k =
      let at = slopes_from s + 12 * side + 4 * axis in
      ap (λ t. signed32 (be32 t at)) (cut_slopes c)
      ∙ number_written ((head c ++ leg_part c) ++ waypoint_part c) [] c.slopes (3 * side + axis) at k
      (omega (arith, before_slopes)) (slope_small c w (3 * side + axis) k)

  fields_are : FieldsAre s c
  unfolding written_sheet
  fields_are = record {
    is_kind = refl;
    is_points = is_points;
    is_legs = is_legs;
    is_leg = is_leg;
    three = w.three ∙ ap (λ n. 3 * n) (sym is_points);
    is_waypoint = λ axis i h k. is_waypoint axis i h (omega (arith, is_points));
    is_slope = is_slope;
  }

  -- ---- 1 to 8
  slopes_within : (k : EndKind) → kind_in c ≡ k → slopes_outside k s ≡ false
  slopes_within Free e = refl
  slopes_within Held e = none_any (λ side. any_below (λ axis. slope_outside (slope s axis side)) 3) 2 (λ side k.
      none_any (λ axis. slope_outside (slope s axis side)) 3 (λ axis h.
      let six : length c.slopes ≡ 6 = w.all_slopes ∙ ap slope_count e in
      ap slope_outside (is_slope axis side h (omega arith)) ∙ w.slope_in (3 * side + axis) (omega arith)))
  slopes_within Closed e = refl

  accepted : Accepted s
  unfolding written_sheet
  accepted = passing_accepted s (record {
    torn = (λ i. le-ltb (length s) 8 (omega (arith, long c w)) i || not (eq-eqb (length_field s) (length s) is_length i));
    edition = refl;
    ends = le-ltb 2 c.kind w.kind_few;
    points = (λ i.
        le-ltb (points s) (least_points (kind_in c)) (omega (arith, is_points, w.enough)) i || le-ltb most_points (points s) (omega (arith, is_points, w.few)) i);
    size = ap not (eq-eqb (length s) (sheet_length (kind_in c) (points s)) (long c w ∙ ap (sheet_length (kind_in c)) (sym is_points)));
    leg = none_any (λ i. leg_outside (leg s i)) (legs s) (λ i k.
        let inside : i < length c.legs = omega (arith, is_legs) in ap leg_outside (is_leg i inside) ∙ w.leg_in i inside);
    reach = none_any (λ i. any_below (λ axis. reach_outside axis (waypoint s axis i)) 3) (points s) (λ i k.
        none_any (λ axis. reach_outside axis (waypoint s axis i)) 3 (λ axis h.
        let inside : i < points_in c.waypoints = omega (arith, is_points) in ap (reach_outside axis) (is_waypoint axis i h inside) ∙ w.reach_in axis i h inside));
    slope = slopes_within (kind_in c) refl;
  })

  -- ---- the lists as a whole
  whole : lists_of s ≡ c
  unfolding lists_of written_sheet
  whole =
      let hs = listed c.legs (leg s) (legs s) 0 is_legs is_leg in
      let ws = listed c.waypoints (λ j. waypoint s (j % 3) (j / 3)) (3 * points s) (pos 0) (omega (arith, w.three, is_points)) (λ j h.
      let up : 3 * (j / 3) + j % 3 ≡ j = omega arith in
      is_waypoint (j % 3) (j / 3) (omega arith) (omega (arith, w.three)) ∙ ap (λ k. get_or c.waypoints k (pos 0)) up) in
      let ss = listed c.slopes (λ j. slope s (j % 3) (j / 3)) (slope_count (kind s)) (pos 0) (sym w.all_slopes) (λ j h.
      let up : 3 * (j / 3) + j % 3 ≡ j = omega arith in
      is_slope (j % 3) (j / 3) (omega arith) (omega arith) ∙ ap (λ k. get_or c.slopes k (pos 0)) up) in
      (λ i. lists c.kind (hs i) (ws i) (ss i))

  -- ---- the answer and the slice, where there is room
  module _ (out : List ℕ) (room : size_of c ≤ length out) where
    told : write_sheet c (length out) ≡ told_count (Ok (length s))
    told = sym (answered c (length out) (nothing_applies c (length out) w room)) ∙ ap (λ n. told_count (Ok n)) (sym (long c w))

    left : written_into c out ≡ s ++ drop (length s) out
    unfolding written_into
    left =
        let done : (write_sheet c (length out)).number ≡ 0 = ap (λ (t : Told). t.number) told in
        done_changes (write_sheet c (length out)) (s ++ drop (size_of c) out) out done ∙ ap (λ n. s ++ drop n out) (sym (long c w))

    well_written : WellWritten c out
    well_written = record { answered = told; slice = left; accepted = accepted; fields = fields_are; whole = whole }

pub written_accepted : WrittenAccepted
written_accepted c out e =
    let u = unrefused c (length out) e in well_written c (writable c (length out) u) out (ltb-false (length out) (size_of c) u.numbers.page)
