-- The written sheet in its parts: head, legs, waypoints, slopes; where it is cut, how long each part is, and that its numbers fit their fields.
-- For the proofs of put, and crates written and join.
use mathlib.Core.Path.{◌≡◌, refl, sym, ap, ◌∙◌}
use mathlib.Core.List.{List, [], ◌++◌, flat_map, append_assoc, append-nil}
use Prim.Native.Nat.{ℕ, ◌+◌, ◌*◌, ◌/◌, ◌%◌, ◌<◌}
use native.Mathlib.Omega.{arith}
use lib.IntN.{pos, nat_abs}
use lib.ListN.{length, get_or, length-append}
use Rattle.ends.specs.declared.EndKind.{EndKind}
use Rattle.ends.specs.declared.EndKind.TheVariants.{Free, Held, Closed}
use Rattle.sheet.specs.Fields.{slope_bytes}
use Rattle.sheet.proofs.Numbers.{within_size, reach_size}
use Rattle.lists.specs.Lists.{Lists, kind_in, points_in, number_on, slope_count, size_of}
use Rattle.writer.specs.Sheets.{bytes16, number_bytes, head_bytes, written_sheet}
use Rattle.lists.specs.Inside.{Writable}
use Rattle.writer.proofs.Sections.{flat_length}

pub slope_size : (k : EndKind) → slope_bytes k ≡ 4 * slope_count k
slope_size Free = refl
slope_size Held = refl
slope_size Closed = refl

module _ (c : Lists) where
  abbrev pub head : List ℕ
  head = head_bytes (size_of c) c.kind (points_in c.waypoints)

  abbrev pub leg_part : List ℕ
  leg_part = flat_map bytes16 c.legs

  abbrev pub waypoint_part : List ℕ
  waypoint_part = flat_map number_bytes c.waypoints

  abbrev pub slope_part : List ℕ
  slope_part = flat_map number_bytes c.slopes

  pub length_legs : length leg_part ≡ 2 * length c.legs
  length_legs = flat_length bytes16 2 (λ x. refl) c.legs

  pub length_waypoints : length waypoint_part ≡ 4 * length c.waypoints
  length_waypoints = flat_length number_bytes 4 (λ x. refl) c.waypoints

  length_slopes : length slope_part ≡ 4 * length c.slopes
  length_slopes = flat_length number_bytes 4 (λ x. refl) c.slopes

  -- cut before the waypoints, and before the slopes
  pub cut_waypoints : written_sheet c ≡ (head ++ leg_part) ++ (waypoint_part ++ slope_part)
  unfolding written_sheet
  cut_waypoints = sym (append_assoc head leg_part (waypoint_part ++ slope_part))

  pub cut_slopes : written_sheet c ≡ ((head ++ leg_part) ++ waypoint_part) ++ (slope_part ++ [])
  cut_slopes =
      cut_waypoints ∙ sym (append_assoc (head ++ leg_part) waypoint_part slope_part)
      ∙ ap (λ r. ((head ++ leg_part) ++ waypoint_part) ++ r) (sym (append-nil slope_part))

module _ (c : Lists) (w : Writable c) where
  pub size_is : size_of c ≡ 8 + 2 * length c.legs + 4 * length c.waypoints + 4 * length c.slopes
  size_is = omega (arith, w.three, w.all_legs, w.all_slopes, slope_size (kind_in c))

  pub long : length (written_sheet c) ≡ size_of c
  long = ap length (cut_slopes c) ∙ simp (length-append) (omega (arith, length_legs c, length_waypoints c, length_slopes c, size_is))

  -- every number fits 32 bits
  pub number_small : (axis i : ℕ) → axis < 3 → i < points_in c.waypoints → nat_abs (number_on c.waypoints axis i) < 2147483648
  number_small axis i h k = omega (arith, reach_size axis (number_on c.waypoints axis i) (w.reach_in axis i h k))

  pub each_small : (j : ℕ) → j < length c.waypoints → nat_abs (get_or c.waypoints j (pos 0)) < 2147483648
  each_small j h =
      let up : 3 * (j / 3) + j % 3 ≡ j = omega arith in
      rw up at (number_small (j % 3) (j / 3) (omega arith) (omega (arith, w.three)))

  pub slope_small : (i : ℕ) → i < length c.slopes → nat_abs (get_or c.slopes i (pos 0)) < 2147483648
  slope_small i h = omega (arith, within_size 5_000 (get_or c.slopes i (pos 0)) (w.slope_in i h))
