-- Which two sheets are joined (A13): those that meet pass 1 to 8, 16 and 17, and then their waypoints and the room decide.
use mathlib.Core.Path.{◌≡◌, refl, sym, ap, ◌∙◌}
use mathlib.Core.Bool.{false, ◌||◌}
use mathlib.Core.List.{List}
use Prim.Native.Nat.{ℕ, ◌+◌, ◌-◌, ◌≤◌}
use native.Mathlib.Omega.{arith}
use borrow.Author.Tests.{lt-ltb, le-ltb}
use lib.Dec.{ltb}
use lib.ListN.{length}
use Rattle.integers.proofs.Order.{le_or_lt}
use Rattle.sheet.specs.Fields.{points, waypoint}
use Rattle.sheet.specs.Reading.{most_points}
use Rattle.sheet.specs.declared.Refusal.TheVariants.{Page}
use Rattle.sheet.proofs.Below.{none_any}
use Rattle.answers.specs.Answers.{guard, told_count}
use Rattle.std.specs.Prelude.{Ok}
use Rattle.lists.specs.Lists.{points_in, size_of}
use Rattle.join.specs.Joining.{is_shut, shut, differ, apart, joined_lists}
use Rattle.join.proofs.Both.{BothFree}
use Rattle.join.proofs.Differ.{same_not}
use Rattle.join.proofs.Course.{Counts, first_counts, second_counts, count_joined, size_joined}
use Rattle.join.proofs.Chain.{after_crowded, crowded_stops}
use Rattle.joined.specs.Theorems.{Meeting, JoinedWhereFew, CrowdedWhereMore}

module _ (s t : List ℕ) (w : Meeting s t) where
  free : BothFree s (points s) t (points t)
  free = record {
    first = w.first;
    second = w.second;
    first_free = w.first_free;
    second_free = w.second_free;
    first_points = refl;
    second_points = refl;
  }

  not_shut : shut s t ≡ false
  not_shut = (λ i. is_shut (w.first_free i) || is_shut (w.second_free i))

  not_apart : apart s t ≡ false
  not_apart = none_any (λ axis. differ (waypoint s axis (points s - 1)) (waypoint t axis 0)) 3 (λ axis h.
      ap (λ x. differ x (waypoint t axis 0)) (w.shared axis h) ∙ same_not (waypoint t axis 0))

  pub n_counts : Counts s (points s)
  n_counts = first_counts s (points s) t (points t) free

  pub m_counts : Counts t (points t)
  m_counts = second_counts s (points s) t (points t) free

  count : points_in (joined_lists s t).waypoints ≡ points s + points t - 1
  count = count_joined s (points s) t (points t) free

  size : size_of (joined_lists s t) ≡ length s + length t - 20
  size = omega (arith, size_joined s (points s) t (points t) free, n_counts.some, n_counts.long, m_counts.some, m_counts.long)

  -- the room for the joined sheet, in the two sheets' bytes
  room_same : (room : ℕ) → ltb room (size_of (joined_lists s t)) ≡ ltb (room + 20) (length s + length t)
  room_same room =
      let enough : 20 ≤ length s + length t = omega (arith, n_counts.some, n_counts.long) in
      le_or_lt (length s + length t) (room + 20) _
      (λ h. le-ltb room (size_of (joined_lists s t)) (omega (arith, size)) ∙ sym (le-ltb (room + 20) (length s + length t) h))
      (λ h. lt-ltb room (size_of (joined_lists s t)) (omega (arith, size)) ∙ sym (lt-ltb (room + 20) (length s + length t) h))

pub joined_where_few : JoinedWhereFew
joined_where_few s t w few room =
    sym (after_crowded s t room w.first w.second (not_shut s t w) (not_apart s t w)
    (le-ltb most_points (points_in (joined_lists s t).waypoints) (omega (arith, count s t w))))
    ∙ (λ i. guard (room_same s t w room i) Page (told_count (Ok (size s t w i))))

pub crowded_where_more : CrowdedWhereMore
crowded_where_more s t w more room =
    sym (crowded_stops s t room w.first w.second (not_shut s t w) (not_apart s t w)
    (lt-ltb most_points (points_in (joined_lists s t).waypoints) (omega (arith, count s t w))))
