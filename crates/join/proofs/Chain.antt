-- The chain of tests (specs/Joining): each that applies is answered, a call that is not refused passes them all; then what is left in the slice.
-- (The worked joins are named so that they are checked first, by `pub use`: an import that nothing uses is tidied away.)
use mathlib.Core.Path.{◌≡◌, refl, sym, ap, ◌∙◌}
use mathlib.Core.Bool.{true, false, false≢true}
use mathlib.Core.List.{List, ◌++◌}
use Prim.Native.Nat.{ℕ, ◌≤◌}
use native.Mathlib.Nat.{zero-add}
use borrow.Author.Tests.{ltb-false}
use lib.Dec.{ltb}
use lib.ListN.{length, drop}
use Rattle.ends.specs.declared.EndKind.{EndKind}
use Rattle.ends.specs.declared.EndKind.TheVariants.{Free, Held, Closed}
use Rattle.sheet.specs.Answers.{Told, refused}
use Rattle.sheet.specs.Fields.{kind, points}
use Rattle.sheet.specs.Reading.{Accepted, most_points, read_sheet}
use Rattle.sheet.specs.declared.Refusal.{Refusal}
use Rattle.sheet.specs.declared.Refusal.TheVariants.{Page, Shut, Apart, Crowded}
use Rattle.sheet.proofs.Below.{or_left, or_right}
use Rattle.answers.specs.Answers.{pass_on, guard, told_count}
use Rattle.answers.proofs.Guards.{stopped, passed, not_refused, read_on, not_passed_on, done_changes, refused_keeps}
use Rattle.std.specs.Prelude.{Ok}
use Rattle.lists.specs.Lists.{points_in, size_of}
use Rattle.writer.specs.Inside.{over}
use Rattle.writer.proofs.Parts.{long}
use Rattle.join.specs.Joining.{is_shut, shut, apart, crowded, join_free, joined_lists, joined_sheet, join_sheets, joined_into}
use Rattle.join.proofs.Both.{BothFree}
use Rattle.join.proofs.Course.{writable_joined}
pub use Rattle.join.proofs.Worked as worked

free_ended : (k : EndKind) → is_shut k ≡ false → k ≡ Free
free_ended Free e = refl
free_ended Held e = absurd (false≢true (sym e))
free_ended Closed e = absurd (false≢true (sym e))

-- two accepted sheets that are not shut
pub both_free : (s : List ℕ) (n : ℕ) (t : List ℕ) (m : ℕ) → Accepted s → Accepted t → shut s t ≡ false → n ≡ points s → m ≡ points t → BothFree s n t m
both_free s n t m a b e n-is m-is = record {
  first = a;
  second = b;
  first_free = free_ended (kind s) (or_left (is_shut (kind s)) (is_shut (kind t)) e);
  second_free = free_ended (kind t) (or_right (is_shut (kind s)) (is_shut (kind t)) e);
  first_points = n-is;
  second_points = m-is;
}

module _ (s t : List ℕ) (room : ℕ) where
  abbrev size : ℕ
  size = size_of (joined_lists s t)

  -- what is left behind 18, 17, and both readings
  abbrev behind_crowded : Told
  behind_crowded = guard (ltb room size) Page (told_count (Ok size))

  abbrev behind_apart : Told
  behind_apart = guard (crowded s t) Crowded behind_crowded

  abbrev behind_second : Told
  behind_second = guard (shut s t) Shut (join_free s t room)

  -- ---- each test in its turn
  module _ (first : Accepted s) where
    pub after_first : pass_on (read_sheet t) behind_second ≡ join_sheets s t room
    unfolding join_sheets
    after_first = read_on s first (pass_on (read_sheet t) behind_second)

    module _ (second : Accepted t) where
      after_second : behind_second ≡ join_sheets s t room
      after_second = read_on t second behind_second ∙ after_first

      pub shut_stops : shut s t ≡ true → refused Shut ≡ join_sheets s t room
      shut_stops e = stopped (shut s t) Shut (join_free s t room) e ∙ after_second

      module _ (free : shut s t ≡ false) where
        after_shut : join_free s t room ≡ join_sheets s t room
        after_shut = passed (shut s t) Shut (join_free s t room) free ∙ after_second

        pub apart_stops : apart s t ≡ true → refused Apart ≡ join_sheets s t room
        apart_stops e = stopped (apart s t) Apart behind_apart e ∙ after_shut

        module _ (meet : apart s t ≡ false) where
          after_apart : behind_apart ≡ join_sheets s t room
          after_apart = passed (apart s t) Apart behind_apart meet ∙ after_shut

          pub crowded_stops : crowded s t ≡ true → refused Crowded ≡ join_sheets s t room
          crowded_stops e = stopped (crowded s t) Crowded behind_crowded e ∙ after_apart

          module _ (few : crowded s t ≡ false) where
            pub after_crowded : behind_crowded ≡ join_sheets s t room
            after_crowded = passed (crowded s t) Crowded behind_crowded few ∙ after_apart

            pub page_stops : ltb room size ≡ true → refused Page ≡ join_sheets s t room
            page_stops e = stopped (ltb room size) Page (told_count (Ok size)) e ∙ after_crowded

            pub all_passed : ltb room size ≡ false → told_count (Ok size) ≡ join_sheets s t room
            all_passed e = passed (ltb room size) Page (told_count (Ok size)) e ∙ after_crowded

  -- ---- a call that is not refused
  pub record Joins : Type 0 where
    pub free : BothFree s (points s) t (points t)
    pub meet : apart s t ≡ false
    pub few : points_in (joined_lists s t).waypoints ≤ most_points
    pub fits : size ≤ room
    pub answer : join_sheets s t room ≡ told_count (Ok size)

  pub joins : (join_sheets s t room).number ≡ 0 → Joins
  unfolding join_sheets
  joins z =
      let a = not_passed_on s (pass_on (read_sheet t) behind_second) z in
      let b = not_passed_on t behind_second a.1 in
      let c = not_refused (shut s t) Shut (join_free s t room) b.1 in
      let d = not_refused (apart s t) Apart behind_apart c.1 in
      let e = not_refused (crowded s t) Crowded behind_crowded d.1 in
      let f = not_refused (ltb room size) Page (told_count (Ok size)) e.1 in
      record {
        free = both_free s (points s) t (points t) a.0 b.0 c.0 refl refl;
        meet = d.0;
        few = ltb-false most_points (points_in (joined_lists s t).waypoints) e.0;
        fits = ltb-false room size f.0;
        answer = sym (all_passed a.0 b.0 c.0 d.0 e.0 f.0);
      }

-- ---- what is left in the slice: a refusal all of it, the answered length the joined sheet and what stood behind it
module _ (s t out : List ℕ) where
  abbrev new : List ℕ
  new = joined_sheet s t ++ drop (size_of (joined_lists s t)) out

  pub kept : (r : Refusal) → refused r ≡ join_sheets s t (length out) → (refused r ≡ join_sheets s t (length out)) × (out ≡ joined_into s t out)
  unfolding joined_into
  kept r e = (e, sym (refused_keeps (join_sheets s t (length out)) new out r e))

  module _ (done : (join_sheets s t (length out)).number ≡ 0) where
    -- the joined sheet is as long as its lists say
    pub joined_long : length (joined_sheet s t) ≡ size_of (joined_lists s t)
    joined_long = let j = joins s t (length out) done in long (joined_lists s t) (writable_joined s (points s) t (points t) j.free j.few)

    pub left_done : joined_into s t out ≡ joined_sheet s t ++ drop (length (joined_sheet s t)) out
    unfolding joined_into
    left_done = done_changes (join_sheets s t (length out)) new out done ∙ ap (λ k. joined_sheet s t ++ drop k out) (sym joined_long)

    -- as the code writes it
    pub left_joined : over (joined_sheet s t) 0 out ≡ joined_into s t out
    unfolding over
    left_joined = ap (λ k. joined_sheet s t ++ drop k out) (zero-add (length (joined_sheet s t))) ∙ sym left_done
