-- An accepted sheet, written from its fields, has its bytes again (G6): from the last section to the first, each is what its fields write.
use mathlib.Core.Path.{◌≡◌, sym, ap, ◌∙◌, subst}
use mathlib.Core.Bool.{not}
use mathlib.Core.List.{List, ◌∷◌, ◌++◌, flat_map, append-nil}
use Prim.Native.Nat.{ℕ, ◌+◌, ◌*◌, ◌/◌, ◌%◌, ◌<◌}
use native.Mathlib.Omega.{arith}
use borrow.Author.Tests.{eqb-true, not-false}
use lib.Dec.{ltb, eqb}
use lib.ListN.{length, drop, drop_of_length-le}
use Rattle.sheet.specs.Bytes.{byte, be32, signed32}
use Rattle.sheet.specs.Fields.{length_field, version, kind_field, kind, points, legs, leg, waypoint, slope, waypoints_from, slopes_from}
use Rattle.sheet.specs.Reading.{Accepted}
use Rattle.sheet.specs.Theorems.{Bounds}
use Rattle.sheet.specs.declared.Refusal.TheVariants.{Torn, Edition}
use Rattle.sheet.proofs.Below.{or_right}
use Rattle.sheet.proofs.Laws.{accepted_bounds}
use Rattle.answers.specs.Answers.{told_count}
use Rattle.std.specs.Prelude.{Ok}
use Rattle.lists.specs.Lists.{Lists, slope_count, list_below, lists_of}
use Rattle.writer.specs.Sheets.{bytes16, bytes32, number_bytes, head_bytes, body_bytes, written_sheet}
use Rattle.writer.proofs.Bytes.{next, two_again, four_again, number_again}
use Rattle.writer.proofs.Parts.{slope_size}
use Rattle.writer.proofs.Sections.{section_again}
use Rattle.lists.proofs.Tests.{answered, nothing_applies}
use Rattle.lists.proofs.Fields.{count_is, size_is, writable_lists}
use Rattle.written.specs.Theorems.{WrittenAlike, WrittenAgain}

module _ (s : List ℕ) (small : (i : ℕ) → byte s i < 256) (a : Accepted s) where
  abbrev c : Lists
  c = lists_of s

  b : Bounds s
  b = accepted_bounds s a

  -- ---- the sections, from the last
  slopes_again : flat_map number_bytes (list_below (λ j. slope s (j % 3) (j / 3)) (slope_count (kind s))) ≡ drop (slopes_from s) s
  slopes_again =
      sym (append-nil _)
      ∙ ap (λ r. flat_map number_bytes (list_below (λ j. slope s (j % 3) (j / 3)) (slope_count (kind s))) ++ r)
      (sym (drop_of_length-le s {i = slopes_from s + 4 * slope_count (kind s)} (omega (arith, b.size, slope_size (kind s)))))
      ∙ section_again number_bytes 4 s (slope_count (kind s)) (slopes_from s) (λ j. slope s (j % 3) (j / 3)) (λ j h.
      let e : slopes_from s + 12 * (j / 3) + 4 * (j % 3) ≡ slopes_from s + 4 * j = omega arith in
      subst (λ at. number_bytes (signed32 (be32 s at)) ++ drop (slopes_from s + 4 * j + 4) s ≡ drop (slopes_from s + 4 * j) s) (sym e)
      (number_again s small (slopes_from s + 4 * j) (omega (arith, b.size, slope_size (kind s)))))

  pub waypoints_again : flat_map number_bytes (list_below (λ j. waypoint s (j % 3) (j / 3)) (3 * points s)) ++ drop (slopes_from s) s ≡ drop (waypoints_from s) s
  waypoints_again =
      let end : slopes_from s ≡ waypoints_from s + 4 * (3 * points s) = omega arith in
      ap (λ k. flat_map number_bytes (list_below (λ j. waypoint s (j % 3) (j / 3)) (3 * points s)) ++ drop k s) end
      ∙ section_again number_bytes 4 s (3 * points s) (waypoints_from s) (λ j. waypoint s (j % 3) (j / 3)) (λ j h.
      let e : waypoints_from s + 12 * (j / 3) + 4 * (j % 3) ≡ waypoints_from s + 4 * j = omega arith in
      subst (λ at. number_bytes (signed32 (be32 s at)) ++ drop (waypoints_from s + 4 * j + 4) s ≡ drop (waypoints_from s + 4 * j) s) (sym e)
      (number_again s small (waypoints_from s + 4 * j) (omega (arith, b.size))))

  pub legs_again : flat_map bytes16 (list_below (leg s) (legs s)) ++ drop (waypoints_from s) s ≡ drop 8 s
  legs_again = section_again bytes16 2 s (legs s) 8 (leg s) (λ i h. two_again s small (8 + 2 * i) (omega (arith, b.size)))

  body_again : body_bytes c ≡ drop 8 s
  unfolding lists_of
  body_again =
      ap (λ r. flat_map bytes16 (list_below (leg s) (legs s)) ++ (flat_map number_bytes (list_below (λ j. waypoint s (j % 3) (j / 3)) (3 * points s)) ++ r)) slopes_again
      ∙ ap (λ r. flat_map bytes16 (list_below (leg s) (legs s)) ++ r) waypoints_again
      ∙ legs_again

  -- ---- the head
  length_is : length_field s ≡ length s
  length_is = eqb-true (length_field s) (length s) (not-false (eqb (length_field s) (length s)) (or_right (ltb (length s) 8) (not (eqb (length_field s) (length s))) (a Torn (omega arith))))

  version_is : version s ≡ 1
  version_is = eqb-true (version s) 1 (not-false (eqb (version s) 1) (a Edition (omega arith)))

  head_again : head_bytes (length_field s) (kind_field s) (points s) ++ drop 8 s ≡ s
  head_again =
      ap (λ v. bytes32 (length_field s) ++ (v ∷ kind_field s ∷ (bytes16 (points s) ++ drop 8 s))) (sym version_is)
      ∙ ap (λ r. bytes32 (length_field s) ++ (version s ∷ kind_field s ∷ r)) (two_again s small 6 (omega (arith, b.size)))
      ∙ ap (λ r. bytes32 (length_field s) ++ (version s ∷ r)) (sym (next s small 5 (omega (arith, b.size))))
      ∙ ap (λ r. bytes32 (length_field s) ++ r) (sym (next s small 4 (omega (arith, b.size))))
      ∙ four_again s small 0 (omega (arith, b.size))

  same : written_sheet c ≡ s
  unfolding written_sheet lists_of
  same = (λ i. head_bytes ((size_is s a ∙ sym length_is) i) (kind_field s) (count_is s i) ++ body_again i) ∙ head_again

  pub alike : WrittenAlike s
  alike = record {
    same = same;
    answered = λ room h. sym (answered c room (nothing_applies c room (writable_lists s a) (omega (arith, size_is s a)))) ∙ ap (λ n. told_count (Ok n)) (size_is s a);
  }

pub written_again : WrittenAgain
written_again = alike
