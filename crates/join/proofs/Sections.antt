-- The joined sheet's bytes: a head, and sections of the two sheets as they stand there. For put_joined.
use mathlib.Core.Path.{◌≡◌, refl, sym, ap, ◌∙◌}
use mathlib.Core.List.{List, [], ◌∷◌, ◌++◌, flat_map, append_assoc, append-nil}
use Prim.Native.Nat.{ℕ, ◌+◌, ◌*◌, ◌/◌, ◌%◌, ◌-◌, ◌≤◌, ◌<◌}
use native.Mathlib.Omega.{arith}
use lib.IntN.{ℤ}
use lib.ListN.{length, take, drop, length-drop}
use lib.Seq.{take-add, take_at, drop_at, drop-drop, length-take-le}
use Rattle.sheet.specs.Bytes.{byte}
use Rattle.sheet.specs.Fields.{points, legs, leg, waypoint, waypoints_from, slopes_from}
use Rattle.sheet.specs.Reading.{Accepted}
use Rattle.lists.specs.Lists.{size_of, list_below, lists_of}
use Rattle.lists.proofs.Fields.{length_below}
use Rattle.writer.specs.Sheets.{bytes16, number_bytes, head_bytes, written_sheet}
use Rattle.writer.proofs.Sections.{flat_append, flat_length}
use Rattle.written.proofs.Again.{legs_again, waypoints_again}
use Rattle.join.specs.Joining.{joined_lists, joined_sheet}
use Rattle.join.proofs.Both.{BothFree}
use Rattle.join.proofs.Course.{first_counts, second_counts, count_joined}

-- ---- the sections of one accepted sheet are what its fields write
module _ (s : List ℕ) (small : (i : ℕ) → byte s i < 256) (a : Accepted s) where
  leg_bytes : flat_map bytes16 (lists_of s).legs ≡ take (2 * legs s) (drop 8 s)
  unfolding lists_of
  leg_bytes =
      let l = list_below (leg s) (legs s) in
      sym (take_at (flat_map bytes16 l) (drop (waypoints_from s) s) (2 * legs s)
      (flat_length bytes16 2 (λ x. refl) l ∙ ap (λ n. 2 * n) (length_below (leg s) (legs s))))
      ∙ ap (take (2 * legs s)) (legs_again s small a)

  waypoint_bytes : flat_map number_bytes (lists_of s).waypoints ≡ take (12 * points s) (drop (waypoints_from s) s)
  unfolding lists_of
  waypoint_bytes =
      let l = list_below (λ j. waypoint s (j % 3) (j / 3)) (3 * points s) in
      sym (take_at (flat_map number_bytes l) (drop (slopes_from s) s) (12 * points s)
      (flat_length number_bytes 4 (λ x. refl) l ∙ omega (arith, length_below (λ j. waypoint s (j % 3) (j / 3)) (3 * points s))))
      ∙ ap (take (12 * points s)) (waypoints_again s small a)

-- ---- without the first waypoint
without_first : (w : List ℤ) → flat_map number_bytes (drop 3 w) ≡ drop 12 (flat_map number_bytes w)
unfolding flat_map
without_first [] = refl
without_first (x ∷ []) = refl
without_first (x ∷ y ∷ []) = refl
without_first (x ∷ y ∷ z ∷ w) = refl

drop_of_take : (k m : ℕ) (l : List ℕ) → k ≤ length l → drop k (take (k + m) l) ≡ take m (drop k l)
drop_of_take k m l h = ap (drop k) (take-add k m l) ∙ drop_at (take k l) (take m (drop k l)) k (length-take-le k l h)

-- ---- the joined sheet: the sections by the counts, as the code has them
module _ (s : List ℕ) (n : ℕ) (t : List ℕ) (m : ℕ) (f : BothFree s n t m) where
  abbrev pub head : List ℕ
  head = head_bytes (size_of (joined_lists s t)) 0 (n + m - 1)

  abbrev pub legs₁ : List ℕ
  legs₁ = take (2 * (n - 1)) (drop 8 s)

  abbrev pub legs₂ : List ℕ
  legs₂ = take (2 * (m - 1)) (drop 8 t)

  abbrev pub points₁ : List ℕ
  points₁ = take (12 * n) (drop (8 + 2 * (n - 1)) s)

  abbrev pub points₂ : List ℕ
  points₂ = take (12 * (m - 1)) (drop (20 + 2 * (m - 1)) t)

  module _ (s_small : (i : ℕ) → byte s i < 256) (t_small : (i : ℕ) → byte t i < 256) where
    leg_part : flat_map bytes16 (joined_lists s t).legs ≡ legs₁ ++ legs₂
    leg_part =
        let a = (first_counts s n t m f).legs_are in let b = (second_counts s n t m f).legs_are in
        flat_append bytes16 (lists_of s).legs (lists_of t).legs
        ∙ (λ i. (leg_bytes s s_small f.first ∙ ap (λ k. take (2 * k) (drop 8 s)) a) i ++ (leg_bytes t t_small f.second ∙ ap (λ k. take (2 * k) (drop 8 t)) b) i)

    first_points : flat_map number_bytes (lists_of s).waypoints ≡ points₁
    first_points =
        let a = (first_counts s n t m f).legs_are in
        waypoint_bytes s s_small f.first ∙ (λ i. take (12 * sym f.first_points i) (drop (8 + 2 * a i) s))

    second_points : flat_map number_bytes (drop 3 (lists_of t).waypoints) ≡ points₂
    second_points =
        let c = second_counts s n t m f in let a = c.legs_are in let from = 8 + 2 * (m - 1) in
        let e : 12 * m ≡ 12 + 12 * (m - 1) = omega (arith, c.some) in
        let at : from + 12 ≡ 20 + 2 * (m - 1) = omega arith in
        without_first (lists_of t).waypoints
        ∙ ap (drop 12) (waypoint_bytes t t_small f.second ∙ (λ i. take (12 * sym f.second_points i) (drop (8 + 2 * a i) t)) ∙ ap (λ k. take k (drop from t)) e)
        ∙ drop_of_take 12 (12 * (m - 1)) (drop from t) (omega (arith, length-drop from t, c.long, c.some))
        ∙ ap (take (12 * (m - 1))) (drop-drop 12 from t ∙ ap (λ k. drop k t) at)

    point_part : flat_map number_bytes (joined_lists s t).waypoints ≡ points₁ ++ points₂
    point_part = flat_append number_bytes (lists_of s).waypoints (drop 3 (lists_of t).waypoints) ∙ (λ i. first_points i ++ second_points i)

    pub in_sections : (((head ++ legs₁) ++ legs₂) ++ points₁) ++ points₂ ≡ joined_sheet s t
    unfolding written_sheet flat_map
    in_sections = sym (
        (λ i. head_bytes (size_of (joined_lists s t)) 0 (count_joined s n t m f i) ++ (leg_part i ++ (point_part i ++ [])))
        ∙ ap (λ r. head ++ ((legs₁ ++ legs₂) ++ r)) (append-nil (points₁ ++ points₂))
        ∙ sym (append_assoc head (legs₁ ++ legs₂) (points₁ ++ points₂))
        ∙ (λ i. sym (append_assoc head legs₁ legs₂) i ++ (points₁ ++ points₂))
        ∙ sym (append_assoc ((head ++ legs₁) ++ legs₂) points₁ points₂))
