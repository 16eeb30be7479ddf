-- The lists that an accepted sheet's fields make (specs/Lists, `lists_of`): their counts, their elements, and that nothing refuses them.
-- For crates written, join and joined.
use mathlib.Core.Path.{◌≡◌, refl, sym, ap, ◌∙◌}
use mathlib.Core.Bool.{false}
use mathlib.Core.List.{List}
use Prim.Native.Nat.{ℕ, zero, suc, ◌+◌, ◌*◌, ◌/◌, ◌%◌, ◌<◌}
use native.Mathlib.Omega.{arith}
use borrow.Author.Tests.{ltb-false}
use lib.IntN.{pos}
use lib.ListN.{length, get_or}
use Rattle.ends.specs.Ends.{leg_count}
use Rattle.ends.specs.declared.EndKind.{EndKind}
use Rattle.ends.specs.declared.EndKind.TheVariants.{Free, Held, Closed}
use Rattle.sheet.specs.Bytes.{any_below}
use Rattle.sheet.specs.Fields.{kind_field, kind, points, legs, leg, waypoint, slope, sheet_length}
use Rattle.sheet.specs.Reading.{Accepted, leg_outside, reach_outside, slope_outside, slopes_outside}
use Rattle.sheet.specs.Theorems.{Bounds}
use Rattle.sheet.specs.declared.Refusal.TheVariants.{Ends, Leg, Slope}
use Rattle.sheet.proofs.Below.{any_none}
use Rattle.sheet.proofs.Laws.{accepted_bounds, reach_within}
use Rattle.lists.specs.Lists.{points_in, number_on, slope_count, size_of, list_below, lists_of}
use Rattle.lists.specs.Inside.{Writable}

-- ---- the list of f 0, .., f (n - 1)
pub length_below : {A : Type 0} (f : ℕ → A) (n : ℕ) → length (list_below f n) ≡ n
unfolding list_below
length_below f zero = refl
length_below f (suc n) = ap suc (length_below (λ i. f (suc i)) n)

get_below : {A : Type 0} (f : ℕ → A) (n i : ℕ) (d : A) → i < n → get_or (list_below f n) i d ≡ f i
unfolding list_below
get_below f zero i d h = absurd (omega arith)
get_below f (suc n) zero d h = refl
get_below f (suc n) (suc i) d h = get_below (λ j. f (suc j)) n i d (omega arith)

-- ---- of any sheet
module _ (s : List ℕ) where
  pub legs_are : length (lists_of s).legs ≡ legs s
  unfolding lists_of
  legs_are = length_below (leg s) (legs s)

  pub leg_is : (i : ℕ) → i < legs s → get_or (lists_of s).legs i 0 ≡ leg s i
  unfolding lists_of
  leg_is i h = get_below (leg s) (legs s) i 0 h

  pub numbers_are : length (lists_of s).waypoints ≡ 3 * points s
  unfolding lists_of
  numbers_are = length_below (λ j. waypoint s (j % 3) (j / 3)) (3 * points s)

  pub number_is : (axis i : ℕ) → axis < 3 → i < points s → number_on (lists_of s).waypoints axis i ≡ waypoint s axis i
  unfolding lists_of
  number_is axis i h k =
      let j = 3 * i + axis in let e : j % 3 ≡ axis = omega arith in let f : j / 3 ≡ i = omega arith in
      get_below (λ m. waypoint s (m % 3) (m / 3)) (3 * points s) j (pos 0) (omega arith) ∙ (λ m. waypoint s (e m) (f m))

  pub count_is : points_in (lists_of s).waypoints ≡ points s
  count_is = omega (arith, numbers_are)

-- ---- of an accepted one
module _ (s : List ℕ) (a : Accepted s) where
  b : Bounds s
  b = accepted_bounds s a

  pub size_is : size_of (lists_of s) ≡ length s
  unfolding lists_of
  size_is = ap (sheet_length (kind s)) (count_is s) ∙ sym b.size

  slope_within : (k : EndKind) (i : ℕ) → kind s ≡ k → i < slope_count k → slope_outside (slope s (i % 3) (i / 3)) ≡ false
  slope_within Free i e h = absurd (omega arith)
  slope_within Held i e h =
      let held = sym (ap (λ (k : EndKind). slopes_outside k s) e) ∙ a Slope (omega arith) in
      any_none (λ x. slope_outside (slope s x (i / 3))) 3
      (any_none (λ y. any_below (λ x. slope_outside (slope s x y)) 3) 2 held (i / 3) (omega arith)) (i % 3) (omega arith)
  slope_within Closed i e h = absurd (omega arith)

  pub writable_lists : Writable (lists_of s)
  unfolding lists_of
  writable_lists = record {
    kind_few = ltb-false 2 (kind_field s) (a Ends (omega arith));
    enough = omega (arith, b.enough, count_is s);
    few = omega (arith, b.few, count_is s);
    three = numbers_are s ∙ ap (λ n. 3 * n) (sym (count_is s));
    all_legs = legs_are s ∙ ap (leg_count (kind s)) (sym (count_is s));
    all_slopes = length_below (λ j. slope s (j % 3) (j / 3)) (slope_count (kind s));
    leg_in = λ i h.
        let k : i < legs s = omega (arith, legs_are s) in
        ap leg_outside (leg_is s i k) ∙ any_none (λ j. leg_outside (leg s j)) (legs s) (a Leg (omega arith)) i k;
    reach_in = λ axis i h k.
        let inside : i < points s = omega (arith, count_is s) in
        ap (reach_outside axis) (number_is s axis i h inside) ∙ reach_within s a axis i h inside;
    slope_in = λ i h.
        let k : i < slope_count (kind s) = omega (arith, length_below (λ j. slope s (j % 3) (j / 3)) (slope_count (kind s))) in
        ap slope_outside (get_below (λ j. slope s (j % 3) (j / 3)) (slope_count (kind s)) i (pos 0) k) ∙ slope_within (kind s) i refl k;
  }
