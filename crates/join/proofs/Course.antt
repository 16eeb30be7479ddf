-- The joined course as lists: two free-ended sheets' counts, those of both together, and that writing the joined lists is refused for nothing but their
-- number or the room.
use mathlib.Core.Path.{◌≡◌, refl, sym, ap, ◌∙◌, subst}
use mathlib.Core.Bool.{false, false≢true}
use mathlib.Core.List.{List, ◌++◌}
use Prim.Native.Nat.{ℕ, zero, suc, ◌+◌, ◌*◌, ◌-◌, ◌≤◌, ◌<◌}
use native.Mathlib.Omega.{arith}
use lib.IntN.{pos}
use lib.ListN.{length, get_or, drop, length-append, length-drop, get_or-append}
use lib.Seq.{get_or-append-add, get_or-drop}
use Rattle.integers.proofs.Order.{le_or_lt}
use Rattle.ends.specs.Ends.{leg_count, least_points}
use Rattle.ends.specs.declared.EndKind.TheVariants.{Free}
use Rattle.sheet.specs.Fields.{kind_field, kind_of, kind, points, legs, sheet_length}
use Rattle.sheet.specs.Reading.{Accepted, leg_outside, reach_outside, most_points}
use Rattle.sheet.proofs.Laws.{accepted_bounds}
use Rattle.lists.specs.Lists.{Lists, points_in, size_of, lists_of}
use Rattle.lists.specs.Inside.{Writable}
use Rattle.lists.proofs.Fields.{count_is, writable_lists}
use Rattle.join.specs.Joining.{is_shut, in_turn, joined_lists}
use Rattle.answers.specs.declared.opened.OpenSheet.{OpenSheet}
use Rattle.join.specs.declared.pair.FreePair.{FreePair}
use Rattle.join.proofs.Both.{BothFree, both_in}

-- an element of two lists, one after the other
either : {A : Type 0} (P : A → Type 0) (p q : List A) (d : A) (i : ℕ)
    → (i < length p → P (get_or p i d)) → (length p ≤ i → P (get_or q (i - length p) d)) → P (get_or (p ++ q) i d)
either P p q d i f g =
    le_or_lt (length p) i (P (get_or (p ++ q) i d))
    (λ h. let e : length p + (i - length p) ≡ i = omega arith in
    subst P (sym (get_or-append-add p q (i - length p) d) ∙ ap (λ k. get_or (p ++ q) k d) e) (g h))
    (λ h. subst P (sym (get_or-append p q d i h)) (f h))

-- ---- lists of free ends: one
module _ (a : Lists) (w : Writable a) (free : a.kind ≡ 0) where
  two : 2 ≤ points_in a.waypoints
  two = subst (λ k. least_points (kind_of k) ≤ points_in a.waypoints) free w.enough

  one_less : length a.legs + 1 ≡ points_in a.waypoints
  one_less =
      let e : length a.legs ≡ points_in a.waypoints - 1 = w.all_legs ∙ ap (λ k. leg_count (kind_of k) (points_in a.waypoints)) free in omega (arith, two)

-- .. and two, in turn
module _ (a b : Lists) (wa : Writable a) (wb : Writable b) (fa : a.kind ≡ 0) (fb : b.kind ≡ 0) where
  abbrev c : Lists
  c = in_turn a b

  numbers : length c.waypoints + 3 ≡ 3 * points_in a.waypoints + 3 * points_in b.waypoints
  numbers = omega (arith, length-append a.waypoints (drop 3 b.waypoints), length-drop 3 b.waypoints, wa.three, wb.three, two b wb fb)

  count : points_in c.waypoints + 1 ≡ points_in a.waypoints + points_in b.waypoints
  count = omega (arith, numbers)

  writable_turns : points_in c.waypoints ≤ most_points → Writable c
  writable_turns few = record {
    kind_few = omega arith;
    enough = omega (arith, count, two a wa fa, two b wb fb);
    few = few;
    three = omega (arith, numbers, count);
    all_legs = length-append a.legs b.legs ∙ omega (arith, count, one_less a wa fa, one_less b wb fb);
    all_slopes = refl;
    leg_in = λ i h. either (λ x. leg_outside x ≡ false) a.legs b.legs 0 i (wa.leg_in i)
        (λ k. wb.leg_in (i - length a.legs) (omega (arith, length-append a.legs b.legs)));
    reach_in = λ axis i h k.
        either (λ z. reach_outside axis z ≡ false) a.waypoints (drop 3 b.waypoints) (pos 0) (3 * i + axis)
        (λ l. wa.reach_in axis i h (omega (arith, wa.three)))
        (λ l.
        let from = length a.waypoints in let next = i - points_in a.waypoints + 1 in
        let e : 3 + (3 * i + axis - from) ≡ 3 * next + axis = omega (arith, wa.three) in
        subst (λ z. reach_outside axis z ≡ false)
        (sym (get_or-drop 3 b.waypoints (3 * i + axis - from) (pos 0) ∙ ap (λ m. get_or b.waypoints m (pos 0)) e))
        (wb.reach_in axis next h (omega (arith, count, wa.three, two a wa fa))));
    slope_in = λ i h. absurd (omega arith);
  }

-- ---- sheets: one that is accepted and free, of n waypoints
pub record Counts (s : List ℕ) (n : ℕ) : Type 0 where
  pub some : 2 ≤ n
  pub few : n ≤ 512
  pub legs_are : legs s ≡ n - 1
  pub long : length s ≡ 8 + 2 * (n - 1) + 12 * n

counts : (s : List ℕ) (n : ℕ) → Accepted s → kind s ≡ Free → n ≡ points s → Counts s n
counts s n a free e =
    let b = accepted_bounds s a in let enough : least_points Free ≤ points s = subst (λ k. least_points k ≤ points s) free b.enough in
    record {
      some = omega (arith, enough);
      few = omega (arith, b.few);
      legs_are = (λ i. leg_count (free i) (sym e i));
      long = b.size ∙ (λ i. sheet_length (free i) (sym e i)) ∙ omega arith;
    }

kind_zero : (k : ℕ) → kind_of k ≡ Free → k ≡ 0
kind_zero zero e = refl
kind_zero (suc zero) e = absurd (false≢true (sym (ap is_shut e)))
kind_zero (suc (suc k)) e = absurd (false≢true (sym (ap is_shut e)))

free_kind : (s : List ℕ) → kind s ≡ Free → (lists_of s).kind ≡ 0
unfolding lists_of
free_kind s e = kind_zero (kind_field s) e

-- .. and two of them
module _ (s : List ℕ) (n : ℕ) (t : List ℕ) (m : ℕ) (f : BothFree s n t m) where
  pub first_counts : Counts s n
  first_counts = counts s n f.first f.first_free f.first_points

  pub second_counts : Counts t m
  second_counts = counts t m f.second f.second_free f.second_points

  pub count_joined : points_in (joined_lists s t).waypoints ≡ n + m - 1
  count_joined = omega (
    arith,
    count (lists_of s) (lists_of t) (writable_lists s f.first) (writable_lists t f.second) (free_kind s f.first_free) (free_kind t f.second_free),
    count_is s,
    count_is t,
    f.first_points,
    f.second_points,
  )

  pub size_joined : size_of (joined_lists s t) ≡ 8 + 2 * (n + m - 1 - 1) + 12 * (n + m - 1)
  size_joined = ap (sheet_length Free) count_joined ∙ omega arith

  pub writable_joined : points_in (joined_lists s t).waypoints ≤ most_points → Writable (joined_lists s t)
  writable_joined = writable_turns (lists_of s) (lists_of t) (writable_lists s f.first) (writable_lists t f.second) (free_kind s f.first_free) (free_kind t f.second_free)

-- the counts of both, as omega reads them
pub bounds : (s : List ℕ) (n : ℕ) (t : List ℕ) (m : ℕ) → BothFree s n t m
    → (2 ≤ n) × (n ≤ 512) × (length s ≡ 8 + 2 * (n - 1) + 12 * n) × (2 ≤ m) × (m ≤ 512) × (length t ≡ 8 + 2 * (m - 1) + 12 * m)
bounds s n t m f = let a = first_counts s n t m f in let b = second_counts s n t m f in (a.some, a.few, a.long, b.some, b.few, b.long)

pub pair_bounds : (p : FreePair) → let s = p.first.bytes.now in let n = p.first.points in let t = p.second.bytes.now in let m = p.second.points in
    (2 ≤ n) × (n ≤ 512) × (length s ≡ 8 + 2 * (n - 1) + 12 * n) × (2 ≤ m) × (m ≤ 512) × (length t ≡ 8 + 2 * (m - 1) + 12 * m)
pair_bounds p = bounds _ _ _ _ (both_in p)

pub pair_count : (p : FreePair) → points_in (joined_lists p.first.bytes.now p.second.bytes.now).waypoints ≡ p.first.points + p.second.points - 1
pair_count p = count_joined _ _ _ _ (both_in p)

pub pair_size : (p : FreePair) → let n = p.first.points in let m = p.second.points in
    size_of (joined_lists p.first.bytes.now p.second.bytes.now) ≡ 8 + 2 * (n + m - 1 - 1) + 12 * (n + m - 1)
pair_size p = size_joined _ _ _ _ (both_in p)

-- a waypoint of an open sheet stands in its bytes, as the code asks for one of its numbers
pub waypoint_there : (sheet : OpenSheet) (l i axis : ℕ) → l ≡ legs sheet.bytes.now → i < sheet.points → axis < 3
    → (l ≡ legs sheet.bytes.now) × (axis < 3) × (8 + 2 * l + 12 * i + 12 ≤ length sheet.bytes.now)
waypoint_there sheet l i axis e h k = (e, k, omega (arith, (accepted_bounds sheet.bytes.now sheet.accepted).size, sheet.is_points))
