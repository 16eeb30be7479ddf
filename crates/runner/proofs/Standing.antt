-- Ticks and runners name each other (P3, M3, M11). A runner that is not adrift stands below its leg's length or at the end of an open course, there with no laps; the
-- walk finds exactly such a runner for each tick that the course has, and the ticks flown tell its laps too.
use mathlib.Core.Path.{◌≡◌, refl, sym, ap, ◌∙◌}
use mathlib.Core.Bool.{Bool, true, false, not, ◌&&◌, ◌||◌, true≢false, false≢true, and-eq-true_iff, and-false}
use mathlib.Core.List.{List}
use mathlib.Core.Logic.{◌⊎◌, inl, inr, ⊎_elim}
use Prim.Native.Nat.{ℕ, suc, ◌+◌, ◌-◌, ◌*◌, ◌/◌, ◌%◌, ◌≤◌, ◌<◌}
use native.Mathlib.Nat.{mod-eq_of_lt, mod-lt, div-eq_of_lt, div-add-mod, mul-add-mod_self_right, mul-add-div_right}
use native.Mathlib.Omega.{arith}
use lib.Dec.{ltb, eqb}
use borrow.Author.Tests.{ltb-true, ltb-false, eqb-true, lt-ltb, le-ltb, eq-eqb, ne_eqb}
use Rattle.ends.specs.declared.EndKind.{EndKind}
use Rattle.ends.specs.declared.EndKind.TheVariants.{Free, Held, Closed}
use Rattle.integers.proofs.Order.{le_or_lt}
use Rattle.sheet.proofs.Below.{sum_monotone, or_left, or_right}
use Rattle.sheet.proofs.ByKind.{least_two, legs_at_least}
use Rattle.sheet.proofs.Laws.{accepted_bounds}
use Rattle.sheet.specs.Bytes.{sum_below}
use Rattle.sheet.specs.Fields.{kind, points, legs, leg, ticks}
use Rattle.sheet.specs.Reading.{Accepted}
use Rattle.runner.specs.Ticks.{at_lap, is_open, reduced, laps_in, walk, spot_at, tick_of, ticks_flown}
use Rattle.runner.specs.Steps.{landed, off_legs, adrift}
use Rattle.runner.specs.Theorems.{Stands, FlownParts, TickStands, OneRunner, LegBySums}
use Rattle.runner.specs.declared.Runner.{Runner}
use Rattle.runner.proofs.Walk.{Found, walk_finds, walk_only, walk_by_sums, walk_sums}
-- checked first, so that a wrong definition fails by its numbers (named by `pub use`: an import that nothing uses is tidied away)
pub use Rattle.runner.proofs.Worked as worked

-- M3, what is left by N11: on a leg, below its length, or at the end of an open course; and no laps on an open one
abbrev pub LapsFit : List ℕ → Runner → Type 0
LapsFit s r = is_open (kind s) ≡ true → r.laps ≡ 0

pub data Standing (s : List ℕ) (r : Runner) : Type 0 where
  on_leg : r.leg < legs s → r.offset < leg s r.leg → LapsFit s r → Standing s r
  at_end : is_open (kind s) ≡ true → suc r.leg ≡ legs s → r.offset ≡ leg s r.leg → r.laps ≡ 0 → Standing s r

parts : (a b c : Bool) → (not a || not (b || c)) ≡ false → (a ≡ true) × ((b ≡ true) ⊎ (c ≡ true))
parts true true c e = (refl, inl refl)
parts true false true e = (refl, inr refl)
parts true false false e = absurd (true≢false e)
parts false b c e = absurd (true≢false e)

no_lap : (b : Bool) (l : ℕ) → (b && ltb 0 l) ≡ false → b ≡ true → l ≡ 0
no_lap true l e o = let h = ltb-false 0 l e in omega arith
no_lap false l e o = absurd (false≢true o)

lap_none : (b : Bool) (l : ℕ) → (b ≡ true → l ≡ 0) → (b && ltb 0 l) ≡ false
lap_none true l h = ap (ltb 0) (h refl)
lap_none false l h = refl

pub standing : (s : List ℕ) (r : Runner) → adrift s r ≡ false → Standing s r
unfolding adrift off_legs
standing s r e = ⊎_elim (λ below. on_leg (ltb-true _ _ p.0) (ltb-true _ _ below) lap) ended p.1
  where
    lapped : Bool
    lapped = is_open (kind s) && ltb 0 r.laps

    p : (ltb r.leg (legs s) ≡ true) × ((ltb r.offset (leg s r.leg) ≡ true) ⊎ (landed s r ≡ true))
    p = parts _ _ _ (or_left (off_legs s r) lapped e)

    lap : LapsFit s r
    lap = no_lap (is_open (kind s)) r.laps (or_right (off_legs s r) lapped e)

    ended : landed s r ≡ true → Standing s r
    ended a =
        let q = (and-eq-true_iff (is_open (kind s) && eqb (suc r.leg) (legs s)) (eqb r.offset (leg s r.leg))).0 a in
        let o = (and-eq-true_iff (is_open (kind s)) (eqb (suc r.leg) (legs s))).0 q.0 in
        at_end o.0 (eqb-true _ _ o.1) (eqb-true _ _ q.1) (lap o.0)

pub landed_at_end : (s : List ℕ) (r : Runner) → is_open (kind s) ≡ true → suc r.leg ≡ legs s → r.offset ≡ leg s r.leg → landed s r ≡ true
landed_at_end s r o e q = simp (o, eq-eqb _ _ e, eq-eqb _ _ q)

pub not_landed : (s : List ℕ) (r : Runner) → r.offset < leg s r.leg → landed s r ≡ false
not_landed s r q = simp (ne_eqb r.offset (leg s r.leg) (λ e. omega arith), and-false)

pub on_legs : (s : List ℕ) (r : Runner) → r.leg < legs s → r.offset < leg s r.leg → off_legs s r ≡ false
unfolding off_legs
on_legs s r p q = simp (lt-ltb _ _ p, lt-ltb _ _ q)

pub not_adrift : (s : List ℕ) (r : Runner) → Standing s r → adrift s r ≡ false
unfolding adrift off_legs
not_adrift s r (on_leg p q w) = simp (lt-ltb _ _ p, lt-ltb _ _ q, lap_none (is_open (kind s)) r.laps w)
not_adrift s r (at_end o e q z) =
    simp (lt-ltb r.leg (legs s) (omega arith), le-ltb r.offset (leg s r.leg) (omega arith), landed_at_end s r o e q, lap_none (is_open (kind s)) r.laps (λ _. z))

pub leg_below : (s : List ℕ) (r : Runner) → Standing s r → r.leg < legs s
leg_below s r (on_leg p q w) = p
leg_below s r (at_end o e q z) = omega arith

pub laps_fit : (s : List ℕ) (r : Runner) → Standing s r → LapsFit s r
laps_fit s r (on_leg p q w) = w
laps_fit s r (at_end o e q z) = λ _. z

-- a closed course takes any laps
pub closed_laps_fit : (s : List ℕ) (r : Runner) → kind s ≡ Closed → LapsFit s r
closed_laps_fit s r e o = absurd (false≢true (sym (ap is_open e) ∙ o))

-- one that has not landed can go on along its leg
pub offset_below : (s : List ℕ) (r : Runner) → Standing s r → landed s r ≡ false → r.offset < leg s r.leg
offset_below s r (on_leg p q w) e = q
offset_below s r (at_end o p q z) e = absurd (true≢false (sym (landed_at_end s r o p q) ∙ e))

-- the ticks, of p in all, that a course has: those below p, and p itself where it is open
abbrev pub Has : Bool → ℕ → ℕ → Type 0
Has b p t = (t < p) ⊎ ((b ≡ true) × (t ≡ p))

abbrev pub HasTick : List ℕ → ℕ → Type 0
HasTick s t = Has (is_open (kind s)) (ticks s) t

pub tick_before : (s : List ℕ) (r : Runner) → r.leg < legs s → r.offset < leg s r.leg → tick_of s r < ticks s
unfolding tick_of sum_below
tick_before s r p q = omega (arith, sum_monotone (leg s) (suc r.leg) (legs s) p)

pub tick_at_end : (s : List ℕ) (r : Runner) → suc r.leg ≡ legs s → r.offset ≡ leg s r.leg → tick_of s r ≡ ticks s
unfolding tick_of sum_below
tick_at_end s r e q = omega (arith, ap (sum_below (leg s)) e)

pub has_tick : (s : List ℕ) (r : Runner) → Standing s r → HasTick s (tick_of s r)
has_tick s r (on_leg p q w) = inl (tick_before s r p q)
has_tick s r (at_end o e q z) = inr (o, tick_at_end s r e q)

-- such a runner is what the walk can find for its tick ..
standing_found : (s : List ℕ) (r : Runner) → Standing s r → Found (leg s) (legs s - 1) 0 (tick_of s r) r
unfolding tick_of sum_below
standing_found s r (on_leg p q w) = record { first = omega arith; last = omega arith; within = inl q; tick = omega arith }
standing_found s r (at_end o e q z) = record { first = omega arith; last = omega arith; within = inr (omega arith); tick = omega arith }

-- .. and what the walk finds for a tick of the course is such a runner, at any laps that the course takes
found_stands : (s : List ℕ) (t : ℕ) (r : Runner) (l : ℕ) → LapsFit s (at_lap l r) → 1 ≤ legs s → HasTick s t → Found (leg s) (legs s - 1) 0 t r
    → Standing s (at_lap l r) × (tick_of s (at_lap l r) ≡ t)
unfolding tick_of sum_below
found_stands s t r l lap some has f = (⊎_elim (λ q. on_leg (omega arith) q lap) on_last f.within, omega arith)
  where
    on_last : r.leg ≡ 0 + (legs s - 1) → Standing s (at_lap l r)
    on_last e =
        let last : suc r.leg ≡ legs s = omega arith in
        let all : sum_below (leg s) r.leg + leg s r.leg ≡ ticks s = ap (sum_below (leg s)) last in
        ⊎_elim (λ q. on_leg (omega arith) (omega arith) lap) (λ w. at_end w.0 last (omega arith) (lap w.0)) has

-- without a lap it has flown its tick
pub no_lap_flown : (s : List ℕ) (r : Runner) → r.laps ≡ 0 → ticks_flown s r ≡ tick_of s r
unfolding ticks_flown
no_lap_flown s r e = ap (λ l. l * ticks s + tick_of s r) e ∙ omega arith

-- a tick, taken apart into what is left of it and its laps, and made of them
tick_made : (k : EndKind) (p t : ℕ) → laps_in k p t * p + reduced k p t ≡ t
tick_made Free p t = omega arith
tick_made Held p t = omega arith
tick_made Closed p t = omega (arith, div-add-mod t p)

flown_apart : (k : EndKind) (p l t : ℕ) → Has (is_open k) p t → (is_open k ≡ true → l ≡ 0) → (reduced k p (l * p + t) ≡ t) × (laps_in k p (l * p + t) ≡ l)
flown_apart Free p l t has none = (ap (λ n. n * p + t) (none refl) ∙ omega arith, sym (none refl))
flown_apart Held p l t has none = (ap (λ n. n * p + t) (none refl) ∙ omega arith, sym (none refl))
flown_apart Closed p l t has none = ⊎_elim below (λ w. absurd (false≢true w.0)) has
  where
    below : t < p → ((l * p + t) % p ≡ t) × ((l * p + t) / p ≡ l)
    below q = (
      mul-add-mod_self_right l p t ∙ mod-eq_of_lt q,
      mul-add-div_right (omega arith) l t ∙ ap (λ n. l + n) (div-eq_of_lt q) ∙ omega arith,
    )

laps_none : (k : EndKind) (p t : ℕ) → is_open k ≡ true → laps_in k p t ≡ 0
laps_none Free p t o = refl
laps_none Held p t o = refl
laps_none Closed p t o = absurd (false≢true o)

-- the runner from a tick that the course has, reduced, has flown it
pub spot_standing : (s : List ℕ) (t : ℕ) → 1 ≤ legs s → HasTick s (reduced (kind s) (ticks s) t) → Standing s (spot_at s t) × (ticks_flown s (spot_at s t) ≡ t)
unfolding spot_at ticks_flown
spot_standing s t some has =
    let u = reduced (kind s) (ticks s) t in let l = laps_in (kind s) (ticks s) t in
    let f = found_stands s u (walk (leg s) (legs s - 1) 0 u) l (laps_none (kind s) (ticks s) t) some has (walk_finds (leg s) (legs s - 1) 0 u) in
    (f.0, ap (λ n. l * ticks s + n) f.1 ∙ tick_made (kind s) (ticks s) t)

-- a runner stands where its tick leads, at its own laps ..
pub spot_of_tick : (s : List ℕ) (t : ℕ) (r : Runner) → Standing s r → reduced (kind s) (ticks s) t ≡ tick_of s r → at_lap r.laps (spot_at s t) ≡ r
unfolding spot_at
spot_of_tick s t r st e =
    ap (λ u. at_lap r.laps (walk (leg s) (legs s - 1) 0 u)) e ∙ ap (at_lap r.laps) (sym (walk_only (leg s) (legs s - 1) 0 (tick_of s r) r (standing_found s r st)))

-- .. and where the ticks lead that it has flown
pub parts_flown : (s : List ℕ) (r : Runner) → Standing s r
    → (reduced (kind s) (ticks s) (ticks_flown s r) ≡ tick_of s r) × (laps_in (kind s) (ticks s) (ticks_flown s r) ≡ r.laps)
unfolding ticks_flown
parts_flown s r st = flown_apart (kind s) (ticks s) r.laps (tick_of s r) (has_tick s r st) (laps_fit s r st)

pub spot_of : (s : List ℕ) (r : Runner) → Standing s r → spot_at s (ticks_flown s r) ≡ r
unfolding spot_at
spot_of s r st =
    let n = ticks_flown s r in
    ap (λ l. at_lap l (spot_at s n)) (parts_flown s r st).1 ∙ spot_of_tick s n r st (parts_flown s r st).0

pub spot_only : (s : List ℕ) (n : ℕ) (r : Runner) → Stands s n r → r ≡ spot_at s n
spot_only s n r w = sym (spot_of s r (standing s r w.fits)) ∙ ap (spot_at s) w.flown

pub has_legs : (s : List ℕ) → Accepted s → 1 ≤ legs s
has_legs s a = omega (arith, (accepted_bounds s a).enough, least_two (kind s), legs_at_least (kind s) (points s))

-- a tick that is not past, reduced, is one that the course has
has_reduced : (k : EndKind) (p t : ℕ) → 1 ≤ p → (is_open k && ltb p t) ≡ false → Has (is_open k) p (reduced k p t)
has_reduced Free p t some e = let h = ltb-false p t e in le_or_lt p t (Has true p t) (λ q. inr (refl, omega arith)) inl
has_reduced Held p t some e = let h = ltb-false p t e in le_or_lt p t (Has true p t) (λ q. inr (refl, omega arith)) inl
has_reduced Closed p t some e = inl (mod-lt t some)

pub tick_stands : TickStands
tick_stands s a t e =
    let w = spot_standing s t (has_legs s a) (has_reduced (kind s) (ticks s) t (accepted_bounds s a).some_ticks e) in
    record { fits = not_adrift s (spot_at s t) w.0; flown = w.1 }

pub flown_parts : FlownParts
flown_parts s a r e = let p = parts_flown s r (standing s r e) in (sym p.0, sym p.1)

pub one_runner : OneRunner
one_runner s a r e = spot_of s r (standing s r e)

pub leg_by_sums : LegBySums
unfolding spot_at
leg_by_sums s some t =
    let u = reduced (kind s) (ticks s) t in let f = walk_sums (leg s) (legs s) u some in (
      record { is_leg = f.0; from = f.1; till = f.2 },
      (λ i e. ap (at_lap (laps_in (kind s) (ticks s) t)) (sym (walk_by_sums (leg s) (legs s) i u e.is_leg e.from e.till))),
    )
