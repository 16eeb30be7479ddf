-- Records as numbers (specs/Numbers): how many, the record of a seat, a seat set by its three numbers, and that a refused round leaves them (A9). For the round over numbers and for claims.
use mathlib.Core.Path.{◌≡◌, refl, sym, ap, ◌∙◌}
use mathlib.Core.List.{List, [], ◌∷◌, ◌++◌}
use Prim.Native.Nat.{ℕ, zero, suc, ◌+◌, ◌*◌, ◌/◌, ◌<◌}
use native.Mathlib.Nat.{not-suc-le-zero, le_of_suc-le-suc}
use native.Mathlib.Omega.{arith}
use lib.IntN.{ℤ}
use lib.ListN.{length, get_or, set, drop}
use Rattle.runner.specs.Ticks.{runner, at_lap}
use Rattle.runner.specs.declared.Runner.{Runner}
use Rattle.fleet.specs.Round.{seat_of, round_answer}
use Rattle.fleet.specs.Numbers.{records, numbers, with_records, numbers_after}
use Rattle.fleet.proofs.Lent.{fleet_kept}

-- three times a number, by recursion
thrice : ℕ → ℕ
thrice zero = zero
thrice (suc n) = suc (suc (suc (thrice n)))

thrice_is : (n : ℕ) → thrice n ≡ 3 * n
unfolding thrice
thrice_is zero = omega arith
thrice_is (suc n) = omega (arith, thrice_is n)

pub count_is : (l : List ℕ) → length (records l) ≡ length l / 3
unfolding records
count_is [] = omega arith
count_is (x ∷ []) = omega arith
count_is (x ∷ y ∷ []) = omega arith
count_is (x ∷ y ∷ z ∷ rest) = omega (arith, count_is rest)

-- a seat's record, and a seat set, at the three numbers from `thrice t` on
seat_at : (l : List ℕ) (t : ℕ) → t < length (records l) → seat_of (records l) t ≡ at_lap (get_or l (suc (suc (thrice t))) 0) (runner (get_or l (thrice t) 0) (get_or l (suc (thrice t)) 0))
unfolding records thrice
seat_at [] t h = absurd (not-suc-le-zero h)
seat_at (x ∷ []) t h = absurd (not-suc-le-zero h)
seat_at (x ∷ y ∷ []) t h = absurd (not-suc-le-zero h)
seat_at (x ∷ y ∷ z ∷ rest) zero h = refl
seat_at (x ∷ y ∷ z ∷ rest) (suc t) h = seat_at rest t (le_of_suc-le-suc h)

-- the seats' numbers, and what stands beyond them
abbrev whole : List Runner → List ℕ → List ℕ
whole rs l = numbers rs ++ drop (thrice (length (records l))) l

all_kept : (l : List ℕ) → l ≡ whole (records l) l
unfolding records numbers thrice
all_kept [] = refl
all_kept (x ∷ []) = refl
all_kept (x ∷ y ∷ []) = refl
all_kept (x ∷ y ∷ z ∷ rest) = ap (λ l. x ∷ y ∷ z ∷ l) (all_kept rest)

set_at : (l : List ℕ) (t : ℕ) (r : Runner) → t < length (records l) → set (set (set l (thrice t) r.leg) (suc (thrice t)) r.offset) (suc (suc (thrice t))) r.laps ≡ whole (set (records l) t r) l
unfolding records numbers thrice
set_at [] t r h = absurd (not-suc-le-zero h)
set_at (x ∷ []) t r h = absurd (not-suc-le-zero h)
set_at (x ∷ y ∷ []) t r h = absurd (not-suc-le-zero h)
set_at (x ∷ y ∷ z ∷ rest) zero r h = ap (λ l. r.leg ∷ r.offset ∷ r.laps ∷ l) (all_kept rest)
set_at (x ∷ y ∷ z ∷ rest) (suc t) r h = ap (λ l. x ∷ y ∷ z ∷ l) (set_at rest t r (le_of_suc-le-suc h))

-- the same with 3 * t, as the code has it
second : (t : ℕ) → suc (thrice t) ≡ 3 * t + 1
second t = omega (arith, thrice_is t)

third : (t : ℕ) → suc (suc (thrice t)) ≡ 3 * t + 2
third t = omega (arith, thrice_is t)

pub seat_lent : (l : List ℕ) (t : ℕ) → t < length (records l) → seat_of (records l) t ≡ at_lap (get_or l (3 * t + 2) 0) (runner (get_or l (3 * t) 0) (get_or l (3 * t + 1) 0))
seat_lent l t h = seat_at l t h ∙ (λ i. at_lap (get_or l (third t i) 0) (runner (get_or l (thrice_is t i) 0) (get_or l (second t i) 0)))

pub kept_numbers : (l : List ℕ) → l ≡ with_records l (records l)
unfolding with_records
kept_numbers l = all_kept l ∙ ap (λ n. numbers (records l) ++ drop n l) (thrice_is (length (records l)))

pub set_numbers : (l : List ℕ) (t : ℕ) (r : Runner) → t < length (records l)
    → set (set (set l (3 * t) r.leg) (3 * t + 1) r.offset) (3 * t + 2) r.laps ≡ with_records l (set (records l) t r)
unfolding with_records
set_numbers l t r h =
    sym (λ i. set (set (set l (thrice_is t i) r.leg) (second t i) r.offset) (third t i) r.laps) ∙ set_at l t r h
    ∙ ap (λ n. numbers (set (records l) t r) ++ drop n l) (thrice_is (length (records l)))

pub numbers_kept : (s : List ℕ) (list : List ℤ) (lent : List ℕ) (t : ℕ) → ¬ ((round_answer s list (records lent) t).number ≡ 0) → numbers_after s list lent t ≡ lent
unfolding numbers_after
numbers_kept s list lent t h = ap (with_records lent) (fleet_kept s list (records lent) t h) ∙ sym (kept_numbers lent)
