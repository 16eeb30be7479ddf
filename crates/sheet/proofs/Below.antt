-- Laws of the questions and sums over 0, .., n - 1 (specs/Bytes): one more, what an answer tells of each, and bounds.
use mathlib.Core.Path.{◌≡◌, refl, sym, ap, ◌∙◌}
use mathlib.Core.Bool.{Bool, true, false, ◌||◌, or-true, or-false, or_assoc, false≢true}
use Prim.Native.Nat.{ℕ, zero, suc, ◌+◌, ◌*◌, ◌≤◌, ◌<◌}
use native.Mathlib.Nat.{add-zero}
use native.Mathlib.Numerals.{add-one}
use native.Mathlib.Omega.{arith}
use borrow.Table.Steps.{cases}
use Rattle.integers.proofs.Order.{le_or_lt}
use Rattle.sheet.specs.Bytes.{any_below, sum_below}

-- ---- one more, as a loop counts
pub any_step : (p : ℕ → Bool) (n : ℕ) → any_below p (n + 1) ≡ (any_below p n || p n)
unfolding any_below
any_step p n = ap (any_below p) (add-one n)

pub sum_step : (f : ℕ → ℕ) (n : ℕ) → sum_below f (n + 1) ≡ sum_below f n + f n
unfolding sum_below
sum_step f n = ap (sum_below f) (add-one n)

-- ---- a question
pub or_left : (a b : Bool) → (a || b) ≡ false → a ≡ false
or_left true b e = e
or_left false b e = refl

pub or_right : (a b : Bool) → (a || b) ≡ false → b ≡ false
or_right true b e = cc
or_right false b e = e

-- a number below n + 1 is n or below n
last_or_below : (P : ℕ → Type 0) (n i : ℕ) → i < suc n → (i < n → P i) → P n → P i
last_or_below P n i h f x = le_or_lt n i (P i) (λ k. let e : n ≡ i = omega arith in rw e at x) f

-- asked of all and not held: it holds of none
pub any_none : (p : ℕ → Bool) (n : ℕ) → any_below p n ≡ false → (i : ℕ) → i < n → p i ≡ false
unfolding any_below
any_none p zero e i h = absurd (omega arith)
any_none p (suc n) e i h =
    last_or_below (λ k. p k ≡ false) n i h (any_none p n (or_left (any_below p n) (p n) e) i) (or_right (any_below p n) (p n) e)

-- and back
pub none_any : (p : ℕ → Bool) (n : ℕ) → ((i : ℕ) → i < n → p i ≡ false) → any_below p n ≡ false
unfolding any_below
none_any p zero h = refl
none_any p (suc n) h = rw (none_any p n (λ i k. h i (omega arith)), h n (omega arith))

-- one of which it holds is enough
pub any_one : (p : ℕ → Bool) (n i : ℕ) → i < n → p i ≡ true → any_below p n ≡ true
unfolding any_below
any_one p zero i h e = absurd (omega arith)
any_one p (suc n) i h e =
    le_or_lt n i (any_below p (suc n) ≡ true)
    (λ k. let q : i ≡ n = omega arith in rw (← q, e, or-true))
    (λ k. rw (any_one p n i k e))

-- asked of all and held: there is one of which it holds
pub any_which : (p : ℕ → Bool) (n : ℕ) → any_below p n ≡ true → (i : ℕ) × (i < n) × (p i ≡ true)
unfolding any_below
any_which p zero e = absurd (false≢true e)
any_which p (suc n) e =
    cases (p n)
    (λ h. (n, omega arith, h))
    (λ h.
    let r = any_which p n (sym (or-false (any_below p n)) ∙ ap (λ (b : Bool). any_below p n || b) (sym h) ∙ e) in
    (r.0, omega (arith, r.1), r.2))

-- of 0, .., m - 1 it holds: of more as well
pub any_more : (p : ℕ → Bool) (m n : ℕ) → m ≤ n → any_below p m ≡ true → any_below p n ≡ true
unfolding any_below
any_more p m zero h e = let z : m ≡ 0 = omega arith in ap (any_below p) (sym z) ∙ e
any_more p m (suc n) h e =
    le_or_lt m n (any_below p (suc n) ≡ true)
    (λ k. ap (λ (b : Bool). b || p n) (any_more p m n k e))
    (λ k. let q : m ≡ suc n = omega arith in ap (any_below p) (sym q) ∙ e)

-- asked of i, and of the next m
pub any_append : (p : ℕ → Bool) (i m : ℕ) → any_below p (i + m) ≡ (any_below p i || any_below (λ k. p (i + k)) m)
unfolding any_below
any_append p i zero = ap (any_below p) (add-zero i) ∙ sym (or-false (any_below p i))
any_append p i (suc m) =
    let next : i + suc m ≡ suc (i + m) = omega arith in
    ap (any_below p) next ∙ ap (λ (b : Bool). b || p (i + m)) (any_append p i m)
    ∙ or_assoc (any_below p i) (any_below (λ k. p (i + k)) m) (p (i + m))

-- not held so far, nor of the next: a loop that returns at the first goes on
pub none_next : (p : ℕ → Bool) (n : ℕ) → any_below p n ≡ false → p n ≡ false → any_below p (n + 1) ≡ false
none_next p n e f = any_step p n ∙ (λ i. e i || f i)

-- asked of three
pub any_three : (p : ℕ → Bool) {a b c : Bool} → a ≡ p 0 → b ≡ p 1 → c ≡ p 2 → (a || b || c) ≡ any_below p 3
unfolding any_below
any_three p e f g = (λ i. e i || f i || g i)

-- ---- a sum
-- of the same numbers
pub sum_same : (f g : ℕ → ℕ) (n : ℕ) → ((i : ℕ) → i < n → f i ≡ g i) → sum_below f n ≡ sum_below g n
unfolding sum_below
sum_same f g zero h = refl
sum_same f g (suc n) h = (λ i. sum_same f g n (λ k l. h k (omega arith)) i + h n (omega arith) i)

-- over i, and over the next m
pub sum_append : (f : ℕ → ℕ) (i m : ℕ) → sum_below f (i + m) ≡ sum_below f i + sum_below (λ k. f (i + k)) m
unfolding sum_below
sum_append f i zero = ap (sum_below f) (add-zero i) ∙ sym (add-zero (sum_below f i))
sum_append f i (suc m) = let next : i + suc m ≡ suc (i + m) = omega arith in ap (sum_below f) next ∙ omega (arith, sum_append f i m)

pub sum_monotone : (f : ℕ → ℕ) (m n : ℕ) → m ≤ n → sum_below f m ≤ sum_below f n
unfolding sum_below
sum_monotone f m zero h = let e : m ≡ 0 = omega arith in rw e (omega arith)
sum_monotone f m (suc n) h =
    le_or_lt m n (sum_below f m ≤ sum_below f (suc n))
    (λ k. omega (arith, sum_monotone f m n k))
    (λ k. let e : m ≡ suc n = omega arith in rw e (omega arith))

-- with bounds of each
pub sum_at_most : (f : ℕ → ℕ) (b n : ℕ) → ((i : ℕ) → i < n → f i ≤ b) → sum_below f n ≤ n * b
unfolding sum_below
sum_at_most f b zero h = omega arith
sum_at_most f b (suc n) h = omega (arith, sum_at_most f b n (λ i k. h i (omega arith)), h n (omega arith))

pub sum_at_least : (f : ℕ → ℕ) (b n : ℕ) → ((i : ℕ) → i < n → b ≤ f i) → n * b ≤ sum_below f n
unfolding sum_below
sum_at_least f b zero h = omega arith
sum_at_least f b (suc n) h = omega (arith, sum_at_least f b n (λ i k. h i (omega arith)), h n (omega arith))
