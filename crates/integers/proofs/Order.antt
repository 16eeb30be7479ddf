-- The order of ℤ by differences, a ≤ b where b is a and a natural number more, and absolute values (sizes), which are naturals.
-- Where all is natural, these laws and one `omega` are the shortest proof.
use mathlib.Core.Path.{◌≡◌, refl, sym, ◌∙◌, ap}
use mathlib.Core.Bool.{Bool, true, false, not, cond}
use Prim.Native.Nat.{ℕ, zero, suc, ◌+◌, ◌*◌, ◌-◌, ◌≤◌, ◌<◌}
use native.Mathlib.Omega.{arith}
use native.Mathlib.Nat.{mul-le-mul}
use native.Mathlib.Decide.{dec_le}
use lib.Dec.{T, ltb, leb→le, le→leb, ltb→lt, lt→ltb, nltb→le}
use lib.IntN.{ℤ, pos, negsuc, neg_ℤ, nat_abs, sub_ℕ, ◌+ℤ◌, ◌-ℤ◌, ◌*ℤ◌}
use lib.Signed.{◌≤ℤ◌, ◌<ℤ◌, yes_non_neg, pos-nat_abs}
use Rattle.integers.proofs.Ring.{solve, ◌≋◌, ◌⊕◌, ◌⊖◌, #◌}

-- ---- by cases
pub by_test : (b : Bool) {A : Type 0} (x y : A) (P : A → Type 0) → (T b → P x) → (T (not b) → P y) → P (cond b x y)
by_test true x y P f g = f tt
by_test false x y P f g = g tt

pub le_or_lt : (a b : ℕ) (G : Type 0) → (a ≤ b → G) → (b < a → G) → G
le_or_lt a b G f g = go (dec_le a b)
  where
    go : Dec (a ≤ b) → G
    go (yes h) = f h
    go (no h) = g (omega arith)

-- a difference of naturals, as a sum with a negative number computes it
pub sub_cases : (a b : ℕ) (P : ℤ → Type 0) → ((n : ℕ) → b ≡ a + suc n → P (negsuc n)) → ((n : ℕ) → a ≡ b + n → P (pos n)) → P (sub_ℕ a b)
sub_cases a b P f g = by_test (ltb a b) (negsuc (b - suc a)) (pos (a - b)) P
    (λ t. f (b - suc a) (omega (arith, ltb→lt a b t))) (λ t. g (a - b) (omega (arith, nltb→le a b t)))

sub_is_pos : (a b n : ℕ) → a ≡ b + n → sub_ℕ a b ≡ pos n
sub_is_pos a b n e = sub_cases a b (λ z. z ≡ pos n) (λ k h. absurd (omega arith)) (λ k h. ap pos (omega arith))

sub_is_neg : (a b n : ℕ) → b ≡ a + suc n → sub_ℕ a b ≡ negsuc n
sub_is_neg a b n e = sub_cases a b (λ z. z ≡ negsuc n) (λ k h. ap negsuc (omega arith)) (λ k h. absurd (omega arith))

-- ---- the order by differences
pub difference : (a b : ℤ) → a ≤ℤ b → (n : ℕ) × (b ≡ a +ℤ pos n)
difference (pos a) (pos b) h = (b - a, ap pos (omega (arith, leb→le a b h.le)))
difference (pos a) (negsuc b) h = absurd h.le
difference (negsuc a) (pos b) h = (suc a + b, sym (sub_is_pos (suc a + b) (suc a) b refl))
difference (negsuc a) (negsuc b) h = (a - b, sym (sub_is_neg (a - b) (suc a) b (omega (arith, leb→le b a h.le))))

le_add_pos : (a : ℤ) (n : ℕ) → a ≤ℤ (a +ℤ pos n)
le_add_pos (pos a) n = record { le = le→leb a (a + n) (omega arith) }
le_add_pos (negsuc a) n = sub_cases n (suc a) (λ z. negsuc a ≤ℤ z) (λ k h. record { le = le→leb k a (omega arith) }) (λ k h. record { le = tt })

pub le_of_difference : (a b : ℤ) (n : ℕ) → b ≡ a +ℤ pos n → a ≤ℤ b
le_of_difference a b n e = rw e (le_add_pos a n)

-- the naturals' order is that of ℤ
pub pos_le : (m n : ℕ) → m ≤ n → pos m ≤ℤ pos n
pos_le m n h = record { le = le→leb m n h }

pub le_pos : (m n : ℕ) → pos m ≤ℤ pos n → m ≤ n
le_pos m n h = leb→le m n h.le

pub pos_lt : (n : ℕ) → 1 ≤ n → pos 0 <ℤ pos n
pos_lt n h = record { lt = lt→ltb 0 n h }

-- ---- numbers that are not negative
pub nonneg : (n : ℕ) → pos 0 ≤ℤ pos n
nonneg n = pos_le 0 n (omega arith)

pub nonneg_nat : (z : ℤ) → pos 0 ≤ℤ z → pos (nat_abs z) ≡ z
nonneg_nat z h = pos-nat_abs z (yes_non_neg h)

pub nonneg_add : (a b : ℤ) → pos 0 ≤ℤ a → pos 0 ≤ℤ b → pos 0 ≤ℤ (a +ℤ b)
nonneg_add a b h k = rw (← nonneg_nat a h, ← nonneg_nat b k) (nonneg (nat_abs a + nat_abs b))

pub nonneg_mul : (a b : ℤ) → pos 0 ≤ℤ a → pos 0 ≤ℤ b → pos 0 ≤ℤ (a *ℤ b)
nonneg_mul a b h k = rw (← nonneg_nat a h, ← nonneg_nat b k) (nonneg (nat_abs a * nat_abs b))

pub nonneg_square : (a : ℤ) → pos 0 ≤ℤ (a *ℤ a)
nonneg_square (pos a) = nonneg (a * a)
nonneg_square (negsuc a) = nonneg (suc a * suc a)

pub nonneg_of_le : (a b : ℤ) → a ≤ℤ b → pos 0 ≤ℤ (b -ℤ a)
nonneg_of_le a b h =
    let d = difference a b h in
    le_of_difference (pos 0) (b -ℤ a) d.0 (ap (λ x. x -ℤ a) d.1 ∙ solve 2 (λ a n. a ⊕ n ⊖ a ≋ # 0 ⊕ n) tt a (pos d.0))

pub le_of_nonneg : (a b : ℤ) → pos 0 ≤ℤ (b -ℤ a) → a ≤ℤ b
le_of_nonneg a b h = le_of_difference a b (nat_abs (b -ℤ a)) (solve 2 (λ a b. b ≋ a ⊕ (b ⊖ a)) tt a b ∙ ap (λ x. a +ℤ x) (sym (nonneg_nat (b -ℤ a) h)))

-- ---- sizes
pub abs_neg : (z : ℤ) → nat_abs (neg_ℤ z) ≡ nat_abs z
abs_neg (pos zero) = refl
abs_neg (pos (suc n)) = refl
abs_neg (negsuc n) = refl

pub abs_zero : (z : ℤ) → nat_abs z ≤ 0 → z ≡ pos 0
abs_zero (pos n) h = ap pos (omega arith)
abs_zero (negsuc n) h = absurd (omega arith)

pub abs_mul : (a b : ℤ) → nat_abs (a *ℤ b) ≡ nat_abs a * nat_abs b
abs_mul (pos a) (pos b) = refl
abs_mul (pos a) (negsuc b) = abs_neg (pos (a * suc b))
abs_mul (negsuc a) (pos b) = abs_neg (pos (suc a * b))
abs_mul (negsuc a) (negsuc b) = refl

pub abs_add : (a b : ℤ) → nat_abs (a +ℤ b) ≤ nat_abs a + nat_abs b
abs_add (pos a) (pos b) = omega arith
abs_add (pos a) (negsuc b) = sub_cases a (suc b) (λ z. nat_abs z ≤ a + suc b) (λ n h. omega arith) (λ n h. omega arith)
abs_add (negsuc a) (pos b) = sub_cases b (suc a) (λ z. nat_abs z ≤ suc a + b) (λ n h. omega arith) (λ n h. omega arith)
abs_add (negsuc a) (negsuc b) = omega arith

pub abs_sub : (a b : ℤ) → nat_abs (a -ℤ b) ≤ nat_abs a + nat_abs b
abs_sub a b = omega (arith, abs_add a (neg_ℤ b), abs_neg b)

-- a product of two bounded numbers
pub abs_mul_le : (a b : ℤ) {m n : ℕ} → nat_abs a ≤ m → nat_abs b ≤ n → nat_abs (a *ℤ b) ≤ m * n
abs_mul_le a b h k = rw (abs_mul a b) (mul-le-mul h k)

pub abs_upper : (z : ℤ) → z ≤ℤ pos (nat_abs z)
abs_upper (pos n) = pos_le n n (omega arith)
abs_upper (negsuc n) = record { le = tt }

pub abs_lower : (z : ℤ) → neg_ℤ z ≤ℤ pos (nat_abs z)
abs_lower z = rw (← abs_neg z) (abs_upper (neg_ℤ z))
