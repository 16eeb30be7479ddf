-- An index below n at which a function is largest, or smallest: one argument over a total order, which is taken forwards or backwards.
use mathlib.Core.Path.{◌≡◌}
use Prim.Native.Nat.{ℕ, zero, suc, ◌≤◌, ◌<◌}
use native.Mathlib.Omega.{arith}
use Rattle.integers.proofs.Order.{le_or_lt}

record Total (Below : ℕ → ℕ → Type 0) : Type 1 where
  reflexive : (a : ℕ) → Below a a
  transitive : (a b c : ℕ) → Below a b → Below b c → Below a c
  either : (a b : ℕ) (G : Type 0) → (Below a b → G) → (Below b a → G) → G

-- of the first n, the index of one that no other is above
pub record Extreme (Below : ℕ → ℕ → Type 0) (f : ℕ → ℕ) (n : ℕ) : Type 0 where
  pub index : ℕ
  pub fits : index < n
  pub bounds : (j : ℕ) → j < n → Below (f j) (f index)

module _ {Below : ℕ → ℕ → Type 0} (order : Total Below) (f : ℕ → ℕ) where
  with_one_more : (n m : ℕ) → ((j : ℕ) → j < n → Below (f j) (f m)) → Below (f n) (f m) → (j : ℕ) → j < suc n → Below (f j) (f m)
  with_one_more n m old new j h = le_or_lt n j (Below (f j) (f m)) (λ g. let e : j ≡ n = omega arith in rw e new) (old j)

  extreme : (n : ℕ) → Extreme Below f (suc n)
  extreme zero = record { index = 0; fits = omega arith; bounds = with_one_more 0 0 (λ j h. absurd (omega arith)) (order.reflexive (f 0)) }
  extreme (suc n) = extend (extreme n)
    where
      extend : Extreme Below f (suc n) → Extreme Below f (suc (suc n))
      extend a = order.either (f (suc n)) (f a.index) (Extreme Below f (suc (suc n)))
          (λ h. record { index = a.index; fits = omega (arith, a.fits); bounds = with_one_more (suc n) a.index a.bounds h })
          (λ h. record {
            index = suc n;
            fits = omega arith;
            bounds = with_one_more (suc n) (suc n) (λ j g. order.transitive (f j) (f a.index) (f (suc n)) (a.bounds j g) h) (order.reflexive (f (suc n)));
          })

pub largest : (f : ℕ → ℕ) (n : ℕ) → Extreme (λ a b. a ≤ b) f (suc n)
largest = extreme (record {
  reflexive = λ a. omega arith;
  transitive = λ a b c h k. omega arith;
  either = λ a b G f g. le_or_lt a b G f (λ h. g (omega arith));
})

pub smallest : (f : ℕ → ℕ) (n : ℕ) → Extreme (λ a b. b ≤ a) f (suc n)
smallest = extreme (record {
  reflexive = λ a. omega arith;
  transitive = λ a b c h k. omega arith;
  either = λ a b G f g. le_or_lt b a G f (λ h. g (omega arith));
})
