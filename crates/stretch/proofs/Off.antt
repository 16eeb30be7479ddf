-- How far a place is from the stroke, as the code makes it (src/test.rt): every number on the way fits 64 bits, and the size is compared with the limit.
use mathlib.Core.Path.{◌≡◌, refl, ap, ◌∙◌}
use Prim.Native.Nat.{ℕ, ◌*◌, ◌^◌}
use native.Mathlib.Omega.{arith}
use lib.IntN.{ℤ, pos, nat_abs, ◌+ℤ◌, ◌-ℤ◌, ◌*ℤ◌}
use lib.Dec.{ltb}
use Rattle.integers.proofs.Made.{Made, given, times, plus, minus, read, read_back}
use Rattle.integers.proofs.Ring.{solve, ◌≋◌, ◌⊕◌, ◌⊖◌, ◌⊗◌}
use Rattle.stretch.specs.Asked.{OnStroke}
use Rattle.stretch.specs.Stretches.{off}

abbrev mul : ℤ → ℤ → ℤ
mul a b = read a *ℤ read b

abbrev add : ℤ → ℤ → ℤ
add a b = read a +ℤ read b

abbrev sub : ℤ → ℤ → ℤ
sub a b = read a -ℤ read b

module _ {t m u : ℕ} {x y z : ℤ} (o : OnStroke t m u x y z) where
  first : Made x x (2 ^ 47)
  first = given refl o.first tt

  here : Made y y (2 ^ 47)
  here = given refl o.here tt

  last : Made z z (2 ^ 47)
  last = given refl o.last tt

  ticks : Made (pos m) (pos m) 256
  ticks = given refl o.few tt

  past : Made (pos u) (pos u) 256
  past = given refl (omega arith) tt

  -- the stroke at the tick, and the place there, both times m
  pub begun : Made (mul (pos m) x) (pos m *ℤ x) (2 ^ 55)
  begun = times ticks first tt

  pub whole_rise : Made (sub z x) (z -ℤ x) (2 ^ 48)
  whole_rise = minus last first tt

  pub risen : Made (mul (pos u) (sub z x)) (pos u *ℤ (z -ℤ x)) (2 ^ 56)
  risen = times past whole_rise tt

  pub line : Made (add (mul (pos m) x) (mul (pos u) (sub z x))) (pos m *ℤ x +ℤ pos u *ℤ (z -ℤ x)) (2 ^ 57)
  line =
      let n = plus begun risen tt in
      given n.same (omega (arith, n.size)) tt

  pub placed : Made (mul (pos m) y) (pos m *ℤ y) (2 ^ 55)
  placed = times ticks here tt

  abbrev made : ℤ
  made = sub (mul (pos m) y) (add (mul (pos m) x) (mul (pos u) (sub z x)))

  pub distance : Made made (pos m *ℤ (y -ℤ x) -ℤ pos u *ℤ (z -ℤ x)) (2 ^ 58)
  distance =
      let n = minus placed line tt in
      let e = solve 5 (λ m u x y z. m ⊗ y ⊖ (m ⊗ x ⊕ u ⊗ (z ⊖ x)) ≋ m ⊗ (y ⊖ x) ⊖ u ⊗ (z ⊖ x)) tt (pos m) (pos u) x y z in
      given (n.same ∙ e) (rw (← e) (omega (arith, n.size))) tt

  -- r is the size of the number made
  pub off_is : {r : ℕ} → r ≡ nat_abs (read made) → ltb (t * m) r ≡ off t m u x y z
  off_is e = ap (ltb (t * m)) (e ∙ ap nat_abs (read_back distance))
