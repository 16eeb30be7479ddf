-- The theorems of specs/Theorems: the test of a stretch tells of every tick, or names one.
use mathlib.Core.Path.{◌≡◌, sym, ap, ◌∙◌}
use mathlib.Core.Bool.{true, false, not, ◌||◌, false≢true}
use mathlib.Core.Logic.{inl, inr}
use Prim.Native.Nat.{ℕ, suc, ◌+◌, ◌*◌, ◌≤◌, ◌<◌}
use native.Mathlib.Omega.{arith}
use borrow.Author.Tests.{le-ltb, ltb-true, ltb-false, not-true, not-false}
use borrow.Table.Steps.{cases}
use lib.Dec.{ltb}
use lib.IntN.{ℤ}
use Rattle.integers.proofs.Order.{le_or_lt}
use Rattle.sheet.specs.Bytes.{any_below}
use Rattle.sheet.proofs.Below.{any_none, any_which, or_right}
use Rattle.stretch.specs.Stretches.{off_at, strays_on, strays, kept}
use Rattle.stretch.specs.Theorems.{AllWithin, Outside, KeptOrCut, EightCuts}
use Rattle.stretch.proofs.Ends.{ends_kept, long, halves, deep}
use Rattle.stretch.proofs.Stretches.{short_kept}
use Rattle.stretch.proofs.Tests.{end_on, none_yet, none_at_all}

module _ (t : ℕ) (x : ℕ → ℕ → ℤ) (a m : ℕ) where
  -- ---- kept
  module _ (some : 1 ≤ m) (keeps : kept t x a m ≡ true) where
    long_on : 2 ≤ m → strays t x a m ≡ false
    long_on h = not-true (strays t x a m) (sym (ap (λ b. b || not (strays t x a m)) (le-ltb m 2 h)) ∙ keeps)

    on_axis : (axis : ℕ) → axis < 3 → strays_on t (x axis) a m ≡ false
    unfolding strays
    on_axis axis fits =
        le_or_lt 2 m (strays_on t (x axis) a m ≡ false)
        (λ h. any_none (λ i. strays_on t (x i) a m) 3 (long_on h) axis fits)
        (λ h.
        let e : m ≡ 1 = omega arith in
        none_at_all t (x axis) a m (ap (any_below (off_at t (x axis) a m)) e ∙ none_yet t (x axis) a m))

    pub all_within : AllWithin t x a m
    unfolding strays_on
    all_within axis u fits on = ltb-false (t * m) _ (any_none (off_at t (x axis) a m) (suc m) (on_axis axis fits) u (omega arith))

  -- ---- cut: the test that failed names axis and tick, and at the stretch's end no place is off
  module _ (cuts : kept t x a m ≡ false) where
    strayed : strays t x a m ≡ true
    strayed = not-false (strays t x a m) (or_right (ltb m 2) (not (strays t x a m)) cuts)

    pub outside : Outside t x a m
    unfolding strays strays_on
    outside =
        let f = any_which (λ axis. strays_on t (x axis) a m) 3 strayed in let axis = f.0 in
        let g = any_which (off_at t (x axis) a m) (suc m) f.2 in let u = g.0 in
        record {
          axis = axis;
          u = u;
          axis_fits = f.1;
          inside = le_or_lt m u (u < m) (λ h. let e : u ≡ m = omega (arith, g.1) in absurd (false≢true (sym (end_off e (x axis)) ∙ g.2))) (λ h. h);
          far = ltb-true (t * m) _ g.2;
        }
      where
        end_off : {u : ℕ} → u ≡ m → (y : ℕ → ℤ) → off_at t y a m u ≡ false
        end_off e y = ap (off_at t y a m) e ∙ end_on t m (y a) (y (a + m))

pub kept_or_cut : KeptOrCut
kept_or_cut t x from a m some =
    cases (kept t x a m)
    (λ k. inl (record { within = all_within t x a m some k; one = ends_kept (kept t x) from m a m k }))
    (λ k. inr (record {
      long = long (kept t x) from (short_kept t x) a m k;
      outside = outside t x a m k;
      halves = halves (kept t x) from (short_kept t x) a m k;
    }))

pub eight_cuts : EightCuts
eight_cuts t x from a m h = deep (kept t x) from (short_kept t x) 8 a m h
