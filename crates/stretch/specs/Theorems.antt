-- What is proved of a leg's strokes, whatever its places are: when a stretch is kept and when it is cut (H3, H6).
use Rattle.std.specs.Prelude.{◌≡◌, [], ◌∷◌, ◌++◌, ◌⊎◌, ℕ, ◌+◌, ◌-◌, ◌*◌, ◌/◌, ◌≤◌, ◌<◌, ℤ, pos, nat_abs, ◌-ℤ◌, ◌*ℤ◌}
use Rattle.stretch.specs.Stretches.{kept, ends_by, ends_of}

-- H2: u ticks after its start the stroke of m ticks is at most the tolerance from the place, both times m
abbrev pub Within : (tolerance m u : ℕ) (first here last : ℤ) → Type 0
Within tolerance m u first here last = nat_abs (pos m *ℤ (here -ℤ first) -ℤ pos u *ℤ (last -ℤ first)) ≤ tolerance * m

-- H2: at every tick of the m ticks from offset a on, on every axis
abbrev pub AllWithin : ℕ → (ℕ → ℕ → ℤ) → ℕ → ℕ → Type 0
AllWithin tolerance x a m = (axis u : ℕ) → axis < 3 → u ≤ m → Within tolerance m u (x axis a) (x axis (a + u)) (x axis (a + m))

-- a tick and an axis at which it is not
pub record Outside (tolerance : ℕ) (x : ℕ → ℕ → ℤ) (a m : ℕ) : Type 0 where
  pub axis : ℕ
  pub u : ℕ
  pub axis_fits : axis < 3
  pub inside : u < m
  pub far : tolerance * m < nat_abs (pos m *ℤ (x axis (a + u) -ℤ x axis a) -ℤ pos u *ℤ (x axis (a + m) -ℤ x axis a))

-- H3: one stroke, rightly kept
pub record Kept (tolerance : ℕ) (x : ℕ → ℕ → ℤ) (from a m : ℕ) : Type 0 where
  pub within : AllWithin tolerance x a m
  pub one : ends_of tolerance x from a m ≡ (from + (a + m)) ∷ []

-- H3, H6: a cut at the middle that was needed, and the ends of both halves
pub record Cut (tolerance : ℕ) (x : ℕ → ℕ → ℤ) (from a m : ℕ) : Type 0 where
  pub long : 2 ≤ m
  pub outside : Outside tolerance x a m
  pub halves : ends_of tolerance x from a m ≡ ends_of tolerance x from a (m / 2) ++ ends_of tolerance x from (a + m / 2) (m - m / 2)

-- H3, H6: every stretch is the one or the other. No depth is spoken of
abbrev pub KeptOrCut : Type 0
KeptOrCut = (tolerance : ℕ) (x : ℕ → ℕ → ℤ) (from a m : ℕ) → 1 ≤ m → Kept tolerance x from a m ⊎ Cut tolerance x from a m

-- H6: on a leg no more than eight cuts lie inside one another
abbrev pub EightCuts : Type 0
EightCuts = (tolerance : ℕ) (x : ℕ → ℕ → ℤ) (from a m : ℕ) → m ≤ 256 → ends_by (kept tolerance x) from 8 a m ≡ ends_of tolerance x from a m
