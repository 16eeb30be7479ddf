-- The strokes of one leg (H1 to H3), over its places by axis and offset, whatever course they belong to. For stretch and strokes.
use Rattle.std.specs.Prelude.{Bool, cond, not, ◌||◌, List, [], ◌∷◌, ◌++◌, ℕ, zero, suc, ◌+◌, ◌-◌, ◌*◌, ◌/◌, ltb, ℤ, pos, nat_abs, ◌-ℤ◌, ◌*ℤ◌}
use Rattle.sheet.specs.Bytes.{any_below}

-- H1, H2: u ticks after its start a stroke of m ticks stands at first + u × (last - first) / m. The place there is farther off than the tolerance, both times m
abbrev pub off : (tolerance m u : ℕ) (first here last : ℤ) → Bool
off tolerance m u first here last = ltb (tolerance * m) (nat_abs (pos m *ℤ (here -ℤ first) -ℤ pos u *ℤ (last -ℤ first)))

-- H2, of the tick u of the m ticks from offset a on; x has one axis's places by offset
abbrev pub off_at : ℕ → (ℕ → ℤ) → ℕ → ℕ → ℕ → Bool
off_at tolerance x a m u = off tolerance m u (x a) (x (a + u)) (x (a + m))

-- H2, on one axis: of some tick
unfoldable pub strays_on : ℕ → (ℕ → ℤ) → ℕ → ℕ → Bool
strays_on tolerance x a m = any_below (off_at tolerance x a m) (suc m)

-- H2, on some axis; x has the places by axis and offset
unfoldable pub strays : ℕ → (ℕ → ℕ → ℤ) → ℕ → ℕ → Bool
strays tolerance x a m = any_below (λ axis. strays_on tolerance (x axis) a m) 3

-- H2: one stroke is enough, as it always is for a tick
abbrev pub kept : ℕ → (ℕ → ℕ → ℤ) → ℕ → ℕ → Bool
kept tolerance x a m = ltb m 2 || not (strays tolerance x a m)

-- H3: the ends of the m ticks from offset a on, without the start, as ticks of a course on which the leg starts at `from`. `depth` bounds how many cuts lie inside
-- one another. The `let` keeps the halves of a kept stretch from being computed
unfoldable pub ends_by : (ℕ → ℕ → Bool) → (from depth a m : ℕ) → List ℕ
ends_by keep from zero a m = (from + (a + m)) ∷ []
ends_by keep from (suc depth) a m =
    let halves = ends_by keep from depth a (m / 2) ++ ends_by keep from depth (a + m / 2) (m - m / 2) in
    cond (keep a m) ((from + (a + m)) ∷ []) halves

-- H3: with a depth that no stretch of m ticks can use up (`KeptOrCut`)
abbrev pub ends_of : (tolerance : ℕ) (x : ℕ → ℕ → ℤ) (from a m : ℕ) → List ℕ
ends_of tolerance x from a m = ends_by (kept tolerance x) from m a m
