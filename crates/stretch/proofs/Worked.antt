-- Stretches worked by computing, on north alone: the first leg of course A (0, 6, 8), and one of five ticks.
use mathlib.Core.Path.{◌≡◌, refl}
use mathlib.Core.List.{List, [], ◌∷◌}
use Prim.Native.Nat.{ℕ, zero, suc}
use lib.IntN.{ℤ, pos}
use lib.ListN.{get_or}
use Rattle.sheet.specs.Bytes.{any_below}
use Rattle.stretch.specs.Stretches.{strays_on, strays, ends_by, ends_of}

-- north as listed, east and up at rest
places : List ℤ → ℕ → ℕ → ℤ
places x zero u = get_or x u (pos 0)
places x (suc axis) u = pos 0

-- the middle of 0, 6, 8 is two from the stroke: kept at 2, cut at 1
kept_at_two : ends_of 2 (places (pos 0 ∷ pos 6 ∷ pos 8 ∷ [])) 10 0 2 ≡ 12 ∷ []
unfolding places strays_on strays any_below ends_by
kept_at_two = refl

cut_at_one : ends_of 1 (places (pos 0 ∷ pos 6 ∷ pos 8 ∷ [])) 10 0 2 ≡ 11 ∷ 12 ∷ []
unfolding places strays_on strays any_below ends_by
cut_at_one = refl

-- five ticks are cut after two; the first half is straight, the second too
five_ticks : ends_of 0 (places (pos 0 ∷ pos 1 ∷ pos 2 ∷ pos 5 ∷ pos 8 ∷ pos 11 ∷ [])) 0 0 5 ≡ 2 ∷ 5 ∷ []
unfolding places strays_on strays any_below ends_by
five_ticks = refl
