-- The order of the tests and what a refusal leaves, tried on their own: an order changed or a list written shows by its numbers.
use mathlib.Core.Path.{◌≡◌, refl}
use mathlib.Core.Bool.{true, false}
use mathlib.Core.List.{List, [], ◌∷◌}
use Prim.Native.Nat.{ℕ}
use lib.IntN.{ℤ}
use lib.ListN.{length}
use Rattle.sheet.specs.Answers.{refused}
use Rattle.sheet.specs.Reading.{Accepted}
use Rattle.sheet.specs.declared.Refusal.TheVariants.{Ink}
use Rattle.sheet.proofs.Laws.{accepted_read}
use Rattle.layout.specs.Layout.{short}
use Rattle.strokes.specs.Strokes.{grain_outside, any_bend, strokes_answer, left_by}

-- A15: where 21 and 12 both apply it is 21
grain_first : (s : List ℕ) → Accepted s → (list : List ℤ) → short s (length list) ≡ false → (tolerance : ℤ) → grain_outside tolerance ≡ true → any_bend s list ≡ true
    → (room : ℕ) → (strokes_answer s list tolerance room).number ≡ 21
unfolding strokes_answer
grain_first s a list shelf tolerance grain bends room = simp (accepted_read s a, shelf, grain, bends) refl

-- A9: three ends, and room for two
ink_keeps : left_by (refused Ink) (0 ∷ 2 ∷ 4 ∷ []) (7 ∷ 7 ∷ []) ≡ 7 ∷ 7 ∷ []
ink_keeps = refl
