-- The chain of tests in `lowest` (specs/Reading): what one test leaves, for the reader's proof and for the theorems.
use mathlib.Core.Path.{◌≡◌, refl, sym, ap}
use mathlib.Core.Bool.{Bool, true, false}
use mathlib.Core.List.{List, [], ◌∷◌, map}
use Prim.Native.Nat.{ℕ}
use lib.ListN.{drop}
use Rattle.sheet.specs.Answers.{number_of}
use Rattle.sheet.specs.Reading.{applies, refuse_if, lowest, tested, order}
use Rattle.sheet.specs.declared.Refusal.{Refusal}
use Rattle.std.specs.Prelude.{Err}

-- the tests stand in the order of their numbers, but for 23
in_order : map number_of tested ≡ 1 ∷ 2 ∷ 3 ∷ 4 ∷ 23 ∷ 5 ∷ 6 ∷ 7 ∷ 8 ∷ []
in_order = refl

-- .. which is the order of all numbers
in_turn : map order tested ≡ 1 ∷ 2 ∷ 3 ∷ 4 ∷ 5 ∷ 6 ∷ 7 ∷ 8 ∷ 9 ∷ []
in_turn = refl

-- the tests after the first k
abbrev pub past : ℕ → List Refusal
past k = drop k tested

-- the first number does not apply: the rest decides
pub passed : (limit : ℕ) (s : List ℕ) (r : Refusal) (rs : List Refusal) → applies limit s r ≡ false → lowest limit s rs ≡ lowest limit s (r ∷ rs)
passed limit s r rs e = sym (ap (λ (b : Bool). refuse_if b r (lowest limit s rs)) e)

-- it applies: it is given
pub stopped : (limit : ℕ) (s : List ℕ) (r : Refusal) (rs : List Refusal) → applies limit s r ≡ true → Err r ≡ lowest limit s (r ∷ rs)
stopped limit s r rs e = sym (ap (λ (b : Bool). refuse_if b r (lowest limit s rs)) e)
