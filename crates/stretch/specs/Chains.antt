-- Lists of numbers: as a chain from one number to another, which numbers are among them, what holds of each. For what is proved of stroke ends.
use Rattle.std.specs.Prelude.{◌≡◌, List, [], ◌∷◌, ◌⊎◌, ℕ}

-- from a through the numbers of the list to b: K holds of each and its next one
abbrev pub Chain : (ℕ → ℕ → Type 0) → ℕ → List ℕ → ℕ → Type 0
Chain K a [] b = a ≡ b
Chain K a (x ∷ l) b = K a x × Chain K x l b

-- x is one of the numbers of the list
abbrev pub Among : ℕ → List ℕ → Type 0
Among x [] = ⊥
Among x (y ∷ l) = (x ≡ y) ⊎ Among x l

-- P holds of each number of the list
abbrev pub Each : (ℕ → Type 0) → List ℕ → Type 0
Each P [] = Unit {0}
Each P (x ∷ l) = P x × Each P l
