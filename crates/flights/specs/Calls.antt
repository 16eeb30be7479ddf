-- Rounds in a row: calls that follow each other, and a flight of a fleet. For the theorems of this crate.
use Rattle.std.specs.Prelude.{◌≡◌, Bool, false, cond, ◌&&◌, ◌||◌, List, [], ◌∷◌, ℕ, zero, suc, ◌<◌, eqb, ltb, ℤ, length}
use Rattle.sheet.specs.Answers.{Told}
use Rattle.runner.specs.declared.Runner.{Runner}
use Rattle.seat.specs.Serving.{flown, next_turn}
use Rattle.fleet.specs.Round.{seat_of, round_answer, turn_given, fleet_after}

-- ---- calls (Q5)
-- a call of the round
pub record Call : Type 0 where
  pub sheet : List ℕ
  pub bends : List ℤ
  pub fleet : List Runner
  pub turn : ℕ

abbrev pub answer : Call → Told
answer c = round_answer c.sheet c.bends c.fleet c.turn

abbrev pub given : Call → List ℕ
given c = turn_given c.sheet c.bends c.fleet c.turn

-- the number is one of 1 to 9, 19 and 20: no seat was looked at
abbrev pub shut_out : ℕ → Bool
shut_out n = (ltb 0 n && ltb n 10) || eqb n 19 || eqb n 20

-- k calls in a row with k seats, none of them shut out, each begun with the turn that its forerunner answered; sheet, list and records may be others in each
pub record InARow (k : ℕ) (calls : ℕ → Call) : Type 0 where
  pub seats : (i : ℕ) → i < k → length (calls i).fleet ≡ k
  pub looked_at : (i : ℕ) → i < k → shut_out (answer (calls i)).number ≡ false
  pub handed : (i : ℕ) → suc i < k → given (calls i) ≡ (calls (suc i)).turn ∷ []

-- the call serves seat j: the answer is what its runner gets, a place or its own refusal, and the turn goes on
pub record Serves (c : Call) (j : ℕ) : Type 0 where
  pub turn : c.turn ≡ j
  pub seat : j < length c.fleet
  pub answered : answer c ≡ flown c.sheet c.bends (seat_of c.fleet j)
  pub passed : given c ≡ next_turn (length c.fleet) j ∷ []

-- ---- flights (Q4, Q6)
-- the records before call n of a flight; the sheet, the list and the turn of each call are as they come
unfoldable pub fleet_at : (ℕ → List ℕ) → (ℕ → List ℤ) → (ℕ → ℕ) → List Runner → ℕ → List Runner
fleet_at sheets bends turns fleet zero = fleet
fleet_at sheets bends turns fleet (suc n) = fleet_after (sheets n) (bends n) (fleet_at sheets bends turns fleet n) (turns n)

-- how many of the first n calls have the turn j
unfoldable pub turns_of : (ℕ → ℕ) → ℕ → ℕ → ℕ
turns_of turns j zero = 0
turns_of turns j (suc n) = cond (eqb (turns n) j) (suc (turns_of turns j n)) (turns_of turns j n)

-- a flight of one course, in which none of the first n calls refuses seat j
abbrev pub NoneRefused : List ℕ → (ℕ → List ℤ) → (ℕ → ℕ) → List Runner → ℕ → ℕ → Type 0
NoneRefused s bends turns fleet j n =
    (i : ℕ) → i < n → turns i ≡ j → (round_answer s (bends i) (fleet_at (λ _. s) bends turns fleet i) (turns i)).number ≡ 0
