-- What is proved of a fleet's rounds: whose turn comes when (Q5), that no seat meddles with another (Q4), how far a seat gets (Q6) and how near it flies (Q7).
use Rattle.std.specs.Prelude.{◌≡◌, true, false, List, ℕ, ◌+◌, ◌≤◌, ◌<◌, ℤ, length}
use Rattle.ends.specs.declared.EndKind.TheVariants.{Closed}
use Rattle.sheet.specs.Fields.{kind}
use Rattle.sheet.specs.Reading.{Accepted}
use Rattle.runner.specs.Ticks.{is_open, ticks_flown}
use Rattle.runner.specs.Steps.{adrift, most_laps, landed, onward, repeated, flown_to}
use Rattle.runner.specs.Theorems.{Stands}
use Rattle.runner.specs.declared.Runner.{Runner}
use Rattle.station.specs.Claim.{Own, Answered}
use Rattle.fleet.specs.Round.{seat_of, round_answer, turn_given, fleet_after}
use Rattle.flights.specs.Calls.{Call, InARow, Serves, fleet_at, turns_of, NoneRefused}

-- Q5: of k calls in a row one serves the seat j, whichever of the k it is, and no other of them has its turn
abbrev pub EverySeatOnce : Type 0
EverySeatOnce = (k : ℕ) (calls : ℕ → Call) → InARow k calls → (j : ℕ) → j < k
    → (i : ℕ) × (i < k) × Serves (calls i) j × ((m : ℕ) → m < k → (calls m).turn ≡ j → m ≡ i)

-- Q4: a round leaves as many records, and those of all seats but one as they were
abbrev pub OthersKept : Type 0
OthersKept = (s : List ℕ) (list : List ℤ) (fleet : List Runner) (t : ℕ)
    → (length (fleet_after s list fleet t) ≡ length fleet) × ((j : ℕ) → ¬ (j ≡ t) → seat_of (fleet_after s list fleet t) j ≡ seat_of fleet j)

-- Q4: two fleets of one size that agree in seat j, whatever their other seats hold: flown alike, they agree in seat j before every call, in the answer whenever it
-- is j's turn, and in every turn that is given
abbrev pub SeatsApart : Type 0
SeatsApart = (sheets : ℕ → List ℕ) (bends : ℕ → List ℤ) (turns : ℕ → ℕ) (f g : List Runner) (j : ℕ) → length f ≡ length g → seat_of f j ≡ seat_of g j → (n : ℕ)
    → let f' = fleet_at sheets bends turns f n in let g' = fleet_at sheets bends turns g n in
    (seat_of f' j ≡ seat_of g' j)
    × (turns n ≡ j → round_answer (sheets n) (bends n) f' (turns n) ≡ round_answer (sheets n) (bends n) g' (turns n))
    × (turn_given (sheets n) (bends n) f' (turns n) ≡ turn_given (sheets n) (bends n) g' (turns n))

-- Q6: where none of its turns is refused, a seat is as many steps on as it had turns, and has flown as many ticks more; on a closed course as far as a record holds laps
abbrev pub TurnsMove : Type 0
TurnsMove = (s : List ℕ) → Accepted s → (bends : ℕ → List ℤ) (turns : ℕ → ℕ) (fleet : List Runner) (j : ℕ) → adrift s (seat_of fleet j) ≡ false
    → (n : ℕ) → NoneRefused s bends turns fleet j n
    → let r = seat_of fleet j in let m = turns_of turns j n in let x = seat_of (fleet_at (λ _. s) bends turns fleet n) j in
    (x ≡ repeated (onward s) m r)
    × (is_open (kind s) ≡ true → Stands s (ticks_flown s r + m) x)
    × (kind s ≡ Closed → r.laps ≤ most_laps → x ≡ flown_to s (ticks_flown s r + m))

-- Q7: with own bend numbers a round that is not refused answers the place where it leaves its seat, and that is near (C3) every exact spline
abbrev pub ServedNear : Type 0
ServedNear = (s : List ℕ) (list : List ℤ) → Own s list → (fleet : List Runner) (t : ℕ) → (round_answer s list fleet t).number ≡ 0
    → Answered s list (seat_of (fleet_after s list fleet t) t) (round_answer s list fleet t)

-- Q7: and of 1 to 32 seats each that is neither adrift nor landed is served so at its turn
abbrev pub FlyingServed : Type 0
FlyingServed = (s : List ℕ) → Accepted s → (list : List ℤ) → Own s list → (fleet : List Runner) → 1 ≤ length fleet → length fleet ≤ 32 → (t : ℕ) → t < length fleet
    → adrift s (seat_of fleet t) ≡ false → landed s (seat_of fleet t) ≡ false → (round_answer s list fleet t).number ≡ 0
