-- What is proved of back, and of back together with the step: N15, M7 to M9.
use Rattle.std.specs.Prelude.{◌≡◌, true, false, List, ◌⊎◌, ℕ, suc, ◌+◌, ◌-◌, ◌/◌, ◌≤◌}
use Rattle.ends.specs.declared.EndKind.TheVariants.{Closed}
use Rattle.sheet.specs.Answers.{refused}
use Rattle.sheet.specs.Fields.{kind, ticks}
use Rattle.sheet.specs.Reading.{Accepted}
use Rattle.sheet.specs.declared.Refusal.TheVariants.{Start}
use Rattle.runner.specs.Ticks.{at_lap, found, tick_of, ticks_flown}
use Rattle.runner.specs.Steps.{adrift, most_laps, stepped, onward, repeated}
use Rattle.runner.specs.Backs.{at_start, backed, backward}
use Rattle.runner.specs.Theorems.{Stands}
use Rattle.runner.specs.declared.Runner.{Runner}

-- N15: start is said where no tick is flown, of a runner that is not adrift; behind it back is done
abbrev pub BackBehind : Type 0
BackBehind = (s : List ℕ) → Accepted s → (r : Runner)
    → (at_start r ≡ true → Stands s 0 r) × (adrift s r ≡ false → at_start r ≡ false → (backed s r).number ≡ 0)

-- M7: back takes one off the ticks flown; where there is none it is refused with 15 and takes nothing off
abbrev pub BackTick : Type 0
BackTick = (s : List ℕ) → Accepted s → (r : Runner) → adrift s r ≡ false
    → Stands s (ticks_flown s r - 1) (backward s r) × (ticks_flown s r ≡ 0 → backed s r ≡ refused Start)

-- .. and n backs, for every n, take n off
abbrev pub BackTicks : Type 0
BackTicks = (s : List ℕ) → Accepted s → (r : Runner) → adrift s r ≡ false → (n : ℕ) → Stands s (ticks_flown s r - n) (repeated (backward s) n r)

-- M8: a step to the first waypoint of a closed course that is made at the largest count of laps, which it keeps
abbrev pub KeepsLap : List ℕ → Runner → Type 0
KeepsLap s r = (kind s ≡ Closed) × (suc (tick_of s r) ≡ ticks s) × (most_laps ≤ r.laps)

-- M8: back after any other step that moved answers the runner before the step, and leaves it so where it lies
abbrev pub BackAfterStep : Type 0
BackAfterStep = (s : List ℕ) (r : Runner) → (stepped s r).number ≡ 0 → ¬ KeepsLap s r → (backed s (onward s r) ≡ found r) × (backward s (onward s r) ≡ r)

-- .. and after such a step it leaves that runner a lap short
abbrev pub BackAfterKept : Type 0
BackAfterKept = (s : List ℕ) → Accepted s → (r : Runner) → adrift s r ≡ false → KeepsLap s r → backward s (onward s r) ≡ at_lap (most_laps - 1) r

-- M8: where back moved, of a count of laps that a record can hold, the next step answers and leaves the runner before it
abbrev pub StepAfterBack : Type 0
StepAfterBack = (s : List ℕ) (r : Runner) → r.laps ≤ most_laps → (backed s r).number ≡ 0 → (stepped s (backward s r) ≡ found r) × (onward s (backward s r) ≡ r)

-- M9: there is room for n steps: on a closed course the laps of all ticks stay within the largest count, on an open one n ticks are left
abbrev pub RoomFor : List ℕ → Runner → ℕ → Type 0
RoomFor s r n = ((kind s ≡ Closed) × ((ticks_flown s r + n) / ticks s ≤ most_laps)) ⊎ (ticks_flown s r + n ≤ ticks s)

-- M9: n backs after n steps, for every n that there is room for ..
abbrev pub BacksAfterSteps : Type 0
BacksAfterSteps = (s : List ℕ) → Accepted s → (r : Runner) → adrift s r ≡ false → (n : ℕ) → RoomFor s r n → repeated (backward s) n (repeated (onward s) n r) ≡ r

-- .. and n steps after n backs, of a runner that has flown n ticks
abbrev pub StepsAfterBacks : Type 0
StepsAfterBacks = (s : List ℕ) → Accepted s → (r : Runner) → adrift s r ≡ false → r.laps ≤ most_laps → (n : ℕ) → n ≤ ticks_flown s r
    → repeated (onward s) n (repeated (backward s) n r) ≡ r
