-- What the kind of ends decides (S4, S6, N4). The kinds themselves are declared in src/lib.rt.
use Rattle.std.specs.Prelude.{ℕ, zero, suc, ◌-◌, Result, Ok, Err}
use Rattle.ends.specs.declared.EndKind.{EndKind}
use Rattle.ends.specs.declared.EndKind.TheVariants.{Free, Held, Closed}
use Rattle.ends.specs.declared.UnknownKind.{UnknownKind}

-- S4: the kind's byte
abbrev pub kind_number : EndKind → ℕ
kind_number Free = 0
kind_number Held = 1
kind_number Closed = 2

-- S4: the kind that has a number; 3 and more name none (N3)
abbrev pub kind_named : ℕ → Result EndKind UnknownKind
kind_named zero = Ok Free
kind_named (suc zero) = Ok Held
kind_named (suc (suc zero)) = Ok Closed
kind_named (suc (suc (suc n))) = Err (record { number = suc (suc (suc n)) })

-- S6: L of N waypoints; a closed course has the closing leg besides
abbrev pub leg_count : EndKind → ℕ → ℕ
leg_count Free n = n - 1
leg_count Held n = n - 1
leg_count Closed n = n

-- N4: the least N
abbrev pub least_points : EndKind → ℕ
least_points Free = 2
least_points Held = 2
least_points Closed = 3
