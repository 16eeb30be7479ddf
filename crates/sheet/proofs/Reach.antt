-- N7 of a waypoint by the byte at which its numbers start. For the reader's two functions on waypoints.
use mathlib.Core.Bool.{Bool}
use mathlib.Core.List.{List}
use Prim.Native.Nat.{ℕ, ◌+◌, ◌*◌}
use Rattle.sheet.specs.Bytes.{any_below, be32, signed32}
use Rattle.sheet.specs.Reading.{reach_outside}

abbrev pub at_byte : List ℕ → ℕ → Bool
at_byte s a = any_below (λ axis. reach_outside axis (signed32 (be32 s (a + 4 * axis)))) 3
