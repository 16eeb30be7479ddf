-- What is proved of lines: two as they are spelled, and that `LINE_ROOM` is room for any. Proved in lines/proofs/Worked.antt and lines/proofs/Room.antt.
use Rattle.std.specs.Prelude.{◌≡◌, ℕ, ◌≤◌, ℤ, pos, negsuc, length}
use Rattle.lines.specs.Ascii.{ascii}
use Rattle.lines.specs.Lines.{line}

-- T5, the line of tick 1
abbrev pub LineOne : Type 0
LineOne = line 1 (pos 6) (pos 10) (pos 21) ≡ ascii "1 6 10 21\n"

-- zeros, and a minus
abbrev pub LineMinus : Type 0
LineMinus = line 0 (pos 0) (negsuc 4) (negsuc 104) ≡ ascii "0 0 -5 -105\n"

abbrev pub LineShort : Type 0
LineShort = (tick : ℕ) (north east up : ℤ) → length (line tick north east up) ≤ 87
