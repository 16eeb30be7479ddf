-- What the stand's functions ask and promise of the pieces in which the output is handed over. For the stand's program.
use Rattle.std.specs.Prelude.{◌≡◌, List, ◌++◌, ℕ, ◌+◌, ◌-◌, ◌≤◌, ◌<◌, ℤ, length, take, drop}
use Rattle.place.specs.Places.{place_at_tick}
use Rattle.output.specs.Output.{lines_from}

-- every tick before `end` gets its place, so that it has a line
abbrev pub AllAnswered : List ℕ → List ℤ → ℕ → Type 0
AllAnswered s list end = (t : ℕ) → t < end → (place_at_tick s list t).number ≡ 0

-- of what remains of an output, the buffer's first bytes are the beginning, and the lines of the ticks `next` to before `end` are the rest
pub record PieceOf (s : List ℕ) (list : List ℤ) (buffer : List ℕ) (bytes next end : ℕ) (remains : List ℕ) : Type 0 where
  pub room : bytes ≤ length buffer
  pub in_order : next ≤ end
  pub text : take bytes buffer ++ lines_from s list next (end - next) ≡ remains

-- the bytes are those of the whole from `sent` on
pub record PartAt (whole : List ℕ) (sent : ℕ) (bytes : List ℕ) : Type 0 where
  pub inside : sent + length bytes ≤ length whole
  pub text : bytes ≡ take (length bytes) (drop sent whole)
