-- What is proved of the board (group B): which sheets it refuses with 23, that within its limit it answers as the station does, that it keeps demand 3, and what it must
-- have memory for.
use Rattle.std.specs.Prelude.{◌≡◌, false, List, ℕ, ◌*◌, ◌≤◌, ◌<◌, length, Err}
use Rattle.ends.specs.declared.EndKind.{EndKind}
use Rattle.sheet.specs.Answers.{number_of, read_course}
use Rattle.sheet.specs.Fields.{points}
use Rattle.sheet.specs.Reading.{Accepted, applies, most_points, read_by, read_sheet}
use Rattle.sheet.specs.declared.Refusal.{Refusal}
use Rattle.sheet.specs.declared.Refusal.TheVariants.{Board}
use Rattle.station.specs.Alike.{Alike}
use Rattle.station.specs.Claim.{Demand3By}
use Rattle.board.specs.Board.{board_points}

-- N23, A16: N is over the board's limit, and none of 1 to 4 applies
pub record Over (s : List ℕ) : Type 0 where
  pub many : board_points < points s
  pub none_before : (q : Refusal) → number_of q ≤ 4 → applies board_points s q ≡ false

-- .. of such sheets it says 23, and of no others; the station of none
abbrev pub BoardRefuses : Type 0
BoardRefuses = (s : List ℕ) → (Over s → read_by board_points s ≡ Err Board) × (read_by board_points s ≡ Err Board → Over s) × ¬ (read_sheet s ≡ Err Board)

-- B3
abbrev pub BoardAlike : Type 0
BoardAlike = (s : List ℕ) → points s ≤ board_points → Alike board_points most_points s

-- B4
abbrev pub BoardClaim : Type 0
BoardClaim = (s : List ℕ) → Accepted s → points s ≤ board_points → Demand3By board_points s

-- B5: a sheet that it reads has at most 702 bytes, and 144 bend numbers at most
abbrev pub BoardRoom : Type 0
BoardRoom = (s : List ℕ) (k : EndKind) (n p : ℕ) → read_by board_points s ≡ read_course k n p → (length s ≤ 702) × (3 * n ≤ 144)
