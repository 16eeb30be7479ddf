-- Worked sheets (W21) by computing the definitions: eight bytes alone, the board's number beside the station's.
use Rattle.std.specs.Prelude.{◌≡◌, List, [], ◌∷◌, ℕ}
use Rattle.sheet.specs.Answers.{told}
use Rattle.sheet.specs.Reading.{read_by, read_sheet}
use Rattle.board.specs.Board.{board_points}

-- a sheet's first eight bytes: the length that it states, the version, the kind, N
abbrev pub head : ℕ → ℕ → ℕ → ℕ → ℕ → List ℕ
head stated version kind high low = 0 ∷ 0 ∷ 0 ∷ stated ∷ version ∷ kind ∷ high ∷ low ∷ []

-- what board and station answer
abbrev pub Say : List ℕ → ℕ → ℕ → Type 0
Say s board station = ((told (read_by board_points s)).number ≡ board) × ((told (read_sheet s)).number ≡ station)

-- N is 1, 48, 49, 512, 513; then 49 with another version, kind and length
pub record BoardTried : Type 0 where
  pub one : Say (head 8 1 0 0 1) 4 4
  pub most : Say (head 8 1 0 0 48) 5 5
  pub over : Say (head 8 1 0 0 49) 23 5
  pub stations_most : Say (head 8 1 0 2 0) 23 5
  pub over_both : Say (head 8 1 0 2 1) 4 4
  pub edition_first : Say (head 8 2 0 0 49) 2 2
  pub ends_first : Say (head 8 1 3 0 49) 3 3
  pub torn_first : Say (head 9 1 0 0 49) 1 1
