-- The board's limit (B2). What its calls promise are the definitions of crates sheet, layout, runner and place at this limit.
use Rattle.std.specs.Prelude.{ℕ}

-- the largest N that it has memory for
abbrev pub board_points : ℕ
board_points = 48
