-- What functions that put bytes into a slice ask of each other, here and in join. Not cited by an entry point's promise.
use Rattle.std.specs.Prelude.{List, ◌++◌, ℕ, ◌+◌, length, take, drop}

-- the bytes put over those of `out` from a place on; the others stay
unfoldable pub over : List ℕ → ℕ → List ℕ → List ℕ
over bytes at out = take at out ++ bytes ++ drop (at + length bytes) out
