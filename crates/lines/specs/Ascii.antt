-- A text as the list of its bytes, for texts without accents: a character's code is its byte. For lines, words and output.
use Rattle.std.specs.Prelude.{List, [], ◌∷◌, ℕ}
use Prim.Native.Char.{code}
use Prim.Native.String as T

abbrev pub ascii : T.String → List ℕ
ascii T.[] = []
ascii (T.◌∷◌ c rest) = code c ∷ ascii rest
