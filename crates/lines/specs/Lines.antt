-- One line of the stand's output (T3), as the list of its bytes. For lines, words and output.
use Rattle.std.specs.Prelude.{cond, List, [], ◌∷◌, ◌++◌, ℕ, zero, suc, ◌+◌, ◌/◌, ◌%◌, ltb, ℤ, pos, negsuc}

-- the decimal digits of n, at most `most` of them: those of n / 10, where n has more than one, and then the last. 48 is the code of the digit 0
abbrev pub digits_within : ℕ → ℕ → List ℕ
digits_within zero n = []
digits_within (suc most) n = cond (ltb n 10) [] (digits_within most (n / 10)) ++ ((48 + n % 10) ∷ [])

-- T3, decimal: a number of 64 bits has at most twenty digits
unfoldable pub decimal : ℕ → List ℕ
decimal n = digits_within 20 n

-- T3, below 0 a minus first: 45 is its code
unfoldable pub signed : ℤ → List ℕ
signed (pos n) = decimal n
signed (negsuc n) = 45 ∷ decimal (suc n)

-- T3, a tick and its place, spaces between them and a line feed behind: their codes are 32 and 10
unfoldable pub line : ℕ → ℤ → ℤ → ℤ → List ℕ
line tick north east up = decimal tick ++ (32 ∷ signed north) ++ (32 ∷ signed east) ++ (32 ∷ signed up) ++ (10 ∷ [])
