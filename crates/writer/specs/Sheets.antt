-- The bytes of the sheet that lists make (S1 to S8, G5). For the promises of writer and join, and their theorems.
use mathlib.Core.List.{List, [], ◌∷◌, ◌++◌, flat_map}
use Rattle.std.specs.Prelude.{ℕ, ◌-◌, ◌/◌, ◌%◌, ℤ, pos, negsuc}
use Rattle.lists.specs.Lists.{Lists, points_in, size_of}

-- S1: unsigned numbers of 16 and 32 bits, the highest byte first
abbrev pub bytes16 : ℕ → List ℕ
bytes16 n = n / 256 % 256 ∷ n % 256 ∷ []

abbrev pub bytes32 : ℕ → List ℕ
bytes32 n = n / 16_777_216 % 256 ∷ n / 65_536 % 256 ∷ n / 256 % 256 ∷ n % 256 ∷ []

-- S7: the 32 bits of a number in two's complement, and their bytes
abbrev pub bits32 : ℤ → ℕ
bits32 (pos n) = n
bits32 (negsuc n) = 4_294_967_295 - n

abbrev pub number_bytes : ℤ → List ℕ
number_bytes z = bytes32 (bits32 z)

-- S2 to S5: the count of bytes, version 1, the kind, N
abbrev pub head_bytes : ℕ → ℕ → ℕ → List ℕ
head_bytes size kind n = bytes32 size ++ ((1 ∷ kind ∷ []) ++ bytes16 n)

-- S6 to S8: legs, waypoints, slopes
abbrev pub body_bytes : Lists → List ℕ
body_bytes c = flat_map bytes16 c.legs ++ (flat_map number_bytes c.waypoints ++ flat_map number_bytes c.slopes)

-- G5: the sheet
unfoldable pub written_sheet : Lists → List ℕ
written_sheet c = head_bytes (size_of c) c.kind (points_in c.waypoints) ++ body_bytes c
