-- A sheet's bytes from its fields (group S), to write worked courses readably. The courses themselves show that it is read as written.
use Rattle.std.specs.Prelude.{List, [], ◌∷◌, ◌++◌, ℕ, suc, ◌+◌, ◌*◌, ◌-◌, ◌/◌, ◌%◌, ℤ, pos, negsuc, length}
use Rattle.ends.specs.Ends.{kind_number}
use Rattle.ends.specs.declared.EndKind.{EndKind}

abbrev pub two : ℕ → List ℕ
two n = n / 256 % 256 ∷ n % 256 ∷ []

abbrev pub four : ℕ → List ℕ
four n = n / 16_777_216 % 256 ∷ n / 65_536 % 256 ∷ two n

-- S7: two's complement
abbrev pub signed : ℤ → List ℕ
signed (pos n) = four n
signed (negsuc n) = four (4_294_967_296 - suc n)

abbrev pub twos : List ℕ → List ℕ
twos [] = []
twos (n ∷ ns) = two n ++ twos ns

abbrev pub signeds : List ℤ → List ℕ
signeds [] = []
signeds (z ∷ zs) = signed z ++ signeds zs

-- waypoints that go north alone
abbrev pub northward : List ℤ → List ℤ
northward [] = []
northward (z ∷ zs) = z ∷ pos 0 ∷ pos 0 ∷ northward zs

-- the sheet of an end kind, legs, waypoint numbers (three to a waypoint) and slopes
abbrev pub sheet : EndKind → List ℕ → List ℤ → List ℤ → List ℕ
sheet k legs numbers slopes =
    four (8 + 2 * length legs + 4 * length numbers + 4 * length slopes)
    ++ 1 ∷ kind_number k ∷ two (length numbers / 3) ++ twos legs ++ signeds numbers ++ signeds slopes
