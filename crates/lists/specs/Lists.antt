-- A course as lists in the sheet's order (G1, G2), and the lists that a sheet's fields make. For writer, join and their theorems.
use Rattle.std.specs.Prelude.{List, [], ◌∷◌, ℕ, zero, suc, ◌+◌, ◌*◌, ◌/◌, ◌%◌, ℤ, pos, length, get_or}
use Rattle.ends.specs.declared.EndKind.{EndKind}
use Rattle.ends.specs.declared.EndKind.TheVariants.{Free, Held, Closed}
use Rattle.sheet.specs.Fields.{kind_of, kind_field, kind, points, legs, leg, waypoint, slope, sheet_length}

-- G1: the kind's number, the legs, north, east and up of each waypoint in turn, and of each side the slopes alike
pub record Lists : Type 0 where
  pub kind : ℕ
  pub legs : List ℕ
  pub waypoints : List ℤ
  pub slopes : List ℤ

abbrev pub lists : ℕ → List ℕ → List ℤ → List ℤ → Lists
lists k hs ws ps = record { kind = k; legs = hs; waypoints = ws; slopes = ps }

-- S4: the kind
abbrev pub kind_in : Lists → EndKind
kind_in c = kind_of c.kind

-- G2: N, a third of the waypoint numbers
abbrev pub points_in : List ℤ → ℕ
points_in ws = length ws / 3

-- the number on an axis of waypoint i, or the slope of side i
abbrev pub number_on : List ℤ → ℕ → ℕ → ℤ
number_on numbers axis i = get_or numbers (3 * i + axis) (pos 0)

-- S8: how many slopes a kind has
abbrev pub slope_count : EndKind → ℕ
slope_count Free = 0
slope_count Held = 6
slope_count Closed = 0

-- S9: the bytes of the sheet that the lists make
abbrev pub size_of : Lists → ℕ
size_of c = sheet_length (kind_in c) (points_in c.waypoints)

-- f 0, .., f (n - 1)
unfoldable pub list_below : {A : Type 0} → (ℕ → A) → ℕ → List A
list_below f zero = []
list_below f (suc n) = f 0 ∷ list_below (λ i. f (suc i)) n

-- S4, S6 to S8: a sheet's fields as lists
unfoldable pub lists_of : List ℕ → Lists
lists_of s =
    lists (kind_field s) (list_below (leg s) (legs s))
    (list_below (λ j. waypoint s (j % 3) (j / 3)) (3 * points s))
    (list_below (λ j. slope s (j % 3) (j / 3)) (slope_count (kind s)))
