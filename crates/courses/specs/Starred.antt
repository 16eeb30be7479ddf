-- W1 to W9: the starred courses as one list, and the one claim about it (StarredRight). Told of the north axis.
use Rattle.std.specs.Prelude.{◌≡◌, List, [], ◌∷◌, ℕ, ◌*◌, ℤ, pos, negsuc, ◌*ℤ◌, replicate, take, get_or}
use Rattle.ends.specs.declared.EndKind.TheVariants.{Free, Held, Closed}
use Rattle.sheet.specs.Fields.{points, leg, waypoint}
use Rattle.layout.specs.Layout.{lay_out, laid_out}
use Rattle.runner.specs.Ticks.{spot_at, tick_of}
use Rattle.spline.specs.Position.{numerator}
use Rattle.place.specs.Places.{place_at_tick, bend_of, end_of}
use Rattle.courses.specs.Sheets.{sheet, northward}

-- what is asked at a tick: where it stands, counted from 0, the place, and the value before rounding as a fraction where the clause tells it
pub record Asked : Type 0 where
  pub tick : ℕ
  pub stands : ℕ
  pub given : ℤ
  pub exactly : List (ℤ × ℕ)

-- a course: its sheet, its bend numbers, and what is asked of it
pub record Worked : Type 0 where
  pub bytes : List ℕ
  pub bends : List ℤ
  pub asked : List Asked

abbrev pub starred : List Worked
starred =
    -- W1, with T5's sheet
    record {
      bytes = sheet Free (2 ∷ 2 ∷ []) (pos 0 ∷ pos 10 ∷ pos 20 ∷ pos 8 ∷ pos 10 ∷ pos 22 ∷ pos 0 ∷ pos 10 ∷ pos 24 ∷ []) [];
      bends = pos 0 ∷ negsuc 65_535 ∷ pos 0 ∷ [];
      asked = record { tick = 1; stands = 1; given = pos 6; exactly = (pos 11, 2) ∷ [] } ∷ [];
    }
    -- W2
    ∷ record {
      bytes = sheet Free (2 ∷ 2 ∷ []) (pos 0 ∷ pos 10 ∷ pos 20 ∷ negsuc 7 ∷ pos 10 ∷ pos 22 ∷ pos 0 ∷ pos 10 ∷ pos 24 ∷ []) [];
      bends = pos 0 ∷ pos 65_536 ∷ pos 0 ∷ [];
      asked = record { tick = 1; stands = 1; given = negsuc 5; exactly = (negsuc 10, 2) ∷ [] } ∷ [];
    }
    -- W3, K6
    ∷ record {
      bytes = sheet Free (1 ∷ 1 ∷ 1 ∷ []) (northward (pos 0 ∷ pos 1 ∷ pos 0 ∷ pos 0 ∷ [])) [];
      bends = pos 0 ∷ negsuc 39_321 ∷ pos 26_215 ∷ pos 0 ∷ [];
      asked = [];
    }
    -- W4
    ∷ record {
      bytes = sheet Free (1 ∷ 2 ∷ []) (northward (pos 0 ∷ pos 0 ∷ pos 6 ∷ [])) [];
      bends = pos 0 ∷ pos 32_768 ∷ pos 0 ∷ [];
      asked = record { tick = 2; stands = 2; given = pos 2; exactly = [] } ∷ [];
    }
    -- W5
    ∷ record {
      bytes = sheet Held (4 ∷ []) (northward (pos 0 ∷ pos 16 ∷ [])) (pos 0 ∷ pos 0 ∷ pos 0 ∷ pos 0 ∷ pos 0 ∷ pos 0 ∷ []);
      bends = pos 65_536 ∷ negsuc 65_535 ∷ [];
      asked =
          record { tick = 1; stands = 1; given = pos 3; exactly = [] }
          ∷ record { tick = 2; stands = 2; given = pos 8; exactly = [] }
          ∷ [];
    }
    -- W6
    ∷ record {
      bytes = sheet Held (4 ∷ []) (northward (pos 0 ∷ pos 16 ∷ [])) (pos 4 ∷ pos 0 ∷ pos 0 ∷ pos 4 ∷ pos 0 ∷ pos 0 ∷ []);
      bends = pos 0 ∷ pos 0 ∷ [];
      asked = record { tick = 1; stands = 1; given = pos 4; exactly = [] } ∷ [];
    }
    -- W7, and W8: the last tick of 64 bits
    ∷ record {
      bytes = sheet Closed (2 ∷ 2 ∷ 2 ∷ 2 ∷ []) (northward (pos 0 ∷ pos 6 ∷ pos 0 ∷ negsuc 5 ∷ [])) [];
      bends = pos 0 ∷ negsuc 49_151 ∷ pos 0 ∷ pos 49_152 ∷ [];
      asked =
          record { tick = 1; stands = 1; given = pos 4; exactly = [] }
          ∷ record { tick = 18_446_744_073_709_551_615; stands = 7; given = negsuc 3; exactly = [] }
          ∷ [];
    }
    -- W9, at one pair of values; for all of them: Theorems
    ∷ record {
      bytes = sheet Free (1 ∷ []) (northward (pos 3 ∷ pos 7 ∷ [])) [];
      bends = pos 0 ∷ pos 0 ∷ [];
      asked = [];
    }
    ∷ []

-- every one of a list
abbrev pub Every : {A : Type 0} → (A → Type 0) → List A → Type 0
Every P [] = Unit {0}
Every P (x ∷ xs) = P x × Every P xs

-- what a laying out leaves in a list of 7s
abbrev pub laid : List ℕ → List ℤ
laid s = laid_out s (replicate (3 * points s) (pos 7))

-- the fraction's denominator times the position's numerator is the fraction's numerator times 65,536 × h
abbrev pub Exactly : List ℕ → ℕ → (ℤ × ℕ) → Type 0
Exactly s t f =
    let r = spot_at s t in let i = r.leg in
    pos f.1 *ℤ numerator (leg s i) r.offset (waypoint s 0 i) (waypoint s 0 (end_of s i)) (bend_of s (laid s) 0 i) (bend_of s (laid s) 0 (end_of s i))
    ≡ f.0 *ℤ pos (65_536 * leg s i)

abbrev pub AskedRight : List ℕ → Asked → Type 0
AskedRight s a =
    (tick_of s (spot_at s a.tick) ≡ a.stands)
    × (get_or (place_at_tick s (laid s) a.tick).values 0 (pos 0) ≡ a.given)
    × ((place_at_tick s (laid s) a.tick).number ≡ 0)
    × Every (Exactly s a.tick) a.exactly

abbrev pub Right : Worked → Type 0
Right w = ((lay_out w.bytes (3 * points w.bytes)).number ≡ 0) × (take (points w.bytes) (laid w.bytes) ≡ w.bends) × Every (AskedRight w.bytes) w.asked

-- all of them are right
abbrev pub StarredRight : Type 0
StarredRight = Every Right starred
