-- A worked mirror image (W16): a held leg, its image, and what is no image of it. Told of the north axis.
use Rattle.std.specs.Prelude.{◌≡◌, List, [], ◌∷◌, ℕ, ℤ, pos, negsuc, take}
use Rattle.ends.specs.declared.EndKind.TheVariants.{Held}
use Rattle.systems.specs.Passes.{at}
use Rattle.place.specs.Places.{place_at_tick}
use Rattle.courses.specs.Sheets.{sheet, northward}
use Rattle.courses.specs.Starred.{laid}
use Rattle.mirror.specs.Images.{MirrorSheet}

-- held at one slope at both ends, a leg of 4 from 0 to a value
abbrev pub held_leg : ℤ → ℤ → List ℕ
held_leg value slope = sheet Held (4 ∷ []) (northward (pos 0 ∷ value ∷ [])) (slope ∷ pos 0 ∷ pos 0 ∷ slope ∷ pos 0 ∷ pos 0 ∷ [])

abbrev pub original : List ℕ
original = held_leg (pos 16) (pos 8)

abbrev pub image : List ℕ
image = held_leg (negsuc 15) (negsuc 7)

-- the value turned and the slopes left as they were
abbrev pub slopes_kept : List ℕ
slopes_kept = held_leg (negsuc 15) (pos 8)

-- the place at a tick, by own bend numbers
abbrev pub north : List ℕ → ℕ → ℤ
north s tick = at (place_at_tick s (laid s) tick).values 0

pub record MirrorTried : Type 0 where
  pub mirrors : MirrorSheet original image 0
  pub bends_of_original : take 2 (laid original) ≡ negsuc 65_535 ∷ pos 65_536 ∷ []
  pub bends_of_image : take 2 (laid image) ≡ pos 65_536 ∷ negsuc 65_535 ∷ []
  -- 5.5, 8 and 10.5, and the same below zero
  pub places_of_original : north original 1 ∷ north original 2 ∷ north original 3 ∷ [] ≡ pos 6 ∷ pos 8 ∷ pos 11 ∷ []
  pub places_of_image : north image 1 ∷ north image 2 ∷ north image 3 ∷ [] ≡ negsuc 5 ∷ negsuc 7 ∷ negsuc 10 ∷ []
  -- without its slopes a held course is no mirror image, and its bend numbers are others
  pub no_mirror : ¬ MirrorSheet original slopes_kept 0
  pub other_bends : take 2 (laid slopes_kept) ≡ negsuc 196_607 ∷ pos 196_608 ∷ []
