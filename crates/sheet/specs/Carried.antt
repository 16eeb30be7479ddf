-- The sums of legs that the reader's walk hands over (P7): for the reader, and for the search of a tick's leg.
use Rattle.std.specs.Prelude.{◌≡◌, List, ℕ, ◌*◌, ◌≤◌, get_or, Ok, Err}
use Rattle.sheet.specs.Bytes.{sum_below}
use Rattle.sheet.specs.Fields.{legs, leg}
use Rattle.sheet.specs.Answers.{Reading}

-- the legs from one sum that is kept to the next
abbrev pub stride : ℕ
stride = 16

-- the room for them: of the largest N there are 512 legs
abbrev pub most_sums : ℕ
most_sums = 33

-- at b stands the sum of the first 16 b legs, for each b with so many among the l legs
abbrev pub Carried : List ℕ → ℕ → List ℕ → Type 0
Carried s l sums = (b : ℕ) → stride * b ≤ l → get_or sums b 0 ≡ sum_below (leg s) (stride * b)

-- by the reader's answer: of a course that is read the sums are those of its legs; of a refused sheet nothing is said
abbrev pub CarriedBy : Reading → List ℕ → List ℕ → Type 0
CarriedBy (Ok c) s sums = Carried s (legs s) sums
CarriedBy (Err r) s sums = Unit {0}
