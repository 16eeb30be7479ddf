-- The line that the stand puts out for a refusal (T4), as the list of its bytes. For words and output.
use Rattle.std.specs.Prelude.{List, ◌++◌, ℕ}
use Rattle.sheet.specs.Answers.{number_of}
use Rattle.sheet.specs.declared.Refusal.{Refusal}
use Rattle.sheet.specs.declared.Refusal.TheVariants.{Torn, Edition, Ends, Points, Size, Leg, Reach, Slope, Shelf, Past, Adrift, Bend, Landed, Page, Start, Shut, Apart, Crowded, Seats, Turn, Grain, Ink, Board}
use Rattle.lines.specs.Ascii.{ascii}
use Rattle.lines.specs.Lines.{digits_within}

-- group N's words
abbrev pub word : Refusal → List ℕ
word Torn = ascii "torn"
word Edition = ascii "edition"
word Ends = ascii "ends"
word Points = ascii "points"
word Size = ascii "size"
word Leg = ascii "leg"
word Reach = ascii "reach"
word Slope = ascii "slope"
word Shelf = ascii "shelf"
word Past = ascii "past"
word Adrift = ascii "adrift"
word Bend = ascii "bend"
word Landed = ascii "landed"
word Page = ascii "page"
word Start = ascii "start"
word Shut = ascii "shut"
word Apart = ascii "apart"
word Crowded = ascii "crowded"
word Seats = ascii "seats"
word Turn = ascii "turn"
word Grain = ascii "grain"
word Ink = ascii "ink"
word Board = ascii "board"

-- T4: `refused`, the number in decimal, the word
abbrev pub refusal_line : Refusal → List ℕ
refusal_line r = ascii "refused " ++ digits_within 20 (number_of r) ++ ascii " " ++ word r ++ ascii "\n"
