-- The first two links of a call's chain, reading's refusal and 9, as crate strokes has them too.
use mathlib.Core.Path.{◌≡◌, sym, ap, ◌∙◌}
use mathlib.Core.Bool.{true}
use mathlib.Core.List.{List}
use Prim.Native.Nat.{ℕ}
use lib.IntN.{ℤ}
use lib.ListN.{length}
use Rattle.std.specs.Prelude.{Ok}
use Rattle.sheet.specs.Answers.{Told, refused}
use Rattle.sheet.specs.Reading.{read_by}
use Rattle.sheet.specs.declared.Refusal.TheVariants.{Shelf}
use Rattle.answers.specs.Answers.{Answered, pass_on, guard}
use Rattle.answers.specs.declared.opened.OpenSheet.{OpenSheet}
use Rattle.answers.proofs.Guards.{opened_on, passed, stopped}
use Rattle.layout.specs.Layout.{short}
use Rattle.place.specs.declared.laid.Laid.{Laid}

-- a call's answer: reading's refusal, 9, or what comes behind them
abbrev pub behind : ℕ → List ℕ → List ℤ → Told → Told
behind limit s list rest = pass_on (read_by limit s) (guard (short s (length list)) Shelf rest)

-- the reader opened the sheet
module _ (limit : ℕ) (s : List ℕ) (list : List ℤ) (sheet : OpenSheet) (e : Answered (read_by limit s) s (Ok sheet)) where
  pub shelf_refused : short sheet.bytes.now (length list) ≡ true → (rest : Told) → refused Shelf ≡ behind limit s list rest
  shelf_refused h rest = stopped (short s (length list)) Shelf rest (sym (ap (λ b. short b (length list)) e.0) ∙ h) ∙ opened_on limit s _ e.1

  -- and its list has room
  module _ (laid : Laid) (l : (laid.sheet.bytes.now ≡ sheet.bytes.now) × (laid.list.now ≡ list)) where
    pub bytes_are : laid.sheet.bytes.now ≡ s
    bytes_are = l.0 ∙ e.0

    pub let_on : (rest : Told) → rest ≡ behind limit s list rest
    let_on rest = passed (short s (length list)) Shelf rest (sym (λ i. short (bytes_are i) (length (l.1 i))) ∙ laid.room) ∙ opened_on limit s _ e.1
