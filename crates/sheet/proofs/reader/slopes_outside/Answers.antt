-- `slopes_outside`: the definition's line for the kind; a held course has two sides.
use Rattle.std.proofs.Common.{◌≡◌, ◌+◌, ◌*◌, ◌||◌, ◌∙◌, ℕ, Bool, List, ap, sym}
use native.Mathlib.Nat.{add-zero}
use Rattle.ends.specs.declared.EndKind.{EndKind}
use Rattle.ends.specs.declared.EndKind.TheVariants.{Held}
use Rattle.sheet.specs.Bytes.{be32, signed32, any_below}
use Rattle.sheet.specs.Fields.{slopes_from}
use Rattle.sheet.specs.Reading.{slope_outside, slopes_outside}
use Rattle.sheet.proofs.reader.slopes_outside.Goals as goal

-- one side's slopes
abbrev side : List ℕ → ℕ → Bool
side s at = any_below (λ axis. slope_outside (signed32 (be32 s (at + 4 * axis)))) 3

held : (s : List ℕ) (from : ℕ) {a b : Bool} → from ≡ slopes_from s → a ≡ side s from → b ≡ side s (from + 12) → (a || b) ≡ slopes_outside Held s
unfolding any_below
held s from e p q = let o = e ∙ sym (add-zero (slopes_from s)) in (λ i. p i || q i) ∙ (λ i. side s (o i) || side s (e i + 12))

pub returns-in-Held : goal.returns-in-Held
returns-in-Held c =
    let s = c.args.s.now in
    held s c.args.from c.requires.0 c.side_outside.ensures c.side_outside-in-Held.ensures
    ∙ ap (λ (k : EndKind). slopes_outside k s) (sym c.in-Held.is)
