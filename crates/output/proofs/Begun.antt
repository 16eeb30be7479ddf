-- The first piece: a refusal's line is the whole output, and a header is followed by the lines of all ticks, each of which has one.
use mathlib.Core.Path.{◌≡◌, sym, ap, ◌∙◌}
use mathlib.Core.Bool.{cond}
use mathlib.Core.List.{List, ◌++◌, append-nil}
use Prim.Native.Nat.{ℕ, suc, ◌-◌, ◌≤◌, ◌<◌}
use native.Mathlib.Omega.{arith}
use borrow.Author.Tests.{lt-ltb, le-ltb}
use lib.IntN.{ℤ}
use lib.ListN.{length, take}
use Rattle.ends.specs.declared.EndKind.{EndKind}
use Rattle.sheet.specs.Reading.{longest_sheet, read_sheet}
use Rattle.sheet.specs.declared.Refusal.{Refusal}
use Rattle.sheet.specs.declared.Refusal.TheVariants.{Torn}
use Rattle.sheet.specs.Answers.{Reading, read_course}
use Rattle.sheet.proofs.Laws.{read_accepted}
use Rattle.layout.specs.Layout.{laid_out}
use Rattle.place.specs.Places.{place_at_tick}
use Rattle.words.specs.Words.{refusal_line}
use Rattle.output.specs.Output.{header, lines_from, lent_list, output_by, output}
use Rattle.output.specs.Pieces.{AllAnswered, PieceOf}
use Rattle.output.proofs.Answered.{all_answered, lent_own}

-- ---- the output by its cases
module _ (input : List ℕ) where
  pub torn_output : longest_sheet < length input → refusal_line Torn ≡ output input
  unfolding output
  torn_output h = ap (λ b. cond b (refusal_line Torn) (output_by (read_sheet input) input)) (sym (lt-ltb longest_sheet (length input) h))

  pub read_output : length input ≤ longest_sheet → (a : Reading) → a ≡ read_sheet input → output_by a input ≡ output input
  unfolding output
  read_output h a e = ap (λ r. output_by r input) e ∙ ap (λ b. cond b (refusal_line Torn) (output_by (read_sheet input) input)) (sym (le-ltb longest_sheet (length input) h))

-- what `refused` promises
abbrev OnlyRefusal : List ℕ → Refusal → ℕ → ℕ → ℕ → Type 0
OnlyRefusal buffer r bytes next end = (next ≡ 0) × (end ≡ 0) × (bytes ≤ length buffer) × (take bytes buffer ≡ refusal_line r)

-- ---- the first piece
module _ (input : List ℕ) (list : List ℤ) (buffer : List ℕ) (bytes : ℕ) where
  pub refused_piece : (r : Refusal) (next end : ℕ) → OnlyRefusal buffer r bytes next end → refusal_line r ≡ output input → PieceOf input list buffer bytes next end (output input)
  unfolding lines_from
  refused_piece r next end (n, e, room, text) whole = record {
    room = room;
    in_order = omega arith;
    text = ap (λ k. take bytes buffer ++ lines_from input list next k) (let z : end - next ≡ 0 = omega arith in z) ∙ append-nil (take bytes buffer) ∙ text ∙ whole;
  }

  pub header_piece : (k : EndKind) (n p : ℕ) {end : ℕ} → length input ≤ longest_sheet → read_sheet input ≡ read_course k n p → list ≡ laid_out input lent_list
      → bytes ≤ length buffer → take bytes buffer ≡ header → end ≡ suc p → PieceOf input list buffer bytes 0 end (output input)
  header_piece k n p {end} short read laid room text all =
      let count : end - 0 ≡ suc p = omega arith in
      record {
        room = room;
        in_order = omega arith;
        text = (λ i. text i ++ lines_from input (laid i) 0 (count i)) ∙ read_output input short (read_course k n p) (sym read);
      }

-- each of its ticks has its line
pub header_answered : (input : List ℕ) (list : List ℤ) (k : EndKind) (n p : ℕ) {end : ℕ} → read_sheet input ≡ read_course k n p → list ≡ laid_out input lent_list → end ≡ suc p
    → AllAnswered input list end
header_answered input list k n p read laid all =
    let a = read_accepted _ input k n p read in
    λ t h. ap (λ l. (place_at_tick input l t).number) laid ∙ all_answered input a.0 (laid_out input lent_list) (lent_own input a.0) t (omega (arith, a.3))
