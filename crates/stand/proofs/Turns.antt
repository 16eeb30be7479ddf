-- Handing over piece after piece: what is written is the output from the place reached on, what remains begins after it, and where nothing remains all is handed over.
use mathlib.Core.Path.{◌≡◌, sym, ap, ◌∙◌}
use mathlib.Core.List.{List}
use mathlib.Core.Logic.{◌⊎◌, ⊎_elim}
use Prim.Native.Nat.{ℕ, ◌+◌, ◌-◌, ◌≤◌, ◌<◌}
use native.Mathlib.Omega.{arith}
use lib.IntN.{ℤ}
use lib.ListN.{length, take, drop, length-append, length-drop}
use lib.Seq.{take-append_seam, drop-append_seam, drop-drop, length-take-le}
use Rattle.output.specs.Output.{lines_from, output}
use Rattle.output.specs.Pieces.{AllAnswered, PieceOf, PartAt}
use Rattle.output.proofs.Lines.{lines_none}

-- where the loop stands: so many bytes are handed over, and a piece waits in the buffer
pub record Going (input : List ℕ) (list : List ℤ) (out : List ℕ) (bytes next end sent : ℕ) : Type 0 where
  pub shelf : 1536 ≡ length list
  pub buffer : 65536 ≡ length out
  pub inside : sent ≤ length (output input)
  pub piece : PieceOf input list out bytes next end (drop sent (output input))
  pub answered : AllAnswered input list end
  pub goes_on : bytes ≡ 0 → next ≡ end

module _ {input : List ℕ} {list : List ℤ} {out : List ℕ} {bytes next end sent : ℕ} (g : Going input list out bytes next end sent) where
  abbrev later : List ℕ
  later = lines_from input list next (end - next)

  piece_length : length (take bytes out) ≡ bytes
  piece_length = length-take-le bytes out g.piece.room

  pub part : PartAt (output input) sent (take bytes out)
  part = record {
    inside = omega (arith, ap length g.piece.text, length-append (take bytes out) later, length-drop sent (output input), g.inside);
    text = sym (take-append_seam (take bytes out) later) ∙ ap (take (length (take bytes out))) g.piece.text;
  }

  -- what a part's writing answers
  module _ (handed : ℕ) (e : handed ≡ sent + length (take bytes out)) where
    handed_inside : handed ≤ length (output input)
    handed_inside = omega (arith, e, part.inside)

    handed_all : handed ≡ sent + bytes
    handed_all = e ∙ ap (λ k. sent + k) piece_length

    -- the next piece continues where this one ended
    pub going_on : (out' : List ℕ) (bytes' next' end' : ℕ) → 65536 ≡ length out' → PieceOf input list out' bytes' next' end' later → end' ≡ end
        → (next' ≡ end) ⊎ (length out' < bytes' + 87) → Going input list out' bytes' next' end' handed
    going_on out' bytes' next' end' room p same full = record {
      shelf = g.shelf;
      buffer = room;
      inside = handed_inside;
      piece = record {
        room = p.room;
        in_order = p.in_order;
        text = p.text
            ∙ sym (drop-append_seam (take bytes out) later)
            ∙ ap (drop (length (take bytes out))) g.piece.text
            ∙ drop-drop (length (take bytes out)) sent (output input)
            ∙ ap (λ k. drop k (output input)) (sym e);
      };
      answered = λ t h. g.answered t (omega arith);
      goes_on = λ none. ⊎_elim (λ h. omega arith) (λ h. absurd (omega arith)) full;
    }

  pub all_handed : bytes ≡ 0 → sent ≡ length (output input)
  all_handed none =
      let done = g.goes_on none in
      omega (
        arith,
        ap length g.piece.text,
        length-append (take bytes out) later,
        piece_length,
        ap length (ap (λ k. lines_from input list k (end - k)) done ∙ lines_none input list end),
        length-drop sent (output input),
        g.inside,
      )
