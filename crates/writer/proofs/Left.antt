-- What a call leaves in the slice (specs/Writing), from its answer: a refusal all of it, the answered length the sheet and what stood behind it.
-- (The worked sheet is named so that it is checked first, by `pub use`: an import that nothing uses is tidied away.)
use mathlib.Core.Path.{◌≡◌, sym, ap, ◌∙◌}
use mathlib.Core.List.{List, ◌++◌}
use Prim.Native.Nat.{ℕ, ◌≤◌}
use native.Mathlib.Nat.{zero-add}
use borrow.Author.Tests.{ltb-false}
use lib.ListN.{length, drop}
use Rattle.sheet.specs.Answers.{Told, refused}
use Rattle.sheet.specs.declared.Refusal.{Refusal}
use Rattle.answers.proofs.Guards.{done_changes, refused_keeps}
use Rattle.answers.specs.Answers.{told_count}
use Rattle.std.specs.Prelude.{Ok}
use Rattle.lists.specs.Lists.{Lists, size_of}
use Rattle.writer.specs.Sheets.{written_sheet}
use Rattle.lists.specs.Answer.{write_sheet}
use Rattle.writer.specs.Writing.{written_into}
use Rattle.lists.specs.Inside.{Writable}
use Rattle.writer.specs.Inside.{over}
use Rattle.writer.proofs.Parts.{long}
pub use Rattle.writer.proofs.Worked as worked
use Rattle.lists.proofs.Tests.{Unrefused, unrefused, answered, writable}

module _ (c : Lists) (out : List ℕ) where
  abbrev new : List ℕ
  new = written_sheet c ++ drop (size_of c) out

  pub left_refused : (r : Refusal) → refused r ≡ write_sheet c (length out) → out ≡ written_into c out
  unfolding written_into
  left_refused r e = sym (refused_keeps (write_sheet c (length out)) new out r e)

  module _ (n : ℕ) (e : told_count (Ok n) ≡ write_sheet c (length out)) where
    done : (write_sheet c (length out)).number ≡ 0
    done = sym (ap (λ (t : Told). t.number) e)

    passes : Unrefused c (length out)
    passes = unrefused c (length out) done

    pub is_writable : Writable c
    is_writable = writable c (length out) passes

    pub is_size : n ≡ size_of c
    is_size =
        let whole : told_count (Ok n) ≡ told_count (Ok (size_of c)) = e ∙ sym (answered c (length out) passes) in
        let values = ap (λ (t : Told). t.values) whole in cc

    pub has_room : size_of c ≤ length out
    has_room = ltb-false (length out) (size_of c) passes.numbers.page

    pub left_written : over (written_sheet c) 0 out ≡ written_into c out
    unfolding over written_into
    left_written =
        ap (λ k. written_sheet c ++ drop k out) (zero-add (length (written_sheet c)) ∙ long c is_writable)
        ∙ sym (done_changes (write_sheet c (length out)) new out done)
