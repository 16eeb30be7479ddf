-- What `lay_out_by` and `laid_out_by` are (specs/Layout), at any limit, where the sheet is refused, where the list is short, and where all is well.
use mathlib.Core.Path.{◌≡◌, refl, sym, ap, ◌∙◌}
use mathlib.Core.Bool.{Bool}
use mathlib.Core.List.{List, [], ◌∷◌, ◌++◌}
use Prim.Native.Nat.{ℕ, ◌*◌, ◌≤◌, ◌<◌}
use borrow.Author.Tests.{lt-ltb, le-ltb}
use lib.IntN.{ℤ, pos}
use Rattle.std.specs.Prelude.{Err}
use lib.ListN.{length, drop, replicate}
use Rattle.sheet.specs.Answers.{Told, Reading, refused}
use Rattle.sheet.specs.Fields.{points}
use Rattle.sheet.specs.Bytes.{be16, be32, signed32, any_below, sum_below}
use Rattle.sheet.specs.Reading.{read_by, Accepted}
use Rattle.sheet.specs.declared.Refusal.{Refusal}
use Rattle.sheet.specs.declared.Refusal.TheVariants.{Shelf}
use Rattle.answers.specs.Answers.{done, pass_on, guard}
use Rattle.answers.proofs.Guards.{within_on, done_changes, refused_keeps}
use Rattle.systems.specs.Passes.{turn, sweep, pass, passes}
use Rattle.spline.specs.Spline.{free_row, along, row_of, rows_by}
use Rattle.layout.specs.Course.{course}
use Rattle.layout.specs.Layout.{all_bends, short, lay_out_by, laid_out, laid_out_by}

-- tried at W9 with a list of seven: its last entry stays
rest_tried : laid_out (0 ∷ 0 ∷ 0 ∷ 34 ∷ 1 ∷ 0 ∷ 0 ∷ 2 ∷ 0 ∷ 1 ∷ replicate 24 0) (replicate 7 (pos 7)) ≡ replicate 6 (pos 0) ++ pos 7 ∷ []
unfolding turn sweep pass passes be16 be32 signed32 any_below sum_below read_by free_row along row_of rows_by course all_bends lay_out_by laid_out_by
rest_tried = refl

module _ (limit : ℕ) (s : List ℕ) (room : ℕ) where
  pub refused_answer : (r : Refusal) → read_by limit s ≡ Err r → lay_out_by limit s room ≡ refused r
  unfolding lay_out_by
  refused_answer r e = ap (λ (x : Reading). pass_on x (guard (short s room) Shelf done)) e

  module _ (a : Accepted s) (within : points s ≤ limit) where
    accepted_answer : lay_out_by limit s room ≡ guard (short s room) Shelf done
    unfolding lay_out_by
    accepted_answer = sym (within_on limit s a within (guard (short s room) Shelf done))

    pub short_answer : room < 3 * points s → lay_out_by limit s room ≡ refused Shelf
    short_answer h = accepted_answer ∙ ap (λ (b : Bool). guard b Shelf done) (lt-ltb room (3 * points s) h)

    pub done_answer : 3 * points s ≤ room → lay_out_by limit s room ≡ done
    done_answer h = accepted_answer ∙ ap (λ (b : Bool). guard b Shelf done) (le-ltb room (3 * points s) h)

module _ (limit : ℕ) (s : List ℕ) (list : List ℤ) where
  pub refused_list : (r : Refusal) → lay_out_by limit s (length list) ≡ refused r → laid_out_by limit s list ≡ list
  unfolding laid_out_by
  refused_list r e = refused_keeps (lay_out_by limit s (length list)) (all_bends s ++ drop (3 * points s) list) list r (sym e)

  pub done_list : lay_out_by limit s (length list) ≡ done → laid_out_by limit s list ≡ all_bends s ++ drop (3 * points s) list
  unfolding laid_out_by
  done_list e = done_changes (lay_out_by limit s (length list)) (all_bends s ++ drop (3 * points s) list) list (ap (λ (t : Told). t.number) e)
