-- Pass after pass over an axis (src/pass.rt, `lay_axis`): one more, as many numbers as waypoints, and the early end.
use mathlib.Core.Path.{◌≡◌, sym, ◌∙◌, ap}
use mathlib.Core.List.{List}
use Prim.Native.Nat.{ℕ, ◌+◌, ◌≤◌}
use native.Mathlib.Numerals.{add-one}
use lib.IntN.{ℤ, pos}
use lib.ListN.{length, replicate, length-replicate}
use Rattle.sheet.specs.Fields.{points}
use Rattle.systems.specs.Passes.{pass}
use Rattle.systems.specs.Rows.{Rows}
use Rattle.systems.proofs.Lists.{length_passes, passes_next, early_end}
use Rattle.spline.specs.Spline.{rows, bends}
use Rattle.layout.specs.Course.{course}
use Rattle.layout.specs.Inside.{after_passes}

module _ (s : List ℕ) (axis : ℕ) where
  abbrev R : Rows
  R = rows (course s axis)

  abbrev zeros : List ℤ
  zeros = replicate (points s) (pos 0)

  pub passes_length : (m : ℕ) → length (after_passes s axis m) ≡ points s
  passes_length m = length_passes R 65536 m zeros ∙ length-replicate (points s) (pos 0)

  pub one_more : (m : ℕ) (z x : List ℤ) → z ≡ after_passes s axis m → x ≡ pass R 65536 z → x ≡ after_passes s axis (m + 1)
  one_more m z x e f = f ∙ ap (pass R 65536) e ∙ sym (ap (after_passes s axis) (add-one m) ∙ passes_next R 65536 m zeros)

  pub forty : (m : ℕ) (z : List ℤ) → z ≡ after_passes s axis m → m ≡ 40 → z ≡ bends (course s axis)
  unfolding course
  forty m z e q = e ∙ ap (after_passes s axis) q

  -- a pass that changed nothing
  pub settled : (m : ℕ) (z x : List ℤ) → m ≤ 40 → z ≡ after_passes s axis m → x ≡ pass R 65536 z → x ≡ z → x ≡ bends (course s axis)
  unfolding course
  settled m z x h e f same = same ∙ e ∙ sym (early_end R 65536 zeros m 40 h (ap (pass R 65536) (sym e) ∙ sym f ∙ same ∙ e))
