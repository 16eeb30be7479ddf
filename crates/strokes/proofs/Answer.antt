-- What the answers tell and leave, for the returns of the functions that answer.
use mathlib.Core.Path.{◌≡◌, sym, ap, ◌∙◌}
use mathlib.Core.List.{List, [], ◌∷◌, ◌++◌}
use Prim.Native.Nat.{ℕ, ◌+◌, ◌≤◌}
use native.Mathlib.Omega.{arith}
use borrow.Author.Tests.{le-ltb}
use lib.IntN.{ℤ, pos}
use lib.ListN.{length, drop}
use lib.Seq.{sets, sets-eq}
use Rattle.sheet.specs.Answers.{Told, refused}
use Rattle.sheet.specs.declared.Refusal.{Refusal}
use Rattle.answers.proofs.Guards.{refused_keeps}
use Rattle.strokes.specs.Strokes.{stroke_ends, ink_or_ends, left_by}
pub use Rattle.strokes.proofs.Worked as worked

-- a refusal leaves the list as it was
pub refused_by : (r : Refusal) {t : Told} (ends out : List ℕ) → refused r ≡ t → (refused r ≡ t) × (out ≡ left_by t ends out)
refused_by r {t} ends out e = (e, sym (refused_keeps t (ends ++ drop (length ends) out) out r e))

module _ (s : List ℕ) (list : List ℤ) (t : ℕ) (out : List ℕ) where
  pub ends_told : length (stroke_ends s list t) ≤ length out
      → ◌≡◌ {A = Told} (record { number = 0; values = pos (length (stroke_ends s list t)) ∷ [] }) (ink_or_ends s list t (length out))
  ends_told h = simp (le-ltb (length out) (length (stroke_ends s list t)) h)

  pub ends_left : length (stroke_ends s list t) ≤ length out
      → sets out 0 (stroke_ends s list t) ≡ left_by (ink_or_ends s list t (length out)) (stroke_ends s list t) out
  ends_left h =
      let ends = stroke_ends s list t in
      let e : 0 + length ends ≡ length ends = omega arith in
      sets-eq ends out 0 (omega arith) ∙ ap (λ k. ends ++ drop k out) e ∙ ap (λ x. left_by x ends out) (ends_told h)
