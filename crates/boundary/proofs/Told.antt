-- What is told of an answer decides what is written: its values where it has some, and nothing where it is a refusal.
use mathlib.Core.Path.{◌≡◌, refl, sym, ap, ◌∙◌}
use mathlib.Core.List.{List, [], ◌∷◌}
use lib.IntN.{ℤ, pos}
use Rattle.answers.proofs.Guards.{refused_keeps}
use Rattle.sheet.specs.Answers.{Told, refused}
use Rattle.sheet.specs.declared.Refusal.{Refusal}
use Rattle.sheet.specs.declared.Refusal.TheVariants.{Adrift}
use Rattle.boundary.specs.Written.{put, written_by, written}

-- tried, and for every one
kept_tried : written (refused Adrift) (pos 1 ∷ pos 2 ∷ pos 3 ∷ []) ≡ pos 1 ∷ pos 2 ∷ pos 3 ∷ []
unfolding written_by
kept_tried = refl

refused_written : {A : Type 0} (g : List ℤ → List A) (r : Refusal) (out : List A) → out ≡ written_by g (refused r) out
unfolding written_by
refused_written g r out = sym (refused_keeps (refused r) (put (g []) out) out r refl)

module _ {A : Type 0} (g : List ℤ → List A) (t : Told) (out : List A) where
  -- values that are told
  pub done_written : (values : List ℤ) → t ≡ record { number = 0; values = values } → put (g values) out ≡ written_by g t out
  unfolding written_by
  done_written values e = sym (ap (λ (u : Told). written_by g u out) e)

  -- and a refusal
  pub kept_written : (r : Refusal) → t ≡ refused r → out ≡ written_by g t out
  kept_written r e = refused_written g r out ∙ sym (ap (λ (u : Told). written_by g u out) e)
