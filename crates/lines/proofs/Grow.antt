-- What is put in two turns is put as one.
use mathlib.Core.Path.{◌≡◌, subst, ap, ◌∙◌}
use mathlib.Core.List.{List, ◌++◌, append_assoc}
use Prim.Native.Nat.{ℕ}
use native.Mathlib.Omega.{arith}
use lib.ListN.{length-append, take}
use Rattle.lines.specs.Grown.{Grown}
use Rattle.lines.specs.declared.text.Text.{Text}

pub grown_as : {old new : Text} {more text : List ℕ} → more ≡ text → Grown old new more → Grown old new text
grown_as {old} {new} e g = subst (Grown old new) e g

pub grown_twice : {old middle new : Text} {first second text : List ℕ} → Grown old middle first → Grown middle new second → second ≡ text → Grown old new (first ++ text)
grown_twice {old} {middle} {new} {first} {second} {text} g h e = grown_as (ap (λ l. first ++ l) e) record {
  text = h.text ∙ ap (λ l. l ++ second) g.text ∙ append_assoc (take old.len old.bytes.now) first second;
  len = omega (arith, g.len, h.len, length-append first second);
  room = h.room ∙ g.room;
  same = h.same ∙ g.same;
}
