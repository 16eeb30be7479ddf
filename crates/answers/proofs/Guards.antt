-- A call's tests and what it leaves, once for all calls: one test in its chain (specs/Answers), reading in front of it (A8), and what was lent, by its number
-- (A9). For every later crate.
use mathlib.Core.Path.{◌≡◌, refl, sym, ap, ◌∙◌}
use mathlib.Core.Bool.{Bool, true, false, cond}
use mathlib.Core.List.{List}
use mathlib.Core.Logic.{⊎_elim}
use Prim.Native.Nat.{ℕ, ◌≤◌}
use native.Mathlib.Omega.{arith}
use lib.Dec.{eqb}
use borrow.Author.Tests.{eq-eqb, ne_eqb}
use Rattle.sheet.specs.Answers.{Told, refused, read_course}
use Rattle.sheet.specs.Fields.{points}
use Rattle.sheet.specs.Reading.{Accepted, most_points, read_by, read_sheet}
use Rattle.ends.specs.declared.EndKind.{EndKind}
use Rattle.std.specs.Prelude.{Err}
use Rattle.sheet.specs.declared.Refusal.{Refusal}
use Rattle.sheet.proofs.Laws.{within_read, read_or_refused, accepted_bounds}
use Rattle.sheet.proofs.Told.{number_positive}
use Rattle.answers.specs.Answers.{pass_on, guard}

pub never_zero : (r : Refusal) {X : Type 0} → (refused r).number ≡ 0 → X
never_zero r e = absurd (omega (arith, number_positive r))

-- ---- a test that applies, one that does not, and one of a call that is not refused
pub stopped : (b : Bool) (r : Refusal) (rest : Told) → b ≡ true → refused r ≡ guard b r rest
stopped b r rest e = sym (ap (λ (x : Bool). guard x r rest) e)

pub passed : (b : Bool) (r : Refusal) (rest : Told) → b ≡ false → rest ≡ guard b r rest
passed b r rest e = sym (ap (λ (x : Bool). guard x r rest) e)

pub not_refused : (b : Bool) (r : Refusal) (rest : Told) → (guard b r rest).number ≡ 0 → (b ≡ false) × (rest.number ≡ 0)
not_refused true r rest e = never_zero r e
not_refused false r rest e = (refl, e)

-- ---- reading in front of a call's tests (A8), by any limit: its refusal, a course that it reads, and an accepted sheet
module _ (limit : ℕ) (s : List ℕ) where
  pub passed_on : (r : Refusal) (rest : Told) → read_by limit s ≡ Err r → refused r ≡ pass_on (read_by limit s) rest
  passed_on r rest e = sym (ap (λ x. pass_on x rest) e)

  pub opened_on : {k : EndKind} {n p : ℕ} (rest : Told) → read_by limit s ≡ read_course k n p → rest ≡ pass_on (read_by limit s) rest
  opened_on rest e = sym (ap (λ x. pass_on x rest) e)

  pub within_on : Accepted s → points s ≤ limit → (rest : Told) → rest ≡ pass_on (read_by limit s) rest
  within_on a h rest = sym (ap (λ x. pass_on x rest) (within_read limit s a h))

-- ---- at the station: an accepted sheet, which is always within its limit, and a call that is not refused
module _ (s : List ℕ) where
  pub read_on : Accepted s → (rest : Told) → rest ≡ pass_on (read_sheet s) rest
  read_on a rest = within_on most_points s a (accepted_bounds s a).few rest

  pub not_passed_on : (rest : Told) → (pass_on (read_sheet s) rest).number ≡ 0 → Accepted s × (rest.number ≡ 0)
  not_passed_on rest z =
      ⊎_elim
      (λ a. (a.0, sym (ap (λ x. (pass_on x rest).number) a.1) ∙ z))
      (λ a. never_zero a.0 (sym (ap (λ x. (pass_on x rest).number) a.1.answer) ∙ z))
      (read_or_refused most_points s)

-- ---- what is left: the new where the call is done, the old where it is refused
module _ {A : Type 0} (t : Told) (new old : A) where
  pub done_changes : t.number ≡ 0 → cond (eqb t.number 0) new old ≡ new
  done_changes e = ap (λ (b : Bool). cond b new old) (eq-eqb t.number 0 e)

  pub number_keeps : (t.number ≡ 0 → ⊥) → cond (eqb t.number 0) new old ≡ old
  number_keeps h = ap (λ (b : Bool). cond b new old) (ne_eqb t.number 0 h)

  pub refused_keeps : (r : Refusal) → refused r ≡ t → cond (eqb t.number 0) new old ≡ old
  refused_keeps r e = number_keeps (λ z. never_zero r (ap (λ (u : Told). u.number) e ∙ z))
