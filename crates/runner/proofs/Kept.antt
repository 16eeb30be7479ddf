-- What number 0 tells of step and back alike: 1 to 8, 11 and the test of the call's own have passed, and the answer is the runner moved. So the number tells
-- what a lent record holds afterwards. For the two lent forms and for Restored.
use mathlib.Core.Path.{◌≡◌, refl, sym, ap, ◌∙◌}
use mathlib.Core.Bool.{Bool, true, false, cond}
use mathlib.Core.List.{List}
use Prim.Native.Nat.{ℕ, ◌≤◌}
use lib.Dec.{eqb}
use lib.IntN.{pos, nat_abs}
use lib.ListN.{get_or}
use Rattle.answers.specs.Answers.{done, bare, pass_on, guard}
use Rattle.answers.proofs.Guards.{never_zero, done_changes, refused_keeps}
use Rattle.std.specs.Prelude.{Result, Ok, Err}
use Rattle.sheet.specs.Answers.{Told, Reading, refused}
use Rattle.sheet.specs.Fields.{points}
use Rattle.sheet.specs.Reading.{Accepted, read_by}
use Rattle.sheet.specs.declared.Refusal.{Refusal}
use Rattle.sheet.specs.declared.Refusal.TheVariants.{Adrift}
use Rattle.sheet.proofs.Laws.{within_read, read_accepted}
use Rattle.runner.specs.Ticks.{runner, at_lap, found, told_runner, left}
use Rattle.runner.specs.Steps.{adrift}
use Rattle.runner.specs.declared.Runner.{Runner}

-- the definition of step and back: b is the test of the call's own, of number q, and m the runner moved
abbrev pub Chain : ℕ → List ℕ → Runner → Bool → Refusal → Runner → Told
Chain limit s r b q m = pass_on (read_by limit s) (guard (adrift s r) Adrift (guard b q (found m)))

pub record Passed (limit : ℕ) (s : List ℕ) (r : Runner) (b : Bool) : Type 0 where
  pub accepted : Accepted s
  pub within : points s ≤ limit
  pub fits : adrift s r ≡ false
  pub free : b ≡ false

passed_by : (limit : ℕ) (s : List ℕ) (r : Runner) (b : Bool) (q : Refusal) (m : Runner) (answer : Reading) (a c : Bool) → read_by limit s ≡ answer → adrift s r ≡ a → b ≡ c
    → (pass_on answer (guard a Adrift (guard c q (found m)))).number ≡ 0 → Passed limit s r b
passed_by limit s r b q m (Err w) a c read off own e = never_zero w e
passed_by limit s r b q m (Ok x) true c read off own e = never_zero Adrift e
passed_by limit s r b q m (Ok x) false true read off own e = never_zero q e
passed_by limit s r b q m (Ok x) false false read off own e =
    let a = read_accepted limit s x.kind x.points x.ticks read in
    record { accepted = a.0; within = a.4; fits = off; free = own }

module _ (limit : ℕ) (s : List ℕ) (r : Runner) (b : Bool) (q : Refusal) (m : Runner) where
  pub has_passed : (Chain limit s r b q m).number ≡ 0 → Passed limit s r b
  has_passed = passed_by limit s r b q m (read_by limit s) (adrift s r) b refl refl refl

  pub answers_moved : Passed limit s r b → Chain limit s r b q m ≡ found m
  answers_moved p = simp (within_read limit s p.accepted p.within, p.fits, p.free)

-- two runners that are told alike are the same
found_injective : (a b : Runner) → found a ≡ found b → a ≡ b
found_injective a b e =
    let x : a.leg ≡ b.leg = ap (λ (t : Told). nat_abs (get_or t.values 0 (pos 0))) e in
    let y : a.offset ≡ b.offset = ap (λ (t : Told). nat_abs (get_or t.values 1 (pos 0))) e in
    let z : a.laps ≡ b.laps = ap (λ (t : Told). nat_abs (get_or t.values 2 (pos 0))) e in
    λ i. at_lap (z i) (runner (x i) (y i))

-- an answer by value that is told as the chain leaves the record that the chain's number names
pub kept_left : (limit : ℕ) (s : List ℕ) (r : Runner) (b : Bool) (q : Refusal) (m : Runner) (answer : Result Runner Refusal) → told_runner answer ≡ Chain limit s r b q m
    → left answer r ≡ cond (eqb (Chain limit s r b q m).number 0) m r
kept_left limit s r b q m (Ok next) e =
    let zero_number : (Chain limit s r b q m).number ≡ 0 = ap (λ (t : Told). t.number) (sym e) in
    found_injective next m (e ∙ answers_moved limit s r b q m (has_passed limit s r b q m zero_number)) ∙ sym (done_changes (Chain limit s r b q m) m r zero_number)
kept_left limit s r b q m (Err w) e = sym (refused_keeps (Chain limit s r b q m) m r w e)

-- .. so the lent form, which tells it without its values, tells and leaves what it is to: where it is done, and where it is refused (A7, A9)
module _ (limit : ℕ) (s : List ℕ) (r : Runner) (b : Bool) (q : Refusal) (m : Runner) where
  pub lent_done : (next : Runner) → found next ≡ Chain limit s r b q m
      → (done ≡ bare (Chain limit s r b q m)) × (next ≡ cond (eqb (Chain limit s r b q m).number 0) m r)
  lent_done next e = (ap bare e, kept_left limit s r b q m (Ok next) e)

  pub lent_refused : (w : Refusal) → refused w ≡ Chain limit s r b q m
      → (refused w ≡ bare (Chain limit s r b q m)) × (r ≡ cond (eqb (Chain limit s r b q m).number 0) m r)
  lent_refused w e = (ap bare e, kept_left limit s r b q m (Err w) e)
