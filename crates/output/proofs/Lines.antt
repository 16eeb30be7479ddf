-- One line more in the buffer is one line less to come.
use mathlib.Core.Path.{◌≡◌, sym, ap, subst, ◌∙◌}
use mathlib.Core.Bool.{cond}
use mathlib.Core.List.{List, [], ◌++◌, append_assoc}
use Prim.Native.Nat.{ℕ, suc, ◌+◌, ◌-◌, ◌<◌}
use native.Mathlib.Numerals.{add-one}
use native.Mathlib.Omega.{arith}
use lib.Dec.{eqb}
use lib.IntN.{ℤ}
use Rattle.place.specs.Places.{told_placed, place_at_tick}
use Rattle.place.specs.declared.Place.{Place}
use Rattle.sheet.specs.declared.Refusal.{Refusal}
use Rattle.std.specs.Prelude.{Result, Ok}
use Rattle.output.specs.Pieces.{PieceOf}
use Rattle.output.specs.Output.{line_of, line_at, lines_from}

module _ (s : List ℕ) (list : List ℤ) where
  pub lines_none : (end : ℕ) → lines_from s list end (end - end) ≡ []
  unfolding lines_from
  lines_none end = ap (λ k. lines_from s list end k) (let e : end - end ≡ 0 = omega arith in e)

  lines_step : (tick end : ℕ) → tick < end → lines_from s list tick (end - tick) ≡ line_at s list tick ++ lines_from s list (tick + 1) (end - (tick + 1))
  unfolding lines_from
  lines_step tick end h =
      ap (λ k. lines_from s list tick k) (let e : end - tick ≡ suc (end - (tick + 1)) = omega arith in e)
      ∙ ap (λ t. line_at s list tick ++ lines_from s list t (end - (tick + 1))) (sym (add-one tick))

  pub line_moved : (tick end : ℕ) (before text : List ℕ) {whole remains : List ℕ} → tick < end → before ++ lines_from s list tick (end - tick) ≡ remains
      → whole ≡ before ++ text → text ≡ line_at s list tick → whole ++ lines_from s list (tick + 1) (end - (tick + 1)) ≡ remains
  line_moved tick end before text h e w q =
      let later = lines_from s list (tick + 1) (end - (tick + 1)) in
      ap (λ l. l ++ later) w
      ∙ append_assoc before text later
      ∙ ap (λ l. before ++ (l ++ later)) q
      ∙ ap (λ l. before ++ l) (sym (lines_step tick end h))
      ∙ e

-- the line of an answered place
pub line_answered : (s : List ℕ) (list : List ℤ) (tick : ℕ) {answer : Result Place Refusal} (place : Place) → answer ≡ Ok place → told_placed answer ≡ place_at_tick s list tick
    → line_of tick place.at ≡ line_at s list tick
unfolding line_at
line_answered s list tick place done told = ap (λ t. cond (eqb t.number 0) (line_of tick t.values) []) (rw done at told)

-- where the last line is put, nothing is to come
pub ended : {s : List ℕ} {list : List ℤ} {buffer : List ℕ} {bytes next end : ℕ} {remains : List ℕ} → next ≡ end → PieceOf s list buffer bytes next end remains
    → PieceOf s list buffer bytes end end remains
ended {s} {list} {buffer} {bytes} {next} {end} {remains} e p = subst (λ k. PieceOf s list buffer bytes k end remains) e p
