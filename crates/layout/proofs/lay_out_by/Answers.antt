-- `lay_out_by`: the reader's answer tells whether the sheet is refused or accepted, and then the list's length decides.
use Rattle.std.proofs.Common.{◌≡◌, ◌*◌, ◌≤◌, ◌<◌, ◌∙◌, ◌++◌, ℕ, List, ℤ, Result, Err, length, drop, sym, ap, subst, arith}
use Rattle.sheet.specs.Answers.{read_course, refused}
use Rattle.sheet.specs.Fields.{points, ticks}
use Rattle.sheet.specs.Reading.{read_by, Accepted}
use Rattle.sheet.specs.declared.Refusal.{Refusal}
use Rattle.sheet.specs.declared.Refusal.TheVariants.{Shelf}
use Rattle.sheet.proofs.Laws.{read_accepted, accepted_bounds}
use Rattle.answers.specs.Answers.{Answered, done}
use Rattle.answers.specs.declared.opened.OpenSheet.{OpenSheet}
use Rattle.layout.specs.Layout.{all_bends, lay_out_by, laid_out_by}
use Rattle.layout.proofs.Outcomes.{refused_answer, short_answer, done_answer, refused_list, done_list}
use Rattle.layout.proofs.lay_out_by.Goals as goal

-- where reading refuses
refused_read : (limit : ℕ) (s : List ℕ) {reading : Result OpenSheet Refusal} {r : Refusal} → Answered (read_by limit s) s reading → reading ≡ Err r
    → read_by limit s ≡ Err r
refused_read limit s told e = subst (Answered (read_by limit s) s) e told

pub returns-in_default-clause-answer : goal.returns-in_default-clause-answer
returns-in_default-clause-answer c =
    let a = c.args in sym (refused_answer a.limit a.s.now (length a.list.now) c.unwrap_err.result (refused_read a.limit a.s.now c.open-reading.ensures c.unwrap_err.ensures))

pub returns-in_default-clause-list : goal.returns-in_default-clause-list
returns-in_default-clause-list c =
    let a = c.args in let r = c.unwrap_err.result in
    sym (refused_list a.limit a.s.now a.list.now r (refused_answer a.limit a.s.now (length a.list.now) r (refused_read a.limit a.s.now c.open-reading.ensures c.unwrap_err.ensures)))

-- where the sheet is open, and a list is lent
module _ (limit : ℕ) (s : List ℕ) (sheet : OpenSheet) (read : read_by limit s ≡ read_course sheet.kind sheet.points (ticks s)) (list : List ℤ) where
  accepted : Accepted s × (sheet.points ≡ points s) × (points s ≤ limit)
  accepted = let (a, same_kind, same_points, same_ticks, within) = read_accepted limit s _ _ _ read in (a, same_points, within)

  short : length list < 3 * sheet.points → (lay_out_by limit s (length list) ≡ refused Shelf) × (laid_out_by limit s list ≡ list)
  short h =
      let (a, same, within) = accepted in
      let e = short_answer limit s (length list) a within (omega (arith, same)) in (e, refused_list limit s list Shelf e)

  room : 3 * sheet.points ≤ length list
      → (lay_out_by limit s (length list) ≡ done) × (laid_out_by limit s list ≡ all_bends s ++ drop (3 * sheet.points) list)
  room h =
      let (a, same, within) = accepted in
      let e = done_answer limit s (length list) a within (omega (arith, same)) in
      (e, done_list limit s list e ∙ ap (λ (m : ℕ). all_bends s ++ drop (3 * m) list) (sym same))

pub overflow_mul-sheet : goal.overflow_mul-sheet
overflow_mul-sheet c =
    let sheet = c.in-Ok.sheet in record { fits = omega (arith, sheet.is_points, (accepted_bounds sheet.bytes.now sheet.accepted).few) }

pub returns-then-list-sheet-clause-answer : goal.returns-then-list-sheet-clause-answer
returns-then-list-sheet-clause-answer c =
    let a = c.args in sym (short a.limit a.s.now c.in-Ok.sheet c.in-Ok.ensures.1 a.list.now c.if-list-sheet.true).0

pub returns-then-list-sheet-clause-list : goal.returns-then-list-sheet-clause-list
returns-then-list-sheet-clause-list c =
    let a = c.args in sym (short a.limit a.s.now c.in-Ok.sheet c.in-Ok.ensures.1 a.list.now c.if-list-sheet.true).1

pub returns-clause-answer : goal.returns-clause-answer
returns-clause-answer c =
    let a = c.args in sym (room a.limit a.s.now c.in-Ok.sheet c.in-Ok.ensures.1 a.list.now c.if-list-sheet.false).0

pub returns-clause-list : goal.returns-clause-list
returns-clause-list c =
    let a = c.args in let sheet = c.in-Ok.sheet in
    c.lay_axes.ensures
    ∙ ap (λ (s : List ℕ). all_bends s ++ drop (3 * sheet.points) a.list.now) c.in-Ok.ensures.0
    ∙ sym (room a.limit a.s.now sheet c.in-Ok.ensures.1 a.list.now c.if-list-sheet.false).1
