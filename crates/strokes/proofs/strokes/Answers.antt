-- `strokes`: each return is a link of the definition's chain, with the tests that led there.
use Rattle.std.proofs.Common.{◌≡◌, ◌∙◌, Bool, Err, ℕ, ℤ, List, length, sym, ap, rules, nat_abs, refl, w64}
use mir.Val.{SFits}
use Rattle.integers.proofs.Machine.{back}
use Rattle.integers.proofs.Made.{read}
use Rattle.sheet.specs.Answers.{refused}
use Rattle.sheet.specs.Reading.{most_points}
use Rattle.sheet.specs.declared.Refusal.TheVariants.{Grain, Bend}
use Rattle.answers.specs.Answers.{told_count}
use Rattle.answers.proofs.Guards.{passed, stopped}
use Rattle.runner.proofs.Entry.{not_opened}
use Rattle.place.proofs.Entry.{shelf_refused, let_on, bytes_are}
use Rattle.strokes.specs.Strokes.{grain_outside, any_bend, stroke_ends, strokes_answer, drawn_into, left_by, ink_or_ends}
use Rattle.strokes.proofs.Answer.{refused_by}
use Rattle.strokes.proofs.strokes.Goals as goal

pub returns-in_default : goal.returns-in_default
unfolding strokes_answer drawn_into
returns-in_default c =
    let a = c.args in
    let (told, ends) = refused_by c.unwrap_err.result (stroke_ends a.s.now a.list.now (nat_abs a.tolerance)) a.ends.now
    (not_opened most_points a.s.now _ _ _ c.open_with_sums-reading.ensures.answer c.unwrap_err.ensures) in
    record { told = told; ends = ends }

pub returns-in_err-laid : goal.returns-in_err-laid
unfolding strokes_answer drawn_into
returns-in_err-laid c =
    let a = c.args in let short = c.in_err-laid.ensures.err in
    let e : c.from_residual.result ≡ Err c.in_err-laid.field-0.0 = search rules in
    let (told, ends) = refused_by c.in_err-laid.field-0.0 (stroke_ends a.s.now a.list.now (nat_abs a.tolerance)) a.ends.now
    (ap refused short.0 ∙ shelf_refused most_points a.s.now a.list.now c.in-Ok.timed.sheet c.in-Ok.ensures.answer short.1 _) in
    record { told = ap told_count e ∙ told; ends = ends }

-- 21, asked of the number read back, is asked of the number
grain_said : (z : ℤ) → SFits w64 z → {b w : Bool} → b ≡ grain_outside (read z) → b ≡ w → grain_outside z ≡ w
grain_said z fits said is = sym (said ∙ ap grain_outside (back refl fits)) ∙ is

pub returns-then-grain_outside : goal.returns-then-grain_outside
unfolding strokes_answer drawn_into
returns-then-grain_outside c =
    let a = c.args in
    let grain = grain_said a.tolerance c.ranges.tolerance c.grain_outside.ensures c.if-grain_outside.true in
    let (told, ends) = refused_by Grain (stroke_ends a.s.now a.list.now (nat_abs a.tolerance)) a.ends.now
    (stopped _ Grain _ grain ∙ let_on most_points a.s.now a.list.now c.in-Ok.timed.sheet c.in-Ok.ensures.answer c.in_ok-laid.laid c.in_ok-laid.ensures.ok _) in
    record { told = told; ends = ends }

-- 12, asked of what was laid, is asked of what was lent
bend_said : {s t : List ℕ} {x y : List ℤ} → t ≡ s → y ≡ x → {b w : Bool} → b ≡ any_bend t y → b ≡ w → any_bend s x ≡ w
bend_said e f said is = sym (said ∙ (λ i. any_bend (e i) (f i))) ∙ is

pub returns-then-any_bend : goal.returns-then-any_bend
unfolding strokes_answer drawn_into
returns-then-any_bend c =
    let a = c.args in let o = c.in-Ok.ensures.answer in let l = c.in_ok-laid.ensures.ok in
    let same = bytes_are most_points a.s.now a.list.now c.in-Ok.timed.sheet o c.in_ok-laid.laid l in
    let grain = grain_said a.tolerance c.ranges.tolerance c.grain_outside.ensures c.if-grain_outside.false in
    let bend = bend_said same l.1 c.any_bend.ensures c.if-any_bend.true in
    let (told, ends) = refused_by Bend (stroke_ends a.s.now a.list.now (nat_abs a.tolerance)) a.ends.now
    (stopped _ Bend _ bend ∙ passed _ Grain _ grain ∙ let_on most_points a.s.now a.list.now c.in-Ok.timed.sheet o c.in_ok-laid.laid l _) in
    record { told = told; ends = ends }

pub returns : goal.returns
unfolding strokes_answer drawn_into
returns c =
    let a = c.args in let o = c.in-Ok.ensures.answer in let l = c.in_ok-laid.ensures.ok in let out = a.ends.now in
    let bytes = bytes_are most_points a.s.now a.list.now c.in-Ok.timed.sheet o c.in_ok-laid.laid l in
    let same : read a.tolerance ≡ a.tolerance = back refl c.ranges.tolerance in
    let grain = grain_said a.tolerance c.ranges.tolerance c.grain_outside.ensures c.if-grain_outside.false in
    let bend = bend_said bytes l.1 c.any_bend.ensures c.if-any_bend.false in
    let chain : ink_or_ends a.s.now a.list.now (nat_abs a.tolerance) (length out) ≡ strokes_answer a.s.now a.list.now a.tolerance (length out) =
    passed _ Bend _ bend ∙ passed _ Grain _ grain ∙ let_on most_points a.s.now a.list.now c.in-Ok.timed.sheet o c.in_ok-laid.laid l _ in record {
      told = c.draw.ensures.told ∙ (λ i. ink_or_ends (bytes i) (l.1 i) (nat_abs (same i)) (length out)) ∙ chain;
      ends = c.draw.ensures.ends
          ∙ (λ i. left_by (ink_or_ends (bytes i) (l.1 i) (nat_abs (same i)) (length out)) (stroke_ends (bytes i) (l.1 i) (nat_abs (same i))) out)
          ∙ ap (λ x. left_by x (stroke_ends a.s.now a.list.now (nat_abs a.tolerance)) out) chain;
    }
