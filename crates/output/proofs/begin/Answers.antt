-- Each return is one of the cases of the output's definition.
use Rattle.std.proofs.Common.{◌≡◌, ◌∙◌, sym, ap, arith, rules}
use Rattle.std.specs.Prelude.{Err}
use Rattle.sheet.specs.declared.Refusal.TheVariants.{Torn}
use Rattle.sheet.proofs.Laws.{accepted_bounds}
use Rattle.sheet.specs.Fields.{ticks}
use Rattle.layout.specs.Layout.{laid_out}
use Rattle.output.proofs.Begun.{torn_output, read_output, refused_piece, header_piece, header_answered}
use Rattle.output.proofs.begin.Goals as goal

pub returns-then-input-gt-LONGEST_SHEET-clause-piece_of : goal.returns-then-input-gt-LONGEST_SHEET-clause-piece_of
returns-then-input-gt-LONGEST_SHEET-clause-piece_of c =
    refused_piece c.args.input.now c.args.list.now c.refused.new.out c.refused.result.bytes Torn c.refused.result.next c.refused.result.end
    c.refused.ensures (torn_output c.args.input.now (omega arith))

pub returns-in_default-clause-piece_of : goal.returns-in_default-clause-piece_of
returns-in_default-clause-piece_of c =
    let input = c.args.input.now in let r = c.unwrap_err.result in
    let same : c.in_default.field-0 ≡ r = cc in
    refused_piece input c.args.list.now c.refused-in_default.new.out c.refused-in_default.result.bytes r c.refused-in_default.result.next c.refused-in_default.result.end
    c.refused-in_default.ensures (read_output input (omega arith) (Err r) (sym (rw same at c.in_default.ensures.answer)))

pub overflow_add-result : goal.overflow_add-result
overflow_add-result c = let o = c.in-Ok.sheet in record { fits = omega (arith, (accepted_bounds o.sheet.bytes.now o.sheet.accepted).few_ticks, o.is_ticks) }

pub returns-clause-piece_of : goal.returns-clause-piece_of
returns-clause-piece_of c =
    let input = c.args.input.now in let o = c.in-Ok.sheet in let e = c.in-Ok.ensures.answer in let all = o.is_ticks ∙ ap ticks e.0 in
    header_piece input c.lay_out.new.list _ c.push.new.self.len o.sheet.kind o.sheet.points (ticks input) (omega arith) e.1
    (c.lay_out.ensures.list ∙ ap (laid_out input) c.requires.0) (search rules) (search rules) (omega (arith, all))

pub returns-clause-answered : goal.returns-clause-answered
returns-clause-answered c =
    let input = c.args.input.now in let o = c.in-Ok.sheet in let e = c.in-Ok.ensures.answer in let all = o.is_ticks ∙ ap ticks e.0 in
    header_answered input c.lay_out.new.list o.sheet.kind o.sheet.points (ticks input) e.1 (c.lay_out.ensures.list ∙ ap (laid_out input) c.requires.0) (omega (arith, all))
