-- `put_all`: N bytes more in each turn.
use Rattle.std.proofs.Common.{◌+◌, ◌*◌, ◌∙◌, ap, refl, sym, arith}
use mathlib.Core.List.{flat_map}
use Rattle.std.proofs.lemmas.List.{take_all}
use Rattle.std.proofs.lemmas.Option.{slice_get_read}
use Rattle.std.specs.Int.{bytes_high_first}
use Rattle.writer.specs.Inside.{over}
use Rattle.writer.proofs.Over.{over_none, length_high}
use Rattle.writer.proofs.Sections.{element_put}
use Rattle.writer.proofs.put.put_all.Goals as goal

pub loop-i-init : goal.loop-i-init
unfolding flat_map
loop-i-init g c f h = sym (over_none c.args.out.now c.args.from)

pub loop-i-preserved : goal.loop-i-preserved
loop-i-preserved g c f h =
    let l = c.loop-i in let a = c.args in let x = c.index-numbers-i.result in let n = g.row.N in
    let is = h l.i x c.bits.result (slice_get_read a.numbers.now _ l.i x refl (omega arith) c.index-numbers-i.is) c.bits.ensures ∙ ap f c.index-numbers-i.is in
    element_put (λ x. bytes_high_first n (f x)) n (λ x. length_high n (f x)) a.numbers.now a.from a.out.now l.i x (omega arith) c.requires.1
    (l.invariant f h) (c.put.ensures ∙ ap (λ k. over (bytes_high_first n k) (a.from + n * l.i) l.out) is)

pub returns : goal.returns
returns g c f h =
    let a = c.args in let l = c.loop-i in
    l.invariant f h ∙ ap (λ k. over (flat_map (λ x. bytes_high_first g.row.N (f x)) k) a.from a.out.now) (take_all l.i a.numbers.now (omega arith))
