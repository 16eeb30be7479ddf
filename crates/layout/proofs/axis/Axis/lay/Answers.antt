-- `lay`: after a pass that changed nothing the numbers are those of forty passes already, by `early_end` of crate systems.
use Rattle.std.proofs.Common.{◌≡◌, ◌∙◌, ℕ, length, pos, replicate, ap, arith, rules}
use Rattle.systems.specs.Passes.{passes}
use Rattle.layout.proofs.Passes.{one_more, forty, settled}
use Rattle.layout.proofs.axis.Axis.lay.Goals as goal

pub loop-init : goal.loop-init
unfolding passes
loop-init c =
    let zeros : c.fill.new.self ≡ replicate (length c.args.z.now) (pos 0) = search rules in
    zeros ∙ ap (λ (m : ℕ). replicate m (pos 0)) (c.requires ∙ c.args.self.now.sheet.is_points)

pub loop-preserved : goal.loop-preserved
loop-preserved c =
    let l = c.loop in let a = c.args.self.now in
    one_more a.sheet.bytes.now a.axis l.counter l.z _ l.invariant c.pass.ensures.numbers

pub returns-then-not-pass : goal.returns-then-not-pass
returns-then-not-pass c =
    let l = c.loop in let a = c.args.self.now in
    settled a.sheet.bytes.now a.axis l.counter l.z _ (omega arith) l.invariant c.pass.ensures.numbers (c.pass.ensures.settled c.if-not-pass.true)

pub returns : goal.returns
returns c = let a = c.args.self.now in forty a.sheet.bytes.now a.axis c.loop.counter c.loop.z c.loop.invariant (omega arith)
