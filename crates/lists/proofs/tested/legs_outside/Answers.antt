-- `legs_outside`: the question of a list's sixteens and of the legs behind them is that of the whole list.
use Rattle.std.proofs.Common.{◌≡◌, ◌∙◌, ◌||◌, sym, ap, length, drop, ◌/◌, ◌*◌, rules, tests}
use Rattle.std.specs.List.{list_any}
use Rattle.std.specs.Simd.{first_chunks}
use Rattle.std.proofs.lemmas.Iterator.{YieldsList-from_slice}
use Rattle.std.proofs.lemmas.Iterator.Search.{any_from_yields_List}
use Rattle.sheet.specs.Reading.{leg_outside}
use Rattle.lists.specs.Answer.{some_leg_outside}
use Rattle.lists.proofs.Questions.{any_is, blocks_is}
use Rattle.lists.proofs.tested.legs_outside.Goals as goal

pub returns-then-any : goal.returns-then-any
returns-then-any c =
    let legs = c.args.legs.now in let k = length legs / 16 in let rest = some_leg_outside (drop (k * 16) legs) in
    let asked : c.any.result ≡ list_any some_leg_outside (first_chunks 16 k legs) =
    any_from_yields_List some_leg_outside _ _ c.any.result c.any.ensures.ran (YieldsList-from_slice (first_chunks 16 k legs) cc) (λ x b q k. search (rules, tests)) in
    c.if-any.true ∙ ap (λ b. b || rest) (sym c.if-any.true ∙ asked) ∙ blocks_is leg_outside 16 k legs 0

pub returns-else-any : goal.returns-else-any
returns-else-any c =
    let legs = c.args.legs.now in let k = length legs / 16 in let rest = some_leg_outside (drop (k * 16) legs) in
    let asked : c.any.result ≡ list_any some_leg_outside (first_chunks 16 k legs) =
    any_from_yields_List some_leg_outside _ _ c.any.result c.any.ensures.ran (YieldsList-from_slice (first_chunks 16 k legs) cc) (λ x b q k. search (rules, tests)) in
    any_from_yields_List leg_outside _ _ c.any-else-any.result c.any-else-any.ensures.ran (YieldsList-from_slice (drop (k * 16) legs) cc) (λ x b q k. search (rules, tests))
    ∙ any_is leg_outside (drop (k * 16) legs) 0 ∙ ap (λ b. b || rest) (sym c.if-any.false ∙ asked) ∙ blocks_is leg_outside 16 k legs 0
