-- `of_accepted`: 3 does not apply to an accepted sheet, so its kind's number has a kind.
use Rattle.std.proofs.Common.{◌≡◌, ◌≤◌, ◌∙◌, ℕ, zero, suc, List, [], ◌∷◌, refl, arith}
use Rattle.std.specs.Result.{IsOk}
use borrow.Author.Tests.{ltb-false}
use Rattle.ends.specs.Ends.{kind_named}
use Rattle.sheet.specs.Bytes.{be16}
use Rattle.sheet.specs.Fields.{kind_field}
use Rattle.sheet.specs.declared.Refusal.TheVariants.{Ends}
use Rattle.answers.proofs.opened.OpenSheet.of_accepted.Goals as goal
use Rattle.answers.proofs.opened.OpenSheet.of_accepted.Goals.{After-read16, After-try_from}

-- tried at the head of a closed sheet of 3 waypoints: 3, and the kind's number 2
abbrev head : List ℕ
head = 0 ∷ 0 ∷ 0 ∷ 50 ∷ 1 ∷ 2 ∷ 0 ∷ 3 ∷ []

points_tried : (c : After-read16) → c.args.s.now ≡ head → c.read16.result ≡ 3
unfolding be16
points_tried c h = c.read16.ensures.0 ∙ rw h refl

kind_tried : (c : After-try_from) → c.args.s.now ≡ head → c.from.result ≡ 2
kind_tried c h = c.from.ensures ∙ rw h refl

has_kind : (n : ℕ) → n ≤ 2 → IsOk (kind_named n)
has_kind zero h = refl
has_kind (suc zero) h = refl
has_kind (suc (suc zero)) h = refl
has_kind (suc (suc (suc n))) h = absurd (omega arith)

pub unwrap-requires : goal.unwrap-requires
unwrap-requires c =
    let few = ltb-false 2 (kind_field c.args.s.now) (c.requires Ends (omega arith)) in
    rw c.try_from.ensures (has_kind _ (omega (arith, few, c.from.ensures)))
