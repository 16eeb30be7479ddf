-- `put_head`: version and end kind are the two bytes of 256 and the kind.
use Rattle.std.proofs.Common.{◌≡◌, ◌+◌, ◌/◌, ◌%◌, ◌≤◌, ◌++◌, ◌∷◌, [], ◌∙◌, ℕ, ap, refl, arith}
use Rattle.writer.specs.Sheets.{bytes16, bytes32}
use Rattle.writer.specs.Inside.{over}
use Rattle.writer.proofs.Over.{over_next}
use Rattle.writer.proofs.put.put_head.Goals as goal

two : (k : ℕ) → k ≤ 2 → bytes16 (256 + k) ≡ 1 ∷ k ∷ []
two k h = let e : (256 + k) / 256 % 256 ≡ 1 = omega arith in let f : (256 + k) % 256 ≡ k = omega arith in (λ i. e i ∷ f i ∷ [])

pub returns : goal.returns
returns c =
    let a = c.args in let l = a.out.now in
    let up = c.put-2.ensures ∙ over_next l 0 (bytes32 a.size) (bytes16 (256 + a.kind)) c.put.ensures refl (omega arith) in
    c.put-3.ensures
    ∙ over_next l 0 (bytes32 a.size ++ bytes16 (256 + a.kind)) (bytes16 a.n) up refl (omega arith)
    ∙ ap (λ k. over (bytes32 a.size ++ (k ++ bytes16 a.n)) 0 l) (two a.kind c.requires.1)
