-- `put_joined`: a head, then four sections of the two sheets, each behind the one before.
use Rattle.std.proofs.Common.{◌≡◌, ◌+◌, ◌*◌, ◌-◌, ◌≤◌, ◌++◌, ◌∙◌, [], ◌∷◌, replicate, length, drop, length-append, length-drop, ap, refl, arith}
use mathlib.Core.List.{flat_map}
use lib.Seq.{length-take-le}
use Rattle.writer.specs.Sheets.{head_bytes, written_sheet}
use Rattle.writer.specs.Worked.{sheet_a}
use Rattle.writer.specs.Inside.{over}
use Rattle.writer.proofs.Over.{over_next}
use Rattle.join.specs.Worked.{onward}
use Rattle.join.proofs.Both.{both_in}
use Rattle.join.proofs.Course.{pair_bounds, pair_count, pair_size}
use Rattle.join.proofs.Sections.{head, legs₁, legs₂, points₁, points₂, in_sections}
use Rattle.join.proofs.put.put_joined.Goals as goal
use Rattle.join.proofs.put.put_joined.Goals.{After-copy_part-2, After-copy_part-4}

-- tried at A and the course that goes on from it (W15): A's legs come first, and the other's last waypoint behind A's
legs_tried : (c : After-copy_part-2) → let p = c.args.pair.now in
    p.first.bytes.now ≡ sheet_a → p.first.points ≡ 3 → p.second.bytes.now ≡ onward → p.second.points ≡ 2 → c.put_head.new.out ≡ replicate 14 7
    → c.copy_part-2.new.out ≡ replicate 8 7 ++ (0 ∷ 2 ∷ 0 ∷ 2 ∷ 0 ∷ 3 ∷ [])
unfolding over flat_map written_sheet
legs_tried c d e f g o = c.copy_part-2.ensures ∙ simp (c.copy_part.ensures, d, e, f, g, o) refl

last_tried : (c : After-copy_part-4) → let p = c.args.pair.now in
    p.first.points ≡ 3 → p.second.bytes.now ≡ onward → p.second.points ≡ 2 → c.copy_part-3.new.out ≡ replicate 62 7
    → c.copy_part-4.new.out ≡ replicate 50 7 ++ (0 ∷ 0 ∷ 0 ∷ 9 ∷ 0 ∷ 0 ∷ 0 ∷ 10 ∷ 0 ∷ 0 ∷ 0 ∷ 24 ∷ [])
unfolding over flat_map written_sheet
last_tried c e f g o = c.copy_part-4.ensures ∙ simp (e, f, g, o) refl

pub returns : goal.returns
returns c =
    let p = c.args.pair.now in let s = p.first.bytes.now in let n = p.first.points in let t = p.second.bytes.now in let m = p.second.points in
    let out = c.args.sheet.now in let f = both_in p in let b = pair_bounds p in
    let room : 8 + 2 * (n - 1) + 2 * (m - 1) + 12 * n + 12 * (m - 1) ≤ length out = omega (arith, pair_size p) in
    let H = head s n t m f in let A = legs₁ s n t m f in let B = legs₂ s n t m f in let C = points₁ s n t m f in let D = points₂ s n t m f in
    let la = length-take-le (2 * (n - 1)) (drop 8 s) (omega (arith, length-drop 8 s)) in
    let lb = length-take-le (2 * (m - 1)) (drop 8 t) (omega (arith, length-drop 8 t)) in
    let lc = length-take-le (12 * n) (drop (8 + 2 * (n - 1)) s) (omega (arith, length-drop (8 + 2 * (n - 1)) s)) in
    let two = length-append (H ++ A) B in let three = length-append ((H ++ A) ++ B) C in
    let count = c.points.ensures.count ∙ pair_count p in
    let e₀ = c.put_head.ensures ∙ (λ i. over (head_bytes (c.requires.0 i) 0 (count i)) 0 out) in
    let e₁ = c.copy_part.ensures ∙ over_next out 0 H A e₀ refl (omega arith) in
    let e₂ = c.copy_part-2.ensures ∙ over_next out 0 (H ++ A) B e₁ (omega arith) (omega arith) in
    let e₃ = c.copy_part-3.ensures ∙ over_next out 0 ((H ++ A) ++ B) C e₂ (omega arith) (omega arith) in
    c.copy_part-4.ensures
    ∙ over_next out 0 (((H ++ A) ++ B) ++ C) D e₃ (omega arith) (omega arith)
    ∙ ap (λ z. over z 0 out) (in_sections s n t m f p.first_bytes p.second_bytes)
