-- `put_sheet`: four runs of bytes, each behind the one before.
use Rattle.std.proofs.Common.{◌≡◌, ◌+◌, ◌*◌, ◌≤◌, ◌<◌, ◌++◌, ◌∙◌, ℕ, ℤ, List, pos, nat_abs, length, get_or, length-append, ap, refl, sym, arith, rules}
use mathlib.Core.List.{flat_map, append-nil}
use Rattle.std.specs.Int.{w64, cast_unsigned, bytes_high_first}
use Rattle.lists.specs.Lists.{points_in}
use Rattle.lists.specs.Lent.{lent}
use Rattle.writer.specs.Sheets.{number_bytes, head_bytes}
use Rattle.writer.specs.Inside.{over}
use Rattle.writer.proofs.Bytes.{low_bits}
use Rattle.writer.proofs.Sections.{flat_same}
use Rattle.writer.proofs.Parts.{head, leg_part, waypoint_part, slope_part, length_legs, length_waypoints, cut_slopes, size_is, each_small, slope_small}
use Rattle.writer.proofs.Over.{over_next}
use Rattle.writer.proofs.put.put_sheet.Goals as goal

-- numbers that are small are put as their 32 bits
numbers_put : (l : List ℤ) → ((i : ℕ) → i < length l → nat_abs (get_or l i (pos 0)) < 2147483648) → (at : ℕ) (out : List ℕ)
    → over (flat_map (λ z. bytes_high_first 4 (cast_unsigned w64 z)) l) at out ≡ over (flat_map number_bytes l) at out
numbers_put l h at out =
    ap (λ b. over b at out)
    (flat_same (λ z. bytes_high_first 4 (cast_unsigned w64 z)) number_bytes l (pos 0) (λ i k. low_bits (get_or l i (pos 0)) (h i k)))

pub returns : goal.returns
returns c =
    let a = c.args in let l = a.sheet.now in let k = lent a.course.now in let w = c.requires.0 in
    let room : 8 + 2 * length k.legs + 4 * length k.waypoints + 4 * length k.slopes ≤ length l = omega (arith, size_is k w) in
    let legs = length_legs k in let waypoints = length_waypoints k in
    let e = c.put_head.ensures ∙ ap (λ n. over (head_bytes n k.kind (points_in k.waypoints)) 0 l) c.requires.1 in
    let f = c.put_all.ensures (λ x. x) (λ i x r at p. search rules) ∙ over_next l 0 (head k) (leg_part k) e refl (omega arith) in
    let g =
    c.put_all-2.ensures (cast_unsigned w64) (λ i z r at p. search rules) ∙ numbers_put k.waypoints (each_small k w) _ _
    ∙ over_next l 0 (head k ++ leg_part k) (waypoint_part k) f (omega arith) (omega arith) in
    let i = length-append (head k ++ leg_part k) (waypoint_part k) in
    c.put_all-3.ensures (cast_unsigned w64) (λ i z r at p. search rules) ∙ numbers_put k.slopes (slope_small k w) _ _
    ∙ over_next l 0 ((head k ++ leg_part k) ++ waypoint_part k) (slope_part k) g (omega arith) (omega arith)
    ∙ ap (λ x. over x 0 l) (ap (λ r. ((head k ++ leg_part k) ++ waypoint_part k) ++ r) (sym (append-nil (slope_part k))) ∙ sym (cut_slopes k))
