-- `is_apart`: the two waypoints are compared axis by axis.
use Rattle.std.proofs.Common.{◌≡◌, ◌-◌, ◌∙◌, ℕ, not, int_eq, ap}
use Rattle.std.specs.Cmp.Lexicographic.{pointwise}
use Rattle.sheet.specs.Fields.{points, waypoint}
use Rattle.sheet.proofs.Below.{any_three}
use Rattle.join.specs.Joining.{differ}
use Rattle.join.proofs.Differ.{threes_differ}
use Rattle.join.proofs.shared.is_apart.Goals as goal

pub returns : goal.returns
returns c =
    let p = c.args.pair.now in let s = p.first.bytes.now in let t = p.second.bytes.now in let n = p.first.points in
    let last : (axis : ℕ) → waypoint s axis (n - 1) ≡ waypoint s axis (points s - 1) = λ axis. ap (λ k. waypoint s axis (k - 1)) p.first.is_points in
    c.ne.ensures ∙ (λ i. not (pointwise int_eq (c.waypoint.ensures i) (c.waypoint-2.ensures i)))
    ∙ threes_differ (waypoint s 0 (n - 1)) (waypoint s 1 (n - 1)) (waypoint s 2 (n - 1)) (waypoint t 0 0) (waypoint t 1 0) (waypoint t 2 0)
    ∙ any_three (λ axis. differ (waypoint s axis (points s - 1)) (waypoint t axis 0))
    (ap (λ z. differ z (waypoint t 0 0)) (last 0)) (ap (λ z. differ z (waypoint t 1 0)) (last 1)) (ap (λ z. differ z (waypoint t 2 0)) (last 2))
