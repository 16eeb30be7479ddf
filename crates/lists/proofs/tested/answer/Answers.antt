-- `answer`: each count is tested as the definition asks, and the numbers' tests decide the rest.
use Rattle.std.proofs.Common.{◌≡◌, ◌∙◌, ℕ, ap, sym, arith}
use Rattle.ends.specs.Ends.{leg_count, least_points}
use Rattle.ends.specs.declared.EndKind.{EndKind}
use Rattle.sheet.specs.Fields.{sheet_length}
use Rattle.lists.specs.Lists.{Lists, kind_in, points_in, slope_count, size_of}
use Rattle.lists.specs.Lent.{lent}
use Rattle.lists.specs.Answer.{write_numbers}
use Rattle.lists.proofs.Named.{named, unnamed, told_ends}
use Rattle.lists.proofs.Tests.{kind_stops, low_stops, high_stops, waypoints_stop, legs_stop, slopes_stop, counts_passed}
use Rattle.lists.proofs.tested.answer.Goals as goal

-- what the kind that was read gives
least_of : {k : EndKind} {a : ℕ} (l : Lists) → k ≡ kind_in l → a ≡ least_points k → a ≡ least_points (kind_in l)
least_of l e f = f ∙ ap least_points e

legs_of : {k : EndKind} {a : ℕ} (l : Lists) → k ≡ kind_in l → a ≡ leg_count k (points_in l.waypoints) → a ≡ leg_count (kind_in l) (points_in l.waypoints)
legs_of l e f = f ∙ ap (λ (x : EndKind). leg_count x (points_in l.waypoints)) e

slopes_of : {k : EndKind} {a : ℕ} (l : Lists) → k ≡ kind_in l → a ≡ slope_count k → a ≡ slope_count (kind_in l)
slopes_of l e f = f ∙ ap slope_count e

size_is : {k : EndKind} {a : ℕ} (l : Lists) → k ≡ kind_in l → a ≡ sheet_length k (points_in l.waypoints) → a ≡ size_of l
size_is l e f = f ∙ ap (λ (x : EndKind). sheet_length x (points_in l.waypoints)) e

pub returns-in_err-kind : goal.returns-in_err-kind
returns-in_err-kind c =
    let a = c.args in told_ends c.from_residual.result c.from_residual.ensures.1 ∙ kind_stops (lent a.course.now) a.room (unnamed a.course.now.kind c.in_err-kind.ensures)

pub returns-then-n-least_points : goal.returns-then-n-least_points
returns-then-n-least_points c =
    let a = c.args in let l = lent a.course.now in
    let k = named l.kind c.in_ok-kind.ensures in let least = least_of l k.1 c.least_points.ensures in
    low_stops l a.room k.0 (omega arith)

pub returns-then-n-gt-MOST_POINTS : goal.returns-then-n-gt-MOST_POINTS
returns-then-n-gt-MOST_POINTS c =
    let a = c.args in let l = lent a.course.now in
    let k = named l.kind c.in_ok-kind.ensures in let least = least_of l k.1 c.least_points.ensures in
    high_stops l a.room k.0 (omega arith) (omega arith)

pub returns-then-count-n : goal.returns-then-count-n
returns-then-count-n c =
    let a = c.args in let l = lent a.course.now in
    let k = named l.kind c.in_ok-kind.ensures in let least = least_of l k.1 c.least_points.ensures in
    waypoints_stop l a.room k.0 (omega arith) c.if-n-gt-MOST_POINTS.false (λ e. omega arith)

pub returns-then-course-leg_count : goal.returns-then-course-leg_count
returns-then-course-leg_count c =
    let a = c.args in let l = lent a.course.now in
    let k = named l.kind c.in_ok-kind.ensures in let least = least_of l k.1 c.least_points.ensures in
    legs_stop l a.room k.0 (omega arith) c.if-n-gt-MOST_POINTS.false (omega arith)
    (λ q. c.if-course-leg_count.true (q ∙ sym (legs_of l k.1 c.leg_count.ensures)))

pub returns-then-course-slope_count : goal.returns-then-course-slope_count
returns-then-course-slope_count c =
    let a = c.args in let l = lent a.course.now in
    let k = named l.kind c.in_ok-kind.ensures in let least = least_of l k.1 c.least_points.ensures in
    slopes_stop l a.room k.0 (omega arith) c.if-n-gt-MOST_POINTS.false (omega arith)
    (c.if-course-leg_count.false ∙ legs_of l k.1 c.leg_count.ensures)
    (λ q. c.if-course-slope_count.true (q ∙ sym (slopes_of l k.1 c.slope_count.ensures)))

pub returns : goal.returns
returns c =
    let a = c.args in let l = lent a.course.now in let k = named l.kind c.in_ok-kind.ensures in
    let least = least_of l k.1 c.least_points.ensures in
    c.answer_numbers.ensures
    ∙ ap (λ (n : ℕ). write_numbers n l.legs l.waypoints l.slopes a.room) (size_is l k.1 c.sheet_length.ensures)
    ∙ counts_passed l a.room k.0 (omega arith) c.if-n-gt-MOST_POINTS.false (omega arith)
    (c.if-course-leg_count.false ∙ legs_of l k.1 c.leg_count.ensures) (c.if-course-slope_count.false ∙ slopes_of l k.1 c.slope_count.ensures)
