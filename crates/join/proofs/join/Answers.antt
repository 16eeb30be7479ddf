-- `join`: each return is a link of the chain (Chain), and the slice is written only behind the last one.
-- (Where an edited program fails by its numbers stands before where it fails by a name.)
use Rattle.std.proofs.Common.{◌≡◌, ◌||◌, ◌∙◌, ℕ, Bool, List, Result, Ok, Err, true, false, length, ap, refl, sym, subst, arith}
use borrow.Author.Tests.{lt-ltb, le-ltb}
use Rattle.ends.specs.declared.EndKind.TheVariants.{Free, Held}
use Rattle.sheet.specs.Answers.{Told}
use Rattle.sheet.specs.Fields.{sheet_length}
use Rattle.sheet.specs.Reading.{Accepted, most_points, read_sheet}
use Rattle.sheet.specs.declared.Refusal.{Refusal}
use Rattle.sheet.specs.declared.Refusal.TheVariants.{Page, Shut, Apart, Crowded}
use Rattle.answers.specs.Answers.{Answered, told_count}
use Rattle.answers.specs.declared.opened.OpenSheet.{OpenSheet}
use Rattle.answers.proofs.Guards.{passed_on}
use Rattle.lists.specs.Lists.{points_in, size_of}
use Rattle.join.specs.Joining.{is_shut, shut, apart, joined_lists, join_sheets, joined_into}
use Rattle.join.proofs.Chain.{after_first, shut_stops, apart_stops, crowded_stops, page_stops, all_passed, kept, left_joined}
use Rattle.join.proofs.join.Goals as goal
use Rattle.join.proofs.join.Goals.{After-is_shut-2, Else-is_apart}

-- tried at a free first and a held second: one of them is shut
second_tried : (c : After-is_shut-2) → c.in-Ok.first.kind ≡ Free → c.in-Ok-other.second.kind ≡ Held → (c.is_shut.result || c.is_shut-2.result) ≡ true
second_tried c e f = simp (c.is_shut.ensures, c.is_shut-2.ensures, e, f) refl

-- where reading refuses
refused_read : (s : List ℕ) {reading : Result OpenSheet Refusal} {r : Refusal} → Answered (read_sheet s) s reading → reading ≡ Err r → read_sheet s ≡ Err r
refused_read s told e = subst (Answered (read_sheet s) s) e told

-- an answer about the bytes of the open sheets is one about the bytes that were lent
module _ {s t s' t' : List ℕ} (e : s' ≡ s) (f : t' ≡ t) (out : List ℕ) where
  lent : {a : Told} {o : List ℕ} → (a ≡ join_sheets s' t' (length out)) × (o ≡ joined_into s' t' out)
      → (a ≡ join_sheets s t (length out)) × (o ≡ joined_into s t out)
  lent k = (k.0 ∙ (λ i. join_sheets (e i) (f i) (length out)), k.1 ∙ (λ i. joined_into (e i) (f i) out))

-- 16 is asked of both kinds
asked : (first second : OpenSheet) {a b : Bool} → a ≡ is_shut first.kind → b ≡ is_shut second.kind → (a || b) ≡ shut first.bytes.now second.bytes.now
asked first second x y = (λ z. (x ∙ ap is_shut first.is_kind) z || (y ∙ ap is_shut second.is_kind) z)

pub returns-in_default : goal.returns-in_default
unfolding join_sheets
returns-in_default c =
    let s = c.args.first.now in let r = c.unwrap_err.result in
    let k = kept s c.args.second.now c.args.sheet.now r (passed_on most_points s r _ (refused_read s c.open-reading.ensures c.unwrap_err.ensures)) in
    record { answer = k.0; sheet = k.1 }

pub returns-in_default-other : goal.returns-in_default-other
returns-in_default-other c =
    let s = c.args.first.now in let t = c.args.second.now in let out = c.args.sheet.now in let r = c.unwrap_err-in_default-other.result in
    let accepted = subst Accepted c.in-Ok.ensures.0 c.in-Ok.first.accepted in
    let k = kept s t out r (passed_on most_points t r _ (refused_read t c.open-other.ensures c.unwrap_err-in_default-other.ensures) ∙ after_first s t (length out) accepted) in
    record { answer = k.0; sheet = k.1 }

pub returns-then-is_shut : goal.returns-then-is_shut
returns-then-is_shut c =
    let first = c.in-Ok.first in let second = c.in-Ok-other.second in let s = first.bytes.now in let t = second.bytes.now in let out = c.args.sheet.now in
    let shut = sym (asked first second c.is_shut.ensures c.is_shut-2.ensures) ∙ c.if-is_shut.true in
    let k = lent c.in-Ok.ensures.0 c.in-Ok-other.ensures.0 out (kept s t out Shut (shut_stops s t (length out) first.accepted second.accepted shut)) in
    record { answer = k.0; sheet = k.1 }

pub returns-then-is_apart : goal.returns-then-is_apart
returns-then-is_apart c =
    let first = c.in-Ok.first in let second = c.in-Ok-other.second in let s = first.bytes.now in let t = second.bytes.now in let out = c.args.sheet.now in
    let free = sym (asked first second c.is_shut.ensures c.is_shut-2.ensures) ∙ c.if-is_shut.false in
    let e = apart_stops s t (length out) first.accepted second.accepted free (sym c.is_apart.ensures ∙ c.if-is_apart.true) in
    let k = lent c.in-Ok.ensures.0 c.in-Ok-other.ensures.0 out (kept s t out Apart e) in
    record { answer = k.0; sheet = k.1 }

-- behind 17
module _ (c : Else-is_apart) where
  abbrev s : List ℕ
  s = c.in-Ok.first.bytes.now

  abbrev t : List ℕ
  t = c.in-Ok-other.second.bytes.now

  free : shut s t ≡ false
  free = sym (asked c.in-Ok.first c.in-Ok-other.second c.is_shut.ensures c.is_shut-2.ensures) ∙ c.if-is_shut.false

  meet : apart s t ≡ false
  meet = sym c.is_apart.ensures ∙ c.if-is_apart.false

pub returns-then-count-gt-MOST_POINTS : goal.returns-then-count-gt-MOST_POINTS
returns-then-count-gt-MOST_POINTS c =
    let b = (goal.at.returns-then-count-gt-MOST_POINTS c).Else-is_apart in let out = c.args.sheet.now in
    let first = c.in-Ok.first in let second = c.in-Ok-other.second in
    let many = lt-ltb most_points (points_in (joined_lists (s b) (t b)).waypoints) (omega (arith, c.points-count.ensures.count)) in
    let e = crowded_stops (s b) (t b) (length out) first.accepted second.accepted (free b) (meet b) many in
    let k = lent c.in-Ok.ensures.0 c.in-Ok-other.ensures.0 out (kept (s b) (t b) out Crowded e) in
    record { answer = k.0; sheet = k.1 }

pub returns-then-sheet-size : goal.returns-then-sheet-size
returns-then-sheet-size c =
    let b = (goal.at.returns-then-sheet-size c).Else-is_apart in let out = c.args.sheet.now in
    let first = c.in-Ok.first in let second = c.in-Ok-other.second in let count = c.points-count.ensures.count in
    let size = c.sheet_length-size.ensures ∙ ap (sheet_length Free) count in
    let few = le-ltb most_points (points_in (joined_lists (s b) (t b)).waypoints) (omega (arith, count)) in
    let short = lt-ltb (length out) (size_of (joined_lists (s b) (t b))) (omega (arith, size)) in
    let e = page_stops (s b) (t b) (length out) first.accepted second.accepted (free b) (meet b) few short in
    let k = lent c.in-Ok.ensures.0 c.in-Ok-other.ensures.0 out (kept (s b) (t b) out Page e) in
    record { answer = k.0; sheet = k.1 }

pub returns : goal.returns
returns c =
    let b = (goal.at.returns c).Else-is_apart in let out = c.args.sheet.now in
    let first = c.in-Ok.first in let second = c.in-Ok-other.second in let count = c.points-count.ensures.count in
    let size = c.sheet_length-size.ensures ∙ ap (sheet_length Free) count in
    let few = le-ltb most_points (points_in (joined_lists (s b) (t b)).waypoints) (omega (arith, count)) in
    let room = le-ltb (length out) (size_of (joined_lists (s b) (t b))) (omega (arith, size)) in
    let e = ap (λ (n : ℕ). told_count (Ok n)) size ∙ all_passed (s b) (t b) (length out) first.accepted second.accepted (free b) (meet b) few room in
    let k =
    lent c.in-Ok.ensures.0 c.in-Ok-other.ensures.0 out (e, c.put_joined.ensures ∙ left_joined (s b) (t b) out (sym (ap (λ (x : Told). x.number) e))) in
    record { answer = k.0; sheet = k.1 }
