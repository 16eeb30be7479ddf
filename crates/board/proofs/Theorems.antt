-- The theorems of specs/Theorems: the chain of tests, and what crates sheet and station prove of every limit.
use mathlib.Core.Path.{◌≡◌, refl, sym, subst, ◌∙◌}
use mathlib.Core.Bool.{Bool, true, false, not, true≢false, ◌&&◌}
use mathlib.Core.List.{List}
use mathlib.Core.Logic.{⊎_elim}
use Prim.Native.Nat.{ℕ, ◌≤◌, ◌<◌}
use native.Mathlib.Omega.{arith}
use borrow.Author.Tests.{lt-ltb, ltb-true}
use lib.Dec.{ltb}
use Rattle.ends.specs.Ends.{least_points}
use Rattle.ends.specs.declared.EndKind.{EndKind}
use Rattle.ends.specs.declared.EndKind.TheVariants.{Free, Held, Closed}
use Rattle.sheet.specs.Answers.{number_of}
use Rattle.sheet.specs.Fields.{kind, points, sheet_length}
use Rattle.sheet.specs.Reading.{order_of, most_points, read_by}
use Rattle.sheet.specs.Theorems.{Lowest}
use Rattle.std.specs.Prelude.{Err}
use Rattle.sheet.specs.declared.Refusal.{Refusal}
use Rattle.sheet.specs.declared.Refusal.TheVariants.{Torn, Edition, Ends, Points, Board}
use Rattle.sheet.proofs.Below.{or_right}
use Rattle.sheet.proofs.Laws.{read_accepted, accepted_bounds, read_or_refused, never_at_station}
use Rattle.sheet.proofs.Lowest.{past, passed, stopped}
use Rattle.station.proofs.Alike.{within_both}
use Rattle.station.proofs.Claim.{claim_by}
use Rattle.board.specs.Board.{board_points}
use Rattle.board.specs.Theorems.{Over, BoardRefuses, BoardAlike, BoardClaim, BoardRoom}
pub use Rattle.board.proofs.Worked as tried

-- a refusal that is said is the first that applies
said : (limit : ℕ) (s : List ℕ) (q : Refusal) → read_by limit s ≡ Err q → Lowest limit s q
said limit s q e =
    ⊎_elim
    (λ a. let f = a.1 in (absurd (let z : ◌≡◌ {A = ℕ} 0 1 = cc in omega arith)))
    (λ l. let f = l.1.answer in let is : l.0 ≡ q = cc in subst (Lowest limit s) is l.1)
    (read_or_refused limit s)

both : (a b : Bool) → (a && b) ≡ true → a ≡ true
both true b e = refl
both false b e = e

-- 1 to 4 stand before 23
before : (n : ℕ) → n ≤ 4 → order_of n < 5
before n h = rw (lt-ltb n 5 (omega arith)) (omega arith)

module _ (s : List ℕ) where
  says : Over s → read_by board_points s ≡ Err Board
  unfolding read_by
  says o =
      let few = or_right (ltb (points s) (least_points (kind s))) (ltb most_points (points s)) (o.none_before Points (omega arith)) in sym (
      stopped board_points s Board (past 5) (simp (lt-ltb board_points (points s) o.many, few))
      ∙ passed board_points s Points (past 4) (o.none_before Points (omega arith))
      ∙ passed board_points s Ends (past 3) (o.none_before Ends (omega arith))
      ∙ passed board_points s Edition (past 2) (o.none_before Edition (omega arith))
      ∙ passed board_points s Torn (past 1) (o.none_before Torn (omega arith))
      )

  over : read_by board_points s ≡ Err Board → Over s
  over e =
      let l = said board_points s Board e in
      record {
        many = ltb-true board_points (points s) (both (ltb board_points (points s)) (not (ltb most_points (points s))) l.applying);
        none_before = λ q h. l.lower q (before (number_of q) h);
      }

pub board_refuses : BoardRefuses
board_refuses s = (says s, over s, λ e. true≢false (sym (said most_points s Board e).applying ∙ never_at_station s))

pub board_alike : BoardAlike
board_alike s h = within_both board_points most_points s h (omega arith)

pub board_claim : BoardClaim
board_claim s a h = claim_by board_points s a h

-- the longest of so many waypoints is held
longest : (k : EndKind) (n : ℕ) → n ≤ 48 → sheet_length k n ≤ 702
longest Free n h = omega arith
longest Held n h = omega arith
longest Closed n h = omega arith

pub board_room : BoardRoom
board_room s k n p e =
    let (a, is_kind, is_points, is_ticks, within) = read_accepted board_points s k n p e in
    (omega (arith, (accepted_bounds s a).size, longest (kind s) (points s) within), omega arith)
