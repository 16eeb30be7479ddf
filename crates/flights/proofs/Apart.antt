-- A round sets one record and looks at no other, so what the other seats hold never shows (Q4).
use mathlib.Core.Path.{◌≡◌, refl, sym, ap, ◌∙◌}
use mathlib.Core.List.{List}
use Prim.Native.Nat.{ℕ, zero, suc, ◌≤◌, ◌<◌}
use native.Mathlib.Omega.{arith}
use lib.IntN.{ℤ}
use lib.ListN.{length, length-set, get_or-eq_default}
use lib.Seq.{get_or-set_same, get_or-set_other}
use Rattle.integers.proofs.Order.{le_or_lt}
use Rattle.runner.specs.declared.Runner.{Runner}
use Rattle.seat.specs.Serving.{served, turn_after, seat_after, nobody}
use Rattle.fleet.specs.Round.{seat_of, round_answer, fleet_after}
use Rattle.flights.specs.Calls.{fleet_at}
use Rattle.flights.specs.Theorems.{OthersKept, SeatsApart}

pub others_kept : OthersKept
unfolding fleet_after
others_kept s list fleet t = (length-set fleet t _, λ j h. get_or-set_other fleet t j _ nobody h)

-- two numbers are equal or not
pub same_or_other : (P : Type 0) (j t : ℕ) → (j ≡ t → P) → ((j ≡ t → ⊥) → P) → P
same_or_other P j t same other =
    le_or_lt j t P (λ h. le_or_lt t j P (λ g. same (omega arith)) (λ g. other (λ e. omega arith))) (λ h. other (λ e. omega arith))

module _ (s : List ℕ) (list : List ℤ) where
  -- the seat whose turn it is
  pub own_seat : (fleet : List Runner) (t : ℕ) → t < length fleet → seat_of (fleet_after s list fleet t) t ≡ seat_after s list (length fleet) t (seat_of fleet t)
  unfolding fleet_after
  own_seat fleet t h = get_or-set_same fleet t _ nobody h

  -- past the last seat there is nobody, before and afterwards
  past_last : (fleet : List Runner) (t j : ℕ) → length fleet ≤ j → seat_of (fleet_after s list fleet t) j ≡ nobody
  past_last fleet t j h = get_or-eq_default (fleet_after s list fleet t) nobody (omega (arith, (others_kept s list fleet t).0))

  module _ (f g : List Runner) (e : length f ≡ length g) (j : ℕ) (q : seat_of f j ≡ seat_of g j) where
    same_answer : round_answer s list f j ≡ round_answer s list g j
    same_answer = λ i. served s list (e i) j (q i)

    abbrev Same : ℕ → Type 0
    Same t = seat_of (fleet_after s list f t) j ≡ seat_of (fleet_after s list g t) j

    at_turn : j < length f → Same j
    at_turn h = own_seat f j h ∙ (λ i. seat_after s list (e i) j (q i)) ∙ sym (own_seat g j (omega arith))

    seat_kept : (t : ℕ) → Same t
    seat_kept t =
        le_or_lt (length f) j (Same t)
        (λ h. past_last f t j h ∙ sym (past_last g t j (omega arith)))
        (λ h. same_or_other (Same t) j t (λ w. rw (← w) (at_turn h)) (λ w. (others_kept s list f t).1 j w ∙ q ∙ sym ((others_kept s list g t).1 j w)))

-- ---- a flight
module _ (sheets : ℕ → List ℕ) (bends : ℕ → List ℤ) (turns : ℕ → ℕ) where
  pub length_at : (f : List Runner) (n : ℕ) → length (fleet_at sheets bends turns f n) ≡ length f
  unfolding fleet_at
  length_at f zero = refl
  length_at f (suc n) = (others_kept (sheets n) (bends n) (fleet_at sheets bends turns f n) (turns n)).0 ∙ length_at f n

  module _ (f g : List Runner) (j : ℕ) (e : length f ≡ length g) (q : seat_of f j ≡ seat_of g j) where
    lengths : (n : ℕ) → length (fleet_at sheets bends turns f n) ≡ length (fleet_at sheets bends turns g n)
    lengths n = length_at f n ∙ e ∙ sym (length_at g n)

    seat_at : (n : ℕ) → seat_of (fleet_at sheets bends turns f n) j ≡ seat_of (fleet_at sheets bends turns g n) j
    unfolding fleet_at
    seat_at zero = q
    seat_at (suc n) = seat_kept (sheets n) (bends n) (fleet_at sheets bends turns f n) (fleet_at sheets bends turns g n) (lengths n) j (seat_at n) (turns n)

pub seats_apart : SeatsApart
seats_apart sheets bends turns f g j e q n =
    let f' = fleet_at sheets bends turns f n in let g' = fleet_at sheets bends turns g n in
    let same = lengths sheets bends turns f g j e q n in let seat = seat_at sheets bends turns f g j e q n in
    (seat, (λ w. rw w (same_answer (sheets n) (bends n) f' g' same j seat)), ap (λ k. turn_after (sheets n) (bends n) k (turns n)) same)
