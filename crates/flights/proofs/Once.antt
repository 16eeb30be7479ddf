-- The turn goes round (Q5): a call that looks at its seat gives the next turn, so call i of a row has the turn first + i, less k from k on; each seat below k is met
-- at one i below k.
use mathlib.Core.Path.{◌≡◌, sym, ap, subst, ◌∙◌}
use mathlib.Core.Bool.{false}
use mathlib.Core.Logic.{◌⊎◌, inl, inr, ⊎_elim}
use Prim.Native.Nat.{ℕ, zero, suc, ◌+◌, ◌-◌, ◌≤◌, ◌<◌}
use native.Mathlib.Omega.{arith}
use lib.ListN.{length, get_or}
use borrow.Author.Tests.{eq-eqb, ne_eqb}
use Rattle.integers.proofs.Order.{le_or_lt}
use Rattle.seat.specs.Serving.{served, next_turn}
use Rattle.flights.specs.Calls.{Call, answer, shut_out, InARow, Serves}
use Rattle.flights.specs.Theorems.{EverySeatOnce}
use Rattle.flights.proofs.Admitted.{looked_at, goes_on, turn_below, next_given}

-- a call that is not shut out serves the seat whose turn it is
serves : (c : Call) → shut_out (answer c).number ≡ false → Serves c c.turn
unfolding served
serves c e =
    let a = looked_at c.sheet c.bends (length c.fleet) c.turn _ e in
    record {
      turn = λ i. c.turn;
      seat = turn_below _ _ _ _ a;
      answered = goes_on _ _ _ _ a _;
      passed = next_given _ _ _ _ a;
    }

next_cases : (k t : ℕ) → t < k → ((suc t ≡ k) × (next_turn k t ≡ 0)) ⊎ ((suc t < k) × (next_turn k t ≡ suc t))
next_cases k t h =
    le_or_lt k (suc t) (((suc t ≡ k) × (next_turn k t ≡ 0)) ⊎ ((suc t < k) × (next_turn k t ≡ suc t)))
    (λ g. let e : suc t ≡ k = omega arith in inl (e, simp (eq-eqb (suc t) k e)))
    (λ g. inr (g, simp (ne_eqb (suc t) k (λ e. omega arith))))

module _ (k : ℕ) (calls : ℕ → Call) (row : InARow k calls) where
  abbrev turn : ℕ → ℕ
  turn i = (calls i).turn

  served_at : (i : ℕ) → i < k → Serves (calls i) (turn i)
  served_at i h = serves (calls i) (row.looked_at i h)

  below : (i : ℕ) → i < k → turn i < k
  below i h = subst (λ n. turn i < n) (row.seats i h) (served_at i h).seat

  turn_next : (i : ℕ) → suc i < k → turn (suc i) ≡ next_turn k (turn i)
  turn_next i h =
      let g : i < k = omega arith in
      ap (λ l. get_or l 0 0) (sym (row.handed i h) ∙ (served_at i g).passed) ∙ ap (λ n. next_turn n (turn i)) (row.seats i g)

  -- first + i, less k from k on
  abbrev Round : ℕ → Type 0
  Round i = ((turn 0 + i < k) × (turn i ≡ turn 0 + i)) ⊎ ((k ≤ turn 0 + i) × (turn i + k ≡ turn 0 + i))

  goes_round : (i : ℕ) → i < k → Round i
  goes_round zero h = inl (omega (arith, below 0 h), omega arith)
  goes_round (suc i) h =
      let n = turn_next i h in
      ⊎_elim
      (λ c. ⊎_elim (λ r. inr (omega arith, omega arith)) (λ r. absurd (omega (arith, below 0 (omega arith)))) (goes_round i (omega arith)))
      (λ c. ⊎_elim (λ r. inl (omega arith, omega arith)) (λ r. inr (omega arith, omega arith)) (goes_round i (omega arith)))
      (next_cases k (turn i) (below i (omega arith)))

  -- where a seat is met
  met : (j : ℕ) → j < k → (i : ℕ) × (i < k) × ((turn 0 + i ≡ j) ⊎ (turn 0 + i ≡ j + k))
  met j h =
      let first = below 0 (omega arith) in
      le_or_lt (turn 0) j ((i : ℕ) × (i < k) × ((turn 0 + i ≡ j) ⊎ (turn 0 + i ≡ j + k)))
      (λ g. (j - turn 0, omega arith, inl (omega arith)))
      (λ g. (j + k - turn 0, omega arith, inr (omega arith)))

  turn_met : (j i : ℕ) → j < k → i < k → (turn 0 + i ≡ j) ⊎ (turn 0 + i ≡ j + k) → turn i ≡ j
  turn_met j i h g m = ⊎_elim (λ a. ⊎_elim (λ r. omega arith) (λ r. omega arith) (goes_round i g)) (λ a. ⊎_elim (λ r. omega arith) (λ r. omega arith) (goes_round i g)) m

  one_turn : (i m : ℕ) → i < k → m < k → turn i ≡ turn m → i ≡ m
  one_turn i m g h e =
      ⊎_elim (λ a. ⊎_elim (λ b. omega arith) (λ b. omega arith) (goes_round m h)) (λ a. ⊎_elim (λ b. omega arith) (λ b. omega arith) (goes_round m h)) (goes_round i g)

pub every_seat_once : EverySeatOnce
every_seat_once k calls row j h =
    let m = met k calls row j h in
    let at = turn_met k calls row j m.0 h m.1 m.2 in
    (m.0, m.1, subst (Serves (calls m.0)) at (served_at k calls row m.0 m.1), λ n g e. one_turn k calls row n m.0 g m.1 (e ∙ sym at))
