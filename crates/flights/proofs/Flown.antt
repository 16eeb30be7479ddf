-- A seat that is served has made a step (Q6), and the place that it is told is the one that demand 3 speaks of (Q7).
use mathlib.Core.Path.{◌≡◌, refl, sym, ap, subst, ◌∙◌}
use mathlib.Core.Bool.{true, false, cond}
use mathlib.Core.List.{List}
use mathlib.Core.Logic.{⊎_elim}
use Prim.Native.Nat.{ℕ, zero, suc, ◌+◌, ◌≤◌, min}
use native.Mathlib.Omega.{arith}
use lib.IntN.{ℤ}
use lib.ListN.{length}
use borrow.Author.Tests.{eq-eqb, ne_eqb, lt-leb, le-ltb}
use Rattle.sheet.proofs.Laws.{accepted_read}
use Rattle.sheet.specs.Answers.{Told}
use Rattle.sheet.specs.Fields.{kind, ticks}
use Rattle.sheet.specs.Reading.{Accepted}
use Rattle.sheet.specs.declared.Refusal.TheVariants.{Shelf, Adrift, Landed, Bend}
use Rattle.answers.proofs.Guards.{not_refused, not_passed_on, done_changes}
use Rattle.layout.specs.Layout.{short}
use Rattle.runner.specs.Ticks.{is_open, ticks_flown}
use Rattle.runner.specs.Steps.{adrift, landed, moved, onward, repeated, onward_by, stepped_by}
use Rattle.runner.specs.Theorems.{Stands}
use Rattle.runner.specs.declared.Runner.{Runner}
use Rattle.runner.proofs.Onward.{moved_fits, open_flown, open_steps_stand, closed_steps_on}
use Rattle.runner.proofs.Standing.{standing, offset_below, leg_below, tick_before, has_tick}
use Rattle.place.specs.Places.{bend_outside, placed, place_of_runner, place_of_runner_by}
use Rattle.station.specs.Claim.{Own, Answered}
use Rattle.station.proofs.Claim.{claim}
use Rattle.seat.specs.Serving.{seats_outside, flown, served, seat_after}
use Rattle.fleet.specs.Round.{seat_of, round_answer, fleet_after}
use Rattle.flights.specs.Calls.{fleet_at, turns_of, NoneRefused}
use Rattle.flights.specs.Theorems.{TurnsMove, ServedNear, FlyingServed}
use Rattle.flights.proofs.Admitted.{Admitted, done_admitted, goes_on, turn_below}
use Rattle.flights.proofs.Apart.{others_kept, same_or_other, own_seat}

-- what number 0 tells of a seat: it is on the course and not at its end, and the bend numbers where it gets to are within limits
pub record Flying (s : List ℕ) (list : List ℤ) (r : Runner) : Type 0 where
  pub fits : adrift s r ≡ false
  pub flies : landed s r ≡ false
  pub inside : bend_outside s list (moved s r).leg ≡ false

flying : (s : List ℕ) (list : List ℤ) (r : Runner) → (flown s list r).number ≡ 0 → Flying s list r
unfolding flown
flying s list r z =
    let a = not_refused (adrift s r) Adrift _ z in
    let b = not_refused (landed s r) Landed _ a.1 in
    let c = not_refused (bend_outside s list (moved s r).leg) Bend _ b.1 in
    record { fits = a.0; flies = b.0; inside = c.0 }

-- .. and its answer is the place one tick on
flown_place : (s : List ℕ) (list : List ℤ) (r : Runner) → Flying s list r → flown s list r ≡ placed s list (moved s r)
unfolding flown
flown_place s list r f = simp (f.fits, f.flies, f.inside)

module _ (s : List ℕ) (list : List ℤ) (fleet : List Runner) (t : ℕ) (z : (round_answer s list fleet t).number ≡ 0) where
  abbrev r : Runner
  r = seat_of fleet t

  through : Admitted s list (length fleet) t × ((flown s list r).number ≡ 0)
  unfolding served
  through = done_admitted s list (length fleet) t (flown s list r) z

  in_flight : Flying s list r
  in_flight = flying s list r through.1

  pub round_place : round_answer s list fleet t ≡ placed s list (moved s r)
  unfolding served
  round_place = goes_on s list (length fleet) t through.0 (flown s list r) ∙ flown_place s list r in_flight

  pub seat_moved : seat_of (fleet_after s list fleet t) t ≡ moved s r
  unfolding seat_after
  seat_moved = own_seat s list fleet t (turn_below s list (length fleet) t through.0) ∙ done_changes (round_answer s list fleet t) (moved s r) r z

  pub seat_onward : seat_of (fleet_after s list fleet t) t ≡ onward s r
  unfolding onward_by stepped_by
  seat_onward = seat_moved ∙ simp (accepted_read s through.0.accepted, in_flight.fits, in_flight.flies)

-- ---- Q6
module _ (s : List ℕ) (a : Accepted s) (bends : ℕ → List ℤ) (turns : ℕ → ℕ) (fleet : List Runner) (j : ℕ) (fits : adrift s (seat_of fleet j) ≡ false) where
  abbrev at : ℕ → List Runner
  at n = fleet_at (λ _. s) bends turns fleet n

  abbrev first : Runner
  first = seat_of fleet j

  -- the steps of the seat so far, and on an open course the ticks that they come to
  pub record SoFar (n m : ℕ) : Type 0 where
    pub steps : seat_of (at n) j ≡ repeated (onward s) m first
    pub room : is_open (kind s) ≡ true → ticks_flown s first + m ≤ ticks s

  open_stands : is_open (kind s) ≡ true → (n m : ℕ) → SoFar n m → Stands s (min (ticks_flown s first + m) (ticks s)) (seat_of (at n) j)
  open_stands o n m h = subst (Stands s (min (ticks_flown s first + m) (ticks s))) (sym h.steps) (open_steps_stand s a o first (standing s first fits) m)

  -- a turn of its own
  own_turn : (n m : ℕ) → SoFar n m → turns n ≡ j → (round_answer s (bends n) (at n) (turns n)).number ≡ 0 → SoFar (suc n) (suc m)
  unfolding fleet_at repeated
  own_turn n m h e z =
      let z' : (round_answer s (bends n) (at n) j).number ≡ 0 = rw (← e) z in
      let f = in_flight s (bends n) (at n) j z' in
      let x = seat_of (at n) j in let st = standing s x f.fits in
      let before = tick_before s x (leg_below s x st) (offset_below s x st f.flies) in
      record {
        steps = ap (λ t. seat_of (fleet_after s (bends n) (at n) t) j) e ∙ seat_onward s (bends n) (at n) j z' ∙ ap (onward s) h.steps;
        room = λ o. omega (arith, before, h.room o, open_flown s a o x st, (open_stands o n m h).flown);
      }

  other_turn : (n m : ℕ) → SoFar n m → (j ≡ turns n → ⊥) → SoFar (suc n) m
  unfolding fleet_at
  other_turn n m h w = record { steps = (others_kept s (bends n) (at n) (turns n)).1 j w ∙ h.steps; room = h.room }

  so_far : (n : ℕ) → NoneRefused s bends turns fleet j n → SoFar n (turns_of turns j n)
  unfolding fleet_at turns_of repeated
  so_far zero none = record { steps = refl; room = λ o. let e = open_flown s a o first (standing s first fits) in ⊎_elim (λ q. omega (arith, e)) (λ w. omega (arith, e)) (has_tick s first (standing s first fits)) }
  so_far (suc n) none =
      let h = so_far n (λ i q e. none i (omega arith) e) in
      same_or_other (SoFar (suc n) (turns_of turns j (suc n))) j (turns n)
      (λ e. subst (SoFar (suc n)) (sym (ap (λ b. cond b (suc (turns_of turns j n)) (turns_of turns j n)) (eq-eqb (turns n) j (sym e)))) (own_turn n _ h (sym e) (none n (omega arith) (sym e))))
      (λ w. subst (SoFar (suc n)) (sym (ap (λ b. cond b (suc (turns_of turns j n)) (turns_of turns j n)) (ne_eqb (turns n) j (λ e. w (sym e))))) (other_turn n _ h w))

pub turns_move : TurnsMove
turns_move s a bends turns fleet j fits n none =
    let m = turns_of turns j n in let r = seat_of fleet j in
    let h = so_far s a bends turns fleet j fits n none in (
      h.steps,
      λ o. let st = open_stands s a bends turns fleet j fits o n m h in record { fits = st.fits; flown = omega (arith, st.flown, h.room o) },
      λ e few. h.steps ∙ closed_steps_on s a e r fits few m,
    )

-- ---- Q7
pub served_near : ServedNear
served_near s list own fleet t z =
    let f = in_flight s list fleet t z in let a = (through s list fleet t z).0.accepted in let r = seat_of fleet t in
    let there = moved_fits s a r f.fits f.flies in
    subst (λ x. Answered s list x (round_answer s list fleet t)) (sym (seat_moved s list fleet t z))
    (record { place = round_place s list fleet t z; near = ((claim s a).by_runner list own (moved s r) there).near })

-- with own bend numbers neither 9 nor 12 applies, or a runner would not be placed
own_placed : (s : List ℕ) → Accepted s → (list : List ℤ) → Own s list → (x : Runner) → adrift s x ≡ false → (short s (length list) ≡ false) × (bend_outside s list x.leg ≡ false)
unfolding place_of_runner_by
own_placed s a list own x fits =
    let z : (place_of_runner s list x).number ≡ 0 = ap (λ (u : Told). u.number) ((claim s a).by_runner list own x fits).place in
    let b = not_refused (short s (length list)) Shelf _ (not_passed_on s _ z).1 in
    let c = not_refused (adrift s x) Adrift _ b.1 in
    (b.0, (not_refused (bend_outside s list x.leg) Bend _ c.1).0)

pub flying_served : FlyingServed
unfolding served
flying_served s a list own fleet some few t h fits flies =
    let r = seat_of fleet t in
    let p = own_placed s a list own (moved s r) (moved_fits s a r fits flies) in
    let seats : seats_outside (length fleet) ≡ false = simp (ne_eqb (length fleet) 0 (λ e. omega arith), le-ltb 32 (length fleet) few) in
    let way : Admitted s list (length fleet) t = record { accepted = a; room = p.0; seats = seats; turn = lt-leb (length fleet) t h } in
    ap (λ (u : Told). u.number) (goes_on s list (length fleet) t way (flown s list r) ∙ flown_place s list r (record { fits = fits; flies = flies; inside = p.1 }))
