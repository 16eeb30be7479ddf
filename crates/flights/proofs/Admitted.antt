-- What a round's number tells: none of 1 to 9, 19 and 20 applied, or none of them all. For the theorems of this crate.
use mathlib.Core.Path.{◌≡◌, refl, sym, ap, ◌∙◌}
use mathlib.Core.Bool.{Bool, true, false, true≢false, false≢true}
use mathlib.Core.List.{List, [], ◌∷◌}
use mathlib.Core.Logic.{⊎_elim}
use Prim.Native.Nat.{ℕ, ◌<◌}
use lib.IntN.{ℤ}
use lib.ListN.{length}
use borrow.Author.Tests.{leb-false}
use Rattle.sheet.proofs.Laws.{accepted_read, read_or_refused, never_at_station}
use Rattle.sheet.specs.Answers.{Told, number_of}
use Rattle.sheet.specs.Reading.{Accepted, applies, most_points, read_sheet}
use Rattle.sheet.specs.declared.Refusal.{Refusal}
use Rattle.sheet.specs.declared.Refusal.TheVariants.{Torn, Edition, Ends, Points, Size, Leg, Reach, Slope, Shelf, Past, Adrift, Bend, Landed, Page, Start, Shut, Apart, Crowded, Seats, Turn, Grain, Ink, Board}
use Rattle.answers.proofs.Guards.{not_refused, not_passed_on, done_changes}
use Rattle.answers.specs.Answers.{done, pass_on, guard}
use Rattle.layout.specs.Layout.{short}
use Rattle.seat.specs.Serving.{seats_outside, turn_outside, admitted, next_turn, turn_after}
use Rattle.flights.specs.Calls.{shut_out}

-- none of 1 to 9, 19 and 20 applies
pub record Admitted (s : List ℕ) (list : List ℤ) (k t : ℕ) : Type 0 where
  pub accepted : Accepted s
  pub room : short s (length list) ≡ false
  pub seats : seats_outside k ≡ false
  pub turn : turn_outside k t ≡ false

-- reading's refusals, 1 to 8, shut a round out
reading_shuts : (s : List ℕ) (q : Refusal) → applies most_points s q ≡ true → shut_out (number_of q) ≡ true
reading_shuts s Torn e = refl
reading_shuts s Edition e = refl
reading_shuts s Ends e = refl
reading_shuts s Points e = refl
reading_shuts s Size e = refl
reading_shuts s Leg e = refl
reading_shuts s Reach e = refl
reading_shuts s Slope e = refl
reading_shuts s Shelf e = refl
reading_shuts s Past e = absurd (false≢true e)
reading_shuts s Adrift e = absurd (false≢true e)
reading_shuts s Bend e = absurd (false≢true e)
reading_shuts s Landed e = absurd (false≢true e)
reading_shuts s Page e = absurd (false≢true e)
reading_shuts s Start e = absurd (false≢true e)
reading_shuts s Shut e = absurd (false≢true e)
reading_shuts s Apart e = absurd (false≢true e)
reading_shuts s Crowded e = absurd (false≢true e)
reading_shuts s Seats e = absurd (false≢true e)
reading_shuts s Turn e = absurd (false≢true e)
reading_shuts s Grain e = absurd (false≢true e)
reading_shuts s Ink e = absurd (false≢true e)
reading_shuts s Board e = absurd (false≢true (sym (never_at_station s) ∙ e))

-- one test of such a number was passed
not_shut : (b : Bool) (q : Refusal) (rest : Told) → shut_out (number_of q) ≡ true → shut_out (guard b q rest).number ≡ false → (b ≡ false) × (shut_out rest.number ≡ false)
not_shut true q rest h e = absurd (true≢false (sym h ∙ e))
not_shut false q rest h e = (refl, e)

module _ (s : List ℕ) (list : List ℤ) (k t : ℕ) where
  read_through : (rest : Told) → shut_out (pass_on (read_sheet s) rest).number ≡ false → Accepted s × (shut_out rest.number ≡ false)
  read_through rest e =
      ⊎_elim
      (λ a. (a.0, sym (ap (λ x. shut_out (pass_on x rest).number) a.1) ∙ e))
      (λ r. absurd (true≢false (sym (reading_shuts s r.0 r.1.applying) ∙ sym (ap (λ x. shut_out (pass_on x rest).number) r.1.answer) ∙ e)))
      (read_or_refused most_points s)

  -- a round that is not shut out, and one that is not refused
  pub looked_at : (rest : Told) → shut_out (admitted s list k t rest).number ≡ false → Admitted s list k t
  looked_at rest e =
      let a = read_through _ e in
      let b = not_shut (short s (length list)) Shelf _ refl a.1 in
      let c = not_shut (seats_outside k) Seats _ refl b.1 in
      record { accepted = a.0; room = b.0; seats = c.0; turn = (not_shut (turn_outside k t) Turn rest refl c.1).0 }

  pub done_admitted : (rest : Told) → (admitted s list k t rest).number ≡ 0 → Admitted s list k t × (rest.number ≡ 0)
  done_admitted rest z =
      let a = not_passed_on s _ z in
      let b = not_refused (short s (length list)) Shelf _ a.1 in
      let c = not_refused (seats_outside k) Seats _ b.1 in
      let d = not_refused (turn_outside k t) Turn rest c.1 in
      (record { accepted = a.0; room = b.0; seats = c.0; turn = d.0 }, d.1)

  module _ (a : Admitted s list k t) where
    -- it goes on to its seat, there is one, and the turn goes to the next
    pub goes_on : (rest : Told) → admitted s list k t rest ≡ rest
    goes_on rest = simp (accepted_read s a.accepted, a.room, a.seats, a.turn)

    pub turn_below : t < k
    turn_below = leb-false k t a.turn

    pub next_given : turn_after s list k t ≡ next_turn k t ∷ []
    unfolding turn_after
    next_given = done_changes (admitted s list k t done) (next_turn k t ∷ []) [] (ap (λ (u : Told). u.number) (goes_on done))
