-- Number and values tell an answer whole, so that a promise through `told` (specs/Answers) is one about the answer itself.
use mathlib.Core.Path.{◌≡◌, refl, sym, ap, ◌∙◌}
use mathlib.Core.Bool.{Bool, true, false, cond}
use mathlib.Core.List.{List, [], ◌∷◌}
use Prim.Native.Nat.{ℕ, suc, ◌-◌, ◌≤◌}
use native.Mathlib.Omega.{arith}
use lib.Dec.{ltb, eqb}
use lib.IntN.{ℤ, pos}
use lib.ListN.{get_or}
use Rattle.ends.specs.Ends.{kind_number}
use Rattle.ends.specs.declared.EndKind.{EndKind}
use Rattle.ends.specs.declared.EndKind.TheVariants.{Free, Held, Closed}
use Rattle.integers.proofs.Order.{le_or_lt}
use Rattle.sheet.specs.Answers.{number_of, told, Told, Reading, read_course}
use Rattle.sheet.specs.Fields.{kind_of}
use Rattle.sheet.specs.Reading.{order_of, order}
use Rattle.sheet.specs.declared.Refusal.{Refusal}
use Rattle.sheet.specs.declared.Refusal.TheVariants.{Torn, Edition, Ends, Points, Size, Leg, Reach, Slope, Shelf, Past, Adrift, Bend, Landed, Page, Start, Shut, Apart, Crowded, Seats, Turn, Grain, Ink, Board}
use Rattle.std.specs.Prelude.{Ok, Err}

-- ---- back from a place in the order of the tests; 0, which no refusal has, goes to the first
refusal_at : ℕ → Refusal
refusal_at n =
    get_or (Torn ∷ Edition ∷ Ends ∷ Points ∷ Board ∷ Size ∷ Leg ∷ Reach ∷ Slope ∷ Shelf ∷ Past ∷ Adrift ∷ Bend ∷ Landed ∷ Page ∷ Start
    ∷ Shut ∷ Apart ∷ Crowded ∷ Seats ∷ Turn ∷ Grain ∷ Ink ∷ []) (n - 1) Torn

refusal_back : (r : Refusal) → refusal_at (order r) ≡ r
unfolding refusal_at
refusal_back Torn = refl
refusal_back Edition = refl
refusal_back Ends = refl
refusal_back Points = refl
refusal_back Size = refl
refusal_back Leg = refl
refusal_back Reach = refl
refusal_back Slope = refl
refusal_back Shelf = refl
refusal_back Past = refl
refusal_back Adrift = refl
refusal_back Bend = refl
refusal_back Landed = refl
refusal_back Page = refl
refusal_back Start = refl
refusal_back Shut = refl
refusal_back Apart = refl
refusal_back Crowded = refl
refusal_back Seats = refl
refusal_back Turn = refl
refusal_back Grain = refl
refusal_back Ink = refl
refusal_back Board = refl

-- no two stand at one place, so no two have one number
pub order_injective : (q r : Refusal) → order q ≡ order r → q ≡ r
order_injective q r e = sym (refusal_back q) ∙ ap refusal_at e ∙ refusal_back r

pub number_injective : (q r : Refusal) → number_of q ≡ number_of r → q ≡ r
number_injective q r e = order_injective q r (ap order_of e)

pub order_positive : (r : Refusal) → 1 ≤ order r
unfolding refusal_at
order_positive r =
    le_or_lt 1 (order r) (1 ≤ order r) (λ h. h)
    (λ h. let z : order r ≡ 0 = omega arith in let o : order r ≡ 1 = ap order (sym (refusal_back r) ∙ ap refusal_at z) in absurd (omega arith))

pub number_positive : (r : Refusal) → 1 ≤ number_of r
number_positive r =
    le_or_lt 1 (number_of r) (1 ≤ number_of r) (λ h. h)
    (λ h. let z : number_of r ≡ 0 = omega arith in let o : order r ≡ 0 = ap order_of z in absurd (omega (arith, order_positive r)))

-- 1 to 8 are among the first nine
pub order_small : (n : ℕ) → n ≤ 8 → order_of n ≤ 9
order_small n h = go (ltb n 5) (eqb n 23)
  where
    go : (a b : Bool) → cond a n (cond b 5 (suc n)) ≤ 9
    go true b = omega arith
    go false true = omega arith
    go false false = omega arith

kind_back : (k : EndKind) → kind_of (kind_number k) ≡ k
kind_back Free = refl
kind_back Held = refl
kind_back Closed = refl

kind_injective : (j k : EndKind) → kind_number j ≡ kind_number k → j ≡ k
kind_injective j k e = sym (kind_back j) ∙ ap kind_of e ∙ kind_back k

-- ---- an answer
values_injective : (j k : EndKind) (m n p q : ℕ)
    → ◌≡◌ {A = List ℤ} (pos (kind_number j) ∷ pos m ∷ pos p ∷ []) (pos (kind_number k) ∷ pos n ∷ pos q ∷ []) → read_course j m p ≡ read_course k n q
values_injective j k m n p q e =
    let kinds : kind_number j ≡ kind_number k = cc in let is : j ≡ k = kind_injective j k kinds in cc

pub told_injective : (a b : Reading) → told a ≡ told b → a ≡ b
told_injective (Ok a) (Ok b) e = values_injective a.kind b.kind a.points b.points a.ticks b.ticks (ap (λ (t : Told). t.values) e)
told_injective (Ok a) (Err r) e = let v = ap (λ (t : Told). t.values) e in cc
told_injective (Err q) (Ok b) e = let v = ap (λ (t : Told). t.values) e in cc
told_injective (Err q) (Err r) e = ap Err (number_injective q r (ap (λ (t : Told). t.number) e))
