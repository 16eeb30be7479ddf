-- `add_legs`: sixteen legs more in the sum, and their sum kept, or one of them outside; behind the loop the legs that are left.
use Rattle.std.proofs.Common.{◌≡◌, ◌+◌, ◌*◌, ◌-◌, ◌/◌, ◌%◌, ◌≤◌, ◌||◌, ◌∙◌, ℕ, Bool, List, true, false, ap, refl, subst, sym, arith, Option, None, MatchOption}
use mathlib.Core.Bool.{or-true}
use native.Mathlib.Nat.{div-add-mod}
use lib.ListN.{length-set}
use Rattle.sheet.specs.Bytes.{any_below, sum_below}
use Rattle.sheet.specs.Carried.{stride}
use Rattle.sheet.specs.Fields.{leg}
use Rattle.sheet.specs.Reading.{leg_outside}
use Rattle.sheet.proofs.Below.{any_append, any_more, sum_append}
use Rattle.sheet.proofs.Carried.{kept_next}
use Rattle.sheet.proofs.legs.add_legs.Goals as goal

abbrev outside : List ℕ → ℕ → Bool
outside s i = leg_outside (leg s i)

-- one of the m legs from i on is outside
found : (s : List ℕ) (i m n : ℕ) → i + m ≤ n → any_below (λ k. outside s (i + k)) m ≡ true → any_below (outside s) n ≡ true
found s i m n h e =
    any_more (outside s) (i + m) n h
    (any_append (outside s) i m ∙ (λ j. any_below (outside s) i || e j) ∙ or-true (any_below (outside s) i))

-- none of the first i is, nor of the next m
none : (s : List ℕ) (i m n : ℕ) → i + m ≡ n → any_below (outside s) i ≡ false → any_below (λ k. outside s (i + k)) m ≡ false
    → any_below (outside s) n ≡ false
none s i m n h e f = ap (any_below (outside s)) (sym h) ∙ any_append (outside s) i m ∙ (λ j. e j || f j)

summed : (s : List ℕ) (i m n : ℕ) {a b : ℕ} → i + m ≡ n → a ≡ sum_below (leg s) i → b ≡ sum_below (λ k. leg s (i + k)) m → a + b ≡ sum_below (leg s) n
summed s i m n h e f = (λ j. e j + f j) ∙ sym (sum_append (leg s) i m) ∙ ap (sum_below (leg s)) h

-- what is promised of an answer that is none
nothing : (o : Option ℕ) (P : Type 0) (Q : ℕ → Type 0) → o ≡ None → P → MatchOption o P Q
nothing o P Q e p = subst (λ x. MatchOption x P Q) (sym e) p

pub loop-b-init : goal.loop-b-init
unfolding any_below sum_below
loop-b-init c = record { small = omega arith; room = c.requires.2; inside = refl; sum = refl; kept = λ b h. absurd (omega arith) }

pub returns-in_err-ticks : goal.returns-in_err-ticks
returns-in_err-ticks c =
    let f = found c.args.s.now (stride * c.loop-b.b) 16 c.args.count (omega (arith, div-add-mod c.args.count 16)) c.in_err-ticks.ensures in
    nothing _ _ _ c.from_residual.ensures f

pub loop-b-preserved : goal.loop-b-preserved
loop-b-preserved c =
    let l = c.loop-b in let s = c.args.s.now in let part = c.in_ok-ticks.ensures in
    let next : stride * l.b + 16 ≡ stride * (l.b + 1) = omega arith in
    record {
      small = omega (arith, part.2, l.invariant.small);
      room = length-set l.sums l.b l.ticks ∙ l.invariant.room;
      inside = none s (stride * l.b) 16 (stride * (l.b + 1)) next l.invariant.inside part.0;
      sum = summed s (stride * l.b) 16 (stride * (l.b + 1)) next l.invariant.sum part.1;
      kept = kept_next s l.sums l.b l.ticks (omega arith) l.invariant.sum l.invariant.kept;
    }

-- behind the sixteens, the legs that are left
rest_is : (count b : ℕ) → b ≡ count / 16 → stride * b ≡ count - count % 16
rest_is count b e = omega (arith, div-add-mod count 16, e)

pub returns-in_err-rest : goal.returns-in_err-rest
returns-in_err-rest c =
    let n = c.args.count in
    let f = found c.args.s.now (n - n % 16) (n % 16) n (omega (arith, div-add-mod n 16)) c.in_err-rest.ensures in
    nothing _ _ _ c.from_residual-in_err-rest.ensures f

pub returns : goal.returns
returns c =
    let l = c.loop-b in let s = c.args.s.now in let n = c.args.count in let rest = c.in_ok-rest.ensures in
    let b : l.b ≡ n / 16 = omega arith in let from = rest_is n l.b b in
    let all : (n - n % 16) + n % 16 ≡ n = omega (arith, div-add-mod n 16) in
    let sum : l.ticks ≡ sum_below (leg s) (n - n % 16) = l.invariant.sum ∙ ap (sum_below (leg s)) from in
    let inside : any_below (outside s) (n - n % 16) ≡ false = ap (any_below (outside s)) (sym from) ∙ l.invariant.inside in
    let kept = kept_next s l.sums (n / 16) l.ticks (omega (arith, l.invariant.room)) (l.invariant.sum ∙ ap (λ k. sum_below (leg s) (stride * k)) b)
    (λ k h. l.invariant.kept k (omega (arith, b))) in
    (none s (n - n % 16) (n % 16) n all inside rest.0, summed s (n - n % 16) (n % 16) n all sum rest.1, λ k h. kept k (omega (arith, div-add-mod n 16)))
