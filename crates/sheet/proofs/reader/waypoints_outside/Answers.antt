-- `waypoints_outside`: sixteen waypoints more of which none is outside, or one of them is; behind the loop the waypoints that are left.
use Rattle.std.proofs.Common.{◌≡◌, ◌+◌, ◌*◌, ◌-◌, ◌/◌, ◌%◌, ◌≤◌, ◌||◌, ◌∙◌, ℕ, Bool, List, true, false, ap, refl, sym, arith}
use mathlib.Core.Bool.{or-true}
use native.Mathlib.Nat.{div-add-mod}
use Rattle.sheet.specs.Bytes.{any_below}
use Rattle.sheet.specs.Carried.{stride}
use Rattle.sheet.specs.Fields.{waypoints_from}
use Rattle.sheet.proofs.Below.{any_append, any_more}
use Rattle.sheet.proofs.Reach.{at_byte}
use Rattle.sheet.proofs.reader.waypoints_outside.Goals as goal

-- N7, of waypoint i, where the waypoints start at `from`
abbrev outside : List ℕ → ℕ → ℕ → Bool
outside s from i = at_byte s (from + 12 * i)

-- the m waypoints from i on, by their bytes and by their places
placed : (s : List ℕ) (from i m : ℕ) → any_below (λ k. at_byte s (from + 12 * i + 12 * k)) m ≡ any_below (λ k. outside s from (i + k)) m
placed s from i m =
    let e : (k : ℕ) → from + 12 * i + 12 * k ≡ from + 12 * (i + k) = λ k. omega arith in
    λ j. any_below (λ k. at_byte s (e k j)) m

-- one of the m waypoints from i on is outside, or none of them is
found : (s : List ℕ) (from i m n : ℕ) → i + m ≤ n → any_below (λ k. at_byte s (from + 12 * i + 12 * k)) m ≡ true → any_below (outside s from) n ≡ true
found s from i m n h e =
    any_more (outside s from) (i + m) n h
    (any_append (outside s from) i m ∙ (λ j. any_below (outside s from) i || (sym (placed s from i m) ∙ e) j) ∙ or-true (any_below (outside s from) i))

joined : (s : List ℕ) (from i m n : ℕ) → i + m ≡ n → any_below (outside s from) i ≡ false
    → any_below (λ k. at_byte s (from + 12 * i + 12 * k)) m ≡ any_below (outside s from) n
joined s from i m n h e =
    placed s from i m ∙ (λ j. sym e j || any_below (λ k. outside s from (i + k)) m) ∙ sym (any_append (outside s from) i m) ∙ ap (any_below (outside s from)) h

moved : (s : List ℕ) (n : ℕ) {from : ℕ} → from ≡ waypoints_from s → any_below (outside s from) n ≡ any_below (outside s (waypoints_from s)) n
moved s n e = ap (λ (f : ℕ). any_below (outside s f) n) e

pub loop-b-init : goal.loop-b-init
unfolding any_below
loop-b-init c = refl

pub loop-b-preserved : goal.loop-b-preserved
loop-b-preserved c =
    let l = c.loop-b in let s = c.args.s.now in let next : stride * l.b + 16 ≡ stride * (l.b + 1) = omega arith in
    sym (joined s c.args.from (stride * l.b) 16 (stride * (l.b + 1)) next l.invariant) ∙ sym c.some_outside.ensures ∙ c.if-some_outside.false

pub returns-then-some_outside : goal.returns-then-some_outside
returns-then-some_outside c =
    let l = c.loop-b in let s = c.args.s.now in let n = c.args.count in
    sym (found s c.args.from (stride * l.b) 16 n (omega (arith, div-add-mod n 16)) (sym c.some_outside.ensures ∙ c.if-some_outside.true)) ∙ moved s n c.requires.0

pub returns : goal.returns
returns c =
    let l = c.loop-b in let s = c.args.s.now in let n = c.args.count in
    let from : stride * l.b ≡ n - n % 16 = omega (arith, div-add-mod n 16) in
    let none : any_below (outside s c.args.from) (n - n % 16) ≡ false = ap (any_below (outside s c.args.from)) (sym from) ∙ l.invariant in
    c.some_outside-2.ensures ∙ joined s c.args.from (n - n % 16) (n % 16) n (omega (arith, div-add-mod n 16)) none ∙ moved s n c.requires.0
