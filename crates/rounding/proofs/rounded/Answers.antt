-- `rounding::rounded` meets its contract: the two tests add up to what the remainder rounds to, that and the quotient to what n / d rounds to.
use Rattle.std.proofs.Common.{rules, ◌≡◌, refl, ◌∙◌, pos, negsuc, nat_abs, ℤ, ◌+ℤ◌, ◌-ℤ◌}
use lib.Signed.{quot_z, rem_z, mag_rem}
use mir.Syntax.{w64}
use mir.Val.{SFits}
use mir.ValLaws.{sfits_le}
use Rattle.integers.proofs.Machine.{back, fits_back}
use Rattle.integers.proofs.Made.{read, passed}
use Rattle.rounding.specs.Rounded.{rounded}
use Rattle.rounding.proofs.Remainder.{up, fits_quot, fits_minus, step_rounds, sum_rounds, rounded_fits}
use Rattle.rounding.proofs.rounded.Goals as goal
use Rattle.rounding.proofs.rounded.Goals.{After-goes_up, After-goes_up-2}

-- tried at -5 of 2, -2.5, a half: the quotient is -2, the remainder -1, for which the tests give 0 and 1
half_tried : After-goes_up-2
half_tried = record {
  before = record {
    before = record { args = record { n = negsuc 4; d = pos 2 }; well_formed = search rules; ranges = search rules; requires = search rules };
    goes_up = record { lifetimes = tt; result = pos 0; new = search rules; type_inv = search rules; auto = search rules; ensures = refl };
  };
  goes_up-2 = record { lifetimes = tt; result = pos 1; new = search rules; type_inv = search rules; auto = search rules; ensures = refl };
}

-- and at 3 of 4: the remainder 3 has the test 1
above_tried : After-goes_up
above_tried = record {
  before = record { args = record { n = pos 3; d = pos 4 }; well_formed = search rules; ranges = search rules; requires = search rules };
  goes_up = record { lifetimes = tt; result = pos 1; new = search rules; type_inv = search rules; auto = search rules; ensures = refl };
}

module _ (c : After-goes_up-2) where
  abbrev n : ℤ
  n = c.args.n

  abbrev d : ℤ
  d = c.args.d

  en : read n ≡ n
  en = back refl c.ranges.n

  ed : read d ≡ d
  ed = back refl c.ranges.d

  quot_made : quot_z (read n) (read d) ≡ quot_z n d
  quot_made = λ i. quot_z (en i) (ed i)

  rem_fits : SFits w64 (rem_z n d)
  rem_fits = sfits_le (mag_rem n d) c.ranges.n

  er : read (rem_z (read n) (read d)) ≡ rem_z n d
  er = back (λ i. rem_z (en i) (ed i)) rem_fits

  minus_made : read (pos 0 -ℤ read (rem_z (read n) (read d))) ≡ pos 0 -ℤ rem_z n d
  minus_made = back (λ i. pos 0 -ℤ er i) (fits_minus n d c.requires c.ranges.d)

  first : read c.goes_up.result ≡ up (rem_z n d) d
  first = passed c.goes_up.ensures c.goes_up.type_inv ∙ (λ i. up (er i) (ed i))

  second : read c.goes_up-2.result ≡ up (pos 0 -ℤ rem_z n d) d
  second = passed c.goes_up-2.ensures c.goes_up-2.type_inv ∙ (λ i. up (minus_made i) (ed i))

  abbrev step_made : ℤ
  step_made = read c.goes_up.result -ℤ read c.goes_up-2.result

  step_is : step_made ≡ rounded (rem_z n d) (nat_abs d)
  step_is = (λ i. first i -ℤ second i) ∙ step_rounds n d c.requires

  step_fits : SFits w64 (rounded (rem_z n d) (nat_abs d))
  step_fits = rounded_fits (rem_z n d) d c.requires rem_fits

  sum_is : read (quot_z (read n) (read d)) +ℤ read step_made ≡ rounded n (nat_abs d)
  sum_is = (λ i. back quot_made (fits_quot n d c.requires c.ranges.n) i +ℤ back step_is step_fits i) ∙ sum_rounds n d c.requires

  sum_fits : SFits w64 (rounded n (nat_abs d))
  sum_fits = rounded_fits n d c.requires c.ranges.n

pub overflow_sub-result : goal.overflow_sub-result
overflow_sub-result c = fits_back (step_is c) (step_fits c)

pub overflow_add-result : goal.overflow_add-result
overflow_add-result c = fits_back (sum_is c) (sum_fits c)

pub returns : goal.returns
returns c = back (sum_is c) (sum_fits c)
