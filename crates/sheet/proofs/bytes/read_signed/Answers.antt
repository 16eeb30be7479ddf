-- `read_signed`: std's signed number of four bytes is the definition's.
use Rattle.std.proofs.Common.{◌≡◌, ◌∙◌, ◌≤◌, ◌<◌, ℤ, ap, sym, subst, nat_abs, to_z, of_z, w32}
use Rattle.std.proofs.Math.Facts.{of_z-to_z}
use Rattle.sheet.specs.Bytes.{be32, signed32}
use Rattle.sheet.proofs.Four.{of_four, be32_fits}
use Rattle.sheet.proofs.Numbers.{as_read, signed_bits, signed_size}
use Rattle.sheet.proofs.bytes.read_signed.Goals as goal

pub returns : goal.returns
returns c =
    let s = c.args.s.now in let n = be32 s c.args.at in let h : n < 4294967296 = be32_fits s c.args.at c.type_inv.s in
    let is : c.from_be_bytes.result ≡ to_z w32 n = c.from_be_bytes.ensures ∙ ap (to_z w32) (of_four s c.args.at c.four_bytes.ensures) in
    let e : c.from.result ≡ signed32 n = c.from.ensures ∙ ap (λ (z : ℤ). to_z w32 (of_z w32 z)) is ∙ ap (to_z w32) (of_z-to_z {w = w32} (record { fits = h })) ∙ signed_bits n h in
    let small : nat_abs c.from.result ≤ 2147483648 = subst (λ (z : ℤ). nat_abs z ≤ 2147483648) (sym e) (signed_size n h) in
    let back = as_read e small in
    (back, subst (λ (z : ℤ). nat_abs z ≤ 2147483648) (sym back) (signed_size n h))
