-- `put_all`: the bytes of the numbers so far stand from `from` on, whatever function `bits` computes of them.
use Rattle.std.proofs.Common.{◌≡◌, ℕ, Some, take, slice_get}
use mathlib.Core.List.{flat_map}
use Rattle.std.specs.Int.{bytes_high_first}
use Rattle.writer.specs.Inside.{over}
use Rattle.writer.proofs.put.put_all.Given as goal

abbrev pub invariant-loop-i : goal.invariant-loop-i
invariant-loop-i g l =
    (f : g.row.T.Denot → ℕ) → ((i : ℕ) (x : g.row.T.Denot) (r : ℕ) → slice_get l.numbers i ≡ Some x → goal.F-post g l.bits x r → r ≡ f x)
    → l.out ≡ over (flat_map (λ x. bytes_high_first g.row.N (f x)) (take l.i l.numbers)) l.from l.fn.out
