-- Bytes put over a slice's from a place on (specs/Inside): one run of bytes behind another, a copied part; and the lowest bytes of a number. For the proofs of put, here and in join.
use mathlib.Core.Path.{◌≡◌, refl, sym, ap, ◌∙◌}
use mathlib.Core.List.{List, [], ◌++◌, append_assoc, append-nil}
use Prim.Native.Nat.{ℕ, zero, suc, ◌+◌, ◌≤◌}
use native.Mathlib.Nat.{add-zero}
use native.Mathlib.Omega.{arith}
use lib.ListN.{length, take, drop, length-append, length-drop, take-append-drop}
use lib.Seq.{take_at, drop_at, drop-drop, length-take-le}
use Rattle.std.specs.Int.{bytes_high_first}
use Rattle.writer.specs.Inside.{over}

module _ (l : List ℕ) (at : ℕ) where
  pub over_none : over [] at l ≡ l
  unfolding over
  over_none = ap (λ k. take at l ++ [] ++ drop k l) (add-zero at) ∙ ap (λ r. r ++ drop at l) (append-nil (take at l)) ∙ take-append-drop at l

  module _ (x : List ℕ) (h : at + length x ≤ length l) where
    front : length (take at l ++ x) ≡ at + length x
    front = length-append (take at l) x ∙ ap (λ k. k + length x) (length-take-le at l (omega arith))

    -- y after x
    over_more : (y : List ℕ) → over y (at + length x) (over x at l) ≡ over (x ++ y) at l
    unfolding over
    over_more y =
        let end : at + length x + length y ≡ at + length (x ++ y) = omega (arith, length-append x y) in
        let beyond : drop (at + length x + length y) (take at l ++ x ++ drop (at + length x) l) ≡ drop (at + length (x ++ y)) l =
        sym (drop-drop (length y) (at + length x) (take at l ++ x ++ drop (at + length x) l))
        ∙ ap (drop (length y)) (drop_at (take at l ++ x) (drop (at + length x) l) (at + length x) front)
        ∙ drop-drop (length y) (at + length x) l ∙ ap (λ k. drop k l) end in
        (λ i. take_at (take at l ++ x) (drop (at + length x) l) (at + length x) front i ++ y ++ beyond i)
        ∙ ap (λ r. r ++ drop (at + length (x ++ y)) l) (append_assoc (take at l) x y)

-- the same where the second place is known by an equation, and the first run by another
pub over_next : (l : List ℕ) (at : ℕ) (x y : List ℕ) {m : List ℕ} {next : ℕ}
    → m ≡ over x at l → next ≡ at + length x → at + length x ≤ length l → over y next m ≡ over (x ++ y) at l
over_next l at x y e q h = (λ i. over y (q i) (e i)) ∙ over_more l at x h y

-- ---- k of the bytes of s from `from` on, copied into as many of l's from `at` on; i and j are k as the code has it
module _ (s : List ℕ) (from : ℕ) (l : List ℕ) (at k : ℕ) {i j : ℕ} (is : i ≡ k) (js : j ≡ k) where
  abbrev source : List ℕ
  source = take i (drop from s)

  -- where they stand in place of as many, put back
  pub part_copied : from + k ≤ length s → {part : List ℕ} → part ≡ source → take at l ++ (part ++ drop j (drop at l)) ≡ over (take k (drop from s)) at l
  unfolding over
  part_copied h e =
      let long = length-take-le i (drop from s) (omega (arith, length-drop from s)) in
      let whole = e ∙ ap (λ n. take n (drop from s)) is in
      let end : at + j ≡ at + length (take k (drop from s)) = omega (arith, ap (λ n. length (take n (drop from s))) is) in
      (λ z. take at l ++ (whole z ++ (drop-drop j at l ∙ ap (λ n. drop n l) end) z))
      ∙ sym (append_assoc (take at l) (take k (drop from s)) (drop (at + length (take k (drop from s))) l))

-- ---- the lowest bytes of a number
pub length_high : (k x : ℕ) → length (bytes_high_first k x) ≡ k
length_high zero x = refl
length_high (suc k) x = ap suc (length_high k x)
