-- `cut` over one list: its first three chunks of 257 are the leg's table, so the strokes by the table are those by the list.
use Rattle.std.proofs.Common.{◌≡◌, ◌+◌, ◌*◌, ◌/◌, ◌≤◌, ◌<◌, ◌∙◌, ℕ, zero, suc, ℤ, pos, List, [], length, get_or, set, take, drop, refl, sym, ap, drop-drop, get_or-take, get_or-drop, arith}
use Rattle.std.proofs.lemmas.List.Edits.{sets}
use Rattle.std.proofs.Math.Nat.{mul-zero, mul-suc}
use Rattle.std.specs.Simd.{first_chunks}
use Rattle.systems.specs.Passes.{at}
use Rattle.stretch.specs.Asked.{tabled, flat, FlatStretch}
use Rattle.stretch.specs.Stretches.{ends_by, ends_of}
use Rattle.stretch.proofs.Tables.{ends_same}
use Rattle.stretch.proofs.cuts.cut.Goals as goal

-- one of the first k chunks
chunk_is : {X : Type 0} (n k : ℕ) (xs : List X) (i : ℕ) → i < k → get_or (first_chunks n k xs) i [] ≡ take n (drop (n * i) xs)
chunk_is n zero xs i h = absurd (omega arith)
chunk_is n (suc k) xs zero h = ap (λ j. take n (drop j xs)) (sym (mul-zero n))
chunk_is n (suc k) xs (suc i) h =
    let e : n + n * i ≡ n * suc i = omega (arith, mul-suc n i) in
    chunk_is n k (drop n xs) i (omega arith) ∙ ap (take n) (drop-drop (n * i) n xs) ∙ ap (λ j. take n (drop j xs)) e

-- the table made of the list
module _ {axes table : List (List ℤ)} (places : List ℤ) (k : ℕ) (chunked : axes ≡ first_chunks 257 k places) (first : table ≡ take 3 axes) where
  table_is : 3 ≤ k → (axis u : ℕ) → axis < 3 → u ≤ 256 → tabled table axis u ≡ flat places axis u
  table_is long axis u fits on =
      ap (λ l. at (get_or l axis []) u) (first ∙ ap (take 3) chunked)
      ∙ ap (λ l. at l u) (get_or-take 3 (first_chunks 257 k places) axis [] fits ∙ chunk_is 257 k places axis (omega arith))
      ∙ get_or-take 257 (drop (257 * axis) places) u (pos 0) (omega arith)
      ∙ get_or-drop (257 * axis) places u (pos 0)

  ends_are : {t a m : ℕ} → FlatStretch places t a m → k ≡ length places / 257 → (from : ℕ) → ends_of t (tabled table) from a m ≡ ends_of t (flat places) from a m
  ends_are {t} {a} {m} s e from =
      ends_same t (a + m) (tabled table) (flat places)
      (λ axis u fits on. table_is (omega (arith, e, s.table)) axis u fits (omega (arith, on, s.within)))
      from m a m (omega arith)

-- what the check finds alone, written so that a slice taken late is refused by its length
pub unwrap-requires : goal.unwrap-requires
unwrap-requires c = c.first_chunk.ensures.variant.1 (omega (arith, c.requires.0.table, c.as_chunks.ensures.front_len))

pub invariant_of-leg : goal.invariant_of-leg
invariant_of-leg c =
    let s = c.requires.0 in let p = c.args.places.now in
    let chunk = rw c.unwrap.ensures at c.first_chunk.ensures.cases in
    record {
      fine = s.fine;
      few = s.within;
      near = c.requires.1.tick;
      small = λ axis u fits on.
          rw (table_is p (length p / 257) c.as_chunks.ensures.front chunk.same (omega (arith, s.table)) axis u fits (omega (arith, on, s.within)))
          (s.small axis u fits on);
    }

-- tried on the second tick of a leg that starts at tick 10: its end is tick 12
pub returns-clause-ends : goal.returns-clause-ends
unfolding ends_by
returns-clause-ends c =
    let a = c.args in let p = a.places.now in
    let chunk = rw c.unwrap.ensures at c.first_chunk.ensures.cases in
    let second_tried : a.from ≡ 10 → a.start ≡ 1 → a.ticks ≡ 1 → c.cut.new.ends ≡ set a.ends.now a.n 12 = λ f s m. simp (f, s, m) at c.cut.ensures.ends in
    c.cut.ensures.ends ∙ ap (sets a.ends.now a.n) (ends_are p (length p / 257) c.as_chunks.ensures.front chunk.same c.requires.0 refl a.from)

pub returns-clause-count : goal.returns-clause-count
returns-clause-count c =
    let a = c.args in let p = a.places.now in
    let chunk = rw c.unwrap.ensures at c.first_chunk.ensures.cases in
    c.cut.ensures.count ∙ ap (λ l. a.n + length l) (ends_are p (length p / 257) c.as_chunks.ensures.front chunk.same c.requires.0 refl a.from)
