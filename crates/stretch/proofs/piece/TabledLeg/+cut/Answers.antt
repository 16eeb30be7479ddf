-- `cut`: the ends of the first half are stored and counted, then those of the second half behind them.
use Rattle.std.proofs.Common.{◌≡◌, ◌+◌, ◌-◌, ◌/◌, ◌≤◌, ◌<◌, ◌∙◌, ℕ, Bool, List, ℤ, length, set, true, false, sym, ap, add-one, length-append, arith}
use Rattle.std.proofs.lemmas.List.Edits.{sets}
use Rattle.stretch.specs.Asked.{tabled}
use Rattle.stretch.specs.Stretches.{kept, ends_of}
use Rattle.stretch.proofs.Ends.{ends_kept, long, halves, pair, few_ends}
use Rattle.stretch.proofs.Stretches.{short_kept, sets_append}
use Rattle.stretch.proofs.piece.TabledLeg.+cut.Goals as goal

-- the places, the tolerance, and the tick at which the leg starts
module _ (places : List (List ℤ)) (tolerance from : ℕ) where
  abbrev keep : ℕ → ℕ → Bool
  keep = kept tolerance (tabled places)

  abbrev ends : ℕ → ℕ → List ℕ
  ends b k = ends_of tolerance (tabled places) from b k

  short : (b k : ℕ) → k < 2 → keep b k ≡ true
  short = short_kept tolerance (tabled places)

  two : (a m : ℕ) → keep a m ≡ false → 2 ≤ m
  two a m e = long keep from short a m e

  -- the ends of the first half are at most its ticks
  first_half : (a m n x : ℕ) → 1 ≤ m → x ≡ n + length (ends a m) → x ≤ n + m
  first_half a m n x h e = omega (arith, e, few_ends keep from short a m h)

pub returns-then-is_kept-clause-count : goal.returns-then-is_kept-clause-count
returns-then-is_kept-clause-count t c =
    let a = c.args in let g = a.self.now in
    let e = ends_kept (keep g.places.now g.tolerance g.from) g.from a.ticks a.start a.ticks (sym c.is_kept.ensures ∙ c.if-is_kept.true) in
    c.put_end.ensures.count ∙ ap (λ l. a.n + length l) (sym e)

pub returns-then-is_kept-clause-ends : goal.returns-then-is_kept-clause-ends
returns-then-is_kept-clause-ends t c =
    let a = c.args in let g = a.self.now in
    let e = ends_kept (keep g.places.now g.tolerance g.from) g.from a.ticks a.start a.ticks (sym c.is_kept.ensures ∙ c.if-is_kept.true) in
    c.put_end.ensures.ends ∙ ap (sets a.ends.now a.n) (sym e)

pub returns-then-ticks-eq2-clause-count : goal.returns-then-ticks-eq2-clause-count
returns-then-ticks-eq2-clause-count t c =
    let a = c.args in let g = a.self.now in let k = keep g.places.now g.tolerance g.from in
    let whole = pair k g.from (short g.places.now g.tolerance g.from) a.start a.ticks c.if-ticks-eq2.true (sym c.is_kept.ensures ∙ c.if-is_kept.false) in
    omega (arith, c.put_end-then-ticks-eq2.ensures.count, c.put_end-middle.ensures.count, ap length whole)

pub returns-then-ticks-eq2-clause-ends : goal.returns-then-ticks-eq2-clause-ends
returns-then-ticks-eq2-clause-ends t c =
    let a = c.args in let g = a.self.now in let k = keep g.places.now g.tolerance g.from in
    let whole = pair k g.from (short g.places.now g.tolerance g.from) a.start a.ticks c.if-ticks-eq2.true (sym c.is_kept.ensures ∙ c.if-is_kept.false) in
    c.put_end-then-ticks-eq2.ensures.ends
    ∙ (λ i. set (c.put_end-middle.ensures.ends i) (c.put_end-middle.ensures.count i) (g.from + (a.start + 2)))
    ∙ ap (λ j. set (set a.ends.now a.n (g.from + (a.start + 1))) j (g.from + (a.start + 2))) (add-one a.n)
    ∙ ap (sets a.ends.now a.n) (sym whole)

pub cut-requires : goal.cut-requires
cut-requires t c =
    let a = c.args in let g = a.self.now in
    let h = two g.places.now g.tolerance g.from a.start a.ticks (sym c.is_kept.ensures ∙ c.if-is_kept.false) in
    let b = first_half g.places.now g.tolerance g.from a.start (a.ticks / 2) a.n c.cut-middle.result (omega arith) c.cut-middle.ensures.count in
    (omega (arith, c.decreases), ((omega arith, omega arith), omega (arith, c.requires.count)))

pub returns-clause-count : goal.returns-clause-count
returns-clause-count t c =
    let a = c.args in let g = a.self.now in let k = keep g.places.now g.tolerance g.from in
    let l = ends g.places.now g.tolerance g.from a.start (a.ticks / 2) in
    let r = ends g.places.now g.tolerance g.from (a.start + a.ticks / 2) (a.ticks - a.ticks / 2) in
    let whole = halves k g.from (short g.places.now g.tolerance g.from) a.start a.ticks (sym c.is_kept.ensures ∙ c.if-is_kept.false) in
    omega (arith, c.cut.ensures.count, c.cut-middle.ensures.count, length-append l r, ap length whole)

pub returns-clause-ends : goal.returns-clause-ends
returns-clause-ends t c =
    let a = c.args in let g = a.self.now in let k = keep g.places.now g.tolerance g.from in
    let l = ends g.places.now g.tolerance g.from a.start (a.ticks / 2) in
    let r = ends g.places.now g.tolerance g.from (a.start + a.ticks / 2) (a.ticks - a.ticks / 2) in
    let whole = halves k g.from (short g.places.now g.tolerance g.from) a.start a.ticks (sym c.is_kept.ensures ∙ c.if-is_kept.false) in
    c.cut.ensures.ends
    ∙ (λ i. sets (c.cut-middle.ensures.ends i) (c.cut-middle.ensures.count i) r)
    ∙ sets_append l r a.ends.now a.n
    ∙ ap (sets a.ends.now a.n) (sym whole)
