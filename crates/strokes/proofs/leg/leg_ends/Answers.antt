-- `leg_ends`: the strokes by the table are those by the leg's places.
use Rattle.std.proofs.Common.{◌≡◌, ◌+◌, ◌∙◌, ℕ, ℤ, List, length, ap, arith}
use Rattle.std.proofs.lemmas.List.Edits.{sets}
use Rattle.sheet.specs.Fields.{leg}
use Rattle.sheet.proofs.Laws.{accepted_bounds}
use Rattle.stretch.specs.Asked.{tabled}
use Rattle.stretch.specs.Stretches.{kept, ends_by, ends_of}
use Rattle.strokes.specs.Asked.{OnLegOf, Table}
use Rattle.strokes.specs.Strokes.{places_on, leg_ends}
use Rattle.strokes.proofs.LegByLeg.{leg_ends_by}
use Rattle.strokes.proofs.Places.{place_small}
use Rattle.strokes.proofs.Tables.{ends_same}
use Rattle.strokes.proofs.leg.leg_ends.Goals as goal

pub invariant_of-tabled : goal.invariant_of-tabled
invariant_of-tabled c =
    let l = c.args.leg.now in let s = l.laid.sheet.bytes.now in let a = l.laid.sheet.accepted in let i = l.start in
    let table = c.put_table.ensures in
    record {
      fine = c.requires.0;
      few = omega (arith, l.is_ticks, (accepted_bounds s a).leg_high i l.fits);
      near = omega (arith, l.is_ticks, c.requires.1.starts, leg_ends_by s a i l.fits);
      small = λ axis u k up.
          rw (table.at_offset axis u k up)
          (place_small s a l.laid.list.now i l.fits l.inside (rw (← l.is_end) l.end_fits) axis u k (omega (arith, l.is_ticks)));
    }

pub cut-requires-clause-stretch : goal.cut-requires-clause-stretch
cut-requires-clause-stretch c =
    let l = c.args.leg.now in let o = l.laid.sheet in
    (omega (arith, l.is_ticks, (accepted_bounds o.bytes.now o.accepted).leg_low l.start l.fits), omega arith)

-- the strokes by the table are those by the places
ends_are : {s : List ℕ} (list : List ℤ) {places : List (List ℤ)} {i from n h : ℕ} (t : ℕ) → OnLegOf s i from n → h ≡ leg s i → Table places h (places_on s list i)
    → ends_of t (tabled places) from 0 h ≡ leg_ends s list t i
ends_are {s} list {places} {i} {from} {n} {h} t on e table =
    let x = places_on s list i in
    ends_same t h (tabled places) x table.at_offset from h 0 h (omega arith) ∙ (λ j. ends_by (kept t x) (on.starts j) (e j) 0 (e j))

pub returns-clause-count : goal.returns-clause-count
returns-clause-count c =
    let a = c.args in let l = a.leg.now in
    c.cut.ensures.count ∙ ap (λ l. a.n + length l) (ends_are l.laid.list.now a.tolerance c.requires.1 l.is_ticks c.put_table.ensures)

pub returns-clause-ends : goal.returns-clause-ends
returns-clause-ends c =
    let a = c.args in let l = a.leg.now in
    c.cut.ensures.ends ∙ ap (sets a.ends.now a.n) (ends_are l.laid.list.now a.tolerance c.requires.1 l.is_ticks c.put_table.ensures)
