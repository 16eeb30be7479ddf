-- The worked ticks, by computing the definitions; and 513 waypoints of two courses are the most: their counts put into the two theorems (W15).
use mathlib.Core.Path.{◌≡◌, refl, ◌∙◌}
use mathlib.Core.List.{flat_map}
use Prim.Native.Nat.{◌+◌, ◌-◌}
use native.Mathlib.Omega.{arith}
use borrow.Author.Tests.{le-ltb}
use lib.ListN.{length}
use Rattle.sheet.specs.Bytes.{be16, sum_below}
use Rattle.sheet.specs.declared.Refusal.TheVariants.{Page}
use Rattle.answers.specs.Answers.{guard, told_count}
use Rattle.std.specs.Prelude.{Ok}
use Rattle.writer.specs.Sheets.{written_sheet}
use Rattle.joined.specs.Worked.{TicksTried, MostTried}
use Rattle.joined.proofs.Answers.{n_counts, m_counts, joined_where_few, crowded_where_more}

pub ticks_tried : TicksTried
unfolding be16 sum_below flat_map written_sheet
ticks_tried = record { shared = refl; last = refl; shared_joined = refl; last_joined = refl; all = refl }

pub most_tried : MostTried
most_tried = record {
  most = λ s t w n m room h.
      let both : length s + length t ≡ 7_194 = omega (arith, (n_counts s t w).long, (m_counts s t w).long) in
      joined_where_few s t w (omega arith) room
      ∙ (λ i. guard (le-ltb (room + 20) (length s + length t) (omega arith) i) Page (told_count (Ok (both i - 20))));
  one_more = λ s t w n m room. crowded_where_more s t w (omega arith) room;
}
