-- Behind the rows there is a place, or they moved to the start first.
use Rattle.std.proofs.Common.{◌+◌, ap, ◌∙◌, drop, insert, arith}
use Rattle.cc_dirty.specs.declared.live.LiveRows.TheInside.{Inside}
use Rattle.cc_dirty.proofs.Gap.{insert-up}
use Rattle.cc_dirty.proofs.live.LiveRows.insert.Goals.{then-len-capacity, else-len-capacity}
use Rattle.cc_dirty.proofs.live.LiveRows.insert.Goals as goal

pub returns-after-len-capacity-clause-rows : goal.returns-after-len-capacity-clause-rows
returns-after-len-capacity-clause-rows c = rw (c.insert_reserved.ensures.items, ← c.self.view_is) (elim c.if-len-capacity.branch [
  | then-len-capacity w ↦
      ap (λ (s : Inside). drop s.first (insert s.places.items (s.first + c.args.place) c.args.row)) w.self-inside-is
      ∙ ap (λ n. insert w.move_to_start.new.places.items n c.args.row) {x = 0 + c.args.place} {y = c.args.place} (omega arith)
      ∙ ap (λ l. insert l c.args.place c.args.row) w.move_to_start.ensures.rows
  | else-len-capacity w ↦
      ap (λ (s : Inside). drop s.first (insert s.places.items (s.first + c.args.place) c.args.row)) w.self-inside-is
      ∙ insert-up c.self.inside.places.items c.self.inside.first c.args.place c.args.row (omega (arith, c.self.invariant))
])
