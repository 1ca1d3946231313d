-- By what the look found: the page is written with what is in hand, which the look left as it was, or it is skipped.
use Rattle.std.specs.Prelude.{◌≡◌, ℕ, not, false, Result}
use Rattle.std.specs.declared.option.Option.TheVariants.{Some}
use Rattle.std.proofs.Common.{ap, sym, ◌∙◌, subst}
use Rattle.cc_entry.specs.Place.{Page}
use Rattle.cc_entry.specs.declared.error.CcError.{CcError}
use Rattle.cc_turns.specs.Standing.{TurnsHeld, Standing}
use Rattle.cc_writes.specs.Writes.{HasBoth, IsToWrite, WriteShown}
use Rattle.cc_writes.proofs.Disks.{both_still}
use Rattle.cc_calls.specs.PageWrites.{IsFullPage}
use Rattle.cc_calls.specs.declared.page_writes.PageWriteAnswer.{PageWriteAnswer}
use Rattle.cc_calls.proofs.Looking.{page-is, to_write-not_over}
use Rattle.cc_calls.proofs.OnePage.{full-by, skipped-by, wrote}
use Rattle.cc_calls.proofs.page_writes.write_held.Goals as goal

pub write_page-book-requires-clause-both : goal.write_page-book-requires-clause-both
write_page-book-requires-clause-both g c =
    let w = g.T.Turns.standing c.args.turns.now in
    let v = g.T.Turns.standing c.is_to_write_at.new.turns in
    let look = c.is_to_write_at.ensures in
    subst (λ (n : ℕ). HasBoth g.T.Disk.Told.told g.T.Disk.Told.faults v n c.args.book c.args.disk.now) (sym c.requires.both.book.stream)
    (both_still g.T.Disk.Told.told g.T.Disk.Told.faults w.in_flight w v c.args.page.stream c.args.book c.args.book c.args.disk.now c.requires.both look.book look.rest look.went look.disk)

pub write_page-book-requires-clause-to_write : goal.write_page-book-requires-clause-to_write
write_page-book-requires-clause-to_write g c =
    let v = g.T.Turns.standing c.is_to_write_at.new.turns in
    subst (λ (page : Page). IsToWrite page v.seen) (sym (page-is c.args.book.stream c.page.result c.args.page c.requires.both.book.stream c.page.ensures.same))
    (to_write-not_over v.seen c.args.page (c.is_to_write_at.ensures.found ∙ ap not c.if-is_to_write_at.true))

pub returns-then-is_to_write_at-clause-left : goal.returns-then-is_to_write_at-clause-left
returns-then-is_to_write_at-clause-left g c =
    let w = g.T.Turns.standing c.args.turns.now in
    let v = g.T.Turns.standing c.is_to_write_at.new.turns in
    let z = g.T.Turns.standing c.write_page-book.new.turns in
    let wrote_it = c.write_page-book.ensures in
    wrote w v z.seen (record { stream = c.args.book.stream; page = c.page.result }) c.args.page false c.write_page-book.result.1 c.answer_of.result
    (page-is c.args.book.stream c.page.result c.args.page c.requires.both.book.stream c.page.ensures.same) (ap (λ (x : Standing). x.number) c.is_to_write_at.ensures.went.same) c.answer_of.ensures
    c.is_to_write_at.ensures.idle wrote_it.shown wrote_it.left

pub returns-then-is_to_write_at-clause-full : goal.returns-then-is_to_write_at-clause-full
returns-then-is_to_write_at-clause-full g c =
    let v = g.T.Turns.standing c.is_to_write_at.new.turns in
    let z = g.T.Turns.standing c.write_page-book.new.turns in
    let wrote_it = c.write_page-book.ensures in
    subst (λ (r : Result PageWriteAnswer CcError). IsFullPage c.args.page z r) (sym c.answer_of.ensures)
    (full-by v z c.args.page false c.write_page-book.result.1 (ap (λ (h : TurnsHeld). h.book) c.is_to_write_at.ensures.book.held) c.is_to_write_at.ensures.rest.device
    (to_write-not_over v.seen c.args.page (c.is_to_write_at.ensures.found ∙ ap not c.if-is_to_write_at.true))
    (subst (λ (p : Page). WriteShown v p false c.write_page-book.result.1 z.seen) (page-is c.args.book.stream c.page.result c.args.page c.requires.both.book.stream c.page.ensures.same) wrote_it.shown)
    wrote_it.full)

pub returns-else-is_to_write_at-clause-both : goal.returns-else-is_to_write_at-clause-both
returns-else-is_to_write_at-clause-both g c =
    let w = g.T.Turns.standing c.args.turns.now in
    let v = g.T.Turns.standing c.is_to_write_at.new.turns in
    let look = c.is_to_write_at.ensures in
    both_still g.T.Disk.Told.told g.T.Disk.Told.faults w.in_flight w v c.args.page.stream c.args.book c.args.book c.args.disk.now c.requires.both look.book look.rest look.went look.disk

pub returns-else-is_to_write_at-clause-left : goal.returns-else-is_to_write_at-clause-left
returns-else-is_to_write_at-clause-left g c =
    let w = g.T.Turns.standing c.args.turns.now in
    let v = g.T.Turns.standing c.is_to_write_at.new.turns in
    skipped-by w.number c.args.page w.seen v.seen c.is_to_write_at.ensures.idle (c.is_to_write_at.ensures.found ∙ ap not c.if-is_to_write_at.false)
