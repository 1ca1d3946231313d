use Rattle.cc_entry.specs.declared.entry.Entry.TheVariants as entry
use Rattle.cc_writes.proofs.Beginning.{begun-placed, begun-stands}
use Rattle.cc_writes.proofs.transfers.begin.Goals as goal

pub returns-in-Ok-begin : goal.returns-in-Ok-begin
returns-in-Ok-begin g c = record {
  placed = begun-placed (entry.WriteBegin c.args.pass c.args.page) c.args.journal.now c.reserve.new.self c.begin.new.journal c.in-Ok.ensures.reserved c.in-Ok-begin.ensures.placed;
  snapshot = c.in-Ok-begin.ensures.snapshot;
  stands = begun-stands c.begin.new.journal.entries c.args.journal.now c.reserve.new.self c.args.book.now c.begin.new.self c.in-Ok.ensures.reserved c.in-Ok-begin.ensures.stands;
  stream = c.in-Ok-begin.ensures.stream;
}
