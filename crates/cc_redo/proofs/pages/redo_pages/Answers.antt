use Rattle.std.specs.Ordering.{nat_cmp}
use Rattle.std.specs.BTreeMap.{get}
use Rattle.cc_redo.specs.Heard.{redone_of}
use Rattle.cc_redo.proofs.Changing.{redo-writing}
use Rattle.cc_redo.proofs.pages.redo_pages.Goals as goal

pub returns-clause-writing : goal.returns-clause-writing
returns-clause-writing g c =
    redo-writing (g.D.Told.told c.args.disk.now) (g.D.Told.told c.changed_pages.new.disk) (g.D.Told.told c.write_pages.new.disk) (get nat_cmp c.in_ok-kept.kept)
    (redone_of c.args.redo.now c.args.from c.args.entries.now) c.changed_pages.ensures.stays c.in_ok-kept.ensures.changed c.write_pages.ensures.writing
