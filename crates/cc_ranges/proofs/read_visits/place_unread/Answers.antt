use Rattle.std.proofs.Common.{subst}
use Rattle.cc_entry.specs.Place.{Page}
use Rattle.cc_entry.specs.declared.entry.Entry.TheVariants as entry
use Rattle.cc_book.specs.Book.{Gains}
use Rattle.cc_step.proofs.PlacedPages.{good-unread}
use Rattle.cc_journal.proofs.GoodEntries.{MayBePushed-good}
use Rattle.cc_step.proofs.Placed.{so-far}
use Rattle.cc_ranges.proofs.read_visits.place_unread.Goals as goal

pub push-requires-clause-may : goal.push-requires-clause-may
push-requires-clause-may g c =
    let u = c.requires.good.0 in
    let past = c.args.journal.now.entries in
    rw c.page_id-page.ensures (MayBePushed-good u past _ (so-far u _ (good-unread u past c.args.pass c.args.file.stream c.args.page c.requires.good.1)))

pub returns : goal.returns
returns g c =
    subst (λ (p : Page). Gains (entry.FillFailed c.args.pass p) c.args.journal.now c.push.new.self) c.page_id-page.ensures c.push.ensures.placed
