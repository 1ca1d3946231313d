-- A page that is on the disk alone has a failed fill for an entry, which is good; else the place is given back.
use Rattle.std.specs.Prelude.{refl}
use Rattle.std.proofs.Common.{ap, sym, ◌∙◌, subst}
use Rattle.cc_entry.specs.declared.entry.Entry.{Entry}
use Rattle.cc_entry.specs.declared.entry.Entry.TheVariants as entry
use Rattle.cc_entry.specs.Place.{Page}
use Rattle.cc_book.proofs.BookSteps.{goes_on_none}
use Rattle.cc_book.specs.Book.{Gains}
use Rattle.cc_journal.proofs.GoodEntries.{MayBePushed-good}
use Rattle.cc_step.proofs.Placed.{so-far}
use Rattle.cc_step.specs.Fill.{book_page}
use Rattle.cc_step.proofs.PlacedPages.{good-unread, stand-onto}
use Rattle.cc_step.proofs.landing.unread.Goals as goal

pub push-requires-clause-may : goal.push-requires-clause-may
push-requires-clause-may g c =
    let u = c.requires.may.0 in
    let past = c.args.journal.now.entries in
    rw c.page_id-page.ensures (MayBePushed-good u past _ (so-far u _ (good-unread u past c.args.pass c.args.book.now.stream c.args.page c.requires.may.1.good)))

pub returns-then-is_on_disk_alone : goal.returns-then-is_on_disk_alone
returns-then-is_on_disk_alone g c u stand =
    let past = c.args.journal.now.entries in
    let b = c.args.book.now in
    let e : Entry = entry.FillFailed c.args.pass (book_page b c.args.page) in
    let placed : Gains e c.args.journal.now c.push.new.self = subst (λ (p : Page). Gains (entry.FillFailed c.args.pass p) c.args.journal.now c.push.new.self) c.page_id-page.ensures c.push.ensures.placed in
    let good = good-unread u past c.args.pass b.stream c.args.page stand.good in
    let grown = ap (λ j. j.entries) placed in
    record {
      on_disk = sym (c.is_on_disk_alone.ensures (u.opening b.stream) past stand.stands) ∙ c.if-is_on_disk_alone.true;
      placed = placed;
      stand = stand-onto u e b b c.args.journal.now c.push.new.self stand good grown (ap (λ j. j.logs) placed) (ap (λ j. j.threshold) placed) refl (rw grown (goes_on_none e past b (u.opening b.stream) refl stand.stands));
    }

pub returns-else-is_on_disk_alone : goal.returns-else-is_on_disk_alone
returns-else-is_on_disk_alone g c u stand = record {
  not_on_disk = sym (c.is_on_disk_alone.ensures (u.opening c.args.book.now.stream) c.args.journal.now.entries stand.stands) ∙ c.if-is_on_disk_alone.false;
  given_back = c.release.ensures;
}
