-- The page is one that the call waits for, so its entry keeps the journal good, and the book stands with it.
use Rattle.std.proofs.Common.{ap, sym, subst}
use Rattle.cc_entry.specs.declared.entry.Entry.{Entry}
use Rattle.cc_entry.specs.Place.{Page}
use Rattle.cc_book.specs.Book.{Gains, book_page_in}
use Rattle.cc_content.specs.Filling.{IsReadFrom}
use Rattle.cc_model.specs.History.{history}
use Rattle.cc_step.proofs.Placed.{so-far}
use Rattle.cc_step.specs.Fill.{book_page}
use Rattle.cc_step.proofs.Admitted.{admitted}
use Rattle.cc_step.proofs.PlacedPages.{good-in, stand-onto, comes-in, is-reached}
use Rattle.cc_step.proofs.Awaiting.{awaited-of}
use Rattle.cc_step.proofs.landing.bring_in.Goals as goal

pub bring_in-requires-clause-may : goal.bring_in-requires-clause-may
bring_in-requires-clause-may g c =
    let u = c.requires.may.0 in
    let it = c.requires.may.1 in
    let may = c.requires.may.2 in
    let b = c.args.book.now in
    let past = c.args.journal.now.entries in
    let stand = may.may.may.stand in
    rw c.page_id-coming.ensures
    (u, so-far u _ (good-in u past c.args.pass b.stream c.args.page _ stand.good (comes-in u c.args.pass it c.args.page b c.args.journal.now may)), stand.stands)

pub returns-in-Ok : goal.returns-in-Ok
returns-in-Ok g c u it may read =
    let b = c.args.book.now in
    let past = c.args.journal.now.entries in
    let stand = may.may.may.stand in
    let e : Entry = book_page_in c.args.pass (book_page b c.args.page) b in
    let placed : Gains e c.args.journal.now c.bring_in.new.journal = subst (λ (p : Page). Gains (book_page_in c.args.pass p b) c.args.journal.now c.bring_in.new.journal) c.page_id-coming.ensures c.in-Ok.ensures.placed in
    let good = good-in u past c.args.pass b.stream c.args.page _ stand.good (comes-in u c.args.pass it c.args.page b c.args.journal.now may) in
    let stands = c.in-Ok.ensures.stands (u.opening b.stream) (subst (λ (p : Page). IsReadFrom (u.opening b.stream) (history past b.stream) p.page c.args.raw.now) (sym c.page_id-coming.ensures) read) stand.stands in
    record {
      admitted = admitted u c.args.journal.now.entries b.stream it may.wanted.waits.admitted;
      awaited = awaited-of u past b.stream it c.args.page may.wanted.waits;
      reached = is-reached u c.args.pass it c.args.page b c.args.journal.now may;
      placed = placed;
      stand = stand-onto u e b c.bring_in.new.self c.args.journal.now c.bring_in.new.journal stand good (ap (λ j. j.entries) placed) (ap (λ j. j.logs) placed) (ap (λ j. j.threshold) placed) c.in-Ok.ensures.stream stands;
      stream = c.in-Ok.ensures.stream;
    }
