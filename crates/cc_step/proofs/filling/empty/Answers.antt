-- A block of the range to give up has a least resident page, which is not dirty; its page out keeps the journal good.
use Rattle.std.specs.Prelude.{ℕ, List, Option, Some, None, IsSome, refl}
use Rattle.std.proofs.Common.{ap, sym, subst}
use Rattle.cc_entry.specs.Place.{Page}
use Rattle.cc_entry.specs.declared.entry.Entry.TheVariants as entry
use Rattle.cc_book.specs.Book.{Gains, GoesOn}
use Rattle.cc_journal.specs.Journal.{JournalState}
use Rattle.cc_model.specs.History.{Effect, history}
use Rattle.cc_step.proofs.Placed.{so-far}
use Rattle.cc_step.specs.Fill.{book_page}
use Rattle.cc_step.specs.Room.{IsLeastIn}
use Rattle.cc_step.proofs.Emptied.{block-numbered, has-least, page-numbered, good-going, made-way}
use Rattle.cc_step.specs.Step.{StandUnder, most_asked}
use Rattle.cc_step.proofs.Stops.{room-asks, stop-one, stops-for, stops-short}
use Rattle.cc_step.proofs.filling.empty.Goals as goal

-- a page was found, since there is one
some-page : (h : List Effect) (block : ℕ) (o : Option ℕ) → IsLeastIn h block o → (IsLeastIn h block None → ⊥) → IsSome o
some-page h block None found some = absurd (some found)
some-page h block (Some page) found some = refl

pub least_in-requires : goal.least_in-requires
least_in-requires g c =
    let m = c.requires.may in
    block-numbered m.0 c.args.pass c.args.call m.1 c.args.block c.args.book.now c.args.journal.now c.requires.answered c.requires.room m.2 m.3 m.4

pub unwrap-page-requires : goal.unwrap-page-requires
unwrap-page-requires g c =
    let m = c.requires.may in
    some-page (history c.args.journal.now.entries c.args.book.now.stream) c.args.block c.least_in.result
    (c.least_in.ensures (m.0.opening c.args.book.now.stream) c.args.journal.now.entries m.3.stands)
    (has-least m.0 c.args.pass c.args.call m.1 c.args.block c.args.book.now c.args.journal.now c.requires.answered c.requires.room m.2 m.3 m.4)

pub page_id-going-requires : goal.page_id-going-requires
page_id-going-requires g c =
    let m = c.requires.may in
    let h = history c.args.journal.now.entries c.args.book.now.stream in
    let least = subst (λ (o : Option ℕ). IsLeastIn h c.args.block o) c.unwrap-page.ensures (c.least_in.ensures (m.0.opening c.args.book.now.stream) c.args.journal.now.entries m.3.stands) in
    page-numbered m.0 c.args.pass c.args.call m.1 c.args.block c.args.book.now c.args.journal.now c.requires.answered c.requires.room m.2 m.3 m.4 c.unwrap-page.result m.5 least

pub take_out-requires-clause-may : goal.take_out-requires-clause-may
take_out-requires-clause-may g c =
    let m = c.requires.may in
    let h = history c.args.journal.now.entries c.args.book.now.stream in
    let least = subst (λ (o : Option ℕ). IsLeastIn h c.args.block o) c.unwrap-page.ensures (c.least_in.ensures (m.0.opening c.args.book.now.stream) c.args.journal.now.entries m.3.stands) in
    rw (ap (λ j. j.entries) c.in-Ok.ensures.reserved, c.page_id-going.ensures)
    (m.0, so-far m.0 _ (good-going m.0 c.args.pass c.args.call m.1 c.args.block c.args.book.now c.args.journal.now c.requires.answered c.requires.room m.2 m.3 m.4 c.unwrap-page.result m.5 least), m.3.stands)

pub returns-in-Ok-clause-left : goal.returns-in-Ok-clause-left
returns-in-Ok-clause-left g c u waited may crowded to_go clean =
    let b = c.args.book.now in
    let h = history c.args.journal.now.entries b.stream in
    let least = subst (λ (o : Option ℕ). IsLeastIn h c.args.block o) c.unwrap-page.ensures (c.least_in.ensures (u.opening b.stream) c.args.journal.now.entries crowded.stands) in
    made-way u c.args.pass c.args.call waited c.args.block b c.args.journal.now c.requires.answered c.requires.room may crowded to_go c.unwrap-page.result clean least c.take_out.new.self c.take_out.new.journal
    (subst (λ (j : JournalState g.row.Q.Denot). Gains (entry.PageOut c.args.pass (book_page b c.unwrap-page.result)) j c.take_out.new.journal) c.in-Ok.ensures.reserved
    (subst (λ (p : Page). Gains (entry.PageOut c.args.pass p) c.reserve.new.self c.take_out.new.journal) c.page_id-going.ensures c.take_out.ensures.placed))
    (subst (λ (j : JournalState g.row.Q.Denot). GoesOn j.entries c.take_out.new.journal.entries b c.take_out.new.self) c.in-Ok.ensures.reserved c.take_out.ensures.stands)
    c.take_out.ensures.stream

pub returns-in-Err-clause-left : goal.returns-in-Err-clause-left
returns-in-Err-clause-left g c u waited may crowded to_go clean =
    let b = c.args.book.now in
    let j = c.args.journal.now in
    let e = c.in-Err.error in
    let stop = stop-one e j c.in-Err.ensures.full.0 c.in-Err.ensures.causes in (
      stops-for 1 (most_asked c.args.call) e j (room-asks c.args.call c.requires.room) stop,
      record {
        same_journal = c.in-Err.ensures.err;
        stand = subst (λ (k : JournalState g.row.Q.Denot). StandUnder u b k) (sym c.in-Err.ensures.err) may.may.stand;
        stream = refl;
      },
      stops-short u b.stream c.args.call e j stop,
    )
