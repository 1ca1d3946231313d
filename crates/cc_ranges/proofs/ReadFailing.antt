-- The disk failed to read a page: its entry is placed in a visit, and halts the read.
use Rattle.std.specs.Prelude.{◌≡◌, ℕ, ◌<◌, Bool, List, ◌∷◌, refl}
use Rattle.std.proofs.Common.{ap, sym, ◌∙◌, subst}
use Rattle.cc_entry.specs.Place.{File}
use Rattle.cc_entry.specs.declared.call.Call.TheVariants as call
use Rattle.cc_entry.specs.declared.entry.Entry.{Entry}
use Rattle.cc_entry.specs.declared.error.CcError.TheVariants as error
use Rattle.cc_book.specs.Book.{BookState, BookStands, Gains}
use Rattle.cc_book.proofs.BookSteps.{goes_on_none}
use Rattle.cc_step.specs.Fill.{book_page}
use Rattle.cc_step.proofs.PlacedPages.{good-unread, stand-onto}
use Rattle.cc_journal.specs.Journal.{JournalState}
use Rattle.cc_laws.proofs.HistorySteps.{history-fill_failed}
use Rattle.cc_model.specs.History.{history}
use Rattle.cc_model.specs.Images.{open_of}
use Rattle.cc_step.specs.Step.{StandUnder}
use Rattle.cc_turns.specs.Transfers.{fill_failed}
use Rattle.cc_turns.specs.Standing.{Standing}
use Rattle.cc_turns.specs.Takes.{without_journal}
use Rattle.cc_writes.specs.Hands.{HasBook, IsAtRest}
use Rattle.cc_writes.specs.Visits.{HasPlaced}
use Rattle.cc_writes.specs.Ways.{IsHalted}
use Rattle.cc_writes.proofs.VisitHalting.{halts-read}
use Rattle.cc_writes.proofs.Landing.{has-place, visited-unread}
use Rattle.cc_writes.proofs.Resting.{disk-held, rest-same}
use Rattle.cc_writes.proofs.Visiting.{Visiting, Visited}
use Rattle.cc_ranges.specs.ReadVisits.{IsAtRead}
use Rattle.cc_ranges.proofs.ReadCalls.{at_read-on}

module _ {Q : Type 0} (posted : Q → Bool) (w v : Standing) (file : File) (page : ℕ) (b : BookState) (j k : JournalState Q)
    (has : HasBook w b.stream b) (vis : Visiting posted w v b.stream b j) (here : b.stream ≡ file.stream) (rest : IsAtRest w b.stream)
    (reserved : w.in_flight ≡ 1) where
  pub place : 0 < j.reserved
  place = has-place posted w v b b j k has vis rest reserved

  module _ (gains : Gains (fill_failed w.number file.stream page) j k) where
    gains-here : Gains (fill_failed w.number b.stream page) j k
    gains-here = subst (λ (n : ℕ). Gains (fill_failed w.number n page) j k) (sym here) gains

    entries-are : k.entries ≡ fill_failed w.number b.stream page ∷ j.entries
    entries-are = ap (λ (x : JournalState Q). x.entries) gains-here

    stand : StandUnder w.setup b k
    stand =
        stand-onto w.setup (fill_failed w.number b.stream page) b b j k vis.stand (good-unread w.setup j.entries w.number b.stream page vis.stand.good) entries-are
        (ap (λ (x : JournalState Q). x.logs) gains-here) (ap (λ (x : JournalState Q). x.threshold) gains-here) refl
        (subst (λ (past : List Entry). BookStands (w.setup.opening b.stream) past b) (sym entries-are)
        (goes_on_none (fill_failed w.number b.stream page) j.entries b (w.setup.opening b.stream) refl vis.stand.stands))

    pub visited-failed : Visited posted w v b.stream 0 b k
    visited-failed = visited-unread posted w v b b j k has vis rest reserved page gains-here stand refl

    pub rest-failed : IsAtRest (without_journal k v) b.stream
    rest-failed = record {
      device = ap (λ (x : Standing). x.held.device) visited-failed.went.same ∙ rest.device;
      no_transfer =
          ap (λ (past : List Entry). open_of (history past b.stream)) entries-are
          ∙ (ap open_of (history-fill_failed w.number (book_page b page) j.entries b.stream)
          ∙ rest-same w.seen j.entries b.stream (disk-held w b.stream j.entries rest.device vis.grows) rest.no_transfer);
    }

    pub placed-failed : HasPlaced w (fill_failed w.number file.stream page) k.entries
    placed-failed = record { front = j.entries; grows = vis.grows; placed = ap (λ (x : JournalState Q). x.entries) gains }

    pub halted-failed : (begun : List Entry) → IsAtRead w.setup w.number file page begun w.seen → IsHalted w.setup w.number file.stream (call.NcRead file page) (error.ReadFault page) begun k.entries
    halted-failed begun is =
        let on = at_read-on w.setup w.number file page begun w.seen j.entries is vis.idle in
        subst (λ (past : List Entry). IsHalted w.setup w.number file.stream (call.NcRead file page) (error.ReadFault page) begun past) (sym (ap (λ (x : JournalState Q). x.entries) gains))
        (halts-read w.setup w.number file.stream page (call.NcRead file page) begun j.entries on.way refl on.wanted)
