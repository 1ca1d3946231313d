-- A noncached store, with the begin of its transfer.
use Rattle.std.specs.Prelude.{◌≡◌, ℕ, ◌-◌, List, ◌∷◌}
use Rattle.cc_entry.specs.Place.{File, Page}
use Rattle.cc_entry.specs.declared.call.Call.TheVariants as call
use Rattle.cc_entry.specs.declared.reply.Reply.TheVariants as reply
use Rattle.cc_entry.specs.declared.entry.Entry.{Entry}
use Rattle.cc_entry.specs.declared.entry.Entry.TheVariants as entry
use Rattle.cc_journal.specs.Journal.{JournalState}
use Rattle.cc_model.specs.Good.{IsGoodSoFar}
use Rattle.cc_model.specs.Setup.{Setup}
use Rattle.cc_book.specs.Book.{BookState, BookStands, done}

-- the entry of a pass's noncached store of a page, which was done
abbrev pub store_done : ℕ → List Entry → File → Page → List ℕ → Entry
store_done pass past file page bytes = done pass past page.stream (call.NcStore file page.page bytes) reply.Unit

-- A noncached store of a page of the book's stream may be done, and the page's transfer begin after it: over this setup
-- the journal is good with both entries, and the book stands for the past.
pub record MayStoreAndBegin (u : Setup) (past : List Entry) (pass : ℕ) (file : File) (page : Page) (bytes : List ℕ)
    (b : BookState) : Type 0 where
  pub good : IsGoodSoFar u (entry.WriteBegin pass page ∷ store_done pass past file page bytes ∷ past)
  pub stands : BookStands (u.opening b.stream) past b

-- the journal gained the entries of a noncached store and of the begin of its page's transfer, for which two places were
-- reserved
abbrev pub GainsStore : {Q : Type 0} → ℕ → File → Page → List ℕ → JournalState Q → JournalState Q → Type 0
GainsStore pass file page bytes old new =
    new ≡ record old {
      entries = entry.WriteBegin pass page ∷ store_done pass old.entries file page bytes ∷ old.entries;
      reserved = old.reserved - 2;
      rows = new.rows;
    }
