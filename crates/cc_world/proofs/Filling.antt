-- A page comes in, or the disk fails to read it, and a sync: what the row and the journal are then.
use Rattle.std.specs.Prelude.{◌≡◌, ℕ, ◌+◌, ◌*◌, ◌<◌, ◌≤◌, false, nat_lt, List, [], ◌∷◌, Option, refl}
use Rattle.std.proofs.Common.{ap, sym, ◌∙◌, arith, inl}
use Rattle.std.proofs.lemmas.Bool.{ltb-false}
use Rattle.cc_entry.specs.Place.{Page}
use Rattle.cc_entry.specs.declared.entry.End.{End}
use Rattle.cc_entry.specs.declared.entry.End.TheVariants as how
use Rattle.cc_entry.specs.declared.entry.Entry.{Entry}
use Rattle.cc_entry.specs.declared.entry.Entry.TheVariants as entry
use Rattle.cc_traits.specs.Disk.{Disk}
use Rattle.cc_book.specs.Book.{BookState, BookStands, book_page_in as page_into}
use Rattle.cc_journal.specs.Journal.{JournalState, room_of}
use Rattle.cc_laws.proofs.TurnSteps.{is_quiet-none, is_quiet-unneeded}
use Rattle.cc_model.specs.History.{history}
use Rattle.cc_model.specs.Setup.{Setup}
use Rattle.cc_model.specs.Touches.{valid_of}
use Rattle.cc_model.specs.Turns.{Book}
use Rattle.cc_turns.specs.Transfers.{transfer_faults}
use Rattle.cc_turns.proofs.BookGrows.{book_grows}
use Rattle.cc_turns.specs.Standing.{DiskAtFirst}
use Rattle.cc_world.specs.Rows.{RowEnded, RowLeft, RowWent, reply_to}
use Rattle.cc_effects.specs.Events.{MayHappen, page_in_entry}
use Rattle.cc_effects.specs.declared.events.Event.TheVariants as event
use Rattle.cc_world.specs.declared.rows.StreamRow.{StreamRow}

-- the two ways to name the entry of a page that comes in
pub same-entry : (opening : Option (ℕ → List ℕ)) (past : List Entry) (b : BookState) (pass : ℕ) (page : Page) → page.stream ≡ b.stream → BookStands opening past b → page_into pass page b ≡ page_in_entry past pass page
same-entry opening past b pass page stream stands =
    ap (λ (n : ℕ). entry.PageIn pass page (nat_lt (4096 * page.page) n)) (stands.contents_are.valid_is ∙ ap (λ (s : ℕ). valid_of (history past s)) (sym stream))

-- a page that has no byte below the valid data length
pub nothing-below : (valid page : ℕ) → nat_lt (4096 * page) valid ≡ false → (i : ℕ) → 4096 * page + i < valid → ⊥
nothing-below valid page none i below = over valid (ltb-false (4096 * page) valid none) i below
  where
    over : (n : ℕ) → n ≤ 4096 * page → (k : ℕ) → 4096 * page + k < n → ⊥
    over n least k less = omega arith

-- an entry of the disk alone leaves what the book stands for
pub book-on : (opening : Option (ℕ → List ℕ)) (pass stream : ℕ) (how : End) (past : List Entry) (b : BookState) → BookStands opening past b → BookStands opening (entry.Sync pass stream how ∷ past) b
book-on opening pass stream how past b stands =
    book_grows (entry.Sync pass stream how ∷ []) past b.stream opening b
    (is_quiet-unneeded (Book b.stream) (entry.Sync pass stream how) [] refl ∙ is_quiet-none (Book b.stream)) refl stands

pub book-unread : (opening : Option (ℕ → List ℕ)) (pass : ℕ) (page : Page) (past : List Entry) (b : BookState) → BookStands opening past b → BookStands opening (entry.FillFailed pass page ∷ past) b
book-unread opening pass page past b stands =
    book_grows (entry.FillFailed pass page ∷ []) past b.stream opening b
    (is_quiet-unneeded (Book b.stream) (entry.FillFailed pass page) [] refl ∙ is_quiet-none (Book b.stream)) refl stands

-- what is replied to a sync, by how it ended
pub sync-replied : {D Q : Type 0} (told : D → Option Disk) (faults : D → ℕ) (u : Setup) (first : DiskAtFirst) (pass stream : ℕ) (how : End) (row now : StreamRow D) (j k : JournalState Q) → RowWent told faults u first (transfer_faults how) (entry.Sync pass stream how ∷ []) row now j k → RowEnded told faults u first (event.Sync pass stream) (reply_to how) row now j k
sync-replied told faults u first pass stream how.Good row now j k went = (entry.Sync pass stream how.Good ∷ [], refl, went)
sync-replied told faults u first pass stream how.Failed row now j k went = (tt, went)
sync-replied told faults u first pass stream how.NoMemory row now j k went = (entry.Sync pass stream how.NoMemory ∷ [], inl refl, went)

-- an event that may happen, and for which there is room, leaves what it ended with
pub sync-left : {D Q : Type 0} (told : D → Option Disk) (faults : D → ℕ) (u : Setup) (first : DiskAtFirst) (pass stream : ℕ) (how : End) (row now : StreamRow D) (j k : JournalState Q) → MayHappen {Q = Q} u j.entries (event.Sync pass stream) → 1 ≤ room_of j → RowEnded told faults u first (event.Sync pass stream) (reply_to how) row now j k → RowLeft told faults u first (event.Sync pass stream) (reply_to how) row now j k
sync-left told faults u first pass stream how.Good row now j k may room ended = (may, room, ended)
sync-left told faults u first pass stream how.Failed row now j k may room ended = (may, room, ended)
sync-left told faults u first pass stream how.NoMemory row now j k may room ended = ended
