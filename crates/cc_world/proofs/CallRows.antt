-- A call on a row: what the row asks of its book, and what the call leaves of the row, by what it leaves of the book.
use Rattle.std.specs.Prelude.{◌≡◌, ℕ, ◌+◌, Bool, true, false, is_some, not, List, [], ◌∷◌, ◌++◌, None, Some, refl}
use Rattle.std.specs.declared.option.Option.{Option}
use Rattle.std.proofs.Common.{ap, sym, ◌∙◌, subst, arith}
use Rattle.cc_entry.specs.Place.{File}
use Rattle.cc_entry.specs.declared.call.Call.{Call}
use Rattle.cc_entry.specs.declared.call.Call.TheVariants as call
use Rattle.cc_entry.specs.declared.query.Query.TheVariants as query
use Rattle.cc_entry.specs.declared.entry.Entry.{Entry}
use Rattle.cc_entry.specs.declared.entry.Entry.TheVariants as entry
use Rattle.cc_entry.specs.declared.error.CcError.TheVariants as error
use Rattle.cc_entry.specs.declared.reply.Outcome.{Outcome}
use Rattle.cc_entry.specs.declared.reply.Outcome.TheVariants as outcome
use Rattle.cc_entry.specs.declared.reply.Reply.{Reply}
use Rattle.cc_traits.specs.Disk.{Disk}
use Rattle.cc_book.specs.Book.{BookState, BookStands}
use Rattle.cc_journal.specs.Journal.{JournalState}
use Rattle.cc_model.specs.History.{history}
use Rattle.cc_model.specs.Images.{Transfer, open_of}
use Rattle.cc_model.specs.Setup.{Setup}
use Rattle.cc_turns.proofs.Keeping.{DiskStands-kept}
use Rattle.cc_turns.proofs.OpenTransfers.{IsUnderWay-called}
use Rattle.cc_turns.specs.Standing.{DiskAtFirst}
use Rattle.cc_world.specs.Calls.{BookStandsUnder, CallEventLeft, CallWent, ends_on_book, places_one}
use Rattle.cc_world.specs.Pages.{Says}
use Rattle.cc_world.specs.Rows.{DiskIsUsed, RowLeft, RowWent, StandsUnder}
use Rattle.cc_effects.specs.Events.{call_entry, entries_done, filed_under, reason_of}
use Rattle.cc_effects.specs.declared.events.Event.TheVariants as event
use Rattle.cc_effects.specs.declared.events.StepReply.{StepReply}
use Rattle.cc_effects.specs.declared.events.StepReply.TheVariants as step
use Rattle.cc_world.specs.declared.rows.BegunTransfer.{BegunTransfer}
use Rattle.cc_world.specs.declared.rows.StreamRow.{StreamRow}
use Rattle.cc_world.proofs.Open.{open-kept}
use Rattle.cc_world.proofs.Standing.{carried-open}

-- A disk goes on standing, at rest or with a transfer open, with the entry of any call.
pub used-called : {D : Type 0} (told : D → Option Disk) (faults : D → ℕ) (first : DiskAtFirst) (past : List Entry) (s : ℕ) (disk : D) (kept : Option BegunTransfer) (pass nth : ℕ) (stream : Option ℕ) (it : Call) (ended : Outcome) → DiskIsUsed told faults first past s disk kept → DiskIsUsed told faults first (entry.Call pass nth stream it ended ∷ past) s disk kept
used-called told faults first past s disk None pass nth stream it ended rest = record {
  stands = DiskStands-kept told faults first (entry.Call pass nth stream it ended) past s disk refl rest.stands;
  no_transfer = open-kept (entry.Call pass nth stream it ended) past s refl ∙ rest.no_transfer;
}
used-called told faults first past s disk (Some kept) pass nth stream it ended carrying = record {
  stream = carrying.stream;
  way = IsUnderWay-called told faults first pass nth stream it ended past kept.pass s kept.page.page kept.bytes disk carrying.way;
}

-- whether no bytes are kept says whether no transfer is open
at-rest : {D : Type 0} (told : D → Option Disk) (faults : D → ℕ) (first : DiskAtFirst) (past : List Entry) (s : ℕ) (disk : D) (kept : Option BegunTransfer) (resting : Bool) → is_some kept ≡ not resting → DiskIsUsed told faults first past s disk kept → Says resting (open_of (history past s) ≡ None)
at-rest told faults first past s disk None true is rest = rest.no_transfer
at-rest told faults first past s disk None false is rest = absurd (cc)
at-rest told faults first past s disk (Some kept) true is carrying = absurd (cc)
at-rest told faults first past s disk (Some kept) false is carrying = λ none. apart _ _ (carried-open told faults first past s disk kept carrying) none
  where
    apart : (o : Option Transfer) (t : Transfer) → o ≡ Some t → o ≡ None → ⊥
    apart o t some none = absurd (cc)

-- A call that ends on its book is filed under a stream and uses no disk. It places its entry alone if it is done.
pub on-book : (past : List Entry) (s : ℕ) (it : Call) → filed_under past it ≡ Some s → ((file : File) (page : ℕ) → it ≡ call.NcRead file page → ⊥) → ((file : File) (page : ℕ) (bytes : List ℕ) → it ≡ call.NcStore file page bytes → ⊥) → ends_on_book it ≡ true
on-book past s (call.NcRead file page) here a b = absurd (a file page refl)
on-book past s (call.NcStore file page bytes) here a b = absurd (b file page bytes refl)
on-book past s (call.Query (query.DirtyPages handle)) here a b = absurd (cc)
on-book past s (call.Query query.IsDirtyData) here a b = absurd (cc)
on-book past s other here a b = refl

pub alone-on-book : (it : Call) → ends_on_book it ≡ true → places_one it ≡ true
alone-on-book (call.NcStore file page bytes) on_book = absurd (cc)
alone-on-book other on_book = refl

pub one-done : (past : List Entry) (pass : ℕ) (it : Call) (r : Reply) → places_one it ≡ true → call_entry past pass it (outcome.Done r) ∷ [] ≡ entries_done past pass it r
one-done past pass (call.NcStore file page bytes) r alone = absurd (cc)
one-done past pass other r alone = refl

-- So many places are reserved beyond what is owed.
module _ {D Q : Type 0} (told : D → Option Disk) (faults : D → ℕ) (u : Setup) (first : DiskAtFirst) (more : ℕ) (row : StreamRow D) (j : JournalState Q) (stand : StandsUnder told faults u first more row j) where
  -- its book and the journal stand
  pub book-stands : BookStandsUnder u more row.book j
  book-stands = record {
    stand = record {
      good = stand.good;
      stands = subst (λ (o : Option (ℕ → List ℕ)). BookStands o j.entries row.book) (sym stand.opening) stand.row_is.book;
      logs_are = stand.limits.0;
      threshold_is = stand.limits.1;
    };
    known = stand.known;
    reserved = stand.reserved;
  }

  -- whether no transfer of its stream is open
  pub says-resting : (resting : Bool) → is_some row.kept ≡ not resting → Says resting (open_of (history j.entries row.book.stream) ≡ None)
  says-resting resting is = at-rest told faults first j.entries row.book.stream row.disk row.kept resting is stand.row_is.disk

  -- The row goes on standing as its book does, with a disk that stands for the journal after.
  pub row-went : (n : ℕ) (added : List Entry) (c : BookState) (disk : D) (kept : Option BegunTransfer) (k : JournalState Q) → CallWent u added row.book c j k → DiskIsUsed told faults first (added ++ j.entries) row.book.stream disk kept → faults disk ≡ faults row.disk + n → RowWent told faults u first n added row (record { disk = disk; book = c; kept = kept }) j k
  row-went n added c disk kept k went used counted =
      let opening = ap u.opening went.stream ∙ stand.opening in
      record {
        stands = record {
          good = went.stands.stand.good;
          opening = opening;
          known = went.stands.known;
          limits = (went.stands.stand.logs_are, went.stands.stand.threshold_is);
          row_is = record {
            book = subst (λ (o : Option (ℕ → List ℕ)). BookStands o k.entries c) opening went.stands.stand.stands;
            disk = subst (λ (past : List Entry). DiskIsUsed told faults first past c.stream disk kept) (sym (ap (λ x. x.entries) went.placed))
                (subst (λ (s : ℕ). DiskIsUsed told faults first (added ++ j.entries) s disk kept) (sym went.stream) used);
          };
          reserved = went.stands.reserved;
        };
        placed = went.placed;
        stream = went.stream;
        counted = counted;
      }

  no-more : (n : ℕ) → n ≡ n + 0
  no-more n = omega arith

  -- nothing was placed, or the entry of a call, and the disk is as it was
  pub row-still : (c : BookState) (k : JournalState Q) → CallWent u [] row.book c j k → RowWent told faults u first 0 [] row (record row { book = c }) j k
  row-still c k went = row-went 0 [] c row.disk row.kept k went stand.row_is.disk (no-more (faults row.disk))

  pub row-called : (pass nth : ℕ) (stream : Option ℕ) (it : Call) (ended : Outcome) (c : BookState) (k : JournalState Q) → CallWent u (entry.Call pass nth stream it ended ∷ []) row.book c j k → RowWent told faults u first 0 (entry.Call pass nth stream it ended ∷ []) row (record row { book = c }) j k
  row-called pass nth stream it ended c k went =
      row-went 0 (entry.Call pass nth stream it ended ∷ []) c row.disk row.kept k went
      (used-called told faults first j.entries row.book.stream row.disk row.kept pass nth stream it ended stand.row_is.disk) (no-more (faults row.disk))

  -- What a call leaves of its book is what it leaves of its row, where it places its entry alone if nothing refuses it.
  pub row-left : (pass : ℕ) (it : Call) (reply : StepReply Q) (c : BookState) (k : JournalState Q) → (reason_of u j.entries it ≡ None → places_one it ≡ true) → CallEventLeft u pass it reply row.book c j k → RowLeft told faults u first (event.Do pass it) reply row (record row { book = c }) j k
  row-left pass it step.NotNow c k alone left = (left.0, ap (λ (b : BookState). record row { book = b }) left.1, left.2)
  row-left pass it (step.Refused (error.JournalFull entries)) c k alone left =
      (left.0, left.1, left.2, ap (λ (b : BookState). record row { book = b }) left.3, left.4)
  row-left pass it (step.Refused error.NoMemory) c k alone left = ([], refl, row-still c k left)
  row-left pass it (step.Refused e) c k alone left =
      (left.0, left.1, (call_entry j.entries pass it (outcome.Failed e) ∷ [], (left.2, refl), row-called _ _ _ it (outcome.Failed e) c k left.3))
  row-left pass it (step.Done r) c k alone left =
      (left.0, left.1, (call_entry j.entries pass it (outcome.Done r) ∷ [], (left.2, one-done j.entries pass it r (alone left.2)), row-called _ _ _ it (outcome.Done r) c k left.3))
  row-left pass it other c k alone left = absurd left
