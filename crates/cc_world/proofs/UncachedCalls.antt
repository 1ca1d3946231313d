-- A noncached read or store of a page on a row: when it may be done, and what it leaves.
use Rattle.std.specs.Prelude.{◌≡◌, ◌⊎◌, ◌↔◌, ℕ, suc, ◌+◌, ◌-◌, ◌*◌, ◌<◌, ◌≤◌, Bool, true, false, ◌||◌, is_none, is_some, List, [], ◌∷◌, length, slice_index, Result, Ok, Err, IsErrOf, None, Some, refl}
use Rattle.std.specs.declared.option.Option.{Option}
use Rattle.std.proofs.Common.{ap, sym, ◌∙◌, subst, arith}
use Rattle.cc_entry.specs.Place.{File, Page}
use Rattle.cc_entry.specs.declared.call.Call.{Call}
use Rattle.cc_entry.specs.declared.call.Call.TheVariants as call
use Rattle.cc_entry.specs.declared.entry.Entry.{Entry}
use Rattle.cc_entry.specs.declared.entry.Entry.TheVariants as entry
use Rattle.cc_entry.specs.declared.error.CcError.{CcError}
use Rattle.cc_entry.specs.declared.error.CcError.TheVariants as error
use Rattle.cc_entry.specs.declared.reply.Outcome.TheVariants as outcome
use Rattle.cc_entry.specs.declared.reply.Reply.{Reply}
use Rattle.cc_entry.specs.declared.reply.Reply.TheVariants as reply
use Rattle.cc_traits.specs.Disk.{Disk}
use Rattle.cc_book.specs.Book.{BookState, BookStands, Gains, Stays}
use Rattle.cc_book.specs.Stored.{GainsStore, MayStoreAndBegin, store_done}
use Rattle.cc_content.specs.Contents.{IsByteOfContents}
use Rattle.cc_content.specs.Filling.{IsReadFrom}
use Rattle.cc_journal.specs.Calls.{owed_end}
use Rattle.cc_journal.specs.Journal.{JournalState, room_of}
use Rattle.cc_model.specs.Acts.{file_of}
use Rattle.cc_model.specs.Conditions.{IsReady, MayStore}
use Rattle.cc_model.specs.Filing.{IsFiled}
use Rattle.cc_model.specs.Good.{IsGood}
use Rattle.cc_model.specs.History.{history}
use Rattle.cc_model.specs.Holds.{holds_of}
use Rattle.cc_model.specs.Images.{Transfer, open_of}
use Rattle.cc_model.specs.Passes.{calls_of}
use Rattle.cc_model.specs.Refusals.{refusal}
use Rattle.cc_model.specs.Residency.{is_resident}
use Rattle.cc_model.specs.Room.{reserved_in}
use Rattle.cc_model.specs.Setup.{Setup}
use Rattle.cc_model.specs.Touches.{size_of}
use Rattle.cc_turns.proofs.OpenTransfers.{IsUnderWay-read, IsUnderWay-unread}
use Rattle.cc_turns.specs.Transfers.{CanRead, fill_failed}
use Rattle.cc_turns.specs.Disk.{DiskStands, opening_of}
use Rattle.cc_turns.specs.Standing.{DiskAtFirst}
use Rattle.cc_world.specs.Calls.{CallWent, IsFiledOn, CallIsRefusedSo, CallIsUnrefused}
use Rattle.cc_world.specs.Rows.{DiskIsUsed, DiskIsAtRest, RowEnded, RowLeft, RowWent, StandsUnder}
use Rattle.cc_book.specs.Noncached.{WasRead}
use Rattle.cc_world.specs.Uncached.{IsAdmittedOn, IsImage, IsReadyOn, MayEndRead, stored_byte}
use Rattle.cc_effects.specs.Events.{CanEnd, MayDo, asked_for, entries_done, filed_under, reason_of}
use Rattle.cc_effects.specs.declared.events.Event.TheVariants as event
use Rattle.cc_effects.specs.declared.events.StepReply.{StepReply}
use Rattle.cc_effects.specs.declared.events.StepReply.TheVariants as step
use Rattle.cc_world.specs.declared.rows.BegunTransfer.{BegunTransfer}
use Rattle.cc_world.specs.declared.rows.StreamRow.{StreamRow}
use Rattle.cc_world.proofs.CallLeft.{may-replied, unready-never}
use Rattle.cc_world.proofs.CallRows.{book-stands, row-went, used-called}
use Rattle.cc_world.proofs.Filling.{book-unread}
use Rattle.cc_world.proofs.Open.{open-kept}
use Rattle.cc_world.proofs.PageBytes.{some-read}
use Rattle.cc_world.proofs.Placing.{so-far}
use Rattle.cc_world.proofs.Standing.{carried-open, gained-so, is-idle, is-resting, left-from, reserved-under, roomy, unreserved, went-none, went-one}
use Rattle.cc_world.proofs.Stores.{below-size, bytes-begun, good-begun, numbered, reserved-both}
use Rattle.cc_world.proofs.Transferring.{begun-carries}

back : (k n owed : ℕ) → k ≡ n - 1 → n ≡ owed + 1 → k ≡ owed
back k n owed is was = omega (arith, is, was)

-- the stream under which a call is filed that names a file
pub one-stream : (m n : ℕ) → Some m ≡ Some n → m ≡ n
one-stream m n is = cc

-- Whether a page may be read now, by whether bytes are kept.
pub resting-used : {D : Type 0} (told : D → Option Disk) (faults : D → ℕ) (first : DiskAtFirst) (past : List Entry) (s : ℕ) (disk : D) (kept : Option BegunTransfer) (a : Bool) → kept ≡ None → DiskIsUsed told faults first past s disk kept → true ≡ (a || is_none (open_of (history past s)))
resting-used told faults first past s disk None true is rest = refl
resting-used told faults first past s disk None false is rest = rw rest.no_transfer refl
resting-used told faults first past s disk (Some kept) a is carrying = absurd (cc)

pub busy-used : {D : Type 0} (told : D → Option Disk) (faults : D → ℕ) (first : DiskAtFirst) (past : List Entry) (s : ℕ) (disk : D) (kept : Option BegunTransfer) (bytes : BegunTransfer) (a b : Bool) → kept ≡ Some bytes → b ≡ a → DiskIsUsed told faults first past s disk kept → b ≡ (a || is_none (open_of (history past s)))
busy-used told faults first past s disk None bytes a b is same rest = absurd (cc)
busy-used told faults first past s disk (Some kept) bytes true b is same carrying = same
busy-used told faults first past s disk (Some kept) bytes false b is same carrying = same ∙ rw (carried-open told faults first past s disk kept carrying) refl

-- A disk stands whether it is at rest or a transfer is open on it. So it does as it is read, and with the entry of a read
-- that failed.
pub used-stands : {D : Type 0} (told : D → Option Disk) (faults : D → ℕ) (first : DiskAtFirst) (past : List Entry) (s : ℕ) (disk : D) (kept : Option BegunTransfer) → DiskIsUsed told faults first past s disk kept → DiskStands told faults first past s disk
used-stands told faults first past s disk None rest = rest.stands
used-stands told faults first past s disk (Some kept) carrying = carrying.way.stands

module _ {D : Type 0} (told : D → Option Disk) (faults : D → ℕ) (first : DiskAtFirst) (past : List Entry) (s : ℕ) (old new : D)
    (keeps : (first : DiskAtFirst) (past : List Entry) (s : ℕ) → DiskStands told faults first past s old → DiskStands told faults first past s new) where
  pub used-read : (kept : Option BegunTransfer) → DiskIsUsed told faults first past s old kept → DiskIsUsed told faults first past s new kept
  used-read None rest = record { stands = keeps first past s rest.stands; no_transfer = rest.no_transfer }
  used-read (Some kept) carrying = record {
    stream = carrying.stream;
    way = IsUnderWay-read told faults first past kept.pass s kept.page.page kept.bytes old new keeps carrying.way;
  }

  pub used-unread : (me p : ℕ) (kept : Option BegunTransfer) → ((first : DiskAtFirst) (past : List Entry) (s pass : ℕ) → DiskStands told faults first past s old → DiskStands told faults first (fill_failed pass s p ∷ past) s new) → DiskIsUsed told faults first past s old kept → DiskIsUsed told faults first (fill_failed me s p ∷ past) s new kept
  used-unread me p None failed rest = record {
    stands = failed first past s me rest.stands;
    no_transfer = open-kept (fill_failed me s p) past s refl ∙ rest.no_transfer;
  }
  used-unread me p (Some kept) failed carrying = record {
    stream = carrying.stream;
    way = IsUnderWay-unread told faults first past kept.pass s kept.page.page kept.bytes old new keeps carrying.way me p failed;
  }

-- A call on a row that is refused, and one that nothing refuses.
module _ {D Q : Type 0} (told : D → Option Disk) (faults : D → ℕ) (u : Setup) (first : DiskAtFirst) (row : StreamRow D) (j : JournalState Q) (stand : StandsUnder told faults u first 0 row j) where
  pub refused-on : (pass : ℕ) (it : Call) (e : CcError) → filed_under j.entries it ≡ Some row.book.stream → IsFiledOn j.entries pass row.book.stream it → reason_of u j.entries it ≡ Some e → CallIsRefusedSo u pass it e row.book j
  refused-on pass it e here filed reason = record {
    made = record { stands = book-stands told faults u first 0 row j stand; here = here };
    filed = filed;
    reason = reason;
  }

  pub admitted-on : (it : Call) → filed_under j.entries it ≡ Some row.book.stream → reason_of u j.entries it ≡ None → IsAdmittedOn told faults u first 0 it row j
  admitted-on it here admitted = record { stands = stand; here = here; admitted = admitted }

-- One that may be done now, for which so many places are asked.
module _ {D Q : Type 0} (told : D → Option Disk) (faults : D → ℕ) (u : Setup) (first : DiskAtFirst) (pass asked : ℕ) (it : Call) (row : StreamRow D) (j : JournalState Q) (made : IsAdmittedOn told faults u first 0 it row j)
    (asks : asked_for j.entries pass it None ≡ asked) where
  asked-by : asked_for j.entries pass it (reason_of u j.entries it) ≡ asked
  asked-by = ap (λ (o : Option CcError). asked_for j.entries pass it o) made.admitted ∙ asks

  -- the places are reserved, or not
  pub ready-reserving : (r : JournalState Q) → r ≡ record j { reserved = j.reserved + asked } → IsReady j.entries pass row.book.stream it → IsReadyOn told faults u first asked pass it row r
  ready-reserving r reserving ready =
      let same : r.entries ≡ j.entries = ap (λ x. x.entries) reserving in
      record {
        made = record {
          stands = reserved-under asked told faults u first row j r reserving made.stands;
          here = ap (λ (past : List Entry). filed_under past it) same ∙ made.here;
          admitted = ap (λ (past : List Entry). reason_of u past it) same ∙ made.admitted;
        };
        ready = subst (λ (past : List Entry). IsReady past pass row.book.stream it) (sym same) ready;
      }

  pub left-reserving : (r k : JournalState Q) (answer : StepReply Q) (now : StreamRow D) (done : Unit {0}) (x : CcError) → r ≡ record j { reserved = j.reserved + asked } → (room_of j < asked → IsErrOf {T = Unit {0}} {E = CcError} (Ok done) x) → MayDo u j.entries pass it → RowEnded told faults u first (event.Do pass it) answer row now r k → RowLeft told faults u first (event.Do pass it) answer row now j k
  left-reserving r k answer now done x reserving full may ended =
      left-from asked told faults u first (event.Do pass it) answer row now j r k may
      (subst (λ (n : ℕ). n ≤ room_of j) (sym asked-by) (roomy (room_of j) asked done x full)) reserving ended

  pub left-unreserved : (e : CcError) (k : JournalState Q) → MayDo u j.entries pass it → (IsErrOf {T = Unit {0}} {E = CcError} (Err e) (error.JournalFull (length j.entries)) ↔ (room_of j < asked)) → (e ≡ error.JournalFull (length j.entries)) ⊎ (e ≡ error.NoMemory) → k ≡ j → RowLeft told faults u first (event.Do pass it) (step.Refused e) row row j k
  left-unreserved e k may full causes same =
      unreserved told faults u first (event.Do pass it) row j made.stands asked e k may asked-by refl full causes same

-- A noncached read of a page that nothing refuses.
module _ {D Q : Type 0} (told : D → Option Disk) (faults : D → ℕ) (u : Setup) (first : DiskAtFirst) (more pass : ℕ) (file : File) (page : ℕ) (row : StreamRow D) (j : JournalState Q) (made : IsAdmittedOn told faults u first more (call.NcRead file page) row j) where
  abbrev reading : Call
  reading = call.NcRead file page

  pub read-here : file.stream ≡ row.book.stream
  read-here = one-stream file.stream row.book.stream made.here

  pub not-read : (IsReady j.entries pass row.book.stream reading → ⊥) → MayDo u j.entries pass reading → ⊥
  not-read never = unready-never u j.entries pass row.book.stream reading made.here made.admitted (λ r may. never may.may_end.1)

  pub unrefused-read : CallIsUnrefused u more pass reading row.book j
  unrefused-read = record {
    made = record { stands = book-stands told faults u first more row j made.stands; here = made.here };
    alone = refl;
    filed = sym made.here;
    admitted = made.admitted;
  }

  pub may-read : IsReady j.entries pass row.book.stream reading → MayDo u j.entries pass reading
  may-read ready =
      let some = some-read (u.opening row.book.stream) (history j.entries row.book.stream) (4096 * page) 4096 in
      may-replied u more pass reading some.0 row.book j (record { unrefused = unrefused-read; may = record { reply_is = some.1; may_end = (tt, ready) } })

-- it may end, once its page was read
pub may-end-read : {D Q : Type 0} (told : D → Option Disk) (faults : D → ℕ) (u : Setup) (first : DiskAtFirst) (pass : ℕ) (file : File) (page : ℕ) (raw : List ℕ) (row : StreamRow D) (j : JournalState Q) → IsReadyOn told faults u first 1 pass (call.NcRead file page) row j → WasRead (opening_of first.told) (history j.entries row.book.stream) page raw → MayEndRead u pass file page raw row.book j
may-end-read told faults u first pass file page raw row j ready read = record {
  unrefused = unrefused-read told faults u first 1 pass file page row j ready.made;
  ready = ready.ready;
  read = subst (λ (opening : Option (ℕ → List ℕ)). WasRead opening (history j.entries row.book.stream) page raw) (sym ready.made.stands.opening) read;
}

-- It may be done now, a place is reserved for it, and its page is read from the disk.
module _ {D Q : Type 0} (told : D → Option Disk) (faults : D → ℕ) (u : Setup) (first : DiskAtFirst) (pass : ℕ) (file : File) (page : ℕ) (row : StreamRow D) (j : JournalState Q) (ready : IsReadyOn told faults u first 1 pass (call.NcRead file page) row j)
    (now : D) (keeps : (first : DiskAtFirst) (past : List Entry) (s : ℕ) → DiskStands told faults first past s row.disk → DiskStands told faults first past s now) where
  pub ready-read : IsReadyOn told faults u first 1 pass (call.NcRead file page) (record row { disk = now }) j
  ready-read = record {
    made = record {
      stands = record {
        good = ready.made.stands.good;
        opening = ready.made.stands.opening;
        known = ready.made.stands.known;
        limits = ready.made.stands.limits;
        row_is = record {
          book = ready.made.stands.row_is.book;
          disk = used-read told faults first j.entries row.book.stream row.disk now keeps row.kept ready.made.stands.row_is.disk;
        };
        reserved = ready.made.stands.reserved;
      };
      here = ready.made.here;
      admitted = ready.made.admitted;
    };
    ready = ready.ready;
  }

  pub was-read : (raw : List ℕ) → ((u : Setup) (first : DiskAtFirst) (past : List Entry) (s : ℕ) → CanRead told faults u first past s page row.disk → IsReadFrom (opening_of first.told) (history past s) page raw) → WasRead (opening_of first.told) (history j.entries row.book.stream) page raw
  was-read raw found absent below = found u first j.entries row.book.stream (record {
    stands = used-stands told faults first j.entries row.book.stream row.disk row.kept ready.made.stands.row_is.disk;
    good = so-far u j.entries ready.made.stands.good;
    absent = absent;
  })

  -- the disk failed, and the entry says so
  pub read-failed : (its : Page) (k : JournalState Q) → its ≡ record { stream = row.book.stream; page = page } → ((first : DiskAtFirst) (past : List Entry) (s pass : ℕ) → DiskStands told faults first past s row.disk → DiskStands told faults first (fill_failed pass s page ∷ past) s now) → faults now ≡ faults row.disk + 1 → Gains (entry.FillFailed pass its) j k → RowWent told faults u first 1 (entry.FillFailed pass (record { stream = file.stream; page = page }) ∷ []) row (record row { disk = now }) j k
  read-failed its k is failed counted gains =
      let e : Entry = fill_failed pass row.book.stream page in
      let gained : Gains e j k = subst (λ (p : Page). Gains (entry.FillFailed pass p) j k) is gains in
      subst (λ (s : ℕ). RowWent told faults u first 1 (fill_failed pass s page ∷ []) row (record row { disk = now }) j k) (sym (read-here told faults u first 1 pass file page row j ready.made))
      (went-one told faults u first 1 row j ready.made.stands 1 e (record row { disk = now }) k refl refl tt (gained-so j.reserved e j j k refl gained)
      (back _ _ _ (ap (λ x. x.reserved) gained) ready.made.stands.reserved) refl
      (book-unread (opening_of first.told) pass (record { stream = row.book.stream; page = page }) j.entries row.book ready.made.stands.row_is.book)
      (used-unread told faults first j.entries row.book.stream row.disk now keeps pass page row.kept failed ready.made.stands.row_is.disk) counted)

  -- the disk found no memory, and the place was given back
  pub read-wanting : (k : JournalState Q) → k ≡ record j { reserved = j.reserved - 1 } → faults now ≡ faults row.disk + 0 → RowWent told faults u first 0 [] row (record row { disk = now }) j k
  read-wanting k given counted =
      went-none told faults u first 1 row j ready.made.stands 0 (record row { disk = now }) k
      (given ∙ ap (λ (n : ℕ). record j { reserved = n }) (sym (ap (λ x. x.reserved) given)))
      (back _ _ _ (ap (λ x. x.reserved) given) ready.made.stands.reserved) refl ready.made.stands.row_is.book
      (used-read told faults first j.entries row.book.stream row.disk now keeps row.kept ready.made.stands.row_is.disk) counted

-- Nothing was placed for want of memory, and the places are given back that were reserved.
pub given-back : {D Q : Type 0} (told : D → Option Disk) (faults : D → ℕ) (u : Setup) (first : DiskAtFirst) (more : ℕ) (row : StreamRow D) (j x k : JournalState Q) (c : BookState) → StandsUnder told faults u first more row j → Stays j x row.book c → k ≡ record x { reserved = x.reserved - more } → RowWent told faults u first 0 [] row (record row { book = c }) j k
given-back {D} {Q} told faults u first more row j x k c stand stays given =
    let same : k ≡ record j { reserved = j.reserved - more } =
    given ∙ ap (λ (y : JournalState Q). record y { reserved = y.reserved - more }) stays.0 in
    went-none told faults u first more row j stand 0 (record row { book = c }) k
    (same ∙ ap (λ (n : ℕ). record j { reserved = n }) (sym (ap (λ y. y.reserved) same)))
    (less _ _ _ (ap (λ y. y.reserved) same) stand.reserved) stays.1.stream (stays.1.stands j.entries (opening_of first.told) stand.row_is.book) stand.row_is.disk
    (no-more (faults row.disk))
  where
    less : (n m owed : ℕ) → n ≡ m - more → m ≡ owed + more → n ≡ owed
    less n m owed is was = omega (arith, is, was)

    no-more : (n : ℕ) → n ≡ n + 0
    no-more n = omega arith

-- A noncached store of a page that nothing refuses.
module _ {D Q : Type 0} (told : D → Option Disk) (faults : D → ℕ) (u : Setup) (first : DiskAtFirst) (more pass : ℕ) (file : File) (page : ℕ) (bytes : List ℕ) (row : StreamRow D) (j : JournalState Q) (made : IsAdmittedOn told faults u first more (call.NcStore file page bytes) row j) where
  abbrev storing : Call
  storing = call.NcStore file page bytes

  pub store-here : file.stream ≡ row.book.stream
  store-here = one-stream file.stream row.book.stream made.here

  pub store-admitted : refusal u j.entries (history j.entries row.book.stream) storing ≡ None
  store-admitted = subst (λ (s : ℕ). refusal u j.entries (history j.entries s) storing ≡ None) store-here made.admitted

  pub not-store : (MayStore j.entries row.book.stream page bytes → ⊥) → MayDo u j.entries pass storing → ⊥
  not-store never = unready-never u j.entries pass row.book.stream storing made.here made.admitted (λ r may. never may.may_end.1)

  pub may-store : MayStore j.entries row.book.stream page bytes → MayDo u j.entries pass storing
  may-store may = record {
    filed = refl;
    can_end = subst (λ (o : Option CcError). CanEnd u j.entries pass storing o) (sym made.admitted)
        (reply.Unit, refl, (tt, subst (λ (s : ℕ). MayStore j.entries s page bytes) (sym store-here) may));
  }

-- It may be done now, and four places are reserved for it.
module _ {D Q : Type 0} (told : D → Option Disk) (faults : D → ℕ) (u : Setup) (first : DiskAtFirst) (pass : ℕ) (file : File) (page : Page) (bytes : List ℕ) (row : StreamRow D) (j : JournalState Q) (stream : page.stream ≡ row.book.stream) (ready : IsReadyOn told faults u first 4 pass (call.NcStore file page.page bytes) row j) where
  abbrev its : Call
  its = call.NcStore file page.page bytes

  abbrev store : Entry
  store = store_done pass j.entries file page bytes

  abbrev begin : Entry
  begin = entry.WriteBegin pass page

  here : file.stream ≡ page.stream
  here = store-here told faults u first 4 pass file page.page bytes row j ready.made ∙ sym stream

  admitted : refusal u j.entries (history j.entries page.stream) its ≡ None
  admitted = subst (λ (s : ℕ). refusal u j.entries (history j.entries s) its ≡ None) (sym stream) (store-admitted told faults u first 4 pass file page.page bytes row j ready.made)

  may : MayStore j.entries page.stream page.page bytes
  may = subst (λ (s : ℕ). MayStore j.entries s page.page bytes) (sym stream) ready.ready

  good : IsGood u (begin ∷ store ∷ j.entries)
  good = good-begun u j.entries pass file page bytes ready.made.stands.good here admitted may

  pub may-both : MayStoreAndBegin u j.entries pass file page bytes row.book
  may-both = record {
    good = so-far u (begin ∷ store ∷ j.entries) good;
    stands = subst (λ (o : Option (ℕ → List ℕ)). BookStands o j.entries row.book) (sym ready.made.stands.opening) ready.made.stands.row_is.book;
  }

  entries : begin ∷ store ∷ [] ≡ entries_done j.entries pass its reply.Unit
  entries =
      ap (λ (s : ℕ). let p : Page = record { stream = s; page = page.page } in
      entry.WriteBegin pass p ∷ entry.Call pass (suc (calls_of j.entries pass)) (Some s) its (outcome.Done reply.Unit) ∷ []) (sym here)

  idle : is_some row.kept ≡ false
  idle = is-idle told faults u first 4 row j ready.made.stands ready.ready.no_transfer

  rests : DiskIsAtRest told faults first (store ∷ j.entries) row.book.stream row.disk
  rests =
      used-called told faults first j.entries row.book.stream row.disk None pass (suc (calls_of j.entries pass)) (Some page.stream) its (outcome.Done reply.Unit)
      (is-resting told faults u first 4 row j ready.made.stands idle)

  -- what the store leaves, that gives back what the pass owed
  module _ (c : BookState) (x k : JournalState Q) (owed : ℕ) (image : List ℕ) (gains : GainsStore pass file page bytes j x) (owes : owed ≡ owed_end j.entries pass) (back : k ≡ record x { reserved = x.reserved - owed }) where
    owed-both : owed_end j.entries pass + reserved_in (begin ∷ store ∷ j.entries) ≡ suc (suc (reserved_in j.entries))
    owed-both = reserved-both u j.entries pass file page bytes ready.made.stands.good here admitted may (subst (λ (s : ℕ). s < 16) (sym stream) ready.made.stands.known)

    placed : k ≡ record j { entries = begin ∷ store ∷ j.entries; reserved = (j.reserved - 2) - owed; rows = x.rows }
    placed = back ∙ ap (λ (y : JournalState Q). record y { reserved = y.reserved - owed }) gains

    grown : k.entries ≡ begin ∷ store ∷ j.entries
    grown = ap (λ y. y.entries) placed

    book-went : BookStands (u.opening row.book.stream) x.entries c → c.stream ≡ row.book.stream → CallWent u (begin ∷ store ∷ []) row.book c j k
    book-went stands same = record {
      stands = record {
        stand = record {
          good = subst (λ (past : List Entry). IsGood u past) (sym grown) good;
          stands = subst (λ (s : ℕ). BookStands (u.opening s) k.entries c) (sym same)
              (subst (λ (past : List Entry). BookStands (u.opening row.book.stream) past c) (ap (λ y. y.entries) gains ∙ sym grown) stands);
          logs_are = ready.made.stands.limits.0 ∙ sym (ap (λ y. y.logs) placed);
          threshold_is = ready.made.stands.limits.1 ∙ sym (ap (λ y. y.threshold) placed);
        };
        known = subst (λ (s : ℕ). s < 16) (sym same) ready.made.stands.known;
        reserved = ap (λ y. y.reserved) placed ∙ (left _ _ _ _ ready.made.stands.reserved owed-both owes ∙ ap (λ (past : List Entry). reserved_in past + 0) (sym grown));
      };
      placed = subst (λ (y : JournalState Q). y ≡ record j { entries = begin ∷ store ∷ j.entries; reserved = y.reserved; rows = y.rows }) (sym placed) refl;
      stream = same;
    }
      where
        left : (n before after its : ℕ) → n ≡ before + 4 → its + after ≡ suc (suc before) → owed ≡ its → (n - 2) - owed ≡ after + 0
        left n before after its is sum same = omega (arith, is, sum, same)

    pub stored-went : BookStands (u.opening row.book.stream) x.entries c → c.stream ≡ row.book.stream → IsImage (size_of (history j.entries row.book.stream)) page.page bytes image → RowWent told faults u first 0 (entries_done j.entries pass its reply.Unit) row (record { disk = row.disk; book = c; kept = Some (record { pass = pass; page = page; bytes = image }) }) j k
    stored-went stands same is =
        subst (λ (added : List Entry). RowWent told faults u first 0 added row (record { disk = row.disk; book = c; kept = Some (record { pass = pass; page = page; bytes = image }) }) j k) entries
        (row-went told faults u first 4 row j ready.made.stands 0 (begin ∷ store ∷ []) c row.disk (Some (record { pass = pass; page = page; bytes = image })) k (book-went stands same)
        (begun-carries told faults first (store ∷ j.entries) row.book.stream row.disk pass page image stream
        (numbered u j.entries page.stream page.page ready.made.stands.good (below-size u j.entries (history j.entries page.stream) file page.page bytes admitted))
        rests is.whole
        (λ i small. subst (λ (s : ℕ). IsByteOfContents (opening_of first.told) (history (store ∷ j.entries) s) (4096 * page.page + i) (slice_index image i)) stream
        (subst (λ (byte : ℕ). IsByteOfContents (opening_of first.told) (history (store ∷ j.entries) page.stream) (4096 * page.page + i) byte)
        (ap (λ (s : ℕ). stored_byte (size_of (history j.entries s)) page.page bytes i) stream ∙ sym (is.bytes_are i small))
        (bytes-begun u j.entries pass file page bytes ready.made.stands.good here admitted may (opening_of first.told) i small))))
        (no-more (faults row.disk)))
      where
        no-more : (n : ℕ) → n ≡ n + 0
        no-more n = omega arith
