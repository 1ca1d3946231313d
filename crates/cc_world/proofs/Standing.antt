-- A row and a journal that stand go on standing with an entry.
use Rattle.std.specs.Prelude.{◌≡◌, ◌⊎◌, ◌↔◌, ℕ, ◌+◌, ◌-◌, ◌<◌, ◌≤◌, Bool, true, false, is_some, nat_lt, List, [], ◌∷◌, length, Result, Ok, Err, IsErrOf, refl}
use Rattle.std.specs.declared.option.Option.{Option}
use Rattle.std.specs.declared.option.Option.TheVariants.{Some, None}
use Rattle.std.proofs.Common.{ap, sym, ◌∙◌, subst, arith, inl, inr}
use Rattle.std.proofs.lemmas.Bool.{ltb-true, ltb-false}
use Rattle.cc_entry.specs.declared.entry.Entry.{Entry}
use Rattle.cc_entry.specs.declared.entry.Entry.TheVariants as entry
use Rattle.cc_entry.specs.declared.error.CcError.{CcError}
use Rattle.cc_entry.specs.declared.error.CcError.TheVariants as error
use Rattle.cc_traits.specs.Disk.{Disk}
use Rattle.cc_book.specs.Book.{BookStands, Gains, MayPlaceOnBook}
use Rattle.cc_journal.specs.Journal.{JournalState, MayBePushed, room_of}
use Rattle.cc_journal.proofs.GoodEntries.{MayBePushed-good}
use Rattle.cc_model.specs.Allowed.{MayStand}
use Rattle.cc_model.specs.Good.{IsGood}
use Rattle.cc_model.specs.History.{history}
use Rattle.cc_model.specs.Images.{Transfer, open_of}
use Rattle.cc_model.specs.Room.{reserved_in}
use Rattle.cc_model.specs.Setup.{Setup}
use Rattle.cc_turns.proofs.Keeping.{leaves_disk, DiskStands-kept}
use Rattle.cc_turns.proofs.OpenTransfers.{IsUnderWay-open}
use Rattle.cc_turns.specs.Disk.{DiskStands, opening_of}
use Rattle.cc_turns.specs.Standing.{DiskAtFirst}
use Rattle.cc_world.specs.Rows.{DiskIsUsed, DiskIsAtRest, IsCarrying, RowEnded, RowFaulted, RowLeft, RowWent, StandsUnder}
use Rattle.cc_effects.specs.Events.{IsWanting, MayHappen, asked_by_event, faulted_by}
use Rattle.cc_effects.specs.declared.events.Event.{Event}
use Rattle.cc_effects.specs.declared.events.StepReply.{StepReply}
use Rattle.cc_effects.specs.declared.events.StepReply.TheVariants as step
use Rattle.cc_world.specs.declared.rows.BegunTransfer.{BegunTransfer}
use Rattle.cc_world.specs.declared.rows.StreamRow.{StreamRow}
use Rattle.cc_world.proofs.Placing.{is_call, good-placed, so-far}
use Rattle.cc_world.proofs.Open.{leaves_open, open-kept}
use Rattle.cc_world.proofs.Owing.{owes_nothing, reserved-same}

-- While bytes are kept, the transfer is open; while none are, the disk is at rest.
pub carried-open : {D : Type 0} (told : D → Option Disk) (faults : D → ℕ) (first : DiskAtFirst) (past : List Entry) (s : ℕ) (disk : D) (kept : BegunTransfer) → IsCarrying told faults first past s disk kept → open_of (history past s) ≡ Some (record { pass = kept.pass; page = kept.page.page })
carried-open told faults first past s disk kept carrying =
    IsUnderWay-open told faults first past kept.pass s kept.page.page kept.bytes disk carrying.way

busy : {D : Type 0} (told : D → Option Disk) (faults : D → ℕ) (first : DiskAtFirst) (past : List Entry) (s : ℕ) (disk : D) (kept : Option BegunTransfer) → is_some kept ≡ true → DiskIsUsed told faults first past s disk kept → open_of (history past s) ≡ None → ⊥
busy told faults first past s disk None is used rest = absurd (cc)
busy told faults first past s disk (Some kept) is carrying rest = apart _ _ (carried-open told faults first past s disk kept carrying) rest
  where
    apart : (o : Option Transfer) (t : Transfer) → o ≡ Some t → o ≡ None → ⊥
    apart o t some none = absurd (cc)

resting : {D : Type 0} (told : D → Option Disk) (faults : D → ℕ) (first : DiskAtFirst) (past : List Entry) (s : ℕ) (disk : D) (kept : Option BegunTransfer) → is_some kept ≡ false → DiskIsUsed told faults first past s disk kept → DiskIsAtRest told faults first past s disk
resting told faults first past s disk None is rest = rest
resting told faults first past s disk (Some kept) is used = absurd (cc)

at-rest : {D : Type 0} (told : D → Option Disk) (faults : D → ℕ) (first : DiskAtFirst) (past : List Entry) (s : ℕ) (disk : D) (kept : Option BegunTransfer) → is_some kept ≡ false → DiskIsAtRest told faults first past s disk → DiskIsUsed told faults first past s disk kept
at-rest told faults first past s disk None is rest = rest
at-rest told faults first past s disk (Some kept) is rest = absurd (cc)

module _ {D Q : Type 0} (told : D → Option Disk) (faults : D → ℕ) (u : Setup) (first : DiskAtFirst) (more : ℕ) (row : StreamRow D) (j : JournalState Q) (stand : StandsUnder told faults u first more row j) where
  pub is-busy : is_some row.kept ≡ true → open_of (history j.entries row.book.stream) ≡ None → ⊥
  is-busy is = busy told faults first j.entries row.book.stream row.disk row.kept is stand.row_is.disk

  pub is-resting : is_some row.kept ≡ false → DiskIsAtRest told faults first j.entries row.book.stream row.disk
  is-resting is = resting told faults first j.entries row.book.stream row.disk row.kept is stand.row_is.disk

  pub is-idle : open_of (history j.entries row.book.stream) ≡ None → is_some row.kept ≡ false
  is-idle rest = go (is_some row.kept) refl
    where
      go : (b : Bool) → is_some row.kept ≡ b → is_some row.kept ≡ false
      go true is = absurd (is-busy is rest)
      go false is = is

  -- an entry of no call that may stand may be placed on the book, and pushed
  pub may-place : (past : List Entry) (e : Entry) → past ≡ j.entries → is_call e ≡ false → MayStand u j.entries e → MayPlaceOnBook past e row.book
  may-place past e same plain may = rw same (
    u,
    so-far u (e ∷ j.entries) (good-placed u j.entries e plain stand.good may),
    subst (λ o. BookStands o j.entries row.book) (sym stand.opening) stand.row_is.book,
  )

  pub may-push : (past : List Entry) (e : Entry) → past ≡ j.entries → is_call e ≡ false → MayStand u j.entries e → MayBePushed past e
  may-push past e same plain may = rw same (MayBePushed-good u j.entries e (so-far u (e ∷ j.entries) (good-placed u j.entries e plain stand.good may)))

  -- The row after one entry: its book and its disk stand for the journal with it, and the disk failed so many times.
  pub went-by : (n : ℕ) (e : Entry) (now : StreamRow D) (k : JournalState Q) → is_call e ≡ false → MayStand u j.entries e → k ≡ record j { entries = e ∷ j.entries; reserved = k.reserved; rows = k.rows } → k.reserved ≡ reserved_in (e ∷ j.entries) → now.book.stream ≡ row.book.stream → BookStands (opening_of first.told) (e ∷ j.entries) now.book → DiskIsUsed told faults first (e ∷ j.entries) row.book.stream now.disk now.kept → faults now.disk ≡ faults row.disk + n → RowWent told faults u first n (e ∷ []) row now j k
  went-by n e now k plain may placed reserved stream book disk counted =
      let grown : k.entries ≡ e ∷ j.entries = ap (λ x. x.entries) placed in
      record {
        stands = record {
          good = subst (λ (past : List Entry). IsGood u past) (sym grown) (good-placed u j.entries e plain stand.good may);
          opening = ap u.opening stream ∙ stand.opening;
          known = subst (λ (s : ℕ). s < 16) (sym stream) stand.known;
          limits = (stand.limits.0 ∙ sym (ap (λ x. x.logs) placed), stand.limits.1 ∙ sym (ap (λ x. x.threshold) placed));
          row_is = record {
            book = subst (λ (past : List Entry). BookStands (opening_of first.told) past now.book) (sym grown) book;
            disk = subst (λ (past : List Entry). DiskIsUsed told faults first past now.book.stream now.disk now.kept) (sym grown)
                (subst (λ (s : ℕ). DiskIsUsed told faults first (e ∷ j.entries) s now.disk now.kept) (sym stream) disk);
          };
          reserved = nothing-more _ _ (reserved ∙ ap reserved_in (sym grown));
        };
        placed = placed;
        stream = stream;
        counted = counted;
      }
    where
      nothing-more : (a b : ℕ) → a ≡ b → a ≡ b + 0
      nothing-more a b same = omega arith

  -- the same of an entry that leaves what is owed
  pub went-one : (n : ℕ) (e : Entry) (now : StreamRow D) (k : JournalState Q) → is_call e ≡ false → owes_nothing e ≡ true → MayStand u j.entries e → k ≡ record j { entries = e ∷ j.entries; reserved = k.reserved; rows = k.rows } → k.reserved ≡ reserved_in j.entries → now.book.stream ≡ row.book.stream → BookStands (opening_of first.told) (e ∷ j.entries) now.book → DiskIsUsed told faults first (e ∷ j.entries) row.book.stream now.disk now.kept → faults now.disk ≡ faults row.disk + n → RowWent told faults u first n (e ∷ []) row now j k
  went-one n e now k plain owes may placed reserved stream book disk counted =
      went-by n e now k plain may placed (reserved ∙ sym (reserved-same e j.entries owes)) stream book disk counted

  -- The row where nothing was placed: at most its disk has other counts.
  pub went-none : (n : ℕ) (now : StreamRow D) (k : JournalState Q) → k ≡ record j { reserved = k.reserved } → k.reserved ≡ reserved_in j.entries → now.book.stream ≡ row.book.stream → BookStands (opening_of first.told) j.entries now.book → DiskIsUsed told faults first j.entries row.book.stream now.disk now.kept → faults now.disk ≡ faults row.disk + n → RowWent told faults u first n [] row now j k
  went-none n now k same reserved stream book disk counted =
      let grown : k.entries ≡ j.entries = ap (λ x. x.entries) same in
      record {
        stands = record {
          good = subst (λ (past : List Entry). IsGood u past) (sym grown) stand.good;
          opening = ap u.opening stream ∙ stand.opening;
          known = subst (λ (s : ℕ). s < 16) (sym stream) stand.known;
          limits = (stand.limits.0 ∙ sym (ap (λ x. x.logs) same), stand.limits.1 ∙ sym (ap (λ x. x.threshold) same));
          row_is = record {
            book = subst (λ (past : List Entry). BookStands (opening_of first.told) past now.book) (sym grown) book;
            disk = subst (λ (past : List Entry). DiskIsUsed told faults first past now.book.stream now.disk now.kept) (sym grown)
                (subst (λ (s : ℕ). DiskIsUsed told faults first j.entries s now.disk now.kept) (sym stream) disk);
          };
          reserved = nothing-more _ _ (reserved ∙ ap reserved_in (sym grown));
        };
        placed = same ∙ ap (λ (rows : _). record j { reserved = k.reserved; rows = rows }) (sym (ap (λ x. x.rows) same));
        stream = stream;
        counted = counted;
      }
    where
      nothing-more : (a b : ℕ) → a ≡ b → a ≡ b + 0
      nothing-more a b same = omega arith

leaves-open : (e : Entry) (s : ℕ) → leaves_disk s e ≡ true → leaves_open s e ≡ true
leaves-open (entry.WriteBegin pass page) s leaves = leaves
leaves-open (entry.WriteEnd pass page how) s leaves = leaves
leaves-open other s leaves = refl

-- an entry that touches no image of the disk, and no failure of it, leaves a disk at rest
pub rests-on : {D : Type 0} (told : D → Option Disk) (faults : D → ℕ) (first : DiskAtFirst) (e : Entry) (past : List Entry) (s : ℕ) (disk : D) (kept : Option BegunTransfer) → is_some kept ≡ false → leaves_disk s e ≡ true → DiskIsAtRest told faults first past s disk → DiskIsUsed told faults first (e ∷ past) s disk kept
rests-on told faults first e past s disk kept none leaves rest = at-rest told faults first (e ∷ past) s disk kept none (record {
  stands = DiskStands-kept told faults first e past s disk leaves rest.stands;
  no_transfer = open-kept e past s (leaves-open e s leaves) ∙ rest.no_transfer;
})

pub rests-as : {D : Type 0} (told : D → Option Disk) (faults : D → ℕ) (first : DiskAtFirst) (past : List Entry) (s : ℕ) (disk : D) (kept : Option BegunTransfer) → is_some kept ≡ false → DiskStands told faults first past s disk → open_of (history past s) ≡ None → DiskIsUsed told faults first past s disk kept
rests-as told faults first past s disk kept none stands rest = at-rest told faults first past s disk kept none (record { stands = stands; no_transfer = rest })

-- the journal with an entry for which a place was reserved
pub gained : {Q : Type 0} (n : ℕ) (e : Entry) (j r k : JournalState Q) → r ≡ record j { reserved = n } → Gains e r k → k ≡ record j { entries = e ∷ j.entries; reserved = n - 1; rows = k.rows }
gained {Q = Q} n e j r k same gains = gains ∙ ap (λ (x : JournalState Q). record x { entries = e ∷ x.entries; reserved = x.reserved - 1; rows = k.rows }) same

pub gained-so : {Q : Type 0} (n : ℕ) (e : Entry) (j r k : JournalState Q) → r ≡ record j { reserved = n } → Gains e r k → k ≡ record j { entries = e ∷ j.entries; reserved = k.reserved; rows = k.rows }
gained-so {Q = Q} n e j r k same gains =
    let g = gained n e j r k same gains in
    g ∙ ap (λ (m : ℕ). record j { entries = e ∷ j.entries; reserved = m; rows = k.rows }) (sym (ap (λ (x : JournalState Q). x.reserved) g))

-- Why room could not be had.
pub at-least : (a n : ℕ) → (a < n → ⊥) → n ≤ a
at-least a n not_less = go (nat_lt a n) refl
  where
    go : (b : Bool) → nat_lt a n ≡ b → n ≤ a
    go true is = absurd (not_less (ltb-true a n is))
    go false is = ltb-false a n is

pub roomy : (a n : ℕ) (done : Unit {0}) (x : CcError) → (a < n → IsErrOf {T = Unit {0}} {E = CcError} (Ok done) x) → n ≤ a
roomy a n done x full = at-least a n (λ less. no done x (full less))
  where
    no : (v : Unit {0}) (y : CcError) → IsErrOf {T = Unit {0}} {E = CcError} (Ok v) y → ⊥
    no v y is = absurd (cc)

module _ {D Q : Type 0} (told : D → Option Disk) (faults : D → ℕ) (u : Setup) (first : DiskAtFirst) (it : Event Q) (row : StreamRow D) (j : JournalState Q) (stand : StandsUnder told faults u first 0 row j) where
  none-placed : (k : JournalState Q) → k ≡ j → RowWent told faults u first 0 [] row row j k
  none-placed k same = went-none told faults u first 0 row j stand 0 row k
      (same ∙ ap (λ (n : ℕ). record j { reserved = n }) (sym (ap (λ x. x.reserved) same)))
      (ap (λ x. x.reserved) same ∙ (stand.reserved ∙ nothing-more (reserved_in j.entries)))
      refl stand.row_is.book stand.row_is.disk (no-more (faults row.disk))
    where
      nothing-more : (a : ℕ) → a + 0 ≡ a
      nothing-more a = omega arith

      no-more : (a : ℕ) → a ≡ a + 0
      no-more a = omega arith

  as-err : (x y : CcError) → x ≡ y → IsErrOf {T = Unit {0}} {E = CcError} (Err x) y
  as-err x y is =
      let f : CcError → Result (Unit {0}) CcError = λ z. Err z in
      ap f is

  -- No place was reserved: for want of room, or of memory, where the event then places nothing.
  pub unreserved : (asked : ℕ) (e : CcError) (k : JournalState Q) → MayHappen u j.entries it → asked_by_event u j.entries it ≡ asked → IsWanting j.entries it [] → (IsErrOf {T = Unit {0}} {E = CcError} (Err e) (error.JournalFull (length j.entries)) ↔ (room_of j < asked)) → (e ≡ error.JournalFull (length j.entries)) ⊎ (e ≡ error.NoMemory) → k ≡ j → RowLeft told faults u first it (step.Refused e) row row j k
  unreserved asked e k may asks wanting full (inl is) same =
      subst (λ (x : CcError). RowLeft told faults u first it (step.Refused x) row row j k) (sym is)
      (may, subst (λ (n : ℕ). room_of j < n) (sym asks) (full.0 (as-err e (error.JournalFull (length j.entries)) is)), refl, refl, same)
  unreserved asked e k may asks wanting full (inr is) same =
      subst (λ (x : CcError). RowLeft told faults u first it (step.Refused x) row row j k) (sym is) ([], wanting, none-placed k same)

-- with places reserved
pub reserved-under : {D Q : Type 0} (more : ℕ) (told : D → Option Disk) (faults : D → ℕ) (u : Setup) (first : DiskAtFirst) (row : StreamRow D) (j r : JournalState Q) → r ≡ record j { reserved = j.reserved + more } → StandsUnder told faults u first 0 row j → StandsUnder told faults u first more row r
reserved-under more told faults u first row j r same stand = rw same (record {
  good = stand.good;
  opening = stand.opening;
  known = stand.known;
  limits = stand.limits;
  row_is = stand.row_is;
  reserved = beyond j.reserved (reserved_in j.entries) stand.reserved;
})
  where
    beyond : (n owed : ℕ) → n ≡ owed + 0 → n + more ≡ owed + more
    beyond n owed is = omega arith

went-from : {D Q : Type 0} (m : ℕ) (told : D → Option Disk) (faults : D → ℕ) (u : Setup) (first : DiskAtFirst) (n : ℕ) (added : List Entry) (old new : StreamRow D) (j k : JournalState Q) → RowWent told faults u first n added old new (record j { reserved = m }) k → RowWent told faults u first n added old new j k
went-from m told faults u first n added old new j k went = record {
  stands = went.stands;
  placed = went.placed;
  stream = went.stream;
  counted = went.counted;
}

faulted-from : {D Q : Type 0} (m : ℕ) (told : D → Option Disk) (faults : D → ℕ) (u : Setup) (first : DiskAtFirst) (o : Option Entry) (old new : StreamRow D) (j k : JournalState Q) → RowFaulted told faults u first o old new (record j { reserved = m }) k → RowFaulted told faults u first o old new j k
faulted-from m told faults u first None old new j k went = went
faulted-from m told faults u first (Some e) old new j k went = went-from m told faults u first 1 (e ∷ []) old new j k went

went-since : {D Q : Type 0} (told : D → Option Disk) (faults : D → ℕ) (u : Setup) (first : DiskAtFirst) (n : ℕ) (added : List Entry) (old mid new : StreamRow D) (j k : JournalState Q) → mid.book.stream ≡ old.book.stream → faults mid.disk ≡ faults old.disk → RowWent told faults u first n added mid new j k → RowWent told faults u first n added old new j k
went-since told faults u first n added old mid new j k stream counted went = record {
  stands = went.stands;
  placed = went.placed;
  stream = went.stream ∙ stream;
  counted = went.counted ∙ ap (λ (m : ℕ). m + n) counted;
}

faulted-since : {D Q : Type 0} (told : D → Option Disk) (faults : D → ℕ) (u : Setup) (first : DiskAtFirst) (o : Option Entry) (old mid new : StreamRow D) (j k : JournalState Q) → mid.book.stream ≡ old.book.stream → faults mid.disk ≡ faults old.disk → RowFaulted told faults u first o mid new j k → RowFaulted told faults u first o old new j k
faulted-since told faults u first None old mid new j k stream counted went = went
faulted-since told faults u first (Some e) old mid new j k stream counted went = went-since told faults u first 1 (e ∷ []) old mid new j k stream counted went

-- What an event ends with from a row whose disk was read meanwhile.
pub ended-since : {D Q : Type 0} (told : D → Option Disk) (faults : D → ℕ) (u : Setup) (first : DiskAtFirst) (it : Event Q) (answer : StepReply Q) (old mid new : StreamRow D) (j k : JournalState Q) → mid.book.stream ≡ old.book.stream → faults mid.disk ≡ faults old.disk → RowEnded told faults u first it answer mid new j k → RowEnded told faults u first it answer old new j k
ended-since told faults u first it step.NotNow old mid new j k stream counted ended = absurd ended
ended-since told faults u first it (step.Refused (error.JournalFull entries)) old mid new j k stream counted ended = absurd ended
ended-since told faults u first it step.Faulted old mid new j k stream counted ended =
    (ended.0, faulted-since told faults u first (faulted_by j.entries it) old mid new j k stream counted ended.1)
ended-since told faults u first it (step.Refused error.NoMemory) old mid new j k stream counted ended =
    (ended.0, ended.1, went-since told faults u first 0 ended.0 old mid new j k stream counted ended.2)
ended-since told faults u first it other old mid new j k stream counted ended =
    (ended.0, ended.1, went-since told faults u first 0 ended.0 old mid new j k stream counted ended.2)

left-by : {D Q : Type 0} (n : ℕ) (told : D → Option Disk) (faults : D → ℕ) (u : Setup) (first : DiskAtFirst) (it : Event Q) (answer : StepReply Q) (old new : StreamRow D) (j k : JournalState Q) → MayHappen u j.entries it → asked_by_event u j.entries it ≤ room_of j → RowEnded told faults u first it answer old new (record j { reserved = n }) k → RowLeft told faults u first it answer old new j k
left-by n told faults u first it step.NotNow old new j k may room ended = absurd ended
left-by n told faults u first it (step.Refused (error.JournalFull entries)) old new j k may room ended = absurd ended
left-by n told faults u first it step.Faulted old new j k may room ended =
    (may, room, (ended.0, faulted-from n told faults u first (faulted_by j.entries it) old new j k ended.1))
left-by n told faults u first it (step.Refused error.NoMemory) old new j k may room ended =
    (ended.0, ended.1, went-from n told faults u first 0 ended.0 old new j k ended.2)
left-by n told faults u first it other old new j k may room ended =
    (may, room, (ended.0, ended.1, went-from n told faults u first 0 ended.0 old new j k ended.2))

-- What an event ends with that had a place reserved before is what it leaves.
pub left-from : {D Q : Type 0} (more : ℕ) (told : D → Option Disk) (faults : D → ℕ) (u : Setup) (first : DiskAtFirst) (it : Event Q) (answer : StepReply Q) (old new : StreamRow D) (j r k : JournalState Q) → MayHappen u j.entries it → asked_by_event u j.entries it ≤ room_of j → r ≡ record j { reserved = j.reserved + more } → RowEnded told faults u first it answer old new r k → RowLeft told faults u first it answer old new j k
left-from {D} {Q} more told faults u first it answer old new j r k may room same ended =
    left-by (j.reserved + more) told faults u first it answer old new j k may room
    (subst (λ (x : JournalState Q). RowEnded told faults u first it answer old new x k) same ended)
