-- What the tests of the World on a page say.
use Rattle.std.specs.Prelude.{◌≡◌, ℕ, ◌*◌, nat_lt, Bool, true, false, List, slice_get}
use Rattle.std.specs.Option.{option_map}
use Rattle.std.specs.declared.option.Option.{Option}
use Rattle.std.specs.declared.option.Option.TheVariants.{Some, None}
use Rattle.cc_entry.specs.Place.{Page}
use Rattle.cc_entry.specs.declared.entry.Entry.{Entry}
use Rattle.cc_book.specs.Book.{BookState, BookStands}
use Rattle.cc_dirty.specs.declared.row.Row.{Row}
use Rattle.cc_log.specs.Turn.{LogTurnState}
use Rattle.cc_model.specs.Conditions.{MayBegin, MayComeIn, MayGoOut}
use Rattle.cc_model.specs.Covered.{FlushedUpTo}
use Rattle.cc_model.specs.Good.{IsGood}
use Rattle.cc_model.specs.History.{history}
use Rattle.cc_model.specs.Images.{open_of}
use Rattle.cc_model.specs.Logs.{flushed_to}
use Rattle.cc_model.specs.Settings.{log_of}
use Rattle.cc_model.specs.Setup.{Setup}
use Rattle.cc_model.specs.Touches.{valid_of}

-- an answer says whether a fact holds
abbrev pub Says : Bool → Type 0 → Type 0
Says true P = P
Says false P = P → ⊥

-- The answer says of each past for which the book stands, and in which no transfer of the stream is open, whether the
-- page may come in.
abbrev pub CanComeIn : BookState → Page → Bool → Type 0
CanComeIn b page answer =
    (opening : Option (ℕ → List ℕ)) (past : List Entry) → BookStands opening past b →
    open_of (history past b.stream) ≡ None →
    Says answer (MayComeIn (history past b.stream) page.page (nat_lt (4096 * page.page) (valid_of (history past b.stream))))

-- whether it may go out
abbrev pub CanGoOut : BookState → List Entry → Page → Bool → Type 0
CanGoOut b past page answer =
    (opening : Option (ℕ → List ℕ)) → BookStands opening past b → open_of (history past b.stream) ≡ None →
    Says answer (MayGoOut (history past b.stream) page.page)

-- whether its transfer may begin, where the past is good
abbrev pub CanBegin : BookState → List Entry → Page → Bool → Type 0
CanBegin b past page answer =
    (u : Setup) (opening : Option (ℕ → List ℕ)) → IsGood u past → BookStands opening past b →
    open_of (history past b.stream) ≡ None → Says answer (MayBegin past b.stream page.page)

-- The log of a stream, where it has one, is among these, and is flushed to what the past says.
abbrev pub AreFlushed : {L : Type 0} → ℕ → List Entry → List (LogTurnState L) → Type 0
AreFlushed {L} s past logs =
    (handle : ℕ) → log_of (history past s) ≡ Some handle →
    (log : LogTurnState L) × (slice_get logs handle ≡ Some log) × (log.flushed ≡ flushed_to past handle)

-- a book stands for a past, and the log of its stream is among these
abbrev pub IsLoggedBy : {L : Type 0} → BookState → List Entry → List (LogTurnState L) → Type 0
IsLoggedBy b past logs = ((opening : Option (ℕ → List ℕ)) × BookStands opening past b) × AreFlushed b.stream past logs

-- the answer says whether the stream's log, where it has one, is flushed to the LSN, where there is one
abbrev pub LsnIsReached : {L : Type 0} → BookState → List (LogTurnState L) → Option ℕ → Bool → Type 0
LsnIsReached b logs newest answer =
    (opening : Option (ℕ → List ℕ)) (past : List Entry) → BookStands opening past b → AreFlushed b.stream past logs →
    Says answer (FlushedUpTo past (log_of (history past b.stream)) newest)

-- the newest LSN of the touches of a row that no transfer took
abbrev pub newest_later : Row → Option ℕ
newest_later row = option_map (λ lsns. lsns.1) row.later.lsns
