-- What the tests on a page say, from what they found.
use Rattle.std.specs.Prelude.{◌≡◌, ℕ, ◌*◌, ◌<◌, ◌≤◌, Bool, true, false, not, is_some, nat_le, nat_lt, List, length, Option, None, Some, refl, slice_get}
use Rattle.std.specs.Option.{option_map}
use Rattle.std.proofs.Common.{ap, sym, ◌∙◌, subst, arith}
use Rattle.std.proofs.lemmas.Bool.{leb-true, le-leb}
use Rattle.std.proofs.lemmas.Option.{slice_get_within}
use Rattle.cc_entry.specs.Place.{Page}
use Rattle.cc_entry.specs.declared.entry.Entry.{Entry}
use Rattle.cc_book.specs.Book.{BookState, BookStands}
use Rattle.cc_book.proofs.DirtyRows.{dirty-follows}
use Rattle.cc_dirty.specs.Table.{row_of, Sound}
use Rattle.cc_dirty.specs.Unwritten.{joined_unwritten}
use Rattle.cc_dirty.specs.declared.row.Row.{Row}
use Rattle.cc_dirty.specs.declared.row.Unwritten.{Unwritten}
use Rattle.cc_journal.specs.Rows.{Follows, IsRowOf, journal_place}
use Rattle.cc_laws.proofs.SoundFacts.{dirty_resident-good}
use Rattle.cc_log.specs.Turn.{LogTurnState}
use Rattle.cc_model.specs.Conditions.{MayBegin, MayComeIn, MayGoOut}
use Rattle.cc_model.specs.Covered.{FlushedUpTo}
use Rattle.cc_model.specs.Good.{IsGood}
use Rattle.cc_model.specs.History.{Effect, history}
use Rattle.cc_model.specs.Holds.{holds_of, is_held}
use Rattle.cc_model.specs.Images.{open_of}
use Rattle.cc_model.specs.Residency.{is_resident, mapped_blocks_with}
use Rattle.cc_model.specs.Logs.{flushed_to}
use Rattle.cc_model.specs.Settings.{log_of, quota_of}
use Rattle.cc_model.specs.Setup.{Setup}
use Rattle.cc_model.specs.Stamps.{is_unstamped, newest_of}
use Rattle.cc_model.specs.Touches.{is_dirty, is_mapped, size_of, valid_of}
use Rattle.cc_world.specs.Pages.{AreFlushed, CanBegin, CanComeIn, CanGoOut, Says, newest_later}
use Rattle.cc_world.proofs.Placing.{so-far}

-- two answers that differ
pub clash : true ≡ false → ⊥
clash is = absurd (cc)

-- a page that starts past the size, and below it
pub past-size : (size real p q : ℕ) → size ≡ real → q ≡ p → size ≤ 4096 * q → 4096 * p < real → ⊥
past-size size real p q same here over below = omega (arith, same, here, over, below)

pub below-size : (size real p q : ℕ) → size ≡ real → q ≡ p → 4096 * q < size → 4096 * p < real
below-size size real p q same here below = omega (arith, same, here, below)

pub comes-in : (h : List Effect) (p : ℕ) (answer : Bool) → is_mapped h ≡ true → is_resident h p ≡ false → 4096 * p < size_of h → open_of h ≡ None → answer ≡ nat_le (mapped_blocks_with h p) (quota_of h) → Says answer (MayComeIn h p (nat_lt (4096 * p) (valid_of h)))
comes-in h p true mapped absent below rest is = record {
  mapped = mapped;
  absent = absent;
  below_size = below;
  no_transfer = rest;
  in_quota = leb-true (mapped_blocks_with h p) (quota_of h) (sym is);
  source = refl;
}
comes-in h p false mapped absent below rest is =
    λ (may : MayComeIn h p (nat_lt (4096 * p) (valid_of h))). clash (sym (le-leb (mapped_blocks_with h p) (quota_of h) may.in_quota) ∙ sym is)

pub goes-out : (h : List Effect) (p : ℕ) (dirty : Bool) → is_resident h p ≡ true → is_held (holds_of h) p ≡ false → open_of h ≡ None → dirty ≡ is_dirty h p → Says (not dirty) (MayGoOut h p)
goes-out h p true resident free rest is = λ (may : MayGoOut h p). clash (is ∙ may.clean)
goes-out h p false resident free rest is = record { resident = resident; not_held = free; clean = sym is; no_transfer = rest }

-- The newest LSN of a page's row is that of the page while no transfer is open.
abbrev newest-in : Unwritten → Option ℕ
newest-in u = option_map (λ lsns. lsns.1) u.lsns

pub newest-there : (past : List Entry) (page : Page) (rows : List Row) (row : Row) → Follows past rows → row_of rows page ≡ Some row → open_of (history past page.stream) ≡ None → newest_later row ≡ newest_of (history past page.stream) page.page
newest-there past page rows row follows is none =
    let there : IsRowOf (journal_place past page.stream) (history past page.stream) page.page (Some row) =
    subst (λ (o : Option Row). IsRowOf (journal_place past page.stream) (history past page.stream) page.page o) is (follows page) in
    sym (ap (λ (b : Unwritten). newest-in (joined_unwritten b row.later)) (there.at_rest (rw none refl))) ∙ ap newest-in there.unwritten

begins : (u : Setup) (past : List Entry) (s p : ℕ) (answer : Bool) → IsGood u past → is_dirty (history past s) p ≡ true → is_unstamped (history past s) p ≡ false → open_of (history past s) ≡ None → Says answer (FlushedUpTo past (log_of (history past s)) (newest_of (history past s) p)) → Says answer (MayBegin past s p)
begins u past s p true good dirty stamped none says = record {
  resident = dirty_resident-good u past s (so-far u past good) p dirty;
  dirty = dirty;
  logged = record { stamped = stamped; flushed = says };
  no_transfer = none;
}
begins u past s p false good dirty stamped none says = λ may. says may.logged.flushed

-- whether the transfer of a page may begin that has a row, and that no pin owes a stamp
pub begins-there : (u : Setup) (past : List Entry) (page : Page) (s : ℕ) (rows : List Row) (row : Row) (answer : Bool) → page.stream ≡ s → IsGood u past → Sound rows → Follows past rows → row_of rows page ≡ Some row → is_unstamped (history past s) page.page ≡ false → open_of (history past s) ≡ None → Says answer (FlushedUpTo past (log_of (history past s)) (newest_later row)) → Says answer (MayBegin past s page.page)
begins-there u past page s rows row answer stream good sound follows is stamped none says =
    begins u past s page.page answer good
    (ap (λ (n : ℕ). is_dirty (history past n) page.page) (sym stream) ∙ (sym ((dirty-follows past page.stream rows sound follows).dirty page.page) ∙ ap (λ (o : Option Row). is_some o) is))
    stamped none
    (subst (λ (newest : Option ℕ). Says answer (FlushedUpTo past (log_of (history past s)) newest))
    (newest-there past page rows row follows is (ap (λ (n : ℕ). open_of (history past n)) stream ∙ none)
    ∙ ap (λ (n : ℕ). newest_of (history past n) page.page) stream) says)

-- a log that is among those of the World
pub log-within : {L : Type 0} (s : ℕ) (past : List Entry) (logs : List (LogTurnState L)) (handle : ℕ) → AreFlushed s past logs → log_of (history past s) ≡ Some handle → handle < length logs
log-within s past logs handle flushed is =
    let found = flushed handle is in
    slice_get_within logs handle found.0 found.1

flushed-far : (answer : Bool) (lsn to real n : ℕ) → nat_le n to ≡ answer → n ≡ lsn → to ≡ real → Says answer (lsn ≤ real)
flushed-far true lsn to real n is same there = subst (λ (m : ℕ). lsn ≤ m) there (subst (λ (m : ℕ). m ≤ to) same (leb-true n to is))
flushed-far false lsn to real n is same there = λ (least : lsn ≤ real). clash (sym (le-leb n to (subst (λ (m : ℕ). n ≤ m) (sym there) (subst (λ (m : ℕ). m ≤ real) (sym same) least))) ∙ is)

pub reached : {L : Type 0} (s : ℕ) (past : List Entry) (logs : List (LogTurnState L)) (handle lsn n to : ℕ) (newest : Option ℕ) (log : LogTurnState L) → AreFlushed s past logs → log_of (history past s) ≡ Some handle → newest ≡ Some lsn → n ≡ lsn → slice_get logs handle ≡ Some log → to ≡ log.flushed → Says (nat_le n to) (FlushedUpTo past (log_of (history past s)) newest)
reached {L} s past logs handle lsn n to newest log flushed is newest_is same there reads =
    let found = flushed handle is in
    let one : found.0 ≡ log = same-log found.0 log (sym found.1 ∙ there) in
    rw (is, newest_is) (flushed-far (nat_le n to) lsn to (flushed_to past handle) n refl same (reads ∙ (sym (ap (λ (l : LogTurnState L). l.flushed) one) ∙ found.2)))
  where
    same-log : (a b : LogTurnState L) → Some a ≡ Some b → a ≡ b
    same-log a b e = cc

-- nothing is to be flushed of no log
pub unlogged : (past : List Entry) (log newest : Option ℕ) → log ≡ None → FlushedUpTo past log newest
unlogged past log newest is = subst (λ (l : Option ℕ). FlushedUpTo past l newest) (sym is) tt

-- what they say of the page's own stream
pub come-in-there : (b : BookState) (page : Page) (answer : Bool) (opening : Option (ℕ → List ℕ)) (past : List Entry) → page.stream ≡ b.stream → CanComeIn b page answer → BookStands opening past b → open_of (history past b.stream) ≡ None → Says answer (MayComeIn (history past page.stream) page.page (nat_lt (4096 * page.page) (valid_of (history past page.stream))))
come-in-there b page answer opening past stream can stands rest =
    subst (λ (s : ℕ). Says answer (MayComeIn (history past s) page.page (nat_lt (4096 * page.page) (valid_of (history past s))))) (sym stream) (can opening past stands rest)

pub go-out-there : (b : BookState) (page : Page) (answer : Bool) (opening : Option (ℕ → List ℕ)) (past : List Entry) → page.stream ≡ b.stream → CanGoOut b past page answer → BookStands opening past b → open_of (history past b.stream) ≡ None → Says answer (MayGoOut (history past page.stream) page.page)
go-out-there b page answer opening past stream can stands rest =
    subst (λ (s : ℕ). Says answer (MayGoOut (history past s) page.page)) (sym stream) (can opening stands rest)

pub begin-there : (b : BookState) (page : Page) (answer : Bool) (u : Setup) (opening : Option (ℕ → List ℕ)) (past : List Entry) → page.stream ≡ b.stream → CanBegin b past page answer → IsGood u past → BookStands opening past b → open_of (history past b.stream) ≡ None → Says answer (MayBegin past page.stream page.page)
begin-there b page answer u opening past stream can good stands rest =
    subst (λ (s : ℕ). Says answer (MayBegin past s page.page)) (sym stream) (can u opening good stands rest)

-- what an answer says, by what it is
pub says-no : (answer : Bool) (P : Type 0) → answer ≡ false → Says answer P → P → ⊥
says-no true P is says = absurd (cc)
says-no false P is says = says

pub says-yes : (answer : Bool) (P : Type 0) → answer ≡ true → Says answer P → P
says-yes true P is says = says
says-yes false P is says = absurd (cc)
