-- A page is stored: whether it may be, and what its bytes and the journal are then, with the begin of its transfer.
use Rattle.std.specs.Prelude.{◌≡◌, ℕ, suc, ◌+◌, ◌-◌, ◌*◌, ◌^◌, ◌<◌, ◌≤◌, Bool, true, false, nat_lt, nat_le, min, max, List, [], ◌∷◌, length, slice_index, None, Some, refl, if◌then◌else◌}
use Rattle.std.specs.declared.option.Option.{Option}
use Rattle.std.specs.Option.{option_map}
use Rattle.std.proofs.Common.{ap, sym, ◌∙◌, subst, arith}
use Rattle.std.proofs.lemmas.Bool.{eq-eqb, leb-true, le-leb, lt-ltb, ltb-true, ltb-false, le-ltb, and_from}
use Rattle.cc_entry.specs.Pages.{has_byte, has_page}
use Rattle.cc_entry.specs.Place.{File, Page}
use Rattle.cc_entry.specs.declared.call.Call.{Call}
use Rattle.cc_entry.specs.declared.call.Call.TheVariants as call
use Rattle.cc_entry.specs.declared.entry.Entry.{Entry}
use Rattle.cc_entry.specs.declared.entry.Entry.TheVariants as entry
use Rattle.cc_entry.specs.declared.error.CcError.TheVariants as error
use Rattle.cc_entry.specs.declared.reply.Reply.TheVariants as reply
use Rattle.cc_book.specs.Stored.{store_done}
use Rattle.cc_content.specs.Contents.{IsByteOfContents}
use Rattle.cc_dirty.specs.Table.{row_of}
use Rattle.cc_dirty.specs.declared.row.Row.{Row}
use Rattle.cc_dirty.specs.declared.row.Unwritten.{Unwritten}
use Rattle.cc_journal.specs.Calls.{owed_end}
use Rattle.cc_journal.specs.Rows.{Follows, IsRowOf, journal_place}
use Rattle.cc_laws.proofs.AdmittedCalls.{stores_below}
use Rattle.cc_laws.proofs.ByteSteps.{byte_of-above}
use Rattle.cc_laws.proofs.DirtySteps.{is_dirty-stores_on}
use Rattle.cc_laws.proofs.HistorySteps.{history-done}
use Rattle.cc_laws.proofs.ImageSteps.{open_of-done}
use Rattle.cc_laws.proofs.LogSteps.{flushed_to-entry}
use Rattle.cc_laws.proofs.SettingSteps.{log_of-other}
use Rattle.cc_laws.proofs.SizeSteps.{sizes-stores}
use Rattle.cc_laws.proofs.SoundFacts.{dirty_resident-good, size_of-good, valid_of-good}
use Rattle.cc_laws.proofs.StampSteps.{lsns_of-stores, is_unstamped-other}
use Rattle.cc_laws.proofs.StoreLaws.{byte_of-stored}
use Rattle.cc_laws.proofs.UnrefusedCalls.{unrefused}
use Rattle.cc_model.specs.Allowed.{IsAllowed, IsAllowedSoFar, IsOwed, owed_begin}
use Rattle.cc_model.specs.Conditions.{MayStore, MayBegin}
use Rattle.cc_model.specs.Covered.{IsCovered, IsCoveredEntry, IsLogged, FlushedUpTo}
use Rattle.cc_model.specs.Good.{IsGood, IsGoodSoFar}
use Rattle.cc_model.specs.History.{Effect, Did, history}
use Rattle.cc_model.specs.Images.{open_of}
use Rattle.cc_model.specs.Legal.{IsLegal, IsLegalEntry}
use Rattle.cc_model.specs.Logs.{flushed_to}
use Rattle.cc_model.specs.Passes.{calls_of}
use Rattle.cc_model.specs.Refusals.{refusal}
use Rattle.cc_model.specs.Residency.{mapped_blocks_with}
use Rattle.cc_model.specs.Room.{reserved_in}
use Rattle.cc_model.specs.Settings.{log_of, quota_of}
use Rattle.cc_model.specs.Setup.{Setup}
use Rattle.cc_model.specs.Sizes.{stored_range}
use Rattle.cc_model.specs.Stamps.{is_unstamped, newest_of}
use Rattle.cc_model.specs.Touches.{is_dirty, size_of, valid_of}
use Rattle.cc_step.proofs.Reserved.{reserved-stored}
use Rattle.cc_turns.proofs.Rooms.{reserved-begun}
use Rattle.cc_world.specs.Pages.{Says}
use Rattle.cc_world.specs.Uncached.{stored_byte}
use Rattle.cc_world.proofs.Placing.{so-far}

-- a store is refused for the reasons of the write that it is part of
pub store-refusal : (u : Setup) (past : List Entry) (h : List Effect) (file : File) (page : ℕ) (bytes : List ℕ) → refusal u past h (call.NcStore file page bytes) ≡ refusal u past h (call.NcWrite file page)
unfolding refusal
store-refusal u past h file page bytes = refl

-- the page of a store that nothing refuses begins below the size, and has a number
pub below-size : (u : Setup) (past : List Entry) (h : List Effect) (file : File) (page : ℕ) (bytes : List ℕ) → refusal u past h (call.NcStore file page bytes) ≡ None → 4096 * page < size_of h
below-size u past h file page bytes admitted = stores_below (size_of h) page (error.BeyondSize (size_of h)) (unrefused u past h (call.NcStore file page bytes) admitted).within_size

pub numbered : (u : Setup) (past : List Entry) (s page : ℕ) → IsGood u past → 4096 * page < size_of (history past s) → page < 2 ^ 51
numbered u past s page good below = number (size_of (history past s)) below (size_of-good u past s (so-far u past good))
  where
    number : (size : ℕ) → 4096 * page < size → size < 2 ^ 63 → page < 2 ^ 51
    number size inside most = omega (arith, inside, most)

-- whether bytes may be stored as a page, by what its log was flushed to
pub stores : (past : List Entry) (s p : ℕ) (bytes : List ℕ) (answer : Bool) → length bytes ≡ 4096 → is_unstamped (history past s) p ≡ false → true ≡ nat_le (mapped_blocks_with (history past s) p) (quota_of (history past s)) → open_of (history past s) ≡ None → Says answer (FlushedUpTo past (log_of (history past s)) (newest_of (history past s) p)) → Says answer (MayStore past s p bytes)
stores past s p bytes true whole stamped room none says = record {
  whole_page = whole;
  no_transfer = none;
  in_quota = leb-true (mapped_blocks_with (history past s) p) (quota_of (history past s)) (sym room);
  logged = record { stamped = stamped; flushed = says };
}
stores past s p bytes false whole stamped room none says = λ may. says may.logged.flushed

-- a page without a row has no LSN
abbrev newest-in : Unwritten → Option ℕ
newest-in u = option_map (λ lsns. lsns.1) u.lsns

pub newest-none : (past : List Entry) (page : Page) (rows : List Row) → Follows past rows → row_of rows page ≡ None → newest_of (history past page.stream) page.page ≡ None
newest-none past page rows follows is =
    let there : IsRowOf (journal_place past page.stream) (history past page.stream) page.page None =
    subst (λ (o : Option Row). IsRowOf (journal_place past page.stream) (history past page.stream) page.page o) is (follows page) in
    sym (ap newest-in there.unwritten)

pub unstamped-log : (past : List Entry) (log newest : Option ℕ) → newest ≡ None → FlushedUpTo past log newest
unstamped-log past None newest none = tt
unstamped-log past (Some log) newest none = subst (λ (n : Option ℕ). FlushedUpTo past (Some log) n) (sym none) tt

nothing_owed : (e : Entry) (past : List Entry) → owed_begin past ≡ None → IsOwed (owed_begin past) e
nothing_owed e past none = rw none tt

stored-end : (page size : ℕ) → 4096 * page < size → (stored_range page size).to ≡ min (4096 * page + 4096) size
stored-end page size below = rw (lt-ltb (4096 * page) size below) refl

stores-page : (page size : ℕ) → 4096 * page < size → has_page (stored_range page size) page ≡ true
stores-page page size below =
    let to = (stored_range page size).to in
    let end = stored-end page size below in
    let inside : 4096 * page < to = omega (arith, end, below) in
    rw (lt-ltb (4096 * page) to inside, lt-ltb (4096 * page) (4096 * page + 4096) (omega arith)) refl

stores-byte : (page size i : ℕ) → 4096 * page < size → i < 4096 → i < size - 4096 * page → has_byte (stored_range page size) (4096 * page + i) ≡ true
stores-byte page size i below within inside =
    let to = (stored_range page size).to in
    let end = stored-end page size below in
    let before : 4096 * page + i < to = omega (arith, end, within, inside) in
    and_from (nat_le (4096 * page) (4096 * page + i)) (nat_lt (4096 * page + i) to) (le-leb (4096 * page) (4096 * page + i) (omega arith)) (lt-ltb (4096 * page + i) to before)

-- What a page's bytes are after the store: those that were stored up to the size, and zeros from there on.
module _ (opening : Option (ℕ → List ℕ)) (h : List Effect) (pass : ℕ) (file : File) (page : ℕ) (bytes : List ℕ)
    (below : 4096 * page < size_of h) (within : valid_of h ≤ size_of h) where
  abbrev it : Call
  it = call.NcStore file page bytes

  valid-is : valid_of (Did pass it reply.Unit ∷ h) ≡ max (valid_of h) (stored_range page (size_of h)).to
  valid-is = ap (λ s. s.valid) (sizes-stores pass it reply.Unit h refl)

  inside : (told : Option (ℕ → List ℕ)) (i : ℕ) → i < 4096 → i < size_of h - 4096 * page → IsByteOfContents told (Did pass it reply.Unit ∷ h) (4096 * page + i) (slice_index bytes i)
  inside None i small some = λ past.
      absurd (omega (arith, past, valid-is, stored-end page (size_of h) below, small, some))
  inside (Some pages) i small some =
      ap (slice_index bytes) (place i) ∙ sym (byte_of-stored pages pass it reply.Unit h (4096 * page + i) refl (stores-byte page (size_of h) i below small some))
    where
      place : (i : ℕ) → i ≡ (4096 * page + i) - 4096 * page
      place i = omega arith

  outside : (told : Option (ℕ → List ℕ)) (i : ℕ) → size_of h - 4096 * page ≤ i → IsByteOfContents told (Did pass it reply.Unit ∷ h) (4096 * page + i) 0
  outside None i out = λ past. refl
  outside (Some pages) i out =
      let above : valid_of (Did pass it reply.Unit ∷ h) ≤ 4096 * page + i = omega (arith, valid-is, stored-end page (size_of h) below, within, out) in
      sym (byte_of-above pages (Did pass it reply.Unit ∷ h) (4096 * page + i) (le-ltb (4096 * page + i) (valid_of (Did pass it reply.Unit ∷ h)) above))

  bytes-stored : (i : ℕ) → i < 4096 → IsByteOfContents opening (Did pass it reply.Unit ∷ h) (4096 * page + i) (stored_byte (size_of h) page bytes i)
  bytes-stored i small = by (nat_lt i (size_of h - 4096 * page)) refl
    where
      by : (t : Bool) → nat_lt i (size_of h - 4096 * page) ≡ t → IsByteOfContents opening (Did pass it reply.Unit ∷ h) (4096 * page + i) (if t then slice_index bytes i else 0)
      by true is = inside opening i small (ltb-true i (size_of h - 4096 * page) is)
      by false is = outside opening i (ltb-false i (size_of h - 4096 * page) is)

-- The journal after the store, and after the begin.
module _ (u : Setup) (past : List Entry) (pass : ℕ) (file : File) (page : Page) (bytes : List ℕ) (good : IsGood u past)
    (here : file.stream ≡ page.stream) (admitted : refusal u past (history past page.stream) (call.NcStore file page.page bytes) ≡ None)
    (may : MayStore past page.stream page.page bytes) where
  abbrev its : Call
  its = call.NcStore file page.page bytes

  abbrev placed : Entry
  placed = store_done pass past file page bytes

  good-stored : IsGoodSoFar u (placed ∷ past)
  unfolding IsLegal IsLegalEntry IsAllowed IsAllowedSoFar IsCovered IsCoveredEntry
  good-stored = record {
    legal = ((admitted, refl), good.legal);
    allowed = (nothing_owed _ past good.allowed.1, record { number = refl; filed = ap Some (sym here); may_end = (tt, may) }, good.allowed.0);
    covered = (tt, good.covered);
  }

  history-stored : history (placed ∷ past) page.stream ≡ Did pass its reply.Unit ∷ history past page.stream
  history-stored = history-done pass (suc (calls_of past pass)) page.stream its reply.Unit past page.stream (eq-eqb page.stream page.stream refl)

  below : 4096 * page.page < size_of (history past page.stream)
  below = below-size u past (history past page.stream) file page.page bytes admitted

  dirty-stored : is_dirty (history (placed ∷ past) page.stream) page.page ≡ true
  dirty-stored =
      ap (λ h. is_dirty h page.page) history-stored
      ∙ is_dirty-stores_on pass its reply.Unit (history past page.stream) page.page refl (stores-page page.page (size_of (history past page.stream)) below)

  pub open-stored : open_of (history (placed ∷ past) page.stream) ≡ None
  open-stored = ap open_of history-stored ∙ (open_of-done pass its reply.Unit (history past page.stream) ∙ may.no_transfer)

  flushed-on : (log lsn : Option ℕ) → FlushedUpTo past log lsn → FlushedUpTo (placed ∷ past) log lsn
  flushed-on None lsn is = tt
  flushed-on (Some log) None is = tt
  flushed-on (Some log) (Some lsn) is = subst (λ (n : ℕ). lsn ≤ n) (sym (flushed_to-entry placed past log)) (most lsn (flushed_to past log) is)
    where
      most : (n to : ℕ) → n ≤ to → n ≤ max 0 to
      most n to less = omega (arith, less)

  newest-stored : newest_of (history (placed ∷ past) page.stream) page.page ≡ newest_of (history past page.stream) page.page
  newest-stored =
      ap (λ h. newest_of h page.page) history-stored
      ∙ ap (λ lsns. option_map (λ (both : ℕ × ℕ). both.1) lsns) (lsns_of-stores pass its reply.Unit (history past page.stream) page.page refl)

  log-stored : log_of (history (placed ∷ past) page.stream) ≡ log_of (history past page.stream)
  log-stored = ap log_of history-stored ∙ log_of-other pass its reply.Unit (history past page.stream) refl

  logged-stored : IsLogged (placed ∷ past) page.stream page.page
  logged-stored = record {
    stamped = ap (λ h. is_unstamped h page.page) history-stored ∙ (is_unstamped-other pass its reply.Unit (history past page.stream) page.page refl ∙ may.logged.stamped);
    flushed = subst (λ (lsn : Option ℕ). FlushedUpTo (placed ∷ past) (log_of (history (placed ∷ past) page.stream)) lsn) (sym newest-stored)
        (subst (λ (log : Option ℕ). FlushedUpTo (placed ∷ past) log (newest_of (history past page.stream) page.page)) (sym log-stored)
        (flushed-on (log_of (history past page.stream)) (newest_of (history past page.stream) page.page) may.logged.flushed));
  }

  begins : MayBegin (placed ∷ past) page.stream page.page
  begins = record {
    resident = dirty_resident-good u (placed ∷ past) page.stream good-stored page.page dirty-stored;
    dirty = dirty-stored;
    logged = logged-stored;
    no_transfer = open-stored;
  }

  pub good-begun : IsGood u (entry.WriteBegin pass page ∷ placed ∷ past)
  unfolding IsLegal IsLegalEntry IsAllowed IsAllowedSoFar IsCovered IsCoveredEntry
  good-begun = record {
    legal = (tt, good-stored.legal);
    allowed = ((refl, begins, good-stored.allowed), refl);
    covered = (begins.logged, good-stored.covered);
  }

  -- two places more are owed then, but for that of another write's end
  pub reserved-both : page.stream < 16 → owed_end past pass + reserved_in (entry.WriteBegin pass page ∷ placed ∷ past) ≡ suc (suc (reserved_in past))
  reserved-both known =
      both _ _ _ _ (reserved-begun pass page (placed ∷ past) known open-stored) (reserved-stored past pass (suc (calls_of past pass)) page.stream its reply.Unit refl refl)
    where
      both : (owed all stored before : ℕ) → all ≡ suc stored → owed + stored ≡ suc before → owed + all ≡ suc (suc before)
      both owed all stored before first second = omega (arith, first, second)

  -- what goes to the disk is what the page holds then
  pub bytes-begun : (opening : Option (ℕ → List ℕ)) (i : ℕ) → i < 4096 → IsByteOfContents opening (history (placed ∷ past) page.stream) (4096 * page.page + i) (stored_byte (size_of (history past page.stream)) page.page bytes i)
  bytes-begun opening i small =
      subst (λ (h : List Effect). IsByteOfContents opening h (4096 * page.page + i) (stored_byte (size_of (history past page.stream)) page.page bytes i)) (sym history-stored)
      (bytes-stored opening (history past page.stream) pass file page.page bytes below (valid_of-good u past page.stream (so-far u past good)) i small)
