-- A good journal stays good with a noncached store and with the begin of its transfer.
use Rattle.std.specs.Prelude.{◌≡◌, ℕ, suc, ◌+◌, ◌-◌, ◌*◌, ◌<◌, ◌≤◌, Bool, true, false, nat_lt, nat_le, min, max, List, [], ◌∷◌, slice_index, Option, None, Some, refl, if◌then◌else◌}
use Rattle.std.specs.Option.{option_map}
use Rattle.std.proofs.Common.{ap, sym, ◌∙◌, subst, arith}
use Rattle.std.proofs.lemmas.Bool.{eq-eqb, lt-ltb, le-leb, ltb-true, ltb-false, le-ltb, and_from}
use Rattle.cc_entry.specs.Pages.{has_byte, has_page}
use Rattle.cc_entry.specs.Place.{File, Page}
use Rattle.cc_entry.specs.declared.call.Call.{Call}
use Rattle.cc_entry.specs.declared.call.Call.TheVariants as call
use Rattle.cc_entry.specs.declared.entry.Entry.{Entry}
use Rattle.cc_entry.specs.declared.error.CcError.TheVariants as error
use Rattle.cc_entry.specs.declared.reply.Reply.TheVariants as reply
use Rattle.cc_book.specs.Stored.{store_done}
use Rattle.cc_content.specs.Contents.{IsByteOfContents}
use Rattle.cc_laws.proofs.AdmittedCalls.{stores_below}
use Rattle.cc_laws.proofs.ByteSteps.{byte_of-above}
use Rattle.cc_laws.proofs.DirtySteps.{is_dirty-stores_on}
use Rattle.cc_laws.proofs.HistorySteps.{history-done}
use Rattle.cc_laws.proofs.ImageSteps.{open_of-done}
use Rattle.cc_laws.proofs.SettingSteps.{log_of-other}
use Rattle.cc_laws.proofs.SizeSteps.{sizes-stores}
use Rattle.cc_laws.proofs.SoundFacts.{dirty_resident-good, valid_of-good}
use Rattle.cc_laws.proofs.StampSteps.{lsns_of-stores, is_unstamped-other}
use Rattle.cc_laws.proofs.StoreLaws.{byte_of-stored}
use Rattle.cc_laws.proofs.UnrefusedCalls.{unrefused}
use Rattle.cc_model.specs.Allowed.{IsAllowed, IsAllowedSoFar, IsOwed, owed_begin}
use Rattle.cc_model.specs.Conditions.{MayStore, MayBegin}
use Rattle.cc_model.specs.Covered.{IsCovered, IsCoveredEntry, IsLogged, FlushedUpTo}
use Rattle.cc_model.specs.Good.{IsGood, IsGoodSoFar}
use Rattle.cc_model.specs.History.{Effect, Did, history}
use Rattle.cc_model.specs.Images.{open_of}
use Rattle.cc_model.specs.Legal.{IsLegal, IsLegalEntry}
use Rattle.cc_model.specs.Logs.{flushed_to}
use Rattle.cc_model.specs.Passes.{calls_of}
use Rattle.cc_model.specs.Refusals.{refusal, step_refusal}
use Rattle.cc_model.specs.Room.{reserved_in}
use Rattle.cc_model.specs.Settings.{log_of}
use Rattle.cc_model.specs.Setup.{Setup}
use Rattle.cc_model.specs.Sizes.{stored_range}
use Rattle.cc_model.specs.Stamps.{is_unstamped, newest_of}
use Rattle.cc_model.specs.Touches.{is_dirty, size_of, valid_of}
use Rattle.cc_journal.specs.Calls.{owed_end}
use Rattle.cc_step.proofs.Placed.{so-far}
use Rattle.cc_step.proofs.Reserved.{reserved-stored}
use Rattle.cc_writes.proofs.Quiet.{flushed_to-grown}
use Rattle.cc_turns.proofs.Rooms.{reserved-begun}
use Rattle.cc_ranges.specs.Stores.{IsReadyToStore, with_store, stored_byte}

nothing_owed : (e : Entry) (past : List Entry) → owed_begin past ≡ None → IsOwed (owed_begin past) e
nothing_owed e past none = rw none tt

-- a store is refused for the reasons of the write that it is part of
pub store-refusal : (u : Setup) (past : List Entry) (h : List Effect) (file : File) (page : ℕ) (bytes : List ℕ) → refusal u past h (call.NcStore file page bytes) ≡ refusal u past h (call.NcWrite file page)
unfolding refusal
store-refusal u past h file page bytes = refl

pub store-step_refusal : (h : List Effect) (file : File) (page : ℕ) (bytes : List ℕ) → step_refusal h (call.NcStore file page bytes) ≡ step_refusal h (call.NcWrite file page)
unfolding step_refusal
store-step_refusal h file page bytes = refl

-- the page of a noncached write that nothing refuses begins below the size
pub below-size : (u : Setup) (past : List Entry) (h : List Effect) (file : File) (page : ℕ) → refusal u past h (call.NcWrite file page) ≡ None → 4096 * page < size_of h
below-size u past h file page admitted = stores_below (size_of h) page (error.BeyondSize (size_of h)) (unrefused u past h (call.NcWrite file page) admitted).within_size

pub stored-end : (page size : ℕ) → 4096 * page < size → (stored_range page size).to ≡ min (4096 * page + 4096) size
stored-end page size below = rw (lt-ltb (4096 * page) size below) refl

pub stores-page : (page size : ℕ) → 4096 * page < size → has_page (stored_range page size) page ≡ true
stores-page page size below =
    let to = (stored_range page size).to in
    let end = stored-end page size below in
    let inside : 4096 * page < to = omega (arith, end, below) in
    rw (lt-ltb (4096 * page) to inside, lt-ltb (4096 * page) (4096 * page + 4096) (omega arith)) refl

stores-byte : (page size i : ℕ) → 4096 * page < size → i < 4096 → i < size - 4096 * page → has_byte (stored_range page size) (4096 * page + i) ≡ true
stores-byte page size i below within inside =
    let to = (stored_range page size).to in
    let end = stored-end page size below in
    let before : 4096 * page + i < to = omega (arith, end, within, inside) in
    and_from (nat_le (4096 * page) (4096 * page + i)) (nat_lt (4096 * page + i) to) (le-leb (4096 * page) (4096 * page + i) (omega arith)) (lt-ltb (4096 * page + i) to before)

-- What a page's bytes are after the store: those that were stored up to the size, and zeros from there on.
module _ (opening : Option (ℕ → List ℕ)) (h : List Effect) (pass : ℕ) (file : File) (page : ℕ) (bytes : List ℕ)
    (below : 4096 * page < size_of h) (within : valid_of h ≤ size_of h) where
  abbrev it : Call
  it = call.NcStore file page bytes

  valid-is : valid_of (Did pass it reply.Unit ∷ h) ≡ max (valid_of h) (stored_range page (size_of h)).to
  valid-is = ap (λ s. s.valid) (sizes-stores pass it reply.Unit h refl)

  inside : (told : Option (ℕ → List ℕ)) (i : ℕ) → i < 4096 → i < size_of h - 4096 * page → IsByteOfContents told (Did pass it reply.Unit ∷ h) (4096 * page + i) (slice_index bytes i)
  inside None i small some = λ past.
      absurd (omega (arith, past, valid-is, stored-end page (size_of h) below, small, some))
  inside (Some pages) i small some =
      ap (slice_index bytes) (place i) ∙ sym (byte_of-stored pages pass it reply.Unit h (4096 * page + i) refl (stores-byte page (size_of h) i below small some))
    where
      place : (i : ℕ) → i ≡ (4096 * page + i) - 4096 * page
      place i = omega arith

  outside : (told : Option (ℕ → List ℕ)) (i : ℕ) → size_of h - 4096 * page ≤ i → IsByteOfContents told (Did pass it reply.Unit ∷ h) (4096 * page + i) 0
  outside None i out = λ past. refl
  outside (Some pages) i out =
      let above : valid_of (Did pass it reply.Unit ∷ h) ≤ 4096 * page + i = omega (arith, valid-is, stored-end page (size_of h) below, within, out) in
      sym (byte_of-above pages (Did pass it reply.Unit ∷ h) (4096 * page + i) (le-ltb (4096 * page + i) (valid_of (Did pass it reply.Unit ∷ h)) above))

  pub bytes-stored : (i : ℕ) → i < 4096 → IsByteOfContents opening (Did pass it reply.Unit ∷ h) (4096 * page + i) (stored_byte (size_of h) page bytes i)
  bytes-stored i small = by (nat_lt i (size_of h - 4096 * page)) refl
    where
      by : (t : Bool) → nat_lt i (size_of h - 4096 * page) ≡ t → IsByteOfContents opening (Did pass it reply.Unit ∷ h) (4096 * page + i) (if t then slice_index bytes i else 0)
      by true is = inside opening i small (ltb-true i (size_of h - 4096 * page) is)
      by false is = outside opening i (ltb-false i (size_of h - 4096 * page) is)

module _ (u : Setup) (past : List Entry) (pass : ℕ) (file : File) (page : Page) (bytes : List ℕ)
    (good : IsGood u past) (ready : IsReadyToStore u past file page) (may : MayStore past page.stream page.page bytes) where
  abbrev its : Call
  its = call.NcStore file page.page bytes

  abbrev placed : Entry
  placed = store_done pass past file page bytes

  pub good-stored : IsGoodSoFar u (placed ∷ past)
  unfolding IsLegal IsLegalEntry IsAllowed IsAllowedSoFar IsCovered IsCoveredEntry
  good-stored = record {
    legal = ((store-refusal u past (history past page.stream) file page.page bytes ∙ ready.admitted, refl), good.legal);
    allowed = (nothing_owed _ past good.allowed.1, record { number = refl; filed = ap Some (sym ready.here); may_end = (tt, may) }, good.allowed.0);
    covered = (tt, good.covered);
  }

  pub history-stored : history (placed ∷ past) page.stream ≡ Did pass its reply.Unit ∷ history past page.stream
  history-stored = history-done pass (suc (calls_of past pass)) page.stream its reply.Unit past page.stream (eq-eqb page.stream page.stream refl)

  below : 4096 * page.page < size_of (history past page.stream)
  below = below-size u past (history past page.stream) file page.page ready.admitted

  pub dirty-stored : is_dirty (history (placed ∷ past) page.stream) page.page ≡ true
  dirty-stored =
      ap (λ h. is_dirty h page.page) history-stored
      ∙ is_dirty-stores_on pass its reply.Unit (history past page.stream) page.page refl (stores-page page.page (size_of (history past page.stream)) below)

  pub open-stored : open_of (history (placed ∷ past) page.stream) ≡ None
  open-stored = ap open_of history-stored ∙ (open_of-done pass its reply.Unit (history past page.stream) ∙ may.no_transfer)

  flushed-on : (log lsn : Option ℕ) → FlushedUpTo past log lsn → FlushedUpTo (placed ∷ past) log lsn
  flushed-on None lsn is = tt
  flushed-on (Some log) None is = tt
  flushed-on (Some log) (Some lsn) is = still lsn (flushed_to past log) (flushed_to (placed ∷ past) log) is (flushed_to-grown (placed ∷ []) past log)
    where
      still : (a b c : ℕ) → a ≤ b → b ≤ c → a ≤ c
      still a b c first second = omega (arith, first, second)

  newest-stored : newest_of (history (placed ∷ past) page.stream) page.page ≡ newest_of (history past page.stream) page.page
  newest-stored =
      ap (λ h. newest_of h page.page) history-stored
      ∙ ap (λ lsns. option_map (λ (both : ℕ × ℕ). both.1) lsns) (lsns_of-stores pass its reply.Unit (history past page.stream) page.page refl)

  log-stored : log_of (history (placed ∷ past) page.stream) ≡ log_of (history past page.stream)
  log-stored = ap log_of history-stored ∙ log_of-other pass its reply.Unit (history past page.stream) refl

  logged-stored : IsLogged (placed ∷ past) page.stream page.page
  logged-stored = record {
    stamped = ap (λ h. is_unstamped h page.page) history-stored ∙ (is_unstamped-other pass its reply.Unit (history past page.stream) page.page refl ∙ may.logged.stamped);
    flushed = subst (λ (lsn : Option ℕ). FlushedUpTo (placed ∷ past) (log_of (history (placed ∷ past) page.stream)) lsn) (sym newest-stored)
        (subst (λ (log : Option ℕ). FlushedUpTo (placed ∷ past) log (newest_of (history past page.stream) page.page)) (sym log-stored)
        (flushed-on (log_of (history past page.stream)) (newest_of (history past page.stream) page.page) may.logged.flushed));
  }

  begins : MayBegin (placed ∷ past) page.stream page.page
  begins = record {
    resident = dirty_resident-good u (placed ∷ past) page.stream good-stored page.page dirty-stored;
    dirty = dirty-stored;
    logged = logged-stored;
    no_transfer = open-stored;
  }

  pub good-with_store : IsGood u (with_store pass file page bytes past)
  unfolding IsLegal IsLegalEntry IsAllowed IsAllowedSoFar IsCovered IsCoveredEntry
  good-with_store = record {
    legal = (tt, good-stored.legal);
    allowed = ((refl, begins, good-stored.allowed), refl);
    covered = (begins.logged, good-stored.covered);
  }

  -- two places more are owed then, but for that of another write's end
  pub reserved-with_store : page.stream < 16 → owed_end past pass + reserved_in (with_store pass file page bytes past) ≡ suc (suc (reserved_in past))
  reserved-with_store known =
      both _ _ _ _ (reserved-begun pass page (placed ∷ past) known open-stored) (reserved-stored past pass (suc (calls_of past pass)) page.stream its reply.Unit refl refl)
    where
      both : (owed all stored before : ℕ) → all ≡ suc stored → owed + stored ≡ suc before → owed + all ≡ suc (suc before)
      both owed all stored before first second = omega (arith, first, second)

  -- what goes to the disk is what the page holds then
  pub bytes-with_store : (i : ℕ) → i < 4096 → IsByteOfContents (u.opening page.stream) (history (placed ∷ past) page.stream) (4096 * page.page + i) (stored_byte (size_of (history past page.stream)) page.page bytes i)
  bytes-with_store i small =
      subst (λ (h : List Effect). IsByteOfContents (u.opening page.stream) h (4096 * page.page + i) (stored_byte (size_of (history past page.stream)) page.page bytes i)) (sym history-stored)
      (bytes-stored (u.opening page.stream) (history past page.stream) pass file page.page bytes below (valid_of-good u past page.stream (so-far u past good)) i small)
