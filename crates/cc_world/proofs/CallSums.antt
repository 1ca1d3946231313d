-- What a call that ends on a book asks of the journal's room: with it the journal reserves what its past owes after the
-- call's entry, the place of the entry, and what the call gives back.
use Rattle.std.specs.Prelude.{◌≡◌, ℕ, suc, ◌+◌, ◌-◌, ◌<◌, ◌≤◌, Bool, true, false, ◌==◌, List, [], ◌∷◌, None, Some, refl, if◌then◌else◌}
use Rattle.std.specs.declared.option.Option.{Option}
use Rattle.std.specs.List.{sum_by}
use Rattle.std.proofs.Common.{ap, sym, ◌∙◌, subst, arith}
use Rattle.cc_entry.specs.Place.{File, Page}
use Rattle.cc_entry.specs.declared.call.Call.{Call}
use Rattle.cc_entry.specs.declared.call.Call.TheVariants as call
use Rattle.cc_entry.specs.declared.query.Query.TheVariants as query
use Rattle.cc_entry.specs.declared.entry.Entry.{Entry}
use Rattle.cc_entry.specs.declared.entry.Entry.TheVariants as entry
use Rattle.cc_entry.specs.declared.error.CcError.{CcError}
use Rattle.cc_entry.specs.declared.reply.Outcome.{Outcome}
use Rattle.cc_entry.specs.declared.reply.Outcome.TheVariants as outcome
use Rattle.cc_entry.specs.declared.reply.Reply.{Reply}
use Rattle.cc_book.specs.Book.{BookState, done, failed}
use Rattle.cc_journal.specs.Calls.{ends_in_store, owed_end, owes_store}
use Rattle.cc_journal.specs.Journal.{JournalState}
use Rattle.cc_laws.proofs.HistorySteps.{history-call_failed, history-done, history-done_other}
use Rattle.cc_laws.proofs.HoldSteps.{changes_holds, holds_of-other}
use Rattle.cc_laws.proofs.ImageSteps.{open_of-done}
use Rattle.cc_model.specs.Allowed.{MayEnd}
use Rattle.cc_model.specs.Cache.{all_streams}
use Rattle.cc_model.specs.Good.{IsGood}
use Rattle.cc_model.specs.History.{history}
use Rattle.cc_model.specs.Holds.{Hold, hold_at, holds_of}
use Rattle.cc_model.specs.Legal.{ends_own_store, stream_history}
use Rattle.cc_model.specs.Passes.{calls_of, is_store, is_the_page, store_of, stored_by, stored_page, up_to_call}
use Rattle.cc_model.specs.Room.{owed_by_stream, reserved_in, owes_set_dirty, places_asked}
use Rattle.cc_model.specs.Setup.{Setup}
use Rattle.cc_step.proofs.Asking.{asked-reserved}
use Rattle.cc_step.proofs.Placed.{so-far}
use Rattle.cc_step.proofs.Reserved.{stores-call, sum-same}
use Rattle.cc_step.specs.Step.{asked_now, is_stepped, places_spared}
use Rattle.cc_world.specs.Calls.{IsFiledOn, CallIsRefusedSo, IsReplied, asked_on, asked_ready, places_one, spared_on}
use Rattle.cc_effects.specs.Events.{asked_done, filed_under}

with-stores : (owed sums before stores : ℕ) → owed + stores ≡ before → owed + (sums + stores) ≡ sums + before
with-stores owed sums before stores is = omega (arith, is)

no-store-failed : (it : Call) (e : CcError) → is_store it (outcome.Failed e) ≡ false
no-store-failed (call.NcStore file page bytes) e = refl
no-store-failed other e = refl

-- the entry of a call that failed leaves what is owed, but for the end of a noncached write that its pass owed
pub reserved-failed : (past : List Entry) (pass nth s : ℕ) (it : Call) (e : CcError) → owed_end past pass + reserved_in (entry.Call pass nth (Some s) it (outcome.Failed e) ∷ past) ≡ reserved_in past
unfolding reserved_in
reserved-failed past pass nth s it e =
    rw (sum-same (λ n. owed_by_stream (history (entry.Call pass nth (Some s) it (outcome.Failed e) ∷ past) n)) (λ n. owed_by_stream (history past n)) all_streams
    (λ n. ap owed_by_stream (history-call_failed pass nth (Some s) it e past n)))
    (with-stores _ _ _ _ (stores-call past pass nth (Some s) it (outcome.Failed e) (no-store-failed it e)))

-- what a stream owes after a done call that changes no hold
owed-kept : (past : List Entry) (pass nth s n : ℕ) (it : Call) (r : Reply) → changes_holds it ≡ false → owed_by_stream (history (entry.Call pass nth (Some s) it (outcome.Done r) ∷ past) n) ≡ owed_by_stream (history past n)
owed-kept past pass nth s n it r kept = go (s == n) refl
  where
    go : (b : Bool) → (s == n) ≡ b → owed_by_stream (history (entry.Call pass nth (Some s) it (outcome.Done r) ∷ past) n) ≡ owed_by_stream (history past n)
    go true here = rw (history-done pass nth s it r past n here, holds_of-other pass it r (history past n) kept, open_of-done pass it r (history past n)) refl
    go false away = ap owed_by_stream (history-done_other pass nth s it r past n away)

-- so does that of a done call that changes no hold and is no noncached store
reserved-kept : (past : List Entry) (pass nth s : ℕ) (it : Call) (r : Reply) → is_store it (outcome.Done r) ≡ false → changes_holds it ≡ false → owed_end past pass + reserved_in (entry.Call pass nth (Some s) it (outcome.Done r) ∷ past) ≡ reserved_in past
unfolding reserved_in
reserved-kept past pass nth s it r store kept =
    rw (sum-same (λ n. owed_by_stream (history (entry.Call pass nth (Some s) it (outcome.Done r) ∷ past) n)) (λ n. owed_by_stream (history past n)) all_streams (λ n. owed-kept past pass nth s n it r kept))
    (with-stores _ _ _ _ (stores-call past pass nth (Some s) it (outcome.Done r) store))

-- the pass whose last call stored a page owes the end of that write
stored-owes : (page : Page) (calls : List Entry) → is_the_page page (stored_by calls) ≡ true → ends_in_store calls ≡ true
stored-owes page [] is = absurd (cc)
stored-owes page (entry.Call pass nth stream it ended ∷ past) is = go stream it ended is
  where
    go : (stream : Option ℕ) (it : Call) (ended : Outcome) → is_the_page page (stored_page stream it ended) ≡ true → is_store it ended ≡ true
    go None it ended is = absurd (cc)
    go (Some s) (call.NcStore file number bytes) (outcome.Done r) is = refl
    go (Some s) (call.NcStore file number bytes) (outcome.Failed e) is = absurd (cc)
    go (Some s) other ended is = absurd (cc)
stored-owes page (other ∷ past) is = absurd (cc)

pub owes-one : (page : Page) (past : List Entry) (pass : ℕ) → is_the_page page (store_of past pass) ≡ true → owed_end past pass ≡ 1
owes-one page past pass is = rw (stored-owes page (up_to_call past pass) is) refl

-- the sums by kinds of calls
of-step : (owed after spared before asked : ℕ) → (owed + after) + (1 + spared) ≡ before + asked → before + asked ≡ after + (1 + (spared + owed))
of-step owed after spared before asked is = omega (arith, is)

of-kept : (owed after before : ℕ) → owed + after ≡ before → before + 1 ≡ after + (1 + (0 + owed))
of-kept owed after before is = omega (arith, is)

of-end : (owed after before : ℕ) → owed + after ≡ before → owed ≡ 1 → before + 0 ≡ after + (1 + 0)
of-end owed after before is one = omega (arith, is, one)

-- the journal after the call's entry
abbrev after : List Entry → ℕ → ℕ → Call → Reply → List Entry
after past pass s it r = done pass past s it r ∷ past

-- With what a call asks that may be done there is reserved what the past owes after its entry, the entry's place, and what
-- the call gives back.
module _ (u : Setup) (past : List Entry) (pass s : ℕ) (r : Reply) (below : s < 16) (good : IsGood u past) where
  abbrev nth : ℕ
  nth = suc (calls_of past pass)

  stepped-sum : (it : Call) → is_stepped it ≡ true → IsFiledOn past pass s it → reserved_in past + asked_now past s it ≡ reserved_in (after past pass s it r) + (1 + (places_spared (holds_of (history past s)) it + owed_end past pass))
  stepped-sum it stepped filed = of-step _ _ _ _ _ (asked-reserved u past pass nth s it r below stepped (so-far u past good) filed)

  kept-sum : (it : Call) → is_store it (outcome.Done r) ≡ false → changes_holds it ≡ false → reserved_in past + 1 ≡ reserved_in (after past pass s it r) + (1 + (0 + owed_end past pass))
  kept-sum it store kept = of-kept _ _ _ (reserved-kept past pass nth s it r store kept)

  pub sum-on : (it : Call) → places_one it ≡ true → IsFiledOn past pass s it → MayEnd u past pass (Some s) it (outcome.Done r) → reserved_in past + asked_on (holds_of (history past s)) it ≡ reserved_in (after past pass s it r) + (1 + spared_on past pass s it)
  sum-on (call.NcStore file page bytes) alone filed may = absurd (cc)
  sum-on (call.NcRead file page) alone filed may = kept-sum (call.NcRead file page) refl refl
  sum-on (call.Query (query.DirtyPages handle)) alone filed may = kept-sum (call.Query (query.DirtyPages handle)) refl refl
  sum-on (call.Query query.IsDirtyData) alone filed may = kept-sum (call.Query query.IsDirtyData) refl refl
  sum-on (call.NcWrite file page) alone filed may =
      of-end _ _ _ (reserved-kept past pass nth s (call.NcWrite file page) r refl refl) (owes-one (record { stream = s; page = page }) past pass may.1.stored)
  sum-on (call.Flush file span) alone filed may = kept-sum (call.Flush file span) refl refl
  sum-on (call.Purge file span) alone filed may = kept-sum (call.Purge file span) refl refl
  sum-on (call.Discard file span) alone filed may = kept-sum (call.Discard file span) refl refl
  sum-on (call.AheadStep request) alone filed may = kept-sum (call.AheadStep request) refl refl
  sum-on other alone filed may = stepped-sum other refl filed

-- what it asks, by the open holds of its stream
asks-on : (u : Setup) (past : List Entry) (pass s : ℕ) (it : Call) (r : Reply) → places_one it ≡ true → MayEnd u past pass (Some s) it (outcome.Done r) → (if ends_own_store past pass (Some s) it then 0 else asked_done (holds_of (stream_history past (Some s))) it) ≡ asked_on (holds_of (history past s)) it
asks-on u past pass s (call.NcStore file page bytes) r alone may = absurd (cc)
asks-on u past pass s (call.NcWrite file page) r alone may = rw may.1.stored refl
asks-on u past pass s other r alone may = refl

pub asked-ready : {Q : Type 0} (u : Setup) (more pass : ℕ) (it : Call) (r : Reply) (b : BookState) (j : JournalState Q) → IsReplied u more pass it r b j → asked_ready j.entries pass it ≡ asked_on (holds_of (history j.entries b.stream)) it
asked-ready u more pass it r b j replied =
    let made = replied.unrefused.made in
    subst (λ (o : Option ℕ). (if ends_own_store j.entries pass o it then 0 else asked_done (holds_of (stream_history j.entries o)) it) ≡ asked_on (holds_of (history j.entries b.stream)) it)
    (sym made.here) (asks-on u j.entries pass b.stream it r replied.unrefused.alone replied.may.may_end)

pub sum-replied : {Q : Type 0} (u : Setup) (more pass : ℕ) (it : Call) (r : Reply) (b : BookState) (j : JournalState Q) → IsReplied u more pass it r b j → reserved_in j.entries + asked_ready j.entries pass it ≡ reserved_in (done pass j.entries b.stream it r ∷ j.entries) + (1 + spared_on j.entries pass b.stream it)
sum-replied u more pass it r b j replied =
    let made = replied.unrefused.made in
    ap (λ (n : ℕ). reserved_in j.entries + n) (asked-ready u more pass it r b j replied)
    ∙ sum-on u j.entries pass b.stream r made.stands.known made.stands.stand.good it replied.unrefused.alone replied.unrefused.filed replied.may.may_end

-- what a call asks, and what it gives back, that does not end a noncached write
pub asked-else : (holds : List Hold) (it : Call) → ((file : File) (page : ℕ) → it ≡ call.NcWrite file page → ⊥) → asked_on holds it ≡ places_asked holds it
asked-else holds (call.NcWrite file page) apart = absurd (apart file page refl)
asked-else holds other apart = refl

pub spared-else : (past : List Entry) (pass s : ℕ) (it : Call) → ((file : File) (page : ℕ) → it ≡ call.NcWrite file page → ⊥) → spared_on past pass s it ≡ places_spared (holds_of (history past s)) it + owed_end past pass
spared-else past pass s (call.NcWrite file page) apart = absurd (apart file page refl)
spared-else past pass s other apart = refl

-- at most one place each
one-at-most : (b : Bool) → (if b then 1 else 0) ≤ 1
one-at-most true = omega arith
one-at-most false = omega arith

pub spared-few : (holds : List Hold) (it : Call) → places_spared holds it ≤ 1
spared-few holds (call.EndHold hold) = one-at-most (owes_set_dirty (hold_at holds hold))
spared-few holds other = omega arith

pub owed-few : (past : List Entry) (pass : ℕ) → owed_end past pass ≤ 1
owed-few past pass = one-at-most (owes_store past pass)
