-- A past that is within a capacity stays so with one event more that fits.
use Rattle.std.specs.Prelude.{◌≡◌, ℕ, ◌+◌, ◌≤◌, ◌==◌, Bool, true, false, is_some, if◌then◌else◌, List, [], ◌∷◌, ◌++◌, length, refl}
use Rattle.std.specs.declared.option.Option.{Option}
use Rattle.std.specs.declared.option.Option.TheVariants.{Some, None}
use Rattle.std.specs.List.{sum_by}
use Rattle.std.proofs.Common.{arith, sym, subst}
use Rattle.std.proofs.lemmas.List.Sums.{sum_by-cons}
use Rattle.cc_entry.specs.Place.{Page}
use Rattle.cc_entry.specs.declared.call.Call.{Call}
use Rattle.cc_entry.specs.declared.call.Call.TheVariants as call
use Rattle.cc_entry.specs.declared.entry.Entry.{Entry}
use Rattle.cc_entry.specs.declared.entry.Entry.TheVariants as entry
use Rattle.cc_entry.specs.declared.reply.Outcome.{Outcome}
use Rattle.cc_entry.specs.declared.reply.Outcome.TheVariants as outcome
use Rattle.cc_journal.specs.Capacity.{FitsIn, IsWithinCapacity}
use Rattle.cc_journal.specs.Journal.{JournalState}
use Rattle.cc_laws.proofs.HistorySteps.{history-write_begin, history-write_begin_other}
use Rattle.cc_laws.proofs.HoldSteps.{holds_of-began}
use Rattle.cc_laws.proofs.ImageSteps.{open_of-began}
use Rattle.cc_model.specs.Allowed.{begin_after}
use Rattle.cc_model.specs.Cache.{all_streams}
use Rattle.cc_model.specs.History.{history}
use Rattle.cc_model.specs.Images.{Transfer, open_of}
use Rattle.cc_model.specs.Room.{owed_by_stream, stores_unfinished, reserved_in}
use Rattle.cc_turns.specs.Takes.{IsOneEvent}

-- a sum of terms none of which is more is no more
sum-most : (f g : ℕ → ℕ) (ns : List ℕ) → ((n : ℕ) → f n ≤ g n) → sum_by f ns ≤ sum_by g ns
sum-most f g [] most = omega arith
sum-most f g (n ∷ ns) most = omega (arith, sum_by-cons f n ns, sum_by-cons g n ns, most n, sum-most f g ns most)

-- a stream owes no less once a transfer of it began
owed-begun : (pass : ℕ) (page : Page) (past : List Entry) (s : ℕ) → owed_by_stream (history past s) ≤ owed_by_stream (history (entry.WriteBegin pass page ∷ past) s)
owed-begun pass page past s = go (page.stream == s) refl
  where
    one_at_most : (held : ℕ) (t : Option Transfer) → held + (if is_some t then 1 else 0) ≤ held + 1
    one_at_most held None = omega arith
    one_at_most held (Some t) = omega arith

    no_more : (n : ℕ) → n ≤ n
    no_more n = omega arith

    go : (b : Bool) → (page.stream == s) ≡ b → owed_by_stream (history past s) ≤ owed_by_stream (history (entry.WriteBegin pass page ∷ past) s)
    go true here =
        rw (history-write_begin pass page past s here, holds_of-began pass page.page (history past s), open_of-began pass page.page (history past s))
        (one_at_most _ (open_of (history past s)))
    go false away = rw (history-write_begin_other pass page past s away) (no_more _)

with_more : (a b c : ℕ) → a ≤ b → a + c ≤ b + c
with_more a b c less = omega (arith, less)

-- so the begin of a transfer gives no place back
reserved-begun_most : (pass : ℕ) (page : Page) (past : List Entry) → reserved_in past ≤ reserved_in (entry.WriteBegin pass page ∷ past)
unfolding reserved_in stores_unfinished
reserved-begun_most pass page past =
    with_more _ _ (stores_unfinished [] past)
    (sum-most (λ s. owed_by_stream (history past s)) (λ s. owed_by_stream (history (entry.WriteBegin pass page ∷ past) s)) all_streams (λ s. owed-begun pass page past s))

-- no entry more
pub within_none : (capacity : ℕ) → IsWithinCapacity capacity []
unfolding IsWithinCapacity
within_none capacity = tt

-- one entry more
within_one : (capacity : ℕ) (e : Entry) (past : List Entry) → FitsIn capacity (e ∷ past) → IsWithinCapacity capacity past → IsWithinCapacity capacity (e ∷ past)
unfolding IsWithinCapacity
within_one capacity e past fits within = (fits, within)

-- An entry with the begin of a transfer behind it: the front between them fits, since the begin gives no place back.
within_begun : (capacity pass : ℕ) (page : Page) (e : Entry) (past : List Entry) → FitsIn capacity (entry.WriteBegin pass page ∷ e ∷ past) → IsWithinCapacity capacity past → IsWithinCapacity capacity (entry.WriteBegin pass page ∷ e ∷ past)
within_begun capacity pass page e past fits within =
    let most = reserved-begun_most pass page (e ∷ past) in
    let front : FitsIn capacity (e ∷ past) = omega (arith, fits, most) in
    within_one capacity (entry.WriteBegin pass page) (e ∷ past) fits (within_one capacity e past front within)

-- what has to follow an entry is the begin of a transfer
is_begin : (pass : ℕ) (stream : Option ℕ) (it : Call) (ended : Outcome) (begin : Entry) → begin_after pass stream it ended ≡ Some begin → (page : Page) × (begin ≡ entry.WriteBegin pass page)
is_begin pass None it ended begin is = absurd (cc)
is_begin pass (Some s) (call.NcStore file page bytes) (outcome.Done reply) begin is =
    let same : begin ≡ entry.WriteBegin pass (record { stream = s; page = page }) = cc in (record { stream = s; page = page }, same)
is_begin pass (Some s) (call.NcStore file page bytes) (outcome.Failed e) begin is = absurd (cc)
is_begin pass (Some s) other ended begin is = absurd (cc)

-- One event more.
pub within_event : (capacity : ℕ) (added past : List Entry) → IsOneEvent added → FitsIn capacity (added ++ past) → IsWithinCapacity capacity past → IsWithinCapacity capacity (added ++ past)
within_event capacity [] past event fits within = within
within_event capacity (e ∷ []) past event fits within = within_one capacity e past fits within
within_event capacity (begin ∷ (entry.Call pass nth stream it ended ∷ [])) past event fits within =
    let is = is_begin pass stream it ended begin event in
    let store : Entry = entry.Call pass nth stream it ended in
    subst (λ (e : Entry). IsWithinCapacity capacity (e ∷ store ∷ past)) (sym is.1)
    (within_begun capacity pass is.0 store past (subst (λ (e : Entry). FitsIn capacity (e ∷ store ∷ past)) is.1 fits) within)
within_event capacity (begin ∷ (other ∷ [])) past event fits within = absurd (cc)
within_event capacity (e ∷ (other ∷ (third ∷ more))) past event fits within = absurd event

-- A past is within a capacity still, where the journal gained one event, its entries and what it has reserved are within
-- it, and it has reserved what its entries owe.
pub journal_within : {Q : Type 0} (j : JournalState Q) (capacity : ℕ) (added past : List Entry) → j.entries ≡ added ++ past → IsOneEvent added → j.capacity ≡ capacity → reserved_in j.entries ≤ j.reserved → length j.entries + j.reserved ≤ j.capacity → IsWithinCapacity capacity past → IsWithinCapacity capacity j.entries
journal_within j capacity added past grew event same owed within was =
    let fits : FitsIn capacity j.entries = omega (arith, same, owed, within) in
    subst (λ (entries : List Entry). IsWithinCapacity capacity entries) (sym grew)
    (within_event capacity added past event (subst (λ (entries : List Entry). FitsIn capacity entries) grew fits) was)
