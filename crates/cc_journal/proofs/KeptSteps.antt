-- How all that the journal keeps beside its entries steps.
use Rattle.std.specs.Prelude.{◌≡◌, ℕ, suc, ◌+◌, ◌-◌, ◌^◌, ◌<◌, ◌≤◌, ◌==◌, ◌&&◌, ◌||◌, nat_lt, Bool, true, false, List, [], ◌∷◌, length, Option, if◌then◌else◌, refl}
use Rattle.std.proofs.Common.{ap, ◌∙◌, arith}
use Rattle.cc_entry.specs.Place.{Page, File}
use Rattle.cc_entry.specs.declared.entry.Entry.{Entry}
use Rattle.cc_entry.specs.declared.entry.Entry.TheVariants as entry
use Rattle.cc_entry.specs.declared.reply.Outcome.TheVariants as outcome
use Rattle.cc_dirty.specs.Table.{Table, Sound}
use Rattle.cc_model.specs.Cache.{holds_made, holds_made_by, makes_hold, dirty_total, dirty_count}
use Rattle.cc_model.specs.History.{history}
use Rattle.cc_model.specs.Settings.{threshold_of}
use Rattle.cc_model.specs.Setup.{Setup}
use Rattle.cc_model.specs.Throttle.{may_go, queue, deferred}
use Rattle.cc_stream.specs.Stream.{Stream}
use Rattle.cc_journal.specs.Calls.{CountsCalls}
use Rattle.cc_journal.specs.declared.calls.PassCalls.{PassCalls}
use Rattle.cc_journal.specs.Kept.{KeptStands, HasMemory}
use Rattle.cc_journal.specs.Places.{HeldPlaces}
use Rattle.cc_journal.specs.Queue.{Waiting, QueueStands}
use Rattle.cc_journal.specs.Scans.{ScansStand}
use Rattle.cc_journal.specs.Streams.{StreamsStand, leaves_streams}
use Rattle.cc_laws.proofs.QueueSteps.{is_defer_or_post, is_defer, is_scan, deferred-other, queue-retried, queue-deferred}
use Rattle.std.proofs.lemmas.List.{length-append}
use Rattle.cc_model.specs.Passes.{is_call_of}
use Rattle.cc_journal.proofs.CallSteps.{counts_other}
use Rattle.cc_journal.proofs.ScanSteps.{scans_stand_other}
use Rattle.cc_journal.proofs.DeferredSteps.{queue_stands_other}
use Rattle.cc_journal.proofs.StreamsSteps.{total_by, stands_left}

-- an empty journal
pub kept_none : {Q : Type 0} (states : List Stream) (places : HeldPlaces) (table : Table) (counts : List (ℕ × PassCalls)) (waiting : Waiting Q) (total : ℕ) (last : Option Page) → StreamsStand [] states places table.rows → CountsCalls [] counts → QueueStands [] waiting.writes waiting.count → ScansStand [] total last → table.rows ≡ [] → 16384 ≤ table.capacity → waiting.writes ≡ [] → KeptStands [] states places table counts 0 waiting total last
unfolding holds_made
kept_none states places table counts waiting total last streams calls queue scans empty capacity none = record {
  streams = streams;
  calls = calls;
  made = refl;
  queue = queue;
  scans = scans;
  few = rw empty (omega arith);
  capacity = capacity;
  short = rw none (omega arith);
}

pub memory_none : (capacity entry_room place_room count_room : ℕ) → capacity ≤ 2 ^ 63 → HasMemory capacity 0 0 entry_room place_room count_room
memory_none capacity entry_room place_room count_room limit = record { within = omega arith; countable = limit; for_entries = omega arith; for_places = omega arith; for_counts = omega arith }

-- an entry was placed on a reserved place
pub memory_placed : (capacity len now_len reserved room now_room places counts : ℕ) → 0 < reserved → now_len ≡ suc len → now_room ≡ room - 1 → HasMemory capacity len reserved room places counts → HasMemory capacity now_len (reserved - 1) now_room places counts
memory_placed capacity len now_len reserved room now_room places counts some longer same memory = record {
  within = omega (arith, memory.within, some, longer);
  countable = memory.countable;
  for_entries = omega (arith, memory.for_entries, same);
  for_places = omega (arith, memory.for_places);
  for_counts = omega (arith, memory.for_counts);
}

-- at most one hold is made by each entry
pub made_by : (e : Entry) → holds_made_by e ≤ 1
made_by (entry.Call pass nth stream call (outcome.Done reply)) = go (makes_hold call)
  where
    go : (b : Bool) → (if b then 1 else 0) ≤ 1
    go true = omega arith
    go false = omega arith
made_by (entry.Call pass nth stream call (outcome.Failed error)) = omega arith
made_by (entry.PageIn pass page from_disk) = omega arith
made_by (entry.PageOut pass page) = omega arith
made_by (entry.FillFailed pass page) = omega arith
made_by (entry.WriteBegin pass page) = omega arith
made_by (entry.WriteEnd pass page how) = omega arith
made_by (entry.Sync pass stream how) = omega arith
made_by (entry.Append pass handle lsn bytes) = omega arith
made_by (entry.Flushed pass handle to) = omega arith
made_by (entry.LogFailed pass handle) = omega arith
made_by (entry.Defer pass id file pages retrying) = omega arith
made_by (entry.Posted id) = omega arith
made_by (entry.Scan pass picked) = omega arith
made_by (entry.Record pass stream size valid how) = omega arith
made_by (entry.RecordFailed pass stream) = omega arith
made_by (entry.Locked pass file span exclusive granted id) = omega arith
made_by (entry.Unlocked pass file id gone) = omega arith
made_by (entry.Tested pass file span write conflict) = omega arith

pub holds_within : (past : List Entry) → holds_made past ≤ length past
unfolding holds_made
holds_within [] = omega arith
holds_within (e ∷ past) = omega (arith, made_by e, holds_within past)

-- whether a write may go, by what is kept
pub may_go_by : (u : Setup) (past : List Entry) (s n own total count threshold : ℕ) → own ≡ threshold_of (history past s) → total ≡ dirty_total past → count ≡ dirty_count (history past s) → u.threshold ≡ threshold → may_go u past s n ≡ (nat_lt (total + n) threshold && (own == 0 || nat_lt (count + n) own))
unfolding may_go
may_go_by u past s n own total count threshold is_own is_total is_count is = rw (is_own, is_total, is_count, is) refl

-- an entry that is no deferral and no post
pub kept_push : {Q : Type 0} (e : Entry) (past : List Entry) (states now_states : List Stream) (places now_places : HeldPlaces) (table now_table : Table) (counts now_counts : List (ℕ × PassCalls)) (holds made : ℕ) (waiting : Waiting Q) (total now_total : ℕ) (last now_last : Option Page) → KeptStands past states places table counts holds waiting total last → is_defer_or_post e ≡ false → dirty_total (e ∷ past) ≤ 16384 → StreamsStand (e ∷ past) now_states now_places now_table.rows → Sound now_table.rows → now_table.capacity ≡ table.capacity → CountsCalls (e ∷ past) now_counts → made ≡ holds_made_by e → ScansStand (e ∷ past) now_total now_last → KeptStands (e ∷ past) now_states now_places now_table now_counts (holds + made) waiting now_total now_last
unfolding holds_made
kept_push e past states now_states places now_places table now_table counts now_counts holds made waiting total now_total last now_last kept kind few streams sound capacity calls is scans = record {
  streams = streams;
  calls = calls;
  made = omega (arith, kept.made, is);
  queue = queue_stands_other waiting.writes waiting.count e past kind kept.queue;
  scans = scans;
  few = omega (arith, few, total_by (e ∷ past) now_states now_places now_table.rows sound streams);
  capacity = omega (arith, capacity, kept.capacity);
  short = kept.short;
}

-- an entry that changes the queue alone
pub kept_queue : {Q : Type 0} (e : Entry) (past : List Entry) (states : List Stream) (places : HeldPlaces) (table : Table) (counts : List (ℕ × PassCalls)) (holds : ℕ) (waiting now_waiting : Waiting Q) (total : ℕ) (last : Option Page) → KeptStands past states places table counts holds waiting total last → leaves_streams e ≡ true → ((me : ℕ) → is_call_of me e ≡ false) → holds_made_by e ≡ 0 → is_scan e ≡ false → QueueStands (e ∷ past) now_waiting.writes now_waiting.count → length now_waiting.writes ≤ 64 → KeptStands (e ∷ past) states places table counts holds now_waiting total last
unfolding holds_made
kept_queue e past states places table counts holds waiting now_waiting total last kept left no_call none no_scan queue short = record {
  streams = stands_left e past states places table.rows left kept.streams;
  calls = counts_other counts e past no_call kept.calls;
  made = omega (arith, kept.made, none);
  queue = queue;
  scans = scans_stand_other total last e past no_scan kept.scans;
  few = kept.few;
  capacity = kept.capacity;
  short = short;
}

-- an entry that changes nothing of it
pub kept_other : {Q : Type 0} (e : Entry) (past : List Entry) (states : List Stream) (places : HeldPlaces) (table : Table) (counts : List (ℕ × PassCalls)) (holds : ℕ) (waiting : Waiting Q) (total : ℕ) (last : Option Page) → KeptStands past states places table counts holds waiting total last → leaves_streams e ≡ true → ((me : ℕ) → is_call_of me e ≡ false) → holds_made_by e ≡ 0 → is_scan e ≡ false → is_defer_or_post e ≡ false → KeptStands (e ∷ past) states places table counts holds waiting total last
kept_other e past states places table counts holds waiting total last kept left no_call none no_scan no_wait =
    kept_queue e past states places table counts holds waiting waiting total last kept left no_call none no_scan (queue_stands_other waiting.writes waiting.count e past no_wait kept.queue) kept.short

-- at most one write is deferred by each entry
pub deferred_within : (past : List Entry) → deferred past ≤ length past
unfolding deferred
deferred_within [] = omega arith
deferred_within (e ∷ past) = go (deferred_within past) (is_defer e) refl
  where
    at : (e : Entry) → deferred past ≤ length past → is_defer e ≡ true → deferred (e ∷ past) ≤ length (e ∷ past)
    at (entry.Defer pass id file pages retrying) within is = omega (arith, within)
    at other within is = absurd (cc)

    go : deferred past ≤ length past → (b : Bool) → is_defer e ≡ b → deferred (e ∷ past) ≤ length (e ∷ past)
    go within true is = at e within is
    go within false is = omega (arith, deferred-other e past is, within)

-- a deferred write makes the queue longer by one
pub queue_more : (pass id : ℕ) (file : File) (pages : ℕ) (retrying : Bool) (past : List Entry) → length (queue (entry.Defer pass id file pages retrying ∷ past)) ≡ suc (length (queue past))
queue_more pass id file pages true past = ap length (queue-retried pass id file pages past)
queue_more pass id file pages false past = ap length (queue-deferred pass id file pages past) ∙ omega (arith, length-append (queue past) (record { id = id; file = file; pages = pages } ∷ []))
