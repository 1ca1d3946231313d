-- That there is room for the rows of the pages that an entry touches.
use Rattle.std.specs.Prelude.{◌≡◌, ℕ, ◌<◌, ◌≤◌, ◌==◌, not, Bool, true, false, List, ◌∷◌, length, Option, None, Some, if◌then◌else◌, refl}
use Rattle.std.proofs.Common.{ap, sym, ◌∙◌, subst, arith}
use Rattle.std.proofs.lemmas.Bool.{eqb-true, eq-eqb}
use Rattle.cc_entry.specs.Place.{Page, Range}
use Rattle.cc_entry.specs.Pages.{has_page}
use Rattle.cc_entry.specs.declared.call.Call.{Call}
use Rattle.cc_entry.specs.declared.entry.Entry.{Entry}
use Rattle.cc_entry.specs.declared.entry.Entry.TheVariants as entry
use Rattle.cc_entry.specs.declared.reply.Outcome.TheVariants as outcome
use Rattle.cc_entry.specs.declared.reply.Reply.{Reply}
use Rattle.cc_dirty.specs.Table.{Table, Sound}
use Rattle.cc_events.specs.Events.{event_of_act}
use Rattle.cc_events.specs.Holdings.{place_in}
use Rattle.cc_events.specs.Touchings.{touching_of, touch_if, touches_after}
use Rattle.cc_events.proofs.TouchEvents.{touches-event}
use Rattle.cc_model.specs.Acts.{Act, act_of, Opens, Closes, Resizes, Writes, Zeroes, Stores, Stamps, Discards, Looks}
use Rattle.cc_model.specs.History.{Effect, Did, history}
use Rattle.cc_model.specs.Holds.{Hold, holds_of, hold_at}
use Rattle.cc_model.specs.Numbers.{is_empty}
use Rattle.cc_model.specs.Sizes.{hold_has}
use Rattle.cc_model.specs.Touches.{is_dirty, size_of}
use Rattle.cc_laws.proofs.HistorySteps.{history-done, history-done_other}
use Rattle.cc_stream.specs.Stream.{Stream}
use Rattle.cc_journal.specs.Journal.{MayBePushed}
use Rattle.cc_journal.specs.Places.{HeldPlaces}
use Rattle.cc_journal.specs.Rows.{Follows}
use Rattle.cc_journal.specs.Streams.{StreamsStand, touched_range, hold_in_event, no_state, HasRoomForRows, HasRoomForEntry}
use Rattle.cc_journal.proofs.RowCounts.{rows-dirty, room-absent}

-- the range that an act touches, by the stream before it
abbrev reach_in : Act → List Effect → Range
reach_in a h = let what = event_of_act a in touched_range what (size_of h) (place_in (holds_of h) (hold_in_event what))

-- whether an act touches pages: then it takes none away
abbrev is_touching : Act → Bool
is_touching (Writes at bytes) = true
is_touching (Zeroes from to) = true
is_touching (Stores page bytes) = true
is_touching (Stamps hold lsn) = true
is_touching other = false

-- what such an act does to a page
touched_as : (a : Act) (h : List Effect) (p : ℕ) → is_touching a ≡ true → (lsn : Option ℕ) × (touching_of (event_of_act a) h p ≡ touch_if (has_page (reach_in a h) p) lsn)
touched_as (Writes at bytes) h p is = (None, refl)
touched_as (Zeroes from to) h p is = (None, refl)
touched_as (Stores page bytes) h p is = (None, refl)
touched_as (Stamps hold lsn) h p is = (lsn, go (hold_at (holds_of h) hold) refl)
  where
    go : (o : Option Hold) → hold_at (holds_of h) hold ≡ o → touch_if (hold_has (hold_at (holds_of h) hold) p) lsn ≡ touch_if (has_page (reach_in (Stamps hold lsn) h) p) lsn
    go None is = rw is refl
    go (Some it) is = rw is refl
touched_as (Opens file sizes quota temporary) h p is = absurd (cc)
touched_as (Closes file truncate) h p is = absurd (cc)
touched_as (Resizes allocation size) h p is = absurd (cc)
touched_as (Discards span) h p is = absurd (cc)
touched_as Looks h p is = absurd (cc)

-- any other touches no page
reach_none : (a : Act) (h : List Effect) → is_touching a ≡ false → reach_in a h ≡ record { from = 0; to = 0 }
reach_none (Writes at bytes) h is = absurd (cc)
reach_none (Zeroes from to) h is = absurd (cc)
reach_none (Stores page bytes) h is = absurd (cc)
reach_none (Stamps hold lsn) h is = absurd (cc)
reach_none (Opens file sizes quota temporary) h is = refl
reach_none (Closes file truncate) h is = refl
reach_none (Resizes allocation size) h is = refl
reach_none (Discards span) h is = refl
reach_none Looks h is = refl

-- a page after a touch, or with none
dirty_if : (b : Bool) (lsn : Option ℕ) (h : List Effect) (p : ℕ) → not (is_empty (touches_after (touch_if b lsn) false h p)) ≡ (if b then true else is_dirty h p)
dirty_if true lsn h p = refl
dirty_if false lsn h p = refl

dirty_after : (pass : ℕ) (call : Call) (reply : Reply) (h : List Effect) (p : ℕ) → is_touching (act_of call) ≡ true → is_dirty (Did pass call reply ∷ h) p ≡ (if has_page (reach_in (act_of call) h) p then true else is_dirty h p)
dirty_after pass call reply h p is =
    let as_touched = touched_as (act_of call) h p is in
    ap (λ ts. not (is_empty ts)) (touches-event (Some (Did pass call reply)) false h p)
    ∙ (ap (λ w. not (is_empty (touches_after w false h p))) as_touched.1 ∙ dirty_if (has_page (reach_in (act_of call) h) p) as_touched.0 h p)

kept_dirty : (b : Bool) (old : Bool) → old ≡ true → (if b then true else old) ≡ true
kept_dirty true old is = refl
kept_dirty false old is = is

now_dirty : (b : Bool) (old : Bool) → b ≡ true → (if b then true else old) ≡ true
now_dirty true old is = refl
now_dirty false old is = absurd (cc)

-- a page of the stream after such a call, and one of another stream
dirty_here : (pass nth stream : ℕ) (call : Call) (reply : Reply) (past : List Entry) (p : ℕ) → is_touching (act_of call) ≡ true → is_dirty (history (entry.Call pass nth (Some stream) call (outcome.Done reply) ∷ past) stream) p ≡ (if has_page (reach_in (act_of call) (history past stream)) p then true else is_dirty (history past stream) p)
dirty_here pass nth stream call reply past p is =
    ap (λ h. is_dirty h p) (history-done pass nth stream call reply past stream (eq-eqb stream stream refl))
    ∙ dirty_after pass call reply (history past stream) p is

-- a page that was dirty is so after the call
still_dirty : (pass nth stream : ℕ) (call : Call) (reply : Reply) (past : List Entry) (q : Page) → is_touching (act_of call) ≡ true → is_dirty (history past q.stream) q.page ≡ true → is_dirty (history (entry.Call pass nth (Some stream) call (outcome.Done reply) ∷ past) q.stream) q.page ≡ true
still_dirty pass nth stream call reply past q is dirty = go (stream == q.stream) refl
  where
    go : (b : Bool) → (stream == q.stream) ≡ b → is_dirty (history (entry.Call pass nth (Some stream) call (outcome.Done reply) ∷ past) q.stream) q.page ≡ true
    go true here =
        let same : stream ≡ q.stream = eqb-true stream q.stream here in
        subst (λ (s : ℕ). is_dirty (history (entry.Call pass nth (Some stream) call (outcome.Done reply) ∷ past) s) q.page ≡ true) same
        (dirty_here pass nth stream call reply past q.page is
        ∙ kept_dirty (has_page (reach_in (act_of call) (history past stream)) q.page) (is_dirty (history past stream) q.page) (subst (λ (s : ℕ). is_dirty (history past s) q.page ≡ true) (sym same) dirty))
    go false away = ap (λ h. is_dirty h q.page) (history-done_other pass nth stream call reply past q.stream away) ∙ dirty

module _ (pass nth stream : ℕ) (call : Call) (reply : Reply) (past : List Entry) (table : Table) (sound : Sound table.rows) (follows : Follows past table.rows) (few : length table.rows ≤ 16384)
    (capacity : 16384 ≤ table.capacity) (below : stream < 16) (may : MayBePushed past (entry.Call pass nth (Some stream) call (outcome.Done reply))) where
  -- one that touches pages
  room_touching : is_touching (act_of call) ≡ true → HasRoomForRows table stream (reach_in (act_of call) (history past stream))
  room_touching is = record {
    numbered = λ p has. may.numbered stream p (now p has);
    room = omega (
      arith,
      capacity,
      may.few,
      room-absent (entry.Call pass nth (Some stream) call (outcome.Done reply) ∷ past) table.rows stream (reach_in (act_of call) (history past stream)) sound sound.numbered below
          (λ q there. still_dirty pass nth stream call reply past q is (sym (rows-dirty past table.rows q follows sound) ∙ ap not there))
          now,
    );
  }
    where
      now : (p : ℕ) → has_page (reach_in (act_of call) (history past stream)) p ≡ true → is_dirty (history (entry.Call pass nth (Some stream) call (outcome.Done reply) ∷ past) stream) p ≡ true
      now p has = dirty_here pass nth stream call reply past p is ∙ now_dirty (has_page (reach_in (act_of call) (history past stream)) p) (is_dirty (history past stream) p) has

  -- one that touches none
  room_other : is_touching (act_of call) ≡ false → HasRoomForRows table stream (reach_in (act_of call) (history past stream))
  room_other is = rw (reach_none (act_of call) (history past stream) is) (record { numbered = λ p has. absurd (cc); room = omega (arith, few, capacity) })

  room_reached : HasRoomForRows table stream (reach_in (act_of call) (history past stream))
  room_reached = go (is_touching (act_of call)) refl
    where
      go : (b : Bool) → is_touching (act_of call) ≡ b → HasRoomForRows table stream (reach_in (act_of call) (history past stream))
      go true is = room_touching is
      go false is = room_other is

-- an entry that may be pushed has room
pub room_for : (e : Entry) (past : List Entry) (states : List Stream) (places : HeldPlaces) (table : Table) → Sound table.rows → StreamsStand past states places table.rows → length table.rows ≤ 16384 → 16384 ≤ table.capacity → MayBePushed past e → HasRoomForEntry states places table e
room_for (entry.Call pass nth (Some stream) call (outcome.Done reply)) past states places table sound stands few capacity may =
    let what = event_of_act (act_of call) in
    λ below. rw ((stands.each stream no_state below).size, stands.held stream (hold_in_event what))
    (room_reached pass nth stream call reply past table sound stands.unwritten few capacity below may)
room_for (entry.Call pass nth (Some stream) call (outcome.Failed error)) past states places table sound stands few capacity may = tt
room_for (entry.Call pass nth None call ended) past states places table sound stands few capacity may = tt
room_for (entry.PageIn pass page from_disk) past states places table sound stands few capacity may = tt
room_for (entry.PageOut pass page) past states places table sound stands few capacity may = tt
room_for (entry.FillFailed pass page) past states places table sound stands few capacity may = tt
room_for (entry.WriteBegin pass page) past states places table sound stands few capacity may = tt
room_for (entry.WriteEnd pass page how) past states places table sound stands few capacity may = tt
room_for (entry.Sync pass stream how) past states places table sound stands few capacity may = tt
room_for (entry.Append pass handle lsn bytes) past states places table sound stands few capacity may = tt
room_for (entry.Flushed pass handle to) past states places table sound stands few capacity may = tt
room_for (entry.LogFailed pass handle) past states places table sound stands few capacity may = tt
room_for (entry.Defer pass id file pages retrying) past states places table sound stands few capacity may = tt
room_for (entry.Posted id) past states places table sound stands few capacity may = tt
room_for (entry.Scan pass picked) past states places table sound stands few capacity may = tt
room_for (entry.Record pass stream size valid how) past states places table sound stands few capacity may = tt
room_for (entry.RecordFailed pass stream) past states places table sound stands few capacity may = tt
room_for (entry.Locked pass file span exclusive granted id) past states places table sound stands few capacity may = tt
room_for (entry.Unlocked pass file id gone) past states places table sound stands few capacity may = tt
room_for (entry.Tested pass file span write conflict) past states places table sound stands few capacity may = tt
