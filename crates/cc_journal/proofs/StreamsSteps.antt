-- How what is kept of the streams steps, by the kind of entry.
use Rattle.std.specs.Prelude.{◌≡◌, ℕ, suc, ◌<◌, ◌≤◌, ◌⊎◌, ◌==◌, ◌||◌, not, nat_lt, Bool, true, false, List, [], ◌∷◌, length, count_by, All, map, slice_index_or, slice_set, Option, None, Some, if◌then◌else◌, refl}
use Rattle.std.specs.List.{cons_option, filter}
use Rattle.std.proofs.lemmas.List.Elements.{All-head, All-tail}
use Rattle.std.specs.Option.{option_map, option_and_then}
use Rattle.std.proofs.Common.{ap, sym, ◌∙◌, subst, inl, inr}
use Rattle.std.proofs.lemmas.Bool.{eqb-true, eq-eqb, cases_lt}
use Rattle.std.proofs.lemmas.Grind.{get_or-set_at}
use Rattle.std.proofs.lemmas.List.{get_or-replicate, get_or_past, length-map}
use Rattle.std.proofs.lemmas.List.Sums.{length-filter}
use Rattle.std.specs.Prelude.{replicate}
use Rattle.std.proofs.lemmas.List.{get_or-set_other}
use Rattle.cc_entry.specs.Place.{Page}
use Rattle.cc_entry.specs.declared.call.Call.{Call}
use Rattle.cc_entry.specs.declared.entry.End.{End}
use Rattle.cc_entry.specs.declared.entry.Entry.{Entry}
use Rattle.cc_entry.specs.declared.entry.Entry.TheVariants as entry
use Rattle.cc_entry.specs.declared.reply.Outcome.TheVariants as outcome
use Rattle.cc_entry.specs.declared.reply.Reply.{Reply}
use Rattle.cc_dirty.specs.declared.row.Row.{Row}
use Rattle.cc_dirty.specs.Unwritten.{begun_row, ended_row, kept_row}
use Rattle.cc_dirty.specs.Table.{row_of, KeepsOtherRows, Sound, is_row_of_stream}
use Rattle.cc_events.specs.declared.holding.Holding.TheVariants as holding
use Rattle.cc_events.specs.declared.touching.Touching.{Touching}
use Rattle.cc_events.specs.declared.touching.Touching.TheVariants as touching
use Rattle.cc_events.specs.Events.{event_of, event_of_act, event_on}
use Rattle.cc_events.specs.Holdings.{holding_of, holding_of_call}
use Rattle.cc_events.specs.Touchings.{touching_of}
use Rattle.cc_model.specs.Acts.{Act, act_of, Opens, Closes, Resizes, Writes, Zeroes, Stores, Stamps, Discards, Looks}
use Rattle.cc_model.specs.History.{Effect, Did, CameIn, WentOut, Began, Ended, Synced, effect_of, history}
use Rattle.cc_model.specs.Holds.{id_of}
use Rattle.cc_model.specs.Images.{open_of}
use Rattle.cc_model.specs.Numbers.{is_empty}
use Rattle.cc_model.specs.Objects.{had_map, objects}
use Rattle.cc_model.specs.Sizes.{ended_ok}
use Rattle.cc_model.specs.Touches.{touches, is_mapped}
use Rattle.cc_stream.specs.Stream.{Stream, StreamStands, is_done}
use Rattle.cc_stream.proofs.StreamSteps.{stands-other}
use Rattle.cc_journal.specs.Alone.{IsOfStream}
use Rattle.cc_journal.specs.Places.{HeldPlaces, ChangesHoldPlaces, PlacesHolds}
use Rattle.cc_journal.specs.Rows.{Follows, ChangesRows, row_after}
use Rattle.cc_journal.specs.Streams.{StreamsStand, no_state, KeepsTransfersIn, leaves_streams, is_of_call, is_written_behind, MarksWritten}
use Rattle.cc_journal.specs.Scans.{is_marked}
use Rattle.cc_model.specs.Cache.{lazy_pages, dirty_total, dirty_count}
use Rattle.cc_journal.proofs.PlaceSteps.{places_step, places_other}
use Rattle.cc_journal.proofs.RowCounts.{is_mapped-rows, lazy_pages-rows, dirty_total-rows, dirty_count-rows}
use Rattle.cc_journal.proofs.RowFollow.{keeps_rows, follows_call, follows_began, follows_ended, follows_other}

-- an effect that is no done call
abbrev is_no_call : Option Effect → Bool
is_no_call None = true
is_no_call (Some e) = not (is_done e)

state_kept : (o : Option Effect) (h : List Effect) (s : Stream) → is_no_call o ≡ true → StreamStands h s → StreamStands (cons_option o h) s
state_kept None h s other stands = stands
state_kept (Some (Did pass call reply)) h s other stands = absurd (cc)
state_kept (Some (CameIn pass page from_disk)) h s other stands = stands-other (CameIn pass page from_disk) h s refl stands
state_kept (Some (WentOut pass page)) h s other stands = stands-other (WentOut pass page) h s refl stands
state_kept (Some (Began pass page)) h s other stands = stands-other (Began pass page) h s refl stands
state_kept (Some (Ended pass page how)) h s other stands = stands-other (Ended pass page how) h s refl stands
state_kept (Some (Synced pass how)) h s other stands = stands-other (Synced pass how) h s refl stands

holding_kept : (o : Option Effect) → is_no_call o ≡ true → holding_of o ≡ holding.Rests
holding_kept None other = refl
holding_kept (Some (Did pass call reply)) other = absurd (cc)
holding_kept (Some (CameIn pass page from_disk)) other = refl
holding_kept (Some (WentOut pass page)) other = refl
holding_kept (Some (Began pass page)) other = refl
holding_kept (Some (Ended pass page how)) other = refl
holding_kept (Some (Synced pass how)) other = refl

-- an entry that is no done call, with the rows that follow it
by_rows : (e : Entry) (past : List Entry) (states : List Stream) (places : HeldPlaces) (old new : List Row) → ((s : ℕ) → is_no_call (effect_of e s) ≡ true) → Follows (e ∷ past) new → StreamsStand past states places old → StreamsStand (e ∷ past) states places new
unfolding history
by_rows e past states places old new other follows stands = record {
  each = λ s d within. state_kept (effect_of e s) (history past s) (slice_index_or states s d) (other s) (stands.each s d within);
  held = places_other places e past (λ s. holding_kept (effect_of e s) (other s)) stands.held;
  unwritten = follows;
}

choose : (b : Bool) (o : Option Effect) → is_no_call o ≡ true → keeps_rows (event_of o) ≡ true → (is_no_call (if b then o else None) ≡ true) × (keeps_rows (event_of (if b then o else None)) ≡ true)
choose true o call rows = (call, rows)
choose false o call rows = (refl, refl)

left_effect : (e : Entry) (s : ℕ) → leaves_streams e ≡ true → (is_no_call (effect_of e s) ≡ true) × (keeps_rows (event_on e s) ≡ true)
left_effect (entry.Call pass nth (Some stream) call (outcome.Done reply)) s left = absurd (cc)
left_effect (entry.Call pass nth (Some stream) call (outcome.Failed error)) s left = (refl, refl)
left_effect (entry.Call pass nth None call ended) s left = (refl, refl)
left_effect (entry.PageIn pass page from_disk) s left = choose (page.stream == s) (Some (CameIn pass page.page from_disk)) refl refl
left_effect (entry.PageOut pass page) s left = choose (page.stream == s) (Some (WentOut pass page.page)) refl refl
left_effect (entry.FillFailed pass page) s left = (refl, refl)
left_effect (entry.WriteBegin pass page) s left = absurd (cc)
left_effect (entry.WriteEnd pass page how) s left = absurd (cc)
left_effect (entry.Sync pass stream how) s left = choose (stream == s) (Some (Synced pass how)) refl refl
left_effect (entry.Append pass handle lsn bytes) s left = (refl, refl)
left_effect (entry.Flushed pass handle to) s left = (refl, refl)
left_effect (entry.LogFailed pass handle) s left = (refl, refl)
left_effect (entry.Defer pass id file pages retrying) s left = (refl, refl)
left_effect (entry.Posted id) s left = (refl, refl)
left_effect (entry.Scan pass picked) s left = (refl, refl)
left_effect (entry.Record pass stream size valid how) s left = (refl, refl)
left_effect (entry.RecordFailed pass stream) s left = (refl, refl)
left_effect (entry.Locked pass file span exclusive granted id) s left = (refl, refl)
left_effect (entry.Unlocked pass file id gone) s left = (refl, refl)
left_effect (entry.Tested pass file span write conflict) s left = (refl, refl)

pub stands_left : (e : Entry) (past : List Entry) (states : List Stream) (places : HeldPlaces) (rows : List Row) → leaves_streams e ≡ true → StreamsStand past states places rows → StreamsStand (e ∷ past) states places rows
stands_left e past states places rows left stands =
    by_rows e past states places rows rows (λ s. (left_effect e s left).0) (follows_other e past rows (λ s. (left_effect e s left).1) stands.unwritten) stands

-- the begin of a transfer
began_no_call : (b : Bool) (pass page : ℕ) → is_no_call (if b then Some (Began pass page) else None) ≡ true
began_no_call true pass page = refl
began_no_call false pass page = refl

pub stands_began : (pass : ℕ) (page : Page) (past : List Entry) (states : List Stream) (places : HeldPlaces) (old new : List Row) → KeepsTransfersIn past (entry.WriteBegin pass page) → row_of new page ≡ option_map begun_row (row_of old page) → KeepsOtherRows old new page → StreamsStand past states places old → StreamsStand (entry.WriteBegin pass page ∷ past) states places new
stands_began pass page past states places old new keeps begun others stands =
    by_rows (entry.WriteBegin pass page) past states places old new (λ s. began_no_call (page.stream == s) pass page.page)
    (follows_began pass page past old new (rw (eq-eqb page.stream page.stream refl) at (keeps page.stream)) begun others stands.unwritten)
    stands

-- the end of a transfer
ended_no_call : (b : Bool) (pass page : ℕ) (how : End) → is_no_call (if b then Some (Ended pass page how) else None) ≡ true
ended_no_call true pass page how = refl
ended_no_call false pass page how = refl

pub stands_ended : (pass : ℕ) (page : Page) (how : End) (past : List Entry) (states : List Stream) (places : HeldPlaces) (old new : List Row) → KeepsTransfersIn past (entry.WriteEnd pass page how) → row_of new page ≡ option_and_then (λ r. kept_row (ended_row (ended_ok how) r)) (row_of old page) → KeepsOtherRows old new page → StreamsStand past states places old → StreamsStand (entry.WriteEnd pass page how ∷ past) states places new
stands_ended pass page how past states places old new keeps ended others stands =
    by_rows (entry.WriteEnd pass page how) past states places old new (λ s. ended_no_call (page.stream == s) pass page.page how)
    (follows_ended pass page how past old new (rw (eq-eqb page.stream page.stream refl) at (keeps page.stream)) ended others stands.unwritten)
    stands

apart : (b : Bool) → b ≡ true → b ≡ false → ⊥
apart b yes_it no_it = absurd (cc)

-- each of the 16 streams has its state among those that stand
pub within_states : (past : List Entry) (states : List Stream) (places : HeldPlaces) (rows : List Row) (s : ℕ) → s < 16 → StreamsStand past states places rows → s < length states
within_states past states places rows s below stands = go (cases_lt s (length states))
  where
    -- past the last one, whatever stands for one past the last would have to stand for its history
    has : (b : Bool) → length states ≤ s → b ≡ had_map (history past s)
    has b beyond =
        let d : Stream = record no_state { had_map = b } in
        sym (ap (λ (state : Stream). state.had_map) (get_or_past states s d beyond)) ∙ (stands.each s d below).had_map

    go : (s < length states) ⊎ (length states ≤ s) → s < length states
    go (inl within) = within
    go (inr beyond) = absurd (apart (had_map (history past s)) (sym (has true beyond)) (sym (has false beyond)))

-- a done call
pub stands_call : (pass nth stream : ℕ) (call : Call) (reply : Reply) (past : List Entry) (states : List Stream) (state : Stream) (places held : HeldPlaces) (old new : List Row) → stream < length states → StreamStands (Did pass call reply ∷ history past stream) state → ChangesHoldPlaces places held stream (holding_of_call call (id_of reply)) → ChangesRows (suc (length past)) stream (λ p. touching_of (event_of_act (act_of call)) (history past stream) p) old new → StreamsStand past states places old → StreamsStand (entry.Call pass nth (Some stream) call (outcome.Done reply) ∷ past) (slice_set states stream state) held new
unfolding history
stands_call pass nth stream call reply past states state places held old new within now holds changes stands = record {
  each = λ s d below. each s d below (stream == s) refl;
  held = places_step places held stream (holding_of_call call (id_of reply)) (entry.Call pass nth (Some stream) call (outcome.Done reply)) past alone (rw (eq-eqb stream stream refl) refl) holds stands.held;
  unwritten = follows_call pass nth stream call reply past old new changes stands.unwritten;
}
  where
    alone : IsOfStream (entry.Call pass nth (Some stream) call (outcome.Done reply)) stream
    alone s other = rw other refl

    each : (s : ℕ) (d : Stream) → s < 16 → (b : Bool) → (stream == s) ≡ b → StreamStands (history (entry.Call pass nth (Some stream) call (outcome.Done reply) ∷ past) s) (slice_index_or (slice_set states stream state) s d)
    each s d below true here =
        let same : stream ≡ s = eqb-true stream s here in
        rw (here, get_or-set_at states stream s state d (sym same) within) (rw same at now)
    each s d below false away = rw (away, get_or-set_other states stream s state d (λ e. apart (stream == s) (eq-eqb stream s (sym e)) away)) (stands.each s d below)

-- nothing happened yet
pub stands_none : (states : List Stream) (places : HeldPlaces) (rows : List Row) → ((s : ℕ) (d : Stream) → s < 16 → StreamStands [] (slice_index_or states s d)) → PlacesHolds [] places → rows ≡ [] → StreamsStand [] states places rows
unfolding history touches open_of
stands_none states places rows none held empty = record {
  each = none;
  held = held;
  unwritten = λ q. rw empty (record { unwritten = refl; under_way = λ way. absurd (cc); at_rest = λ closed. refl });
}

-- whether a stream has a map, by its objects and its rows
pub mapped_by : (past : List Entry) (states : List Stream) (places : HeldPlaces) (rows : List Row) (s : ℕ) (objects_open : Bool) → Sound rows → StreamsStand past states places rows → objects_open ≡ not (is_empty (objects (history past s))) → is_mapped (history past s) ≡ (objects_open || nat_lt 0 (count_by (is_row_of_stream s) rows))
mapped_by past states places rows s objects_open sound stands is = is_mapped-rows past rows stands.unwritten sound s ∙ ap (λ b. b || nat_lt 0 (count_by (is_row_of_stream s) rows)) (sym is)

-- a stream with an open object has a map
pub opened_by : (h : List Effect) → not (is_empty (objects h)) ≡ true → is_mapped h ≡ true
opened_by h some = rw some refl

-- each of 16 states that are one
pub each_of : (s : Stream) → StreamStands [] s → (n : ℕ) (d : Stream) → n < 16 → StreamStands [] (slice_index_or (replicate 16 s) n d)
each_of s stands n d below = subst (λ (x : Stream). StreamStands [] x) (sym (get_or-replicate 16 n s d below)) stands

-- the same happened to each page, said otherwise
pub changed_as : (place s : ℕ) (what other : ℕ → Touching) (old new : List Row) → ((p : ℕ) → what p ≡ other p) → ChangesRows place s what old new → ChangesRows place s other old new
changed_as place s what other old new same changes q = changes q ∙ ap (λ w. if q.stream == s then row_after place w q (row_of old q) else row_of old q) (same q.page)

-- nothing happened to any
pub changed_none : (place s : ℕ) (what : ℕ → Touching) (rows : List Row) → ((p : ℕ) → what p ≡ touching.Rests) → ChangesRows place s what rows rows
changed_none place s what rows none q = go (q.stream == s) (none q.page)
  where
    go : (b : Bool) → what q.page ≡ touching.Rests → row_of rows q ≡ (if b then row_after place (what q.page) q (row_of rows q) else row_of rows q)
    go true is = rw is refl
    go false is = refl

-- what a done call does is no begin and no end of a transfer
pub of_act : (a : Act) → is_of_call (event_of_act a) ≡ true
of_act (Opens file sizes quota temporary) = refl
of_act (Closes file truncate) = refl
of_act (Resizes allocation size) = refl
of_act (Writes at bytes) = refl
of_act (Zeroes from to) = refl
of_act (Stores page bytes) = refl
of_act (Stamps hold lsn) = refl
of_act (Discards span) = refl
of_act Looks = refl

-- the rows whose stream is marked are those that the lazy writer looks at
marked_rows : (past : List Entry) (marks : List Bool) (rows : List Row) → MarksWritten past marks → All (λ r. r.page.stream < 16) rows → filter (is_marked marks) rows ≡ filter (λ r. is_written_behind (history past r.page.stream)) rows
marked_rows past marks [] marked below = refl
marked_rows past marks (r ∷ rows) marked below = go (is_marked marks r) (marked_rows past marks rows marked (All-tail (λ x. x.page.stream < 16) r rows below)) refl (marked r.page.stream (All-head (λ x. x.page.stream < 16) r rows below))
  where
    go : (b : Bool) → filter (is_marked marks) rows ≡ filter (λ x. is_written_behind (history past x.page.stream)) rows → is_marked marks r ≡ b → is_marked marks r ≡ is_written_behind (history past r.page.stream) → filter (is_marked marks) (r ∷ rows) ≡ filter (λ x. is_written_behind (history past x.page.stream)) (r ∷ rows)
    go true rest is same = rw (is, sym same ∙ is, rest) refl
    go false rest is same = rw (is, sym same ∙ is, rest) refl

pub lazy_by : (past : List Entry) (states : List Stream) (places : HeldPlaces) (rows : List Row) (marks : List Bool) → MarksWritten past marks → Sound rows → StreamsStand past states places rows → map (λ r. r.page) (filter (is_marked marks) rows) ≡ lazy_pages past
lazy_by past states places rows marks marked sound stands =
    ap (map (λ (r : Row). r.page)) (marked_rows past marks rows marked sound.numbered) ∙ sym (lazy_pages-rows past rows stands.unwritten sound sound.numbered)

pub total_by : (past : List Entry) (states : List Stream) (places : HeldPlaces) (rows : List Row) → Sound rows → StreamsStand past states places rows → length rows ≡ dirty_total past
total_by past states places rows sound stands = dirty_total-rows past rows stands.unwritten sound sound.numbered

pub count_of : (past : List Entry) (states : List Stream) (places : HeldPlaces) (rows : List Row) (s : ℕ) → Sound rows → StreamsStand past states places rows → count_by (is_row_of_stream s) rows ≡ dirty_count (history past s)
count_of past states places rows s sound stands = dirty_count-rows past rows s stands.unwritten sound

pub lazy_count_by : (past : List Entry) (states : List Stream) (places : HeldPlaces) (rows : List Row) (marks : List Bool) → MarksWritten past marks → Sound rows → StreamsStand past states places rows → count_by (is_marked marks) rows ≡ length (lazy_pages past)
lazy_count_by past states places rows marks marked sound stands =
    sym (length-filter (is_marked marks) rows)
    ∙ (sym (length-map (filter (is_marked marks) rows) (λ r. r.page)) ∙ ap length (lazy_by past states places rows marks marked sound stands))
