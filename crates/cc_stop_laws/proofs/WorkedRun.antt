-- The worked run is of the form, entry by entry.
use Rattle.std.specs.Prelude.{◌≡◌, ℕ, ◌+◌, ◌*◌, ◌<◌, ◌⊎◌, Bool, true, false, ◌==◌, ◌||◌, List, [], ◌∷◌, ◌++◌, refl, if◌then◌else◌}
use Rattle.std.specs.List.{AllByRecursion, list_any}
use Rattle.std.specs.declared.option.Option.TheVariants.{Some, None}
use Rattle.std.proofs.Common.{ap, sym, subst, ◌∙◌, arith, inl, inr}
use Rattle.std.proofs.lemmas.Bool.{eq-eqb, eqb-true}
use Rattle.cc_entry.specs.declared.call.Call.TheVariants as call
use Rattle.cc_entry.specs.declared.query.Query.TheVariants as query
use Rattle.cc_entry.specs.declared.entry.End.TheVariants as how
use Rattle.cc_entry.specs.declared.entry.Entry.{Entry}
use Rattle.cc_entry.specs.declared.entry.Entry.TheVariants as entry
use Rattle.cc_entry.specs.declared.hold.HoldKind.TheVariants as kind
use Rattle.cc_entry.specs.declared.reply.Outcome.TheVariants as outcome
use Rattle.cc_entry.specs.declared.reply.Reply.{Reply}
use Rattle.cc_entry.specs.declared.reply.Reply.TheVariants as reply
use Rattle.cc_format.specs.LogRecords.{checkpoint_record}
use Rattle.cc_model.specs.History.{history}
use Rattle.cc_model.specs.Holds.{Hold, holds_of}
use Rattle.cc_model.specs.Images.{image, open_of}
use Rattle.cc_model.specs.Numbers.{is_among}
use Rattle.cc_model.specs.Objects.{had_map, objects}
use Rattle.cc_model.specs.Passes.{is_mine}
use Rattle.cc_model.specs.Records.{first_valid}
use Rattle.cc_model.specs.Settings.{allocation_of, is_temporary, log_of, quota_of}
use Rattle.cc_model.specs.Stamps.{dirty_table}
use Rattle.cc_model.specs.Touches.{sizes, touched, touches, valid_of}
use Rattle.cc_model.specs.Residency.{residents}
use Rattle.cc_redo.proofs.Spelled.{said-spelled}
use Rattle.cc_redo.specs.Reading.{said_by}
use Rattle.cc_redo.specs.declared.record.LogRecord.TheVariants.{Checkpoint, Update}
use Rattle.cc_redo.specs.declared.redo.Redo.{Redo}
use Rattle.cc_restart_laws.proofs.Entries.{updated-head}
use Rattle.cc_restart_laws.specs.Stops.{IsGivenAs}
use Rattle.cc_restart_laws.specs.Updates.{HasRecord, HasRecorded, HasSyncedSince, UpdateHasWritten, IsCheckpoint, IsPinned, IsStamp, IsUpdated, IsUpdatedBy, IsUpdatedEntry, MayAppend, MayLogRecord, Updating, WasStamped}
use Rattle.cc_stop_laws.specs.Worked.{a, answers, begun, byte_record, checkpoint, checkpointed, dirty_row, done, first, listed, oldest_rows, page, pinned, recorded, second, sizes as its_sizes, states, stopped, synced, unsynced, updated, wrote}

-- what the run is computed by
unfoldable pub opened : Unit {0}
unfolding history objects had_map holds_of touched sizes touches quota_of is_temporary allocation_of log_of residents dirty_table open_of image first_valid
opened = tt

-- ---- which passes have an update under way

abbrev is_write : Entry → Bool
is_write (entry.Call pass nth (Some stream) (call.PinnedWrite hold at bytes) (outcome.Done reply)) = true
is_write other = false

-- whether the last entry of the pass is such a write
abbrev has_open : ℕ → List Entry → Bool
has_open me [] = false
has_open me (e ∷ past) = if is_mine me e then is_write e else has_open me past

open-at : (me : ℕ) (e : Entry) (front during : List Entry) → is_mine me e ≡ true → is_write e ≡ true → AllByRecursion (λ x. is_mine me x ≡ false) during → has_open me (during ++ e ∷ front) ≡ true
open-at me e front [] own is others = rw own is
open-at me e front (x ∷ during) own is others = rw others.0 (open-at me e front during own is others.1)

written-open : (it : Updating) (past : List Entry) → UpdateHasWritten 0 0 it past → has_open it.pass past ≡ true
written-open it past k =
    let e : Entry = entry.Call it.pass k.nth (Some 0) (call.PinnedWrite it.hold it.at it.bytes) (outcome.Done k.reply) in
    ap (has_open it.pass) k.idle.grew ∙ open-at it.pass e k.front k.idle.during (eq-eqb it.pass it.pass refl) refl k.idle.others

clash : {b : Bool} → b ≡ true → b ≡ false → ⊥
clash one other = cc

-- an entry of a pass that has none under way
finished : (me : ℕ) (e : Entry) (past : List Entry) → ((pass : ℕ) → is_mine pass e ≡ true → pass ≡ me) → has_open me past ≡ false →
    (it : Updating) → UpdateHasWritten 0 0 it past → is_mine it.pass e ≡ true → IsStamp 0 it e
finished me e past own none it k mine = absurd (clash (written-open it past k) (ap (λ (n : ℕ). has_open n past) (own it.pass mine) ∙ none))

quiet : (me : ℕ) (e : Entry) (past : List Entry) → ((pass : ℕ) → is_mine pass e ≡ true → pass ≡ me) → has_open me past ≡ false → IsUpdatedBy 0 0 past e →
    (had_map (history (e ∷ past) 0) ≡ true → is_among 0 (objects (history (e ∷ past) 0)) ≡ true) → IsUpdatedEntry 0 0 past e
quiet me e past own none by stays = record { by = by; finishes = finished me e past own none; stays_open = stays }

of-pass : (me pass : ℕ) → (me == pass) ≡ true → pass ≡ me
of-pass me pass is = sym (eqb-true me pass is)

-- ---- an update

says-byte : (at byte : ℕ) → at < 4294967296 → said_by (byte_record at byte) ≡ Some (Update 0 at (byte ∷ []))
says-byte at byte fits =
    said-spelled (byte_record at byte) (Update 0 at (byte ∷ []))
    (record { stream_fits = omega arith; at_fits = omega (arith, fits); length_fits = omega arith; spelled = refl })

says-checkpoint : said_by (checkpoint_record oldest_rows) ≡ Some (Checkpoint oldest_rows)
says-checkpoint =
    said-spelled (checkpoint_record oldest_rows) (Checkpoint oldest_rows)
    (record { rows_fit = (record { stream_fits = omega arith; page_fits = omega arith; oldest_fits = omega arith }, tt); count_fits = omega arith; spelled = refl })

abbrev update_of : ℕ → ℕ → ℕ → ℕ → Updating
update_of id p byte lsn = record { pass = 1; hold = id; at = 4096 * p; bytes = byte ∷ []; lsn = lsn }

abbrev hold_of : ℕ → ℕ → Hold
hold_of id p = record { id = id; pass = 1; file = a; at = 4096 * p; len = 1; kind = kind.Pin; exclusive = true; owed = [] }

first-pinned : IsPinned 0 1 1 0 1 (pinned 1 1 0 begun)
unfolding opened
first-pinned = record { it = hold_of 1 0; found = refl; mine = refl; kind = refl; alone = refl; from = refl; long = refl }

second-pinned : IsPinned 0 1 2 4096 1 (pinned 9 2 1 checkpointed)
unfolding opened
second-pinned = record { it = hold_of 2 1; found = refl; mine = refl; kind = refl; alone = refl; from = refl; long = refl }

first-may : MayAppend 0 0 1 0 (171 ∷ []) (pinned 1 1 0 begun)
unfolding opened
first-may = record { hold = 1; pinned = first-pinned; within = omega arith; logged = refl }

second-may : MayAppend 0 0 1 4096 (239 ∷ []) (pinned 9 2 1 checkpointed)
unfolding opened
second-may = let valid : valid_of (history (pinned 9 2 1 checkpointed) 0) ≡ 8192 = refl in record { hold = 2; pinned = second-pinned; within = omega (arith, valid); logged = refl }

first-record : HasRecord 0 0 (update_of 1 0 171 1) (recorded 1 1 0 171 1 begun)
first-record = record {
  spelled = byte_record 0 171;
  front = pinned 1 1 0 begun;
  said = says-byte 0 171 (omega arith);
  pinned = first-pinned;
  idle = record { during = []; grew = refl; others = tt };
}

second-record : HasRecord 0 0 (update_of 2 1 239 3) (recorded 9 2 1 239 3 checkpointed)
second-record = record {
  spelled = byte_record 4096 239;
  front = pinned 9 2 1 checkpointed;
  said = says-byte 4096 239 (omega arith);
  pinned = second-pinned;
  idle = record { during = []; grew = refl; others = tt };
}

-- the set-dirty behind a write is that of its update
module _ (nth id p byte lsn : ℕ) (past : List Entry) where
  head-of : (x y : Entry) (xs ys : List Entry) → x ∷ xs ≡ y ∷ ys → x ≡ y
  head-of x y xs ys is = cc

  tail-of : (x y : Entry) (xs ys : List Entry) → x ∷ xs ≡ y ∷ ys → xs ≡ ys
  tail-of x y xs ys is = cc

  same-hold : (n m hold at pass : ℕ) (bytes : List ℕ) (r : Reply) →
      done 1 n (call.PinnedWrite id (4096 * p) (byte ∷ [])) ≡ entry.Call pass m (Some 0) (call.PinnedWrite hold at bytes) (outcome.Done r) → hold ≡ id
  same-hold n m hold at pass bytes r is = cc is

  same-lsn : (pass other : ℕ) (spelled : List ℕ) → entry.Append 1 0 lsn (byte_record (4096 * p) byte) ≡ entry.Append pass 0 other spelled → other ≡ lsn
  same-lsn pass other spelled is = cc is

  stamps : (it : Updating) → UpdateHasWritten 0 0 it (wrote nth id p byte lsn past) → is_mine it.pass (done 1 (nth + 3) (call.SetDirty id (Some lsn))) ≡ true → IsStamp 0 it (done 1 (nth + 3) (call.SetDirty id (Some lsn)))
  stamps it k mine = go k.idle.during k.idle.grew k.idle.others
    where
      pass : it.pass ≡ 1
      pass = of-pass 1 it.pass mine

      write : Entry
      write = entry.Call it.pass k.nth (Some 0) (call.PinnedWrite it.hold it.at it.bytes) (outcome.Done k.reply)

      its-lsn : (during : List Entry) → recorded nth id p byte lsn past ≡ during ++ entry.Append it.pass 0 it.lsn k.recorded.spelled ∷ k.recorded.front → AllByRecursion (λ y. is_mine it.pass y ≡ false) during → it.lsn ≡ lsn
      its-lsn [] is others =
          same-lsn it.pass it.lsn k.recorded.spelled (head-of (entry.Append 1 0 lsn (byte_record (4096 * p) byte)) (entry.Append it.pass 0 it.lsn k.recorded.spelled) (pinned nth id p past) k.recorded.front is)
      its-lsn (x ∷ during) is others =
          absurd (clash (ap (λ (n : ℕ). is_mine n (entry.Append 1 0 lsn (byte_record (4096 * p) byte))) pass) (ap (is_mine it.pass) (head-of (entry.Append 1 0 lsn (byte_record (4096 * p) byte)) x (pinned nth id p past) (during ++ entry.Append it.pass 0 it.lsn k.recorded.spelled ∷ k.recorded.front) is) ∙ others.0))

      go : (during : List Entry) → wrote nth id p byte lsn past ≡ during ++ write ∷ k.front → AllByRecursion (λ y. is_mine it.pass y ≡ false) during → IsStamp 0 it (done 1 (nth + 3) (call.SetDirty id (Some lsn)))
      go [] is others =
          let hold : it.hold ≡ id = same-hold (nth + 2) k.nth it.hold it.at it.pass it.bytes k.reply (head-of (done 1 (nth + 2) (call.PinnedWrite id (4096 * p) (byte ∷ []))) write (recorded nth id p byte lsn past) k.front is) in
          let front : recorded nth id p byte lsn past ≡ k.front = tail-of (done 1 (nth + 2) (call.PinnedWrite id (4096 * p) (byte ∷ []))) write (recorded nth id p byte lsn past) k.front is in
          let number : it.lsn ≡ lsn = its-lsn k.recorded.idle.during (front ∙ k.recorded.idle.grew) k.recorded.idle.others in
          record {
            nth = nth + 3;
            reply = reply.Unit;
            is =
                ap (λ (n : ℕ). entry.Call n (nth + 3) (Some 0) (call.SetDirty id (Some lsn)) (outcome.Done reply.Unit)) (sym pass)
                ∙ (ap (λ (n : ℕ). entry.Call it.pass (nth + 3) (Some 0) (call.SetDirty n (Some lsn)) (outcome.Done reply.Unit)) (sym hold)
                ∙ ap (λ (n : ℕ). entry.Call it.pass (nth + 3) (Some 0) (call.SetDirty it.hold (Some n)) (outcome.Done reply.Unit)) (sym number));
          }
      go (x ∷ during) is others =
          absurd (clash (ap (λ (n : ℕ). is_mine n (done 1 (nth + 2) (call.PinnedWrite id (4096 * p) (byte ∷ [])))) pass) (ap (is_mine it.pass) (head-of (done 1 (nth + 2) (call.PinnedWrite id (4096 * p) (byte ∷ []))) x (recorded nth id p byte lsn past) (during ++ write ∷ k.front) is) ∙ others.0))

-- ---- the checkpoint

-- the LSNs of what was appended
abbrev lsns_in : List Entry → List ℕ
lsns_in [] = []
lsns_in (entry.Append pass handle lsn bytes ∷ past) = lsn ∷ lsns_in past
lsns_in (other ∷ past) = lsns_in past

abbrev IsIn : List ℕ → ℕ → Type 0
IsIn [] n = ⊥
IsIn (x ∷ xs) n = (n ≡ x) ⊎ IsIn xs n

lsn-in : (pass handle lsn : ℕ) (bytes : List ℕ) (front later : List Entry) → IsIn (lsns_in (later ++ entry.Append pass handle lsn bytes ∷ front)) lsn
lsn-in pass handle lsn bytes front [] = inl refl
lsn-in pass handle lsn bytes front (entry.Append p h n b ∷ later) = inr (lsn-in pass handle lsn bytes front later)
lsn-in pass handle lsn bytes front (other ∷ later) = lsn-in pass handle lsn bytes front later

first-stamped : (lsn : ℕ) → HasRecorded 0 0 lsn first → WasStamped 0 0 lsn first
first-stamped lsn k = go (subst (λ (l : List Entry). IsIn (lsns_in l) lsn) (sym k.splits) (lsn-in k.pass 0 lsn k.spelled k.front k.later))
  where
    go : IsIn (1 ∷ []) lsn → WasStamped 0 0 lsn first
    go (inl is) = record {
      it = update_of 1 0 171 1;
      its_lsn = sym is;
      later = done 1 5 (call.EndHold 1) ∷ [];
      front = wrote 1 1 0 171 1 begun;
      stamp = done 1 4 (call.SetDirty 1 (Some 1));
      splits = refl;
      written = record { nth = 3; reply = reply.Unit; front = recorded 1 1 0 171 1 begun; recorded = first-record; idle = record { during = []; grew = refl; others = tt } };
      is = record { nth = 4; reply = reply.Unit; is = refl };
    }
    go (inr none) = absurd none

abbrev table_call : Entry
table_call = entry.Call 1 6 None (call.Query (query.DirtyPages 0)) (outcome.Done (reply.Rows (dirty_row ∷ [])))

its-sync : HasSyncedSince 0 listed synced
unfolding opened
its-sync = record {
  pass = 1;
  later = done 1 8 (call.Flush a (Some (record { from = 0; to = 0 }))) ∷ [];
  since = states 7 ∷ [];
  splits = refl;
  known = λ p below. refl;
}

its-checkpoint : IsCheckpoint 0 0 oldest_rows synced
unfolding opened
its-checkpoint = record {
  pass = 1;
  nth = 6;
  reply = reply.Rows (dirty_row ∷ []);
  later = done 1 8 (call.Flush a (Some (record { from = 0; to = 0 }))) ∷ entry.Sync 1 0 how.Good ∷ states 7 ∷ [];
  listed = first;
  splits = refl;
  told = refl;
  stamped = first-stamped;
  none_since = refl;
  synced = λ had. its-sync;
}

-- ---- each entry

opens-begun : IsUpdated 0 0 begun
unfolding opened IsUpdated
opens-begun = (
  quiet 0 (done 0 2 (call.SetLog a 0)) (done 0 1 (call.Initialise a its_sizes 16 false) ∷ []) (of-pass 0) refl (λ same. record { acts = tt; keeps_log = refl }) (λ had. refl),
  (
    quiet 0 (done 0 1 (call.Initialise a its_sizes 16 false)) [] (of-pass 0) refl (λ same. record { acts = tt; keeps_log = refl }) (λ had. refl),
    tt,
  ),
)

pinned-form : (nth id p : ℕ) (past : List Entry) → has_open 1 past ≡ false → (had_map (history past 0) ≡ true) → (is_among 0 (objects (history past 0)) ≡ true) → IsUpdated 0 0 past → IsUpdated 0 0 (pinned nth id p past)
unfolding opened IsUpdated
pinned-form nth id p past none had stays before = (
  quiet 1 (states (nth + 1)) (answers 1 nth (call.PinRead a (4096 * p) 1 true) (reply.Hold id) ∷ entry.PageIn 1 (page p) true ∷ past) (of-pass 1) refl (λ same. record { acts = tt; keeps_log = refl }) (λ had. stays),
  (
    quiet 1 (answers 1 nth (call.PinRead a (4096 * p) 1 true) (reply.Hold id)) (entry.PageIn 1 (page p) true ∷ past) (of-pass 1) refl (λ same. record { acts = tt; keeps_log = refl }) (λ had. stays),
    (quiet 1 (entry.PageIn 1 (page p) true) past (of-pass 1) none tt (λ had. stays), before),
  ),
)

updated-form : (nth id p byte lsn : ℕ) (past : List Entry) → is_among 0 (objects (history past 0)) ≡ true → MayAppend 0 0 1 (4096 * p) (byte ∷ []) (pinned nth id p past) →
    HasRecord 0 0 (update_of id p byte lsn) (recorded nth id p byte lsn past) → 4096 * p < 4294967296 → IsUpdated 0 0 (pinned nth id p past) → IsUpdated 0 0 (updated nth id p byte lsn past)
unfolding opened IsUpdated
updated-form nth id p byte lsn past stays may has fits before = (
  quiet 1 (done 1 (nth + 4) (call.EndHold id)) (done 1 (nth + 3) (call.SetDirty id (Some lsn)) ∷ wrote nth id p byte lsn past) (of-pass 1) refl (λ same. record { acts = tt; keeps_log = refl }) (λ had. stays),
  (
    record { by = λ same. record { acts = tt; keeps_log = refl }; finishes = stamps nth id p byte lsn past; stays_open = λ had. stays },
    (
      quiet 1 (done 1 (nth + 2) (call.PinnedWrite id (4096 * p) (byte ∷ []))) (recorded nth id p byte lsn past) (of-pass 1) refl
          (λ same. record { acts = record { it = update_of id p byte lsn; mine = refl; is = refl; recorded = has }; keeps_log = refl }) (λ had. stays),
      (
        quiet 1 (entry.Append 1 0 lsn (byte_record (4096 * p) byte)) (pinned nth id p past) (of-pass 1) refl
            (λ same. subst (λ o. MayLogRecord 0 0 1 o (pinned nth id p past)) (sym (says-byte (4096 * p) byte fits)) (λ its. may)) (λ had. stays),
        before,
      ),
    ),
  ),
)

first-form : IsUpdated 0 0 first
unfolding opened
first-form = updated-form 1 1 0 171 1 begun refl first-may first-record (omega arith) (pinned-form 1 1 0 begun refl refl refl opens-begun)

checkpointed-form : IsUpdated 0 0 checkpointed
unfolding opened IsUpdated
checkpointed-form = (
  quiet 1 (entry.Flushed 1 0 2) (checkpoint ∷ synced) (of-pass 1) refl tt (λ had. refl),
  (
    quiet 1 checkpoint synced (of-pass 1) refl (λ same. subst (λ o. MayLogRecord 0 0 1 o synced) (sym says-checkpoint) its-checkpoint) (λ had. refl),
    (
      quiet 1 (done 1 8 (call.Flush a (Some (record { from = 0; to = 0 })))) (entry.Sync 1 0 how.Good ∷ states 7 ∷ listed) (of-pass 1) refl (λ same. record { acts = tt; keeps_log = refl }) (λ had. refl),
      (
        quiet 1 (entry.Sync 1 0 how.Good) (states 7 ∷ listed) (of-pass 1) refl tt (λ had. refl),
        (
          quiet 1 (states 7) listed (of-pass 1) refl (λ same. record { acts = tt; keeps_log = refl }) (λ had. refl),
          (quiet 1 table_call first (of-pass 1) refl tt (λ had. refl), first-form),
        ),
      ),
    ),
  ),
)

pub stopped-form : IsUpdated 0 0 stopped
unfolding opened IsUpdated
stopped-form = (
  quiet 1 (entry.WriteBegin 1 (page 0)) second (of-pass 1) refl tt (λ had. refl),
  updated-form 9 2 1 239 3 checkpointed refl second-may second-record (omega arith) (pinned-form 9 2 1 checkpointed refl refl refl checkpointed-form),
)

pub stopped-given : (redo : Redo) → redo.stream ≡ 0 → redo.size ≡ 8192 → redo.valid ≡ 8192 → IsGivenAs 0 8192 stopped redo
unfolding opened
stopped-given redo stream size valid = record {
  stream = stream;
  size = λ had. size;
  opened = λ had. refl;
  least = omega (arith, valid);
  told = λ p above low high. absurd (omega (arith, valid, above));
}

-- ---- the wrong one

abbrev is_table : Entry → Bool
is_table (entry.Call pass nth None (call.Query (query.DirtyPages handle)) (outcome.Done reply)) = true
is_table other = false

abbrev is_synced : Entry → Bool
is_synced (entry.Sync pass stream how) = true
is_synced other = false

any-at : (test : Entry → Bool) (e : Entry) (front later : List Entry) → test e ≡ true → list_any test (later ++ e ∷ front) ≡ true
any-at test e front [] is = rw is refl
any-at test e front (x ∷ later) is = go (test x) (any-at test e front later is)
  where
    go : (b : Bool) → list_any test (later ++ e ∷ front) ≡ true → (b || list_any test (later ++ e ∷ front)) ≡ true
    go true rest = refl
    go false rest = rest

first-had : had_map (history first 0) ≡ true
unfolding opened
first-had = refl

table-had : (pass nth : ℕ) (r : Reply) (front later : List Entry) → listed ≡ later ++ entry.Call pass nth None (call.Query (query.DirtyPages 0)) (outcome.Done r) ∷ front → had_map (history front 0) ≡ true
table-had pass nth r front [] is = ap (λ (l : List Entry). had_map (history l 0)) (sym (last table_call (entry.Call pass nth None (call.Query (query.DirtyPages 0)) (outcome.Done r)) first front is)) ∙ first-had
  where
    last : (x y : Entry) (xs ys : List Entry) → x ∷ xs ≡ y ∷ ys → xs ≡ ys
    last x y xs ys is = cc
table-had pass nth r front (x ∷ later) is =
    let e : Entry = entry.Call pass nth None (call.Query (query.DirtyPages 0)) (outcome.Done r) in
    absurd (clash (ap (list_any is_table) (last table_call x first (later ++ e ∷ front) is) ∙ any-at is_table e front later refl) refl)
  where
    last : (x y : Entry) (xs ys : List Entry) → x ∷ xs ≡ y ∷ ys → xs ≡ ys
    last x y xs ys is = cc

no-checkpoint : IsCheckpoint 0 0 oldest_rows listed → ⊥
no-checkpoint k =
    let h = k.synced (table-had k.pass k.nth k.reply k.listed k.later k.splits) in
    let e : Entry = entry.Sync h.pass 0 how.Good in
    clash (ap (list_any is_synced) h.splits ∙ any-at is_synced e (h.since ++ entry.Call k.pass k.nth None (call.Query (query.DirtyPages 0)) (outcome.Done k.reply) ∷ k.listed) h.later refl) refl

pub unsynced-wrong : IsUpdated 0 0 unsynced → ⊥
unsynced-wrong form = no-checkpoint (subst (λ o. MayLogRecord 0 0 1 o listed) says-checkpoint ((updated-head 0 0 checkpoint listed form).by refl))
