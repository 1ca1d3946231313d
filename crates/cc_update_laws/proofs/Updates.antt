-- What an update leaves keeps the form: its record, its write and its set-dirty stand one behind the other.
use Rattle.std.specs.Prelude.{◌≡◌, ℕ, ◌+◌, ◌≤◌, true, false, List, [], ◌∷◌, ◌++◌, length, Result, Ok, Err, refl, ◌⊎◌}
use Rattle.std.specs.declared.option.Option.{Option}
use Rattle.std.specs.declared.option.Option.TheVariants.{Some, None}
use Rattle.std.proofs.Common.{ap, sym, subst, ◌∙◌, inl, inr, append_assoc, arith}
use Rattle.std.proofs.lemmas.Bool.{eq-eqb, eqb-true}
use Rattle.cc_entry.specs.Place.{File}
use Rattle.cc_entry.specs.declared.call.Call.{Call}
use Rattle.cc_entry.specs.declared.call.Call.TheVariants as call
use Rattle.cc_entry.specs.declared.query.Query.TheVariants as query
use Rattle.cc_entry.specs.declared.entry.Entry.{Entry}
use Rattle.cc_entry.specs.declared.entry.Entry.TheVariants as entry
use Rattle.cc_entry.specs.declared.error.CcError.{CcError}
use Rattle.cc_entry.specs.declared.hold.HoldKind.TheVariants as kind
use Rattle.cc_entry.specs.declared.place.FileState.{FileState}
use Rattle.cc_entry.specs.declared.reply.Outcome.TheVariants as outcome
use Rattle.cc_entry.specs.declared.reply.Reply.{Reply}
use Rattle.cc_entry.specs.declared.reply.Reply.TheVariants as reply
use Rattle.cc_entry.specs.declared.query.Value.TheVariants as value
use Rattle.cc_model.specs.Good.{IsGoodSoFar}
use Rattle.cc_model.specs.History.{history}
use Rattle.cc_model.specs.Holds.{Hold}
use Rattle.cc_model.specs.Passes.{is_mine}
use Rattle.cc_model.specs.Settings.{log_of}
use Rattle.cc_model.specs.Setup.{Setup}
use Rattle.cc_model.specs.Touches.{valid_of}
use Rattle.cc_effects.specs.Calls.{CallLeft, IsDone}
use Rattle.cc_effects.specs.Moments.{Others, IsIdle}
use Rattle.cc_effects.proofs.Stretches.{idle-then}
use Rattle.cc_own.specs.Own.{HasHold, hold_of_range}
use Rattle.cc_own.proofs.CallsKeep.{call-keeps, good-tail, pin_read-leaves, pinned_write-done, placed-here}
use Rattle.cc_own.proofs.OwnHolds.{others-keep}
use Rattle.cc_own.proofs.Unchanged.{unchanged-keeps}
use Rattle.cc_own.proofs.VerbsKeep.{append-unchanged}
use Rattle.cc_pieces.specs.Shim.{CallsLeft, IsForWant, LoggedLeft, PinnedUpdateLeft, RecordedLeft, ToldUpdateLeft, UpdateLeft, update_record_of_file}
use Rattle.cc_redo.specs.Reading.{said_by}
use Rattle.cc_redo.specs.declared.record.LogRecord.{LogRecord}
use Rattle.cc_redo.specs.declared.record.LogRecord.TheVariants.{Update}
use Rattle.cc_restart_laws.proofs.Contents.{valid-more}
use Rattle.cc_restart_laws.proofs.Entries.{updated-rest}
use Rattle.cc_restart_laws.proofs.Records.{log-one, log-stays}
use Rattle.cc_restart_laws.specs.Updates.{HasRecord, UpdateHasWritten, IsPinned, IsStamp, IsUpdated, MayAppend, MayLogRecord, Updating, WasStamped}
use Rattle.cc_update_laws.proofs.Growing.{IsGrown, call-grown, good-grown, grown-then, idle-grown, only-grown, refused-grown}
use Rattle.cc_update_laws.proofs.Keeping.{KeepsAll, all-failed, all-idle, all-looks, all-only, all-then, by-done, is_write, keeps-entry, keeps-idle, keeps-then, open-entry, open-idle, opens-stamp, opens-write, stays-on, stays-open}
use Rattle.cc_update_laws.proofs.LastOwn.{last-same}
use Rattle.cc_update_laws.proofs.LogCalls.{append-refused}
use Rattle.cc_update_laws.proofs.Owed.{stamp-sure}
use Rattle.cc_update_laws.proofs.Recorded.{RecordsNone, none-call, none-idle, none-refused, none-then, stamped-behind, stamped-later, stamped-over}
use Rattle.cc_update_laws.proofs.Replies.{told-state}
use Rattle.cc_update_laws.proofs.Silent.{stamp-others, write-others}
use Rattle.cc_update_laws.specs.Keeping.{AreStamped, HasNoneOpen, PassKeepsForm, OthersRecordNone}

some-is : {A : Type 0} (a b : A) → Some a ≡ Some b → a ≡ b
some-is a b is = cc

-- What a pass was told of the stream of an update since a moment: its log, and a valid data length behind the place.
record IsTold (file : File) (at handle : ℕ) (begun past : List Entry) : Type 0 where
  later : List Entry
  since : List Entry
  grew : past ≡ later ++ (since ++ begun)
  log : log_of (history (since ++ begun) file.stream) ≡ Some handle
  valid : at ≤ valid_of (history (since ++ begun) file.stream)

module _ (u : Setup) (s log me : ℕ) (file : File) (at : ℕ) (bytes : List ℕ) (says : said_by (update_record_of_file file at bytes) ≡ Some (Update file.stream at bytes)) (begun : List Entry) where
  abbrev spelled : List ℕ
  spelled = update_record_of_file file at bytes

  abbrev pinned_hold : ℕ → Hold
  pinned_hold id = hold_of_range id me file at (length bytes) kind.Pin true []

  -- the log that was told is the stream's
  same-log : (handle : ℕ) (past : List Entry) → IsTold file at handle begun past → file.stream ≡ s → IsUpdated s log past → handle ≡ log
  same-log handle past told same updated =
      let front : List Entry = told.since ++ begun in
      let there : IsUpdated s log front = updated-rest s log told.later front (subst (λ (l : List Entry). IsUpdated s log l) told.grew updated) in
      let told_is : log_of (history front s) ≡ Some handle = subst (λ (n : ℕ). log_of (history front n) ≡ Some handle) same told.log in
      log-one s log front there handle told_is

  told-later : (handle : ℕ) (more past : List Entry) → IsTold file at handle begun past → IsTold file at handle begun (more ++ past)
  told-later handle more past told = record {
    later = more ++ told.later;
    since = told.since;
    grew = ap (λ (l : List Entry). more ++ l) told.grew ∙ sym (append_assoc more told.later (told.since ++ begun));
    log = told.log;
    valid = told.valid;
  }

  pinned-here : (id : ℕ) (past : List Entry) → HasHold me file.stream id (pinned_hold id) past → file.stream ≡ s → IsPinned s me id at (length bytes) past
  pinned-here id past has same =
      let here : HasHold me s id (pinned_hold id) past = subst (λ (n : ℕ). HasHold me n id (pinned_hold id) past) same has in
      record { it = pinned_hold id; found = here.found; mine = refl; kind = refl; alone = refl; from = refl; long = refl }

  may-append-here : (id handle : ℕ) (past : List Entry) → IsGoodSoFar u past → HasHold me file.stream id (pinned_hold id) past → IsTold file at handle begun past → IsUpdated s log past → file.stream ≡ s → MayAppend s log me at bytes past
  may-append-here id handle past good has told updated same =
      let front : List Entry = told.since ++ begun in
      let good_all : IsGoodSoFar u (told.later ++ front) = subst (λ (l : List Entry). IsGoodSoFar u l) told.grew good in
      let updated_all : IsUpdated s log (told.later ++ front) = subst (λ (l : List Entry). IsUpdated s log l) told.grew updated in
      let there : IsUpdated s log front = updated-rest s log told.later front updated_all in
      let told_is : log_of (history front s) ≡ Some handle = subst (λ (n : ℕ). log_of (history front n) ≡ Some handle) same told.log in
      let its : log_of (history front s) ≡ Some log = told_is ∙ ap (λ (h : ℕ). Some h) (log-one s log front there handle told_is) in
      let logged : log_of (history (told.later ++ front) s) ≡ Some log = log-stays s log told.later front updated_all its in
      let valid : at ≤ valid_of (history front s) = subst (λ (n : ℕ). at ≤ valid_of (history front n)) same told.valid in
      let more = valid-more u s log told.later front good_all updated_all in
      let least : at ≤ valid_of (history (told.later ++ front) s) = omega (arith, valid, more) in
      record {
        hold = id;
        pinned = pinned-here id past has same;
        within = subst (λ (l : List Entry). at ≤ valid_of (history l s)) (sym told.grew) least;
        logged = subst (λ (l : List Entry). log_of (history l s) ≡ Some log) (sym told.grew) logged;
      }

  may-log-here : (id handle : ℕ) (past : List Entry) → IsGoodSoFar u past → HasHold me file.stream id (pinned_hold id) past → IsTold file at handle begun past → IsUpdated s log past → MayLogRecord s log me (said_by spelled) past
  may-log-here id handle past good has told updated =
      subst (λ (o : Option LogRecord). MayLogRecord s log me o past) (sym says) (λ same. may-append-here id handle past good has told updated same)

  -- ---- the write and the set-dirty behind the record

  module _ (id handle lsn : ℕ) where
    abbrev its_update : Updating
    its_update = record { pass = me; hold = id; at = at; bytes = bytes; lsn = lsn }

    abbrev appended_entry : Entry
    appended_entry = entry.Append me handle lsn spelled

    -- the record stands there, and its pass placed nothing since
    record IsLogged (past : List Entry) : Type 0 where
      front : List Entry
      good : IsGoodSoFar u front
      told : IsTold file at handle begun front
      has : HasHold me file.stream id (pinned_hold id) front
      idle : IsIdle me (appended_entry ∷ front) past

    has-record : (past : List Entry) → IsLogged past → IsUpdated s log past → file.stream ≡ s → HasRecord s log its_update past
    has-record past k updated same =
        let all : IsUpdated s log (k.idle.during ++ appended_entry ∷ k.front) = subst (λ (l : List Entry). IsUpdated s log l) k.idle.grew updated in
        let there : IsUpdated s log k.front = updated-rest s log (appended_entry ∷ []) k.front (updated-rest s log k.idle.during (appended_entry ∷ k.front) all) in
        let its : handle ≡ log = same-log handle k.front k.told same there in
        record {
          spelled = spelled;
          front = k.front;
          said = says ∙ ap (λ (n : ℕ). Some (Update n at bytes)) same;
          pinned = pinned-here id k.front k.has same;
          idle = subst (λ (n : ℕ). IsIdle me (entry.Append me n lsn spelled ∷ k.front) past) its k.idle;
        }

    logged-idle : (old new : List Entry) → IsLogged old → IsIdle me old new → IsLogged new
    logged-idle old new k idle = record { front = k.front; good = k.good; told = k.told; has = k.has; idle = idle-then me (appended_entry ∷ k.front) old new k.idle idle }

    abbrev writing : Call
    writing = call.PinnedWrite id at bytes

    abbrev stamping : Call
    stamping = call.SetDirty id (Some lsn)

    -- the write
    written-form : (nth : ℕ) (stream : Option ℕ) (r : Reply) (front : List Entry) → stream ≡ Some file.stream → IsLogged front → HasNoneOpen s log me front → PassKeepsForm s log me front (entry.Call me nth stream writing (outcome.Done r) ∷ front)
    written-form nth stream r front filed k none =
        keeps-entry s log me (entry.Call me nth stream writing (outcome.Done r)) front (eq-eqb me me refl) (opens-write s me nth stream id at bytes r) none
        (λ updated. by-done s log me nth stream writing r front
        (λ t is same.
        let here : file.stream ≡ s = some-is file.stream t (sym filed ∙ is) ∙ same in
        record { acts = record { it = its_update; mine = refl; is = refl; recorded = has-record front k updated here }; keeps_log = refl }))

    -- the set-dirty behind it
    record IsWritten (past : List Entry) : Type 0 where
      nth : ℕ
      stream : Option ℕ
      r : Reply
      front : List Entry
      filed : stream ≡ Some file.stream
      logged : IsLogged front
      idle : IsIdle me (entry.Call me nth stream writing (outcome.Done r) ∷ front) past

    same-write : (p nth t hold place : ℕ) (xs : List ℕ) (stream : Option ℕ) (r q : Reply) → entry.Call me nth stream writing (outcome.Done r) ≡ entry.Call p t (Some s) (call.PinnedWrite hold place xs) (outcome.Done q) → (stream ≡ Some s) × (hold ≡ id)
    same-write p nth t hold place xs stream r q is = (cc is, cc is)

    same-lsn : (p h n : ℕ) (xs : List ℕ) → appended_entry ≡ entry.Append p h n xs → n ≡ lsn
    same-lsn p h n xs is = cc is

    is-stamp : (nth : ℕ) (stream : Option ℕ) (r : Reply) (past : List Entry) → stream ≡ Some file.stream → IsWritten past → (other : Updating) → other.pass ≡ me → UpdateHasWritten s log other past → IsStamp s other (entry.Call me nth stream stamping (outcome.Done r))
    is-stamp nth stream r past filed w other mine k =
        let wrote : Entry = entry.Call me w.nth w.stream writing (outcome.Done w.r) in
        let its : Entry = entry.Call other.pass k.nth (Some s) (call.PinnedWrite other.hold other.at other.bytes) (outcome.Done k.reply) in
        let own_its : is_mine me its ≡ true = eq-eqb other.pass me mine in
        let same = last-same me wrote its w.front k.front w.idle.during k.idle.during (eq-eqb me me refl) own_its (sym w.idle.grew ∙ k.idle.grew) w.idle.others (subst (λ (n : ℕ). Others n k.idle.during) mine k.idle.others) in
        let parts = same-write other.pass w.nth k.nth other.hold other.at other.bytes w.stream w.r k.reply same.entries in
        let here : file.stream ≡ s = some-is file.stream s (sym w.filed ∙ parts.0) in
        let rec = k.recorded in
        let appended_its : Entry = entry.Append other.pass log other.lsn rec.spelled in
        let grown : w.logged.idle.during ++ appended_entry ∷ w.logged.front ≡ rec.idle.during ++ appended_its ∷ rec.front = sym w.logged.idle.grew ∙ (same.fronts ∙ rec.idle.grew) in
        let own_append : is_mine me appended_its ≡ true = eq-eqb other.pass me mine in
        let same_append = last-same me appended_entry appended_its w.logged.front rec.front w.logged.idle.during rec.idle.during (eq-eqb me me refl) own_append grown w.logged.idle.others (subst (λ (n : ℕ). Others n rec.idle.during) mine rec.idle.others) in
        let its_lsn : other.lsn ≡ lsn = same-lsn other.pass log other.lsn rec.spelled same_append.entries in
        record {
          nth = nth;
          reply = r;
          is =
              ap (λ (o : Option ℕ). entry.Call me nth o stamping (outcome.Done r)) (filed ∙ ap Some here)
              ∙ (ap (λ (n : ℕ). entry.Call n nth (Some s) stamping (outcome.Done r)) (sym mine)
              ∙ (ap (λ (n : ℕ). entry.Call other.pass nth (Some s) (call.SetDirty n (Some lsn)) (outcome.Done r)) (sym parts.1)
              ∙ ap (λ (n : ℕ). entry.Call other.pass nth (Some s) (call.SetDirty other.hold (Some n)) (outcome.Done r)) (sym its_lsn)));
        }

    stamped-form : (nth : ℕ) (stream : Option ℕ) (r : Reply) (front : List Entry) → stream ≡ Some file.stream → IsWritten front → PassKeepsForm s log me front (entry.Call me nth stream stamping (outcome.Done r) ∷ front)
    stamped-form nth stream r front filed w = record {
      during = entry.Call me nth stream stamping (outcome.Done r) ∷ [];
      grew = refl;
      each = (
        λ is updated. record {
          by = by-done s log me nth stream stamping r front (λ t filed_at same. record { acts = tt; keeps_log = refl });
          finishes = λ other k mine. is-stamp nth stream r front filed w other (sym (eqb-true me other.pass mine)) k;
          stays_open = stays-on s (entry.Call me nth stream stamping (outcome.Done r)) front (opens-stamp s me nth stream id (Some lsn) r) (stays-open s log front updated);
        },
        tt,
      );
    }

    -- behind both calls the write stands before the set-dirty
    record AreDone (c_nth : ℕ) (c_stream : Option ℕ) (front old : List Entry) : Type 0 where
      w : IsWritten front
      begun_idle : IsIdle me old w.front
      filed : c_stream ≡ Some file.stream

    are-done : (r q : Reply) (old between new : List Entry) → IsGoodSoFar u new → HasHold me file.stream id (pinned_hold id) old → IsLogged old → CallLeft u me writing (outcome.Done r) old between →
        (then : IsDone me stamping q between new) → AreDone then.placed.nth then.placed.stream (then.earlier ++ between) old
    are-done r q old between new good has k left then =
        let p = left.placed in
        let c = then.placed in
        let wrote : Entry = entry.Call me p.nth p.stream writing (outcome.Done r) in
        let stamped : Entry = entry.Call me c.nth c.stream stamping (outcome.Done q) in
        let good_stamped : IsGoodSoFar u (stamped ∷ (then.earlier ++ between)) = good-tail u c.later (stamped ∷ (then.earlier ++ between)) (subst (λ (l : List Entry). IsGoodSoFar u l) c.grew good) in
        let good_between : IsGoodSoFar u between = good-tail u (stamped ∷ then.earlier) between good_stamped in
        let has_between = pinned_write-done u me file.stream id (pinned_hold id) at bytes r old between left good_between has in
        let front : List Entry = left.earlier ++ old in
        let idle_front : IsIdle me old front = record { during = left.earlier; grew = refl; others = write-others me id at bytes left.earlier old p.works } in
        let idle_between : IsIdle me (wrote ∷ front) between = record { during = p.later; grew = p.grew; others = p.quiet } in
        let idle_stamp : IsIdle me between (then.earlier ++ between) = record { during = then.earlier; grew = refl; others = stamp-others me id (Some lsn) then.earlier between c.works } in
        record {
          w = record {
            nth = p.nth;
            stream = p.stream;
            r = r;
            front = front;
            filed = placed-here u me file.stream id (pinned_hold id) writing (outcome.Done r) left.earlier old between p good_between (eq-eqb id id refl) has;
            logged = logged-idle old front k idle_front;
            idle = idle-then me (wrote ∷ front) between (then.earlier ++ between) idle_between idle_stamp;
          };
          begun_idle = idle_front;
          filed = placed-here u me file.stream id (record (pinned_hold id) { owed = record { from = at; to = at + length bytes } ∷ [] }) stamping (outcome.Done q) then.earlier between new c good (eq-eqb id id refl) has_between;
        }

    both-done : (r q : Reply) (old between new : List Entry) → IsGoodSoFar u new → HasHold me file.stream id (pinned_hold id) old → IsLogged old → HasNoneOpen s log me old →
        CallLeft u me writing (outcome.Done r) old between → IsDone me stamping q between new → KeepsAll s log me old new
    both-done r q old between new good has k none left then =
        let c = then.placed in
        let done = are-done r q old between new good has k left then in
        let w = done.w in
        let front : List Entry = then.earlier ++ between in
        let wrote : Entry = entry.Call me w.nth w.stream writing (outcome.Done w.r) in
        let stamped : Entry = entry.Call me c.nth c.stream stamping (outcome.Done q) in
        let idle_new : IsIdle me (stamped ∷ front) new = record { during = c.later; grew = c.grew; others = c.quiet } in
        let second : PassKeepsForm s log me w.front (wrote ∷ w.front) = written-form w.nth w.stream w.r w.front w.filed w.logged (open-idle s log me old w.front none done.begun_idle) in
        let fourth : PassKeepsForm s log me front (stamped ∷ front) = stamped-form c.nth c.stream q front done.filed w in (
          keeps-then s log me old (wrote ∷ w.front) new (keeps-then s log me old w.front (wrote ∷ w.front) (keeps-idle s log me old w.front done.begun_idle) second)
              (keeps-then s log me (wrote ∷ w.front) front new (keeps-idle s log me (wrote ∷ w.front) front w.idle)
              (keeps-then s log me front (stamped ∷ front) new fourth (keeps-idle s log me (stamped ∷ front) new idle_new))),
          open-idle s log me (stamped ∷ front) new (open-entry s log me stamped front (eq-eqb me me refl) (not-write c.nth c.stream q)) idle_new,
        )
      where
        not-write : (nth : ℕ) (stream : Option ℕ) (r : Reply) → is_write s (entry.Call me nth stream stamping (outcome.Done r)) ≡ false
        not-write nth None r = refl
        not-write nth (Some t) r = refl

    -- so the update was set dirty
    was-stamped : (r q : Reply) (old between new : List Entry) → IsGoodSoFar u new → HasHold me file.stream id (pinned_hold id) old → IsLogged old → CallLeft u me writing (outcome.Done r) old between → IsDone me stamping q between new →
        IsUpdated s log new → file.stream ≡ s → WasStamped s log lsn new
    was-stamped r q old between new good has k left then updated same =
        let c = then.placed in
        let done = are-done r q old between new good has k left then in
        let w = done.w in
        let front : List Entry = then.earlier ++ between in
        let wrote : Entry = entry.Call me w.nth w.stream writing (outcome.Done w.r) in
        let stamped : Entry = entry.Call me c.nth c.stream stamping (outcome.Done q) in
        let updated_front : IsUpdated s log front = updated-rest s log (stamped ∷ []) front (updated-rest s log c.later (stamped ∷ front) (subst (λ (l : List Entry). IsUpdated s log l) c.grew updated)) in
        let updated_write : IsUpdated s log (wrote ∷ w.front) = updated-rest s log w.idle.during (wrote ∷ w.front) (subst (λ (l : List Entry). IsUpdated s log l) w.idle.grew updated_front) in
        record {
          it = its_update;
          its_lsn = refl;
          later = c.later;
          front = front;
          stamp = stamped;
          splits = c.grew;
          written = record {
            nth = w.nth;
            reply = w.r;
            front = w.front;
            recorded = has-record w.front w.logged (updated-rest s log (wrote ∷ []) w.front updated_write) same;
            idle = subst (λ (o : Option ℕ). IsIdle me (entry.Call me w.nth o writing (outcome.Done w.r) ∷ w.front) front) (w.filed ∙ ap Some same) w.idle;
          };
          is = record { nth = c.nth; reply = q; is = ap (λ (o : Option ℕ). entry.Call me c.nth o stamping (outcome.Done q)) (done.filed ∙ ap Some same) };
        }

  -- ---- the update

  recorded-grown : (id lsn : ℕ) (answered : Result ℕ CcError) (old new : List Entry) → RecordedLeft u me id at bytes lsn answered old new → IsGrown old new
  recorded-grown id lsn (Ok told) old new left =
      let calls = left.1 in
      grown-then old calls.0 new (call-grown u me (call.PinnedWrite id at bytes) (outcome.Done reply.Unit) old calls.0 calls.1)
      (grown-then calls.0 calls.2.0 new (call-grown u me (call.SetDirty id (Some lsn)) (outcome.Done reply.Unit) calls.0 calls.2.0 calls.2.1) (idle-grown me calls.2.0 new calls.2.2))
  recorded-grown id lsn (Err e) old new left = go left.1
    where
      go : CallsLeft u me (call.PinnedWrite id at bytes ∷ call.SetDirty id (Some lsn) ∷ []) (Err e) old new → IsGrown old new
      go (inl failed) = call-grown u me (call.PinnedWrite id at bytes) (outcome.Failed e) old new failed
      go (inr (between, wrote, inl failed)) =
          grown-then old between new (call-grown u me (call.PinnedWrite id at bytes) (outcome.Done reply.Unit) old between wrote) (call-grown u me (call.SetDirty id (Some lsn)) (outcome.Failed e) between new failed)
      go (inr (between, wrote, inr (there, stamped, none))) = absurd none

  logged-grown : (id handle : ℕ) (answered : Result ℕ CcError) (old new : List Entry) → LoggedLeft u me file id at bytes handle answered old new → IsGrown old new
  logged-grown id handle answered old new (inl (e, is, refused)) = refused-grown u me handle e old new refused
  logged-grown id handle answered old new (inr (between, lsn, appended, recorded)) =
      grown-then old between new (only-grown me (entry.Append me handle lsn (update_record_of_file file at bytes)) old between appended.1) (recorded-grown id lsn answered between new recorded)

  told-grown : (id : ℕ) (o : Option ℕ) (valid : ℕ) (answered : Result ℕ CcError) (old new : List Entry) → ToldUpdateLeft u me file id at bytes o valid answered old new → IsGrown old new
  told-grown id None valid answered old new left = idle-grown me old new left.1
  told-grown id (Some handle) valid answered old new (inl left) = idle-grown me old new left.2
  told-grown id (Some handle) valid answered old new (inr left) = logged-grown id handle answered old new left.1

  pinned-grown : (id : ℕ) (answered : Result ℕ CcError) (old new : List Entry) → PinnedUpdateLeft u me file id at bytes answered old new → IsGrown old new
  pinned-grown id answered old new (inl (e, is, failed)) = call-grown u me (call.Query (query.State file)) (outcome.Failed e) old new failed
  pinned-grown id answered old new (inr (between, state, told, rest)) =
      grown-then old between new (call-grown u me (call.Query (query.State file)) (outcome.Done (reply.Value (value.State state))) old between told) (told-grown id state.log state.sizes.valid answered between new rest)

  all-recorded : (id handle lsn : ℕ) (answered : Result ℕ CcError) (old new : List Entry) → IsGoodSoFar u new → HasHold me file.stream id (pinned_hold id) old → IsLogged id handle lsn old → HasNoneOpen s log me old →
      RecordedLeft u me id at bytes lsn answered old new → KeepsAll s log me old new
  all-recorded id handle lsn (Ok told) old new good has k none left =
      let calls = left.1 in
      let stamped = calls.2 in
      all-then s log me old stamped.0 new
      (both-done id handle lsn reply.Unit reply.Unit old calls.0 stamped.0 (good-grown u stamped.0 new (idle-grown me stamped.0 new stamped.2) good) has k none calls.1 stamped.1)
      (λ now. all-idle s log me stamped.0 new now stamped.2)
  all-recorded id handle lsn (Err e) old new good has k none left = go left.1
    where
      go : CallsLeft u me (call.PinnedWrite id at bytes ∷ call.SetDirty id (Some lsn) ∷ []) (Err e) old new → KeepsAll s log me old new
      go (inl failed) = all-failed u s log me (call.PinnedWrite id at bytes) e old new failed none
      go (inr (between, wrote, inl failed)) =
          let good_between = good-grown u between new (call-grown u me (call.SetDirty id (Some lsn)) (outcome.Failed e) between new failed) good in
          absurd (stamp-sure u me file.stream id (Some lsn) e _ between new good (pinned_write-done u me file.stream id (pinned_hold id) at bytes reply.Unit old between wrote good_between has) refl failed)
      go (inr (between, wrote, inr (there, stamped, none_left))) = absurd none_left

  all-logged : (id handle : ℕ) (answered : Result ℕ CcError) (old new : List Entry) → IsGoodSoFar u new → HasHold me file.stream id (pinned_hold id) old → IsTold file at handle begun old → HasNoneOpen s log me old →
      LoggedLeft u me file id at bytes handle answered old new → KeepsAll s log me old new
  all-logged id handle answered old new good has told none (inl (e, is, refused)) = append-refused u s log me handle e old new none refused
  all-logged id handle answered old new good has told none (inr (between, lsn, appended, recorded)) =
      let only = appended.1 in
      let e : Entry = entry.Append me handle lsn (update_record_of_file file at bytes) in
      let front : List Entry = only.earlier ++ old in
      let good_between : IsGoodSoFar u between = good-grown u between new (recorded-grown id lsn answered between new recorded) good in
      let good_front : IsGoodSoFar u front = good-tail u (e ∷ []) front (good-tail u only.later (e ∷ front) (subst (λ (l : List Entry). IsGoodSoFar u l) only.grew good_between)) in
      let has_front : HasHold me file.stream id (pinned_hold id) front = others-keep u me file.stream id (pinned_hold id) only.earlier old good_front only.quiet_before has in
      let told_front : IsTold file at handle begun front = told-later handle only.earlier old told in
      let has_between : HasHold me file.stream id (pinned_hold id) between =
      unchanged-keeps u me file.stream id (pinned_hold id) old between (append-unchanged u me id handle (update_record_of_file file at bytes) (Ok lsn) old between appended) good_between has in
      all-then s log me old between new
      (all-only s log me e old between only refl (λ h. (refl, refl)) (λ updated same. may-log-here id handle front good_front has_front told_front updated) none)
      (λ now. all-recorded id handle lsn answered between new good has_between
      (record { front = front; good = good_front; told = told_front; has = has_front; idle = record { during = only.later; grew = only.grew; others = only.quiet_after } }) now recorded)

  all-told : (id : ℕ) (o : Option ℕ) (valid : ℕ) (answered : Result ℕ CcError) (later since old new : List Entry) → old ≡ later ++ (since ++ begun) → log_of (history (since ++ begun) file.stream) ≡ o → valid ≡ valid_of (history (since ++ begun) file.stream) →
      IsGoodSoFar u new → HasHold me file.stream id (pinned_hold id) old → HasNoneOpen s log me old → ToldUpdateLeft u me file id at bytes o valid answered old new → KeepsAll s log me old new
  all-told id None valid answered later since old new grew its reached good has none left = all-idle s log me old new none left.1
  all-told id (Some handle) valid answered later since old new grew its reached good has none (inl left) = all-idle s log me old new none left.2
  all-told id (Some handle) valid answered later since old new grew its reached good has none (inr left) =
      let within = left.0 in
      all-logged id handle answered old new good has (record { later = later; since = since; grew = grew; log = its; valid = omega (arith, within, reached) }) none left.1

  -- what the state of the stream tells
  record IsKnown (o : Option ℕ) (valid : ℕ) (past : List Entry) : Type 0 where
    later : List Entry
    since : List Entry
    grew : past ≡ later ++ (since ++ begun)
    its : log_of (history (since ++ begun) file.stream) ≡ o
    reached : valid ≡ valid_of (history (since ++ begun) file.stream)

  state-known : (old new : List Entry) (state : FileState) → IsGrown begun old → IsGoodSoFar u new → IsDone me (call.Query (query.State file)) (reply.Value (value.State state)) old new → IsKnown state.log state.sizes.valid new
  state-known old new state grown good told =
      let p = told.placed in
      let is = told-state u me file state old new told good in
      let front : List Entry = told.earlier ++ old in
      let e : Entry = entry.Call me p.nth p.stream (call.Query (query.State file)) (outcome.Done (reply.Value (value.State state))) in
      let same : (told.earlier ++ grown.0) ++ begun ≡ front = append_assoc told.earlier grown.0 begun ∙ ap (λ (l : List Entry). told.earlier ++ l) (sym grown.1) in
      record {
        later = p.later ++ e ∷ [];
        since = told.earlier ++ grown.0;
        grew = p.grew ∙ (ap (λ (l : List Entry). p.later ++ e ∷ l) (sym same) ∙ sym (append_assoc p.later (e ∷ []) ((told.earlier ++ grown.0) ++ begun)));
        its = ap (λ (l : List Entry). log_of (history l file.stream)) same ∙ sym (ap (λ (x : FileState). x.log) is);
        reached = ap (λ (x : FileState). x.sizes.valid) is ∙ sym (ap (λ (l : List Entry). valid_of (history l file.stream)) same);
      }

  all-pinned : (id : ℕ) (answered : Result ℕ CcError) (old new : List Entry) → IsGrown begun old → IsGoodSoFar u new → HasHold me file.stream id (pinned_hold id) old → HasNoneOpen s log me old →
      PinnedUpdateLeft u me file id at bytes answered old new → KeepsAll s log me old new
  all-pinned id answered old new grown good has none (inl (e, is, failed)) = all-looks u s log me (call.Query (query.State file)) (outcome.Failed e) old new refl refl failed none
  all-pinned id answered old new grown good has none (inr (between, state, told, rest)) =
      let good_between : IsGoodSoFar u between = good-grown u between new (told-grown id state.log state.sizes.valid answered between new rest) good in
      let k = state-known old between state grown good_between told in
      let has_between = call-keeps u me file.stream id (pinned_hold id) (call.Query (query.State file)) (outcome.Done (reply.Value (value.State state))) old between told good_between refl has in
      all-then s log me old between new
      (all-looks u s log me (call.Query (query.State file)) (outcome.Done (reply.Value (value.State state))) old between refl refl told none)
      (λ now. all-told id state.log state.sizes.valid answered k.later k.since between new k.grew k.its k.reached good has_between now rest)

  pub all-update : (answered : Result ℕ CcError) (new : List Entry) → IsGoodSoFar u new → HasNoneOpen s log me begun → UpdateLeft u me file at bytes answered begun new → KeepsAll s log me begun new
  all-update answered new good none (inl (e, is, failed)) = all-looks u s log me (call.PinRead file at (length bytes) true) (outcome.Failed e) begun new refl refl failed none
  all-update answered new good none (inr (id, made, done, pin, pinned, ended)) =
      let good_done : IsGoodSoFar u done = good-grown u done new (call-grown u me (call.EndHold id) (outcome.Done reply.Unit) done new ended) good in
      let good_made : IsGoodSoFar u made = good-grown u made done (pinned-grown id answered made done pinned) good_done in
      let has_made = pin_read-leaves u me id file at (length bytes) true begun made pin good_made in
      all-then s log me begun done new
      (all-then s log me begun made done
      (all-looks u s log me (call.PinRead file at (length bytes) true) (outcome.Done (reply.Hold id)) begun made refl refl pin none)
      (λ now. all-pinned id answered made done (call-grown u me (call.PinRead file at (length bytes) true) (outcome.Done (reply.Hold id)) begun made pin) good_done has_made now pinned))
      (λ now. all-looks u s log me (call.EndHold id) (outcome.Done reply.Unit) done new refl refl ended now)

  -- ---- which updates are set dirty behind it

  -- it recorded no update, or one that was set dirty
  pub record HasUpdate (old new : List Entry) : Type 0 where
    pub handle : ℕ
    pub lsn : ℕ
    pub front : List Entry
    pub first : RecordsNone s log me old front
    pub then : RecordsNone s log me (entry.Append me handle lsn (update_record_of_file file at bytes) ∷ front) new
    pub stamped : handle ≡ log → file.stream ≡ s → IsUpdated s log new → WasStamped s log lsn new

  abbrev LeavesStamped : List Entry → List Entry → Type 0
  LeavesStamped old new = RecordsNone s log me old new ⊎ HasUpdate old new

  leaves-before : (older old new : List Entry) → RecordsNone s log me older old → LeavesStamped old new → LeavesStamped older new
  leaves-before older old new none (inl more) = inl (none-then s log me older old new none more)
  leaves-before older old new none (inr k) =
      inr (record { handle = k.handle; lsn = k.lsn; front = k.front; first = none-then s log me older old k.front none k.first; then = k.then; stamped = k.stamped })

  leaves-after : (old new newer : List Entry) → LeavesStamped old new → RecordsNone s log me new newer → LeavesStamped old newer
  leaves-after old new newer (inl none) more = inl (none-then s log me old new newer none more)
  leaves-after old new newer (inr k) more =
      inr
      (record {
        handle = k.handle;
        lsn = k.lsn;
        front = k.front;
        first = k.first;
        then = none-then s log me (entry.Append me k.handle k.lsn (update_record_of_file file at bytes) ∷ k.front) new newer k.then more;
        stamped = λ same here updated.
            subst (λ (l : List Entry). WasStamped s log k.lsn l) (sym more.grew)
            (stamped-later s log k.lsn new more.during (k.stamped same here (updated-rest s log more.during new (subst (λ (l : List Entry). IsUpdated s log l) more.grew updated))));
      })

  -- nothing was wanting
  abbrev WantsNothing : Result ℕ CcError → Type 0
  WantsNothing answered = (e : CcError) → answered ≡ Err e → IsForWant e → ⊥

  leaves-logged : (id handle : ℕ) (answered : Result ℕ CcError) (old new : List Entry) → IsGoodSoFar u new → HasHold me file.stream id (pinned_hold id) old → IsTold file at handle begun old → WantsNothing answered →
      LoggedLeft u me file id at bytes handle answered old new → LeavesStamped old new
  leaves-logged id handle answered old new good has told wants (inl (e, is, refused)) = inl (none-refused u s log me handle e old new refused)
  leaves-logged id handle (Err e) old new good has told wants (inr (between, lsn, appended, recorded)) = absurd (wants e refl recorded.0)
  leaves-logged id handle (Ok answer) old new good has told wants (inr (between, lsn, appended, recorded)) =
      let only = appended.1 in
      let calls = recorded.1 in
      let last = calls.2 in
      let e : Entry = entry.Append me handle lsn (update_record_of_file file at bytes) in
      let front : List Entry = only.earlier ++ old in
      let good_last : IsGoodSoFar u last.0 = good-grown u last.0 new (idle-grown me last.0 new last.2) good in
      let good_between : IsGoodSoFar u between = good-grown u between new (recorded-grown id lsn (Ok answer) between new recorded) good in
      let good_front : IsGoodSoFar u front = good-tail u (e ∷ []) front (good-tail u only.later (e ∷ front) (subst (λ (l : List Entry). IsGoodSoFar u l) only.grew good_between)) in
      let has_front : HasHold me file.stream id (pinned_hold id) front = others-keep u me file.stream id (pinned_hold id) only.earlier old good_front only.quiet_before has in
      let has_between : HasHold me file.stream id (pinned_hold id) between =
      unchanged-keeps u me file.stream id (pinned_hold id) old between (append-unchanged u me id handle (update_record_of_file file at bytes) (Ok lsn) old between appended) good_between has in
      let idle_after : IsIdle me (e ∷ front) between = record { during = only.later; grew = only.grew; others = only.quiet_after } in
      let k : IsLogged id handle lsn between = record { front = front; good = good_front; told = told-later handle only.earlier old told; has = has_front; idle = idle_after } in
      inr
      (record {
        handle = handle;
        lsn = lsn;
        front = front;
        first = none-idle s log me old front (record { during = only.earlier; grew = refl; others = only.quiet_before });
        then =
            none-then s log me (e ∷ front) between new (none-idle s log me (e ∷ front) between idle_after)
            (none-then s log me between calls.0 new (none-call u s log me (call.PinnedWrite id at bytes) (outcome.Done reply.Unit) between calls.0 calls.1)
            (none-then s log me calls.0 last.0 new (none-call u s log me (call.SetDirty id (Some lsn)) (outcome.Done reply.Unit) calls.0 last.0 last.1) (none-idle s log me last.0 new last.2)));
        stamped = λ same here updated.
            let updated_last : IsUpdated s log last.0 = updated-rest s log last.2.during last.0 (subst (λ (l : List Entry). IsUpdated s log l) last.2.grew updated) in
            subst (λ (l : List Entry). WasStamped s log lsn l) (sym last.2.grew)
            (stamped-later s log lsn last.0 last.2.during
            (was-stamped id handle lsn reply.Unit reply.Unit between calls.0 last.0 good_last has_between k calls.1 last.1 updated_last here));
      })

  leaves-told : (id : ℕ) (o : Option ℕ) (valid : ℕ) (answered : Result ℕ CcError) (later since old new : List Entry) → old ≡ later ++ (since ++ begun) → log_of (history (since ++ begun) file.stream) ≡ o → valid ≡ valid_of (history (since ++ begun) file.stream) →
      IsGoodSoFar u new → HasHold me file.stream id (pinned_hold id) old → WantsNothing answered → ToldUpdateLeft u me file id at bytes o valid answered old new → LeavesStamped old new
  leaves-told id None valid answered later since old new grew its reached good has wants left = inl (none-idle s log me old new left.1)
  leaves-told id (Some handle) valid answered later since old new grew its reached good has wants (inl left) = inl (none-idle s log me old new left.2)
  leaves-told id (Some handle) valid answered later since old new grew its reached good has wants (inr left) =
      let within = left.0 in
      leaves-logged id handle answered old new good has (record { later = later; since = since; grew = grew; log = its; valid = omega (arith, within, reached) }) wants left.1

  leaves-pinned : (id : ℕ) (answered : Result ℕ CcError) (old new : List Entry) → IsGrown begun old → IsGoodSoFar u new → HasHold me file.stream id (pinned_hold id) old → WantsNothing answered →
      PinnedUpdateLeft u me file id at bytes answered old new → LeavesStamped old new
  leaves-pinned id answered old new grown good has wants (inl (e, is, failed)) = inl (none-call u s log me (call.Query (query.State file)) (outcome.Failed e) old new failed)
  leaves-pinned id answered old new grown good has wants (inr (between, state, told, rest)) =
      let good_between : IsGoodSoFar u between = good-grown u between new (told-grown id state.log state.sizes.valid answered between new rest) good in
      let k = state-known old between state grown good_between told in
      let has_between = call-keeps u me file.stream id (pinned_hold id) (call.Query (query.State file)) (outcome.Done (reply.Value (value.State state))) old between told good_between refl has in
      leaves-before old between new (none-call u s log me (call.Query (query.State file)) (outcome.Done (reply.Value (value.State state))) old between told)
      (leaves-told id state.log state.sizes.valid answered k.later k.since between new k.grew k.its k.reached good has_between wants rest)

  pub leaves-update : (answered : Result ℕ CcError) (new : List Entry) → IsGoodSoFar u new → WantsNothing answered → UpdateLeft u me file at bytes answered begun new → LeavesStamped begun new
  leaves-update answered new good wants (inl (e, is, failed)) = inl (none-call u s log me (call.PinRead file at (length bytes) true) (outcome.Failed e) begun new failed)
  leaves-update answered new good wants (inr (id, made, done, pin, pinned, ended)) =
      let good_done : IsGoodSoFar u done = good-grown u done new (call-grown u me (call.EndHold id) (outcome.Done reply.Unit) done new ended) good in
      let good_made : IsGoodSoFar u made = good-grown u made done (pinned-grown id answered made done pinned) good_done in
      let has_made = pin_read-leaves u me id file at (length bytes) true begun made pin good_made in
      leaves-after begun done new
      (leaves-before begun made done (none-call u s log me (call.PinRead file at (length bytes) true) (outcome.Done (reply.Hold id)) begun made pin)
      (leaves-pinned id answered made done (call-grown u me (call.PinRead file at (length bytes) true) (outcome.Done (reply.Hold id)) begun made pin) good_done has_made wants pinned))
      (none-call u s log me (call.EndHold id) (outcome.Done reply.Unit) done new ended)

  pub stays-stamped : (answered : Result ℕ CcError) (new : List Entry) → IsGoodSoFar u new → IsUpdated s log new → WantsNothing answered → OthersRecordNone s log me begun new → AreStamped s log begun → UpdateLeft u me file at bytes answered begun new → AreStamped s log new
  stays-stamped answered new good updated wants others stamped left = go (leaves-update answered new good wants left)
    where
      same-log-said : (handle lsn pass n place : ℕ) (xs spell : List ℕ) → entry.Append me handle lsn (update_record_of_file file at bytes) ≡ entry.Append pass log n spell → said_by spell ≡ Some (Update s place xs) → (handle ≡ log) × (file.stream ≡ s) × (n ≡ lsn)
      same-log-said handle lsn pass n place xs spell is said =
          let same : update_record_of_file file at bytes ≡ spell = cc is in
          let parts : Some (Update file.stream at bytes) ≡ Some (Update s place xs) = sym says ∙ (ap said_by same ∙ said) in
          (cc is, cc parts, cc is)

      go : LeavesStamped begun new → AreStamped s log new
      go (inl none) = stamped-over s log me begun begun new none others [] refl stamped
      go (inr k) =
          let first = stamped-over s log me begun begun k.front k.first (others-front k) [] refl stamped in
          stamped-behind s log me (entry.Append me k.handle k.lsn (update_record_of_file file at bytes)) begun k.front new k.then others k.first.during k.first.grew first
          (λ n place pass xs spell is said.
          let parts = same-log-said k.handle k.lsn pass n place xs spell is said in
          subst (λ (m : ℕ). WasStamped s log m new) (sym parts.2) (k.stamped parts.0 parts.1 updated))
        where
          others-front : (k : HasUpdate begun new) → OthersRecordNone s log me begun k.front
          others-front k later during e is other =
              others ((k.then.during ++ entry.Append me k.handle k.lsn (update_record_of_file file at bytes) ∷ []) ++ later) during e
              (k.then.grew
              ∙ (ap (λ (l : List Entry). k.then.during ++ entry.Append me k.handle k.lsn (update_record_of_file file at bytes) ∷ l) is
              ∙ (sym (append_assoc k.then.during (entry.Append me k.handle k.lsn (update_record_of_file file at bytes) ∷ []) (later ++ e ∷ (during ++ begun)))
              ∙ sym (append_assoc (k.then.during ++ entry.Append me k.handle k.lsn (update_record_of_file file at bytes) ∷ []) later (e ∷ (during ++ begun)))))) other
