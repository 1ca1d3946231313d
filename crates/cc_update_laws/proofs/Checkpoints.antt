-- What a checkpoint leaves keeps the form: its rows are those of the table that it listed, and it synced the stream since.
use Rattle.std.specs.Prelude.{◌≡◌, ℕ, zero, suc, ◌<◌, Bool, true, false, ◌==◌, List, [], ◌∷◌, ◌++◌, map, Result, Ok, Err, refl, ◌⊎◌, if◌then◌else◌}
use Rattle.std.specs.List.{list_any}
use Rattle.std.specs.declared.option.Option.{Option}
use Rattle.std.specs.declared.option.Option.TheVariants.{Some, None}
use Rattle.std.proofs.Common.{ap, sym, subst, ◌∙◌, inl, inr, append_assoc, arith}
use Rattle.std.proofs.lemmas.Bool.{eq-eqb, eqb-false, eqb-true}
use Rattle.std.proofs.lemmas.List.{append_cancel_right}
use Rattle.cc_entry.specs.declared.call.Call.TheVariants as call
use Rattle.cc_entry.specs.declared.query.Query.TheVariants as query
use Rattle.cc_entry.specs.declared.entry.End.TheVariants as how
use Rattle.cc_entry.specs.declared.entry.Entry.{Entry}
use Rattle.cc_entry.specs.declared.entry.Entry.TheVariants as entry
use Rattle.cc_entry.specs.declared.error.CcError.{CcError}
use Rattle.cc_entry.specs.declared.error.CcError.TheVariants as error
use Rattle.cc_entry.specs.declared.place.DirtyRow.{DirtyRow}
use Rattle.cc_entry.specs.declared.place.FileState.{FileState}
use Rattle.cc_entry.specs.declared.reply.Outcome.TheVariants as outcome
use Rattle.cc_entry.specs.declared.reply.Reply.TheVariants as reply
use Rattle.cc_entry.specs.declared.query.Value.TheVariants as value
use Rattle.cc_format.specs.LogRecords.{checkpoint_record}
use Rattle.cc_model.specs.Good.{IsGoodSoFar}
use Rattle.cc_model.specs.History.{history}
use Rattle.cc_model.specs.Objects.{had_map, objects}
use Rattle.cc_model.specs.Settings.{log_of}
use Rattle.cc_model.specs.Setup.{Setup}
use Rattle.cc_model.specs.Stamps.{dirty_table}
use Rattle.cc_effects.specs.Calls.{CallLeft}
use Rattle.cc_effects.specs.LogCalls.{FlushRefused, WasFlushed}
use Rattle.cc_effects.specs.Moments.{PlacedOnly}
use Rattle.cc_pieces.proofs.Walks.{walked-idle, walked-then}
use Rattle.cc_pieces.specs.Checkpoints.{CheckpointLeft, RecordFlushed, RecordLogged, RowsLogged, StateAsked, StatesAsked, SyncedLogged, first_object, state_has_log, record_of_rows, sync_call, with_stream_of_log}
use Rattle.cc_pieces.specs.Shim.{CallsLeft}
use Rattle.cc_redo.specs.Reading.{said_by}
use Rattle.cc_redo.specs.declared.record.LogRecord.{LogRecord}
use Rattle.cc_redo.specs.declared.record.LogRecord.TheVariants.{Checkpoint}
use Rattle.cc_redo.proofs.Spelled.{said-spelled}
use Rattle.cc_restart_laws.proofs.Contents.{had-more}
use Rattle.cc_restart_laws.proofs.Entries.{updated-rest}
use Rattle.cc_restart_laws.proofs.Records.{log-stays}
use Rattle.cc_restart_laws.specs.Updates.{HasSyncedSince, IsCheckpoint, IsUpdated, MayLogRecord, row_told}
use Rattle.cc_update_laws.proofs.Growing.{IsGrown, call-grown, good-grown, grown-then, idle-grown, only-grown}
use Rattle.cc_update_laws.proofs.Keeping.{KeepsAll, all-failed, all-idle, all-looks, all-only, all-then, stays-open}
use Rattle.cc_update_laws.proofs.LogCalls.{append-refused, log-flush}
use Rattle.cc_update_laws.proofs.Replies.{state-open, table-stream, told-rows, told-state}
use Rattle.cc_update_laws.proofs.Unlisted.{IsNeither, Unlisted, neither-each, unlisted-call, unlisted-grown, unlisted-others}
use Rattle.cc_update_laws.specs.Keeping.{HasCheckpoint, HasNoneOpen, IsCalmForCheckpoint, RowsFit, lists_or_appends}

-- a stream is one of those that were found
abbrev IsFound : ℕ → List ℕ → Type 0
IsFound s found = (before : List ℕ) × (after : List ℕ) × (found ≡ before ++ s ∷ after)

found-more : (s n handle : ℕ) (state : Option FileState) (found : List ℕ) → IsFound s found → IsFound s (with_stream_of_log handle n state found)
found-more s n handle state found is = go (state_has_log handle state)
  where
    go : (b : Bool) → IsFound s (if b then found ++ n ∷ [] else found)
    go true = (is.0, is.1 ++ n ∷ [], ap (λ (l : List ℕ). l ++ n ∷ []) is.2 ∙ append_assoc is.0 (s ∷ is.1) (n ∷ []))
    go false = is

module _ (u : Setup) (s log me : ℕ) where
  -- ---- calls that look, one after the other

  states-unlisted : (handle n : ℕ) (found : List ℕ) (old new : List Entry) → StatesAsked u me handle n found old new → Unlisted me log old new
  states-unlisted handle zero found old new left = walked-idle (IsNeither me log) me old new left.1
  states-unlisted handle (suc n) found old new (earlier, state, between, is, asked, last) =
      walked-then (IsNeither me log) me old between new (states-unlisted handle n earlier old between asked) (one state last)
    where
      one : (o : Option FileState) → StateAsked u me n o between new → Unlisted me log between new
      one (Some state) left = unlisted-call u me log (call.Query (query.State (first_object n))) (λ nth stream ended. refl) (outcome.Done (reply.Value (value.State state))) between new left
      one None left = unlisted-call u me log (call.Query (query.State (first_object n))) (λ nth stream ended. refl) (outcome.Failed error.NotCached) between new left

  all-states : (handle n : ℕ) (found : List ℕ) (old new : List Entry) → HasNoneOpen s log me old → StatesAsked u me handle n found old new → KeepsAll s log me old new
  all-states handle zero found old new none left = all-idle s log me old new none left.1
  all-states handle (suc n) found old new none (earlier, state, between, is, asked, last) =
      all-then s log me old between new (all-states handle n earlier old between none asked) (λ now. one state last now)
    where
      one : (o : Option FileState) → StateAsked u me n o between new → HasNoneOpen s log me between → KeepsAll s log me between new
      one (Some state) left now = all-looks u s log me (call.Query (query.State (first_object n))) (outcome.Done (reply.Value (value.State state))) between new refl refl left now
      one None left now = all-failed u s log me (call.Query (query.State (first_object n))) error.NotCached between new left now

  syncs-grown : (found : List ℕ) (answered : Result (Unit {0}) CcError) (old new : List Entry) → CallsLeft u me (map sync_call found) answered old new → IsGrown old new
  syncs-grown [] (Ok done) old new left = idle-grown me old new left
  syncs-grown [] (Err e) old new left = absurd left
  syncs-grown (t ∷ found) (Ok done) old new (between, one, rest) =
      grown-then old between new (call-grown u me (sync_call t) (outcome.Done reply.Unit) old between one) (syncs-grown found (Ok done) between new rest)
  syncs-grown (t ∷ found) (Err e) old new (inl failed) = call-grown u me (sync_call t) (outcome.Failed e) old new failed
  syncs-grown (t ∷ found) (Err e) old new (inr (between, one, rest)) =
      grown-then old between new (call-grown u me (sync_call t) (outcome.Done reply.Unit) old between one) (syncs-grown found (Err e) between new rest)

  syncs-unlisted : (found : List ℕ) (old new : List Entry) → CallsLeft u me (map sync_call found) (Ok tt) old new → Unlisted me log old new
  syncs-unlisted [] old new left = walked-idle (IsNeither me log) me old new left
  syncs-unlisted (t ∷ found) old new (between, one, rest) =
      walked-then (IsNeither me log) me old between new (unlisted-call u me log (sync_call t) (λ nth stream ended. refl) (outcome.Done reply.Unit) old between one)
      (syncs-unlisted found between new rest)

  all-syncs : (found : List ℕ) (answered : Result (Unit {0}) CcError) (old new : List Entry) → HasNoneOpen s log me old → CallsLeft u me (map sync_call found) answered old new → KeepsAll s log me old new
  all-syncs [] (Ok done) old new none left = all-idle s log me old new none left
  all-syncs [] (Err e) old new none left = absurd left
  all-syncs (t ∷ found) (Ok done) old new none (between, one, rest) =
      all-then s log me old between new (all-looks u s log me (sync_call t) (outcome.Done reply.Unit) old between refl refl one none) (λ now. all-syncs found (Ok done) between new now rest)
  all-syncs (t ∷ found) (Err e) old new none (inl failed) = all-failed u s log me (sync_call t) e old new failed none
  all-syncs (t ∷ found) (Err e) old new none (inr (between, one, rest)) =
      all-then s log me old between new (all-looks u s log me (sync_call t) (outcome.Done reply.Unit) old between refl refl one none) (λ now. all-syncs found (Err e) between new now rest)

  -- a stream that was found was synced
  record WasSynced (old new : List Entry) : Type 0 where
    later : List Entry
    since : List Entry
    is : new ≡ later ++ entry.Sync me s how.Good ∷ (since ++ old)

  synced-more : (older old new : List Entry) → IsGrown older old → WasSynced old new → WasSynced older new
  synced-more older old new grown k = record {
    later = k.later;
    since = k.since ++ grown.0;
    is = k.is ∙ ap (λ (l : List Entry). k.later ++ entry.Sync me s how.Good ∷ l) (ap (λ (l : List Entry). k.since ++ l) grown.1 ∙ sym (append_assoc k.since grown.0 older));
  }

  synced-later : (old new newer : List Entry) → WasSynced old new → IsGrown new newer → WasSynced old newer
  synced-later old new newer k grown = record {
    later = grown.0 ++ k.later;
    since = k.since;
    is = grown.1 ∙ (ap (λ (l : List Entry). grown.0 ++ l) k.is ∙ sym (append_assoc grown.0 k.later (entry.Sync me s how.Good ∷ (k.since ++ old))));
  }

  one-synced : (old new : List Entry) → CallLeft u me (sync_call s) (outcome.Done reply.Unit) old new → WasSynced old new
  one-synced old new left =
      let p = left.placed in
      let e : Entry = entry.Call me p.nth p.stream (sync_call s) (outcome.Done reply.Unit) in
      let k = left.has_done in
      let sync : Entry = entry.Sync me s how.Good in
      let inner : left.earlier ++ old ≡ k.after ++ sync ∷ (k.before ++ old) = ap (λ (l : List Entry). l ++ old) k.split ∙ append_assoc k.after (sync ∷ k.before) old in
      record {
        later = p.later ++ e ∷ k.after;
        since = k.before;
        is = p.grew ∙ (ap (λ (l : List Entry). p.later ++ e ∷ l) inner ∙ sym (append_assoc p.later (e ∷ k.after) (sync ∷ (k.before ++ old))));
      }

  found-synced : (before after : List ℕ) (old new : List Entry) → CallsLeft u me (map sync_call (before ++ s ∷ after)) (Ok tt) old new → WasSynced old new
  found-synced [] after old new (between, one, rest) = synced-later old between new (one-synced old between one) (syncs-grown after (Ok tt) between new rest)
  found-synced (t ∷ before) after old new (between, one, rest) =
      synced-more old between new (call-grown u me (sync_call t) (outcome.Done reply.Unit) old between one) (found-synced before after between new rest)

  -- ---- a stream with a map is found

  module _ (begun whole : List Entry) (state_has_log : (log_of (history begun s) ≡ Some log) ⊎ (had_map (history whole s) ≡ false)) where
    clash : {b : Bool} → b ≡ true → b ≡ false → ⊥
    clash a b = cc

    its-log : (front : List Entry) → IsGrown begun front → IsGrown front whole → IsUpdated s log front → had_map (history front s) ≡ true → log_of (history front s) ≡ Some log
    its-log front grown to_end updated had = go state_has_log
      where
        go : (log_of (history begun s) ≡ Some log) ⊎ (had_map (history whole s) ≡ false) → log_of (history front s) ≡ Some log
        go (inl its) =
            ap (λ (l : List Entry). log_of (history l s)) grown.1
            ∙ log-stays s log grown.0 begun (subst (λ (l : List Entry). IsUpdated s log l) grown.1 updated) its
        go (inr never) =
            absurd (clash (ap (λ (l : List Entry). had_map (history l s)) to_end.1 ∙ had-more u s log to_end.0 front had) never)

    -- the state of a stream that has a map
    state-found : (n : ℕ) (o : Option FileState) (earlier : List ℕ) (old new : List Entry) → n ≡ s → IsGrown begun old → IsGrown new whole → IsGoodSoFar u new → IsUpdated s log new → had_map (history old s) ≡ true →
        StateAsked u me n o old new → IsFound s (with_stream_of_log log n o earlier)
    state-found n None earlier old new same grown to_end good updated had left =
        absurd
        (state-open u me (first_object n) old new left good
        (λ before p.
        let front : List Entry = before ++ old in
        let e : Entry = entry.Call me p.nth p.stream (call.Query (query.State (first_object n))) (outcome.Failed error.NotCached) in
        let there : IsUpdated s log front = updated-rest s log (e ∷ []) front (updated-rest s log p.later (e ∷ front) (subst (λ (l : List Entry). IsUpdated s log l) p.grew updated)) in
        let its = stays-open s log front there (had-more u s log before old had) in
        subst (λ (m : ℕ). is_among_zero m front) (sym same) its))
      where
        is_among_zero : ℕ → List Entry → Type 0
        is_among_zero m front = list_any (λ k. k == 0) (objects (history front m)) ≡ true
    state-found n (Some state) earlier old new same grown to_end good updated had left =
        let p = left.placed in
        let front : List Entry = left.earlier ++ old in
        let e : Entry = entry.Call me p.nth p.stream (call.Query (query.State (first_object n))) (outcome.Done (reply.Value (value.State state))) in
        let all : IsUpdated s log (p.later ++ e ∷ front) = subst (λ (l : List Entry). IsUpdated s log l) p.grew updated in
        let there : IsUpdated s log front = updated-rest s log (e ∷ []) front (updated-rest s log p.later (e ∷ front) all) in
        let is = told-state u me (first_object n) state old new left good in
        let its : log_of (history front s) ≡ Some log =
        its-log front (grown-then begun old front grown (left.earlier, refl))
        (grown-then front new whole (grown-then front (e ∷ front) new (e ∷ [], refl) (p.later, p.grew)) to_end) there (had-more u s log left.earlier old had) in
        let told : state.log ≡ Some log = ap (λ (x : FileState). x.log) is ∙ subst (λ (m : ℕ). log_of (history front m) ≡ Some log) (sym same) its in
        with_log state told
      where
        with_log : (x : FileState) → x.log ≡ Some log → IsFound s (with_stream_of_log log n (Some x) earlier)
        with_log x told = rw (told, eq-eqb log log refl) (earlier, [], ap (λ (m : ℕ). earlier ++ m ∷ []) same)

    found-among : (n : ℕ) (found : List ℕ) (old new : List Entry) → s < n → IsGrown begun old → IsGrown new whole → IsGoodSoFar u new → IsUpdated s log new → had_map (history old s) ≡ true →
        StatesAsked u me log n found old new → IsFound s found
    found-among zero found old new below grown to_end good updated had left = absurd (omega (arith, below))
    found-among (suc n) found old new below grown to_end good updated had (earlier, state, between, is, asked, last) =
        subst (λ (l : List ℕ). IsFound s l) (sym is)
        (by (n == s) refl
        (λ least. found-among n earlier old between least grown (grown-then between new whole to_new to_end) good_between updated_between had asked))
      where
        to_new : IsGrown between new
        to_new = one state last
          where
            one : (o : Option FileState) → StateAsked u me n o between new → IsGrown between new
            one (Some x) left = call-grown u me (call.Query (query.State (first_object n))) (outcome.Done (reply.Value (value.State x))) between new left
            one None left = call-grown u me (call.Query (query.State (first_object n))) (outcome.Failed error.NotCached) between new left

        good_between : IsGoodSoFar u between
        good_between = good-grown u between new to_new good

        updated_between : IsUpdated s log between
        updated_between = updated-rest s log to_new.0 between (subst (λ (l : List Entry). IsUpdated s log l) to_new.1 updated)

        from_old : IsGrown old between
        from_old = unlisted-grown me log old between (states-unlisted log n earlier old between asked)

        had_between : had_map (history between s) ≡ true
        had_between = ap (λ (l : List Entry). had_map (history l s)) from_old.1 ∙ had-more u s log from_old.0 old had

        by : (b : Bool) → (n == s) ≡ b → (s < n → IsFound s earlier) → IsFound s (with_stream_of_log log n state earlier)
        by true same rest = state-found n state earlier between new (eqb-true n s same) (grown-then begun old between grown from_old) to_end good updated had_between last
        by false other rest = let apart = eqb-false n s other in found-more s n log state earlier (rest (omega (arith, below, apart)))

    -- ---- the record of the checkpoint

    module _ (calm : IsCalmForCheckpoint s log me begun whole) (fit : (later during : List Entry) → whole ≡ later ++ (during ++ begun) → RowsFit log (during ++ begun)) where
      abbrev listing : ℕ → List DirtyRow → Entry
      listing nth rows = entry.Call me nth None (call.Query (query.DirtyPages log)) (outcome.Done (reply.Rows rows))

      is-checkpoint : (nth lsn : ℕ) (rows : List DirtyRow) (bytes : List ℕ) (rest later since : List Entry) → whole ≡ rest ++ entry.Append me log lsn bytes ∷ (later ++ listing nth rows ∷ (since ++ begun)) →
          said_by bytes ≡ Some (Checkpoint (map row_told (dirty_table (since ++ begun) log))) → list_any (lists_or_appends me log) later ≡ false →
          (had_map (history (since ++ begun) s) ≡ true → WasSynced (listing nth rows ∷ (since ++ begun)) (later ++ listing nth rows ∷ (since ++ begun))) →
          IsCheckpoint s log (map row_told (dirty_table (since ++ begun) log)) (later ++ listing nth rows ∷ (since ++ begun))
      is-checkpoint nth lsn rows bytes rest later since grew said alone synced = record {
        pass = me;
        nth = nth;
        reply = reply.Rows rows;
        later = later;
        listed = since ++ begun;
        splits = refl;
        told = refl;
        stamped = calm.stamped later since its;
        none_since = calm.none_between later since its;
        synced = λ had. sync (synced had);
      }
        where
          its : HasCheckpoint log me later (since ++ begun) whole
          its = record {
            later = rest;
            lsn = lsn;
            bytes = bytes;
            rows = map row_told (dirty_table (since ++ begun) log);
            nth = nth;
            reply = reply.Rows rows;
            splits = grew;
            said = said;
            alone = alone;
          }

          sync : WasSynced (listing nth rows ∷ (since ++ begun)) (later ++ listing nth rows ∷ (since ++ begun)) → HasSyncedSince s (listing nth rows ∷ (since ++ begun)) (later ++ listing nth rows ∷ (since ++ begun))
          sync k =
              let it : Entry = entry.Sync me s how.Good in
              let inside : later ≡ k.later ++ it ∷ k.since =
              append_cancel_right later (k.later ++ it ∷ k.since) (listing nth rows ∷ (since ++ begun))
              (k.is ∙ sym (append_assoc k.later (it ∷ k.since) (listing nth rows ∷ (since ++ begun)))) in
              record { pass = me; later = k.later; since = k.since; splits = k.is; known = calm.known later since k.later k.since its inside }

      said-rows : (rows : List DirtyRow) (later since : List Entry) → whole ≡ later ++ (since ++ begun) → rows ≡ dirty_table (since ++ begun) log → said_by (record_of_rows rows) ≡ Some (Checkpoint (map row_told (dirty_table (since ++ begun) log)))
      said-rows rows later since grew is =
          let fits = fit later since grew in
          said-spelled (record_of_rows rows) (Checkpoint (map row_told (dirty_table (since ++ begun) log)))
          (record { rows_fit = fits.rows_fit; count_fits = fits.count_fits; spelled = ap (λ (l : List DirtyRow). checkpoint_record (map row_told l)) is })

      append-form : (streams lsn : ℕ) (rows : List DirtyRow) (found : List ℕ) (between asked_end sync_end after : List Entry) → s < streams → CallLeft u me (call.Query (query.DirtyPages log)) (outcome.Done (reply.Rows rows)) begun between →
          StatesAsked u me log streams found between asked_end → CallsLeft u me (map sync_call found) (Ok tt) asked_end sync_end → (only : PlacedOnly me (entry.Append me log lsn (record_of_rows rows)) sync_end after) → IsGrown after whole → IsGoodSoFar u whole →
          IsUpdated s log (only.earlier ++ sync_end) → MayLogRecord s log me (said_by (record_of_rows rows)) (only.earlier ++ sync_end)
      append-form streams lsn rows found between asked_end sync_end after below listed asked calls only to_end good updated =
          let p = listed.placed in
          let e : Entry = listing p.nth rows in
          let since : List Entry = listed.earlier in
          let a : Entry = entry.Append me log lsn (record_of_rows rows) in
          let f : List Entry = only.earlier ++ sync_end in
          let from_e : IsGrown (e ∷ (since ++ begun)) between =
          (p.later, p.grew ∙ ap (λ (o : Option ℕ). p.later ++ entry.Call me p.nth o (call.Query (query.DirtyPages log)) (outcome.Done (reply.Rows rows)) ∷ (since ++ begun)) (table-stream me log (reply.Rows rows) begun between listed)) in
          let w_listed : Unlisted me log (e ∷ (since ++ begun)) between =
          subst (Unlisted me log (e ∷ (since ++ begun))) (sym from_e.1) (unlisted-others me log p.later (e ∷ (since ++ begun)) p.quiet) in
          let w_asked : Unlisted me log between asked_end = states-unlisted log streams found between asked_end asked in
          let w_synced : Unlisted me log asked_end sync_end = syncs-unlisted found asked_end sync_end calls in
          let w_f : Unlisted me log sync_end f = unlisted-others me log only.earlier sync_end only.quiet_before in
          let w_behind : Unlisted me log asked_end f = walked-then (IsNeither me log) me asked_end sync_end f w_synced w_f in
          let w_between : Unlisted me log between f = walked-then (IsNeither me log) me between asked_end f w_asked w_behind in
          let w : Unlisted me log (e ∷ (since ++ begun)) f = walked-then (IsNeither me log) me (e ∷ (since ++ begun)) between f w_listed w_between in
          let to_asked : IsGrown between asked_end = unlisted-grown me log between asked_end w_asked in
          let to_f : IsGrown sync_end f = (only.earlier, refl) in
          let asked_f : IsGrown asked_end f = unlisted-grown me log asked_end f w_behind in
          let between_f : IsGrown between f = unlisted-grown me log between f w_between in
          let e_f : IsGrown (e ∷ (since ++ begun)) f = (w.during, w.grew) in
          let f_after : IsGrown (a ∷ f) after = (only.later, only.grew) in
          let f_whole : IsGrown (a ∷ f) whole = grown-then (a ∷ f) after whole f_after to_end in
          let whole_f : IsGrown f whole = grown-then f (a ∷ f) whole (a ∷ [], refl) f_whole in
          let good_f : IsGoodSoFar u f = good-grown u f whole whole_f good in
          let good_asked : IsGoodSoFar u asked_end = good-grown u asked_end f asked_f good_f in
          let good_between : IsGoodSoFar u between = good-grown u between f between_f good_f in
          let updated_asked : IsUpdated s log asked_end = updated-rest s log asked_f.0 asked_end (subst (λ (l : List Entry). IsUpdated s log l) asked_f.1 updated) in
          let begun_between : IsGrown begun between = grown-then begun (e ∷ (since ++ begun)) between (e ∷ since, refl) from_e in
          let whole_is : whole ≡ f_whole.0 ++ a ∷ (e_f.0 ++ e ∷ (since ++ begun)) = f_whole.1 ∙ ap (λ (l : List Entry). f_whole.0 ++ a ∷ l) e_f.1 in
          let since_whole : IsGrown (since ++ begun) whole = grown-then (since ++ begun) f whole (grown-then (since ++ begun) (e ∷ (since ++ begun)) f (e ∷ [], refl) e_f) whole_f in
          let is : rows ≡ dirty_table (since ++ begun) log = told-rows u me log rows begun between listed good_between in
          let synced : had_map (history (since ++ begun) s) ≡ true → WasSynced (e ∷ (since ++ begun)) f = λ had.
          let had_between : had_map (history between s) ≡ true = ap (λ (l : List Entry). had_map (history l s)) from_e.1 ∙ had-more u s log from_e.0 (e ∷ (since ++ begun)) (had-more u s log (e ∷ []) (since ++ begun) had) in
          let at = found-among streams found between asked_end below begun_between (grown-then asked_end f whole asked_f whole_f) good_asked updated_asked had_between asked in
          synced-later (e ∷ (since ++ begun)) sync_end f
          (synced-more (e ∷ (since ++ begun)) asked_end sync_end (grown-then (e ∷ (since ++ begun)) between asked_end from_e to_asked)
          (found-synced at.0 at.1 asked_end sync_end (subst (λ (l : List ℕ). CallsLeft u me (map sync_call l) (Ok tt) asked_end sync_end) at.2 calls))) to_f in
          subst (λ (o : Option LogRecord). MayLogRecord s log me o f) (sym (said-rows rows since_whole.0 since since_whole.1 is))
          (subst (λ (l : List Entry). IsCheckpoint s log (map row_told (dirty_table (since ++ begun) log)) l) (sym e_f.1)
          (is-checkpoint p.nth lsn rows (record_of_rows rows) f_whole.0 e_f.0 since whole_is (said-rows rows since_whole.0 since since_whole.1 is)
          (neither-each me log w.during (e ∷ (since ++ begun)) w.each) (λ had. subst (λ (l : List Entry). WasSynced (e ∷ (since ++ begun)) l) e_f.1 (synced had))))

      flushed-grown : (handle lsn : ℕ) (answered : Result ℕ CcError) (old new : List Entry) → RecordFlushed u me handle lsn answered old new → IsGrown old new
      flushed-grown handle lsn (Ok told) old new left = ok left.1.1
        where
          ok : PlacedOnly me (entry.Flushed me handle lsn) old new ⊎ WasFlushed me handle lsn old new → IsGrown old new
          ok (inl only) = only-grown me (entry.Flushed me handle lsn) old new only
          ok (inr was) = idle-grown me old new was.idle
      flushed-grown handle lsn (Err e) old new left = err e left
        where
          err : (e : CcError) → FlushRefused u me handle lsn e old new → IsGrown old new
          err (error.NoLog missing) left = idle-grown me old new left.2
          err (error.LogFault failed) left = only-grown me (entry.LogFailed me handle) old new left.2.1
          err (error.JournalFull entries) left = idle-grown me old new left
          err error.NoMemory left = idle-grown me old new left
          err other left = absurd left

      all-flushed : (handle lsn : ℕ) (answered : Result ℕ CcError) (old new : List Entry) → HasNoneOpen s log me old → RecordFlushed u me handle lsn answered old new → KeepsAll s log me old new
      all-flushed handle lsn (Ok told) old new none left = log-flush {T = Unit {0}} u s log me handle lsn (Ok tt) old new none left.1
      all-flushed handle lsn (Err e) old new none left = log-flush {T = Unit {0}} u s log me handle lsn (Err e) old new none left

      all-record : (streams handle : ℕ) (rows : List DirtyRow) (found : List ℕ) (answered : Result ℕ CcError) (between asked_end sync_end : List Entry) → s < streams →
          CallLeft u me (call.Query (query.DirtyPages handle)) (outcome.Done (reply.Rows rows)) begun between → StatesAsked u me handle streams found between asked_end → CallsLeft u me (map sync_call found) (Ok tt) asked_end sync_end → IsGoodSoFar u whole →
          HasNoneOpen s log me sync_end → RecordLogged u me handle (record_of_rows rows) answered sync_end whole → KeepsAll s log me sync_end whole
      all-record streams handle rows found answered between asked_end sync_end below listed asked calls good none (inl (e, is, refused)) = append-refused u s log me handle e sync_end whole none refused
      all-record streams handle rows found answered between asked_end sync_end below listed asked calls good none (inr (after, lsn, appended, flushed)) =
          all-then s log me sync_end after whole
          (all-only s log me (entry.Append me handle lsn (record_of_rows rows)) sync_end after appended.1 refl (λ h. (refl, refl)) form none)
          (λ now. all-flushed handle lsn answered after whole now flushed)
        where
          to_end : IsGrown after whole
          to_end = flushed-grown handle lsn answered after whole flushed

          form : IsUpdated s log (appended.1.earlier ++ sync_end) → handle ≡ log → MayLogRecord s log me (said_by (record_of_rows rows)) (appended.1.earlier ++ sync_end)
          form updated same =
              let only = appended.1 in
              append-form streams lsn rows found between asked_end sync_end after below
              (subst (λ (h : ℕ). CallLeft u me (call.Query (query.DirtyPages h)) (outcome.Done (reply.Rows rows)) begun between) same listed)
              (subst (λ (h : ℕ). StatesAsked u me h streams found between asked_end) same asked) calls
              (record { later = only.later; earlier = only.earlier; grew = subst (λ (h : ℕ). after ≡ only.later ++ entry.Append me h lsn (record_of_rows rows) ∷ (only.earlier ++ sync_end)) same only.grew; is_own = eq-eqb me me refl; quiet_after = only.quiet_after; quiet_before = only.quiet_before })
              to_end good updated

      all-synced : (streams handle : ℕ) (rows : List DirtyRow) (found : List ℕ) (answered : Result ℕ CcError) (between asked_end : List Entry) → s < streams →
          CallLeft u me (call.Query (query.DirtyPages handle)) (outcome.Done (reply.Rows rows)) begun between → StatesAsked u me handle streams found between asked_end → IsGoodSoFar u whole → HasNoneOpen s log me asked_end →
          SyncedLogged u me handle found (record_of_rows rows) answered asked_end whole → KeepsAll s log me asked_end whole
      all-synced streams handle rows found answered between asked_end below listed asked good none (inl (e, is, failed)) = all-syncs found (Err e) asked_end whole none failed
      all-synced streams handle rows found answered between asked_end below listed asked good none (inr (sync_end, calls, logged)) =
          all-then s log me asked_end sync_end whole (all-syncs found (Ok tt) asked_end sync_end none calls)
          (λ now. all-record streams handle rows found answered between asked_end sync_end below listed asked calls good now logged)

      all-rows : (streams handle : ℕ) (rows : List DirtyRow) (answered : Result ℕ CcError) (between : List Entry) → s < streams → CallLeft u me (call.Query (query.DirtyPages handle)) (outcome.Done (reply.Rows rows)) begun between → IsGoodSoFar u whole →
          HasNoneOpen s log me between → RowsLogged u me streams handle rows answered between whole → KeepsAll s log me between whole
      all-rows streams handle rows answered between below listed good none (inl (e, is, inl stopped)) = all-states handle stopped.n stopped.found between whole none stopped.asked
      all-rows streams handle rows answered between below listed good none (inl (e, is, inr refused)) =
          all-then s log me between refused.between whole (all-states handle refused.n refused.found between refused.between none refused.asked)
          (λ now. all-failed u s log me (call.Query (query.State (first_object refused.n))) e refused.between whole refused.refused now)
      all-rows streams handle rows answered between below listed good none (inr (asked_end, found, asked, synced)) =
          all-then s log me between asked_end whole (all-states handle streams found between asked_end none asked)
          (λ now. all-synced streams handle rows found answered between asked_end below listed asked good now synced)

      pub all-checkpoint : (streams handle : ℕ) (answered : Result ℕ CcError) → s < streams → IsGoodSoFar u whole → HasNoneOpen s log me begun → CheckpointLeft u me streams handle answered begun whole → KeepsAll s log me begun whole
      all-checkpoint streams handle answered below good none (inl (e, is, failed)) = all-failed u s log me (call.Query (query.DirtyPages handle)) e begun whole failed none
      all-checkpoint streams handle answered below good none (inr (between, rows, listed, rest)) =
          all-then s log me begun between whole (all-looks u s log me (call.Query (query.DirtyPages handle)) (outcome.Done (reply.Rows rows)) begun between refl refl listed none)
          (λ now. all-rows streams handle rows answered between below listed good now rest)
