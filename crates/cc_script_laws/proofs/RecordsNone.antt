-- Which lines give the log no record of an update of the stream: each that leaves the stream to its updates, but an update of it.
use Rattle.std.specs.Prelude.{◌≡◌, ◌≢◌, ℕ, suc, ◌==◌, ◌&&◌, ◌||◌, Bool, true, false, cond, not, map, List, [], ◌∷◌, ◌++◌, length, Result, refl, if◌then◌else◌}
use Rattle.std.specs.declared.option.Option.{Option}
use Rattle.std.specs.declared.option.Option.TheVariants.{Some, None}
use Rattle.std.specs.List.{list_any}
use Rattle.std.proofs.Common.{ap, sym, subst, ◌∙◌, eq-eqb, append_assoc}
use Rattle.std.proofs.lemmas.Bool.{eqb-false, or_parts}
use Rattle.std.proofs.lemmas.List.{append_cancel_right}
use Rattle.std.proofs.lemmas.List.Folds.{list_any-append}
use Rattle.cc_entry.specs.Place.{File}
use Rattle.cc_entry.specs.declared.answer.Answer.{Answer}
use Rattle.cc_entry.specs.declared.call.Call.{Call}
use Rattle.cc_entry.specs.declared.entry.Entry.{Entry}
use Rattle.cc_entry.specs.declared.entry.Entry.TheVariants as entry
use Rattle.cc_entry.specs.declared.error.CcError.{CcError}
use Rattle.cc_entry.specs.declared.place.DirtyRow.{DirtyRow}
use Rattle.cc_entry.specs.declared.place.FileState.{FileState}
use Rattle.cc_entry.specs.declared.place.Request.{Request}
use Rattle.cc_script.specs.declared.script.RestartLine.{RestartLine}
use Rattle.cc_script.specs.declared.script.StreamLine.{StreamLine}
use Rattle.cc_entry.specs.declared.answer.LineReply.{LineReply}
use Rattle.cc_model.specs.Passes.{HasSeen, is_mine, is_pass, pass_of}
use Rattle.cc_model.specs.Setup.{Setup}
use Rattle.cc_effects.specs.Moments.{own}
use Rattle.cc_effects.proofs.Stretches.{own-append}
use Rattle.cc_format.specs.LogRecords.{checkpoint_record, spelled_rows}
use Rattle.cc_format.specs.declared.log.OldestRow.{OldestRow}
use Rattle.cc_model.specs.Records.{little_endian}
use Rattle.cc_records.specs.Left.{SettleLeft}
use Rattle.cc_redo.specs.Reading.{checkpoint_in, said_by}
use Rattle.cc_redo.specs.declared.record.LogRecord.{LogRecord}
use Rattle.cc_redo.specs.declared.record.LogRecord.TheVariants.{Update, Checkpoint}
use Rattle.cc_restart_laws.specs.Updates.{is_update_of, records_update}
use Rattle.cc_update_laws.proofs.Recorded.{RecordsNone, none-entry, none-idle, none-then}
use Rattle.cc_update_laws.specs.Keeping.{OthersRecordNone}
use Rattle.cc_pieces.specs.Answered.{AheadAnswered, TickAnswered}
use Rattle.cc_pieces.specs.Checkpoints.{CheckpointLeft, oldest_row, record_of_rows}
use Rattle.cc_pieces.specs.Openings.{Opened, first_object_of}
use Rattle.cc_pieces.specs.Phases.{lazy_writer, read_ahead_worker}
use Rattle.cc_pieces.specs.Restarts.{refused_for}
use Rattle.cc_pieces.specs.Shim.{UpdateLeft, update_record_of_file}
use Rattle.cc_script_laws.specs.Lines.{says_neither}
use Rattle.cc_script_laws.proofs.LineWalks.{Follows, follow-ahead, follow-checkpoint-left, follow-settle-left, follow-tick, follow-update-left, is_plain}
use Rattle.cc_script_laws.proofs.RunWalks.{follow-behind}

clash : {b : Bool} → b ≡ true → b ≡ false → ⊥
clash a b = cc

and-false : (a b : Bool) → b ≡ false → (a && b) ≡ false
and-false true b is = is
and-false false b is = refl

not-true : (b : Bool) → not b ≡ true → b ≡ false
not-true false is = refl
not-true true is = absurd (cc is)

-- ---- what a record says

neither-none : (s : ℕ) (told : Option LogRecord) → says_neither s told ≡ true → is_update_of s told ≡ false
neither-none s None says = refl
neither-none s (Some (Update stream at bytes)) says = not-true (stream == s) says
neither-none s (Some (Checkpoint rows)) says = refl

pub append-none : (s log me handle lsn : ℕ) (bytes : List ℕ) → (not (handle == log) || says_neither s (said_by bytes)) ≡ true → records_update s log (entry.Append me handle lsn bytes) ≡ false
append-none s log me handle lsn bytes may = go (handle == log) may
  where
    go : (b : Bool) → (not b || says_neither s (said_by bytes)) ≡ true → (b && is_update_of s (said_by bytes)) ≡ false
    go true says = neither-none s (said_by bytes) says
    go false says = refl

-- the record of a checkpoint says no update
checkpoint-no : (s : ℕ) (rest : List ℕ) → is_update_of s (checkpoint_in rest) ≡ false
checkpoint-no s rest = go _ _
  where
    go : (b : Bool) (rows : List OldestRow) → is_update_of s (if b then Some (Checkpoint rows) else None) ≡ false
    go true rows = refl
    go false rows = refl

checkpoint-says : (s : ℕ) (rows : List OldestRow) → is_update_of s (said_by (checkpoint_record rows)) ≡ false
checkpoint-says s rows = checkpoint-no s (little_endian 4 (length rows) ++ spelled_rows rows)

rows-none : (s log me handle lsn : ℕ) (rows : List DirtyRow) → records_update s log (entry.Append me handle lsn (record_of_rows rows)) ≡ false
rows-none s log me handle lsn rows = and-false (handle == log) (is_update_of s (said_by (record_of_rows rows))) (checkpoint-says s (map oldest_row rows))

-- nor does that of an update of another stream
other-none : (s log me handle lsn : ℕ) (file : File) (at : ℕ) (bytes : List ℕ) → said_by (update_record_of_file file at bytes) ≡ Some (Update file.stream at bytes) → (file.stream == s) ≡ false → records_update s log (entry.Append me handle lsn (update_record_of_file file at bytes)) ≡ false
other-none s log me handle lsn file at bytes says apart = and-false (handle == log) (is_update_of s (said_by (update_record_of_file file at bytes))) (ap (is_update_of s) says ∙ apart)

pub plain-none : (s log : ℕ) (e : Entry) → is_plain e ≡ true → records_update s log e ≡ false
plain-none s log (entry.Append pass handle lsn bytes) plain = absurd (cc plain)
plain-none s log other plain = refl

unpassed-none : (s log : ℕ) (e : Entry) → pass_of e ≡ None → records_update s log e ≡ false
unpassed-none s log (entry.Append pass handle lsn bytes) none = absurd (cc none)
unpassed-none s log other none = refl

-- ---- stretches

abbrev Any : Call → Type 0
Any it = Unit {0}

module _ (u : Setup) (s log : ℕ) where
  pub none-follows : (me : ℕ) → Follows me Any (RecordsNone s log me)
  none-follows me = record {
    idle = none-idle s log me;
    joins = none-then s log me;
    plain = λ e past plain own. none-entry s log me e past (plain-none s log e plain);
    called = λ it ended nth stream past makes filed. none-entry s log me (entry.Call me nth stream it ended) past refl;
  }

  pub none-append : (me handle lsn : ℕ) (bytes : List ℕ) (past : List Entry) → (not (handle == log) || says_neither s (said_by bytes)) ≡ true → RecordsNone s log me past (entry.Append me handle lsn bytes ∷ past)
  none-append me handle lsn bytes past may = none-entry s log me (entry.Append me handle lsn bytes) past (append-none s log me handle lsn bytes may)

  pub none-settle : (me : ℕ) (file : File) (answered : Result FileState CcError) (old new : List Entry) → SettleLeft u me file answered old new → RecordsNone s log me old new
  none-settle me file answered old new left =
      follow-settle-left u me Any (RecordsNone s log me) (none-follows me) file tt tt (λ told begun first flushed front size valid end has idle is. none-entry s log me (entry.Record me file.stream size valid end) front refl) answered old new left

  pub none-checkpoint : (me streams handle : ℕ) (answered : Result ℕ CcError) (old new : List Entry) → CheckpointLeft u me streams handle answered old new → RecordsNone s log me old new
  none-checkpoint me streams handle answered old new left =
      follow-checkpoint-left u me Any (RecordsNone s log me) (none-follows me) streams handle (λ it is. tt)
      (λ rows lsn past. none-entry s log me (entry.Append me handle lsn (record_of_rows rows)) past (rows-none s log me handle lsn rows)) answered old new left

  pub none-other : (me : ℕ) (file : File) (at : ℕ) (bytes : List ℕ) → said_by (update_record_of_file file at bytes) ≡ Some (Update file.stream at bytes) → (file.stream == s) ≡ false → (answered : Result ℕ CcError) (old new : List Entry) → UpdateLeft u me file at bytes answered old new → RecordsNone s log me old new
  none-other me file at bytes says apart answered old new left =
      follow-update-left u me Any (RecordsNone s log me) (none-follows me) file at bytes (λ it is. tt)
      (λ handle lsn past. none-entry s log me (entry.Append me handle lsn (update_record_of_file file at bytes)) past (other-none s log me handle lsn file at bytes says apart)) answered old new left

  pub none-tick : (told : Answer) (old new : List Entry) → TickAnswered lazy_writer told old new → RecordsNone s log lazy_writer old new
  none-tick told old new left = follow-tick u lazy_writer Any (RecordsNone s log lazy_writer) (none-follows lazy_writer) told old new left

  pub none-step : (taken : Option Request) (told : Answer) (old new : List Entry) → AheadAnswered u read_ahead_worker taken told old new → RecordsNone s log read_ahead_worker old new
  none-step taken told old new left = follow-ahead u read_ahead_worker Any (RecordsNone s log read_ahead_worker) (none-follows read_ahead_worker) taken told old new (λ request. tt) left

  pub none-opened : (restarts : List RestartLine) (ended : List LineReply) (t : ℕ) (streams : List StreamLine) (replies : List LineReply) (old new : List Entry) → Opened u restarts ended t streams replies old new → RecordsNone s log 0 old new
  none-opened restarts ended t [] [] old new opened = none-idle s log 0 old new opened
  none-opened restarts ended t [] (reply ∷ replies) old new opened = absurd opened
  none-opened restarts ended t (stream ∷ streams) [] old new opened = absurd opened
  none-opened restarts ended t (stream ∷ streams) (reply ∷ replies) old new opened =
      none-then s log 0 old opened.0 new
      (follow-behind u Any (RecordsNone s log 0) (none-follows 0) t stream (λ handle is. tt) (none-settle 0 (first_object_of t)) (refused_for stream.log restarts ended) reply.answer old opened.0 (λ read. tt) opened.1.opened)
      (none-opened restarts ended (suc t) streams replies opened.0 new opened.2)

-- ---- of others

-- an own entry of a stretch in which the pass records none
own-none : (me : ℕ) (test : Entry → Bool) (xs : List Entry) (e : Entry) (ys : List Entry) → list_any test (own me (xs ++ e ∷ ys)) ≡ false → is_mine me e ≡ true → test e ≡ false
own-none me test xs e ys none mine = first (is_mine me e) refl
  where
    both : (list_any test (own me xs) || list_any test (own me (e ∷ ys))) ≡ false
    both = sym (ap (list_any test) (own-append me xs (e ∷ ys)) ∙ list_any-append test (own me xs) (own me (e ∷ ys))) ∙ none

    here : list_any test (own me (e ∷ ys)) ≡ false
    here = (or_parts (list_any test (own me xs)) _ both).1

    first : (b : Bool) → is_mine me e ≡ b → test e ≡ false
    first true is = (or_parts (test e) (list_any test (own me ys)) (subst (λ (c : Bool). list_any test (cond c (e ∷ own me ys) (own me ys)) ≡ false) is here)).0
    first false is = absurd (clash mine is)

-- no pass but one records an update, where each of the others records none
pub others-none : (s log me : ℕ) (old new : List Entry) → ((other : ℕ) → other ≢ me → RecordsNone s log other old new) → OthersRecordNone s log me old new
others-none s log me old new each later during e is apart = by (pass_of e) refl
  where
    by : (o : Option ℕ) → pass_of e ≡ o → records_update s log e ≡ false
    by None none = unpassed-none s log e none
    by (Some p) its =
        let mine : is_mine p e ≡ true = ap (is_pass p) its ∙ eq-eqb p p refl in
        let other : p ≢ me = eqb-false p me (sym (ap (is_pass me) its) ∙ apart) in
        let k = each p other in
        let same : k.during ≡ later ++ e ∷ during = append_cancel_right k.during (later ++ e ∷ during) old (sym k.grew ∙ (is ∙ sym (append_assoc later (e ∷ during) old))) in
        own-none p (records_update s log) later e during (ap (λ (l : List Entry). list_any (records_update s log) (own p l)) (sym same) ∙ k.none) mine

-- so it is of a part of the stretch
pub others-front : (s log me : ℕ) (old between new : List Entry) → HasSeen between new → OthersRecordNone s log me old new → OthersRecordNone s log me old between
others-front s log me old between new seen others later during e is apart =
    others (seen.later ++ later) during e
    (seen.grew ∙ (ap (λ (l : List Entry). seen.later ++ l) is ∙ sym (append_assoc seen.later later (e ∷ (during ++ old))))) apart

-- and where the pass records none either, no entry of the stretch records one
pub all-none : (s log me : ℕ) (base during old : List Entry) → (since : List Entry) → old ≡ since ++ base → list_any (records_update s log) (own me during) ≡ false → OthersRecordNone s log me base (during ++ old) → list_any (records_update s log) during ≡ false
all-none s log me base [] old since grew none others = refl
all-none s log me base (e ∷ during) old since grew none others =
    by (is_mine me e) refl
    (λ rest. all-none s log me base during old since grew rest (others-front s log me base (during ++ old) (e ∷ (during ++ old)) (record { later = e ∷ []; grew = refl }) others))
  where
    joined : (a b : Bool) → a ≡ false → b ≡ false → (a || b) ≡ false
    joined a b is and = rw (is, and) refl

    by : (b : Bool) → is_mine me e ≡ b → (list_any (records_update s log) (own me during) ≡ false → list_any (records_update s log) during ≡ false) → (records_update s log e || list_any (records_update s log) during) ≡ false
    by true mine rest =
        let parts = or_parts (records_update s log e) (list_any (records_update s log) (own me during)) (subst (λ (c : Bool). list_any (records_update s log) (cond c (e ∷ own me during) (own me during)) ≡ false) mine none) in
        joined _ _ parts.0 (rest parts.1)
    by false other rest =
        let here = others [] (during ++ since) e (ap (λ (l : List Entry). e ∷ l) (ap (λ (l : List Entry). during ++ l) grew ∙ sym (append_assoc during since base))) other in
        joined _ _ here (rest (subst (λ (c : Bool). list_any (records_update s log) (cond c (e ∷ own me during) (own me during)) ≡ false) other none))

-- the parts of a stretch
pub any-own : (me : ℕ) (test : Entry → Bool) (xs : List Entry) → list_any test xs ≡ false → list_any test (own me xs) ≡ false
any-own me test [] none = refl
any-own me test (e ∷ xs) none = by (is_mine me e) (any-own me test xs parts.1)
  where
    parts : (test e ≡ false) × (list_any test xs ≡ false)
    parts = or_parts (test e) (list_any test xs) none

    by : (b : Bool) → list_any test (own me xs) ≡ false → list_any test (cond b (e ∷ own me xs) (own me xs)) ≡ false
    by true rest = rw (parts.0) rest
    by false rest = rest

pub any-back : (test : Entry → Bool) (xs ys : List Entry) → list_any test (xs ++ ys) ≡ false → list_any test ys ≡ false
any-back test xs ys none = (or_parts (list_any test xs) (list_any test ys) (sym (list_any-append test xs ys) ∙ none)).1

pub any-front : (test : Entry → Bool) (xs ys : List Entry) → list_any test (xs ++ ys) ≡ false → list_any test xs ≡ false
any-front test xs ys none = (or_parts (list_any test xs) (list_any test ys) (sym (list_any-append test xs ys) ∙ none)).0
