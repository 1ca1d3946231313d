-- The line of a stream writes no record but that of its own stream.
use Rattle.std.specs.Prelude.{◌≡◌, ◌≢◌, ℕ, suc, ◌+◌, ◌≤◌, ◌==◌, Bool, true, false, List, [], ◌∷◌, ◌++◌, length, Result, Ok, Err, refl}
use Rattle.std.specs.declared.option.Option.{Option}
use Rattle.std.specs.declared.option.Option.TheVariants.{Some, None}
use Rattle.std.specs.List.{list_any}
use Rattle.std.proofs.Common.{sym, ap, arith, subst, ◌∙◌, inl, inr, eq-eqb}
use Rattle.std.proofs.lemmas.Bool.{eqb-true, eqb-false, ne_eqb}
use Rattle.std.proofs.lemmas.List.{append_cancel_right}
use Rattle.cc_entry.specs.Place.{File}
use Rattle.cc_entry.specs.declared.answer.Answer.{Answer}
use Rattle.cc_entry.specs.declared.answer.Answer.TheVariants as answer
use Rattle.cc_entry.specs.declared.answer.LineReply.{LineReply}
use Rattle.cc_entry.specs.declared.call.Call.{Call}
use Rattle.cc_entry.specs.declared.call.Call.TheVariants as call
use Rattle.cc_entry.specs.declared.entry.Entry.{Entry}
use Rattle.cc_entry.specs.declared.entry.Entry.TheVariants as entry
use Rattle.cc_entry.specs.declared.error.CcError.{CcError}
use Rattle.cc_entry.specs.declared.error.CcError.TheVariants as error
use Rattle.cc_entry.specs.declared.reply.Outcome.TheVariants as outcome
use Rattle.cc_entry.specs.declared.reply.Reply.TheVariants as reply
use Rattle.cc_format.specs.declared.record.StreamRecord.{StreamRecord}
use Rattle.cc_format.specs.declared.record.StreamRecord.TheVariants.{V1, V2}
use Rattle.cc_script.specs.declared.script.RestartLine.{RestartLine}
use Rattle.cc_script.specs.declared.script.StreamLine.{StreamLine}
use Rattle.cc_model.specs.Passes.{is_pass, pass_of}
use Rattle.cc_model.specs.Setup.{Setup}
use Rattle.cc_effects.specs.Asked.{Work, Calls, Writes}
use Rattle.cc_effects.specs.Moments.{EachOwn, IsIdle}
use Rattle.cc_effects.specs.Places.{MayPlace}
use Rattle.cc_effects.proofs.Stretches.{each-implies}
use Rattle.cc_records.specs.Left.{LoadLeft}
use Rattle.cc_pieces.specs.Answered.{CallAnswered}
use Rattle.cc_pieces.specs.Openings.{LoggedOpening, MigrationLeft, Opened, OpeningBehind, RecordedOpening, StreamOpening, first_object_of, is_record_of, opening_call, recorded_call}
use Rattle.cc_pieces.specs.Restarts.{RestartsInOrder, refused_for}
use Rattle.cc_pieces.proofs.Walks.{Keeps, Walked, walk-answered, walk-call, walk-restart, walk-settle, walked-idle, walked-only, walked-then}

-- an entry is no write of the record of a stream
abbrev IsUnrecorded : ℕ → List Entry → Entry → Type 0
IsUnrecorded t past e = is_record_of t e ≡ false

work-unrecorded : (t me : ℕ) (work : Work) (old past : List Entry) (e : Entry) → MayPlace me work old past e → IsUnrecorded t past e
work-unrecorded t me work old past (entry.Record pass stream size valid how) may = absurd may
work-unrecorded t me work old past other may = refl

-- a file is of another stream
abbrev IsOfAnother : ℕ → File → Type 0
IsOfAnother t file = (file.stream == t) ≡ false

keeps-unrecorded : (u : Setup) (t me : ℕ) → Keeps u (IsUnrecorded t) (λ past it. Unit {0}) (IsOfAnother t) me
keeps-unrecorded u t me = record {
  works = λ it during old fits works. each-implies me (MayPlace me (Calls it) old) (IsUnrecorded t) (work-unrecorded t me (Calls it) old) during old works.each;
  writes = λ pages during old works. each-implies me (MayPlace me (Writes pages) old) (IsUnrecorded t) (work-unrecorded t me (Writes pages) old) during old works.each;
  called = λ it ended nth stream earlier old fits filed. refl;
  on_file = λ it file old on is plain. tt;
  on_none = λ it old is plain. tt;
  on_hold = λ id nth stream ended hold span later front found. tt;
  stored = λ it file nth r past on is plain. refl;
  refused = λ it nth s e past plain. refl;
  begun = λ file page past on. refl;
  ended = λ file page end past on. refl;
  recorded = λ file size valid end past on. on;
  synced = λ file end past on. refl;
  out = λ file page past on. refl;
  scanned = λ picked past. refl;
  appended = λ handle lsn bytes past. refl;
  flushed = λ handle to past. refl;
  log_failed = λ handle past low. refl;
  locked = λ file range exclusive granted id past. refl;
  unlocked = λ file id gone past. refl;
  tested = λ file range write conflict past. refl;
  deferred = λ id file pages retrying past. refl;
}

module _ (u : Setup) (t : ℕ) where
  abbrev Unwritten : List Entry → List Entry → Type 0
  Unwritten old new = Walked (IsUnrecorded t) 0 old new

  call-unwritten : (it : Call) (told : Answer) (old new : List Entry) → CallAnswered u 0 it told old new → Unwritten old new
  call-unwritten it told old new left = walk-answered u _ _ _ (keeps-unrecorded u t) 0 it told old new tt left

  logged-unwritten : (s : ℕ) (it : Call) (log : Option ℕ) (told : Answer) (old new : List Entry) → LoggedOpening u s it log told old new → Unwritten old new
  logged-unwritten s it None told old new opened = call-unwritten it told old new opened
  logged-unwritten s it (Some handle) told old new (inl refused) = walk-call u _ _ _ (keeps-unrecorded u t) 0 it (outcome.Failed refused.0) old new tt refused.2
  logged-unwritten s it (Some handle) told old new (inr done) =
      walked-then (IsUnrecorded t) 0 old done.0 new (walk-call u _ _ _ (keeps-unrecorded u t) 0 it (outcome.Done reply.Unit) old done.0 tt done.1)
      (call-unwritten (call.SetLog (first_object_of s) handle) told done.0 new done.2)

  load-unwritten : {A : Type 0} (s : ℕ) (answered : Result A CcError) (old new : List Entry) → LoadLeft 0 s answered old new → Unwritten old new
  load-unwritten s (Ok told) old new left = walked-idle (IsUnrecorded t) 0 old new left
  load-unwritten s (Err (error.ReadFault page)) old new left = walked-only (IsUnrecorded t) 0 (entry.RecordFailed 0 s) old new left.1 (λ past. refl)
  load-unwritten s (Err (error.JournalFull entries)) old new left = walked-idle (IsUnrecorded t) 0 old new left
  load-unwritten s (Err error.NoMemory) old new left = walked-idle (IsUnrecorded t) 0 old new left
  load-unwritten s (Err other) old new left = absurd left

  module _ (s : ℕ) (apart : (s == t) ≡ false) where
    migration-unwritten : (told : Answer) (old new : List Entry) → MigrationLeft u s told old new → Unwritten old new
    migration-unwritten (answer.Given reply.Unit) old new left = walk-settle u _ _ _ (keeps-unrecorded u t) 0 (first_object_of s) apart (Ok left.0) old new left.1
    migration-unwritten (answer.Refused e) old new left = walk-settle u _ _ _ (keeps-unrecorded u t) 0 (first_object_of s) apart (Err e) old new left
    migration-unwritten other old new left = absurd left

    recorded-unwritten : (stream : StreamLine) (read : Option StreamRecord) (told : Answer) (old new : List Entry) → RecordedOpening u s stream read told old new → Unwritten old new
    recorded-unwritten stream None told old new opened = logged-unwritten s (recorded_call s stream None) stream.log told old new opened
    recorded-unwritten stream (Some (V2 size valid)) told old new opened = logged-unwritten s (recorded_call s stream (Some (V2 size valid))) stream.log told old new opened
    recorded-unwritten stream (Some (V1 size)) told old new (inl refused) = logged-unwritten s (recorded_call s stream (Some (V1 size))) stream.log told old new refused.2
    recorded-unwritten stream (Some (V1 size)) told old new (inr done) =
        walked-then (IsUnrecorded t) 0 old done.0 new (logged-unwritten s (recorded_call s stream (Some (V1 size))) stream.log (answer.Given reply.Unit) old done.0 done.1) (migration-unwritten told done.0 new done.2)

    opening-unwritten : (stream : StreamLine) (stored : Bool) (told : Answer) (old new : List Entry) → StreamOpening u s stream stored told old new → Unwritten old new
    opening-unwritten stream false told old new opened = logged-unwritten s (opening_call s stream) stream.log told old new opened
    opening-unwritten stream true told old new (inl unread) = load-unwritten {A = Option StreamRecord} s (Err unread.0) old new unread.2
    opening-unwritten stream true told old new (inr is) =
        walked-then (IsUnrecorded t) 0 old is.loaded new (load-unwritten {A = Option StreamRecord} s (Ok is.read) old is.loaded is.load)
        (recorded-unwritten stream is.read told is.loaded new is.opened)

  restarted-unwritten : (restarts : List RestartLine) (ended : List LineReply) (old new : List Entry) → RestartsInOrder u restarts ended old new → Unwritten old new
  restarted-unwritten [] [] old new done = walked-idle (IsUnrecorded t) 0 old new done
  restarted-unwritten [] (r ∷ ended) old new done = absurd done
  restarted-unwritten (restart ∷ restarts) [] old new done = absurd done
  restarted-unwritten (restart ∷ restarts) (r ∷ ended) old new done =
      walked-then (IsUnrecorded t) 0 old done.0 new (walk-restart u _ _ _ (keeps-unrecorded u t) restart.handle r.answer old done.0 done.1.left)
      (restarted-unwritten restarts ended done.0 new done.2)

  behind-unwritten : (s : ℕ) (apart : (s == t) ≡ false) (stream : StreamLine) (refused : Option CcError) (told : Answer) (old new : List Entry) → OpeningBehind u s stream refused told old new → Unwritten old new
  behind-unwritten s apart stream (Some e) told old new opened = walked-idle (IsUnrecorded t) 0 old new opened.1
  behind-unwritten s apart stream None told old new opened = opening-unwritten s apart stream stream.stored told old new opened

  opened-unwritten : (restarts : List RestartLine) (ended : List LineReply) (s : ℕ) (streams : List StreamLine) (replies : List LineReply) (old new : List Entry) → s + length streams ≤ t → Opened u restarts ended s streams replies old new → Unwritten old new
  opened-unwritten restarts ended s [] [] old new few opened = walked-idle (IsUnrecorded t) 0 old new opened
  opened-unwritten restarts ended s [] (r ∷ replies) old new few opened = absurd opened
  opened-unwritten restarts ended s (stream ∷ streams) [] old new few opened = absurd opened
  opened-unwritten restarts ended s (stream ∷ streams) (r ∷ replies) old new few opened =
      walked-then (IsUnrecorded t) 0 old opened.0 new
      (behind-unwritten s (ne_eqb s t (λ same. absurd (omega (arith, few, same)))) stream (refused_for stream.log restarts ended) r.answer old opened.0 opened.1.opened)
      (opened-unwritten restarts ended (suc s) streams replies opened.0 new (omega (arith, few)) opened.2)

  -- an entry of no pass is none
  unpassed : (e : Entry) → pass_of e ≡ None → is_record_of t e ≡ false
  unpassed (entry.Record pass stream size valid how) is = absurd (cc is)
  unpassed other is = refl

  any-unrecorded : (during old : List Entry) → ((me : ℕ) → EachOwn me (IsUnrecorded t) during old) → list_any (is_record_of t) old ≡ false → list_any (is_record_of t) (during ++ old) ≡ false
  any-unrecorded [] old each none = none
  any-unrecorded (e ∷ during) old each none = rw (here (pass_of e) refl, any-unrecorded during old (λ me. (each me).1) none) refl
    where
      here : (o : Option ℕ) → pass_of e ≡ o → is_record_of t e ≡ false
      here None is = unpassed e is
      here (Some me) is = (each me).0 (ap (is_pass me) is ∙ eq-eqb me me refl)

  -- what pass 0 placed alone
  alone-unrecorded : (old new : List Entry) → Unwritten old new → ((me : ℕ) → me ≢ 0 → IsIdle me old new) → list_any (is_record_of t) old ≡ false → list_any (is_record_of t) new ≡ false
  alone-unrecorded old new mine alone none =
      subst (λ (past : List Entry). list_any (is_record_of t) past ≡ false) (sym mine.grew) (any-unrecorded mine.during old each none)
    where
      others : (me : ℕ) → me ≢ 0 → EachOwn me (IsUnrecorded t) mine.during old
      others me other =
          let walked = walked-idle (IsUnrecorded t) me old new (alone me other) in
          subst (λ (during : List Entry). EachOwn me (IsUnrecorded t) during old) (append_cancel_right walked.during mine.during old (sym walked.grew ∙ mine.grew)) walked.each

      each : (me : ℕ) → EachOwn me (IsUnrecorded t) mine.during old
      each me = by (me == 0) refl
        where
          by : (b : Bool) → (me == 0) ≡ b → EachOwn me (IsUnrecorded t) mine.during old
          by true is = rw (eqb-true me 0 is) mine.each
          by false is = others me (eqb-false me 0 is)

  -- Behind the lines of restarts no record was written that was not before.
  pub restarts-unrecorded : (restarts : List RestartLine) (ended : List LineReply) (old new : List Entry) → RestartsInOrder u restarts ended old new → ((me : ℕ) → me ≢ 0 → IsIdle me old new) → list_any (is_record_of t) old ≡ false → list_any (is_record_of t) new ≡ false
  restarts-unrecorded restarts ended old new done alone none = alone-unrecorded old new (restarted-unwritten restarts ended old new done) alone none

  -- Behind the lines of streams, numbered from one on, no record of a later stream was written that was not before.
  pub lines-unrecorded : (restarts : List RestartLine) (ended : List LineReply) (s : ℕ) (streams : List StreamLine) (replies : List LineReply) (old new : List Entry) → Opened u restarts ended s streams replies old new → ((me : ℕ) → me ≢ 0 → IsIdle me old new) → s + length streams ≤ t → list_any (is_record_of t) old ≡ false → list_any (is_record_of t) new ≡ false
  lines-unrecorded restarts ended s streams replies old new opened alone few none =
      alone-unrecorded old new (opened-unwritten restarts ended s streams replies old new few opened) alone none
