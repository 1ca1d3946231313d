-- The streams that were opened so far.
use Rattle.std.specs.Prelude.{◌≡◌, ℕ, suc, ◌+◌, Bool, true, false, List, [], ◌∷◌, ◌++◌, length, Result, Ok, Err, refl}
use Rattle.std.specs.declared.option.Option.{Option}
use Rattle.std.specs.declared.option.Option.TheVariants.{Some, None}
use Rattle.std.proofs.Common.{inl, inr, subst, ap, sym, ◌∙◌, arith, append_assoc}
use Rattle.std.proofs.lemmas.List.{map-append}
use Rattle.cc_entry.specs.declared.answer.Answer.{Answer}
use Rattle.cc_entry.specs.declared.answer.Answer.TheVariants as answer
use Rattle.cc_entry.specs.Place.{File}
use Rattle.cc_entry.specs.declared.answer.LineReply.{LineReply}
use Rattle.cc_entry.specs.declared.call.Call.{Call}
use Rattle.cc_entry.specs.declared.call.Call.TheVariants as call
use Rattle.cc_entry.specs.declared.entry.Entry.{Entry}
use Rattle.cc_entry.specs.declared.entry.Entry.TheVariants as entry
use Rattle.cc_entry.specs.declared.error.CcError.{CcError}
use Rattle.cc_entry.specs.declared.error.CcError.TheVariants as error
use Rattle.cc_entry.specs.declared.place.FileState.{FileState}
use Rattle.cc_entry.specs.declared.reply.Outcome.TheVariants as outcome
use Rattle.cc_entry.specs.declared.reply.Reply.TheVariants as reply
use Rattle.cc_script.specs.declared.script.RestartLine.{RestartLine}
use Rattle.cc_script.specs.declared.script.StreamLine.{StreamLine}
use Rattle.cc_format.specs.declared.record.StreamRecord.{StreamRecord}
use Rattle.cc_format.specs.declared.record.StreamRecord.TheVariants.{V1, V2}
use Rattle.cc_model.specs.Passes.{HasSeen}
use Rattle.cc_model.specs.Setup.{Setup}
use Rattle.cc_effects.specs.Moments.{IsIdle}
use Rattle.cc_effects.proofs.Stretches.{idle-none}
use Rattle.cc_records.specs.Left.{LoadLeft, SettleLeft}
use Rattle.cc_pieces.specs.Answered.{CallAnswered}
use Rattle.cc_pieces.specs.Openings.{LoggedOpening, MigrationLeft, Opened, OpeningBehind, Opens, RecordedOpening, StreamOpening, first_object_of, opening_call, recorded_call}
use Rattle.cc_pieces.specs.Restarts.{refused_for}
use Rattle.cc_pieces.proofs.Grown.{grew-call, grew-only, grew-then}
use Rattle.cc_pieces.specs.Rooms.{HadNoRoom}
use Rattle.cc_turns.specs.Standing.{Standing}
use Rattle.cc_lines.specs.Line.{IsFullTold, WentOn}
use Rattle.cc_lines.proofs.SettleServed.{settle-unchanged}
use Rattle.cc_run.specs.Lines.{StreamsLeft, StreamsOpened}
use Rattle.cc_run.proofs.Acting.{room-left}

module _ (u : Setup) (restarts : List RestartLine) (ended : List LineReply) where
  -- one stream more
  left-more : (s n : ℕ) (streams : List StreamLine) (replies : List LineReply) (stream : StreamLine) (reply : LineReply) (old between new : List Entry) → n ≡ s + length streams → StreamsLeft u restarts ended s streams replies old between → Opens u n stream (refused_for stream.log restarts ended) reply.answer between new → StreamsLeft u restarts ended s (streams ++ stream ∷ []) (replies ++ reply ∷ []) old new
  left-more s n [] [] stream reply old between new is left one =
      let same : between ≡ old = left in
      let number : n ≡ s = omega (arith, is) in
      (new, rw (same, number) at one, refl)
  left-more s n [] (r ∷ replies) stream reply old between new is left one = absurd left
  left-more s n (l ∷ streams) [] stream reply old between new is left one = absurd left
  left-more s n (l ∷ streams) (r ∷ replies) stream reply old between new is left one =
      (left.0, left.1, left-more (suc s) n streams replies stream reply left.0 between new (omega (arith, is)) left.2 one)

  -- what the lines of the streams left is what explains them
  pub opened-left : (s : ℕ) (streams : List StreamLine) (replies : List LineReply) (old new : List Entry) → StreamsLeft u restarts ended s streams replies old new → Opened u restarts ended s streams replies old new
  opened-left s [] [] old new left = let same : new ≡ old = left in rw same (idle-none 0 old)
  opened-left s [] (r ∷ replies) old new left = absurd left
  opened-left s (l ∷ streams) [] old new left = absurd left
  opened-left s (l ∷ streams) (r ∷ replies) old new left = (left.0, left.1, opened-left (suc s) streams replies left.0 new left.2)

  pub stream-more : (s n : ℕ) (streams : List StreamLine) (stream : StreamLine) (told : Answer) (before after : List LineReply) (old between new : List Entry) → n ≡ s + length streams → StreamsOpened u restarts ended s streams before after old between → Opens u n stream (refused_for stream.log restarts ended) told between new → StreamsOpened u restarts ended s (streams ++ stream ∷ []) before (after ++ record { line = stream.line; answer = told } ∷ []) old new
  stream-more s n streams stream told before after old between new is opened one = record {
    answers = opened.answers ++ record { line = stream.line; answer = told } ∷ [];
    grew = ap (λ l. l ++ record { line = stream.line; answer = told } ∷ []) opened.grew ∙ append_assoc before opened.answers (record { line = stream.line; answer = told } ∷ []);
    lines_are = map-append (λ r. r.line) opened.answers _ ∙ (ap (λ l. l ++ stream.line ∷ []) opened.lines_are ∙ sym (map-append (λ l. l.line) streams (stream ∷ [])));
    left = left-more s n streams opened.answers stream (record { line = stream.line; answer = told }) old between new is opened.left one;
  }

-- ---- the journal grows by the line of a stream

seen-idle : (old new : List Entry) → IsIdle 0 old new → HasSeen old new
seen-idle old new idle = record { later = idle.during; grew = idle.grew }

seen-answered : (u : Setup) (it : Call) (told : Answer) (old new : List Entry) → CallAnswered u 0 it told old new → HasSeen old new
seen-answered u it (answer.Given r) old new left = grew-call u 0 it (outcome.Done r) old new left
seen-answered u it (answer.Refused e) old new left = grew-call u 0 it (outcome.Failed e) old new left
seen-answered u it other old new left = absurd left

seen-load : {A : Type 0} (s : ℕ) (answered : Result A CcError) (old new : List Entry) → LoadLeft 0 s answered old new → HasSeen old new
seen-load s (Ok told) old new left = seen-idle old new left
seen-load s (Err (error.ReadFault page)) old new left = grew-only 0 (entry.RecordFailed 0 s) old new left.1
seen-load s (Err (error.JournalFull entries)) old new left = seen-idle old new left
seen-load s (Err error.NoMemory) old new left = seen-idle old new left
seen-load s (Err other) old new left = absurd left

seen-settle : (u : Setup) (file : File) (answered : Result FileState CcError) (old new : List Entry) → SettleLeft u 0 file answered old new → HasSeen old new
seen-settle u file answered old new left = let kept = settle-unchanged u 0 0 file answered old new left in record { later = kept.during; grew = kept.grew }

seen-logged : (u : Setup) (s : ℕ) (it : Call) (log : Option ℕ) (told : Answer) (old new : List Entry) → LoggedOpening u s it log told old new → HasSeen old new
seen-logged u s it None told old new opened = seen-answered u it told old new opened
seen-logged u s it (Some handle) told old new (inl refused) = grew-call u 0 it (outcome.Failed refused.0) old new refused.2
seen-logged u s it (Some handle) told old new (inr done) =
    grew-then old done.0 new (grew-call u 0 it (outcome.Done reply.Unit) old done.0 done.1) (seen-answered u (call.SetLog (first_object_of s) handle) told done.0 new done.2)

seen-migration : (u : Setup) (s : ℕ) (told : Answer) (old new : List Entry) → MigrationLeft u s told old new → HasSeen old new
seen-migration u s (answer.Given reply.Unit) old new left = seen-settle u (first_object_of s) (Ok left.0) old new left.1
seen-migration u s (answer.Refused e) old new left = seen-settle u (first_object_of s) (Err e) old new left
seen-migration u s other old new left = absurd left

pub seen-recorded : (u : Setup) (s : ℕ) (stream : StreamLine) (read : Option StreamRecord) (told : Answer) (old new : List Entry) → RecordedOpening u s stream read told old new → HasSeen old new
seen-recorded u s stream None told old new opened = seen-logged u s (recorded_call s stream None) stream.log told old new opened
seen-recorded u s stream (Some (V2 size valid)) told old new opened = seen-logged u s (recorded_call s stream (Some (V2 size valid))) stream.log told old new opened
seen-recorded u s stream (Some (V1 size)) told old new (inl refused) = seen-logged u s (recorded_call s stream (Some (V1 size))) stream.log told old new refused.2
seen-recorded u s stream (Some (V1 size)) told old new (inr done) =
    grew-then old done.0 new (seen-logged u s (recorded_call s stream (Some (V1 size))) stream.log (answer.Given reply.Unit) old done.0 done.1) (seen-migration u s told done.0 new done.2)

pub seen-opening : (u : Setup) (s : ℕ) (stream : StreamLine) (stored : Bool) (told : Answer) (old new : List Entry) → StreamOpening u s stream stored told old new → HasSeen old new
seen-opening u s stream false told old new opened = seen-logged u s (opening_call s stream) stream.log told old new opened
seen-opening u s stream true told old new (inl unread) = seen-load {A = Option StreamRecord} s (Err unread.0) old new unread.2
seen-opening u s stream true told old new (inr is) =
    grew-then old is.loaded new (seen-load {A = Option StreamRecord} s (Ok is.read) old is.loaded is.load) (seen-recorded u s stream is.read told is.loaded new is.opened)

pub seen-behind : (u : Setup) (s : ℕ) (stream : StreamLine) (refused : Option CcError) (told : Answer) (old new : List Entry) → OpeningBehind u s stream refused told old new → HasSeen old new
seen-behind u s stream (Some e) told old new opened = seen-idle old new opened.1
seen-behind u s stream None told old new opened = seen-opening u s stream stream.stored told old new opened

-- the line of a stream left what explains its answer
pub opens-one : (w0 w1 : Standing) (s : ℕ) (stream : StreamLine) (refused : Option CcError) (told : Answer) → WentOn w0 w1 → w1.in_flight ≡ 0 → w1.others ≡ 0 → OpeningBehind w0.setup s stream refused told w0.seen w1.seen → ((refused ≡ None) → IsFullTold w1 told) → Opens w0.setup s stream refused told w0.seen w1.seen
opens-one w0 w1 s stream refused told went rest alone left full = record {
  opened = left;
  room = λ none. subst (λ u. HadNoRoom u 4 told w0.seen w1.seen) (ap (λ w. w.setup) went.same) (room-left w1 told w0.seen (seen-behind w0.setup s stream refused told w0.seen w1.seen left) rest alone (full none));
}
