-- The journal of a run whose script's lines leave a stream to its updates, and make no checkpoint of its log.
use Rattle.std.specs.Prelude.{◌≡◌, ℕ, suc, ◌+◌, ◌==◌, Bool, true, false, List, [], ◌∷◌, ◌++◌, length, slice_get, Ok, refl, ◌⊎◌}
use Rattle.std.specs.declared.option.Option.{Option}
use Rattle.std.specs.declared.option.Option.TheVariants.{Some, None}
use Rattle.std.specs.List.{AllByRecursion}
use Rattle.std.proofs.Common.{ap, sym, subst, ◌∙◌, arith, inl, inr}
use Rattle.std.proofs.lemmas.Bool.{eqb-true}
use Rattle.cc_entry.specs.declared.answer.Answer.{Answer}
use Rattle.cc_entry.specs.declared.answer.Answer.TheVariants as answer
use Rattle.cc_entry.specs.declared.answer.LineReply.{LineReply}
use Rattle.cc_entry.specs.declared.call.Call.{Call}
use Rattle.cc_entry.specs.declared.call.Call.TheVariants as call
use Rattle.cc_entry.specs.declared.entry.Entry.{Entry}
use Rattle.cc_entry.specs.declared.entry.Entry.TheVariants as entry
use Rattle.cc_entry.specs.declared.error.CcError.{CcError}
use Rattle.cc_entry.specs.declared.place.Request.{Request}
use Rattle.cc_entry.specs.declared.reply.Outcome.TheVariants as outcome
use Rattle.cc_entry.specs.declared.reply.Reply.{Reply}
use Rattle.cc_entry.specs.declared.reply.Reply.TheVariants as reply
use Rattle.cc_format.specs.declared.record.StreamRecord.{StreamRecord}
use Rattle.cc_format.specs.declared.record.StreamRecord.TheVariants.{V1, V2}
use Rattle.cc_script.specs.declared.script.Action.{Action}
use Rattle.cc_script.specs.declared.script.RestartLine.{RestartLine}
use Rattle.cc_script.specs.declared.script.StreamLine.{StreamLine}
use Rattle.cc_laws.proofs.HistorySteps.{history-effect}
use Rattle.cc_model.specs.Good.{IsGoodSoFar}
use Rattle.cc_model.specs.History.{Did, Effect, history}
use Rattle.cc_model.specs.Objects.{had_map}
use Rattle.cc_model.specs.Passes.{HasSeen, pass_of}
use Rattle.cc_model.specs.Settings.{log_of}
use Rattle.cc_model.specs.Setup.{Setup}
use Rattle.cc_effects.specs.Calls.{IsDone}
use Rattle.cc_restart_laws.proofs.Entries.{call-effect}
use Rattle.cc_restart_laws.proofs.Records.{log-stays}
use Rattle.cc_restart_laws.specs.Updates.{IsUpdated}
use Rattle.cc_update_laws.proofs.Keeping.{KeepsAll, all-then, stays-on, stays-open}
use Rattle.cc_update_laws.specs.Keeping.{HasNoneOpen, PassKeepsForm, KeepsForm}
use Rattle.cc_pieces.proofs.Grown.{grew-then}
use Rattle.cc_pieces.specs.Explained.{Answered, GivenToRun, IsExplained}
use Rattle.cc_pieces.specs.Openings.{LoggedOpening, Opened, OpeningBehind, RecordedOpening, StreamOpening, first_object_of}
use Rattle.cc_pieces.specs.Restarts.{refused_for}
use Rattle.cc_pieces.specs.Runs.{asked_of}
use Rattle.cc_script_laws.specs.Lines.{checkpoints, left_to_updates}
use Rattle.cc_script_laws.specs.Told.{initialises}
use Rattle.cc_script_laws.proofs.BesideLines.{Beside, beside-follows, beside-idle, beside-served, beside-settle, beside-step, beside-then, beside-tick}
use Rattle.cc_script_laws.proofs.Growing.{had-seen, seen-none}
use Rattle.cc_script_laws.proofs.Numbered.{PieceOf, behind-had, piece-at, seen-settle, setup-line}
use Rattle.cc_script_laws.proofs.Settles.{phases-seen}
use Rattle.cc_script_laws.proofs.RunWalks.{AllStand, Walked, all-begun, all-stand, follow-behind, follow-restarts, ran-answered}

-- ---- the journal has the form, where each entry keeps it

updated-stand : (s log : ℕ) (past : List Entry) → AllStand (KeepsForm s log) past → IsUpdated s log past
unfolding IsUpdated
updated-stand s log [] all = tt
updated-stand s log (e ∷ past) all = let rest = updated-stand s log past all.1 in (all.0 rest, rest)

unpassed-keeps : (s log : ℕ) (past : List Entry) (e : Entry) → pass_of e ≡ None → KeepsForm s log past e
unpassed-keeps s log past (entry.Posted id) is updated = record {
  by = tt;
  finishes = λ it written mine. absurd (cc mine);
  stays_open = stays-on s (entry.Posted id) past (λ h. (refl, refl)) (stays-open s log past updated);
}
unpassed-keeps s log past other is updated = absurd (cc is)

pub nil-cons : (xs : List Entry) (y : Entry) (ys : List Entry) → [] ≡ xs ++ y ∷ ys → ⊥
nil-cons [] y ys is = cc is
nil-cons (x ∷ xs) y ys is = cc is

pub none-at-first : (s log me : ℕ) → HasNoneOpen s log me []
none-at-first s log me it mine k = nil-cons k.idle.during _ k.front k.idle.grew

pub keeps-walked : (s log me : ℕ) (old new : List Entry) → PassKeepsForm s log me old new → Walked (KeepsForm s log) me old new
keeps-walked s log me old new k = record { during = k.during; grew = k.grew; each = k.each }

pub updated-by : (s log : ℕ) (past : List Entry) → ((me : ℕ) → PassKeepsForm s log me [] past) → IsUpdated s log past
updated-by s log past keeps = updated-stand s log past (all-stand (KeepsForm s log) (unpassed-keeps s log) [] past (λ me. keeps-walked s log me [] past (keeps me)) tt)

-- ---- the stream's log is set by its line

log-set : (s log : ℕ) (r : Reply) (h : List Effect) → log_of (Did 0 (call.SetLog (first_object_of s) log) r ∷ h) ≡ Some log
unfolding log_of
log-set s log r h = refl

module _ (u : Setup) (s log : ℕ) (stream : StreamLine) (logged : stream.log ≡ Some log) where
  -- it was set at a moment
  record WasSet (past : List Entry) : Type 0 where
    moment : List Entry
    since : HasSeen moment past
    set : log_of (history moment s) ≡ Some log

  set-later : (old new : List Entry) → HasSeen old new → WasSet old → WasSet new
  set-later old new seen was = record { moment = was.moment; since = grew-then was.moment old new was.since seen; set = was.set }

  set-done : (r : Reply) (old new : List Entry) → IsDone 0 (call.SetLog (first_object_of s) log) r old new → WasSet new
  set-done r old new left = record { moment = e ∷ front; since = seen; set = set }
    where
      it : Call
      it = call.SetLog (first_object_of s) log

      front : List Entry
      front = left.earlier ++ old

      e : Entry
      e = entry.Call 0 left.placed.nth (Some s) it (outcome.Done r)

      seen : HasSeen (e ∷ front) new
      seen = record {
        later = left.placed.later;
        grew = left.placed.grew ∙ ap (λ (o : Option ℕ). left.placed.later ++ (entry.Call 0 left.placed.nth o it (outcome.Done r) ∷ front)) left.placed.filed;
      }

      set : log_of (history (e ∷ front) s) ≡ Some log
      set = ap log_of (history-effect e front s (Some (Did 0 it r)) (call-effect 0 left.placed.nth s it r)) ∙ log-set s log r (history front s)

  set-logged : (it : Call) (old new : List Entry) → LoggedOpening u s it (Some log) (answer.Given reply.Unit) old new → WasSet new
  set-logged it old new (inl refused) = absurd (cc refused.1)
  set-logged it old new (inr done) = set-done reply.Unit done.0 new done.2

  set-log : (it : Call) (old new : List Entry) → LoggedOpening u s it stream.log (answer.Given reply.Unit) old new → WasSet new
  set-log it old new opened = set-logged it old new (subst (λ (o : Option ℕ). LoggedOpening u s it o (answer.Given reply.Unit) old new) logged opened)

  set-recorded : (read : Option StreamRecord) (old new : List Entry) → RecordedOpening u s stream read (answer.Given reply.Unit) old new → WasSet new
  set-recorded None old new opened = set-log _ old new opened
  set-recorded (Some (V2 size valid)) old new opened = set-log _ old new opened
  set-recorded (Some (V1 size)) old new (inl refused) = absurd (cc refused.1)
  set-recorded (Some (V1 size)) old new (inr done) =
      set-later done.0 new (seen-settle u (first_object_of s) (Ok done.2.0) done.0 new done.2.1) (set-log _ old done.0 done.1)

  set-opening : (stored : Bool) (old new : List Entry) → StreamOpening u s stream stored (answer.Given reply.Unit) old new → WasSet new
  set-opening false old new opened = set-log _ old new opened
  set-opening true old new (inl unread) = absurd (cc unread.1)
  set-opening true old new (inr is) = set-recorded is.read is.loaded new is.opened

  set-behind : (refused : Option CcError) (old new : List Entry) → OpeningBehind u s stream refused (answer.Given reply.Unit) old new → WasSet new
  set-behind (Some e) old new opened = absurd (cc opened.0)
  set-behind None old new opened = set-opening stream.stored old new opened

-- ---- the lines of pass 0

module _ (u : Setup) (whole : List Entry) (good : IsGoodSoFar u whole) (s log : ℕ) where
  abbrev First : List Entry → List Entry → Type 0
  First old new = Beside u whole good s log [] ⊥ (λ never. absurd never) 0 old new

  first-line : (t : ℕ) (stream : StreamLine) → (t ≡ s → stream.log ≡ Some log) → (refused : Option CcError) (told : Answer) (old new : List Entry) → OpeningBehind u t stream refused told old new → First old new
  first-line t stream logged refused told old new opened =
      follow-behind u _ First (beside-follows u whole good s log [] ⊥ (λ never. absurd never) 0) t stream (λ handle is. (tt, sets handle is (t == s) refl)) (beside-settle u whole good s log [] ⊥ (λ never. absurd never) 0 (first_object_of t))
      refused told old new (λ read. (inr (inl refl), tt)) opened
    where
      some-same : (a b : ℕ) → Some a ≡ Some b → a ≡ b
      some-same a b is = cc is

      sets : (handle : ℕ) → stream.log ≡ Some handle → (b : Bool) → (t == s) ≡ b → ((t == s) ≡ false) ⊎ (handle ≡ log)
      sets handle is true same = inr (some-same handle log (sym is ∙ logged (eqb-true t s same)))
      sets handle is false apart = inl apart

  first-opened : (restarts : List RestartLine) (ended : List LineReply) (t : ℕ) (streams : List StreamLine) (replies : List LineReply) (old new : List Entry) → ((n : ℕ) (stream : StreamLine) → t + n ≡ s → slice_get streams n ≡ Some stream → stream.log ≡ Some log) →
      Opened u restarts ended t streams replies old new → First old new
  first-opened restarts ended t [] [] old new logged opened = beside-idle u whole good s log [] ⊥ (λ never. absurd never) 0 old new opened
  first-opened restarts ended t [] (reply ∷ replies) old new logged opened = absurd opened
  first-opened restarts ended t (stream ∷ streams) [] old new logged opened = absurd opened
  first-opened restarts ended t (stream ∷ streams) (reply ∷ replies) old new logged opened =
      beside-then u whole good s log [] ⊥ (λ never. absurd never) 0 old opened.0 new
      (first-line t stream (λ same. logged 0 stream (omega (arith, same)) refl) (refused_for stream.log restarts ended) reply.answer old opened.0 opened.1.opened)
      (first-opened restarts ended (suc t) streams replies opened.0 new (λ n other is at. logged (suc n) other (omega (arith, is)) at) opened.2)

-- ---- runs

module _ (u : Setup) (given : GivenToRun) (told : Answered) (taken : List Request) (past : List Entry) (is : IsExplained u given told taken past) (good : IsGoodSoFar u past) (s log : ℕ) (stream : StreamLine)
    (at : slice_get given.streams s ≡ Some stream) (logged : stream.log ≡ Some log) where
  abbrev Before : ℕ → List Entry → List Entry → Type 0
  Before me old new = Beside u past good s log [] ⊥ (λ never. absurd never) me old new

  -- what pass 0 did keeps the form, and nobody else did anything
  before-begun : (n : ℕ) → Before n [] is.begun
  before-begun n = each n
    where
      some-same : (a b : StreamLine) → Some a ≡ Some b → a ≡ b
      some-same a b same = cc same

      its : (n : ℕ) (other : StreamLine) → 0 + n ≡ s → slice_get given.streams n ≡ Some other → other.log ≡ Some log
      its n other same there =
          let number : n ≡ s = omega (arith, same) in
          let its_line : other ≡ stream = some-same other stream (sym there ∙ (ap (slice_get given.streams) number ∙ at)) in
          ap (λ (l : StreamLine). l.log) its_line ∙ logged

      first : Before 0 [] is.begun
      first =
          beside-then u past good s log [] ⊥ (λ never. absurd never) 0 [] is.restarted is.begun
          (follow-restarts u _ (Before 0) (beside-follows u past good s log [] ⊥ (λ never. absurd never) 0) given.restarts is.ended [] is.restarted is.restarts_ended)
          (first-opened u past good s log given.restarts is.ended 0 given.streams is.setup is.restarted is.begun its is.opened)

      each : (n : ℕ) → Before n [] is.begun
      each n =
          all-begun u Before (beside-idle u past good s log [] ⊥ (λ never. absurd never)) (beside-then u past good s log [] ⊥ (λ never. absurd never)) is.begun first is.alone n

  pub begun-keeps : (me : ℕ) → KeepsAll s log me [] is.begun
  begun-keeps me = (before-begun me).1 (seen-none []) (phases-seen u past good s given told taken is) (none-at-first s log me)

  begun-updated : IsUpdated s log is.begun
  begun-updated = updated-by s log is.begun (λ me. (begun-keeps me).0)

  -- where no line of a caller initialises the stream, and none is a checkpoint of the log
  pub updates-kept : AllByRecursion (λ (each : Action × Answer). (left_to_updates s log each.0 each.1 ≡ true) × (checkpoints log each.0 ≡ false) × (⊥ ⊎ (initialises s each.0 ≡ false))) (asked_of (λ line. true) given.lines is.answers) → IsUpdated s log past
  updates-kept leaves = updated-by s log past (λ me. ((whole me).1 (seen-none []) (seen-none past) (none-at-first s log me)).0)
    where
      whole : (n : ℕ) → Before n [] past
      whole n =
          beside-then u past good s log [] ⊥ (λ never. absurd never) n [] is.begun past (before-begun n)
          (ran-answered u Before (beside-idle u past good s log [] ⊥ (λ never. absurd never)) (beside-then u past good s log [] ⊥ (λ never. absurd never))
          (beside-tick u past good s log [] ⊥ (λ never. absurd never)) (beside-step u past good s log [] ⊥ (λ never. absurd never))
          (λ asked told_it. (left_to_updates s log asked told_it ≡ true) × (checkpoints log asked ≡ false) × (⊥ ⊎ (initialises s asked ≡ false))) (beside-served u past good s log [] ⊥ (λ never. absurd never))
          (record { lines = given.lines; answers = is.answers; ticks = given.ticks; aheads = given.aheads }) leaves 1 given.phases told.ticked told.stepped taken is.begun past is.ran n)

-- of which the stream's line was done
module _ (u : Setup) (given : GivenToRun) (told : Answered) (taken : List Request) (past : List Entry) (is : IsExplained u given told taken past) (good : IsGoodSoFar u past) (s log : ℕ) (stream : StreamLine) (line : LineReply)
    (at : slice_get given.streams s ≡ Some stream) (answered : slice_get told.replies (length given.restarts + s) ≡ Some line) (logged : stream.log ≡ Some log) (done : line.answer ≡ answer.Given reply.Unit) where
  piece : PieceOf u s stream (refused_for stream.log given.restarts is.ended) (answer.Given reply.Unit) is.restarted is.begun
  piece =
      subst (λ (a : Answer). PieceOf u s stream (refused_for stream.log given.restarts is.ended) a is.restarted is.begun) done
      (piece-at u s stream given.restarts is.ended 0 s given.streams is.setup line is.restarted is.begun (omega arith) is.opened at (setup-line u given told taken past is s stream line at answered))

  pub begun-had : had_map (history is.begun s) ≡ true
  begun-had = had-seen u s piece.last is.begun piece.until (behind-had u s stream (refused_for stream.log given.restarts is.ended) piece.first piece.last piece.opened)

  pub begun-logged : log_of (history is.begun s) ≡ Some log
  begun-logged =
      let was = set-later u s log stream logged piece.last is.begun piece.until (set-behind u s log stream logged (refused_for stream.log given.restarts is.ended) piece.first piece.last piece.opened) in
      subst (λ (l : List Entry). log_of (history l s) ≡ Some log) (sym was.since.grew)
      (log-stays s log was.since.later was.moment (subst (IsUpdated s log) was.since.grew (begun-updated u given told taken past is good s log stream at logged)) was.set)

  abbrev Behind : ℕ → List Entry → List Entry → Type 0
  Behind me old new = Beside u past good s log is.begun (Unit {0}) (λ was. begun-had) me old new

  -- where no line is a checkpoint of the log
  pub updates-alone : AllByRecursion (λ (each : Action × Answer). (left_to_updates s log each.0 each.1 ≡ true) × (checkpoints log each.0 ≡ false) × (Unit {0} ⊎ (initialises s each.0 ≡ false))) (asked_of (λ line. true) given.lines is.answers) → IsUpdated s log past
  updates-alone leaves = updated-by s log past (λ me. (all-then s log me [] is.begun past (begun-keeps u given told taken past is good s log stream at logged me) (λ none. (behind me).1 (seen-none is.begun) (seen-none past) none)).0)
    where
      behind : (n : ℕ) → Behind n is.begun past
      behind n =
          ran-answered u Behind (beside-idle u past good s log is.begun (Unit {0}) (λ was. begun-had)) (beside-then u past good s log is.begun (Unit {0}) (λ was. begun-had))
          (beside-tick u past good s log is.begun (Unit {0}) (λ was. begun-had)) (beside-step u past good s log is.begun (Unit {0}) (λ was. begun-had))
          (λ asked told_it. (left_to_updates s log asked told_it ≡ true) × (checkpoints log asked ≡ false) × (Unit {0} ⊎ (initialises s asked ≡ false))) (beside-served u past good s log is.begun (Unit {0}) (λ was. begun-had))
          (record { lines = given.lines; answers = is.answers; ticks = given.ticks; aheads = given.aheads }) leaves 1 given.phases told.ticked told.stepped taken is.begun past is.ran n
