-- What the passes have at the one queue of read-ahead of a run: what each did there, from the first entry to the last.
use Rattle.std.specs.Prelude.{◌≡◌, ◌≢◌, ℕ, zero, suc, ◌+◌, ◌-◌, ◌<◌, ◌≤◌, ◌==◌, ◌⊎◌, Bool, true, false, List, [], ◌∷◌, ◌++◌, length, map, drop, slice_get, Result, Ok, Err, refl, if◌then◌else◌}
use Rattle.std.specs.declared.option.Option.{Option}
use Rattle.std.specs.declared.option.Option.TheVariants.{Some, None}
use Rattle.std.specs.List.{AllByRecursion}
use Rattle.std.proofs.Common.{ap, sym, subst, ◌∙◌, append_assoc, arith, inl, inr}
use Rattle.std.proofs.lemmas.Bool.{ne_eqb}
use Rattle.std.proofs.lemmas.List.{append-nil, length-append, length-map}
use Rattle.std.proofs.lemmas.Nat.{mul-le}
use Rattle.cc_entry.specs.declared.answer.Answer.{Answer}
use Rattle.cc_entry.specs.declared.answer.Answer.TheVariants as answer
use Rattle.cc_entry.specs.declared.answer.LineReply.{LineReply}
use Rattle.cc_entry.specs.declared.entry.Entry.{Entry}
use Rattle.cc_entry.specs.declared.entry.Entry.TheVariants as entry
use Rattle.cc_entry.specs.declared.error.CcError.{CcError}
use Rattle.cc_entry.specs.declared.error.CcError.TheVariants as error
use Rattle.cc_entry.specs.declared.place.FileSizes.{FileSizes}
use Rattle.cc_format.specs.declared.record.StreamRecord.{StreamRecord}
use Rattle.cc_format.specs.declared.record.StreamRecord.TheVariants.{V1, V2}
use Rattle.cc_records.specs.Left.{LoadLeft}
use Rattle.cc_entry.specs.declared.place.Request.{Request}
use Rattle.cc_entry.specs.declared.reply.Reply.TheVariants as reply
use Rattle.cc_entry.specs.declared.query.Value.TheVariants as value
use Rattle.cc_script.specs.declared.script.Action.{Action}
use Rattle.cc_script.specs.declared.script.Action.TheVariants as action
use Rattle.cc_script.specs.declared.script.ActionLine.{ActionLine}
use Rattle.cc_script.specs.declared.script.RestartLine.{RestartLine}
use Rattle.cc_script.specs.declared.script.Script.{Script}
use Rattle.cc_script.specs.declared.script.StreamLine.{StreamLine}
use Rattle.cc_script.specs.Within.{IsLineWithin, ScriptIsWithin}
use Rattle.cc_model.specs.Setup.{Setup}
use Rattle.cc_effects.specs.Moments.{IsIdle}
use Rattle.cc_effects.proofs.Stretches.{idle-none, idle-then}
use Rattle.cc_lines.specs.Holds.{NamesState}
use Rattle.cc_lines.specs.Queues.{PlaceWent, hand_of, new_places}
use Rattle.cc_lines.specs.declared.queues.Queues.{Queues}
use Rattle.cc_pieces.specs.Explained.{Answered, GivenToRun}
use Rattle.cc_pieces.specs.Openings.{LoggedOpening, MigrationLeft, OpeningBehind, RecordedOpening, StreamOpening, first_object_of, opening_sizes, opening_with, said_sizes}
use Rattle.cc_pieces.specs.Phases.{TicksRan, is_of_phase, lazy_writer, read_ahead_worker}
use Rattle.cc_pieces.specs.Queue.{PlaceRan, AheadQueuePlace, answers_to, is_ask, is_step, lines_told, steps_told}
use Rattle.cc_pieces.specs.Restarts.{RestartEnded, refused_for}
use Rattle.cc_pieces.specs.Rooms.{is_alone, room_limit}
use Rattle.cc_pieces.specs.Runs.{Ran, asked_of}
use Rattle.cc_pieces.specs.Served.{Served}
use Rattle.cc_pieces.proofs.AskedLines.{asked-none}
use Rattle.cc_pieces.proofs.PlaceSteps.{PlaceTold, place-idle, place-other, place-then, queued, untouched}
use Rattle.cc_queue.specs.Places.{PlaceState, new_place}
use Rattle.cc_restarts.specs.declared.ended.LogRestart.{LogRestart}
use Rattle.cc_restarts.specs.declared.ended.Numbers.{Numbers}
use Rattle.cc_run.specs.Aheads.{step_lines}
use Rattle.cc_run.specs.Lines.{IsCaller, StreamsLeft, after_lines, asked_by_caller}
use Rattle.cc_program.specs.Runs.{given_of, run_answered}
use Rattle.cc_run.specs.Once.{AllTellPart, AreToldOnce, TellsPart}
use Rattle.cc_run.specs.Phases.{PhasesLeft, PhasesServed}
use Rattle.cc_run.specs.Places.{AreQueued, PlacesRan, or_rest, place_at, taken_at}
use Rattle.cc_program.specs.Restarting.{RestartsEnded, RestartsTold, TellsEnd, last_number}
use Rattle.cc_run.specs.Begun.{RunHasBegun}
use Rattle.cc_run.proofs.Begins.{kept-behind}
use Rattle.cc_run.proofs.LinesRan.{of_none}
use Rattle.cc_run.proofs.Lists.{all-back, all-front, all-map, below-or, there}
use Rattle.cc_run.proofs.PhaseSteps.{phases-steps}
use Rattle.cc_run.proofs.PlacesWent.{placed-since}
use Rattle.cc_run.proofs.ToldOnce.{told-parts}

-- ---- what has nothing to do with the queue

-- lines of which none is of the queue leave a place as no lines do
placed-none : (me : ℕ) (lines : List (Action × Answer)) (before after : AheadQueuePlace) (old new : List Entry) → answers_to is_step lines ≡ [] → answers_to is_ask lines ≡ [] → PlaceRan me lines before after old new → PlaceRan me [] before after old new
placed-none me lines before after old new no_step no_ask ran = record {
  during = ran.during;
  grew = ran.grew;
  pushed = ran.pushed;
  taken = ran.taken;
  took = ran.took;
  counted = rw no_step at ran.counted;
  served = ran.served;
  empties = rw no_step at ran.empties;
  fulls = rw no_ask at ran.fulls;
}

placed-line : (u : Setup) (me : ℕ) (asked : Action) (told : Answer) (place : AheadQueuePlace) (old new : List Entry) → is_ask asked ≡ false → is_step asked ≡ false → Served u me [] asked told old new → PlaceRan me [] place place old new
placed-line u me asked told place old new no_ask no_step left =
    placed-none me ((asked, told) ∷ []) place place old new (rw no_step refl) (rw no_ask refl)
    (place-other u me [] asked told place old new (rw (no_ask, no_step) refl) left)

-- the ticks of a phase
ticks-placed : (u : Setup) (limit phase : ℕ) (replies : List LineReply) (place : AheadQueuePlace) (old new : List Entry) → TicksRan u limit phase replies old new → PlaceRan lazy_writer [] place place old new
ticks-placed u limit phase [] place old new ran = place-idle lazy_writer place old new ran
ticks-placed u limit phase (reply ∷ replies) place old new ran =
    place-then lazy_writer [] [] place place place old ran.0 new (placed-line u lazy_writer action.Tick reply.answer place old ran.0 refl refl ran.2)
    (ticks-placed u limit phase replies place ran.0 new ran.4)

-- of all phases
lazy-placed : (u : Setup) (ticks aheads n : ℕ) (lines : List ActionLine) (replies ticked stepped : List LineReply) (taken : List Request) (place : AheadQueuePlace) (old new : List Entry) → PhasesLeft u ticks aheads n lines replies ticked stepped taken old new → PlaceRan lazy_writer [] place place old new
lazy-placed u ticks aheads zero lines replies ticked stepped taken place old new left =
    let same : new ≡ old = left.5 in
    rw same (place-idle lazy_writer place old old (idle-none lazy_writer old))
lazy-placed u ticks aheads (suc n) lines replies ticked stepped taken place old new left =
    place-then lazy_writer [] [] place place place old left.10 new (lazy-placed u ticks aheads n left.0 left.2 left.4 left.6 left.8 place old left.10 left.16)
    (ticks-placed u 32 (suc n) left.5 place left.10 new left.19.ran)

-- ---- the lines of the streams

logged-placed : (u : Setup) (s : ℕ) (stream : StreamLine) (sizes : FileSizes) (log : Option ℕ) (told : Answer) (place : AheadQueuePlace) (old new : List Entry) → LoggedOpening u s (opening_with s stream sizes) log told old new → PlaceRan 0 [] place place old new
logged-placed u s stream sizes log told place old new opened = by log opened
  where
    opening : Action
    opening = action.Initialise (first_object_of s) sizes stream.quota stream.temporary

    by : (log : Option ℕ) → LoggedOpening u s (opening_with s stream sizes) log told old new → PlaceRan 0 [] place place old new
    by None left = placed-line u 0 opening told place old new refl refl left
    by (Some handle) (inl failed) = placed-line u 0 opening (answer.Refused failed.0) place old new refl refl failed.2
    by (Some handle) (inr done) =
        place-then 0 [] [] place place place old done.0 new (placed-line u 0 opening (answer.Given reply.Unit) place old done.0 refl refl done.1)
        (placed-line u 0 (action.SetLog (first_object_of s) handle) told place done.0 new refl refl done.2)

-- the entry of a read of a record that failed
placed-unread : (s : ℕ) (place : AheadQueuePlace) (old : List Entry) → PlaceRan 0 [] place place old (entry.RecordFailed 0 s ∷ old)
placed-unread s place old = record {
  during = entry.RecordFailed 0 s ∷ [];
  grew = refl;
  pushed = sym (append-nil place.pushed);
  taken = [];
  took = sym (append-nil place.taken);
  counted = refl;
  served = tt;
  empties = refl;
  fulls = refl;
}

load-placed : {A : Type 0} (s : ℕ) (answered : Result A CcError) (place : AheadQueuePlace) (old new : List Entry) → LoadLeft 0 s answered old new → PlaceRan 0 [] place place old new
load-placed s (Ok told) place old new left = place-idle 0 place old new left
load-placed s (Err (error.ReadFault page)) place old new left =
    let failed = left.1 in
    let before : IsIdle 0 old (failed.earlier ++ old) = record { during = failed.earlier; grew = refl; others = failed.quiet_before } in
    let after : IsIdle 0 (entry.RecordFailed 0 s ∷ (failed.earlier ++ old)) new =
    record { during = failed.later; grew = failed.grew; others = failed.quiet_after } in
    place-then 0 [] [] place place place old (failed.earlier ++ old) new (place-idle 0 place old (failed.earlier ++ old) before)
    (place-then 0 [] [] place place place (failed.earlier ++ old) (entry.RecordFailed 0 s ∷ (failed.earlier ++ old)) new
    (placed-unread s place (failed.earlier ++ old)) (place-idle 0 place (entry.RecordFailed 0 s ∷ (failed.earlier ++ old)) new after))
load-placed s (Err (error.JournalFull entries)) place old new left = place-idle 0 place old new left
load-placed s (Err error.NoMemory) place old new left = place-idle 0 place old new left
load-placed s (Err other) place old new left = absurd left

migration-placed : (u : Setup) (s : ℕ) (told : Answer) (place : AheadQueuePlace) (old new : List Entry) → MigrationLeft u s told old new → PlaceRan 0 [] place place old new
migration-placed u s (answer.Given reply.Unit) place old new left =
    placed-line u 0 (action.Settle (first_object_of s)) (answer.Given (reply.Value (value.State left.0))) place old new refl refl left.1
migration-placed u s (answer.Refused e) place old new left =
    placed-line u 0 (action.Settle (first_object_of s)) (answer.Refused e) place old new refl refl left
migration-placed u s other place old new left = absurd left

recorded-placed : (u : Setup) (s : ℕ) (stream : StreamLine) (read : Option StreamRecord) (told : Answer) (place : AheadQueuePlace) (old new : List Entry) → RecordedOpening u s stream read told old new → PlaceRan 0 [] place place old new
recorded-placed u s stream None told place old new opened =
    logged-placed u s stream (opening_sizes stream None) stream.log told place old new opened
recorded-placed u s stream (Some (V2 size valid)) told place old new opened =
    logged-placed u s stream (opening_sizes stream (Some (V2 size valid))) stream.log told place old new opened
recorded-placed u s stream (Some (V1 size)) told place old new (inl refused) =
    logged-placed u s stream (opening_sizes stream (Some (V1 size))) stream.log told place old new refused.2
recorded-placed u s stream (Some (V1 size)) told place old new (inr done) =
    place-then 0 [] [] place place place old done.0 new
    (logged-placed u s stream (opening_sizes stream (Some (V1 size))) stream.log (answer.Given reply.Unit) place old done.0 done.1)
    (migration-placed u s told place done.0 new done.2)

opening-placed : (u : Setup) (s : ℕ) (stream : StreamLine) (stored : Bool) (told : Answer) (place : AheadQueuePlace) (old new : List Entry) → StreamOpening u s stream stored told old new → PlaceRan 0 [] place place old new
opening-placed u s stream false told place old new opened =
    logged-placed u s stream (said_sizes stream) stream.log told place old new opened
opening-placed u s stream true told place old new (inl unread) =
    load-placed {A = Option StreamRecord} s (Err unread.0) place old new unread.2
opening-placed u s stream true told place old new (inr is) =
    place-then 0 [] [] place place place old is.loaded new
    (load-placed {A = Option StreamRecord} s (Ok is.read) place old is.loaded is.load)
    (recorded-placed u s stream is.read told place is.loaded new is.opened)

behind-placed : (u : Setup) (s : ℕ) (stream : StreamLine) (refused : Option CcError) (told : Answer) (place : AheadQueuePlace) (old new : List Entry) → OpeningBehind u s stream refused told old new → PlaceRan 0 [] place place old new
behind-placed u s stream (Some e) told place old new opened = place-idle 0 place old new opened.1
behind-placed u s stream None told place old new opened = opening-placed u s stream stream.stored told place old new opened

streams-placed : (u : Setup) (restarts : List RestartLine) (ended : List LineReply) (s : ℕ) (streams : List StreamLine) (replies : List LineReply) (place : AheadQueuePlace) (old new : List Entry) → StreamsLeft u restarts ended s streams replies old new → PlaceRan 0 [] place place old new
streams-placed u restarts ended s [] [] place old new left =
    let same : new ≡ old = left in
    rw same (place-idle 0 place old old (idle-none 0 old))
streams-placed u restarts ended s [] (reply ∷ replies) place old new left = absurd left
streams-placed u restarts ended s (stream ∷ streams) [] place old new left = absurd left
streams-placed u restarts ended s (stream ∷ streams) (reply ∷ replies) place old new left =
    place-then 0 [] [] place place place old left.0 new (behind-placed u s stream (refused_for stream.log restarts ended) reply.answer place old left.0 left.1.opened) (streams-placed u restarts ended (suc s) streams replies place left.0 new left.2)

-- ---- the lines of the restarts

ended-placed : (u : Setup) (handle last updates : ℕ) (told : Answer) (place : AheadQueuePlace) (old new : List Entry) → RestartEnded u handle last updates told old new → PlaceRan 0 [] place place old new
ended-placed u handle zero updates (answer.Restarted n) place old new left = place-idle 0 place old new left.1
ended-placed u handle (suc last) updates (answer.Restarted n) place old new left =
    placed-line u 0 (action.LogFlush handle (suc last)) (answer.Given reply.Unit) place old new refl refl left.1.1
ended-placed u handle last updates (answer.Refused e) place old new left =
    placed-line u 0 (action.LogFlush handle last) (answer.Refused e) place old new refl refl left
ended-placed u handle last updates other place old new left = absurd left

end-placed : (u : Setup) (handle : ℕ) (ended : Result Numbers CcError) (told : Answer) (place : AheadQueuePlace) (old new : List Entry) → TellsEnd u handle ended told old new → PlaceRan 0 [] place place old new
end-placed u handle (Ok numbers) told place old new left = ended-placed u handle (last_number numbers.last) numbers.updates told place old new left
end-placed u handle (Err e) told place old new left = place-idle 0 place old new left.1

ends-placed : (u : Setup) (ended : List LogRestart) (replies : List LineReply) (place : AheadQueuePlace) (old new : List Entry) → RestartsEnded u ended replies old new → PlaceRan 0 [] place place old new
ends-placed u [] [] place old new left =
    let same : new ≡ old = left in
    rw same (place-idle 0 place old old (idle-none 0 old))
ends-placed u [] (reply ∷ replies) place old new left = absurd left
ends-placed u (one ∷ ended) [] place old new left = absurd left
ends-placed u (one ∷ ended) (reply ∷ replies) place old new left =
    place-then 0 [] [] place place place old left.0 new (end-placed u one.handle one.ended reply.answer place old left.0 left.1.told) (ends-placed u ended replies place left.0 new left.2)

-- a pass that has no lines, and is no worker
phases-idle : (u : Setup) (ticks aheads n me : ℕ) (lines : List ActionLine) (replies ticked stepped : List LineReply) (taken : List Request) (old new : List Entry) → me ≢ lazy_writer → me ≢ read_ahead_worker → ((line : ActionLine) → IsCaller line.caller → line.caller ≢ me) → AllByRecursion (λ line. IsCaller line.caller) lines → PhasesLeft u ticks aheads n lines replies ticked stepped taken old new → IsIdle me old new
phases-idle u ticks aheads zero me lines replies ticked stepped taken old new lazy ahead apart callers left =
    let same : new ≡ old = left.5 in
    rw same (idle-none me old)
phases-idle u ticks aheads (suc n) me lines replies ticked stepped taken old new lazy ahead apart callers left =
    let all : AllByRecursion (λ line. IsCaller line.caller) (left.0 ++ left.1) = subst (AllByRecursion (λ line. IsCaller line.caller)) left.11 callers in
    let limit = room_limit ticks aheads (is_alone (suc n) left.1) in
    let none = asked-none (is_of_phase (suc n) me) left.1 left.3 (of_none (suc n) me left.1 apart (all-back (λ line. IsCaller line.caller) left.0 left.1 all)) in
    let last : IsIdle me left.10 new = subst (λ l. Ran u limit me (after_lines left.0 left.2 (λ me. []) me) l left.10 new) none (left.18.ran me lazy ahead) in
    idle-then me old left.10 new
    (phases-idle u ticks aheads n me left.0 left.2 left.4 left.6 left.8 old left.10 lazy ahead apart (all-front (λ line. IsCaller line.caller) left.0 left.1 all) left.16)
    last

-- ---- what the lines of the queue are told is told still

same-told : (test : Action → Bool) (asked : Action) (told kept : Answer) → test action.Post ≡ false → TellsPart asked told kept → test asked ≡ true → kept ≡ told
same-told test action.Post told kept calm part is = absurd (cc (calm, is))
same-told test asked told kept calm part is = part

part-tells : (test : Action → Bool) (own : ActionLine → Bool) (lines : List ActionLine) (replies kept : List LineReply) → test action.Post ≡ false → AllTellPart lines replies kept → answers_to test (asked_of own lines kept) ≡ answers_to test (asked_of own lines replies)
part-tells test own [] [] [] calm part = refl
part-tells test own [] [] (reply ∷ kept) calm part = absurd part
part-tells test own [] (reply ∷ replies) kept calm part = absurd part
part-tells test own (line ∷ lines) [] kept calm part = absurd part
part-tells test own (line ∷ lines) (reply ∷ replies) [] calm part = absurd part
part-tells test own (line ∷ lines) (reply ∷ replies) (one ∷ kept) calm part = by (own line) (part-tells test own lines replies kept calm part.2)
  where
    after : List (Action × Answer)
    after = asked_of own lines kept

    before : List (Action × Answer)
    before = asked_of own lines replies

    told : (b : Bool) → test line.action ≡ b → answers_to test after ≡ answers_to test before → (if b then one.answer ∷ answers_to test after else answers_to test after) ≡ (if b then reply.answer ∷ answers_to test before else answers_to test before)
    told true is rest =
        ap (λ a. a ∷ answers_to test after) (same-told test line.action reply.answer one.answer calm part.1 is) ∙ ap (λ l. reply.answer ∷ l) rest
    told false is rest = rest

    by : (b : Bool) → answers_to test after ≡ answers_to test before → answers_to test (if b then (line.action, one.answer) ∷ after else after) ≡ answers_to test (if b then (line.action, reply.answer) ∷ before else before)
    by true rest = told (test line.action) refl rest
    by false rest = rest

-- no more answers than lines
few-answers : (test : Action → Bool) (lines : List (Action × Answer)) → length (answers_to test lines) ≤ length lines
few-answers test [] = omega arith
few-answers test (line ∷ lines) = by (test line.0) (few-answers test lines)
  where
    by : (b : Bool) → length (answers_to test lines) ≤ length lines → length (if b then line.1 ∷ answers_to test lines else answers_to test lines) ≤ suc (length lines)
    by true less = omega (arith, less)
    by false less = omega (arith, less)

pub few-asked : (own : ActionLine → Bool) (lines : List ActionLine) (replies : List LineReply) → length (asked_of own lines replies) ≤ length lines
few-asked own [] replies = omega arith
few-asked own (line ∷ lines) [] = omega arith
few-asked own (line ∷ lines) (reply ∷ replies) = by (own line) (few-asked own lines replies)
  where
    asked : List (Action × Answer)
    asked = asked_of own lines replies

    by : (b : Bool) → length asked ≤ length lines → length (if b then (line.action, reply.answer) ∷ asked else asked) ≤ suc (length lines)
    by true less = omega (arith, less)
    by false less = omega (arith, less)

-- ---- the worker's steps

steps-answered : (stepped : List LineReply) → answers_to is_step (step_lines stepped) ≡ map (λ reply. reply.answer) stepped
steps-answered [] = refl
steps-answered (reply ∷ stepped) = ap (λ l. reply.answer ∷ l) (steps-answered stepped)

steps-ask : (stepped : List LineReply) → answers_to is_ask (step_lines stepped) ≡ []
steps-ask [] = refl
steps-ask (reply ∷ stepped) = steps-ask stepped

-- ---- the places of all passes

-- those of the callers, of the lazy writer and of the read-ahead worker
abbrev pub all_places : List NamesState → PlaceState Request → PlaceState Request → List (PlaceState Request)
all_places rows lazy worker = map (λ (own : NamesState). own.places.ahead) rows ++ lazy ∷ worker ∷ []

caller-place : (rows : List NamesState) (lazy worker : PlaceState Request) (n : ℕ) (own : NamesState) → slice_get rows n ≡ Some own → slice_get (all_places rows lazy worker) n ≡ Some own.places.ahead
caller-place [] lazy worker n own at = absurd (cc at)
caller-place (row ∷ rows) lazy worker zero own at =
    let is : row ≡ own = cc at in
    ap (λ (c : NamesState). Some c.places.ahead) is
caller-place (row ∷ rows) lazy worker (suc n) own at = caller-place rows lazy worker n own at

behind-place : (rows : List NamesState) (lazy worker : PlaceState Request) (n k : ℕ) → n ≡ length rows + k → slice_get (all_places rows lazy worker) n ≡ slice_get (lazy ∷ worker ∷ []) k
behind-place [] lazy worker n k is =
    let same : n ≡ k = omega (arith, is) in
    ap (slice_get (lazy ∷ worker ∷ [])) same
behind-place (row ∷ rows) lazy worker zero k is = absurd (omega (arith, is))
behind-place (row ∷ rows) lazy worker (suc n) k is = behind-place rows lazy worker n k (omega (arith, is))

past-both : (lazy worker : PlaceState Request) (k : ℕ) → 2 ≤ k → or_rest (slice_get (lazy ∷ worker ∷ []) k) ≡ untouched
past-both lazy worker zero least = absurd (omega (arith, least))
past-both lazy worker (suc zero) least = absurd (omega (arith, least))
past-both lazy worker (suc (suc k)) least = refl

module _ (rows : List NamesState) (lazy worker : PlaceState Request) (sixteen : length rows ≡ 16) where
  pub all-long : length (all_places rows lazy worker) ≡ 18
  all-long =
      omega (arith, length-append (map (λ (own : NamesState). own.places.ahead) rows) (lazy ∷ worker ∷ []), length-map rows (λ (own : NamesState). own.places.ahead), sixteen)

  own-at : (n : ℕ) (own : NamesState) → slice_get rows n ≡ Some own → place_at (all_places rows lazy worker) (suc n) ≡ hand_of own.places.ahead
  own-at n own at = ap or_rest (caller-place rows lazy worker n own at)

  lazy-at : place_at (all_places rows lazy worker) lazy_writer ≡ hand_of lazy
  lazy-at = ap or_rest (behind-place rows lazy worker 16 0 (omega (arith, sixteen)))

  worker-at : place_at (all_places rows lazy worker) read_ahead_worker ≡ hand_of worker
  worker-at = ap or_rest (behind-place rows lazy worker 17 1 (omega (arith, sixteen)))

  none-at : (n : ℕ) → 18 ≤ n → place_at (all_places rows lazy worker) (suc n) ≡ untouched
  none-at n above =
      ap or_rest (behind-place rows lazy worker n (n - 16) (omega (arith, sixteen, above))) ∙ past-both lazy worker (n - 16) (omega (arith, above))

  pub taken-is : taken_at (all_places rows lazy worker) ≡ worker.taken
  taken-is = ap (λ p. p.taken) worker-at

-- a new place is untouched
fresh-at : (queues : Queues) (rows : List NamesState) (n : ℕ) (own : NamesState) → AllByRecursion (λ (own : NamesState). own.places ≡ new_places queues) rows → slice_get rows n ≡ Some own → hand_of own.places.ahead ≡ untouched
fresh-at queues [] n own fresh at = absurd (cc at)
fresh-at queues (row ∷ rows) zero own fresh at =
    let is : row ≡ own = cc at in
    ap (λ (c : NamesState). hand_of c.places.ahead) (sym is) ∙ ap (λ p. hand_of p.ahead) fresh.0
fresh-at queues (row ∷ rows) (suc n) own fresh at = fresh-at queues rows n own fresh.1 at

-- ---- a run

module _ (u v : Setup) (script : Script) (restarted : List LogRestart) (ended between replies all ticked stepped : List LineReply) (took : List Request) (ends begun past : List Entry) (was now : List NamesState) (lazy first worker : PlaceState Request) (queues : Queues) (within : ScriptIsWithin script) (begins : RunHasBegun u script restarted ended between ends begun) (served : PhasesServed v script.ticks script.aheads script.phases script.lines between replies ticked stepped took begun past) (told_once : AreToldOnce script.streams script.lines replies (drop (length script.restarts) all)) (placed : PlacesRan script.lines between replies was now begun past) (worked : PlaceWent 18 (step_lines stepped) first worker begun past) (sixteen_was : length was ≡ 16) (sixteen : length now ≡ 16) (fresh : AllByRecursion (λ (own : NamesState). own.places ≡ new_places queues) was) (fresh_lazy : lazy ≡ new_place queues.ahead) (fresh_first : first ≡ new_place queues.ahead) where
  abbrev given : GivenToRun
  given = given_of script

  abbrev told : Answered
  told = run_answered all ticked stepped

  abbrev places : List (PlaceState Request)
  places = all_places now lazy worker

  -- the replies of the lines
  abbrev lines_kept : List LineReply
  lines_kept = drop (length script.streams) (drop (length script.restarts) all)

  callers : AllByRecursion (λ line. IsCaller line.caller) script.lines
  callers = all-map (IsLineWithin script.streams script.phases) (λ line. IsCaller line.caller) script.lines (λ line is. record { first = is.first_caller; last = is.last_caller }) within.lines

  part : AllTellPart script.lines served.answers lines_kept
  part = subst (λ l. AllTellPart script.lines l lines_kept)
      (told-parts script.streams begins.opened.answers served.answers between replies begins.opened.grew served.grew setup_long) told_once.part
    where
      setup_long : length begins.opened.answers ≡ length script.streams
      setup_long = sym (length-map begins.opened.answers (λ r. r.line)) ∙ (ap length begins.opened.lines_are ∙ length-map script.streams (λ s. s.line))

  -- a pass without lines
  lines-none : (me : ℕ) → ((line : ActionLine) → IsCaller line.caller → line.caller ≢ me) → lines_told given told me ≡ []
  lines-none me apart =
      asked-none (λ line. line.caller == me) script.lines lines_kept
      (all-map (λ line. IsCaller line.caller) (λ line. (line.caller == me) ≡ false) script.lines (λ line is. ne_eqb line.caller me (apart line is)) callers)

  abbrev apart_from : ℕ → Type 0
  apart_from me = (line : ActionLine) → IsCaller line.caller → line.caller ≢ me

  steps-other : (me : ℕ) → me ≢ read_ahead_worker → steps_told given told me ≡ answers_to is_step (lines_told given told me)
  steps-other me other = rw (ne_eqb me read_ahead_worker other) refl

  no-lines : (me : ℕ) → me ≢ read_ahead_worker → apart_from me → PlaceRan me [] untouched (place_at places me) [] past → PlaceTold given told me (place_at places me) past
  no-lines me other apart ran = record {
    lines = [];
    ran = ran;
    steps = sym (steps-other me other ∙ ap (answers_to is_step) (lines-none me apart));
    asks = sym (ap (answers_to is_ask) (lines-none me apart));
    few_steps = omega arith;
    few_asks = omega arith;
  }

  -- pass 0, which opened the streams
  first-told : PlaceTold given told 0 (place_at places 0) past
  first-told =
      no-lines 0 (λ e. omega (arith, e)) (λ line caller same. omega (arith, caller.first, same))
      (place-then 0 [] [] untouched untouched untouched [] begun past
      (place-then 0 [] [] untouched untouched untouched [] ends begun (ends-placed u restarted ended untouched [] ends begins.ended_are)
      (streams-placed u script.restarts ended 0 script.streams begins.opened.answers untouched ends begun begins.opened.left))
      (place-idle 0 untouched begun past
      (phases-idle v script.ticks script.aheads script.phases 0 script.lines served.answers ticked stepped took begun past (λ e. omega (arith, e)) (λ e. omega (arith, e))
      (λ line caller same. omega (arith, caller.first, same)) callers served.left)))

  -- the caller of a number
  caller-told : (n : ℕ) → n < 16 → PlaceTold given told (suc n) (place_at places (suc n)) past
  caller-told n low =
      let a = there was n (omega (arith, low, sixteen_was)) in
      let b = there now n (omega (arith, low, sixteen)) in
      let own : ActionLine → Bool = λ line. line.caller == suc n in
      let lines = asked_by_caller (suc n) script.lines served.answers in
      let went = placed-since (suc n) lines a.0.places.ahead b.0.places.ahead [] begun past (begins.alone (suc n) (λ e. omega (arith, e))) (placed.each served.answers n a.0 b.0 served.grew a.1 b.1).ahead in
      let ran : PlaceRan (suc n) lines untouched (hand_of b.0.places.ahead) [] past =
      subst (λ p. PlaceRan (suc n) lines p (hand_of b.0.places.ahead) [] past) (fresh-at queues was n a.0 fresh a.1) went.ran in
      let asked = few-asked own script.lines served.answers in
      record {
        lines = lines;
        ran = subst (λ p. PlaceRan (suc n) lines untouched p [] past) (sym (own-at now lazy worker sixteen n b.0 b.1)) ran;
        steps = sym (steps-other (suc n) (λ e. omega (arith, e, low)) ∙ part-tells is_step own script.lines served.answers lines_kept refl part);
        asks = sym (part-tells is_ask own script.lines served.answers lines_kept refl part);
        few_steps = omega (arith, few-answers is_step lines, asked, within.few_lines);
        few_asks = omega (arith, few-answers is_ask lines, asked, within.few_lines);
      }

  -- the lazy writer, which ticks
  lazy-told : PlaceTold given told lazy_writer (place_at places lazy_writer) past
  lazy-told =
      no-lines lazy_writer (λ e. omega (arith, e)) (λ line caller same. omega (arith, caller.last, same))
      (subst (λ p. PlaceRan lazy_writer [] untouched p [] past) (sym (lazy-at now lazy worker sixteen ∙ ap hand_of fresh_lazy)) (place-then lazy_writer [] [] untouched untouched untouched [] begun past (place-idle lazy_writer untouched [] begun (begins.alone lazy_writer (λ e. omega (arith, e))))
      (lazy-placed v script.ticks script.aheads script.phases script.lines served.answers ticked stepped took untouched begun past served.left)))

  -- the read-ahead worker, whose steps are its lines
  worker-told : PlaceTold given told read_ahead_worker (place_at places read_ahead_worker) past
  worker-told =
      let went = placed-since read_ahead_worker (step_lines stepped) first worker [] begun past (begins.alone read_ahead_worker (λ e. omega (arith, e))) worked in
      let ran : PlaceRan read_ahead_worker (step_lines stepped) untouched (hand_of worker) [] past =
      subst (λ (p : PlaceState Request). PlaceRan read_ahead_worker (step_lines stepped) (hand_of p) (hand_of worker) [] past) fresh_first went.ran in
      let none = lines-none read_ahead_worker (λ line caller same. omega (arith, caller.last, same)) in
      let few = phases-steps v script.ticks script.aheads script.phases script.lines served.answers ticked stepped took begun past served.left in
      let most = mul-le script.aheads script.phases 1000 1001 within.header.most_aheads within.last_phase in
      let long : length (step_lines stepped) ≡ length stepped = length-map stepped (λ (one : LineReply). (action.AheadStep, one.answer)) in
      record {
        lines = step_lines stepped;
        ran = subst (λ p. PlaceRan read_ahead_worker (step_lines stepped) untouched p [] past) (sym (worker-at now lazy worker sixteen)) ran;
        steps = steps-answered stepped;
        asks = steps-ask stepped ∙ sym (ap (answers_to is_ask) none);
        few_steps = omega (arith, few-answers is_step (step_lines stepped), long, few, most);
        few_asks = omega (arith, few-answers is_ask (step_lines stepped), long, few, most);
      }

  -- no other pass
  other-told : (n : ℕ) → 18 ≤ n → PlaceTold given told (suc n) (place_at places (suc n)) past
  other-told n above =
      let apart : apart_from (suc n) = λ line caller same. omega (arith, caller.last, same, above) in
      no-lines (suc n) (λ e. omega (arith, e, above)) apart
      (subst (λ p. PlaceRan (suc n) [] untouched p [] past) (sym (none-at now lazy worker sixteen n above)) (place-idle (suc n) untouched [] past
      (idle-then (suc n) [] begun past (begins.alone (suc n) (λ e. omega (arith, e)))
      (phases-idle v script.ticks script.aheads script.phases (suc n) script.lines served.answers ticked stepped took begun past (λ e. omega (arith, e, above)) (λ e. omega (arith, e, above)) apart callers served.left))))

  each-told : (me : ℕ) → PlaceTold given told me (place_at places me) past
  each-told zero = first-told
  each-told (suc n) = by (below-or n 16) (below-or n 17) (below-or n 18)
    where
      by : (n < 16) ⊎ (16 ≤ n) → (n < 17) ⊎ (17 ≤ n) → (n < 18) ⊎ (18 ≤ n) → PlaceTold given told (suc n) (place_at places (suc n)) past
      by (inl low) second third = caller-told n low
      by (inr least) (inl low) third =
          let is : 16 ≡ n = omega (arith, least, low) in
          subst (λ k. PlaceTold given told (suc k) (place_at places (suc k)) past) is lazy-told
      by (inr least) (inr more) (inl low) =
          let is : 17 ≡ n = omega (arith, more, low) in
          subst (λ k. PlaceTold given told (suc k) (place_at places (suc k)) past) is worker-told
      by (inr least) (inr more) (inr above) = other-told n above

  pub are-queued : AreQueued given told places past
  are-queued = record {
    counted = all-long now lazy worker sixteen;
    queued = queued given told (place_at places) past each-told (taken_at places) refl;
  }

-- from where a run began
pub run-queued : (u v : Setup) (script : Script) (restarted : List LogRestart) (ended between replies kept all ticked stepped : List LineReply) (took : List Request) (ends begun past entries : List Entry) (was now : List NamesState) (lazy first worker : PlaceState Request) (places : List (PlaceState Request)) (queues : Queues) → ScriptIsWithin script → all ≡ ended ++ kept → entries ≡ past → places ≡ map (λ (own : NamesState). own.places.ahead) now ++ lazy ∷ worker ∷ [] → RunHasBegun u script restarted ended between ends begun → PhasesServed v script.ticks script.aheads script.phases script.lines between replies ticked stepped took begun past → AreToldOnce script.streams script.lines replies kept → PlacesRan script.lines between replies was now begun past → PlaceWent 18 (step_lines stepped) first worker begun past → length was ≡ 16 → length now ≡ 16 → AllByRecursion (λ (own : NamesState). own.places ≡ new_places queues) was → lazy ≡ new_place queues.ahead → first ≡ new_place queues.ahead → AreQueued (given_of script) (run_answered all ticked stepped) places entries
run-queued u v script restarted ended between replies kept all ticked stepped took ends begun past entries was now lazy first worker places queues within all_is same are begins served told placed worked sixteen_was sixteen fresh fresh_lazy fresh_first =
    rw (same, are) (are-queued u v script restarted ended between replies all ticked stepped took ends begun past was now lazy first worker queues within begins served
    (subst (AreToldOnce script.streams script.lines replies) (sym (kept-behind u script restarted ended between kept all ends begun begins all_is)) told) placed worked sixteen_was sixteen fresh fresh_lazy fresh_first)

-- so the run tells the restarts first
pub run-told : (u v : Setup) (script : Script) (restarted : List LogRestart) (ended between replies kept all ticked stepped : List LineReply) (took : List Request) (ends begun past : List Entry) → all ≡ ended ++ kept → RunHasBegun u script restarted ended between ends begun → PhasesServed v script.ticks script.aheads script.phases script.lines between replies ticked stepped took begun past → RestartsTold u restarted all past
run-told u v script restarted ended between replies kept all ticked stepped took ends begun past all_is begins served =
    let streams = streams-placed u script.restarts ended 0 script.streams begins.opened.answers untouched ends begun begins.opened.left in
    let phases = lazy-placed v script.ticks script.aheads script.phases script.lines served.answers ticked stepped took untouched begun past served.left in
    record {
      first = ended;
      others = kept;
      begun = ends;
      later = phases.during ++ streams.during;
      replies_are = all_is;
      grew = phases.grew ∙ (ap (λ l. phases.during ++ l) streams.grew ∙ sym (append_assoc phases.during streams.during ends));
      ended_are = begins.ended_are;
      alone = begins.ended_alone;
    }
