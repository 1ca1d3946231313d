-- A stream that has no map in a run: none of its lines initialises it, and no update of it has a record.
use Rattle.std.specs.Prelude.{◌≡◌, ℕ, zero, suc, ◌+◌, ◌==◌, Bool, true, false, List, [], ◌∷◌, ◌++◌, length, slice_get, refl, if◌then◌else◌}
use Rattle.std.specs.List.{AllByRecursion}
use Rattle.std.specs.declared.option.Option.{Option}
use Rattle.std.specs.declared.option.Option.TheVariants.{Some, None}
use Rattle.std.proofs.Common.{ap, sym, subst, ◌∙◌, arith}
use Rattle.cc_entry.specs.declared.answer.LineReply.{LineReply}
use Rattle.cc_entry.specs.declared.call.Call.{Call}
use Rattle.cc_entry.specs.declared.call.Call.TheVariants as call
use Rattle.cc_entry.specs.declared.entry.Entry.{Entry}
use Rattle.cc_entry.specs.declared.entry.Entry.TheVariants as entry
use Rattle.cc_entry.specs.declared.error.CcError.{CcError}
use Rattle.cc_entry.specs.declared.place.FileSizes.{FileSizes}
use Rattle.cc_entry.specs.declared.place.Request.{Request}
use Rattle.cc_entry.specs.declared.reply.Outcome.TheVariants as outcome
use Rattle.cc_entry.specs.declared.reply.Reply.{Reply}
use Rattle.cc_script.specs.declared.script.RestartLine.{RestartLine}
use Rattle.cc_script.specs.declared.script.StreamLine.{StreamLine}
use Rattle.cc_laws.proofs.FirstMap.{IsFirst-steady}
use Rattle.cc_laws.proofs.SizeSteps.{sizes-looks}
use Rattle.cc_laws.proofs.Steady.{IsSteady}
use Rattle.cc_laws.proofs.SteadyPasts.{IsSteady-good}
use Rattle.cc_model.specs.Good.{IsGoodSoFar}
use Rattle.cc_model.specs.History.{Effect, Did, CameIn, WentOut, Began, Ended, Synced, effect_of, history}
use Rattle.cc_model.specs.Holds.{Hold, hold_at, holds_of}
use Rattle.cc_model.specs.Objects.{had_map}
use Rattle.cc_model.specs.Passes.{HasSeen}
use Rattle.cc_model.specs.Setup.{Setup}
use Rattle.cc_model.specs.Sizes.{Sizes}
use Rattle.cc_model.specs.Touches.{size_of, sizes}
use Rattle.cc_records.proofs.FirstMaps.{had-before, looks-never}
use Rattle.cc_restart_laws.proofs.Entries.{IsCall, did-entry, updated-rest}
use Rattle.cc_restart_laws.proofs.Records.{may-append}
use Rattle.cc_restart_laws.specs.Updates.{IsUpdated}
use Rattle.cc_update_laws.specs.Keeping.{AreKnown, AreStamped}
use Rattle.cc_pieces.specs.Explained.{Answered, GivenToRun, IsExplained}
use Rattle.cc_pieces.specs.Openings.{Opened, OpeningBehind}
use Rattle.cc_pieces.specs.Restarts.{refusal_told, refused_for, refused_restart}
use Rattle.cc_script_laws.specs.Told.{initialises}
use Rattle.cc_script_laws.proofs.Growing.{good-seen, had-seen}
use Rattle.cc_script_laws.proofs.Numbered.{ended-long}
use Rattle.cc_script_laws.proofs.Opened.{OpensWith, had-effect, is_opening, opens-behind, opens-follows, opens-other, opens-served, opens-step, opens-tick, unpassed-opens}
use Rattle.cc_script_laws.proofs.RunWalks.{AllStand, Walked, all-begun, all-stand, follow-restarts, ran-phases, walked-idle, walked-then}

clash : {b : Bool} → b ≡ true → b ≡ false → ⊥
clash a b = cc

-- ---- what follows where the stream has had no map

-- nor had it one before
pub never-before : (u : Setup) (s : ℕ) (front past : List Entry) → HasSeen front past → had_map (history past s) ≡ false → had_map (history front s) ≡ false
never-before u s front past seen never = by (had_map (history front s)) refl
  where
    by : (b : Bool) → had_map (history front s) ≡ b → had_map (history front s) ≡ false
    by false is = is
    by true is = absurd (clash (had-seen u s front past seen is) never)

-- it has no size
size-never : (h : List Effect) → IsSteady h → had_map h ≡ false → size_of h ≡ 0
unfolding sizes had_map
size-never [] steady never = refl
size-never (Did pass it reply ∷ h) steady never =
    let before = had-before pass it reply h never in
    ap (λ (s : Sizes). s.size) (sizes-looks pass it reply h (looks-never pass it reply h steady before never)) ∙ size-never h steady.1 before
size-never (CameIn pass page from_disk ∷ h) steady never = size-never h steady.1 never
size-never (WentOut pass page ∷ h) steady never = size-never h steady.1 never
size-never (Began pass page ∷ h) steady never = size-never h steady.1 never
size-never (Ended pass page how ∷ h) steady never = size-never h steady.1 never
size-never (Synced pass how ∷ h) steady never = size-never h steady.1 never

pub unopened-known : (u : Setup) (s : ℕ) (past : List Entry) → IsGoodSoFar u past → had_map (history past s) ≡ false → AreKnown s past
unopened-known u s past good never p below =
    let none = size-never (history past s) (IsSteady-good u past s good) never in absurd (omega (arith, below, none))

-- and no update of it has a record, which would stand under a pin
no-hold : (holds : List Hold) (id : ℕ) (it : Hold) → holds ≡ [] → hold_at holds id ≡ Some it → ⊥
no-hold [] id it none found = cc found
no-hold (first ∷ holds) id it none found = cc none

pub unopened-stamped : (u : Setup) (s log : ℕ) (past : List Entry) → IsGoodSoFar u past → had_map (history past s) ≡ false → IsUpdated s log past → AreStamped s log past
unopened-stamped u s log past good never updated lsn has =
    let appended : Entry = entry.Append has.pass log lsn has.spelled in
    let there : IsUpdated s log (appended ∷ has.front) = updated-rest s log has.later (appended ∷ has.front) (subst (IsUpdated s log) has.splits updated) in
    let may = may-append s log has.pass lsn has.at has.bytes has.spelled has.front there has.said in
    let seen : HasSeen has.front past = record { later = has.later ++ appended ∷ []; grew = has.splits ∙ sym (again has.later appended has.front) } in
    let first = IsFirst-steady (history has.front s) (IsSteady-good u has.front s (good-seen u has.front past seen good)) (never-before u s has.front past seen never) in
    absurd (no-hold (holds_of (history has.front s)) may.hold may.pinned.it first.unheld may.pinned.found)
  where
    again : (later : List Entry) (e : Entry) (front : List Entry) → (later ++ e ∷ []) ++ front ≡ later ++ e ∷ front
    again [] e front = refl
    again (x ∷ later) e front = ap (λ (l : List Entry). x ∷ l) (again later e front)

-- ---- a stream that is not opened has none

-- what is initialised with every sizes is not initialised
not-opening : (s : ℕ) (it : Call) (reply : Reply) → ((n : ℕ) → OpensWith s (record { allocation = n; size = n; valid = n }) [] (entry.Call 0 0 (Some s) it (outcome.Done reply))) → is_opening it ≡ false
not-opening s (call.Initialise file given quota temporary) reply all =
    let zero_is : 0 ≡ given.size = sym (ap (λ (z : FileSizes). z.size) ((all 0) refl)) in
    let one_is : given.size ≡ 1 = ap (λ (z : FileSizes). z.size) ((all 1) refl) in
    absurd (omega (arith, zero_is, one_is))
not-opening s other reply all = refl

none-yet : (s : ℕ) → had_map (history [] s) ≡ false
unfolding history had_map
none-yet s = refl

never-had : (s : ℕ) (past : List Entry) → ((n : ℕ) → AllStand (OpensWith s (record { allocation = n; size = n; valid = n })) past) → had_map (history past s) ≡ false
never-had s [] all = none-yet s
never-had s (e ∷ past) all =
    had-effect e past s (effect_of e s) refl (λ pass it reply is. opens pass it reply is) ∙ never-had s past (λ n. (all n).1)
  where
    opens : (pass : ℕ) (it : Call) (reply : Reply) → effect_of e s ≡ Some (Did pass it reply) → is_opening it ≡ false
    opens pass it reply is =
        let k : IsCall e s pass it reply = did-entry e s pass it reply is in
        not-opening s it reply (λ n. subst (λ (x : Entry). OpensWith s (record { allocation = n; size = n; valid = n }) past x) k.is (all n).0)

-- its refusal is that which the replies of the restarts tell
refused-front : (handle : ℕ) (restarts : List RestartLine) (ended rest : List LineReply) → length ended ≡ length restarts → refused_restart handle restarts (ended ++ rest) ≡ refused_restart handle restarts ended
refused-front handle [] [] rest long = refl
refused-front handle [] (reply ∷ ended) rest long = absurd (omega (arith, long))
refused-front handle (restart ∷ restarts) [] rest long = absurd (omega (arith, long))
refused-front handle (restart ∷ restarts) (reply ∷ ended) rest long =
    ap (λ (o : Option CcError). if restart.handle == handle then refusal_told reply.answer else o) (refused-front handle restarts ended rest (omega (arith, long)))

-- the lines of the streams, of which this one's was refused so
opened-refused : (u : Setup) (s : ℕ) (sizes : FileSizes) (restarts : List RestartLine) (ended : List LineReply) (stream : StreamLine) (e : CcError) → refused_for stream.log restarts ended ≡ Some e → (t n : ℕ) (streams : List StreamLine) (replies : List LineReply) (old new : List Entry) → t + n ≡ s →
    slice_get streams n ≡ Some stream → Opened u restarts ended t streams replies old new → Walked (OpensWith s sizes) 0 old new
opened-refused u s sizes restarts ended stream e refused t n [] replies old new is at opened = absurd (cc at)
opened-refused u s sizes restarts ended stream e refused t n (first ∷ streams) [] old new is at opened = absurd opened
opened-refused u s sizes restarts ended stream e refused t n (first ∷ streams) (told ∷ replies) old new is at opened = by n is at (λ m its there. opened-refused u s sizes restarts ended stream e refused (suc t) m streams replies opened.0 new its there opened.2)
  where
    own : first ≡ stream → OpeningBehind u t first (refused_for first.log restarts ended) told.answer old opened.0 → Walked (OpensWith s sizes) 0 old opened.0
    own same left =
        let of_it : refused_for first.log restarts ended ≡ Some e = ap (λ (l : StreamLine). refused_for l.log restarts ended) same ∙ refused in
        walked-idle (OpensWith s sizes) 0 old opened.0 (subst (λ (o : Option CcError). OpeningBehind u t first o told.answer old opened.0) of_it left).1

    by : (n : ℕ) → t + n ≡ s → slice_get (first ∷ streams) n ≡ Some stream → ((m : ℕ) → suc t + m ≡ s → slice_get streams m ≡ Some stream → Walked (OpensWith s sizes) 0 opened.0 new) → Walked (OpensWith s sizes) 0 old new
    by zero is at later =
        walked-then (OpensWith s sizes) 0 old opened.0 new (own (cc at) opened.1.opened)
        (opens-behind u s sizes restarts ended (suc t) streams replies opened.0 new (omega (arith, is)) opened.2)
    by (suc m) is at later =
        walked-then (OpensWith s sizes) 0 old opened.0 new (opens-other u s sizes t (λ same. absurd (omega (arith, is, same))) first (refused_for first.log restarts ended) told.answer old opened.0 opened.1.opened)
        (later m (omega (arith, is)) at)

module _ (u : Setup) (given : GivenToRun) (told : Answered) (taken : List Request) (past : List Entry) (is : IsExplained u given told taken past) (s : ℕ) (stream : StreamLine) (e : CcError) (at : slice_get given.streams s ≡ Some stream)
    (refused : refused_for stream.log given.restarts told.replies ≡ Some e) (none : AllByRecursion (λ each. initialises s each.action ≡ false) given.lines) where
  refused-it : refused_for stream.log given.restarts is.ended ≡ Some e
  refused-it = by stream.log refused
    where
      by : (o : Option ℕ) → refused_for o given.restarts told.replies ≡ Some e → refused_for o given.restarts is.ended ≡ Some e
      by None none_is = none_is
      by (Some handle) some_is =
          sym (refused-front handle given.restarts is.ended (is.setup ++ is.answers) (ended-long u given told taken past is))
          ∙ (ap (refused_restart handle given.restarts) (sym is.replies_are) ∙ some_is)

  each : (sizes : FileSizes) (me : ℕ) → Walked (OpensWith s sizes) me [] past
  each sizes me =
      walked-then (OpensWith s sizes) me [] is.begun past
      (all-begun u (λ n. Walked (OpensWith s sizes) n) (walked-idle (OpensWith s sizes)) (walked-then (OpensWith s sizes)) is.begun
      (walked-then (OpensWith s sizes) 0 [] is.restarted is.begun (follow-restarts u _ _ (opens-follows u s sizes 0) given.restarts is.ended [] is.restarted is.restarts_ended)
      (opened-refused u s sizes given.restarts is.ended stream e refused-it 0 s given.streams is.setup is.restarted is.begun (omega arith) at is.opened)) is.alone me)
      (ran-phases u (λ n. Walked (OpensWith s sizes) n) (walked-idle (OpensWith s sizes)) (walked-then (OpensWith s sizes)) (opens-tick u s sizes) (opens-step u s sizes) (λ asked. initialises s asked ≡ false)
      (opens-served u s sizes) (record { lines = given.lines; answers = is.answers; ticks = given.ticks; aheads = given.aheads }) none 1 given.phases told.ticked told.stepped taken is.begun past is.ran me)

  pub unopened : had_map (history past s) ≡ false
  unopened = never-had s past (λ n. all-stand (OpensWith s (record { allocation = n; size = n; valid = n })) (unpassed-opens s (record { allocation = n; size = n; valid = n })) [] past (each (record { allocation = n; size = n; valid = n })) tt)
