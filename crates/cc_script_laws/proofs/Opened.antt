-- With which sizes a stream of a run was first initialised: those of its record, or else of its line, where no line of a caller
-- initialises it before.
use Rattle.std.specs.Prelude.{◌≡◌, ◌≢◌, ℕ, suc, ◌<◌, Bool, true, false, List, [], ◌∷◌, ◌++◌, Result, refl}
use Rattle.std.specs.declared.option.Option.{Option}
use Rattle.std.specs.declared.option.Option.TheVariants.{Some, None}
use Rattle.std.proofs.Common.{ap, sym, subst, ◌∙◌, arith, eq-eqb}
use Rattle.cc_entry.specs.Place.{File}
use Rattle.cc_entry.specs.declared.answer.Answer.{Answer}
use Rattle.cc_entry.specs.declared.answer.LineReply.{LineReply}
use Rattle.cc_entry.specs.declared.call.Call.{Call}
use Rattle.cc_entry.specs.declared.call.Call.TheVariants as call
use Rattle.cc_entry.specs.declared.entry.Entry.{Entry}
use Rattle.cc_entry.specs.declared.entry.Entry.TheVariants as entry
use Rattle.cc_entry.specs.declared.error.CcError.{CcError}
use Rattle.cc_entry.specs.declared.place.FileSizes.{FileSizes}
use Rattle.cc_entry.specs.declared.place.FileState.{FileState}
use Rattle.cc_entry.specs.declared.place.Request.{Request}
use Rattle.cc_entry.specs.declared.reply.Outcome.{Outcome}
use Rattle.cc_entry.specs.declared.reply.Outcome.TheVariants as outcome
use Rattle.cc_entry.specs.declared.reply.Reply.{Reply}
use Rattle.cc_script.specs.declared.script.Action.{Action}
use Rattle.cc_script.specs.declared.script.Action.TheVariants as action
use Rattle.cc_script.specs.declared.script.RestartLine.{RestartLine}
use Rattle.cc_script.specs.declared.script.StreamLine.{StreamLine}
use Rattle.cc_laws.proofs.FirstMap.{IsFirst-steady}
use Rattle.cc_laws.proofs.HistorySteps.{history-effect}
use Rattle.cc_laws.proofs.SizeSteps.{sizes-opens_anew}
use Rattle.cc_laws.proofs.SteadyPasts.{IsSteady-good}
use Rattle.cc_model.specs.Acts.{file_of}
use Rattle.cc_model.specs.Filing.{IsFiled}
use Rattle.cc_model.specs.Good.{IsGoodSoFar}
use Rattle.cc_model.specs.History.{Effect, Did, CameIn, WentOut, Began, Ended, Synced, effect_of, history}
use Rattle.cc_model.specs.Holds.{Hold}
use Rattle.cc_model.specs.Objects.{had_map}
use Rattle.cc_model.specs.Passes.{pass_of}
use Rattle.cc_model.specs.Records.{first_valid}
use Rattle.cc_model.specs.Setup.{Setup}
use Rattle.cc_model.specs.Sizes.{Sizes}
use Rattle.cc_model.specs.Touches.{size_of}
use Rattle.cc_records.proofs.FirstMaps.{first_valid-opens, unmapped-never}
use Rattle.cc_records.specs.Left.{SettleLeft}
use Rattle.cc_restart_laws.proofs.Contents.{first-more, size-more}
use Rattle.cc_restart_laws.proofs.Entries.{IsCall, did-entry, good-tail, updated-tail}
use Rattle.cc_restart_laws.specs.Updates.{IsUpdated}
use Rattle.cc_pieces.specs.Answered.{AheadAnswered, TickAnswered}
use Rattle.cc_pieces.specs.Bindings.{Binding}
use Rattle.cc_pieces.specs.Openings.{Opened, OpeningBehind, first_object_of}
use Rattle.cc_pieces.specs.Phases.{lazy_writer, read_ahead_worker}
use Rattle.cc_pieces.specs.Restarts.{refused_for}
use Rattle.cc_pieces.specs.Served.{Served}
use Rattle.cc_script_laws.specs.Told.{initialises}
use Rattle.cc_script_laws.proofs.LineWalks.{Admits, Follows, IsNcWriteOf, IsReadOf, IsUpdateOf, IsWriteOf, IsCheckpointOf, follow-ahead, follow-checkpoint-left, follow-served, follow-settle-left, follow-tick, follow-update-left, is_plain}
use Rattle.cc_script_laws.proofs.RunWalks.{AllStand, Walked, follow-behind, walked-entry, walked-idle, walked-then}

clash : {b : Bool} → b ≡ true → b ≡ false → ⊥
clash a b = cc

-- ---- entries that initialise the stream

-- a done initialise of the stream has these sizes
abbrev pub OpensCall : ℕ → FileSizes → Call → Outcome → Option ℕ → Type 0
OpensCall s sizes (call.Initialise file given quota temporary) (outcome.Done reply) (Some t) = t ≡ s → given ≡ sizes
OpensCall s sizes other ended stream = Unit {0}

abbrev pub OpensWith : ℕ → FileSizes → List Entry → Entry → Type 0
OpensWith s sizes past (entry.Call pass nth stream it ended) = OpensCall s sizes it ended stream
OpensWith s sizes past other = Unit {0}

-- so a call does where it is one
abbrev pub OpensAs : ℕ → FileSizes → Call → Type 0
OpensAs s sizes (call.Initialise file given quota temporary) = file.stream ≡ s → given ≡ sizes
OpensAs s sizes other = Unit {0}

plain-opens : (s : ℕ) (sizes : FileSizes) (past : List Entry) (e : Entry) → is_plain e ≡ true → OpensWith s sizes past e
plain-opens s sizes past (entry.Call pass nth stream it ended) plain = absurd (cc plain)
plain-opens s sizes past other plain = tt

pub unpassed-opens : (s : ℕ) (sizes : FileSizes) (past : List Entry) (e : Entry) → pass_of e ≡ None → OpensWith s sizes past e
unpassed-opens s sizes past (entry.Call pass nth stream it ended) none = absurd (cc none)
unpassed-opens s sizes past other none = tt

some-same : (a b : ℕ) → Some a ≡ Some b → a ≡ b
some-same a b is = cc is

called-opens : (s : ℕ) (sizes : FileSizes) (me : ℕ) (holds : List Hold) (it : Call) (ended : Outcome) (stream : Option ℕ) → OpensAs s sizes it → IsFiled holds me stream it (file_of it) → OpensCall s sizes it ended stream
called-opens s sizes me holds (call.Initialise file given quota temporary) (outcome.Done reply) (Some t) opens filed = λ is. opens (sym (some-same t file.stream filed) ∙ is)
called-opens s sizes me holds (call.Initialise file given quota temporary) (outcome.Done reply) None opens filed = tt
called-opens s sizes me holds (call.Initialise file given quota temporary) (outcome.Failed e) stream opens filed = tt
called-opens s sizes me holds other ended stream opens filed = tt

module _ (u : Setup) (s : ℕ) (sizes : FileSizes) where
  abbrev pub OpensSo : ℕ → List Entry → List Entry → Type 0
  OpensSo me old new = Walked (OpensWith s sizes) me old new

  pub opens-follows : (me : ℕ) → Follows me (OpensAs s sizes) (OpensSo me)
  opens-follows me = record {
    idle = λ old new idle. walked-idle (OpensWith s sizes) me old new idle;
    joins = λ old between new first second. walked-then (OpensWith s sizes) me old between new first second;
    plain = λ e past plain own. walked-entry (OpensWith s sizes) me e past (plain-opens s sizes past e plain);
    called = λ it ended nth stream past makes filed.
        walked-entry (OpensWith s sizes) me (entry.Call me nth stream it ended) past (called-opens s sizes me _ it ended stream makes filed);
  }

  by-read : (file : File) (it : Call) → IsReadOf file it → OpensAs s sizes it
  by-read file (call.Initialise other given quota temporary) is = absurd is
  by-read file other is = tt

  by-write : (file : File) (it : Call) → IsWriteOf file it → OpensAs s sizes it
  by-write file (call.Initialise other given quota temporary) is = absurd is
  by-write file other is = tt

  by-nc-write : (file : File) (it : Call) → IsNcWriteOf file it → OpensAs s sizes it
  by-nc-write file (call.Initialise other given quota temporary) is = absurd is
  by-nc-write file other is = tt

  by-update : (file : File) (it : Call) → IsUpdateOf file it → OpensAs s sizes it
  by-update file (call.Initialise other given quota temporary) is = absurd is
  by-update file other is = tt

  by-checkpoint : (it : Call) → IsCheckpointOf it → OpensAs s sizes it
  by-checkpoint (call.Initialise other given quota temporary) is = absurd is
  by-checkpoint other is = tt

  pub opens-settle : (me : ℕ) (file : File) (answered : Result FileState CcError) (old new : List Entry) → SettleLeft u me file answered old new → OpensSo me old new
  opens-settle me file answered old new left =
      follow-settle-left u me (OpensAs s sizes) (OpensSo me) (opens-follows me) file tt tt
      (λ told begun first flushed front size valid end has idle is. walked-entry (OpensWith s sizes) me (entry.Record me file.stream size valid end) front tt) answered old new left

  opens-append : (me handle lsn : ℕ) (bytes : List ℕ) (past : List Entry) → OpensSo me past (entry.Append me handle lsn bytes ∷ past)
  opens-append me handle lsn bytes past = walked-entry (OpensWith s sizes) me (entry.Append me handle lsn bytes) past tt

  opens-admits : (me : ℕ) (asked : Action) → initialises s asked ≡ false → Admits u me (OpensAs s sizes) (OpensSo me) (opens-follows me) asked
  opens-admits me (action.Initialise file given quota temporary) apart = λ is. absurd (clash (eq-eqb file.stream s is) apart)
  opens-admits me (action.PinMapped word exclusive) apart = λ id. tt
  opens-admits me (action.HeldRead word at len) apart = ((λ id. tt), λ id. tt)
  opens-admits me (action.PinnedWrite word at bytes) apart = λ id. tt
  opens-admits me (action.SetDirty word lsn) apart = λ id. tt
  opens-admits me (action.Unpin word) apart = λ id. tt
  opens-admits me (action.Repin word made) apart = λ id. tt
  opens-admits me (action.UnpinRepinned word through) apart = ((λ id. tt), λ file span. tt)
  opens-admits me (action.MdlBytes word at len) apart = λ id. tt
  opens-admits me (action.MdlStore word at bytes) apart = λ id. tt
  opens-admits me (action.MdlDone word) apart = λ id. tt
  opens-admits me (action.MdlAbort word) apart = λ id. tt
  opens-admits me (action.NcRead file at len) apart = λ page. tt
  opens-admits me (action.NcWrite file at bytes) apart = by-nc-write file
  opens-admits me (action.Read file path at len) apart = by-read file
  opens-admits me (action.Write file at bytes) apart = by-write file
  opens-admits me (action.Update file at bytes) apart = (
    tt,
    λ answered first last left.
        follow-update-left u me (OpensAs s sizes) (OpensSo me) (opens-follows me) file at bytes (by-update file) (λ handle lsn past. opens-append me handle lsn _ past) answered first last left,
  )
  opens-admits me (action.Settle file) apart = opens-settle me file
  opens-admits me (action.Checkpoint streams handle) apart =
      λ answered first last left.
      follow-checkpoint-left u me (OpensAs s sizes) (OpensSo me) (opens-follows me) streams handle by-checkpoint (λ rows lsn past. opens-append me handle lsn _ past) answered first last left
  opens-admits me (action.Append handle bytes) apart = λ lsn past. opens-append me handle lsn bytes past
  opens-admits me action.AheadStep apart = λ request. tt
  opens-admits me action.Complete apart = λ file at len. tt
  opens-admits me other apart = tt

  pub opens-served : (me : ℕ) (bindings : List Binding) (asked : Action) (told : Answer) (old new : List Entry) → initialises s asked ≡ false → Served u me bindings asked told old new → OpensSo me old new
  opens-served me bindings asked told old new apart left =
      follow-served u me (OpensAs s sizes) (OpensSo me) (opens-follows me) bindings asked told old new (opens-admits me asked apart) left

  pub opens-tick : (told : Answer) (old new : List Entry) → TickAnswered lazy_writer told old new → OpensSo lazy_writer old new
  opens-tick told old new left = follow-tick u lazy_writer (OpensAs s sizes) (OpensSo lazy_writer) (opens-follows lazy_writer) told old new left

  pub opens-step : (taken : Option Request) (told : Answer) (old new : List Entry) → AheadAnswered u read_ahead_worker taken told old new → OpensSo read_ahead_worker old new
  opens-step taken told old new left =
      follow-ahead u read_ahead_worker (OpensAs s sizes) (OpensSo read_ahead_worker) (opens-follows read_ahead_worker) taken told old new (λ request. tt) left

  -- the lines of other streams
  pub opens-other : (t : ℕ) → t ≢ s → (stream : StreamLine) (refused : Option CcError) (told : Answer) (old new : List Entry) → OpeningBehind u t stream refused told old new → OpensSo 0 old new
  opens-other t other stream refused told old new opened =
      follow-behind u (OpensAs s sizes) (OpensSo 0) (opens-follows 0) t stream (λ handle is. tt) (opens-settle 0 (first_object_of t)) refused told old new (λ read is. absurd (other is)) opened

  pub opens-behind : (restarts : List RestartLine) (ended : List LineReply) (t : ℕ) (streams : List StreamLine) (replies : List LineReply) (old new : List Entry) → s < t → Opened u restarts ended t streams replies old new → OpensSo 0 old new
  opens-behind restarts ended t [] [] old new past_it opened = walked-idle (OpensWith s sizes) 0 old new opened
  opens-behind restarts ended t [] (reply ∷ replies) old new past_it opened = absurd opened
  opens-behind restarts ended t (stream ∷ streams) [] old new past_it opened = absurd opened
  opens-behind restarts ended t (stream ∷ streams) (reply ∷ replies) old new past_it opened =
      walked-then (OpensWith s sizes) 0 old opened.0 new
      (opens-other t (λ is. absurd (omega (arith, past_it, is))) stream (refused_for stream.log restarts ended) reply.answer old opened.0 opened.1.opened)
      (opens-behind restarts ended (suc t) streams replies opened.0 new (omega (arith, past_it)) opened.2)

-- ---- what follows where all entries are such

-- whether a call initialises
abbrev pub is_opening : Call → Bool
is_opening (call.Initialise file sizes quota temporary) = true
is_opening other = false

had-same : (pass : ℕ) (it : Call) (reply : Reply) (h : List Effect) → is_opening it ≡ false → had_map (Did pass it reply ∷ h) ≡ had_map h
unfolding had_map
had-same pass (call.Initialise file sizes quota temporary) reply h not_one = absurd (cc not_one)
had-same pass (call.PreparePin file at len true exclusive) reply h not_one = refl
had-same pass (call.PreparePin file at len false exclusive) reply h not_one = refl
had-same pass other reply h not_one = refl

-- an effect that is no call changes nothing of it
pub had-effect : (e : Entry) (past : List Entry) (s : ℕ) (o : Option Effect) → effect_of e s ≡ o → ((pass : ℕ) (it : Call) (reply : Reply) → o ≡ Some (Did pass it reply) → is_opening it ≡ false) → had_map (history (e ∷ past) s) ≡ had_map (history past s)
unfolding had_map
had-effect e past s None is none = ap had_map (history-effect e past s None is)
had-effect e past s (Some (Did pass it reply)) is none = ap had_map (history-effect e past s _ is) ∙ had-same pass it reply (history past s) (none pass it reply refl)
had-effect e past s (Some (CameIn pass page from_disk)) is none = ap had_map (history-effect e past s _ is)
had-effect e past s (Some (WentOut pass page)) is none = ap had_map (history-effect e past s _ is)
had-effect e past s (Some (Began pass page)) is none = ap had_map (history-effect e past s _ is)
had-effect e past s (Some (Ended pass page how)) is none = ap had_map (history-effect e past s _ is)
had-effect e past s (Some (Synced pass how)) is none = ap had_map (history-effect e past s _ is)

none-had : (s : ℕ) → had_map (history [] s) ≡ true → ⊥
unfolding history had_map
none-had s is = cc is

some-effect : (x y : Effect) → Some x ≡ Some y → x ≡ y
some-effect x y is = cc is

did-same : (pass other : ℕ) (it c : Call) (reply r : Reply) → Did pass it reply ≡ Did other c r → it ≡ c
did-same pass other it c reply r is = cc is

-- The stream has the sizes with which it was first initialised.
pub record HasSizes (s : ℕ) (sizes : FileSizes) (past : List Entry) : Type 0 where
  pub valid : first_valid (history past s) ≡ sizes.valid
  pub size : size_of (history past s) ≡ sizes.size

module _ (u : Setup) (s log : ℕ) (sizes : FileSizes) where
  pub sizes-more : (later past : List Entry) → IsGoodSoFar u (later ++ past) → IsUpdated s log (later ++ past) → had_map (history past s) ≡ true → HasSizes s sizes past → HasSizes s sizes (later ++ past)
  sizes-more later past good updated had has = record {
    valid = first-more u s log later past had ∙ has.valid;
    size = size-more u s log later past good updated had ∙ has.size;
  }

  sizes-first : (e : Entry) (past : List Entry) (pass : ℕ) (file : File) (given : FileSizes) (quota : ℕ) (temporary : Bool) (reply : Reply) → effect_of e s ≡ Some (Did pass (call.Initialise file given quota temporary) reply) → IsGoodSoFar u past → had_map (history past s) ≡ false → OpensWith s sizes past e → HasSizes s sizes (e ∷ past)
  sizes-first e past pass file given quota temporary reply is good never opens =
      let it : Call = call.Initialise file given quota temporary in
      let now = history-effect e past s (Some (Did pass it reply)) is in
      let k : IsCall e s pass it reply = did-entry e s pass it reply is in
      let same : given ≡ sizes = (subst (λ (x : Entry). OpensWith s sizes past x) k.is opens) refl in
      record {
        valid = ap first_valid now ∙ (first_valid-opens file given quota temporary pass it reply (history past s) refl never ∙ ap (λ (z : FileSizes). z.valid) same);
        size =
            ap size_of now
            ∙ (ap (λ (z : Sizes). z.size) (sizes-opens_anew {file = file} {given = given} {quota = quota} {temporary = temporary} pass it reply (history past s) refl (unmapped-never (history past s) (IsFirst-steady (history past s) (IsSteady-good u past s good) never)))
            ∙ ap (λ (z : FileSizes). z.size) same);
      }

  -- a stream that has had a map has such sizes
  pub sizes-stand : (past : List Entry) → IsGoodSoFar u past → IsUpdated s log past → AllStand (OpensWith s sizes) past → had_map (history past s) ≡ true → HasSizes s sizes past
  sizes-stand [] good updated all had = absurd (none-had s had)
  sizes-stand (e ∷ past) good updated all had = go (had_map (history past s)) refl (λ before. sizes-stand past (good-tail u e past good) (updated-tail s log e past updated) all.1 before)
    where
      none-of : (x : Effect) → Some x ≡ effect_of e s → ((pass : ℕ) (it : Call) (reply : Reply) → x ≡ Did pass it reply → is_opening it ≡ false) → had_map (history past s) ≡ false → HasSizes s sizes (e ∷ past)
      none-of x is not_one never = absurd (clash had (had-effect e past s (Some x) (sym is) (λ pass it reply same. not_one pass it reply (some-effect x (Did pass it reply) same)) ∙ never))

      by-call : (pass : ℕ) (it : Call) (reply : Reply) → effect_of e s ≡ Some (Did pass it reply) → is_opening it ≡ true → had_map (history past s) ≡ false → HasSizes s sizes (e ∷ past)
      by-call pass (call.Initialise file given quota temporary) reply is is_one never = sizes-first e past pass file given quota temporary reply is (good-tail u e past good) never all.0
      by-call pass other reply is is_one never = absurd (cc is_one)

      by-opening : (pass : ℕ) (it : Call) (reply : Reply) → effect_of e s ≡ Some (Did pass it reply) → (b : Bool) → is_opening it ≡ b → had_map (history past s) ≡ false → HasSizes s sizes (e ∷ past)
      by-opening pass it reply is true is_one never = by-call pass it reply is is_one never
      by-opening pass it reply is false not_one never = none-of (Did pass it reply) (sym is) (λ p c r same. ap is_opening (sym (did-same pass p it c reply r same)) ∙ not_one) never

      first : had_map (history past s) ≡ false → (o : Option Effect) → effect_of e s ≡ o → HasSizes s sizes (e ∷ past)
      first never None is = absurd (clash had (had-effect e past s None is (λ pass it reply not_one. absurd (cc not_one)) ∙ never))
      first never (Some (Did pass it reply)) is = by-opening pass it reply is (is_opening it) refl never
      first never (Some (CameIn pass page from_disk)) is = none-of (CameIn pass page from_disk) (sym is) (λ p c r not_one. absurd (cc not_one)) never
      first never (Some (WentOut pass page)) is = none-of (WentOut pass page) (sym is) (λ p c r not_one. absurd (cc not_one)) never
      first never (Some (Began pass page)) is = none-of (Began pass page) (sym is) (λ p c r not_one. absurd (cc not_one)) never
      first never (Some (Ended pass page how)) is = none-of (Ended pass page how) (sym is) (λ p c r not_one. absurd (cc not_one)) never
      first never (Some (Synced pass how)) is = none-of (Synced pass how) (sym is) (λ p c r not_one. absurd (cc not_one)) never

      go : (b : Bool) → had_map (history past s) ≡ b → (had_map (history past s) ≡ true → HasSizes s sizes past) → HasSizes s sizes (e ∷ past)
      go true before rest = sizes-more (e ∷ []) past good updated before (rest before)
      go false never rest = first never (effect_of e s) refl
