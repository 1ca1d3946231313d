-- What is said of two moments of a pass, where each piece of a run says it, is said of the run's begin and end; and what is said of each
-- entry that a pass placed is said of each entry of the journal.
use Rattle.std.specs.Prelude.{◌≡◌, ◌≢◌, ℕ, zero, suc, ◌==◌, Bool, true, false, List, [], ◌∷◌, ◌++◌, Result, Ok, Err, refl, if◌then◌else◌}
use Rattle.std.specs.declared.option.Option.{Option}
use Rattle.std.specs.declared.option.Option.TheVariants.{Some, None}
use Rattle.std.specs.List.{AllByRecursion}
use Rattle.std.proofs.Common.{ap, sym, subst, ◌∙◌, inl, inr, eq-eqb, append_assoc}
use Rattle.std.proofs.lemmas.Bool.{eqb-true, eqb-false}
use Rattle.std.proofs.lemmas.List.{append_cancel_right}
use Rattle.cc_entry.specs.declared.answer.Answer.{Answer}
use Rattle.cc_entry.specs.declared.answer.Answer.TheVariants as answer
use Rattle.cc_entry.specs.declared.answer.LineReply.{LineReply}
use Rattle.cc_entry.specs.declared.place.FileState.{FileState}
use Rattle.cc_entry.specs.declared.place.Request.{Request}
use Rattle.cc_entry.specs.declared.call.Call.{Call}
use Rattle.cc_entry.specs.declared.call.Call.TheVariants as call
use Rattle.cc_entry.specs.declared.entry.Entry.{Entry}
use Rattle.cc_entry.specs.declared.entry.Entry.TheVariants as entry
use Rattle.cc_entry.specs.declared.error.CcError.{CcError}
use Rattle.cc_entry.specs.declared.error.CcError.TheVariants as error
use Rattle.cc_entry.specs.declared.reply.Outcome.TheVariants as outcome
use Rattle.cc_entry.specs.declared.reply.Reply.TheVariants as reply
use Rattle.cc_format.specs.declared.record.StreamRecord.{StreamRecord}
use Rattle.cc_format.specs.declared.record.StreamRecord.TheVariants.{V1, V2}
use Rattle.cc_script.specs.declared.script.Action.{Action}
use Rattle.cc_script.specs.declared.script.ActionLine.{ActionLine}
use Rattle.cc_script.specs.declared.script.RestartLine.{RestartLine}
use Rattle.cc_script.specs.declared.script.StreamLine.{StreamLine}
use Rattle.cc_model.specs.Passes.{is_pass, pass_of}
use Rattle.cc_model.specs.Setup.{Setup}
use Rattle.cc_effects.specs.Moments.{EachOwn, IsIdle}
use Rattle.cc_effects.proofs.Stretches.{each-append, each-others}
use Rattle.cc_records.specs.Left.{LoadLeft, SettleLeft}
use Rattle.cc_pieces.specs.Answered.{AheadAnswered, TickAnswered}
use Rattle.cc_pieces.specs.Bindings.{Binding}
use Rattle.cc_pieces.specs.Openings.{LoggedOpening, MigrationLeft, OpeningBehind, RecordedOpening, StreamOpening, first_object_of, opening_call, recorded_call}
use Rattle.cc_pieces.specs.Phases.{AheadsRan, PhaseRan, PhasesRan, Plan, TicksRan, is_of_phase, lazy_writer, lines_in, read_ahead_worker}
use Rattle.cc_pieces.specs.Restarts.{LastFlushed, RestartAnswered, RestartsInOrder}
use Rattle.cc_pieces.specs.Runs.{Ran, asked_of}
use Rattle.cc_pieces.specs.Served.{Served, bindings_after}
use Rattle.cc_script_laws.proofs.LineWalks.{Follows, follow-answered, follow-call, follow-log-flush, follow-plain}

-- ---- entry by entry

-- from one moment to another, each entry that the pass placed may stand on its front
pub record Walked (Stays : List Entry → Entry → Type 0) (me : ℕ) (old new : List Entry) : Type 0 where
  pub during : List Entry
  pub grew : new ≡ during ++ old
  pub each : EachOwn me Stays during old

module _ (Stays : List Entry → Entry → Type 0) where
  pub walked-idle : (me : ℕ) (old new : List Entry) → IsIdle me old new → Walked Stays me old new
  walked-idle me old new idle = record { during = idle.during; grew = idle.grew; each = each-others me Stays idle.during old idle.others }

  pub walked-then : (me : ℕ) (old between new : List Entry) → Walked Stays me old between → Walked Stays me between new → Walked Stays me old new
  walked-then me old between new first second = record {
    during = second.during ++ first.during;
    grew = second.grew ∙ (ap (λ (l : List Entry). second.during ++ l) first.grew ∙ sym (append_assoc second.during first.during old));
    each =
        each-append me Stays second.during first.during old
        (subst (λ (l : List Entry). EachOwn me Stays second.during l) first.grew second.each) first.each;
  }

  pub walked-entry : (me : ℕ) (e : Entry) (past : List Entry) → Stays past e → Walked Stays me past (e ∷ past)
  walked-entry me e past stays = record { during = e ∷ []; grew = refl; each = ((λ is. stays), tt) }

  -- each entry of a journal may stand on its front
  abbrev pub AllStand : List Entry → Type 0
  AllStand [] = Unit {0}
  AllStand (e ∷ past) = Stays past e × AllStand past

  every-stands : (unpassed : (past : List Entry) (e : Entry) → pass_of e ≡ None → Stays past e) (during old : List Entry) → ((me : ℕ) → EachOwn me Stays during old) → AllStand old → AllStand (during ++ old)
  every-stands unpassed [] old each all = all
  every-stands unpassed (e ∷ during) old each all = (by (pass_of e) refl, every-stands unpassed during old (λ me. (each me).1) all)
    where
      by : (o : Option ℕ) → pass_of e ≡ o → Stays (during ++ old) e
      by None is = unpassed (during ++ old) e is
      by (Some me) is = (each me).0 (ap (is_pass me) is ∙ eq-eqb me me refl)

  -- where each pass placed such entries alone
  pub all-stand : (unpassed : (past : List Entry) (e : Entry) → pass_of e ≡ None → Stays past e) (old new : List Entry) → ((me : ℕ) → Walked Stays me old new) → AllStand old → AllStand new
  all-stand unpassed old new walked all =
      subst AllStand (sym (walked 0).grew) (every-stands unpassed (walked 0).during old each all)
    where
      each : (me : ℕ) → EachOwn me Stays (walked 0).during old
      each me =
          subst (λ (during : List Entry). EachOwn me Stays during old)
          (append_cancel_right (walked me).during (walked 0).during old (sym (walked me).grew ∙ (walked 0).grew)) (walked me).each

  pub stand-rest : (later past : List Entry) → AllStand (later ++ past) → AllStand past
  stand-rest [] past all = all
  stand-rest (e ∷ later) past all = stand-rest later past all.1

-- ---- the lines of restarts and of streams, by pass 0

module _ (u : Setup) (Makes : Call → Type 0) (W : List Entry → List Entry → Type 0) (f : Follows 0 Makes W) where
  follow-last : (handle last : ℕ) (old new : List Entry) → LastFlushed u handle last old new → W old new
  follow-last handle zero old new left = f.idle old new left
  follow-last handle (suc n) old new left = follow-log-flush u 0 Makes W f {T = Unit {0}} handle (suc n) (Ok tt) old new left.1

  follow-restart : (handle : ℕ) (told : Answer) (old new : List Entry) → RestartAnswered u handle told old new → W old new
  follow-restart handle (answer.Restarted updates) old new left = follow-last handle left.0 old new left.1
  follow-restart handle (answer.Refused e) old new (inl idle) = f.idle old new idle
  follow-restart handle (answer.Refused e) old new (inr left) = follow-log-flush u 0 Makes W f {T = Unit {0}} handle left.0 (Err e) old new left.1
  follow-restart handle other old new left = absurd left

  pub follow-restarts : (restarts : List RestartLine) (replies : List LineReply) (old new : List Entry) → RestartsInOrder u restarts replies old new → W old new
  follow-restarts [] [] old new ended = f.idle old new ended
  follow-restarts [] (reply ∷ replies) old new ended = absurd ended
  follow-restarts (restart ∷ restarts) [] old new ended = absurd ended
  follow-restarts (restart ∷ restarts) (reply ∷ replies) old new ended =
      f.joins old ended.0 new (follow-restart restart.handle reply.answer old ended.0 ended.1.left) (follow-restarts restarts replies ended.0 new ended.2)

  pub follow-load : {A : Type 0} (s : ℕ) (answered : Result A CcError) (old new : List Entry) → LoadLeft 0 s answered old new → W old new
  follow-load s (Ok told) old new left = f.idle old new left
  follow-load s (Err (error.ReadFault page)) old new left = follow-plain u 0 Makes W f (entry.RecordFailed 0 s) old new refl left.1
  follow-load s (Err (error.JournalFull entries)) old new left = f.idle old new left
  follow-load s (Err error.NoMemory) old new left = f.idle old new left
  follow-load s (Err other) old new left = absurd left

  module _ (s : ℕ) (stream : StreamLine) (sets : (handle : ℕ) → stream.log ≡ Some handle → Makes (call.SetLog (first_object_of s) handle))
      (settles : (answered : Result FileState CcError) (old new : List Entry) → SettleLeft u 0 (first_object_of s) answered old new → W old new) where
    follow-logged : (it : Call) (log : Option ℕ) → stream.log ≡ log → (told : Answer) (old new : List Entry) → Makes it → LoggedOpening u s it log told old new → W old new
    follow-logged it None is told old new makes opened = follow-answered u 0 Makes W f it told old new makes opened
    follow-logged it (Some handle) is told old new makes (inl refused) = follow-call u 0 Makes W f it (outcome.Failed refused.0) old new makes refused.2
    follow-logged it (Some handle) is told old new makes (inr done) =
        f.joins old done.0 new (follow-call u 0 Makes W f it (outcome.Done reply.Unit) old done.0 makes done.1)
        (follow-answered u 0 Makes W f (call.SetLog (first_object_of s) handle) told done.0 new (sets handle is) done.2)

    follow-migration : (told : Answer) (old new : List Entry) → MigrationLeft u s told old new → W old new
    follow-migration (answer.Given reply.Unit) old new left = settles (Ok left.0) old new left.1
    follow-migration (answer.Refused e) old new left = settles (Err e) old new left
    follow-migration other old new left = absurd left

    pub follow-recorded : (read : Option StreamRecord) (told : Answer) (old new : List Entry) → Makes (recorded_call s stream read) → RecordedOpening u s stream read told old new → W old new
    follow-recorded None told old new makes opened = follow-logged (recorded_call s stream None) stream.log refl told old new makes opened
    follow-recorded (Some (V2 size valid)) told old new makes opened = follow-logged (recorded_call s stream (Some (V2 size valid))) stream.log refl told old new makes opened
    follow-recorded (Some (V1 size)) told old new makes (inl refused) = follow-logged (recorded_call s stream (Some (V1 size))) stream.log refl told old new makes refused.2
    follow-recorded (Some (V1 size)) told old new makes (inr done) =
        f.joins old done.0 new (follow-logged (recorded_call s stream (Some (V1 size))) stream.log refl (answer.Given reply.Unit) old done.0 makes done.1)
        (follow-migration told done.0 new done.2)

    -- the line of a stream; what is to be known of its record is asked of each that may be read
    follow-opening : (stored : Bool) (told : Answer) (old new : List Entry) → ((read : Option StreamRecord) → Makes (recorded_call s stream read)) → StreamOpening u s stream stored told old new → W old new
    follow-opening false told old new makes opened = follow-logged (opening_call s stream) stream.log refl told old new (makes None) opened
    follow-opening true told old new makes (inl unread) = follow-load {A = Option StreamRecord} s (Err unread.0) old new unread.2
    follow-opening true told old new makes (inr is) =
        f.joins old is.loaded new (follow-load {A = Option StreamRecord} s (Ok is.read) old is.loaded is.load) (follow-recorded is.read told is.loaded new (makes is.read) is.opened)

    pub follow-behind : (refused : Option CcError) (told : Answer) (old new : List Entry) → ((read : Option StreamRecord) → Makes (recorded_call s stream read)) → OpeningBehind u s stream refused told old new → W old new
    follow-behind (Some e) told old new makes opened = f.idle old new opened.1
    follow-behind None told old new makes opened = follow-opening stream.stored told old new makes opened

-- ---- phases

pub all-unit : {A : Type 0} (xs : List A) → AllByRecursion (λ (x : A). Unit {0}) xs
all-unit [] = tt
all-unit (x ∷ xs) = (tt, all-unit xs)

-- what is known of each line that passes a test, by what is known of it and of its answer
pub asked-all : (A : ActionLine → Type 0) (B C : Action × Answer → Type 0) (test : ActionLine → Bool) (joined : (line : ActionLine) (told : Answer) → test line ≡ true → A line → B (line.action, told) → C (line.action, told)) (lines : List ActionLine) (replies : List LineReply) →
    AllByRecursion A lines → AllByRecursion B (asked_of (λ line. true) lines replies) → AllByRecursion C (asked_of test lines replies)
asked-all A B C test joined [] replies a b = tt
asked-all A B C test joined (line ∷ lines) [] a b = tt
asked-all A B C test joined (line ∷ lines) (reply ∷ replies) a b = go (test line) refl (asked-all A B C test joined lines replies a.1 b.1)
  where
    go : (t : Bool) → test line ≡ t → AllByRecursion C (asked_of test lines replies) → AllByRecursion C (if t then (line.action, reply.answer) ∷ asked_of test lines replies else asked_of test lines replies)
    go true passes rest = (joined line reply.answer passes a.0 b.0, rest)
    go false fails rest = rest

module _ (u : Setup) (W : ℕ → List Entry → List Entry → Type 0) (idle : (me : ℕ) (old new : List Entry) → IsIdle me old new → W me old new)
    (joins : (me : ℕ) (old between new : List Entry) → W me old between → W me between new → W me old new) where
  -- what pass 0 did before the phases, where nobody else placed anything
  pub all-begun : (begun : List Entry) → W 0 [] begun → ((me : ℕ) → me ≢ 0 → IsIdle me [] begun) → (me : ℕ) → W me [] begun
  all-begun begun first alone me = by (me == 0) refl
    where
      by : (b : Bool) → (me == 0) ≡ b → W me [] begun
      by true is = rw (eqb-true me 0 is) first
      by false is = idle me [] begun (alone me (eqb-false me 0 is))

  module _ (ticks : (told : Answer) (old new : List Entry) → TickAnswered lazy_writer told old new → W lazy_writer old new)
      (steps : (taken : Option Request) (told : Answer) (old new : List Entry) → AheadAnswered u read_ahead_worker taken told old new → W read_ahead_worker old new) where
    pub ran-ticks : (limit phase : ℕ) (replies : List LineReply) (old new : List Entry) → TicksRan u limit phase replies old new → W lazy_writer old new
    ran-ticks limit phase [] old new ran = idle lazy_writer old new ran
    ran-ticks limit phase (reply ∷ replies) old new ran =
        joins lazy_writer old ran.0 new (ticks reply.answer old ran.0 ran.2) (ran-ticks limit phase replies ran.0 new ran.4)

    pub ran-steps : (limit phase : ℕ) (replies : List LineReply) (taken : List Request) (old new : List Entry) → AheadsRan u limit phase replies taken old new → W read_ahead_worker old new
    ran-steps limit phase [] taken old new ran = idle read_ahead_worker old new ran.1
    ran-steps limit phase (reply ∷ replies) taken old new ran =
        joins read_ahead_worker old ran.0 new (steps ran.1 reply.answer old ran.0 ran.5) (ran-steps limit phase replies ran.2 ran.0 new ran.8)

    module _ (Fits : Action → Answer → Type 0) (serves : (me : ℕ) (bindings : List Binding) (asked : Action) (told : Answer) (old new : List Entry) → Fits asked told → Served u me bindings asked told old new → W me old new) where
      ran-lines : (limit me : ℕ) (bindings : List Binding) (lines : List (Action × Answer)) (old new : List Entry) → AllByRecursion (λ (line : Action × Answer). Fits line.0 line.1) lines → Ran u limit me bindings lines old new → W me old new
      ran-lines limit me bindings [] old new fit ran = idle me old new ran
      ran-lines limit me bindings (line ∷ more) old new fit ran =
          joins me old ran.0 new (serves me bindings line.0 line.1 old ran.0 fit.0 ran.1.served)
          (ran-lines limit me (bindings_after line.0 line.1 bindings) more ran.0 new fit.1 ran.2)

      module _ (plan : Plan) (fit : AllByRecursion (λ (line : Action × Answer). Fits line.0 line.1) (asked_of (λ line. true) plan.lines plan.answers)) where
        fit-in : (phase me : ℕ) → AllByRecursion (λ (line : Action × Answer). Fits line.0 line.1) (lines_in plan phase me)
        fit-in phase me =
            asked-all (λ line. Unit {0}) (λ line. Fits line.0 line.1) (λ line. Fits line.0 line.1) (is_of_phase phase me) (λ line told passes a b. b) plan.lines plan.answers (all-unit plan.lines) fit

        ran-phase : (phase : ℕ) (ticked stepped : List LineReply) (taken : List Request) (old new : List Entry) → PhaseRan u plan phase ticked stepped taken old new → (me : ℕ) → W me old new
        ran-phase phase ticked stepped taken old new ran me = lazy (me == lazy_writer) refl
          where
            ahead : (b : Bool) → (me == read_ahead_worker) ≡ b → me ≢ lazy_writer → W me old new
            ahead true is other = rw (eqb-true me read_ahead_worker is) (ran-steps 32 phase stepped taken old new ran.steps)
            ahead false is other = ran-lines _ me _ (lines_in plan phase me) old new (fit-in phase me) (ran.callers me other (eqb-false me read_ahead_worker is))

            lazy : (b : Bool) → (me == lazy_writer) ≡ b → W me old new
            lazy true is = rw (eqb-true me lazy_writer is) (ran-ticks 32 phase ticked old new ran.ticks)
            lazy false is = ahead (me == read_ahead_worker) refl (eqb-false me lazy_writer is)

        pub ran-answered : (phase left : ℕ) (ticked stepped : List LineReply) (taken : List Request) (old new : List Entry) → PhasesRan u plan phase left ticked stepped taken old new → (me : ℕ) → W me old new
        ran-answered phase zero ticked stepped taken old new ran me = idle me old new (record { during = []; grew = ran.3; others = tt })
        ran-answered phase (suc left) ticked stepped taken old new ran me =
            joins me old ran.0 new (ran-phase phase _ _ _ old ran.0 ran.3 me) (ran-answered (suc phase) left _ _ _ ran.0 new ran.4 me)

    -- where it is asked of the actions alone
    pub ran-phases : (Fits : Action → Type 0) → ((me : ℕ) (bindings : List Binding) (asked : Action) (told : Answer) (old new : List Entry) → Fits asked → Served u me bindings asked told old new → W me old new) → (plan : Plan) → AllByRecursion (λ line. Fits line.action) plan.lines →
        (phase left : ℕ) (ticked stepped : List LineReply) (taken : List Request) (old new : List Entry) → PhasesRan u plan phase left ticked stepped taken old new → (me : ℕ) → W me old new
    ran-phases Fits serves plan fit =
        ran-answered (λ asked told. Fits asked) serves plan
        (asked-all (λ line. Fits line.action) (λ line. Unit {0}) (λ line. Fits line.0) (λ line. true) (λ line told passes a b. a) plan.lines plan.answers fit (all-unit _))
