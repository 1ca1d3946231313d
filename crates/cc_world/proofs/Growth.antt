-- What an event adds to the entries, by what it leaves of the World.
use Rattle.std.specs.Prelude.{◌≡◌, ◌⊎◌, ℕ, suc, ◌<◌, Bool, true, false, ◌&&◌, ◌==◌, is_some, nat_le, List, [], ◌∷◌, ◌++◌, vec_capacity, vec_len, refl, if◌then◌else◌}
use Rattle.std.specs.declared.option.Option.{Option}
use Rattle.std.specs.declared.option.Option.TheVariants.{Some, None}
use Rattle.std.proofs.Common.{ap, sym, subst, ◌∙◌, inl, inr}
use Rattle.std.proofs.lemmas.Bool.{and_from, and_parts}
use Rattle.cc_entry.specs.Place.{Page}
use Rattle.cc_entry.specs.declared.call.Call.{Call}
use Rattle.cc_entry.specs.declared.call.Call.TheVariants as call
use Rattle.cc_entry.specs.declared.entry.End.{End}
use Rattle.cc_entry.specs.declared.entry.End.TheVariants as how
use Rattle.cc_entry.specs.declared.entry.Entry.{Entry}
use Rattle.cc_entry.specs.declared.entry.Entry.TheVariants as entry
use Rattle.cc_entry.specs.declared.error.CcError.{CcError}
use Rattle.cc_entry.specs.declared.error.CcError.TheVariants as error
use Rattle.cc_entry.specs.declared.reply.Outcome.{Outcome}
use Rattle.cc_entry.specs.declared.reply.Outcome.TheVariants as outcome
use Rattle.cc_entry.specs.declared.reply.Reply.{Reply}
use Rattle.cc_entry.specs.declared.reply.Reply.TheVariants as reply
use Rattle.cc_journal.specs.Journal.{JournalState}
use Rattle.cc_model.specs.Flushed.{is_ok_sync_of}
use Rattle.cc_model.specs.Logs.{flushed_to}
use Rattle.cc_model.specs.Passes.{calls_of, pass_of}
use Rattle.cc_model.specs.Pick.{pick}
use Rattle.cc_model.specs.Setup.{Setup}
use Rattle.cc_model.specs.Throttle.{pages_for}
use Rattle.cc_turns.specs.Desk.{Tells}
use Rattle.cc_turns.specs.Slots.{setup_in}
use Rattle.cc_effects.specs.Events.{Answers, IsWanting, Where, OnStream, OnLog, OnJournal, Nowhere, call_entry, entries_done, faulted_by, filed_under, page_in_entry, place_of_event, write_end}
use Rattle.cc_effects.specs.declared.events.Event.{Event}
use Rattle.cc_effects.specs.declared.events.Event.TheVariants as event
use Rattle.cc_effects.specs.declared.events.StepReply.{StepReply}
use Rattle.cc_effects.specs.declared.events.StepReply.TheVariants as step
use Rattle.cc_world.specs.Blocks.{page_brought}
use Rattle.cc_world.specs.Journals.{JournalHasPlaced, refused_plainly}
use Rattle.cc_world.specs.Notes.{CanFollow, CanFollowAll, CanFollowEvent, Grew, IsPlacedBy, ItsStoreCame, OneCame, OneFollows, StoreFollows, is_sync_of, may_bring, pass_of_event}
use Rattle.cc_world.specs.World.{EventEnded, Faulted, Happened, WorldEventLeft, WentAt, WorldState}
use Rattle.cc_world.specs.declared.notes.Notes.{Notes}

and-off : (a : Bool) → (a && false) ≡ false
and-off true = refl
and-off false = refl

differ : false ≡ true → ⊥
differ is = absurd (cc)

no-good : (a b : Bool) → (a && (b && false)) ≡ true → ⊥
no-good a b is = differ (sym (ap (λ (t : Bool). a && t) (and-off b) ∙ and-off a) ∙ is)

module _ {Q : Type 0} (past now : List Entry) (it : Event Q) where
  none-came : now ≡ past → Grew past now it
  none-came same = inl same

  one-came : (e : Entry) → now ≡ e ∷ past → IsPlacedBy past it e → Grew past now it
  one-came e came placed = inr (inl (record { entry = e; came = came; placed = placed }))

-- a call brings a page in only where it is a noncached store that is done
brought-call : (Q : Type 0) (pass nth : ℕ) (stream : Option ℕ) (it : Call) (ended : Outcome) → is_some (page_brought (entry.Call pass nth stream it ended)) ≡ true → may_bring {Q = Q} (event.Do pass it) ≡ true
brought-call Q pass nth (Some s) (call.NcStore file page bytes) (outcome.Done r) is = refl
brought-call Q pass nth stream it ended is = absurd (cc)

brought-failed : (pass nth : ℕ) (stream : Option ℕ) (it : Call) (e : CcError) → is_some (page_brought (entry.Call pass nth stream it (outcome.Failed e))) ≡ true → ⊥
brought-failed pass nth None it e is = absurd (cc)
brought-failed pass nth (Some s) (call.NcStore file page bytes) e is = absurd (cc)
brought-failed pass nth (Some s) it e is = absurd (cc)

-- the entry that a call ends with
call-placed : {Q : Type 0} (past : List Entry) (pass : ℕ) (it : Call) (ended : Outcome) → IsPlacedBy {Q = Q} past (event.Do pass it) (call_entry past pass it ended)
call-placed {Q} past pass it ended = record {
  pass = refl;
  sync = λ me s is. absurd (cc);
  block = λ is. brought-call Q pass (suc (calls_of past pass)) (filed_under past it) it ended is;
}

plain-placed : {Q : Type 0} (past : List Entry) (it : Event Q) (e : Entry) → pass_of e ≡ pass_of_event past it → ((me s : ℕ) → is_ok_sync_of me s e ≡ false) → page_brought e ≡ None → IsPlacedBy past it e
plain-placed past it e pass no_sync no_page = record {
  pass = pass;
  sync = λ me s is. absurd (differ (sym (no_sync me s) ∙ is));
  block = λ is. absurd (differ (sym (ap (λ o. is_some o) no_page) ∙ is));
}

module _ {Q : Type 0} (u : Setup) (past now : List Entry) where
  done-came : (pass : ℕ) (it : Call) (r : Reply) (added : List Entry) → added ≡ entries_done past pass it r → now ≡ added ++ past → Grew {Q = Q} past now (event.Do pass it)
  done-came pass (call.NcStore file page bytes) r added is came = inr (inr (record {
    store = record {
      pass = pass;
      nth = suc (calls_of past pass);
      page = record { stream = file.stream; page = page };
      file = file;
      bytes = bytes;
      reply = r;
      came = came ∙ ap (λ (es : List Entry). es ++ past) is;
    };
    pass = refl;
    block = refl;
  }))
  done-came pass it r added is came =
      one-came past now (event.Do pass it) (call_entry past pass it (outcome.Done r)) (came ∙ ap (λ (es : List Entry). es ++ past) is) (call-placed past pass it (outcome.Done r))

  one : (it : Event Q) (e : Entry) (added : List Entry) → added ≡ e ∷ [] → now ≡ added ++ past → IsPlacedBy past it e → Grew past now it
  one it e added is came placed = one-came past now it e (came ∙ ap (λ (es : List Entry). es ++ past) is) placed

  none : (it : Event Q) (added : List Entry) → added ≡ [] → now ≡ added ++ past → Grew past now it
  none it added is came = none-came past now it (came ∙ ap (λ (es : List Entry). es ++ past) is)

  sync-placed : (pass stream : ℕ) → IsPlacedBy {Q = Q} past (event.Sync pass stream) (entry.Sync pass stream how.Good)
  sync-placed pass stream = record {
    pass = refl;
    sync = λ me s is. good (pass == me) (stream == s) is;
    block = λ is. absurd (cc);
  }
    where
      good : (a b : Bool) → (a && (b && true)) ≡ true → (a && b) ≡ true
      good true true is = refl
      good true false is = absurd (cc)
      good false b is = absurd (cc)

  flush-came : (pass handle to : ℕ) (b : Bool) (added : List Entry) → added ≡ (if b then [] else entry.Flushed pass handle to ∷ []) → now ≡ added ++ past → Grew {Q = Q} past now (event.LogFlush pass handle to)
  flush-came pass handle to true added is came = none (event.LogFlush pass handle to) added is came
  flush-came pass handle to false added is came =
      one (event.LogFlush pass handle to) (entry.Flushed pass handle to) added is came (plain-placed past (event.LogFlush pass handle to) (entry.Flushed pass handle to) refl (λ me s. refl) refl)

  answered : (it : Event Q) (r : StepReply Q) (added : List Entry) → Answers u past it r added → now ≡ added ++ past → Grew past now it
  answered (event.Fill pass page) (step.Done reply.Unit) added is came =
      one (event.Fill pass page) (page_in_entry past pass page) added is came (record { pass = refl; sync = λ me s syncs. absurd (cc); block = λ brings. refl })
  answered (event.Drop page) (step.Done reply.Unit) added is came =
      one (event.Drop page) (entry.PageOut 1 page) added is came (plain-placed past (event.Drop page) (entry.PageOut 1 page) refl (λ me s. refl) refl)
  answered (event.WriteBegin pass page) (step.Done reply.Unit) added is came =
      one (event.WriteBegin pass page) (entry.WriteBegin pass page) added is came (plain-placed past (event.WriteBegin pass page) (entry.WriteBegin pass page) refl (λ me s. refl) refl)
  answered (event.WriteEnd page) (step.Done reply.Unit) added is came =
      one (event.WriteEnd page) (write_end past page how.Good) added is came (plain-placed past (event.WriteEnd page) (write_end past page how.Good) refl (λ me s. refl) refl)
  answered (event.Sync pass stream) (step.Done reply.Unit) added is came =
      one (event.Sync pass stream) (entry.Sync pass stream how.Good) added is came (sync-placed pass stream)
  answered (event.Do pass it) (step.Done r) added is came = done-came pass it r added is.1 came
  answered (event.Do pass it) (step.Refused e) added is came =
      one (event.Do pass it) (call_entry past pass it (outcome.Failed e)) added is.1 came (call-placed past pass it (outcome.Failed e))
  answered (event.Fail pass it) (step.Refused e) added is came =
      one (event.Fail pass it) (call_entry past pass it (outcome.Failed e)) added is.0 came (record {
        pass = refl;
        sync = λ me s syncs. absurd (cc);
        block = λ brings. absurd (brought-failed pass (suc (calls_of past pass)) (filed_under past it) it e brings);
      })
  answered (event.Append pass handle bytes) (step.NewLsn lsn) added is came =
      one (event.Append pass handle bytes) (entry.Append pass handle lsn bytes) added is.2 came (plain-placed past (event.Append pass handle bytes) (entry.Append pass handle lsn bytes) refl (λ me s. refl) refl)
  answered (event.Append pass handle bytes) (step.Refused (error.NoLog n)) added is came = none (event.Append pass handle bytes) added is.2 came
  answered (event.Append pass handle bytes) (step.Refused (error.LogFull n)) added is came = none (event.Append pass handle bytes) added is.3 came
  answered (event.LogFlush pass handle to) (step.Done reply.Unit) added is came = flush-came pass handle to (nat_le to (flushed_to past handle)) added is.1 came
  answered (event.LogFlush pass handle to) (step.Refused (error.NoLog n)) added is came = none (event.LogFlush pass handle to) added is.2 came
  answered (event.Scan pass) (step.Done reply.Unit) added is came =
      one (event.Scan pass) (entry.Scan pass (pick u past)) added is came (plain-placed past (event.Scan pass) (entry.Scan pass (pick u past)) refl (λ me s. refl) refl)
  answered (event.Defer pass file bytes retrying routine) (step.Deferred id) added is came =
      one (event.Defer pass file bytes retrying routine) (entry.Defer pass id file (pages_for bytes) retrying) added is.1 came
      (plain-placed past (event.Defer pass file bytes retrying routine) (entry.Defer pass id file (pages_for bytes) retrying) refl (λ me s. refl) refl)
  answered (event.Defer pass file bytes retrying routine) (step.Refused error.NotCached) added is came = none (event.Defer pass file bytes retrying routine) added is.1 came
  answered (event.Defer pass file bytes retrying routine) (step.Refused error.QueueFull) added is came = none (event.Defer pass file bytes retrying routine) added is.2 came
  answered (event.Post pass) (step.Posted (Some posted)) added is came =
      one (event.Post pass) (entry.Posted posted.id) added is came (plain-placed past (event.Post pass) (entry.Posted posted.id) refl (λ me s. refl) refl)
  answered (event.Post pass) (step.Posted None) added is came = none (event.Post pass) added is.1 came
  answered it other added is came = absurd is

  wanted : (it : Event Q) (added : List Entry) → IsWanting past it added → now ≡ added ++ past → Grew past now it
  wanted (event.WriteEnd page) added is came =
      one (event.WriteEnd page) (write_end past page how.NoMemory) added is came (plain-placed past (event.WriteEnd page) (write_end past page how.NoMemory) refl (λ me s. refl) refl)
  wanted (event.Sync pass stream) added (inl is) came =
      one (event.Sync pass stream) (entry.Sync pass stream how.NoMemory) added is came (record {
        pass = refl;
        sync = λ me s syncs. absurd (no-good (pass == me) (stream == s) syncs);
        block = λ brings. absurd (cc);
      })
  wanted (event.Sync pass stream) added (inr is) came = none (event.Sync pass stream) added is came
  wanted it added is came = none it added is came

  told : (it : Event Q) (e : Entry) → faulted_by past it ≡ Some e → now ≡ e ∷ past → Grew past now it
  told it e is came = one-came past now it e came (placed it is)
    where
      same : (a b : Entry) → Some a ≡ Some b → a ≡ b
      same a b eq = cc

      placed-as : (it : Event Q) (a : Entry) → Some a ≡ Some e → IsPlacedBy past it a → IsPlacedBy past it e
      placed-as it a eq by = subst (λ (x : Entry). IsPlacedBy past it x) (same a e eq) by

      flush : (pass handle to : ℕ) (b : Bool) → (if b then None else Some (entry.LogFailed pass handle)) ≡ Some e → IsPlacedBy {Q = Q} past (event.LogFlush pass handle to) e
      flush pass handle to true eq = absurd (cc)
      flush pass handle to false eq =
          placed-as (event.LogFlush pass handle to) (entry.LogFailed pass handle) eq (plain-placed past (event.LogFlush pass handle to) (entry.LogFailed pass handle) refl (λ me s. refl) refl)

      placed : (it : Event Q) → faulted_by past it ≡ Some e → IsPlacedBy past it e
      placed (event.Fill pass page) eq =
          placed-as (event.Fill pass page) (entry.FillFailed pass page) eq (plain-placed past (event.Fill pass page) (entry.FillFailed pass page) refl (λ me s. refl) refl)
      placed (event.WriteEnd page) eq =
          placed-as (event.WriteEnd page) (write_end past page how.Failed) eq (plain-placed past (event.WriteEnd page) (write_end past page how.Failed) refl (λ me s. refl) refl)
      placed (event.Sync pass stream) eq =
          placed-as (event.Sync pass stream) (entry.Sync pass stream how.Failed) eq (record {
            pass = refl;
            sync = λ me s syncs. absurd (no-good (pass == me) (stream == s) syncs);
            block = λ brings. absurd (cc);
          })
      placed (event.Do pass (call.NcRead file page)) eq =
          placed-as (event.Do pass (call.NcRead file page)) (entry.FillFailed pass (record { stream = file.stream; page = page })) eq
          (plain-placed past (event.Do pass (call.NcRead file page)) (entry.FillFailed pass (record { stream = file.stream; page = page })) refl (λ me s. refl) refl)
      placed (event.Append pass handle bytes) eq =
          placed-as (event.Append pass handle bytes) (entry.LogFailed pass handle) eq (plain-placed past (event.Append pass handle bytes) (entry.LogFailed pass handle) refl (λ me s. refl) refl)
      placed (event.LogFlush pass handle to) eq = flush pass handle to (nat_le to (flushed_to past handle)) eq
      placed other eq = absurd (cc)

-- the entries that were placed are in front
went-entries : {D L Q : Type 0} (tells : Tells D L Q) (place : Where) (n : ℕ) (added : List Entry) (w v : WorldState D L Q) → WentAt tells place n added w v → v.journal.entries ≡ added ++ w.journal.entries
went-entries tells (OnStream s) n added w v went = ap (λ j. j.entries) went.placed
went-entries tells (OnLog handle) n added w v went = ap (λ j. j.entries) went.placed
went-entries tells OnJournal n added w v went = ap (λ j. j.entries) went.placed
went-entries {D} {L} {Q} tells Nowhere n added w v went =
    ap (λ (x : WorldState D L Q). x.journal.entries) went.1 ∙ ap (λ (es : List Entry). es ++ w.journal.entries) (sym went.0)

module _ {D L Q : Type 0} (tells : Tells D L Q) (it : Event Q) (w v : WorldState D L Q) where
  same-entries : v ≡ w → Grew w.journal.entries v.journal.entries it
  same-entries same = none-came w.journal.entries v.journal.entries it (ap (λ (x : WorldState D L Q). x.journal.entries) same)

  faulted : (o : Option Entry) → faulted_by w.journal.entries it ≡ o → Faulted tells (place_of_event (setup_in tells w.begun) w.journal.entries it) o w v → Grew w.journal.entries v.journal.entries it
  faulted None is went = absurd went
  faulted (Some e) is went =
      told (setup_in tells w.begun) w.journal.entries v.journal.entries it e is (went-entries tells (place_of_event (setup_in tells w.begun) w.journal.entries it) 1 (e ∷ []) w v went)

  ended : (r : StepReply Q) → Happened tells it r w v → Grew w.journal.entries v.journal.entries it
  ended step.NotNow left = same-entries left.1
  ended (step.Refused (error.JournalFull entries)) left = same-entries left.3
  ended (step.Refused error.NoMemory) left =
      wanted (setup_in tells w.begun) w.journal.entries v.journal.entries it left.0 left.1 (went-entries tells (place_of_event (setup_in tells w.begun) w.journal.entries it) 0 left.0 w v left.2)
  ended step.Faulted left = faulted (faulted_by w.journal.entries it) refl left.2.1
  ended other left =
      answered (setup_in tells w.begun) w.journal.entries v.journal.entries it other left.2.0 left.2.1 (went-entries tells (place_of_event (setup_in tells w.begun) w.journal.entries it) 0 left.2.0 w v left.2.2)

  pub grew : (answer : StepReply Q) → WorldEventLeft tells it answer w v → Grew w.journal.entries v.journal.entries it
  grew answer left = ended (refused_plainly answer) left.0

-- where there is room to follow what an event adds, there is to follow what came
pub follows-all : {Q : Type 0} (notes : Notes) (unsettled : List ℕ) (past now : List Entry) (it : Event Q) → CanFollowEvent notes unsettled past it → Grew past now it → CanFollowAll notes unsettled past now
follows-all notes unsettled past now it can (inl same) = inl same
follows-all notes unsettled past now it can (inr (inl came)) = inr (inl (record {
  entry = came.entry;
  came = came.came;
  can = record {
    pass = λ me its. can.pass me (sym came.placed.pass ∙ its);
    sync = λ me s is. can.sync me s (came.placed.sync me s is);
    block = λ is. can.block (came.placed.block is);
  };
}))
follows-all notes unsettled past now it can (inr (inr came)) = inr (inr (record {
  store = came.store;
  pass = can.pass came.store.pass (sym came.pass);
  block = can.block came.block;
}))
