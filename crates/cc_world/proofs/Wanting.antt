-- An event for whose following there is no memory changes nothing.
use Rattle.std.specs.Prelude.{◌≡◌, ℕ, ◌+◌, ◌<◌, ◌≤◌, Bool, true, false, is_some, nat_lt, List, [], ◌∷◌, length, slice_get, slice_set, refl, if◌then◌else◌}
use Rattle.std.specs.declared.option.Option.{Option}
use Rattle.std.specs.declared.option.Option.TheVariants.{Some, None}
use Rattle.std.specs.List.{find, range_with_len}
use Rattle.std.proofs.Common.{ap, sym, subst, ◌∙◌, arith}
use Rattle.std.proofs.lemmas.Bool.{ltb-true, ltb-false}
use Rattle.cc_entry.specs.Place.{File}
use Rattle.cc_entry.specs.declared.call.Call.{Call}
use Rattle.cc_entry.specs.declared.call.Call.TheVariants as call
use Rattle.cc_entry.specs.declared.entry.Entry.{Entry}
use Rattle.cc_entry.specs.declared.error.CcError.TheVariants as error
use Rattle.cc_entry.specs.declared.query.Query.TheVariants as query
use Rattle.cc_journal.specs.Journal.{JournalState}
use Rattle.cc_log.specs.Turn.{LogTurnState}
use Rattle.cc_model.specs.Acts.{file_of}
use Rattle.cc_model.specs.History.{Effect, history}
use Rattle.cc_model.specs.Holds.{Hold, hold_at, holds_of}
use Rattle.cc_model.specs.Setup.{Setup}
use Rattle.cc_turns.specs.Desk.{Tells}
use Rattle.cc_turns.specs.Slots.{setup_in}
use Rattle.cc_effects.specs.Events.{IsKnown, IsWanting, NamesOf, Where, OnStream, OnLog, OnJournal, Nowhere, filed_under, holder_of, log_place, place_of_event, place_on}
use Rattle.cc_effects.specs.declared.events.Event.{Event}
use Rattle.cc_effects.specs.declared.events.Event.TheVariants as event
use Rattle.cc_effects.specs.declared.events.StepReply.{StepReply}
use Rattle.cc_effects.specs.declared.events.StepReply.TheVariants as step
use Rattle.cc_world.specs.World.{Happened, WentAt, WentLog, WorldEventLeft, WorldStands, WorldState, WorldWent}
use Rattle.cc_world.specs.declared.rows.StreamRow.{StreamRow}
use Rattle.cc_world.proofs.FiledUnder.{none-open}
use Rattle.cc_world.proofs.Steps.{is-there, put-same}
use Rattle.cc_world.proofs.Synced.{found-passes}

no-more : (a : ℕ) → a ≡ a + 0
no-more a = omega arith

module _ {D L Q : Type 0} (tells : Tells D L Q) (w : WorldState D L Q) (stands : WorldStands tells w) where
  -- where an event happens there is a row, or a log
  abbrev IsThere : Where → Type 0
  IsThere (OnStream s) = s < length w.begun.disks
  IsThere (OnLog handle) = handle < length w.begun.logs
  IsThere OnJournal = Unit {0}
  IsThere Nowhere = Unit {0}

  nothing-went : (place : Where) → IsThere place → WentAt tells place 0 [] w w
  nothing-went (OnStream s) within =
      let found = is-there w.rows s (subst (λ (n : ℕ). s < n) (sym stands.rows.counted) within) in
      record {
        row = found.0;
        now = found.0;
        was = found.1;
        same = ap (λ (rows : List (StreamRow D)). record w { rows = rows }) (sym (put-same w.rows s found.0 found.1));
        placed = refl;
        counted = no-more (tells.disk_faults found.0.disk);
      }
  nothing-went (OnLog handle) within =
      let found = is-there w.logs handle (subst (λ (n : ℕ). handle < n) (sym stands.logs.counted) within) in
      record {
        log = found.0;
        now = found.0;
        was = found.1;
        same = ap (λ (logs : List (LogTurnState L)). record w { logs = logs }) (sym (put-same w.logs handle found.0 found.1));
        placed = refl;
        counted = no-more (tells.log_faults found.0.file);
      }
  nothing-went OnJournal within = record { same = refl; placed = refl }
  nothing-went Nowhere within = (refl, refl)

  -- a hold is open in a stream that there is
  held-there : (hold s : ℕ) → holder_of w.journal.entries hold ≡ Some s → s < length w.begun.disks
  held-there hold s is = go (nat_lt s (length w.begun.disks)) refl
    where
      open-here : is_some (hold_at (holds_of (history w.journal.entries s)) hold) ≡ true
      open-here = found-passes (λ (n : ℕ). is_some (hold_at (holds_of (history w.journal.entries n)) hold)) (range_with_len 0 16) s is

      go : (b : Bool) → nat_lt s (length w.begun.disks) ≡ b → s < length w.begun.disks
      go true within = ltb-true s (length w.begun.disks) within
      go false beyond =
          absurd (apart (sym (ap (λ (h : List Effect). is_some (hold_at (holds_of h) hold)) (stands.journal.no_stream s (ltb-false s (length w.begun.disks) beyond)) ∙ ap (λ (o : Option Hold). is_some o) (none-open hold)) ∙ open-here))
        where
          apart : false ≡ true → ⊥
          apart same = absurd (cc)

  number : (a b : ℕ) → Some a ≡ Some b → a ≡ b
  number a b same = cc

  -- a call is filed under a stream that there is
  call-there : (it : Call) (s : ℕ) → NamesOf (length w.begun.disks) (file_of it) → filed_under w.journal.entries it ≡ Some s → s < length w.begun.disks
  call-there (call.PinMapped hold exclusive) s names is = held-there hold s is
  call-there (call.MappedRead hold at len) s names is = held-there hold s is
  call-there (call.PinnedRead hold at len) s names is = held-there hold s is
  call-there (call.PinnedWrite hold at bytes) s names is = held-there hold s is
  call-there (call.SetDirty hold lsn) s names is = held-there hold s is
  call-there (call.EndHold hold) s names is = held-there hold s is
  call-there (call.Repin hold) s names is = held-there hold s is
  call-there (call.MdlBytes hold at len) s names is = held-there hold s is
  call-there (call.MdlStore hold at bytes) s names is = held-there hold s is
  call-there (call.Query (query.DirtyPages handle)) s names is = absurd (cc)
  call-there (call.Query query.IsDirtyData) s names is = absurd (cc)
  call-there it s names is = subst (λ (n : ℕ). n < length w.begun.disks) (number _ s is) names

  place-there : (it : Call) (o : Option ℕ) → NamesOf (length w.begun.disks) (file_of it) → filed_under w.journal.entries it ≡ o → IsThere (place_on o)
  place-there it None names is = tt
  place-there it (Some s) names is = call-there it s names is

  log-there : (handle : ℕ) (b : Bool) → nat_lt handle (length w.begun.logs) ≡ b → IsThere (if b then OnLog handle else Nowhere)
  log-there handle true is = ltb-true handle (length w.begun.logs) is
  log-there handle false is = tt

  event-there : (it : Event Q) → IsKnown (length w.begun.disks) it → IsThere (place_of_event (setup_in tells w.begun) w.journal.entries it)
  event-there (event.Fill pass page) known = known
  event-there (event.Drop page) known = known
  event-there (event.WriteBegin pass page) known = known
  event-there (event.WriteEnd page) known = known
  event-there (event.Sync pass stream) known = known
  event-there (event.Do pass it) known = place-there it (filed_under w.journal.entries it) known refl
  event-there (event.Fail pass it) known = place-there it (filed_under w.journal.entries it) known refl
  event-there (event.Append pass handle bytes) known = log-there handle (nat_lt handle (length w.begun.logs)) refl
  event-there (event.LogFlush pass handle to) known = log-there handle (nat_lt handle (length w.begun.logs)) refl
  event-there (event.Scan pass) known = tt
  event-there (event.Defer pass file bytes retrying routine) known = tt
  event-there (event.Post pass) known = tt

  nothing-happened : (it : Event Q) → IsKnown (length w.begun.disks) it → IsWanting w.journal.entries it [] → Happened tells it (step.Refused error.NoMemory) w w
  nothing-happened it known wanting = ([], wanting, nothing-went (place_of_event (setup_in tells w.begun) w.journal.entries it) (event-there it known))

  -- a deferral hands its routine back
  pub kept-left : (pass : ℕ) (file : File) (bytes : ℕ) (retrying : Bool) (routine : Q) → IsKnown (length w.begun.disks) (event.Defer pass file bytes retrying routine) → IsWanting w.journal.entries (event.Defer pass file bytes retrying routine) [] → WorldEventLeft tells (event.Defer pass file bytes retrying routine) (step.Kept routine error.NoMemory) w w
  kept-left pass file bytes retrying routine known wanting =
      (nothing-happened (event.Defer pass file bytes retrying routine) known wanting, (refl, refl))

  -- whether an event defers
  abbrev pub defers : Event Q → Bool
  defers (event.Defer pass file bytes retrying routine) = true
  defers other = false

  -- one that is no deferral does not
  pub no-deferral : (it : Event Q) → ((pass : ℕ) (file : File) (bytes : ℕ) (retrying : Bool) (routine : Q) → it ≡ event.Defer pass file bytes retrying routine → ⊥) → defers it ≡ false
  no-deferral (event.Defer pass file bytes retrying routine) other = absurd (other pass file bytes retrying routine refl)
  no-deferral it other = refl

  pub refused-left : (it : Event Q) → defers it ≡ false → IsKnown (length w.begun.disks) it → IsWanting w.journal.entries it [] → WorldEventLeft tells it (step.Refused error.NoMemory) w w
  refused-left (event.Defer pass file bytes retrying routine) plain known wanting = absurd (cc)
  refused-left it plain known wanting = (nothing-happened it known wanting, refl)
