-- Whatever an event did to one log, all else of the World goes on standing.
use Rattle.std.specs.Prelude.{◌≡◌, ℕ, ◌+◌, ◌<◌, ◌≤◌, ◌==◌, false, List, [], ◌∷◌, ◌++◌, length, slice_get, slice_set, refl}
use Rattle.std.specs.declared.option.Option.{Option}
use Rattle.std.specs.declared.option.Option.TheVariants.{Some, None}
use Rattle.std.proofs.Common.{sym, subst, ap, ◌∙◌, arith}
use Rattle.std.proofs.lemmas.Bool.{ne_eqb}
use Rattle.std.proofs.lemmas.Option.{slice_get_within}
use Rattle.cc_entry.specs.declared.entry.Entry.{Entry}
use Rattle.cc_entry.specs.declared.error.CcError.TheVariants as error
use Rattle.cc_journal.specs.Journal.{JournalState}
use Rattle.cc_journal.specs.Queue.{AllUnposted}
use Rattle.cc_laws.proofs.LogSteps.{flushed_to-quiet}
use Rattle.cc_laws.proofs.QuietSteps.{history-quiet}
use Rattle.cc_log.specs.Turn.{LogTurnState}
use Rattle.cc_model.specs.History.{history}
use Rattle.cc_model.specs.Logs.{flushed_to}
use Rattle.cc_turns.specs.Desk.{Tells, LogIsHome, disk_at_first, log_at_first, openings}
use Rattle.cc_turns.specs.Log.{LogStands}
use Rattle.cc_turns.proofs.BookGrows.{book_grows}
use Rattle.cc_turns.proofs.LogGrows.{log_grows}
use Rattle.cc_world.specs.Logs.{LogFaulted, LogEventLeft, LogStandsUnder, LogWent}
use Rattle.cc_world.specs.Rows.{RowStands}
use Rattle.cc_effects.specs.Events.{MayHappen, OnLog, Where, faulted_by, log_place, place_of_event}
use Rattle.cc_world.specs.World.{Faulted, RowIsHome, WorldEventLeft, WentAt, WentLog, WorldStands, WorldState}
use Rattle.cc_effects.specs.declared.events.Event.{Event}
use Rattle.cc_effects.specs.declared.events.StepReply.{StepReply}
use Rattle.cc_effects.specs.declared.events.StepReply.TheVariants as step
use Rattle.cc_world.specs.declared.rows.StreamRow.{StreamRow}
use Rattle.cc_turns.proofs.Capacity.{journal_within}
use Rattle.cc_world.proofs.Belonging.{answers-on-log, fault-on-log, is-on-log, log-leaves, never-kept, queue-left, wanting-on-log}
use Rattle.cc_world.proofs.Quiet.{AreOnLog, IsOnLog, on-log-one}
use Rattle.cc_world.proofs.Steps.{at-put, has-placed, put-same, used-grows}
use Rattle.cc_turns.specs.Slots.{setup_in}

module _ {D L Q : Type 0} (tells : Tells D L Q) (w : WorldState D L Q) (stands : WorldStands tells w) (handle : ℕ) (log : LogTurnState L) (there : slice_get w.logs handle ≡ Some log) where
  home : LogIsHome tells.log tells.log_faults w.begun.logs w.journal.entries handle log
  home = stands.logs.each handle log there

  pub log-handle : log.handle ≡ handle
  log-handle = home.handle_is

  -- the log stands under the setup
  pub log-stands : LogStandsUnder tells.log tells.log_faults (setup_in tells w.begun) (log_at_first tells.log tells.log_faults (slice_get w.begun.logs handle)) 0 log w.journal
  log-stands = record {
    good = stands.journal.good;
    log_is = home.stands;
    known = subst (λ (n : ℕ). log.handle < n) stands.logs.counted (subst (λ (h : ℕ). h < length w.logs) (sym home.handle_is) (slice_get_within w.logs handle log there));
    reserved = nothing-more _ _ stands.journal.reserved;
  }
    where
      nothing-more : (a b : ℕ) → a ≡ b → a ≡ b + 0
      nothing-more a b same = omega arith

  -- an event on it happens there
  pub log-place : (own : ℕ) → own ≡ handle → log_place (setup_in tells w.begun) own ≡ OnLog handle
  log-place own same = is-on-log (setup_in tells w.begun) own handle same
      (subst (λ (n : ℕ). own < n) stands.logs.counted (subst (λ (h : ℕ). h < length w.logs) (sym same) (slice_get_within w.logs handle log there)))

  module _ (n : ℕ) (added : List Entry) (now : LogTurnState L) (k : JournalState Q) (on : AreOnLog handle added) (gone : LogWent tells.log tells.log_faults (setup_in tells w.begun) (log_at_first tells.log tells.log_faults (slice_get w.begun.logs handle)) n added log now w.journal k) where
    grown : k.entries ≡ added ++ w.journal.entries
    grown = ap (λ x. x.entries) gone.placed

    each-row : (s : ℕ) (r : StreamRow D) → RowIsHome tells w.begun.disks w.journal.entries s r → RowIsHome tells w.begun.disks k.entries s r
    each-row s r there = record {
      stream = there.stream;
      stands = subst (λ (past : List Entry). RowStands tells.disk tells.disk_faults (openings tells.disk tells.disk_faults w.begun.disks s) (disk_at_first tells.disk tells.disk_faults (slice_get w.begun.disks s)) past r) (sym grown) (record {
        book = book_grows added w.journal.entries s (openings tells.disk tells.disk_faults w.begun.disks s) r.book (on.book s) there.stream there.stands.book;
        disk = used-grows tells.disk tells.disk_faults (disk_at_first tells.disk tells.disk_faults (slice_get w.begun.disks s)) added w.journal.entries r.book.stream r.disk r.kept (on.device r.book.stream) there.stands.disk;
      });
    }

    other-log : (m : ℕ) (other : LogTurnState L) → (m == handle) ≡ false → LogIsHome tells.log tells.log_faults w.begun.logs w.journal.entries m other → LogIsHome tells.log tells.log_faults w.begun.logs k.entries m other
    other-log m other apart there = record {
      handle_is = there.handle_is;
      stands = subst (λ (past : List Entry). LogStands tells.log tells.log_faults (log_at_first tells.log tells.log_faults (slice_get w.begun.logs m)) past other) (sym grown)
          (log_grows tells.log tells.log_faults (log_at_first tells.log tells.log_faults (slice_get w.begun.logs m)) added w.journal.entries other
          (on.log other.handle (ap (λ (h : ℕ). h == handle) there.handle_is ∙ apart)) there.stands);
    }

    log-world-stands : length k.entries + k.reserved ≤ k.capacity → WorldStands tells (record w { logs = slice_set w.logs handle now; journal = k })
    log-world-stands fits = record {
      rows = record { counted = stands.rows.counted; each = λ s r is. each-row s r (stands.rows.each s r is) };
      logs = at-put (length w.begun.logs) handle w.logs now (slice_get_within w.logs handle log there) other-log
          (record { handle_is = gone.handle ∙ home.handle_is; stands = gone.stands.log_is }) stands.logs;
      journal = record {
        good = gone.stands.good;
        limits = (
          ap (λ x. x.capacity) gone.placed ∙ stands.journal.limits.0,
          ap (λ x. x.threshold) gone.placed ∙ stands.journal.limits.1,
          ap (λ x. x.logs) gone.placed ∙ stands.journal.limits.2,
        );
        reserved = nothing-less _ _ gone.stands.reserved;
        unposted = subst (λ q. AllUnposted tells.posted q) (sym (ap (λ x. x.queue) gone.placed)) stands.journal.unposted;
        strange = λ m beyond. ap (λ (p : List Entry). flushed_to p m) grown
            ∙ (flushed_to-quiet added w.journal.entries m (on.log m (apart m beyond)) ∙ stands.journal.strange m beyond);
        no_stream = λ s beyond. ap (λ (p : List Entry). history p s) grown
            ∙ (history-quiet added w.journal.entries s (on.book s) (on.device s) ∙ stands.journal.no_stream s beyond);
        within = journal_within k w.begun.capacity added w.journal.entries grown on.event (ap (λ x. x.capacity) gone.placed ∙ stands.journal.limits.0) (owed _ _ gone.stands.reserved) fits stands.journal.within;
      };
      few = stands.few;
    }
      where
        nothing-less : (a b : ℕ) → a ≡ b + 0 → a ≡ b
        nothing-less a b same = omega arith

        owed : (a b : ℕ) → a ≡ b + 0 → b ≤ a
        owed a b same = omega arith

        within : handle < length w.begun.logs
        within = subst (λ (n : ℕ). handle < n) stands.logs.counted (slice_get_within w.logs handle log there)

        apart : (m : ℕ) → length w.begun.logs ≤ m → (m == handle) ≡ false
        apart m beyond = ne_eqb m handle (λ same. absurd (omega (arith, same, beyond, within)))

    log-world-went : WentLog tells handle n added w (record w { logs = slice_set w.logs handle now; journal = k })
    log-world-went = record { log = log; now = now; was = there; same = refl; placed = has-placed added w.journal k gone.placed; counted = gone.counted }

  unchanged : (now : LogTurnState L) (k : JournalState Q) → now ≡ log → k ≡ w.journal → record w { logs = slice_set w.logs handle now; journal = k } ≡ w
  unchanged now k same_log same_journal =
      ap (λ (l : LogTurnState L). record w { logs = slice_set w.logs handle l; journal = k }) same_log
      ∙ (ap (λ (j : JournalState Q). record w { logs = slice_set w.logs handle log; journal = j }) same_journal
      ∙ ap (λ (logs : List (LogTurnState L)). record w { logs = logs }) (put-same w.logs handle log there))

  log-same-queue : (n : ℕ) (added : List Entry) (now : LogTurnState L) (k : JournalState Q) → LogWent tells.log tells.log_faults (setup_in tells w.begun) (log_at_first tells.log tells.log_faults (slice_get w.begun.logs handle)) n added log now w.journal k → k.queue ≡ w.journal.queue
  log-same-queue n added now k gone = ap (λ (x : JournalState Q). x.queue) gone.placed

  log-faulted : (o : Option Entry) (now : LogTurnState L) (k : JournalState Q) → length k.entries + k.reserved ≤ k.capacity → ((e : Entry) → o ≡ Some e → IsOnLog handle e) → LogFaulted tells.log tells.log_faults (setup_in tells w.begun) (log_at_first tells.log tells.log_faults (slice_get w.begun.logs handle)) o log now w.journal k → WorldStands tells (record w { logs = slice_set w.logs handle now; journal = k }) × Faulted tells (OnLog handle) o w (record w { logs = slice_set w.logs handle now; journal = k }) × (k.queue ≡ w.journal.queue)
  log-faulted None now k fits on gone = absurd gone
  log-faulted (Some e) now k fits on gone =
      let own = on-log-one handle e (on e refl) in
      (log-world-stands 1 (e ∷ []) now k own gone fits, log-world-went 1 (e ∷ []) now k own gone, log-same-queue 1 (e ∷ []) now k gone)

  -- What an event leaves of the log it leaves of the World.
  pub log-stepped : (it : Event Q) (answer : StepReply Q) (now : LogTurnState L) (k : JournalState Q) → length k.entries + k.reserved ≤ k.capacity → place_of_event (setup_in tells w.begun) w.journal.entries it ≡ OnLog handle → MayHappen (setup_in tells w.begun) w.journal.entries it → LogEventLeft tells.log tells.log_faults (setup_in tells w.begun) (log_at_first tells.log tells.log_faults (slice_get w.begun.logs handle)) it answer log now w.journal k → WorldStands tells (record w { logs = slice_set w.logs handle now; journal = k }) × WorldEventLeft tells it answer w (record w { logs = slice_set w.logs handle now; journal = k })
  log-stepped it step.NotNow now k fits at may left = absurd left.1
  log-stepped it (step.Refused (error.JournalFull entries)) now k fits at may left =
      let same = unchanged now k left.2 left.3 in
      let leaves = log-leaves (setup_in tells w.begun) w.journal.entries it handle at in (
        subst (λ (x : WorldState D L Q). WorldStands tells x) (sym same) stands,
        (
          (may, left.0, left.1, same),
          queue-left tells.posted it (step.Refused (error.JournalFull entries)) w.journal.queue k.queue leaves refl (ap (λ (x : JournalState Q). x.queue) left.3),
        ),
      )
  log-stepped it step.Faulted now k fits at may left =
      let u = setup_in tells w.begun in
      let past = w.journal.entries in
      let o = faulted_by past it in
      let all = log-faulted o now k fits (λ e is. fault-on-log u past it e handle at is) left.1.1 in (
        all.0,
        (
          (may, left.0, (left.1.0, subst (λ (p : Where). Faulted tells p o w (record w { logs = slice_set w.logs handle now; journal = k })) (sym at) all.1)),
          queue-left tells.posted it step.Faulted w.journal.queue k.queue (log-leaves u past it handle at) refl all.2,
        ),
      )
  log-stepped it (step.Refused error.NoMemory) now k fits at may left =
      let u = setup_in tells w.begun in
      let past = w.journal.entries in
      let added : List Entry = left.0 in
      let on = wanting-on-log u past it added handle at left.1 in (
        log-world-stands 0 added now k on left.2 fits,
        (
          (added, left.1, subst (λ (p : Where). WentAt tells p 0 added w (record w { logs = slice_set w.logs handle now; journal = k })) (sym at) (log-world-went 0 added now k on left.2)),
          queue-left tells.posted it (step.Refused error.NoMemory) w.journal.queue k.queue (log-leaves u past it handle at) refl (log-same-queue 0 added now k left.2),
        ),
      )
  log-stepped it (step.Kept routine e) now k fits at may left =
      absurd (never-kept (setup_in tells w.begun) w.journal.entries it routine e left.1.0 left.1.1)
  log-stepped it other now k fits at may left =
      let u = setup_in tells w.begun in
      let past = w.journal.entries in
      let added : List Entry = left.1.0 in
      let on = answers-on-log u past it other added handle at left.1.1 in (
        log-world-stands 0 added now k on left.1.2 fits,
        (
          (may, left.0, (added, left.1.1, subst (λ (p : Where). WentAt tells p 0 added w (record w { logs = slice_set w.logs handle now; journal = k })) (sym at) (log-world-went 0 added now k on left.1.2))),
          queue-left tells.posted it other w.journal.queue k.queue (log-leaves u past it handle at) refl (log-same-queue 0 added now k left.1.2),
        ),
      )
