-- Whatever an event did to the journal alone, all of the World goes on standing.
use Rattle.std.specs.Prelude.{◌≡◌, ℕ, ◌+◌, ◌≤◌, List, ◌++◌, length, slice_get, refl}
use Rattle.std.proofs.Common.{sym, subst, ap, ◌∙◌, arith}
use Rattle.cc_entry.specs.declared.entry.Entry.{Entry}
use Rattle.cc_entry.specs.declared.error.CcError.TheVariants as error
use Rattle.cc_journal.specs.Journal.{JournalState}
use Rattle.cc_laws.proofs.LogSteps.{flushed_to-quiet}
use Rattle.cc_log.specs.Turn.{LogTurnState}
use Rattle.cc_model.specs.History.{history}
use Rattle.cc_model.specs.Logs.{flushed_to}
use Rattle.cc_turns.specs.Desk.{Tells, LogIsHome, disk_at_first, log_at_first, openings}
use Rattle.cc_turns.specs.Log.{LogStands}
use Rattle.cc_turns.proofs.LogGrows.{log_grows}
use Rattle.cc_world.specs.Filing.{AreBooks}
use Rattle.cc_world.specs.Journals.{JournalEnded, JournalLeft, JournalStandsUnder, JournalWent, refused_plainly}
use Rattle.cc_world.specs.Rows.{RowStands}
use Rattle.cc_effects.specs.Events.{OnJournal, Where, place_of_event}
use Rattle.cc_world.specs.World.{Happened, RowIsHome, WorldEventLeft, WentAlone, WentAt, WorldStands, WorldState}
use Rattle.cc_effects.specs.declared.events.Event.{Event}
use Rattle.cc_effects.specs.declared.events.StepReply.{StepReply}
use Rattle.cc_effects.specs.declared.events.StepReply.TheVariants as step
use Rattle.cc_world.specs.declared.rows.StreamRow.{StreamRow}
use Rattle.cc_turns.proofs.Capacity.{journal_within}
use Rattle.cc_world.proofs.Belonging.{answers-alone, wanting-alone}
use Rattle.cc_world.proofs.Quiet.{AreAlone}
use Rattle.cc_world.proofs.Steps.{used-grows}
use Rattle.cc_turns.specs.Slots.{setup_in}

module _ {D L Q : Type 0} (tells : Tells D L Q) (w : WorldState D L Q) (stands : WorldStands tells w) where
  -- the journal stands under the setup, and so do the books for it
  pub journal-stands : JournalStandsUnder tells.posted (setup_in tells w.begun) w.journal
  journal-stands = record {
    good = stands.journal.good;
    limits = (sym stands.journal.limits.2, sym stands.journal.limits.1);
    reserved = stands.journal.reserved;
    unposted = stands.journal.unposted;
  }

  pub are-books : AreBooks w.journal.entries w.rows
  are-books = record {
    few = subst (λ (n : ℕ). n ≤ 16) (sym stands.rows.counted) stands.few.0;
    stream = λ s row is. (stands.rows.each s row is).stream;
    stands = λ s row is. (openings tells.disk tells.disk_faults w.begun.disks s, (stands.rows.each s row is).stands.book);
    beyond = λ s past. stands.journal.no_stream s (subst (λ (n : ℕ). n ≤ s) stands.rows.counted past);
  }

  module _ (added : List Entry) (k : JournalState Q) (alone : AreAlone added) (gone : JournalWent tells.posted (setup_in tells w.begun) added w.journal k) where
    grown : k.entries ≡ added ++ w.journal.entries
    grown = ap (λ (x : JournalState Q). x.entries) gone.placed

    each-row : (s : ℕ) (r : StreamRow D) → RowIsHome tells w.begun.disks w.journal.entries s r → RowIsHome tells w.begun.disks k.entries s r
    each-row s r there = record {
      stream = there.stream;
      stands = subst (λ (past : List Entry). RowStands tells.disk tells.disk_faults (openings tells.disk tells.disk_faults w.begun.disks s) (disk_at_first tells.disk tells.disk_faults (slice_get w.begun.disks s)) past r) (sym grown) (record {
        book = alone.book (openings tells.disk tells.disk_faults w.begun.disks s) w.journal.entries r.book there.stands.book;
        disk = used-grows tells.disk tells.disk_faults (disk_at_first tells.disk tells.disk_faults (slice_get w.begun.disks s)) added w.journal.entries r.book.stream r.disk r.kept (alone.device r.book.stream) there.stands.disk;
      });
    }

    each-log : (handle : ℕ) (log : LogTurnState L) → LogIsHome tells.log tells.log_faults w.begun.logs w.journal.entries handle log → LogIsHome tells.log tells.log_faults w.begun.logs k.entries handle log
    each-log handle log there = record {
      handle_is = there.handle_is;
      stands = subst (λ (past : List Entry). LogStands tells.log tells.log_faults (log_at_first tells.log tells.log_faults (slice_get w.begun.logs handle)) past log) (sym grown)
          (log_grows tells.log tells.log_faults (log_at_first tells.log tells.log_faults (slice_get w.begun.logs handle)) added w.journal.entries log (alone.log log.handle) there.stands);
    }

    world-stands-alone : length k.entries + k.reserved ≤ k.capacity → WorldStands tells (record w { journal = k })
    world-stands-alone fits = record {
      rows = record { counted = stands.rows.counted; each = λ s r is. each-row s r (stands.rows.each s r is) };
      logs = record { counted = stands.logs.counted; each = λ handle log is. each-log handle log (stands.logs.each handle log is) };
      journal = record {
        good = gone.stands.good;
        limits = (
          ap (λ x. x.capacity) gone.placed ∙ stands.journal.limits.0,
          ap (λ x. x.threshold) gone.placed ∙ stands.journal.limits.1,
          ap (λ x. x.logs) gone.placed ∙ stands.journal.limits.2,
        );
        reserved = gone.stands.reserved;
        unposted = gone.stands.unposted;
        strange = λ handle beyond. ap (λ (p : List Entry). flushed_to p handle) grown
            ∙ (flushed_to-quiet added w.journal.entries handle (alone.log handle) ∙ stands.journal.strange handle beyond);
        no_stream = λ s beyond. ap (λ (p : List Entry). history p s) grown
            ∙ (alone.same w.journal.entries s ∙ stands.journal.no_stream s beyond);
        within = journal_within k w.begun.capacity added w.journal.entries grown alone.event (ap (λ x. x.capacity) gone.placed ∙ stands.journal.limits.0) (owed _ _ gone.stands.reserved) fits stands.journal.within;
      };
      few = stands.few;
    }
      where
        owed : (a b : ℕ) → a ≡ b → b ≤ a
        owed a b same = omega arith

    went-alone : WentAlone added w (record w { journal = k })
    went-alone = record { same = refl; placed = gone.placed }

  unmoved : (k : JournalState Q) → k ≡ w.journal → record w { journal = k } ≡ w
  unmoved k same = ap (λ (j : JournalState Q). record w { journal = j }) same

  at-home : (v : WorldState D L Q) → v ≡ w → WorldStands tells v
  at-home v same = subst (λ (x : WorldState D L Q). WorldStands tells x) (sym same) stands

  happened : (it : Event Q) (answer : StepReply Q) (k : JournalState Q) → length k.entries + k.reserved ≤ k.capacity → place_of_event (setup_in tells w.begun) w.journal.entries it ≡ OnJournal → JournalEnded tells.posted (setup_in tells w.begun) it answer w.journal k → WorldStands tells (record w { journal = k }) × Happened tells it answer w (record w { journal = k })
  happened it step.NotNow k fits at left =
      let same = unmoved k left.1 in
      (at-home _ same, (left.0, same))
  happened it step.Faulted k fits at left = absurd left
  happened it (step.Refused (error.JournalFull entries)) k fits at left =
      let same = unmoved k left.3 in
      (at-home _ same, (left.0, left.1, left.2, same))
  happened it (step.Refused error.NoMemory) k fits at left =
      let added : List Entry = left.0 in
      let alone = wanting-alone (setup_in tells w.begun) w.journal.entries it added at left.1 in (
        world-stands-alone added k alone left.2 fits,
        (added, left.1, subst (λ (p : Where). WentAt tells p 0 added w (record w { journal = k })) (sym at) (went-alone added k alone left.2)),
      )
  happened it other k fits at left =
      let added : List Entry = left.2.0 in
      let alone = answers-alone (setup_in tells w.begun) w.journal.entries it other added at left.2.1 in (
        world-stands-alone added k alone left.2.2 fits,
        (left.0, left.1, (added, left.2.1, subst (λ (p : Where). WentAt tells p 0 added w (record w { journal = k })) (sym at) (went-alone added k alone left.2.2))),
      )

  -- What an event leaves of the journal it leaves of the World.
  pub journal-stepped : (it : Event Q) (answer : StepReply Q) (k : JournalState Q) → length k.entries + k.reserved ≤ k.capacity → place_of_event (setup_in tells w.begun) w.journal.entries it ≡ OnJournal → JournalLeft tells.posted (setup_in tells w.begun) it answer w.journal k → WorldStands tells (record w { journal = k }) × WorldEventLeft tells it answer w (record w { journal = k })
  journal-stepped it answer k fits at left =
      let both = happened it (refused_plainly answer) k fits at left.0 in
      (both.0, (both.1, left.1))
