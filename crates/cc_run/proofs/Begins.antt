-- How a run began: its restarts were ended and its streams were opened, by pass 0 alone.
use Rattle.std.specs.Prelude.{◌≡◌, ◌≢◌, ℕ, List, [], ◌++◌, length, drop, reverse}
use Rattle.std.specs.declared.option.Option.{Option}
use Rattle.std.proofs.Common.{ap, sym, subst, ◌∙◌}
use Rattle.std.proofs.lemmas.List.{drop_at, length-map}
use Rattle.cc_entry.specs.declared.answer.LineReply.{LineReply}
use Rattle.cc_entry.specs.declared.entry.Entry.{Entry}
use Rattle.cc_script.specs.declared.script.Script.{Script}
use Rattle.cc_model.specs.Setup.{Setup}
use Rattle.cc_effects.specs.Moments.{IsIdle}
use Rattle.cc_effects.proofs.Stretches.{idle-then}
use Rattle.cc_traits.specs.Disk.{Disk}
use Rattle.cc_traits.specs.Log.{Log}
use Rattle.cc_turns.specs.Desk.{DeskState, standing_of}
use Rattle.cc_turns.specs.Standing.{Standing}
use Rattle.cc_restarts.specs.declared.ended.LogRestart.{LogRestart}
use Rattle.cc_run.specs.Begun.{RunHasBegun}
use Rattle.cc_run.specs.Desks.{IsSameRun}
use Rattle.cc_run.specs.Lines.{StreamsOpened}
use Rattle.cc_program.specs.Restarting.{AreEndsOf, RestartsEnded}
use Rattle.cc_run.proofs.Ending.{ended-lines, ended-long}
use Rattle.cc_run.proofs.RowSteps.{reverse_twice}

pub begun-long : (u : Setup) (script : Script) (restarted : List LogRestart) (ended between : List LineReply) (ends begun : List Entry) → RunHasBegun u script restarted ended between ends begun → length ended ≡ length script.restarts
begun-long u script restarted ended between ends begun begins = ended-long u script.restarts restarted ended [] ends begins.are begins.ended_are

-- each restart that ended has a reply
pub told-long : (u : Setup) (script : Script) (restarted : List LogRestart) (ended between : List LineReply) (ends begun : List Entry) → RunHasBegun u script restarted ended between ends begun → length ended ≡ length restarted
told-long u script restarted ended between ends begun begins =
    sym (length-map ended (λ r. r.line)) ∙ (ap length (ended-lines u restarted ended [] ends begins.ended_are) ∙ length-map restarted (λ r. r.line))

-- behind the replies of the restarts are those of the run
pub kept-behind : (u : Setup) (script : Script) (restarted : List LogRestart) (ended between kept all : List LineReply) (ends begun : List Entry) → RunHasBegun u script restarted ended between ends begun → all ≡ ended ++ kept → drop (length script.restarts) all ≡ kept
kept-behind u script restarted ended between kept all ends begun begins is =
    ap (drop (length script.restarts)) is ∙ drop_at ended kept (length script.restarts) (begun-long u script restarted ended between ends begun begins)

-- each stream has a reply
pub streams-long : (u : Setup) (script : Script) (restarted : List LogRestart) (ended between : List LineReply) (ends begun : List Entry) → RunHasBegun u script restarted ended between ends begun → length between ≡ length script.streams
streams-long u script restarted ended between ends begun begins =
    ap length begins.opened.grew ∙ (sym (length-map begins.opened.answers (λ r. r.line)) ∙ (ap length begins.opened.lines_are ∙ length-map script.streams (λ s. s.line)))

-- on a desk: behind the restarts it acts as pass 0 anew
module _ {D L Q : Type 0} (told : D → Option Disk) (faults : D → ℕ) (log_told : L → Option Log) (log_faults : L → ℕ) (d0 d1 d2 d3 : DeskState D L Q) (acts : d2 ≡ record d1 { pass = 0; since = d1.last.entries }) (first : IsSameRun (standing_of told faults log_told log_faults d0) (standing_of told faults log_told log_faults d1)) where
  abbrev at : DeskState D L Q → Standing
  at = standing_of told faults log_told log_faults

  pub run-over : IsSameRun (at d2) (at d3) → IsSameRun (at d0) (at d3)
  run-over second = record {
    setup = second.setup ∙ (ap (λ (d : DeskState D L Q). (at d).setup) acts ∙ first.setup);
    streams = second.streams ∙ (ap (λ (d : DeskState D L Q). (at d).streams) acts ∙ first.streams);
    disks = second.disks ∙ (ap (λ (d : DeskState D L Q). (at d).disks) acts ∙ first.disks);
    logs = second.logs ∙ (ap (λ (d : DeskState D L Q). (at d).logs) acts ∙ first.logs);
  }

  pub begun-so : (script : Script) (restarted : List LogRestart) (ended before between : List LineReply) → d0.last.entries ≡ [] → before ≡ [] → AreEndsOf script.restarts restarted →
      RestartsEnded (at d0).setup restarted ended d0.last.entries d1.last.entries → ((me : ℕ) → me ≢ 0 → IsIdle me d0.last.entries d1.last.entries) →
      StreamsOpened (at d2).setup script.restarts ended 0 script.streams before between d2.last.entries d3.last.entries → ((me : ℕ) → me ≢ 0 → IsIdle me d2.last.entries d3.last.entries) →
      RunHasBegun (at d0).setup script restarted ended between d1.last.entries d3.last.entries
  begun-so script restarted ended before between empty none are ended_are ended_alone opened opened_alone = record {
    are = are;
    ended_are = subst (λ (l : List Entry). RestartsEnded (at d0).setup restarted ended l d1.last.entries) empty ended_are;
    ended_alone = λ me other. subst (λ (l : List Entry). IsIdle me l d1.last.entries) empty (ended_alone me other);
    opened =
        subst (λ (u : Setup). StreamsOpened u script.restarts ended 0 script.streams [] between d1.last.entries d3.last.entries) (ap (λ (d : DeskState D L Q). (at d).setup) acts ∙ first.setup)
        (subst (λ (l : List Entry). StreamsOpened (at d2).setup script.restarts ended 0 script.streams [] between l d3.last.entries) same_entries
        (subst (λ (l : List LineReply). StreamsOpened (at d2).setup script.restarts ended 0 script.streams l between d2.last.entries d3.last.entries) none opened));
    alone = λ me other.
        subst (λ (l : List Entry). IsIdle me l d3.last.entries) empty
        (idle-then me d0.last.entries d1.last.entries d3.last.entries (ended_alone me other) (subst (λ (l : List Entry). IsIdle me l d3.last.entries) same_entries (opened_alone me other)));
  }
    where
      same_entries : d2.last.entries ≡ d1.last.entries
      same_entries = ap (λ (d : DeskState D L Q). d.last.entries) acts

-- all replies are those of the restarts and then those of the run
pub all-replies : (ended kept turned all : List LineReply) → turned ≡ reverse kept → all ≡ ended ++ reverse turned → all ≡ ended ++ kept
all-replies ended kept turned all turned_is all_is = all_is ∙ ap (λ l. ended ++ l) (ap reverse turned_is ∙ reverse_twice kept)
