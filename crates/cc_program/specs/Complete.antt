-- When each exit status is sure to come: that status, or 6 for want of memory; and when no fault is shown or told.
use Rattle.std.specs.Prelude.{◌≡◌, ◌<◌, ◌≤◌, ◌⊎◌, true, false, List, ℕ, length, Some, Result, Ok, Err}
use Rattle.cc_entry.specs.declared.answer.LineReply.{LineReply}
use Rattle.cc_entry.specs.declared.entry.Entry.{Entry}
use Rattle.cc_pieces.specs.Faultless.{IsFaultless}
use Rattle.cc_script.specs.declared.script.Script.{Script}
use Rattle.cc_script.specs.Grammar.{script_of}
use Rattle.cc_command.specs.Words.{mode_in, reads_source}
use Rattle.cc_program.specs.Disks.{Pairwise}
use Rattle.cc_program.specs.Ends.{Input, ProgramOutput, GaveAll, IsGenerated, TookMany, has_devices}
use Rattle.cc_program.specs.Setups.{run_disks, run_logs}

-- The words ask for the source's script, and these bytes, no more than a script may have, come from it without a fault: it
-- told that they are left, or it gave them up to its end.
pub record Comes (i : Input) (bytes : List ℕ) : Type 0 where
  pub words : reads_source i.words ≡ true
  pub come : (i.left ≡ Some bytes) ⊎ GaveAll i bytes
  pub short : length bytes ≤ 16777216
  pub no_fault : i.faults_after ≡ i.faults

-- the script that bytes spell in the mode of the words, or their first wrong line
abbrev pub spelled_by : Input → List ℕ → Result Script ℕ
spelled_by i bytes = script_of (mode_in i.words) bytes

-- bytes that come spell the script
pub record IsSpelled (i : Input) (script : Script) : Type 0 where
  pub bytes : List ℕ
  pub comes : Comes i bytes
  pub spelled : spelled_by i bytes ≡ Ok script

-- the script is sure to be found: bytes that come spell it, or it is generated
abbrev pub IsFound : Input → Script → Type 0
IsFound i script = IsSpelled i script ⊎ IsGenerated i script

-- this status, or want of memory
abbrev pub EndsWith : ℕ → ℕ → Type 0
EndsWith status expected = (status ≡ expected) ⊎ (status ≡ 6)

-- a wrong line is 2
abbrev pub SyntaxAlways : Input → ℕ → Type 0
SyntaxAlways i status = (bytes : List ℕ) (line : ℕ) → Comes i bytes → spelled_by i bytes ≡ Err line → EndsWith status 2

-- more bytes taken than a script may have are 5
abbrev pub TooLongAlways : Input → ℕ → Type 0
TooLongAlways i status = TookMany i → EndsWith status 5

-- where the source tells its bytes and does not fail, more of them than a script may have are 5
abbrev pub TooLongTold : Input → ℕ → Type 0
TooLongTold i status =
    (bytes : List ℕ) → reads_source i.words ≡ true → i.left ≡ Some bytes → i.faults_after ≡ i.faults →
    16777216 < length bytes → EndsWith status 5

-- more streams than disks, a log that there is not, or more deferrals than routines are 7
abbrev pub TooFewAlways : Input → ℕ → Type 0
TooFewAlways i status =
    (script : Script) → IsFound i script → has_devices i.disks i.logs i.posts script ≡ false → EndsWith status 7

-- A script of the grammar, or of a number, with a disk for each stream, each log that a stream or a restart names and a
-- routine for each deferral, over a sink that does not fail and takes something wherever there are bytes, is 0.
abbrev pub Completes : Input → ProgramOutput → ℕ → Type 0
Completes i o status =
    (script : Script) → IsFound i script → has_devices i.disks i.logs i.posts script ≡ true →
    o.faults_after ≡ o.faults → o.stalls_after ≡ o.stalls → EndsWith status 0

-- no count of faults rose
abbrev pub HaveStayed : {D : Type 0} → (D → ℕ) → List D → List D → Type 0
HaveStayed faults old new = Pairwise (λ s before after. faults after ≤ faults before) old new

-- Where no count rose, of the disks and of the logs of a run, no failure stands in its journal, and no answer tells one.
abbrev pub RanWithoutFault : {D L : Type 0} → (D → ℕ) → (L → ℕ) → List D → List D → List L → List L
    → List LineReply → List Entry → Type 0
RanWithoutFault disk_faults log_faults disks disks_after logs logs_after replies past =
    HaveStayed disk_faults (run_disks disks) (run_disks disks_after) →
    HaveStayed log_faults (run_logs logs) (run_logs logs_after) →
    IsFaultless replies past
