-- How a run of the program ends: its status, the cause of it, and what is printed.
use Rattle.std.specs.Prelude.{◌≡◌, ℕ, ◌+◌, ◌<◌, ◌≤◌, nat_le, nat_lt, Bool, true, false, ◌&&◌, List, [], ◌++◌, length, reverse, Ok, Err, Option, Some, None, ◌⊎◌}
use Rattle.std.specs.List.{list_all}
use Rattle.cc_entry.specs.declared.answer.LineReply.{LineReply}
use Rattle.cc_entry.specs.declared.entry.Entry.{Entry}
use Rattle.cc_traits.specs.Told.{Both, IfTold, SinkTook}
use Rattle.cc_command.specs.NoRun.{fault_text, status_of}
use Rattle.cc_command.specs.Taken.{TookPart}
use Rattle.cc_script.specs.declared.script.Script.{Script}
use Rattle.cc_script.specs.EventActions.{defer_lines}
use Rattle.cc_script.specs.Generator.{generated}
use Rattle.cc_script.specs.Grammar.{script_of}
use Rattle.cc_print.specs.Summary.{summary_of}
use Rattle.cc_print.specs.Text.{text_of}
use Rattle.cc_pieces.specs.Table.{table_of}
use Rattle.cc_command.specs.Words.{command_of, is_command, mode_in, reads_source}
use Rattle.cc_command.specs.declared.words.Command.{Command}
use Rattle.cc_command.specs.declared.words.Command.TheVariants as command
use Rattle.cc_command.specs.declared.no_run.NoRun.{NoRun}
use Rattle.cc_command.specs.declared.no_run.NoRun.TheVariants as no_run

-- What went into the program: its words; of the source, before and after, what it told of the bytes that
-- were left, its count of faults and the bytes that it ever gave, and whether its last call answered the end; and the
-- numbers of disks, of logs and of post routines.
pub record Input : Type 0 where
  pub words : List (List ℕ)
  pub left : Option (List ℕ)
  pub left_after : Option (List ℕ)
  pub faults : ℕ
  pub faults_after : ℕ
  pub given : List ℕ
  pub given_after : List ℕ
  pub ended : Bool
  pub disks : ℕ
  pub logs : ℕ
  pub posts : ℕ

-- the input of a source that tells so
abbrev pub input : {S : Type 0} → (S → Option (List ℕ)) → (S → ℕ) → (S → List ℕ) → (S → Bool) → List (List ℕ) → S → S
    → ℕ → ℕ → ℕ → Input
input told faults given ended words old new disks logs posts =
    record {
      words = words;
      left = told old;
      left_after = told new;
      faults = faults old;
      faults_after = faults new;
      given = given old;
      given_after = given new;
      ended = ended new;
      disks = disks;
      logs = logs;
      posts = posts;
    }

-- What came out of it: what the sink told of the bytes that it took, before and after, and its counts of
-- faults and of calls that took nothing where there were bytes.
pub record ProgramOutput : Type 0 where
  pub printed : Option (List ℕ)
  pub printed_after : Option (List ℕ)
  pub faults : ℕ
  pub faults_after : ℕ
  pub stalls : ℕ
  pub stalls_after : ℕ

-- the output to a sink that tells so
abbrev pub output : {K : Type 0} → (K → Option (List ℕ)) → (K → ℕ) → (K → ℕ) → K → K → ProgramOutput
output told faults stalls old new =
    record {
      printed = told old;
      printed_after = told new;
      faults = faults old;
      faults_after = faults new;
      stalls = stalls old;
      stalls_after = stalls new;
    }

-- The source gave these bytes and then answered its end: they are all of its bytes, also where it told none of them.
pub record GaveAll (i : Input) (bytes : List ℕ) : Type 0 where
  pub gave : i.given_after ≡ i.given ++ bytes
  pub ended : i.ended ≡ true
  pub all : IfTold i.left (λ told. bytes ≡ told)

-- all of the source's bytes spell the script in the mode of the words
pub record SpellsScript (i : Input) (script : Script) : Type 0 where
  pub bytes : List ℕ
  pub given : GaveAll i bytes
  pub spelled : script_of (mode_in i.words) bytes ≡ Ok script

-- all of the source's bytes have this line as their first wrong one
pub record IsWrong (i : Input) (line : ℕ) : Type 0 where
  pub bytes : List ℕ
  pub given : GaveAll i bytes
  pub wrong : script_of (mode_in i.words) bytes ≡ Err line

-- no more bytes were taken than a script may have
abbrev pub TookFew : Input → Type 0
TookFew i = length i.given_after ≤ length i.given + 16777216

-- more were taken
abbrev pub TookMany : Input → Type 0
TookMany i = length i.given + 16777216 < length i.given_after

-- never more than one byte more is taken
abbrev pub TookNoMore : Input → Type 0
TookNoMore i = length i.given_after ≤ length i.given + 16777217

-- whether a log is one of so many, where one is named
abbrev pub is_log_given : ℕ → Option ℕ → Bool
is_log_given logs None = true
is_log_given logs (Some handle) = nat_lt handle logs

-- whether so many disks, logs and post routines are enough for a script: there is a disk for each stream, each log that a
-- stream or a restart names, and a routine for each line that defers a write
abbrev pub has_devices : ℕ → ℕ → ℕ → Script → Bool
has_devices disks logs posts script =
    nat_le (length script.streams) disks
    && (list_all (λ stream. is_log_given logs stream.log) script.streams
    && (list_all (λ restart. nat_lt restart.handle logs) script.restarts && nat_le (defer_lines script.lines) posts))

-- the words ask for the source's script, which was taken to its end without a fault
pub record SourceIsRead (i : Input) : Type 0 where
  pub words : reads_source i.words ≡ true
  pub end : IfTold i.left_after (λ rest. rest ≡ [])
  pub few : TookFew i
  pub no_fault : i.faults_after ≡ i.faults

-- the words ask for the script of a number, and it is that
pub record IsGenerated (i : Input) (script : Script) : Type 0 where
  pub number : ℕ
  pub words : command_of i.words ≡ Some (command.Generate number)
  pub is : script ≡ generated number

-- the script is the one that the words ask for: all of the source's bytes spell it, or it is generated
abbrev pub IsAsked : Input → Script → Type 0
IsAsked i script = (SourceIsRead i × SpellsScript i script) ⊎ IsGenerated i script

-- the script that the words ask for has more streams than there are disks, names a log that there is not, or defers more
-- writes than there are routines
pub record HasTooFewDevices (i : Input) : Type 0 where
  pub script : Script
  pub asked : IsAsked i script
  pub few : has_devices i.disks i.logs i.posts script ≡ false

-- why no run was made; want of memory may come at any point
abbrev pub IsCause : Input → NoRun → Type 0
IsCause i no_run.Usage = is_command i.words ≡ false
IsCause i (no_run.Syntax line) = SourceIsRead i × IsWrong i line
IsCause i no_run.ReadFault = (reads_source i.words ≡ true) × (i.faults < i.faults_after) × TookFew i
IsCause i no_run.TooLong = (reads_source i.words ≡ true) × TookMany i
IsCause i no_run.NoMemory = Unit {0}
IsCause i no_run.TooFewDevices = HasTooFewDevices i

-- the sink failed, or took nothing where there were bytes
abbrev pub SinkHasFailed : ProgramOutput → Type 0
SinkHasFailed o = (o.faults < o.faults_after) ⊎ (o.stalls < o.stalls_after)

-- the sink took a text whole
abbrev pub IsTextPut : ProgramOutput → List ℕ → Type 0
IsTextPut o text = Both o.printed o.printed_after (SinkTook text)

-- the sink took the front of a text
abbrev pub IsPartPut : ProgramOutput → List ℕ → Type 0
IsPartPut o text = Both o.printed o.printed_after (TookPart text)

-- The text of the fault was taken whole, or its front where the sink failed. Where memory was wanting,
-- the front of some text was.
abbrev pub IsFaultPut : ProgramOutput → NoRun → Type 0
IsFaultPut o no_run.NoMemory = (other : NoRun) × IsPartPut o (fault_text other)
IsFaultPut o why = IsTextPut o (fault_text why) ⊎ (SinkHasFailed o × IsPartPut o (fault_text why))

-- no run was made
pub record ProgramIsRefused (i : Input) (o : ProgramOutput) (status : ℕ) : Type 0 where
  pub why : NoRun
  pub status_is : status ≡ status_of why
  pub cause : IsCause i why
  pub printed : IsFaultPut o why

-- A run was made, and its text printed: whole at status 0; at 4 a part of it, as the sink failed; at 6 a
-- part of it, for want of memory.
pub record IsPrinted (o : ProgramOutput) (text : List ℕ) (status : ℕ) : Type 0 where
  pub status_is : (status ≡ 0) ⊎ ((status ≡ 4) ⊎ (status ≡ 6))
  pub whole : status ≡ 0 → IsTextPut o text
  pub part : IsPartPut o text
  pub failed : status ≡ 4 → SinkHasFailed o

-- what a run prints: its text, and of a generated script its summary
abbrev pub printed_by : Option Command → Script → List LineReply → List Entry → List ℕ
printed_by (Some (command.Generate number)) script replies journal =
    summary_of number script replies journal (table_of (reverse journal))
printed_by other script replies journal = text_of script replies journal (table_of (reverse journal))

-- a run was made of the script that the words ask for
pub record IsProgramRun (i : Input) (o : ProgramOutput) (script : Script) (replies : List LineReply) (journal : List Entry) (status : ℕ) : Type 0 where
  pub asked : IsAsked i script
  pub enough : has_devices i.disks i.logs i.posts script ≡ true
  pub printed : IsPrinted o (printed_by (command_of i.words) script replies journal) status

-- How the program ended: without a run it gives back no script, reply or entry; with one, the script.
abbrev pub ProgramIsEnded : Input → ProgramOutput → Option Script → List LineReply → List Entry → ℕ → Type 0
ProgramIsEnded i o None replies journal status = (replies ≡ []) × (journal ≡ []) × ProgramIsRefused i o status
ProgramIsEnded i o (Some script) replies journal status = IsProgramRun i o script replies journal status

-- some run of the program ended so
pub record ProgramHasEnded (i : Input) (o : ProgramOutput) (status : ℕ) : Type 0 where
  pub script : Option Script
  pub replies : List LineReply
  pub journal : List Entry
  pub ended : ProgramIsEnded i o script replies journal status
