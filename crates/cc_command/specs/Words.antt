-- The words of the command line: `run FILE`, `run FILE DIR`, `steps FILE` or `gen N`.
use Rattle.std.specs.Prelude.{ℕ, Bool, true, false, not, ◌==◌, ◌&&◌, is_some, List, [], ◌∷◌, codes, if◌then◌else◌, option_map}
use Rattle.std.specs.declared.option.Option.{Option}
use Rattle.std.specs.declared.option.Option.TheVariants.{Some, None}
use Rattle.std.specs.Str.{bytes_eq}
use Rattle.cc_script.specs.Words.{parsed_number}
use Rattle.cc_script.specs.declared.script.Mode.{Mode}
use Rattle.cc_script.specs.declared.script.Mode.TheVariants as mode
use Rattle.cc_command.specs.declared.words.Command.{Command}
use Rattle.cc_command.specs.declared.words.Command.TheVariants as command

-- whether a word is neither empty nor begins with a dash
abbrev pub is_argument : List ℕ → Bool
is_argument [] = false
is_argument (first ∷ rest) = not (first == 45)

-- whether words are two or three arguments
abbrev pub is_line : List (List ℕ) → Bool
is_line (word ∷ argument ∷ []) = is_argument word && is_argument argument
is_line (word ∷ argument ∷ folder ∷ []) = is_argument word && (is_argument argument && is_argument folder)
is_line other = false

-- the command of a first word and of the word behind it: `run FILE`, `steps FILE`, or `gen N` with a decimal number below
-- 2^64, `0` or without a leading zero
abbrev pub command_by : List ℕ → List ℕ → Option Command
command_by word argument =
    if bytes_eq word (codes "run") then Some (command.Read mode.Run)
    else (if bytes_eq word (codes "steps") then Some (command.Read mode.Steps)
    else (if bytes_eq word (codes "gen") then option_map command.Generate (parsed_number argument) else None))

-- the command of a row of words
abbrev pub command_in : List (List ℕ) → Option Command
command_in (word ∷ argument ∷ []) = command_by word argument
command_in (word ∷ file ∷ folder ∷ []) = if bytes_eq word (codes "run") then Some (command.Read mode.Run) else None
command_in other = None

-- The command that the words ask for; none where they are no command. No word is empty or begins with a dash. Who takes a
-- folder behind the file of `run` hands in its disks and logs.
abbrev pub command_of : List (List ℕ) → Option Command
command_of words = if is_line words then command_in words else None

-- whether the words are a command
abbrev pub is_command : List (List ℕ) → Bool
is_command words = is_some (command_of words)

-- whether a command reads its script from the source
abbrev pub is_reading : Option Command → Bool
is_reading (Some (command.Read m)) = true
is_reading other = false

abbrev pub reads_source : List (List ℕ) → Bool
reads_source words = is_reading (command_of words)

-- the mode in which a command's script is run: a generated one in steps
abbrev pub mode_by : Command → Mode
mode_by (command.Read m) = m
mode_by (command.Generate n) = mode.Steps

abbrev pub mode_or_run : Option Command → Mode
mode_or_run None = mode.Run
mode_or_run (Some asked) = mode_by asked

-- the mode of the words, where they are a command
abbrev pub mode_in : List (List ℕ) → Mode
mode_in words = mode_or_run (command_of words)
