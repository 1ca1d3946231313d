-- Why no run was made: the exit status, and what is printed.
use Rattle.std.specs.Prelude.{ℕ, Bool, true, false, List, [], ◌∷◌, ◌++◌, codes, decimal}
use Rattle.cc_command.specs.declared.no_run.NoRun.{NoRun}
use Rattle.cc_command.specs.declared.no_run.NoRun.TheVariants as no_run

-- the exit status of a run that was not made
abbrev pub status_of : NoRun → ℕ
status_of no_run.Usage = 1
status_of (no_run.Syntax line) = 2
status_of no_run.ReadFault = 3
status_of no_run.TooLong = 5
status_of no_run.NoMemory = 6
status_of no_run.TooFewDevices = 7

-- whether what is printed names a line
abbrev pub is_syntax : NoRun → Bool
is_syntax (no_run.Syntax line) = true
is_syntax other = false

abbrev pub line_feed : List ℕ
line_feed = 10 ∷ []

abbrev pub syntax_text : ℕ → List ℕ
syntax_text line = codes "syntax at line " ++ (decimal line ++ line_feed)

-- what is printed where no run was made
abbrev pub fault_text : NoRun → List ℕ
fault_text no_run.Usage = codes "usage: ntcache run FILE [DIR] | steps FILE | gen N" ++ line_feed
fault_text (no_run.Syntax line) = syntax_text line
fault_text no_run.ReadFault = codes "script read fault" ++ line_feed
fault_text no_run.TooLong = codes "script too long" ++ line_feed
fault_text no_run.NoMemory = []
fault_text no_run.TooFewDevices = codes "too few devices" ++ line_feed
