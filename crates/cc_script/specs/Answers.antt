-- What the reader of a script answers.
use Rattle.std.specs.Prelude.{ℕ, ◌≡◌, Result, Ok, Err}
use Rattle.cc_script.specs.declared.script.Script.{Script}
use Rattle.cc_script.specs.declared.script.ScriptFault.{ScriptFault}
use Rattle.cc_script.specs.declared.script.ScriptFault.TheVariants as fault

-- the script of the grammar, or its first wrong line; only want of memory is free
abbrev pub ReadsScript : Result Script ℕ → Result Script ScriptFault → Type 0
ReadsScript spelled (Ok script) = spelled ≡ Ok script
ReadsScript spelled (Err (fault.Syntax line)) = spelled ≡ Err line
ReadsScript spelled (Err fault.NoMemory) = Unit {0}
