-- Phases that have a checkpoint: each has lines of one caller alone.
use Rattle.std.specs.Prelude.{ℕ, ◌≡◌, Bool, true, false, ◌&&◌, ◌||◌, ◌==◌, not, Option, Some, None, List, [], ◌∷◌}
use Rattle.std.specs.List.{AllByRecursion}
use Rattle.cc_script.specs.declared.script.Action.{Action}
use Rattle.cc_script.specs.declared.script.Action.TheVariants as action
use Rattle.cc_script.specs.declared.script.ActionLine.{ActionLine}
use Rattle.cc_script.specs.declared.phase_lines.PhaseLines.{PhaseLines}

abbrev pub is_checkpoint : Action → Bool
is_checkpoint (action.Checkpoint _ _) = true
is_checkpoint other = false

-- a phase that has no line
abbrev pub no_lines_yet : PhaseLines
no_lines_yet = record { caller = None; many = false; checkpoint = false }

-- whether a caller is another than the one that had the last line
abbrev pub is_other : Option ℕ → ℕ → Bool
is_other None caller = false
is_other (Some last) caller = not (last == caller)

-- a phase behind one line more
abbrev pub phase_with : ℕ → Action → PhaseLines → PhaseLines
phase_with caller action phase = record {
  caller = Some caller;
  many = phase.many || is_other phase.caller caller;
  checkpoint = phase.checkpoint || is_checkpoint action;
}

-- it has not both a checkpoint and a second caller
abbrev pub is_kept_apart : PhaseLines → Bool
is_kept_apart phase = not (phase.many && phase.checkpoint)

-- two lines of one phase, one of them a checkpoint, are of one caller
abbrev pub StandApart : ActionLine → ActionLine → Type 0
StandApart one other =
    one.phase ≡ other.phase → (is_checkpoint one.action || is_checkpoint other.action) ≡ true → one.caller ≡ other.caller

abbrev pub CheckpointsStandApart : List ActionLine → Type 0
CheckpointsStandApart [] = Unit {0}
CheckpointsStandApart (line ∷ lines) = AllByRecursion (StandApart line) lines × CheckpointsStandApart lines
