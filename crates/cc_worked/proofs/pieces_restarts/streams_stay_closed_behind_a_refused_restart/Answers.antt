-- A line that makes no call leaves no entry of pass 0.
use Rattle.std.specs.Prelude.{◌≡◌, List, [], ◌∷◌, ◌++◌, refl}
use Rattle.std.proofs.Common.{sym}
use Rattle.std.proofs.lemmas.List.{append_cancel_right}
use Rattle.cc_entry.specs.declared.entry.Entry.{Entry}
use Rattle.cc_effects.specs.Moments.{IsIdle, Others}
use Rattle.cc_effects.proofs.Stretches.{idle-none}
use Rattle.cc_worked.specs.PiecesRuns.{opens}
use Rattle.cc_worked.proofs.pieces_restarts.streams_stay_closed_behind_a_refused_restart.Goals as goal

pub returns-clause-refused : goal.returns-clause-refused
returns-clause-refused c = record { opened = (refl, idle-none 0 []); room = λ none. absurd (cc none) }

pub returns-clause-not_opened : goal.returns-clause-not_opened
returns-clause-not_opened c left = absurd (cc left.opened.0)

pub returns-clause-no_other_refusal : goal.returns-clause-no_other_refusal
returns-clause-no_other_refusal c left = absurd (cc left.opened.0)

pub returns-clause-calls_nothing : goal.returns-clause-calls_nothing
returns-clause-calls_nothing c left = own (rw (sym (append_cancel_right opens idle.during [] idle.grew)) at idle.others)
  where
    idle : IsIdle 0 [] (opens ++ [])
    idle = left.opened.1

    own : Others 0 opens → ⊥
    own others = absurd (cc others.0)
