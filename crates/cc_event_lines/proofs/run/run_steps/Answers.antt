-- The routines that were handed in are those of the lines to come.
use Rattle.std.specs.Prelude.{◌≡◌, ◌≤◌, All, List, false, length}
use Rattle.std.proofs.Common.{sym, ◌∙◌, subst}
use Rattle.cc_event_lines.proofs.run.run_steps.Goals as goal

pub run_on-requires-clause-routines : goal.run_on-requires-clause-routines
run_on-requires-clause-routines g c =
    let new = c.in-Ok-new.ensures.ok in
    record {
      slots = new.0;
      unused = new.1 ∙ sym new.2;
      unposted = subst (λ (rs : List g.row.Q.Denot). All (λ routine. g.Q.PostRoutine.posted routine ≡ false) rs) (sym new.2) c.requires.unposted;
      room = subst (λ (rs : List g.row.Q.Denot). length rs ≤ c.in-Ok-new.routines.room) (sym new.2) c.in-Ok-new.ensures.room;
    }
