-- An event that is no sync asks room for the row of its pass, and for the block of the page that it may bring in.
use Rattle.std.proofs.Common.{◌∙◌}
use Rattle.cc_world.proofs.Following.{can-follow, kept-blocks, kept-passes, no-sync-of}
use Rattle.cc_world.proofs.notes.Notes.take_room.Goals as goal

pub returns-in_default : goal.returns-in_default
returns-in_default g c =
    let past = c.args.machine.now.journal.entries in
    let admitted = kept-passes past c.args.self.now c.admit.new.self c.in_ok-admit.ensures.rows c.requires in
    let stood = kept-blocks past (record (c.args.self.now) { passes = c.admit.new.self }) c.reserve.new.self (c.in_ok-reserve.ensures.stands c.requires.blocks) admitted in
    record {
      room = can-follow past c.args.event.now _ c.new.result.items stood
          (λ me its. c.in_ok-admit.ensures.room me (c.pass_admitted.ensures ∙ its))
          (λ me s is. absurd (no-sync-of c.args.event.now c.in_default.not-Sync me s is))
          (λ brings. c.in_ok-reserve.ensures.room (c.may_bring.ensures ∙ brings));
      stands = stood;
      wanting = tt;
    }
