-- What the event added is followed, for which there was room.
use Rattle.std.specs.Prelude.{◌≡◌, length}
use Rattle.std.proofs.Common.{ap, subst, sym, ◌∙◌}
use Rattle.cc_world.proofs.Growth.{follows-all}
use Rattle.cc_world.specs.Notes.{CanFollowAll, NotesStand}
use Rattle.cc_world.proofs.world.World.happen.Goals as goal

pub follow-requires : goal.follow-requires
follow-requires g c =
    let past = c.self.inside.machine.journal.entries in (
      past,
      c.len-before.ensures ∙ ap (λ j. length j.entries) c.journal.ensures.same,
      subst (λ j. CanFollowAll c.take_room.new.self c.in-Ok.unsettled.items past j.entries) (sym c.journal-in-Ok.ensures.same)
          (follows-all c.take_room.new.self c.in-Ok.unsettled.items past c.step-reply.new.self.journal.entries c.args.event c.in-Ok.ensures.room c.step-reply.ensures.grew),
    )

pub invariant_of-self : goal.invariant_of-self
invariant_of-self g c =
    let past = c.self.inside.machine.journal.entries in
    subst (λ j. NotesStand j.entries c.follow.new.self) c.journal-in-Ok.ensures.same
    (c.follow.ensures past (c.len-before.ensures ∙ ap (λ j. length j.entries) c.journal.ensures.same)
    (subst (λ j. CanFollowAll c.take_room.new.self c.in-Ok.unsettled.items past j.entries) (sym c.journal-in-Ok.ensures.same)
    (follows-all c.take_room.new.self c.in-Ok.unsettled.items past c.step-reply.new.self.journal.entries c.args.event c.in-Ok.ensures.room c.step-reply.ensures.grew))
    c.in-Ok.ensures.stands)
