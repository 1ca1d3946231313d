-- What is written through the reference is the hold that was there, as a pin.
use Rattle.std.specs.Prelude.{nat_eq, ◌&&◌, cond, IsSome, refl}
use Rattle.std.specs.declared.option.Option.{Option}
use Rattle.std.specs.Option.{option_map}
use Rattle.std.proofs.Common.{ap, subst, ◌∙◌}
use Rattle.cc_event_lines.specs.Names.{newest_in, pinned}
use Rattle.cc_event_lines.specs.declared.names.NamedHold.{NamedHold}
use Rattle.cc_event_lines.proofs.newest.NewestHolds.pin.Goals as goal

pub returns-in-Some-clause-pinned : goal.returns-in-Some-clause-pinned
returns-in-Some-clause-pinned c me word =
    let through = c.get_mut.follows.holds (pinned c.in-Some.named.now) in
    let updates = through.3 (subst (λ (o : Option NamedHold). IsSome o) c.in-Some.ensures.value refl) in
    updates.0 (me, word)
    ∙ ap (λ (o : Option NamedHold). cond (nat_eq c.args.caller me && nat_eq c.args.word word) (option_map pinned o) (newest_in c.args.self.now.holds.entries me word)) c.in-Some.ensures.value
