-- Only a call that was done on a stream changes what is kept; any other end leaves the streams as they stand.
use Rattle.std.specs.Prelude.{ℕ, ◌≡◌, Some, None, true, Option}
use Rattle.std.proofs.Common.{refl}
use Rattle.cc_entry.specs.declared.call.Call.{Call}
use Rattle.cc_entry.specs.declared.entry.Entry.TheVariants as entry
use Rattle.cc_entry.specs.declared.reply.Outcome.{Outcome}
use Rattle.cc_entry.specs.declared.reply.Outcome.TheVariants as outcome
use Rattle.cc_entry.specs.declared.reply.Reply.{Reply}
use Rattle.cc_journal.specs.Streams.{leaves_streams}
use Rattle.cc_journal.proofs.StreamsSteps.{stands_left}
use Rattle.cc_journal.proofs.streams.Streams.call_ended.Goals as goal

pub returns-in-Done-clause-stands : goal.returns-in-Done-clause-stands
returns-in-Done-clause-stands c past pass nth here stands = rw (c.in-Some.is, c.in-Done.is) (c.call_done.ensures.stands past pass nth here stands)

-- a call that was not done, or is of no stream
not_done : (pass nth : ℕ) (stream : Option ℕ) (it : Call) (ended : Outcome) → ((reply : Reply) → ended ≡ outcome.Done reply → ⊥) → leaves_streams (entry.Call pass nth stream it ended) ≡ true
not_done pass nth None it ended not_it = refl
not_done pass nth (Some stream) it (outcome.Done reply) not_it = absurd (not_it reply refl)
not_done pass nth (Some stream) it (outcome.Failed error) not_it = refl

no_stream : (pass nth : ℕ) (stream : Option ℕ) (it : Call) (ended : Outcome) → ((x : ℕ) → stream ≡ Some x → ⊥) → leaves_streams (entry.Call pass nth stream it ended) ≡ true
no_stream pass nth None it ended not_it = refl
no_stream pass nth (Some stream) it ended not_it = absurd (not_it stream refl)

pub returns-in_default-outcome-clause-stands : goal.returns-in_default-outcome-clause-stands
returns-in_default-outcome-clause-stands c past pass nth here stands =
    stands_left _ past c.args.self.now.states.value c.args.self.now.places.places.entries c.args.self.now.dirty.rows
    (not_done pass nth c.args.stream.now c.args.call.now c.args.outcome.now c.in_default-outcome.not-Done) stands

pub returns-in_default-clause-stands : goal.returns-in_default-clause-stands
returns-in_default-clause-stands c past pass nth here stands =
    stands_left _ past c.args.self.now.states.value c.args.self.now.places.places.entries c.args.self.now.dirty.rows
    (no_stream pass nth c.args.stream.now c.args.call.now c.args.outcome.now c.in_default.not-Some) stands
