-- A word that names a pin names one that covers the place; another word or none answers that there is no hold.
use Rattle.std.proofs.Common.{◌∙◌, ap, sym}
use Rattle.std.specs.declared.option.Option.TheVariants.{Some}
use Rattle.cc_entry.specs.Kinds.{is_pin}
use Rattle.cc_script.specs.declared.bound.Need.TheVariants as need
use Rattle.cc_lines.specs.declared.holds.Named.{Named}
use Rattle.cc_lines.specs.declared.holds.Named.TheVariants as named
use Rattle.cc_lines.proofs.WordLines.{none-serves, not-pin, other-serves}
use Rattle.cc_lines.proofs.UseLines.{may-call, may-cover, may-hold, no-write, pin-write}
use Rattle.cc_lines.proofs.held_lines.held_write.Goals as goal

pub write_pin-requires-clause-can : goal.write_pin-requires-clause-can
write_pin-requires-clause-can g c = may-call (g.T.Turns.standing c.args.turns.now) _ c.args.names.now need.Pin c.args.word (named.Pin c.in-Pin.hold) c.requires c.requires.right.uses (sym c.in-Some.ensures ∙ ap (λ (n : Named). Some n) c.in-Pin.is)

pub write_pin-requires-clause-holding : goal.write_pin-requires-clause-holding
write_pin-requires-clause-holding g c = may-hold (g.T.Turns.standing c.args.turns.now) _ c.args.names.now need.Pin c.args.word (named.Pin c.in-Pin.hold) c.requires c.requires.right.uses (sym c.in-Some.ensures ∙ ap (λ (n : Named). Some n) c.in-Pin.is)

pub write_pin-requires-clause-covers : goal.write_pin-requires-clause-covers
write_pin-requires-clause-covers g c = may-cover (g.T.Turns.standing c.args.turns.now) _ c.args.names.now need.Pin c.args.word c.args.at _ (named.Pin c.in-Pin.hold) c.requires c.requires.right (sym c.in-Some.ensures ∙ ap (λ (n : Named). Some n) c.in-Pin.is)

pub returns-in-Pin : goal.returns-in-Pin
returns-in-Pin g c =
    pin-write _ _ _ c.args.word c.in-Pin.hold _ c.args.at c.args.bytes.now (sym c.in-Some.ensures ∙ ap (λ (n : Named). Some n) c.in-Pin.is) c.requires c.write_pin.ensures

pub returns-in_default : goal.returns-in_default
returns-in_default g c = no-write _ _ c.args.word c.args.at c.args.bytes.now c.requires (other-serves is_pin _ _ (sym c.in-Some.ensures) (not-pin _ c.in_default.not-Pin))

pub returns-in-None : goal.returns-in-None
returns-in-None g c = no-write _ _ c.args.word c.args.at c.args.bytes.now c.requires (none-serves is_pin _ (sym c.in-None.ensures))
