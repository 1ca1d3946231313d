-- A word of a map or a pin names one that covers the place; another word or none answers that there is no hold.
use Rattle.std.proofs.Common.{◌∙◌, ap, sym}
use Rattle.std.specs.declared.option.Option.TheVariants.{Some}
use Rattle.cc_entry.specs.Kinds.{is_map, is_pin}
use Rattle.cc_script.specs.declared.bound.Need.TheVariants as need
use Rattle.cc_lines.specs.declared.holds.Named.{Named}
use Rattle.cc_lines.specs.declared.holds.Named.TheVariants as named
use Rattle.cc_lines.proofs.WordLines.{none-serves, not-map, not-pin, other-serves}
use Rattle.cc_lines.proofs.UseLines.{map-read, may-call, may-cover, may-hold, no-read, pin-read}
use Rattle.cc_lines.proofs.held_lines.held_read.Goals as goal

pub read_map-requires-clause-can : goal.read_map-requires-clause-can
read_map-requires-clause-can g c = may-call (g.T.Turns.standing c.args.turns.now) _ c.args.names.now need.MapOrPin c.args.word (named.Map c.in-Map.hold) c.requires c.requires.right.uses (sym c.in-Some.ensures ∙ ap (λ (n : Named). Some n) c.in-Map.is)

pub read_map-requires-clause-holding : goal.read_map-requires-clause-holding
read_map-requires-clause-holding g c = may-hold (g.T.Turns.standing c.args.turns.now) _ c.args.names.now need.MapOrPin c.args.word (named.Map c.in-Map.hold) c.requires c.requires.right.uses (sym c.in-Some.ensures ∙ ap (λ (n : Named). Some n) c.in-Map.is)

pub read_map-requires-clause-covers : goal.read_map-requires-clause-covers
read_map-requires-clause-covers g c = may-cover (g.T.Turns.standing c.args.turns.now) _ c.args.names.now need.MapOrPin c.args.word c.args.at c.args.len (named.Map c.in-Map.hold) c.requires c.requires.right (sym c.in-Some.ensures ∙ ap (λ (n : Named). Some n) c.in-Map.is)

pub returns-in-Map : goal.returns-in-Map
returns-in-Map g c =
    map-read _ _ _ c.args.word c.in-Map.hold _ c.args.at c.args.len (sym c.in-Some.ensures ∙ ap (λ (n : Named). Some n) c.in-Map.is) c.requires c.read_map.ensures

pub read_pin-requires-clause-can : goal.read_pin-requires-clause-can
read_pin-requires-clause-can g c = may-call (g.T.Turns.standing c.args.turns.now) _ c.args.names.now need.MapOrPin c.args.word (named.Pin c.in-Pin.hold) c.requires c.requires.right.uses (sym c.in-Some.ensures ∙ ap (λ (n : Named). Some n) c.in-Pin.is)

pub read_pin-requires-clause-holding : goal.read_pin-requires-clause-holding
read_pin-requires-clause-holding g c = may-hold (g.T.Turns.standing c.args.turns.now) _ c.args.names.now need.MapOrPin c.args.word (named.Pin c.in-Pin.hold) c.requires c.requires.right.uses (sym c.in-Some.ensures ∙ ap (λ (n : Named). Some n) c.in-Pin.is)

pub read_pin-requires-clause-covers : goal.read_pin-requires-clause-covers
read_pin-requires-clause-covers g c = may-cover (g.T.Turns.standing c.args.turns.now) _ c.args.names.now need.MapOrPin c.args.word c.args.at c.args.len (named.Pin c.in-Pin.hold) c.requires c.requires.right (sym c.in-Some.ensures ∙ ap (λ (n : Named). Some n) c.in-Pin.is)

pub returns-in-Pin : goal.returns-in-Pin
returns-in-Pin g c =
    pin-read _ _ _ c.args.word c.in-Pin.hold _ c.args.at c.args.len (sym c.in-Some.ensures ∙ ap (λ (n : Named). Some n) c.in-Pin.is) c.requires c.read_pin.ensures

pub returns-in_default : goal.returns-in_default
returns-in_default g c = no-read _ _ c.args.word c.args.at c.args.len c.requires (other-serves is_map _ _ (sym c.in-Some.ensures) (not-map _ c.in_default.not-Map)) (other-serves is_pin _ _ (sym c.in-Some.ensures) (not-pin _ c.in_default.not-Pin))

pub returns-in-None : goal.returns-in-None
returns-in-None g c = no-read _ _ c.args.word c.args.at c.args.len c.requires (none-serves is_map _ (sym c.in-None.ensures)) (none-serves is_pin _ (sym c.in-None.ensures))
