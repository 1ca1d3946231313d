-- A word of a map or a pin ends that hold, and its row is empty then; another or none answers that there is no hold.
use Rattle.std.proofs.Common.{◌∙◌, ap, refl, sym}
use Rattle.std.specs.declared.option.Option.TheVariants.{Some}
use Rattle.cc_entry.specs.Kinds.{is_map, is_pin}
use Rattle.cc_script.specs.declared.bound.Need.TheVariants as need
use Rattle.cc_lines.specs.declared.holds.Named.{Named}
use Rattle.cc_lines.specs.declared.holds.Named.TheVariants as named
use Rattle.std.specs.Prelude.{◌||◌}
use Rattle.cc_lines.proofs.WordLines.{neither, none-serves, not-map, not-pin, other-serves, word-within}
use Rattle.cc_lines.proofs.UseLines.{may-call, may-hold}
use Rattle.cc_lines.proofs.EndLines.{no-unpin, unpin-line}
use Rattle.cc_lines.proofs.held_lines.release.Goals as goal

pub take-requires : goal.take-requires
take-requires g c = word-within _ _ _ c.requires.bounds c.requires.bindings _ need.MapOrPin c.args.word c.requires.stand c.requires.right

pub unmap-requires-clause-can : goal.unmap-requires-clause-can
unmap-requires-clause-can g c = may-call (g.T.Turns.standing c.args.turns.now) _ c.args.names.now need.MapOrPin c.args.word (named.Map c.in-Map.hold) c.requires c.requires.right (sym c.in-Some.ensures.taken ∙ ap (λ (n : Named). Some n) c.in-Map.is)

pub unmap-requires-clause-holding : goal.unmap-requires-clause-holding
unmap-requires-clause-holding g c = may-hold (g.T.Turns.standing c.args.turns.now) _ c.args.names.now need.MapOrPin c.args.word (named.Map c.in-Map.hold) c.requires c.requires.right (sym c.in-Some.ensures.taken ∙ ap (λ (n : Named). Some n) c.in-Map.is)

pub returns-in-Map : goal.returns-in-Map
returns-in-Map g c =
    unpin-line _ _ _ _ c.args.word c.take.ensures.rest (named.Map c.in-Map.hold) (sym c.in-Some.ensures.taken ∙ ap (λ (n : Named). Some n) c.in-Map.is) c.unmap.ensures.ends refl

pub unpin-requires-clause-can : goal.unpin-requires-clause-can
unpin-requires-clause-can g c = may-call (g.T.Turns.standing c.args.turns.now) _ c.args.names.now need.MapOrPin c.args.word (named.Pin c.in-Pin.hold) c.requires c.requires.right (sym c.in-Some.ensures.taken ∙ ap (λ (n : Named). Some n) c.in-Pin.is)

pub unpin-requires-clause-holding : goal.unpin-requires-clause-holding
unpin-requires-clause-holding g c = may-hold (g.T.Turns.standing c.args.turns.now) _ c.args.names.now need.MapOrPin c.args.word (named.Pin c.in-Pin.hold) c.requires c.requires.right (sym c.in-Some.ensures.taken ∙ ap (λ (n : Named). Some n) c.in-Pin.is)

pub returns-in-Pin : goal.returns-in-Pin
returns-in-Pin g c =
    unpin-line _ _ _ _ c.args.word c.take.ensures.rest (named.Pin c.in-Pin.hold) (sym c.in-Some.ensures.taken ∙ ap (λ (n : Named). Some n) c.in-Pin.is) c.unpin.ensures.ends refl

pub returns-in_default : goal.returns-in_default
returns-in_default g c = no-unpin _ _ _ c.args.word c.take.ensures.rest c.requires (other-serves (λ its_kind. is_map its_kind || is_pin its_kind) _ _ (sym c.in-Some.ensures.taken) (neither _ _ (not-map _ c.in_default.not-Map) (not-pin _ c.in_default.not-Pin)))

pub returns-in-None : goal.returns-in-None
returns-in-None g c = no-unpin _ _ _ c.args.word c.take.ensures.rest c.requires (none-serves (λ its_kind. is_map its_kind || is_pin its_kind) _ (sym c.in-None.ensures.taken))
