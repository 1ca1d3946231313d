-- The word's row holds the pin afterwards, or the map again where the pin is refused; other rows stay as they are.
use Rattle.std.proofs.Common.{◌∙◌, ap, sym}
use Rattle.std.specs.declared.option.Option.TheVariants.{Some}
use Rattle.cc_entry.specs.Kinds.{is_map}
use Rattle.cc_script.specs.declared.bound.Need.TheVariants as need
use Rattle.cc_lines.specs.declared.holds.Named.{Named}
use Rattle.cc_lines.specs.declared.holds.Named.TheVariants as named
use Rattle.std.proofs.Common.{ℕ}
use Rattle.cc_entry.specs.declared.answer.Answer.TheVariants as answer
use Rattle.cc_entry.specs.declared.reply.Reply.TheVariants as reply
use Rattle.cc_lines.proofs.WordLines.{none-serves, not-map, other-serves, still-within, taken-put, word-within}
use Rattle.cc_lines.proofs.UseLines.{may-call, may-hold}
use Rattle.cc_lines.proofs.PinLines.{map-pinned, map-refused, none-kept, other-kept}
use Rattle.cc_lines.proofs.ServeLines.{told-as}
use Rattle.cc_lines.proofs.held_lines.pin_map.Goals as goal

pub take-requires : goal.take-requires
take-requires g c = word-within _ _ _ c.requires.bounds c.requires.bindings _ need.Map c.args.word c.requires.stand c.requires.right

pub pin_mapped-requires-clause-can : goal.pin_mapped-requires-clause-can
pin_mapped-requires-clause-can g c = may-call (g.T.Turns.standing c.args.turns.now) _ c.args.names.now need.Map c.args.word (named.Map c.in-Map.hold) c.requires c.requires.right (sym c.in-Some.ensures.taken ∙ ap (λ (n : Named). Some n) c.in-Map.is)

pub pin_mapped-requires-clause-holding : goal.pin_mapped-requires-clause-holding
pin_mapped-requires-clause-holding g c = may-hold (g.T.Turns.standing c.args.turns.now) _ c.args.names.now need.Map c.args.word (named.Map c.in-Map.hold) c.requires c.requires.right (sym c.in-Some.ensures.taken ∙ ap (λ (n : Named). Some n) c.in-Map.is)

pub put-requires : goal.put-requires
put-requires g c = still-within _ _ c.args.word c.take.ensures.rest (word-within _ _ _ c.requires.bounds c.requires.bindings _ need.Map c.args.word c.requires.stand c.requires.right)

pub returns-in-Ok : goal.returns-in-Ok
returns-in-Ok g c =
    let ends = rw c.in-Ok.is at c.pin_mapped.ensures.ends in
    told-as _ _ _ _ _ _ _ (ap (λ (n : ℕ). answer.Given (reply.Hold n)) c.id-id.ensures)
    (map-pinned _ _ _ _ c.args.word c.args.exclusive c.in-Map.hold c.requires (sym c.in-Some.ensures.taken ∙ ap (λ (n : Named). Some n) c.in-Map.is) c.in-Ok.pin ends.call_ends ends.pinned.0 ends.pinned.1
    (taken-put _ _ _ c.args.word _ c.take.ensures.rest c.put.ensures))

pub put-requires-in-Err : goal.put-requires-in-Err
put-requires-in-Err g c = still-within _ _ c.args.word c.take.ensures.rest (word-within _ _ _ c.requires.bounds c.requires.bindings _ need.Map c.args.word c.requires.stand c.requires.right)

pub returns-in-Err : goal.returns-in-Err
returns-in-Err g c =
    let ends = rw c.in-Err.is at c.pin_mapped.ensures.ends in
    map-refused _ _ _ _ c.args.word c.args.exclusive c.in-Map.hold c.requires (sym c.in-Some.ensures.taken ∙ ap (λ (n : Named). Some n) c.in-Map.is) c.in-Err.hold c.in-Err.error ends.call_ends ends.back.0
    (taken-put _ _ _ c.args.word _ c.take.ensures.rest c.put-in-Err.ensures)

pub put-requires-in_default : goal.put-requires-in_default
put-requires-in_default g c = still-within _ _ c.args.word c.take.ensures.rest (word-within _ _ _ c.requires.bounds c.requires.bindings _ need.Map c.args.word c.requires.stand c.requires.right)

pub returns-in_default : goal.returns-in_default
returns-in_default g c =
    other-kept _ _ _ c.args.word c.args.exclusive c.requires (other-serves is_map _ _ (sym c.in-Some.ensures.taken) (not-map _ c.in_default.not-Map)) c.in-Some.named (sym c.in-Some.ensures.taken)
    (taken-put _ _ _ c.args.word _ c.take.ensures.rest c.put-in_default.ensures)

pub returns-in-None : goal.returns-in-None
returns-in-None g c = none-kept _ _ _ c.args.word c.args.exclusive c.requires (none-serves is_map _ (sym c.in-None.ensures.taken)) (sym c.in-None.ensures.taken) c.take.ensures.rest
