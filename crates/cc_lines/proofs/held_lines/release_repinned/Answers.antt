-- A word of a repin ends it, flushed or not, and its row is empty then; another or none answers that there is none.
use Rattle.std.proofs.Common.{◌∙◌, ap, sym}
use Rattle.std.specs.declared.option.Option.TheVariants.{Some}
use Rattle.cc_entry.specs.Kinds.{is_repin}
use Rattle.cc_script.specs.declared.bound.Need.TheVariants as need
use Rattle.cc_lines.specs.declared.holds.Named.{Named}
use Rattle.cc_lines.specs.declared.holds.Named.TheVariants as named
use Rattle.cc_lines.proofs.WordLines.{none-serves, not-repin, other-serves, word-within}
use Rattle.cc_lines.proofs.UseLines.{may-call, may-hold}
use Rattle.cc_lines.proofs.EndLines.{no-unrepin, unrepin-line}
use Rattle.cc_lines.proofs.ServeLines.{told-as}
use Rattle.cc_lines.proofs.held_lines.release_repinned.Goals as goal

pub take-requires : goal.take-requires
take-requires g c = word-within _ _ _ c.requires.bounds c.requires.bindings _ need.Repin c.args.word c.requires.stand c.requires.right

pub unpin_repinned-requires-clause-can : goal.unpin_repinned-requires-clause-can
unpin_repinned-requires-clause-can g c = may-call (g.T.Turns.standing c.args.turns.now) _ c.args.names.now need.Repin c.args.word (named.Repin c.in-Repin.hold) c.requires c.requires.right (sym c.in-Some.ensures.taken ∙ ap (λ (n : Named). Some n) c.in-Repin.is)

pub unpin_repinned-requires-clause-holding : goal.unpin_repinned-requires-clause-holding
unpin_repinned-requires-clause-holding g c = may-hold (g.T.Turns.standing c.args.turns.now) _ c.args.names.now need.Repin c.args.word (named.Repin c.in-Repin.hold) c.requires c.requires.right (sym c.in-Some.ensures.taken ∙ ap (λ (n : Named). Some n) c.in-Repin.is)

pub returns-in-Repin : goal.returns-in-Repin
returns-in-Repin g c =
    told-as _ _ _ _ _ _ _ c.answered.ensures
    (unrepin-line _ _ _ _ c.args.word c.take.ensures.rest c.in-Repin.hold c.args.through c.unpin_repinned.result (sym c.in-Some.ensures.taken ∙ ap (λ (n : Named). Some n) c.in-Repin.is) c.unpin_repinned.ensures.ends)

pub returns-in_default : goal.returns-in_default
returns-in_default g c = no-unrepin _ _ _ c.args.word c.take.ensures.rest c.args.through c.requires (other-serves is_repin _ _ (sym c.in-Some.ensures.taken) (not-repin _ c.in_default.not-Repin))

pub returns-in-None : goal.returns-in-None
returns-in-None g c = no-unrepin _ _ _ c.args.word c.take.ensures.rest c.args.through c.requires (none-serves is_repin _ (sym c.in-None.ensures.taken))
