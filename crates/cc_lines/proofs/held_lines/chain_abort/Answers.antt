-- A word that names a write chain names one that is the caller's; another word or none answers that there is no hold.
use Rattle.std.proofs.Common.{◌∙◌, ap, refl, sym}
use Rattle.std.specs.declared.option.Option.TheVariants.{Some}
use Rattle.cc_entry.specs.Kinds.{is_write_chain}
use Rattle.cc_script.specs.declared.bound.Need.TheVariants as need
use Rattle.cc_lines.specs.declared.holds.Named.{Named}
use Rattle.cc_lines.specs.declared.holds.Named.TheVariants as named
use Rattle.cc_lines.proofs.WordLines.{none-serves, not-write_chain, other-serves, word-within}
use Rattle.cc_lines.proofs.UseLines.{may-call, may-hold}
use Rattle.cc_lines.proofs.EndLines.{abort-line, no-abort}
use Rattle.cc_lines.proofs.held_lines.chain_abort.Goals as goal

pub take-requires : goal.take-requires
take-requires g c = word-within _ _ _ c.requires.bounds c.requires.bindings _ need.WriteChain c.args.word c.requires.stand c.requires.right

pub mdl_write_abort-requires-clause-can : goal.mdl_write_abort-requires-clause-can
mdl_write_abort-requires-clause-can g c = may-call (g.T.Turns.standing c.args.turns.now) _ c.args.names.now need.WriteChain c.args.word (named.WriteChain c.in-WriteChain.chain) c.requires c.requires.right (sym c.in-Some.ensures.taken ∙ ap (λ (n : Named). Some n) c.in-WriteChain.is)

pub mdl_write_abort-requires-clause-holding : goal.mdl_write_abort-requires-clause-holding
mdl_write_abort-requires-clause-holding g c = may-hold (g.T.Turns.standing c.args.turns.now) _ c.args.names.now need.WriteChain c.args.word (named.WriteChain c.in-WriteChain.chain) c.requires c.requires.right (sym c.in-Some.ensures.taken ∙ ap (λ (n : Named). Some n) c.in-WriteChain.is)

pub returns-in-WriteChain : goal.returns-in-WriteChain
returns-in-WriteChain g c =
    abort-line _ _ _ _ c.args.word c.take.ensures.rest (named.WriteChain c.in-WriteChain.chain) (sym c.in-Some.ensures.taken ∙ ap (λ (n : Named). Some n) c.in-WriteChain.is) c.mdl_write_abort.ensures.ends refl

pub returns-in_default : goal.returns-in_default
returns-in_default g c = no-abort _ _ _ c.args.word c.take.ensures.rest c.requires (other-serves is_write_chain _ _ (sym c.in-Some.ensures.taken) (not-write_chain _ c.in_default.not-WriteChain))

pub returns-in-None : goal.returns-in-None
returns-in-None g c = no-abort _ _ _ c.args.word c.take.ensures.rest c.requires (none-serves is_write_chain _ (sym c.in-None.ensures.taken))
