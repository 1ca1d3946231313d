-- A word that names either chain names one that is the caller's; another word or none answers that there is no hold.
use Rattle.std.proofs.Common.{◌∙◌, ap, refl, sym}
use Rattle.std.specs.declared.option.Option.TheVariants.{Some}
use Rattle.cc_entry.specs.Kinds.{is_read_chain, is_write_chain}
use Rattle.cc_script.specs.declared.bound.Need.TheVariants as need
use Rattle.cc_lines.specs.declared.holds.Named.{Named}
use Rattle.cc_lines.specs.declared.holds.Named.TheVariants as named
use Rattle.std.specs.Prelude.{◌||◌}
use Rattle.cc_lines.proofs.WordLines.{neither, none-serves, not-read_chain, not-write_chain, other-serves, word-within}
use Rattle.cc_lines.proofs.UseLines.{may-call, may-hold}
use Rattle.cc_lines.proofs.EndLines.{done-line, no-done}
use Rattle.cc_lines.proofs.held_lines.chain_done.Goals as goal

pub take-requires : goal.take-requires
take-requires g c = word-within _ _ _ c.requires.bounds c.requires.bindings _ need.Chain c.args.word c.requires.stand c.requires.right

pub mdl_read_complete-requires-clause-can : goal.mdl_read_complete-requires-clause-can
mdl_read_complete-requires-clause-can g c = may-call (g.T.Turns.standing c.args.turns.now) _ c.args.names.now need.Chain c.args.word (named.ReadChain c.in-ReadChain.chain) c.requires c.requires.right (sym c.in-Some.ensures.taken ∙ ap (λ (n : Named). Some n) c.in-ReadChain.is)

pub mdl_read_complete-requires-clause-holding : goal.mdl_read_complete-requires-clause-holding
mdl_read_complete-requires-clause-holding g c = may-hold (g.T.Turns.standing c.args.turns.now) _ c.args.names.now need.Chain c.args.word (named.ReadChain c.in-ReadChain.chain) c.requires c.requires.right (sym c.in-Some.ensures.taken ∙ ap (λ (n : Named). Some n) c.in-ReadChain.is)

pub returns-in-ReadChain : goal.returns-in-ReadChain
returns-in-ReadChain g c =
    done-line _ _ _ _ c.args.word c.take.ensures.rest (named.ReadChain c.in-ReadChain.chain) (sym c.in-Some.ensures.taken ∙ ap (λ (n : Named). Some n) c.in-ReadChain.is) c.mdl_read_complete.ensures.ends refl

pub mdl_write_complete-requires-clause-can : goal.mdl_write_complete-requires-clause-can
mdl_write_complete-requires-clause-can g c = may-call (g.T.Turns.standing c.args.turns.now) _ c.args.names.now need.Chain c.args.word (named.WriteChain c.in-WriteChain.chain) c.requires c.requires.right (sym c.in-Some.ensures.taken ∙ ap (λ (n : Named). Some n) c.in-WriteChain.is)

pub mdl_write_complete-requires-clause-holding : goal.mdl_write_complete-requires-clause-holding
mdl_write_complete-requires-clause-holding g c = may-hold (g.T.Turns.standing c.args.turns.now) _ c.args.names.now need.Chain c.args.word (named.WriteChain c.in-WriteChain.chain) c.requires c.requires.right (sym c.in-Some.ensures.taken ∙ ap (λ (n : Named). Some n) c.in-WriteChain.is)

pub returns-in-WriteChain : goal.returns-in-WriteChain
returns-in-WriteChain g c =
    done-line _ _ _ _ c.args.word c.take.ensures.rest (named.WriteChain c.in-WriteChain.chain) (sym c.in-Some.ensures.taken ∙ ap (λ (n : Named). Some n) c.in-WriteChain.is) c.mdl_write_complete.ensures.ends refl

pub returns-in_default : goal.returns-in_default
returns-in_default g c = no-done _ _ _ c.args.word c.take.ensures.rest c.requires (other-serves (λ its_kind. is_read_chain its_kind || is_write_chain its_kind) _ _ (sym c.in-Some.ensures.taken) (neither _ _ (not-read_chain _ c.in_default.not-ReadChain) (not-write_chain _ c.in_default.not-WriteChain)))

pub returns-in-None : goal.returns-in-None
returns-in-None g c = no-done _ _ _ c.args.word c.take.ensures.rest c.requires (none-serves (λ its_kind. is_read_chain its_kind || is_write_chain its_kind) _ (sym c.in-None.ensures.taken))
