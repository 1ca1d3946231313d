-- A word that names a write chain names one that covers the place; another or none answers that there is no hold.
use Rattle.std.proofs.Common.{◌∙◌, ap, sym}
use Rattle.std.specs.declared.option.Option.TheVariants.{Some}
use Rattle.cc_entry.specs.Kinds.{is_write_chain}
use Rattle.cc_script.specs.declared.bound.Need.TheVariants as need
use Rattle.cc_lines.specs.declared.holds.Named.{Named}
use Rattle.cc_lines.specs.declared.holds.Named.TheVariants as named
use Rattle.cc_lines.proofs.WordLines.{none-serves, not-write_chain, other-serves}
use Rattle.cc_lines.proofs.UseLines.{chain-store, may-call, may-cover, may-hold, no-store}
use Rattle.cc_lines.proofs.held_lines.chain_store.Goals as goal

pub store-requires-clause-can : goal.store-requires-clause-can
store-requires-clause-can g c = may-call (g.T.Turns.standing c.args.turns.now) _ c.args.names.now need.WriteChain c.args.word (named.WriteChain c.in-WriteChain.chain) c.requires c.requires.right.uses (sym c.in-Some.ensures ∙ ap (λ (n : Named). Some n) c.in-WriteChain.is)

pub store-requires-clause-holding : goal.store-requires-clause-holding
store-requires-clause-holding g c = may-hold (g.T.Turns.standing c.args.turns.now) _ c.args.names.now need.WriteChain c.args.word (named.WriteChain c.in-WriteChain.chain) c.requires c.requires.right.uses (sym c.in-Some.ensures ∙ ap (λ (n : Named). Some n) c.in-WriteChain.is)

pub store-requires-clause-covers : goal.store-requires-clause-covers
store-requires-clause-covers g c = may-cover (g.T.Turns.standing c.args.turns.now) _ c.args.names.now need.WriteChain c.args.word c.args.at _ (named.WriteChain c.in-WriteChain.chain) c.requires c.requires.right (sym c.in-Some.ensures ∙ ap (λ (n : Named). Some n) c.in-WriteChain.is)

pub returns-in-WriteChain : goal.returns-in-WriteChain
returns-in-WriteChain g c =
    chain-store _ _ _ c.args.word c.in-WriteChain.chain _ c.args.at c.args.bytes.now (sym c.in-Some.ensures ∙ ap (λ (n : Named). Some n) c.in-WriteChain.is) c.requires c.store.ensures

pub returns-in_default : goal.returns-in_default
returns-in_default g c = no-store _ _ c.args.word c.args.at c.args.bytes.now c.requires (other-serves is_write_chain _ _ (sym c.in-Some.ensures) (not-write_chain _ c.in_default.not-WriteChain))

pub returns-in-None : goal.returns-in-None
returns-in-None g c = no-store _ _ c.args.word c.args.at c.args.bytes.now c.requires (none-serves is_write_chain _ (sym c.in-None.ensures))
