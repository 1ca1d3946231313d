-- A word that names a read chain names one that covers the place; another word or none answers that there is no hold.
use Rattle.std.proofs.Common.{◌∙◌, ap, sym}
use Rattle.std.specs.declared.option.Option.TheVariants.{Some}
use Rattle.cc_entry.specs.Kinds.{is_read_chain}
use Rattle.cc_script.specs.declared.bound.Need.TheVariants as need
use Rattle.cc_lines.specs.declared.holds.Named.{Named}
use Rattle.cc_lines.specs.declared.holds.Named.TheVariants as named
use Rattle.cc_lines.proofs.WordLines.{none-serves, not-read_chain, other-serves}
use Rattle.cc_lines.proofs.UseLines.{chain-read, may-call, may-cover, may-hold, no-chain}
use Rattle.cc_lines.proofs.held_lines.chain_read.Goals as goal

pub read_chain-requires-clause-can : goal.read_chain-requires-clause-can
read_chain-requires-clause-can g c = may-call (g.T.Turns.standing c.args.turns.now) _ c.args.names.now need.ReadChain c.args.word (named.ReadChain c.in-ReadChain.chain) c.requires c.requires.right.uses (sym c.in-Some.ensures ∙ ap (λ (n : Named). Some n) c.in-ReadChain.is)

pub read_chain-requires-clause-holding : goal.read_chain-requires-clause-holding
read_chain-requires-clause-holding g c = may-hold (g.T.Turns.standing c.args.turns.now) _ c.args.names.now need.ReadChain c.args.word (named.ReadChain c.in-ReadChain.chain) c.requires c.requires.right.uses (sym c.in-Some.ensures ∙ ap (λ (n : Named). Some n) c.in-ReadChain.is)

pub read_chain-requires-clause-covers : goal.read_chain-requires-clause-covers
read_chain-requires-clause-covers g c = may-cover (g.T.Turns.standing c.args.turns.now) _ c.args.names.now need.ReadChain c.args.word c.args.at c.args.len (named.ReadChain c.in-ReadChain.chain) c.requires c.requires.right (sym c.in-Some.ensures ∙ ap (λ (n : Named). Some n) c.in-ReadChain.is)

pub returns-in-ReadChain : goal.returns-in-ReadChain
returns-in-ReadChain g c =
    chain-read _ _ _ c.args.word c.in-ReadChain.chain _ c.args.at c.args.len (sym c.in-Some.ensures ∙ ap (λ (n : Named). Some n) c.in-ReadChain.is) c.requires c.read_chain.ensures

pub returns-in_default : goal.returns-in_default
returns-in_default g c = no-chain _ _ c.args.word c.args.at c.args.len c.requires (other-serves is_read_chain _ _ (sym c.in-Some.ensures) (not-read_chain _ c.in_default.not-ReadChain))

pub returns-in-None : goal.returns-in-None
returns-in-None g c = no-chain _ _ c.args.word c.args.at c.args.len c.requires (none-serves is_read_chain _ (sym c.in-None.ensures))
