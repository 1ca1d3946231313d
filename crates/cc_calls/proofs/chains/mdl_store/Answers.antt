use Rattle.std.specs.Prelude.{refl}
use Rattle.cc_entry.specs.Kinds.{is_write_chain}
use Rattle.cc_entry.specs.declared.call.Call.TheVariants as call
use Rattle.cc_calls.proofs.Using.{use-none}
use Rattle.cc_calls.proofs.chains.mdl_store.Goals as goal

pub returns-in_err-bytes : goal.returns-in_err-bytes
returns-in_err-bytes g c = record {
  ends =
      use-none (g.T.Turns.standing c.args.turns.now) c.args.chain.now.file.stream is_write_chain c.args.chain.now (call.MdlStore c.args.chain.now.id c.args.at c.args.piece.now)
      c.from_residual.result c.requires.can refl c.requires.holding c.from_residual.ensures.1;
}

pub returns : goal.returns
returns g c = record { ends = rw (← c.chain.view_is, ← c.in_ok-bytes.ensures) (c.write_hold.ensures.ends is_write_chain (rw (← c.chain.view_is) at c.requires.holding)) }
