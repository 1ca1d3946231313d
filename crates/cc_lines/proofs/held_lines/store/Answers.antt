use Rattle.std.proofs.Common.{ap, refl}
use Rattle.std.proofs.Common.{ℕ, List, arith, rules}
use Rattle.cc_entry.specs.declared.call.Call.TheVariants as call
use Rattle.cc_lines.proofs.HeldReads.{no-memory}
use Rattle.cc_lines.proofs.UseLines.{use-answered}
use Rattle.cc_lines.proofs.held_lines.store.Goals as goal

pub returns-in-Ok : goal.returns-in-Ok
returns-in-Ok g c =
    use-answered _ _ _ _ _ _ _ _ (ap (λ (b : List ℕ). call.MdlStore c.args.chain.now.id c.args.at b) (search rules)) c.answered.ensures (omega arith) c.mdl_store.ensures.ends

pub returns-in-Err : goal.returns-in-Err
returns-in-Err g c = no-memory _ _ _ _ refl refl c.requires.holding
