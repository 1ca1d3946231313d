-- By the end of the call: the chain is bound to the next word, or the refusal is answered and nothing bound.
use Rattle.std.specs.Prelude.{Ok, Err, refl}
use Rattle.cc_lines.specs.declared.holds.Named.TheVariants as named
use Rattle.cc_lines.proofs.HoldLines.{chain-ends}
use Rattle.cc_lines.proofs.ServeLines.{may-on, told-as}
use Rattle.cc_lines.proofs.held_lines.chain.Goals as goal

pub mdl_read-requires : goal.mdl_read-requires
mdl_read-requires g c = record { can = may-on (g.T.Turns.standing c.args.turns.now) _ _ c.args.file.stream c.requires c.requires.servable }

pub bind-requires : goal.bind-requires
bind-requires g c = c.requires.room refl

pub returns-in-Ok : goal.returns-in-Ok
returns-in-Ok g c =
    told-as _ _ _ _ _ _ _ c.bind.ensures.told
    (chain-ends _ _ _ _ _ _ _ (Ok (named.ReadChain c.in-Ok.hold)) c.requires (rw c.in-Ok.is at c.mdl_read.ensures.ends) (refl, refl) c.bind.ensures.bound)

pub bind-requires-in-Err : goal.bind-requires-in-Err
bind-requires-in-Err g c = c.requires.room refl

pub returns-in-Err : goal.returns-in-Err
returns-in-Err g c =
    told-as _ _ _ _ _ _ _ c.bind-in-Err.ensures.told
    (chain-ends _ _ _ _ _ _ _ (Err c.in-Err.error) c.requires (rw c.in-Err.is at c.mdl_read.ensures.ends) tt c.bind-in-Err.ensures.bound)
