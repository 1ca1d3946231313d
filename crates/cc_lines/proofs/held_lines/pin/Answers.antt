-- By the end of the call: the pin is bound to the next word, or the refusal is answered and nothing bound.
use Rattle.std.specs.Prelude.{Ok, Err, refl}
use Rattle.cc_lines.specs.declared.holds.Named.TheVariants as named
use Rattle.cc_lines.proofs.HoldLines.{pin-ends}
use Rattle.cc_lines.proofs.ServeLines.{may-on, told-as}
use Rattle.cc_lines.proofs.held_lines.pin.Goals as goal

pub pin_read-requires : goal.pin_read-requires
pin_read-requires g c = record { can = may-on (g.T.Turns.standing c.args.turns.now) _ _ c.args.file.stream c.requires c.requires.servable }

pub bind-requires : goal.bind-requires
bind-requires g c = c.requires.room refl

pub returns-in-Ok : goal.returns-in-Ok
returns-in-Ok g c =
    told-as _ _ _ _ _ _ _ c.bind.ensures.told
    (pin-ends _ _ _ _ _ _ _ _ (Ok (named.Pin c.in-Ok.hold)) c.requires (rw c.in-Ok.is at c.pin_read.ensures.ends) (refl, refl) c.bind.ensures.bound)

pub bind-requires-in-Err : goal.bind-requires-in-Err
bind-requires-in-Err g c = c.requires.room refl

pub returns-in-Err : goal.returns-in-Err
returns-in-Err g c =
    told-as _ _ _ _ _ _ _ c.bind-in-Err.ensures.told
    (pin-ends _ _ _ _ _ _ _ _ (Err c.in-Err.error) c.requires (rw c.in-Err.is at c.pin_read.ensures.ends) tt c.bind-in-Err.ensures.bound)
