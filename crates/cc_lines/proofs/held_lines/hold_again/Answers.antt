-- A word that names a pin lets it be held once more under the next word; else the next word is bound to nothing.
use Rattle.std.proofs.Common.{◌∙◌, ap, refl, sym}
use Rattle.std.specs.Prelude.{Ok, Err}
use Rattle.std.specs.declared.option.Option.TheVariants.{Some}
use Rattle.cc_entry.specs.Kinds.{is_pin}
use Rattle.cc_script.specs.declared.bound.Need.TheVariants as need
use Rattle.cc_lines.specs.declared.holds.Named.{Named}
use Rattle.cc_lines.specs.declared.holds.Named.TheVariants as named
use Rattle.cc_lines.proofs.WordLines.{none-serves, not-pin, other-serves}
use Rattle.cc_lines.proofs.UseLines.{may-call, may-hold}
use Rattle.cc_lines.proofs.PinLines.{no-repin, repin-line}
use Rattle.cc_lines.proofs.ServeLines.{told-as}
use Rattle.cc_lines.proofs.held_lines.hold_again.Goals as goal

pub repin-requires-clause-can : goal.repin-requires-clause-can
repin-requires-clause-can g c = may-call (g.T.Turns.standing c.args.turns.now) _ c.args.names.now need.Pin c.args.word (named.Pin c.in-Pin.hold) c.requires c.requires.right.0 (sym c.in-Some.ensures ∙ ap (λ (n : Named). Some n) c.in-Pin.is)

pub repin-requires-clause-holding : goal.repin-requires-clause-holding
repin-requires-clause-holding g c = may-hold (g.T.Turns.standing c.args.turns.now) _ c.args.names.now need.Pin c.args.word (named.Pin c.in-Pin.hold) c.requires c.requires.right.0 (sym c.in-Some.ensures ∙ ap (λ (n : Named). Some n) c.in-Pin.is)

pub bind-requires : goal.bind-requires
bind-requires g c = c.requires.room refl

pub returns-in-Ok : goal.returns-in-Ok
returns-in-Ok g c =
    told-as _ _ _ _ _ _ _ c.bind.ensures.told
    (repin-line _ _ _ _ c.args.word c.in-Pin.hold c.requires (sym c.in-Some.ensures ∙ ap (λ (n : Named). Some n) c.in-Pin.is) (Ok (named.Repin c.in-Ok.again)) (rw c.in-Ok.is at c.repin.ensures.ends) (refl, refl) c.bind.ensures.bound)

pub bind-requires-in-Err : goal.bind-requires-in-Err
bind-requires-in-Err g c = c.requires.room refl

pub returns-in-Err : goal.returns-in-Err
returns-in-Err g c =
    told-as _ _ _ _ _ _ _ c.bind-in-Err.ensures.told
    (repin-line _ _ _ _ c.args.word c.in-Pin.hold c.requires (sym c.in-Some.ensures ∙ ap (λ (n : Named). Some n) c.in-Pin.is) (Err c.in-Err.error) (rw c.in-Err.is at c.repin.ensures.ends) tt c.bind-in-Err.ensures.bound)

pub bind-requires-in_default : goal.bind-requires-in_default
bind-requires-in_default g c = c.requires.room refl

pub returns-in_default : goal.returns-in_default
returns-in_default g c = no-repin _ _ _ c.args.word c.requires (other-serves is_pin _ _ (sym c.in-Some.ensures) (not-pin _ c.in_default.not-Pin)) c.bind-in_default.ensures

pub bind-requires-in-None : goal.bind-requires-in-None
bind-requires-in-None g c = c.requires.room refl

pub returns-in-None : goal.returns-in-None
returns-in-None g c = no-repin _ _ _ c.args.word c.requires (none-serves is_pin _ (sym c.in-None.ensures)) c.bind-in-None.ensures
