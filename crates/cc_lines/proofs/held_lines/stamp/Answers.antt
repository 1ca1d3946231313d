-- A word that names a pin names one that is the caller's; another word or none answers that there is no hold.
use Rattle.std.proofs.Common.{◌∙◌, ap, sym}
use Rattle.std.specs.declared.option.Option.TheVariants.{Some}
use Rattle.cc_entry.specs.Kinds.{is_pin}
use Rattle.cc_script.specs.declared.bound.Need.TheVariants as need
use Rattle.cc_lines.specs.declared.holds.Named.{Named}
use Rattle.cc_lines.specs.declared.holds.Named.TheVariants as named
use Rattle.std.proofs.Common.{arith}
use Rattle.cc_lines.proofs.WordLines.{none-serves, not-pin, other-serves}
use Rattle.cc_lines.proofs.UseLines.{may-call, may-hold, no-stamp, pin-stamp, use-told}
use Rattle.cc_lines.proofs.ServeLines.{told-as}
use Rattle.cc_lines.proofs.held_lines.stamp.Goals as goal

pub set_dirty-requires-clause-can : goal.set_dirty-requires-clause-can
set_dirty-requires-clause-can g c = may-call (g.T.Turns.standing c.args.turns.now) _ c.args.names.now need.Pin c.args.word (named.Pin c.in-Pin.hold) c.requires c.requires.right (sym c.in-Some.ensures ∙ ap (λ (n : Named). Some n) c.in-Pin.is)

pub set_dirty-requires-clause-holding : goal.set_dirty-requires-clause-holding
set_dirty-requires-clause-holding g c = may-hold (g.T.Turns.standing c.args.turns.now) _ c.args.names.now need.Pin c.args.word (named.Pin c.in-Pin.hold) c.requires c.requires.right (sym c.in-Some.ensures ∙ ap (λ (n : Named). Some n) c.in-Pin.is)

pub returns-in-Pin : goal.returns-in-Pin
returns-in-Pin g c =
    told-as _ _ _ _ _ _ _ c.answered.ensures
    (pin-stamp _ _ _ c.args.word c.in-Pin.hold _ c.args.lsn (sym c.in-Some.ensures ∙ ap (λ (n : Named). Some n) c.in-Pin.is) c.requires
    (use-told _ _ _ _ _ c.set_dirty.result (omega arith) c.set_dirty.ensures.ends.use_ends))

pub returns-in_default : goal.returns-in_default
returns-in_default g c = no-stamp _ _ c.args.word c.args.lsn c.requires (other-serves is_pin _ _ (sym c.in-Some.ensures) (not-pin _ c.in_default.not-Pin))

pub returns-in-None : goal.returns-in-None
returns-in-None g c = no-stamp _ _ c.args.word c.args.lsn c.requires (none-serves is_pin _ (sym c.in-None.ensures))
