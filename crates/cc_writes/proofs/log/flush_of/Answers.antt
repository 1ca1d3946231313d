-- Flushed to the newest stamp the page is logged; without a stamp it is as it is.
use Rattle.std.proofs.Common.{Option, Ok, ℕ, ap, ◌∙◌, subst, suc}
use Rattle.std.specs.Prelude.{Result}
use Rattle.cc_entry.specs.declared.error.CcError.{CcError}
use Rattle.cc_writes.specs.Logs.{NewestLeft}
use Rattle.cc_writes.proofs.Flushing.{flush-left, none-left}
use Rattle.cc_writes.proofs.log.flush_of.Goals as goal

pub returns-in-Ok-Some-clause-left : goal.returns-in-Ok-Some-clause-left
returns-in-Ok-Some-clause-left g c =
    let w = g.T.Turns.standing c.args.turns.now in
    let x = g.T.Turns.standing c.newest_at.new.turns in
    let found = subst (λ (r : Result (Option ℕ) CcError). NewestLeft w c.args.page r x) (c.in-Ok-Some.is ∙ ap (λ (o : Option ℕ). Ok o) c.in-Ok-Some.field-0-is) c.newest_at.ensures.left in
    flush-left (suc w.in_flight) w x c.args.page c.args.handle c.in-Ok-Some.to c.flush_to.result (g.T.Turns.standing c.flush_to.new.turns).seen
    c.requires.held c.requires.stamped c.requires.log found.1 c.newest_at.ensures.grows found.0 c.flush_to.ensures.left

pub returns-in-Ok-None-clause-left : goal.returns-in-Ok-None-clause-left
returns-in-Ok-None-clause-left g c =
    let w = g.T.Turns.standing c.args.turns.now in
    let x = g.T.Turns.standing c.newest_at.new.turns in
    let found = subst (λ (r : Result (Option ℕ) CcError). NewestLeft w c.args.page r x) (c.in-Ok-None.is ∙ ap (λ (o : Option ℕ). Ok o) c.in-Ok-None.field-0-is) c.newest_at.ensures.left in
    none-left w c.args.page x.seen c.requires.held c.requires.stamped c.newest_at.ensures.grows found.0
