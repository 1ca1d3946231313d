-- By what the call asks: a reserved place, or a new one and those that it needs where it is done.
use Rattle.std.specs.Prelude.{◌≡◌, ℕ, suc, ◌-◌}
use Rattle.std.proofs.Common.{sym, ◌∙◌, arith}
use Rattle.cc_step.proofs.steps.attempt.Goals as goal

from-one : (asked n : ℕ) → n ≡ asked → (n ≡ 0 → ⊥) → asked ≡ suc (n - 1)
from-one asked n is some = omega (arith, is, some)

pub place_reserved-requires-clause-may : goal.place_reserved-requires-clause-may
place_reserved-requires-clause-may g c =
    let u = c.requires.may.0 in
    let may = c.requires.may.1 in
    (u, may, sym (c.places_asked-asked.ensures (u.opening c.args.book.now.stream) c.args.journal.now.entries may.stand.stands) ∙ c.if-asked-eq0.true)

pub place_new-requires-clause-may : goal.place_new-requires-clause-may
place_new-requires-clause-may g c =
    let u = c.requires.may.0 in
    let may = c.requires.may.1 in
    (u, may, from-one _ _ (c.places_asked-asked.ensures (u.opening c.args.book.now.stream) c.args.journal.now.entries may.stand.stands) c.if-asked-eq0.false)

pub returns-then-asked-eq0 : goal.returns-then-asked-eq0
returns-then-asked-eq0 g c u may =
    c.place_reserved.ensures u may (sym (c.places_asked-asked.ensures (u.opening c.args.book.now.stream) c.args.journal.now.entries may.stand.stands) ∙ c.if-asked-eq0.true)

pub returns-else-asked-eq0 : goal.returns-else-asked-eq0
returns-else-asked-eq0 g c u may =
    c.place_new.ensures u may (from-one _ _ (c.places_asked-asked.ensures (u.opening c.args.book.now.stream) c.args.journal.now.entries may.stand.stands) c.if-asked-eq0.false)
