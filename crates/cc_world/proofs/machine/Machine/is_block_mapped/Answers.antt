-- The book of the stream's row tells it; nothing happened to a stream that has none.
use Rattle.std.specs.Prelude.{◌≡◌, ℕ, List, ◌<◌, ◌≤◌, false, length}
use Rattle.std.proofs.Common.{ap, arith, subst, sym, ◌∙◌}
use Rattle.cc_model.specs.History.{Effect, history}
use Rattle.cc_model.specs.Residency.{block_is_mapped}
use Rattle.cc_world.proofs.Residing.{unmapped-first}
use Rattle.cc_world.proofs.Steps.{read-there}
use Rattle.cc_world.proofs.machine.Machine.is_block_mapped.Goals as goal

pub returns : goal.returns
returns g c =
    let past = c.self.inside.journal.entries in
    let within : c.from-place.result < length c.self.inside.rows.items = omega (arith, c.len.ensures, c.from-place.ensures, c.if-len-place.false, c.self.inside.rows.ok.0) in
    let there = read-there c.self.inside.rows.items c.from-place.result c.index-row.result.now within c.index-row.ensures in
    let home = c.self.invariant.0.rows.each c.from-place.result c.index-row.result.now there in
    subst (λ w. c.is_block_mapped.result ≡ block_is_mapped (history w.journal.entries c.args.stream) c.args.block) c.self.view_is
    (c.is_block_mapped.ensures _ past home.stands.book
    ∙ ap (λ (n : ℕ). block_is_mapped (history past n) c.args.block) (home.stream ∙ (c.from-place.ensures ∙ c.number.ensures.same)))

pub returns-then-len-place : goal.returns-then-len-place
returns-then-len-place g c =
    let beyond : length c.self.inside.begun.value.disks.items ≤ c.args.stream = omega (arith, c.len.ensures, c.from-place.ensures, c.number.ensures.same, c.if-len-place.true, c.self.inside.rows.ok.0, c.self.invariant.0.rows.counted) in
    subst (λ w. false ≡ block_is_mapped (history w.journal.entries c.args.stream) c.args.block) c.self.view_is
    (sym (ap (λ (h : List Effect). block_is_mapped h c.args.block) (c.self.invariant.0.journal.no_stream c.args.stream beyond) ∙ unmapped-first c.args.block))
