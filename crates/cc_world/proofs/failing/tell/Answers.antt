-- The end of a noncached write has its place; any other call asks one, and gives back that of the end that its pass owed.
use Rattle.std.proofs.Common.{sym, ◌∙◌, refl}
use Rattle.cc_world.proofs.FaultLeft.{may-place, own-place, told-own, may-place-new, owed-within, told-new}
use Rattle.cc_world.proofs.failing.tell.Goals as goal

pub fail-requires-clause-reserved : goal.fail-requires-clause-reserved
fail-requires-clause-reserved g c =
    let u = c.requires.telling.0 in
    own-place u c.args.pass c.args.call c.args.error c.args.book.now c.args.journal.now c.requires.telling.1 (sym (c.ends_store.ensures c.args.journal.now.entries c.requires.notes) ∙ c.if-ends_store.true)

pub fail-requires-clause-may : goal.fail-requires-clause-may
fail-requires-clause-may g c =
    let u = c.requires.telling.0 in
    may-place u c.args.pass c.args.call c.args.error c.args.book.now c.args.journal.now c.requires.telling.1 c.args.journal.now.entries refl

pub returns-then-ends_store : goal.returns-then-ends_store
returns-then-ends_store g c u telling =
    told-own u c.args.pass c.args.call c.args.error c.args.book.now c.args.journal.now telling (sym (c.ends_store.ensures c.args.journal.now.entries c.requires.notes) ∙ c.if-ends_store.true)
    c.fail.new.self c.fail.new.journal c.fail.ensures.placed c.fail.ensures.stands c.fail.ensures.same

pub fail-requires-in-Ok-clause-may : goal.fail-requires-in-Ok-clause-may
fail-requires-in-Ok-clause-may g c =
    let u = c.requires.telling.0 in
    may-place-new u c.args.pass c.args.call c.args.error c.args.book.now c.args.journal.now c.requires.telling.1 (sym (c.ends_store.ensures c.args.journal.now.entries c.requires.notes) ∙ c.if-ends_store.false)
    c.reserve.new.self c.in-Ok.ensures.reserved

pub release-requires : goal.release-requires
release-requires g c =
    let u = c.requires.telling.0 in
    owed-within u c.args.pass c.args.call c.args.error c.args.book.now c.args.journal.now c.requires.telling.1 (sym (c.ends_store.ensures c.args.journal.now.entries c.requires.notes) ∙ c.if-ends_store.false)
    c.reserve.new.self c.in-Ok.ensures.reserved c.owed_end-owed.result c.fail-in-Ok.new.journal c.owed_end-owed.ensures c.fail-in-Ok.ensures.placed

pub returns-in-Ok : goal.returns-in-Ok
returns-in-Ok g c u telling =
    told-new u c.args.pass c.args.call c.args.error c.args.book.now c.args.journal.now telling (sym (c.ends_store.ensures c.args.journal.now.entries c.requires.notes) ∙ c.if-ends_store.false)
    c.reserve.new.self c.in-Ok.ensures.reserved c.owed_end-owed.result c.fail-in-Ok.new.journal c.owed_end-owed.ensures c.fail-in-Ok.ensures.placed
    c.fail-in-Ok.new.self c.release.new.self _ _ c.fail-in-Ok.ensures.stands c.fail-in-Ok.ensures.same c.release.ensures c.in-Ok.ensures.full.1
