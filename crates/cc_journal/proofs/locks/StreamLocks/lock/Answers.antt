-- The stream's number is the place of its locks, which grant or refuse.
use Rattle.std.proofs.Common.{◌≡◌, ◌<◌, List, sym, subst, ◌∙◌, arith}
use Rattle.std.specs.Prelude.{IfErr, IfOk, slice_set}
use Rattle.cc_entry.specs.declared.entry.Entry.{Entry}
use Rattle.cc_locks.specs.Locks.{HeldLocks}
use Rattle.cc_journal.specs.Locks.{LocksStand, Granted, Refused}
use Rattle.cc_journal.proofs.LockSteps.{stream_there, locked_numbered, locked_granted, locked_refused}
use Rattle.cc_journal.proofs.locks.StreamLocks.lock.Goals as goal

pub index_mut-requires : goal.index_mut-requires
index_mut-requires c = omega (arith, c.from.ensures, c.number.ensures.same, c.number.ensures.in_range, c.self.inside.each.ok.0, c.self.invariant.count)

pub lock-requires : goal.lock-requires
lock-requires c =
    let here : c.from.result ≡ c.args.file.stream = c.from.ensures ∙ (c.number.ensures.same ∙ c.stream.ensures) in
    let below : c.from.result < 16 = omega (arith, c.from.ensures, c.number.ensures.in_range) in
    sym (stream_there c.self.inside.each.items c.from.result c.index_mut.result.now c.index_mut.result.now c.args.file here below c.self.invariant c.index_mut.ensures.value)

pub invariant_of-self : goal.invariant_of-self
invariant_of-self c =
    let here : c.from.result ≡ c.args.file.stream = c.from.ensures ∙ (c.number.ensures.same ∙ c.stream.ensures) in
    let below : c.from.result < 16 = omega (arith, c.from.ensures, c.number.ensures.in_range) in
    locked_numbered c.self.inside.each.items c.from.result c.index_mut.result.now c.lock.new.self c.args.file here below c.self.invariant c.index_mut.ensures.value
    c.args.span c.args.exclusive c.lock.result c.lock.ensures.granted c.lock.ensures.refused

pub returns-clause-granted : goal.returns-clause-granted
returns-clause-granted c =
    let here : c.from.result ≡ c.args.file.stream = c.from.ensures ∙ (c.number.ensures.same ∙ c.stream.ensures) in
    let below : c.from.result < 16 = omega (arith, c.from.ensures, c.number.ensures.in_range) in
    let new = slice_set c.self.inside.each.items c.from.result c.lock.new.self in
    subst (λ (locks : List HeldLocks). IfOk c.lock.result (λ id. (past : List Entry) → LocksStand past locks → Granted past new c.args.file c.args.span c.args.exclusive id)) c.self.view_is
    (locked_granted c.self.inside.each.items c.from.result c.index_mut.result.now c.lock.new.self c.args.file here below c.self.invariant c.index_mut.ensures.value
    c.args.span c.args.exclusive c.lock.result c.lock.ensures.granted c.lock.ensures.refused)

pub returns-clause-refused : goal.returns-clause-refused
returns-clause-refused c =
    let here : c.from.result ≡ c.args.file.stream = c.from.ensures ∙ (c.number.ensures.same ∙ c.stream.ensures) in
    let below : c.from.result < 16 = omega (arith, c.from.ensures, c.number.ensures.in_range) in
    let new = slice_set c.self.inside.each.items c.from.result c.lock.new.self in
    subst (λ (locks : List HeldLocks). IfErr c.lock.result (λ e. (past : List Entry) → LocksStand past locks → Refused past locks new c.args.file c.args.span c.args.exclusive e)) c.self.view_is
    (locked_refused c.self.inside.each.items c.from.result c.index_mut.result.now c.lock.new.self c.args.file here below c.self.invariant c.index_mut.ensures.value
    c.args.span c.args.exclusive c.lock.result c.lock.ensures.granted c.lock.ensures.refused)
