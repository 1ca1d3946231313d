-- The stream's number is the place of its locks, which end the one that is named.
use Rattle.std.proofs.Common.{◌≡◌, ◌<◌, List, sym, subst, ◌∙◌, arith}
use Rattle.std.specs.Prelude.{slice_set}
use Rattle.std.proofs.lemmas.Result.{IfOk-at_ok}
use Rattle.cc_entry.specs.declared.entry.Entry.{Entry}
use Rattle.cc_locks.specs.Locks.{HeldLocks}
use Rattle.cc_journal.specs.Locks.{LocksStand, LockEnded}
use Rattle.cc_journal.proofs.LockSteps.{stream_there, unlocked_numbered, unlocked_ended}
use Rattle.cc_journal.proofs.locks.StreamLocks.unlock.Goals as goal

pub index_mut-requires : goal.index_mut-requires
index_mut-requires c = omega (arith, c.from.ensures, c.number.ensures.same, c.number.ensures.in_range, c.self.inside.each.ok.0, c.self.invariant.count)

pub unlock-requires : goal.unlock-requires
unlock-requires c =
    let here : c.from.result ≡ c.args.file.stream = c.from.ensures ∙ (c.number.ensures.same ∙ c.stream.ensures) in
    let below : c.from.result < 16 = omega (arith, c.from.ensures, c.number.ensures.in_range) in
    sym (stream_there c.self.inside.each.items c.from.result c.index_mut.result.now c.index_mut.result.now c.args.file here below c.self.invariant c.index_mut.ensures.value)

pub invariant_of-self : goal.invariant_of-self
invariant_of-self c =
    let here : c.from.result ≡ c.args.file.stream = c.from.ensures ∙ (c.number.ensures.same ∙ c.stream.ensures) in
    let below : c.from.result < 16 = omega (arith, c.from.ensures, c.number.ensures.in_range) in
    unlocked_numbered c.self.inside.each.items c.from.result c.index_mut.result.now c.unlock.new.self c.args.file here below c.self.invariant c.index_mut.ensures.value
    c.args.id c.unlock.result c.unlock.ensures.sure c.unlock.ensures.owned c.unlock.ensures.rest

pub returns : goal.returns
returns c =
    let here : c.from.result ≡ c.args.file.stream = c.from.ensures ∙ (c.number.ensures.same ∙ c.stream.ensures) in
    let below : c.from.result < 16 = omega (arith, c.from.ensures, c.number.ensures.in_range) in
    let old = c.self.inside.each.items in
    let new = slice_set old c.from.result c.unlock.new.self in
    record {
      ended = subst (λ (locks : List HeldLocks). (past : List Entry) → LocksStand past locks → LockEnded past new c.args.file c.args.id c.unwrap.result) c.self.view_is
          (IfOk-at_ok (λ gone. (past : List Entry) → LocksStand past old → LockEnded past new c.args.file c.args.id gone) c.unwrap.ensures
          (unlocked_ended old c.from.result c.index_mut.result.now c.unlock.new.self c.args.file here below c.self.invariant c.index_mut.ensures.value
          c.args.id c.unlock.result c.unlock.ensures.sure c.unlock.ensures.owned c.unlock.ensures.rest));
    }
