-- The purge begins with disk and book of a stream at rest; what it left holds still after both turns are given.
use Rattle.std.specs.Prelude.{ℕ, IfErr, OnOk, List}
use Rattle.std.proofs.Common.{ap, sym, ◌∙◌, subst}
use Rattle.cc_entry.specs.declared.call.Call.TheVariants as call
use Rattle.cc_entry.specs.declared.entry.Entry.{Entry}
use Rattle.cc_effects.specs.Calls.{CallLeft}
use Rattle.cc_effects.proofs.Starts.{begins}
use Rattle.cc_model.specs.Good.{IsGood}
use Rattle.cc_model.specs.Setup.{Setup}
use Rattle.cc_turns.specs.Standing.{Standing}
use Rattle.cc_turns.specs.Takes.{without_device}
use Rattle.cc_writes.specs.Calls.{IsFullWriting}
use Rattle.cc_writes.specs.Fetch.{CanCall}
use Rattle.cc_writes.proofs.Fullness.{given-writing}
use Rattle.cc_writes.proofs.TakingBoth.{both_begun, idle, left_since, number_both}
use Rattle.cc_ranges.specs.Purge.{PurgeCameSoFar, WasEmptiedAlone}
use Rattle.cc_ranges.proofs.PurgeRounds.{emptied-since, failed-since}
use Rattle.cc_calls.specs.Answers.{outcome_of}
use Rattle.cc_calls.proofs.FlushCalls.{setup-both, went-both}
use Rattle.cc_calls.proofs.PurgeCalls.{purge-ends}
use Rattle.cc_calls.proofs.flushes.purge.Goals as goal

pub purge_held-book-requires-clause-both : goal.purge_held-book-requires-clause-both
purge_held-book-requires-clause-both g c =
    both_begun (g.T.Turns.standing c.args.turns.now) (g.T.Turns.standing c.take_device-disk.new.self) (g.T.Turns.standing c.take_book-book.new.self)
    c.stream-stream.result (subst (λ (n : ℕ). CanCall (g.T.Turns.standing c.args.turns.now) n) (sym c.stream-stream.ensures) c.requires.can) c.take_device-disk.ensures.took c.take_book-book.ensures.took g.T.Disk.Told.told g.T.Disk.Told.faults
    c.take_book-book.result c.take_device-disk.result c.take_device-disk.ensures.opening c.take_device-disk.ensures.stands c.take_device-disk.ensures.at_rest
    c.take_book-book.ensures.stream c.take_book-book.ensures.stands

pub returns : goal.returns
returns g c =
    let w = g.T.Turns.standing c.args.turns.now in
    let v = g.T.Turns.standing c.take_device-disk.new.self in
    let x = g.T.Turns.standing c.take_book-book.new.self in
    let y = g.T.Turns.standing c.purge_held-book.new.turns in
    let z = g.T.Turns.standing c.give_device.new.self in
    let s = c.stream-stream.result in
    let can = subst (λ (n : ℕ). CanCall w n) (sym c.stream-stream.ensures) c.requires.can in
    let it = call.Purge c.args.file c.args.span in
    let answer = c.purge_held-book.result.1 in
    let first = c.take_device-disk.ensures.took in
    let second = c.take_book-book.ensures.took in
    let went = c.purge_held-book.ensures.went in
    let both = c.purge_held-book.ensures.both in
    let given = c.give_device.ensures ∙ ap without_device c.give_book.ensures in
    record {
      ends =
          purge-ends w z c.args.file c.args.span answer
          (left_since w v x s can first second (λ u me begun past. CallLeft u me it (outcome_of answer) begun past) y z it given
          c.purge_held-book.ensures.left w.seen (begins w.number it w.seen))
          (subst (λ (a : Standing). IsFullWriting it a answer) (sym given) (given-writing it y answer c.purge_held-book.ensures.full))
          (went-both w v x y z s can.free first second went given)
          (subst (λ (u : Setup). IsGood u z.seen) (setup-both w v x y s first second went)
          (subst (λ (past : List Entry). IsGood y.setup past) (sym (ap (λ (a : Standing). a.seen) given)) both.book.good))
          (subst (λ (past : List Entry). OnOk answer (WasEmptiedAlone w.number c.args.file.stream w.seen past)) (sym (ap (λ (a : Standing). a.seen) given))
          (emptied-since w.number c.args.file.stream answer w.seen x.seen y.seen (idle w v x s can first second)
          (subst (λ (n : ℕ). OnOk answer (WasEmptiedAlone n c.args.file.stream x.seen y.seen)) (number_both w v x s can first second) c.purge_held-book.ensures.emptied)))
          (subst (λ (past : List Entry). IfErr answer (λ e. PurgeCameSoFar w.number c.args.file.stream w.seen past)) (sym (ap (λ (a : Standing). a.seen) given))
          (failed-since w.number c.args.file.stream answer w.seen x.seen y.seen (idle w v x s can first second)
          (subst (λ (n : ℕ). IfErr answer (λ e. PurgeCameSoFar n c.args.file.stream x.seen y.seen)) (number_both w v x s can first second) c.purge_held-book.ensures.failed)));
    }
