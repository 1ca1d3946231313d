use Rattle.std.proofs.Common.{◌+◌, ◌<◌, List, All, length, slice_index_or, subst, sym, arith, inr}
use Rattle.std.specs.Prelude.{IfOk, IfErr}
use Rattle.cc_traits.specs.Told.{IfTold}
use Rattle.cc_redo.specs.declared.redo.Redo.{Redo}
use Rattle.cc_redo.specs.Ends.{DisksDiffer, IsRestartAnswer, IsRestartRefusal}
use Rattle.cc_restarts.specs.Given.{GivenTo}
use Rattle.cc_restarts.proofs.Giving.{given-below, given-differ}
use Rattle.cc_restarts.proofs.logs.restart_log.Goals as goal

pub restart-answer-requires-clause-disks : goal.restart-answer-requires-clause-disks
restart-answer-requires-clause-disks g c =
    let streams = c.args.streams.now in
    let all : All (λ redo. redo.disk < 0 + length streams) c.deref.result.now =
    subst (λ (l : List Redo). All (λ redo. redo.disk < 0 + length streams) l) (sym c.deref.ensures.value)
    (given-below g.D.Told.told c.args.disks.now c.args.handle 0 streams c.in_ok-given.given.items c.in_ok-given.ensures.given) in
    λ k d inside.
    let below : (slice_index_or c.deref.result.now k d).disk < 0 + length streams = all k d inside in
    let count = c.in_ok-given.ensures.read.count in
    let enough = c.requires.enough in
    omega (arith, below, count, enough)

pub restart-answer-requires-clause-differ : goal.restart-answer-requires-clause-differ
restart-answer-requires-clause-differ g c =
    subst (λ (l : List Redo). DisksDiffer l) (sym c.deref.ensures.value)
    (given-differ g.D.Told.told c.args.disks.now c.args.handle 0 c.args.streams.now c.in_ok-given.given.items c.in_ok-given.ensures.given)

pub returns : goal.returns
returns g c =
    let told = g.D.Told.told in
    let faults = g.D.Told.faults in
    let log_told = g.L.LogFile.told in
    let given = c.deref.result.now in
    let between = c.given_to.new.disks in
    inr
    (record {
      given = given;
      between = between;
      answered = c.restart-answer.result;
      ended_is = c.numbers_of.ensures;
      given_are = subst (λ (l : List Redo). GivenTo told c.args.disks.now c.args.handle 0 c.args.streams.now l) (sym c.deref.ensures.value) c.in_ok-given.ensures.given;
      read = c.in_ok-given.ensures.read;
      leaves = c.restart-answer.ensures.leaves;
      answer = λ done is. subst (λ r. IfOk r (λ d. IfTold (log_told c.args.log.now) (λ l. IsRestartAnswer given l d))) is c.restart-answer.ensures.answer;
      refused = λ e is. subst (λ r. IfErr r (IsRestartRefusal told faults given (log_told c.args.log.now) between c.restart-answer.new.disks)) is c.restart-answer.ensures.refused;
      counted = c.restart-answer.ensures.counted;
      log_tells = c.restart-answer.ensures.log_stays;
      log_counted = c.restart-answer.ensures.log_counted;
    })
