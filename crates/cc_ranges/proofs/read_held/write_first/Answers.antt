-- The page is dirty, of the read's range, and the read is admitted, so it may be written for it; a page written well is
-- read, and a write that failed ends the read.
use Rattle.std.specs.Prelude.{◌≡◌, ℕ, true, false, Result, Err, IfErr, IfOk, List}
use Rattle.std.proofs.Common.{sym, subst}
use Rattle.cc_entry.specs.declared.call.Call.{Call}
use Rattle.cc_entry.specs.declared.call.Call.TheVariants as call
use Rattle.cc_entry.specs.declared.entry.Entry.{Entry}
use Rattle.cc_entry.specs.declared.error.CcError.{CcError}
use Rattle.cc_entry.specs.declared.entry.End.TheVariants as how
use Rattle.cc_book.specs.Book.{BookState}
use Rattle.cc_effects.specs.Asked.{Calls, may_write}
use Rattle.cc_effects.specs.Calls.{IsUnderWay}
use Rattle.cc_effects.proofs.Starts.{begins}
use Rattle.cc_model.specs.History.{history}
use Rattle.cc_model.specs.Refusals.{refusal}
use Rattle.std.specs.declared.option.Option.TheVariants.{None}
use Rattle.cc_step.proofs.Admitted.{admitted}
use Rattle.cc_writes.specs.Calls.{PageStepLeft}
use Rattle.cc_writes.specs.Writes.{HasTransferred, IsToWrite}
use Rattle.cc_writes.specs.Ways.{IsCallReason}
use Rattle.cc_ranges.specs.ReadVisits.{IsReading, ReadEnded}
use Rattle.cc_ranges.proofs.ReadCalls.{read-filed, wrote}
use Rattle.cc_ranges.proofs.ReadHolding.{said-before, said-after, may-fault, asks-page, failed-write}
use Rattle.cc_ranges.proofs.read_held.write_first.Goals.{in-Ok, in-Err}
use Rattle.cc_ranges.proofs.read_held.write_first.Goals as goal

pub write_for-book-requires-clause-faults : goal.write_for-book-requires-clause-faults
write_for-book-requires-clause-faults g c =
    may-fault c.args.file c.args.page

pub write_for-book-requires-clause-filed : goal.write_for-book-requires-clause-filed
write_for-book-requires-clause-filed g c =
    read-filed c.args.file c.args.page c.args.book.stream c.requires.stream

pub write_for-book-requires-clause-admitted : goal.write_for-book-requires-clause-admitted
write_for-book-requires-clause-admitted g c =
    let w = g.T.Turns.standing c.args.turns.now in
    let file = c.args.file in
    let page = c.args.page in
    subst (λ (n : ℕ). refusal w.setup w.seen (history w.seen n) (call.NcRead file page) ≡ None) (sym c.requires.stream) c.requires.dirty.admitted

pub write_for-book-requires-clause-asked : goal.write_for-book-requires-clause-asked
write_for-book-requires-clause-asked g c =
    let w = g.T.Turns.standing c.args.turns.now in
    let file = c.args.file in
    let page = c.args.page in
    subst (λ (n : ℕ). may_write (Calls (call.NcRead file page)) (record { stream = n; page = page }) w.seen ≡ true) (sym c.requires.stream) (asks-page file page w.seen (admitted w.setup w.seen file.stream (call.NcRead file page) c.requires.dirty.admitted) c.requires.dirty.reached)

pub write_for-book-requires-clause-to_write : goal.write_for-book-requires-clause-to_write
write_for-book-requires-clause-to_write g c =
    let w = g.T.Turns.standing c.args.turns.now in
    let page = c.args.page in
    subst (λ (n : ℕ). IsToWrite (record { stream = n; page = page }) w.seen) (sym c.requires.stream) c.requires.dirty.to_write

pub read_written-requires-clause-reading : goal.read_written-requires-clause-reading
read_written-requires-clause-reading g c =
    let w = g.T.Turns.standing c.args.turns.now in
    let v = g.T.Turns.standing c.write_for-book.new.turns in
    let file = c.args.file in
    let page = c.args.page in
    let left = subst (λ (r : Result Call CcError). (begun : List Entry) → IsUnderWay w.number (call.NcRead file page) begun w.seen → PageStepLeft w.setup w.number (call.NcRead file page) r begun v.seen) c.in-Ok.is c.write_for-book.ensures.left in
    let shown = subst (λ (n : ℕ). HasTransferred w (record { stream = n; page = page }) how.Good false v.seen) c.requires.stream
    (subst (λ (r : Result Call CcError). IfOk r (λ again. HasTransferred w (record { stream = c.args.book.stream; page = page }) how.Good false v.seen)) c.in-Ok.is c.write_for-book.ensures.written) in (
      w.seen,
      said-after (λ u n. IsReading n file page true w.seen v.seen) w.in_flight w v c.write_for-book.ensures.went
          (wrote w file page w.seen v.seen (begins w.number (call.NcRead file page) w.seen) shown (left w.seen (begins w.number (call.NcRead file page) w.seen)).1),
    )

pub returns-clause-left : goal.returns-clause-left
returns-clause-left g c begun is =
    let w = g.T.Turns.standing c.args.turns.now in
    let v = g.T.Turns.standing c.write_for-book.new.turns in
    let file = c.args.file in
    let page = c.args.page in
    let ends = λ (t : g.row.T.Denot) (r : BookState × Result ℕ CcError) (out : List ℕ). ReadEnded w.setup w.number file page r.1 begun (g.T.Turns.standing t).seen c.args.out.now out in
    elim c.match-written.branch [
      | in-Ok b ↦
          let left = subst (λ (r : Result Call CcError). PageStepLeft w.setup w.number (call.NcRead file page) r begun v.seen) b.in-Ok.is (c.write_for-book.ensures.left begun is) in
          let shown = subst (λ (n : ℕ). HasTransferred w (record { stream = n; page = page }) how.Good false v.seen) c.requires.stream
          (subst (λ (r : Result Call CcError). IfOk r (λ again. HasTransferred w (record { stream = c.args.book.stream; page = page }) how.Good false v.seen)) b.in-Ok.is c.write_for-book.ensures.written) in
          subst (λ (t : g.row.T.Denot). ends t c.match-written.result c.match-written.out) (sym b.turns-is)
          (subst (λ (r : BookState × Result ℕ CcError). ends b.read_written.new.turns r c.match-written.out) (sym b.result-is)
          (subst (λ (out : List ℕ). ends b.read_written.new.turns b.read_written.result out) (sym b.out-is)
          (said-before (λ u n. ReadEnded u n file page b.read_written.result.1 begun (g.T.Turns.standing b.read_written.new.turns).seen c.args.out.now b.read_written.new.out) w.in_flight w v c.write_for-book.ensures.went
          (b.read_written.ensures.left begun
          (said-after (λ u n. IsReading n file page true begun v.seen) w.in_flight w v c.write_for-book.ensures.went
          (wrote w file page begun v.seen is shown left.1))))))
      | in-Err b ↦
          subst (λ (t : g.row.T.Denot). ends t c.match-written.result c.match-written.out) (sym b.turns-is)
          (subst (λ (r : BookState × Result ℕ CcError). ends c.write_for-book.new.turns r c.match-written.out) (sym b.result-is)
          (subst (λ (out : List ℕ). ends c.write_for-book.new.turns (c.write_for-book.result.0, Err b.in-Err.error) out) (sym b.out-is)
          (failed-write w.setup w.number c.args.book.stream file page b.in-Err.error begun v.seen c.args.out.now
          (subst (λ (r : Result Call CcError). PageStepLeft w.setup w.number (call.NcRead file page) r begun v.seen) b.in-Err.is (c.write_for-book.ensures.left begun is))
          (subst (λ (r : Result Call CcError). IfErr r (IsCallReason w.setup c.args.book.stream (call.NcRead file page))) b.in-Err.is c.write_for-book.ensures.reason))))
    ]
