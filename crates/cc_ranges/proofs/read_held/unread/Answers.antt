-- The entry of the page that was not read halts the read with `ReadFault`, which it may tell; what it tells is no
-- refusal of a place or a length.
use Rattle.std.specs.Prelude.{ℕ, List, Err, refl}
use Rattle.std.proofs.Common.{sym, subst}
use Rattle.cc_entry.specs.declared.call.Call.TheVariants as call
use Rattle.cc_entry.specs.declared.entry.Entry.{Entry}
use Rattle.cc_entry.specs.declared.error.CcError.TheVariants as error
use Rattle.cc_writes.specs.Ways.{IsHalted}
use Rattle.cc_ranges.specs.ReadVisits.{ReadEnded}
use Rattle.cc_ranges.proofs.Misshapen.{read-unshaped}
use Rattle.cc_ranges.proofs.ReadCalls.{read-filed}
use Rattle.cc_ranges.proofs.ReadHolding.{said-before, said-after}
use Rattle.cc_ranges.proofs.read_held.unread.Goals as goal

pub fail_at-requires-clause-filed : goal.fail_at-requires-clause-filed
fail_at-requires-clause-filed g c =
    let file = c.args.file in
    let page = c.args.page in
    read-filed file page c.args.book.now.stream c.unread_at.ensures.book.stream

pub fail_at-requires-clause-halted : goal.fail_at-requires-clause-halted
fail_at-requires-clause-halted g c =
    let w = g.T.Turns.standing c.args.turns.now in
    let v = g.T.Turns.standing c.unread_at.new.turns in
    let file = c.args.file in
    let page = c.args.page in
    subst (λ (n : ℕ). (begun : List Entry) × IsHalted v.setup v.number n (call.NcRead file page) (error.ReadFault page) begun v.seen) (sym c.unread_at.ensures.book.stream) (
      c.requires.wanted.0,
      said-after (λ u n. IsHalted u n file.stream (call.NcRead file page) (error.ReadFault page) c.requires.wanted.0 v.seen) 0 w v c.unread_at.ensures.went (c.unread_at.ensures.left c.requires.wanted.0 c.requires.wanted.1),
    )

pub returns-clause-left : goal.returns-clause-left
returns-clause-left g c begun is out =
    let w = g.T.Turns.standing c.args.turns.now in
    let v = g.T.Turns.standing c.unread_at.new.turns in
    let x = g.T.Turns.standing c.fail_at.new.turns in
    let file = c.args.file in
    let page = c.args.page in
    let s = c.args.book.now.stream in
    said-before (λ u n. ReadEnded u n file page (Err c.fail_at.result) begun x.seen out out) 0 w v c.unread_at.ensures.went
    (record {
      left = c.fail_at.ensures.left begun (
          subst (λ (n : ℕ). IsHalted v.setup v.number n (call.NcRead file page) (error.ReadFault page) begun v.seen) (sym c.unread_at.ensures.book.stream)
          (said-after (λ u n. IsHalted u n file.stream (call.NcRead file page) (error.ReadFault page) begun v.seen) 0 w v c.unread_at.ensures.went (c.unread_at.ensures.left begun is)));
      behind = refl;
      unshaped = read-unshaped v.setup s file page c.fail_at.result c.fail_at.ensures.reason;
    })
