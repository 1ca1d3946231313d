-- The call needs pages, or none, and its caller is told its reply.
use Rattle.std.specs.Prelude.{ℕ}
use Rattle.std.proofs.Common.{sym, subst}
use Rattle.cc_entry.specs.declared.call.Call.TheVariants as call
use Rattle.cc_calls.specs.Answers.{CanCall}
use Rattle.cc_writes.specs.Visits.{CallIsOfStream}
use Rattle.cc_calls.proofs.Asking.{asked-done, asked-failed, names-file, names-stream, told-there}
use Rattle.cc_calls.proofs.queries.ask_stream.Goals as goal

pub call_paged-requires : goal.call_paged-requires
call_paged-requires g c = record {
  can = subst (λ (n : ℕ). CanCall (g.T.Turns.standing c.args.turns.now) n) (sym c.stream.ensures) c.requires.can;
  paged = names-stream c.args.query c.args.file c.requires.file;
  filed =
      subst (λ (n : ℕ). CallIsOfStream (call.Query c.args.query) n) (sym c.stream.ensures)
      (names-file c.args.query c.args.file c.requires.file);
  fits = tt;
}

pub reply_told-requires : goal.reply_told-requires
reply_told-requires g c =
    told-there (g.T.Turns.standing c.args.turns.now) (g.T.Turns.standing c.call_paged.new.turns) c.args.query _ _
    (names-stream c.args.query c.args.file c.requires.file) c.in-Ok.told (rw c.in-Ok.is at c.call_paged.ensures)

pub returns-in-Ok : goal.returns-in-Ok
returns-in-Ok g c =
    asked-done (g.T.Turns.standing c.args.turns.now) (g.T.Turns.standing c.call_paged.new.turns) c.args.query _ _
    (names-stream c.args.query c.args.file c.requires.file) c.in-Ok.told c.reply_told.result c.reply_told.ensures (rw c.in-Ok.is at c.call_paged.ensures)

pub returns-in-Err : goal.returns-in-Err
returns-in-Err g c =
    asked-failed (g.T.Turns.standing c.args.turns.now) (g.T.Turns.standing c.call_paged.new.turns) c.args.query _ _
    (names-stream c.args.query c.args.file c.requires.file) c.in-Err.error (rw c.in-Err.is at c.call_paged.ensures)
