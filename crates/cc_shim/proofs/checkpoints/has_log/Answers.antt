-- The state was told, or the stream is not open, or the call was refused.
use Rattle.std.specs.Prelude.{◌≡◌, ◌≢◌}
use Rattle.std.proofs.Common.{ap, sym, rules}
use Rattle.cc_entry.specs.declared.error.CcError.TheVariants as error
use Rattle.cc_pieces.specs.Checkpoints.{first_object}
use Rattle.cc_shim.proofs.Checkpointing.{log-not_open, log-told, log-untold, same-file}
use Rattle.cc_shim.proofs.checkpoints.has_log.Goals as goal
use Rattle.cc_model.specs.Stamps.{is_log}

pub returns-in-Some : goal.returns-in-Some
returns-in-Some g c =
    let w = g.T.Turns.standing c.args.turns.now in
    let v = g.T.Turns.standing c.file_state.new.turns in
    let is : c.unwrap-file.result ≡ first_object c.args.stream = same-file c.unwrap-file.result c.args.stream (rw c.unwrap-file.ensures at c.new.ensures.stream) (rw c.unwrap-file.ensures at c.new.ensures.object) in
    record { ends = log-told w v c.args.handle c.args.stream c.unwrap-file.result is c.in-Ok.state _ c.in-Ok.ensures.ends (sym (ap (is_log c.args.handle) c.in-Some.is)) }

pub returns-in-None : goal.returns-in-None
returns-in-None g c =
    let w = g.T.Turns.standing c.args.turns.now in
    let v = g.T.Turns.standing c.file_state.new.turns in
    let is : c.unwrap-file.result ≡ first_object c.args.stream = same-file c.unwrap-file.result c.args.stream (rw c.unwrap-file.ensures at c.new.ensures.stream) (rw c.unwrap-file.ensures at c.new.ensures.object) in
    record { ends = log-told w v c.args.handle c.args.stream c.unwrap-file.result is c.in-Ok.state _ c.in-Ok.ensures.ends (sym (ap (is_log c.args.handle) c.in-None.is)) }

pub returns-in-Err-NotCached : goal.returns-in-Err-NotCached
returns-in-Err-NotCached g c =
    let w = g.T.Turns.standing c.args.turns.now in
    let v = g.T.Turns.standing c.file_state.new.turns in
    let is : c.unwrap-file.result ≡ first_object c.args.stream = same-file c.unwrap-file.result c.args.stream (rw c.unwrap-file.ensures at c.new.ensures.stream) (rw c.unwrap-file.ensures at c.new.ensures.object) in
    record { ends = log-not_open w v c.args.handle c.args.stream c.unwrap-file.result is (rw c.in-Err-NotCached.field-0-is at c.in-Err-NotCached.ensures.ends) }

pub returns-in-Err : goal.returns-in-Err
returns-in-Err g c =
    let w = g.T.Turns.standing c.args.turns.now in
    let v = g.T.Turns.standing c.file_state.new.turns in
    let is : c.unwrap-file.result ≡ first_object c.args.stream = same-file c.unwrap-file.result c.args.stream (rw c.unwrap-file.ensures at c.new.ensures.stream) (rw c.unwrap-file.ensures at c.new.ensures.object) in
    let other : c.in-Err.error ≢ error.NotCached = search rules in
    record { ends = log-untold w v c.args.handle c.args.stream c.unwrap-file.result is c.in-Err.error other c.note_others.ensures.few c.in-Err.ensures.ends }
