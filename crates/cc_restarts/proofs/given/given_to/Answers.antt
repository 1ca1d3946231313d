use Rattle.std.proofs.Common.{ℕ, ◌≡◌, ◌+◌, ◌<◌, length, get_or, set, take, subst, sym, ◌∙◌, arith}
use Rattle.std.specs.Prelude.{IfErr}
use Rattle.cc_redo.proofs.Steps.{handed-on}
use Rattle.cc_restarts.specs.Given.{GivenTo, GivesRedo}
use Rattle.cc_restarts.specs.Restarting.{ReadingLeft}
use Rattle.cc_restarts.proofs.Reading.{IsAt, gives-more, goes-on, stops}
use Rattle.cc_restarts.proofs.given.given_to.Goals as goal

pub returns-in_err-give_stream-clause-left : goal.returns-in_err-give_stream-clause-left
returns-in_err-give_stream-clause-left g c =
    let told = g.D.Told.told in
    let faults = g.D.Told.faults in
    let streams = c.args.streams.now in
    let n = c.from.result in
    let stream = c.stream-item.result in
    let next = c.give_stream.new.disk in
    let place : n ≡ c.loop-stream.stream-index = c.from.ensures ∙ c.loop-stream.invariant.number in
    let at_it : IsAt told faults c.args.handle streams n c.args.disks.now c.loop-stream.disks stream = record {
      enough = c.requires.enough;
      below = subst (λ (k : ℕ). k < length streams) (sym place) c.loop-stream-test.true;
      stream_is = subst (λ (k : ℕ). stream ≡ get_or streams k stream) (sym place) c.stream-item.is;
      read = c.loop-stream.invariant.read;
    } in
    handed-on (λ answer. IfErr answer (ReadingLeft told faults c.args.handle streams c.args.disks.now (set c.loop-stream.disks n next)))
    c.from_residual.result c.in_err-give_stream.field-0.0 c.from_residual.ensures.1
    (stops told faults c.args.handle streams n c.args.disks.now c.loop-stream.disks stream c.index-disks-from.result next at_it c.give_stream.ensures.stays c.give_stream.ensures.untouched
    c.in_err-give_stream.field-0.0 c.in_err-give_stream.ensures.refused c.in_err-give_stream.ensures.restarted c.in_err-give_stream.ensures.counted)

pub loop-stream-preserved : goal.loop-stream-preserved
loop-stream-preserved g c =
    let told = g.D.Told.told in
    let faults = g.D.Told.faults in
    let streams = c.args.streams.now in
    let handle = c.args.handle in
    let disks = c.args.disks.now in
    let n = c.from.result in
    let stream = c.stream-item.result in
    let one = c.index-disks-from.result in
    let next = c.give_stream.new.disk in
    let given = c.loop-stream.given.items in
    let more = c.give_stream.new.given.items in
    let place : n ≡ c.loop-stream.stream-index = c.from.ensures ∙ c.loop-stream.invariant.number in
    let at_it : IsAt told faults handle streams n disks c.loop-stream.disks stream = record {
      enough = c.requires.enough;
      below = subst (λ (k : ℕ). k < length streams) (sym place) c.loop-stream-test.true;
      stream_is = subst (λ (k : ℕ). stream ≡ get_or streams k stream) (sym place) c.stream-item.is;
      read = c.loop-stream.invariant.read;
    } in
    let before : GivenTo told disks handle 0 (take n streams) given = subst (λ (k : ℕ). GivenTo told disks handle 0 (take k streams) given) (sym place) c.loop-stream.invariant.given in
    let gives : GivesRedo (told (get_or c.loop-stream.disks n one)) handle n stream given more =
    subst (λ (k : ℕ). GivesRedo (told (get_or c.loop-stream.disks n one)) handle k stream given more) (sym c.from.ensures) c.in_ok-give_stream.ensures.gives in
    record {
      number = let number = c.loop-stream.invariant.number in omega (arith, number);
      read = goes-on told faults handle streams n disks c.loop-stream.disks stream one next at_it c.give_stream.ensures.stays c.give_stream.ensures.untouched c.in_ok-give_stream.ensures.counted;
      given = subst (λ (k : ℕ). GivenTo told disks handle 0 (take (k + 1) streams) more) place
          (gives-more told faults handle streams n disks c.loop-stream.disks stream one next at_it c.give_stream.ensures.stays c.give_stream.ensures.untouched given more before gives);
    }
