-- With the place of its entry reserved the call may be done with what was decided, or fail so; what the pass owed comes back.
use Rattle.std.specs.Prelude.{◌<◌, ℕ}
use Rattle.std.proofs.Common.{◌∙◌, subst}
use Rattle.cc_calls.proofs.AskedAhead.{reserved-done, reserved-failed, reserved-may, reserved-owed, reserved-turn, some-reserved, stand-reserved}
use Rattle.cc_calls.proofs.ahead.ask_in.Goals as goal

pub done-requires-clause-may : goal.done-requires-clause-may
done-requires-clause-may g c =
    let u = c.requires.may.0 in
    let may = c.requires.may.1 in
    let decided = c.in-Ok.ensures.decided u (stand-reserved u c.args.pass c.args.file c.args.at c.args.len c.args.book.now c.args.journal.now may c.reserve.new.self c.in_ok-reserve.ensures.reserved) in
    (u, reserved-may u c.args.pass c.args.file c.args.at c.args.len c.args.book.now c.args.journal.now may c.reserve.new.self c.in_ok-reserve.ensures.reserved c.in-Ok.request c.same.result c.same.ensures decided)

pub release-requires : goal.release-requires
release-requires g c =
    let u = c.requires.may.0 in
    let may = c.requires.may.1 in
    reserved-owed u c.args.pass c.args.file c.args.at c.args.len c.args.book.now c.args.journal.now may c.reserve.new.self c.in_ok-reserve.ensures.reserved _ c.owed_end-owed.result c.done.new.journal c.in-Ok-done.ensures.placed c.owed_end-owed.ensures

pub fail-requires : goal.fail-requires
fail-requires g c =
    let u = c.requires.may.0 in
    let may = c.requires.may.1 in
    let decided = c.in-Err.ensures.decided u (stand-reserved u c.args.pass c.args.file c.args.at c.args.len c.args.book.now c.args.journal.now may c.reserve.new.self c.in_ok-reserve.ensures.reserved) in
    record {
      reserved = some-reserved u c.args.pass c.args.file c.args.at c.args.len c.args.book.now c.args.journal.now may c.reserve.new.self c.in_ok-reserve.ensures.reserved;
      may = reserved-turn u c.args.pass c.args.file c.args.at c.args.len c.args.book.now c.args.journal.now may c.reserve.new.self c.in_ok-reserve.ensures.reserved c.in-Err.error c.in_default.not-NoMemory decided;
    }

pub release-requires-in_default : goal.release-requires-in_default
release-requires-in_default g c =
    let u = c.requires.may.0 in
    let may = c.requires.may.1 in
    reserved-owed u c.args.pass c.args.file c.args.at c.args.len c.args.book.now c.args.journal.now may c.reserve.new.self c.in_ok-reserve.ensures.reserved _ c.owed_end-owed.result c.fail.new.journal c.fail.ensures.placed c.owed_end-owed.ensures

pub returns-in-Ok-done-clause-left : goal.returns-in-Ok-done-clause-left
returns-in-Ok-done-clause-left g c = λ u may.
    let decided = c.in-Ok.ensures.decided u (stand-reserved u c.args.pass c.args.file c.args.at c.args.len c.args.book.now c.args.journal.now may c.reserve.new.self c.in_ok-reserve.ensures.reserved) in
    let below = subst (λ (n : ℕ). n < 16) (c.number-stream.ensures.same ∙ c.stream.ensures) c.number-stream.ensures.in_range in
    let stands = c.in-Ok-done.ensures.stands u (reserved-may u c.args.pass c.args.file c.args.at c.args.len c.args.book.now c.args.journal.now may c.reserve.new.self c.in_ok-reserve.ensures.reserved c.in-Ok.request c.same.result c.same.ensures decided) in
    reserved-done u c.args.pass c.args.file c.args.at c.args.len c.args.book.now c.args.journal.now may c.reserve.new.self c.in_ok-reserve.ensures.reserved c.in-Ok.request c.same.result c.owed_end-owed.result c.done.new.self c.done.new.journal c.release.new.self c.same.ensures below decided c.in-Ok-done.ensures.placed c.owed_end-owed.ensures c.release.ensures c.in-Ok-done.ensures.stream stands

pub returns-in_default : goal.returns-in_default
returns-in_default g c = record {
  left = λ u may.
      let decided = c.in-Err.ensures.decided u (stand-reserved u c.args.pass c.args.file c.args.at c.args.len c.args.book.now c.args.journal.now may c.reserve.new.self c.in_ok-reserve.ensures.reserved) in
      reserved-failed u c.args.pass c.args.file c.args.at c.args.len c.args.book.now c.args.journal.now may c.reserve.new.self c.in_ok-reserve.ensures.reserved c.in-Err.error c.owed_end-owed.result c.fail.new.self c.fail.new.journal c.release-in_default.new.self c.in_default.not-NoMemory decided c.fail.ensures.placed c.owed_end-owed.ensures c.release-in_default.ensures c.fail.ensures.stands c.fail.ensures.same;
  asked = c.in-Err.ensures.asked;
}
