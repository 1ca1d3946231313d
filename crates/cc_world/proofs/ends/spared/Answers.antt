-- Any call but the end of a noncached write gives back what its step spares and what its pass owed, which both are few.
use Rattle.std.specs.Prelude.{ℕ, ◌+◌, ◌≡◌}
use Rattle.std.proofs.Common.{ap, sym, ◌∙◌, arith}
use Rattle.cc_journal.specs.Calls.{owed_end}
use Rattle.cc_model.specs.History.{history}
use Rattle.cc_model.specs.Holds.{holds_of}
use Rattle.cc_step.specs.Step.{places_spared}
use Rattle.cc_world.proofs.CallSums.{owed-few, spared-else, spared-few}
use Rattle.cc_world.proofs.ends.spared.Goals as goal

pub overflow_add-result : goal.overflow_add-result
overflow_add-result g c =
    let past = c.args.journal.now.entries in
    omega (arith, c.places_spared.ensures c.requires.0 past c.requires.1, spared-few (holds_of (history past c.args.book.now.stream)) c.args.call.now, c.owed_end.ensures, owed-few past c.args.pass)

pub returns-in_default : goal.returns-in_default
returns-in_default g c =
    let past = c.args.journal.now.entries in
    let s = c.args.book.now.stream in
    let both : c.places_spared.result + c.owed_end.result ≡ places_spared (holds_of (history past s)) c.args.call.now + owed_end past c.args.pass =
    ap (λ (n : ℕ). n + c.owed_end.result) (c.places_spared.ensures c.requires.0 past c.requires.1)
    ∙ ap (λ (n : ℕ). places_spared (holds_of (history past s)) c.args.call.now + n) c.owed_end.ensures in
    both ∙ sym (spared-else past c.args.pass s c.args.call.now c.in_default.not-NcWrite)
