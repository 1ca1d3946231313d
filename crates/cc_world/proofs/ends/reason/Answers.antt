-- Any call but the end of a noncached write is refused for what the book tells, which stands for the past.
use Rattle.std.specs.Prelude.{◌≡◌, ℕ, List, Option}
use Rattle.std.proofs.Common.{sym, ◌∙◌}
use Rattle.std.proofs.lemmas.Result.{IfOk-weaker}
use Rattle.cc_book.specs.Book.{BookStands}
use Rattle.cc_model.specs.History.{history}
use Rattle.cc_model.specs.Refusals.{refusal}
use Rattle.cc_model.specs.Setup.{Setup}
use Rattle.cc_world.specs.Calls.{CallIsMade}
use Rattle.cc_effects.specs.Events.{reason_of}
use Rattle.cc_world.proofs.CallGood.{reason-else}
use Rattle.cc_world.proofs.ends.reason.Goals as goal

pub returns-in_default : goal.returns-in_default
returns-in_default g c =
    let b = c.args.book.now in
    let j = c.args.journal.now in
    let it = c.args.call.now in
    IfOk-weaker c.refusal.result
    (λ refused. (u : Setup) (opening : Option (ℕ → List ℕ)) → u.logs ≡ j.logs → BookStands opening j.entries b → refused ≡ refusal u j.entries (history j.entries b.stream) it)
    (λ refused. (u : Setup) → CallIsMade u 0 it b j → refused ≡ reason_of u j.entries it)
    (λ refused is u made. is u (u.opening b.stream) made.stands.stand.logs_are made.stands.stand.stands ∙ sym (reason-else u j.entries b.stream it c.in_default.not-NcWrite made.here))
    c.refusal.ensures
