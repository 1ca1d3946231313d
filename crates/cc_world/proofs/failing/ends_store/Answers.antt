use Rattle.std.specs.Prelude.{ℕ, Some}
use Rattle.std.proofs.Common.{ap, sym, ◌∙◌}
use Rattle.cc_entry.specs.declared.call.Call.{Call}
use Rattle.cc_model.specs.Legal.{ends_own_store}
use Rattle.cc_model.specs.Passes.{is_the_page, store_of}
use Rattle.cc_world.proofs.failing.ends_store.Goals as goal

pub returns-in-NcWrite : goal.returns-in-NcWrite
returns-in-NcWrite c past stood =
    c.ends_own_store.ensures past stood.passes
    ∙ (ap (λ (n : ℕ). is_the_page (record { stream = n; page = c.in-NcWrite.page }) (store_of past c.args.pass)) c.stream.ensures
    ∙ ap (λ (it : Call). ends_own_store past c.args.pass (Some c.args.book.now.stream) it) (sym c.in-NcWrite.is))
