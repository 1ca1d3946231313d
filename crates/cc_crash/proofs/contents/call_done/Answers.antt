use Rattle.std.proofs.Common.{ℕ, ap, ◌∙◌}
use Rattle.cc_model.specs.Acts.{act_of}
use Rattle.cc_model.specs.Touches.{is_dirty, size_of}
use Rattle.cc_crash.specs.Effects.{effects}
use Rattle.cc_crash.proofs.TouchSteps.{size_at}
use Rattle.cc_crash.specs.DiskPages.{changes}
use Rattle.cc_crash.proofs.PageSteps.{called-rest}
use Rattle.cc_crash.proofs.contents.call_done.Goals as goal

pub returns-in_default : goal.returns-in_default
returns-in_default c =
    let a = act_of c.args.call.now in
    let h = effects c.args.before.now c.args.page.stream in
    let p = c.args.page.page in
    c.changes.ensures
    ∙ (ap (λ (n : ℕ). changes a n p c.args.left.now) (size_at c.args.sizes.now c.args.before.now c.args.page.stream c.requires)
    ∙ called-rest a c.act.result (size_of h) p (is_dirty h p) c.args.left.now c.act.ensures.what c.in_default.not-Discards)
