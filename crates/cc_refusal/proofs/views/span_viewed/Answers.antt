use Rattle.std.proofs.Common.{Bool, ap, sym, ◌∙◌}
use Rattle.cc_entry.specs.declared.call.Call.TheVariants as call
use Rattle.cc_refusal.proofs.ViewedSpans.{absent-viewed}
use Rattle.cc_refusal.proofs.views.span_viewed.Goals as goal

pub returns-in-CopyRead-default-default-default-false :
    goal.returns-in-CopyRead-default-default-default-false
returns-in-CopyRead-default-default-default-false c = λ h size least within.
    let read = c.in-CopyRead-default-default-default-false in
    absent-viewed h c.args.call.now read.file c.args.size read.at read.len c.args.absent c.span_absent.result
    (read.is ∙ ap (λ (b : Bool). call.CopyRead read.file read.at read.len b) (sym read.wait-is ∙ read.wait-test)) size least
    c.span_absent.ensures.none c.span_absent.ensures.some
