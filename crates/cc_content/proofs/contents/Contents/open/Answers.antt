use Rattle.std.proofs.Common.{sym, ◌∙◌}
use Rattle.cc_content.proofs.ContentSteps.{stands-opened}
use Rattle.cc_content.proofs.contents.Contents.open.Goals as goal

pub returns-clause-stands : goal.returns-clause-stands
returns-clause-stands c = λ opening h pass file sizes temporary reply unmapped size valid.
    let m = c.in_ok-pages.pages in
    let made = c.in_ok-pages.ensures in
    rw (c.start.ensures, ← valid) (stands-opened opening pass file sizes c.args.quota temporary reply h m unmapped made.empty made.blocks made.quota (made.size ∙ sym size))
