use Rattle.std.proofs.Common.{◌≡◌, ℕ, List, ap, subst, sym, ◌∙◌}
use Rattle.cc_crash.specs.DiskPages.{PageState, changes}
use Rattle.cc_model.specs.Acts.{act_of}
use Rattle.cc_crash.proofs.PageBytes.{bytes-left}
use Rattle.cc_crash.proofs.disk_page.DiskPage.changes.Goals as goal

pub returns-then-reaches : goal.returns-then-reaches
returns-then-reaches c =
    let i = c.self.inside in
    let with_given : List ℕ → PageState = λ given. record { given = given; held = i.held; may = i.may.items; known = i.known; sent = i.sent } in
    ap with_given c.changed-self-inside.ensures ∙ ap (changes (act_of c.args.call.now) c.args.size c.args.page.page) c.self.view_is

pub returns-else-reaches : goal.returns-else-reaches
returns-else-reaches c =
    let i = c.self.inside in
    let a = act_of c.args.call.now in
    let with_given : List ℕ → PageState = λ given. record { given = given; held = i.held; may = i.may.items; known = i.known; sent = i.sent } in
    let left = bytes-left a c.args.size c.args.page.page i.given c.self.told.0 (c.reaches.ensures c.if-reaches.false) in
    subst (λ (page : PageState). page ≡ changes a c.args.size c.args.page.page page) c.self.view_is (ap with_given (sym left))
