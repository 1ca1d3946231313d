use Rattle.std.proofs.Common.{ℕ, List, [], ◌∷◌, ◌++◌, Some, ap, ◌∙◌}
use Rattle.cc_crash.specs.DiskPages.{PageState, begins}
use Rattle.cc_crash.proofs.disk_page.DiskPage.begins.Goals as goal

pub returns : goal.returns
returns c =
    let i = c.self.inside in
    let sent_so : List (List ℕ) → List ℕ → PageState = λ may bytes. record { given = i.given; held = i.held; may = may; known = i.known; sent = Some bytes } in
    ap (λ (may : List (List ℕ)). sent_so may c.shown-bytes.result) c.in_ok-push.ensures.items
    ∙ (ap (λ (bytes : List ℕ). sent_so (i.may.items ++ bytes ∷ []) bytes) c.shown-bytes.ensures ∙ ap (begins c.args.valid c.args.page.page) c.self.view_is)
