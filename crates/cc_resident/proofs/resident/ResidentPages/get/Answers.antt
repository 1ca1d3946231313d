use Rattle.std.proofs.Common.{ap, sym, ◌∙◌, is_some, true≢false}
use Rattle.cc_resident.proofs.Frames.{frame_in, frame_is, some_map}
use Rattle.cc_resident.proofs.Kept.{page_from}
use Rattle.cc_resident.proofs.resident.ResidentPages.get.Goals as goal

pub returns-in-Some : goal.returns-in-Some
returns-in-Some c =
    let m = c.self.inside.views in
    let page = c.get.ensures ∙ sym (page_from m c.args.page _ (frame_is m c.args.page ∙ ap (frame_in c.args.page) (sym c.in-Some.ensures.frames))) in
    rw (← c.self.view_is) (record { page = page; starts = λ h. c.self.invariant.below c.args.page (sym (ap is_some page) ∙ some_map (λ x. x.now) c.get.result ∙ h) })

pub returns-in-None : goal.returns-in-None
returns-in-None c =
    let m = c.self.inside.views in
    rw (← c.self.view_is) (record { page = sym (page_from m c.args.page _ (frame_is m c.args.page ∙ ap (frame_in c.args.page) (sym c.in-None.ensures.frames))); starts = λ h. absurd (true≢false (sym h)) })
