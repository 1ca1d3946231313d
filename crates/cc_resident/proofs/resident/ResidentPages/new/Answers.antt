use Rattle.std.proofs.Common.{ap, subst, sym, ◌∙◌, None, is_some, true≢false}
use Rattle.std.specs.Map.{keys_of}
use Rattle.std.specs.List.{list_all}
use Rattle.cc_resident.specs.Residents.{IsFrame, has_pages}
use Rattle.cc_resident.proofs.Kept.{no_frames, page_from}
use Rattle.cc_resident.proofs.resident.ResidentPages.new.Goals as goal

pub invariant_of-result : goal.invariant_of-result
invariant_of-result c =
    let m = c.in_ok-views.views in
    let none = ap keys_of c.in_ok-views.ensures.empty in
    record { frames = λ p. subst IsFrame (sym (no_frames m none p)) tt; below = λ p h. absurd (true≢false (sym h ∙ ap is_some (page_from m p None (no_frames m none p)))); blocks_have_pages = ap (list_all (has_pages m)) none }

pub returns-clause-empty : goal.returns-clause-empty
returns-clause-empty c = λ p. page_from c.in_ok-views.views p None (no_frames c.in_ok-views.views (ap keys_of c.in_ok-views.ensures.empty) p)
