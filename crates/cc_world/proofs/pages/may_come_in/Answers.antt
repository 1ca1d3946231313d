-- Without a map, resident, or starting at the size or past it, a page may not come in; any other may where its view
-- block has room.
use Rattle.std.specs.Prelude.{◌≡◌, ℕ, ◌*◌, ◌<◌, true, false}
use Rattle.std.proofs.Common.{ap, sym, ◌∙◌}
use Rattle.cc_model.specs.History.{history}
use Rattle.cc_model.specs.Residency.{is_resident, mapped_blocks_with}
use Rattle.cc_model.specs.Settings.{quota_of}
use Rattle.cc_model.specs.Touches.{is_mapped, size_of}
use Rattle.std.specs.Prelude.{nat_le}
use Rattle.cc_world.proofs.Tests.{clash, past-size, below-size, comes-in}
use Rattle.cc_world.proofs.pages.may_come_in.Goals as goal

pub returns-then-not-has_map : goal.returns-then-not-has_map
returns-then-not-has_map c opening past stands none may =
    clash (sym may.mapped ∙ (sym (c.has_map.ensures opening past stands) ∙ c.if-not-has_map.true))

pub returns-then-is_some : goal.returns-then-is_some
returns-then-is_some c opening past stands none may =
    let h = history past c.args.book.now.stream in
    let here : is_resident h c.args.page.page ≡ true =
    ap (λ (p : ℕ). is_resident h p) (sym c.page.ensures.same) ∙ (sym (c.page-2.ensures.resident opening past stands) ∙ (sym c.is_some.ensures ∙ c.if-is_some.true)) in
    clash (sym here ∙ may.absent)

pub returns-then-size-page : goal.returns-then-size-page
returns-then-size-page c opening past stands none may =
    past-size c.size.result (size_of (history past c.args.book.now.stream)) c.args.page.page c.page-3.result (c.size.ensures opening past stands) c.page-3.ensures.same c.if-size-page.true may.below_size

pub returns : goal.returns
returns c opening past stands none =
    let h = history past c.args.book.now.stream in
    let mapped : is_mapped h ≡ true = sym (c.has_map.ensures opening past stands) ∙ c.if-not-has_map.false in
    let absent : is_resident h c.args.page.page ≡ false =
    ap (λ (p : ℕ). is_resident h p) (sym c.page.ensures.same) ∙ (sym (c.page-2.ensures.resident opening past stands) ∙ (sym c.is_some.ensures ∙ c.if-is_some.false)) in
    let below : 4096 * c.args.page.page < size_of h =
    below-size c.size.result (size_of h) c.args.page.page c.page-3.result (c.size.ensures opening past stands) c.page-3.ensures.same c.if-size-page.false in
    comes-in h c.args.page.page c.has_room.result mapped absent below none
    (c.has_room.ensures opening past stands ∙ ap (λ (p : ℕ). nat_le (mapped_blocks_with h p) (quota_of h)) c.page-4.ensures.same)
