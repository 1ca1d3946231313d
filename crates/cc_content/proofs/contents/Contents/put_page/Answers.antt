-- There is a map, since the page has room; the valid data length rises to the end of the stored page within the size.
use Rattle.std.proofs.Common.{ap, max, sym, subst, ◌∙◌}
use Rattle.cc_laws.proofs.SizeSteps.{sizes-stores}
use Rattle.cc_model.specs.Sizes.{stored_range}
use Rattle.cc_model.specs.Touches.{valid_of}
use Rattle.cc_content.specs.Following.{Finds}
use Rattle.cc_content.proofs.DoneStands.{found, found-mapped, done-mapped}
use Rattle.cc_content.proofs.contents.Contents.put_page.Goals as goal

pub returns-clause-stands : goal.returns-clause-stands
returns-clause-stands c = λ opening h pass call reply finds is size starts within.
    let was = subst (Finds opening h pass call reply) (sym c.self.view_is) finds in
    let there = c.in-Some.is in
    let stood = found opening h pass call reply _ was c.in-Some.pages there in
    let mapped = found-mapped opening h pass call reply _ was c.in-Some.pages there in
    let valid =
    ap (λ v. max v (stored_range c.args.page c.args.size).to) was.stands.valid_is
    ∙ ap (λ n. max (valid_of h) (stored_range c.args.page n).to) size
    ∙ sym (ap (λ s. s.valid) (sizes-stores pass call reply h is)) in
    rw (c.raise.ensures, c.stored_end.ensures)
    (done-mapped opening h pass call reply _ was c.stored.new.pages _ valid
    (c.in_ok-stored-in-Some.ensures.stands opening h pass call reply stood is starts within mapped))
