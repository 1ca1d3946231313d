use Rattle.std.proofs.Common.{ap, sym, ◌∙◌}
use Rattle.cc_model.specs.Acts.{Stores}
use Rattle.cc_content.proofs.DoneStands.{where_ok}
use Rattle.cc_content.proofs.contents.Contents.stored.Goals as goal

pub returns-clause-stands : goal.returns-clause-stands
returns-clause-stands c =
    let same = sym (c.copy_from_slice.ensures.after ∙ c.deref.ensures.value ∙ c.in_ok-listed.ensures) in
    where_ok c.put_page.result _ _
    (λ stands opening h pass call reply finds is size starts within.
    stands opening h pass call reply finds (is ∙ ap (Stores c.args.page) same) size starts within)
    c.put_page.ensures.stands
