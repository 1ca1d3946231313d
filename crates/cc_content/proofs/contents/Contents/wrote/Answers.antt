use Rattle.std.proofs.Common.{length, ap, sym, subst, ◌∙◌}
use Rattle.cc_entry.specs.Pages.{whole_range}
use Rattle.cc_model.specs.Acts.{Writes}
use Rattle.cc_content.specs.Done.{UsesBlocks, used_if}
use Rattle.cc_content.proofs.contents.Contents.wrote.Goals as goal

pub returns-clause-stands : goal.returns-clause-stands
returns-clause-stands c = λ opening h pass call reply finds is uses starts.
    let at = c.args.at in
    let same = sym (c.deref.ensures.value ∙ c.in_ok-bytes.ensures) in
    c.put.ensures opening h pass call reply finds (is ∙ ap (Writes at) same)
    (subst (λ bytes. UsesBlocks h pass call reply (used_if c.args.uses (whole_range at (length bytes)))) same uses)
    starts
