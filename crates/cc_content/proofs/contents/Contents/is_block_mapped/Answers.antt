use Rattle.std.proofs.Common.{ap, sym, ◌∙◌}
use Rattle.cc_content.proofs.Kept.{pages_stand, no_map, has_pages-mapped}
use Rattle.cc_content.proofs.Orders.{block_is_mapped-unmapped}
use Rattle.cc_content.specs.Contents.{Contents}
use Rattle.cc_content.proofs.contents.Contents.is_block_mapped.Goals as goal

pub returns-in-Some : goal.returns-in-Some
returns-in-Some c =
    λ opening h stands. c.is_mapped.ensures.has_pages ∙ has_pages-mapped c.in-Some.pages h (pages_stand opening h c.args.self.now c.in-Some.pages stands (sym (ap (λ (s : Contents). s.pages) c.self.view_is) ∙ c.in-Some.is)).resident c.args.block

pub returns-in-None : goal.returns-in-None
returns-in-None c =
    λ opening h stands. sym (block_is_mapped-unmapped h c.args.block (no_map opening h c.args.self.now stands (sym (ap (λ (s : Contents). s.pages) c.self.view_is) ∙ c.in-None.is)))
