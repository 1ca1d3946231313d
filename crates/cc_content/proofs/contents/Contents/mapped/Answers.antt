use Rattle.std.proofs.Common.{length, ap, sym, ◌∙◌}
use Rattle.cc_content.proofs.Kept.{pages_stand, no_map, count-mapped}
use Rattle.cc_content.proofs.Orders.{order_of_use-unmapped, mapped_blocks-unmapped}
use Rattle.cc_content.specs.Contents.{Contents}
use Rattle.cc_content.proofs.contents.Contents.mapped.Goals as goal

pub returns-in-Some-clause-count : goal.returns-in-Some-clause-count
returns-in-Some-clause-count c =
    λ opening h stands. c.mapped.ensures.count ∙ count-mapped opening h c.in-Some.pages (pages_stand opening h c.args.self.now c.in-Some.pages stands (sym (ap (λ (s : Contents). s.pages) c.self.view_is) ∙ c.in-Some.is)) c.mapped.ensures.sound.distinct c.mapped.ensures.blocks_have_pages

pub returns-in-None-clause-order : goal.returns-in-None-clause-order
returns-in-None-clause-order c =
    λ opening h stands. sym (ap length (order_of_use-unmapped h (no_map opening h c.args.self.now stands (sym (ap (λ (s : Contents). s.pages) c.self.view_is) ∙ c.in-None.is))))

pub returns-in-None-clause-count : goal.returns-in-None-clause-count
returns-in-None-clause-count c =
    λ opening h stands. sym (mapped_blocks-unmapped h (no_map opening h c.args.self.now stands (sym (ap (λ (s : Contents). s.pages) c.self.view_is) ∙ c.in-None.is)))
