use Rattle.std.proofs.Common.{ap, sym, ◌∙◌}
use Rattle.cc_content.proofs.Kept.{pages_stand, no_map, bytes-are}
use Rattle.cc_content.proofs.Orders.{is_resident-unmapped}
use Rattle.cc_content.specs.Contents.{Contents}
use Rattle.cc_content.proofs.contents.Contents.get.Goals as goal

pub returns-in-Some-clause-bytes : goal.returns-in-Some-clause-bytes
returns-in-Some-clause-bytes c =
    λ opening h stands. bytes-are (λ x. x.now) c.get.result opening h c.in-Some.pages c.args.page (pages_stand opening h c.args.self.now c.in-Some.pages stands (sym (ap (λ (s : Contents). s.pages) c.self.view_is) ∙ c.in-Some.is)) c.get.ensures.page

pub returns-in-None-clause-resident : goal.returns-in-None-clause-resident
returns-in-None-clause-resident c =
    λ opening h stands. sym (is_resident-unmapped h c.args.page (no_map opening h c.args.self.now stands (sym (ap (λ (s : Contents). s.pages) c.self.view_is) ∙ c.in-None.is)))
