use Rattle.std.proofs.Common.{ap, sym, ◌∙◌}
use Rattle.cc_content.proofs.Kept.{no_map, first_absent-unmapped}
use Rattle.cc_content.specs.Contents.{Contents}
use Rattle.cc_content.proofs.contents.Contents.first_absent.Goals as goal

pub returns-in-None : goal.returns-in-None
returns-in-None c =
    λ opening h stands. c.then_some.ensures ∙ sym (first_absent-unmapped h c.args.from c.args.to (no_map opening h c.args.self.now stands (sym (ap (λ (s : Contents). s.pages) c.self.view_is) ∙ c.in-None.is)))
