use Rattle.std.proofs.Common.{sym, ◌∙◌}
use Rattle.cc_world.proofs.filing.filing_of.Goals as goal

pub returns-in-Some : goal.returns-in-Some
returns-in-Some g c past are = (c.in-Hold.ensures.2 past ∙ sym (c.in-Some.ensures.first past are), λ none. c.in-Some.ensures.within past are)
