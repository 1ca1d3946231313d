-- The pages of the span are cleared, and empty blocks dropped behind; the frames of the others stay.
use Rattle.std.proofs.Common.{None, inl, inr, ◌∙◌, arith}
use Rattle.cc_resident.proofs.Kept.{page_from, page_alike}
use Rattle.cc_resident.specs.Changes.{is_number_between}
use Rattle.cc_resident.proofs.Spans.{between, not_between}
use Rattle.cc_resident.proofs.Cuts.{Empties, AreResidents-emptied, blocks-emptied}
use Rattle.cc_resident.proofs.resident.ResidentPages.drop_span.Goals as goal

empties : (c : goal.After-drop_empty) → Empties c.self.inside.views c.clear_span.new.views c.drop_empty.new.views
empties c = record { same = c.clear_span.ensures.blocks; keeps = c.drop_empty.ensures.pages; order = c.drop_empty.ensures.blocks }

pub invariant_of-self : goal.invariant_of-self
invariant_of-self c = AreResidents-emptied c.self.inside.views c.clear_span.new.views c.drop_empty.new.views (is_number_between c.args.from_page c.args.to_page) c.self.invariant c.clear_span.ensures.pages (empties c)

pub returns-clause-gone : goal.returns-clause-gone
returns-clause-gone c = λ p a b. page_from c.drop_empty.new.views p None (c.drop_empty.ensures.pages.frames p ∙ c.clear_span.ensures.pages.gone p (between c.args.from_page c.args.to_page p a b))

pub returns-clause-others : goal.returns-clause-others
returns-clause-others c =
    rw (← c.self.view_is) (λ p h. page_alike c.self.inside.views c.drop_empty.new.views p (c.drop_empty.ensures.pages.frames p ∙ c.clear_span.ensures.pages.kept p (not_between c.args.from_page c.args.to_page p (λ a b. elim h [ inl k ↦ omega arith | inr k ↦ omega arith ]))))

pub returns-clause-blocks : goal.returns-clause-blocks
returns-clause-blocks c = rw (← c.self.view_is) (blocks-emptied c.self.inside.views c.clear_span.new.views c.drop_empty.new.views (empties c))
