-- The page is resident and owned, so its bytes are written over in place; bytes outside the range stay.
use Rattle.std.proofs.Common.{ap, ◌∙◌}
use Rattle.cc_resident.specs.Residents.{is_resident, is_shared}
use Rattle.cc_resident.proofs.Frames.{owned_where}
use Rattle.cc_resident.proofs.Bytes.{Over, Over-from, Covers-over, AreResidents-over}
use Rattle.cc_resident.proofs.resident.ResidentPages.write_in_page.Goals as goal

over : (c : goal.After-overwrite) → Over c.self.inside.views c.overwrite.new.views c.args.page c.args.at c.args.bytes.now
over c = Over-from c.self.inside.views c.overwrite.new.views c.args.page c.args.at c.args.bytes.now (ap (λ m. is_resident m c.args.page) c.self.view_is ∙ c.requires.resident) (ap (λ m. is_shared m c.args.page) c.self.view_is ∙ c.requires.owned) (c.self.invariant.frames c.args.page) c.requires.fits c.overwrite.ensures.page

pub overwrite-requires-clause-owned : goal.overwrite-requires-clause-owned
overwrite-requires-clause-owned c = owned_where c.self.inside.views c.args.page (ap (λ m. is_shared m c.args.page) c.self.view_is ∙ c.requires.owned) (ap (λ m. is_resident m c.args.page) c.self.view_is ∙ c.requires.resident)

pub invariant_of-self : goal.invariant_of-self
invariant_of-self c = AreResidents-over c.self.inside.views c.overwrite.new.views c.args.page c.args.at c.args.bytes.now (over c) c.self.invariant c.overwrite.ensures.blocks

pub returns-clause-bytes : goal.returns-clause-bytes
returns-clause-bytes c = rw (← c.self.view_is) (Covers-over c.self.inside.views c.overwrite.new.views c.args.page c.args.at c.args.bytes.now (over c))

pub returns-clause-quota : goal.returns-clause-quota
returns-clause-quota c = (over c).puts.quota ∙ ap (λ m. m.quota) c.self.view_is

pub returns-clause-size : goal.returns-clause-size
returns-clause-size c = (over c).puts.size ∙ ap (λ m. m.size) c.self.view_is
