-- The pages past the new size are cleared first, so the view index shrinks and cannot fail.
use Rattle.std.proofs.Common.{◌≡◌}
use Rattle.std.specs.List.{filter}
use Rattle.cc_resident.specs.Residents.{blocks, has_pages, AreResidents}
use Rattle.cc_resident.specs.Changes.{CutsPages}
use Rattle.cc_resident.proofs.Cuts.{Shrinks-from, shrunk_starts, shrunk}
use Rattle.cc_resident.proofs.resident.ResidentPages.shrink.Goals as goal

pub resize-requires : goal.resize-requires
resize-requires c =
    let w = Shrinks-from c.self.inside.views c.clear_span.new.views c.drop_empty.new.views c.args.size c.div_ceil.result c.div_ceil-end.result c.size.result c.self.invariant c.div_ceil.ensures c.div_ceil-end.ensures c.size.ensures c.clear_span.ensures.pages c.clear_span.ensures.blocks c.drop_empty.ensures.pages c.drop_empty.ensures.blocks in
    shrunk_starts c.self.inside.views c.clear_span.new.views c.drop_empty.new.views c.args.size w

all : (c : goal.In-Ok) → AreResidents c.resize.new.self × CutsPages c.self.inside.views c.resize.new.self c.args.size × (blocks c.resize.new.self ≡ filter (has_pages c.resize.new.self) (blocks c.self.inside.views))
all c =
    let w = Shrinks-from c.self.inside.views c.clear_span.new.views c.drop_empty.new.views c.args.size c.div_ceil.result c.div_ceil-end.result c.size.result c.self.invariant c.div_ceil.ensures c.div_ceil-end.ensures c.size.ensures c.clear_span.ensures.pages c.clear_span.ensures.blocks c.drop_empty.ensures.pages c.drop_empty.ensures.blocks in
    shrunk c.self.inside.views c.clear_span.new.views c.drop_empty.new.views c.args.size w c.resize.new.self c.in-Ok.ensures.ok

pub invariant_of-self : goal.invariant_of-self
invariant_of-self c = (all c).0

pub returns-clause-pages : goal.returns-clause-pages
returns-clause-pages c = rw (← c.self.view_is) (all c).1

pub returns-clause-blocks : goal.returns-clause-blocks
returns-clause-blocks c = rw (← c.self.view_is) (all c).2
