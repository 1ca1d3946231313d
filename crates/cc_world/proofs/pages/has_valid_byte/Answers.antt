use Rattle.std.specs.Prelude.{refl}
use Rattle.cc_world.proofs.pages.has_valid_byte.Goals as goal

pub returns : goal.returns
returns c opening past stands = rw (c.page.ensures.same, c.valid.ensures opening past stands) refl
