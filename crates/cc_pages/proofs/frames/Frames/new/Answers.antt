use Rattle.std.proofs.Common.{◌<◌, None, arith, rules}
use Rattle.cc_pages.proofs.Slots.{page_at-empty}
use Rattle.cc_pages.proofs.frames.Frames.new.Goals as goal

pub returns : goal.returns
returns c = record { empty = rw c.in-Ok.ensures.ok (page_at-empty c.from_fn-slots.result (λ i h. let below : i < 64 = omega (arith, c.from_fn-slots.ensures.items.long) in let k = c.from_fn-slots.ensures.items.at i None below in search rules)) }
