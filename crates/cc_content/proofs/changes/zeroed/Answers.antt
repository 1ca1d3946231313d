use Rattle.std.proofs.Common.{Some}
use Rattle.cc_entry.specs.Place.{Range}
use Rattle.cc_content.proofs.ChangesStand.{stands-zeroed, Changed-then}
use Rattle.cc_content.proofs.changes.zeroed.Goals as goal

pub returns : goal.returns
returns c = λ opening h pass call reply was is uses starts mapped.
    let m = c.args.pages.now in
    let r : Range = record { from = c.args.from; to = c.args.to } in
    let changed =
    Changed-then m c.zero.new.self c.use_range.new.self r (λ _. 0)
    (Some r) c.zero.ensures.bytes c.zero.ensures.blocks c.zero.ensures.quota c.zero.ensures.size
    (record { pages = c.use_range.ensures.pages; quota = c.use_range.ensures.quota; size = c.use_range.ensures.size }) c.use_range.ensures.blocks c.use_range.ensures.shared in
    stands-zeroed opening h pass call reply m c.use_range.new.self c.args.from c.args.to
    (Some r) changed was c.requires.mapped is uses starts mapped
