use Rattle.cc_content.proofs.CutsStand.{stands-truncated}
use Rattle.cc_content.proofs.changes.truncated.Goals as goal

pub returns : goal.returns
returns c = λ opening h pass call reply file truncate was is cut mapped.
    stands-truncated opening h pass call reply c.args.pages.now c.cut.new.self c.args.size
    (record { cuts = c.in-Ok.ensures.pages; blocks = c.in-Ok.ensures.blocks; quota = c.in-Ok.ensures.quota; sized = c.in-Ok.ensures.size }) was is cut mapped
