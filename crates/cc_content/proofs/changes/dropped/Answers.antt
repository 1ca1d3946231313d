use Rattle.std.proofs.Common.{arith}
use Rattle.cc_content.proofs.CutsStand.{stands-dropped}
use Rattle.cc_content.proofs.changes.dropped.Goals as goal

pub returns : goal.returns
returns c = λ opening h pass call reply was is mapped.
    let pages = c.pages_of-from.result in
    stands-dropped opening h pass call reply c.args.pages.now c.drop_span.new.self pages.0 pages.1 is mapped was
    (λ p kept. c.pages_of-from.ensures p (omega (arith, c.size.ensures, c.mapped-mapped.ensures.starts p kept)))
    c.drop_span.ensures.gone c.drop_span.ensures.others c.drop_span.ensures.blocks c.drop_span.ensures.quota c.drop_span.ensures.size
