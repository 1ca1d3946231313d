use Rattle.cc_pieces.specs.Shim.{descriptor_path}
use Rattle.cc_shim.proofs.PartReads.{whole-read}
use Rattle.cc_shim.proofs.parts.read_parts.Goals as goal

pub returns-in-Chain : goal.returns-in-Chain
returns-in-Chain g c =
    let w = g.T.Turns.standing c.args.turns.now in
    let v = g.T.Turns.standing c.read_chain.new.turns in
    record { ends = rw c.in-Chain.is (whole-read w v (descriptor_path c.args.file) c.args.span c.read_chain.result c.args.out.now c.read_chain.new.out c.requires.some c.read_chain.ensures.ends) }
