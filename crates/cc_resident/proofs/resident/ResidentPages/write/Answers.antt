use Rattle.std.proofs.Common.{◌+◌, ◌/◌, length, ◌∙◌, arith}
use Rattle.cc_resident.proofs.Bytes.{resident_in}
use Rattle.cc_resident.proofs.Shares.{owned_in}
use Rattle.cc_resident.proofs.resident.ResidentPages.write.Goals as goal

pub write_in_page-requires-clause-resident : goal.write_in_page-requires-clause-resident
write_in_page-requires-clause-resident c =
    let i = c.args.at + c.loop-done.done in
    c.loop-done.invariant.covers.pages (i / 4096) ∙ resident_in c.args.self.now c.args.at (length c.args.bytes.now) i c.requires.resident (omega arith) (omega arith)

pub write_in_page-requires-clause-owned : goal.write_in_page-requires-clause-owned
write_in_page-requires-clause-owned c =
    let i = c.args.at + c.loop-done.done in
    c.loop-done.invariant.covers.shared (i / 4096) ∙ owned_in c.args.self.now c.args.at (length c.args.bytes.now) i c.requires.owned (omega arith) (omega arith)
