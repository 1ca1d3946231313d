use Rattle.std.proofs.Common.{◌∙◌, ap}
use Rattle.cc_format.specs.Spelling.{spelling}
use Rattle.cc_format.proofs.Heads.{first_head, second_head}
use Rattle.cc_format.proofs.record.head_of.Goals as goal

pub returns-in-V1 : goal.returns-in-V1
returns-in-V1 c =
    ap spelling c.in-V1.is
    ∙ first_head c.copy_from_slice.new.self c.write_u32.new.buf c.write_u64.new.buf c.in-V1.size
    c.copy_from_slice.ensures.after c.write_u32.ensures c.write_u64.ensures

pub returns-in-V2 : goal.returns-in-V2
returns-in-V2 c =
    ap spelling c.in-V2.is
    ∙ second_head c.copy_from_slice.new.self c.write_u32-in-V2.new.buf c.write_u64-in-V2.new.buf c.write_u64-in-V2-2.new.buf c.in-V2.size c.in-V2.valid
    c.copy_from_slice.ensures.after c.write_u32-in-V2.ensures c.write_u64-in-V2.ensures c.write_u64-in-V2-2.ensures
