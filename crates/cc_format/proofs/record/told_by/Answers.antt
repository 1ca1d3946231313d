use Rattle.std.proofs.Common.{ap, Some, arith}
use Rattle.cc_format.proofs.Numbers.{told_first, told_second, told_neither}
use Rattle.cc_format.proofs.record.told_by.Goals as goal

pub returns-in-1 : goal.returns-in-1
returns-in-1 c = λ told spells. ap Some (told_first c.args.page.now told c.read_u32-version.result c.read_u64-size.result c.read_u32-version.ensures c.read_u64-size.ensures c.in-1.is spells)

pub returns-in-2 : goal.returns-in-2
returns-in-2 c = λ told spells. ap Some (told_second c.args.page.now told c.read_u32-version.result c.read_u64-size.result c.read_u64-valid.result c.read_u32-version.ensures c.read_u64-size.ensures c.read_u64-valid.ensures c.in-2.is spells)

pub returns-in_default : goal.returns-in_default
returns-in_default c = λ told spells. let d = c.in_default in absurd (told_neither c.args.page.now told c.read_u32-version.result c.read_u32-version.ensures (λ one. omega (arith, d)) (λ two. omega (arith, d)) spells)
