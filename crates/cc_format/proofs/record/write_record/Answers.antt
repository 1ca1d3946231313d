use Rattle.cc_format.proofs.Heads.{spelled_whole}
use Rattle.cc_format.proofs.record.write_record.Goals as goal

pub returns : goal.returns
returns c = spelled_whole c.args.value c.head_of.result c.copy_from_slice.new.self c.fill.new.self c.args.out.now c.requires.in_range c.head_of.ensures
    c.copy_from_slice.ensures.after (c.fill.ensures.after (λ y same. same)) c.told-out
