use Rattle.cc_memdev.proofs.ContentLemmas.{disk_over-empty}
use Rattle.cc_memdev.proofs.content.Content.new.Goals as goal

pub returns : goal.returns
returns c =
    disk_over-empty c.args.fill c.args.opening.items c.new.result.entries c.new.ensures.empty
