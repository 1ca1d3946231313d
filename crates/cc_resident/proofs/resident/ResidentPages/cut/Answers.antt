use Rattle.std.proofs.Common.{◌+◌, ◌*◌, ◌/◌, ◌%◌}
use Rattle.cc_resident.specs.Changes.{is_number_between}
use Rattle.cc_resident.proofs.Cuts.{Cuts-zeroed, blocks-zeroed}
use Rattle.cc_resident.proofs.Shares.{owned_after_cut}
use Rattle.cc_resident.proofs.resident.ResidentPages.cut.Goals as goal

pub zero_part-requires-clause-owned : goal.zero_part-requires-clause-owned
zero_part-requires-clause-owned c = owned_after_cut c.args.self.now c.cut_pages.new.self c.args.size c.requires.owned c.in_ok-cut_pages.ensures.pages

pub returns-clause-pages : goal.returns-clause-pages
returns-clause-pages c = Cuts-zeroed c.args.self.now c.cut_pages.new.self c.zero_part.new.self c.args.size c.in_ok-cut_pages.ensures.pages c.zero_part.ensures.bytes

pub returns-clause-blocks : goal.returns-clause-blocks
returns-clause-blocks c =
    let start = 4096 * (c.args.size / 4096) in
    blocks-zeroed c.args.self.now c.cut_pages.new.self c.zero_part.new.self (is_number_between (start + c.args.size % 4096) (start + 4096)) c.in_ok-cut_pages.ensures.blocks c.zero_part.ensures.bytes c.zero_part.ensures.blocks
