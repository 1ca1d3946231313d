use Rattle.std.specs.Prelude.{◌≡◌, true, false}
use Rattle.std.proofs.Common.{sym, ◌∙◌}
use Rattle.cc_entry.specs.Pages.{block_of}
use Rattle.cc_model.specs.History.{history}
use Rattle.cc_model.specs.Residency.{block_is_mapped}
use Rattle.cc_world.proofs.MappedWith.{fits-mapped, fits-unmapped}
use Rattle.cc_world.proofs.pages.has_room.Goals as goal

pub returns-then-is_block_mapped : goal.returns-then-is_block_mapped
returns-then-is_block_mapped c opening past stands =
    let h = history past c.args.book.now.stream in
    let is : block_is_mapped h (block_of c.args.page) ≡ true = sym (c.is_block_mapped.ensures opening past stands) ∙ c.if-is_block_mapped.true in
    rw (c.mapped.ensures opening past stands, c.from-quota.ensures, c.quota.ensures opening past stands) (fits-mapped h c.args.page is)

pub returns-else-is_block_mapped : goal.returns-else-is_block_mapped
returns-else-is_block_mapped c opening past stands =
    let h = history past c.args.book.now.stream in
    let is : block_is_mapped h (block_of c.args.page) ≡ false = sym (c.is_block_mapped.ensures opening past stands) ∙ c.if-is_block_mapped.false in
    rw (c.mapped-else-is_block_mapped.ensures opening past stands, c.from-quota.ensures, c.quota.ensures opening past stands) (fits-unmapped h c.args.page is)
