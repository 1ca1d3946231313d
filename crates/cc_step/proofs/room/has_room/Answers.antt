use Rattle.std.specs.Prelude.{◌≡◌, refl, true, false}
use Rattle.std.proofs.Common.{sym, ◌∙◌}
use Rattle.cc_entry.specs.Pages.{block_of}
use Rattle.cc_model.specs.History.{history}
use Rattle.cc_model.specs.Residency.{block_is_mapped}
use Rattle.cc_step.proofs.room.has_room.Goals as goal

pub returns-then-is_block_mapped : goal.returns-then-is_block_mapped
returns-then-is_block_mapped c opening past stands =
    let h = history past c.args.book.now.stream in
    let mapped : block_is_mapped h (block_of c.args.page) ≡ true = sym (c.is_block_mapped.ensures opening past stands) ∙ c.if-is_block_mapped.true in
    rw (mapped, c.if-is_block_mapped.true) refl

pub returns-else-is_block_mapped : goal.returns-else-is_block_mapped
returns-else-is_block_mapped c opening past stands =
    let h = history past c.args.book.now.stream in
    let unmapped : block_is_mapped h (block_of c.args.page) ≡ false = sym (c.is_block_mapped.ensures opening past stands) ∙ c.if-is_block_mapped.false in
    rw (unmapped, c.from.ensures, c.mapped.ensures opening past stands, c.quota.ensures opening past stands) refl
