use Rattle.std.specs.Prelude.{◌/◌}
use Rattle.std.proofs.Common.{rules}
use Rattle.std.proofs.lemmas.Fn.{filter_same}
use Rattle.cc_model.specs.History.{history}
use Rattle.cc_model.specs.Residency.{block_is_mapped}
use Rattle.cc_world.specs.declared.blocks.PagePlace.{PagePlace}
use Rattle.cc_world.proofs.blocks.Blocks.drop_unmapped.Goals as goal

pub returns : goal.returns
returns g c =
    filter_same _ (λ (place : PagePlace). block_is_mapped (history c.args.machine.now.journal.entries place.stream) (place.page / 64)) _ (λ x b f' k. search rules) _ _ c.retain.ensures.filtered
