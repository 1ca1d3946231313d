use Rattle.std.proofs.Common.{rules}
use Rattle.std.proofs.lemmas.Map.Made.{map_same_pairs}
use Rattle.cc_memdev.specs.Content.{settled_page}
use Rattle.cc_memdev.proofs.ContentLemmas.{Settled-mapped}
use Rattle.cc_memdev.proofs.content.Content.settle.Goals as goal

pub returns : goal.returns
returns c =
    let i = c.self.inside in
    let mapped = map_same_pairs _ settled_page _ (λ k v b w f' t. search rules) _ _ c.retain.ensures.filtered in
    rw (← c.self.view_is) (Settled-mapped i.fill i.opening.items i.written.entries c.retain.new.self.entries c.self.invariant c.retain.ensures.ordered mapped)
