-- A block that has such a page settles the answer; where none has, no page of the span is resident.
use Rattle.std.specs.Prelude.{◌≡◌, ℕ, ◌/◌, ◌==◌, Bool, true, false, List, [], ◌∷◌, ◌++◌}
use Rattle.std.proofs.Common.{ap, subst, sym, take, ◌∙◌}
use Rattle.std.proofs.lemmas.Bool.{eqb-true}
use Rattle.std.proofs.lemmas.List.{take_all, take_more}
use Rattle.cc_model.specs.History.{Effect, history}
use Rattle.cc_world.proofs.BlockRows.{NoneIn, none-at-all, none-first, none-with}
use Rattle.cc_world.specs.Residents.{IsInBlock}
use Rattle.cc_world.specs.declared.blocks.PagePlace.{PagePlace}
use Rattle.cc_world.proofs.residents.has_resident.Goals.{else-number-via-then-number+else-block_has_resident, else-number-via-else-number}
use Rattle.cc_world.proofs.residents.has_resident.Goals as goal

pub returns-then-block_has_resident : goal.returns-then-block_has_resident
returns-then-block_has_resident c opening past stands blocks =
    sym (subst (λ (b : Bool). IsInBlock (history past c.args.book.now.stream) c.args.span.now (c.place-item.result.page / 64) b) c.if-block_has_resident.true
    (c.block_has_resident.ensures opening past stands))

pub loop-place-preserved : goal.loop-place-preserved
loop-place-preserved c opening past stands =
    subst (λ (pages : List PagePlace). NoneIn (history past c.args.book.now.stream) c.args.book.now.stream c.args.span.now pages)
    (sym (take_more c.pages-place-items.result.now c.loop-place.place-index c.place-item.result c.loop-place-test.true
    ∙ ap (λ (p : PagePlace). take c.loop-place.place-index c.pages-place-items.result.now ++ p ∷ []) (sym c.place-item.is)))
    (none-with (history past c.args.book.now.stream) c.args.book.now.stream c.args.span.now (take c.loop-place.place-index c.pages-place-items.result.now) c.place-item.result its (c.loop-place.invariant opening past stands))
  where
    its : (c.place-item.result.stream == c.args.book.now.stream) ≡ true → IsInBlock (history past c.args.book.now.stream) c.args.span.now (c.place-item.result.page / 64) false
    its same = elim c.else-number.branch [
      | else-number-via-then-number+else-block_has_resident w ↦
          subst (λ (b : Bool). IsInBlock (history past c.args.book.now.stream) c.args.span.now (c.place-item.result.page / 64) b) w.if-block_has_resident.false
          (w.block_has_resident.ensures opening past stands)
      | else-number-via-else-number w ↦
          absurd (w.if-number.false (c.number.ensures.same ∙ (eqb-true c.place-item.result.stream c.args.book.now.stream same ∙ sym (c.number-in-loop-place.ensures.same ∙ c.stream.ensures))))
    ]

pub returns : goal.returns
returns c opening past stands blocks =
    sym (none-at-all past c.args.book.now.stream c.args.span.now c.args.blocks.now.pages.items blocks
    (subst (λ (pages : List PagePlace). NoneIn (history past c.args.book.now.stream) c.args.book.now.stream c.args.span.now pages)
    (take_all c.loop-place.place-index c.pages-place-items.result.now c.loop-place-test.false ∙ c.pages-place-items.ensures)
    (c.loop-place.invariant opening past stands)))
