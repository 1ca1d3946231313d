use Rattle.std.proofs.Common.{◌≡◌, ℕ, get_or, remove, Option, Some, OnSome, ◌∙◌, ap, sym, subst, arith, if◌then◌else◌}
use Rattle.cc_images.specs.Changes.{regrown, without_page}
use Rattle.cc_images.proofs.GrownPlaces.{regrown-at, removed-at}
use Rattle.cc_images.proofs.grown.write_at.Goals as goal

pub returns-then-grew_past-clause-bytes : goal.returns-then-grew_past-clause-bytes
returns-then-grew_past-clause-bytes c =
    c.regrow.ensures.bytes
    ∙ (regrown-at c.args.bytes.now.items c.args.page c.args.low c.args.place c.requires.in_order c.requires.place
    ∙ ap (λ b. if b then regrown c.args.bytes.now.items c.args.page c.args.low else without_page c.args.bytes.now.items c.args.page)
    (sym c.if-grew_past.true ∙ c.grew_past.ensures))

pub returns-else-grew_past-clause-bytes : goal.returns-else-grew_past-clause-bytes
returns-else-grew_past-clause-bytes c =
    let there : c.remove.result ≡ Some (get_or c.args.bytes.now.items c.args.place 0) =
    c.remove.ensures.succeeds 0 (omega (arith, c.args.bytes.now.ok.0, c.requires.place.0)) in
    subst (λ (o : Option ℕ). OnSome o (c.remove.new.self.items ≡ remove c.args.bytes.now.items c.args.place)) there c.remove.ensures.items
    ∙ (removed-at c.args.bytes.now.items c.args.page c.args.place c.requires.in_order c.requires.place
    ∙ ap (λ b. if b then regrown c.args.bytes.now.items c.args.page c.args.low else without_page c.args.bytes.now.items c.args.page)
    (sym c.if-grew_past.false ∙ c.grew_past.ensures))
