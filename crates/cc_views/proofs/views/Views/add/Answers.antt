use Rattle.std.proofs.Common.{◌≡◌, [], ◌∷◌, ◌++◌, None, nat_eq, ap, ◌∙◌}
use Rattle.std.specs.Map.{lookup}
use Rattle.indexmap.proofs.CallerLemmas.{insert_entry-new}
use Rattle.cc_views.proofs.views.Views.add.Goals as goal

pub returns-clause-last : goal.returns-clause-last
returns-clause-last c =
    let m = c.reserve.new.self in
    let same : m.entries ≡ c.args.self.now.views = c.reserve.ensures.entries ∙ ap (λ x. x.views) c.self.view_is in
    let none : lookup (nat_eq c.args.block) m.entries ≡ None = ap (lookup (nat_eq c.args.block)) same ∙ c.requires.unmapped in
    let entries = rw c.unwrap-old.ensures at c.insert.ensures.entries in
    record {
      frames = c.in-Ok.frames;
      empty = rw c.in-Ok.is at c.new.ensures.empty;
      last = entries ∙ insert_entry-new nat_eq m c.args.block c.in-Ok.frames none ∙ ap (λ l. l ++ (c.args.block, c.in-Ok.frames) ∷ []) same;
    }
