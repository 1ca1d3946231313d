use Rattle.std.proofs.Common.{Result, Ok, Err, OnOk, sym, subst}
use Rattle.cc_content.specs.Contents.{ContentsStand}
use Rattle.cc_content.proofs.ContentSteps.{stands-came_in}
use Rattle.cc_content.proofs.contents.Contents.came_in.Goals as goal

where_ok : {T E : Type 0} (r : Result T E) (A B : Type 0) → (A → B) → OnOk r A → OnOk r B
where_ok (Ok x) A B goes a = goes a
where_ok (Err e) A B goes a = tt

pub returns-clause-stands : goal.returns-clause-stands
returns-clause-stands c =
    where_ok c.fill.result _ _ (λ fills opening h pass from_disk stands read. stands-came_in opening pass c.args.page from_disk h _ c.in-Some.pages c.fill.new.pages c.args.raw.now (subst (ContentsStand opening h) (sym c.self.view_is) stands) c.in-Some.is fills read) c.fill.ensures.fills
