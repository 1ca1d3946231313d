-- An end changes no byte and no size: with the map the pages stand as they are, without it none is resident.
use Rattle.std.proofs.Common.{◌∷◌, sym, ◌∙◌}
use Rattle.cc_model.specs.History.{Ended}
use Rattle.cc_content.proofs.ContentSteps.{leaves-ended, stands-left, stands-gone, mapped-before}
use Rattle.cc_content.proofs.contents.Contents.ended.Goals as goal

pub returns-then-not-mapped-clause-ended : goal.returns-then-not-mapped-clause-ended
returns-then-not-mapped-clause-ended c = λ opening h pass page how stands is.
    rw c.drop_pages.ensures (stands-gone opening h (Ended pass page how ∷ h) c.args.self.now (leaves-ended pass page how h) (sym is ∙ c.if-not-mapped.true) stands)

pub returns-then-not-mapped-clause-left : goal.returns-then-not-mapped-clause-left
returns-then-not-mapped-clause-left c = λ opening h later stands left is.
    rw c.drop_pages.ensures (stands-gone opening h later c.args.self.now left (sym is ∙ c.if-not-mapped.true) stands)

pub returns-else-not-mapped-clause-ended : goal.returns-else-not-mapped-clause-ended
returns-else-not-mapped-clause-ended c = λ opening h pass page how stands is.
    let left = leaves-ended pass page how h in
    stands-left opening h (Ended pass page how ∷ h) c.args.self.now left (mapped-before h (Ended pass page how ∷ h) left (sym is ∙ c.if-not-mapped.false)) stands

pub returns-else-not-mapped-clause-left : goal.returns-else-not-mapped-clause-left
returns-else-not-mapped-clause-left c = λ opening h later stands left is.
    stands-left opening h later c.args.self.now left (mapped-before h later left (sym is ∙ c.if-not-mapped.false)) stands
