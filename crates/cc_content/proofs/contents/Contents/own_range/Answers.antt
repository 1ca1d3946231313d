use Rattle.std.proofs.Common.{refl}
use Rattle.cc_content.proofs.OwnedStand.{SameContents-pages, SameContents-refl}
use Rattle.cc_content.proofs.contents.Contents.own_range.Goals as goal
use Rattle.cc_content.proofs.contents.Contents.own_range.Goals.{in-Some, in-None}

pub returns-clause-same : goal.returns-clause-same
returns-clause-same c =
    rw (← c.self.view_is) (elim c.match-self.branch [
      | in-Some w ↦
          rw w.self-inside-is
          (SameContents-pages _ _ w.in-Some.pages w.own_range.new.self w.in-Some.is refl w.own_range.ensures.bytes)
      | in-None w ↦ rw w.self-inside-is (SameContents-refl _)
    ])
