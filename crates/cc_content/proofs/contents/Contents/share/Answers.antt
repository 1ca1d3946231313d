-- By whether there is a map: the snapshot is there exactly for a resident page, with its bytes, and nothing changed.
use Rattle.std.proofs.Common.{refl, sym}
use Rattle.cc_content.proofs.Kept.{no_map}
use Rattle.cc_content.proofs.Orders.{is_resident-unmapped}
use Rattle.cc_content.proofs.OwnedStand.{SameContents-pages, SameContents-refl, snapshot-resident, snapshot-bytes}
use Rattle.cc_content.proofs.contents.Contents.share.Goals as goal
use Rattle.cc_content.proofs.contents.Contents.share.Goals.{in-Some, in-None}

pub returns-clause-resident : goal.returns-clause-resident
returns-clause-resident c =
    rw (← c.self.view_is) (elim c.match-self.branch [
      | in-Some w ↦ rw w.result-is (snapshot-resident _ w.in-Some.pages c.args.page w.in-Some.is w.share.result w.share.ensures.snapshot)
      | in-None w ↦ rw w.result-is (λ opening h stands. sym (is_resident-unmapped h c.args.page (no_map opening h _ stands w.in-None.is)))
    ])

pub returns-clause-bytes : goal.returns-clause-bytes
returns-clause-bytes c =
    rw (← c.self.view_is) (elim c.match-self.branch [
      | in-Some w ↦ rw w.result-is (snapshot-bytes _ w.in-Some.pages c.args.page w.in-Some.is w.share.result w.share.ensures.snapshot)
      | in-None w ↦ rw w.result-is (λ opening h stands. tt)
    ])

pub returns-clause-same : goal.returns-clause-same
returns-clause-same c =
    rw (← c.self.view_is) (elim c.match-self.branch [
      | in-Some w ↦
          rw w.self-inside-is
          (SameContents-pages _ _ w.in-Some.pages w.share.new.self w.in-Some.is refl w.share.ensures.bytes)
      | in-None w ↦ rw w.self-inside-is (SameContents-refl _)
    ])
