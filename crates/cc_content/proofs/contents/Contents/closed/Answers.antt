-- By whether the size falls: the valid data length is cut with it or kept; with no map left the pages are gone.
use Rattle.std.proofs.Common.{ap, min, sym, subst, ◌∙◌}
use Rattle.cc_laws.proofs.SizeSteps.{sizes-closes_cut, sizes-closes_kept}
use Rattle.cc_content.specs.Following.{FindsOpen}
use Rattle.cc_content.proofs.DoneStands.{closed-kept}
use Rattle.cc_content.proofs.contents.Contents.closed.Goals as goal
use Rattle.cc_content.proofs.contents.Contents.closed.Goals.{in-Some, in-None}

pub returns-then-not-mapped : goal.returns-then-not-mapped
returns-then-not-mapped c = λ opening h pass call reply finds is.
    let gone = sym is ∙ c.if-not-mapped.true in
    elim c.match-truncation.branch [
      | in-Some w ↦
          let cut = finds.cut_is ∙ w.in-Some.is in
          rw (c.drop_pages.ensures, w.self-is)
          (record {
            valid_is =
                w.truncated.ensures.valid ∙ ap (λ v. min v w.in-Some.size) finds.stands.valid_is
                ∙ sym (ap (λ s. s.valid) (sizes-closes_cut pass call reply h finds.is cut));
            map_is = gone;
          })
      | in-None w ↦
          let uncut = finds.cut_is ∙ w.in-None.is in
          rw (c.drop_pages.ensures, w.self-is)
          (record {
            valid_is =
                finds.stands.valid_is ∙ sym (ap (λ s. s.valid) (sizes-closes_kept pass call reply h finds.is uncut));
            map_is = gone;
          })
    ]

pub returns-else-not-mapped : goal.returns-else-not-mapped
returns-else-not-mapped c = λ opening h pass call reply finds is.
    let mapped = sym is ∙ c.if-not-mapped.false in
    elim c.match-truncation.branch [
      | in-Some w ↦
          rw w.self-is
          (w.truncated.ensures.stands opening h pass call reply
          (subst (λ o. FindsOpen opening h call o c.args.self.now) w.in-Some.is finds) mapped)
      | in-None w ↦
          rw w.self-is
          (closed-kept opening h pass call reply c.args.self.now
          (subst (λ o. FindsOpen opening h call o c.args.self.now) w.in-None.is finds) mapped)
    ]
