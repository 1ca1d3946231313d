-- The valid data length is cut to the new size, the pages too; the map stays open, so there are pages.
use Rattle.std.proofs.Common.{Some, ap, min, sym, subst, ◌∙◌, true≢false}
use Rattle.cc_laws.proofs.SizeSteps.{sizes-closes_cut}
use Rattle.cc_content.specs.Following.{FindsOpen}
use Rattle.cc_content.proofs.Kept.{pages_stand, no_map}
use Rattle.cc_content.proofs.contents.Contents.truncated.Goals as goal
use Rattle.cc_content.proofs.contents.Contents.truncated.Goals.{in-Some, in-None}

pub returns-clause-stands : goal.returns-clause-stands
returns-clause-stands c = λ opening h pass call reply finds mapped.
    let was = subst (FindsOpen opening h call (Some c.args.size)) (sym c.self.view_is) finds in
    let valid =
    ap (λ v. min v c.args.size) was.stands.valid_is
    ∙ sym (ap (λ s. s.valid) (sizes-closes_cut pass call reply h was.is was.cut_is)) in
    elim c.match-self.branch [
      | in-Some w ↦
          let stood = pages_stand opening h _ w.in-Some.pages was.stands w.in-Some.is in
          rw (c.lower.ensures, w.self-inside-is)
          (record {
            valid_is = valid;
            map_is =
                w.truncated.ensures opening h pass call reply was.file was.truncate stood was.is was.cut_is mapped;
          })
      | in-None w ↦ absurd (true≢false (sym was.was_mapped ∙ no_map opening h _ was.stands w.in-None.is))
    ]
