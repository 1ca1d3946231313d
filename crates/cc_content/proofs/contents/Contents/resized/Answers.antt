-- The valid data length is cut to the new size; the pages follow the cut, where there is a map.
use Rattle.std.proofs.Common.{ap, min, sym, subst, ◌∙◌}
use Rattle.cc_laws.proofs.SizeSteps.{sizes-resizes}
use Rattle.cc_content.specs.Following.{Finds}
use Rattle.cc_content.proofs.DoneStands.{found, found-mapped, done-mapped, done-unmapped}
use Rattle.cc_content.proofs.contents.Contents.resized.Goals as goal
use Rattle.cc_content.proofs.contents.Contents.resized.Goals.{in-Some+in_ok-resized-in-Some, in-None}

pub returns-clause-stands : goal.returns-clause-stands
returns-clause-stands c = λ opening h pass call reply allocation finds is.
    let was = subst (Finds opening h pass call reply) (sym c.self.view_is) finds in
    let valid =
    ap (λ v. min v c.args.size) was.stands.valid_is
    ∙ sym (ap (λ s. s.valid) (sizes-resizes pass call reply h is)) in
    elim c.match-self.branch [
      | in-Some+in_ok-resized-in-Some w ↦
          let there = w.in-Some.is in
          let stood = found opening h pass call reply _ was w.in-Some.pages there in
          let mapped = found-mapped opening h pass call reply _ was w.in-Some.pages there in
          rw (c.lower.ensures, w.self-inside-is)
          (done-mapped opening h pass call reply _ was w.resized.new.pages _ valid
          (w.in_ok-resized-in-Some.ensures.stands opening h pass call reply allocation stood is mapped))
      | in-None w ↦
          rw (c.lower.ensures, w.self-inside-is, w.in-None.is)
          (done-unmapped opening h pass call reply _ was _ w.in-None.is valid)
    ]
