-- A discard keeps the valid data length and takes pages out; without a map there is none to take.
use Rattle.std.proofs.Common.{ap, sym, subst, ◌∙◌}
use Rattle.cc_laws.proofs.SizeSteps.{sizes-discards}
use Rattle.cc_content.specs.Following.{Finds}
use Rattle.cc_content.proofs.DoneStands.{found, found-mapped, done-mapped, done-unmapped}
use Rattle.cc_content.proofs.contents.Contents.dropped.Goals as goal
use Rattle.cc_content.proofs.contents.Contents.dropped.Goals.{in-Some, in-None}

pub returns : goal.returns
returns c = λ opening h pass call reply finds is.
    let was = subst (Finds opening h pass call reply) (sym c.self.view_is) finds in
    let valid = was.stands.valid_is ∙ sym (ap (λ s. s.valid) (sizes-discards pass call reply h is)) in
    elim c.match-self.branch [
      | in-Some w ↦
          let there = w.in-Some.is in
          let stood = found opening h pass call reply _ was w.in-Some.pages there in
          let mapped = found-mapped opening h pass call reply _ was w.in-Some.pages there in
          rw w.self-inside-is
          (done-mapped opening h pass call reply _ was w.dropped.new.pages _ valid
          (w.dropped.ensures opening h pass call reply stood is mapped))
      | in-None w ↦
          rw (w.self-inside-is, w.in-None.is)
          (done-unmapped opening h pass call reply _ was _ w.in-None.is valid)
    ]
