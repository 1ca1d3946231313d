-- The valid data length rises to the end of the range; the pages stand with its zeros.
use Rattle.std.proofs.Common.{ap, max, sym, subst, ◌∙◌}
use Rattle.cc_laws.proofs.SizeSteps.{sizes-zeroes}
use Rattle.cc_content.specs.Following.{Finds}
use Rattle.cc_content.proofs.DoneStands.{found, found-mapped, done-mapped, done-unmapped}
use Rattle.cc_content.proofs.contents.Contents.zeroed.Goals as goal
use Rattle.cc_content.proofs.contents.Contents.zeroed.Goals.{in-Some, in-None}

pub returns : goal.returns
returns c = λ opening h pass call reply finds is uses starts.
    let was = subst (Finds opening h pass call reply) (sym c.self.view_is) finds in
    let valid =
    ap (λ v. max v c.args.to) was.stands.valid_is
    ∙ sym (ap (λ s. s.valid) (sizes-zeroes pass call reply h is)) in
    elim c.match-self.branch [
      | in-Some w ↦
          let there = w.in-Some.is in
          let stood = found opening h pass call reply _ was w.in-Some.pages there in
          let mapped = found-mapped opening h pass call reply _ was w.in-Some.pages there in
          rw (c.raise.ensures, w.self-inside-is)
          (done-mapped opening h pass call reply _ was w.zeroed.new.pages _ valid
          (w.zeroed.ensures opening h pass call reply stood is uses starts mapped))
      | in-None w ↦
          rw (c.raise.ensures, w.self-inside-is, w.in-None.is)
          (done-unmapped opening h pass call reply _ was _ w.in-None.is valid)
    ]
