-- A look keeps the valid data length, and uses blocks of the pages; a stream with a use has a map.
use Rattle.std.proofs.Common.{sym, subst, ◌∙◌}
use Rattle.cc_content.specs.Following.{Finds}
use Rattle.cc_content.proofs.DoneStands.{found, found-mapped, done-mapped, done-unmapped, valid-looks}
use Rattle.cc_content.proofs.contents.Contents.looked.Goals as goal
use Rattle.cc_content.proofs.contents.Contents.looked.Goals.{in-Some, in-None}

pub returns : goal.returns
returns c = λ opening h pass call reply finds is uses.
    let was = subst (Finds opening h pass call reply) (sym c.self.view_is) finds in
    let valid = was.stands.valid_is ∙ sym (valid-looks h pass call reply is) in
    elim c.match-self.branch [
      | in-Some w ↦
          let there = w.in-Some.is in
          let stood = found opening h pass call reply _ was w.in-Some.pages there in
          let mapped = found-mapped opening h pass call reply _ was w.in-Some.pages there in
          rw w.self-inside-is
          (done-mapped opening h pass call reply _ was w.looked.new.pages _ valid
          (w.looked.ensures opening h pass call reply stood is uses mapped))
      | in-None w ↦
          rw (w.self-inside-is, w.in-None.is)
          (done-unmapped opening h pass call reply _ was _ w.in-None.is valid)
    ]
