use Rattle.std.proofs.Common.{sym, subst}
use Rattle.cc_content.specs.Contents.{ContentsStand}
use Rattle.cc_content.proofs.ContentSteps.{stands-went_out, stands-went_out_unmapped}
use Rattle.cc_content.proofs.contents.Contents.went_out.Goals as goal
use Rattle.cc_content.proofs.contents.Contents.went_out.Goals.{in-Some, in-None}

pub returns : goal.returns
returns c = λ opening h pass stands.
    let was = subst (ContentsStand opening h) (sym c.self.view_is) stands in
    elim c.match-self.branch [
      | in-Some w ↦
          let k = w.take_out.ensures in
          rw w.self-inside-is (stands-went_out opening pass c.args.page h _ w.in-Some.pages w.take_out.new.self was w.in-Some.is k.page k.others k.blocks k.quota k.size)
      | in-None w ↦ rw w.self-inside-is (stands-went_out_unmapped opening pass c.args.page h _ was w.in-None.is)
    ]
