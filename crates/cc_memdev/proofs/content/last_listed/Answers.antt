use Rattle.std.proofs.Common.{◌∙◌, sym}
use Rattle.cc_memdev.proofs.ContentLemmas.{last_content-taken, last_content-passed, last_content-end}
use Rattle.cc_memdev.proofs.content.last_listed.Goals as goal
use Rattle.cc_memdev.proofs.content.last_listed.Goals.{then-listed-page, else-listed-page}

pub loop-listed-preserved : goal.loop-listed-preserved
loop-listed-preserved c =
    let pages = c.args.pages.now in
    let i = c.loop-listed.listed-index in
    elim c.if-listed-page.branch [
      | then-listed-page w ↦ last_content-taken pages i c.args.page c.loop-listed.found c.if-listed-page.found c.loop-listed-test.true w.if-listed-page.true w.found-is ∙ c.loop-listed.invariant
      | else-listed-page w ↦ last_content-passed pages i c.args.page c.loop-listed.found c.if-listed-page.found c.loop-listed-test.true w.if-listed-page.false w.found-is ∙ c.loop-listed.invariant
    ]

pub returns : goal.returns
returns c =
    sym (last_content-end c.args.pages.now c.loop-listed.listed-index c.args.page c.loop-listed.found c.loop-listed-test.false) ∙ c.loop-listed.invariant
