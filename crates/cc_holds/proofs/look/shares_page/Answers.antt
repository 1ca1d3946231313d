use Rattle.std.proofs.Common.{◌≡◌, ◌∙◌, sym, rules}
use Rattle.cc_holds.specs.Holds.{row_range}
use Rattle.cc_holds.specs.Overlap.{ends_share_page}
use Rattle.cc_holds.proofs.Overlap.{share_page-ends}
use Rattle.cc_holds.proofs.look.shares_page.Goals as goal

pub returns : goal.returns
returns c =
    let ends : c.ends_share_page.result ≡ ends_share_page (row_range c.args.row.now) (record { from = c.args.from; to = c.args.to }) = search rules in
    ends ∙ sym (share_page-ends (row_range c.args.row.now) (record { from = c.args.from; to = c.args.to }))
