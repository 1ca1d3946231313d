use Rattle.std.proofs.Common.{◌≡◌, ◌∙◌, sym, rules}
use Rattle.cc_holds.specs.Holds.{row_range}
use Rattle.cc_holds.specs.Overlap.{ends_share_page}
use Rattle.cc_holds.proofs.Overlap.{share_page-ends, ends_share_page-bytes}
use Rattle.cc_holds.proofs.ranges.overlaps.Goals as goal

pub returns-clause-value : goal.returns-clause-value
returns-clause-value c =
    let ends : c.share_page.result ≡ ends_share_page (row_range c.args.row.now) c.args.span = search rules in
    ends ∙ sym (share_page-ends (row_range c.args.row.now) c.args.span)

pub returns-clause-bytes : goal.returns-clause-bytes
returns-clause-bytes c = ends_share_page-bytes (row_range c.args.row.now) c.args.span c.share_page.result (search rules)
