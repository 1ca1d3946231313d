use Rattle.std.proofs.Common.{◌≡◌, drop}
use Rattle.std.specs.List.{list_any}
use Rattle.cc_model.specs.Ranges.{span_has}
use Rattle.cc_world.proofs.syncs.has_page_of.Given as goal

-- whether one page is of the span is so of the whole as of what is left
abbrev pub invariant-loop-page : goal.invariant-loop-page
invariant-loop-page l = list_any (span_has l.span) l.pages ≡ list_any (span_has l.span) (drop l.page-index l.pages)
