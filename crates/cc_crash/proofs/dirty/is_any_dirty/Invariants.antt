use Rattle.std.proofs.Common.{◌≡◌, drop}
use Rattle.std.specs.List.{list_any}
use Rattle.cc_model.specs.Touches.{is_dirty}
use Rattle.cc_crash.specs.Effects.{effects}
use Rattle.cc_crash.proofs.dirty.is_any_dirty.Given as goal

-- whether a page is dirty is so of the whole as of what is left
abbrev pub invariant-loop-page : goal.invariant-loop-page
invariant-loop-page l =
    let h = effects l.journal l.stream in
    list_any (is_dirty h) l.pages ≡ list_any (is_dirty h) (drop l.page-index l.pages)
