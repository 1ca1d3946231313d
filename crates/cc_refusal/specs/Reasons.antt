-- The reasons for a refusal in four parts, in their order.
use Rattle.std.specs.Prelude.{List, [], ◌∷◌}
use Rattle.std.specs.declared.option.Option.{Option}
use Rattle.cc_entry.specs.declared.call.Call.{Call}
use Rattle.cc_entry.specs.declared.error.CcError.{CcError}
use Rattle.cc_entry.specs.declared.entry.Entry.{Entry}
use Rattle.cc_model.specs.History.{Effect}
use Rattle.cc_model.specs.Holds.{holds_of}
use Rattle.cc_model.specs.Touches.{size_of}
use Rattle.cc_model.specs.Ranges.{range_of}
use Rattle.cc_model.specs.Conflicts.{held, busy}
use Rattle.cc_model.specs.Views.{viewed, no_views, no_vacbs, not_resident}
use Rattle.cc_model.specs.Discards.{unsettled, grown}

-- those in open holds
abbrev pub hold_reasons : List Effect → Call → List (Option CcError)
hold_reasons h call = held h call ∷ busy (holds_of h) call ∷ []

-- those in view blocks, the pool of views and resident pages
abbrev pub view_reasons : List Entry → List Effect → Call → List (Option CcError)
view_reasons past h call =
    no_views h (viewed h call (range_of (size_of h) call)) ∷ no_vacbs past h call ∷ not_resident h call ∷ []

-- those in what the disk holds of dirty pages
abbrev pub disk_reasons : List Effect → Call → List (Option CcError)
disk_reasons h call = unsettled h call ∷ grown h call ∷ []
