-- Tests of holds that are kept, and the least page to which they owe a stamp.
use Rattle.std.specs.Prelude.{ℕ, Bool, nat_lt, fold, if◌then◌else◌}
use Rattle.std.specs.declared.option.Option.{Option}
use Rattle.cc_entry.specs.Place.{Range}
use Rattle.cc_entry.specs.Kinds.{is_pin}
use Rattle.cc_entry.specs.Pages.{has_page}
use Rattle.cc_model.specs.Holds.{lesser}
use Rattle.cc_model.specs.Ranges.{span_has}
use Rattle.cc_holds.specs.Holds.{row_range}
use Rattle.cc_holds.specs.declared.holds.KeptHold.{KeptHold}

-- whether a hold has the page
abbrev pub keeps_page : ℕ → KeptHold → Bool
keeps_page page kept = has_page (row_range kept.row) page

-- whether a hold has a byte
abbrev pub has_bytes : KeptHold → Bool
has_bytes kept = nat_lt 0 kept.row.len

-- the lesser of a page, where there is one, and of another, where that is of the span
abbrev pub with_least : Option Range → Option ℕ → ℕ → Option ℕ
with_least span least page = if span_has span page then lesser page least else least

-- the same of the pages to which a hold owes a stamp
abbrev pub with_owed : Option Range → Option ℕ → KeptHold → Option ℕ
with_owed span least kept =
    if is_pin kept.row.kind then fold (with_least span) least kept.touched else least
