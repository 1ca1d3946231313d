-- What an event does to the unwritten touches of a page.
use Rattle.std.specs.Prelude.{ℕ, suc, ◌*◌, ◌==◌, ◌&&◌, nat_le, Bool, true, List, [], ◌∷◌, length, if◌then◌else◌}
use Rattle.std.specs.declared.option.Option.{Option}
use Rattle.std.specs.declared.option.Option.TheVariants.{Some, None}
use Rattle.cc_events.specs.declared.event.StreamEvent.{StreamEvent}
use Rattle.cc_events.specs.declared.event.StreamEvent.TheVariants as event
use Rattle.cc_events.specs.declared.touching.Touching.{Touching}
use Rattle.cc_events.specs.declared.touching.Touching.TheVariants as touching
use Rattle.cc_entry.specs.Pages.{has_page}
use Rattle.cc_model.specs.History.{Effect}
use Rattle.cc_model.specs.Objects.{objects}
use Rattle.cc_model.specs.Holds.{holds_of, hold_at}
use Rattle.cc_model.specs.Ranges.{span_has}
use Rattle.cc_model.specs.Sizes.{Touch, stored_range, hold_has}
use Rattle.cc_model.specs.Touches.{touches, size_of}
use Rattle.cc_events.specs.Events.{truncation_by}

-- what a size step does to a page, where there is one
abbrev pub cut_by : Option ℕ → ℕ → Touching
cut_by None p = touching.Rests
cut_by (Some to) p = if nat_le to (4096 * p) then touching.Cuts else touching.Rests

-- what a touch with this LSN does to a page, where it has the page
abbrev pub touch_if : Bool → Option ℕ → Touching
touch_if has lsn = if has then touching.Touches lsn else touching.Rests

-- what an event does to the touches of a page that are unwritten, given the stream before it
abbrev pub touching_of : StreamEvent → List Effect → ℕ → Touching
touching_of (event.Closes object truncate) h p =
    cut_by (truncation_by object truncate (objects h) (size_of h)) p
touching_of (event.Resizes size) h p = cut_by (Some size) p
touching_of (event.Changes from to) h p = touch_if (has_page (record { from = from; to = to }) p) None
touching_of (event.Stores page) h p = touch_if (has_page (stored_range page (size_of h)) p) None
touching_of (event.Stamps hold lsn) h p = touch_if (hold_has (hold_at (holds_of h) hold) p) lsn
touching_of (event.Discards span) h p = if span_has span p then touching.Cuts else touching.Rests
touching_of (event.Began page) h p = if page == p then touching.Begins else touching.Rests
touching_of (event.Ended page ok) h p = if page == p && ok then touching.Ends else touching.Rests
touching_of other h p = touching.Rests

-- the unwritten touches after that
abbrev pub touches_after : Touching → Bool → List Effect → ℕ → List Touch
touches_after touching.Rests ended h p = touches ended h p
touches_after (touching.Touches lsn) ended h p = record { place = suc (length h); lsn = lsn } ∷ touches ended h p
touches_after touching.Cuts ended h p = []
touches_after touching.Begins ended h p = if ended then [] else touches ended h p
touches_after touching.Ends ended h p = touches true h p
