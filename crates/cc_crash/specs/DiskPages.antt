-- What entries say of a page, and how that goes with each of them.
use Rattle.std.specs.Prelude.{◌≡◌, ℕ, ◌+◌, ◌*◌, ◌<◌, ◌≤◌, Bool, true, false, ◌==◌, ◌&&◌, nat_lt, List, [], ◌∷◌, ◌++◌, map, slice_index, if◌then◌else◌}
use Rattle.std.specs.declared.option.Option.{Option}
use Rattle.std.specs.declared.option.Option.TheVariants.{Some, None}
use Rattle.std.specs.List.{range_with_len}
use Rattle.std.specs.Option.{option_map, unwrap_or}
use Rattle.cc_crash.specs.declared.steps.Step.{Step}
use Rattle.cc_crash.specs.declared.steps.Step.TheVariants as step
use Rattle.cc_entry.specs.declared.call.Call.{Call}
use Rattle.cc_entry.specs.Pages.{has_byte}
use Rattle.cc_entry.specs.Place.{Range}
use Rattle.cc_events.specs.declared.event.StreamEvent.{StreamEvent}
use Rattle.cc_events.specs.declared.event.StreamEvent.TheVariants as event
use Rattle.cc_model.specs.Acts.{Act}
use Rattle.cc_model.specs.Bytes.{content, on_disk, page_bytes}
use Rattle.cc_model.specs.History.{Effect, Did, Began, Ended, Synced}
use Rattle.cc_model.specs.Images.{begun, image, settled, crash_pages}
use Rattle.cc_model.specs.Ranges.{span_has}
use Rattle.cc_model.specs.Sizes.{ended_ok}
use Rattle.cc_crash.specs.Changes.{change_by}

-- Of a page: what the last change or discard gave each byte, or the opening byte; each byte as its last transfer that ended ok
-- began, or the opening byte; the contents that a crash may leave; what the disk holds for sure, where that is known; and the page
-- as its last transfer began, where there was one.
pub record PageState : Type 0 where
  pub given : List ℕ
  pub held : List ℕ
  pub may : List (List ℕ)
  pub known : Option (List ℕ)
  pub sent : Option (List ℕ)

-- the 4096 bytes of a page, each told by its place in the stream
abbrev pub bytes_by : (ℕ → ℕ) → ℕ → List ℕ
bytes_by byte p = map byte (range_with_len (4096 * p) 4096)

-- what a history of the page's stream says
abbrev pub page_state_of_history : (ℕ → List ℕ) → List Effect → ℕ → PageState
page_state_of_history pages h p = record {
  given = bytes_by (content pages h) p;
  held = bytes_by (on_disk pages false h) p;
  may = crash_pages pages h p;
  known = image pages h p;
  sent = option_map (λ front. page_bytes pages front p) (begun h p);
}

-- before any entry
abbrev pub at_first : List ℕ → PageState
at_first opening = record { given = opening; held = opening; may = opening ∷ []; known = Some opening; sent = None }

-- the bytes of the page after an act that is no discard, given the size before it
abbrev pub changed_bytes : Act → ℕ → ℕ → List ℕ → List ℕ
changed_bytes a size p bytes =
    map (λ k. unwrap_or (change_by a size (4096 * p + k)) (slice_index bytes k)) (range_with_len 0 4096)

-- a range has no byte of the page
abbrev pub IsApartFromPage : Range → ℕ → Type 0
IsApartFromPage range p = (i : ℕ) → 4096 * p ≤ i → i < 4096 * p + 4096 → has_byte range i ≡ false

-- an act changes no byte of the page, whatever the size before it
abbrev pub LeavesPage : Act → ℕ → Type 0
LeavesPage a p = (size i : ℕ) → 4096 * p ≤ i → i < 4096 * p + 4096 → change_by a size i ≡ None

-- the bytes of the page as the plain file has them: zero from the valid data length on
abbrev pub shown_bytes : ℕ → ℕ → List ℕ → List ℕ
shown_bytes valid p bytes =
    map (λ k. if nat_lt (4096 * p + k) valid then slice_index bytes k else 0) (range_with_len 0 4096)

abbrev pub changes : Act → ℕ → ℕ → PageState → PageState
changes a size p page = record {
  given = changed_bytes a size p page.given;
  held = page.held;
  may = page.may;
  known = page.known;
  sent = page.sent;
}

-- the page is discarded
abbrev pub discards : PageState → PageState
discards page = record { given = page.held; held = page.held; may = page.may; known = page.known; sent = page.sent }

-- a call was done that does this, given the size before it and whether the page was dirty
abbrev pub called : StreamEvent → Act → ℕ → ℕ → Bool → PageState → PageState
called (event.Discards span) a size p dirty page = if span_has span p && dirty then discards page else page
called other a size p dirty page = changes a size p page

-- a transfer begins, given the valid data length
abbrev pub begins : ℕ → ℕ → PageState → PageState
begins valid p page = record {
  given = page.given;
  held = page.held;
  may = page.may ++ shown_bytes valid p page.given ∷ [];
  known = page.known;
  sent = Some (shown_bytes valid p page.given);
}

-- a transfer ends, ok or not, of a page that was sent so, where one began
abbrev pub ended_with : Bool → Option (List ℕ) → PageState → PageState
ended_with ok None page = page
ended_with true (Some bytes) page = record { given = page.given; held = bytes; may = page.may; known = Some bytes; sent = page.sent }
ended_with false (Some bytes) page = record { given = page.given; held = page.held; may = page.may; known = None; sent = page.sent }

abbrev pub ends : Bool → PageState → PageState
ends ok page = ended_with ok page.sent page

-- the disk was synced
abbrev pub syncs : PageState → PageState
syncs page = record {
  given = page.given;
  held = page.held;
  may = settled true page.known page.may;
  known = page.known;
  sent = page.sent;
}

-- the call that an effect says was done
abbrev pub call_of : Option Effect → Option Call
call_of (Some (Did pass call reply)) = Some call
call_of other = None

-- what an effect on the page's stream is to the page beside, where there is one
abbrev pub step_of : Option Effect → ℕ → Step
step_of (Some (Began pass page)) p = if page == p then step.Begins else step.Rests
step_of (Some (Ended pass page how)) p = if page == p then step.Ends (ended_ok how) else step.Rests
step_of (Some (Synced pass how)) p = if ended_ok how then step.Syncs else step.Rests
step_of other p = step.Rests
