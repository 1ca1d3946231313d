-- Reasons for a refusal that lie in open holds.
use Rattle.std.specs.Prelude.{ℕ, ◌+◌, Bool, true, ◌&&◌, ◌||◌, nat_lt, List, if◌then◌else◌}
use Rattle.std.specs.declared.option.Option.{Option}
use Rattle.std.specs.declared.option.Option.TheVariants.{Some, None}
use Rattle.std.specs.List.{find, list_any}
use Rattle.std.specs.Option.{option_map, option_and_then}
use Rattle.cc_entry.specs.Place.{Range}
use Rattle.cc_entry.specs.declared.call.Call.{Call}
use Rattle.cc_entry.specs.declared.call.Call.TheVariants as call
use Rattle.cc_entry.specs.declared.error.CcError.{CcError}
use Rattle.cc_entry.specs.declared.error.CcError.TheVariants as error
use Rattle.cc_entry.specs.Pages.{pages_of, share_page}
use Rattle.cc_model.specs.Numbers.{is_empty, without}
use Rattle.cc_model.specs.History.{Effect}
use Rattle.cc_model.specs.Objects.{objects}
use Rattle.cc_model.specs.Holds.{Hold, holds_of, hold_at, range_held, least_id}
use Rattle.cc_model.specs.Ranges.{span_has}
use Rattle.cc_entry.specs.Pages.{whole_range}
use Rattle.cc_model.specs.Stamps.{owes_stamp, owed_pages}
use Rattle.cc_entry.specs.Kinds.{is_pin}

abbrev pub held_by : Option ℕ → Option CcError
held_by id = option_map (λ n. error.Held n) id

-- whether the hold has a page of the span
abbrev pub has_page_of : Option Range → Hold → Bool
has_page_of span hold = list_any (span_has span) (pages_of (range_held hold))

-- An open hold that ends past the new size bars a set of sizes, any hold the last uninitialise, and one
-- with a page of the span a purge and a discard.
abbrev pub held : List Effect → Call → Option CcError
held h (call.SetSizes file allocation size) = held_by (least_id (λ hold. nat_lt size (hold.at + hold.len)) (holds_of h))
held h (call.Uninitialise file truncate) =
    held_by (if is_empty (without file.object (objects h)) then least_id (λ hold. true) (holds_of h) else None)
held h (call.Purge file span) = held_by (least_id (has_page_of span) (holds_of h))
held h (call.Discard file span) = held_by (least_id (has_page_of span) (holds_of h))
held h other = None

-- whether an open hold is a pin that shares a page with the range, where one of both is exclusive
abbrev pub bars_pin : Range → Bool → Hold → Bool
bars_pin r exclusive hold = is_pin hold.kind && ((exclusive || hold.exclusive) && share_page (range_held hold) r)

abbrev pub busy_by : Option ℕ → Option CcError
busy_by id = option_map (λ n. error.Busy n) id

-- the least pin that bars a pin of this range
abbrev pub pin_in_the_way : List Hold → Option Range → Bool → Option ℕ
pin_in_the_way holds None exclusive = None
pin_in_the_way holds (Some r) exclusive = least_id (bars_pin r exclusive) holds

-- the least pin that owes a stamp to the least such page of the span
abbrev pub pin_that_owes : List Hold → Option Range → Option ℕ
pin_that_owes holds span = option_and_then (λ p. least_id (owes_stamp p) holds) (find (span_has span) (owed_pages holds))

-- Another pin bars a pin, and a pin that owes a stamp bars the write of its page.
abbrev pub busy : List Hold → Call → Option CcError
busy holds (call.PinRead file at len exclusive) = busy_by (pin_in_the_way holds (Some (whole_range at len)) exclusive)
busy holds (call.PreparePin file at len zero exclusive) = busy_by (pin_in_the_way holds (Some (whole_range at len)) exclusive)
busy holds (call.PinMapped hold exclusive) = busy_by (pin_in_the_way holds (option_map range_held (hold_at holds hold)) exclusive)
busy holds (call.Flush file span) = busy_by (pin_that_owes holds span)
busy holds (call.NcStore file page bytes) = busy_by (least_id (owes_stamp page) holds)
busy holds (call.NcWrite file page) = busy_by (least_id (owes_stamp page) holds)
busy holds other = None
