-- Reasons for a refusal that lie in view blocks, the pool of views and resident pages.
use Rattle.std.specs.Prelude.{ℕ, ◌-◌, true, false, not, ◌&&◌, nat_eq, nat_lt, List, ◌++◌, if◌then◌else◌}
use Rattle.std.specs.declared.option.Option.{Option}
use Rattle.std.specs.declared.option.Option.TheVariants.{Some, None}
use Rattle.std.specs.List.{find}
use Rattle.std.specs.Option.{option_map, option_and_then}
use Rattle.std.specs.Set.{distinct_count}
use Rattle.cc_entry.specs.Place.{Range}
use Rattle.cc_entry.specs.declared.call.Call.{Call}
use Rattle.cc_entry.specs.declared.call.Call.TheVariants as call
use Rattle.cc_entry.specs.declared.error.CcError.{CcError}
use Rattle.cc_entry.specs.declared.error.CcError.TheVariants as error
use Rattle.cc_entry.specs.declared.entry.Entry.{Entry}
use Rattle.cc_entry.specs.Pages.{pages_of, blocks_of}
use Rattle.cc_model.specs.History.{Effect}
use Rattle.cc_model.specs.Holds.{Hold, holds_of, held_blocks}
use Rattle.cc_model.specs.Touches.{size_of, is_mapped}
use Rattle.cc_model.specs.Settings.{quota_of}
use Rattle.cc_model.specs.Ranges.{range_of}
use Rattle.cc_model.specs.Residency.{is_resident, all_resident}
use Rattle.cc_model.specs.Cache.{views_taken}
use Rattle.cc_model.specs.Reasons.{refuse_if}

-- the distinct blocks in which open holds have bytes
abbrev pub active_blocks : List Hold → ℕ
active_blocks holds = distinct_count nat_eq (held_blocks holds)

-- the distinct blocks of open holds and of a range
abbrev pub needed_blocks : List Hold → Range → ℕ
needed_blocks holds r = distinct_count nat_eq (held_blocks holds ++ blocks_of r)

-- the range whose blocks have to be mapped beside those of open holds, given the range of the call
abbrev pub viewed : List Effect → Call → Option Range → Option Range
viewed h (call.AheadStep request) r = None
viewed h (call.NcRead file page) r = None
viewed h (call.CopyRead file at len false) None = None
viewed h (call.CopyRead file at len false) (Some r) = if all_resident h r then None else Some r
viewed h other r = r

abbrev pub no_views : List Effect → Option Range → Option CcError
no_views h None = None
no_views h (Some r) =
    refuse_if (nat_lt (quota_of h) (needed_blocks (holds_of h) r)) (error.NoViews (active_blocks (holds_of h)) (quota_of h))

-- the pool of 256 views has fewer left than an initialise that makes the map asks
abbrev pub no_vacbs : List Entry → List Effect → Call → Option CcError
no_vacbs past h (call.Initialise file sizes quota temporary) =
    refuse_if (not (is_mapped h) && nat_lt (256 - views_taken past) quota) (error.NoVacbs (256 - views_taken past))
no_vacbs past h other = None

-- the least page that a read which may not wait needs and that is not resident
abbrev pub not_resident : List Effect → Call → Option CcError
not_resident h (call.CopyRead file at len false) =
    option_and_then
    (λ r. option_map (λ p. error.NotResident p) (find (λ p. not (is_resident h p)) (pages_of r)))
    (range_of (size_of h) (call.CopyRead file at len false))
not_resident h (call.CopyRead file at len true) = None
not_resident h other = None
