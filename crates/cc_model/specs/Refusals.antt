-- Refusals: which calls may not be done, and the order in which the reasons count.
use Rattle.std.specs.Prelude.{◌≡◌, List, [], ◌∷◌}
use Rattle.std.specs.declared.option.Option.{Option}
use Rattle.std.specs.declared.option.Option.TheVariants.{Some, None}
use Rattle.cc_entry.specs.declared.call.Call.{Call}
use Rattle.cc_entry.specs.declared.error.CcError.{CcError}
use Rattle.cc_entry.specs.declared.entry.Entry.{Entry}
use Rattle.cc_model.specs.Setup.{Setup}
use Rattle.cc_model.specs.History.{Effect}
use Rattle.cc_model.specs.Acts.{file_of}
use Rattle.cc_model.specs.Holds.{holds_of}
use Rattle.cc_model.specs.Touches.{size_of, valid_of}
use Rattle.cc_model.specs.Ranges.{range_of}
use Rattle.cc_model.specs.Reasons.{not_cached, cached_file, too_long, view_boundary, bad_sizes, bad_granularity, no_log, beyond_size, beyond_valid}
use Rattle.cc_model.specs.Conflicts.{held, busy}
use Rattle.cc_model.specs.Views.{viewed, no_views, no_vacbs, not_resident}
use Rattle.cc_model.specs.Discards.{unsettled, grown}

-- the first refusal of a list
abbrev pub first_of : List (Option CcError) → Option CcError
first_of [] = None
first_of (None ∷ rest) = first_of rest
first_of (Some e ∷ rest) = Some e

-- those in the arguments of a call, and in the sizes, maps and logs that it meets
abbrev pub argument_reasons : Setup → List Effect → Call → List (Option CcError)
argument_reasons u h call =
    not_cached h (cached_file call (file_of call))
    ∷ too_long call
    ∷ view_boundary call
    ∷ bad_sizes h call
    ∷ bad_granularity call
    ∷ no_log u call
    ∷ beyond_size (size_of h) call
    ∷ beyond_valid (valid_of h) call
    ∷ []

-- The refusal of a call, given the stream that it names, where there is one: the first reason that
-- holds. Want of room in the journal, of memory, and faults are no reasons of this list.
unfoldable pub refusal : Setup → List Entry → List Effect → Call → Option CcError
refusal u past h call =
    first_of
    (not_cached h (cached_file call (file_of call))
    ∷ too_long call
    ∷ view_boundary call
    ∷ bad_sizes h call
    ∷ bad_granularity call
    ∷ no_log u call
    ∷ beyond_size (size_of h) call
    ∷ beyond_valid (valid_of h) call
    ∷ held h call
    ∷ busy (holds_of h) call
    ∷ no_views h (viewed h call (range_of (size_of h) call))
    ∷ no_vacbs past h call
    ∷ not_resident h call
    ∷ unsettled h call
    ∷ grown h call
    ∷ [])

-- The same of a call with page steps, which names no log and makes no map: the other reasons are all that it can have, and lie
-- in its stream.
unfoldable pub step_refusal : List Effect → Call → Option CcError
step_refusal h call =
    first_of
    (not_cached h (cached_file call (file_of call))
    ∷ too_long call
    ∷ view_boundary call
    ∷ bad_sizes h call
    ∷ bad_granularity call
    ∷ beyond_size (size_of h) call
    ∷ beyond_valid (valid_of h) call
    ∷ held h call
    ∷ busy (holds_of h) call
    ∷ no_views h (viewed h call (range_of (size_of h) call))
    ∷ not_resident h call
    ∷ unsettled h call
    ∷ grown h call
    ∷ [])

-- nothing refuses a call: each reason by its name
pub record IsUnrefused (u : Setup) (past : List Entry) (h : List Effect) (call : Call) : Type 0 where
  pub cached : not_cached h (cached_file call (file_of call)) ≡ None
  pub within_limit : too_long call ≡ None
  pub in_one_block : view_boundary call ≡ None
  pub sizes_in_order : bad_sizes h call ≡ None
  pub is_granularity : bad_granularity call ≡ None
  pub log_exists : no_log u call ≡ None
  pub within_size : beyond_size (size_of h) call ≡ None
  pub within_valid : beyond_valid (valid_of h) call ≡ None
  pub not_held : held h call ≡ None
  pub not_busy : busy (holds_of h) call ≡ None
  pub within_quota : no_views h (viewed h call (range_of (size_of h) call)) ≡ None
  pub within_pool : no_vacbs past h call ≡ None
  pub is_resident : not_resident h call ≡ None
  pub images_known : unsettled h call ≡ None
  pub none_grown : grown h call ≡ None
