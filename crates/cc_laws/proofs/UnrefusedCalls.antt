-- Nothing refuses a call exactly where none of the reasons holds.
use Rattle.std.specs.Prelude.{◌≡◌, ◌↔◌, Bool, true, false, List, ◌∷◌, refl}
use Rattle.std.specs.declared.option.Option.{Option}
use Rattle.std.specs.declared.option.Option.TheVariants.{Some, None}
use Rattle.cc_entry.specs.declared.call.Call.{Call}
use Rattle.cc_entry.specs.declared.error.CcError.{CcError}
use Rattle.cc_entry.specs.declared.entry.Entry.{Entry}
use Rattle.cc_model.specs.Setup.{Setup}
use Rattle.cc_model.specs.History.{Effect}
use Rattle.cc_model.specs.Acts.{file_of}
use Rattle.cc_model.specs.Holds.{holds_of}
use Rattle.cc_model.specs.Touches.{size_of, valid_of}
use Rattle.cc_model.specs.Ranges.{range_of}
use Rattle.cc_model.specs.Reasons.{refuse_if, not_cached, cached_file, too_long, view_boundary, bad_sizes, bad_granularity, no_log, beyond_size, beyond_valid}
use Rattle.cc_model.specs.Conflicts.{held, busy}
use Rattle.cc_model.specs.Views.{viewed, no_views, no_vacbs, not_resident}
use Rattle.cc_model.specs.Discards.{unsettled, grown}
use Rattle.cc_model.specs.Refusals.{first_of, refusal, step_refusal, IsUnrefused}

-- a list whose first refusal is none: it has none, and what is left has none
record IsNone (o : Option CcError) (rest : List (Option CcError)) : Type 0 where
  here : o ≡ None
  later : first_of rest ≡ None

IsNone-first : (o : Option CcError) (rest : List (Option CcError)) → first_of (o ∷ rest) ≡ None → IsNone o rest
IsNone-first None rest is = record { here = refl; later = is }
IsNone-first (Some error) rest is = absurd (cc)

pub unrefused : (u : Setup) (past : List Entry) (h : List Effect) (call : Call) → refusal u past h call ≡ None → IsUnrefused u past h call
unfolding refusal
unrefused u past h call is =
    let cached = IsNone-first (not_cached h (cached_file call (file_of call))) _ is in
    let limit = IsNone-first (too_long call) _ cached.later in
    let block = IsNone-first (view_boundary call) _ limit.later in
    let sizes = IsNone-first (bad_sizes h call) _ block.later in
    let granularity = IsNone-first (bad_granularity call) _ sizes.later in
    let log = IsNone-first (no_log u call) _ granularity.later in
    let size = IsNone-first (beyond_size (size_of h) call) _ log.later in
    let valid = IsNone-first (beyond_valid (valid_of h) call) _ size.later in
    let free = IsNone-first (held h call) _ valid.later in
    let idle = IsNone-first (busy (holds_of h) call) _ free.later in
    let quota = IsNone-first (no_views h (viewed h call (range_of (size_of h) call))) _ idle.later in
    let pool = IsNone-first (no_vacbs past h call) _ quota.later in
    let resident = IsNone-first (not_resident h call) _ pool.later in
    let known = IsNone-first (unsettled h call) _ resident.later in
    let none_grown = IsNone-first (grown h call) _ known.later in
    record {
      cached = cached.here;
      within_limit = limit.here;
      in_one_block = block.here;
      sizes_in_order = sizes.here;
      is_granularity = granularity.here;
      log_exists = log.here;
      within_size = size.here;
      within_valid = valid.here;
      not_held = free.here;
      not_busy = idle.here;
      within_quota = quota.here;
      within_pool = pool.here;
      is_resident = resident.here;
      images_known = known.here;
      none_grown = none_grown.here;
    }

no_reason : (u : Setup) (past : List Entry) (h : List Effect) (call : Call) → IsUnrefused u past h call → refusal u past h call ≡ None
unfolding refusal
no_reason u past h call k =
    rw (k.cached, k.within_limit, k.in_one_block, k.sizes_in_order, k.is_granularity, k.log_exists, k.within_size, k.within_valid)
    (rw (k.not_held, k.not_busy, k.within_quota, k.within_pool, k.is_resident, k.images_known, k.none_grown) refl)

-- so none of the reasons that lie in its stream does
pub step-unrefused : (u : Setup) (past : List Entry) (h : List Effect) (call : Call) → refusal u past h call ≡ None → step_refusal h call ≡ None
unfolding step_refusal
step-unrefused u past h call is =
    let k = unrefused u past h call is in
    rw (k.cached, k.within_limit, k.in_one_block, k.sizes_in_order, k.is_granularity, k.within_size, k.within_valid)
    (rw (k.not_held, k.not_busy, k.within_quota, k.is_resident, k.images_known, k.none_grown) refl)

pub unrefused-reasons : (u : Setup) (past : List Entry) (h : List Effect) (call : Call) → (refusal u past h call ≡ None) ↔ IsUnrefused u past h call
unrefused-reasons u past h call = (unrefused u past h call, no_reason u past h call)

-- a test that is no reason fails
pub refuse_if-none : (b : Bool) (e : CcError) → refuse_if b e ≡ None → b ≡ false
refuse_if-none true e is = absurd (cc)
refuse_if-none false e is = refl
