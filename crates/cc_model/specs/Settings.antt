-- What is set for a stream, or for one of its objects, and outlives maps and objects.
use Rattle.std.specs.Prelude.{ℕ, Bool, true, false, ◌==◌, List, [], ◌∷◌, if◌then◌else◌}
use Rattle.std.specs.declared.option.Option.{Option}
use Rattle.std.specs.declared.option.Option.TheVariants.{Some, None}
use Rattle.cc_entry.specs.declared.call.Call.{Call}
use Rattle.cc_entry.specs.declared.call.Call.TheVariants as call
use Rattle.cc_model.specs.History.{Effect, Did}
use Rattle.cc_model.specs.Acts.{act_of, Opens, Resizes}
use Rattle.cc_model.specs.Touches.{is_mapped}

-- The quota of the last initialise that made the map, in blocks (CcInitializeCacheMap).
unfoldable pub quota_of : List Effect → ℕ
quota_of [] = 0
quota_of (Did pass call reply ∷ h) =
    elim (act_of call) [
      | Opens file sizes quota temporary ↦ elim (is_mapped h) [ true ↦ quota_of h | false ↦ quota ]
      | _ ↦ quota_of h
    ]
quota_of (other ∷ h) = quota_of h

-- whether the last initialise that made the map marked the stream as temporary
unfoldable pub is_temporary : List Effect → Bool
is_temporary [] = false
is_temporary (Did pass call reply ∷ h) =
    elim (act_of call) [
      | Opens file sizes quota temporary ↦ elim (is_mapped h) [ true ↦ is_temporary h | false ↦ temporary ]
      | _ ↦ is_temporary h
    ]
is_temporary (other ∷ h) = is_temporary h

-- the allocation that the last initialise that made the map, or the last set of sizes, gave
unfoldable pub allocation_of : List Effect → ℕ
allocation_of [] = 0
allocation_of (Did pass call reply ∷ h) =
    elim (act_of call) [
      | Opens file sizes quota temporary ↦ elim (is_mapped h) [ true ↦ allocation_of h | false ↦ sizes.allocation ]
      | Resizes allocation size ↦ allocation
      | _ ↦ allocation_of h
    ]
allocation_of (other ∷ h) = allocation_of h

-- the setting that a call makes, before the one that stood
abbrev pub log_after : Call → Option ℕ → Option ℕ
log_after (call.SetLog file handle) old = Some handle
log_after other old = old

abbrev pub no_ahead_after : Call → Bool → Bool
no_ahead_after (call.SetAttributes file no_read_ahead no_write_behind) old = no_read_ahead
no_ahead_after other old = old

abbrev pub no_behind_after : Call → Bool → Bool
no_behind_after (call.SetAttributes file no_read_ahead no_write_behind) old = no_write_behind
no_behind_after other old = old

abbrev pub threshold_after : Call → ℕ → ℕ
threshold_after (call.SetThreshold file pages) old = pages
threshold_after other old = old

abbrev pub granularity_after : ℕ → Call → ℕ → ℕ
granularity_after object (call.SetGranularity file bytes) old = if file.object == object then bytes else old
granularity_after object other old = old

-- the log of a stream, where it has one (CcSetLogHandleForFile)
unfoldable pub log_of : List Effect → Option ℕ
log_of [] = None
log_of (Did pass call reply ∷ h) = log_after call (log_of h)
log_of (other ∷ h) = log_of h

-- whether read-ahead is off for the stream (CcSetAdditionalCacheAttributes)
unfoldable pub has_no_read_ahead : List Effect → Bool
has_no_read_ahead [] = false
has_no_read_ahead (Did pass call reply ∷ h) = no_ahead_after call (has_no_read_ahead h)
has_no_read_ahead (other ∷ h) = has_no_read_ahead h

-- whether the lazy writer passes the stream over (CcSetAdditionalCacheAttributes)
unfoldable pub has_no_write_behind : List Effect → Bool
has_no_write_behind [] = false
has_no_write_behind (Did pass call reply ∷ h) = no_behind_after call (has_no_write_behind h)
has_no_write_behind (other ∷ h) = has_no_write_behind h

-- the stream's own limit of dirty pages; 0 is none (CcSetDirtyPageThreshold)
unfoldable pub threshold_of : List Effect → ℕ
threshold_of [] = 0
threshold_of (Did pass call reply ∷ h) = threshold_after call (threshold_of h)
threshold_of (other ∷ h) = threshold_of h

-- the read-ahead granularity of an object, in bytes (CcSetReadAheadGranularity)
unfoldable pub granularity_of : ℕ → List Effect → ℕ
granularity_of object [] = 65536
granularity_of object (Did pass call reply ∷ h) = granularity_after object call (granularity_of object h)
granularity_of object (other ∷ h) = granularity_of object h
