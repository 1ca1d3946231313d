-- How settings that calls make step.
use Rattle.std.specs.Prelude.{◌≡◌, ℕ, Bool, true, false, ◌==◌, List, ◌∷◌, refl}
use Rattle.std.specs.declared.option.Option.{Option}
use Rattle.std.specs.declared.option.Option.TheVariants.{Some}
use Rattle.cc_entry.specs.Place.{File}
use Rattle.cc_entry.specs.declared.call.Call.{Call}
use Rattle.cc_entry.specs.declared.call.Call.TheVariants as call
use Rattle.cc_entry.specs.declared.reply.Reply.{Reply}
use Rattle.cc_model.specs.History.{Effect, Did}
use Rattle.cc_model.specs.Settings.{log_of, has_no_read_ahead, has_no_write_behind, threshold_of, granularity_of, log_after, no_ahead_after, no_behind_after, threshold_after, granularity_after}

-- a call steps a setting by what it makes of it, which computes at each call
pub log_of-done : (pass : ℕ) (call : Call) (reply : Reply) (h : List Effect) → log_of (Did pass call reply ∷ h) ≡ log_after call (log_of h)
unfolding log_of
log_of-done pass call reply h = refl

pub has_no_read_ahead-done : (pass : ℕ) (call : Call) (reply : Reply) (h : List Effect) → has_no_read_ahead (Did pass call reply ∷ h) ≡ no_ahead_after call (has_no_read_ahead h)
unfolding has_no_read_ahead
has_no_read_ahead-done pass call reply h = refl

pub has_no_write_behind-done : (pass : ℕ) (call : Call) (reply : Reply) (h : List Effect) → has_no_write_behind (Did pass call reply ∷ h) ≡ no_behind_after call (has_no_write_behind h)
unfolding has_no_write_behind
has_no_write_behind-done pass call reply h = refl

pub threshold_of-done : (pass : ℕ) (call : Call) (reply : Reply) (h : List Effect) → threshold_of (Did pass call reply ∷ h) ≡ threshold_after call (threshold_of h)
unfolding threshold_of
threshold_of-done pass call reply h = refl

pub granularity_of-done : (object pass : ℕ) (call : Call) (reply : Reply) (h : List Effect) → granularity_of object (Did pass call reply ∷ h) ≡ granularity_after object call (granularity_of object h)
unfolding granularity_of
granularity_of-done object pass call reply h = refl

-- the call that makes each
pub log_of-set_log : (pass : ℕ) (file : File) (handle : ℕ) (reply : Reply) (h : List Effect) → log_of (Did pass (call.SetLog file handle) reply ∷ h) ≡ Some handle
unfolding log_of
log_of-set_log pass file handle reply h = refl

pub has_no_read_ahead-set_attributes : (pass : ℕ) (file : File) (no_read_ahead no_write_behind : Bool) (reply : Reply) (h : List Effect) → has_no_read_ahead (Did pass (call.SetAttributes file no_read_ahead no_write_behind) reply ∷ h) ≡ no_read_ahead
unfolding has_no_read_ahead
has_no_read_ahead-set_attributes pass file no_read_ahead no_write_behind reply h = refl

pub has_no_write_behind-set_attributes : (pass : ℕ) (file : File) (no_read_ahead no_write_behind : Bool) (reply : Reply) (h : List Effect) → has_no_write_behind (Did pass (call.SetAttributes file no_read_ahead no_write_behind) reply ∷ h) ≡ no_write_behind
unfolding has_no_write_behind
has_no_write_behind-set_attributes pass file no_read_ahead no_write_behind reply h = refl

pub threshold_of-set_threshold : (pass : ℕ) (file : File) (pages : ℕ) (reply : Reply) (h : List Effect) → threshold_of (Did pass (call.SetThreshold file pages) reply ∷ h) ≡ pages
unfolding threshold_of
threshold_of-set_threshold pass file pages reply h = refl

pub granularity_of-set_granularity : (object pass : ℕ) (file : File) (bytes : ℕ) (reply : Reply) (h : List Effect) → (file.object == object) ≡ true → granularity_of object (Did pass (call.SetGranularity file bytes) reply ∷ h) ≡ bytes
unfolding granularity_of
granularity_of-set_granularity object pass file bytes reply h same = rw same refl

pub granularity_of-set_other : (object pass : ℕ) (file : File) (bytes : ℕ) (reply : Reply) (h : List Effect) → (file.object == object) ≡ false → granularity_of object (Did pass (call.SetGranularity file bytes) reply ∷ h) ≡ granularity_of object h
unfolding granularity_of
granularity_of-set_other object pass file bytes reply h other = rw other refl

-- whether a call makes such a setting
abbrev pub makes_setting : Call → Bool
makes_setting (call.SetLog file handle) = true
makes_setting (call.SetGranularity file bytes) = true
makes_setting (call.SetAttributes file no_read_ahead no_write_behind) = true
makes_setting (call.SetThreshold file pages) = true
makes_setting other = false

log_after-other : (call : Call) (old : Option ℕ) → makes_setting call ≡ false → log_after call old ≡ old
log_after-other (call.SetLog file handle) old kept = cc
log_after-other (call.SetGranularity file bytes) old kept = cc
log_after-other (call.SetAttributes file no_read_ahead no_write_behind) old kept = cc
log_after-other (call.SetThreshold file pages) old kept = cc
log_after-other other old kept = refl

pub log_of-other : (pass : ℕ) (call : Call) (reply : Reply) (h : List Effect) → makes_setting call ≡ false → log_of (Did pass call reply ∷ h) ≡ log_of h
unfolding log_of
log_of-other pass call reply h kept = log_after-other call (log_of h) kept

no_ahead_after-other : (call : Call) (old : Bool) → makes_setting call ≡ false → no_ahead_after call old ≡ old
no_ahead_after-other (call.SetLog file handle) old kept = cc
no_ahead_after-other (call.SetGranularity file bytes) old kept = cc
no_ahead_after-other (call.SetAttributes file no_read_ahead no_write_behind) old kept = cc
no_ahead_after-other (call.SetThreshold file pages) old kept = cc
no_ahead_after-other other old kept = refl

pub has_no_read_ahead-other : (pass : ℕ) (call : Call) (reply : Reply) (h : List Effect) → makes_setting call ≡ false → has_no_read_ahead (Did pass call reply ∷ h) ≡ has_no_read_ahead h
unfolding has_no_read_ahead
has_no_read_ahead-other pass call reply h kept = no_ahead_after-other call (has_no_read_ahead h) kept

no_behind_after-other : (call : Call) (old : Bool) → makes_setting call ≡ false → no_behind_after call old ≡ old
no_behind_after-other (call.SetLog file handle) old kept = cc
no_behind_after-other (call.SetGranularity file bytes) old kept = cc
no_behind_after-other (call.SetAttributes file no_read_ahead no_write_behind) old kept = cc
no_behind_after-other (call.SetThreshold file pages) old kept = cc
no_behind_after-other other old kept = refl

pub has_no_write_behind-other : (pass : ℕ) (call : Call) (reply : Reply) (h : List Effect) → makes_setting call ≡ false → has_no_write_behind (Did pass call reply ∷ h) ≡ has_no_write_behind h
unfolding has_no_write_behind
has_no_write_behind-other pass call reply h kept = no_behind_after-other call (has_no_write_behind h) kept

threshold_after-other : (call : Call) (old : ℕ) → makes_setting call ≡ false → threshold_after call old ≡ old
threshold_after-other (call.SetLog file handle) old kept = cc
threshold_after-other (call.SetGranularity file bytes) old kept = cc
threshold_after-other (call.SetAttributes file no_read_ahead no_write_behind) old kept = cc
threshold_after-other (call.SetThreshold file pages) old kept = cc
threshold_after-other other old kept = refl

pub threshold_of-other : (pass : ℕ) (call : Call) (reply : Reply) (h : List Effect) → makes_setting call ≡ false → threshold_of (Did pass call reply ∷ h) ≡ threshold_of h
unfolding threshold_of
threshold_of-other pass call reply h kept = threshold_after-other call (threshold_of h) kept

granularity_after-other : (object : ℕ) (call : Call) (old : ℕ) → makes_setting call ≡ false → granularity_after object call old ≡ old
granularity_after-other object (call.SetLog file handle) old kept = cc
granularity_after-other object (call.SetGranularity file bytes) old kept = cc
granularity_after-other object (call.SetAttributes file no_read_ahead no_write_behind) old kept = cc
granularity_after-other object (call.SetThreshold file pages) old kept = cc
granularity_after-other object other old kept = refl

pub granularity_of-other : (object : ℕ) (pass : ℕ) (call : Call) (reply : Reply) (h : List Effect) → makes_setting call ≡ false → granularity_of object (Did pass call reply ∷ h) ≡ granularity_of object h
unfolding granularity_of
granularity_of-other object pass call reply h kept = granularity_after-other object call (granularity_of object h) kept
