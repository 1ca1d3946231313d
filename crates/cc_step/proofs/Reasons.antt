-- A refusal of the list is never a fault, nor for want of room or memory.
use Rattle.std.specs.Prelude.{◌≡◌, ℕ, Bool, true, false, List, ◌∷◌, Option, None, Some, refl}
use Rattle.std.proofs.Common.{subst}
use Rattle.std.specs.Option.{option_map}
use Rattle.cc_entry.specs.Place.{File, Range}
use Rattle.cc_entry.specs.Queries.{log_of_query}
use Rattle.cc_entry.specs.declared.call.Call.{Call}
use Rattle.cc_entry.specs.declared.call.Call.TheVariants as call
use Rattle.cc_entry.specs.declared.error.CcError.{CcError}
use Rattle.cc_entry.specs.declared.error.CcError.TheVariants as error
use Rattle.cc_entry.specs.declared.entry.Entry.{Entry}
use Rattle.cc_model.specs.Acts.{file_of}
use Rattle.cc_model.specs.Conflicts.{held, held_by, busy, busy_by}
use Rattle.cc_model.specs.Discards.{unsettled, grown}
use Rattle.cc_model.specs.History.{Effect}
use Rattle.cc_model.specs.Holds.{Hold, holds_of}
use Rattle.cc_model.specs.Ranges.{range_of}
use Rattle.cc_model.specs.Reasons.{refuse_if, not_cached, cached_file, too_long, view_boundary, bad_sizes, bad_granularity, missing_log, no_log, beyond_size, beyond_valid}
use Rattle.cc_model.specs.Refusals.{first_of, refusal}
use Rattle.cc_model.specs.Setup.{Setup}
use Rattle.cc_model.specs.Touches.{size_of, valid_of}
use Rattle.cc_model.specs.Views.{viewed, no_views, no_vacbs, not_resident}

-- whether a refusal may be one of the list's
abbrev pub is_listed : CcError → Bool
is_listed (error.JournalFull entries) = false
is_listed (error.ReadFault page) = false
is_listed (error.WriteFault page) = false
is_listed (error.LogFault handle) = false
is_listed error.QueueFull = false
is_listed error.Unaligned = false
is_listed error.NoMemory = false
is_listed other = true

-- a reason gives such a refusal, or none
abbrev IsListed : Option CcError → Type 0
IsListed None = Unit {0}
IsListed (Some e) = is_listed e ≡ true

if-listed : (b : Bool) (e : CcError) → is_listed e ≡ true → IsListed (refuse_if b e)
if-listed true e listed = listed
if-listed false e listed = tt

first-listed : (o : Option CcError) (rest : List (Option CcError)) → IsListed o → IsListed (first_of rest) → IsListed (first_of (o ∷ rest))
first-listed None rest here later = later
first-listed (Some e) rest here later = here

cached-listed : (h : List Effect) (o : Option File) → IsListed (not_cached h o)
cached-listed h None = tt
cached-listed h (Some file) = if-listed _ error.NotCached refl

long-listed : (it : Call) → IsListed (too_long it)
long-listed (call.CopyRead file at len wait) = if-listed _ _ refl
long-listed (call.CopyWrite file at bytes) = if-listed _ _ refl
long-listed (call.Zero file span) = if-listed _ _ refl
long-listed (call.MdlRead file at len) = if-listed _ _ refl
long-listed (call.MdlWrite file at len) = if-listed _ _ refl
long-listed other = tt

block-listed : (it : Call) → IsListed (view_boundary it)
block-listed (call.Map file at len) = if-listed _ _ refl
block-listed (call.PinRead file at len exclusive) = if-listed _ _ refl
block-listed (call.PreparePin file at len zero exclusive) = if-listed _ _ refl
block-listed other = tt

sizes-listed : (h : List Effect) (it : Call) → IsListed (bad_sizes h it)
sizes-listed h (call.Initialise file sizes quota temporary) = if-listed _ _ refl
sizes-listed h (call.SetSizes file allocation size) = if-listed _ _ refl
sizes-listed h other = tt

granularity-listed : (it : Call) → IsListed (bad_granularity it)
granularity-listed (call.SetGranularity file bytes) = if-listed _ _ refl
granularity-listed other = tt

log-listed : (u : Setup) (it : Call) → IsListed (no_log u it)
log-listed u (call.SetLog file handle) = if-listed _ _ refl
log-listed u (call.Query asked) = by (log_of_query asked)
  where
    by : (named : Option ℕ) → IsListed (missing_log u named)
    by None = tt
    by (Some handle) = if-listed _ _ refl
log-listed u other = tt

size-listed : (size : ℕ) (it : Call) → IsListed (beyond_size size it)
size-listed size (call.CopyWrite file at bytes) = if-listed _ _ refl
size-listed size (call.Zero file span) = if-listed _ _ refl
size-listed size (call.Map file at len) = if-listed _ _ refl
size-listed size (call.PinRead file at len exclusive) = if-listed _ _ refl
size-listed size (call.PreparePin file at len zero exclusive) = if-listed _ _ refl
size-listed size (call.MdlRead file at len) = if-listed _ _ refl
size-listed size (call.MdlWrite file at len) = if-listed _ _ refl
size-listed size (call.NcStore file page bytes) = if-listed _ _ refl
size-listed size (call.NcWrite file page) = if-listed _ _ refl
size-listed size other = tt

valid-listed : (valid : ℕ) (it : Call) → IsListed (beyond_valid valid it)
valid-listed valid (call.CopyWrite file at bytes) = if-listed _ _ refl
valid-listed valid (call.Zero file span) = if-listed _ _ refl
valid-listed valid (call.PreparePin file at len true exclusive) = if-listed _ _ refl
valid-listed valid (call.PreparePin file at len false exclusive) = tt
valid-listed valid (call.PinnedWrite hold at bytes) = if-listed _ _ refl
valid-listed valid (call.MdlStore hold at bytes) = if-listed _ _ refl
valid-listed valid (call.NcStore file page bytes) = if-listed _ _ refl
valid-listed valid (call.NcWrite file page) = if-listed _ _ refl
valid-listed valid other = tt

by-hold : (id : Option ℕ) → IsListed (held_by id)
by-hold None = tt
by-hold (Some id) = refl

by-pin : (id : Option ℕ) → IsListed (busy_by id)
by-pin None = tt
by-pin (Some id) = refl

held-listed : (h : List Effect) (it : Call) → IsListed (held h it)
held-listed h (call.SetSizes file allocation size) = by-hold _
held-listed h (call.Uninitialise file truncate) = by-hold _
held-listed h (call.Purge file span) = by-hold _
held-listed h (call.Discard file span) = by-hold _
held-listed h other = tt

busy-listed : (holds : List Hold) (it : Call) → IsListed (busy holds it)
busy-listed holds (call.PinRead file at len exclusive) = by-pin _
busy-listed holds (call.PreparePin file at len zero exclusive) = by-pin _
busy-listed holds (call.PinMapped hold exclusive) = by-pin _
busy-listed holds (call.Flush file span) = by-pin _
busy-listed holds (call.NcStore file page bytes) = by-pin _
busy-listed holds (call.NcWrite file page) = by-pin _
busy-listed holds other = tt

views-listed : (h : List Effect) (r : Option Range) → IsListed (no_views h r)
views-listed h None = tt
views-listed h (Some r) = if-listed _ _ refl

vacbs-listed : (past : List Entry) (h : List Effect) (it : Call) → IsListed (no_vacbs past h it)
vacbs-listed past h (call.Initialise file sizes quota temporary) = if-listed _ _ refl
vacbs-listed past h other = tt

by-page : (make : ℕ → CcError) → ((p : ℕ) → is_listed (make p) ≡ true) → (page : Option ℕ) → IsListed (option_map make page)
by-page make listed None = tt
by-page make listed (Some page) = listed page

resident-listed : (h : List Effect) (it : Call) → IsListed (not_resident h it)
resident-listed h (call.CopyRead file at len false) = by-page error.NotResident (λ p. refl) _
resident-listed h (call.CopyRead file at len true) = tt
resident-listed h other = tt

unsettled-listed : (h : List Effect) (it : Call) → IsListed (unsettled h it)
unsettled-listed h (call.Discard file span) = by-page error.Unsettled (λ p. refl) _
unsettled-listed h other = tt

grown-listed : (h : List Effect) (it : Call) → IsListed (grown h it)
grown-listed h (call.Discard file span) = by-page error.Grown (λ p. refl) _
grown-listed h other = tt

all-listed : (u : Setup) (past : List Entry) (h : List Effect) (it : Call) → IsListed (refusal u past h it)
unfolding refusal
all-listed u past h it =
    first-listed _ _ (cached-listed h (cached_file it (file_of it)))
    (first-listed _ _ (long-listed it)
    (first-listed _ _ (block-listed it)
    (first-listed _ _ (sizes-listed h it)
    (first-listed _ _ (granularity-listed it)
    (first-listed _ _ (log-listed u it)
    (first-listed _ _ (size-listed (size_of h) it)
    (first-listed _ _ (valid-listed (valid_of h) it)
    (first-listed _ _ (held-listed h it)
    (first-listed _ _ (busy-listed (holds_of h) it)
    (first-listed _ _ (views-listed h (viewed h it (range_of (size_of h) it)))
    (first-listed _ _ (vacbs-listed past h it)
    (first-listed _ _ (resident-listed h it)
    (first-listed _ _ (unsettled-listed h it)
    (first-listed _ _ (grown-listed h it) tt))))))))))))))

pub refusal-listed : (u : Setup) (past : List Entry) (h : List Effect) (it : Call) (e : CcError) → refusal u past h it ≡ Some e → is_listed e ≡ true
refusal-listed u past h it e is = subst IsListed is (all-listed u past h it)

-- A noncached call has no refusal of the list for its length, which is not in its entry.
abbrev IsNoLength : Option CcError → Type 0
IsNoLength (Some (error.TooLong limit)) = ⊥
IsNoLength other = Unit {0}

first-no_length : (o : Option CcError) (rest : List (Option CcError)) → IsNoLength o → IsNoLength (first_of rest) → IsNoLength (first_of (o ∷ rest))
first-no_length None rest here later = later
first-no_length (Some e) rest here later = here

if-no_length : (b : Bool) (e : CcError) → IsNoLength (Some e) → IsNoLength (refuse_if b e)
if-no_length true e other = other
if-no_length false e other = tt

busy-no_length : (id : Option ℕ) → IsNoLength (busy_by id)
busy-no_length None = tt
busy-no_length (Some id) = tt

views-no_length : (h : List Effect) (r : Option Range) → IsNoLength (no_views h r)
views-no_length h None = tt
views-no_length h (Some r) = if-no_length _ _ tt

abbrev pub IsNoncached : Call → Type 0
IsNoncached (call.NcRead file page) = Unit {0}
IsNoncached (call.NcWrite file page) = Unit {0}
IsNoncached other = ⊥

no-length : (u : Setup) (past : List Entry) (h : List Effect) (it : Call) → IsNoncached it → IsNoLength (refusal u past h it)
unfolding refusal
no-length u past h (call.NcRead file page) is =
    first-no_length (not_cached h (Some file)) _ (if-no_length _ error.NotCached tt) tt
no-length u past h (call.NcWrite file page) is =
    let it : Call = call.NcWrite file page in
    first-no_length (not_cached h (Some file)) _ (if-no_length _ error.NotCached tt)
    (first-no_length (beyond_size (size_of h) it) _ (if-no_length _ _ tt)
    (first-no_length (beyond_valid (valid_of h) it) _ (if-no_length _ _ tt)
    (first-no_length (busy (holds_of h) it) _ (busy-no_length _)
    (first-no_length (no_views h (range_of (size_of h) it)) _ (views-no_length h (range_of (size_of h) it)) tt))))
no-length u past h other is = absurd is

pub never-long : (u : Setup) (past : List Entry) (h : List Effect) (it : Call) (limit : ℕ) → IsNoncached it → refusal u past h it ≡ Some (error.TooLong limit) → ⊥
never-long u past h it limit is refused = subst IsNoLength refused (no-length u past h it is)
