-- Which refusals a call may answer whose entry is placed with its book.
use Rattle.std.specs.Prelude.{◌≡◌, ℕ, Bool, true, false, List, ◌∷◌, Option, None, Some, is_some, refl}
use Rattle.std.proofs.Common.{ap, ◌∙◌, subst}
use Rattle.std.specs.Option.{option_map}
use Rattle.cc_entry.specs.Place.{File, Range}
use Rattle.cc_entry.specs.Queries.{extent_of_query, file_of_query, log_of_query}
use Rattle.cc_entry.specs.declared.call.Call.{Call}
use Rattle.cc_entry.specs.declared.call.Call.TheVariants as call
use Rattle.cc_entry.specs.declared.entry.Entry.{Entry}
use Rattle.cc_entry.specs.declared.error.CcError.{CcError}
use Rattle.cc_entry.specs.declared.error.CcError.TheVariants as error
use Rattle.cc_entry.specs.declared.query.Query.{Query}
use Rattle.cc_effects.specs.Asked.{brings_in}
use Rattle.cc_effects.specs.Refusals.{may_refuse, may_want}
use Rattle.cc_model.specs.Allowed.{is_fault}
use Rattle.cc_model.specs.Conflicts.{held, held_by, busy, busy_by}
use Rattle.cc_model.specs.History.{Effect}
use Rattle.cc_model.specs.Holds.{holds_of}
use Rattle.cc_model.specs.Numbers.{is_among}
use Rattle.cc_model.specs.Queries.{refusals_of_query, refusals_where}
use Rattle.cc_model.specs.Ranges.{range_of, cut_range, queried_range}
use Rattle.cc_model.specs.Reasons.{refuse_if, not_cached, too_long, bad_sizes, bad_granularity, missing_log, no_log, beyond_size, beyond_valid, view_boundary}
use Rattle.cc_model.specs.Refusals.{first_of, refusal}
use Rattle.cc_model.specs.Settings.{quota_of}
use Rattle.cc_model.specs.Setup.{Setup}
use Rattle.cc_model.specs.Touches.{size_of, valid_of}
use Rattle.cc_model.specs.Views.{active_blocks, viewed, no_views, no_vacbs, not_resident}
use Rattle.cc_step.specs.Step.{is_answered}

-- a reason gives a refusal of the call, or none
abbrev IsAmong : Call → Option CcError → Type 0
IsAmong it None = Unit {0}
IsAmong it (Some e) = may_refuse it e ≡ true

among-if : (it : Call) (b : Bool) (e : CcError) → may_refuse it e ≡ true → IsAmong it (refuse_if b e)
among-if it true e among = among
among-if it false e among = tt

among-held : (it : Call) (id : Option ℕ) → ((n : ℕ) → may_refuse it (error.Held n) ≡ true) → IsAmong it (held_by id)
among-held it None among = tt
among-held it (Some id) among = among id

among-busy : (it : Call) (id : Option ℕ) → ((n : ℕ) → may_refuse it (error.Busy n) ≡ true) → IsAmong it (busy_by id)
among-busy it None among = tt
among-busy it (Some id) among = among id

among-page : (it : Call) (page : Option ℕ) → ((n : ℕ) → may_refuse it (error.NotResident n) ≡ true) → IsAmong it (option_map (λ p. error.NotResident p) page)
among-page it None among = tt
among-page it (Some page) among = among page

among-views : (it : Call) (h : List Effect) (r : Option Range) → ((active quota : ℕ) → may_refuse it (error.NoViews active quota) ≡ true) → IsAmong it (no_views h r)
among-views it h None among = tt
among-views it h (Some r) among = among-if it _ _ (among (active_blocks (holds_of h)) (quota_of h))

among-first : (it : Call) (o : Option CcError) (rest : List (Option CcError)) → IsAmong it o → IsAmong it (first_of rest) → IsAmong it (first_of (o ∷ rest))
among-first it None rest here later = later
among-first it (Some e) rest here later = here

-- the refusals of a query, by what it names and needs
lists-not_cached : (on_log paged : Bool) → is_among 1 (refusals_where true on_log paged) ≡ true
lists-not_cached on_log true = refl
lists-not_cached on_log false = refl

lists-no_log : (on_file paged : Bool) → is_among 21 (refusals_where on_file true paged) ≡ true
lists-no_log true true = refl
lists-no_log true false = refl
lists-no_log false true = refl
lists-no_log false false = refl

lists-paged : (asked : Query) (number : ℕ) → is_some (extent_of_query asked) ≡ true → is_among number (refusals_where (is_some (file_of_query asked)) (is_some (log_of_query asked)) true) ≡ true → is_among number (refusals_of_query asked) ≡ true
lists-paged asked number paged listed =
    ap (λ (b : Bool). is_among number (refusals_where (is_some (file_of_query asked)) (is_some (log_of_query asked)) b)) paged ∙ listed

among-cached : (asked : Query) (h : List Effect) → IsAmong (call.Query asked) (not_cached h (file_of_query asked))
among-cached asked h = by (file_of_query asked) refl
  where
    by : (named : Option File) → file_of_query asked ≡ named → IsAmong (call.Query asked) (not_cached h named)
    by None is = tt
    by (Some file) is =
        among-if (call.Query asked) _ error.NotCached
        (ap (λ (o : Option File). is_among 1 (refusals_where (is_some o) (is_some (log_of_query asked)) (is_some (extent_of_query asked)))) is
        ∙ lists-not_cached (is_some (log_of_query asked)) (is_some (extent_of_query asked)))

among-log : (u : Setup) (asked : Query) → IsAmong (call.Query asked) (missing_log u (log_of_query asked))
among-log u asked = by (log_of_query asked) refl
  where
    by : (named : Option ℕ) → log_of_query asked ≡ named → IsAmong (call.Query asked) (missing_log u named)
    by None is = tt
    by (Some handle) is =
        among-if (call.Query asked) _ (error.NoLog handle)
        (ap (λ (o : Option ℕ). is_among 21 (refusals_where (is_some (file_of_query asked)) (is_some o) (is_some (extent_of_query asked)))) is
        ∙ lists-no_log (is_some (file_of_query asked)) (is_some (extent_of_query asked)))

among-queried : (asked : Query) (h : List Effect) → IsAmong (call.Query asked) (no_views h (queried_range (size_of h) (extent_of_query asked)))
among-queried asked h = by (extent_of_query asked) refl
  where
    by : (extent : Option (ℕ × ℕ)) → extent_of_query asked ≡ extent → IsAmong (call.Query asked) (no_views h (queried_range (size_of h) extent))
    by None is = tt
    by (Some (at, n)) is =
        among-views (call.Query asked) h (Some (cut_range (size_of h) at n))
        (λ active quota. lists-paged asked 10 (ap is_some is) refl)

among : (u : Setup) (past : List Entry) (h : List Effect) (it : Call) → is_answered it ≡ true → IsAmong it (refusal u past h it)
unfolding refusal
among u past h (call.Initialise file sizes quota temporary) here =
    let it : Call = call.Initialise file sizes quota temporary in
    among-first it (bad_sizes h it) _ (among-if it _ _ refl)
    (among-first it (no_vacbs past h it) _ (among-if it _ _ refl) tt)
among u past h (call.Uninitialise file truncate) here =
    let it : Call = call.Uninitialise file truncate in
    among-first it (not_cached h (Some file)) _ (among-if it _ _ refl)
    (among-first it (held h it) _ (among-held it _ (λ n. refl)) tt)
among u past h (call.CopyRead file at len true) here =
    let it : Call = call.CopyRead file at len true in
    among-first it (not_cached h (Some file)) _ (among-if it _ _ refl)
    (among-first it (too_long it) _ (among-if it _ _ refl)
    (among-first it (no_views h (Some (cut_range (size_of h) at len))) _ (among-views it h (Some (cut_range (size_of h) at len)) (λ a q. refl)) tt))
among u past h (call.CopyRead file at len false) here =
    let it : Call = call.CopyRead file at len false in
    among-first it (not_cached h (Some file)) _ (among-if it _ _ refl)
    (among-first it (too_long it) _ (among-if it _ _ refl)
    (among-first it (no_views h (viewed h it (Some (cut_range (size_of h) at len)))) _ (among-views it h _ (λ a q. refl))
    (among-first it (not_resident h it) _ (among-page it _ (λ n. refl)) tt)))
among u past h (call.CopyWrite file at bytes) here =
    let it : Call = call.CopyWrite file at bytes in
    among-first it (not_cached h (Some file)) _ (among-if it _ _ refl)
    (among-first it (too_long it) _ (among-if it _ _ refl)
    (among-first it (beyond_size (size_of h) it) _ (among-if it _ _ refl)
    (among-first it (beyond_valid (valid_of h) it) _ (among-if it _ _ refl)
    (among-first it (no_views h (range_of (size_of h) it)) _ (among-views it h (range_of (size_of h) it) (λ a q. refl)) tt))))
among u past h (call.Zero file span) here =
    let it : Call = call.Zero file span in
    among-first it (not_cached h (Some file)) _ (among-if it _ _ refl)
    (among-first it (too_long it) _ (among-if it _ _ refl)
    (among-first it (beyond_size (size_of h) it) _ (among-if it _ _ refl)
    (among-first it (beyond_valid (valid_of h) it) _ (among-if it _ _ refl)
    (among-first it (no_views h (range_of (size_of h) it)) _ (among-views it h (range_of (size_of h) it) (λ a q. refl)) tt))))
among u past h (call.Map file at len) here =
    let it : Call = call.Map file at len in
    among-first it (not_cached h (Some file)) _ (among-if it _ _ refl)
    (among-first it (view_boundary it) _ (among-if it _ _ refl)
    (among-first it (beyond_size (size_of h) it) _ (among-if it _ _ refl)
    (among-first it (no_views h (range_of (size_of h) it)) _ (among-views it h (range_of (size_of h) it) (λ a q. refl)) tt)))
among u past h (call.PinRead file at len exclusive) here =
    let it : Call = call.PinRead file at len exclusive in
    among-first it (not_cached h (Some file)) _ (among-if it _ _ refl)
    (among-first it (view_boundary it) _ (among-if it _ _ refl)
    (among-first it (beyond_size (size_of h) it) _ (among-if it _ _ refl)
    (among-first it (busy (holds_of h) it) _ (among-busy it _ (λ n. refl))
    (among-first it (no_views h (range_of (size_of h) it)) _ (among-views it h (range_of (size_of h) it) (λ a q. refl)) tt))))
among u past h (call.PinMapped hold exclusive) here =
    let it : Call = call.PinMapped hold exclusive in
    among-first it (busy (holds_of h) it) _ (among-busy it _ (λ n. refl)) tt
among u past h (call.PreparePin file at len true exclusive) here =
    let it : Call = call.PreparePin file at len true exclusive in
    among-first it (not_cached h (Some file)) _ (among-if it _ _ refl)
    (among-first it (view_boundary it) _ (among-if it _ _ refl)
    (among-first it (beyond_size (size_of h) it) _ (among-if it _ _ refl)
    (among-first it (beyond_valid (valid_of h) it) _ (among-if it _ _ refl)
    (among-first it (busy (holds_of h) it) _ (among-busy it _ (λ n. refl))
    (among-first it (no_views h (range_of (size_of h) it)) _ (among-views it h (range_of (size_of h) it) (λ a q. refl)) tt)))))
among u past h (call.PreparePin file at len false exclusive) here =
    let it : Call = call.PreparePin file at len false exclusive in
    among-first it (not_cached h (Some file)) _ (among-if it _ _ refl)
    (among-first it (view_boundary it) _ (among-if it _ _ refl)
    (among-first it (beyond_size (size_of h) it) _ (among-if it _ _ refl)
    (among-first it (busy (holds_of h) it) _ (among-busy it _ (λ n. refl))
    (among-first it (no_views h (range_of (size_of h) it)) _ (among-views it h (range_of (size_of h) it) (λ a q. refl)) tt))))
among u past h (call.MappedRead hold at len) here = tt
among u past h (call.PinnedRead hold at len) here = tt
among u past h (call.PinnedWrite hold at bytes) here =
    let it : Call = call.PinnedWrite hold at bytes in
    among-first it (beyond_valid (valid_of h) it) _ (among-if it _ _ refl) tt
among u past h (call.SetDirty hold lsn) here = tt
among u past h (call.EndHold hold) here = tt
among u past h (call.Repin hold) here = tt
among u past h (call.MdlRead file at len) here =
    let it : Call = call.MdlRead file at len in
    among-first it (not_cached h (Some file)) _ (among-if it _ _ refl)
    (among-first it (too_long it) _ (among-if it _ _ refl)
    (among-first it (beyond_size (size_of h) it) _ (among-if it _ _ refl)
    (among-first it (no_views h (range_of (size_of h) it)) _ (among-views it h (range_of (size_of h) it) (λ a q. refl)) tt)))
among u past h (call.MdlWrite file at len) here =
    let it : Call = call.MdlWrite file at len in
    among-first it (not_cached h (Some file)) _ (among-if it _ _ refl)
    (among-first it (too_long it) _ (among-if it _ _ refl)
    (among-first it (beyond_size (size_of h) it) _ (among-if it _ _ refl)
    (among-first it (no_views h (range_of (size_of h) it)) _ (among-views it h (range_of (size_of h) it) (λ a q. refl)) tt)))
among u past h (call.MdlBytes hold at len) here = tt
among u past h (call.MdlStore hold at bytes) here =
    let it : Call = call.MdlStore hold at bytes in
    among-first it (beyond_valid (valid_of h) it) _ (among-if it _ _ refl) tt
among u past h (call.SetSizes file allocation size) here =
    let it : Call = call.SetSizes file allocation size in
    among-first it (not_cached h (Some file)) _ (among-if it _ _ refl)
    (among-first it (bad_sizes h it) _ (among-if it _ _ refl)
    (among-first it (held h it) _ (among-held it _ (λ n. refl)) tt))
among u past h (call.Query asked) here =
    let it : Call = call.Query asked in
    among-first it (not_cached h (file_of_query asked)) _ (among-cached asked h)
    (among-first it (missing_log u (log_of_query asked)) _ (among-log u asked)
    (among-first it (no_views h (queried_range (size_of h) (extent_of_query asked))) _ (among-queried asked h) tt))
among u past h (call.SetLog file handle) here =
    let it : Call = call.SetLog file handle in
    among-first it (not_cached h (Some file)) _ (among-if it _ _ refl)
    (among-first it (no_log u it) _ (among-if it _ _ refl) tt)
among u past h (call.SetGranularity file bytes) here =
    let it : Call = call.SetGranularity file bytes in
    among-first it (not_cached h (Some file)) _ (among-if it _ _ refl)
    (among-first it (bad_granularity it) _ (among-if it _ _ refl) tt)
among u past h (call.SetAttributes file no_read_ahead no_write_behind) here =
    let it : Call = call.SetAttributes file no_read_ahead no_write_behind in
    among-first it (not_cached h (Some file)) _ (among-if it _ _ refl) tt
among u past h (call.SetThreshold file pages) here =
    let it : Call = call.SetThreshold file pages in
    among-first it (not_cached h (Some file)) _ (among-if it _ _ refl) tt
among u past h (call.AskAhead file at len) here =
    let it : Call = call.AskAhead file at len in
    among-first it (not_cached h (Some file)) _ (among-if it _ _ refl) tt
among u past h (call.Flush file span) here =
    let it : Call = call.Flush file span in
    among-first it (not_cached h (Some file)) _ (among-if it _ _ refl)
    (among-first it (busy (holds_of h) it) _ (among-busy it _ (λ n. refl)) tt)
among u past h (call.Purge file span) here =
    let it : Call = call.Purge file span in
    among-first it (not_cached h (Some file)) _ (among-if it _ _ refl)
    (among-first it (held h it) _ (among-held it _ (λ n. refl)) tt)
among u past h (call.NcRead file page) here =
    let it : Call = call.NcRead file page in
    among-first it (not_cached h (Some file)) _ (among-if it _ _ refl) tt
among u past h (call.NcWrite file page) here =
    let it : Call = call.NcWrite file page in
    among-first it (not_cached h (Some file)) _ (among-if it _ _ refl)
    (among-first it (beyond_size (size_of h) it) _ (among-if it _ _ refl)
    (among-first it (beyond_valid (valid_of h) it) _ (among-if it _ _ refl)
    (among-first it (busy (holds_of h) it) _ (among-busy it _ (λ n. refl))
    (among-first it (no_views h (range_of (size_of h) it)) _ (among-views it h (range_of (size_of h) it) (λ a q. refl)) tt))))
among u past h (call.AheadStep request) here = tt
among u past h other here = absurd (cc)

-- a refusal that the definition gives is among the call's
pub may-refuse : (u : Setup) (past : List Entry) (h : List Effect) (it : Call) (e : CcError) → is_answered it ≡ true → refusal u past h it ≡ Some e → may_refuse it e ≡ true
may-refuse u past h it e here is = subst (IsAmong it) is (among u past h it here)

-- whether the entry of a call may have been reserved: that of a set-dirty, and of the end of a hold
abbrev pub may_be_reserved : Call → Bool
may_be_reserved (call.SetDirty hold lsn) = true
may_be_reserved (call.EndHold hold) = true
may_be_reserved other = false

-- want of room and of memory are among the refusals of the others
pub may-stop : (it : Call) (entries : ℕ) → is_answered it ≡ true → may_be_reserved it ≡ false → (may_refuse it (error.JournalFull entries) ≡ true) × (may_refuse it error.NoMemory ≡ true)
may-stop (call.CopyRead file at len true) entries here free = (refl, refl)
may-stop (call.CopyRead file at len false) entries here free = (refl, refl)
may-stop (call.PreparePin file at len true exclusive) entries here free = (refl, refl)
may-stop (call.PreparePin file at len false exclusive) entries here free = (refl, refl)
may-stop (call.EndHold hold) entries here free = absurd (cc)
may-stop (call.NcStore file page bytes) entries here free = absurd (cc)
may-stop other entries here free = (refl, refl)

pub may-want : (it : Call) (past : List Entry) → may_be_reserved it ≡ false → may_want it past ≡ true
may-want (call.SetDirty hold lsn) past free = absurd (cc)
may-want other past free = refl

-- A call may end at a moment for want of room or of memory.
pub record MayStop (it : Call) (past : List Entry) : Type 0 where
  pub full : (entries : ℕ) → may_refuse it (error.JournalFull entries) ≡ true
  pub memoryless : may_refuse it error.NoMemory ≡ true
  pub wants : may_want it past ≡ true

pub stops-free : (it : Call) (past : List Entry) → is_answered it ≡ true → may_be_reserved it ≡ false → MayStop it past
stops-free it past here free = record {
  full = λ entries. (may-stop it entries here free).0;
  memoryless = (may-stop it 0 here free).1;
  wants = may-want it past free;
}

-- one that brings pages in has no reserved entry
pub brings-free : (it : Call) → brings_in it ≡ true → may_be_reserved it ≡ false
brings-free (call.SetDirty hold lsn) brings = absurd (cc)
brings-free (call.EndHold hold) brings = absurd (cc)
brings-free other brings = refl

-- nor has one that may be told a fault
pub tells-free : (it : Call) (fault : CcError) → may_refuse it fault ≡ true → is_fault fault ≡ true → may_be_reserved it ≡ false
tells-free (call.SetDirty hold lsn) (error.ReadFault page) listed fault = absurd (cc)
tells-free (call.SetDirty hold lsn) (error.WriteFault page) listed fault = absurd (cc)
tells-free (call.SetDirty hold lsn) (error.LogFault handle) listed fault = absurd (cc)
tells-free (call.SetDirty hold lsn) other listed fault = absurd (cc)
tells-free (call.EndHold hold) e listed fault = absurd (cc)
tells-free other e listed fault = refl

-- a call that brings pages in may be told a fault
fault-listed : (it : Call) (e : CcError) → is_fault e ≡ true → ((n : ℕ) → may_refuse it (error.ReadFault n) ≡ true) → ((n : ℕ) → may_refuse it (error.WriteFault n) ≡ true) → ((n : ℕ) → may_refuse it (error.LogFault n) ≡ true) → may_refuse it e ≡ true
fault-listed it (error.ReadFault page) fault read written logged = read page
fault-listed it (error.WriteFault page) fault read written logged = written page
fault-listed it (error.LogFault handle) fault read written logged = logged handle
fault-listed it other fault read written logged = absurd (cc)

pub may-tell : (it : Call) (e : CcError) → is_answered it ≡ true → brings_in it ≡ true → is_fault e ≡ true → may_refuse it e ≡ true
may-tell (call.CopyRead file at len true) e here brings fault = fault-listed (call.CopyRead file at len true) e fault (λ n. refl) (λ n. refl) (λ n. refl)
may-tell (call.CopyWrite file at bytes) e here brings fault = fault-listed (call.CopyWrite file at bytes) e fault (λ n. refl) (λ n. refl) (λ n. refl)
may-tell (call.Zero file span) e here brings fault = fault-listed (call.Zero file span) e fault (λ n. refl) (λ n. refl) (λ n. refl)
may-tell (call.Map file at len) e here brings fault = fault-listed (call.Map file at len) e fault (λ n. refl) (λ n. refl) (λ n. refl)
may-tell (call.PinRead file at len exclusive) e here brings fault = fault-listed (call.PinRead file at len exclusive) e fault (λ n. refl) (λ n. refl) (λ n. refl)
may-tell (call.PreparePin file at len true exclusive) e here brings fault = fault-listed (call.PreparePin file at len true exclusive) e fault (λ n. refl) (λ n. refl) (λ n. refl)
may-tell (call.PreparePin file at len false exclusive) e here brings fault = fault-listed (call.PreparePin file at len false exclusive) e fault (λ n. refl) (λ n. refl) (λ n. refl)
may-tell (call.MdlRead file at len) e here brings fault = fault-listed (call.MdlRead file at len) e fault (λ n. refl) (λ n. refl) (λ n. refl)
may-tell (call.MdlWrite file at len) e here brings fault = fault-listed (call.MdlWrite file at len) e fault (λ n. refl) (λ n. refl) (λ n. refl)
may-tell (call.AheadStep request) e here brings fault = fault-listed (call.AheadStep request) e fault (λ n. refl) (λ n. refl) (λ n. refl)
may-tell (call.Query asked) e here brings fault =
    fault-listed (call.Query asked) e fault (λ n. lists-paged asked 14 brings refl) (λ n. lists-paged asked 15 brings refl) (λ n. lists-paged asked 16 brings refl)
may-tell it e here brings fault = absurd (cc)
