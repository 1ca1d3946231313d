-- When the contents of a stream may follow a done call.
use Rattle.std.specs.Prelude.{◌≡◌, ℕ, ◌+◌, ◌≤◌, Bool, true, false, nat_le, min, if◌then◌else◌, List, ◌∷◌, Option, None, Some}
use Rattle.cc_entry.specs.Place.{File, Range}
use Rattle.cc_entry.specs.Queries.{extent_of_query}
use Rattle.cc_entry.specs.declared.call.Call.{Call}
use Rattle.cc_entry.specs.declared.call.Call.TheVariants as call
use Rattle.cc_entry.specs.declared.reply.Reply.{Reply}
use Rattle.cc_entry.specs.declared.reply.Reply.TheVariants as reply
use Rattle.cc_entry.specs.declared.reply.Outcome.TheVariants as outcome
use Rattle.cc_entry.specs.declared.entry.Entry.{Entry}
use Rattle.cc_entry.specs.declared.entry.Entry.TheVariants as entry
use Rattle.cc_views.specs.Views.{MappedViews}
use Rattle.cc_resident.specs.Residents.{all_resident}
use Rattle.cc_model.specs.Acts.{act_of, Closes}
use Rattle.cc_model.specs.Good.{IsGoodSoFar}
use Rattle.cc_model.specs.History.{Effect, Did, history}
use Rattle.cc_model.specs.Objects.{objects, truncation}
use Rattle.cc_model.specs.Ranges.{cut_range}
use Rattle.cc_model.specs.Setup.{Setup}
use Rattle.cc_model.specs.Touches.{size_of, is_mapped}
use Rattle.cc_content.specs.Contents.{Contents, ContentsStand}
use Rattle.cc_content.specs.Done.{IsMapped}

-- the size that a call sets as an uninitialise, where it is one that sets one
abbrev pub truncated_by : List Effect → Call → Option ℕ
truncated_by h (call.Uninitialise file truncate) = truncation (objects h) (size_of h) file truncate
truncated_by h other = None

-- A call of a stream may be followed: the journal with it is good so far, the contents stand for the stream
-- before it, and so do the size and the size that it sets; the last says whether there is a map after it.
pub record MayFollowContents (u : Setup) (past : List Entry) (pass nth s : ℕ) (call : Call) (reply : Reply)
    (c : Contents) (size : ℕ) (truncation : Option ℕ) (mapped : Bool) : Type 0 where
  pub good : IsGoodSoFar u (entry.Call pass nth (Some s) call (outcome.Done reply) ∷ past)
  pub stands : ContentsStand (u.opening s) (history past s) c
  pub size_is : size ≡ size_of (history past s)
  pub truncation_is : truncation ≡ truncated_by (history past s) call
  pub mapped_is : mapped
      ≡ is_mapped (history (entry.Call pass nth (Some s) call (outcome.Done reply) ∷ past) s)

-- there is a journal at whose end the call may be followed
pub record IsFollowingContents (call : Call) (reply : Reply) (c : Contents) (size : ℕ) (truncation : Option ℕ)
    (mapped : Bool) : Type 0 where
  pub u : Setup
  pub past : List Entry
  pub pass : ℕ
  pub nth : ℕ
  pub s : ℕ
  pub may : MayFollowContents u past pass nth s call reply c size truncation mapped

-- there is a journal at whose end a pinned write of these bytes may be followed
pub record IsFollowingWrite (at : ℕ) (bytes : List ℕ) (c : Contents) : Type 0 where
  pub hold : ℕ
  pub reply : Reply
  pub size : ℕ
  pub truncation : Option ℕ
  pub mapped : Bool
  pub following : IsFollowingContents (call.PinnedWrite hold at bytes) reply c size truncation mapped

-- there is an answer with which the call may be followed
pub record IsFollowable (call : Call) (truncation : Option ℕ) (c : Contents) : Type 0 where
  pub reply : Reply
  pub size : ℕ
  pub mapped : Bool
  pub following : IsFollowingContents call reply c size truncation mapped

-- whether memory may be wanting for a call: for a map's view index, or for bytes
abbrev pub takes_content_memory : Call → Bool
takes_content_memory (call.Initialise file sizes quota temporary) = true
takes_content_memory (call.SetSizes file allocation size) = true
takes_content_memory (call.CopyWrite file at bytes) = true
takes_content_memory (call.PinnedWrite hold at bytes) = true
takes_content_memory (call.MdlStore hold at bytes) = true
takes_content_memory (call.NcStore file page bytes) = true
takes_content_memory other = false

-- a done call that neither makes a map nor lets one go finds these contents
pub record Finds (opening : Option (ℕ → List ℕ)) (h : List Effect) (pass : ℕ) (call : Call) (reply : Reply)
    (c : Contents) : Type 0 where
  pub stands : ContentsStand opening h c
  pub same_map : is_mapped (Did pass call reply ∷ h) ≡ is_mapped h

-- a done uninitialise, which sets this size or none, finds these contents
pub record FindsOpen (opening : Option (ℕ → List ℕ)) (h : List Effect) (call : Call) (cut : Option ℕ)
    (c : Contents) : Type 0 where
  pub stands : ContentsStand opening h c
  pub file : File
  pub truncate : Option ℕ
  pub is : act_of call ≡ Closes file truncate
  pub cut_is : truncation (objects h) (size_of h) file truncate ≡ cut
  pub was_mapped : is_mapped h ≡ true

-- where pages are kept, each page of the range is
abbrev pub AllKept : Option MappedViews → Range → Type 0
AllKept None r = Unit {0}
AllKept (Some m) r = all_resident m r ≡ true

-- where pages are kept, each view block of the range is mapped
abbrev pub AllMapped : Option MappedViews → Option Range → Type 0
AllMapped None o = Unit {0}
AllMapped (Some m) o = IsMapped m o

-- where pages are kept and a size is set, it is within theirs
abbrev pub IsCutWithin : Option MappedViews → Option ℕ → Type 0
IsCutWithin (Some m) (Some size) = size ≤ m.size
IsCutWithin other size = Unit {0}

-- n bytes from `at` on, as far as they lie below the size, where they begin there
abbrev pub span_below : ℕ → ℕ → ℕ → Option Range
span_below size at n = if nat_le at (min (at + n) size) then Some (cut_range size at n) else None

-- the bytes that a query needs, given from where and how many, as far as they lie below the size
abbrev pub queried_below : ℕ → Option (ℕ × ℕ) → Option Range
queried_below size None = None
queried_below size (Some (at, n)) = span_below size at n

-- the range whose blocks a call uses that changes nothing, in a stream of this size
abbrev pub looked_range : ℕ → Call → Reply → Option Range
looked_range size (call.CopyRead file at len wait) r = span_below size at len
looked_range size (call.Map file at len) r = span_below size at len
looked_range size (call.PinRead file at len exclusive) r = span_below size at len
looked_range size (call.PreparePin file at len zero exclusive) r = span_below size at len
looked_range size (call.MdlRead file at len) r = span_below size at len
looked_range size (call.MdlWrite file at len) r = span_below size at len
looked_range size (call.AheadStep request) (reply.Whole false) = None
looked_range size (call.AheadStep request) r = span_below size request.at request.len
looked_range size (call.Query asked) r = queried_below size (extent_of_query asked)
looked_range size other r = None
