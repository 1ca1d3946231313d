-- What a call was told that is done, in a good journal: nothing, the state of its stream or its LSNs, or the bytes of its
-- read.
use Rattle.std.specs.Prelude.{◌≡◌, ℕ, ◌≤◌, Bool, true, List, [], ◌++◌, length, Option, None, Some, refl}
use Rattle.std.proofs.Common.{subst, arith}
use Rattle.std.proofs.lemmas.List.FromFn.{length-map-range_with_len}
use Rattle.cc_entry.specs.Place.{File}
use Rattle.cc_entry.specs.declared.call.Call.{Call}
use Rattle.cc_entry.specs.declared.call.Call.TheVariants as call
use Rattle.cc_entry.specs.declared.query.Query.TheVariants as query
use Rattle.cc_entry.specs.declared.entry.Entry.{Entry}
use Rattle.cc_entry.specs.declared.place.FileState.{FileState}
use Rattle.cc_entry.specs.declared.reply.Outcome.TheVariants as outcome
use Rattle.cc_entry.specs.declared.reply.Reply.{Reply}
use Rattle.cc_entry.specs.declared.reply.Reply.TheVariants as reply
use Rattle.cc_entry.specs.declared.query.Value.TheVariants as value
use Rattle.cc_effects.specs.Calls.{CallLeft}
use Rattle.cc_effects.proofs.FrontLaws.{outcome-defined}
use Rattle.cc_model.specs.Bytes.{answer, answer_length, byte_of}
use Rattle.cc_model.specs.Good.{IsGood}
use Rattle.cc_model.specs.History.{Effect}
use Rattle.cc_model.specs.Legal.{stream_history, stream_opening}
use Rattle.cc_model.specs.Queries.{state_of}
use Rattle.cc_model.specs.Replies.{IsReply, Reads}
use Rattle.cc_model.specs.Setup.{Setup}
use Rattle.cc_model.specs.Stamps.{lsns_over}
use Rattle.cc_model.specs.Throttle.{may_go, pages_for}
use Rattle.cc_model.specs.Touches.{dirty_pages}
use Rattle.cc_calls.specs.Answers.{is_setting}

-- whether a call answers no value: one that sets something of its stream, or changes bytes
abbrev pub answers_nothing : Call → Bool
answers_nothing (call.CopyWrite file at bytes) = true
answers_nothing (call.Zero file span) = true
answers_nothing other = is_setting other

unit : (u : Setup) (past : List Entry) (told : Option (ℕ → List ℕ)) (h : List Effect) (pass : ℕ) (it : Call) (r : Reply) → answers_nothing it ≡ true → IsReply u past told h pass it r → r ≡ reply.Unit
unit u past told h pass (call.CopyWrite file at bytes) r none is = is
unit u past told h pass (call.Zero file span) r none is = is
unit u past told h pass (call.Initialise file sizes quota temporary) r none is = is
unit u past told h pass (call.SetSizes file allocation size) r none is = is
unit u past told h pass (call.SetLog file handle) r none is = is
unit u past told h pass (call.SetGranularity file bytes) r none is = is
unit u past told h pass (call.SetAttributes file no_read_ahead no_write_behind) r none is = is
unit u past told h pass (call.SetThreshold file pages) r none is = is
unit u past told h pass other r none is = absurd (cc)

-- such a call that is done was told nothing
pub told-nothing : (u : Setup) (me : ℕ) (it : Call) (r : Reply) (old new : List Entry) → answers_nothing it ≡ true → IsGood u new → CallLeft u me it (outcome.Done r) old new → CallLeft u me it (outcome.Done reply.Unit) old new
told-nothing u me it r old new none good left =
    let d = outcome-defined u me it (outcome.Done r) old new [] good left refl in
    subst (λ (x : Reply). CallLeft u me it (outcome.Done x) old new) (unit u _ (stream_opening u d.1) (stream_history _ d.1) me it r none d.5.1) left

-- the state of a stream, where that was asked
pub state-reply : (u : Setup) (me : ℕ) (file : File) (r : Reply) (old new : List Entry) → IsGood u new → CallLeft u me (call.Query (query.State file)) (outcome.Done r) old new → (state : FileState) × (r ≡ reply.Value (value.State state))
state-reply u me file r old new good left =
    let d = outcome-defined u me (call.Query (query.State file)) (outcome.Done r) old new [] good left refl in
    (state_of (stream_history _ d.1), d.5.1)

-- its LSNs, where those were asked
pub lsns-reply : (u : Setup) (me : ℕ) (file : File) (r : Reply) (old new : List Entry) → IsGood u new → CallLeft u me (call.Query (query.LsnForFile file)) (outcome.Done r) old new → (lsns : Option (ℕ × ℕ)) × (r ≡ reply.Value (value.Lsns lsns))
lsns-reply u me file r old new good left =
    let d = outcome-defined u me (call.Query (query.LsnForFile file)) (outcome.Done r) old new [] good left refl in
    let h = stream_history _ d.1 in
    (lsns_over h (dirty_pages h), d.5.1)

-- The bytes of a read, no more than it asks.
pub record IsRead (r : Reply) (len : ℕ) : Type 0 where
  pub bytes : List ℕ
  pub is : r ≡ reply.Read bytes
  pub within : length bytes ≤ len

reads : (told : Option (ℕ → List ℕ)) (h : List Effect) (at len : ℕ) (r : Reply) → Reads told h at len r → IsRead r len
unfolding answer
reads None h at len r is = record { bytes = is.bytes; is = is.is; within = omega (arith, is.long) }
reads (Some pages) h at len r is = record {
  bytes = answer pages h at len;
  is = is;
  within = let long = length-map-range_with_len (byte_of pages h) at (answer_length h at len) in omega (arith, long);
}

pub read-reply : (u : Setup) (me : ℕ) (file : File) (at len : ℕ) (wait : Bool) (r : Reply) (old new : List Entry) → IsGood u new → CallLeft u me (call.CopyRead file at len wait) (outcome.Done r) old new → IsRead r len
read-reply u me file at len wait r old new good left =
    let d = outcome-defined u me (call.CopyRead file at len wait) (outcome.Done r) old new [] good left refl in
    reads (stream_opening u d.1) (stream_history _ d.1) at len r d.5.1

-- whether a write may go, where that was asked
pub may-reply : (u : Setup) (me : ℕ) (file : File) (bytes : ℕ) (r : Reply) (old new : List Entry) → IsGood u new → CallLeft u me (call.Query (query.CanWrite file bytes)) (outcome.Done r) old new → (flag : Bool) × (r ≡ reply.Value (value.Flag flag))
may-reply u me file bytes r old new good left =
    let d = outcome-defined u me (call.Query (query.CanWrite file bytes)) (outcome.Done r) old new [] good left refl in
    (may_go u (d.3 ++ old) file.stream (pages_for bytes), d.5.1)
