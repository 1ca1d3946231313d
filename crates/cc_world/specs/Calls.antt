-- A call that ends on the book of its stream and the journal: what it asks of them, and what it leaves.
use Rattle.std.specs.Prelude.{◌≡◌, ℕ, ◌+◌, ◌<◌, ◌≤◌, Bool, true, false, List, [], ◌∷◌, ◌++◌, length, Result, Ok, Err}
use Rattle.std.specs.declared.option.Option.{Option}
use Rattle.std.specs.declared.option.Option.TheVariants.{Some, None}
use Rattle.cc_entry.specs.Queries.{is_of_stream}
use Rattle.cc_entry.specs.declared.call.Call.{Call}
use Rattle.cc_entry.specs.declared.call.Call.TheVariants as call
use Rattle.cc_entry.specs.declared.entry.Entry.{Entry}
use Rattle.cc_entry.specs.declared.error.CcError.{CcError}
use Rattle.cc_entry.specs.declared.error.CcError.TheVariants as error
use Rattle.cc_entry.specs.declared.reply.Outcome.TheVariants as outcome
use Rattle.cc_entry.specs.declared.reply.Reply.{Reply}
use Rattle.cc_entry.specs.declared.reply.Reply.TheVariants as reply
use Rattle.cc_book.specs.Book.{BookState}
use Rattle.cc_journal.specs.Calls.{owed_end}
use Rattle.cc_journal.specs.Journal.{JournalState, room_of}
use Rattle.cc_model.specs.Acts.{file_of}
use Rattle.cc_model.specs.Allowed.{MayEnd}
use Rattle.cc_model.specs.Filing.{IsFiled}
use Rattle.cc_model.specs.History.{history}
use Rattle.cc_model.specs.Holds.{Hold, holds_of}
use Rattle.cc_model.specs.Replies.{IsReply}
use Rattle.cc_model.specs.Room.{reserved_in, places_asked}
use Rattle.cc_model.specs.Setup.{Setup}
use Rattle.cc_step.specs.Step.{StandUnder, places_spared}
use Rattle.cc_effects.specs.Events.{MayDo, asked_for, call_entry, filed_under, reason_of}
use Rattle.cc_effects.specs.declared.events.StepReply.{StepReply}
use Rattle.cc_effects.specs.declared.events.StepReply.TheVariants as step

-- Whether a call ends on its stream's book and the journal alone. A noncached read or store of a page uses the disk, and the
-- two calls that are left are filed under no stream.
abbrev pub ends_on_book : Call → Bool
ends_on_book (call.NcRead file page) = false
ends_on_book (call.NcStore file page bytes) = false
ends_on_book (call.Query query) = is_of_stream query
ends_on_book other = true

-- A book and a journal stand under a setup. So many places are reserved in the journal beyond what its entries owe.
pub record BookStandsUnder {Q : Type 0} (u : Setup) (more : ℕ) (b : BookState) (j : JournalState Q) : Type 0 where
  pub stand : StandUnder u b j
  pub known : b.stream < 16
  pub reserved : j.reserved ≡ reserved_in j.entries + more

-- Whether a call that is done places its entry alone. Behind that of a noncached store the begin of a transfer is placed.
abbrev pub places_one : Call → Bool
places_one (call.NcStore file page bytes) = false
places_one other = true

-- A call is made that is filed under the book's stream.
pub record CallIsMade {Q : Type 0} (u : Setup) (more : ℕ) (it : Call) (b : BookState) (j : JournalState Q) : Type 0 where
  pub stands : BookStandsUnder u more b j
  pub here : filed_under j.entries it ≡ Some b.stream

-- a call of a pass may be filed under a stream: it names a file, or an open hold of the pass, of its kind and with its range
abbrev pub IsFiledOn : List Entry → ℕ → ℕ → Call → Type 0
IsFiledOn past pass s it = IsFiled (holds_of (history past s)) pass (Some s) it (file_of it)

-- a reply with which a call may end now
pub record MayReply (u : Setup) (past : List Entry) (pass s : ℕ) (it : Call) (r : Reply) : Type 0 where
  pub reply_is : IsReply u past (u.opening s) (history past s) pass it r
  pub may_end : MayEnd u past pass (Some s) it (outcome.Done r)

-- What a call answers that may end now; none where it may not.
abbrev pub IsCallAnswer : Setup → List Entry → ℕ → ℕ → Call → Option Reply → Type 0
IsCallAnswer u past pass s it None = (r : Reply) → MayReply u past pass s it r → ⊥
IsCallAnswer u past pass s it (Some r) = MayReply u past pass s it r

-- a call of a pass is made, and is refused so
pub record CallIsRefusedSo {Q : Type 0} (u : Setup) (pass : ℕ) (it : Call) (e : CcError) (b : BookState) (j : JournalState Q)
    : Type 0 where
  pub made : CallIsMade u 0 it b j
  pub filed : IsFiledOn j.entries pass b.stream it
  pub reason : reason_of u j.entries it ≡ Some e

-- it is made and places its entry alone, and nothing refuses it
pub record CallIsUnrefused {Q : Type 0} (u : Setup) (more pass : ℕ) (it : Call) (b : BookState) (j : JournalState Q)
    : Type 0 where
  pub made : CallIsMade u more it b j
  pub alone : places_one it ≡ true
  pub filed : IsFiledOn j.entries pass b.stream it
  pub admitted : reason_of u j.entries it ≡ None

-- it may end now with this reply
pub record IsReplied {Q : Type 0} (u : Setup) (more pass : ℕ) (it : Call) (r : Reply) (b : BookState) (j : JournalState Q)
    : Type 0 where
  pub unrefused : CallIsUnrefused u more pass it b j
  pub may : MayReply u j.entries pass b.stream it r

-- how many places it asks then, with that of its entry
abbrev pub asked_ready : List Entry → ℕ → Call → ℕ
asked_ready past pass it = asked_for past pass it None

-- the same, by the open holds of its stream: the end of a noncached write has its place
abbrev pub asked_on : List Hold → Call → ℕ
asked_on holds (call.NcWrite file page) = 0
asked_on holds it = places_asked holds it

-- How many reserved places it gives back, beside that of its entry: that of a set-dirty, where it ends a pin that owes one,
-- and that of the end of a noncached write that the pass owed, where it is not that end.
abbrev pub spared_on : List Entry → ℕ → ℕ → Call → ℕ
spared_on past pass s (call.NcWrite file page) = 0
spared_on past pass s it = places_spared (holds_of (history past s)) it + owed_end past pass

-- These entries were placed, and the book stands for the journal after.
pub record CallWent {Q : Type 0} (u : Setup) (added : List Entry) (b c : BookState) (j k : JournalState Q) : Type 0 where
  pub stands : BookStandsUnder u 0 c k
  pub placed : k ≡ record j { entries = added ++ j.entries; reserved = k.reserved; rows = k.rows }
  pub stream : c.stream ≡ b.stream

-- What the placing of a call's entry leaves that may be done with this reply. There is no room exactly where there is less
-- than it asks, and then nothing changed.
abbrev pub CallPlacingLeft : {Q : Type 0} → Setup → ℕ → Call → Reply → Result (Unit {0}) CcError
    → BookState → BookState → JournalState Q → JournalState Q → Type 0
CallPlacingLeft u pass it r (Err (error.JournalFull entries)) b c j k =
    (room_of j < asked_ready j.entries pass it) × (entries ≡ length j.entries) × (c ≡ b) × (k ≡ j)
CallPlacingLeft u pass it r (Err error.NoMemory) b c j k = CallWent u [] b c j k
CallPlacingLeft u pass it r (Err other) b c j k = ⊥
CallPlacingLeft u pass it r (Ok done) b c j k =
    (asked_ready j.entries pass it ≤ room_of j) × CallWent u (call_entry j.entries pass it (outcome.Done r) ∷ []) b c j k

-- What a call leaves. It is not now exactly where it may not end, and refused for want of room exactly where there is less
-- than it asks; then nothing changed.
abbrev pub CallEventLeft : {Q : Type 0} → Setup → ℕ → Call → StepReply Q
    → BookState → BookState → JournalState Q → JournalState Q → Type 0
CallEventLeft u pass it step.NotNow b c j k = (MayDo u j.entries pass it → ⊥) × (c ≡ b) × (k ≡ j)
CallEventLeft u pass it (step.Refused (error.JournalFull entries)) b c j k =
    MayDo u j.entries pass it × (room_of j < asked_for j.entries pass it (reason_of u j.entries it))
    × (entries ≡ length j.entries) × (c ≡ b) × (k ≡ j)
CallEventLeft u pass it (step.Refused error.NoMemory) b c j k = CallWent u [] b c j k
CallEventLeft u pass it (step.Refused e) b c j k =
    MayDo u j.entries pass it × (asked_for j.entries pass it (reason_of u j.entries it) ≤ room_of j)
    × (reason_of u j.entries it ≡ Some e)
    × CallWent u (call_entry j.entries pass it (outcome.Failed e) ∷ []) b c j k
CallEventLeft u pass it (step.Done r) b c j k =
    MayDo u j.entries pass it × (asked_for j.entries pass it (reason_of u j.entries it) ≤ room_of j)
    × (reason_of u j.entries it ≡ None)
    × CallWent u (call_entry j.entries pass it (outcome.Done r) ∷ []) b c j k
CallEventLeft u pass it other b c j k = ⊥

-- the reply to a call that answers nothing but that it is done, where it may end
abbrev pub unit_if : Bool → Option Reply
unit_if true = Some reply.Unit
unit_if false = None
