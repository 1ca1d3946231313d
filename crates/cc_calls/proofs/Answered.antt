-- What a call on a hold answers in a good journal: nothing, the hold that it makes, or all the bytes of a read.
use Rattle.std.specs.Prelude.{◌≡◌, ℕ, ◌+◌, ◌≤◌, Bool, true, List, [], ◌++◌, ◌==◌, length}
use Rattle.std.specs.declared.option.Option.{Option}
use Rattle.std.specs.declared.option.Option.TheVariants.{Some, None}
use Rattle.std.proofs.Common.{subst, arith}
use Rattle.std.proofs.lemmas.Bool.{eqb-true}
use Rattle.std.proofs.lemmas.List.FromFn.{length-map-range_with_len}
use Rattle.cc_entry.specs.Place.{File}
use Rattle.cc_entry.specs.declared.call.Call.{Call}
use Rattle.cc_entry.specs.declared.call.Call.TheVariants as call
use Rattle.cc_entry.specs.declared.entry.Entry.{Entry}
use Rattle.cc_entry.specs.declared.hold.HoldKind.{HoldKind}
use Rattle.cc_entry.specs.declared.reply.Outcome.TheVariants as outcome
use Rattle.cc_entry.specs.declared.reply.Reply.{Reply}
use Rattle.cc_entry.specs.declared.reply.Reply.TheVariants as reply
use Rattle.cc_entry.specs.Kinds.{is_map, is_pin, is_read_chain}
use Rattle.cc_effects.specs.Calls.{CallLeft, IsDone}
use Rattle.cc_effects.proofs.FrontLaws.{legal-tail}
use Rattle.cc_model.specs.Bytes.{answer, answer_length, byte_of}
use Rattle.cc_model.specs.Filing.{serves_range}
use Rattle.cc_model.specs.Good.{IsGood, IsGoodSoFar}
use Rattle.cc_model.specs.History.{Effect}
use Rattle.cc_model.specs.Holds.{hold_at, holds_of}
use Rattle.cc_model.specs.Legal.{IsLegal, IsLegalEntry, stream_history, stream_opening}
use Rattle.cc_model.specs.Replies.{IsReply, Reads}
use Rattle.cc_model.specs.Setup.{Setup}
use Rattle.cc_model.specs.Touches.{size_of}
use Rattle.cc_own.proofs.CallsKeep.{at-front}
use Rattle.cc_own.proofs.HeldPages.{served-within}
use Rattle.cc_calls.specs.Ends.{MakesHold, fills, writes_through}
use Rattle.cc_calls.proofs.Holding.{so-far}

-- the reply of a done call is the one that the definition gives at its front
reply-defined : (u : Setup) (me : ℕ) (it : Call) (r : Reply) (old new : List Entry) (left : IsDone me it r old new) → IsGood u new → IsReply u (left.earlier ++ old) (stream_opening u left.placed.stream) (stream_history (left.earlier ++ old) left.placed.stream) me it r
unfolding IsLegal IsLegalEntry
reply-defined u me it r old new left good = (legal-tail u left.placed.later _ (subst (IsLegal u) left.placed.grew good.legal)).0.1

write-unit : (u : Setup) (past : List Entry) (told : Option (ℕ → List ℕ)) (h : List Effect) (me : ℕ) (it : Call) (r : Reply) → writes_through it ≡ true → IsReply u past told h me it r → r ≡ reply.Unit
write-unit u past told h me (call.PinnedWrite hold at bytes) r writes is = is
write-unit u past told h me (call.SetDirty hold lsn) r writes is = is
write-unit u past told h me (call.MdlStore hold at bytes) r writes is = is
write-unit u past told h me other r writes is = absurd (cc)

made-id : (u : Setup) (past : List Entry) (told : Option (ℕ → List ℕ)) (h : List Effect) (me : ℕ) (it : Call) (r : Reply) (file : File) (at len : ℕ) → MakesHold it file at len → IsReply u past told h me it r → (n : ℕ) × (r ≡ reply.Hold n)
made-id u past told h me (call.Map its_file its_at its_len) r file at len makes is = (_, is)
made-id u past told h me (call.PinRead its_file its_at its_len exclusive) r file at len makes is = (_, is)
made-id u past told h me (call.PreparePin its_file its_at its_len zero exclusive) r file at len makes is = (_, is)
made-id u past told h me (call.MdlRead its_file its_at its_len) r file at len makes is = (_, is)
made-id u past told h me (call.MdlWrite its_file its_at its_len) r file at len makes is = (_, is)
made-id u past told h me other r file at len makes is = absurd makes

module _ (u : Setup) (me : ℕ) (old new : List Entry) (good : IsGood u new) where
  -- the end of a hold is told nothing
  pub end-told : (id : ℕ) (r : Reply) → CallLeft u me (call.EndHold id) (outcome.Done r) old new → CallLeft u me (call.EndHold id) (outcome.Done reply.Unit) old new
  end-told id r left =
      subst (λ (x : Reply). CallLeft u me (call.EndHold id) (outcome.Done x) old new) (reply-defined u me (call.EndHold id) r old new left good) left

  -- so is a call that writes through one
  pub write-told : (it : Call) (r : Reply) → writes_through it ≡ true → CallLeft u me it (outcome.Done r) old new → CallLeft u me it (outcome.Done reply.Unit) old new
  write-told it r writes left =
      let is = write-unit u _ _ _ me it r writes (reply-defined u me it r old new left good) in
      subst (λ (x : Reply). CallLeft u me it (outcome.Done x) old new) is left

  -- a call that makes a hold is told its id
  pub made-told : (it : Call) (file : File) (at len : ℕ) (r : Reply) → MakesHold it file at len → CallLeft u me it (outcome.Done r) old new → (n : ℕ) × (r ≡ reply.Hold n)
  made-told it file at len r makes left = made-id u _ _ _ me it r file at len makes (reply-defined u me it r old new left good)

  pub repin-told : (named : ℕ) (r : Reply) → CallLeft u me (call.Repin named) (outcome.Done r) old new → (n : ℕ) × (r ≡ reply.Hold n)
  repin-told named r left = (_, reply-defined u me (call.Repin named) r old new left good)

  -- the pin of a map is told the id of the map
  pub pinned-told : (named : ℕ) (exclusive : Bool) (r : Reply) → CallLeft u me (call.PinMapped named exclusive) (outcome.Done r) old new → r ≡ reply.Hold named
  pinned-told named exclusive r left = reply-defined u me (call.PinMapped named exclusive) r old new left good

-- A read answers all the bytes that it asks for.
abbrev pub IsFullRead : ℕ → Reply → Type 0
IsFullRead n r = (bytes : List ℕ) × ((r ≡ reply.Read bytes) × (length bytes ≡ n))

all-read : (told : Option (ℕ → List ℕ)) (h : List Effect) (at n : ℕ) (r : Reply) → at + n ≤ size_of h → Reads told h at n r → IsFullRead n r
unfolding answer
all-read None h at n r within is = (is.bytes, (is.is, omega (arith, is.long, within)))
all-read (Some pages) h at n r within is =
    let long = length-map-range_with_len (byte_of pages h) at (answer_length h at n) in
    (answer pages h at n, (is, omega (arith, long, within)))

none-open : (of_kind : HoldKind → Bool) (me at n named : ℕ) → serves_range me of_kind at n (hold_at (holds_of []) named) ≡ true → ⊥
unfolding holds_of
none-open of_kind me at n named filed = cc filed

within : (u : Setup) (me named at n : ℕ) (of_kind : HoldKind → Bool) (past : List Entry) (stream : Option ℕ) → IsGoodSoFar u past → serves_range me of_kind at n (hold_at (holds_of (stream_history past stream)) named) ≡ true → at + n ≤ size_of (stream_history past stream)
within u me named at n of_kind past None good filed = absurd (none-open of_kind me at n named filed)
within u me named at n of_kind past (Some s) good filed = served-within u me s named of_kind at n past good filed

read-all : (u : Setup) (me n named at len : ℕ) (of_kind : HoldKind → Bool) (r : Reply) (past : List Entry) (stream : Option ℕ) → (len == n) ≡ true → IsGoodSoFar u past → serves_range me of_kind at len (hold_at (holds_of (stream_history past stream)) named) ≡ true → Reads (stream_opening u stream) (stream_history past stream) at len r → IsFullRead n r
read-all u me n named at len of_kind r past stream full good filed is =
    subst (λ m. IsFullRead m r) (eqb-true len n full)
    (all-read (stream_opening u stream) (stream_history past stream) at len r (within u me named at len of_kind past stream good filed) is)

pub read-told : (u : Setup) (me n : ℕ) (it : Call) (r : Reply) (old new : List Entry) → fills it n ≡ true → IsGood u new → CallLeft u me it (outcome.Done r) old new → IsFullRead n r
read-told u me n (call.MappedRead named at len) r old new full good left =
    read-all u me n named at len is_map r (left.earlier ++ old) left.placed.stream full (at-front u me _ _ left.earlier old new left.placed (so-far u new good)) left.placed.filed
    (reply-defined u me (call.MappedRead named at len) r old new left good)
read-told u me n (call.PinnedRead named at len) r old new full good left =
    read-all u me n named at len is_pin r (left.earlier ++ old) left.placed.stream full (at-front u me _ _ left.earlier old new left.placed (so-far u new good)) left.placed.filed
    (reply-defined u me (call.PinnedRead named at len) r old new left good)
read-told u me n (call.MdlBytes named at len) r old new full good left =
    read-all u me n named at len is_read_chain r (left.earlier ++ old) left.placed.stream full (at-front u me _ _ left.earlier old new left.placed (so-far u new good)) left.placed.filed
    (reply-defined u me (call.MdlBytes named at len) r old new left good)
read-told u me n other r old new full good left = absurd (cc)
