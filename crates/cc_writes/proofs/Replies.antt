-- What the reply of a call has room in, and what is said of a journal that is full.
use Rattle.std.specs.Prelude.{◌≡◌, ℕ, ◌+◌, ◌-◌, ◌<◌, ◌≤◌, Bool, true, false, List, ◌∷◌, length, Option, None, Some, Err, refl}
use Rattle.std.specs.List.{range_with_len}
use Rattle.std.proofs.Common.{ap, sym, ◌∙◌, subst, inl, inr, arith}
use Rattle.std.proofs.lemmas.List.{length-map}
use Rattle.std.proofs.lemmas.List.FromFn.{length-range_with_len}
use Rattle.cc_entry.specs.Queries.{is_of_stream}
use Rattle.cc_entry.specs.declared.call.Call.{Call}
use Rattle.cc_entry.specs.declared.call.Call.TheVariants as call
use Rattle.cc_entry.specs.declared.query.Query.TheVariants as query
use Rattle.cc_entry.specs.declared.entry.Entry.{Entry}
use Rattle.cc_entry.specs.declared.error.CcError.{CcError}
use Rattle.cc_entry.specs.declared.error.CcError.TheVariants as error
use Rattle.cc_entry.specs.declared.query.Query.{Query}
use Rattle.cc_entry.specs.declared.reply.Reply.{Reply}
use Rattle.cc_entry.specs.declared.reply.Reply.TheVariants as reply
use Rattle.cc_book.specs.Book.{done}
use Rattle.cc_journal.specs.Journal.{JournalState}
use Rattle.cc_model.specs.Bytes.{answer, answer_length, byte_of}
use Rattle.cc_model.specs.Good.{IsGood}
use Rattle.cc_model.specs.History.{Effect, history}
use Rattle.cc_model.specs.Legal.{IsLegal, IsLegalEntry}
use Rattle.cc_model.specs.Queries.{IsQueryReply}
use Rattle.cc_model.specs.Replies.{IsReply, Reads}
use Rattle.cc_model.specs.Setup.{Setup}
use Rattle.cc_step.specs.Step.{is_stepped, IsStop}
use Rattle.cc_step.proofs.Reasons.{is_listed}
use Rattle.cc_turns.specs.Journal.{JournalStands}
use Rattle.cc_turns.specs.Standing.{Standing}
use Rattle.cc_writes.specs.Told.{FitsReply}
use Rattle.cc_writes.specs.Ways.{ReadFitsIn, IsFull}

-- the reply of a done call is the one that the definition gives at its front
pub replied : (u : Setup) (pass s : ℕ) (it : Call) (r : Reply) (past : List Entry) → IsGood u (done pass past s it r ∷ past) → IsReply u past (u.opening s) (history past s) pass it r
unfolding IsLegal IsLegalEntry
replied u pass s it r past good = good.legal.0.1

read-short : (h : List Effect) (at len : ℕ) → answer_length h at len ≤ len
read-short h at len = omega arith

-- a read answers at most as many bytes as it asks for
pub reads-fit : (told : Option (ℕ → List ℕ)) (h : List Effect) (at len : ℕ) (r : Reply) (out : List ℕ) → Reads told h at len r → len ≤ length out → FitsReply r out
unfolding answer
reads-fit None h at len r out reads fits =
    let short = read-short h at len in
    subst (λ (x : Reply). FitsReply x out) (sym reads.is) (omega (arith, reads.long, short, fits))
reads-fit (Some pages) h at len r out reads fits =
    let short = read-short h at len in
    let long : length (answer pages h at len) ≡ answer_length h at len = length-map (range_with_len at (answer_length h at len)) (byte_of pages h) ∙ length-range_with_len at (answer_length h at len) in
    subst (λ (x : Reply). FitsReply x out) (sym reads) (omega (arith, long, short, fits))

-- a reply that a caller is told without what it handed in
abbrev pub is_told_whole : Reply → Bool
is_told_whole (reply.Value found) = true
is_told_whole other = false

whole-fits : (r : Reply) (out : List ℕ) → is_told_whole r ≡ true → FitsReply r out
whole-fits (reply.Value found) out whole = tt
whole-fits other out whole = absurd (cc)

-- such is the reply of a query of a stream
pub query-told_whole : (u : Setup) (past : List Entry) (told : Option (ℕ → List ℕ)) (h : List Effect) (asked : Query) (r : Reply) → is_of_stream asked ≡ true → IsQueryReply u past told h asked r → is_told_whole r ≡ true
query-told_whole u past told h (query.State file) r here is = rw is refl
query-told_whole u past told h (query.LsnForFile file) r here is = rw is refl
query-told_whole u past told h (query.CanWrite file bytes) r here is = rw is refl
query-told_whole u past told h other r here is = absurd (cc)

pub fits-reply : (u : Setup) (past : List Entry) (told : Option (ℕ → List ℕ)) (h : List Effect) (pass : ℕ) (it : Call) (r : Reply) (out : List ℕ) → is_stepped it ≡ true → IsReply u past told h pass it r → ReadFitsIn it out → FitsReply r out
fits-reply u past told h pass (call.CopyRead file at len wait) r out here is fits = reads-fit told h at len r out is fits
fits-reply u past told h pass (call.MappedRead hold at len) r out here is fits = reads-fit told h at len r out is fits
fits-reply u past told h pass (call.PinnedRead hold at len) r out here is fits = reads-fit told h at len r out is fits
fits-reply u past told h pass (call.MdlBytes hold at len) r out here is fits = reads-fit told h at len r out is fits
fits-reply u past told h pass (call.Initialise file sizes quota temporary) r out here is fits = rw is tt
fits-reply u past told h pass (call.Uninitialise file truncate) r out here is fits = rw is tt
fits-reply u past told h pass (call.CopyWrite file at bytes) r out here is fits = rw is tt
fits-reply u past told h pass (call.Zero file span) r out here is fits = rw is tt
fits-reply u past told h pass (call.Map file at len) r out here is fits = rw is tt
fits-reply u past told h pass (call.PinRead file at len exclusive) r out here is fits = rw is tt
fits-reply u past told h pass (call.PinMapped hold exclusive) r out here is fits = rw is tt
fits-reply u past told h pass (call.PreparePin file at len zero exclusive) r out here is fits = rw is tt
fits-reply u past told h pass (call.PinnedWrite hold at bytes) r out here is fits = rw is tt
fits-reply u past told h pass (call.SetDirty hold lsn) r out here is fits = rw is tt
fits-reply u past told h pass (call.EndHold hold) r out here is fits = rw is tt
fits-reply u past told h pass (call.Repin hold) r out here is fits = rw is tt
fits-reply u past told h pass (call.MdlRead file at len) r out here is fits = rw is tt
fits-reply u past told h pass (call.MdlWrite file at len) r out here is fits = rw is tt
fits-reply u past told h pass (call.MdlStore hold at bytes) r out here is fits = rw is tt
fits-reply u past told h pass (call.SetSizes file allocation size) r out here is fits = rw is tt
fits-reply u past told h pass (call.Query asked) r out here is fits = whole-fits r out (query-told_whole u past told h asked r here is)
fits-reply u past told h pass (call.SetLog file handle) r out here is fits = rw is tt
fits-reply u past told h pass (call.SetGranularity file bytes) r out here is fits = rw is tt
fits-reply u past told h pass (call.SetAttributes file no_read_ahead no_write_behind) r out here is fits = rw is tt
fits-reply u past told h pass (call.SetThreshold file pages) r out here is fits = rw is tt
fits-reply u past told h pass (call.AskAhead file at len) r out here is fits = rw is tt
fits-reply u past told h pass (call.AheadStep request) r out here is fits = rw is tt
fits-reply u past told h pass other r out here is fits = absurd (cc)

-- a listed refusal says nothing of a full journal, nor does a fault
pub full-listed : (A : Type 0) (asked : ℕ) (w : Standing) (e : CcError) → is_listed e ≡ true → IsFull {A = A} asked w (Err e)
full-listed A asked w (error.JournalFull entries) listed = absurd (cc)
full-listed A asked w other listed = tt

-- a step that stopped for want of room found the journal full as the pass gave it
pub full-stopped : {Q : Type 0} (A : Type 0) (posted : Q → Bool) (asked : ℕ) (w : Standing) (k : JournalState Q) (e : CcError) → JournalStands posted w k → IsStop asked e k → IsFull {A = A} asked w (Err e)
full-stopped {Q = Q} A posted asked w k e js (inl full) =
    subst (λ (x : CcError). IsFull {A = A} asked w (Err x)) (sym full.0)
    (ap length js.entries_are, room w.setup.capacity k.capacity (length w.seen) (length k.entries) k.reserved _ js.capacity_is (ap length js.entries_are) js.reserved_is full.1)
  where
    room : (capacity limit seen entries reserved owed : ℕ) → limit ≡ capacity → entries ≡ seen → reserved ≡ owed → limit - (entries + reserved) < asked → capacity < seen + owed + asked
    room capacity limit seen entries reserved owed a e r few = omega (arith, a, e, r, few)
full-stopped {Q = Q} A posted asked w k e js (inr none) = subst (λ (x : CcError). IsFull {A = A} asked w (Err x)) (sym none.0) tt
