-- A line that found the journal full left what was there before it, so the end of the line is one of its moments.
use Rattle.std.specs.Prelude.{◌≡◌, ℕ, ◌≤◌, Bool, true, false, ◌||◌, Result, Ok, Err, List, [], ◌∷◌, ◌++◌, refl}
use Rattle.std.specs.declared.option.Option.{Option}
use Rattle.std.specs.declared.option.Option.TheVariants.{Some, None}
use Rattle.std.proofs.Common.{ap, sym, ◌∙◌, append_assoc, arith, subst, inl, inr}
use Rattle.cc_entry.specs.Kinds.{is_map, is_pin, is_repin, is_read_chain, is_write_chain}
use Rattle.cc_entry.specs.declared.answer.Answer.{Answer}
use Rattle.cc_entry.specs.declared.answer.Answer.TheVariants as answer
use Rattle.cc_entry.specs.declared.answer.AsyncDone.{AsyncDone}
use Rattle.cc_entry.specs.declared.call.Call.{Call}
use Rattle.cc_entry.specs.declared.call.Call.TheVariants as call
use Rattle.cc_entry.specs.declared.entry.Entry.{Entry}
use Rattle.cc_entry.specs.declared.entry.Entry.TheVariants as entry
use Rattle.cc_entry.specs.declared.reply.Outcome.TheVariants as outcome
use Rattle.cc_entry.specs.declared.reply.Reply.TheVariants as reply
use Rattle.cc_entry.specs.declared.error.CcError.{CcError}
use Rattle.cc_entry.specs.declared.error.CcError.TheVariants as error
use Rattle.cc_entry.specs.declared.hold.HoldKind.{HoldKind}
use Rattle.cc_script.specs.declared.script.Action.{Action}
use Rattle.cc_script.specs.declared.script.Action.TheVariants as action
use Rattle.cc_model.specs.Passes.{HasSeen}
use Rattle.cc_model.specs.Setup.{Setup}
use Rattle.cc_effects.specs.Moments.{Between}
use Rattle.cc_effects.specs.Repins.{UnpinLeft}
use Rattle.cc_effects.proofs.Stretches.{grew-after}
use Rattle.cc_own.proofs.Unchanged.{unchanged-call}
use Rattle.cc_own.proofs.VerbsKeep.{ahead-unchanged, nc_read-unchanged, nc_write-unchanged, tick-unchanged}
use Rattle.cc_pieces.specs.Answered.{AppendAnswered, CallAnswered, LogFlushAnswered, PostsRefused, bytes_outcome}
use Rattle.cc_pieces.specs.Bindings.{Binding, OnHold, hold_named}
use Rattle.cc_pieces.specs.HoldLines.{HeldReadBy, HoldLine, UnpinAnswered}
use Rattle.cc_pieces.specs.Served.{Served}
use Rattle.cc_turns.specs.Standing.{Standing}
use Rattle.cc_calls.specs.Pages.{WentOn}
use Rattle.cc_writes.specs.Ways.{IsFullError}
use Rattle.cc_shim.specs.Ends.{WasFullError}
use Rattle.cc_lines.specs.Line.{IsFullIn, IsFullLine, WasFullIn, WasFullTold}
use Rattle.cc_lines.proofs.KeptByShim.{read-keeps, update-keeps, write-keeps}
use Rattle.cc_lines.proofs.SettleServed.{settled-unchanged}
use Rattle.cc_lines.proofs.CheckpointServed.{checkpoint-unchanged}

-- the journal has what it had, and more in front
record Grew (old new : List Entry) : Type 0 where
  during : List Entry
  grew : new ≡ during ++ old

module _ (u : Setup) (me entries : ℕ) (old new : List Entry) where
  abbrev full : Answer
  full = answer.Refused (error.JournalFull entries)

  grew-call : (it : Call) → CallAnswered u me it full old new → Grew old new
  grew-call it left = record { during = left.during; grew = left.grew }

  grew-seen : HasSeen old new → Grew old new
  grew-seen seen = record { during = seen.later; grew = seen.grew }

  grew-hold : (o : Option ℕ) (call_on : ℕ → Call) → OnHold me o (λ id. CallAnswered u me (call_on id)) full old new → Grew old new
  grew-hold None call_on left = absurd (cc (left.0))
  grew-hold (Some id) call_on left = grew-call (call_on id) left

  grew-read : (bindings : List Binding) (word at len : ℕ) (o : Option ℕ) → HeldReadBy u me bindings word at len o full old new → Grew old new
  grew-read bindings word at len (Some id) left = grew-call (call.MappedRead id at len) left
  grew-read bindings word at len None left = grew-hold (hold_named bindings word is_pin) (λ id. call.PinnedRead id at len) left

  grew-unpin : (through : Bool) (id : ℕ) → UnpinLeft u me id through (outcome.Failed (error.JournalFull entries)) old new → Grew old new
  grew-unpin false id left = record { during = left.during; grew = left.grew }
  grew-unpin true id left =
      let ended = left.2.done.placed in
      let own : List Entry = entry.Call me ended.nth ended.stream (call.EndHold id) (outcome.Done reply.Unit) ∷ left.2.done.earlier in
      record {
        during = (left.3.during ++ ended.later) ++ own;
        grew =
            grew-after left.3.during ended.later (own ++ old) left.0 new left.3.grew ended.grew
            ∙ sym (append_assoc (left.3.during ++ ended.later) own old);
      }

  grew-end : (through : Bool) (o : Option ℕ) → OnHold me o (UnpinAnswered u me through) full old new → Grew old new
  grew-end through None left = absurd (cc (left.0))
  grew-end through (Some id) ended = grew-unpin through id ended.left

  grew-append : (handle : ℕ) (bytes : List ℕ) → AppendAnswered u me handle bytes full old new → Grew old new
  grew-append handle bytes left = record { during = left.during; grew = left.grew }

  grew-log_flush : (handle lsn : ℕ) → LogFlushAnswered u me handle lsn full old new → Grew old new
  grew-log_flush handle lsn left = record { during = left.during; grew = left.grew }

  -- behind some posts
  grew-posts : (ids : List ℕ) (past : List Entry) → PostsRefused u me ids (error.JournalFull entries) past new → Grew past new
  grew-posts [] past left = record { during = left.during; grew = left.grew }
  grew-posts (id ∷ ids) past left =
      let rest = grew-posts ids left.0 left.2 in
      record { during = rest.during ++ left.1.idle.during; grew = grew-after rest.during left.1.idle.during past left.0 new rest.grew left.1.idle.grew }

  grew-served : (bindings : List Binding) (asked : Action) → Served u me bindings asked full old new → Grew old new
  grew-served bindings (action.Initialise file sizes quota temporary) left = grew-call (call.Initialise file sizes quota temporary) left
  grew-served bindings (action.Uninitialise file truncate) left = grew-call (call.Uninitialise file truncate) left
  grew-served bindings (action.CopyRead file at len wait) left = grew-call (call.CopyRead file at len wait) left
  grew-served bindings (action.CopyWrite file at bytes) left = grew-call (call.CopyWrite file at bytes) left
  grew-served bindings (action.Zero file span) left = grew-call (call.Zero file span) left
  grew-served bindings (action.Map file at len word) left = grew-call (call.Map file at len) left
  grew-served bindings (action.PinRead file at len word exclusive) left = grew-call (call.PinRead file at len exclusive) left
  grew-served bindings (action.PinMapped word exclusive) left = grew-hold (hold_named bindings word is_map) (λ id. call.PinMapped id exclusive) left
  grew-served bindings (action.PreparePin file at len word zero exclusive) left = grew-call (call.PreparePin file at len zero exclusive) left
  grew-served bindings (action.HeldRead word at len) left = grew-read bindings word at len (hold_named bindings word is_map) left
  grew-served bindings (action.PinnedWrite word at bytes) left = grew-hold (hold_named bindings word is_pin) (λ id. call.PinnedWrite id at bytes) left
  grew-served bindings (action.SetDirty word lsn) left = grew-hold (hold_named bindings word is_pin) (λ id. call.SetDirty id lsn) left
  grew-served bindings (action.Unpin word) left = grew-hold (hold_named bindings word _) (λ id. call.EndHold id) left
  grew-served bindings (action.Repin word made) left = grew-hold (hold_named bindings word is_pin) (λ id. call.Repin id) left
  grew-served bindings (action.UnpinRepinned word through) left = grew-end through (hold_named bindings word is_repin) left
  grew-served bindings (action.MdlRead file at len word) left = grew-call (call.MdlRead file at len) left
  grew-served bindings (action.MdlWrite file at len word) left = grew-call (call.MdlWrite file at len) left
  grew-served bindings (action.MdlBytes word at len) left = grew-hold (hold_named bindings word is_read_chain) (λ id. call.MdlBytes id at len) left
  grew-served bindings (action.MdlStore word at bytes) left = grew-hold (hold_named bindings word is_write_chain) (λ id. call.MdlStore id at bytes) left
  grew-served bindings (action.MdlDone word) left = grew-hold (hold_named bindings word _) (λ id. call.EndHold id) left
  grew-served bindings (action.MdlAbort word) left = grew-hold (hold_named bindings word is_write_chain) (λ id. call.EndHold id) left
  grew-served bindings (action.SetSizes file allocation size) left = grew-call (call.SetSizes file allocation size) left
  grew-served bindings (action.Query asked) left = grew-call (call.Query asked) left
  grew-served bindings (action.Flush file span) left = grew-call (call.Flush file span) left.left
  grew-served bindings (action.Purge file span) left = grew-call (call.Purge file span) left
  grew-served bindings (action.Discard file span) left = grew-call (call.Discard file span) left
  grew-served bindings (action.NcRead file at len) left = absurd left
  grew-served bindings (action.NcWrite file at bytes) left = absurd left
  grew-served bindings (action.Read file path at len) left = grew-seen (read-keeps u me file path at len full old new left).0
  grew-served bindings (action.Write file at bytes) left = grew-seen (write-keeps u me file at bytes full old new left).0
  grew-served bindings (action.Update file at bytes) left = grew-seen (update-keeps u me file at bytes full old new left).0
  grew-served bindings (action.Settle file) left =
      let kept = settled-unchanged u me 0 file full old new left in record { during = kept.during; grew = kept.grew }
  grew-served bindings (action.Checkpoint streams handle) left =
      let kept = checkpoint-unchanged u me 0 streams handle full old new left in record { during = kept.during; grew = kept.grew }
  grew-served bindings (action.Lock file span exclusive) left = record { during = left.during; grew = left.grew }
  grew-served bindings (action.Unlock file id) left = record { during = left.during; grew = left.grew }
  grew-served bindings (action.SetLog file handle) left = grew-call (call.SetLog file handle) left
  grew-served bindings (action.Append handle bytes) left = grew-append handle bytes left
  grew-served bindings (action.LogFlush handle lsn) left = grew-log_flush handle lsn left
  grew-served bindings (action.SetGranularity file bytes) left = grew-call (call.SetGranularity file bytes) left
  grew-served bindings (action.SetAttributes file no_read_ahead no_write_behind) left = grew-call (call.SetAttributes file no_read_ahead no_write_behind) left
  grew-served bindings (action.SetThreshold file pages) left = grew-call (call.SetThreshold file pages) left
  grew-served bindings (action.Defer file bytes retrying) left = record { during = left.during; grew = left.grew }
  grew-served bindings action.Post left = grew-posts left.0 old left.1
  grew-served bindings action.Tick left =
      let kept = tick-unchanged me 0 (Err (error.JournalFull entries)) old new left in record { during = kept.during; grew = kept.grew }
  grew-served bindings (action.AsyncRead file at len) left = record { during = left.during; grew = left.grew }
  grew-served bindings (action.AskAhead file at len) left = grew-call (call.AskAhead file at len) left
  grew-served bindings action.AheadStep left =
      let kept = ahead-unchanged u me 0 left.0 (Err (error.JournalFull entries)) old new left.1 in record { during = kept.during; grew = kept.grew }
  grew-served bindings other left = absurd left

-- the same where a noncached line tells it, which is the only one that is answered so
module _ (u : Setup) (me done : ℕ) (cause : CcError) (old new : List Entry) where
  abbrev cut_off : Answer
  cut_off = answer.NcRefused done cause

  never-hold : (o : Option ℕ) (Left : ℕ → Answer → Between) → ((id : ℕ) → Left id cut_off old new → ⊥) → OnHold me o Left cut_off old new → ⊥
  never-hold None Left never left = absurd (cc (left.0))
  never-hold (Some id) Left never left = never id left

  never-call : (bindings : List Binding) (word : ℕ) (of_kind : HoldKind → Bool) (call_on : ℕ → Call) → HoldLine u me bindings word of_kind call_on cut_off old new → ⊥
  never-call bindings word of_kind call_on left = never-hold (hold_named bindings word of_kind) (λ id. CallAnswered u me (call_on id)) (λ id is. is) left

  never-read : (bindings : List Binding) (word at len : ℕ) (o : Option ℕ) → HeldReadBy u me bindings word at len o cut_off old new → ⊥
  never-read bindings word at len (Some id) left = left
  never-read bindings word at len None left = never-call bindings word is_pin (λ id. call.PinnedRead id at len) left

  grew-cut_off : (bindings : List Binding) (asked : Action) → Served u me bindings asked cut_off old new → Grew old new
  grew-cut_off bindings (action.NcRead file at len) left =
      let kept = nc_read-unchanged u me 0 file at len (Err (done, cause)) old new left in record { during = kept.during; grew = kept.grew }
  grew-cut_off bindings (action.NcWrite file at bytes) left =
      let kept = nc_write-unchanged u me 0 file at bytes (Err (done, cause)) old new left in record { during = kept.during; grew = kept.grew }
  grew-cut_off bindings (action.Initialise file sizes quota temporary) left = absurd left
  grew-cut_off bindings (action.Uninitialise file truncate) left = absurd left
  grew-cut_off bindings (action.CopyRead file at len wait) left = absurd left
  grew-cut_off bindings (action.CopyWrite file at bytes) left = absurd left
  grew-cut_off bindings (action.Zero file span) left = absurd left
  grew-cut_off bindings (action.Map file at len word) left = absurd left
  grew-cut_off bindings (action.PinRead file at len word exclusive) left = absurd left
  grew-cut_off bindings (action.PinMapped word exclusive) left = absurd (never-call bindings word is_map (λ id. call.PinMapped id exclusive) left)
  grew-cut_off bindings (action.PreparePin file at len word zero exclusive) left = absurd left
  grew-cut_off bindings (action.HeldRead word at len) left = absurd (never-read bindings word at len (hold_named bindings word is_map) left)
  grew-cut_off bindings (action.PinnedWrite word at bytes) left = absurd (never-call bindings word is_pin (λ id. call.PinnedWrite id at bytes) left)
  grew-cut_off bindings (action.SetDirty word lsn) left = absurd (never-call bindings word is_pin (λ id. call.SetDirty id lsn) left)
  grew-cut_off bindings (action.Unpin word) left =
      absurd (never-call bindings word (λ its_kind. is_map its_kind || is_pin its_kind) (λ id. call.EndHold id) left)
  grew-cut_off bindings (action.Repin word made) left = absurd (never-call bindings word is_pin (λ id. call.Repin id) left)
  grew-cut_off bindings (action.UnpinRepinned word through) left =
      absurd (never-hold (hold_named bindings word is_repin) (UnpinAnswered u me through) (λ id is. is) left)
  grew-cut_off bindings (action.MdlRead file at len word) left = absurd left
  grew-cut_off bindings (action.MdlWrite file at len word) left = absurd left
  grew-cut_off bindings (action.MdlBytes word at len) left = absurd (never-call bindings word is_read_chain (λ id. call.MdlBytes id at len) left)
  grew-cut_off bindings (action.MdlStore word at bytes) left = absurd (never-call bindings word is_write_chain (λ id. call.MdlStore id at bytes) left)
  grew-cut_off bindings (action.MdlDone word) left =
      absurd (never-call bindings word (λ its_kind. is_read_chain its_kind || is_write_chain its_kind) (λ id. call.EndHold id) left)
  grew-cut_off bindings (action.MdlAbort word) left = absurd (never-call bindings word is_write_chain (λ id. call.EndHold id) left)
  grew-cut_off bindings (action.SetSizes file allocation size) left = absurd left
  grew-cut_off bindings (action.Query asked) left = absurd left
  grew-cut_off bindings (action.Flush file span) left = absurd left.left
  grew-cut_off bindings (action.Purge file span) left = absurd left
  grew-cut_off bindings (action.Discard file span) left = absurd left
  grew-cut_off bindings (action.Read file path at len) left = absurd left
  grew-cut_off bindings (action.Write file at bytes) left = absurd left
  grew-cut_off bindings (action.Update file at bytes) left = absurd left
  grew-cut_off bindings (action.Lock file span exclusive) left = absurd left
  grew-cut_off bindings (action.Unlock file id) left = absurd left
  grew-cut_off bindings (action.Levels file) left = absurd left
  grew-cut_off bindings (action.Settle file) left = absurd left
  grew-cut_off bindings (action.Checkpoint streams handle) left = absurd left
  grew-cut_off bindings (action.SetLog file handle) left = absurd left
  grew-cut_off bindings (action.Append handle bytes) left = absurd left
  grew-cut_off bindings (action.LogFlush handle lsn) left = absurd left
  grew-cut_off bindings (action.SetGranularity file bytes) left = absurd left
  grew-cut_off bindings (action.SetAttributes file no_read_ahead no_write_behind) left = absurd left
  grew-cut_off bindings (action.SetThreshold file pages) left = absurd left
  grew-cut_off bindings (action.Defer file bytes retrying) left = absurd left
  grew-cut_off bindings action.Post left = absurd left
  grew-cut_off bindings action.Tick left = absurd left
  grew-cut_off bindings action.AheadStep left = absurd left.1
  grew-cut_off bindings other left = absurd left

-- and where a line tells what a queued read was completed with, which is the completion of one alone
module _ (u : Setup) (me : ℕ) (done : AsyncDone) (old new : List Entry) where
  abbrev over : Answer
  over = answer.Completed (Some done)

  never-over : (o : Option ℕ) (Left : ℕ → Answer → Between) → ((id : ℕ) → Left id over old new → ⊥) → OnHold me o Left over old new → ⊥
  never-over None Left never left = absurd (cc (left.0))
  never-over (Some id) Left never left = never id left

  never-made : (bindings : List Binding) (word : ℕ) (of_kind : HoldKind → Bool) (call_on : ℕ → Call) → HoldLine u me bindings word of_kind call_on over old new → ⊥
  never-made bindings word of_kind call_on left = never-over (hold_named bindings word of_kind) (λ id. CallAnswered u me (call_on id)) (λ id is. is) left

  never-got : (bindings : List Binding) (word at len : ℕ) (o : Option ℕ) → HeldReadBy u me bindings word at len o over old new → ⊥
  never-got bindings word at len (Some id) left = left
  never-got bindings word at len None left = never-made bindings word is_pin (λ id. call.PinnedRead id at len) left

  grew-over : (bindings : List Binding) (asked : Action) → Served u me bindings asked over old new → Grew old new
  grew-over bindings action.Complete left =
      let kept = unchanged-call u me 0 (call.CopyRead done.file done.at done.len true) (bytes_outcome done.answer) old new left refl in
      record { during = kept.during; grew = kept.grew }
  grew-over bindings (action.PinMapped word exclusive) left = absurd (never-made bindings word is_map (λ id. call.PinMapped id exclusive) left)
  grew-over bindings (action.HeldRead word at len) left = absurd (never-got bindings word at len (hold_named bindings word is_map) left)
  grew-over bindings (action.PinnedWrite word at bytes) left = absurd (never-made bindings word is_pin (λ id. call.PinnedWrite id at bytes) left)
  grew-over bindings (action.SetDirty word lsn) left = absurd (never-made bindings word is_pin (λ id. call.SetDirty id lsn) left)
  grew-over bindings (action.Unpin word) left =
      absurd (never-made bindings word (λ its_kind. is_map its_kind || is_pin its_kind) (λ id. call.EndHold id) left)
  grew-over bindings (action.Repin word made) left = absurd (never-made bindings word is_pin (λ id. call.Repin id) left)
  grew-over bindings (action.UnpinRepinned word through) left =
      absurd (never-over (hold_named bindings word is_repin) (UnpinAnswered u me through) (λ id is. is) left)
  grew-over bindings (action.MdlBytes word at len) left = absurd (never-made bindings word is_read_chain (λ id. call.MdlBytes id at len) left)
  grew-over bindings (action.MdlStore word at bytes) left = absurd (never-made bindings word is_write_chain (λ id. call.MdlStore id at bytes) left)
  grew-over bindings (action.MdlDone word) left =
      absurd (never-made bindings word (λ its_kind. is_read_chain its_kind || is_write_chain its_kind) (λ id. call.EndHold id) left)
  grew-over bindings (action.MdlAbort word) left = absurd (never-made bindings word is_write_chain (λ id. call.EndHold id) left)
  grew-over bindings (action.Flush file span) left = absurd left.left
  grew-over bindings action.AheadStep left = absurd left.1
  grew-over bindings other left = absurd left

-- ---- at the end of a line others had no more under way than they ever have

module _ (old new : Standing) (went : WentOn old new) (few : new.others ≤ new.most_others) where
  full-end : (asked : ℕ) (e : CcError) → ((entries : ℕ) → e ≡ error.JournalFull entries → Grew old.seen new.seen) → IsFullError asked new e → WasFullError asked old new e
  full-end asked (error.JournalFull entries) grew full =
      let capacity : new.setup.capacity ≡ old.setup.capacity = ap (λ (w : Standing). w.setup.capacity) went.same in
      let flight : new.in_flight ≡ old.in_flight = ap (λ (w : Standing). w.in_flight) went.same in
      let bound : new.most_others ≡ old.most_others = ap (λ (w : Standing). w.most_others) went.same in
      let more = grew entries refl in
      record {
        moment = new.seen;
        later = [];
        since = more.during;
        ends = refl;
        begins = more.grew;
        holds = (new.others, omega (arith, few, bound), (full.0, omega (arith, full.1, capacity, flight)));
      }
  full-end asked other grew full = tt

  cut : (bindings : List Binding) (asked : Action) (done : ℕ) (cause : CcError) → Served old.setup old.number bindings asked (answer.NcRefused done cause) old.seen new.seen → (entries : ℕ) → cause ≡ error.JournalFull entries → Grew old.seen new.seen
  cut bindings asked done cause left entries is = grew-cut_off old.setup old.number done cause old.seen new.seen bindings asked left

  -- a line that is told so was so at a moment
  pub full-line : (bindings : List Binding) (asked : Action) (told : Answer) → Served old.setup old.number bindings asked told old.seen new.seen → IsFullLine old new asked told → WasFullTold old new told
  full-line bindings asked told left (inr was) = was.1
  full-line bindings asked (answer.Refused e) left (inl full) =
      full-end 3 e (λ entries is. grew-served old.setup old.number entries old.seen new.seen bindings asked (subst (λ x. Served old.setup old.number bindings asked (answer.Refused x) old.seen new.seen) is left)) full
  full-line bindings asked (answer.NcRefused done cause) left (inl (inl full)) = inl (full-end 2 cause (cut bindings asked done cause left) full)
  full-line bindings asked (answer.NcRefused done cause) left (inl (inr full)) = inr (full.0, full-end 4 cause (cut bindings asked done cause left) full.1)
  full-line bindings asked (answer.Completed (Some done)) left (inl full) =
      by done.answer (grew-over old.setup old.number done old.seen new.seen bindings asked left) full
    where
      by : (o : Result (List ℕ) CcError) → Grew old.seen new.seen → IsFullIn new o → WasFullIn old new o
      by (Ok bytes) grew full = tt
      by (Err e) grew full = full-end 3 e (λ entries is. grew) full
  full-line bindings asked other left (inl _) = tt
