-- The lists of calls of the shim in longer stretches: what others placed before and after them belongs to them as well.
use Rattle.std.specs.Prelude.{ℕ, Bool, true, false, nat_lt, List, [], ◌∷◌, length, Result, Ok, Err}
use Rattle.std.specs.declared.option.Option.{Option}
use Rattle.std.specs.declared.option.Option.TheVariants.{Some, None}
use Rattle.std.proofs.Common.{inl, inr}
use Rattle.cc_entry.specs.Place.{File, Range}
use Rattle.cc_entry.specs.declared.place.FileState.{FileState}
use Rattle.cc_entry.specs.declared.call.Call.{Call}
use Rattle.cc_entry.specs.declared.call.Call.TheVariants as call
use Rattle.cc_entry.specs.declared.query.Query.TheVariants as query
use Rattle.cc_entry.specs.declared.answer.Answer.{Answer}
use Rattle.cc_entry.specs.declared.answer.Answer.TheVariants as answer
use Rattle.cc_entry.specs.declared.entry.Entry.{Entry}
use Rattle.cc_entry.specs.declared.error.CcError.{CcError}
use Rattle.cc_entry.specs.declared.error.CcError.TheVariants as error
use Rattle.cc_entry.specs.declared.reply.Reply.TheVariants as reply
use Rattle.cc_entry.specs.declared.query.Value.TheVariants as value
use Rattle.cc_entry.specs.declared.reply.Outcome.TheVariants as outcome
use Rattle.cc_script.specs.declared.script.ReadPath.{ReadPath}
use Rattle.cc_script.specs.declared.script.ReadPath.TheVariants.{Cached, Mapped, Pinned, Descriptor, Noncached}
use Rattle.cc_model.specs.Setup.{Setup}
use Rattle.cc_effects.specs.Calls.{CallLeft}
use Rattle.cc_effects.specs.Moments.{Between, IsIdle}
use Rattle.cc_effects.proofs.Stretches.{idle-then, only-after, only-before}
use Rattle.cc_effects.proofs.CallSteps.{left-after, left-before}
use Rattle.cc_effects.proofs.NoncachedSteps.{nc-read-after, nc-read-before}
use Rattle.cc_pieces.specs.Locks.{RangeTestedLeft, FoundLeft, LockAnswered, LockedLeft, LockedReadAnswered, LockedReadLeft, LockedUpdateAnswered, LockedUpdateLeft, LockedWriteAnswered, LockedWriteLeft, TestLeft, UnlockAnswered, read_refused, tested_range, update_refused, write_refused}
use Rattle.cc_pieces.specs.Shim.{CallsLeft, HeldPartsLeft, HoldPath, PartRead, PartRefused, PartsLeft, PathReadLeft, ReadTested, StateLeft, ToldWriteLeft, UpdateLeft, WriteTested, descriptor_path, mapped_path, misaligned_for, parts_of, pinned_path, too_long_for, whole_part, write_calls}

-- ---- what others placed before

module _ (u : Setup) (me : ℕ) (older old : List Entry) (idle : IsIdle me older old) where
  calls-before : (calls : List Call) (answered : Result (Unit {0}) CcError) (new : List Entry) → CallsLeft u me calls answered old new → CallsLeft u me calls answered older new
  calls-before [] (Ok done) new left = idle-then me older old new idle left
  calls-before [] (Err e) new left = absurd left
  calls-before (it ∷ more) (Ok done) new left = (left.0, left-before u me it (outcome.Done reply.Unit) older old left.0 idle left.1, left.2)
  calls-before (it ∷ more) (Err e) new (inl left) = inl (left-before u me it (outcome.Failed e) older old new idle left)
  calls-before (it ∷ more) (Err e) new (inr left) = inr (left.0, left-before u me it (outcome.Done reply.Unit) older old left.0 idle left.1, left.2)

  part-before : (path : HoldPath) (r : Range) (bytes : List ℕ) (new : List Entry) → PartRead u me path r bytes old new → PartRead u me path r bytes older new
  part-before path r bytes new left =
      (left.0, left.1, left.2, left-before u me (path.make r) (outcome.Done (reply.Hold left.0)) older old left.1 idle left.3, left.4, left.5)

  refused-before : (path : HoldPath) (r : Range) (e : CcError) (new : List Entry) → PartRefused u me path r e old new → PartRefused u me path r e older new
  refused-before path r e new (inl left) = inl (left-before u me (path.make r) (outcome.Failed e) older old new idle left)
  refused-before path r e new (inr left) =
      inr (left.0, left.1, left.2, left-before u me (path.make r) (outcome.Done (reply.Hold left.0)) older old left.1 idle left.3, left.4, left.5)

  parts-before : (path : HoldPath) (rs : List Range) (answered : Result (List ℕ) CcError) (new : List Entry) → PartsLeft u me path rs answered old new → PartsLeft u me path rs answered older new
  parts-before path [] (Ok bytes) new left = (left.0, idle-then me older old new idle left.1)
  parts-before path [] (Err e) new left = absurd left
  parts-before path (r ∷ rs) (Ok bytes) new left = (left.0, left.1, left.2, left.3, part-before path r left.1 left.0 left.4, left.5)
  parts-before path (r ∷ rs) (Err e) new (inl left) = inl (refused-before path r e new left)
  parts-before path (r ∷ rs) (Err e) new (inr left) = inr (left.0, left.1, part-before path r left.1 left.0 left.2, left.3)

  module _ (file : File) where
    state-before : (state : FileState) (new : List Entry) → StateLeft u me file state old new → StateLeft u me file state older new
    state-before state new left = left-before u me (call.Query (query.State file)) (outcome.Done (reply.Value (value.State state))) older old new idle left

    held-before : (path : HoldPath) (parts : Range → List Range) (at len : ℕ) (answered : Result (List ℕ) CcError) (new : List Entry) → HeldPartsLeft u me file path parts at len answered old new → HeldPartsLeft u me file path parts at len answered older new
    held-before path parts at len (Ok bytes) new left = (left.0, left.1, state-before left.1 left.0 left.2, left.3)
    held-before path parts at len (Err e) new (inl left) = inl (left-before u me (call.Query (query.State file)) (outcome.Failed e) older old new idle left)
    held-before path parts at len (Err e) new (inr left) = inr (left.0, left.1, state-before left.1 left.0 left.2, left.3)

    path-before : (path : ReadPath) (at len : ℕ) (answered : Result (List ℕ) CcError) (new : List Entry) → PathReadLeft u me file path at len answered old new → PathReadLeft u me file path at len answered older new
    path-before Cached at len (Ok bytes) new left = left-before u me (call.CopyRead file at len true) (outcome.Done (reply.Read bytes)) older old new idle left
    path-before Cached at len (Err e) new left = left-before u me (call.CopyRead file at len true) (outcome.Failed e) older old new idle left
    path-before Mapped at len answered new left = held-before (mapped_path file) parts_of at len answered new left
    path-before Pinned at len answered new left = held-before (pinned_path file) parts_of at len answered new left
    path-before Descriptor at len answered new left = held-before (descriptor_path file) whole_part at len answered new left
    path-before Noncached at len (Ok bytes) new left = nc-read-before u me file at len (Ok bytes) older old new idle left
    path-before Noncached at len (Err e) new left = (left.0, nc-read-before u me file at len (Err (left.0, e)) older old new idle left.1)

    tested-before : (path : ReadPath) (at len : ℕ) (long misaligned : Option CcError) (answered : Result (List ℕ) CcError) (new : List Entry) → ReadTested u me file path at len long misaligned answered old new → ReadTested u me file path at len long misaligned answered older new
    tested-before path at len (Some e) misaligned answered new left = (left.0, idle-then me older old new idle left.1)
    tested-before path at len None (Some e) answered new left = (left.0, idle-then me older old new idle left.1)
    tested-before path at len None None answered new left = path-before path at len answered new left

    written-before : (at : ℕ) (bytes : List ℕ) (long : Bool) (answered : Result (Unit {0}) CcError) (new : List Entry) → WriteTested u me file at bytes long answered old new → WriteTested u me file at bytes long answered older new
    written-before at bytes true answered new left = (left.0, idle-then me older old new idle left.1)
    written-before at bytes false answered new (inl left) = inl (left.0, left.1, left-before u me (call.Query (query.State file)) (outcome.Failed left.0) older old new idle left.2)
    written-before at bytes false answered new (inr left) = inr (left.0, left.1, state-before left.1 left.0 left.2, left.3)

    updated-before : (at : ℕ) (bytes : List ℕ) (answered : Result ℕ CcError) (new : List Entry) → UpdateLeft u me file at bytes answered old new → UpdateLeft u me file at bytes answered older new
    updated-before at bytes answered new (inl left) =
        inl (left.0, left.1, left-before u me (call.PinRead file at (length bytes) true) (outcome.Failed left.0) older old new idle left.2)
    updated-before at bytes answered new (inr left) =
        inr (left.0, left.1, left.2, left-before u me (call.PinRead file at (length bytes) true) (outcome.Done (reply.Hold left.0)) older old left.1 idle left.3, left.4, left.5)

    -- what is tested against the locks first begins by the state
    locked-before : {A : Type 0} (range : Range) (write : Bool) (by : FileState → Option CcError) (Left : Result A CcError → Between) (answered : Result A CcError) (new : List Entry) → LockedLeft u me file range write by Left answered old new → LockedLeft u me file range write by Left answered older new
    locked-before range write by Left answered new (inl left) = inl (left.0, left.1, left-before u me (call.Query (query.State file)) (outcome.Failed left.0) older old new idle left.2)
    locked-before range write by Left answered new (inr left) = inr (left.0, left.1, state-before left.1 left.0 left.2, left.3)

    pub read-before : (path : ReadPath) (at len : ℕ) (told : Answer) (new : List Entry) → LockedReadAnswered u me file path at len told old new → LockedReadAnswered u me file path at len told older new
    read-before path at len (answer.Given (reply.Read bytes)) new left = locked-before _ false (read_refused path at len) _ (Ok bytes) new left
    read-before path at len (answer.Refused e) new left = locked-before {A = List ℕ} _ false (read_refused path at len) _ (Err e) new left
    read-before path at len other new left = absurd left

    pub write-before : (at : ℕ) (bytes : List ℕ) (told : Answer) (new : List Entry) → LockedWriteAnswered u me file at bytes told old new → LockedWriteAnswered u me file at bytes told older new
    write-before at bytes (answer.Given reply.Unit) new left = locked-before _ true (write_refused at (length bytes)) _ (Ok tt) new left
    write-before at bytes (answer.Refused e) new left = locked-before {A = Unit {0}} _ true (write_refused at (length bytes)) _ (Err e) new left
    write-before at bytes other new left = absurd left

    pub update-before : (at : ℕ) (bytes : List ℕ) (told : Answer) (new : List Entry) → LockedUpdateAnswered u me file at bytes told old new → LockedUpdateAnswered u me file at bytes told older new
    update-before at bytes (answer.NewLsn lsn) new left = locked-before _ true (update_refused at (length bytes)) _ (Ok lsn) new left
    update-before at bytes (answer.Refused e) new left = locked-before {A = ℕ} _ true (update_refused at (length bytes)) _ (Err e) new left
    update-before at bytes other new left = absurd left

    pub lock-before : (range : Range) (exclusive : Bool) (told : Answer) (new : List Entry) → LockAnswered me file range exclusive told old new → LockAnswered me file range exclusive told older new
    lock-before range exclusive (answer.LockId id) new left = only-before me _ older old new idle left
    lock-before range exclusive (answer.Refused (error.LockConflict id)) new left = only-before me _ older old new idle left
    lock-before range exclusive (answer.Refused (error.JournalFull entries)) new left = idle-then me older old new idle left
    lock-before range exclusive (answer.Refused error.NoMemory) new left = idle-then me older old new idle left
    lock-before range exclusive (answer.Refused other) new left = absurd left
    lock-before range exclusive other new left = absurd left

    pub unlock-before : (id : ℕ) (told : Answer) (new : List Entry) → UnlockAnswered me file id told old new → UnlockAnswered me file id told older new
    unlock-before id (answer.Given (reply.Value (value.Flag gone))) new left = only-before me _ older old new idle left
    unlock-before id (answer.Refused (error.JournalFull entries)) new left = idle-then me older old new idle left
    unlock-before id (answer.Refused error.NoMemory) new left = idle-then me older old new idle left
    unlock-before id (answer.Refused other) new left = absurd left
    unlock-before id other new left = absurd left

-- ---- what others placed after

module _ (u : Setup) (me : ℕ) (new newer : List Entry) (idle : IsIdle me new newer) where
  pub calls-after : (calls : List Call) (answered : Result (Unit {0}) CcError) (old : List Entry) → CallsLeft u me calls answered old new → CallsLeft u me calls answered old newer
  calls-after [] (Ok done) old left = idle-then me old new newer left idle
  calls-after [] (Err e) old left = absurd left
  calls-after (it ∷ more) (Ok done) old left = (left.0, left.1, calls-after more (Ok done) left.0 left.2)
  calls-after (it ∷ more) (Err e) old (inl left) = inl (left-after u me it (outcome.Failed e) old new newer left idle)
  calls-after (it ∷ more) (Err e) old (inr left) = inr (left.0, left.1, calls-after more (Err e) left.0 left.2)

  end-after : (id : ℕ) (old : List Entry) → CallLeft u me (call.EndHold id) (outcome.Done reply.Unit) old new → CallLeft u me (call.EndHold id) (outcome.Done reply.Unit) old newer
  end-after id old left = left-after u me (call.EndHold id) (outcome.Done reply.Unit) old new newer left idle

  part-after : (path : HoldPath) (r : Range) (bytes : List ℕ) (old : List Entry) → PartRead u me path r bytes old new → PartRead u me path r bytes old newer
  part-after path r bytes old left = (left.0, left.1, left.2, left.3, left.4, end-after left.0 left.2 left.5)

  refused-after : (path : HoldPath) (r : Range) (e : CcError) (old : List Entry) → PartRefused u me path r e old new → PartRefused u me path r e old newer
  refused-after path r e old (inl left) = inl (left-after u me (path.make r) (outcome.Failed e) old new newer left idle)
  refused-after path r e old (inr left) = inr (left.0, left.1, left.2, left.3, left.4, end-after left.0 left.2 left.5)

  parts-after : (path : HoldPath) (rs : List Range) (answered : Result (List ℕ) CcError) (old : List Entry) → PartsLeft u me path rs answered old new → PartsLeft u me path rs answered old newer
  parts-after path [] (Ok bytes) old left = (left.0, idle-then me old new newer left.1 idle)
  parts-after path [] (Err e) old left = absurd left
  parts-after path (r ∷ rs) (Ok bytes) old left = (left.0, left.1, left.2, left.3, left.4, parts-after path rs (Ok left.2) left.0 left.5)
  parts-after path (r ∷ rs) (Err e) old (inl left) = inl (refused-after path r e old left)
  parts-after path (r ∷ rs) (Err e) old (inr left) = inr (left.0, left.1, left.2, parts-after path rs (Err e) left.0 left.3)

  module _ (file : File) where
    held-after : (path : HoldPath) (parts : Range → List Range) (at len : ℕ) (answered : Result (List ℕ) CcError) (old : List Entry) → HeldPartsLeft u me file path parts at len answered old new → HeldPartsLeft u me file path parts at len answered old newer
    held-after path parts at len (Ok bytes) old left = (left.0, left.1, left.2, parts-after path _ (Ok bytes) left.0 left.3)
    held-after path parts at len (Err e) old (inl left) = inl (left-after u me (call.Query (query.State file)) (outcome.Failed e) old new newer left idle)
    held-after path parts at len (Err e) old (inr left) = inr (left.0, left.1, left.2, parts-after path _ (Err e) left.0 left.3)

    path-after : (path : ReadPath) (at len : ℕ) (answered : Result (List ℕ) CcError) (old : List Entry) → PathReadLeft u me file path at len answered old new → PathReadLeft u me file path at len answered old newer
    path-after Cached at len (Ok bytes) old left = left-after u me (call.CopyRead file at len true) (outcome.Done (reply.Read bytes)) old new newer left idle
    path-after Cached at len (Err e) old left = left-after u me (call.CopyRead file at len true) (outcome.Failed e) old new newer left idle
    path-after Mapped at len answered old left = held-after (mapped_path file) parts_of at len answered old left
    path-after Pinned at len answered old left = held-after (pinned_path file) parts_of at len answered old left
    path-after Descriptor at len answered old left = held-after (descriptor_path file) whole_part at len answered old left
    path-after Noncached at len (Ok bytes) old left = nc-read-after u me file at len (Ok bytes) old new newer left idle
    path-after Noncached at len (Err e) old left = (left.0, nc-read-after u me file at len (Err (left.0, e)) old new newer left.1 idle)

    tested-after : (path : ReadPath) (at len : ℕ) (long misaligned : Option CcError) (answered : Result (List ℕ) CcError) (old : List Entry) → ReadTested u me file path at len long misaligned answered old new → ReadTested u me file path at len long misaligned answered old newer
    tested-after path at len (Some e) misaligned answered old left = (left.0, idle-then me old new newer left.1 idle)
    tested-after path at len None (Some e) answered old left = (left.0, idle-then me old new newer left.1 idle)
    tested-after path at len None None answered old left = path-after path at len answered old left

    told_write-after : (at : ℕ) (bytes : List ℕ) (state : FileState) (answered : Result (Unit {0}) CcError) (old : List Entry) → ToldWriteLeft u me file at bytes state answered old new → ToldWriteLeft u me file at bytes state answered old newer
    told_write-after at bytes state answered old (inl left) = inl (left.0, left.1, idle-then me old new newer left.2 idle)
    told_write-after at bytes state answered old (inr left) = inr (left.0, calls-after (write_calls file at bytes state) answered old left.1)

    written-after : (at : ℕ) (bytes : List ℕ) (long : Bool) (answered : Result (Unit {0}) CcError) (old : List Entry) → WriteTested u me file at bytes long answered old new → WriteTested u me file at bytes long answered old newer
    written-after at bytes true answered old left = (left.0, idle-then me old new newer left.1 idle)
    written-after at bytes false answered old (inl left) = inl (left.0, left.1, left-after u me (call.Query (query.State file)) (outcome.Failed left.0) old new newer left.2 idle)
    written-after at bytes false answered old (inr left) = inr (left.0, left.1, left.2, told_write-after at bytes left.1 answered left.0 left.3)

    updated-after : (at : ℕ) (bytes : List ℕ) (answered : Result ℕ CcError) (old : List Entry) → UpdateLeft u me file at bytes answered old new → UpdateLeft u me file at bytes answered old newer
    updated-after at bytes answered old (inl left) =
        inl (left.0, left.1, left-after u me (call.PinRead file at (length bytes) true) (outcome.Failed left.0) old new newer left.2 idle)
    updated-after at bytes answered old (inr left) = inr (left.0, left.1, left.2, left.3, left.4, end-after left.0 left.2 left.5)

    untested-after : (range : Range) (write : Bool) (e : CcError) (old : List Entry) → TestLeft me file range write (Err e) old new → TestLeft me file range write (Err e) old newer
    untested-after range write (error.LockConflict id) old left = only-after me _ old new newer left idle
    untested-after range write (error.JournalFull entries) old left = idle-then me old new newer left idle
    untested-after range write error.NoMemory old left = idle-then me old new newer left idle
    untested-after range write other old left = absurd left

    module _ {A : Type 0} (range : Range) (write : Bool) (Left : Result A CcError → Between) (longer : (answered : Result A CcError) (old : List Entry) → Left answered old new → Left answered old newer) where
      admitted-after : (answered : Result A CcError) (old : List Entry) → RangeTestedLeft me file range write Left answered old new → RangeTestedLeft me file range write Left answered old newer
      admitted-after answered old (inl left) = inl (left.0, left.1, untested-after range write left.0 old left.2)
      admitted-after answered old (inr left) = inr (left.0, left.1, longer answered left.0 left.2)

      found-after : (refused : Option CcError) (answered : Result A CcError) (old : List Entry) → FoundLeft me file range write refused Left answered old new → FoundLeft me file range write refused Left answered old newer
      found-after (Some e) answered old left = (left.0, idle-then me old new newer left.1 idle)
      found-after None answered old left = admitted-after answered old left

      locked-after : (by : FileState → Option CcError) (answered : Result A CcError) (old : List Entry) → LockedLeft u me file range write by Left answered old new → LockedLeft u me file range write by Left answered old newer
      locked-after by answered old (inl left) = inl (left.0, left.1, left-after u me (call.Query (query.State file)) (outcome.Failed left.0) old new newer left.2 idle)
      locked-after by answered old (inr left) = inr (left.0, left.1, left.2, found-after (by left.1) answered left.0 left.3)

    locked_read-after : (path : ReadPath) (at len : ℕ) (answered : Result (List ℕ) CcError) (old : List Entry) → LockedReadLeft u me file path at len answered old new → LockedReadLeft u me file path at len answered old newer
    locked_read-after path at len answered old left =
        locked-after (tested_range at len) false (ReadTested u me file path at len (too_long_for path len) (misaligned_for path at len))
        (λ answered old left. tested-after path at len (too_long_for path len) (misaligned_for path at len) answered old left) (read_refused path at len) answered old left

    locked_write-after : (at : ℕ) (bytes : List ℕ) (answered : Result (Unit {0}) CcError) (old : List Entry) → LockedWriteLeft u me file at bytes answered old new → LockedWriteLeft u me file at bytes answered old newer
    locked_write-after at bytes answered old left =
        locked-after (tested_range at (length bytes)) true (WriteTested u me file at bytes (nat_lt 1048576 (length bytes)))
        (λ answered old left. written-after at bytes (nat_lt 1048576 (length bytes)) answered old left) (write_refused at (length bytes)) answered old left

    locked_update-after : (at : ℕ) (bytes : List ℕ) (answered : Result ℕ CcError) (old : List Entry) → LockedUpdateLeft u me file at bytes answered old new → LockedUpdateLeft u me file at bytes answered old newer
    locked_update-after at bytes answered old left =
        locked-after (tested_range at (length bytes)) true (UpdateLeft u me file at bytes) (λ answered old left. updated-after at bytes answered old left)
        (update_refused at (length bytes)) answered old left

    pub read-after : (path : ReadPath) (at len : ℕ) (told : Answer) (old : List Entry) → LockedReadAnswered u me file path at len told old new → LockedReadAnswered u me file path at len told old newer
    read-after path at len (answer.Given (reply.Read bytes)) old left = locked_read-after path at len (Ok bytes) old left
    read-after path at len (answer.Refused e) old left = locked_read-after path at len (Err e) old left
    read-after path at len other old left = absurd left

    pub write-after : (at : ℕ) (bytes : List ℕ) (told : Answer) (old : List Entry) → LockedWriteAnswered u me file at bytes told old new → LockedWriteAnswered u me file at bytes told old newer
    write-after at bytes (answer.Given reply.Unit) old left = locked_write-after at bytes (Ok tt) old left
    write-after at bytes (answer.Refused e) old left = locked_write-after at bytes (Err e) old left
    write-after at bytes other old left = absurd left

    pub update-after : (at : ℕ) (bytes : List ℕ) (told : Answer) (old : List Entry) → LockedUpdateAnswered u me file at bytes told old new → LockedUpdateAnswered u me file at bytes told old newer
    update-after at bytes (answer.NewLsn lsn) old left = locked_update-after at bytes (Ok lsn) old left
    update-after at bytes (answer.Refused e) old left = locked_update-after at bytes (Err e) old left
    update-after at bytes other old left = absurd left

    pub lock-after : (range : Range) (exclusive : Bool) (told : Answer) (old : List Entry) → LockAnswered me file range exclusive told old new → LockAnswered me file range exclusive told old newer
    lock-after range exclusive (answer.LockId id) old left = only-after me _ old new newer left idle
    lock-after range exclusive (answer.Refused (error.LockConflict id)) old left = only-after me _ old new newer left idle
    lock-after range exclusive (answer.Refused (error.JournalFull entries)) old left = idle-then me old new newer left idle
    lock-after range exclusive (answer.Refused error.NoMemory) old left = idle-then me old new newer left idle
    lock-after range exclusive (answer.Refused other) old left = absurd left
    lock-after range exclusive other old left = absurd left

    pub unlock-after : (id : ℕ) (told : Answer) (old : List Entry) → UnlockAnswered me file id told old new → UnlockAnswered me file id told old newer
    unlock-after id (answer.Given (reply.Value (value.Flag gone))) old left = only-after me _ old new newer left idle
    unlock-after id (answer.Refused (error.JournalFull entries)) old left = idle-then me old new newer left idle
    unlock-after id (answer.Refused error.NoMemory) old left = idle-then me old new newer left idle
    unlock-after id (answer.Refused other) old left = absurd left
    unlock-after id other old left = absurd left
