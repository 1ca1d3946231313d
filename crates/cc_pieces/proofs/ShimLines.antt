-- What the lists of calls of the shim leave, by what each of their calls does.
use Rattle.std.specs.Prelude.{◌≡◌, ℕ, ◌+◌, Bool, true, false, nat_lt, List, [], ◌∷◌, ◌++◌, length, map, Result, Ok, Err, refl, if◌then◌else◌}
use Rattle.std.specs.declared.option.Option.{Option}
use Rattle.std.specs.declared.option.Option.TheVariants.{Some, None}
use Rattle.std.specs.List.{AllByRecursion}
use Rattle.std.proofs.Common.{sym, subst, inl, inr}
use Rattle.cc_entry.specs.Place.{File, Range}
use Rattle.cc_entry.specs.declared.place.FileState.{FileState}
use Rattle.cc_entry.specs.declared.call.Call.{Call}
use Rattle.cc_entry.specs.declared.call.Call.TheVariants as call
use Rattle.cc_entry.specs.declared.query.Query.TheVariants as query
use Rattle.cc_entry.specs.declared.answer.Answer.{Answer}
use Rattle.cc_entry.specs.declared.answer.Answer.TheVariants as answer
use Rattle.cc_entry.specs.declared.entry.Entry.{Entry}
use Rattle.cc_entry.specs.declared.entry.Entry.TheVariants as entry
use Rattle.cc_entry.specs.declared.error.CcError.{CcError}
use Rattle.cc_entry.specs.declared.error.CcError.TheVariants as error
use Rattle.cc_entry.specs.declared.reply.Reply.{Reply}
use Rattle.cc_entry.specs.declared.reply.Reply.TheVariants as reply
use Rattle.cc_entry.specs.declared.query.Value.TheVariants as value
use Rattle.cc_entry.specs.declared.reply.Outcome.TheVariants as outcome
use Rattle.cc_script.specs.declared.script.ReadPath.{ReadPath}
use Rattle.cc_script.specs.declared.script.ReadPath.TheVariants.{Cached, Mapped, Pinned, Descriptor, Noncached}
use Rattle.cc_model.specs.Acts.{file_of}
use Rattle.cc_model.specs.Allowed.{is_fault}
use Rattle.cc_model.specs.Cache.{makes_hold}
use Rattle.cc_model.specs.Setup.{Setup}
use Rattle.cc_effects.specs.Calls.{CallLeft}
use Rattle.cc_effects.specs.LogCalls.{AppendLeft}
use Rattle.cc_effects.specs.Moments.{Between, IsIdle, PlacedOnly}
use Rattle.cc_effects.specs.Noncached.{NcReadLeft}
use Rattle.cc_model.specs.Reasons.{crosses_blocks, refuse_if}
use Rattle.cc_pieces.specs.Locks.{RangeTestedLeft, FoundLeft, LockedLeft, LockedReadAnswered, LockedReadLeft, LockedUpdateAnswered, LockedUpdateLeft, LockedWriteAnswered, LockedWriteLeft, TestLeft, read_refused, tested_range, update_refused, no_log_error, write_refused}
use Rattle.cc_pieces.specs.Shim.{CallsLeft, HeldPartsLeft, HoldPath, LoggedLeft, PartRead, PartRefused, PartsLeft, PathReadLeft, PinnedUpdateLeft, ReadTested, RecordedLeft, RefusedSo, ShortWriteLeft, ToldUpdateLeft, ToldWriteLeft, UpdateLeft, WriteTested, descriptor_path, extensions, first_of_two, mapped_path, misaligned_for, parts_of, pinned_path, too_long_for, update_record_of_file, whole_part, write_calls, zeroings}

-- a call of a list is on the file, or on the hold that the list made
abbrev pub IsMadeOn : File → Option ℕ → Call → Type 0
IsMadeOn file own (call.MappedRead id at len) = own ≡ Some id
IsMadeOn file own (call.PinnedRead id at len) = own ≡ Some id
IsMadeOn file own (call.MdlBytes id at len) = own ≡ Some id
IsMadeOn file own (call.PinnedWrite id at bytes) = own ≡ Some id
IsMadeOn file own (call.SetDirty id lsn) = own ≡ Some id
IsMadeOn file own (call.EndHold id) = own ≡ Some id
IsMadeOn file own (call.AskAhead asked at len) = ⊥
IsMadeOn file own (call.AheadStep request) = ⊥
IsMadeOn file own other = file_of other ≡ Some file

-- whether an error tells no fault, and no lock: as one does that no device and no lock has a part in
abbrev pub is_calm : CcError → Bool
is_calm (error.ReadFault page) = false
is_calm (error.WriteFault page) = false
is_calm (error.LogFault handle) = false
is_calm (error.LockConflict id) = false
is_calm other = true

pub calm-faultless : (e : CcError) → is_calm e ≡ true → is_fault e ≡ false
calm-faultless (error.ReadFault page) calm = absurd (cc calm)
calm-faultless (error.WriteFault page) calm = absurd (cc calm)
calm-faultless (error.LogFault handle) calm = absurd (cc calm)
calm-faultless other calm = refl

-- What is said of a list of calls of which all were done, and of one that was refused, beside a hold that the list made, if
-- it made one; it follows from what each call left.
pub record Follows (u : Setup) (me : ℕ) (file : File) (Done : Option ℕ → List Entry → List Entry → Type 0)
    (Failed : Option ℕ → CcError → List Entry → List Entry → Type 0) : Type 0 where
  pub idle : (own : Option ℕ) (old new : List Entry) → IsIdle me old new → Done own old new
  pub joins : (own : Option ℕ) (old between new : List Entry) → Done own old between → Done own between new → Done own old new
  pub done : (own : Option ℕ) (it : Call) (r : Reply) (old new : List Entry) → IsMadeOn file own it → CallLeft u me it (outcome.Done r) old new → Done own old new
  pub failed : (own : Option ℕ) (it : Call) (e : CcError) (old new : List Entry) → IsMadeOn file own it → CallLeft u me it (outcome.Failed e) old new → Failed own e old new
  pub after : (own : Option ℕ) (e : CcError) (old between new : List Entry) → Done own old between → Failed own e between new → Failed own e old new
  pub before : (id : ℕ) (e : CcError) (old between new : List Entry) → Failed (Some id) e old between → Done (Some id) between new → Failed (Some id) e old new
  pub tested : (own : Option ℕ) (e : CcError) (old new : List Entry) → is_calm e ≡ true → IsIdle me old new → Failed own e old new
  pub held : (it : Call) (id : ℕ) (old made new : List Entry) → makes_hold it ≡ true → IsMadeOn file None it → CallLeft u me it (outcome.Done (reply.Hold id)) old made → Done (Some id) made new → Done None old new
  pub unheld : (it : Call) (id : ℕ) (e : CcError) (old made new : List Entry) → makes_hold it ≡ true → IsMadeOn file None it → CallLeft u me it (outcome.Done (reply.Hold id)) old made → Failed (Some id) e made new → Failed None e old new
  pub read : (at len : ℕ) (bytes : List ℕ) (old new : List Entry) → NcReadLeft u me file at len (Ok bytes) old new → Done None old new
  pub unread : (at len done : ℕ) (e : CcError) (old new : List Entry) → NcReadLeft u me file at len (Err (done, e)) old new → Failed None e old new
  pub appended : (own : Option ℕ) (handle : ℕ) (bytes : List ℕ) (lsn : ℕ) (old new : List Entry) → AppendLeft u me handle bytes (Ok lsn) old new → Done own old new
  pub unappended : (own : Option ℕ) (handle : ℕ) (bytes : List ℕ) (e : CcError) (old new : List Entry) → AppendLeft u me handle bytes (Err e) old new → Failed own e old new

-- What is said of the test against the locks in front of such a list: none conflicts, or one does.
pub record FollowsTests (me : ℕ) (file : File) (Done : Option ℕ → List Entry → List Entry → Type 0)
    (Failed : Option ℕ → CcError → List Entry → List Entry → Type 0) : Type 0 where
  pub noted : (range : Range) (write : Bool) (old new : List Entry) → PlacedOnly me (entry.Tested me file range write None) old new → Done None old new
  pub barred : (range : Range) (write : Bool) (id : ℕ) (old new : List Entry) → PlacedOnly me (entry.Tested me file range write (Some id)) old new → Failed None (error.LockConflict id) old new

-- what is said of a line by its answer
abbrev pub Told : (Option ℕ → List Entry → List Entry → Type 0) → (Option ℕ → CcError → List Entry → List Entry → Type 0) → Answer → List Entry → List Entry → Type 0
Told Done Failed (answer.Refused e) old new = Failed None e old new
Told Done Failed other old new = Done None old new

-- a path makes a hold of the file, and reads it
pub record GoesOver (file : File) (path : HoldPath) : Type 0 where
  pub makes : (r : Range) → makes_hold (path.make r) ≡ true
  pub of_file : (r : Range) → IsMadeOn file None (path.make r)
  pub on_hold : (id : ℕ) (r : Range) → IsMadeOn file (Some id) (path.look id r)

over-mapped : (file : File) → GoesOver file (mapped_path file)
over-mapped file = record { makes = λ r. refl; of_file = λ r. refl; on_hold = λ id r. refl }

over-pinned : (file : File) → GoesOver file (pinned_path file)
over-pinned file = record { makes = λ r. refl; of_file = λ r. refl; on_hold = λ id r. refl }

over-descriptor : (file : File) → GoesOver file (descriptor_path file)
over-descriptor file = record { makes = λ r. refl; of_file = λ r. refl; on_hold = λ id r. refl }

-- a test of the shim's own tells none of these
abbrev pub IsCalm : Option CcError → Type 0
IsCalm None = Unit {0}
IsCalm (Some e) = is_calm e ≡ true

calm-if : (b : Bool) (e : CcError) → is_calm e ≡ true → IsCalm (if b then Some e else None)
calm-if true e calm = calm
calm-if false e calm = tt

pub calm-long : (path : ReadPath) (len : ℕ) → IsCalm (too_long_for path len)
calm-long Noncached len = calm-if (nat_lt 65536 len) (error.TooLong 65536) refl
calm-long other len = calm-if (nat_lt 1048576 len) (error.TooLong 1048576) refl

pub calm-misaligned : (path : ReadPath) (at len : ℕ) → IsCalm (misaligned_for path at len)
calm-misaligned Noncached at len = calm-if _ error.Unaligned refl
calm-misaligned other at len = tt

calm-first : (a b : Option CcError) → IsCalm a → IsCalm b → IsCalm (first_of_two a b)
calm-first (Some e) b one two = one
calm-first None b one two = two

calm-refuse : (b : Bool) (e : CcError) → is_calm e ≡ true → IsCalm (refuse_if b e)
calm-refuse true e calm = calm
calm-refuse false e calm = tt

calm-log : (log : Option ℕ) → IsCalm (no_log_error log)
calm-log None = refl
calm-log (Some handle) = tt

-- nor does what is refused by the state
pub calm-read : (path : ReadPath) (at len : ℕ) (state : FileState) → IsCalm (read_refused path at len state)
calm-read path at len state = calm-first (too_long_for path len) (misaligned_for path at len) (calm-long path len) (calm-misaligned path at len)

pub calm-write : (at len : ℕ) (state : FileState) → IsCalm (write_refused at len state)
calm-write at len state =
    calm-first _ _ (calm-refuse (nat_lt 1048576 len) (error.TooLong 1048576) refl) (calm-refuse (nat_lt (state.sizes.valid + 67108864) at) (error.GapTooLong 67108864) refl)

pub calm-update : (at len : ℕ) (state : FileState) → IsCalm (update_refused at len state)
calm-update at len state =
    calm-first _ _ (calm-refuse (crosses_blocks at len) error.ViewBoundary refl)
    (calm-first _ _ (calm-log state.log)
    (calm-first _ _ (calm-refuse (nat_lt state.sizes.size (at + len)) (error.BeyondSize state.sizes.size) refl)
    (calm-refuse (nat_lt state.sizes.valid at) (error.BeyondValid state.sizes.valid) refl)))

-- the calls of a write are on the file
all-append : (file : File) (own : Option ℕ) (first rest : List Call) → AllByRecursion (λ it. IsMadeOn file own it) first → AllByRecursion (λ it. IsMadeOn file own it) rest → AllByRecursion (λ it. IsMadeOn file own it) (first ++ rest)
all-append file own [] rest one two = two
all-append file own (it ∷ first) rest one two = (one.0, all-append file own first rest one.1 two)

all-zeroed : (file : File) (span : ℕ → Range) (ks : List ℕ) → AllByRecursion (λ it. IsMadeOn file None it) (map (λ k. call.Zero file (span k)) ks)
all-zeroed file span [] = tt
all-zeroed file span (k ∷ ks) = (refl, all-zeroed file span ks)

all-extended : (file : File) (allocation size : ℕ) (b : Bool) → AllByRecursion (λ it. IsMadeOn file None it) (if b then call.SetSizes file allocation size ∷ [] else [])
all-extended file allocation size true = (refl, tt)
all-extended file allocation size false = tt

all-written : (file : File) (at : ℕ) (bytes : List ℕ) (state : FileState) → AllByRecursion (λ it. IsMadeOn file None it) (write_calls file at bytes state)
all-written file at bytes state =
    all-append file None (extensions file state (at + length bytes)) (zeroings file state.sizes.valid at ++ call.CopyWrite file at bytes ∷ [])
    (all-extended file _ _ (nat_lt state.sizes.size (at + length bytes)))
    (all-append file None (zeroings file state.sizes.valid at) (call.CopyWrite file at bytes ∷ []) (all-zeroed file _ _) (refl, tt))

module _ (u : Setup) (me : ℕ) (file : File) (Done : Option ℕ → List Entry → List Entry → Type 0) (Failed : Option ℕ → CcError → List Entry → List Entry → Type 0) (f : Follows u me file Done Failed) where
  -- what is said of a list by its answer
  abbrev Ended : {A : Type 0} → Option ℕ → Result A CcError → List Entry → List Entry → Type 0
  Ended own (Ok done) old new = Done own old new
  Ended own (Err e) old new = Failed own e old new

  ended-after : {A : Type 0} (own : Option ℕ) (answered : Result A CcError) (old between new : List Entry) → Done own old between → Ended own answered between new → Ended own answered old new
  ended-after own (Ok done) old between new first rest = f.joins own old between new first rest
  ended-after own (Err e) old between new first rest = f.after own e old between new first rest

  ended-before : {A : Type 0} (id : ℕ) (answered : Result A CcError) (old between new : List Entry) → Ended (Some id) answered old between → Done (Some id) between new → Ended (Some id) answered old new
  ended-before id (Ok done) old between new first rest = f.joins (Some id) old between new first rest
  ended-before id (Err e) old between new first rest = f.before id e old between new first rest

  ended-held : {A : Type 0} (it : Call) (id : ℕ) (answered : Result A CcError) (old made new : List Entry) → makes_hold it ≡ true → IsMadeOn file None it → CallLeft u me it (outcome.Done (reply.Hold id)) old made → Ended (Some id) answered made new → Ended None answered old new
  ended-held it id (Ok done) old made new makes on left rest = f.held it id old made new makes on left rest
  ended-held it id (Err e) old made new makes on left rest = f.unheld it id e old made new makes on left rest

  ended-refused : {A : Type 0} (own : Option ℕ) (e : CcError) (answered : Result A CcError) (old new : List Entry) → answered ≡ Err e → Failed own e old new → Ended own answered old new
  ended-refused own e answered old new is left = subst (λ a. Ended own a old new) (sym is) left

  ended-tested : {A : Type 0} (own : Option ℕ) (e : CcError) (answered : Result A CcError) (old new : List Entry) → is_calm e ≡ true → RefusedSo e answered → IsIdle me old new → Ended own answered old new
  ended-tested own e answered old new calm (inl is) idle = ended-refused own e answered old new is (f.tested own e old new calm idle)
  ended-tested own e answered old new calm (inr is) idle = ended-refused own error.NoMemory answered old new is (f.tested own error.NoMemory old new refl idle)

  -- ---- calls that answer nothing

  follow-calls : (own : Option ℕ) (calls : List Call) (answered : Result (Unit {0}) CcError) (old new : List Entry) → AllByRecursion (λ it. IsMadeOn file own it) calls → CallsLeft u me calls answered old new → Ended own answered old new
  follow-calls own [] (Ok done) old new on left = f.idle own old new left
  follow-calls own [] (Err e) old new on left = absurd left
  follow-calls own (it ∷ more) (Ok done) old new on left =
      f.joins own old left.0 new (f.done own it reply.Unit old left.0 on.0 left.1) (follow-calls own more (Ok done) left.0 new on.1 left.2)
  follow-calls own (it ∷ more) (Err e) old new on (inl left) = f.failed own it e old new on.0 left
  follow-calls own (it ∷ more) (Err e) old new on (inr left) =
      f.after own e old left.0 new (f.done own it reply.Unit old left.0 on.0 left.1) (follow-calls own more (Err e) left.0 new on.1 left.2)

  -- ---- reads

  follow-end : (id : ℕ) (old new : List Entry) → CallLeft u me (call.EndHold id) (outcome.Done reply.Unit) old new → Done (Some id) old new
  follow-end id old new left = f.done (Some id) (call.EndHold id) reply.Unit old new refl left

  follow-part : (path : HoldPath) → GoesOver file path → (r : Range) (bytes : List ℕ) (old new : List Entry) → PartRead u me path r bytes old new → Done None old new
  follow-part path over r bytes old new left =
      f.held (path.make r) left.0 old left.1 new (over.makes r) (over.of_file r) left.3
      (f.joins (Some left.0) left.1 left.2 new (f.done (Some left.0) (path.look left.0 r) (reply.Read bytes) left.1 left.2 (over.on_hold left.0 r) left.4) (follow-end left.0 left.2 new left.5))

  follow-refused : (path : HoldPath) → GoesOver file path → (r : Range) (e : CcError) (old new : List Entry) → PartRefused u me path r e old new → Failed None e old new
  follow-refused path over r e old new (inl left) = f.failed None (path.make r) e old new (over.of_file r) left
  follow-refused path over r e old new (inr left) =
      f.unheld (path.make r) left.0 e old left.1 new (over.makes r) (over.of_file r) left.3
      (f.before left.0 e left.1 left.2 new (f.failed (Some left.0) (path.look left.0 r) e left.1 left.2 (over.on_hold left.0 r) left.4) (follow-end left.0 left.2 new left.5))

  follow-parts : (path : HoldPath) → GoesOver file path → (rs : List Range) (answered : Result (List ℕ) CcError) (old new : List Entry) → PartsLeft u me path rs answered old new → Ended None answered old new
  follow-parts path over [] (Ok bytes) old new left = f.idle None old new left.1
  follow-parts path over [] (Err e) old new left = absurd left
  follow-parts path over (r ∷ rs) (Ok bytes) old new left =
      f.joins None old left.0 new (follow-part path over r left.1 old left.0 left.4) (follow-parts path over rs (Ok left.2) left.0 new left.5)
  follow-parts path over (r ∷ rs) (Err e) old new (inl left) = follow-refused path over r e old new left
  follow-parts path over (r ∷ rs) (Err e) old new (inr left) =
      f.after None e old left.0 new (follow-part path over r left.1 old left.0 left.2) (follow-parts path over rs (Err e) left.0 new left.3)

  follow-state : (own : Option ℕ) (state : FileState) (old new : List Entry) → CallLeft u me (call.Query (query.State file)) (outcome.Done (reply.Value (value.State state))) old new → Done own old new
  follow-state own state old new left = f.done own (call.Query (query.State file)) (reply.Value (value.State state)) old new refl left

  follow-held : (path : HoldPath) → GoesOver file path → (parts : Range → List Range) (at len : ℕ) (answered : Result (List ℕ) CcError) (old new : List Entry) → HeldPartsLeft u me file path parts at len answered old new → Ended None answered old new
  follow-held path over parts at len (Ok bytes) old new left =
      f.joins None old left.0 new (follow-state None left.1 old left.0 left.2) (follow-parts path over _ (Ok bytes) left.0 new left.3)
  follow-held path over parts at len (Err e) old new (inl left) = f.failed None (call.Query (query.State file)) e old new refl left
  follow-held path over parts at len (Err e) old new (inr left) =
      f.after None e old left.0 new (follow-state None left.1 old left.0 left.2) (follow-parts path over _ (Err e) left.0 new left.3)

  follow-path : (path : ReadPath) (at len : ℕ) (answered : Result (List ℕ) CcError) (old new : List Entry) → PathReadLeft u me file path at len answered old new → Ended None answered old new
  follow-path Cached at len (Ok bytes) old new left = f.done None (call.CopyRead file at len true) (reply.Read bytes) old new refl left
  follow-path Cached at len (Err e) old new left = f.failed None (call.CopyRead file at len true) e old new refl left
  follow-path Mapped at len answered old new left = follow-held (mapped_path file) (over-mapped file) parts_of at len answered old new left
  follow-path Pinned at len answered old new left = follow-held (pinned_path file) (over-pinned file) parts_of at len answered old new left
  follow-path Descriptor at len answered old new left = follow-held (descriptor_path file) (over-descriptor file) whole_part at len answered old new left
  follow-path Noncached at len (Ok bytes) old new left = f.read at len bytes old new left
  follow-path Noncached at len (Err e) old new left = f.unread at len left.0 e old new left.1

  pub follow-read : (path : ReadPath) (at len : ℕ) (long misaligned : Option CcError) (answered : Result (List ℕ) CcError) (old new : List Entry) → IsCalm long → IsCalm misaligned → ReadTested u me file path at len long misaligned answered old new → Ended None answered old new
  follow-read path at len (Some e) misaligned answered old new calm calm_too left = ended-tested None e answered old new calm left.0 left.1
  follow-read path at len None (Some e) answered old new calm calm_too left = ended-tested None e answered old new calm_too left.0 left.1
  follow-read path at len None None answered old new calm calm_too left = follow-path path at len answered old new left

  -- ---- writes

  follow-told_write : (at : ℕ) (bytes : List ℕ) (state : FileState) (answered : Result (Unit {0}) CcError) (old new : List Entry) → ToldWriteLeft u me file at bytes state answered old new → Ended None answered old new
  follow-told_write at bytes state answered old new (inl left) = ended-tested None (error.GapTooLong 67108864) answered old new refl left.1 left.2
  follow-told_write at bytes state answered old new (inr left) = follow-calls None (write_calls file at bytes state) answered old new (all-written file at bytes state) left.1

  follow-short : (at : ℕ) (bytes : List ℕ) (answered : Result (Unit {0}) CcError) (old new : List Entry) → ShortWriteLeft u me file at bytes answered old new → Ended None answered old new
  follow-short at bytes answered old new (inl left) = ended-refused None left.0 answered old new left.1 (f.failed None (call.Query (query.State file)) left.0 old new refl left.2)
  follow-short at bytes answered old new (inr left) =
      ended-after None answered old left.0 new (follow-state None left.1 old left.0 left.2) (follow-told_write at bytes left.1 answered left.0 new left.3)

  pub follow-write : (at : ℕ) (bytes : List ℕ) (long : Bool) (answered : Result (Unit {0}) CcError) (old new : List Entry) → WriteTested u me file at bytes long answered old new → Ended None answered old new
  follow-write at bytes true answered old new left = ended-tested None (error.TooLong 1048576) answered old new refl left.0 left.1
  follow-write at bytes false answered old new left = follow-short at bytes answered old new left

  -- ---- updates

  follow-recorded : (id at : ℕ) (bytes : List ℕ) (lsn : ℕ) (answered : Result ℕ CcError) (old new : List Entry) → RecordedLeft u me id at bytes lsn answered old new → Ended (Some id) answered old new
  follow-recorded id at bytes lsn (Ok told) old new left = follow-calls (Some id) (call.PinnedWrite id at bytes ∷ call.SetDirty id (Some lsn) ∷ []) (Ok tt) old new (refl, (refl, tt)) left.1
  follow-recorded id at bytes lsn (Err e) old new left = follow-calls (Some id) (call.PinnedWrite id at bytes ∷ call.SetDirty id (Some lsn) ∷ []) (Err e) old new (refl, (refl, tt)) left.1

  follow-logged : (id at : ℕ) (bytes : List ℕ) (handle : ℕ) (answered : Result ℕ CcError) (old new : List Entry) → LoggedLeft u me file id at bytes handle answered old new → Ended (Some id) answered old new
  follow-logged id at bytes handle answered old new (inl left) =
      ended-refused (Some id) left.0 answered old new left.1 (f.unappended (Some id) handle (update_record_of_file file at bytes) left.0 old new left.2)
  follow-logged id at bytes handle answered old new (inr left) =
      ended-after (Some id) answered old left.0 new (f.appended (Some id) handle (update_record_of_file file at bytes) left.1 old left.0 left.2)
      (follow-recorded id at bytes left.1 answered left.0 new left.3)

  follow-told_update : (id at : ℕ) (bytes : List ℕ) (log : Option ℕ) (valid : ℕ) (answered : Result ℕ CcError) (old new : List Entry) → ToldUpdateLeft u me file id at bytes log valid answered old new → Ended (Some id) answered old new
  follow-told_update id at bytes None valid answered old new left = ended-tested (Some id) (error.NoLog 255) answered old new refl left.0 left.1
  follow-told_update id at bytes (Some handle) valid answered old new (inl left) = ended-tested (Some id) (error.BeyondValid valid) answered old new refl left.1 left.2
  follow-told_update id at bytes (Some handle) valid answered old new (inr left) = follow-logged id at bytes handle answered old new left.1

  follow-pinned : (id at : ℕ) (bytes : List ℕ) (answered : Result ℕ CcError) (old new : List Entry) → PinnedUpdateLeft u me file id at bytes answered old new → Ended (Some id) answered old new
  follow-pinned id at bytes answered old new (inl left) =
      ended-refused (Some id) left.0 answered old new left.1 (f.failed (Some id) (call.Query (query.State file)) left.0 old new refl left.2)
  follow-pinned id at bytes answered old new (inr left) =
      ended-after (Some id) answered old left.0 new (follow-state (Some id) left.1 old left.0 left.2) (follow-told_update id at bytes left.1.log left.1.sizes.valid answered left.0 new left.3)

  pub follow-update : (at : ℕ) (bytes : List ℕ) (answered : Result ℕ CcError) (old new : List Entry) → UpdateLeft u me file at bytes answered old new → Ended None answered old new
  follow-update at bytes answered old new (inl left) =
      ended-refused None left.0 answered old new left.1 (f.failed None (call.PinRead file at (length bytes) true) left.0 old new refl left.2)
  follow-update at bytes answered old new (inr left) =
      ended-held (call.PinRead file at (length bytes) true) left.0 answered old left.1 new refl refl left.3
      (ended-before left.0 answered left.1 left.2 new (follow-pinned left.0 at bytes answered left.1 left.2 left.4) (follow-end left.0 left.2 new left.5))

  -- ---- what is tested against the locks first

  module _ (t : FollowsTests me file Done Failed) where
    follow-untested : (range : Range) (write : Bool) (e : CcError) (old new : List Entry) → TestLeft me file range write (Err e) old new → Failed None e old new
    follow-untested range write (error.LockConflict id) old new left = t.barred range write id old new left
    follow-untested range write (error.JournalFull entries) old new left = f.tested None (error.JournalFull entries) old new refl left
    follow-untested range write error.NoMemory old new left = f.tested None error.NoMemory old new refl left
    follow-untested range write other old new left = absurd left

    module _ {A : Type 0} (range : Range) (write : Bool) (Left : Result A CcError → Between) (made : (answered : Result A CcError) (old new : List Entry) → Left answered old new → Ended None answered old new) where
      follow-admitted : (answered : Result A CcError) (old new : List Entry) → RangeTestedLeft me file range write Left answered old new → Ended None answered old new
      follow-admitted answered old new (inl left) = ended-refused None left.0 answered old new left.1 (follow-untested range write left.0 old new left.2)
      follow-admitted answered old new (inr left) =
          ended-after None answered old left.0 new (t.noted range write old left.0 left.1) (made answered left.0 new left.2)

      follow-found : (refused : Option CcError) (answered : Result A CcError) (old new : List Entry) → IsCalm refused → FoundLeft me file range write refused Left answered old new → Ended None answered old new
      follow-found (Some e) answered old new calm left = ended-refused None e answered old new left.0 (f.tested None e old new calm left.1)
      follow-found None answered old new calm left = follow-admitted answered old new left

      follow-locked : (by : FileState → Option CcError) (answered : Result A CcError) (old new : List Entry) → ((state : FileState) → IsCalm (by state)) → LockedLeft u me file range write by Left answered old new → Ended None answered old new
      follow-locked by answered old new calm (inl left) = ended-refused None left.0 answered old new left.1 (f.failed None (call.Query (query.State file)) left.0 old new refl left.2)
      follow-locked by answered old new calm (inr left) =
          ended-after None answered old left.0 new (follow-state None left.1 old left.0 left.2) (follow-found (by left.1) answered left.0 new (calm left.1) left.3)

    follow-locked_read : (path : ReadPath) (at len : ℕ) (answered : Result (List ℕ) CcError) (old new : List Entry) → LockedReadLeft u me file path at len answered old new → Ended None answered old new
    follow-locked_read path at len answered old new left =
        follow-locked (tested_range at len) false (ReadTested u me file path at len (too_long_for path len) (misaligned_for path at len))
        (λ answered old new left. follow-read path at len (too_long_for path len) (misaligned_for path at len) answered old new (calm-long path len) (calm-misaligned path at len) left)
        (read_refused path at len) answered old new (calm-read path at len) left

    follow-locked_write : (at : ℕ) (bytes : List ℕ) (answered : Result (Unit {0}) CcError) (old new : List Entry) → LockedWriteLeft u me file at bytes answered old new → Ended None answered old new
    follow-locked_write at bytes answered old new left =
        follow-locked (tested_range at (length bytes)) true (WriteTested u me file at bytes (nat_lt 1048576 (length bytes)))
        (λ answered old new left. follow-write at bytes (nat_lt 1048576 (length bytes)) answered old new left)
        (write_refused at (length bytes)) answered old new (calm-write at (length bytes)) left

    follow-locked_update : (at : ℕ) (bytes : List ℕ) (answered : Result ℕ CcError) (old new : List Entry) → LockedUpdateLeft u me file at bytes answered old new → Ended None answered old new
    follow-locked_update at bytes answered old new left =
        follow-locked (tested_range at (length bytes)) true (UpdateLeft u me file at bytes) (λ answered old new left. follow-update at bytes answered old new left)
        (update_refused at (length bytes)) answered old new (calm-update at (length bytes)) left

    -- ---- lines

    pub told-read : (path : ReadPath) (at len : ℕ) (told : Answer) (old new : List Entry) → LockedReadAnswered u me file path at len told old new → Told Done Failed told old new
    told-read path at len (answer.Given (reply.Read bytes)) old new left = follow-locked_read path at len (Ok bytes) old new left
    told-read path at len (answer.Refused e) old new left = follow-locked_read path at len (Err e) old new left
    told-read path at len other old new left = absurd left

    pub told-write : (at : ℕ) (bytes : List ℕ) (told : Answer) (old new : List Entry) → LockedWriteAnswered u me file at bytes told old new → Told Done Failed told old new
    told-write at bytes (answer.Given reply.Unit) old new left = follow-locked_write at bytes (Ok tt) old new left
    told-write at bytes (answer.Refused e) old new left = follow-locked_write at bytes (Err e) old new left
    told-write at bytes other old new left = absurd left

    pub told-update : (at : ℕ) (bytes : List ℕ) (told : Answer) (old new : List Entry) → LockedUpdateAnswered u me file at bytes told old new → Told Done Failed told old new
    told-update at bytes (answer.NewLsn lsn) old new left = follow-locked_update at bytes (Ok lsn) old new left
    told-update at bytes (answer.Refused e) old new left = follow-locked_update at bytes (Err e) old new left
    told-update at bytes other old new left = absurd left
