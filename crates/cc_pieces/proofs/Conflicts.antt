-- A read, a write or an update that is told of a lock in its way has the test that tells it: the calls behind a test are told of
-- none.
use Rattle.std.specs.Prelude.{◌≡◌, ℕ, zero, suc, ◌/◌, ◌%◌, ◌==◌, ◌&&◌, Bool, true, false, is_some, nat_lt, List, length, Result, Err, refl, if◌then◌else◌, ◌⊎◌}
use Rattle.std.specs.declared.option.Option.{Option}
use Rattle.std.specs.declared.option.Option.TheVariants.{Some, None}
use Rattle.std.proofs.Common.{sym, subst, inl, inr}
use Rattle.std.proofs.lemmas.Option.{same_Some}
use Rattle.cc_entry.specs.Errors.{number_of}
use Rattle.cc_entry.specs.Place.{File, Range}
use Rattle.cc_entry.specs.Queries.{extent_of_query, file_of_query, log_of_query}
use Rattle.cc_entry.specs.declared.answer.Answer.TheVariants as answer
use Rattle.cc_entry.specs.declared.call.Call.{Call}
use Rattle.cc_entry.specs.declared.call.Call.TheVariants as call
use Rattle.cc_entry.specs.declared.query.Query.TheVariants as query
use Rattle.cc_entry.specs.declared.entry.Entry.{Entry}
use Rattle.cc_entry.specs.declared.error.CcError.{CcError}
use Rattle.cc_entry.specs.declared.error.CcError.TheVariants as error
use Rattle.cc_entry.specs.declared.place.FileState.{FileState}
use Rattle.cc_entry.specs.declared.reply.Outcome.TheVariants as outcome
use Rattle.cc_script.specs.declared.script.ReadPath.{ReadPath}
use Rattle.cc_model.specs.Numbers.{is_among}
use Rattle.cc_model.specs.Queries.{refusals_where}
use Rattle.cc_model.specs.Setup.{Setup}
use Rattle.cc_effects.specs.Calls.{CallLeft, IsOvertaken, IsRefused}
use Rattle.cc_effects.specs.LogCalls.{AppendLeft}
use Rattle.cc_effects.specs.Moments.{Between}
use Rattle.cc_effects.specs.Noncached.{MisshapenLeft, PageReadsRefused, ShapedReadLeft, shape_refusal}
use Rattle.cc_effects.specs.Refusals.{may_refuse}
use Rattle.cc_pieces.specs.Locks.{RangeTestedLeft, FoundLeft, LockedLeft, LockedReadAnswered, LockedUpdateAnswered, LockedWriteAnswered, TestLeft, read_refused, tested_range, update_refused, write_refused}
use Rattle.cc_pieces.specs.Shim.{ReadTested, UpdateLeft, WriteTested, misaligned_for, too_long_for}
use Rattle.cc_pieces.proofs.ShimLines.{Follows, IsCalm, calm-long, calm-misaligned, calm-read, calm-update, calm-write, follow-read, follow-update, follow-write, is_calm}

-- an error tells of no lock
abbrev pub IsOther : CcError → Type 0
IsOther (error.LockConflict id) = ⊥
IsOther other = Unit {0}

calm-other : (e : CcError) → is_calm e ≡ true → IsOther e
calm-other (error.LockConflict id) calm = absurd (cc calm)
calm-other other calm = tt

-- no query is refused for a lock
never-listed_where : (on_file on_log paged : Bool) (id : ℕ) → is_among (number_of (error.LockConflict id)) (refusals_where on_file on_log paged) ≡ true → ⊥
never-listed_where true true true id listed = absurd (cc listed)
never-listed_where true true false id listed = absurd (cc listed)
never-listed_where true false true id listed = absurd (cc listed)
never-listed_where true false false id listed = absurd (cc listed)
never-listed_where false true true id listed = absurd (cc listed)
never-listed_where false true false id listed = absurd (cc listed)
never-listed_where false false true id listed = absurd (cc listed)
never-listed_where false false false id listed = absurd (cc listed)

-- no call is refused for a lock
never-listed : (it : Call) (id : ℕ) → may_refuse it (error.LockConflict id) ≡ true → ⊥
never-listed (call.CopyRead file at len true) id listed = absurd (cc listed)
never-listed (call.CopyRead file at len false) id listed = absurd (cc listed)
never-listed (call.PreparePin file at len true exclusive) id listed = absurd (cc listed)
never-listed (call.PreparePin file at len false exclusive) id listed = absurd (cc listed)
never-listed (call.Initialise file sizes quota temporary) id listed = absurd (cc listed)
never-listed (call.Uninitialise file truncate) id listed = absurd (cc listed)
never-listed (call.CopyWrite file at bytes) id listed = absurd (cc listed)
never-listed (call.Zero file span) id listed = absurd (cc listed)
never-listed (call.Map file at len) id listed = absurd (cc listed)
never-listed (call.PinRead file at len exclusive) id listed = absurd (cc listed)
never-listed (call.PinMapped hold exclusive) id listed = absurd (cc listed)
never-listed (call.MappedRead hold at len) id listed = absurd (cc listed)
never-listed (call.PinnedRead hold at len) id listed = absurd (cc listed)
never-listed (call.PinnedWrite hold at bytes) id listed = absurd (cc listed)
never-listed (call.SetDirty hold lsn) id listed = absurd (cc listed)
never-listed (call.EndHold hold) id listed = absurd (cc listed)
never-listed (call.Repin hold) id listed = absurd (cc listed)
never-listed (call.MdlRead file at len) id listed = absurd (cc listed)
never-listed (call.MdlWrite file at len) id listed = absurd (cc listed)
never-listed (call.MdlBytes hold at len) id listed = absurd (cc listed)
never-listed (call.MdlStore hold at bytes) id listed = absurd (cc listed)
never-listed (call.NcRead file page) id listed = absurd (cc listed)
never-listed (call.NcStore file page bytes) id listed = absurd (cc listed)
never-listed (call.NcWrite file page) id listed = absurd (cc listed)
never-listed (call.SetSizes file allocation size) id listed = absurd (cc listed)
never-listed (call.Query asked) id listed =
    never-listed_where (is_some (file_of_query asked)) (is_some (log_of_query asked)) (is_some (extent_of_query asked)) id listed
never-listed (call.Flush file span) id listed = absurd (cc listed)
never-listed (call.Purge file span) id listed = absurd (cc listed)
never-listed (call.Discard file span) id listed = absurd (cc listed)
never-listed (call.SetLog file handle) id listed = absurd (cc listed)
never-listed (call.SetGranularity file bytes) id listed = absurd (cc listed)
never-listed (call.SetAttributes file no_read_ahead no_write_behind) id listed = absurd (cc listed)
never-listed (call.SetThreshold file pages) id listed = absurd (cc listed)
never-listed (call.AskAhead file at len) id listed = absurd (cc listed)
never-listed (call.AheadStep request) id listed = absurd (cc listed)

call-other : (u : Setup) (me : ℕ) (it : Call) (e : CcError) (old new : List Entry) → CallLeft u me it (outcome.Failed e) old new → IsOther e
call-other u me it (error.LockConflict id) old new left = by left
  where
    by : IsRefused me it (error.LockConflict id) old new ⊎ IsOvertaken u me it (error.LockConflict id) old new → ⊥
    by (inl is) = never-listed it id is.listed
    by (inr is) = never-listed it id is.listed
call-other u me it other old new left = tt

append-other : (u : Setup) (me handle : ℕ) (bytes : List ℕ) (e : CcError) (old new : List Entry) → AppendLeft u me handle bytes (Err e) old new → IsOther e
append-other u me handle bytes (error.LockConflict id) old new left = left
append-other u me handle bytes other old new left = tt

-- a misshapen noncached read is refused by its shape
shape-other : (at len : ℕ) (refusal : CcError) → shape_refusal at len ≡ Some refusal → IsOther refusal
shape-other at len refusal is = by (nat_lt 65536 len) (at % 4096 == 0 && len % 4096 == 0) is
  where
    by : (long whole : Bool) → (if long then Some (error.TooLong 65536) else (if whole then None else Some error.Unaligned)) ≡ Some refusal → IsOther refusal
    by true whole is = subst IsOther (same_Some _ refusal is) tt
    by false true is = absurd (cc is)
    by false false is = subst IsOther (same_Some _ refusal is) tt

misshapen-other : (me : ℕ) (file : File) (it : Call) (refusal e : CcError) (old new : List Entry) → MisshapenLeft me file it refusal e old new → IsOther refusal → IsOther e
misshapen-other me file it refusal error.NoMemory old new left is = tt
misshapen-other me file it refusal (error.JournalFull entries) old new left is = tt
misshapen-other me file it refusal error.NotCached old new left is = tt
misshapen-other me file it refusal e old new left is = subst IsOther (sym left.1) is

pages-other : (u : Setup) (me : ℕ) (file : File) (page done : ℕ) (e : CcError) (old new : List Entry) → PageReadsRefused u me file page done e old new → IsOther e
pages-other u me file page zero e old new left = call-other u me (call.NcRead file page) e old new left.1
pages-other u me file page (suc done) e old new left = pages-other u me file (suc page) done e left.0 new left.4

shaped-other : (u : Setup) (me : ℕ) (file : File) (at len : ℕ) (shape : Option CcError) (failed : ℕ × CcError) (old new : List Entry) → shape_refusal at len ≡ shape → ShapedReadLeft u me file at len shape (Err failed) old new → IsOther failed.1
shaped-other u me file at zero None failed old new is left = subst (λ (f : ℕ × CcError). IsOther f.1) (sym left.0) tt
shaped-other u me file at (suc len) None failed old new is left = pages-other u me file (at / 4096) failed.0 failed.1 old new left.1
shaped-other u me file at len (Some refusal) failed old new is left =
    misshapen-other me file (call.NcRead file (at / 4096)) refusal failed.1 old new left.1 (shape-other at len refusal is)

-- so none of the lists of calls is
others-told : (u : Setup) (me : ℕ) (file : File) → Follows u me file (λ own old new. Unit {0}) (λ own e old new. IsOther e)
others-told u me file = record {
  idle = λ own old new idle. tt;
  joins = λ own old between new first rest. tt;
  done = λ own it r old new on left. tt;
  failed = λ own it e old new on left. call-other u me it e old new left;
  after = λ own e old between new first rest. rest;
  before = λ id e old between new first rest. first;
  tested = λ own e old new calm idle. calm-other e calm;
  held = λ it id old made new makes on left rest. tt;
  unheld = λ it id e old made new makes on left rest. rest;
  read = λ at len bytes old new left. tt;
  unread = λ at len done e old new left. shaped-other u me file at len (shape_refusal at len) (done, e) old new refl left;
  appended = λ own handle bytes lsn old new left. tt;
  unappended = λ own handle bytes e old new left. append-other u me handle bytes e old new left;
}

same-error : {A : Type 0} (x y : CcError) → ◌≡◌ {A = Result A CcError} (Err x) (Err y) → x ≡ y
same-error x y is = cc

module _ {A : Type 0} (u : Setup) (me : ℕ) (file : File) (range : Range) (write : Bool) (Left : Result A CcError → Between) (id : ℕ)
    (never : (old new : List Entry) → Left (Err (error.LockConflict id)) old new → ⊥) where
  abbrev Test : List Entry → List Entry → Type 0
  Test old new = TestLeft me file range write (Err (error.LockConflict id)) old new

  apart : (e : CcError) → IsOther e → ◌≡◌ {A = Result A CcError} (Err (error.LockConflict id)) (Err e) → ⊥
  apart e other is = subst IsOther (sym (same-error {A = A} (error.LockConflict id) e is)) other

  admitted-tells : (old new : List Entry) → RangeTestedLeft me file range write Left (Err (error.LockConflict id)) old new → Test old new
  admitted-tells old new (inl left) =
      subst (λ (e : CcError). TestLeft me file range write (Err e) old new) (sym (same-error {A = A} (error.LockConflict id) left.0 left.1)) left.2
  admitted-tells old new (inr left) = absurd (never left.0 new left.2)

  found-tells : (refused : Option CcError) (old new : List Entry) → IsCalm refused → FoundLeft me file range write refused Left (Err (error.LockConflict id)) old new → Test old new
  found-tells (Some e) old new calm left = absurd (apart e (calm-other e calm) left.0)
  found-tells None old new calm left = admitted-tells old new left

  locked-tells : (by : FileState → Option CcError) (old new : List Entry) → ((state : FileState) → IsCalm (by state)) → LockedLeft u me file range write by Left (Err (error.LockConflict id)) old new → (between : List Entry) × Test between new
  locked-tells by old new calm (inl left) = absurd (apart left.0 (call-other u me (call.Query (query.State file)) left.0 old new left.2) left.1)
  locked-tells by old new calm (inr left) = (left.0, found-tells (by left.1) left.0 new (calm left.1) left.3)

module _ (u : Setup) (me : ℕ) (file : File) (id : ℕ) (old new : List Entry) where
  pub read-tested : (path : ReadPath) (at len : ℕ) → LockedReadAnswered u me file path at len (answer.Refused (error.LockConflict id)) old new → (between : List Entry) × TestLeft me file (tested_range at len) false (Err (error.LockConflict id)) between new
  read-tested path at len left =
      locked-tells {A = List ℕ} u me file (tested_range at len) false (ReadTested u me file path at len (too_long_for path len) (misaligned_for path at len)) id
      (λ old new left. follow-read u me file _ _ (others-told u me file) path at len (too_long_for path len) (misaligned_for path at len) (Err (error.LockConflict id)) old new (calm-long path len) (calm-misaligned path at len) left)
      (read_refused path at len) old new (calm-read path at len) left

  pub write-tested : (at : ℕ) (bytes : List ℕ) → LockedWriteAnswered u me file at bytes (answer.Refused (error.LockConflict id)) old new → (between : List Entry) × TestLeft me file (tested_range at (length bytes)) true (Err (error.LockConflict id)) between new
  write-tested at bytes left =
      locked-tells {A = Unit {0}} u me file (tested_range at (length bytes)) true (WriteTested u me file at bytes (nat_lt 1048576 (length bytes))) id
      (λ old new left. follow-write u me file _ _ (others-told u me file) at bytes (nat_lt 1048576 (length bytes)) (Err (error.LockConflict id)) old new left)
      (write_refused at (length bytes)) old new (calm-write at (length bytes)) left

  pub update-tested : (at : ℕ) (bytes : List ℕ) → LockedUpdateAnswered u me file at bytes (answer.Refused (error.LockConflict id)) old new → (between : List Entry) × TestLeft me file (tested_range at (length bytes)) true (Err (error.LockConflict id)) between new
  update-tested at bytes left =
      locked-tells {A = ℕ} u me file (tested_range at (length bytes)) true (UpdateLeft u me file at bytes) id
      (λ old new left. follow-update u me file _ _ (others-told u me file) at bytes (Err (error.LockConflict id)) old new left)
      (update_refused at (length bytes)) old new (calm-update at (length bytes)) left
