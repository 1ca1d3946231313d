-- A call that is tested against the locks first: the state, what refuses by it, the test, and the call, put together.
use Rattle.std.specs.Prelude.{◌≡◌, ℕ, ◌+◌, ◌≤◌, Bool, true, false, nat_lt, Result, Ok, Err, refl}
use Rattle.std.specs.declared.option.Option.{Option}
use Rattle.std.specs.declared.option.Option.TheVariants.{Some, None}
use Rattle.std.proofs.Common.{sym, subst, inl, inr, arith}
use Rattle.cc_entry.specs.Place.{File, Range}
use Rattle.cc_entry.specs.declared.call.Call.TheVariants as call
use Rattle.cc_entry.specs.declared.query.Query.TheVariants as query
use Rattle.cc_entry.specs.declared.error.CcError.{CcError}
use Rattle.cc_entry.specs.declared.error.CcError.TheVariants as error
use Rattle.cc_entry.specs.declared.place.FileState.{FileState}
use Rattle.cc_model.specs.Reasons.{crosses_blocks, past_size, past_valid, refuse_if}
use Rattle.cc_model.specs.Setup.{Setup}
use Rattle.cc_effects.specs.Moments.{Between}
use Rattle.cc_effects.proofs.Stretches.{idle-none}
use Rattle.cc_script.specs.declared.script.ReadPath.{ReadPath}
use Rattle.cc_turns.specs.Standing.{Standing}
use Rattle.cc_calls.specs.Answers.{CallEnds, state_outcome}
use Rattle.cc_pieces.specs.Locks.{FoundLeft, LockedLeft, TestLeft, update_refused, no_log_error, write_refused}
use Rattle.cc_pieces.specs.Shim.{first_of_two, misaligned_for, too_long_for}
use Rattle.cc_shim.specs.Ends.{ListEnds, WasFullError}
use Rattle.cc_shim.proofs.Going.{ends-after, ends-here, full-now, gone-ends, gone-list, gone-none, moved}
use Rattle.cc_shim.proofs.Reading.{long-full, misaligned-full}

module _ {A : Type 0} (file : File) (range : Range) (write : Bool) (Left : Setup → ℕ → Result A CcError → Between) where
  -- what is left behind the state, and as a whole
  abbrev pub Found : Standing → Option CcError → Result A CcError → Between
  Found w refused answered old new = FoundLeft w.number file range write refused (Left w.setup w.number) answered old new

  abbrev pub Locked : Standing → (FileState → Option CcError) → Result A CcError → Between
  Locked w by answered old new = LockedLeft w.setup w.number file range write by (Left w.setup w.number) answered old new

  -- the state was not told
  pub locked-untold : (w v : Standing) (by : FileState → Option CcError) (e : CcError) → v.others ≤ v.most_others → CallEnds state_outcome w v (call.Query (query.State file)) (Err e) → ListEnds w v (Locked w by) (Err e)
  locked-untold w v by e few ends =
      let gone = gone-ends state_outcome w v (call.Query (query.State file)) (Err e) ends in
      ends-here w v (Locked w by) (Err e) gone (full-now {A = FileState} w v 1 (Err e) gone few (omega arith) ends.full) (inl (e, refl, ends.left))

  -- it was, and the call went on by it
  pub locked-told : (w v x : Standing) (by : FileState → Option CcError) (state : FileState) (answer : Result A CcError) → CallEnds state_outcome w v (call.Query (query.State file)) (Ok state) → ListEnds v x (Found v (by state)) answer → ListEnds w x (Locked w by) answer
  locked-told w v x by state answer ends rest =
      let gone = gone-ends state_outcome w v (call.Query (query.State file)) (Ok state) ends in
      ends-after w v x (Locked w by) (Found v (by state)) answer gone rest
      (λ left. inr (v.seen, state, ends.left, moved w v gone.on (λ u me. FoundLeft me file range write (by state) (Left u me) answer v.seen x.seen) left))

  -- the state refuses it
  pub found-refused : (w : Standing) (refused : Option CcError) (e : CcError) → refused ≡ Some e → WasFullError 2 w w e → ListEnds w w (Found w refused) (Err e)
  found-refused w refused e is full =
      subst (λ (o : Option CcError). ListEnds w w (Found w o) (Err e)) (sym is)
      (ends-here w w (Found w (Some e)) (Err e) (gone-none w) full (refl, idle-none w.number w.seen))

  -- a lock conflicts, or the test could not be made
  pub found-untested : (w v : Standing) (refused : Option CcError) (e : CcError) → refused ≡ None → ListEnds w v (TestLeft w.number file range write) (Err e) → ListEnds w v (Found w refused) (Err e)
  found-untested w v refused e is ends =
      subst (λ (o : Option CcError). ListEnds w v (Found w o) (Err e)) (sym is)
      (ends-here w v (Found w None) (Err e) (gone-list w v (TestLeft w.number file range write) (Err e) ends) ends.full (inl (e, refl, ends.left)))

  -- none does, and the call was made
  pub found-made : (w v x : Standing) (refused : Option CcError) (answer : Result A CcError) → refused ≡ None → ListEnds w v (TestLeft w.number file range write) (Ok tt) → ListEnds v x (Left v.setup v.number) answer → ListEnds w x (Found w refused) answer
  found-made w v x refused answer is first rest =
      let gone = gone-list w v (TestLeft w.number file range write) (Ok tt) first in
      subst (λ (o : Option CcError). ListEnds w x (Found w o) answer) (sym is)
      (ends-after w v x (Found w None) (Left v.setup v.number) answer gone rest
      (λ left. inr (v.seen, first.left, moved w v gone.on (λ u me. Left u me answer v.seen x.seen) left)))

-- ---- what refuses by the state tells of no full journal

module _ (w : Standing) where
  abbrev Tells : Option CcError → Type 0
  Tells o = (e : CcError) → o ≡ Some e → WasFullError 2 w w e

  tells-first : (a b : Option CcError) → Tells a → Tells b → Tells (first_of_two a b)
  tells-first (Some x) b one two e is = one e is
  tells-first None b one two e is = two e is

  tells-some : (x : CcError) → WasFullError 2 w w x → Tells (Some x)
  tells-some x full e is = subst (λ (y : CcError). WasFullError 2 w w y) (same x e is) full
    where
      same : (x e : CcError) → Some x ≡ Some e → x ≡ e
      same x e is = cc

  tells-if : (b : Bool) (x : CcError) → WasFullError 2 w w x → Tells (refuse_if b x)
  tells-if true x full e is = tells-some x full e is
  tells-if false x full e is = absurd (cc is)

  tells-log : (log : Option ℕ) → Tells (no_log_error log)
  tells-log None e is = tells-some (error.NoLog 255) tt e is
  tells-log (Some handle) e is = absurd (cc is)

  pub read-tells : (path : ReadPath) (at len : ℕ) → Tells (first_of_two (too_long_for path len) (misaligned_for path at len))
  read-tells path at len = tells-first (too_long_for path len) (misaligned_for path at len) (long-full w path len) (misaligned-full w path at len)

  pub write-tells : (at len : ℕ) (state : FileState) → Tells (write_refused at len state)
  write-tells at len state =
      tells-first (refuse_if (nat_lt 1048576 len) (error.TooLong 1048576)) (refuse_if (nat_lt (state.sizes.valid + 67108864) at) (error.GapTooLong 67108864))
      (tells-if (nat_lt 1048576 len) (error.TooLong 1048576) tt)
      (tells-if (nat_lt (state.sizes.valid + 67108864) at) (error.GapTooLong 67108864) tt)

  pub update-tells : (at len : ℕ) (state : FileState) → Tells (update_refused at len state)
  update-tells at len state =
      tells-first (refuse_if (crosses_blocks at len) error.ViewBoundary) _ (tells-if (crosses_blocks at len) error.ViewBoundary tt)
      (tells-first (no_log_error state.log) _ (tells-log state.log)
      (tells-first (past_size state.sizes.size (at + len)) (past_valid state.sizes.valid at)
      (tells-if (nat_lt state.sizes.size (at + len)) (error.BeyondSize state.sizes.size) tt)
      (tells-if (nat_lt state.sizes.valid at) (error.BeyondValid state.sizes.valid) tt)))
