-- What the two calls behind the record of an update leave: the write is refused for want alone, as its pin keeps the valid data
-- length, and the stamp is on each page of the pin.
use Rattle.std.specs.Prelude.{◌≡◌, ◌==◌, ℕ, suc, ◌+◌, ◌≤◌, Bool, true, false, ◌||◌, nat_lt, List, ◌∷◌, ◌++◌, length, refl, ◌⊎◌}
use Rattle.std.specs.declared.option.Option.{Option}
use Rattle.std.specs.declared.option.Option.TheVariants.{Some}
use Rattle.std.specs.List.{list_any}
use Rattle.std.proofs.Common.{ap, sym, ◌∙◌, subst, inl, inr, arith}
use Rattle.std.proofs.lemmas.Bool.{eq-eqb, ltb-true}
use Rattle.cc_entry.specs.Place.{File}
use Rattle.cc_entry.specs.declared.call.Call.{Call}
use Rattle.cc_entry.specs.declared.call.Call.TheVariants as call
use Rattle.cc_entry.specs.declared.query.Query.TheVariants as query
use Rattle.cc_entry.specs.declared.entry.Entry.{Entry}
use Rattle.cc_entry.specs.declared.entry.Entry.TheVariants as entry
use Rattle.cc_entry.specs.declared.error.CcError.{CcError}
use Rattle.cc_entry.specs.declared.error.CcError.TheVariants as error
use Rattle.cc_entry.specs.declared.place.FileState.{FileState}
use Rattle.cc_entry.specs.declared.reply.Outcome.{Outcome}
use Rattle.cc_entry.specs.declared.reply.Outcome.TheVariants as outcome
use Rattle.cc_entry.specs.declared.reply.Reply.{Reply}
use Rattle.cc_entry.specs.declared.reply.Reply.TheVariants as reply
use Rattle.cc_entry.specs.declared.query.Value.TheVariants as value
use Rattle.cc_model.specs.Good.{IsGoodSoFar}
use Rattle.cc_model.specs.History.{Effect, Did, history}
use Rattle.cc_model.specs.Holds.{Hold, hold_at, holds_of}
use Rattle.cc_model.specs.Legal.{IsLegal, IsLegalEntry, IsOutcome, stream_history}
use Rattle.cc_model.specs.Reasons.{past_valid, refuse_if}
use Rattle.cc_model.specs.Refusals.{refusal}
use Rattle.cc_model.specs.Queries.{state_of}
use Rattle.cc_model.specs.Setup.{Setup}
use Rattle.cc_model.specs.Sizes.{Touch, hold_has, touched_if}
use Rattle.cc_model.specs.Touches.{touches, valid_of}
use Rattle.cc_effects.specs.Asked.{Calls}
use Rattle.cc_effects.specs.Calls.{CallLeft, IsOvertaken, IsPlaced, IsRefused}
use Rattle.cc_effects.specs.Refusals.{may_refuse}
use Rattle.cc_effects.proofs.FrontLaws.{legal-tail}
use Rattle.cc_laws.proofs.HistorySteps.{history-done}
use Rattle.cc_laws.proofs.TouchSteps.{touches-stamps}
use Rattle.cc_own.specs.Own.{HasHold, IsUnchanged}
use Rattle.cc_own.proofs.CallsKeep.{at-front, filed-stream, front-keeps, placed-here}
use Rattle.cc_own.proofs.Unchanged.{unchanged-entry, unchanged-others, unchanged-then, unchanged-works}
use Rattle.cc_pieces.specs.Shim.{IsForWant}
use Rattle.cc_shim.specs.Ends.{BearsLsn, has_lsn}
use Rattle.cc_shim.proofs.ValidKept.{valid-stays}

legal-call : (u : Setup) (me nth : ℕ) (stream : Option ℕ) (it : Call) (answered : Outcome) (front : List Entry) → IsLegal u (entry.Call me nth stream it answered ∷ front) → IsOutcome u front me stream it answered
unfolding IsLegal IsLegalEntry
legal-call u me nth stream it answered front legal = legal.0

-- a call answers no refusal that is not among its own
unlisted : (u : Setup) (me : ℕ) (it : Call) (e : CcError) (old new : List Entry) → may_refuse it e ≡ false → IsRefused me it e old new ⊎ IsOvertaken u me it e old new → ⊥
unlisted u me it e old new none (inl is) = cc (none, is.listed)
unlisted u me it e old new none (inr is) = cc (none, is.listed)

-- ---- the valid data length as a pass was told it

-- the pass was told a state behind a place, so the valid data length stays there while the pass has its hold
pub told-valid : (u : Setup) (me id : ℕ) (hold : Hold) (file : File) (n : ℕ) (state : FileState) (old new : List Entry) → CallLeft u me (call.Query (query.State file)) (outcome.Done (reply.Value (value.State state))) old new → IsGoodSoFar u new → HasHold me file.stream id hold old → n ≤ hold.at + hold.len → n ≤ state.sizes.valid → n ≤ valid_of (history new file.stream)
told-valid u me id hold file n state old new left good has below valid =
    let p = left.placed in
    let ended : Outcome = outcome.Done (reply.Value (value.State state)) in
    let front = left.earlier ++ old in
    let here = filed-stream (holds_of (stream_history front p.stream)) me p.stream (call.Query (query.State file)) file refl p.filed in
    let tail : IsLegal u (entry.Call me p.nth p.stream (call.Query (query.State file)) ended ∷ front) = legal-tail u p.later _ (rw p.grew at good.legal) in
    let told = legal-call u me p.nth p.stream (call.Query (query.State file)) ended front tail in
    let is : reply.Value (value.State state) ≡ reply.Value (value.State (state_of (history front file.stream))) =
    subst (λ (o : Option ℕ). reply.Value (value.State state) ≡ reply.Value (value.State (state_of (stream_history front o)))) here told.1 in
    let same : state ≡ state_of (history front file.stream) = inner (state_of (history front file.stream)) is in
    let then : n ≤ valid_of (history front file.stream) = subst (λ (x : FileState). n ≤ x.sizes.valid) same valid in
    let there = front-keeps u me file.stream id hold (call.Query (query.State file)) ended left.earlier old new p good has in
    let since : IsUnchanged me id front new =
    subst (IsUnchanged me id front) (sym p.grew)
    (unchanged-then me id front (entry.Call me p.nth p.stream (call.Query (query.State file)) ended ∷ front) _ (unchanged-entry me id _ front refl) (unchanged-others me id p.later _ p.quiet)) in
    valid-stays u me file.stream id hold n below front new since good there then
  where
    inner : (x : FileState) → reply.Value (value.State state) ≡ reply.Value (value.State x) → state ≡ x
    inner x same = cc

-- ---- the write through the pin

write-refusal : (u : Setup) (past : List Entry) (h : List Effect) (id at : ℕ) (bytes : List ℕ) → refusal u past h (call.PinnedWrite id at bytes) ≡ past_valid (valid_of h) at
unfolding refusal
write-refusal u past h id at bytes = go (nat_lt (valid_of h) at) refl
  where
    go : (b : Bool) → nat_lt (valid_of h) at ≡ b → refusal u past h (call.PinnedWrite id at bytes) ≡ past_valid (valid_of h) at
    go true is = rw is refl
    go false is = rw is refl

module _ (u : Setup) (me s id : ℕ) (hold : Hold) (at : ℕ) (bytes : List ℕ) (old new : List Entry) (good : IsGoodSoFar u new) (has : HasHold me s id hold old) (below : at ≤ hold.at + hold.len) (valid : at ≤ valid_of (history old s)) where
  abbrev writing : Call
  writing = call.PinnedWrite id at bytes

  -- it does not begin behind the valid data length
  not-beyond : (v : ℕ) (earlier : List Entry) → IsPlaced me writing (outcome.Failed (error.BeyondValid v)) earlier old new → ⊥
  not-beyond v earlier p =
      let ended : Outcome = outcome.Failed (error.BeyondValid v) in
      let front = earlier ++ old in
      let stream = placed-here u me s id hold writing ended earlier old new p good (eq-eqb id id refl) has in
      let tail : IsLegal u (entry.Call me p.nth p.stream writing ended ∷ front) = legal-tail u p.later _ (rw p.grew at good.legal) in
      let told : refusal u front (stream_history front p.stream) writing ≡ Some (error.BeyondValid v) = legal-call u me p.nth p.stream writing ended front tail in
      let is : refusal u front (history front s) writing ≡ Some (error.BeyondValid v) = subst (λ (o : Option ℕ). refusal u front (stream_history front o) writing ≡ Some (error.BeyondValid v)) stream told in
      let still = valid-stays u me s id hold at below old front (unchanged-works-front earlier p) (at-front u me writing ended earlier old new p good) has valid in
      apart (valid_of (history front s)) still (sym (write-refusal u front (history front s) id at bytes) ∙ is)
    where
      unchanged-works-front : (earlier : List Entry) → IsPlaced me writing (outcome.Failed (error.BeyondValid v)) earlier old new → IsUnchanged me id old (earlier ++ old)
      unchanged-works-front earlier p = unchanged-works me id (Calls writing) earlier old p.works

      apart : (most : ℕ) → at ≤ most → past_valid most at ≡ Some (error.BeyondValid v) → ⊥
      apart most low is = go (nat_lt most at) refl is
        where
          go : (b : Bool) → nat_lt most at ≡ b → refuse_if b (error.BeyondValid most) ≡ Some (error.BeyondValid v) → ⊥
          go true past is = let beyond = ltb-true most at past in omega (arith, low, beyond)
          go false past is = cc is

  pub write-for-want : (e : CcError) → CallLeft u me writing (outcome.Failed e) old new → IsForWant e
  write-for-want (error.JournalFull entries) left = tt
  write-for-want error.NoMemory left = tt
  write-for-want (error.ReadFault page) left = absurd (cc left.listed)
  write-for-want (error.WriteFault page) left = absurd (cc left.listed)
  write-for-want (error.LogFault handle) left = absurd (cc left.listed)
  write-for-want (error.BeyondValid v) (inl is) = absurd (not-beyond v is.earlier is.placed)
  write-for-want (error.BeyondValid v) (inr is) = absurd (not-beyond v is.earlier is.placed)
  write-for-want e left = absurd (unlisted u me writing e old new refl left)

-- ---- the stamp

pub stamp-for-want : (u : Setup) (me id : ℕ) (lsn : Option ℕ) (e : CcError) (old new : List Entry) → CallLeft u me (call.SetDirty id lsn) (outcome.Failed e) old new → IsForWant e
stamp-for-want u me id lsn (error.JournalFull entries) old new left = tt
stamp-for-want u me id lsn error.NoMemory old new left = tt
stamp-for-want u me id lsn (error.ReadFault page) old new left = absurd (cc left.listed)
stamp-for-want u me id lsn (error.WriteFault page) old new left = absurd (cc left.listed)
stamp-for-want u me id lsn (error.LogFault handle) old new left = absurd (cc left.listed)
stamp-for-want u me id lsn e old new left = absurd (unlisted u me (call.SetDirty id lsn) e old new refl left)

-- a done set-dirty with an LSN leaves it on each page of the pin
pub bears : (u : Setup) (me id lsn : ℕ) (file : File) (hold : Hold) (r : Reply) (old new : List Entry) → CallLeft u me (call.SetDirty id (Some lsn)) (outcome.Done r) old new → IsGoodSoFar u new → HasHold me file.stream id hold old → BearsLsn file hold.at hold.len lsn old new
bears u me id lsn file hold r old new left good has =
    let p = left.placed in
    let ended : Outcome = outcome.Done r in
    let front = left.earlier ++ old in
    let stream = placed-here u me file.stream id hold (call.SetDirty id (Some lsn)) ended left.earlier old new p good (eq-eqb id id refl) has in
    let there = front-keeps u me file.stream id hold (call.SetDirty id (Some lsn)) ended left.earlier old new p good has in
    record {
      moment = entry.Call me p.nth (Some file.stream) (call.SetDirty id (Some lsn)) ended ∷ front;
      later = p.later;
      since = entry.Call me p.nth (Some file.stream) (call.SetDirty id (Some lsn)) ended ∷ left.earlier;
      ends = subst (λ (o : Option ℕ). new ≡ p.later ++ (entry.Call me p.nth o (call.SetDirty id (Some lsn)) ended ∷ front)) stream p.grew;
      begins = refl;
      holds = λ q of.
          let h = history front file.stream in
          let now = history-done me p.nth file.stream (call.SetDirty id (Some lsn)) r front file.stream (eq-eqb file.stream file.stream refl) in
          let here : hold_has (hold_at (holds_of h) id) q ≡ true = rw (there.found, of) refl in
          let stamped : touches false (Did me (call.SetDirty id (Some lsn)) r ∷ h) q ≡ record { place = suc (length h); lsn = Some lsn } ∷ touches false h q =
          touches-stamps false me (call.SetDirty id (Some lsn)) r h q refl ∙ ap (λ b. touched_if b (suc (length h)) (Some lsn) (touches false h q)) here in
          subst (λ (x : List Effect). list_any (has_lsn lsn) (touches false x q) ≡ true) (sym now)
          (subst (λ (l : List Touch). list_any (has_lsn lsn) l ≡ true) (sym stamped) (first (lsn == lsn) (eq-eqb lsn lsn refl) (list_any (has_lsn lsn) (touches false h q))));
    }
  where
    first : (b : Bool) → b ≡ true → (rest : Bool) → (b || rest) ≡ true
    first true is rest = refl
    first false is rest = absurd (cc)
