-- An update: what its calls leave under its pin, put together, and its pin, which they leave open.
use Rattle.std.specs.Prelude.{◌≡◌, ℕ, ◌+◌, ◌<◌, ◌≤◌, ◌^◌, true, nat_le, List, [], ◌∷◌, ◌++◌, length, Result, Ok, Err, IfOk, OnErr, refl}
use Rattle.std.specs.declared.option.Option.{Option}
use Rattle.std.specs.declared.option.Option.TheVariants.{Some, None}
use Rattle.std.proofs.Common.{ap, sym, ◌∙◌, subst, inl, inr, append_assoc, arith}
use Rattle.std.proofs.lemmas.Bool.{and_parts, le-leb, leb-true}
use Rattle.cc_entry.specs.Kinds.{is_pin}
use Rattle.cc_entry.specs.Place.{File}
use Rattle.cc_entry.specs.declared.call.Call.{Call}
use Rattle.cc_entry.specs.declared.call.Call.TheVariants as call
use Rattle.cc_entry.specs.declared.query.Query.TheVariants as query
use Rattle.cc_entry.specs.declared.entry.Entry.{Entry}
use Rattle.cc_entry.specs.declared.error.CcError.{CcError}
use Rattle.cc_entry.specs.declared.error.CcError.TheVariants as error
use Rattle.cc_entry.specs.declared.place.FileState.{FileState}
use Rattle.cc_entry.specs.declared.reply.Outcome.TheVariants as outcome
use Rattle.cc_entry.specs.declared.reply.Reply.TheVariants as reply
use Rattle.cc_model.specs.Good.{IsGood}
use Rattle.cc_model.specs.History.{history}
use Rattle.cc_model.specs.Passes.{HasSeen}
use Rattle.cc_model.specs.Setup.{Setup}
use Rattle.cc_model.specs.Touches.{valid_of}
use Rattle.cc_effects.specs.Calls.{CallLeft}
use Rattle.cc_effects.specs.LogCalls.{AppendLeft}
use Rattle.cc_effects.proofs.Stretches.{idle-none}
use Rattle.cc_own.specs.Own.{HasHold, IsUnchanged}
use Rattle.cc_own.proofs.Unchanged.{unchanged-call, unchanged-keeps}
use Rattle.cc_own.proofs.VerbsKeep.{append-unchanged}
use Rattle.cc_turns.specs.Standing.{Standing}
use Rattle.cc_writes.specs.Ways.{IsFull}
use Rattle.cc_calls.specs.Answers.{CallEnds, outcome_of, state_outcome}
use Rattle.cc_calls.specs.Ends.{HoldEnded, MakingEnds, SetDirtyEnds, UseEnds, held_of_range, hold_outcome}
use Rattle.cc_calls.specs.Held.{IsHolding, held_covers}
use Rattle.cc_calls.specs.Logs.{LogEnds}
use Rattle.cc_calls.specs.Pages.{WentOn}
use Rattle.cc_calls.specs.declared.held.Held.{Held}
use Rattle.cc_calls.proofs.Holding.{so-far}
use Rattle.cc_calls.proofs.Paging.{full-within, most_room}
use Rattle.cc_pieces.specs.Shim.{CallsLeft, IsForWant, LoggedLeft, PinnedUpdateLeft, RecordedLeft, ToldUpdateLeft, UpdateLeft, update_record_of_file}
use Rattle.cc_shim.specs.Ends.{BearsLsn, ListEnds, PinnedEnds, CallListWasFull, WasPinned}
use Rattle.cc_shim.proofs.Going.{HasGone, ends-after, ends-before, ends-here, full-now, gone-append, gone-ended, gone-ends, gone-list, gone-none, gone-pages, moved, same-number, same-setup, two-asked}
use Rattle.cc_shim.proofs.Lists.{done-then, last-call}
use Rattle.cc_shim.proofs.Stamping.{bears, stamp-for-want, told-valid, write-for-want}
use Rattle.cc_shim.proofs.Told.{pinned-short}
use Rattle.cc_shim.proofs.ValidKept.{valid-stays}

-- the range of a pin has all its bytes
pub covers-all : (file : File) (at len id : ℕ) → held_covers (held_of_range file at len id) at len ≡ true
covers-all file at len id = rw (le-leb at at (omega arith)) (le-leb (at + len) (at + len) (omega arith))

pub covers-held : (file : File) (at len : ℕ) (held : Held) → held ≡ held_of_range file at len held.id → held_covers held at len ≡ true
covers-held file at len held is = subst (λ (h : Held). held_covers h at len ≡ true) (sym is) (covers-all file at len held.id)

-- the pass has its pin still
still : (w v : Standing) (held : Held) → WentOn w v → IsUnchanged w.number held.id w.seen v.seen → IsGood w.setup v.seen → IsHolding w is_pin held → IsHolding v is_pin held
still w v held on unchanged good h = record {
  hold = h.hold;
  has =
      subst (λ (me : ℕ). HasHold me held.file.stream held.id h.hold v.seen) (sym (same-number w v on))
      (unchanged-keeps w.setup w.number held.file.stream held.id h.hold w.seen v.seen unchanged (so-far w.setup v.seen good) h.has);
  kind_is = h.kind_is;
  file_is = h.file_is;
  at_is = h.at_is;
  len_is = h.len_is;
}

-- what a pin covers begins at its end or before
within-pin : (w : Standing) (pin : Held) (at n : ℕ) (h : IsHolding w is_pin pin) → held_covers pin at n ≡ true → at ≤ h.hold.at + h.hold.len
within-pin w pin at n h covered =
    let end = leb-true (at + n) (pin.at + pin.len) (and_parts (nat_le pin.at at) (nat_le (at + n) (pin.at + pin.len)) covered).1 in
    omega (arith, end, h.at_is, h.len_is)

-- ---- the pages that bear an LSN

-- they do in a longer stretch
bears-earlier : (file : File) (at len lsn : ℕ) (older old new : List Entry) → HasSeen older old → BearsLsn file at len lsn old new → BearsLsn file at len lsn older new
bears-earlier file at len lsn older old new grew b = record {
  moment = b.moment;
  later = b.later;
  since = b.since ++ grew.later;
  ends = b.ends;
  begins = b.begins ∙ (ap (λ l. b.since ++ l) grew.grew ∙ sym (append_assoc b.since grew.later older));
  holds = b.holds;
}

bears-later : (file : File) (at len lsn : ℕ) (old new newer : List Entry) → HasSeen new newer → BearsLsn file at len lsn old new → BearsLsn file at len lsn old newer
bears-later file at len lsn old new newer grew b = record {
  moment = b.moment;
  later = grew.later ++ b.later;
  since = b.since;
  ends = grew.grew ∙ (ap (λ l. grew.later ++ l) b.ends ∙ sym (append_assoc grew.later b.later b.moment));
  begins = b.begins;
  holds = b.holds;
}

-- so of what is answered
pub answered-earlier : (file : File) (at len : ℕ) (answer : Result ℕ CcError) (older old new : List Entry) → HasSeen older old → IfOk answer (λ lsn. BearsLsn file at len lsn old new) → IfOk answer (λ lsn. BearsLsn file at len lsn older new)
answered-earlier file at len (Ok lsn) older old new grew b = bears-earlier file at len lsn older old new grew b
answered-earlier file at len (Err e) older old new grew b = tt

pub answered-later : (file : File) (at len : ℕ) (answer : Result ℕ CcError) (old new newer : List Entry) → HasSeen new newer → IfOk answer (λ lsn. BearsLsn file at len lsn old new) → IfOk answer (λ lsn. BearsLsn file at len lsn old newer)
answered-later file at len (Ok lsn) old new newer grew b = bears-later file at len lsn old new newer grew b
answered-later file at len (Err e) old new newer grew b = tt

-- ---- the bytes written and stamped

-- the answer of an update whose pin was set dirty so
abbrev pub stamped_with : ℕ → Result (Unit {0}) CcError → Result ℕ CcError
stamped_with lsn (Ok done) = Ok lsn
stamped_with lsn (Err e) = Err e

module _ (w v : Standing) (pin : Held) (at : ℕ) (bytes : List ℕ) (lsn : ℕ) where
  abbrev writing : Call
  writing = call.PinnedWrite pin.id at bytes

  abbrev stamping : Call
  stamping = call.SetDirty pin.id (Some lsn)

  abbrev Recorded : Result ℕ CcError → List Entry → List Entry → Type 0
  Recorded answered old new = RecordedLeft w.setup w.number pin.id at bytes lsn answered old new

  -- a write that begins below the valid data length is refused for want alone
  pub for-want : (e : CcError) → IsHolding w is_pin pin → held_covers pin at (length bytes) ≡ true → IsGood w.setup w.seen → at ≤ valid_of (history w.seen pin.file.stream) → UseEnds w v is_pin pin writing (Err e) → IsForWant e
  for-want e h covered good valid ends =
      write-for-want w.setup w.number pin.file.stream pin.id h.hold at bytes w.seen v.seen (so-far w.setup v.seen (ends.call_ends.good good)) h.has
      (within-pin w pin at (length bytes) h covered) valid e ends.call_ends.left

  -- the write was refused
  pub unwritten : (e : CcError) → v.others ≤ v.most_others → IsForWant e → UseEnds w v is_pin pin writing (Err e) → PinnedEnds w v pin Recorded (Err e)
  unwritten e few want ends =
      let gone = gone-ends outcome_of w v writing (Err e) ends.call_ends in
      record {
        ends = ends-here w v Recorded (Err e) gone (full-now {A = Unit {0}} w v 2 (Err e) gone few (omega arith) ends.call_ends.full) (want, inl ends.call_ends.left);
        holding = ends.holding;
      }

  -- it was done, and the pin set dirty, or not
  pub stamped : (x : Standing) (answer : Result (Unit {0}) CcError) → OnErr answer (x.others ≤ x.most_others) → UseEnds w v is_pin pin writing (Ok tt) → SetDirtyEnds v x pin (Some lsn) answer → PinnedEnds w x pin Recorded (stamped_with lsn answer)
  stamped x answer few wrote stamps =
      let first = gone-ends outcome_of w v writing (Ok tt) wrote.call_ends in
      let second = gone-ends outcome_of v x stamping answer stamps.use_ends.call_ends in
      let last = moved w v first.on (λ u me. CallLeft u me stamping (outcome_of answer) v.seen x.seen) stamps.use_ends.call_ends.left in
      record {
        ends =
            ends-after w v x Recorded (λ told old new. CallLeft v.setup v.number stamping (outcome_of answer) old new) (stamped_with lsn answer) first
            (ends-here v x (λ told old new. CallLeft v.setup v.number stamping (outcome_of answer) old new) (stamped_with lsn answer) second (by-full answer few second stamps.use_ends.call_ends.full) stamps.use_ends.call_ends.left)
            (λ left. whole answer last (done-then w.setup w.number writing (stamping ∷ []) answer w.seen v.seen x.seen wrote.call_ends.left (last-call w.setup w.number stamping answer v.seen x.seen last)));
        holding = stamps.use_ends.holding;
      }
    where
      by-full : (answer : Result (Unit {0}) CcError) → OnErr answer (x.others ≤ x.most_others) → HasGone v x → IsFull 1 x answer → CallListWasFull v x (stamped_with lsn answer)
      by-full (Ok done) few gone full = tt
      by-full (Err e) few gone full = full-now {A = Unit {0}} v x 1 (Err e) gone few (omega arith) full

      whole : (answer : Result (Unit {0}) CcError) → CallLeft w.setup w.number stamping (outcome_of answer) v.seen x.seen → CallsLeft w.setup w.number (writing ∷ stamping ∷ []) answer w.seen x.seen → Recorded (stamped_with lsn answer) w.seen x.seen
      whole (Ok done) last left = (refl, left)
      whole (Err e) last left = (stamp-for-want w.setup w.number pin.id (Some lsn) e v.seen x.seen last, left)

  -- both were done, and each page of the pin bears the LSN
  pub bearing : (x : Standing) → IsGood w.setup w.seen → UseEnds w v is_pin pin writing (Ok tt) → SetDirtyEnds v x pin (Some lsn) (Ok tt) → BearsLsn pin.file pin.at pin.len lsn w.seen x.seen
  bearing x good wrote stamps =
      let first = gone-ends outcome_of w v writing (Ok tt) wrote.call_ends in
      let h = wrote.holding in
      let good_between : IsGood v.setup v.seen = subst (λ (u : Setup). IsGood u v.seen) (sym (same-setup w v first.on)) (first.good good) in
      let here = bears v.setup v.number pin.id lsn pin.file h.hold reply.Unit v.seen x.seen stamps.use_ends.call_ends.left (so-far v.setup x.seen (stamps.use_ends.call_ends.good good_between)) h.has in
      bears-earlier pin.file pin.at pin.len lsn w.seen v.seen x.seen first.grew
      (subst (λ n. BearsLsn pin.file pin.at n lsn v.seen x.seen) h.len_is (subst (λ n. BearsLsn pin.file n h.hold.len lsn v.seen x.seen) h.at_is here))

-- ---- behind the record

module _ (w : Standing) (file : File) (pin : Held) (at : ℕ) (bytes : List ℕ) (handle : ℕ) where
  abbrev Logged : Result ℕ CcError → List Entry → List Entry → Type 0
  Logged answered old new = LoggedLeft w.setup w.number file pin.id at bytes handle answered old new

  abbrev Appended : Result ℕ CcError → List Entry → List Entry → Type 0
  Appended answered old new = AppendLeft w.setup w.number handle (update_record_of_file file at bytes) answered old new

  -- no memory for the record
  pub unrecorded : IsHolding w is_pin pin → PinnedEnds w w pin Logged (Err error.NoMemory)
  unrecorded holding = record {
    ends = ends-here w w Logged (Err error.NoMemory) (gone-none w) tt (inl (error.NoMemory, refl, idle-none w.number w.seen));
    holding = holding;
  }

  module _ (v : Standing) (answer : Result ℕ CcError) (good : IsGood w.setup w.seen) (holding : IsHolding w is_pin pin) (ends : LogEnds w v Appended answer) where
    -- the pass has its pin behind the append
    pub still-appended : IsHolding v is_pin pin
    still-appended =
        still w v pin (gone-append w v handle (update_record_of_file file at bytes) answer ends).on
        (append-unchanged w.setup w.number pin.id handle (update_record_of_file file at bytes) answer w.seen v.seen ends.left) (ends.good good) holding

    -- the valid data length stays above the place meanwhile
    pub valid-appended : held_covers pin at (length bytes) ≡ true → at ≤ valid_of (history w.seen pin.file.stream) → at ≤ valid_of (history v.seen pin.file.stream)
    valid-appended covered valid =
        valid-stays w.setup w.number pin.file.stream pin.id holding.hold at (within-pin w pin at (length bytes) holding covered) w.seen v.seen
        (append-unchanged w.setup w.number pin.id handle (update_record_of_file file at bytes) answer w.seen v.seen ends.left) (so-far w.setup v.seen (ends.good good)) holding.has valid

    pub good-appended : IsGood v.setup v.seen
    good-appended =
        let gone = gone-append w v handle (update_record_of_file file at bytes) answer ends in
        subst (λ (u : Setup). IsGood u v.seen) (sym (same-setup w v gone.on)) (ends.good good)

    -- what bears the LSN behind the append
    pub bears-appended : (x : Standing) (told : Result ℕ CcError) → pin ≡ held_of_range file at (length bytes) pin.id → IfOk told (λ lsn. BearsLsn pin.file pin.at pin.len lsn v.seen x.seen) → IfOk told (λ lsn. BearsLsn file at (length bytes) lsn w.seen x.seen)
    bears-appended x told range b =
        answered-earlier file at (length bytes) told w.seen v.seen x.seen (gone-append w v handle (update_record_of_file file at bytes) answer ends).grew
        (subst (λ (h : Held). IfOk told (λ lsn. BearsLsn h.file h.at h.len lsn v.seen x.seen)) range b)

  -- the append was refused
  pub unappended : (v : Standing) (e : CcError) → v.others ≤ v.most_others → IsGood w.setup w.seen → IsHolding w is_pin pin → LogEnds w v Appended (Err e) → PinnedEnds w v pin Logged (Err e)
  unappended v e few good holding ends =
      let gone = gone-append w v handle (update_record_of_file file at bytes) (Err e) ends in
      record {
        ends = ends-here w v Logged (Err e) gone (full-now {A = ℕ} w v 1 (Err e) gone few (omega arith) ends.full) (inl (e, refl, ends.left));
        holding = still-appended v (Err e) good holding ends;
      }

  -- it was done, and the rest followed
  pub appended : (v x : Standing) (lsn : ℕ) (answer : Result ℕ CcError) → LogEnds w v Appended (Ok lsn) → PinnedEnds v x pin (RecordedLeft v.setup v.number pin.id at bytes lsn) answer → PinnedEnds w x pin Logged answer
  appended v x lsn answer ends rest =
      let gone = gone-append w v handle (update_record_of_file file at bytes) (Ok lsn) ends in
      record {
        ends =
            ends-after w v x Logged (RecordedLeft v.setup v.number pin.id at bytes lsn) answer gone rest.ends
            (λ left. inr (v.seen, lsn, ends.left, moved w v gone.on (λ u me. RecordedLeft u me pin.id at bytes lsn answer v.seen x.seen) left));
        holding = rest.holding;
      }

-- ---- under the pin

module _ (w v : Standing) (file : File) (pin : Held) (at : ℕ) (bytes : List ℕ) (holding : IsHolding w is_pin pin) (good : IsGood w.setup v.seen) where
  abbrev Pinned : Result ℕ CcError → List Entry → List Entry → Type 0
  Pinned answered old new = PinnedUpdateLeft w.setup w.number file pin.id at bytes answered old new

  still-told : (answer : Result FileState CcError) → CallEnds state_outcome w v (call.Query (query.State file)) answer → IsHolding v is_pin pin
  still-told answer ends =
      still w v pin (gone-ends state_outcome w v (call.Query (query.State file)) answer ends).on
      (unchanged-call w.setup w.number pin.id (call.Query (query.State file)) (state_outcome answer) w.seen v.seen ends.left refl) good holding

  -- the state was not told
  pub untold : (e : CcError) → v.others ≤ v.most_others → CallEnds state_outcome w v (call.Query (query.State file)) (Err e) → PinnedEnds w v pin Pinned (Err e)
  untold e few ends =
      let gone = gone-ends state_outcome w v (call.Query (query.State file)) (Err e) ends in
      record {
        ends = ends-here w v Pinned (Err e) gone (full-now {A = FileState} w v 1 (Err e) gone few (omega arith) ends.full) (inl (e, refl, ends.left));
        holding = still-told (Err e) ends;
      }

  module _ (state : FileState) (ends : CallEnds state_outcome w v (call.Query (query.State file)) (Ok state)) where
    -- the pass has its pin behind it, and what it has seen is good
    pub pin-told : IsHolding v is_pin pin
    pin-told = still-told (Ok state) ends

    pub good-told : IsGood v.setup v.seen
    good-told =
        let gone = gone-ends state_outcome w v (call.Query (query.State file)) (Ok state) ends in
        subst (λ (u : Setup). IsGood u v.seen) (sym (same-setup w v gone.on)) good

    pub short-told : WasPinned w file at (length bytes) pin.id → length bytes < 2 ^ 32
    short-told made =
        let gone = gone-ends state_outcome w v (call.Query (query.State file)) (Ok state) ends in
        pinned-short w.setup w.number file at (length bytes) pin.id made.0 w.seen gone.grew.later made.1
        (subst (λ (past : List Entry). IsGood w.setup past) gone.grew.grew good)

    pub valid-told : pin ≡ held_of_range file at (length bytes) pin.id → at ≤ state.sizes.valid → at ≤ valid_of (history v.seen pin.file.stream)
    valid-told range within =
        let same : pin.file ≡ file = ap (λ (h : Held). h.file) range in
        let has : HasHold w.number file.stream pin.id holding.hold w.seen = subst (λ (f : File). HasHold w.number f.stream pin.id holding.hold w.seen) same holding.has in
        let covered = covers-held file at (length bytes) pin range in
        let there = told-valid w.setup w.number pin.id holding.hold file at state w.seen v.seen ends.left (so-far w.setup v.seen good) has (within-pin w pin at (length bytes) holding covered) within in
        subst (λ (f : File). at ≤ valid_of (history v.seen f.stream)) (sym same) there

    pub bears-told : (x : Standing) (told : Result ℕ CcError) → IfOk told (λ lsn. BearsLsn file at (length bytes) lsn v.seen x.seen) → IfOk told (λ lsn. BearsLsn file at (length bytes) lsn w.seen x.seen)
    bears-told x told b = answered-earlier file at (length bytes) told w.seen v.seen x.seen (gone-ends state_outcome w v (call.Query (query.State file)) (Ok state) ends).grew b

    told-here : (e : CcError) → CallListWasFull {A = ℕ} w v (Err e) → ToldUpdateLeft w.setup w.number file pin.id at bytes state.log state.sizes.valid (Err e) v.seen v.seen → PinnedEnds w v pin Pinned (Err e)
    told-here e full left =
        let gone = gone-ends state_outcome w v (call.Query (query.State file)) (Ok state) ends in
        record { ends = ends-here w v Pinned (Err e) gone full (inr (v.seen, state, ends.left, left)); holding = pin-told }

    -- the stream has no log
    pub without-log : state.log ≡ None → PinnedEnds w v pin Pinned (Err (error.NoLog 255))
    without-log none =
        told-here (error.NoLog 255) tt
        (subst (λ (log : Option ℕ). ToldUpdateLeft w.setup w.number file pin.id at bytes log state.sizes.valid (Err (error.NoLog 255)) v.seen v.seen) (sym none)
        (inl refl, idle-none w.number v.seen))

    module _ (handle : ℕ) (log : state.log ≡ Some handle) where
      -- the place is past the valid data length
      pub past-valid : state.sizes.valid < at → PinnedEnds w v pin Pinned (Err (error.BeyondValid state.sizes.valid))
      past-valid past =
          told-here (error.BeyondValid state.sizes.valid) tt
          (subst (λ (log : Option ℕ). ToldUpdateLeft w.setup w.number file pin.id at bytes log state.sizes.valid (Err (error.BeyondValid state.sizes.valid)) v.seen v.seen) (sym log)
          (inl (past, inl refl, idle-none w.number v.seen)))

      -- the rest followed
      pub with-log : (x : Standing) (answer : Result ℕ CcError) → at ≤ state.sizes.valid → PinnedEnds v x pin (LoggedLeft v.setup v.number file pin.id at bytes handle) answer → PinnedEnds w x pin Pinned answer
      with-log x answer within rest =
          let gone = gone-ends state_outcome w v (call.Query (query.State file)) (Ok state) ends in
          record {
            ends =
                ends-after w v x Pinned (LoggedLeft v.setup v.number file pin.id at bytes handle) answer gone rest.ends
                (λ left. inr (
                  v.seen,
                  state,
                  ends.left,
                  subst (λ (log : Option ℕ). ToldUpdateLeft w.setup w.number file pin.id at bytes log state.sizes.valid answer v.seen x.seen) (sym log)
                      (inr (within, moved w v gone.on (λ u me. LoggedLeft u me file pin.id at bytes handle answer v.seen x.seen) left)),
                ));
            holding = rest.holding;
          }

-- ---- the whole update

module _ (w v : Standing) (file : File) (at : ℕ) (bytes : List ℕ) where
  abbrev Updated : Result ℕ CcError → List Entry → List Entry → Type 0
  Updated answered old new = UpdateLeft w.setup w.number file at bytes answered old new

  abbrev pinning : Call
  pinning = call.PinRead file at (length bytes) true

  -- it was not pinned
  pub unpinned : (e : CcError) → v.others ≤ v.most_others → MakingEnds w v is_pin file at (length bytes) pinning (Err e) → ListEnds w v Updated (Err e)
  unpinned e few made =
      let gone = gone-pages w v pinning (outcome.Failed e) made.pages in
      ends-here w v Updated (Err e) gone
      (full-now {A = Held} w v (most_room pinning) (Err e) gone few two-asked (full-within {A = Held} pinning w v (Err e) made.full))
      (inl (e, refl, made.pages.left))

  module _ (pin : Held) (made : MakingEnds w v is_pin file at (length bytes) pinning (Ok pin)) where
    pub was-pinned : WasPinned v file at (length bytes) pin.id
    was-pinned =
        let gone = gone-pages w v pinning (hold_outcome (Ok pin)) made.pages in (
          w.seen,
          subst (λ (n : ℕ). CallLeft v.setup n pinning (outcome.Done (reply.Hold pin.id)) w.seen v.seen) (sym (same-number w v gone.on))
              (subst (λ (u : Setup). CallLeft u w.number pinning (outcome.Done (reply.Hold pin.id)) w.seen v.seen) (sym (same-setup w v gone.on)) made.pages.left),
        )

    pub bears-updated : (x y : Standing) (answer : Result ℕ CcError) → HoldEnded x y pin → IfOk answer (λ lsn. BearsLsn file at (length bytes) lsn v.seen x.seen) → IfOk answer (λ lsn. BearsLsn file at (length bytes) lsn w.seen y.seen)
    bears-updated x y answer ended b =
        answered-later file at (length bytes) answer w.seen x.seen y.seen (gone-ended x y pin ended).grew
        (answered-earlier file at (length bytes) answer w.seen v.seen x.seen (gone-pages w v pinning (hold_outcome (Ok pin)) made.pages).grew b)

    -- it was, and its pin was ended
    pub updated : (x y : Standing) (answer : Result ℕ CcError) → PinnedEnds v x pin (PinnedUpdateLeft v.setup v.number file pin.id at bytes) answer → HoldEnded x y pin → ListEnds w y Updated answer
    updated x y answer rest ended =
        let first = gone-pages w v pinning (hold_outcome (Ok pin)) made.pages in
        let second = gone-list v x (PinnedUpdateLeft v.setup v.number file pin.id at bytes) answer rest.ends in
        ends-after w v y Updated (Closed v.setup v.number) answer first
        (ends-before v x y (Closed v.setup v.number) (PinnedUpdateLeft v.setup v.number file pin.id at bytes) answer rest.ends (gone-ended x y pin ended)
        (λ left. (x.seen, left, moved v x second.on (λ u me. CallLeft u me (call.EndHold pin.id) (outcome.Done reply.Unit) x.seen y.seen) ended.left)))
        (λ left.
        let here = moved w v first.on (λ u me. Closed u me answer v.seen y.seen) left in
        inr (pin.id, v.seen, here.0, made.pages.left, here.1, here.2))
      where
        Closed : Setup → ℕ → Result ℕ CcError → List Entry → List Entry → Type 0
        Closed u me told old new =
            (done : List Entry) × PinnedUpdateLeft u me file pin.id at bytes told old done × CallLeft u me (call.EndHold pin.id) (outcome.Done reply.Unit) done new
