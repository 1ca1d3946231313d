-- The lists of calls of the shim leave the holds as they are that the pass had: of holds they change their own alone.
use Rattle.std.specs.Prelude.{◌≡◌, ℕ, true, false, ◌==◌, List, Result, Ok, Err, refl}
use Rattle.std.specs.declared.option.Option.{Option}
use Rattle.std.specs.declared.option.Option.TheVariants.{Some, None}
use Rattle.std.proofs.Common.{subst}
use Rattle.cc_entry.specs.Place.{File}
use Rattle.cc_entry.specs.declared.answer.Answer.{Answer}
use Rattle.cc_entry.specs.declared.answer.Answer.TheVariants as answer
use Rattle.cc_entry.specs.declared.call.Call.{Call}
use Rattle.cc_entry.specs.declared.call.Call.TheVariants as call
use Rattle.cc_entry.specs.declared.entry.Entry.{Entry}
use Rattle.cc_entry.specs.declared.entry.Entry.TheVariants as entry
use Rattle.cc_entry.specs.declared.error.CcError.{CcError}
use Rattle.cc_entry.specs.declared.reply.Outcome.{Outcome}
use Rattle.cc_entry.specs.declared.reply.Outcome.TheVariants as outcome
use Rattle.cc_entry.specs.declared.reply.Reply.TheVariants as reply
use Rattle.cc_script.specs.declared.script.ReadPath.{ReadPath}
use Rattle.cc_model.specs.Acts.{file_of}
use Rattle.cc_model.specs.Cache.{makes_hold}
use Rattle.cc_model.specs.Good.{IsGoodSoFar}
use Rattle.cc_model.specs.Holds.{Hold}
use Rattle.cc_model.specs.Passes.{HasSeen}
use Rattle.cc_model.specs.Setup.{Setup}
use Rattle.cc_effects.specs.Calls.{CallLeft}
use Rattle.cc_effects.specs.LogCalls.{AppendLeft}
use Rattle.cc_effects.specs.Moments.{IsIdle, PlacedOnly}
use Rattle.cc_effects.specs.Noncached.{NcReadLeft}
use Rattle.cc_own.specs.Own.{HasHold, IsUnchanged, changes_hold, changes_it}
use Rattle.cc_own.proofs.CallsKeep.{filed-stream, good-tail}
use Rattle.cc_own.proofs.Unchanged.{unchanged-call, unchanged-idle, unchanged-keeps, unchanged-only, unchanged-then}
use Rattle.cc_own.proofs.VerbsKeep.{append-unchanged, nc_read-unchanged}
use Rattle.cc_pieces.specs.Locks.{LockedReadAnswered, LockedUpdateAnswered, LockedWriteAnswered}
use Rattle.cc_pieces.proofs.Grown.{grew-call, grew-only, grew-then}
use Rattle.cc_pieces.proofs.ShimLines.{Follows, FollowsTests, IsMadeOn, Told, told-read, told-update, told-write}
use Rattle.cc_lines.proofs.WordChanges.{made-apart}

-- the hold is not the list's own
abbrev IsOther : Option ℕ → ℕ → Type 0
IsOther None id = Unit {0}
IsOther (Some own) id = (own == id) ≡ false

-- the journal grew, and each hold that the pass had is as it was, but for the list's own
abbrev pub Keeps : Setup → ℕ → Option ℕ → List Entry → List Entry → Type 0
Keeps u me own old new =
    HasSeen old new × ((s id : ℕ) (hold : Hold) → IsGoodSoFar u new → HasHold me s id hold old → IsOther own id → IsUnchanged me id old new)

module _ (u : Setup) (me : ℕ) (file : File) where
  front-good : (between new : List Entry) → HasSeen between new → IsGoodSoFar u new → IsGoodSoFar u between
  front-good between new grew good = good-tail u grew.later between (subst (IsGoodSoFar u) grew.grew good)

  keeps-then : (own : Option ℕ) (old between new : List Entry) → Keeps u me own old between → Keeps u me own between new → Keeps u me own old new
  keeps-then own old between new first rest = (
    grew-then old between new first.0 rest.0,
    λ s id hold good has other.
        let earlier = front-good between new rest.0 good in
        let one = first.1 s id hold earlier has other in
        unchanged-then me id old between new one (rest.1 s id hold good (unchanged-keeps u me s id hold old between one earlier has) other),
  )

  keeps-idle : (own : Option ℕ) (old new : List Entry) → IsIdle me old new → Keeps u me own old new
  keeps-idle own old new idle = (record { later = idle.during; grew = idle.grew }, λ s id hold good has other. unchanged-idle me id old new idle)

  -- an entry of no call changes none
  keeps-only : (e : Entry) (old new : List Entry) → PlacedOnly me e old new → ((id : ℕ) → changes_hold id e ≡ false) → Keeps u me None old new
  keeps-only e old new only none = (grew-only me e old new only, λ s id hold good has other. unchanged-only me id e old new only (none id))

  -- a call on the file or on the list's own hold changes no other
  spares : (own : Option ℕ) (it : Call) (id : ℕ) → IsMadeOn file own it → IsOther own id → changes_it id it ≡ false
  spares own (call.PinnedWrite n at bytes) id on other = subst (λ o. IsOther o id) on other
  spares own (call.SetDirty n lsn) id on other = subst (λ o. IsOther o id) on other
  spares own (call.EndHold n) id on other = subst (λ o. IsOther o id) on other
  spares own (call.PinMapped n exclusive) id on other = absurd (cc on)
  spares own it id on other = refl

  keeps-call : (own : Option ℕ) (it : Call) (ended : Outcome) (old new : List Entry) → IsMadeOn file own it → CallLeft u me it ended old new → Keeps u me own old new
  keeps-call own it ended old new on left = (
    grew-call u me it ended old new left,
    λ s id hold good has other. unchanged-call u me id it ended old new left (spares own it id on other),
  )

  -- a call that makes a hold is on the file
  of-file : (it : Call) → makes_hold it ≡ true → IsMadeOn file None it → file_of it ≡ Some file
  of-file (call.MappedRead n at len) makes on = absurd (cc makes)
  of-file (call.PinnedRead n at len) makes on = absurd (cc makes)
  of-file (call.MdlBytes n at len) makes on = absurd (cc makes)
  of-file (call.PinnedWrite n at bytes) makes on = absurd (cc makes)
  of-file (call.SetDirty n lsn) makes on = absurd (cc makes)
  of-file (call.EndHold n) makes on = absurd (cc makes)
  of-file (call.AskAhead n at len) makes on = absurd (cc makes)
  of-file (call.AheadStep request) makes on = absurd (cc makes)
  of-file it makes on = on

  -- what is done on a hold that the list makes
  keeps-held : (it : Call) (own : ℕ) (old made new : List Entry) → makes_hold it ≡ true → IsMadeOn file None it → CallLeft u me it (outcome.Done (reply.Hold own)) old made → Keeps u me (Some own) made new → Keeps u me None old new
  keeps-held it own old made new makes on left rest = (
    grew-then old made new (grew-call u me it (outcome.Done (reply.Hold own)) old made left) rest.0,
    λ s id hold good has other.
        let earlier = front-good made new rest.0 good in
        let one = unchanged-call u me id it (outcome.Done (reply.Hold own)) old made left (spares None it id on tt) in
        let filed = filed-stream _ me left.placed.stream it file (of-file it makes on) left.placed.filed in
        let apart = made-apart u me s id file.stream hold it own old made left filed earlier makes has in
        unchanged-then me id old made new one (rest.1 s id hold good (unchanged-keeps u me s id hold old made one earlier has) apart),
  )

  keeps-noncached : (at len : ℕ) (answered : Result (List ℕ) (ℕ × CcError)) (old new : List Entry) → NcReadLeft u me file at len answered old new → Keeps u me None old new
  keeps-noncached at len answered old new left =
      let kept = nc_read-unchanged u me 0 file at len answered old new left in (
        record { later = kept.during; grew = kept.grew },
        λ s id hold good has other. nc_read-unchanged u me id file at len answered old new left,
      )

  keeps-append : (own : Option ℕ) (handle : ℕ) (bytes : List ℕ) (answered : Result ℕ CcError) (old new : List Entry) → AppendLeft u me handle bytes answered old new → Keeps u me own old new
  keeps-append own handle bytes answered old new left =
      let kept = append-unchanged u me 0 handle bytes answered old new left in (
        record { later = kept.during; grew = kept.grew },
        λ s id hold good has other. append-unchanged u me id handle bytes answered old new left,
      )

  shim-keeps : Follows u me file (Keeps u me) (λ own e. Keeps u me own)
  shim-keeps = record {
    idle = keeps-idle;
    joins = keeps-then;
    done = λ own it r old new on left. keeps-call own it (outcome.Done r) old new on left;
    failed = λ own it e old new on left. keeps-call own it (outcome.Failed e) old new on left;
    after = λ own e old between new first rest. keeps-then own old between new first rest;
    before = λ id e old between new first rest. keeps-then (Some id) old between new first rest;
    tested = λ own e old new calm idle. keeps-idle own old new idle;
    held = keeps-held;
    unheld = λ it id e old made new makes on left rest. keeps-held it id old made new makes on left rest;
    read = λ at len bytes old new left. keeps-noncached at len (Ok bytes) old new left;
    unread = λ at len done e old new left. keeps-noncached at len (Err (done, e)) old new left;
    appended = λ own handle bytes lsn old new left. keeps-append own handle bytes (Ok lsn) old new left;
    unappended = λ own handle bytes e old new left. keeps-append own handle bytes (Err e) old new left;
  }

  tests-keep : FollowsTests me file (Keeps u me) (λ own e. Keeps u me own)
  tests-keep = record {
    noted = λ range write old new only. keeps-only (entry.Tested me file range write None) old new only (λ id. refl);
    barred = λ range write id old new only. keeps-only (entry.Tested me file range write (Some id)) old new only (λ n. refl);
  }

  told-keeps : (told : Answer) (old new : List Entry) → Told (Keeps u me) (λ own e. Keeps u me own) told old new → Keeps u me None old new
  told-keeps (answer.Refused e) old new left = left
  told-keeps other old new left = left

  pub read-keeps : (path : ReadPath) (at len : ℕ) (told : Answer) (old new : List Entry) → LockedReadAnswered u me file path at len told old new → Keeps u me None old new
  read-keeps path at len told old new left = told-keeps told old new (told-read u me file (Keeps u me) (λ own e. Keeps u me own) shim-keeps tests-keep path at len told old new left)

  pub write-keeps : (at : ℕ) (bytes : List ℕ) (told : Answer) (old new : List Entry) → LockedWriteAnswered u me file at bytes told old new → Keeps u me None old new
  write-keeps at bytes told old new left = told-keeps told old new (told-write u me file (Keeps u me) (λ own e. Keeps u me own) shim-keeps tests-keep at bytes told old new left)

  pub update-keeps : (at : ℕ) (bytes : List ℕ) (told : Answer) (old new : List Entry) → LockedUpdateAnswered u me file at bytes told old new → Keeps u me None old new
  update-keeps at bytes told old new left = told-keeps told old new (told-update u me file (Keeps u me) (λ own e. Keeps u me own) shim-keeps tests-keep at bytes told old new left)
