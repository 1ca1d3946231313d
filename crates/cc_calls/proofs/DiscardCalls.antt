-- A discard in one visit, with the disk and the book of its stream in hand, and what it leaves with both given back.
use Rattle.std.specs.Prelude.{◌≡◌, ℕ, suc, Bool, List, [], ◌∷◌, None, Some, Ok, Err, Result, refl}
use Rattle.std.specs.declared.option.Option.{Option}
use Rattle.std.proofs.Common.{ap, sym, ◌∙◌, subst, inl}
use Rattle.cc_entry.specs.Place.{File, Range}
use Rattle.cc_entry.specs.declared.call.Call.{Call}
use Rattle.cc_entry.specs.declared.call.Call.TheVariants as call
use Rattle.cc_entry.specs.declared.entry.Entry.{Entry}
use Rattle.cc_entry.specs.declared.entry.Entry.TheVariants as entry
use Rattle.cc_entry.specs.declared.error.CcError.{CcError}
use Rattle.cc_entry.specs.declared.error.CcError.TheVariants as error
use Rattle.cc_entry.specs.declared.reply.Outcome.{Outcome}
use Rattle.cc_entry.specs.declared.reply.Outcome.TheVariants as outcome
use Rattle.cc_entry.specs.declared.reply.Reply.TheVariants as reply
use Rattle.cc_book.specs.Book.{BookState, done, failed}
use Rattle.cc_effects.specs.Calls.{CallLeft, IsUnderWay}
use Rattle.cc_effects.specs.Moments.{IsIdle}
use Rattle.cc_effects.proofs.Starts.{begins, ends_done, ends_refused, gives_up}
use Rattle.cc_effects.proofs.Stretches.{idle-then}
use Rattle.cc_journal.specs.Journal.{JournalState}
use Rattle.cc_model.specs.Acts.{file_of}
use Rattle.cc_model.specs.Filing.{IsFiled}
use Rattle.cc_model.specs.Good.{IsGood}
use Rattle.cc_model.specs.History.{history}
use Rattle.cc_model.specs.Holds.{holds_of}
use Rattle.cc_model.specs.Images.{open_of}
use Rattle.cc_model.specs.Legal.{IsOutcome}
use Rattle.cc_model.specs.Passes.{calls_of}
use Rattle.cc_model.specs.Refusals.{refusal}
use Rattle.cc_model.specs.Setup.{Setup}
use Rattle.cc_step.specs.Fill.{MayFill}
use Rattle.cc_step.specs.Step.{AttemptDone, AttemptRefused, FoundNone, IsStop}
use Rattle.cc_step.proofs.Placed.{so-far}
use Rattle.cc_turns.specs.Journal.{JournalStands}
use Rattle.cc_turns.specs.Standing.{DiskAtFirst, Standing}
use Rattle.cc_turns.specs.Takes.{Takes, with_book, with_device, with_journal, without_book, without_device, without_journal}
use Rattle.cc_writes.specs.Fetch.{CanCall}
use Rattle.cc_writes.specs.Hands.{HasBook, IsAtRest, SameDisk, Went}
use Rattle.cc_writes.specs.Ways.{IsFull}
use Rattle.cc_writes.proofs.Fullness.{given-full}
use Rattle.cc_writes.proofs.Others.{under_way-on}
use Rattle.cc_writes.proofs.Placing.{has-book, stepping-failed, stepping-same, unneeded-page}
use Rattle.cc_writes.proofs.Replies.{full-stopped}
use Rattle.cc_writes.proofs.Resting.{disk-held, rest-same}
use Rattle.cc_writes.proofs.TakingBoth.{idle, left_since, number_both}
use Rattle.cc_writes.proofs.VisitDisks.{disk-call, disk-then}
use Rattle.cc_writes.proofs.Visiting.{Visited, Visiting, visited, visiting}
use Rattle.cc_ranges.proofs.ReadPlacing.{owes, stepping-owing}
use Rattle.cc_calls.specs.Answers.{outcome_of}
use Rattle.cc_calls.specs.Discards.{DiscardDid, DiscardEnds, IsDiscarded, DiscardIsPlaced, IsDiscardReason, DiscardIsRefused, DiscardStepLeft}
use Rattle.cc_calls.proofs.Dropped.{discarded, reason-of, refused}
use Rattle.cc_calls.proofs.FlushCalls.{setup-both, went-both}
use Rattle.cc_calls.proofs.Fronts.{outcome-is}

-- ---- one visit

module _ {Q : Type 0} (posted : Q → Bool) (w v : Standing) (file : File) (span : Option Range) (b c : BookState) (j k : JournalState Q)
    (has : HasBook w b.stream b) (vis : Visiting posted w v b.stream b j) (here : b.stream ≡ file.stream) (rest : IsAtRest w b.stream) where
  abbrev it : Call
  it = call.Discard file span

  -- nobody else used the disk
  disk-front : SameDisk w.seen j.entries b.stream
  disk-front = disk-held w b.stream j.entries rest.device vis.grows

  no-transfer : open_of (history j.entries b.stream) ≡ None
  no-transfer = rest-same w.seen j.entries b.stream disk-front rest.no_transfer

  filed : IsFiled (holds_of (history j.entries b.stream)) w.number (Some b.stream) it (file_of it)
  filed = ap Some here

  may-step : MayFill w.setup w.number it b j
  may-step = record {
    may = record { stand = vis.stand; filed = filed; owed = owes posted w v file 0 b c j k has vis rest };
    no_transfer = no-transfer;
  }

  may-as : (pass : ℕ) → pass ≡ v.number → MayFill w.setup pass it b j
  may-as pass me = subst (λ (n : ℕ). MayFill w.setup n it b j) (sym (me ∙ vis.number_is)) may-step

  step-left : (pass : ℕ) (answer : Result (Unit {0}) CcError) → pass ≡ v.number → ((u : Setup) → MayFill u pass it b j → DiscardStepLeft u pass file span answer b c j k) → DiscardStepLeft w.setup w.number file span answer b c j k
  step-left pass answer me left =
      subst (λ (n : ℕ). DiscardStepLeft w.setup n file span answer b c j k) (me ∙ vis.number_is) (left w.setup (may-as pass me))

  -- what it gives
  done-given : AttemptDone w.setup w.number it reply.Unit b c j k → Visited posted w v b.stream w.in_flight c k
  done-given left =
      visited posted w v b.stream w.in_flight (done w.number j.entries b.stream it reply.Unit ∷ []) b c j k has vis
      (stepping-owing posted w v file 0 b c j k has vis rest w.in_flight j.reserved it (outcome.Done reply.Unit)
      (unneeded-page w.held b.stream (has-book posted w v b c j k has vis) rest.device) left.placed left.stand left.stream
      (owes posted w v file 0 b c j k has vis rest) refl)

  refused-given : (e : CcError) → AttemptRefused w.setup w.number it e b c j k → Visited posted w v b.stream w.in_flight c k
  refused-given e left =
      visited posted w v b.stream w.in_flight (failed w.number j.entries b.stream it e ∷ []) b c j k has vis
      (stepping-failed posted w v b c j k has vis it e left.placed left.stand (ap (λ (x : BookState). x.stream) left.same))

  none-given : FoundNone w.setup b c j k → Visited posted w v b.stream w.in_flight c k
  none-given left =
      visited posted w v b.stream w.in_flight [] b c j k has vis
      (stepping-same posted w v b c j k has vis left.same_journal left.stand left.stream)

  given : (answer : Result (Unit {0}) CcError) → DiscardStepLeft w.setup w.number file span answer b c j k → Visited posted w v b.stream w.in_flight c k
  given (Ok _) left = done-given left
  given (Err (error.JournalFull entries)) left = none-given left.1
  given (Err error.NoMemory) left = none-given left.1
  given (Err other) left = refused-given other left

  -- its entry is the last, and the disk is as it was
  disk-then-call : (ended : Outcome) → k.entries ≡ entry.Call w.number (suc (calls_of j.entries w.number)) (Some b.stream) it ended ∷ j.entries → SameDisk w.seen k.entries b.stream
  disk-then-call ended placed =
      disk-then w.seen j.entries k.entries b.stream disk-front
      (subst (λ (past : List Entry). SameDisk j.entries past b.stream) (sym placed)
      (disk-call w.number (suc (calls_of j.entries w.number)) (Some b.stream) it ended j.entries b.stream))

  entries-same : FoundNone w.setup b c j k → k.entries ≡ j.entries
  entries-same left = ap (λ (x : JournalState Q). x.entries) left.same_journal

  disk-left : (answer : Result (Unit {0}) CcError) → DiscardStepLeft w.setup w.number file span answer b c j k → SameDisk w.seen k.entries b.stream
  disk-left (Ok _) left = disk-then-call (outcome.Done reply.Unit) (ap (λ (x : JournalState Q). x.entries) left.placed)
  disk-left (Err (error.JournalFull entries)) left =
      subst (λ (past : List Entry). SameDisk w.seen past b.stream) (sym (entries-same left.1)) disk-front
  disk-left (Err error.NoMemory) left =
      subst (λ (past : List Entry). SameDisk w.seen past b.stream) (sym (entries-same left.1)) disk-front
  disk-left (Err other) left = disk-then-call (outcome.Failed other) (ap (λ (x : JournalState Q). x.entries) left.placed)

  -- why it was refused
  reason : (e : CcError) → AttemptRefused w.setup w.number it e b c j k → IsDiscardReason (history j.entries b.stream) file span e
  reason e left = reason-of w.setup j.entries (history j.entries b.stream) file span e left.reason

  -- what it left of the call that was under way
  module _ (begun : List Entry) (way : IsUnderWay w.number it begun w.seen) where
    on : IsUnderWay w.number it begun j.entries
    on = under_way-on w.number it begun w.seen j.entries way vis.idle

    abbrev Left : CcError → List Entry → Type 0
    Left e past = CallLeft w.setup w.number it (outcome.Failed e) begun past

    refused-call : (e : CcError) → IsDiscardReason (history j.entries b.stream) file span e → Left e (entry.Call w.number (suc (calls_of j.entries w.number)) (Some b.stream) it (outcome.Failed e) ∷ j.entries)
    refused-call error.NotCached because = inl (ends_refused w.number (suc (calls_of j.entries w.number)) (Some b.stream) it error.NotCached begun j.entries on filed refl)
    refused-call (error.Held id) because = inl (ends_refused w.number (suc (calls_of j.entries w.number)) (Some b.stream) it (error.Held id) begun j.entries on filed refl)
    refused-call (error.Unsettled page) because = inl (ends_refused w.number (suc (calls_of j.entries w.number)) (Some b.stream) it (error.Unsettled page) begun j.entries on filed refl)
    refused-call (error.Grown page) because = inl (ends_refused w.number (suc (calls_of j.entries w.number)) (Some b.stream) it (error.Grown page) begun j.entries on filed refl)
    refused-call other because = absurd because

    call-left : (answer : Result (Unit {0}) CcError) → DiscardStepLeft w.setup w.number file span answer b c j k → CallLeft w.setup w.number it (outcome_of answer) begun k.entries
    call-left (Ok _) left =
        subst (λ (past : List Entry). CallLeft w.setup w.number it (outcome.Done reply.Unit) begun past) (sym (ap (λ (x : JournalState Q). x.entries) left.placed))
        (ends_done w.number (suc (calls_of j.entries w.number)) (Some b.stream) it reply.Unit begun j.entries on filed (λ during. tt))
    call-left (Err (error.JournalFull entries)) left =
        subst (Left (error.JournalFull entries)) (sym (entries-same left.1)) (gives_up w.number it (error.JournalFull entries) begun j.entries on refl refl)
    call-left (Err error.NoMemory) left =
        subst (Left error.NoMemory) (sym (entries-same left.1)) (gives_up w.number it error.NoMemory begun j.entries on refl refl)
    call-left (Err other) left =
        subst (Left other) (sym (ap (λ (x : JournalState Q). x.entries) left.placed)) (refused-call other (reason other left))

  -- and what it did
  done-here : AttemptDone w.setup w.number it reply.Unit b c j k → IsDiscarded w.number file span w.seen k.entries
  done-here left =
      subst (λ (past : List Entry). IsDiscarded w.number file span w.seen past) (sym placed)
      (discarded w.setup w.number (suc (calls_of j.entries w.number)) file span w.seen j.entries vis.idle admitted
      (subst (λ (n : ℕ). open_of (history j.entries n) ≡ None) here no-transfer) (so-far w.setup _ good))
    where
      placed : k.entries ≡ entry.Call w.number (suc (calls_of j.entries w.number)) (Some file.stream) it (outcome.Done reply.Unit) ∷ j.entries
      placed = ap (λ (x : JournalState Q). x.entries) left.placed
          ∙ ap (λ (n : ℕ). entry.Call w.number (suc (calls_of j.entries w.number)) (Some n) it (outcome.Done reply.Unit) ∷ j.entries) here

      good : IsGood w.setup (entry.Call w.number (suc (calls_of j.entries w.number)) (Some file.stream) it (outcome.Done reply.Unit) ∷ j.entries)
      good = subst (λ (past : List Entry). IsGood w.setup past) placed left.stand.good

      ended : IsOutcome w.setup j.entries w.number (Some file.stream) it (outcome.Done reply.Unit)
      ended = outcome-is w.setup w.number (suc (calls_of j.entries w.number)) (Some file.stream) it (outcome.Done reply.Unit) [] j.entries _ refl good

      admitted : refusal w.setup j.entries (history j.entries file.stream) it ≡ None
      admitted = ended.0

  refused-here : (e : CcError) → AttemptRefused w.setup w.number it e b c j k → DiscardIsRefused w.number file span e w.seen k.entries
  refused-here e left =
      subst (λ (past : List Entry). DiscardIsRefused w.number file span e w.seen past) (sym placed)
      (refused w.setup w.number (suc (calls_of j.entries w.number)) file span e w.seen j.entries vis.idle
      (subst (λ (n : ℕ). refusal w.setup j.entries (history j.entries n) it ≡ Some e) here left.reason))
    where
      placed : k.entries ≡ entry.Call w.number (suc (calls_of j.entries w.number)) (Some file.stream) it (outcome.Failed e) ∷ j.entries
      placed = ap (λ (x : JournalState Q). x.entries) left.placed
          ∙ ap (λ (n : ℕ). entry.Call w.number (suc (calls_of j.entries w.number)) (Some n) it (outcome.Failed e) ∷ j.entries) here

  none-here : FoundNone w.setup b c j k → IsIdle w.number w.seen k.entries
  none-here left = subst (λ (past : List Entry). IsIdle w.number w.seen past) (sym (entries-same left)) vis.idle

  did : (answer : Result (Unit {0}) CcError) → DiscardStepLeft w.setup w.number file span answer b c j k → DiscardDid w.number file span answer w.seen k.entries
  did (Ok _) left = done-here left
  did (Err (error.JournalFull entries)) left = none-here left.1
  did (Err error.NoMemory) left = none-here left.1
  did (Err other) left = refused-here other left

  full : (answer : Result (Unit {0}) CcError) → DiscardStepLeft w.setup w.number file span answer b c j k → IsFull 1 (without_journal k v) answer
  full (Ok _) left = tt
  full (Err (error.JournalFull entries)) left =
      full-stopped (Unit {0}) posted 1 (without_journal k v) k (error.JournalFull entries) (none-given left.1).journal
      (subst (λ (x : JournalState Q). IsStop 1 (error.JournalFull entries) x) (sym left.1.same_journal) left.0)
  full (Err other) left = tt

-- What the visit gives, and what it leaves of the call.
pub record Gives {Q : Type 0} (posted : Q → Bool) (w v : Standing) (file : File) (span : Option Range) (answer : Result (Unit {0}) CcError)
    (c : BookState) (k : JournalState Q) : Type 0 where
  pub visit : Visited posted w v file.stream w.in_flight c k
  pub disk : SameDisk w.seen k.entries file.stream
  pub left : (begun : List Entry) → IsUnderWay w.number (call.Discard file span) begun w.seen → CallLeft w.setup w.number (call.Discard file span) (outcome_of answer) begun k.entries
  pub what : DiscardDid w.number file span answer w.seen k.entries
  pub room : IsFull 1 (without_journal k v) answer

module _ {Q : Type 0} (posted : Q → Bool) (w v : Standing) (file : File) (span : Option Range) (b c : BookState) (j k : JournalState Q)
    (has : HasBook w file.stream b) (rest : IsAtRest w file.stream) (took : Takes with_journal w v) (stands : JournalStands posted v j) (pass : ℕ) (me : pass ≡ v.number) where
  in_hand : HasBook w b.stream b
  in_hand = subst (λ (n : ℕ). HasBook w n b) (sym has.stream) has

  at_rest : IsAtRest w b.stream
  at_rest = subst (λ (n : ℕ). IsAtRest w n) (sym has.stream) rest

  vis : Visiting posted w v b.stream b j
  vis = visiting posted w v b.stream b j in_hand took stands

  pub may-here : MayFill w.setup pass (call.Discard file span) b j
  may-here = may-as posted w v file span b c j k in_hand vis has.stream at_rest pass me

  pub gives : (answer : Result (Unit {0}) CcError) → ((u : Setup) → MayFill u pass (call.Discard file span) b j → DiscardStepLeft u pass file span answer b c j k) → Gives posted w v file span answer c k
  gives answer ended = record {
    visit = subst (λ (n : ℕ). Visited posted w v n w.in_flight c k) has.stream (given posted w v file span b c j k in_hand vis has.stream at_rest answer left);
    disk = subst (λ (n : ℕ). SameDisk w.seen k.entries n) has.stream (disk-left posted w v file span b c j k in_hand vis has.stream at_rest answer left);
    left = λ begun way. call-left posted w v file span b c j k in_hand vis has.stream at_rest begun way answer left;
    what = did posted w v file span b c j k in_hand vis has.stream at_rest answer left;
    room = full posted w v file span b c j k in_hand vis has.stream at_rest answer left;
  }
    where
      left : DiscardStepLeft w.setup w.number file span answer b c j k
      left = step-left posted w v file span b c j k in_hand vis has.stream at_rest pass answer me ended

-- ---- with both turns given back

-- What it did from one moment on it did from an earlier one, since which the pass placed nothing.
placed-since : (me : ℕ) (file : File) (span : Option Range) (ended : Outcome) (older old new : List Entry) → IsIdle me older old → DiscardIsPlaced me file span ended old new → DiscardIsPlaced me file span ended older new
placed-since me file span ended older old new before alone = record {
  front = alone.front;
  idle = idle-then me older old alone.front before alone.idle;
  nth = alone.nth;
  placed = alone.placed;
}

did-since : (me : ℕ) (file : File) (span : Option Range) (answer : Result (Unit {0}) CcError) (older old new : List Entry) → IsIdle me older old → DiscardDid me file span answer old new → DiscardDid me file span answer older new
unfolding placed-since
did-since me file span (Ok _) older old new before is = record {
  alone = placed-since me file span (outcome.Done reply.Unit) older old new before is.alone;
  may = is.may;
  dropped = is.dropped;
  elsewhere = is.elsewhere;
}
did-since me file span (Err (error.JournalFull entries)) older old new before is = idle-then me older old new before is
did-since me file span (Err error.NoMemory) older old new before is = idle-then me older old new before is
did-since me file span (Err other) older old new before is = record {
  alone = placed-since me file span (outcome.Failed other) older old new before is.alone;
  reason = is.reason;
}

-- What is said of the disk that was in hand, and of the past, is said still as it is given back.
pub disk-back : (Stands : DiskAtFirst → List Entry → Type 0) (x y z : Standing) (s : ℕ) → Went x y → z ≡ without_book y → Stands (x.disks s) y.seen → Stands (z.disks s) z.seen
disk-back Stands x y z s went back stands =
    subst (λ (a : Standing). Stands (a.disks s) a.seen) (sym back)
    (subst (λ (first : ℕ → DiskAtFirst). Stands (first s) y.seen) (sym (ap (λ (a : Standing). a.disks) went.same)) stands)

module _ (w v x y z : Standing) (s : ℕ) (file : File) (span : Option Range) (answer : Result (Unit {0}) CcError) (can : CanCall w s)
    (first : Takes (with_device s) w v) (second : Takes (with_book s) v x) (went : Went x y) (back : z ≡ without_device (without_book y)) where
  abbrev asked : Call
  asked = call.Discard file span

  pub discard-ends : ((begun : List Entry) → IsUnderWay x.number asked begun x.seen → CallLeft x.setup x.number asked (outcome_of answer) begun y.seen) → DiscardDid x.number file span answer x.seen y.seen → IsFull 1 y answer → IsGood y.setup y.seen → DiscardEnds w z file span answer
  discard-ends left did full good = record {
    left = left_since w v x s can first second (λ u me begun past. CallLeft u me asked (outcome_of answer) begun past) y z asked back left w.seen (begins w.number asked w.seen);
    did = subst (λ (past : List Entry). DiscardDid w.number file span answer w.seen past) (sym (ap (λ (a : Standing). a.seen) back))
        (did-since w.number file span answer w.seen x.seen y.seen (idle w v x s can first second)
        (subst (λ (n : ℕ). DiscardDid n file span answer x.seen y.seen) (number_both w v x s can first second) did));
    full = subst (λ (a : Standing). IsFull 1 a answer) (sym back) (given-full 1 y answer full);
    goes_on = went-both w v x y z s can.free first second went back;
    took_device = ap (λ (a : Standing). a.device_turns) back
        ∙ (ap (λ (a : Standing). a.device_turns) went.same
        ∙ (ap (λ (a : Standing). a.device_turns) second.same
        ∙ ap (λ (a : Standing). a.device_turns) first.same));
    good = subst (λ (past : List Entry). IsGood w.setup past) (sym (ap (λ (a : Standing). a.seen) back))
        (subst (λ (u : Setup). IsGood u y.seen) (setup-both w v x y s first second went) good);
  }
