-- The end of the read of a page, in a visit: the place that is reserved is used, or given back.
use Rattle.std.specs.Prelude.{◌≡◌, ℕ, suc, ◌+◌, ◌-◌, ◌*◌, ◌<◌, ◌≤◌, Bool, Result, Ok, List, [], ◌∷◌, length, Option, None, Some, refl}
use Rattle.std.proofs.Common.{ap, sym, ◌∙◌, subst, arith, inr}
use Rattle.cc_entry.specs.Place.{File}
use Rattle.cc_entry.specs.declared.call.Call.{Call}
use Rattle.cc_entry.specs.declared.call.Call.TheVariants as call
use Rattle.cc_entry.specs.declared.entry.Entry.{Entry}
use Rattle.cc_entry.specs.declared.error.CcError.{CcError}
use Rattle.cc_entry.specs.declared.error.CcError.TheVariants as error
use Rattle.cc_entry.specs.declared.reply.Outcome.TheVariants as outcome
use Rattle.cc_entry.specs.declared.reply.Reply.{Reply}
use Rattle.cc_entry.specs.declared.reply.Reply.TheVariants as reply
use Rattle.cc_book.specs.Book.{BookState, done, failed}
use Rattle.cc_effects.specs.Calls.{CallLeft}
use Rattle.cc_step.specs.Fill.{MayFill}
use Rattle.cc_journal.specs.Journal.{JournalState}
use Rattle.cc_model.specs.Good.{IsGood}
use Rattle.cc_model.specs.History.{Effect, history}
use Rattle.cc_model.specs.Holds.{holds_of}
use Rattle.cc_model.specs.Passes.{calls_of}
use Rattle.cc_model.specs.Replies.{Reads}
use Rattle.cc_model.specs.Room.{reserved_in}
use Rattle.cc_model.specs.Setup.{Setup}
use Rattle.cc_step.specs.Step.{AttemptDone}
use Rattle.cc_step.proofs.Reasons.{refusal-listed}
use Rattle.cc_turns.specs.Standing.{Standing}
use Rattle.cc_turns.specs.Takes.{without_journal}
use Rattle.cc_writes.specs.Hands.{HasBook, IsAtRest, SameDisk}
use Rattle.cc_writes.specs.Told.{HasAnswered, FitsReply}
use Rattle.cc_writes.specs.Visits.{IsFiledNow}
use Rattle.cc_writes.specs.Ways.{IsFull, IsTold}
use Rattle.cc_writes.specs.declared.tell.Returned.{Returned}
use Rattle.cc_writes.proofs.Attempting.{number-is, filed-front}
use Rattle.cc_writes.proofs.VisitDisks.{disk-same, disk-call}
use Rattle.cc_writes.proofs.VisitEnding.{refused-left, memoryless-left}
use Rattle.cc_writes.proofs.Landing.{has-place, visited-back, history-held}
use Rattle.cc_writes.proofs.Placing.{has-book, unneeded-call}
use Rattle.cc_writes.proofs.Refusals.{stops-free}
use Rattle.cc_writes.proofs.Replies.{replied, reads-fit, full-listed}
use Rattle.cc_writes.proofs.VisitStepping.{disk-grew, fill-as}
use Rattle.cc_writes.proofs.Telling.{same-reply}
use Rattle.cc_writes.proofs.Visiting.{Visiting, Visited, visited}
use Rattle.cc_book.specs.Noncached.{WasRead}
use Rattle.cc_ranges.specs.ReadSteps.{ReadHasEnded, ReadMayEnd}
use Rattle.cc_ranges.specs.ReadVisits.{FitsEnded, IsAtRead, ReadEnded, ToldEnded, WasReadHere, told_count}
use Rattle.cc_ranges.specs.declared.read_steps.ReadEnd.{ReadEnd}
use Rattle.cc_ranges.specs.declared.read_steps.ReadEnd.TheVariants as ended
use Rattle.cc_ranges.proofs.ReadCalls.{read-filed, at_read-on, done-left}
use Rattle.cc_ranges.proofs.ReadPlacing.{stepping-owing, stepping-read}
use Rattle.cc_ranges.proofs.Misshapen.{read-unshaped}
use Rattle.cc_ranges.specs.FlushSteps.{without_one}

-- what a read answers is bytes
bytes-read : (told : Option (ℕ → List ℕ)) (h : List Effect) (at n : ℕ) (r : Reply) → Reads told h at n r → (bytes : List ℕ) × (r ≡ reply.Read bytes)
bytes-read None h at n r reads = (reads.bytes, reads.is)
bytes-read (Some pages) h at n r reads = (_, reads)

module _ {Q : Type 0} (posted : Q → Bool) (w v : Standing) (file : File) (page : ℕ) (b c : BookState) (j k : JournalState Q)
    (has : HasBook w b.stream b) (vis : Visiting posted w v b.stream b j) (here : b.stream ≡ file.stream) (rest : IsAtRest w b.stream)
    (reserved : w.in_flight ≡ 1) where
  abbrev it : Call
  it = call.NcRead file page

  filed : IsFiledNow w b.stream it
  filed = read-filed file page b.stream here (holds_of (history w.seen b.stream)) w.number

  owes-less : reserved_in j.entries ≤ j.reserved - 1
  owes-less = covers (reserved_in j.entries) j.reserved w.in_flight v.others vis.reserved_is reserved
    where
      covers : (owed was flight others : ℕ) → was ≡ owed + flight + others → flight ≡ 1 → owed ≤ was - 1
      covers owed was flight others is one = omega (arith, is, one)

  pub place : 0 < j.reserved
  place = has-place posted w v b c j k has vis rest reserved

  fewer : (j.reserved - 1) + w.in_flight ≡ j.reserved + 0
  fewer = count j.reserved w.in_flight place reserved
    where
      count : (was flight : ℕ) → 0 < was → flight ≡ 1 → (was - 1) + flight ≡ was + 0
      count was flight some one = omega (arith, some, one)

  fill-less : (pass : ℕ) → pass ≡ v.number → MayFill w.setup pass it b (without_one j)
  fill-less pass me =
      let fill = fill-as posted w v it b c j k has vis refl filed rest pass me in
      record {
        may = record {
          stand = record { good = fill.may.stand.good; stands = fill.may.stand.stands; logs_are = fill.may.stand.logs_are; threshold_is = fill.may.stand.threshold_is };
          filed = fill.may.filed;
          owed = owes-less;
        };
        no_transfer = fill.no_transfer;
      }

  pub may-end : (pass : ℕ) (raw : List ℕ) → pass ≡ v.number → WasReadHere w file page raw → ReadMayEnd w.setup pass file page raw b (without_one j)
  may-end pass raw me read = record {
    may = fill-less pass me;
    read = subst (λ (h : List Effect). WasRead (w.setup.opening b.stream) h page raw)
        (sym (history-held w b.stream j.entries (has-book posted w v b c j k has vis) rest.device vis.grows))
        (subst (λ (n : ℕ). WasRead (w.setup.opening n) (history w.seen n) page raw) (sym here) read);
  }

  pub ended-as : (pass : ℕ) (raw : List ℕ) (end : ReadEnd) → pass ≡ v.number → WasReadHere w file page raw → ((u : Setup) → ReadMayEnd u pass file page raw b (without_one j) → ReadHasEnded u pass file page end b c j k) → ReadHasEnded w.setup w.number file page end b c j k
  ended-as pass raw end me read left =
      subst (λ (n : ℕ). ReadHasEnded w.setup n file page end b c j k) (number-is posted w v it b c j k has vis refl filed pass me) (left w.setup (may-end pass raw me read))

  pub visited-end : (end : ReadEnd) → ReadHasEnded w.setup w.number file page end b c j k → Visited posted w v b.stream 0 c k
  visited-end ended.Done left =
      visited posted w v b.stream 0 (done w.number j.entries b.stream it left.0 ∷ []) b c j k has vis
      (stepping-read posted w v file page b c j k has vis rest 0 (j.reserved - 1) left.0 left.1 owes-less fewer)
  visited-end (ended.Refused e) left =
      visited posted w v b.stream 0 (failed w.number j.entries b.stream it e ∷ []) b c j k has vis
      (stepping-owing posted w v file page b c j k has vis rest 0 (j.reserved - 1) it (outcome.Failed e)
      (unneeded-call w.held w.number (suc (calls_of j.entries w.number)) b.stream it (outcome.Failed e) tt (has-book posted w v b c j k has vis))
      left.placed left.stand (ap (λ (x : BookState). x.stream) left.same) owes-less fewer)
  visited-end ended.Stopped left = visited-back posted w v b c j k has vis rest reserved left.same_journal left.stand left.stream

  pub disk-end : (end : ReadEnd) → ReadHasEnded w.setup w.number file page end b c j k → SameDisk w.seen k.entries b.stream
  disk-end ended.Done left =
      disk-grew posted w v it b c j k has vis refl filed rest _ (disk-call w.number (suc (calls_of j.entries w.number)) (Some b.stream) it (outcome.Done left.0) j.entries b.stream) (ap (λ (x : JournalState Q). x.entries) left.1.placed)
  disk-end (ended.Refused e) left =
      disk-grew posted w v it b c j k has vis refl filed rest _ (disk-call w.number (suc (calls_of j.entries w.number)) (Some b.stream) it (outcome.Failed e) j.entries b.stream) (ap (λ (x : JournalState Q). x.entries) left.placed)
  disk-end ended.Stopped left = disk-grew posted w v it b c j k has vis refl filed rest j.entries (disk-same j.entries b.stream) (ap (λ (x : JournalState Q). x.entries) left.same_journal)

  -- the entry of a read that was done is the last, and its reply fits
  last-done : (r : Reply) → AttemptDone w.setup w.number it r b c (without_one j) k → HasAnswered r k.entries
  last-done r left = record {
    pass = w.number;
    nth = suc (calls_of j.entries w.number);
    stream = Some b.stream;
    it = it;
    front = j.entries;
    last = ap (λ (x : JournalState Q). x.entries) left.placed;
  }

  reads-done : (r : Reply) → AttemptDone w.setup w.number it r b c (without_one j) k → Reads (w.setup.opening b.stream) (history j.entries b.stream) (4096 * page) 4096 r
  reads-done r left =
      replied w.setup w.number b.stream it r j.entries (subst (λ (past : List Entry). IsGood w.setup past) (ap (λ (x : JournalState Q). x.entries) left.placed) left.stand.good)

  pub fits-end : (end : ReadEnd) (out : List ℕ) → ReadHasEnded w.setup w.number file page end b c j k → length out ≡ 4096 → FitsEnded end k.entries out
  fits-end ended.Done out left room = λ x answered.
      subst (λ (y : Reply). FitsReply y out) (same-reply k.entries left.0 x (last-done left.0 left.1) answered)
      (reads-fit (w.setup.opening b.stream) (history j.entries b.stream) (4096 * page) 4096 left.0 out (reads-done left.0 left.1) (omega (arith, room)))
  fits-end (ended.Refused e) out left room = tt
  fits-end ended.Stopped out left room = tt

  -- what is left of the read
  module _ (begun : List Entry) (is : IsAtRead w.setup w.number file page begun w.seen) where
    on : IsAtRead w.setup w.number file page begun j.entries
    on = at_read-on w.setup w.number file page begun w.seen j.entries is vis.idle

    told-left : (r : Reply) (told : Returned) (was now : List ℕ) → AttemptDone w.setup w.number it r b c (without_one j) k → length was ≡ 4096 → (bytes : List ℕ) → r ≡ reply.Read bytes → length bytes ≤ 4096 → IsTold (reply.Read bytes) told was now → ReadEnded w.setup w.number file page (Ok (told_count told)) begun k.entries was now
    told-left r told was now left room bytes is_bytes short tells =
        subst (λ (t : Returned). ReadEnded w.setup w.number file page (Ok (told_count t)) begun k.entries was now) (sym tells.0)
        (record {
          left = subst (λ (x : Reply). CallLeft w.setup w.number it (outcome.Done x) begun k.entries) (is_bytes ∙ ap reply.Read (sym tells.1))
              (subst (λ (past : List Entry). CallLeft w.setup w.number it (outcome.Done r) begun past) (sym (ap (λ (x : JournalState Q). x.entries) left.placed))
              (done-left w.setup w.number b.stream file page here (suc (calls_of j.entries w.number)) r begun j.entries on.way on.written));
          behind = (omega (arith, short, room), tells.2);
          unshaped = tt;
        })

    pub left-end : (end : ReadEnd) (answer : Result ℕ CcError) (was now : List ℕ) → ReadHasEnded w.setup w.number file page end b c j k → length was ≡ 4096 → ToldEnded end answer k.entries was now → ReadEnded w.setup w.number file page answer begun k.entries was now
    left-end ended.Done answer was now left room told =
        let reads = reads-done left.0 left.1 in
        let bytes = bytes-read (w.setup.opening b.stream) (history j.entries b.stream) (4096 * page) 4096 left.0 reads in
        subst (λ (a : Result ℕ CcError). ReadEnded w.setup w.number file page a begun k.entries was now) (sym told.1)
        (told-left left.0 told.0 was now left.1 room bytes.0 bytes.1
        (omega (arith, room, subst (λ (y : Reply). FitsReply y was) bytes.1 (reads-fit (w.setup.opening b.stream) (history j.entries b.stream) (4096 * page) 4096 left.0 was reads (omega (arith, room)))))
        (subst (λ (y : Reply). IsTold y told.0 was now) bytes.1 (told.2 left.0 (last-done left.0 left.1))))
    left-end (ended.Refused e) answer was now left room told =
        subst (λ (a : Result ℕ CcError). ReadEnded w.setup w.number file page a begun k.entries was now) (sym told.0)
        (record {
          left = subst (λ (past : List Entry). CallLeft w.setup w.number it (outcome.Failed e) begun past) (sym (ap (λ (x : JournalState Q). x.entries) left.placed))
              (refused-left w.setup w.number b.stream it refl (suc (calls_of j.entries w.number)) begun j.entries (filed-front posted w v it b c j k has vis refl filed) e on.way left.reason);
          behind = told.1;
          unshaped = read-unshaped w.setup b.stream file page e (inr (j.entries, left.reason));
        })
    left-end ended.Stopped answer was now left room told =
        subst (λ (a : Result ℕ CcError). ReadEnded w.setup w.number file page a begun k.entries was now) (sym told.0)
        (record {
          left = subst (λ (x : JournalState Q). CallLeft w.setup w.number it (outcome.Failed error.NoMemory) begun x.entries) (sym left.same_journal)
              (memoryless-left w.setup w.number b.stream it refl 0 begun j.entries (filed-front posted w v it b c j k has vis refl filed) (stops-free it j.entries refl refl) on.way);
          behind = told.1;
          unshaped = refl;
        })

  pub full-end : (end : ReadEnd) (answer : Result ℕ CcError) (was now : List ℕ) → ReadHasEnded w.setup w.number file page end b c j k → ToldEnded end answer k.entries was now → IsFull 1 (without_journal k v) answer
  full-end ended.Done answer was now left told = subst (λ (a : Result ℕ CcError). IsFull 1 (without_journal k v) a) (sym told.1) tt
  full-end (ended.Refused e) answer was now left told =
      subst (λ (a : Result ℕ CcError). IsFull 1 (without_journal k v) a) (sym told.0)
      (full-listed ℕ 1 (without_journal k v) e (refusal-listed w.setup j.entries (history j.entries b.stream) it e left.reason))
  full-end ended.Stopped answer was now left told = subst (λ (a : Result ℕ CcError). IsFull 1 (without_journal k v) a) (sym told.0) tt
