-- The next step of the read of a page, in a visit with the stream's disk in hand.
use Rattle.std.specs.Prelude.{◌≡◌, ℕ, suc, ◌+◌, ◌*◌, ◌<◌, ◌≤◌, Bool, true, Ok, List, [], ◌∷◌, Some, refl}
use Rattle.std.proofs.Common.{ap, sym, ◌∙◌, subst, arith, inl, inr}
use Rattle.cc_entry.specs.Place.{File}
use Rattle.cc_entry.specs.declared.call.Call.{Call}
use Rattle.cc_entry.specs.declared.call.Call.TheVariants as call
use Rattle.cc_entry.specs.declared.entry.Entry.{Entry}
use Rattle.cc_entry.specs.declared.reply.Outcome.TheVariants as outcome
use Rattle.cc_entry.specs.declared.reply.Reply.TheVariants as reply
use Rattle.cc_book.specs.Book.{BookState, done}
use Rattle.cc_effects.specs.Calls.{CallLeft, IsUnderWay, WasWritten, has_no_write}
use Rattle.cc_step.specs.Fill.{MayFill}
use Rattle.cc_journal.specs.Journal.{JournalState}
use Rattle.cc_model.specs.History.{Effect, history}
use Rattle.cc_model.specs.Holds.{holds_of}
use Rattle.cc_model.specs.Passes.{calls_of}
use Rattle.cc_model.specs.Setup.{Setup}
use Rattle.cc_model.specs.Stamps.{is_unstamped}
use Rattle.cc_model.specs.Touches.{is_dirty, size_of}
use Rattle.cc_step.specs.Step.{StandUnder}
use Rattle.cc_turns.specs.Standing.{Standing}
use Rattle.cc_turns.specs.Takes.{without_journal}
use Rattle.cc_writes.specs.Hands.{HasBook, IsAtRest, SameDisk, WentWith}
use Rattle.cc_writes.specs.Visits.{IsFiledNow}
use Rattle.cc_writes.proofs.Attempting.{number-is, visited-refused, visited-same, left-refused, left-stopped, full-refused, full-stop}
use Rattle.cc_writes.proofs.VisitDisks.{disk-same, disk-call}
use Rattle.cc_writes.proofs.Landing.{history-held}
use Rattle.cc_writes.proofs.Placing.{has-book, stepping-none}
use Rattle.cc_writes.proofs.Refusals.{stops-free}
use Rattle.cc_writes.proofs.VisitStepping.{disk-grew, fill-as}
use Rattle.cc_writes.proofs.Visiting.{Visiting, Visited, visited}
use Rattle.cc_ranges.specs.ReadSteps.{ReadNextLeft, HasNone, ReadHasToRead, IsClean}
use Rattle.cc_ranges.specs.ReadVisits.{file_page, ReadEnded, IsReading, IsAtRead, IsToWriteFirst, IsBelow, LookLeft, LookAsks, LookWent, IsFullLook, look_of}
use Rattle.cc_ranges.specs.declared.read_steps.ReadNext.{ReadNext}
use Rattle.cc_ranges.specs.declared.read_steps.ReadNext.TheVariants as next
use Rattle.cc_ranges.proofs.ReadCalls.{read-filed, reading-on, clean-written, done-left, reached-at, write-asked, numbered, dirty-below, has-write}
use Rattle.cc_ranges.proofs.Misshapen.{read-unshaped, stop-met}
use Rattle.cc_ranges.proofs.ReadPlacing.{owes, stepping-read}

module _ {Q : Type 0} (posted : Q → Bool) (w v : Standing) (file : File) (page : ℕ) (written : Bool) (b c : BookState) (j k : JournalState Q)
    (has : HasBook w b.stream b) (vis : Visiting posted w v b.stream b j) (here : b.stream ≡ file.stream) (rest : IsAtRest w b.stream) where
  abbrev it : Call
  it = call.NcRead file page

  filed : IsFiledNow w b.stream it
  filed = read-filed file page b.stream here (holds_of (history w.seen b.stream)) w.number

  pub may-next : (pass : ℕ) → pass ≡ v.number → MayFill w.setup pass it b j
  may-next pass me = fill-as posted w v it b c j k has vis refl filed rest pass me

  pub stepped : (pass : ℕ) (ended : ReadNext) → pass ≡ v.number → ((u : Setup) → MayFill u pass it b j → ReadNextLeft u pass file page written ended b c j k) → ReadNextLeft w.setup w.number file page written ended b c j k
  stepped pass ended me left =
      subst (λ (n : ℕ). ReadNextLeft w.setup n file page written ended b c j k) (number-is posted w v it b c j k has vis refl filed pass me) (left w.setup (may-next pass me))

  -- so many places are under way after it
  abbrev pub flight_after : ReadNext → ℕ
  flight_after next.Reads = suc w.in_flight
  flight_after other = w.in_flight

  pub few-after : w.in_flight ≡ 0 → (ended : ReadNext) → flight_after ended ≤ 1
  few-after none next.Done = omega (arith, none)
  few-after none (next.Refused e) = omega (arith, none)
  few-after none next.Writes = omega (arith, none)
  few-after none next.Reads = omega (arith, none)
  few-after none (next.Stopped e) = omega (arith, none)

  stand-same : c ≡ b → k ≡ j → StandUnder w.setup c k
  stand-same book journal = subst (λ (x : BookState). StandUnder w.setup x k) (sym book) (subst (λ (x : JournalState Q). StandUnder w.setup b x) (sym journal) vis.stand)

  visited-read : ReadHasToRead w.setup file page written b c j k → Visited posted w v b.stream (suc w.in_flight) c k
  visited-read left =
      visited posted w v b.stream (suc w.in_flight) [] b c j k has vis
      (stepping-none posted w v b c j k has vis (suc w.in_flight) (left.reserved ∙ ap (λ (n : ℕ). record j { reserved = n }) (sym places))
      (subst (λ (x : BookState). StandUnder w.setup x k) (sym left.same_book) (subst (λ (x : JournalState Q). StandUnder w.setup b x) (sym left.reserved) stand))
      (ap (λ (x : BookState). x.stream) left.same_book) (count k.reserved j.reserved w.in_flight places))
    where
      places : k.reserved ≡ j.reserved + 1
      places = ap (λ (x : JournalState Q). x.reserved) left.reserved

      stand : StandUnder w.setup b (record j { reserved = j.reserved + 1 })
      stand = record { good = vis.stand.good; stands = vis.stand.stands; logs_are = vis.stand.logs_are; threshold_is = vis.stand.threshold_is }

      count : (now was flight : ℕ) → now ≡ was + 1 → now + flight ≡ was + suc flight
      count now was flight more = omega (arith, more)

  pub visited-next : (ended : ReadNext) → ReadNextLeft w.setup w.number file page written ended b c j k → Visited posted w v b.stream (flight_after ended) c k
  visited-next next.Done left =
      visited posted w v b.stream w.in_flight (done w.number j.entries b.stream it (reply.Read []) ∷ []) b c j k has vis
      (stepping-read posted w v file page b c j k has vis rest w.in_flight j.reserved (reply.Read []) left.attempt (owes posted w v file page b c j k has vis rest) refl)
  visited-next (next.Refused e) left = visited-refused posted w v it b c j k has vis refl filed e left
  visited-next next.Writes left =
      visited-same posted w v it b c j k has vis refl filed left.same_journal (stand-same left.same_book left.same_journal) (ap (λ (x : BookState). x.stream) left.same_book)
  visited-next next.Reads left = visited-read left
  visited-next (next.Stopped e) left = visited-same posted w v it b c j k has vis refl filed left.1.same_journal left.1.stand left.1.stream

  pub disk-next : (ended : ReadNext) → ReadNextLeft w.setup w.number file page written ended b c j k → SameDisk w.seen k.entries b.stream
  disk-next next.Done left =
      disk-grew posted w v it b c j k has vis refl filed rest _ (disk-call w.number (suc (calls_of j.entries w.number)) (Some b.stream) it (outcome.Done (reply.Read [])) j.entries b.stream) (ap (λ (x : JournalState Q). x.entries) left.attempt.placed)
  disk-next (next.Refused e) left =
      disk-grew posted w v it b c j k has vis refl filed rest _ (disk-call w.number (suc (calls_of j.entries w.number)) (Some b.stream) it (outcome.Failed e) j.entries b.stream) (ap (λ (x : JournalState Q). x.entries) left.placed)
  disk-next next.Writes left = disk-grew posted w v it b c j k has vis refl filed rest j.entries (disk-same j.entries b.stream) (ap (λ (x : JournalState Q). x.entries) left.same_journal)
  disk-next next.Reads left = disk-grew posted w v it b c j k has vis refl filed rest j.entries (disk-same j.entries b.stream) (ap (λ (x : JournalState Q). x.entries) left.reserved)
  disk-next (next.Stopped e) left = disk-grew posted w v it b c j k has vis refl filed rest j.entries (disk-same j.entries b.stream) (ap (λ (x : JournalState Q). x.entries) left.1.same_journal)

  -- how the pass goes on
  pub went-next : w.in_flight ≡ 0 → (ended : ReadNext) → ReadNextLeft w.setup w.number file page written ended b c j k → LookWent (look_of ended) w (without_journal k v)
  went-next none next.Done left = (visited-next next.Done left).went
  went-next none (next.Refused e) left = (visited-next (next.Refused e) left).went
  went-next none next.Writes left = (visited-next next.Writes left).went
  went-next none next.Reads left = subst (λ (n : ℕ). WentWith (suc n) w (without_journal k v)) none (visited-next next.Reads left).went
  went-next none (next.Stopped e) left = (visited-next (next.Stopped e) left).went

  -- and what is left of the read
  module _ (begun : List Entry) (is : IsReading w.number file page written begun w.seen) where
    on : IsReading w.number file page written begun j.entries
    on = reading-on w.number file page written begun w.seen j.entries is vis.idle

    clean-here : IsClean written b page j → WasWritten w.number (file_page file page) on.way.during begun
    clean-here clean =
        clean-written w.number file page written begun j.entries on
        (λ unwritten. subst (λ (n : ℕ). has_no_write (record { stream = n; page = page }) j.entries ≡ true) here (clean unwritten))

    left-none : HasNone w.setup w.number file page written b c j k → (out : List ℕ) → ReadEnded w.setup w.number file page (Ok 0) begun k.entries out out
    left-none left out = record {
      left = subst (λ (past : List Entry). CallLeft w.setup w.number it (outcome.Done (reply.Read [])) begun past) (sym (ap (λ (x : JournalState Q). x.entries) left.attempt.placed))
          (done-left w.setup w.number b.stream file page here (suc (calls_of j.entries w.number)) (reply.Read []) begun j.entries on.way (clean-here left.clean));
      behind = (omega arith, refl);
      unshaped = tt;
    }

    left-read : ReadHasToRead w.setup file page written b c j k → IsAtRead w.setup w.number file page begun k.entries
    left-read left =
        subst (λ (x : JournalState Q). IsAtRead w.setup w.number file page begun x.entries) (sym left.reserved)
        (record {
          way = on.way;
          written = clean-here left.clean;
          wanted = record {
            moment = j.entries;
            later = [];
            since = on.way.during;
            ends = refl;
            begins = on.way.grew;
            holds = (rw here at left.admitted, reached-at file page b.stream j.entries here left.below);
          };
        })

    pub left-next : (ended : ReadNext) → ReadNextLeft w.setup w.number file page written ended b c j k → LookLeft w.setup w.number file page (look_of ended) begun k.entries
    left-next next.Done left = left-none left
    left-next (next.Refused e) left = λ out. record {
      left = left-refused posted w v it b c j k has vis refl filed begun is.way e left;
      behind = refl;
      unshaped = read-unshaped w.setup b.stream file page e (inr (j.entries, left.reason));
    }
    left-next next.Writes left =
        subst (λ (x : JournalState Q). IsUnderWay w.number it begun x.entries) (sym left.same_journal) on.way
    left-next next.Reads left = left-read left
    left-next (next.Stopped e) left = λ out. record {
      left = left-stopped posted w v it b c j k has vis refl filed begun is.way 1 e (stops-free it j.entries refl refl) left.0 left.1.same_journal;
      behind = refl;
      unshaped = read-unshaped w.setup b.stream file page e (inl (stop-met 1 e j left.0));
    }

  -- what it asks then
  pub asks-next : (ended : ReadNext) → ReadNextLeft w.setup w.number file page written ended b c j k → LookAsks w.setup file page written (look_of ended) k.entries
  asks-next next.Done left = tt
  asks-next (next.Refused e) left = tt
  asks-next next.Writes left = (
    left.unwritten,
    subst (λ (x : JournalState Q). IsToWriteFirst w.setup file page x.entries) (sym left.same_journal)
        (write-asked w.setup file page b.stream j.entries here vis.stand.good left.admitted left.has_write),
  )
  asks-next next.Reads left = numbered w.setup b.stream page j.entries vis.stand.good left.below
  asks-next (next.Stopped e) left = tt

  since : 4096 * page < size_of (history j.entries b.stream) → 4096 * page < size_of (history w.seen file.stream)
  since below =
      subst (λ (n : ℕ). 4096 * page < size_of (history w.seen n)) here
      (subst (λ (h : List Effect). 4096 * page < size_of h) (history-held w b.stream j.entries (has-book posted w v b c j k has vis) rest.device vis.grows) below)

  -- a page that it asks for begins below the size, as it did before the visit
  pub below-next : (ended : ReadNext) → ReadNextLeft w.setup w.number file page written ended b c j k → IsBelow page (look_of ended) (history w.seen file.stream)
  below-next next.Done left = tt
  below-next (next.Refused e) left = tt
  below-next next.Writes left =
      since
      (dirty-below w.setup b.stream page j.entries vis.stand.good
      (has-write (is_dirty (history j.entries b.stream) page) (is_unstamped (history j.entries b.stream) page) left.has_write).0)
  below-next next.Reads left = since left.below
  below-next (next.Stopped e) left = tt

  pub full-next : (ended : ReadNext) → ReadNextLeft w.setup w.number file page written ended b c j k → IsFullLook (without_journal k v) (look_of ended)
  full-next next.Done left = tt
  full-next (next.Refused e) left = full-refused posted w v it b c j k has vis refl filed ℕ 1 e left
  full-next next.Writes left = tt
  full-next next.Reads left = tt
  full-next (next.Stopped e) left = full-stop posted w v it b c j k has vis refl filed ℕ 1 e left.0 left.1.same_journal (visited-next (next.Stopped e) left)
