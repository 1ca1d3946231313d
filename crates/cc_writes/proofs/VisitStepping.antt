-- One step of a call that may bring pages in, in a visit with the stream's disk in hand.
use Rattle.std.specs.Prelude.{◌≡◌, ℕ, suc, ◌+◌, ◌≤◌, Bool, true, List, [], ◌∷◌, Some, refl}
use Rattle.std.proofs.Common.{ap, sym, ◌∙◌, inl, subst, arith}
use Rattle.std.proofs.lemmas.Bool.{eq-eqb}
use Rattle.cc_entry.specs.declared.call.Call.{Call}
use Rattle.cc_entry.specs.declared.entry.Entry.{Entry}
use Rattle.cc_entry.specs.declared.entry.Entry.TheVariants as entry
use Rattle.cc_entry.specs.declared.reply.Outcome.TheVariants as outcome
use Rattle.cc_book.specs.Book.{BookState}
use Rattle.cc_effects.specs.Asked.{brings_in}
use Rattle.cc_effects.specs.Calls.{IsUnderWay}
use Rattle.cc_step.specs.Fill.{MayFill, NextLeft, MadeWay, HasToRead, book_page}
use Rattle.cc_step.specs.declared.ways.Attempt.{Attempt}
use Rattle.cc_step.specs.declared.ways.Attempt.TheVariants as attempt
use Rattle.cc_step.specs.declared.ways.Way.{Way}
use Rattle.cc_step.specs.declared.ways.Way.TheVariants as ways
use Rattle.cc_journal.specs.Journal.{JournalState}
use Rattle.cc_model.specs.History.{history}
use Rattle.cc_model.specs.Passes.{calls_of}
use Rattle.cc_model.specs.Setup.{Setup}
use Rattle.cc_step.specs.Room.{has_room}
use Rattle.cc_step.specs.Step.{StandUnder, is_answered, is_stepped, most_asked}
use Rattle.cc_turns.specs.Standing.{Standing}
use Rattle.cc_turns.specs.Takes.{Grows, without_journal}
use Rattle.cc_writes.specs.Hands.{HasBook, IsAtRest, SameDisk}
use Rattle.cc_writes.specs.Told.{FitsAttempt, CourseAs}
use Rattle.cc_writes.specs.Visits.{IsFiledNow, IsToBeWritten, IsWaitedFor, CallStepLeft, CallStepPlaced, CallStepWent, IsFullCallStep}
use Rattle.cc_writes.specs.Ways.{ReadFitsIn}
use Rattle.cc_writes.specs.declared.tell.Returned.{Returned}
use Rattle.cc_writes.specs.declared.course.Course.{Course}
use Rattle.cc_writes.proofs.Attempting.{may-step, number-is, way-on, last-done, fits-done, visited-done, visited-refused, visited-same, left-done, left-refused, left-stopped, full-refused, full-short, full-stop}
use Rattle.cc_writes.proofs.VisitDisks.{disk-same, disk-then, disk-call, disk-page_out}
use Rattle.cc_writes.proofs.Owing.{reserved-page_out}
use Rattle.cc_writes.proofs.PagesPlaced.{takes_out}
use Rattle.cc_writes.proofs.Placing.{has-book, diskless, stepping-none, stepping-adds, unneeded-page}
use Rattle.cc_writes.proofs.Refusals.{brings-free, stops-free}
use Rattle.cc_writes.proofs.Resting.{disk-held, rest-same}
use Rattle.cc_writes.proofs.Visiting.{Visiting, Visited, visited}

module _ {Q : Type 0} (posted : Q → Bool) (w v : Standing) (it : Call) (b c : BookState) (j k : JournalState Q)
    (has : HasBook w b.stream b) (vis : Visiting posted w v b.stream b j) (here : is_answered it ≡ true) (filed : IsFiledNow w b.stream it)
    (rest : IsAtRest w b.stream) where
  front-disk : SameDisk w.seen j.entries b.stream
  front-disk = disk-held w b.stream j.entries rest.device vis.grows

  pub may-fill : MayFill w.setup w.number it b j
  may-fill = record {
    may = may-step posted w v it b c j k has vis here filed;
    no_transfer = rest-same w.seen j.entries b.stream front-disk rest.no_transfer;
  }

  pub fill-as : (pass : ℕ) → pass ≡ v.number → MayFill w.setup pass it b j
  fill-as pass me = subst (λ (n : ℕ). MayFill w.setup n it b j) (sym (number-is posted w v it b c j k has vis here filed pass me)) may-fill

  pub stepped : (pass : ℕ) (ended : Attempt Way) → pass ≡ v.number → ((u : Setup) → MayFill u pass it b j → NextLeft u pass it ended b c j k) → NextLeft w.setup w.number it ended b c j k
  stepped pass ended me left = subst (λ (n : ℕ). NextLeft w.setup n it ended b c j k) (number-is posted w v it b c j k has vis here filed pass me) (left w.setup (fill-as pass me))

  pub fits-next : is_stepped it ≡ true → (ended : Attempt Way) (out : List ℕ) → NextLeft w.setup w.number it ended b c j k → ReadFitsIn it out → FitsAttempt ended k.entries out
  fits-next is attempt.Done out left fits = fits-done posted w v it b c j k has vis here filed is left.0 out left.1 fits
  fits-next is other out left fits = tt

  -- so many places are under way after it
  abbrev pub flight_after : Attempt Way → ℕ
  flight_after (attempt.GoesOn (ways.Reads page again)) = suc w.in_flight
  flight_after other = w.in_flight

  -- at most the one for which a place is reserved
  pub few-after : w.in_flight ≡ 0 → (ended : Attempt Way) → flight_after ended ≤ 1
  few-after none (attempt.GoesOn (ways.Reads page again)) = omega (arith, none)
  few-after none other = omega (arith, none)

  visited-out : (again : Call) → MadeWay w.setup w.number it again b c j k → Visited posted w v b.stream w.in_flight c k
  visited-out again left =
      visited posted w v b.stream w.in_flight (entry.PageOut w.number (book_page b left.page) ∷ []) b c j k has vis
      (stepping-adds posted w v b c j k has vis (entry.PageOut w.number (book_page b left.page)) left.placed left.stand left.stream (eq-eqb w.number w.number refl)
      (unneeded-page w.held b.stream (has-book posted w v b c j k has vis) rest.device)
      (reserved-page_out w.number (book_page b left.page) j.entries))

  stand-same : c ≡ b → k ≡ j → StandUnder w.setup c k
  stand-same book journal = subst (λ (x : BookState). StandUnder w.setup x k) (sym book) (subst (λ (x : JournalState Q). StandUnder w.setup b x) (sym journal) vis.stand)

  visited-read : (page : ℕ) (again : Call) → HasToRead w.setup page it again b c j k → Visited posted w v b.stream (suc w.in_flight) c k
  visited-read page again left =
      visited posted w v b.stream (suc w.in_flight) [] b c j k has vis
      (stepping-none posted w v b c j k has vis (suc w.in_flight) (left.reserved ∙ ap (λ (n : ℕ). record j { reserved = n }) (sym places))
      (subst (λ (x : BookState). StandUnder w.setup x k) (sym left.same_book) (subst (λ (x : JournalState Q). StandUnder w.setup b x) (sym left.reserved) stand))
      (ap (λ (x : BookState). x.stream) left.same_book) (count k.reserved j.reserved w.in_flight places))
    where
      places : k.reserved ≡ j.reserved + 1
      places = ap (λ (x : JournalState Q). x.reserved) left.reserved

      stand : StandUnder w.setup b (record j { reserved = j.reserved + 1 })
      stand = record { good = vis.stand.good; stands = vis.stand.stands; logs_are = vis.stand.logs_are; threshold_is = vis.stand.threshold_is }

      count : (now was flight : ℕ) → now ≡ was + 1 → now + flight ≡ was + suc flight
      count now was flight more = omega (arith, more)

  pub visited-next : is_stepped it ≡ true → (ended : Attempt Way) → NextLeft w.setup w.number it ended b c j k → Visited posted w v b.stream (flight_after ended) c k
  visited-next is attempt.Done left = visited-done posted w v it b c j k has vis here filed (diskless it is) left.0 left.1
  visited-next is (attempt.Refused e) left = visited-refused posted w v it b c j k has vis here filed e left
  visited-next is (attempt.GoesOn (ways.WentOut again)) left = visited-out again left
  visited-next is (attempt.GoesOn (ways.Writes page again)) left =
      visited-same posted w v it b c j k has vis here filed left.same_journal (stand-same left.same_book left.same_journal) (ap (λ (x : BookState). x.stream) left.same_book)
  visited-next is (attempt.GoesOn (ways.Reads page again)) left = visited-read page again left
  visited-next is (attempt.Stopped e) left = visited-same posted w v it b c j k has vis here filed left.1.same_journal left.1.stand left.1.stream

  -- the journal is the front, with one entry more or none
  pub disk-grew : (now : List Entry) → SameDisk j.entries now b.stream → k.entries ≡ now → SameDisk w.seen k.entries b.stream
  disk-grew now same is = subst (λ (past : List Entry). SameDisk w.seen past b.stream) (sym is) (disk-then w.seen j.entries now b.stream front-disk same)

  pub disk-next : (ended : Attempt Way) → NextLeft w.setup w.number it ended b c j k → SameDisk w.seen k.entries b.stream
  disk-next attempt.Done left =
      disk-grew _ (disk-call w.number (suc (calls_of j.entries w.number)) (Some b.stream) it (outcome.Done left.0) j.entries b.stream) (ap (λ (x : JournalState Q). x.entries) left.1.placed)
  disk-next (attempt.Refused e) left =
      disk-grew _ (disk-call w.number (suc (calls_of j.entries w.number)) (Some b.stream) it (outcome.Failed e) j.entries b.stream) (ap (λ (x : JournalState Q). x.entries) left.placed)
  disk-next (attempt.GoesOn (ways.WentOut again)) left =
      disk-grew _ (disk-page_out w.number (book_page b left.page) j.entries b.stream) (ap (λ (x : JournalState Q). x.entries) left.placed)
  disk-next (attempt.GoesOn (ways.Writes page again)) left = disk-grew j.entries (disk-same j.entries b.stream) (ap (λ (x : JournalState Q). x.entries) left.same_journal)
  disk-next (attempt.GoesOn (ways.Reads page again)) left = disk-grew j.entries (disk-same j.entries b.stream) (ap (λ (x : JournalState Q). x.entries) left.reserved)
  disk-next (attempt.Stopped e) left = disk-grew j.entries (disk-same j.entries b.stream) (ap (λ (x : JournalState Q). x.entries) left.1.same_journal)

  -- how the pass goes on
  pub went-next : is_stepped it ≡ true → (ended : Attempt Way) (answer : Course Way) (was now : List ℕ) → NextLeft w.setup w.number it ended b c j k → CourseAs ended answer k.entries was now → CallStepWent answer w (without_journal k v)
  went-next is attempt.Done answer was now left told =
      subst (λ (x : Course Way). CallStepWent x w (without_journal k v)) (sym told.1) (visited-next is attempt.Done left).went
  went-next is (attempt.Refused e) answer was now left told =
      subst (λ (x : Course Way). CallStepWent x w (without_journal k v)) (sym told.0) (visited-next is (attempt.Refused e) left).went
  went-next is (attempt.GoesOn (ways.WentOut again)) answer was now left told =
      subst (λ (x : Course Way). CallStepWent x w (without_journal k v)) (sym told.0) (visited-next is (attempt.GoesOn (ways.WentOut again)) left).went
  went-next is (attempt.GoesOn (ways.Writes page again)) answer was now left told =
      subst (λ (x : Course Way). CallStepWent x w (without_journal k v)) (sym told.0) (visited-next is (attempt.GoesOn (ways.Writes page again)) left).went
  went-next is (attempt.GoesOn (ways.Reads page again)) answer was now left told =
      subst (λ (x : Course Way). CallStepWent x w (without_journal k v)) (sym told.0) (visited-next is (attempt.GoesOn (ways.Reads page again)) left).went
  went-next is (attempt.Stopped e) answer was now left told =
      subst (λ (x : Course Way). CallStepWent x w (without_journal k v)) (sym told.0) (visited-next is (attempt.Stopped e) left).went

  -- and what is left of the call
  pub left-next : is_stepped it ≡ true → brings_in it ≡ true → (ended : Attempt Way) (answer : Course Way) (was now : List ℕ) → NextLeft w.setup w.number it ended b c j k → CourseAs ended answer k.entries was now → (begun : List Entry) → IsUnderWay w.number it begun w.seen → CallStepLeft w.setup w.number b.stream it answer begun k.entries was now
  left-next is brings attempt.Done answer was now left told begun way =
      subst (λ (x : Course Way). CallStepLeft w.setup w.number b.stream it x begun k.entries was now) (sym told.1)
      (left.0, left-done posted w v it b c j k has vis here filed begun way is left.0 left.1, told.2 left.0 (last-done posted w v it b c j k has vis here filed left.0 left.1))
  left-next is brings (attempt.Refused e) answer was now left told begun way =
      subst (λ (x : Course Way). CallStepLeft w.setup w.number b.stream it x begun k.entries was now) (sym told.0)
      (left-refused posted w v it b c j k has vis here filed begun way e left, told.1)
  left-next is brings (attempt.GoesOn (ways.WentOut again)) answer was now left told begun way =
      subst (λ (x : Course Way). CallStepLeft w.setup w.number b.stream it x begun k.entries was now) (sym told.0) (
        left.call_is,
        subst (λ (past : List Entry). IsUnderWay w.number it begun past) (sym (ap (λ (x : JournalState Q). x.entries) left.placed))
            (takes_out w.number it begun j.entries (book_page b left.page) (way-on posted w v it b c j k has vis here filed begun way) left.next),
        told.1,
      )
  left-next is brings (attempt.GoesOn (ways.Writes page again)) answer was now left told begun way =
      subst (λ (x : Course Way). CallStepLeft w.setup w.number b.stream it x begun k.entries was now) (sym told.0)
      (subst (λ (x : JournalState Q). (again ≡ it) × IsUnderWay w.number it begun x.entries × IsToBeWritten w.setup b.stream it page x.entries × (now ≡ was)) (sym left.same_journal) (
        left.call_is,
        way-on posted w v it b c j k has vis here filed begun way,
        record { admitted = left.admitted; needing = left.needing; in_the_way = left.in_the_way; dirty = left.dirty; stamped = left.stamped },
        told.1,
      ))
  left-next is brings (attempt.GoesOn (ways.Reads page again)) answer was now left told begun way =
      subst (λ (x : Course Way). CallStepLeft w.setup w.number b.stream it x begun k.entries was now) (sym told.0)
      (subst (λ (x : JournalState Q). (again ≡ it) × IsUnderWay w.number it begun x.entries × IsWaitedFor w.setup b.stream it page x.entries × (now ≡ was)) (sym left.reserved)
      (left.call_is, way-on posted w v it b c j k has vis here filed begun way, record { admitted = left.admitted; least = left.least }, told.1))
  left-next is brings (attempt.Stopped e) answer was now left told begun way =
      subst (λ (x : Course Way). CallStepLeft w.setup w.number b.stream it x begun k.entries was now) (sym told.0)
      (left-stopped posted w v it b c j k has vis here filed begun way (most_asked it) e (stops-free it j.entries here (brings-free it brings)) left.0 left.1.same_journal, told.1)

  pub full-next : is_stepped it ≡ true → (ended : Attempt Way) (answer : Course Way) (was now : List ℕ) → NextLeft w.setup w.number it ended b c j k → CourseAs ended answer k.entries was now → IsFullCallStep (without_journal k v) it answer
  full-next is attempt.Done answer was now left told = subst (λ (x : Course Way). IsFullCallStep (without_journal k v) it x) (sym told.1) (tt, inl tt)
  full-next is (attempt.Refused e) answer was now left told =
      subst (λ (x : Course Way). IsFullCallStep (without_journal k v) it x) (sym told.0)
      (full-refused posted w v it b c j k has vis here filed Returned (most_asked it) e left, inl (full-refused posted w v it b c j k has vis here filed Returned 1 e left))
  full-next is (attempt.GoesOn (ways.WentOut again)) answer was now left told = subst (λ (x : Course Way). IsFullCallStep (without_journal k v) it x) (sym told.0) tt
  full-next is (attempt.GoesOn (ways.Writes page again)) answer was now left told = subst (λ (x : Course Way). IsFullCallStep (without_journal k v) it x) (sym told.0) tt
  full-next is (attempt.GoesOn (ways.Reads page again)) answer was now left told = subst (λ (x : Course Way). IsFullCallStep (without_journal k v) it x) (sym told.0) tt
  full-next is (attempt.Stopped e) answer was now left told =
      subst (λ (x : Course Way). IsFullCallStep (without_journal k v) it x) (sym told.0) (
        full-stop posted w v it b c j k has vis here filed Returned (most_asked it) e left.0 left.1.same_journal (visited-next is (attempt.Stopped e) left),
        full-short posted w v it b c j k has vis here filed Returned (most_asked it) e left.0 left.2 left.1.same_journal (visited-next is (attempt.Stopped e) left),
      )

  -- and what was placed
  pub placed-next : (ended : Attempt Way) (answer : Course Way) (was now : List ℕ) → NextLeft w.setup w.number it ended b c j k → CourseAs ended answer k.entries was now → CallStepPlaced w b.stream it answer k.entries
  placed-next attempt.Done answer was now left told = subst (λ (x : Course Way). CallStepPlaced w b.stream it x k.entries) (sym told.1) tt
  placed-next (attempt.Refused e) answer was now left told = subst (λ (x : Course Way). CallStepPlaced w b.stream it x k.entries) (sym told.0) tt
  placed-next (attempt.GoesOn (ways.WentOut again)) answer was now left told =
      subst (λ (x : Course Way). CallStepPlaced w b.stream it x k.entries) (sym told.0)
      (record {
        page = left.page;
        placed = record { front = j.entries; grows = vis.grows; placed = ap (λ (x : JournalState Q). x.entries) left.placed };
        next = left.next;
        resident = left.resident;
      })
  placed-next (attempt.GoesOn (ways.Writes page again)) answer was now left told =
      subst (λ (x : Course Way). CallStepPlaced w b.stream it x k.entries) (sym told.0)
      (subst (λ (x : JournalState Q). Grows w x.entries) (sym left.same_journal) vis.grows)
  placed-next (attempt.GoesOn (ways.Reads page again)) answer was now left told =
      subst (λ (x : Course Way). CallStepPlaced w b.stream it x k.entries) (sym told.0)
      (subst (λ (x : JournalState Q). Grows w x.entries × (has_room (history x.entries b.stream) page ≡ true)) (sym left.reserved) (vis.grows, left.room))
  placed-next (attempt.Stopped e) answer was now left told = subst (λ (x : Course Way). CallStepPlaced w b.stream it x k.entries) (sym told.0) tt
