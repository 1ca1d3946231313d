-- The next step of the write of a page, in a visit with the stream's disk in hand.
use Rattle.std.specs.Prelude.{◌≡◌, ℕ, suc, Bool, true, List, [], ◌∷◌, Some, refl}
use Rattle.std.proofs.Common.{ap, sym, subst, inl, inr}
use Rattle.std.proofs.lemmas.Bool.{eq-eqb}
use Rattle.cc_entry.specs.Place.{File, Page}
use Rattle.cc_entry.specs.declared.call.Call.{Call}
use Rattle.cc_entry.specs.declared.call.Call.TheVariants as call
use Rattle.cc_entry.specs.declared.entry.Entry.{Entry}
use Rattle.cc_entry.specs.declared.entry.Entry.TheVariants as entry
use Rattle.cc_entry.specs.declared.reply.Outcome.TheVariants as outcome
use Rattle.cc_book.specs.Book.{BookState}
use Rattle.cc_effects.specs.Asked.{is_in_the_way, makes_way}
use Rattle.cc_effects.specs.Moments.{IsIdle}
use Rattle.cc_step.specs.Fill.{HasToWrite, MadeWay, MayFill, book_page}
use Rattle.cc_journal.specs.Journal.{JournalState}
use Rattle.cc_model.specs.History.{history}
use Rattle.cc_model.specs.Holds.{holds_of}
use Rattle.cc_model.specs.Passes.{calls_of}
use Rattle.cc_model.specs.Setup.{Setup}
use Rattle.cc_step.specs.Step.{StandUnder}
use Rattle.cc_turns.specs.Standing.{Standing}
use Rattle.cc_turns.specs.Takes.{Grows, without_journal}
use Rattle.cc_writes.specs.Hands.{HasBook, IsAtRest, SameDisk}
use Rattle.cc_writes.specs.Visits.{HasGoneOut, IsFiledNow, CallIsOfStream}
use Rattle.cc_writes.proofs.Attempting.{number-is, visited-refused, visited-same, left-refused, left-stopped, full-refused, full-stop}
use Rattle.cc_writes.proofs.VisitDisks.{disk-same, disk-call, disk-page_out}
use Rattle.cc_writes.proofs.Others.{under_way-on}
use Rattle.cc_writes.proofs.Owing.{reserved-page_out}
use Rattle.cc_writes.proofs.PagesPlaced.{takes_out}
use Rattle.cc_writes.proofs.Placing.{has-book, stepping-adds, unneeded-page}
use Rattle.cc_writes.proofs.Refusals.{stops-free}
use Rattle.cc_writes.proofs.VisitStepping.{disk-grew, fill-as}
use Rattle.cc_writes.proofs.Visiting.{Visiting, Visited, visited}
use Rattle.cc_writes.proofs.Halting.{at-work, under-way}
use Rattle.cc_ranges.specs.Stores.{IsReadyToStore}
use Rattle.cc_ranges.specs.WriteSteps.{WriteHasRoom, WriteNextLeft}
use Rattle.cc_ranges.specs.WriteVisits.{WriteStepAsks, IsFullWriteStep, IsInTheWay, WriteIsUnderWay, WriteStepLeft, WriteStepPlaced, write_step_of}
use Rattle.cc_ranges.specs.declared.write_steps.WriteNext.{WriteNext}
use Rattle.cc_ranges.specs.declared.write_steps.WriteNext.TheVariants as next
use Rattle.cc_ranges.proofs.Goods.{store-step_refusal}
use Rattle.cc_ranges.proofs.Misshapen.{stop-met, unshaped}
use Rattle.cc_ranges.specs.ReadVisits.{file_page}

-- the write of a page is filed under the stream of its file
pub write-filed : (file : File) (page : ℕ) (s : ℕ) → s ≡ file.stream → CallIsOfStream (call.NcWrite file page) s
write-filed file page s here holds pass = ap Some here

-- others went on
pub writing-on : (me : ℕ) (file : File) (page : ℕ) (begun old new : List Entry) → WriteIsUnderWay me file page begun old → IsIdle me old new → WriteIsUnderWay me file page begun new
writing-on me file page begun old new is idle = record {
  way = under_way-on me (call.NcWrite file page) begun old new is.way idle;
  stores = λ bytes. at-work me (call.NcStore file page bytes) begun new
      (under_way-on me (call.NcStore file page bytes) begun old new (under-way me (call.NcStore file page bytes) begun old (is.stores bytes)) idle);
}

-- a page went out for it
writing-out : (me : ℕ) (file : File) (page : ℕ) (begun past : List Entry) (gone : Page) → WriteIsUnderWay me file page begun past → makes_way (call.NcWrite file page) gone past ≡ true → WriteIsUnderWay me file page begun (entry.PageOut me gone ∷ past)
writing-out me file page begun past gone is makes = record {
  way = takes_out me (call.NcWrite file page) begun past gone is.way makes;
  stores = λ bytes. at-work me (call.NcStore file page bytes) begun (entry.PageOut me gone ∷ past)
      (takes_out me (call.NcStore file page bytes) begun past gone (under-way me (call.NcStore file page bytes) begun past (is.stores bytes)) (rw (store-step_refusal (history past gone.stream) file page bytes) makes));
}

module _ {Q : Type 0} (posted : Q → Bool) (w v : Standing) (file : File) (page : ℕ) (b c : BookState) (j k : JournalState Q)
    (has : HasBook w b.stream b) (vis : Visiting posted w v b.stream b j) (here : b.stream ≡ file.stream) (rest : IsAtRest w b.stream) where
  abbrev it : Call
  it = call.NcWrite file page

  filed : IsFiledNow w b.stream it
  filed = write-filed file page b.stream here (holds_of (history w.seen b.stream)) w.number

  pub may-next : (pass : ℕ) → pass ≡ v.number → MayFill w.setup pass it b j
  may-next pass me = fill-as posted w v it b c j k has vis refl filed rest pass me

  pub gone-on : (pass : ℕ) (ended : WriteNext) → pass ≡ v.number → ((u : Setup) → MayFill u pass it b j → WriteNextLeft u pass file page ended b c j k) → WriteNextLeft w.setup w.number file page ended b c j k
  gone-on pass ended me left =
      subst (λ (n : ℕ). WriteNextLeft w.setup n file page ended b c j k) (number-is posted w v it b c j k has vis refl filed pass me) (left w.setup (may-next pass me))

  stand-same : c ≡ b → k ≡ j → StandUnder w.setup c k
  stand-same book journal = subst (λ (x : BookState). StandUnder w.setup x k) (sym book) (subst (λ (x : JournalState Q). StandUnder w.setup b x) (sym journal) vis.stand)

  unchanged : c ≡ b → k ≡ j → Visited posted w v b.stream w.in_flight c k
  unchanged book journal = visited-same posted w v it b c j k has vis refl filed journal (stand-same book journal) (ap (λ (x : BookState). x.stream) book)

  visited-out : (again : Call) → MadeWay w.setup w.number it again b c j k → Visited posted w v b.stream w.in_flight c k
  visited-out again left =
      visited posted w v b.stream w.in_flight (entry.PageOut w.number (book_page b left.page) ∷ []) b c j k has vis
      (stepping-adds posted w v b c j k has vis (entry.PageOut w.number (book_page b left.page)) left.placed left.stand left.stream (eq-eqb w.number w.number refl)
      (unneeded-page w.held b.stream (has-book posted w v b c j k has vis) rest.device)
      (reserved-page_out w.number (book_page b left.page) j.entries))

  pub visited-next : (ended : WriteNext) → WriteNextLeft w.setup w.number file page ended b c j k → Visited posted w v b.stream w.in_flight c k
  visited-next (next.Refused e) left = visited-refused posted w v it b c j k has vis refl filed e left
  visited-next next.Ready left = unchanged left.same_book left.same_journal
  visited-next next.WentOut left = visited-out left.0 left.1
  visited-next (next.Writes dirty) left = unchanged left.1.same_book left.1.same_journal
  visited-next (next.Stopped e) left = visited-same posted w v it b c j k has vis refl filed left.1.same_journal left.1.stand left.1.stream

  disk-unchanged : k ≡ j → SameDisk w.seen k.entries b.stream
  disk-unchanged same = disk-grew posted w v it b c j k has vis refl filed rest j.entries (disk-same j.entries b.stream) (ap (λ (x : JournalState Q). x.entries) same)

  pub disk-next : (ended : WriteNext) → WriteNextLeft w.setup w.number file page ended b c j k → SameDisk w.seen k.entries b.stream
  disk-next (next.Refused e) left =
      disk-grew posted w v it b c j k has vis refl filed rest _ (disk-call w.number (suc (calls_of j.entries w.number)) (Some b.stream) it (outcome.Failed e) j.entries b.stream) (ap (λ (x : JournalState Q). x.entries) left.placed)
  disk-next next.Ready left = disk-unchanged left.same_journal
  disk-next next.WentOut left =
      disk-grew posted w v it b c j k has vis refl filed rest _ (disk-page_out w.number (book_page b left.1.page) j.entries b.stream) (ap (λ (x : JournalState Q). x.entries) left.1.placed)
  disk-next (next.Writes dirty) left = disk-unchanged left.1.same_journal
  disk-next (next.Stopped e) left = disk-unchanged left.1.same_journal

  -- what is left of the write
  module _ (begun : List Entry) (is : WriteIsUnderWay w.number file page begun w.seen) where
    on : WriteIsUnderWay w.number file page begun j.entries
    on = writing-on w.number file page begun w.seen j.entries is vis.idle

    still : k ≡ j → WriteIsUnderWay w.number file page begun k.entries
    still same = subst (λ (x : JournalState Q). WriteIsUnderWay w.number file page begun x.entries) (sym same) on

    pub left-next : (ended : WriteNext) → WriteNextLeft w.setup w.number file page ended b c j k → WriteStepLeft w.setup w.number file page (write_step_of ended) begun k.entries
    left-next (next.Refused e) left = (
      unshaped w.setup b.stream it e tt (inr (j.entries, left.reason)),
      left-refused posted w v it b c j k has vis refl filed begun is.way e left,
    )
    left-next next.Ready left = still left.same_journal
    left-next next.WentOut left =
        subst (λ (past : List Entry). WriteIsUnderWay w.number file page begun past) (sym (ap (λ (x : JournalState Q). x.entries) left.1.placed))
        (writing-out w.number file page begun j.entries (book_page b left.1.page) on left.1.next)
    left-next (next.Writes dirty) left = still left.1.same_journal
    left-next (next.Stopped e) left = (
      unshaped w.setup b.stream it e tt (inl (stop-met 1 e j left.0)),
      left-stopped posted w v it b c j k has vis refl filed begun is.way 1 e (stops-free it j.entries refl refl) left.0 left.1.same_journal,
    )

  -- what the step asks
  its-page : (p : ℕ) → book_page b p ≡ file_page file p
  its-page p = ap (λ (s : ℕ). the-page s) here
    where
      the-page : ℕ → Page
      the-page s = record { stream = s; page = p }

  ready-now : WriteHasRoom w.setup file page b c j k → IsReadyToStore w.setup k.entries file (file_page file page)
  ready-now left =
      subst (λ (x : JournalState Q). IsReadyToStore w.setup x.entries file (file_page file page)) (sym left.same_journal)
      (subst (λ (p : Page). IsReadyToStore w.setup j.entries file p) (its-page page) left.ready)

  in-way : (dirty : ℕ) (again : Call) → HasToWrite w.setup dirty it again b c j k → IsInTheWay w.setup file page dirty k.entries
  in-way dirty again left =
      subst (λ (x : JournalState Q). IsInTheWay w.setup file page dirty x.entries) (sym left.same_journal)
      (record {
        admitted = rw here at left.admitted;
        in_the_way = subst (λ (p : Page). is_in_the_way it p j.entries ≡ true) (its-page dirty) left.in_the_way;
        to_write = record { dirty = rw here at left.dirty; stamped = rw here at left.stamped };
      })

  pub asking : (ended : WriteNext) → WriteNextLeft w.setup w.number file page ended b c j k → WriteStepAsks w.setup file page (write_step_of ended) k.entries
  asking (next.Refused e) left = tt
  asking next.Ready left = ready-now left
  asking next.WentOut left = tt
  asking (next.Writes dirty) left = in-way dirty left.0 left.1
  asking (next.Stopped e) left = tt

  -- and what it placed
  pub placed-next : (ended : WriteNext) → WriteNextLeft w.setup w.number file page ended b c j k → WriteStepPlaced w file page (write_step_of ended) k.entries
  placed-next (next.Refused e) left = tt
  placed-next next.Ready left = tt
  placed-next next.WentOut left =
      subst (λ (n : ℕ). HasGoneOut w n it k.entries) here
      (record {
        page = left.1.page;
        placed = record { front = j.entries; grows = vis.grows; placed = ap (λ (x : JournalState Q). x.entries) left.1.placed };
        next = left.1.next;
        resident = left.1.resident;
      })
  placed-next (next.Writes dirty) left = subst (λ (x : JournalState Q). Grows w x.entries) (sym left.1.same_journal) vis.grows
  placed-next (next.Stopped e) left = tt

  pub full-next : (ended : WriteNext) → WriteNextLeft w.setup w.number file page ended b c j k → IsFullWriteStep (without_journal k v) (write_step_of ended)
  full-next (next.Refused e) left = full-refused posted w v it b c j k has vis refl filed (Unit {0}) 1 e left
  full-next next.Ready left = tt
  full-next next.WentOut left = tt
  full-next (next.Writes dirty) left = tt
  full-next (next.Stopped e) left = full-stop posted w v it b c j k has vis refl filed (Unit {0}) 1 e left.0 left.1.same_journal (visited-next (next.Stopped e) left)
