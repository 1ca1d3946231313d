-- The next step of a purge, in a visit with the stream's disk in hand.
use Rattle.std.specs.Prelude.{◌≡◌, ℕ, suc, ◌<◌, ◌^◌, Bool, true, List, [], ◌∷◌, ◌++◌, Some, refl}
use Rattle.std.specs.declared.option.Option.{Option}
use Rattle.std.proofs.Common.{ap, sym, ◌∙◌, subst, inl, inr}
use Rattle.std.proofs.lemmas.Bool.{or_right, eq-eqb}
use Rattle.cc_entry.specs.Place.{File, Page, Range}
use Rattle.cc_entry.specs.declared.call.Call.{Call}
use Rattle.cc_entry.specs.declared.call.Call.TheVariants as call
use Rattle.cc_entry.specs.declared.entry.Entry.{Entry}
use Rattle.cc_entry.specs.declared.entry.Entry.TheVariants as entry
use Rattle.cc_entry.specs.declared.error.CcError.{CcError}
use Rattle.cc_entry.specs.declared.reply.Outcome.TheVariants as outcome
use Rattle.cc_entry.specs.declared.reply.Reply.TheVariants as reply
use Rattle.cc_book.specs.Book.{BookState}
use Rattle.cc_effects.specs.Asked.{asks_out, makes_way}
use Rattle.cc_effects.specs.Calls.{CallLeft, IsUnderWay}
use Rattle.cc_effects.proofs.Starts.{ends_done}
use Rattle.cc_step.specs.Fill.{MayFill, book_page}
use Rattle.cc_journal.specs.Journal.{JournalState}
use Rattle.cc_model.specs.History.{history}
use Rattle.cc_model.specs.Holds.{holds_of}
use Rattle.cc_model.specs.Passes.{calls_of}
use Rattle.cc_model.specs.Setup.{Setup}
use Rattle.cc_step.specs.Step.{AttemptDone, AttemptRefused, StandUnder}
use Rattle.cc_turns.specs.Standing.{Standing}
use Rattle.cc_turns.specs.Takes.{Grows, without_journal}
use Rattle.cc_writes.specs.Hands.{HasBook, IsAtRest, SameDisk}
use Rattle.cc_writes.specs.Visits.{IsFiledNow, CallIsOfStream}
use Rattle.cc_writes.proofs.Attempting.{filed-front, number-is, way-on, visited-done, visited-refused, visited-same, left-refused, left-stopped, full-refused, full-stop}
use Rattle.cc_writes.proofs.VisitDisks.{disk-same, disk-call, disk-page_out}
use Rattle.cc_writes.proofs.Owing.{reserved-page_out}
use Rattle.cc_writes.proofs.Placing.{has-book, stepping-adds, unneeded-page}
use Rattle.cc_writes.proofs.Refusals.{stops-free}
use Rattle.cc_writes.proofs.VisitStepping.{disk-grew, fill-as}
use Rattle.cc_writes.proofs.Visiting.{Visiting, Visited, visited}
use Rattle.cc_ranges.specs.Dirty.{IsNext}
use Rattle.cc_ranges.specs.Purge.{PurgeHasEnded, PurgeHasFailed, PurgedPageHasGone, PurgeIsAtPage, PurgeStepAsks, IsFullPurgeStep, PurgeStepLeft, PurgeStepPlaced, purge_step_of}
use Rattle.cc_ranges.specs.PurgeSteps.{PurgeNextLeft, PurgeHasToWrite, HasTakenOut, PurgePageIsNumbered}
use Rattle.cc_ranges.specs.declared.purge_steps.PurgeNext.{PurgeNext}
use Rattle.cc_ranges.specs.declared.purge_steps.PurgeNext.TheVariants as next

-- a purge is filed under the stream of its file
pub purge-filed : (file : File) (span : Option Range) (s : ℕ) → s ≡ file.stream → CallIsOfStream (call.Purge file span) s
purge-filed file span s here holds pass = ap Some here

-- a page goes out for it
takes-out : (me : ℕ) (it : Call) (old new : List Entry) (page : Page) → IsUnderWay me it old new → asks_out me it page new ≡ true → IsUnderWay me it old (entry.PageOut me page ∷ new)
takes-out me it old new page way asked = record {
  during = entry.PageOut me page ∷ way.during;
  grew = ap (λ l. entry.PageOut me page ∷ l) way.grew;
  works = record {
    each = ((λ is. or_right (makes_way it page (way.during ++ old)) _ (subst (λ (past : List Entry). asks_out me it page past ≡ true) way.grew asked)), way.works.each);
    one_sync = rw (eq-eqb me me refl) way.works.one_sync;
    whole = rw (eq-eqb me me refl) way.works.whole;
  };
  unsynced = rw (eq-eqb me me refl) way.unsynced;
  unstopped = rw (eq-eqb me me refl) way.unstopped;
}

module _ {Q : Type 0} (posted : Q → Bool) (w v : Standing) (file : File) (span : Option Range) (from : ℕ) (b c : BookState) (j k : JournalState Q)
    (has : HasBook w b.stream b) (vis : Visiting posted w v b.stream b j) (here : b.stream ≡ file.stream) (rest : IsAtRest w b.stream) where
  abbrev it : Call
  it = call.Purge file span

  filed : IsFiledNow w b.stream it
  filed = purge-filed file span b.stream here (holds_of (history w.seen b.stream)) w.number

  pub may-next : (pass : ℕ) → pass ≡ v.number → MayFill w.setup pass it b j
  may-next pass me = fill-as posted w v it b c j k has vis refl filed rest pass me

  pub gone-on : (pass : ℕ) (ended : PurgeNext) → pass ≡ v.number → ((u : Setup) → MayFill u pass it b j → PurgeNextLeft u pass file span from ended b c j k) → PurgeNextLeft w.setup w.number file span from ended b c j k
  gone-on pass ended me left =
      subst (λ (n : ℕ). PurgeNextLeft w.setup n file span from ended b c j k) (number-is posted w v it b c j k has vis refl filed pass me) (left w.setup (may-next pass me))

  stand-same : c ≡ b → k ≡ j → StandUnder w.setup c k
  stand-same book journal = subst (λ (x : BookState). StandUnder w.setup x k) (sym book) (subst (λ (x : JournalState Q). StandUnder w.setup b x) (sym journal) vis.stand)

  unchanged : c ≡ b → k ≡ j → Visited posted w v b.stream w.in_flight c k
  unchanged book journal = visited-same posted w v it b c j k has vis refl filed journal (stand-same book journal) (ap (λ (x : BookState). x.stream) book)

  visited-out : HasTakenOut w.setup w.number file span b c j k → Visited posted w v b.stream w.in_flight c k
  visited-out left =
      visited posted w v b.stream w.in_flight (entry.PageOut w.number (book_page b left.page) ∷ []) b c j k has vis
      (stepping-adds posted w v b c j k has vis (entry.PageOut w.number (book_page b left.page)) left.placed left.stand left.stream (eq-eqb w.number w.number refl)
      (unneeded-page w.held b.stream (has-book posted w v b c j k has vis) rest.device)
      (reserved-page_out w.number (book_page b left.page) j.entries))

  pub visited-next : (ended : PurgeNext) → PurgeNextLeft w.setup w.number file span from ended b c j k → Visited posted w v b.stream w.in_flight c k
  visited-next next.Done left = visited-done posted w v it b c j k has vis refl filed refl reply.Unit left
  visited-next (next.Refused e) left = visited-refused posted w v it b c j k has vis refl filed e left
  visited-next (next.Writes page) left = unchanged left.same_book left.same_journal
  visited-next next.Cleaned left = unchanged left.same_book left.same_journal
  visited-next next.WentOut left = visited-out left
  visited-next (next.Stopped e) left = visited-same posted w v it b c j k has vis refl filed left.1.same_journal left.1.stand left.1.stream

  disk-unchanged : k ≡ j → SameDisk w.seen k.entries b.stream
  disk-unchanged same = disk-grew posted w v it b c j k has vis refl filed rest j.entries (disk-same j.entries b.stream) (ap (λ (x : JournalState Q). x.entries) same)

  pub disk-next : (ended : PurgeNext) → PurgeNextLeft w.setup w.number file span from ended b c j k → SameDisk w.seen k.entries b.stream
  disk-next next.Done left =
      disk-grew posted w v it b c j k has vis refl filed rest _ (disk-call w.number (suc (calls_of j.entries w.number)) (Some b.stream) it (outcome.Done reply.Unit) j.entries b.stream) (ap (λ (x : JournalState Q). x.entries) left.placed)
  disk-next (next.Refused e) left =
      disk-grew posted w v it b c j k has vis refl filed rest _ (disk-call w.number (suc (calls_of j.entries w.number)) (Some b.stream) it (outcome.Failed e) j.entries b.stream) (ap (λ (x : JournalState Q). x.entries) left.placed)
  disk-next (next.Writes page) left = disk-unchanged left.same_journal
  disk-next next.Cleaned left = disk-unchanged left.same_journal
  disk-next next.WentOut left =
      disk-grew posted w v it b c j k has vis refl filed rest _ (disk-page_out w.number (book_page b left.page) j.entries b.stream) (ap (λ (x : JournalState Q). x.entries) left.placed)
  disk-next (next.Stopped e) left = disk-unchanged left.1.same_journal

  -- what is left of the purge
  module _ (begun : List Entry) (way : IsUnderWay w.number it begun w.seen) where
    on : IsUnderWay w.number it begun j.entries
    on = way-on posted w v it b c j k has vis refl filed begun way

    still : k ≡ j → IsUnderWay w.number it begun k.entries
    still same = subst (λ (x : JournalState Q). IsUnderWay w.number it begun x.entries) (sym same) on

    pub left-next : (ended : PurgeNext) → PurgeNextLeft w.setup w.number file span from ended b c j k → PurgeStepLeft w.setup w.number file span (purge_step_of ended) begun k.entries
    left-next next.Done left =
        subst (λ (past : List Entry). CallLeft w.setup w.number it (outcome.Done reply.Unit) begun past) (sym (ap (λ (x : JournalState Q). x.entries) left.placed))
        (ends_done w.number (suc (calls_of j.entries w.number)) (Some b.stream) it reply.Unit begun j.entries on (filed-front posted w v it b c j k has vis refl filed) (λ during. tt))
    left-next (next.Refused e) left = left-refused posted w v it b c j k has vis refl filed begun way e left
    left-next (next.Writes page) left = still left.same_journal
    left-next next.Cleaned left = still left.same_journal
    left-next next.WentOut left =
        subst (λ (past : List Entry). IsUnderWay w.number it begun past) (sym (ap (λ (x : JournalState Q). x.entries) left.placed))
        (takes-out w.number it begun j.entries (book_page b left.page) on left.asked)
    left-next (next.Stopped e) left = left-stopped posted w v it b c j k has vis refl filed begun way 1 e (stops-free it j.entries refl refl) left.0 left.1.same_journal

  -- the page that is to be written
  at-page : (page : ℕ) → page < 2 ^ 51 → PurgeHasToWrite w.setup file span from page b c j k → PurgeIsAtPage w.setup file span from page k.entries
  at-page page numbered left =
      subst (λ (x : JournalState Q). PurgeIsAtPage w.setup file span from page x.entries) (sym left.same_journal)
      (by (subst (λ (n : ℕ). IsNext (history j.entries n) span from page) here left.next))
    where
      by : IsNext (history j.entries file.stream) span from page → PurgeIsAtPage w.setup file span from page j.entries
      by next = record {
        admitted = rw here at left.admitted;
        in_span = next.in_span;
        to_write = record { dirty = next.dirty; stamped = rw here at left.stamped };
        from_is = next.from_is;
        numbered = numbered;
      }

  pub asking : (ended : PurgeNext) → PurgePageIsNumbered ended → PurgeNextLeft w.setup w.number file span from ended b c j k → PurgeStepAsks w.setup file span from (purge_step_of ended) k.entries
  asking next.Done numbered left = tt
  asking (next.Refused e) numbered left = tt
  asking (next.Writes page) numbered left = at-page page numbered left
  asking next.Cleaned numbered left = tt
  asking next.WentOut numbered left = tt
  asking (next.Stopped e) numbered left = tt

  -- and what it placed
  grows-same : k ≡ j → Grows w k.entries
  grows-same same = subst (λ (x : JournalState Q). Grows w x.entries) (sym same) vis.grows

  ended-here : AttemptDone w.setup w.number it reply.Unit b c j k → PurgeHasEnded w file span k.entries
  ended-here left = record {
    nth = suc (calls_of j.entries w.number);
    placed = record {
      front = j.entries;
      grows = vis.grows;
      placed = ap (λ (x : JournalState Q). x.entries) left.placed
          ∙ ap (λ (n : ℕ). entry.Call w.number (suc (calls_of j.entries w.number)) (Some n) it (outcome.Done reply.Unit) ∷ j.entries) here;
    };
  }

  refused-here : (e : CcError) → AttemptRefused w.setup w.number it e b c j k → PurgeHasFailed w file span e k.entries
  refused-here e left =
      inl (
        suc (calls_of j.entries w.number),
        record {
          front = j.entries;
          grows = vis.grows;
          placed = ap (λ (x : JournalState Q). x.entries) left.placed
              ∙ ap (λ (n : ℕ). entry.Call w.number (suc (calls_of j.entries w.number)) (Some n) it (outcome.Failed e) ∷ j.entries) here;
        },
      )

  gone-here : HasTakenOut w.setup w.number file span b c j k → PurgedPageHasGone w file.stream k.entries
  gone-here left =
      subst (λ (n : ℕ). PurgedPageHasGone w n k.entries) here
      (record {
        page = left.page;
        placed = record { front = j.entries; grows = vis.grows; placed = ap (λ (x : JournalState Q). x.entries) left.placed };
        resident = left.resident;
      })

  pub placed-next : (ended : PurgeNext) → PurgeNextLeft w.setup w.number file span from ended b c j k → PurgeStepPlaced w file span from (purge_step_of ended) k.entries
  placed-next next.Done left = ended-here left
  placed-next (next.Refused e) left = refused-here e left
  placed-next (next.Writes page) left = grows-same left.same_journal
  placed-next next.Cleaned left = inr (left.later, grows-same left.same_journal)
  placed-next next.WentOut left = inl (gone-here left)
  placed-next (next.Stopped e) left = inr (grows-same left.1.same_journal)

  pub full-next : (ended : PurgeNext) → PurgeNextLeft w.setup w.number file span from ended b c j k → IsFullPurgeStep (without_journal k v) (purge_step_of ended)
  full-next next.Done left = tt
  full-next (next.Refused e) left = full-refused posted w v it b c j k has vis refl filed (Unit {0}) 1 e left
  full-next (next.Writes page) left = tt
  full-next next.Cleaned left = tt
  full-next next.WentOut left = tt
  full-next (next.Stopped e) left = full-stop posted w v it b c j k has vis refl filed (Unit {0}) 1 e left.0 left.1.same_journal (visited-next (next.Stopped e) left)
