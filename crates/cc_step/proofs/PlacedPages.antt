-- A good journal stays good with the entry of a page, and a book and a journal go on standing with it.
use Rattle.std.specs.Prelude.{◌≡◌, ℕ, ◌*◌, ◌<◌, ◌≤◌, Bool, true, nat_lt, List, ◌∷◌, None, refl}
use Rattle.std.proofs.Common.{ap, sym, ◌∙◌, subst, arith}
use Rattle.std.proofs.lemmas.Bool.{and_from}
use Rattle.cc_entry.specs.declared.call.Call.{Call}
use Rattle.cc_entry.specs.declared.entry.Entry.{Entry}
use Rattle.cc_entry.specs.declared.entry.Entry.TheVariants as entry
use Rattle.cc_book.specs.Book.{BookState, BookStands}
use Rattle.cc_effects.specs.Asked.{is_file_of_page, reaches}
use Rattle.cc_journal.specs.Journal.{JournalState}
use Rattle.cc_model.specs.Acts.{file_of}
use Rattle.cc_model.specs.Allowed.{IsAllowed, IsAllowedSoFar, IsOwed, owed_begin}
use Rattle.cc_model.specs.Conditions.{MayComeIn, MayGoOut}
use Rattle.cc_model.specs.Covered.{IsCovered, IsCoveredEntry}
use Rattle.cc_model.specs.Good.{IsGood}
use Rattle.cc_model.specs.History.{history}
use Rattle.cc_model.specs.Legal.{IsLegal, IsLegalEntry}
use Rattle.cc_model.specs.Setup.{Setup}
use Rattle.cc_model.specs.Touches.{size_of}
use Rattle.cc_step.proofs.Failing.{stepped-answered}
use Rattle.cc_step.proofs.Placed.{so-far}
use Rattle.cc_step.specs.Step.{StandUnder}
use Rattle.cc_step.specs.Fill.{book_page}
use Rattle.cc_step.specs.Landing.{MayBring}
use Rattle.cc_step.proofs.Found.{page-before}
use Rattle.cc_step.proofs.Rooms.{room-within}
use Rattle.cc_step.proofs.Waiting.{needs, waiting-mapped, waiting-within, filed-of, brings-room}

-- where nothing is owed, any entry may follow
nothing-owed : (e : Entry) (past : List Entry) → owed_begin past ≡ None → IsOwed (owed_begin past) e
nothing-owed e past none = rw none tt

pub good-in : (u : Setup) (past : List Entry) (pass s p : ℕ) (from_disk : Bool) → IsGood u past → MayComeIn (history past s) p from_disk → IsGood u (entry.PageIn pass (record { stream = s; page = p }) from_disk ∷ past)
unfolding IsLegal IsLegalEntry IsAllowed IsAllowedSoFar IsCovered IsCoveredEntry
good-in u past pass s p from_disk good may = record {
  legal = (tt, good.legal);
  allowed = ((nothing-owed _ past good.allowed.1, may, good.allowed.0), refl);
  covered = (tt, good.covered);
}

pub good-out : (u : Setup) (past : List Entry) (pass s p : ℕ) → IsGood u past → MayGoOut (history past s) p → IsGood u (entry.PageOut pass (record { stream = s; page = p }) ∷ past)
unfolding IsLegal IsLegalEntry IsAllowed IsAllowedSoFar IsCovered IsCoveredEntry
good-out u past pass s p good may = record {
  legal = (tt, good.legal);
  allowed = ((nothing-owed _ past good.allowed.1, may, good.allowed.0), refl);
  covered = (tt, good.covered);
}

pub good-unread : (u : Setup) (past : List Entry) (pass s p : ℕ) → IsGood u past → IsGood u (entry.FillFailed pass (record { stream = s; page = p }) ∷ past)
unfolding IsLegal IsLegalEntry IsAllowed IsAllowedSoFar IsCovered IsCoveredEntry
good-unread u past pass s p good = record {
  legal = (tt, good.legal);
  allowed = ((nothing-owed _ past good.allowed.1, tt, good.allowed.0), refl);
  covered = (tt, good.covered);
}

-- the journal gained an entry, with which it is good, and the book stands for it
pub stand-onto : {Q : Type 0} (u : Setup) (e : Entry) (b c : BookState) (j k : JournalState Q) → StandUnder u b j → IsGood u (e ∷ j.entries) → k.entries ≡ e ∷ j.entries → k.logs ≡ j.logs → k.threshold ≡ j.threshold → c.stream ≡ b.stream → BookStands (u.opening b.stream) k.entries c → StandUnder u c k
stand-onto u e b c j k stand good grown logs threshold same stands = record {
  good = rw grown good;
  stands = subst (λ (n : ℕ). BookStands (u.opening n) k.entries c) (sym same) stands;
  logs_are = stand.logs_are ∙ sym logs;
  threshold_is = stand.threshold_is ∙ sym threshold;
}

-- a page that a call waits for may come in
pub comes-in : {Q : Type 0} (u : Setup) (pass : ℕ) (it : Call) (page : ℕ) (b : BookState) (j : JournalState Q) → MayBring u pass it page b j → MayComeIn (history j.entries b.stream) page (nat_lt (4096 * page) b.contents.valid)
comes-in u pass it page b j may =
    let stand = may.may.may.stand in
    let past = j.entries in
    let h = history past b.stream in
    let n = needs u past b.stream it page may.wanted.waits in
    let admitted = may.wanted.waits.admitted in
    record {
      mapped = waiting-mapped u past h it (stepped-answered it may.stepped) (brings-room it may.brings) n.needing admitted;
      absent = n.absent;
      below_size = below n.range.to (size_of h) (page-before n.range page n.has) (waiting-within u past h it n.range (stepped-answered it may.stepped) (brings-room it may.brings) admitted n.range_is);
      no_transfer = may.may.no_transfer;
      in_quota = room-within u past b.stream page (so-far u past stand.good) may.wanted.room;
      source = ap (nat_lt (4096 * page)) stand.stands.contents_are.valid_is;
    }
  where
    below : (end size : ℕ) → 4096 * page < end → end ≤ size → 4096 * page < size
    below end size a c = omega arith

-- and is one of the call's range
pub is-reached : {Q : Type 0} (u : Setup) (pass : ℕ) (it : Call) (page : ℕ) (b : BookState) (j : JournalState Q) → MayBring u pass it page b j → reaches it (book_page b page) j.entries ≡ true
is-reached u pass it page b j may =
    let n = needs u j.entries b.stream it page may.wanted.waits in
    and_from (is_file_of_page (file_of it) (book_page b page)) _
    (filed-of _ pass b.stream page it (stepped-answered it may.stepped) (brings-room it may.brings) may.may.may.filed)
    (rw n.range_is n.has)
