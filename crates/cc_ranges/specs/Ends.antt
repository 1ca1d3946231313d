-- How a noncached write ends whose page was stored: what its end asks, and what it leaves.
use Rattle.std.specs.Prelude.{◌≡◌, ℕ, ◌+◌, ◌-◌, ◌<◌, Bool, true, false, List, [], ◌∷◌, ◌++◌}
use Rattle.std.specs.List.{list_any}
use Rattle.std.specs.declared.option.Option.TheVariants.{None}
use Rattle.cc_entry.specs.Place.{File, Page}
use Rattle.cc_entry.specs.declared.call.Call.TheVariants as call
use Rattle.cc_entry.specs.declared.entry.Entry.{Entry}
use Rattle.cc_entry.specs.declared.entry.Entry.TheVariants as entry
use Rattle.cc_entry.specs.declared.error.CcError.TheVariants as error
use Rattle.cc_entry.specs.declared.reply.Reply.TheVariants as reply
use Rattle.cc_book.specs.Book.{BookState, done, failed}
use Rattle.cc_effects.specs.Moments.{AtSome}
use Rattle.cc_journal.specs.Journal.{JournalState}
use Rattle.cc_model.specs.Conditions.{MayFinish}
use Rattle.cc_model.specs.Faults.{faults_since, is_failed_write}
use Rattle.cc_model.specs.History.{Effect, history}
use Rattle.cc_model.specs.Holds.{holds_of, is_held}
use Rattle.cc_model.specs.Images.{open_of}
use Rattle.cc_model.specs.Passes.{store_of, is_the_page}
use Rattle.cc_model.specs.Residency.{is_resident}
use Rattle.cc_model.specs.Setup.{Setup}
use Rattle.cc_model.specs.Touches.{is_dirty}
use Rattle.cc_step.specs.Step.{StandUnder}
use Rattle.cc_turns.specs.Standing.{Standing}
use Rattle.cc_turns.specs.Takes.{Grows}
use Rattle.cc_writes.specs.Hands.{WentWith}
use Rattle.cc_ranges.specs.Stores.{IsTightStore, places_kept}

-- What a pass asks of a book and a journal in hand for the end of a write: the two stand under the setup, no transfer of
-- the stream is under way, the pass's last call stored the page, which is on the disk, and the end has its place.
pub record MayFinishHere {Q : Type 0} (u : Setup) (pass : ℕ) (file : File) (page : Page) (b : BookState) (j : JournalState Q)
    : Type 0 where
  pub stand : StandUnder u b j
  pub here : file.stream ≡ page.stream
  pub rest : open_of (history j.entries page.stream) ≡ None
  pub finishes : MayFinish j.entries pass page.stream page.page
  pub reserved : 0 < j.reserved

-- a stretch in which at most the page went out
abbrev pub PageOutAtMost : ℕ → Page → List Entry → Type 0
PageOutAtMost pass page [] = Unit {0}
PageOutAtMost pass page (e ∷ []) = e ≡ entry.PageOut pass page
PageOutAtMost pass page (e ∷ (other ∷ more)) = ⊥

-- A page is resident and clean, and no hold has it.
pub record IsIdlePage (h : List Effect) (page : ℕ) : Type 0 where
  pub resident : is_resident h page ≡ true
  pub not_held : is_held (holds_of h) page ≡ false
  pub clean : is_dirty h page ≡ false

-- The page went out where it could; where a place was kept for that, it did if it was idle. That place is kept no longer.
pub record IsTidied {Q : Type 0} (u : Setup) (pass : ℕ) (file : File) (page : Page) (kept : Bool) (c : BookState)
    (j k : JournalState Q) : Type 0 where
  pub tidied : List Entry
  pub only : PageOutAtMost pass page tidied
  pub out : kept ≡ true → IsIdlePage (history j.entries page.stream) page.page → tidied ≡ entry.PageOut pass page ∷ []
  pub placed : k ≡ record j { entries = tidied ++ j.entries; reserved = j.reserved - places_kept kept; rows = k.rows }
  pub may : MayFinishHere u pass file page c k

-- a place is there for a page to go out: one that was kept is
pub record PageOutPlaceLeft {Q : Type 0} (kept there : Bool) (j k : JournalState Q) : Type 0 where
  pub sure : kept ≡ true → there ≡ true
  pub reserved : k ≡ record j { reserved = (j.reserved + places_kept there) - places_kept kept }

-- the entry of a noncached write of a page that was done
abbrev pub write_done : ℕ → File → Page → List Entry → Entry
write_done pass file page past = done pass past page.stream (call.NcWrite file page.page) reply.Unit

-- The write was done.
pub record WriteIsEnded {Q : Type 0} (u : Setup) (pass : ℕ) (file : File) (page : Page) (c : BookState) (j k : JournalState Q)
    : Type 0 where
  pub placed : k ≡ record j {
    entries = write_done pass file page j.entries ∷ j.entries;
    reserved = j.reserved - 1;
    rows = k.rows;
  }
  pub stand : StandUnder u c k

-- Others went on, and then the pass took the page out where it could; where it had a place for that, it did if the page
-- was idle.
pub record HasTidied (w : Standing) (page : Page) (seen : List Entry) : Type 0 where
  pub front : List Entry
  pub grows : Grows w front
  pub tidied : List Entry
  pub only : PageOutAtMost w.number page tidied
  pub out : w.in_flight ≡ 1 → IsIdlePage (history front page.stream) page.page → tidied ≡ entry.PageOut w.number page ∷ []
  pub placed : seen ≡ tidied ++ front

-- Others went on, and then the pass placed the entry of the write.
pub record HasEndedWrite (w : Standing) (file : File) (page : Page) (seen : List Entry) : Type 0 where
  pub front : List Entry
  pub grows : Grows w front
  pub placed : seen ≡ write_done w.number file page front ∷ front

-- The pass took the page out where it could, and then placed the entry of the write; others went on before each.
pub record HasFinished (w : Standing) (file : File) (page : Page) (seen : List Entry) : Type 0 where
  pub then_was : Standing
  pub went : WentWith 0 w then_was
  pub tidied : HasTidied w page then_was.seen
  pub ended : HasEndedWrite then_was file page seen

-- the entry of a noncached write of a page whose transfer failed
abbrev pub write_failed : ℕ → File → Page → List Entry → Entry
write_failed pass file page past = failed pass past page.stream (call.NcWrite file page.page) (error.WriteFault page.page)

-- A transfer of the page failed since the pass's last call, which stored it.
pub record HasFailedSince (past : List Entry) (pass : ℕ) (page : Page) : Type 0 where
  pub stored : is_the_page page (store_of past pass) ≡ true
  pub failed : list_any (is_failed_write page.page) (faults_since past pass) ≡ true

-- What the end of a write asks that failed so.
pub record MayFailHere {Q : Type 0} (u : Setup) (pass : ℕ) (file : File) (page : Page) (b : BookState) (j : JournalState Q)
    : Type 0 where
  pub stand : StandUnder u b j
  pub here : file.stream ≡ page.stream
  pub fails : HasFailedSince j.entries pass page
  pub reserved : 0 < j.reserved

-- Others went on, and then the pass placed the entry of the write that failed.
pub record HasFailedWrite (w : Standing) (file : File) (page : Page) (seen : List Entry) : Type 0 where
  pub front : List Entry
  pub grows : Grows w front
  pub placed : seen ≡ write_failed w.number file page front ∷ front

-- The write of a page was done, the last that the pass placed since it went on from here, and left the page idle only where
-- no place was kept for it to go out.
pub record HasEndedTidy (w : Standing) (file : File) (page : Page) (kept : Bool) (seen : List Entry) : Type 0 where
  pub front : List Entry
  pub later : List Entry
  pub grew : front ≡ later ++ w.seen
  pub placed : seen ≡ write_done w.number file page front ∷ front
  pub gone : kept ≡ true → IsIdlePage (history front page.stream) page.page → ⊥

-- The write of a page was done, the last that this past tells, behind a moment. It left the page idle only where, as the page
-- was stored since that moment, there was no room for it to go out too.
pub record IsTidyEnd (u : Setup) (most me : ℕ) (file : File) (page : Page) (old past : List Entry) : Type 0 where
  pub front : List Entry
  pub later : List Entry
  pub grew : front ≡ later ++ old
  pub placed : past ≡ write_done me file page front ∷ front
  pub left_in : IsIdlePage (history front page.stream) page.page → AtSome (IsTightStore u most me file page) old front
