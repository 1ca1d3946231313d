-- What goes on with the block to give up: a dirty page is to be written, or the least page goes out.
use Rattle.std.specs.Prelude.{◌≡◌, ℕ, ◌<◌, ◌^◌, true, ◌∷◌, None, Some, refl}
use Rattle.std.proofs.Common.{ap}
use Rattle.cc_entry.specs.Pages.{block_of}
use Rattle.cc_entry.specs.declared.call.Call.{Call}
use Rattle.cc_entry.specs.declared.entry.Entry.TheVariants as entry
use Rattle.cc_book.specs.Book.{BookState, Gains, GoesOn}
use Rattle.cc_effects.specs.Asked.{makes_room, is_in_the_way}
use Rattle.cc_journal.specs.Journal.{JournalState}
use Rattle.cc_model.specs.Good.{IsGood}
use Rattle.cc_model.specs.History.{history}
use Rattle.cc_model.specs.Ranges.{range_of}
use Rattle.cc_model.specs.Setup.{Setup}
use Rattle.cc_model.specs.Touches.{size_of}
use Rattle.cc_step.proofs.Admitted.{admitted}
use Rattle.cc_step.proofs.Attempts.{reserving, adds-reserving}
use Rattle.cc_step.proofs.Placed.{so-far}
use Rattle.cc_step.specs.Step.{is_answered}
use Rattle.cc_step.specs.Fill.{MayFill, book_page, MadeWay, HasToWrite}
use Rattle.cc_step.specs.Room.{IsCrowded, IsToGo, IsDirtyIn, IsLeastIn}
use Rattle.cc_step.proofs.Below.{resident-numbered}
use Rattle.cc_step.proofs.Going.{Goes, goes, in-the-way, goes-stamped, goes-numbered, some-least, goes-next, makes-way, goes-out}
use Rattle.cc_step.proofs.PlacedPages.{good-out, stand-onto}
use Rattle.cc_step.proofs.Rooms.{full}
use Rattle.cc_step.proofs.Waiting.{needs, filed-of}

module _ {Q : Type 0} (u : Setup) (pass : ℕ) (it : Call) (waited block : ℕ) (b : BookState) (j : JournalState Q) (answered : is_answered it ≡ true) (room : makes_room it ≡ true) (may : MayFill u pass it b j) (crowded : IsCrowded u j.entries it waited b) (to_go : IsToGo (history j.entries b.stream) (range_of (size_of (history j.entries b.stream)) it) block) where
  pub going : Goes (history j.entries b.stream) block
  going = goes (history j.entries b.stream) it waited block (needs u j.entries b.stream it waited crowded.waits) to_go

  way : (p : ℕ) → block_of p ≡ block → is_in_the_way it (book_page b p) j.entries ≡ true
  way p here =
      in-the-way j.entries b.stream it waited block p (admitted u j.entries b.stream it crowded.waits.admitted) room (filed-of _ pass b.stream p it answered room may.may.filed)
      (full u j.entries b.stream waited (so-far u j.entries crowded.good) crowded.full) (needs u j.entries b.stream it waited crowded.waits) to_go here

  pub block-numbered : block < 2 ^ 45
  block-numbered = goes-numbered u j.entries b.stream block (so-far u j.entries crowded.good) going

  pub has-least : IsLeastIn (history j.entries b.stream) block None → ⊥
  has-least = some-least (history j.entries b.stream) block going

  -- a dirty page of it is to be written
  pub has-to-write : (page : ℕ) → IsDirtyIn (history j.entries b.stream) block (Some page) → HasToWrite u page it it b b j j
  has-to-write page dirty = record {
    call_is = refl;
    admitted = crowded.waits.admitted;
    needing = (needs u j.entries b.stream it waited crowded.waits).needing;
    in_the_way = way page dirty.0;
    dirty = dirty.1;
    stamped = goes-stamped u j.entries b.stream block page (so-far u j.entries crowded.good) going dirty.0;
    same_book = refl;
    same_journal = refl;
  }

  module _ (page : ℕ) (clean : IsDirtyIn (history j.entries b.stream) block None) (least : IsLeastIn (history j.entries b.stream) block (Some page)) where
    pub page-numbered : page < 2 ^ 51
    page-numbered = resident-numbered u j.entries b.stream page (so-far u j.entries crowded.good) least.1

    -- its least page may go out
    pub good-going : IsGood u (entry.PageOut pass (book_page b page) ∷ j.entries)
    good-going = good-out u j.entries pass b.stream page crowded.good (goes-out (history j.entries b.stream) block page going may.no_transfer clean least)

    pub made-way : (c : BookState) (k : JournalState Q) → Gains (entry.PageOut pass (book_page b page)) (reserving j) k → GoesOn j.entries k.entries b c → c.stream ≡ b.stream → MadeWay u pass it it b c j k
    made-way c k placed goes_on same =
        let adds = adds-reserving (entry.PageOut pass (book_page b page)) j k placed in
        record {
          call_is = refl;
          page = page;
          resident = least.1;
          next = makes-way j.entries b.stream it page (way page least.0) (goes-next (history j.entries b.stream) block page clean least);
          placed = adds;
          stand = stand-onto u (entry.PageOut pass (book_page b page)) b c j k may.may.stand good-going (ap (λ x. x.entries) adds) (ap (λ x. x.logs) adds) (ap (λ x. x.threshold) adds) same (goes_on (u.opening b.stream) may.may.stand.stands);
          stream = same;
        }
