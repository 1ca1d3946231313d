-- The begin of a page's transfer: what the pass knows as it places it, and what it gives.
use Rattle.std.specs.Prelude.{◌≡◌, ℕ, suc, ◌+◌, ◌-◌, ◌*◌, ◌<◌, Bool, true, List, [], ◌∷◌, slice_index, Result, Ok, Err, None, refl}
use Rattle.std.proofs.Common.{ap, sym, ◌∙◌, subst, arith, ⊎_elim}
use Rattle.std.proofs.lemmas.Bool.{eq-eqb}
use Rattle.cc_entry.specs.Place.{Page}
use Rattle.cc_entry.specs.declared.entry.Entry.{Entry}
use Rattle.cc_entry.specs.declared.entry.Entry.TheVariants as entry
use Rattle.cc_entry.specs.declared.error.CcError.{CcError}
use Rattle.cc_book.specs.Book.{BookState, BookStands, GoesOn, MayPlaceOnBook}
use Rattle.cc_content.specs.Contents.{IsByteOfContents}
use Rattle.cc_journal.specs.Journal.{JournalState}
use Rattle.cc_model.specs.Covered.{IsLogged}
use Rattle.cc_model.specs.Good.{IsGood}
use Rattle.cc_model.specs.History.{history}
use Rattle.cc_model.specs.Images.{open_of}
use Rattle.cc_model.specs.Room.{reserved_in}
use Rattle.cc_model.specs.Touches.{is_dirty}
use Rattle.cc_step.proofs.Placed.{so-far}
use Rattle.cc_turns.specs.Standing.{Standing}
use Rattle.cc_turns.specs.Journal.{JournalStands}
use Rattle.cc_turns.specs.Takes.{Grows, AddsEvent, without_journal}
use Rattle.cc_writes.specs.Hands.{HasBook, IsAtRest, WentWith}
use Rattle.cc_writes.specs.Visits.{HasPlaced}
use Rattle.cc_writes.specs.Logs.{IsWant, IsStopAt}
use Rattle.cc_writes.specs.Transfers.{BeginLeft, TransferIsBegun, IsUnbegun, BegunLeft}
use Rattle.cc_writes.proofs.OneVisit.{Visiting, Visited, visited, stepping-none}
use Rattle.cc_writes.proofs.Quiet.{holds_no_journal, holds_the_book, history-kept, stands-same, flushed_to-grows, logged-kept, book-after}
use Rattle.cc_writes.proofs.Placed.{may_begin, good-begun, quiet-page}
use Rattle.cc_writes.proofs.Numbered.{numbered}
use Rattle.cc_turns.proofs.Rooms.{reserved-begun}

-- a begin with two places reserved before
pub begun-placed : {Q : Type 0} (e : Entry) (j r k : JournalState Q) → r ≡ record j { reserved = j.reserved + 2 } → k ≡ record r { entries = e ∷ r.entries; reserved = r.reserved - 1; rows = k.rows } → k ≡ record j { entries = e ∷ j.entries; reserved = j.reserved + 1; rows = k.rows }
begun-placed {Q = Q} e j r k same placed =
    placed
    ∙ (ap (λ (x : JournalState Q). record x { entries = e ∷ x.entries; reserved = x.reserved - 1; rows = k.rows }) same
    ∙ ap (λ (n : ℕ). record j { entries = e ∷ j.entries; reserved = n; rows = k.rows }) (less j.reserved))
  where
    less : (n : ℕ) → (n + 2) - 1 ≡ n + 1
    less n = omega arith

pub begun-stands : {Q : Type 0} (now : List Entry) (j r : JournalState Q) (b c : BookState) → r ≡ record j { reserved = j.reserved + 2 } → GoesOn r.entries now b c → GoesOn j.entries now b c
begun-stands now j r b c same goes = subst (λ (past : List Entry). GoesOn past now b c) (ap (λ x. x.entries) same) goes

-- for want of room, or of memory
pub want-stop : {Q : Type 0} (n : ℕ) (j : JournalState Q) (e : CcError) → IsStopAt n j e → IsWant e
want-stop n j e stop = ⊎_elim (λ full. subst IsWant (sym full.0) tt) (λ none. subst IsWant (sym none) tt) stop

-- What the pass gives after the begin, and how it goes on.
pub record Beginning {Q : Type 0} (posted : Q → Bool) (w v : Standing) (page : Page) (result : Result (List ℕ) CcError) (c : BookState) (k : JournalState Q) : Type 0 where
  pub adds : AddsEvent v k.entries
  pub journal : JournalStands posted (without_journal k v) k
  pub book : HasBook (without_journal k v) page.stream c
  pub went : WentWith w.in_flight w (without_journal k v)
  pub left : BeginLeft w page result k.entries

module _ {Q : Type 0} (posted : Q → Bool) (w v : Standing) (page : Page) (b : BookState) (j : JournalState Q)
    (has : HasBook w page.stream b) (rest : IsAtRest w page.stream) (dirty : is_dirty (history w.seen page.stream) page.page ≡ true)
    (logged : IsLogged w.seen page.stream page.page) (vis : Visiting posted w v j) where
  same : history j.entries page.stream ≡ history w.seen page.stream
  same = history-kept w page.stream j.entries (holds_the_book w page.stream b has) rest.device vis.grows

  none : open_of (history j.entries page.stream) ≡ None
  none = ap open_of same ∙ rest.no_transfer

  good : (pass : ℕ) → IsGood w.setup (entry.WriteBegin pass page ∷ j.entries)
  good pass = good-begun w.setup j.entries pass page vis.good
      (may_begin w.setup j.entries page.stream page.page vis.good (ap (λ h. is_dirty h page.page) same ∙ dirty)
      (logged-kept w.seen j.entries page.stream page.page same (λ handle. flushed_to-grows w j.entries handle vis.grows) logged) none)

  stands : BookStands (w.setup.opening page.stream) j.entries b
  stands = stands-same (w.setup.opening page.stream) w.seen j.entries b (subst (λ (n : ℕ). history j.entries n ≡ history w.seen n) (sym has.stream) same) has.stands

  pub may_be_begun : (pass : ℕ) → MayPlaceOnBook j.entries (entry.WriteBegin pass page) b
  may_be_begun pass = (w.setup, so-far w.setup (entry.WriteBegin pass page ∷ j.entries) (good pass), subst (λ (n : ℕ). BookStands (w.setup.opening n) j.entries b) (sym has.stream) stands)

  module _ (pass : ℕ) (me : pass ≡ w.number) (known : page.stream < 16) (c : BookState) (k : JournalState Q) where
    module _ (bytes : List ℕ) (begun : TransferIsBegun pass page bytes b c j k) where
      entries : k.entries ≡ entry.WriteBegin w.number page ∷ j.entries
      entries = ap (λ x. x.entries) begun.placed ∙ ap (λ (n : ℕ). entry.WriteBegin n page ∷ j.entries) me

      abbrev placed : HasPlaced w (entry.WriteBegin w.number page) k.entries
      placed = record { front = j.entries; grows = vis.grows; placed = entries }

      given : Visited posted w v w.in_flight k
      given = visited posted w v w.in_flight (entry.WriteBegin pass page ∷ []) j k (holds_no_journal w page.stream b has) vis (record {
        kept = begun.placed ∙ ap (λ (n : ℕ). record j { entries = entry.WriteBegin pass page ∷ j.entries; reserved = n; rows = k.rows }) (sym (ap (λ x. x.reserved) begun.placed));
        good = subst (λ (past : List Entry). IsGood w.setup past) (sym (ap (λ x. x.entries) begun.placed)) (good pass);
        event = tt;
        own = (eq-eqb pass w.number me, tt);
        held = quiet-page (record w.held { journal = true }) page (entry.WriteBegin pass page) (λ t. refl) (holds_the_book w page.stream b has) rest.device refl;
        reserved = ap (λ x. x.reserved) begun.placed
            ∙ (more j.reserved (reserved_in j.entries) w.in_flight v.others vis.reserved_is
            ∙ ap (λ (n : ℕ). n + w.in_flight + v.others) (sym (ap (λ x. reserved_in x.entries) begun.placed ∙ reserved-begun pass page j.entries known none)));
      })
        where
          more : (n owed mine others : ℕ) → n ≡ owed + mine + others → n + 1 ≡ suc owed + mine + others
          more n owed mine others is = omega (arith, is)

      began : Beginning posted w v page (Ok bytes) c k
      began = record {
        adds = given.adds;
        journal = given.journal;
        book = book-after w.in_flight w (without_journal k v) page.stream b c has given.went (begun.stream ∙ has.stream)
            (begun.stands (w.setup.opening page.stream) stands) given.good;
        went = given.went;
        left = record {
          placed = placed;
          numbered = numbered w.setup w.seen page.stream page.page has.good dirty;
          whole = begun.snapshot.whole;
          bytes_are = λ i within. subst (λ (n : ℕ). IsByteOfContents (w.setup.opening page.stream) (history j.entries n) (4096 * page.page + i) (slice_index bytes i)) has.stream
              (begun.snapshot.bytes_are (w.setup.opening page.stream) j.entries stands i within);
        };
      }

    module _ (e : CcError) (un : IsUnbegun e b c j k) where
      left-there : Visited posted w v w.in_flight k
      left-there = visited posted w v w.in_flight [] j k (holds_no_journal w page.stream b has) vis
          (stepping-none posted w v w.in_flight j.reserved j k vis un.stays.0 vis.reserved_is)

      grows : Grows w k.entries
      grows = subst (λ (x : JournalState Q). Grows w x.entries) (sym un.stays.0) vis.grows

      unbegun : Beginning posted w v page (Err e) c k
      unbegun = record {
        adds = left-there.adds;
        journal = left-there.journal;
        book = book-after w.in_flight w (without_journal k v) page.stream b c has left-there.went (un.stays.1.stream ∙ has.stream)
            (un.stays.1.stands k.entries (w.setup.opening page.stream) (subst (λ (x : JournalState Q). BookStands (w.setup.opening page.stream) x.entries b) (sym un.stays.0) stands)) left-there.good;
        went = left-there.went;
        left = (grows, want-stop 2 j e un.cause);
      }

    pub beginning : (result : Result (List ℕ) CcError) → BegunLeft pass page result b c j k → Beginning posted w v page result c k
    beginning (Ok bytes) left = began bytes left
    beginning (Err e) left = unbegun e left
