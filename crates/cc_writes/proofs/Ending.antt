-- The end of a page's transfer: what the pass knows as it places it, and what it gives.
use Rattle.std.specs.Prelude.{◌≡◌, ℕ, suc, ◌+◌, ◌-◌, ◌<◌, Bool, true, List, [], ◌∷◌, Some, refl}
use Rattle.std.proofs.Common.{ap, sym, ◌∙◌, subst, arith}
use Rattle.std.proofs.lemmas.Bool.{eq-eqb}
use Rattle.cc_entry.specs.Place.{Page}
use Rattle.cc_entry.specs.declared.entry.End.{End}
use Rattle.cc_entry.specs.declared.entry.Entry.{Entry}
use Rattle.cc_entry.specs.declared.entry.Entry.TheVariants as entry
use Rattle.cc_book.specs.Book.{BookState, BookStands, Gains, GoesOn, MayPlaceOnBook}
use Rattle.cc_journal.specs.Journal.{JournalState}
use Rattle.cc_model.specs.Good.{IsGood}
use Rattle.cc_model.specs.History.{history}
use Rattle.cc_model.specs.Images.{open_of}
use Rattle.cc_model.specs.Room.{reserved_in}
use Rattle.cc_step.proofs.Placed.{so-far}
use Rattle.cc_turns.specs.Standing.{Standing}
use Rattle.cc_turns.specs.Journal.{JournalStands}
use Rattle.cc_turns.specs.Takes.{AddsEvent, without_journal}
use Rattle.cc_writes.specs.Hands.{HasBook, WentWith}
use Rattle.cc_writes.specs.Visits.{HasPlaced}
use Rattle.cc_writes.proofs.OneVisit.{Visiting, Visited, visited}
use Rattle.cc_writes.proofs.Quiet.{holds_no_journal, holds_the_book, history-kept, stands-same, book-after}
use Rattle.cc_writes.proofs.Placed.{good-ended, quiet-page}
use Rattle.cc_turns.proofs.Rooms.{reserved-ended}

-- What the pass gives after the end, and how it goes on.
pub record Ending {Q : Type 0} (posted : Q → Bool) (w v : Standing) (page : Page) (how : End) (c : BookState) (k : JournalState Q) : Type 0 where
  pub adds : AddsEvent v k.entries
  pub journal : JournalStands posted (without_journal k v) k
  pub book : HasBook (without_journal k v) page.stream c
  pub went : WentWith w.in_flight w (without_journal k v)
  pub placed : HasPlaced w (entry.WriteEnd w.number page how) k.entries

module _ {Q : Type 0} (posted : Q → Bool) (w v : Standing) (page : Page) (how : End) (b : BookState) (j : JournalState Q)
    (has : HasBook w page.stream b) (device : w.held.device ≡ Some page.stream)
    (begun : open_of (history w.seen page.stream) ≡ Some (record { pass = w.number; page = page.page }))
    (known : page.stream < 16) (vis : Visiting posted w v j) (pass : ℕ) (me : pass ≡ w.number) where
  same : history j.entries page.stream ≡ history w.seen page.stream
  same = history-kept w page.stream j.entries (holds_the_book w page.stream b has) device vis.grows

  still : open_of (history j.entries page.stream) ≡ Some (record { pass = pass; page = page.page })
  still = ap open_of same ∙ (begun ∙ ap (λ (n : ℕ). Some (record { pass = n; page = page.page })) (sym me))

  good : IsGood w.setup (entry.WriteEnd pass page how ∷ j.entries)
  good = good-ended w.setup j.entries pass page how vis.good still

  stands : BookStands (w.setup.opening page.stream) j.entries b
  stands = stands-same (w.setup.opening page.stream) w.seen j.entries b (subst (λ (n : ℕ). history j.entries n ≡ history w.seen n) (sym has.stream) same) has.stands

  owed : reserved_in j.entries ≡ suc (reserved_in (entry.WriteEnd pass page how ∷ j.entries))
  owed = reserved-ended pass page how j.entries (record { pass = pass; page = page.page }) known still

  -- a place is reserved for it
  pub end-reserved : 0 < j.reserved
  end-reserved = some j.reserved (reserved_in j.entries) (reserved_in (entry.WriteEnd pass page how ∷ j.entries)) w.in_flight v.others vis.reserved_is owed
    where
      some : (n owed less mine others : ℕ) → n ≡ owed + mine + others → owed ≡ suc less → 0 < n
      some n owed less mine others is one = omega (arith, is, one)

  pub may_be_ended : MayPlaceOnBook j.entries (entry.WriteEnd pass page how) b
  may_be_ended = (w.setup, so-far w.setup (entry.WriteEnd pass page how ∷ j.entries) good, subst (λ (n : ℕ). BookStands (w.setup.opening n) j.entries b) (sym has.stream) stands)

  module _ (c : BookState) (k : JournalState Q) (gains : Gains (entry.WriteEnd pass page how) j k) (goes : GoesOn j.entries k.entries b c) (stream : c.stream ≡ b.stream) where
    entries : k.entries ≡ entry.WriteEnd w.number page how ∷ j.entries
    entries = ap (λ x. x.entries) gains ∙ ap (λ (n : ℕ). entry.WriteEnd n page how ∷ j.entries) me

    placed : HasPlaced w (entry.WriteEnd w.number page how) k.entries
    placed = record { front = j.entries; grows = vis.grows; placed = entries }

    given : Visited posted w v w.in_flight k
    given = visited posted w v w.in_flight (entry.WriteEnd pass page how ∷ []) j k (holds_no_journal w page.stream b has) vis (record {
      kept = gains ∙ ap (λ (n : ℕ). record j { entries = entry.WriteEnd pass page how ∷ j.entries; reserved = n; rows = k.rows }) (sym (ap (λ x. x.reserved) gains));
      good = subst (λ (past : List Entry). IsGood w.setup past) (sym (ap (λ x. x.entries) gains)) good;
      event = tt;
      own = (eq-eqb pass w.number me, tt);
      held = quiet-page (record w.held { journal = true }) page (entry.WriteEnd pass page how) (λ t. refl) (holds_the_book w page.stream b has) device refl;
      reserved = ap (λ x. x.reserved) gains
          ∙ (less j.reserved (reserved_in j.entries) (reserved_in (entry.WriteEnd pass page how ∷ j.entries)) w.in_flight v.others vis.reserved_is owed
          ∙ ap (λ (n : ℕ). n + w.in_flight + v.others) (sym (ap (λ x. reserved_in x.entries) gains)));
    })
      where
        less : (n owed rest mine others : ℕ) → n ≡ owed + mine + others → owed ≡ suc rest → n - 1 ≡ rest + mine + others
        less n owed rest mine others is one = omega (arith, is, one)

    pub ending : Ending posted w v page how c k
    ending = record {
      adds = given.adds;
      journal = given.journal;
      book = book-after w.in_flight w (without_journal k v) page.stream b c has given.went (stream ∙ has.stream)
          (goes (w.setup.opening page.stream) stands) given.good;
      went = given.went;
      placed = placed;
    }
