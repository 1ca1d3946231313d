-- A reserved place was given back in a visit: the pass stands as it did, and others went on.
use Rattle.std.specs.Prelude.{◌≡◌, ℕ, Bool, false, List, Some, refl}
use Rattle.std.proofs.Common.{ap, sym, ◌∙◌, subst}
use Rattle.cc_entry.specs.declared.call.Call.{Call}
use Rattle.cc_entry.specs.declared.entry.Entry.{Entry}
use Rattle.cc_book.specs.Book.{BookState, BookStands}
use Rattle.cc_effects.specs.Calls.{IsUnderWay}
use Rattle.cc_effects.specs.Moments.{IsIdle}
use Rattle.cc_journal.specs.Journal.{JournalState}
use Rattle.cc_model.specs.Good.{IsGood}
use Rattle.cc_turns.specs.Journal.{JournalStands}
use Rattle.cc_turns.specs.Standing.{Standing, TurnsHeld, nothing}
use Rattle.cc_turns.specs.Takes.{Grows, Takes, AddsEvent, with_journal, without_journal}
use Rattle.cc_turns.proofs.Taking.{book_kept, adds_nothing}
use Rattle.cc_writes.specs.Hands.{HasBook, IsAtRest, SameDisk}
use Rattle.cc_writes.proofs.Others.{under_way-on}
use Rattle.cc_writes.proofs.Resting.{disk-held, rest-same}

module _ {Q : Type 0} {n : ℕ} (posted : Q → Bool) (w v : Standing) (j k : JournalState Q) (taken : Takes with_journal w v)
    (stands : JournalStands posted v j) (released : k ≡ record j { reserved = n }) where
  entries_same : k.entries ≡ v.seen
  entries_same = ap (λ (i : JournalState Q). i.entries) released ∙ stands.entries_are

  pub adds_none : AddsEvent v k.entries
  adds_none = adds_nothing v k.entries entries_same

  module _ (x : Standing) (given : x ≡ without_journal k v) (free : w.held.journal ≡ false) where
    seen_same : x.seen ≡ v.seen
    seen_same = ap (λ (y : Standing). y.seen) given ∙ entries_same

    number_same : x.number ≡ w.number
    number_same = ap (λ (y : Standing). y.number) given ∙ ap (λ (y : Standing). y.number) taken.same

    held_same : x.held ≡ w.held
    held_same = ap (λ (y : Standing). y.held) given
        ∙ (ap (λ (y : Standing). record y.held { journal = false }) taken.same ∙ ap (λ (b : Bool). record w.held { journal = b }) (sym free))

    grows : Grows w x.seen
    grows = record { later = taken.grows.later; grew = seen_same ∙ taken.grows.grew; quiet = taken.grows.quiet; others = taken.grows.others }

    pub idle : IsIdle w.number w.seen x.seen
    idle = record { during = grows.later; grew = grows.grew; others = grows.others }

    pub book_released : (s : ℕ) (b : BookState) → HasBook w s b → HasBook x s b
    book_released s b has = record {
      held = subst (λ (h : TurnsHeld). h ≡ record nothing { device = h.device; book = Some s }) (sym held_same) has.held;
      stream = has.stream;
      stands = subst (λ (y : Standing). BookStands (y.setup.opening s) y.seen b) (sym given)
          (subst (λ (past : List Entry). BookStands (v.setup.opening s) past b) (sym entries_same)
          (book_kept with_journal w v s b taken refl (ap (λ (h : TurnsHeld). h.book) has.held) has.stream has.stands));
      good = subst (λ (y : Standing). IsGood y.setup y.seen) (sym given) (subst (λ (past : List Entry). IsGood v.setup past) (sym entries_same) taken.good);
    }

    pub disk_released : (s : ℕ) → w.held.device ≡ Some s → SameDisk w.seen x.seen s
    disk_released s device = disk-held w s x.seen device grows

    pub rest_released : (s : ℕ) → IsAtRest w s → IsAtRest x s
    rest_released s rest = record {
      device = ap (λ (h : TurnsHeld). h.device) held_same ∙ rest.device;
      no_transfer = rest-same w.seen x.seen s (disk_released s rest.device) rest.no_transfer;
    }

    pub way_released : (it : Call) (begun : List Entry) → IsUnderWay w.number it begun w.seen → IsUnderWay w.number it begun x.seen
    way_released it begun way = under_way-on w.number it begun w.seen x.seen way idle
