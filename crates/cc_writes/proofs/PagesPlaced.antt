-- The entries of pages that a call places while it is under way: one goes out, one comes in, one could not be read.
use Rattle.std.specs.Prelude.{◌≡◌, ℕ, true, List, ◌∷◌, refl}
use Rattle.std.proofs.Common.{ap, subst}
use Rattle.std.proofs.lemmas.Bool.{eq-eqb}
use Rattle.cc_entry.specs.Place.{Page}
use Rattle.cc_entry.specs.declared.call.Call.{Call}
use Rattle.cc_entry.specs.declared.entry.Entry.{Entry}
use Rattle.cc_entry.specs.declared.entry.Entry.TheVariants as entry
use Rattle.cc_effects.specs.Asked.{makes_way}
use Rattle.cc_effects.specs.Calls.{IsUnderWay}

-- a page goes out to make room for it
pub takes_out : (me : ℕ) (it : Call) (old new : List Entry) (page : Page) → IsUnderWay me it old new → makes_way it page new ≡ true → IsUnderWay me it old (entry.PageOut me page ∷ new)
takes_out me it old new page way next = record {
  during = entry.PageOut me page ∷ way.during;
  grew = ap (λ l. entry.PageOut me page ∷ l) way.grew;
  works = record {
    each = ((λ is. rw (subst (λ (past : List Entry). makes_way it page past ≡ true) way.grew next) refl), way.works.each);
    one_sync = rw (eq-eqb me me refl) way.works.one_sync;
    whole = rw (eq-eqb me me refl) way.works.whole;
  };
  unsynced = rw (eq-eqb me me refl) way.unsynced;
  unstopped = rw (eq-eqb me me refl) way.unstopped;
}
