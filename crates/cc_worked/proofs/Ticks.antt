-- Ticks: one picks the one dirty page, one both, and each writes what it picked.
use Rattle.std.specs.Prelude.{◌≡◌, List, [], ◌∷◌, ◌++◌, refl}
use Rattle.std.proofs.Common.{ap, ◌∙◌, arith, append-nil}
use Rattle.cc_entry.specs.Place.{Page}
use Rattle.cc_entry.specs.declared.entry.Entry.{Entry}
use Rattle.cc_entry.specs.declared.entry.Entry.TheVariants as entry
use Rattle.cc_effects.specs.Moments.{own}
use Rattle.cc_effects.specs.PageWrites.{Written, HasScanned, HasTicked, pages_begun}
use Rattle.cc_effects.proofs.Stretches.{own-append, own-others}
use Rattle.cc_worked.specs.PiecesWrites.{both_dirty}
use Rattle.cc_worked.specs.PiecesWithoutEntry.{dirty, page_is_written, page_of_tick, one_written, pages_are_written, pages_of_tick, two_written}
use Rattle.cc_worked.proofs.PiecesOpened.{computed}

pub ticked : HasTicked 17 one_written dirty (page_of_tick ++ dirty)
unfolding computed
ticked = record {
  during = page_is_written;
  scanned = record {
    before = [];
    grew = refl;
    quiet = tt;
    works = record { each = ((λ is. refl), ((λ is. refl), tt)); one_sync = omega arith; whole = refl };
    in_order = refl;
  };
  memory = refl;
  once = omega arith;
  ends = Written ∷ [];
  became = (refl, tt);
  written = refl;
  skipped = refl;
  failed = refl;
  by_logs = omega arith;
}

pub ticked_twice : HasTicked 17 two_written both_dirty (pages_of_tick ++ both_dirty)
unfolding computed
ticked_twice = record {
  during = pages_are_written;
  scanned = record {
    before = [];
    grew = refl;
    quiet = tt;
    works = record { each = ((λ is. refl), ((λ is. refl), ((λ is. refl), ((λ is. refl), tt)))); one_sync = omega arith; whole = refl };
    in_order = refl;
  };
  memory = refl;
  once = omega arith;
  ends = Written ∷ Written ∷ [];
  became = (refl, (refl, tt));
  written = refl;
  skipped = refl;
  failed = refl;
  by_logs = omega arith;
}

begun-append : (xs ys : List Entry) → pages_begun (xs ++ ys) ≡ pages_begun xs ++ pages_begun ys
begun-append [] ys = refl
begun-append (entry.WriteBegin pass page ∷ xs) ys = ap (λ l. page ∷ l) (begun-append xs ys)
begun-append (other ∷ xs) ys = begun-append xs ys

-- where the pass began no transfer before, those that it began stand behind its scan
pub begun-since : (picked : List Page) (during old new : List Entry) → HasScanned 17 picked during old new → pages_begun (own 17 old) ≡ [] → pages_begun (own 17 new) ≡ pages_begun (own 17 during)
begun-since picked during old new s none =
    let rest : pages_begun (own 17 (entry.Scan 17 picked ∷ (s.before ++ old))) ≡ [] =
    ap pages_begun (own-append 17 s.before old) ∙ (ap (λ l. pages_begun (l ++ own 17 old)) (own-others 17 s.before s.quiet) ∙ none) in
    ap (λ l. pages_begun (own 17 l)) s.grew
    ∙ (ap pages_begun (own-append 17 during (entry.Scan 17 picked ∷ (s.before ++ old)))
    ∙ (begun-append (own 17 during) (own 17 (entry.Scan 17 picked ∷ (s.before ++ old)))
    ∙ (ap (λ l. pages_begun (own 17 during) ++ l) rest ∙ append-nil (pages_begun (own 17 during)))))
