-- The begin and the end of the page's transfer, and the scan before them.
use Rattle.std.specs.Prelude.{◌≡◌, ◌≤◌, ◌<◌, [], ◌∷◌, ◌++◌, refl}
use Rattle.std.proofs.Common.{arith, sym}
use Rattle.std.proofs.lemmas.List.{append_cancel_right}
use Rattle.cc_effects.specs.Asked.{Writes}
use Rattle.cc_effects.specs.Moments.{own}
use Rattle.cc_effects.specs.PageWrites.{pages_begun}
use Rattle.cc_effects.proofs.WorkSteps.{works-others}
use Rattle.cc_worked.specs.Values.{page}
use Rattle.cc_worked.specs.PiecesWrites.{both_dirty}
use Rattle.cc_worked.specs.PiecesWithoutEntry.{dirty, page_is_written, page_fails, page_is_written_twice, pages_out_of_order, two_written}
use Rattle.cc_worked.proofs.PiecesOpened.{computed, not_so}
use Rattle.cc_worked.proofs.Ticks.{begun-since, ticked, ticked_twice}
use Rattle.cc_worked.proofs.pieces_without_entry.pages_are_counted.Goals as goal

pub returns-clause-written : goal.returns-clause-written
unfolding computed
returns-clause-written c = record {
  during = page_is_written;
  grew = refl;
  works = record { each = ((λ is. refl), ((λ is. refl), tt)); one_sync = omega arith; whole = refl };
  memory = refl;
  once = omega arith;
  became = refl;
}

pub returns-clause-failed : goal.returns-clause-failed
unfolding computed
returns-clause-failed c = record {
  during = page_fails;
  grew = refl;
  works = record { each = ((λ is. refl), ((λ is. refl), tt)); one_sync = omega arith; whole = refl };
  memory = refl;
  once = omega arith;
  became = refl;
}

pub returns-clause-skipped : goal.returns-clause-skipped
unfolding computed
returns-clause-skipped c = record {
  during = [];
  grew = refl;
  works = works-others 17 (Writes (page 1 ∷ [])) [] dirty tt;
  memory = refl;
  once = omega arith;
  became = record { untouched = refl; moment = record { moment = dirty; later = []; since = []; ends = refl; begins = refl; holds = refl } };
}

pub returns-clause-not_written : goal.returns-clause-not_written
returns-clause-not_written c left =
    let during : page_fails ≡ left.during = append_cancel_right page_fails left.during dirty left.grew in
    not_so (rw (sym during) at left.became)

pub returns-clause-not_twice : goal.returns-clause-not_twice
returns-clause-not_twice c left =
    let during : page_is_written_twice ≡ left.during = append_cancel_right page_is_written_twice left.during dirty left.grew in
    let twice : 2 ≤ 1 = rw (sym during) at left.once in
    omega (arith, twice)

pub returns-clause-not_full : goal.returns-clause-not_full
returns-clause-not_full c left =
    let during : page_is_written ≡ left.during = append_cancel_right page_is_written left.during dirty left.grew in
    let left_over : 1 < 1 = rw (sym during) at left.so.1 in
    omega (arith, left_over)

pub returns-clause-ticked : goal.returns-clause-ticked
returns-clause-ticked c = ticked

pub returns-clause-in_order : goal.returns-clause-in_order
returns-clause-in_order c = ticked_twice

pub returns-clause-not_out_of_order : goal.returns-clause-not_out_of_order
returns-clause-not_out_of_order c left =
    let begun : page 0 ∷ page 1 ∷ [] ≡ pages_begun (own 17 left.during) = begun-since two_written.picked left.during both_dirty (pages_out_of_order ++ both_dirty) left.scanned refl in
    not_so (rw (sym begun) at left.scanned.in_order)
