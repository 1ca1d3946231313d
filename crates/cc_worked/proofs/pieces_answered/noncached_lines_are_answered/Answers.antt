-- The entry of the first page, which was refused; or the page, as it was stored and written.
use Rattle.std.specs.Prelude.{[], ◌∷◌, ◌++◌, refl}
use Rattle.std.proofs.Common.{arith}
use Rattle.cc_entry.specs.declared.call.Call.TheVariants as call
use Rattle.cc_entry.specs.declared.entry.End.TheVariants as how
use Rattle.cc_entry.specs.declared.entry.Entry.TheVariants as entry
use Rattle.cc_effects.specs.Asked.{Calls}
use Rattle.cc_effects.specs.Noncached.{StoreIsTransferred, IsPageWritten}
use Rattle.cc_effects.proofs.WorkSteps.{works-others}
use Rattle.cc_effects.proofs.Stretches.{idle-none}
use Rattle.cc_worked.specs.Values.{a, page, goes_out}
use Rattle.cc_worked.specs.PiecesReads.{two_pages}
use Rattle.cc_worked.specs.PiecesAnswered.{whole_page, page_is_stored, page_is_written}
use Rattle.cc_worked.proofs.PiecesOpened.{computed}
use Rattle.cc_worked.proofs.pieces_answered.noncached_lines_are_answered.Goals as goal

pub returns-clause-read_refused : goal.returns-clause-read_refused
returns-clause-read_refused c =
    (refl, (1, refl, record { later = []; earlier = []; grew = refl; is_own = refl; quiet_after = tt; quiet_before = tt }))

pub returns-clause-write_refused : goal.returns-clause-write_refused
returns-clause-write_refused c =
    (refl, (1, refl, record { later = []; earlier = []; grew = refl; is_own = refl; quiet_after = tt; quiet_before = tt }))

transferred : StoreIsTransferred 1 a 0 whole_page how.Good two_pages (entry.WriteEnd 1 (page 0) how.Good ∷ (page_is_stored ++ two_pages))
transferred = record {
  nth = 1;
  earlier = [];
  waiting = [];
  works = works-others 1 (Calls (call.NcStore a 0 whole_page)) [] two_pages tt;
  unstopped = refl;
  quiet = tt;
  grew = refl;
}

its_page : IsPageWritten 1 a 0 whole_page 4096 two_pages (page_is_written ++ two_pages)
unfolding computed transferred
its_page = record {
  ended = entry.WriteEnd 1 (page 0) how.Good ∷ (page_is_stored ++ two_pages);
  transferred = transferred;
  counted = refl;
  nth = 2;
  later = [];
  tidied = goes_out 1 0 ∷ [];
  goes_out = ((λ is. (refl, refl)), tt);
  once = omega arith;
  quiet = tt;
  grew = refl;
}

pub returns-clause-page_written : goal.returns-clause-page_written
returns-clause-page_written c = (page_is_written ++ two_pages, 4096, 0, refl, its_page, (refl, idle-none 1 (page_is_written ++ two_pages)))
