-- The store, its begin and its end, and what follows.
use Rattle.std.specs.Prelude.{◌≡◌, ℕ, [], ◌∷◌, ◌++◌, refl}
use Rattle.std.proofs.Common.{arith}
use Rattle.cc_entry.specs.declared.call.Call.TheVariants as call
use Rattle.cc_entry.specs.declared.entry.End.{End}
use Rattle.cc_entry.specs.declared.entry.End.TheVariants as how
use Rattle.cc_entry.specs.declared.entry.Entry.TheVariants as entry
use Rattle.cc_effects.specs.Asked.{Calls}
use Rattle.cc_effects.specs.Noncached.{StoreIsTransferred}
use Rattle.cc_effects.proofs.WorkSteps.{works-others}
use Rattle.cc_effects.proofs.Stretches.{idle-none}
use Rattle.cc_worked.specs.Values.{a, page, goes_out}
use Rattle.cc_worked.specs.PiecesReads.{two_pages}
use Rattle.cc_worked.specs.PiecesNoncached.{some_bytes, stored}
use Rattle.cc_worked.proofs.PiecesOpened.{computed}
use Rattle.cc_worked.proofs.pieces_noncached.noncached_page_is_stored_and_written.Goals as goal

transferred : (end : End) → StoreIsTransferred 1 a 0 some_bytes end two_pages (entry.WriteEnd 1 (page 0) end ∷ (stored ++ two_pages))
transferred end = record {
  nth = 1;
  earlier = [];
  waiting = [];
  works = works-others 1 (Calls (call.NcStore a 0 some_bytes)) [] two_pages tt;
  unstopped = refl;
  quiet = tt;
  grew = refl;
}

pub returns-clause-written : goal.returns-clause-written
unfolding computed transferred
returns-clause-written c = record {
  ended = entry.WriteEnd 1 (page 0) how.Good ∷ (stored ++ two_pages);
  transferred = transferred how.Good;
  counted = refl;
  nth = 2;
  later = [];
  tidied = goes_out 1 0 ∷ [];
  goes_out = ((λ is. (refl, refl)), tt);
  once = omega arith;
  quiet = tt;
  grew = refl;
}

pub returns-clause-failed : goal.returns-clause-failed
returns-clause-failed c =
    (refl, entry.WriteEnd 1 (page 0) how.Failed ∷ (stored ++ two_pages), 2, transferred how.Failed, record { later = []; earlier = []; grew = refl; is_own = refl; quiet_after = tt; quiet_before = tt })

pub returns-clause-no_memory : goal.returns-clause-no_memory
returns-clause-no_memory c =
    (entry.WriteEnd 1 (page 0) how.NoMemory ∷ (stored ++ two_pages), transferred how.NoMemory, idle-none 1 (entry.WriteEnd 1 (page 0) how.NoMemory ∷ (stored ++ two_pages)))

pub returns-clause-told_alone : goal.returns-clause-told_alone
returns-clause-told_alone c left = let same : ◌≡◌ {A = ℕ} 1 0 = left.0 in omega (arith, same)
