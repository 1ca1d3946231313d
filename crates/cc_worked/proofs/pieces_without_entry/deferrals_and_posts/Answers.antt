-- The pages are counted up; the post stands in the stretch.
use Rattle.std.specs.Prelude.{◌≡◌, true, false, List, [], ◌∷◌, ◌++◌, refl}
use Rattle.cc_entry.specs.declared.entry.Entry.{Entry}
use Rattle.cc_entry.specs.declared.entry.Entry.TheVariants as entry
use Rattle.cc_model.specs.Throttle.{queue}
use Rattle.cc_effects.specs.Throttle.{MayNotPost}
use Rattle.cc_effects.proofs.Stretches.{idle-none}
use Rattle.cc_effects.proofs.Licences.{only-own, some-here}
use Rattle.cc_worked.specs.Values.{a, setup}
use Rattle.cc_worked.specs.PiecesReads.{two_pages}
use Rattle.cc_worked.specs.PiecesWithoutEntry.{deferred, posted}
use Rattle.cc_worked.proofs.PiecesOpened.{computed}
use Rattle.cc_worked.proofs.pieces_without_entry.deferrals_and_posts.Goals as goal

pub returns-clause-deferred : goal.returns-clause-deferred
returns-clause-deferred c = record { later = []; earlier = []; grew = refl; is_own = refl; quiet_after = tt; quiet_before = tt }

pub returns-clause-counted : goal.returns-clause-counted
returns-clause-counted c left = other (only-own 1 (entry.Defer 1 1 a 1 false) deferred two_pages left)
  where
    other : ◌≡◌ {A = List Entry} (entry.Defer 1 1 a 2 false ∷ []) (entry.Defer 1 1 a 1 false ∷ []) → ⊥
    other same = absurd (cc)

pub returns-clause-posted : goal.returns-clause-posted
returns-clause-posted c = record {
  idle = record { during = posted; grew = refl; others = (refl, tt) };
  later = [];
  earlier = [];
  grew = refl;
}

pub returns-clause-none : goal.returns-clause-none
unfolding computed
returns-clause-none c = record { idle = idle-none 1 two_pages; nothing = record { moment = two_pages; later = []; since = []; ends = refl; begins = refl; holds = tt } }

pub returns-clause-held_back : goal.returns-clause-held_back
unfolding computed
returns-clause-held_back c = record {
  idle = idle-none 1 (deferred ++ two_pages);
  nothing = record { moment = deferred ++ two_pages; later = []; since = []; ends = refl; begins = refl; holds = refl };
}

pub returns-clause-not_held_back : goal.returns-clause-not_held_back
unfolding computed
returns-clause-not_held_back c left = goes (some-here (λ moment. MayNotPost setup moment (queue moment)) (deferred ++ two_pages) left.nothing)
  where
    goes : true ≡ false → ⊥
    goes same = absurd (cc)
