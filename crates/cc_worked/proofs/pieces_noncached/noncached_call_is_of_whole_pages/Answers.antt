-- The place and the length decide.
use Rattle.std.specs.Prelude.{◌≡◌, [], refl}
use Rattle.cc_entry.specs.declared.error.CcError.{CcError}
use Rattle.cc_entry.specs.declared.error.CcError.TheVariants as error
use Rattle.cc_effects.proofs.Stretches.{idle-none}
use Rattle.cc_worked.specs.PiecesReads.{two_pages}
use Rattle.cc_worked.proofs.pieces_noncached.noncached_call_is_of_whole_pages.Goals as goal

pub returns-clause-nothing : goal.returns-clause-nothing
returns-clause-nothing c = (refl, idle-none 1 two_pages)

pub returns-clause-refused : goal.returns-clause-refused
returns-clause-refused c =
    (refl, (1, refl, record { later = []; earlier = []; grew = refl; is_own = refl; quiet_after = tt; quiet_before = tt }))

pub returns-clause-not_answered : goal.returns-clause-not_answered
returns-clause-not_answered c left = left

pub returns-clause-not_so_called : goal.returns-clause-not_so_called
returns-clause-not_so_called c left = other left.1.1
  where
    other : ◌≡◌ {A = CcError} (error.TooLong 65536) error.Unaligned → ⊥
    other same = absurd (cc)
