-- The end of a repin with write through: the hold is that of the repin, and its range is the flush's span.
use Rattle.std.specs.Prelude.{◌≡◌, true, false, [], ◌∷◌, ◌++◌, refl}
use Rattle.std.specs.declared.option.Option.TheVariants.{Some}
use Rattle.std.proofs.Common.{arith}
use Rattle.cc_entry.specs.declared.hold.HoldKind.TheVariants as kind
use Rattle.cc_entry.specs.declared.call.Call.TheVariants as call
use Rattle.cc_entry.specs.declared.reply.Reply.TheVariants as reply
use Rattle.cc_entry.specs.declared.error.CcError.TheVariants as error
use Rattle.cc_entry.specs.declared.reply.Outcome.TheVariants as outcome
use Rattle.cc_model.specs.Holds.{Hold}
use Rattle.cc_effects.specs.Asked.{Calls, is_admitted}
use Rattle.cc_effects.specs.Repins.{IsHoldEnded, UnpinLeft}
use Rattle.cc_effects.proofs.Starts.{begins, done_by, gives_up}
use Rattle.cc_effects.proofs.Stretches.{some-begin}
use Rattle.cc_effects.proofs.WorkSteps.{works-others}
use Rattle.cc_worked.specs.Values.{setup, a, begins as begun, ends, synced}
use Rattle.cc_worked.specs.PiecesNoncached.{repinned, written_through, hold_alone}
use Rattle.cc_worked.proofs.PiecesOpened.{computed}

repin : Hold
repin = record { id = 2; pass = 1; file = a; at = 0; len = 16; kind = kind.Repin; exclusive = false; owed = [] }

ended : IsHoldEnded 1 2 repin repinned (hold_alone ++ repinned)
unfolding computed repin
ended = record {
  done = record {
    earlier = [];
    placed = record { nth = 5; stream = Some 0; later = []; grew = refl; quiet = tt; filed = refl; works = works-others 1 (Calls (call.EndHold 2)) [] repinned tt };
    unstopped = refl;
    has_done = tt;
  };
  found = refl;
}

pub flushed-through : UnpinLeft setup 1 2 true (outcome.Done reply.Unit) repinned (written_through ++ repinned)
unfolding computed repin
flushed-through =
    (hold_alone ++ repinned, repin, ended, done_by 1 6 (Some 0) (call.Flush a (Some (record { from = 0; to = 16 }))) reply.Unit (synced 1 ∷ ends 1 0 ∷ begun 1 0 ∷ []) (hold_alone ++ repinned) (record { each = ((λ is. (refl, some-begin (λ moment. is_admitted (call.Flush a (Some (record { from = 0; to = 16 }))) 0 moment ≡ true) (ends 1 0 ∷ begun 1 0 ∷ []) (hold_alone ++ repinned) refl)), ((λ is. refl), ((λ is. refl), tt))); one_sync = omega arith; whole = refl }) refl refl (record { after = []; before = ends 1 0 ∷ begun 1 0 ∷ []; split = refl; quiet = tt; settled = refl }))

pub not-flushed : UnpinLeft setup 1 2 true (outcome.Failed error.NoMemory) repinned (hold_alone ++ repinned)
unfolding computed repin
not-flushed =
    (hold_alone ++ repinned, repin, ended, gives_up 1 (call.Flush a (Some (record { from = 0; to = 16 }))) error.NoMemory (hold_alone ++ repinned) (hold_alone ++ repinned) (begins 1 (call.Flush a (Some (record { from = 0; to = 16 }))) (hold_alone ++ repinned)) refl refl)
