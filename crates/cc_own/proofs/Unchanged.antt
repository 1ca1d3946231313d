-- Stretches in which a pass does not change a hold of its own: they join, and those of calls are among them.
use Rattle.std.specs.Prelude.{◌≡◌, ℕ, Bool, true, false, cond, List, [], ◌∷◌, ◌++◌, refl}
use Rattle.std.specs.List.{list_any}
use Rattle.std.proofs.Common.{ap, sym, ◌∙◌, subst, append_assoc}
use Rattle.std.proofs.lemmas.Bool.{or_from}
use Rattle.std.proofs.lemmas.List.Folds.{list_any-append}
use Rattle.cc_entry.specs.declared.call.Call.{Call}
use Rattle.cc_entry.specs.declared.error.CcError.{CcError}
use Rattle.cc_entry.specs.declared.error.CcError.TheVariants as error
use Rattle.cc_entry.specs.declared.reply.Outcome.{Outcome}
use Rattle.cc_entry.specs.declared.reply.Outcome.TheVariants as outcome
use Rattle.cc_entry.specs.declared.entry.Entry.{Entry}
use Rattle.cc_entry.specs.declared.entry.Entry.TheVariants as entry
use Rattle.cc_model.specs.Setup.{Setup}
use Rattle.cc_model.specs.Holds.{Hold}
use Rattle.cc_model.specs.Passes.{is_mine}
use Rattle.cc_model.specs.Good.{IsGoodSoFar}
use Rattle.cc_effects.specs.Asked.{Work, Calls}
use Rattle.cc_effects.specs.Moments.{own, Others, IsIdle, PlacedOnly}
use Rattle.cc_effects.specs.Places.{Works}
use Rattle.cc_effects.specs.Calls.{IsPlaced, IsUnplaced, CallLeft}
use Rattle.cc_effects.proofs.Stretches.{own-append}
use Rattle.cc_effects.proofs.FrontLaws.{placed-of}
use Rattle.cc_own.specs.Own.{HasHold, changes_it, changes_hold, IsUnchanged}
use Rattle.cc_own.proofs.OwnHolds.{all-keep, others-change_none}
use Rattle.cc_own.proofs.CallsKeep.{works-kept}

-- the hold stays as it was
pub unchanged-keeps : (u : Setup) (me s id : ℕ) (hold : Hold) (old new : List Entry) → IsUnchanged me id old new → IsGoodSoFar u new → HasHold me s id hold old → HasHold me s id hold new
unchanged-keeps u me s id hold old new is good has =
    subst (HasHold me s id hold) (sym is.grew) (all-keep u me s id hold is.during old (subst (IsGoodSoFar u) is.grew good) is.unchanged has)

-- two such stretches are one
pub unchanged-then : (me id : ℕ) (old between new : List Entry) → IsUnchanged me id old between → IsUnchanged me id between new → IsUnchanged me id old new
unchanged-then me id old between new first second = record {
  during = second.during ++ first.during;
  grew = second.grew ∙ (ap (λ l. second.during ++ l) first.grew ∙ sym (append_assoc second.during first.during old));
  unchanged =
      ap (list_any (changes_hold id)) (own-append me second.during first.during)
      ∙ (list_any-append (changes_hold id) (own me second.during) (own me first.during)
      ∙ or_from _ _ second.unchanged first.unchanged);
}

pub unchanged-others : (me id : ℕ) (later past : List Entry) → Others me later → IsUnchanged me id past (later ++ past)
unchanged-others me id later past others = record { during = later; grew = refl; unchanged = others-change_none me id later others }

pub unchanged-idle : (me id : ℕ) (old new : List Entry) → IsIdle me old new → IsUnchanged me id old new
unchanged-idle me id old new idle = record { during = idle.during; grew = idle.grew; unchanged = others-change_none me id idle.during idle.others }

-- one entry
pub unchanged-entry : (me id : ℕ) (e : Entry) (past : List Entry) → changes_hold id e ≡ false → IsUnchanged me id past (e ∷ past)
unchanged-entry me id e past kept = record { during = e ∷ []; grew = refl; unchanged = by (is_mine me e) }
  where
    by : (b : Bool) → list_any (changes_hold id) (cond b (e ∷ []) []) ≡ false
    by true = or_from (changes_hold id e) false kept refl
    by false = refl

pub unchanged-only : (me id : ℕ) (e : Entry) (old new : List Entry) → PlacedOnly me e old new → changes_hold id e ≡ false → IsUnchanged me id old new
unchanged-only me id e old new only kept =
    subst (IsUnchanged me id old) (sym only.grew)
    (unchanged-then me id old (e ∷ (only.earlier ++ old)) _
    (unchanged-then me id old (only.earlier ++ old) _ (unchanged-others me id only.earlier old only.quiet_before) (unchanged-entry me id e (only.earlier ++ old) kept))
    (unchanged-others me id only.later (e ∷ (only.earlier ++ old)) only.quiet_after))

pub unchanged-works : (me id : ℕ) (work : Work) (during old : List Entry) → Works me work during old → IsUnchanged me id old (during ++ old)
unchanged-works me id work during old works = record { during = during; grew = refl; unchanged = works-kept me id work during old works }

-- a call whose entry does not change the hold
pub unchanged-placed : (me id : ℕ) (it : Call) (ended : Outcome) (earlier old new : List Entry) (p : IsPlaced me it ended earlier old new) → changes_hold id (entry.Call me p.nth p.stream it ended) ≡ false → IsUnchanged me id old new
unchanged-placed me id it ended earlier old new p kept =
    subst (IsUnchanged me id old) (sym p.grew)
    (unchanged-then me id old (entry.Call me p.nth p.stream it ended ∷ (earlier ++ old)) _
    (unchanged-then me id old (earlier ++ old) _ (unchanged-works me id (Calls it) earlier old p.works) (unchanged-entry me id _ (earlier ++ old) kept))
    (unchanged-others me id p.later _ p.quiet))

unchanged-unplaced : (me id : ℕ) (it : Call) (e : CcError) (old new : List Entry) → IsUnplaced me it e old new → IsUnchanged me id old new
unchanged-unplaced me id it e old new p = record { during = p.during; grew = p.grew; unchanged = works-kept me id (Calls it) p.during old p.works }

pub unchanged-failed : (u : Setup) (me id : ℕ) (it : Call) (e : CcError) (old new : List Entry) → CallLeft u me it (outcome.Failed e) old new → IsUnchanged me id old new
unchanged-failed u me id it (error.JournalFull entries) old new left = unchanged-unplaced me id it _ old new left
unchanged-failed u me id it error.NoMemory old new left = unchanged-unplaced me id it _ old new left
unchanged-failed u me id it e old new left =
    let p = placed-of u me it (outcome.Failed e) old new left refl in
    unchanged-placed me id it (outcome.Failed e) p.0 old new p.1 refl

pub unchanged-call : (u : Setup) (me id : ℕ) (it : Call) (ended : Outcome) (old new : List Entry) → CallLeft u me it ended old new → changes_it id it ≡ false → IsUnchanged me id old new
unchanged-call u me id it (outcome.Done r) old new left kept = unchanged-placed me id it (outcome.Done r) left.earlier old new left.placed kept
unchanged-call u me id it (outcome.Failed e) old new left kept = unchanged-failed u me id it e old new left
