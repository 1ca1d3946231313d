-- A hold that a caller has: a call leaves it as it was, or pinned.
use Rattle.std.specs.Prelude.{◌≡◌, ℕ, ◌+◌, Bool, true, false, cond, ◌==◌, List, [], ◌∷◌, length, refl}
use Rattle.std.specs.declared.option.Option.TheVariants.{Some}
use Rattle.std.proofs.Common.{sym, subst}
use Rattle.cc_entry.specs.Place.{Range}
use Rattle.cc_entry.specs.Kinds.{is_map, is_pin}
use Rattle.cc_entry.specs.declared.call.Call.{Call}
use Rattle.cc_entry.specs.declared.call.Call.TheVariants as call
use Rattle.cc_entry.specs.declared.entry.Entry.{Entry}
use Rattle.cc_entry.specs.declared.error.CcError.{CcError}
use Rattle.cc_entry.specs.declared.hold.HoldKind.{HoldKind}
use Rattle.cc_entry.specs.declared.hold.HoldKind.TheVariants as kind
use Rattle.cc_entry.specs.declared.reply.Reply.{Reply}
use Rattle.cc_entry.specs.declared.reply.Outcome.{Outcome}
use Rattle.cc_entry.specs.declared.reply.Outcome.TheVariants as outcome
use Rattle.cc_effects.specs.Calls.{CallLeft}
use Rattle.cc_model.specs.Allowed.{IsAllowed}
use Rattle.cc_model.specs.Good.{IsGood, IsGoodSoFar}
use Rattle.cc_model.specs.Setup.{Setup}
use Rattle.cc_own.specs.Own.{HasHold, changes_it, hold_after}
use Rattle.cc_own.proofs.CallsKeep.{call-keeps, done-leaves, failed-keeps, pin_mapped-leaves}
use Rattle.cc_turns.specs.Standing.{Standing}
use Rattle.cc_calls.specs.Held.{IsHolding}
use Rattle.cc_calls.specs.Ends.{writes_through}
use Rattle.cc_calls.specs.declared.held.Held.{Held}

pub so-far : (u : Setup) (past : List Entry) → IsGood u past → IsGoodSoFar u past
unfolding IsAllowed
so-far u past good = record { legal = good.legal; allowed = good.allowed.0; covered = good.covered }

module _ (w v : Standing) (of_kind : HoldKind → Bool) (held : Held) (number : v.number ≡ w.number) (h : IsHolding w of_kind held) where
  -- where only what it owes is other
  owing : (owed : List Range) → HasHold w.number held.file.stream held.id (record h.hold { owed = owed }) v.seen → IsHolding v of_kind held
  owing owed has = record {
    hold = record h.hold { owed = owed };
    has = subst (λ (me : ℕ). HasHold me held.file.stream held.id (record h.hold { owed = owed }) v.seen) (sym number) has;
    kind_is = h.kind_is;
    file_is = h.file_is;
    at_is = h.at_is;
    len_is = h.len_is;
  }

  -- a call that does not change it leaves it
  pub call-still : (it : Call) (ended : Outcome) → CallLeft w.setup w.number it ended w.seen v.seen → IsGood w.setup v.seen → changes_it held.id it ≡ false → IsHolding v of_kind held
  call-still it ended left good kept =
      owing h.hold.owed (call-keeps w.setup w.number held.file.stream held.id h.hold it ended w.seen v.seen left (so-far w.setup v.seen good) kept h.has)

  -- so does one that failed
  pub failed-still : (it : Call) (ended : Outcome) (e : CcError) → ended ≡ outcome.Failed e → CallLeft w.setup w.number it ended w.seen v.seen → IsGood w.setup v.seen → IsHolding v of_kind held
  failed-still it ended e is left good =
      owing h.hold.owed (failed-keeps w.setup w.number held.file.stream held.id h.hold it e w.seen v.seen (rw is at left) (so-far w.setup v.seen good) h.has)

  -- one that writes through it changes what it owes at most
  owed-after : (it : Call) → writes_through it ≡ true → (owed : List Range) × (hold_after held.id it h.hold ≡ Some (record h.hold { owed = owed }))
  owed-after (call.PinnedWrite named at bytes) writes = go (named == held.id)
    where
      more : List Range
      more = record { from = at; to = at + length bytes } ∷ h.hold.owed

      go : (b : Bool) → (owed : List Range) × (cond b (Some (record h.hold { owed = more })) (Some h.hold) ≡ Some (record h.hold { owed = owed }))
      go true = (more, refl)
      go false = (h.hold.owed, refl)
  owed-after (call.SetDirty named lsn) writes = go (named == held.id)
    where
      go : (b : Bool) → (owed : List Range) × (cond b (Some (record h.hold { owed = [] })) (Some h.hold) ≡ Some (record h.hold { owed = owed }))
      go true = ([], refl)
      go false = (h.hold.owed, refl)
  owed-after (call.MdlStore named at bytes) writes = (h.hold.owed, refl)
  owed-after other writes = absurd (cc)

  pub write-still : (it : Call) (ended : Outcome) → writes_through it ≡ true → CallLeft w.setup w.number it ended w.seen v.seen → IsGood w.setup v.seen → IsHolding v of_kind held
  write-still it (outcome.Failed e) writes left good = failed-still it (outcome.Failed e) e refl left good
  write-still it (outcome.Done r) writes left good =
      let after = owed-after it writes in
      owing after.0 (done-leaves w.setup w.number held.file.stream held.id h.hold _ it r w.seen v.seen left (so-far w.setup v.seen good) after.1 h.has)

-- a map that was pinned is a pin
pub pinned-now : (w v : Standing) (held : Held) (exclusive : Bool) (r : Reply) → v.number ≡ w.number → IsHolding w is_map held → CallLeft w.setup w.number (call.PinMapped held.id exclusive) (outcome.Done r) w.seen v.seen → IsGood w.setup v.seen → IsHolding v is_pin held
pinned-now w v held exclusive r number h left good = record {
  hold = record h.hold { kind = kind.Pin; exclusive = exclusive };
  has = rw number (pin_mapped-leaves w.setup w.number held.file.stream held.id h.hold exclusive r w.seen v.seen left (so-far w.setup v.seen good) h.has);
  kind_is = refl;
  file_is = h.file_is;
  at_is = h.at_is;
  len_is = h.len_is;
}
