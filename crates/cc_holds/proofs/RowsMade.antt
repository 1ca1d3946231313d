-- The row of the hold that a done call makes, and the calls that make none.
use Rattle.std.specs.Prelude.{◌≡◌, ℕ, Bool, true, false, List, ◌∷◌, refl}
use Rattle.std.specs.declared.option.Option.{Option}
use Rattle.std.specs.declared.option.Option.TheVariants.{Some, None}
use Rattle.std.specs.Option.{option_map}
use Rattle.std.proofs.Common.{ap, sym, ◌∙◌}
use Rattle.cc_entry.specs.declared.call.Call.{Call}
use Rattle.cc_entry.specs.declared.call.Call.TheVariants as call
use Rattle.cc_entry.specs.declared.reply.Reply.{Reply}
use Rattle.cc_entry.specs.declared.hold.HoldKind.TheVariants as kind
use Rattle.cc_entry.specs.declared.hold.HoldRow.{HoldRow}
use Rattle.cc_entry.specs.declared.entry.Entry.{Entry}
use Rattle.cc_entry.specs.declared.entry.Entry.TheVariants as entry
use Rattle.cc_entry.specs.declared.reply.Outcome.TheVariants as outcome
use Rattle.cc_model.specs.Cache.{makes_hold}
use Rattle.cc_model.specs.History.{Effect, Did, history}
use Rattle.cc_model.specs.Legal.{IsLegal}
use Rattle.cc_model.specs.Setup.{Setup}
use Rattle.cc_holds.specs.Done.{MakesAbove, takes_hold_memory}
use Rattle.cc_holds.proofs.MadeIds.{id-made}
use Rattle.cc_model.specs.Holds.{Hold, hold_at, holds_of, id_of, repinned}
use Rattle.cc_laws.proofs.HoldSteps.{holds_of-done}
use Rattle.cc_holds.specs.declared.holds.KeptHold as kept
use Rattle.cc_holds.specs.Makes.{new_row, row_made, row_named}
use Rattle.cc_holds.specs.Stands.{HoldsStand}
use Rattle.cc_holds.proofs.HoldsStanding.{stands-same, stands-other}

same-id : (id : ℕ) (r row : HoldRow) → r.id ≡ id → Some r ≡ Some row → row.id ≡ id
same-id id r row is same = sym (ap (λ (x : HoldRow). x.id) (some r row same)) ∙ is
  where
    some : (a b : HoldRow) → Some a ≡ Some b → a ≡ b
    some a b e = cc

-- a new hold has the id of the reply
pub row-id : (call : Call) (id : ℕ) (holds : List Hold) (row : HoldRow) → row_made call id holds ≡ Some row → row.id ≡ id
row-id (call.Map file at len) id holds row is = same-id id _ row refl is
row-id (call.PinRead file at len exclusive) id holds row is = same-id id _ row refl is
row-id (call.PreparePin file at len zero exclusive) id holds row is = same-id id _ row refl is
row-id (call.MdlRead file at len) id holds row is = same-id id _ row refl is
row-id (call.MdlWrite file at len) id holds row is = same-id id _ row refl is
row-id (call.Repin hold) id holds row is = go (hold_at holds hold) is
  where
    go : (o : Option Hold) → option_map (λ (it : Hold). new_row id it.file it.at it.len kind.Repin false None) o ≡ Some row → row.id ≡ id
    go None is = absurd (cc)
    go (Some it) is = same-id id _ row refl is
row-id other id holds row is = absurd (cc)

-- whether a call changes or ends the hold that it names
abbrev pub changes_one : Call → Bool
changes_one (call.PinMapped hold exclusive) = true
changes_one (call.PinnedWrite hold at bytes) = true
changes_one (call.SetDirty hold lsn) = true
changes_one (call.EndHold hold) = true
changes_one other = false

-- a call that is none of those
pub changes-none : (it : Call) → ((hold : ℕ) (exclusive : Bool) → it ≡ call.PinMapped hold exclusive → ⊥) → ((hold at : ℕ) (bytes : List ℕ) → it ≡ call.PinnedWrite hold at bytes → ⊥) → ((hold : ℕ) (lsn : Option ℕ) → it ≡ call.SetDirty hold lsn → ⊥) → ((hold : ℕ) → it ≡ call.EndHold hold → ⊥) → changes_one it ≡ false
changes-none (call.PinMapped hold exclusive) pins writes stamps ends = absurd (pins hold exclusive refl)
changes-none (call.PinnedWrite hold at bytes) pins writes stamps ends = absurd (writes hold at bytes refl)
changes-none (call.SetDirty hold lsn) pins writes stamps ends = absurd (stamps hold lsn refl)
changes-none (call.EndHold hold) pins writes stamps ends = absurd (ends hold refl)
changes-none other pins writes stamps ends = refl

-- a call that neither makes a hold nor changes one
pub stands-unmade : (call : Call) (h : List Effect) (pass : ℕ) (reply : Reply) (holds : List kept.KeptHold) → changes_one call ≡ false → HoldsStand h holds → row_made call (id_of reply) (holds_of h) ≡ None → HoldsStand (Did pass call reply ∷ h) holds
stands-unmade (call.Map file at len) h pass reply holds other stands none = absurd (cc)
stands-unmade (call.PinRead file at len exclusive) h pass reply holds other stands none = absurd (cc)
stands-unmade (call.PreparePin file at len zero exclusive) h pass reply holds other stands none = absurd (cc)
stands-unmade (call.MdlRead file at len) h pass reply holds other stands none = absurd (cc)
stands-unmade (call.MdlWrite file at len) h pass reply holds other stands none = absurd (cc)
stands-unmade (call.Repin hold) h pass reply holds other stands none =
    stands-same _ h holds (holds_of-done pass (call.Repin hold) reply h ∙ go (hold_at (holds_of h) hold) none) stands
  where
    go : (o : Option Hold) → option_map (λ (it : Hold). new_row (id_of reply) it.file it.at it.len kind.Repin false None) o ≡ None → repinned (id_of reply) pass o (holds_of h) ≡ holds_of h
    go None none = refl
    go (Some it) none = absurd (cc)
stands-unmade (call.PinMapped hold exclusive) h pass reply holds other stands none = absurd (cc)
stands-unmade (call.PinnedWrite hold at bytes) h pass reply holds other stands none = absurd (cc)
stands-unmade (call.SetDirty hold lsn) h pass reply holds other stands none = absurd (cc)
stands-unmade (call.EndHold hold) h pass reply holds other stands none = absurd (cc)
stands-unmade call h pass reply holds other stands none = stands-other (Did pass call reply) h holds refl stands

-- a call with a row makes a hold
row-makes : (call : Call) (id : ℕ) (holds : List Hold) (row : HoldRow) → row_made call id holds ≡ Some row → makes_hold call ≡ true
row-makes (call.Map file at len) id holds row is = refl
row-makes (call.PinRead file at len exclusive) id holds row is = refl
row-makes (call.PreparePin file at len zero exclusive) id holds row is = refl
row-makes (call.MdlRead file at len) id holds row is = refl
row-makes (call.MdlWrite file at len) id holds row is = refl
row-makes (call.Repin hold) id holds row is = refl
row-makes other id holds row is = absurd (cc)

-- in a legal journal a hold that is made has a greater id than each open one
pub makes-above : (u : Setup) (past : List Entry) (pass nth s : ℕ) (call : Call) (reply : Reply) → IsLegal u (entry.Call pass nth (Some s) call (outcome.Done reply) ∷ past) → MakesAbove call (id_of reply) (holds_of (history past s))
makes-above u past pass nth s call reply legal row is =
    id-made u past pass nth s call reply legal (row-makes call (id_of reply) (holds_of (history past s)) row is)

-- a call for which memory is sure makes no hold
pub sure-makes_none : (it : Call) → takes_hold_memory it ≡ false → makes_hold it ≡ false
sure-makes_none (call.PinnedWrite hold at bytes) sure = refl
sure-makes_none other sure = sure

-- a call that makes no hold names no row
pub row_named-none : (it : Call) (id : ℕ) → makes_hold it ≡ false → row_named it id ≡ None
row_named-none (call.Map file at len) id none = absurd (cc)
row_named-none (call.PinRead file at len exclusive) id none = absurd (cc)
row_named-none (call.PreparePin file at len zero exclusive) id none = absurd (cc)
row_named-none (call.MdlRead file at len) id none = absurd (cc)
row_named-none (call.MdlWrite file at len) id none = absurd (cc)
row_named-none other id none = refl

-- a repin makes a hold
pub repin-makes : (it : Call) (hold : ℕ) → it ≡ call.Repin hold → makes_hold it ≡ false → ⊥
repin-makes (call.Repin hold) named is none = absurd (cc)
repin-makes other named is none = absurd (cc)
