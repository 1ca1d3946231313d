-- A call may be filed under the stream under which it is, exactly where the hold that it names serves it.
use Rattle.std.specs.Prelude.{◌≡◌, ℕ, Bool, true, false, ◌&&◌, ◌==◌, List, [], length, refl}
use Rattle.std.specs.declared.option.Option.{Option}
use Rattle.std.specs.declared.option.Option.TheVariants.{Some, None}
use Rattle.std.specs.Option.{option_map}
use Rattle.std.proofs.Common.{ap, sym, ◌∙◌, subst}
use Rattle.cc_entry.specs.declared.call.Call.{Call}
use Rattle.cc_entry.specs.declared.call.Call.TheVariants as call
use Rattle.cc_entry.specs.declared.query.Query.TheVariants as query
use Rattle.cc_entry.specs.declared.entry.Entry.{Entry}
use Rattle.cc_entry.specs.declared.hold.HoldKind.{HoldKind}
use Rattle.cc_entry.specs.declared.hold.HoldKind.TheVariants as kind
use Rattle.cc_entry.specs.declared.hold.HoldRow.{HoldRow}
use Rattle.cc_holds.specs.Stands.{Shown, shown, shown_row}
use Rattle.cc_model.specs.Filing.{serves, serves_range}
use Rattle.cc_model.specs.History.{history}
use Rattle.cc_model.specs.Holds.{Hold, hold_at, holds_of}
use Rattle.cc_world.specs.Calls.{IsFiledOn}
use Rattle.cc_world.specs.HoldUses.{fits, hold_has_range, hold_in_row, is_of_kind, is_served, serves_use, use_of}
use Rattle.cc_world.specs.Pages.{Says}
use Rattle.cc_effects.specs.Events.{filed_under}
use Rattle.cc_world.specs.declared.filed.HoldUse.{HoldUse}

-- a test says whether it passes
tells : (b : Bool) → Says b (b ≡ true)
tells true = refl
tells false = λ is. absurd (cc)

tells-so : (b c : Bool) → b ≡ c → Says b (c ≡ true)
tells-so b c same = subst (λ (x : Bool). Says b (x ≡ true)) same (tells b)

and-true : (b : Bool) → (b && true) ≡ b
and-true true = refl
and-true false = refl

-- a hold of the kind is asked for, whatever bytes it has
whole : (pass id : ℕ) (asked : Option HoldKind) (found : Option Hold) → serves_use pass (record { hold = id; kind = asked; range = None }) found ≡ serves pass (is_of_kind asked) found
whole pass id asked None = refl
whole pass id asked (Some hold) = and-true (serves pass (is_of_kind asked) (Some hold))

-- with so many bytes from a place on
part : (pass id at n : ℕ) (asked : Option HoldKind) (found : Option Hold) → serves_use pass (record { hold = id; kind = asked; range = Some (at, n) }) found ≡ serves_range pass (is_of_kind asked) at n found
part pass id at n asked None = refl
part pass id at n asked (Some hold) = refl

module _ (past : List Entry) (pass s : ℕ) where
  abbrev its : ℕ → Option Hold
  its id = hold_at (holds_of (history past s)) id

  pub says-filed : (it : Call) → filed_under past it ≡ Some s → Says (is_served pass (holds_of (history past s)) (use_of it)) (IsFiledOn past pass s it)
  says-filed (call.PinMapped hold exclusive) here = tells-so _ _ (whole pass hold (Some kind.Map) (its hold))
  says-filed (call.MappedRead hold at len) here = tells-so _ _ (part pass hold at len (Some kind.Map) (its hold))
  says-filed (call.PinnedRead hold at len) here = tells-so _ _ (part pass hold at len (Some kind.Pin) (its hold))
  says-filed (call.PinnedWrite hold at bytes) here = tells-so _ _ (part pass hold at (length bytes) (Some kind.Pin) (its hold))
  says-filed (call.SetDirty hold lsn) here = tells-so _ _ (whole pass hold (Some kind.Pin) (its hold))
  says-filed (call.EndHold hold) here = tells-so _ _ (whole pass hold None (its hold))
  says-filed (call.Repin hold) here = tells-so _ _ (whole pass hold (Some kind.Pin) (its hold))
  says-filed (call.MdlBytes hold at len) here = tells-so _ _ (part pass hold at len (Some kind.ReadChain) (its hold))
  says-filed (call.MdlStore hold at bytes) here = tells-so _ _ (part pass hold at (length bytes) (Some kind.WriteChain) (its hold))
  says-filed (call.Query (query.DirtyPages handle)) here = absurd (cc)
  says-filed (call.Query query.IsDirtyData) here = absurd (cc)
  says-filed other here = sym here

  -- whether the hold that a call names serves it says so
  pub says-served : (it : Call) (asked : HoldUse) (served : Bool) → filed_under past it ≡ Some s → use_of it ≡ Some asked → served ≡ serves_use pass asked (hold_at (holds_of (history past s)) asked.hold) → Says served (IsFiledOn past pass s it)
  says-served it asked served here asks is =
      let serves_so : served ≡ is_served pass (holds_of (history past s)) (use_of it) = is ∙ ap (is_served pass (holds_of (history past s))) (sym asks) in
      subst (λ (b : Bool). Says b (IsFiledOn past pass s it)) (sym serves_so) (says-filed it here)

  -- one that names no hold may be filed
  pub says-unheld : (it : Call) → filed_under past it ≡ Some s → use_of it ≡ None → Says true (IsFiledOn past pass s it)
  says-unheld it here none =
      subst (λ (b : Bool). Says b (IsFiledOn past pass s it)) (ap (is_served pass (holds_of (history past s))) none) (says-filed it here)

-- No hold serves where none was made, or none is shown.
pub serves-unmade : (pass : ℕ) (asked : HoldUse) (found : Option Hold) → None ≡ option_map (λ (hold : Hold). hold.pass) found → false ≡ serves_use pass asked found
serves-unmade pass asked None none = refl
serves-unmade pass asked (Some hold) none = absurd (cc)

pub serves-unshown : (pass : ℕ) (asked : HoldUse) (found : Option Hold) → None ≡ option_map shown found → false ≡ serves_use pass asked found
serves-unshown pass asked None none = refl
serves-unshown pass asked (Some hold) none = absurd (cc)

-- Whether a hold serves lies in its pass and in what is shown of it.
abbrev in-shown : ℕ → Shown → Hold
in-shown maker it = record { id = it.id; pass = maker; file = it.file; at = it.at; len = it.len; kind = it.kind; exclusive = it.exclusive; owed = [] }

range-shown : (range : Option (ℕ × ℕ)) (hold : Hold) → hold_has_range range (in-shown hold.pass (shown hold)) ≡ hold_has_range range hold
range-shown None hold = refl
range-shown (Some range) hold = refl

fits-shown : (pass : ℕ) (asked : HoldUse) (hold : Hold) → fits pass asked (in-shown hold.pass (shown hold)) ≡ fits pass asked hold
fits-shown pass asked hold = ap (λ (b : Bool). (hold.pass == pass && is_of_kind asked.kind hold.kind) && b) (range-shown asked.range hold)

pub serves-there : (pass maker : ℕ) (asked : HoldUse) (row : HoldRow) (found : Option Hold) → Some maker ≡ option_map (λ (hold : Hold). hold.pass) found → Some (shown_row row) ≡ option_map shown found → fits pass asked (hold_in_row maker row) ≡ serves_use pass asked found
serves-there pass maker asked row None made shows = absurd (cc)
serves-there pass maker asked row (Some hold) made shows =
    let by : maker ≡ hold.pass = cc in
    let same : shown_row row ≡ shown hold = cc in
    ap (λ (it : Shown). fits pass asked (in-shown maker it)) same
    ∙ (ap (λ (n : ℕ). fits pass asked (in-shown n (shown hold))) by ∙ fits-shown pass asked hold)
