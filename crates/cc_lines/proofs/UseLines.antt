-- Lines on the holds that words name: that they end as a line is to.
use Rattle.std.specs.Prelude.{◌≡◌, ℕ, ◌+◌, ◌≤◌, ◌==◌, Bool, true, false, nat_le, Result, Ok, Err, List, refl}
use Rattle.std.specs.declared.option.Option.{Option}
use Rattle.std.specs.declared.option.Option.TheVariants.{Some, None}
use Rattle.std.proofs.Common.{sym, ap, subst, arith, inl}
use Rattle.cc_entry.specs.Kinds.{is_map, is_pin, is_read_chain, is_write_chain}
use Rattle.cc_entry.specs.declared.answer.Answer.{Answer}
use Rattle.cc_entry.specs.declared.answer.Answer.TheVariants as answer
use Rattle.cc_entry.specs.declared.call.Call.{Call}
use Rattle.cc_entry.specs.declared.call.Call.TheVariants as call
use Rattle.cc_entry.specs.declared.entry.Entry.{Entry}
use Rattle.cc_entry.specs.declared.error.CcError.{CcError}
use Rattle.cc_entry.specs.declared.hold.HoldKind.{HoldKind}
use Rattle.cc_script.specs.HoldWords.{UsesHold, UsesBytes, UsesRight, bound_after}
use Rattle.cc_script.specs.declared.bound.Bound.{Bound}
use Rattle.cc_script.specs.declared.bound.Need.{Need}
use Rattle.cc_script.specs.declared.bound.Need.TheVariants as need
use Rattle.cc_script.specs.declared.script.Action.{Action}
use Rattle.cc_script.specs.declared.script.Action.TheVariants as action
use Rattle.cc_model.specs.Setup.{Setup}
use Rattle.cc_effects.specs.Calls.{CallLeft}
use Rattle.cc_own.specs.Own.{changes_it}
use Rattle.cc_pieces.specs.Answered.{CallAnswered}
use Rattle.cc_pieces.specs.Bindings.{Binding, hold_named}
use Rattle.cc_pieces.specs.HoldLines.{HeldReadBy}
use Rattle.cc_pieces.specs.Served.{Served, bindings_after}
use Rattle.cc_step.specs.Step.{most_asked}
use Rattle.cc_calls.specs.Answers.{CanCall, outcome_of}
use Rattle.cc_turns.specs.Standing.{Standing}
use Rattle.cc_writes.specs.Ways.{IsFull}
use Rattle.cc_calls.specs.Held.{HoldsAfter, IsHolding, held_covers}
use Rattle.cc_calls.specs.Ends.{UseEnds}
use Rattle.cc_calls.specs.declared.held.Held.{Held}
use Rattle.cc_lines.specs.Holds.{HasNamed, NamesState, named_held, kind_of, named_at, test_of}
use Rattle.cc_lines.specs.Line.{CanServe, HeldReadTold, IsFullTold, LineServed, NamesStandFor, told_answer}
use Rattle.cc_lines.specs.declared.holds.Named.{Named}
use Rattle.cc_lines.specs.declared.holds.Named.TheVariants as named
use Rattle.cc_lines.proofs.WordLines.{full-told, has-named, named-hold, named-none, on-hold, on-none, serves_word, stand-used, went-none, went-on}

-- ---- what a line on a hold may ask

-- the pass has the hold that a word names
pub has-word : (w : Standing) (names : NamesState) (bounds : List Bound) (bindings : List Binding) (n : Need) (word : ℕ) (it : Named) → NamesStandFor w bounds bindings names → (uses : UsesHold n bounds word) → named_at names.named word ≡ Some it → HasNamed w.streams w.number w.seen word uses.bound bindings it
has-word w names bounds bindings n word it stand uses is =
    has-named w.streams w.number w.seen bounds bindings names.named n word it stand uses is

-- it may call on its stream
pub may-call : (w : Standing) (asked : Action) (names : NamesState) (n : Need) (word : ℕ) (it : Named) → (can : CanServe w asked names) → UsesHold n can.bounds word → named_at names.named word ≡ Some it → CanCall w (named_held it).file.stream
may-call w asked names n word it can uses is =
    let has = has-word w names can.bounds can.bindings n word it can.stand uses is in
    record { known = has.known; free = can.free; none = can.none }

pub may-hold : (w : Standing) (asked : Action) (names : NamesState) (n : Need) (word : ℕ) (it : Named) → (can : CanServe w asked names) → UsesHold n can.bounds word → named_at names.named word ≡ Some it → IsHolding w (test_of it) (named_held it)
may-hold w asked names n word it can uses is = (has-word w names can.bounds can.bindings n word it can.stand uses is).holds

le-from : (a b : ℕ) → a ≤ b → nat_le a b ≡ true
le-from a b less = grind (arith, less)

-- and the bytes lie in the hold
pub may-cover : (w : Standing) (asked : Action) (names : NamesState) (n : Need) (word at len : ℕ) (it : Named) → (can : CanServe w asked names) → UsesBytes n can.bounds word at len → named_at names.named word ≡ Some it → held_covers (named_held it) at len ≡ true
may-cover w asked names n word at len it can bytes is =
    let has = has-word w names can.bounds can.bindings n word it can.stand bytes.uses is in
    let from : (named_held it).at ≤ at = subst (λ k. k ≤ at) (sym has.at_is) bytes.from in
    let to : at + len ≤ (named_held it).at + (named_held it).len = subst (λ k. at + len ≤ k + (named_held it).len) (sym has.at_is) (subst (λ k. at + len ≤ bytes.uses.bound.at + k) (sym has.len_is) bytes.to) in
    rw (le-from _ _ from, le-from _ _ to) refl

-- ---- a line whose word names no hold that serves

module _ (w : Standing) (names : NamesState) where
  pub unused : (asked : Action) → CanServe w asked names → ((bounds : List Bound) (bindings : List Binding) → NamesStandFor w bounds bindings names → UsesRight bounds asked → Served w.setup w.number bindings asked answer.NoHold w.seen w.seen) → ((bounds : List Bound) (bindings : List Binding) → NamesStandFor w bounds bindings names → NamesStandFor w (bound_after asked bounds) (bindings_after asked answer.NoHold bindings) names) → LineServed w w asked answer.NoHold names names
  unused asked can left stands = record {
    served = λ bounds bindings stand right. (left bounds bindings stand right, stands bounds bindings stand);
    full = inl tt;
    goes_on = went-none w;
    good = can.good;
    room = refl;
    placed = refl;
  }

  pub no-word : (bounds : List Bound) (bindings : List Binding) (n : Need) (word : ℕ) (of_kind : HoldKind → Bool) → NamesStandFor w bounds bindings names → UsesHold n bounds word → serves_word of_kind (named_at names.named word) ≡ false → hold_named bindings word of_kind ≡ None
  no-word bounds bindings n word of_kind stand uses serves =
      named-none w.streams w.number w.seen word uses.bound bindings (named_at names.named word) of_kind (stand.each word uses.bound uses.named uses.still) serves

  pub no-read : (word at len : ℕ) → CanServe w (action.HeldRead word at len) names → serves_word is_map (named_at names.named word) ≡ false → serves_word is_pin (named_at names.named word) ≡ false → LineServed w w (action.HeldRead word at len) answer.NoHold names names
  no-read word at len can maps pins =
      unused (action.HeldRead word at len) can
      (λ bounds bindings stand right.
      subst (λ o. HeldReadBy w.setup w.number bindings word at len o answer.NoHold w.seen w.seen) (sym (no-word bounds bindings need.MapOrPin word is_map stand right.uses maps))
      (on-none w.number _ (λ id. CallAnswered w.setup w.number (call.PinnedRead id at len)) w.seen (no-word bounds bindings need.MapOrPin word is_pin stand right.uses pins)))
      (λ bounds bindings stand. stand)

  pub no-write : (word at : ℕ) (bytes : List ℕ) → CanServe w (action.PinnedWrite word at bytes) names → serves_word is_pin (named_at names.named word) ≡ false → LineServed w w (action.PinnedWrite word at bytes) answer.NoHold names names
  no-write word at bytes can pins =
      unused (action.PinnedWrite word at bytes) can
      (λ bounds bindings stand right. on-none w.number _ (λ id. CallAnswered w.setup w.number (call.PinnedWrite id at bytes)) w.seen (no-word bounds bindings need.Pin word is_pin stand right.uses pins))
      (λ bounds bindings stand. stand)

  pub no-stamp : (word : ℕ) (lsn : Option ℕ) → CanServe w (action.SetDirty word lsn) names → serves_word is_pin (named_at names.named word) ≡ false → LineServed w w (action.SetDirty word lsn) answer.NoHold names names
  no-stamp word lsn can pins =
      unused (action.SetDirty word lsn) can
      (λ bounds bindings stand right. on-none w.number _ (λ id. CallAnswered w.setup w.number (call.SetDirty id lsn)) w.seen (no-word bounds bindings need.Pin word is_pin stand right pins))
      (λ bounds bindings stand. stand)

  pub no-chain : (word at len : ℕ) → CanServe w (action.MdlBytes word at len) names → serves_word is_read_chain (named_at names.named word) ≡ false → LineServed w w (action.MdlBytes word at len) answer.NoHold names names
  no-chain word at len can chains =
      unused (action.MdlBytes word at len) can
      (λ bounds bindings stand right. on-none w.number _ (λ id. CallAnswered w.setup w.number (call.MdlBytes id at len)) w.seen (no-word bounds bindings need.ReadChain word is_read_chain stand right.uses chains))
      (λ bounds bindings stand. stand)

  pub no-store : (word at : ℕ) (bytes : List ℕ) → CanServe w (action.MdlStore word at bytes) names → serves_word is_write_chain (named_at names.named word) ≡ false → LineServed w w (action.MdlStore word at bytes) answer.NoHold names names
  no-store word at bytes can chains =
      unused (action.MdlStore word at bytes) can
      (λ bounds bindings stand right. on-none w.number _ (λ id. CallAnswered w.setup w.number (call.MdlStore id at bytes)) w.seen (no-word bounds bindings need.WriteChain word is_write_chain stand right.uses chains))
      (λ bounds bindings stand. stand)

-- ---- a line that makes a call on the hold that a word names

pub told-answered : (u : Setup) (me : ℕ) (it : Call) (ended : Result (Unit {0}) CcError) (old new : List Entry) → CallLeft u me it (outcome_of ended) old new → CallAnswered u me it (told_answer ended) old new
told-answered u me it (Ok done) old new left = left
told-answered u me it (Err e) old new left = left

pub told-full : (n : ℕ) (w : Standing) (ended : Result (Unit {0}) CcError) → n ≤ 3 → IsFull n w ended → IsFullTold w (told_answer ended)
told-full n w (Ok done) less full = tt
told-full n w (Err e) less full = full-told n w e less full

-- a call on a hold, in the form of a read through it
pub use-told : (old new : Standing) (of_kind : HoldKind → Bool) (held : Held) (it : Call) (ended : Result (Unit {0}) CcError) → most_asked it ≤ 3 → UseEnds old new of_kind held it ended → HeldReadTold old new of_kind held it (told_answer ended)
use-told old new of_kind held it ended less ends = record {
  answered = told-answered old.setup old.number it ended old.seen new.seen ends.call_ends.left;
  full = told-full (most_asked it) new ended less ends.call_ends.full;
  goes_on = went-on old new ends.call_ends.goes_on;
  good = ends.call_ends.good;
  holding = λ good. ends.holding;
}

-- the same by another name of the call and of the answer
pub use-answered : (old new : Standing) (of_kind : HoldKind → Bool) (held : Held) (it asked : Call) (ended : Result (Unit {0}) CcError) (told : Answer) → it ≡ asked → told ≡ told_answer ended → most_asked asked ≤ 3 → UseEnds old new of_kind held it ended → HeldReadTold old new of_kind held asked told
use-answered old new of_kind held it asked ended told same tells less ends =
    subst (λ t. HeldReadTold old new of_kind held asked t) (sym tells)
    (use-told old new of_kind held asked ended less (subst (λ i. UseEnds old new of_kind held i ended) same ends))

module _ (old new : Standing) (names : NamesState) (word : ℕ) (it : Named) (is : named_at names.named word ≡ Some it) (told : Answer) where
  used : (asked : Action) (made : Call) (n : Need) → CanServe old asked names → HeldReadTold old new (test_of it) (named_held it) made told → ((id : ℕ) → ((named_held it).id == id) ≡ false → changes_it id made ≡ false) → ((bounds : List Bound) → UsesRight bounds asked → UsesHold n bounds word) → ((bounds : List Bound) (bindings : List Binding) → NamesStandFor old bounds bindings names → UsesRight bounds asked → CallAnswered old.setup old.number made told old.seen new.seen → Served old.setup old.number bindings asked told old.seen new.seen) → ((bounds : List Bound) (bindings : List Binding) → NamesStandFor new bounds bindings names → NamesStandFor new (bound_after asked bounds) (bindings_after asked told bindings) names) → LineServed old new asked told names names
  used asked made n can ends spares uses left stands = record {
    served = λ bounds bindings stand right. (left bounds bindings stand right ends.answered, stands bounds bindings (after bounds bindings stand (uses bounds right)));
    full = inl ends.full;
    goes_on = ends.goes_on;
    good = ends.good can.good;
    room = refl;
    placed = refl;
  }
    where
      after : (bounds : List Bound) (bindings : List Binding) → NamesStandFor old bounds bindings names → UsesHold n bounds word → NamesStandFor new bounds bindings names
      after bounds bindings stand uses =
          stand-used old new ends.goes_on (ends.good can.good) bounds bindings names n word it made told stand uses is ends.answered spares
          (subst (λ k. HoldsAfter k new.seen (test_of it) (named_held it)) (ap (λ w. w.number) ends.goes_on.same) (ends.holding can.good))

  by-word : (bounds : List Bound) (bindings : List Binding) (n : Need) (of_kind : HoldKind → Bool) → NamesStandFor old bounds bindings names → UsesHold n bounds word → of_kind (kind_of it) ≡ true → hold_named bindings word of_kind ≡ Some (named_held it).id
  by-word bounds bindings n of_kind stand uses serves =
      named-hold old.streams old.number old.seen word uses.bound bindings it of_kind (has-word old names bounds bindings n word it stand uses is) serves

module _ (old new : Standing) (names : NamesState) (word : ℕ) (held : Held) (told : Answer) where
  pub map-read : (at len : ℕ) → named_at names.named word ≡ Some (named.Map held) → CanServe old (action.HeldRead word at len) names → HeldReadTold old new is_map held (call.MappedRead held.id at len) told → LineServed old new (action.HeldRead word at len) told names names
  map-read at len is can ends =
      used old new names word (named.Map held) is told (action.HeldRead word at len) (call.MappedRead held.id at len) need.MapOrPin can ends (λ id apart. refl) (λ bounds right. right.uses)
      (λ bounds bindings stand right left.
      subst (λ o. HeldReadBy old.setup old.number bindings word at len o told old.seen new.seen)
      (sym (by-word old new names word (named.Map held) is told bounds bindings need.MapOrPin is_map stand right.uses refl)) left)
      (λ bounds bindings stand. stand)

  pub pin-read : (at len : ℕ) → named_at names.named word ≡ Some (named.Pin held) → CanServe old (action.HeldRead word at len) names → HeldReadTold old new is_pin held (call.PinnedRead held.id at len) told → LineServed old new (action.HeldRead word at len) told names names
  pin-read at len is can ends =
      used old new names word (named.Pin held) is told (action.HeldRead word at len) (call.PinnedRead held.id at len) need.MapOrPin can ends (λ id apart. refl) (λ bounds right. right.uses)
      (λ bounds bindings stand right left.
      subst (λ o. HeldReadBy old.setup old.number bindings word at len o told old.seen new.seen)
      (sym (no-word old names bounds bindings need.MapOrPin word is_map stand right.uses (ap (serves_word is_map) is)))
      (on-hold old.number held.id _ (λ id. CallAnswered old.setup old.number (call.PinnedRead id at len)) told old.seen new.seen
      (by-word old new names word (named.Pin held) is told bounds bindings need.MapOrPin is_pin stand right.uses refl) left))
      (λ bounds bindings stand. stand)

  pub chain-read : (at len : ℕ) → named_at names.named word ≡ Some (named.ReadChain held) → CanServe old (action.MdlBytes word at len) names → HeldReadTold old new is_read_chain held (call.MdlBytes held.id at len) told → LineServed old new (action.MdlBytes word at len) told names names
  chain-read at len is can ends =
      used old new names word (named.ReadChain held) is told (action.MdlBytes word at len) (call.MdlBytes held.id at len) need.ReadChain can ends (λ id apart. refl) (λ bounds right. right.uses)
      (λ bounds bindings stand right left. on-hold old.number held.id _ (λ id. CallAnswered old.setup old.number (call.MdlBytes id at len)) told old.seen new.seen
      (by-word old new names word (named.ReadChain held) is told bounds bindings need.ReadChain is_read_chain stand right.uses refl) left)
      (λ bounds bindings stand. stand)

  pub pin-write : (at : ℕ) (bytes : List ℕ) → named_at names.named word ≡ Some (named.Pin held) → CanServe old (action.PinnedWrite word at bytes) names → HeldReadTold old new is_pin held (call.PinnedWrite held.id at bytes) told → LineServed old new (action.PinnedWrite word at bytes) told names names
  pin-write at bytes is can ends =
      used old new names word (named.Pin held) is told (action.PinnedWrite word at bytes) (call.PinnedWrite held.id at bytes) need.Pin can ends (λ id apart. apart) (λ bounds right. right.uses)
      (λ bounds bindings stand right left. on-hold old.number held.id _ (λ id. CallAnswered old.setup old.number (call.PinnedWrite id at bytes)) told old.seen new.seen
      (by-word old new names word (named.Pin held) is told bounds bindings need.Pin is_pin stand right.uses refl) left)
      (λ bounds bindings stand. stand)

  pub pin-stamp : (lsn : Option ℕ) → named_at names.named word ≡ Some (named.Pin held) → CanServe old (action.SetDirty word lsn) names → HeldReadTold old new is_pin held (call.SetDirty held.id lsn) told → LineServed old new (action.SetDirty word lsn) told names names
  pin-stamp lsn is can ends =
      used old new names word (named.Pin held) is told (action.SetDirty word lsn) (call.SetDirty held.id lsn) need.Pin can ends (λ id apart. apart) (λ bounds right. right)
      (λ bounds bindings stand right left. on-hold old.number held.id _ (λ id. CallAnswered old.setup old.number (call.SetDirty id lsn)) told old.seen new.seen
      (by-word old new names word (named.Pin held) is told bounds bindings need.Pin is_pin stand right refl) left)
      (λ bounds bindings stand. stand)

  pub chain-store : (at : ℕ) (bytes : List ℕ) → named_at names.named word ≡ Some (named.WriteChain held) → CanServe old (action.MdlStore word at bytes) names → HeldReadTold old new is_write_chain held (call.MdlStore held.id at bytes) told → LineServed old new (action.MdlStore word at bytes) told names names
  chain-store at bytes is can ends =
      used old new names word (named.WriteChain held) is told (action.MdlStore word at bytes) (call.MdlStore held.id at bytes) need.WriteChain can ends (λ id apart. refl) (λ bounds right. right.uses)
      (λ bounds bindings stand right left. on-hold old.number held.id _ (λ id. CallAnswered old.setup old.number (call.MdlStore id at bytes)) told old.seen new.seen
      (by-word old new names word (named.WriteChain held) is told bounds bindings need.WriteChain is_write_chain stand right.uses refl) left)
      (λ bounds bindings stand. stand)
