-- Lines on holds: the word names the hold, by the caller's bindings, and the line makes its call on it.
use Rattle.std.specs.Prelude.{ℕ, ◌^◌, Bool, ◌||◌, List}
use Rattle.std.specs.declared.option.Option.{Option}
use Rattle.std.specs.declared.option.Option.TheVariants.{Some, None}
use Rattle.cc_entry.specs.Kinds.{is_map, is_pin, is_repin, is_read_chain, is_write_chain}
use Rattle.cc_entry.specs.declared.hold.HoldKind.{HoldKind}
use Rattle.cc_entry.specs.declared.call.Call.{Call}
use Rattle.cc_entry.specs.declared.call.Call.TheVariants as call
use Rattle.cc_entry.specs.declared.reply.Outcome.{Outcome}
use Rattle.cc_entry.specs.declared.reply.Outcome.TheVariants as outcome
use Rattle.cc_entry.specs.declared.answer.Answer.{Answer}
use Rattle.cc_entry.specs.declared.answer.Answer.TheVariants as answer
use Rattle.cc_entry.specs.declared.entry.Entry.{Entry}
use Rattle.cc_model.specs.Setup.{Setup}
use Rattle.cc_effects.specs.Moments.{Between}
use Rattle.cc_effects.specs.Begins.{BeginsAscending}
use Rattle.cc_effects.specs.Repins.{UnpinLeft}
use Rattle.cc_pieces.specs.Bindings.{Binding, hold_named, OnHold}
use Rattle.cc_pieces.specs.Answered.{CallAnswered}

-- one call on the hold
abbrev pub HoldLine : Setup → ℕ → List Binding → ℕ → (HoldKind → Bool) → (ℕ → Call) → Answer → Between
HoldLine u me bindings word of_kind call_on told old new =
    OnHold me (hold_named bindings word of_kind) (λ id. CallAnswered u me (call_on id)) told old new

-- a pin of a map
abbrev pub PinMappedLine : Setup → ℕ → List Binding → ℕ → Bool → Answer → Between
PinMappedLine u me bindings word exclusive told old new =
    HoldLine u me bindings word is_map (λ id. call.PinMapped id exclusive) told old new

-- a read of mapped bytes, or else of pinned ones
abbrev pub HeldReadBy : Setup → ℕ → List Binding → ℕ → ℕ → ℕ → Option ℕ → Answer → Between
HeldReadBy u me bindings word at len (Some id) told old new = CallAnswered u me (call.MappedRead id at len) told old new
HeldReadBy u me bindings word at len None told old new =
    HoldLine u me bindings word is_pin (λ id. call.PinnedRead id at len) told old new

abbrev pub HeldReadLine : Setup → ℕ → List Binding → ℕ → ℕ → ℕ → Answer → Between
HeldReadLine u me bindings word at len told old new =
    HeldReadBy u me bindings word at len (hold_named bindings word is_map) told old new

abbrev pub PinnedWriteLine : Setup → ℕ → List Binding → ℕ → ℕ → List ℕ → Answer → Between
PinnedWriteLine u me bindings word at bytes told old new =
    HoldLine u me bindings word is_pin (λ id. call.PinnedWrite id at bytes) told old new

-- a set-dirty
abbrev pub StampLine : Setup → ℕ → List Binding → ℕ → Option ℕ → Answer → Between
StampLine u me bindings word lsn told old new = HoldLine u me bindings word is_pin (λ id. call.SetDirty id lsn) told old new

-- the end of a map or a pin
abbrev pub UnpinLine : Setup → ℕ → List Binding → ℕ → Answer → Between
UnpinLine u me bindings word told old new =
    HoldLine u me bindings word (λ its_kind. is_map its_kind || is_pin its_kind) (λ id. call.EndHold id) told old new

-- a repin of a pin
abbrev pub RepinLine : Setup → ℕ → List Binding → ℕ → Answer → Between
RepinLine u me bindings word told old new = HoldLine u me bindings word is_pin (λ id. call.Repin id) told old new

-- what the end of a repin left that is answered so: the pages that it began to write ascend
pub record UnpinEnded (u : Setup) (me : ℕ) (through : Bool) (id : ℕ) (answered : Outcome) (old new : List Entry) : Type 0 where
  pub left : UnpinLeft u me id through answered old new
  pub ascending : BeginsAscending me 0 (2 ^ 51) old new

-- the end of a repin
abbrev pub UnpinAnswered : Setup → ℕ → Bool → ℕ → Answer → Between
UnpinAnswered u me through id (answer.Given r) old new = UnpinEnded u me through id (outcome.Done r) old new
UnpinAnswered u me through id (answer.Refused e) old new = UnpinEnded u me through id (outcome.Failed e) old new
UnpinAnswered u me through id other old new = ⊥

abbrev pub UnrepinLine : Setup → ℕ → List Binding → ℕ → Bool → Answer → Between
UnrepinLine u me bindings word through told old new =
    OnHold me (hold_named bindings word is_repin) (UnpinAnswered u me through) told old new

-- a read of a read chain's bytes, and a store into a write chain
abbrev pub ChainReadLine : Setup → ℕ → List Binding → ℕ → ℕ → ℕ → Answer → Between
ChainReadLine u me bindings word at len told old new =
    HoldLine u me bindings word is_read_chain (λ id. call.MdlBytes id at len) told old new

abbrev pub ChainStoreLine : Setup → ℕ → List Binding → ℕ → ℕ → List ℕ → Answer → Between
ChainStoreLine u me bindings word at bytes told old new =
    HoldLine u me bindings word is_write_chain (λ id. call.MdlStore id at bytes) told old new

-- the end of a chain, and the abort of a write chain
abbrev pub ChainDoneLine : Setup → ℕ → List Binding → ℕ → Answer → Between
ChainDoneLine u me bindings word told old new =
    HoldLine u me bindings word (λ its_kind. is_read_chain its_kind || is_write_chain its_kind) (λ id. call.EndHold id) told old new

abbrev pub ChainAbortLine : Setup → ℕ → List Binding → ℕ → Answer → Between
ChainAbortLine u me bindings word told old new =
    HoldLine u me bindings word is_write_chain (λ id. call.EndHold id) told old new
