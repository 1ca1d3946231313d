-- Lines on holds: that they end as a line is to.
use Rattle.std.specs.Prelude.{◌≡◌, ℕ, ◌<◌, ◌≤◌, Bool, true, false, Result, Ok, Err, IfOk, List, [], ◌∷◌, ◌++◌, length, max, refl}
use Rattle.std.specs.declared.option.Option.TheVariants.{Some}
use Rattle.std.proofs.Common.{ap, arith, inl}
use Rattle.cc_entry.specs.Kinds.{is_map, is_pin, is_read_chain, is_write_chain}
use Rattle.cc_entry.specs.Place.{File}
use Rattle.cc_entry.specs.declared.call.Call.{Call}
use Rattle.cc_entry.specs.declared.call.Call.TheVariants as call
use Rattle.cc_entry.specs.declared.entry.Entry.{Entry}
use Rattle.cc_entry.specs.declared.error.CcError.{CcError}
use Rattle.cc_entry.specs.declared.hold.HoldKind.{HoldKind}
use Rattle.cc_entry.specs.declared.hold.HoldKind.TheVariants as kind
use Rattle.cc_script.specs.HoldWords.{UsesRight, bound_after, fresh}
use Rattle.cc_script.specs.declared.bound.Bound.{Bound}
use Rattle.cc_script.specs.declared.script.Action.{Action}
use Rattle.cc_script.specs.declared.script.Action.TheVariants as action
use Rattle.cc_model.specs.Acts.{file_of}
use Rattle.cc_model.specs.Cache.{makes_hold}
use Rattle.cc_model.specs.Good.{IsGood}
use Rattle.cc_model.specs.Holds.{holds_of}
use Rattle.cc_model.specs.Legal.{stream_history}
use Rattle.cc_model.specs.Setup.{Setup}
use Rattle.cc_effects.specs.Calls.{CallLeft}
use Rattle.cc_own.specs.Own.{changes_it}
use Rattle.cc_own.proofs.CallsKeep.{filed-stream}
use Rattle.cc_pieces.specs.Answered.{CallAnswered}
use Rattle.cc_pieces.specs.Bindings.{Binding, bound}
use Rattle.cc_pieces.specs.Served.{Served, bindings_after}
use Rattle.cc_step.specs.Step.{most_asked}
use Rattle.cc_turns.specs.Standing.{Standing}
use Rattle.cc_writes.specs.Ways.{IsFull}
use Rattle.cc_calls.specs.Ends.{MakingEnds, hold_outcome}
use Rattle.cc_calls.proofs.Paging.{full-within}
use Rattle.cc_lines.specs.Holds.{NamesState, bound_named, kind_of, made_told, test_of}
use Rattle.cc_lines.specs.Line.{CanServe, IsFullTold, LineServed, NamesStandFor}
use Rattle.cc_lines.specs.declared.holds.Named.{Named}
use Rattle.cc_lines.proofs.WordChanges.{held_answer, stand-made}
use Rattle.cc_lines.proofs.WordLines.{full-told}

pub made-answered : (u : Setup) (me : ℕ) (it : Call) (made : Result Named CcError) (old new : List Entry) → CallLeft u me it (hold_outcome (held_answer made)) old new → CallAnswered u me it (made_told made) old new
made-answered u me it (Ok one) old new left = left
made-answered u me it (Err e) old new left = left

pub made-full : (n : ℕ) (w : Standing) (made : Result Named CcError) → n ≤ 3 → IsFull n w (held_answer made) → IsFullTold w (made_told made)
made-full n w (Ok one) less full = tt
made-full n w (Err e) less full = full-told n w e less full

-- ---- a line that makes a hold of a range

module _ (old new : Standing) (names now : NamesState) (file : File) (at len : ℕ) (of_kind : HoldKind → Bool) (it : Call) (made : Result Named CcError) (known : file.stream < old.streams) (good : IsGood old.setup old.seen) (ends : MakingEnds old new of_kind file at len it (held_answer made)) (grew : now ≡ record names { named = names.named ++ bound_named made ∷ [] }) where
  -- the line's part that is the same for each such call
  making : (asked : Action) (k : HoldKind) → file_of it ≡ Some file → makes_hold it ≡ true → ((id : ℕ) → changes_it id it ≡ false) → max 2 (most_asked it) ≤ 3 → IfOk made (λ one. (kind_of one ≡ k) × (test_of one ≡ of_kind)) → ((bounds : List Bound) (bindings : List Binding) → UsesRight bounds asked → length names.named ≡ length bounds) → ((bounds : List Bound) (bindings : List Binding) → CallAnswered old.setup old.number it (made_told made) old.seen new.seen → NamesStandFor new (bounds ++ fresh k file at len ∷ []) (bound (length names.named) k (made_told made) bindings) now → Served old.setup old.number bindings asked (made_told made) old.seen new.seen × NamesStandFor new (bound_after asked bounds) (bindings_after asked (made_told made) bindings) now) → LineServed old new asked (made_told made) names now
  making asked k is_file makes keeps most kinds right as_line = record {
    served = λ bounds bindings stand used. as_line bounds bindings
        (made-answered old.setup old.number it made old.seen new.seen ends.pages.left)
        (stand-made old new ends.pages.goes_on (ends.pages.good good) bounds bindings names stand file at len k of_kind it (length names.named) (right bounds bindings used) known makes keeps
        (λ n left. (file.stream, filed-stream (holds_of (stream_history (left.earlier ++ old.seen) left.placed.stream)) old.number left.placed.stream it file is_file left.placed.filed))
        made now ends.pages.left ends.range ends.holding kinds (ap (λ n. n.named) grew));
    full = inl (made-full (max 2 (most_asked it)) new made most (full-within it old new (held_answer made) ends.full));
    goes_on = ends.pages.goes_on;
    good = ends.pages.good good;
    room = ap (λ n. n.room) grew;
    placed = ap (λ n. n.places) grew;
  }

pub map-ends : (old new : Standing) (names now : NamesState) (file : File) (at len : ℕ) (made : Result Named CcError) → CanServe old (action.Map file at len (length names.named)) names → MakingEnds old new is_map file at len (call.Map file at len) (held_answer made) → IfOk made (λ one. (kind_of one ≡ kind.Map) × (test_of one ≡ is_map)) → now ≡ record names { named = names.named ++ bound_named made ∷ [] } → LineServed old new (action.Map file at len (length names.named)) (made_told made) names now
map-ends old new names now file at len made can ends kinds grew =
    making old new names now file at len is_map (call.Map file at len) made can.servable can.good ends grew (action.Map file at len (length names.named)) kind.Map
    refl refl (λ id. refl) (omega arith) kinds (λ bounds bindings right. right) (λ bounds bindings left stand. (left, stand))

pub pin-ends : (old new : Standing) (names now : NamesState) (file : File) (at len : ℕ) (exclusive : Bool) (made : Result Named CcError) → CanServe old (action.PinRead file at len (length names.named) exclusive) names → MakingEnds old new is_pin file at len (call.PinRead file at len exclusive) (held_answer made) → IfOk made (λ one. (kind_of one ≡ kind.Pin) × (test_of one ≡ is_pin)) → now ≡ record names { named = names.named ++ bound_named made ∷ [] } → LineServed old new (action.PinRead file at len (length names.named) exclusive) (made_told made) names now
pin-ends old new names now file at len exclusive made can ends kinds grew =
    making old new names now file at len is_pin (call.PinRead file at len exclusive) made can.servable can.good ends grew (action.PinRead file at len (length names.named) exclusive) kind.Pin
    refl refl (λ id. refl) (omega arith) kinds (λ bounds bindings right. right) (λ bounds bindings left stand. (left, stand))

prepare-room : (file : File) (at len : ℕ) (zero exclusive : Bool) → max 2 (most_asked (call.PreparePin file at len zero exclusive)) ≤ 3
prepare-room file at len true exclusive = omega arith
prepare-room file at len false exclusive = omega arith

pub prepare-ends : (old new : Standing) (names now : NamesState) (file : File) (at len : ℕ) (zero exclusive : Bool) (made : Result Named CcError) → CanServe old (action.PreparePin file at len (length names.named) zero exclusive) names → MakingEnds old new is_pin file at len (call.PreparePin file at len zero exclusive) (held_answer made) → IfOk made (λ one. (kind_of one ≡ kind.Pin) × (test_of one ≡ is_pin)) → now ≡ record names { named = names.named ++ bound_named made ∷ [] } → LineServed old new (action.PreparePin file at len (length names.named) zero exclusive) (made_told made) names now
prepare-ends old new names now file at len zero exclusive made can ends kinds grew =
    making old new names now file at len is_pin (call.PreparePin file at len zero exclusive) made can.servable can.good ends grew (action.PreparePin file at len (length names.named) zero exclusive) kind.Pin
    refl refl (λ id. refl) (prepare-room file at len zero exclusive) kinds (λ bounds bindings right. right) (λ bounds bindings left stand. (left, stand))

pub chain-ends : (old new : Standing) (names now : NamesState) (file : File) (at len : ℕ) (made : Result Named CcError) → CanServe old (action.MdlRead file at len (length names.named)) names → MakingEnds old new is_read_chain file at len (call.MdlRead file at len) (held_answer made) → IfOk made (λ one. (kind_of one ≡ kind.ReadChain) × (test_of one ≡ is_read_chain)) → now ≡ record names { named = names.named ++ bound_named made ∷ [] } → LineServed old new (action.MdlRead file at len (length names.named)) (made_told made) names now
chain-ends old new names now file at len made can ends kinds grew =
    making old new names now file at len is_read_chain (call.MdlRead file at len) made can.servable can.good ends grew (action.MdlRead file at len (length names.named)) kind.ReadChain
    refl refl (λ id. refl) (omega arith) kinds (λ bounds bindings right. right) (λ bounds bindings left stand. (left, stand))

pub write_chain-ends : (old new : Standing) (names now : NamesState) (file : File) (at len : ℕ) (made : Result Named CcError) → CanServe old (action.MdlWrite file at len (length names.named)) names → MakingEnds old new is_write_chain file at len (call.MdlWrite file at len) (held_answer made) → IfOk made (λ one. (kind_of one ≡ kind.WriteChain) × (test_of one ≡ is_write_chain)) → now ≡ record names { named = names.named ++ bound_named made ∷ [] } → LineServed old new (action.MdlWrite file at len (length names.named)) (made_told made) names now
write_chain-ends old new names now file at len made can ends kinds grew =
    making old new names now file at len is_write_chain (call.MdlWrite file at len) made can.servable can.good ends grew (action.MdlWrite file at len (length names.named)) kind.WriteChain
    refl refl (λ id. refl) (omega arith) kinds (λ bounds bindings right. right) (λ bounds bindings left stand. (left, stand))
