-- The question for the sizes and the log of stream 0, as its only call.
use Rattle.std.specs.Prelude.{ℕ, List, ◌∷◌, refl}
use Rattle.std.specs.declared.option.Option.TheVariants.{Some}
use Rattle.cc_entry.specs.declared.place.FileState.{FileState}
use Rattle.cc_entry.specs.declared.call.Call.TheVariants as call
use Rattle.cc_entry.specs.declared.query.Query.TheVariants as query
use Rattle.cc_entry.specs.declared.reply.Reply.TheVariants as reply
use Rattle.cc_entry.specs.declared.query.Value.TheVariants as value
use Rattle.cc_entry.specs.declared.entry.Entry.{Entry}
use Rattle.cc_pieces.specs.Shim.{StateLeft}
use Rattle.cc_effects.proofs.Starts.{begins, ends_done}
use Rattle.cc_worked.specs.Values.{setup, a, answers}

pub state-told : (nth : ℕ) (state : FileState) (old : List Entry) → StateLeft setup 1 a state old (answers 1 nth (call.Query (query.State a)) (reply.Value (value.State state)) ∷ old)
state-told nth state old =
    ends_done 1 nth (Some 0) (call.Query (query.State a)) (reply.Value (value.State state)) old old (begins 1 (call.Query (query.State a)) old) refl (λ during. tt)
