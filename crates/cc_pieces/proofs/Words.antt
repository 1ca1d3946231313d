-- A word names the hold that its line made.
use Rattle.std.specs.Prelude.{◌≡◌, ℕ, List, [], refl}
use Rattle.std.specs.declared.option.Option.TheVariants.{Some, None}
use Rattle.std.proofs.Common.{eq-eqb}
use Rattle.cc_entry.specs.Kinds.{is_map, is_pin}
use Rattle.cc_entry.specs.declared.hold.HoldKind.TheVariants as kind
use Rattle.cc_entry.specs.declared.reply.Reply.TheVariants as reply
use Rattle.cc_entry.specs.declared.answer.Answer.{Answer}
use Rattle.cc_entry.specs.declared.answer.Answer.TheVariants as answer
use Rattle.cc_entry.specs.declared.entry.Entry.{Entry}
use Rattle.cc_model.specs.Setup.{Setup}
use Rattle.cc_effects.specs.Moments.{IsIdle}
use Rattle.cc_pieces.specs.Bindings.{bound, bindings_pinned, hold_named}
use Rattle.cc_pieces.specs.HoldLines.{PinnedWriteLine}

pub named : (word id : ℕ) → hold_named (bound word kind.Map (answer.Given (reply.Hold id)) []) word is_map ≡ Some id
named word id = rw (eq-eqb word word refl) refl

pub of-its-kind : (word id : ℕ) → hold_named (bound word kind.Map (answer.Given (reply.Hold id)) []) word is_pin ≡ None
of-its-kind word id = rw (eq-eqb word word refl) refl

pub named-pin : (word id : ℕ) → hold_named (bindings_pinned word (answer.Given (reply.Hold id)) (bound word kind.Map (answer.Given (reply.Hold id)) [])) word is_pin ≡ Some id
named-pin word id = rw (eq-eqb word word refl) (rw (eq-eqb word word refl) refl)

pub no-pin-write : (u : Setup) (me word : ℕ) (bytes : List ℕ) (id at : ℕ) (told : Answer) (old new : List Entry) → PinnedWriteLine u me (bound word kind.Map (answer.Given (reply.Hold id)) []) word at bytes told old new → (told ≡ answer.NoHold) × IsIdle me old new
no-pin-write u me word bytes id at told old new line = rw (eq-eqb word word refl) at line
