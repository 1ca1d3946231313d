-- What the words of a caller name, as the run keeps it, and when that stands for what the caller's lines were answered.
use Rattle.std.specs.Prelude.{◌≡◌, ◌≢◌, ℕ, ◌<◌, ◌≤◌, ◌==◌, Bool, true, false, Result, Ok, Err, List, length, slice_get}
use Rattle.std.specs.declared.option.Option.{Option}
use Rattle.std.specs.declared.option.Option.TheVariants.{Some, None}
use Rattle.std.specs.List.{find}
use Rattle.cc_entry.specs.declared.answer.Answer.{Answer}
use Rattle.cc_entry.specs.declared.answer.Answer.TheVariants as answer
use Rattle.cc_entry.specs.declared.error.CcError.{CcError}
use Rattle.cc_entry.specs.declared.reply.Reply.TheVariants as reply
use Rattle.cc_entry.specs.Kinds.{is_map, is_pin, is_repin, is_read_chain, is_write_chain}
use Rattle.cc_entry.specs.declared.entry.Entry.{Entry}
use Rattle.cc_entry.specs.declared.hold.HoldKind.{HoldKind}
use Rattle.cc_entry.specs.declared.hold.HoldKind.TheVariants as kind
use Rattle.cc_script.specs.HoldWords.{binds}
use Rattle.cc_script.specs.declared.bound.Bound.{Bound}
use Rattle.cc_script.specs.declared.script.Action.{Action}
use Rattle.cc_pieces.specs.Bindings.{Binding}
use Rattle.cc_calls.specs.Held.{HoldsAfter}
use Rattle.cc_calls.specs.declared.held.Held.{Held}
use Rattle.cc_lines.specs.declared.holds.Named.{Named}
use Rattle.cc_lines.specs.declared.holds.Named.TheVariants as named
use Rattle.cc_lines.specs.declared.queues.Places.{Places}

-- what the words of a caller name, in the order in which its lines bind them, and for how many words there is room; and the
-- caller's places at the queues of a run
pub record NamesState : Type 0 where
  pub named : List (Option Named)
  pub room : ℕ
  pub places : Places

-- what a word names, where it names anything
abbrev pub or_nothing : Option (Option Named) → Option Named
or_nothing None = None
or_nothing (Some it) = it

abbrev pub named_at : List (Option Named) → ℕ → Option Named
named_at names word = or_nothing (slice_get names word)

-- the kind of a hold that a word names, what tells it, and what is held
abbrev pub kind_of : Named → HoldKind
kind_of (named.Map held) = kind.Map
kind_of (named.Pin held) = kind.Pin
kind_of (named.Repin held) = kind.Repin
kind_of (named.ReadChain held) = kind.ReadChain
kind_of (named.WriteChain held) = kind.WriteChain

abbrev pub test_of : Named → HoldKind → Bool
test_of (named.Map held) its_kind = is_map its_kind
test_of (named.Pin held) its_kind = is_pin its_kind
test_of (named.Repin held) its_kind = is_repin its_kind
test_of (named.ReadChain held) its_kind = is_read_chain its_kind
test_of (named.WriteChain held) its_kind = is_write_chain its_kind

abbrev pub named_held : Named → Held
named_held (named.Map held) = held
named_held (named.Pin held) = held
named_held (named.Repin held) = held
named_held (named.ReadChain held) = held
named_held (named.WriteChain held) = held

-- the binding of a word
abbrev pub binding_of : List Binding → ℕ → Option Binding
binding_of bindings word = find (λ b. b.word == word) bindings

-- The hold that a word names is the one that its binding names; the caller has it, on the bytes that the line said that
-- bound the word, of one of so many streams.
pub record HasNamed (streams me : ℕ) (past : List Entry) (word : ℕ) (bound : Bound) (bindings : List Binding)
    (it : Named) : Type 0 where
  pub binding : Binding
  pub found : binding_of bindings word ≡ Some binding
  pub id_is : binding.id ≡ (named_held it).id
  pub kind_is : binding.kind ≡ kind_of it
  pub holds : HoldsAfter me past (test_of it) (named_held it)
  pub known : (named_held it).file.stream < streams
  pub file_is : (named_held it).file ≡ bound.file
  pub at_is : (named_held it).at ≡ bound.at
  pub len_is : (named_held it).len ≡ bound.len

-- What a word names whose hold no line ended: that hold, or nothing where it was not made.
abbrev pub HoldIsNamed : ℕ → ℕ → List Entry → ℕ → Bound → List Binding → Option Named → Type 0
HoldIsNamed streams me past word bound bindings None = binding_of bindings word ≡ None
HoldIsNamed streams me past word bound bindings (Some it) = HasNamed streams me past word bound bindings it

-- What is kept of a caller's words stands for a past: there is one for each word that the caller's lines bound, it names
-- the hold that the word's binding names, or nothing where there is none or the hold was ended, and no two name one hold.
pub record NamesStand (streams me : ℕ) (past : List Entry) (bounds : List Bound) (bindings : List Binding)
    (names : List (Option Named)) : Type 0 where
  pub counted : length names ≡ length bounds
  pub unbound : (word : ℕ) → length bounds ≤ word → binding_of bindings word ≡ None
  pub each : (word : ℕ) (bound : Bound) → slice_get bounds word ≡ Some bound → bound.ended ≡ false →
      HoldIsNamed streams me past word bound bindings (named_at names word)
  pub ended : (word : ℕ) (bound : Bound) → slice_get bounds word ≡ Some bound → bound.ended ≡ true →
      named_at names word ≡ None
  pub apart : (word other : ℕ) (it another : Named) → word ≢ other → named_at names word ≡ Some it →
      named_at names other ≡ Some another → (named_held it).id ≢ (named_held another).id

-- what the next word names once a call was to make it, and the answer of the call's line
abbrev pub bound_named : Result Named CcError → Option Named
bound_named (Ok it) = Some it
bound_named (Err e) = None

abbrev pub made_told : Result Named CcError → Answer
made_told (Ok it) = answer.Given (reply.Hold (named_held it).id)
made_told (Err e) = answer.Refused e

-- There is room for the word that an action binds, where it binds one.
abbrev pub HasRoomForWord : Action → NamesState → Type 0
HasRoomForWord asked names = binds asked ≡ true → length names.named < names.room
