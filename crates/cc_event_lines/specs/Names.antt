-- What the words of the callers name, as the run keeps it.
use Rattle.std.specs.Prelude.{◌≡◌, ℕ, suc, ◌+◌, ◌≤◌, ◌==◌, nat_eq, ◌&&◌, cond, Bool, List, [], ◌∷◌, length, map, if◌then◌else◌}
use Rattle.std.specs.declared.option.Option.{Option}
use Rattle.std.specs.declared.option.Option.TheVariants.{Some, None}
use Rattle.std.specs.List.{find}
use Rattle.std.specs.Map.{lookup}
use Rattle.cc_entry.specs.declared.answer.Answer.{Answer}
use Rattle.cc_entry.specs.declared.answer.Answer.TheVariants as answer
use Rattle.cc_entry.specs.declared.hold.HoldKind.{HoldKind}
use Rattle.cc_entry.specs.declared.hold.HoldKind.TheVariants as kind
use Rattle.cc_entry.specs.declared.reply.Reply.TheVariants as reply
use Rattle.cc_script.specs.HoldWords.{binds}
use Rattle.cc_script.specs.declared.script.Action.{Action}
use Rattle.cc_script.specs.declared.script.Action.TheVariants as action
use Rattle.cc_script.specs.declared.script.ActionLine.{ActionLine}
use Rattle.cc_pieces.specs.Bindings.{Binding}
use Rattle.cc_event_lines.specs.declared.names.NamedHold.{NamedHold}
use Rattle.cc_event_lines.specs.declared.names.NameChange.{NameChange}
use Rattle.cc_event_lines.specs.declared.names.NameChange.TheVariants as change

-- the holds that words name, the newest first, and for how many there is room
pub record NamedHoldsState : Type 0 where
  pub named : List NamedHold
  pub room : ℕ

-- the bindings of one caller
abbrev pub bindings_in : List NamedHold → ℕ → List Binding
bindings_in [] me = []
bindings_in (n ∷ named) me =
    if n.caller == me then record { word = n.word; id = n.id; kind = n.kind } ∷ bindings_in named me
    else bindings_in named me

-- whether a word of a caller is the one that names a hold
abbrev pub is_named_by : ℕ → ℕ → NamedHold → Bool
is_named_by me word n = n.caller == me && n.word == word

-- the same hold as a pin
abbrev pub pinned : NamedHold → NamedHold
pinned n = record n { kind = kind.Pin }

-- what the word names is a pin
abbrev pub pinned_by : ℕ → ℕ → NamedHold → NamedHold
pinned_by me word n = if is_named_by me word n then pinned n else n

-- the holds that words name behind what was done to the names, the newest first
abbrev pub named_of : List NameChange → List NamedHold
named_of [] = []
named_of (change.Names n ∷ past) = n ∷ named_of past
named_of (change.Pins me word ∷ past) = map (pinned_by me word) (named_of past)

-- holds by the caller and the word that name them
abbrev pub HoldsByWord : Type 0
HoldsByWord = List ((ℕ × ℕ) × NamedHold)

-- the hold that a word of a caller names among these
abbrev pub newest_in : HoldsByWord → ℕ → ℕ → Option NamedHold
newest_in newest me word = lookup (λ key. nat_eq me key.0 && nat_eq word key.1) newest

-- the same holds but for that which a word of a caller names
abbrev pub Renames : HoldsByWord → HoldsByWord → ℕ → ℕ → Option NamedHold → Type 0
Renames old new me word named =
    (c w : ℕ) → newest_in new c w ≡ cond (nat_eq me c && nat_eq word w) named (newest_in old c w)

-- These are the newest holds that words name, and there is room for those that are still to be named.
pub record AreNewest (named : List NamedHold) (room : ℕ) (newest : HoldsByWord) (spare : ℕ) : Type 0 where
  pub found : (me word : ℕ) → newest_in newest me word ≡ find (is_named_by me word) named
  pub enough : room ≤ length named + spare

-- the word that an action binds, and the kind of hold that it makes
abbrev pub word_made : Action → Option (ℕ × HoldKind)
word_made (action.Map file at len word) = Some (word, kind.Map)
word_made (action.PinRead file at len word exclusive) = Some (word, kind.Pin)
word_made (action.PreparePin file at len word zero exclusive) = Some (word, kind.Pin)
word_made (action.Repin word made) = Some (made, kind.Repin)
word_made (action.MdlRead file at len word) = Some (word, kind.ReadChain)
word_made (action.MdlWrite file at len word) = Some (word, kind.WriteChain)
word_made other = None

-- how many words lines bind
abbrev pub words_in : List ActionLine → ℕ
words_in [] = 0
words_in (line ∷ lines) = if binds line.action then suc (words_in lines) else words_in lines

-- the word whose map an action pins
abbrev pub word_pinned : Action → Option ℕ
word_pinned (action.PinMapped word exclusive) = Some word
word_pinned other = None

-- the id of a hold that is found, where it is of a kind that serves
abbrev pub id_of_named : (HoldKind → Bool) → Option NamedHold → Option ℕ
id_of_named of_kind None = None
id_of_named of_kind (Some n) = if of_kind n.kind then Some n.id else None

-- the hold that a line was answered
abbrev pub hold_told : Answer → Option ℕ
hold_told (answer.Given (reply.Hold id)) = Some id
hold_told other = None

-- the holds that words name behind a line of a caller that was answered a hold, by the word that it binds, and else by
-- that whose map it pins
abbrev pub with_made : ℕ → Option (ℕ × HoldKind) → Option ℕ → ℕ → List NamedHold → List NamedHold
with_made me (Some made) pins id named = record { caller = me; word = made.0; id = id; kind = made.1 } ∷ named
with_made me None (Some word) id named = map (pinned_by me word) named
with_made me None None id named = named

abbrev pub named_behind : ActionLine → Option ℕ → List NamedHold → List NamedHold
named_behind line None named = named
named_behind line (Some id) named = with_made line.caller (word_made line.action) (word_pinned line.action) id named
