-- What the definitions of the grammar come to, in words of their own.
use Rattle.std.specs.Prelude.{ℕ, ◌≡◌, ◌+◌, ◌==◌, ◌<◌, ◌^◌, ◌↔◌, Bool, not, IsTrue, Option, Some, None, Ok, List, [], ◌∷◌, ◌++◌, ◌⊎◌, true, ◌≤◌, ◌/◌, ◌%◌, length, map, replicate, nat_lt, codes, if◌then◌else◌}
use Rattle.std.specs.List.{join_with_byte, list_all, flat_map, AllPairs}
use Rattle.std.specs.Fmt.{decimal, digit_glyph}
use Rattle.cc_entry.specs.Place.{File}
use Rattle.cc_script.specs.declared.verb.Verb.{Verb}
use Rattle.cc_script.specs.declared.script.StreamLine.{StreamLine}
use Rattle.cc_script.specs.declared.script.ReadPath.{ReadPath}
use Rattle.cc_script.specs.declared.script.Action.{Action}
use Rattle.cc_script.specs.declared.script.Action.TheVariants as action
use Rattle.cc_script.specs.declared.script.ActionLine.{ActionLine}
use Rattle.cc_script.specs.Text.{lines}
use Rattle.cc_script.specs.Words.{parsed_number, is_name, parsed_caller, parsed_bytes}
use Rattle.cc_script.specs.Actions.{stream_named, parsed_file, parsed_copy_read}
use Rattle.cc_script.specs.Verbs.{verb_text, verb_of}
use Rattle.cc_script.specs.ShimActions.{path_text, parsed_path}
use Rattle.cc_script.specs.declared.script.Mode.{Mode}
use Rattle.cc_script.specs.declared.script.Script.{Script}
use Rattle.cc_script.specs.Grammar.{parsed_stream, parsed_setting, script_of}
use Rattle.cc_script.specs.declared.bound.Bound.{Bound}
use Rattle.cc_script.specs.HoldWords.{bound_so_far, AreUsedRight, words_bound}
use Rattle.cc_script.specs.Within.{PhasesAscend, ScriptIsWithin}
use Rattle.cc_script.specs.Modes.{IsOfMode, IsStreamOf}

-- a number's word is exactly its decimal text
abbrev pub NumbersAreDecimal : Type 0
NumbersAreDecimal = (word : List ℕ) (n : ℕ) → (parsed_number word ≡ Some n) ↔ ((n < 2 ^ 64) × (word ≡ decimal n))

-- no two verbs have one text, and the reader finds each
abbrev pub VerbsDiffer : Type 0
VerbsDiffer = (v w : Verb) → verb_text v ≡ verb_text w → v ≡ w

abbrev pub VerbsAreFound : Type 0
VerbsAreFound = (v : Verb) → verb_of (verb_text v) ≡ Some v

-- no verb is a caller word
abbrev pub VerbsAreNoCallers : Type 0
VerbsAreNoCallers = (v : Verb) → parsed_caller (verb_text v) ≡ None

-- no two paths of a read have one word, and the reader finds each
abbrev pub PathsDiffer : Type 0
PathsDiffer = (p q : ReadPath) → path_text p ≡ path_text q → p ≡ q

abbrev pub PathsAreFound : Type 0
PathsAreFound = (p : ReadPath) → parsed_path (path_text p) ≡ Some p

-- the lines, joined by line feeds, are the bytes, but for a line feed at the end; no line has one inside
abbrev pub LinesJoin : Type 0
LinesJoin = (bytes : List ℕ) → (join_with_byte 10 (lines bytes) ≡ bytes) ⊎ (join_with_byte 10 (lines bytes) ++ 10 ∷ [] ≡ bytes)

abbrev pub LinesAreWhole : Type 0
LinesAreWhole = (bytes : List ℕ) → IsTrue (list_all (λ line. list_all (λ b. not (b == 10)) line) (lines bytes))

-- an item of the word that spells bytes: some bytes, or one byte a number of times
pub data Item : Type 0 where
  Pairs : (bytes : List ℕ) → Item
  Times : (byte count : ℕ) → Item

abbrev pub pair_text : ℕ → List ℕ
pair_text byte = digit_glyph true (byte / 16) ∷ digit_glyph true (byte % 16) ∷ []

-- how an item is written: pairs of upper-case digits, or a pair, `x` and the number
abbrev pub item_text : Item → List ℕ
item_text (Pairs bytes) = flat_map pair_text bytes
item_text (Times byte count) = pair_text byte ++ (120 ∷ decimal count)

abbrev pub item_bytes : Item → List ℕ
item_bytes (Pairs bytes) = bytes
item_bytes (Times byte count) = replicate count byte

abbrev pub items_bytes : List Item → List ℕ
items_bytes [] = []
items_bytes (item ∷ more) = item_bytes item ++ items_bytes more

-- an item has a byte at least
abbrev pub IsItem : Item → Type 0
IsItem (Pairs bytes) = (0 < length bytes) × (list_all (λ b. nat_lt b 256) bytes ≡ true)
IsItem (Times byte count) = (byte < 256) × (0 < count)

abbrev pub AreItems : List Item → Type 0
AreItems [] = Unit {0}
AreItems (item ∷ more) = IsItem item × AreItems more

-- items that are written as this word, parted by commas, and what they give, at most 2097152 bytes
pub record IsSpelling (items : List Item) (word bytes : List ℕ) : Type 0 where
  pub some : 0 < length items
  pub are_items : AreItems items
  pub text : join_with_byte 44 (map item_text items) ≡ word
  pub gives : items_bytes items ≡ bytes
  pub most : length bytes ≤ 2097152

-- a word spells bytes: `-` spells none, and items spell theirs in their order
abbrev pub SpellsBytes : List ℕ → List ℕ → Type 0
SpellsBytes word bytes = ((word ≡ codes "-") × (bytes ≡ [])) ⊎ ((items : List Item) × IsSpelling items word bytes)

-- the words that are read as bytes are those that spell them
abbrev pub WordsSpell : Type 0
WordsSpell = (word bytes : List ℕ) → (parsed_bytes word ≡ Some bytes) ↔ SpellsBytes word bytes

-- a word where a flag is set, and none where it is not
abbrev pub flag_words : List ℕ → Bool → List (List ℕ)
flag_words word is_set = if is_set then word ∷ [] else []

-- the words of a stream's quota: none, or its number behind `quota`
abbrev pub SpellsQuota : ℕ → List (List ℕ) → Type 0
SpellsQuota quota ws =
    ((quota ≡ 16) × (ws ≡ [])) ⊎ ((8 ≤ quota) × (quota ≤ 64) × (ws ≡ codes "quota" ∷ decimal quota ∷ []))

-- the words of a stream's log: none, or its number behind `log`
abbrev pub SpellsLog : Option ℕ → List (List ℕ) → Type 0
SpellsLog None ws = ws ≡ []
SpellsLog (Some handle) ws = (handle ≤ 3) × (ws ≡ codes "log" ∷ decimal handle ∷ [])

-- the words behind `stream` for this stream, on line n; in steps it has no word `stored`
pub record IsStreamSpelling (m : Mode) (n : ℕ) (ws : List (List ℕ)) (stream : StreamLine) : Type 0 where
  pub quota_words : List (List ℕ)
  pub log_words : List (List ℕ)
  pub words :
      ws ≡ stream.name ∷ decimal stream.size ∷ decimal stream.valid
      ∷ (quota_words
      ++ (flag_words (codes "temporary") stream.temporary ++ (log_words ++ flag_words (codes "stored") stream.stored)))
  pub quota : SpellsQuota stream.quota quota_words
  pub name : is_name stream.name ≡ true
  pub size : stream.size < 2 ^ 64
  pub valid : stream.valid < 2 ^ 64
  pub line : stream.line ≡ n
  pub log : SpellsLog stream.log log_words
  pub of_mode : IsStreamOf m stream

-- the words that are read as a stream are those that spell it
abbrev pub StreamsSpell : Type 0
StreamsSpell =
    (m : Mode) (n : ℕ) (ws : List (List ℕ)) (stream : StreamLine) →
    (parsed_stream m n ws ≡ Some stream) ↔ IsStreamSpelling m n ws stream

-- no byte of a name is a colon
abbrev pub has_no_colon : List ℕ → Bool
has_no_colon name = list_all (λ b. not (b == 58)) name

-- a word is the name of a stream for its object 0, or the name, `:` and the number of one of 16 objects
abbrev pub SpellsObject : List ℕ → ℕ → List ℕ → Type 0
SpellsObject name object word = ((object ≡ 0) × (word ≡ name)) ⊎ ((object < 16) × (word ≡ name ++ 58 ∷ decimal object))

-- a word names this file object of a stream
pub record IsFileSpelling (streams : List StreamLine) (word : List ℕ) (file : File) : Type 0 where
  pub name : List ℕ
  pub plain : has_no_colon name ≡ true
  pub named : stream_named streams name ≡ Some file.stream
  pub text : SpellsObject name file.object word

-- the words that are read as a file are those that name one
abbrev pub FilesSpell : Type 0
FilesSpell =
    (streams : List StreamLine) (word : List ℕ) (file : File) → (parsed_file streams word ≡ Some file) ↔ IsFileSpelling streams word file

-- the words behind `cread` for this read
pub record IsReadSpelling (streams : List StreamLine) (ws : List (List ℕ)) (asked : Action) : Type 0 where
  pub name : List ℕ
  pub file : File
  pub at : ℕ
  pub len : ℕ
  pub wait : Bool
  pub words : ws ≡ name ∷ decimal at ∷ decimal len ∷ flag_words (codes "nowait") (not wait)
  pub named : parsed_file streams name ≡ Some file
  pub at_fits : at < 2 ^ 64
  pub len_fits : len ≤ 2097152
  pub asks : asked ≡ action.CopyRead file at len wait

abbrev pub ReadsSpell : Type 0
ReadsSpell =
    (streams : List StreamLine) (ws : List (List ℕ)) (asked : Action) →
    (parsed_copy_read streams ws ≡ Some asked) ↔ IsReadSpelling streams ws asked

-- the word behind the verb of a line that sets a number
abbrev pub SpellsSetting : ℕ → ℕ → List (List ℕ) → ℕ → Type 0
SpellsSetting low high ws n = (low ≤ n) × (n ≤ high) × (ws ≡ decimal n ∷ [])

abbrev pub SettingsSpell : Type 0
SettingsSpell =
    (low high : ℕ) (ws : List (List ℕ)) (n : ℕ) → high < 2 ^ 64 → (parsed_setting low high ws ≡ Some n) ↔ SpellsSetting low high ws n

-- every script of the grammar keeps within what its run may rely on
abbrev pub ScriptsAreWithin : Type 0
ScriptsAreWithin = (mode : Mode) (bytes : List ℕ) (script : Script) → script_of mode bytes ≡ Ok script → ScriptIsWithin script

-- and has the actions of its mode alone
abbrev pub ScriptsAreOfMode : Type 0
ScriptsAreOfMode = (m : Mode) (bytes : List ℕ) (script : Script) → script_of m bytes ≡ Ok script → IsOfMode m script

-- lines whose phases ascend: none is of an earlier phase than one before it
abbrev pub PhasesRise : Type 0
PhasesRise =
    (from : ℕ) (lines : List ActionLine) → PhasesAscend from lines → AllPairs (λ first later. first.phase ≤ later.phase) lines

-- the lines of a script that follow others are right over what those bound
abbrev pub WordsGoOn : Type 0
WordsGoOn =
    (caller : ℕ) (bounds : List Bound) (lines more : List ActionLine) → AreUsedRight caller bounds (lines ++ more) →
    AreUsedRight caller bounds lines × AreUsedRight caller (bound_so_far caller bounds lines) more

abbrev pub WordsAddUp : Type 0
WordsAddUp =
    (caller : ℕ) (bounds : List Bound) (lines more : List ActionLine) →
    bound_so_far caller bounds (lines ++ more) ≡ bound_so_far caller (bound_so_far caller bounds lines) more

-- a caller's lines bind as many words as are counted
abbrev pub WordsAreCounted : Type 0
WordsAreCounted =
    (caller : ℕ) (bounds : List Bound) (lines : List ActionLine) → AreUsedRight caller bounds lines →
    length (bound_so_far caller bounds lines) ≡ length bounds + words_bound caller lines
