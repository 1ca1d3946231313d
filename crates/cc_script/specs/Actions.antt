-- The actions that name no hold: the words behind the verb, in their order.
use Rattle.std.specs.Prelude.{ℕ, Bool, true, false, not, ◌==◌, Option, Some, None, option_map, List, [], ◌∷◌, length, take, drop, ◌+◌, nat_le, if◌then◌else◌, codes}
use Rattle.std.specs.List.{position}
use Rattle.std.specs.Str.{bytes_eq}
use Rattle.cc_entry.specs.Place.{File, Range}
use Rattle.cc_entry.specs.declared.place.FileSizes.{FileSizes}
use Rattle.cc_script.specs.declared.script.StreamLine.{StreamLine}
use Rattle.cc_script.specs.declared.script.Action.{Action}
use Rattle.cc_script.specs.declared.script.Action.TheVariants as action
use Rattle.cc_script.specs.Outcome.{◌>>=◌}
use Rattle.cc_script.specs.Words.{parsed_number, number_between, parsed_bytes}

-- the next word in a form, and the words behind it
abbrev pub next : {A : Type 0} → (List ℕ → Option A) → List (List ℕ) → Option (A × List (List ℕ))
next form [] = None
next form (word ∷ more) = option_map (λ a. (a, more)) (form word)

-- whether a given word stands next, and the words behind it
abbrev pub flag : List ℕ → List (List ℕ) → Bool × List (List ℕ)
flag given [] = (false, [])
flag given (word ∷ more) = if bytes_eq word given then (true, more) else (false, word ∷ more)

-- no words are left
abbrev pub ended : {A : Type 0} → List (List ℕ) → A → Option A
ended left a = if length left == 0 then Some a else None

-- the number of the stream of a name
abbrev pub stream_named : List StreamLine → List ℕ → Option ℕ
stream_named streams name = position (λ s. bytes_eq s.name name) streams

-- the file object of a number, of the stream of a name
abbrev pub object_named : List StreamLine → List ℕ → ℕ → Option File
object_named streams name number = option_map (λ s. record { stream = s; object = number }) (stream_named streams name)

-- a word that is cut at its first colon, if it has one: the name of a stream, and the number of an object behind the colon
unfoldable pub file_at : List StreamLine → List ℕ → Option ℕ → Option File
file_at streams word None = object_named streams word 0
file_at streams word (Some colon) = do
  number ← number_between 0 15 (drop (colon + 1) word)
  object_named streams (take colon word) number

-- a file: NAME of a stream, whose object 0 it is, or NAME:N with the number of an object, 0 to 15
unfoldable pub parsed_file : List StreamLine → List ℕ → Option File
parsed_file streams word = file_at streams word (position (λ b. b == 58) word)

-- two numbers, of which the first is at most the second
unfoldable pub parsed_span : List (List ℕ) → Option (Range × List (List ℕ))
parsed_span ws = do
  from ← next parsed_number ws
  to ← next parsed_number from.1
  if nat_le from.0 to.0 then Some (record { from = from.0; to = to.0 }, to.1) else None

-- [FROM TO] at the end of a line: none is the whole stream
unfoldable pub parsed_optional_span : List (List ℕ) → Option (Option Range)
parsed_optional_span ws = if length ws == 0 then Some None else (do
  span ← parsed_span ws
  ended span.1 (Some span.0))

-- [N] at the end of a line
unfoldable pub parsed_optional_number : List (List ℕ) → Option (Option ℕ)
parsed_optional_number ws = if length ws == 0 then Some None else (do
  number ← next parsed_number ws
  ended number.1 (Some number.0))

-- [quota Q]: a stream's quota in view blocks, 16 where it is not said
unfoldable pub parsed_quota : List (List ℕ) → Option (ℕ × List (List ℕ))
parsed_quota ws = if (flag (codes "quota") ws).0 then next (number_between 8 64) (flag (codes "quota") ws).1 else Some (16, ws)

-- ALLOC SIZE VALID: any three numbers
unfoldable pub parsed_sizes : List (List ℕ) → Option (FileSizes × List (List ℕ))
parsed_sizes ws = do
  allocation ← next parsed_number ws
  size ← next parsed_number allocation.1
  valid ← next parsed_number size.1
  Some (record { allocation = allocation.0; size = size.0; valid = valid.0 }, valid.1)

-- init FILE ALLOC SIZE VALID [quota Q] [temporary]
unfoldable pub parsed_initialise : List StreamLine → List (List ℕ) → Option Action
parsed_initialise streams ws = do
  file ← next (parsed_file streams) ws
  sizes ← parsed_sizes file.1
  quota ← parsed_quota sizes.1
  ended (flag (codes "temporary") quota.1).1
      (action.Initialise file.0 sizes.0 quota.0 (flag (codes "temporary") quota.1).0)

-- uninit FILE [N]
unfoldable pub parsed_uninitialise : List StreamLine → List (List ℕ) → Option Action
parsed_uninitialise streams ws = do
  file ← next (parsed_file streams) ws
  truncate ← parsed_optional_number file.1
  Some (action.Uninitialise file.0 truncate)

-- cread FILE AT LEN [nowait]
unfoldable pub parsed_copy_read : List StreamLine → List (List ℕ) → Option Action
parsed_copy_read streams ws = do
  file ← next (parsed_file streams) ws
  at ← next parsed_number file.1
  len ← next (number_between 0 2097152) at.1
  ended (flag (codes "nowait") len.1).1 (action.CopyRead file.0 at.0 len.0 (not (flag (codes "nowait") len.1).0))

-- cwrite FILE AT BYTES
unfoldable pub parsed_copy_write : List StreamLine → List (List ℕ) → Option Action
parsed_copy_write streams ws = do
  file ← next (parsed_file streams) ws
  at ← next parsed_number file.1
  bytes ← next parsed_bytes at.1
  ended bytes.1 (action.CopyWrite file.0 at.0 bytes.0)

-- zero FILE FROM TO
unfoldable pub parsed_zero : List StreamLine → List (List ℕ) → Option Action
parsed_zero streams ws = do
  file ← next (parsed_file streams) ws
  span ← parsed_span file.1
  ended span.1 (action.Zero file.0 span.0)

-- sizes FILE ALLOC SIZE
unfoldable pub parsed_set_sizes : List StreamLine → List (List ℕ) → Option Action
parsed_set_sizes streams ws = do
  file ← next (parsed_file streams) ws
  allocation ← next parsed_number file.1
  size ← next parsed_number allocation.1
  ended size.1 (action.SetSizes file.0 allocation.0 size.0)

-- flush FILE [FROM TO]
unfoldable pub parsed_flush : List StreamLine → List (List ℕ) → Option Action
parsed_flush streams ws = do
  file ← next (parsed_file streams) ws
  span ← parsed_optional_span file.1
  Some (action.Flush file.0 span)

-- purge FILE [FROM TO]
unfoldable pub parsed_purge : List StreamLine → List (List ℕ) → Option Action
parsed_purge streams ws = do
  file ← next (parsed_file streams) ws
  span ← parsed_optional_span file.1
  Some (action.Purge file.0 span)

-- discard FILE [FROM TO]
unfoldable pub parsed_discard : List StreamLine → List (List ℕ) → Option Action
parsed_discard streams ws = do
  file ← next (parsed_file streams) ws
  span ← parsed_optional_span file.1
  Some (action.Discard file.0 span)

-- ncread FILE AT LEN
unfoldable pub parsed_nc_read : List StreamLine → List (List ℕ) → Option Action
parsed_nc_read streams ws = do
  file ← next (parsed_file streams) ws
  at ← next parsed_number file.1
  len ← next (number_between 0 2097152) at.1
  ended len.1 (action.NcRead file.0 at.0 len.0)

-- ncwrite FILE AT BYTES
unfoldable pub parsed_nc_write : List StreamLine → List (List ℕ) → Option Action
parsed_nc_write streams ws = do
  file ← next (parsed_file streams) ws
  at ← next parsed_number file.1
  bytes ← next parsed_bytes at.1
  ended bytes.1 (action.NcWrite file.0 at.0 bytes.0)

-- setlog FILE LOG
unfoldable pub parsed_set_log : List StreamLine → List (List ℕ) → Option Action
parsed_set_log streams ws = do
  file ← next (parsed_file streams) ws
  log ← next (number_between 0 3) file.1
  ended log.1 (action.SetLog file.0 log.0)

-- append LOG BYTES
unfoldable pub parsed_append : List (List ℕ) → Option Action
parsed_append ws = do
  log ← next (number_between 0 3) ws
  bytes ← next parsed_bytes log.1
  ended bytes.1 (action.Append log.0 bytes.0)

-- logflush LOG LSN
unfoldable pub parsed_log_flush : List (List ℕ) → Option Action
parsed_log_flush ws = do
  log ← next (number_between 0 3) ws
  lsn ← next (number_between 1 4611686018427387904) log.1
  ended lsn.1 (action.LogFlush log.0 lsn.0)
