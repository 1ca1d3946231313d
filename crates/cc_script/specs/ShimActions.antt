-- The lines of the file system shim, byte-range locks and checkpoints among them, of the levels of a view index and of the
-- record of a stream: the words behind the verb, in their order.
use Rattle.std.specs.Prelude.{ℕ, Option, List, length, find, codes}
use Rattle.std.specs.Str.{bytes_eq}
use Rattle.cc_script.specs.declared.script.StreamLine.{StreamLine}
use Rattle.cc_script.specs.declared.script.ReadPath.{ReadPath}
use Rattle.cc_script.specs.declared.script.ReadPath.TheVariants as path
use Rattle.cc_script.specs.declared.script.Action.{Action}
use Rattle.cc_script.specs.declared.script.Action.TheVariants as action
use Rattle.cc_script.specs.declared.path_word.TheConstants.{PATHS}
use Rattle.cc_script.specs.Outcome.{◌>>=◌}
use Rattle.cc_script.specs.Words.{parsed_number, number_between, parsed_bytes}
use Rattle.cc_script.specs.Actions.{next, flag, ended, parsed_file, parsed_span}

-- the word that a path of a read is written by
abbrev pub path_text : ReadPath → List ℕ
path_text path.Cached = codes "cached"
path_text path.Mapped = codes "mapped"
path_text path.Pinned = codes "pinned"
path_text path.Descriptor = codes "descriptor"
path_text path.Noncached = codes "noncached"

-- PATH: the path that a word names
unfoldable pub parsed_path : List ℕ → Option ReadPath
parsed_path word = find (λ p. bytes_eq (path_text p) word) PATHS

-- read FILE PATH AT LEN
unfoldable pub parsed_read : List StreamLine → List (List ℕ) → Option Action
parsed_read streams ws = do
  file ← next (parsed_file streams) ws
  by ← next parsed_path file.1
  at ← next parsed_number by.1
  len ← next (number_between 0 2097152) at.1
  ended len.1 (action.Read file.0 by.0 at.0 len.0)

-- write FILE AT BYTES
unfoldable pub parsed_write : List StreamLine → List (List ℕ) → Option Action
parsed_write streams ws = do
  file ← next (parsed_file streams) ws
  at ← next parsed_number file.1
  bytes ← next parsed_bytes at.1
  ended bytes.1 (action.Write file.0 at.0 bytes.0)

-- update FILE AT BYTES
unfoldable pub parsed_update : List StreamLine → List (List ℕ) → Option Action
parsed_update streams ws = do
  file ← next (parsed_file streams) ws
  at ← next parsed_number file.1
  bytes ← next parsed_bytes at.1
  ended bytes.1 (action.Update file.0 at.0 bytes.0)

-- lock FILE FROM TO [excl]
unfoldable pub parsed_lock : List StreamLine → List (List ℕ) → Option Action
parsed_lock streams ws = do
  file ← next (parsed_file streams) ws
  span ← parsed_span file.1
  ended (flag (codes "excl") span.1).1 (action.Lock file.0 span.0 (flag (codes "excl") span.1).0)

-- unlock FILE N
unfoldable pub parsed_unlock : List StreamLine → List (List ℕ) → Option Action
parsed_unlock streams ws = do
  file ← next (parsed_file streams) ws
  id ← next parsed_number file.1
  ended id.1 (action.Unlock file.0 id.0)

-- levels FILE
unfoldable pub parsed_levels : List StreamLine → List (List ℕ) → Option Action
parsed_levels streams ws = do
  file ← next (parsed_file streams) ws
  ended file.1 (action.Levels file.0)

-- settle FILE
unfoldable pub parsed_settle : List StreamLine → List (List ℕ) → Option Action
parsed_settle streams ws = do
  file ← next (parsed_file streams) ws
  ended file.1 (action.Settle file.0)

-- checkpoint LOG
unfoldable pub parsed_checkpoint : List StreamLine → List (List ℕ) → Option Action
parsed_checkpoint streams ws = do
  log ← next (number_between 0 3) ws
  ended log.1 (action.Checkpoint (length streams) log.0)
