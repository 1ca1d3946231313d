-- The actions on holds: the words behind the verb, in their order. A word that names a hold stands for its number among
-- those that the caller bound; a line that binds one gives the words that are bound then.
use Rattle.std.specs.Prelude.{ℕ, ◌==◌, false, Option, Some, None, List, length, if◌then◌else◌, codes}
use Rattle.cc_script.specs.declared.stretch.Stretch.{Stretch}
use Rattle.cc_script.specs.declared.script.Mode.{Mode}
use Rattle.cc_script.specs.declared.script.Mode.TheVariants as mode
use Rattle.cc_script.specs.declared.script.StreamLine.{StreamLine}
use Rattle.cc_script.specs.declared.script.Action.{Action}
use Rattle.cc_script.specs.declared.script.Action.TheVariants as action
use Rattle.cc_script.specs.Outcome.{◌>>=◌}
use Rattle.cc_script.specs.Words.{parsed_number, number_between, name_of_word, parsed_bytes}
use Rattle.cc_script.specs.HoldNames.{word_of, new_word}
use Rattle.cc_script.specs.Actions.{next, flag, ended, parsed_file}

-- FILE AT LEN HOLD: the hold that a line makes, whose word is bound, then the words that are bound behind it, and those
-- that are left of the line
unfoldable pub parsed_stretch : List StreamLine → List (List ℕ) → List (List ℕ) → Option (Stretch × List (List ℕ) × List (List ℕ))
parsed_stretch streams names ws = do
  file ← next (parsed_file streams) ws
  at ← next parsed_number file.1
  len ← next parsed_number at.1
  name ← next name_of_word len.1
  bound ← new_word names name.0
  Some (record { file = file.0; at = at.0; len = len.0; word = bound.0 }, bound.1, name.1)

-- map FILE AT LEN HOLD
unfoldable pub parsed_map : List StreamLine → List (List ℕ) → List (List ℕ) → Option (Action × List (List ℕ))
parsed_map streams names ws = do
  on ← parsed_stretch streams names ws
  ended on.2 (action.Map on.0.file on.0.at on.0.len on.0.word, on.1)

-- pin FILE AT LEN HOLD [excl]
unfoldable pub parsed_pin_read : List StreamLine → List (List ℕ) → List (List ℕ) → Option (Action × List (List ℕ))
parsed_pin_read streams names ws = do
  on ← parsed_stretch streams names ws
  ended (flag (codes "excl") on.2).1
      (action.PinRead on.0.file on.0.at on.0.len on.0.word (flag (codes "excl") on.2).0, on.1)

-- pinmapped HOLD [excl]
unfoldable pub parsed_pin_mapped : List (List ℕ) → List (List ℕ) → Option Action
parsed_pin_mapped names ws = do
  word ← next (word_of names) ws
  ended (flag (codes "excl") word.1).1 (action.PinMapped word.0 (flag (codes "excl") word.1).0)

-- prepare FILE AT LEN HOLD [zero] [excl]
unfoldable pub parsed_prepare_pin : List StreamLine → List (List ℕ) → List (List ℕ) → Option (Action × List (List ℕ))
parsed_prepare_pin streams names ws = do
  on ← parsed_stretch streams names ws
  ended (flag (codes "excl") (flag (codes "zero") on.2).1).1 (
    action.PreparePin on.0.file on.0.at on.0.len on.0.word (flag (codes "zero") on.2).0
        (flag (codes "excl") (flag (codes "zero") on.2).1).0,
    on.1,
  )

-- hread HOLD AT LEN
unfoldable pub parsed_held_read : List (List ℕ) → List (List ℕ) → Option Action
parsed_held_read names ws = do
  word ← next (word_of names) ws
  at ← next parsed_number word.1
  len ← next (number_between 0 2097152) at.1
  ended len.1 (action.HeldRead word.0 at.0 len.0)

-- pwrite HOLD AT BYTES
unfoldable pub parsed_pinned_write : List (List ℕ) → List (List ℕ) → Option Action
parsed_pinned_write names ws = do
  word ← next (word_of names) ws
  at ← next parsed_number word.1
  bytes ← next parsed_bytes at.1
  ended bytes.1 (action.PinnedWrite word.0 at.0 bytes.0)

-- stamp HOLD [LSN]
unfoldable pub parsed_stamp : List (List ℕ) → Option (Option ℕ)
parsed_stamp ws = if length ws == 0 then Some None else (do
  lsn ← next (number_between 1 4611686018427387904) ws
  ended lsn.1 (Some lsn.0))

unfoldable pub parsed_set_dirty : List (List ℕ) → List (List ℕ) → Option Action
parsed_set_dirty names ws = do
  word ← next (word_of names) ws
  lsn ← parsed_stamp word.1
  Some (action.SetDirty word.0 lsn)

-- unpin HOLD
unfoldable pub parsed_unpin : List (List ℕ) → List (List ℕ) → Option Action
parsed_unpin names ws = do
  word ← next (word_of names) ws
  ended word.1 (action.Unpin word.0)

-- repin HOLD HOLD
unfoldable pub parsed_repin : List (List ℕ) → List (List ℕ) → Option (Action × List (List ℕ))
parsed_repin names ws = do
  word ← next (word_of names) ws
  name ← next name_of_word word.1
  bound ← new_word names name.0
  ended name.1 (action.Repin word.0 bound.0, bound.1)

-- unrepin HOLD [through], where `through` is of a run alone
unfoldable pub parsed_unpin_repinned : Mode → List (List ℕ) → List (List ℕ) → Option Action
parsed_unpin_repinned mode.Run names ws = do
  word ← next (word_of names) ws
  ended (flag (codes "through") word.1).1 (action.UnpinRepinned word.0 (flag (codes "through") word.1).0)
parsed_unpin_repinned mode.Steps names ws = do
  word ← next (word_of names) ws
  ended word.1 (action.UnpinRepinned word.0 false)

-- mdlread FILE AT LEN HOLD
unfoldable pub parsed_mdl_read : List StreamLine → List (List ℕ) → List (List ℕ) → Option (Action × List (List ℕ))
parsed_mdl_read streams names ws = do
  on ← parsed_stretch streams names ws
  ended on.2 (action.MdlRead on.0.file on.0.at on.0.len on.0.word, on.1)

-- mdlwrite FILE AT LEN HOLD
unfoldable pub parsed_mdl_write : List StreamLine → List (List ℕ) → List (List ℕ) → Option (Action × List (List ℕ))
parsed_mdl_write streams names ws = do
  on ← parsed_stretch streams names ws
  ended on.2 (action.MdlWrite on.0.file on.0.at on.0.len on.0.word, on.1)

-- mdlget HOLD AT LEN
unfoldable pub parsed_mdl_bytes : List (List ℕ) → List (List ℕ) → Option Action
parsed_mdl_bytes names ws = do
  word ← next (word_of names) ws
  at ← next parsed_number word.1
  len ← next (number_between 0 2097152) at.1
  ended len.1 (action.MdlBytes word.0 at.0 len.0)

-- mdlput HOLD AT BYTES
unfoldable pub parsed_mdl_store : List (List ℕ) → List (List ℕ) → Option Action
parsed_mdl_store names ws = do
  word ← next (word_of names) ws
  at ← next parsed_number word.1
  bytes ← next parsed_bytes at.1
  ended bytes.1 (action.MdlStore word.0 at.0 bytes.0)

-- mdldone HOLD, mdlabort HOLD
unfoldable pub parsed_mdl_done : List (List ℕ) → List (List ℕ) → Option Action
parsed_mdl_done names ws = do
  word ← next (word_of names) ws
  ended word.1 (action.MdlDone word.0)

unfoldable pub parsed_mdl_abort : List (List ℕ) → List (List ℕ) → Option Action
parsed_mdl_abort names ws = do
  word ← next (word_of names) ws
  ended word.1 (action.MdlAbort word.0)
