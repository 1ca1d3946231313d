-- What a line of the shim leaves whose calls were not made for want of memory.
use Rattle.std.specs.Prelude.{ℕ, List, refl}
use Rattle.std.proofs.Common.{inl}
use Rattle.cc_entry.specs.Place.{File}
use Rattle.cc_entry.specs.declared.answer.Answer.TheVariants as answer
use Rattle.cc_entry.specs.declared.call.Call.TheVariants as call
use Rattle.cc_entry.specs.declared.query.Query.TheVariants as query
use Rattle.cc_entry.specs.declared.entry.Entry.{Entry}
use Rattle.cc_entry.specs.declared.error.CcError.TheVariants as error
use Rattle.cc_script.specs.declared.script.ReadPath.{ReadPath}
use Rattle.cc_model.specs.Setup.{Setup}
use Rattle.cc_pieces.specs.Locks.{LockedReadAnswered, LockedUpdateAnswered, LockedWriteAnswered}
use Rattle.cc_lines.proofs.Calls.{unplaced}

-- each begins by asking for the state
module _ (u : Setup) (me : ℕ) (file : File) (past : List Entry) where
  pub read-wanting : (path : ReadPath) (at len : ℕ) → LockedReadAnswered u me file path at len (answer.Refused error.NoMemory) past past
  read-wanting path at len = inl (error.NoMemory, refl, unplaced me (call.Query (query.State file)) past refl refl)

  pub write-wanting : (at : ℕ) (bytes : List ℕ) → LockedWriteAnswered u me file at bytes (answer.Refused error.NoMemory) past past
  write-wanting at bytes = inl (error.NoMemory, refl, unplaced me (call.Query (query.State file)) past refl refl)

  pub update-wanting : (at : ℕ) (bytes : List ℕ) → LockedUpdateAnswered u me file at bytes (answer.Refused error.NoMemory) past past
  update-wanting at bytes = inl (error.NoMemory, refl, unplaced me (call.Query (query.State file)) past refl refl)
