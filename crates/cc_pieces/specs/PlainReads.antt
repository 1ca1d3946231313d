-- A copied read as it stands in its piece, with the bytes that a read there answers: the plain file's, where the disk told its
-- opening pages, else so many, with zeros from the valid data length on.
use Rattle.std.specs.Prelude.{◌≡◌, ℕ, Bool, List, ◌∷◌, ◌++◌}
use Rattle.std.specs.declared.option.Option.TheVariants.{Some}
use Rattle.cc_entry.specs.Place.{File}
use Rattle.cc_entry.specs.declared.call.Call.TheVariants as call
use Rattle.cc_entry.specs.declared.reply.Reply.TheVariants as reply
use Rattle.cc_entry.specs.declared.reply.Outcome.TheVariants as outcome
use Rattle.cc_entry.specs.declared.entry.Entry.{Entry}
use Rattle.cc_entry.specs.declared.entry.Entry.TheVariants as entry
use Rattle.cc_model.specs.Setup.{Setup}
use Rattle.cc_model.specs.History.{history}
use Rattle.cc_model.specs.Replies.{Reads}

-- These bytes were read: the pass has the read's entry between the two moments, and they are those of a read there.
pub record IsPlainRead (u : Setup) (me : ℕ) (file : File) (at len : ℕ) (wait : Bool) (bytes : List ℕ) (old new : List Entry)
    : Type 0 where
  pub nth : ℕ
  pub later : List Entry
  pub earlier : List Entry
  pub grew :
      new
      ≡ later
      ++ (entry.Call me nth (Some file.stream) (call.CopyRead file at len wait) (outcome.Done (reply.Read bytes))
      ∷ (earlier ++ old))
  pub plain : Reads (u.opening file.stream) (history (earlier ++ old) file.stream) at len (reply.Read bytes)
