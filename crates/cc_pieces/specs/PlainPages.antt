-- The pages of a noncached read as they stand in its piece, each with the bytes that a read there answers: the plain
-- file's, where the disk told its opening pages, else so many, with zeros from the valid data length on.
use Rattle.std.specs.Prelude.{◌≡◌, ℕ, ◌*◌, ◌<◌, List, [], ◌∷◌, ◌++◌, length, ◌⊎◌}
use Rattle.std.specs.declared.option.Option.TheVariants.{Some}
use Rattle.cc_entry.specs.Place.{File}
use Rattle.cc_entry.specs.declared.call.Call.TheVariants as call
use Rattle.cc_entry.specs.declared.reply.Reply.TheVariants as reply
use Rattle.cc_entry.specs.declared.reply.Outcome.TheVariants as outcome
use Rattle.cc_entry.specs.declared.entry.Entry.{Entry}
use Rattle.cc_entry.specs.declared.entry.Entry.TheVariants as entry
use Rattle.cc_model.specs.Setup.{Setup}
use Rattle.cc_model.specs.History.{history}
use Rattle.cc_model.specs.Replies.{Reads}
use Rattle.cc_effects.specs.Moments.{Between}

-- A page was read by a noncached read: it has its entry, and the bytes that this answers are those of a read there.
pub record IsPlainPage (u : Setup) (me : ℕ) (file : File) (page : ℕ) (bytes : List ℕ) (old new : List Entry) : Type 0 where
  pub nth : ℕ
  pub later : List Entry
  pub earlier : List Entry
  pub grew :
      new
      ≡ later
      ++ (entry.Call me nth (Some file.stream) (call.NcRead file page) (outcome.Done (reply.Read bytes)) ∷ (earlier ++ old))
  pub plain : Reads (u.opening file.stream) (history (earlier ++ old) file.stream) (4096 * page) 4096 (reply.Read bytes)

-- So were these pages, one behind the other, up to the first that answers no byte or comes short; together they answer
-- these bytes. All but the last are whole, so each byte stands as far behind the first as its place in the stream.
abbrev pub ArePlainPages : Setup → ℕ → File → List ℕ → List ℕ → Between
ArePlainPages u me file [] bytes old new = bytes ≡ []
ArePlainPages u me file (page ∷ pages) [] old new = IsPlainPage u me file page [] old new
ArePlainPages u me file (page ∷ pages) (byte ∷ bytes) old new =
    ((between : List Entry)
    × (first : List ℕ)
    × (rest : List ℕ)
    × (byte ∷ bytes ≡ first ++ rest)
    × (length first ≡ 4096)
    × IsPlainPage u me file page first old between
    × ArePlainPages u me file pages rest between new)
    ⊎ ((between : List Entry) × (length (byte ∷ bytes) < 4096) × IsPlainPage u me file page (byte ∷ bytes) old between)
