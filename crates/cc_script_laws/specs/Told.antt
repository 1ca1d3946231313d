-- What the writes of a stream's record tell, and which lines of a script open objects of a stream.
use Rattle.std.specs.Prelude.{◌≡◌, ℕ, ◌==◌, Bool, true, false, min, List}
use Rattle.cc_entry.specs.declared.entry.Entry.{Entry}
use Rattle.cc_model.specs.History.{history}
use Rattle.cc_model.specs.Objects.{had_map}
use Rattle.cc_model.specs.Passes.{HasSeen}
use Rattle.cc_model.specs.Touches.{valid_of}
use Rattle.cc_script.specs.declared.script.Action.{Action}
use Rattle.cc_script.specs.declared.script.Action.TheVariants as action

-- A valid data length that the record of a stream is told: the lesser of those of two moments, the second one that of the write. At the
-- first one the stream had a map.
pub record TellsLesser (s valid : ℕ) (past : List Entry) : Type 0 where
  pub moment : List Entry
  pub since : HasSeen moment past
  pub had : had_map (history moment s) ≡ true
  pub lesser : valid ≡ min (valid_of (history moment s)) (valid_of (history past s))

-- whether a line initialises an object of the stream
abbrev pub initialises : ℕ → Action → Bool
initialises s (action.Initialise file sizes quota temporary) = file.stream == s
initialises s other = false
