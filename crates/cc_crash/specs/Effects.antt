-- The effects on a stream of a journal that has its oldest entry first, and its sizes on the way.
use Rattle.std.specs.Prelude.{◌≡◌, ℕ, ◌<◌, ◌≤◌, List, length, reverse, take, slice_index}
use Rattle.cc_entry.specs.declared.entry.Entry.{Entry}
use Rattle.cc_model.specs.History.{Effect, history}
use Rattle.cc_model.specs.Touches.{size_of}

-- the effects on a stream of a journal that has its oldest entry first; they are newest first
abbrev pub effects : List Entry → ℕ → List Effect
effects journal s = history (reverse journal) s

-- a stream's size before each entry of a journal, and after the last one
pub record AreSizesOverJournal (sizes : List ℕ) (journal : List Entry) (s : ℕ) : Type 0 where
  pub long : length journal < length sizes
  pub each : (i : ℕ) → i ≤ length journal → slice_index sizes i ≡ size_of (effects (take i journal) s)
