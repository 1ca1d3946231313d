-- The file objects of a stream that have a private cache map.
use Rattle.std.specs.Prelude.{ℕ, Bool, true, false, ◌&&◌, nat_lt, List, [], ◌∷◌, if◌then◌else◌}
use Rattle.std.specs.declared.option.Option.{Option}
use Rattle.std.specs.declared.option.Option.TheVariants.{Some, None}
use Rattle.cc_entry.specs.Place.{File}
use Rattle.cc_model.specs.Numbers.{is_empty, is_among, without}
use Rattle.cc_model.specs.History.{Effect, Did}
use Rattle.cc_model.specs.Acts.{act_of, Opens, Closes}

-- The objects that were initialised and not uninitialised since (CcInitializeCacheMap,
-- CcUninitializeCacheMap).
unfoldable pub objects : List Effect → List ℕ
objects [] = []
objects (Did pass call reply ∷ h) =
    elim (act_of call) [
      | Opens file sizes quota temporary ↦ file.object ∷ without file.object (objects h)
      | Closes file truncate ↦ without file.object (objects h)
      | _ ↦ objects h
    ]
objects (other ∷ h) = objects h

-- whether the stream ever had a map
unfoldable pub had_map : List Effect → Bool
had_map [] = false
had_map (Did pass call reply ∷ h) =
    elim (act_of call) [
      | Opens file sizes quota temporary ↦ true
      | _ ↦ had_map h
    ]
had_map (other ∷ h) = had_map h

-- The size that an uninitialise of the object sets, given the objects and the size before it: its
-- truncate, where the object is open and the last, and the truncate is below the size.
abbrev pub truncation : List ℕ → ℕ → File → Option ℕ → Option ℕ
truncation opened size file None = None
truncation opened size file (Some to) =
    if is_among file.object opened && (is_empty (without file.object opened) && nat_lt to size) then Some to else None
