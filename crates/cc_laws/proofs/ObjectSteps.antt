-- How the open objects of a stream step, and whether it ever had a map.
use Rattle.std.specs.Prelude.{◌≡◌, ℕ, Bool, true, List, ◌∷◌, refl}
use Rattle.std.specs.declared.option.Option.{Option}
use Rattle.cc_entry.specs.Place.{File, Range}
use Rattle.cc_entry.specs.declared.place.FileSizes.{FileSizes}
use Rattle.cc_entry.specs.declared.call.Call.{Call}
use Rattle.cc_entry.specs.declared.reply.Reply.{Reply}
use Rattle.cc_entry.specs.declared.entry.End.{End}
use Rattle.cc_model.specs.History.{Effect, Did, CameIn, WentOut, Began, Ended, Synced}
use Rattle.cc_model.specs.Acts.{act_of, Opens, Closes, Resizes, Writes, Zeroes, Stores, Stamps, Discards, Looks}
use Rattle.cc_model.specs.Numbers.{without}
use Rattle.cc_model.specs.Objects.{objects, had_map}

pub objects-opens : {file : File} {given : FileSizes} {quota : ℕ} {temporary : Bool} (pass : ℕ) (call : Call) (reply : Reply) (h : List Effect) → act_of call ≡ Opens file given quota temporary → objects (Did pass call reply ∷ h) ≡ file.object ∷ without file.object (objects h)
unfolding objects
objects-opens pass call reply h is = rw (is, objects) refl

pub objects-closes : {file : File} {truncate : Option ℕ} (pass : ℕ) (call : Call) (reply : Reply) (h : List Effect) → act_of call ≡ Closes file truncate → objects (Did pass call reply ∷ h) ≡ without file.object (objects h)
unfolding objects
objects-closes pass call reply h is = rw (is, objects) refl

pub objects-resizes : {allocation size : ℕ} (pass : ℕ) (call : Call) (reply : Reply) (h : List Effect) → act_of call ≡ Resizes allocation size → objects (Did pass call reply ∷ h) ≡ objects h
unfolding objects
objects-resizes pass call reply h is = rw (is, objects) refl

pub objects-writes : {at : ℕ} {bytes : List ℕ} (pass : ℕ) (call : Call) (reply : Reply) (h : List Effect) → act_of call ≡ Writes at bytes → objects (Did pass call reply ∷ h) ≡ objects h
unfolding objects
objects-writes pass call reply h is = rw (is, objects) refl

pub objects-zeroes : {from to : ℕ} (pass : ℕ) (call : Call) (reply : Reply) (h : List Effect) → act_of call ≡ Zeroes from to → objects (Did pass call reply ∷ h) ≡ objects h
unfolding objects
objects-zeroes pass call reply h is = rw (is, objects) refl

pub objects-stores : {page : ℕ} {bytes : List ℕ} (pass : ℕ) (call : Call) (reply : Reply) (h : List Effect) → act_of call ≡ Stores page bytes → objects (Did pass call reply ∷ h) ≡ objects h
unfolding objects
objects-stores pass call reply h is = rw (is, objects) refl

pub objects-stamps : {hold : ℕ} {lsn : Option ℕ} (pass : ℕ) (call : Call) (reply : Reply) (h : List Effect) → act_of call ≡ Stamps hold lsn → objects (Did pass call reply ∷ h) ≡ objects h
unfolding objects
objects-stamps pass call reply h is = rw (is, objects) refl

pub objects-discards : {span : Option Range} (pass : ℕ) (call : Call) (reply : Reply) (h : List Effect) → act_of call ≡ Discards span → objects (Did pass call reply ∷ h) ≡ objects h
unfolding objects
objects-discards pass call reply h is = rw (is, objects) refl

pub objects-looks : (pass : ℕ) (call : Call) (reply : Reply) (h : List Effect) → act_of call ≡ Looks → objects (Did pass call reply ∷ h) ≡ objects h
unfolding objects
objects-looks pass call reply h is = rw (is, objects) refl

pub objects-came_in : (pass page : ℕ) (from_disk : Bool) (h : List Effect) → objects (CameIn pass page from_disk ∷ h) ≡ objects h
unfolding objects
objects-came_in pass page from_disk h = refl

pub objects-went_out : (pass page : ℕ) (h : List Effect) → objects (WentOut pass page ∷ h) ≡ objects h
unfolding objects
objects-went_out pass page h = refl

pub objects-began : (pass page : ℕ) (h : List Effect) → objects (Began pass page ∷ h) ≡ objects h
unfolding objects
objects-began pass page h = refl

pub objects-ended : (pass page : ℕ) (how : End) (h : List Effect) → objects (Ended pass page how ∷ h) ≡ objects h
unfolding objects
objects-ended pass page how h = refl

pub objects-synced : (pass : ℕ) (how : End) (h : List Effect) → objects (Synced pass how ∷ h) ≡ objects h
unfolding objects
objects-synced pass how h = refl

pub had_map-opens : {file : File} {given : FileSizes} {quota : ℕ} {temporary : Bool} (pass : ℕ) (call : Call) (reply : Reply) (h : List Effect) → act_of call ≡ Opens file given quota temporary → had_map (Did pass call reply ∷ h) ≡ true
unfolding had_map
had_map-opens pass call reply h is = rw (is, had_map) refl

pub had_map-closes : {file : File} {truncate : Option ℕ} (pass : ℕ) (call : Call) (reply : Reply) (h : List Effect) → act_of call ≡ Closes file truncate → had_map (Did pass call reply ∷ h) ≡ had_map h
unfolding had_map
had_map-closes pass call reply h is = rw (is, had_map) refl

pub had_map-resizes : {allocation size : ℕ} (pass : ℕ) (call : Call) (reply : Reply) (h : List Effect) → act_of call ≡ Resizes allocation size → had_map (Did pass call reply ∷ h) ≡ had_map h
unfolding had_map
had_map-resizes pass call reply h is = rw (is, had_map) refl

pub had_map-writes : {at : ℕ} {bytes : List ℕ} (pass : ℕ) (call : Call) (reply : Reply) (h : List Effect) → act_of call ≡ Writes at bytes → had_map (Did pass call reply ∷ h) ≡ had_map h
unfolding had_map
had_map-writes pass call reply h is = rw (is, had_map) refl

pub had_map-zeroes : {from to : ℕ} (pass : ℕ) (call : Call) (reply : Reply) (h : List Effect) → act_of call ≡ Zeroes from to → had_map (Did pass call reply ∷ h) ≡ had_map h
unfolding had_map
had_map-zeroes pass call reply h is = rw (is, had_map) refl

pub had_map-stores : {page : ℕ} {bytes : List ℕ} (pass : ℕ) (call : Call) (reply : Reply) (h : List Effect) → act_of call ≡ Stores page bytes → had_map (Did pass call reply ∷ h) ≡ had_map h
unfolding had_map
had_map-stores pass call reply h is = rw (is, had_map) refl

pub had_map-stamps : {hold : ℕ} {lsn : Option ℕ} (pass : ℕ) (call : Call) (reply : Reply) (h : List Effect) → act_of call ≡ Stamps hold lsn → had_map (Did pass call reply ∷ h) ≡ had_map h
unfolding had_map
had_map-stamps pass call reply h is = rw (is, had_map) refl

pub had_map-discards : {span : Option Range} (pass : ℕ) (call : Call) (reply : Reply) (h : List Effect) → act_of call ≡ Discards span → had_map (Did pass call reply ∷ h) ≡ had_map h
unfolding had_map
had_map-discards pass call reply h is = rw (is, had_map) refl

pub had_map-looks : (pass : ℕ) (call : Call) (reply : Reply) (h : List Effect) → act_of call ≡ Looks → had_map (Did pass call reply ∷ h) ≡ had_map h
unfolding had_map
had_map-looks pass call reply h is = rw (is, had_map) refl

pub had_map-came_in : (pass page : ℕ) (from_disk : Bool) (h : List Effect) → had_map (CameIn pass page from_disk ∷ h) ≡ had_map h
unfolding had_map
had_map-came_in pass page from_disk h = refl

pub had_map-went_out : (pass page : ℕ) (h : List Effect) → had_map (WentOut pass page ∷ h) ≡ had_map h
unfolding had_map
had_map-went_out pass page h = refl

pub had_map-began : (pass page : ℕ) (h : List Effect) → had_map (Began pass page ∷ h) ≡ had_map h
unfolding had_map
had_map-began pass page h = refl

pub had_map-ended : (pass page : ℕ) (how : End) (h : List Effect) → had_map (Ended pass page how ∷ h) ≡ had_map h
unfolding had_map
had_map-ended pass page how h = refl

pub had_map-synced : (pass : ℕ) (how : End) (h : List Effect) → had_map (Synced pass how ∷ h) ≡ had_map h
unfolding had_map
had_map-synced pass how h = refl
