-- How it steps whether a stream has a shared map, and which of its pages are dirty.
use Rattle.std.specs.Prelude.{◌≡◌, ℕ, Bool, true, List, ◌∷◌, refl}
use Rattle.cc_entry.specs.Place.{File}
use Rattle.cc_entry.specs.declared.place.FileSizes.{FileSizes}
use Rattle.cc_entry.specs.declared.call.Call.{Call}
use Rattle.cc_entry.specs.declared.reply.Reply.{Reply}
use Rattle.cc_entry.specs.declared.entry.End.{End}
use Rattle.cc_model.specs.History.{Effect, Did, CameIn, WentOut, Began, Synced}
use Rattle.cc_model.specs.Acts.{act_of, Opens, Looks}
use Rattle.cc_model.specs.Objects.{objects}
use Rattle.cc_model.specs.Touches.{touched, touches, is_mapped, is_dirty, dirty_pages}

pub is_mapped-opens : {file : File} {given : FileSizes} {quota : ℕ} {temporary : Bool} (pass : ℕ) (call : Call) (reply : Reply) (h : List Effect) → act_of call ≡ Opens file given quota temporary → is_mapped (Did pass call reply ∷ h) ≡ true
unfolding objects
is_mapped-opens pass call reply h is = rw (is, objects) refl

pub is_mapped-looks : (pass : ℕ) (call : Call) (reply : Reply) (h : List Effect) → act_of call ≡ Looks → is_mapped (Did pass call reply ∷ h) ≡ is_mapped h
unfolding objects touched touches
is_mapped-looks pass call reply h is = simp (is, objects, touched, touches)

pub is_mapped-came_in : (pass page : ℕ) (from_disk : Bool) (h : List Effect) → is_mapped (CameIn pass page from_disk ∷ h) ≡ is_mapped h
unfolding objects touched touches
is_mapped-came_in pass page from_disk h = refl

pub is_mapped-went_out : (pass page : ℕ) (h : List Effect) → is_mapped (WentOut pass page ∷ h) ≡ is_mapped h
unfolding objects touched touches
is_mapped-went_out pass page h = refl

pub is_mapped-began : (pass page : ℕ) (h : List Effect) → is_mapped (Began pass page ∷ h) ≡ is_mapped h
unfolding objects touched touches
is_mapped-began pass page h = refl

pub is_mapped-synced : (pass : ℕ) (how : End) (h : List Effect) → is_mapped (Synced pass how ∷ h) ≡ is_mapped h
unfolding objects touched touches
is_mapped-synced pass how h = refl

-- a stream with an open object has a map
pub is_mapped-open : (h : List Effect) (object : ℕ) (rest : List ℕ) → objects h ≡ object ∷ rest → is_mapped h ≡ true
is_mapped-open h object rest is = rw is refl

pub dirty_pages-looks : (pass : ℕ) (call : Call) (reply : Reply) (h : List Effect) → act_of call ≡ Looks → dirty_pages (Did pass call reply ∷ h) ≡ dirty_pages h
unfolding touched touches
dirty_pages-looks pass call reply h is = simp (is, is_dirty, touched, touches)

pub dirty_pages-came_in : (pass page : ℕ) (from_disk : Bool) (h : List Effect) → dirty_pages (CameIn pass page from_disk ∷ h) ≡ dirty_pages h
unfolding touched touches
dirty_pages-came_in pass page from_disk h = refl

pub dirty_pages-went_out : (pass page : ℕ) (h : List Effect) → dirty_pages (WentOut pass page ∷ h) ≡ dirty_pages h
unfolding touched touches
dirty_pages-went_out pass page h = refl

pub dirty_pages-began : (pass page : ℕ) (h : List Effect) → dirty_pages (Began pass page ∷ h) ≡ dirty_pages h
unfolding touched touches
dirty_pages-began pass page h = refl

pub dirty_pages-synced : (pass : ℕ) (how : End) (h : List Effect) → dirty_pages (Synced pass how ∷ h) ≡ dirty_pages h
unfolding touched touches
dirty_pages-synced pass how h = refl
