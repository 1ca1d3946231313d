-- How the sizes of a stream step.
use Rattle.std.specs.Prelude.{◌≡◌, ℕ, ◌+◌, Bool, true, false, List, ◌∷◌, length, refl}
use Rattle.std.specs.declared.option.Option.{Option}
use Rattle.std.specs.declared.option.Option.TheVariants.{Some, None}
use Rattle.cc_entry.specs.Place.{File, Range}
use Rattle.cc_entry.specs.declared.place.FileSizes.{FileSizes}
use Rattle.cc_entry.specs.declared.call.Call.{Call}
use Rattle.cc_entry.specs.declared.reply.Reply.{Reply}
use Rattle.cc_entry.specs.declared.entry.End.{End}
use Rattle.cc_model.specs.History.{Effect, Did, CameIn, WentOut, Began, Ended, Synced}
use Rattle.cc_model.specs.Acts.{act_of, Opens, Closes, Resizes, Writes, Zeroes, Stores, Stamps, Discards, Looks}
use Rattle.cc_model.specs.Objects.{objects, truncation}
use Rattle.cc_model.specs.Sizes.{resized, resized_by, raised, stored_range}
use Rattle.cc_model.specs.Touches.{sizes, size_of, is_mapped}

pub sizes-opens_mapped : {file : File} {given : FileSizes} {quota : ℕ} {temporary : Bool} (pass : ℕ) (call : Call) (reply : Reply) (h : List Effect) → act_of call ≡ Opens file given quota temporary → is_mapped h ≡ true → sizes (Did pass call reply ∷ h) ≡ sizes h
unfolding sizes
sizes-opens_mapped pass call reply h is p0 = rw (is, p0, sizes) refl

pub sizes-opens_anew : {file : File} {given : FileSizes} {quota : ℕ} {temporary : Bool} (pass : ℕ) (call : Call) (reply : Reply) (h : List Effect) → act_of call ≡ Opens file given quota temporary → is_mapped h ≡ false → sizes (Did pass call reply ∷ h) ≡ record { size = given.size; valid = given.valid }
unfolding sizes
sizes-opens_anew pass call reply h is p0 = rw (is, p0, sizes) refl

pub sizes-closes : {file : File} {truncate : Option ℕ} (pass : ℕ) (call : Call) (reply : Reply) (h : List Effect) → act_of call ≡ Closes file truncate → sizes (Did pass call reply ∷ h) ≡ resized_by (truncation (objects h) (size_of h) file truncate) (sizes h)
unfolding sizes
sizes-closes pass call reply h is = rw (is, sizes) refl

pub sizes-closes_kept : {file : File} {truncate : Option ℕ} (pass : ℕ) (call : Call) (reply : Reply) (h : List Effect) → act_of call ≡ Closes file truncate → truncation (objects h) (size_of h) file truncate ≡ None → sizes (Did pass call reply ∷ h) ≡ sizes h
unfolding sizes
sizes-closes_kept pass call reply h is none = rw (is, none, sizes) refl

pub sizes-closes_cut : {file : File} {truncate : Option ℕ} {to : ℕ} (pass : ℕ) (call : Call) (reply : Reply) (h : List Effect) → act_of call ≡ Closes file truncate → truncation (objects h) (size_of h) file truncate ≡ Some to → sizes (Did pass call reply ∷ h) ≡ resized to (sizes h)
unfolding sizes
sizes-closes_cut pass call reply h is cut = rw (is, cut, sizes) refl

pub sizes-resizes : {allocation size : ℕ} (pass : ℕ) (call : Call) (reply : Reply) (h : List Effect) → act_of call ≡ Resizes allocation size → sizes (Did pass call reply ∷ h) ≡ resized size (sizes h)
unfolding sizes
sizes-resizes pass call reply h is = rw (is, sizes) refl

pub sizes-writes : {at : ℕ} {bytes : List ℕ} (pass : ℕ) (call : Call) (reply : Reply) (h : List Effect) → act_of call ≡ Writes at bytes → sizes (Did pass call reply ∷ h) ≡ raised (at + length bytes) (sizes h)
unfolding sizes
sizes-writes pass call reply h is = rw (is, sizes) refl

pub sizes-zeroes : {from to : ℕ} (pass : ℕ) (call : Call) (reply : Reply) (h : List Effect) → act_of call ≡ Zeroes from to → sizes (Did pass call reply ∷ h) ≡ raised to (sizes h)
unfolding sizes
sizes-zeroes pass call reply h is = rw (is, sizes) refl

pub sizes-stores : {page : ℕ} {bytes : List ℕ} (pass : ℕ) (call : Call) (reply : Reply) (h : List Effect) → act_of call ≡ Stores page bytes → sizes (Did pass call reply ∷ h) ≡ raised (stored_range page (size_of h)).to (sizes h)
unfolding sizes
sizes-stores pass call reply h is = rw (is, sizes) refl

pub sizes-stamps : {hold : ℕ} {lsn : Option ℕ} (pass : ℕ) (call : Call) (reply : Reply) (h : List Effect) → act_of call ≡ Stamps hold lsn → sizes (Did pass call reply ∷ h) ≡ sizes h
unfolding sizes
sizes-stamps pass call reply h is = rw (is, sizes) refl

pub sizes-discards : {span : Option Range} (pass : ℕ) (call : Call) (reply : Reply) (h : List Effect) → act_of call ≡ Discards span → sizes (Did pass call reply ∷ h) ≡ sizes h
unfolding sizes
sizes-discards pass call reply h is = rw (is, sizes) refl

pub sizes-looks : (pass : ℕ) (call : Call) (reply : Reply) (h : List Effect) → act_of call ≡ Looks → sizes (Did pass call reply ∷ h) ≡ sizes h
unfolding sizes
sizes-looks pass call reply h is = rw (is, sizes) refl

pub sizes-came_in : (pass page : ℕ) (from_disk : Bool) (h : List Effect) → sizes (CameIn pass page from_disk ∷ h) ≡ sizes h
unfolding sizes
sizes-came_in pass page from_disk h = refl

pub sizes-went_out : (pass page : ℕ) (h : List Effect) → sizes (WentOut pass page ∷ h) ≡ sizes h
unfolding sizes
sizes-went_out pass page h = refl

pub sizes-began : (pass page : ℕ) (h : List Effect) → sizes (Began pass page ∷ h) ≡ sizes h
unfolding sizes
sizes-began pass page h = refl

pub sizes-ended : (pass page : ℕ) (how : End) (h : List Effect) → sizes (Ended pass page how ∷ h) ≡ sizes h
unfolding sizes
sizes-ended pass page how h = refl

pub sizes-synced : (pass : ℕ) (how : End) (h : List Effect) → sizes (Synced pass how ∷ h) ≡ sizes h
unfolding sizes
sizes-synced pass how h = refl
