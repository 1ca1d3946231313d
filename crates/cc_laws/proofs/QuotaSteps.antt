-- How what the last initialise that made the map gave steps.
use Rattle.std.specs.Prelude.{◌≡◌, ℕ, Bool, true, false, List, ◌∷◌, refl}
use Rattle.std.specs.declared.option.Option.{Option}
use Rattle.cc_entry.specs.Place.{File, Range}
use Rattle.cc_entry.specs.declared.place.FileSizes.{FileSizes}
use Rattle.cc_entry.specs.declared.call.Call.{Call}
use Rattle.cc_entry.specs.declared.reply.Reply.{Reply}
use Rattle.cc_entry.specs.declared.entry.End.{End}
use Rattle.cc_model.specs.History.{Effect, Did, CameIn, WentOut, Began, Ended, Synced}
use Rattle.cc_model.specs.Acts.{act_of, Opens, Closes, Resizes, Writes, Zeroes, Stores, Stamps, Discards, Looks}
use Rattle.cc_model.specs.Touches.{is_mapped}
use Rattle.cc_model.specs.Settings.{quota_of, is_temporary, allocation_of}

pub quota_of-opens_mapped : {file : File} {given : FileSizes} {quota : ℕ} {temporary : Bool} (pass : ℕ) (call : Call) (reply : Reply) (h : List Effect) → act_of call ≡ Opens file given quota temporary → is_mapped h ≡ true → quota_of (Did pass call reply ∷ h) ≡ quota_of h
unfolding quota_of
quota_of-opens_mapped pass call reply h is p0 = rw (is, p0, quota_of) refl

pub quota_of-opens_anew : {file : File} {given : FileSizes} {quota : ℕ} {temporary : Bool} (pass : ℕ) (call : Call) (reply : Reply) (h : List Effect) → act_of call ≡ Opens file given quota temporary → is_mapped h ≡ false → quota_of (Did pass call reply ∷ h) ≡ quota
unfolding quota_of
quota_of-opens_anew pass call reply h is p0 = rw (is, p0, quota_of) refl

pub quota_of-closes : {file : File} {truncate : Option ℕ} (pass : ℕ) (call : Call) (reply : Reply) (h : List Effect) → act_of call ≡ Closes file truncate → quota_of (Did pass call reply ∷ h) ≡ quota_of h
unfolding quota_of
quota_of-closes pass call reply h is = rw (is, quota_of) refl

pub quota_of-resizes : {allocation size : ℕ} (pass : ℕ) (call : Call) (reply : Reply) (h : List Effect) → act_of call ≡ Resizes allocation size → quota_of (Did pass call reply ∷ h) ≡ quota_of h
unfolding quota_of
quota_of-resizes pass call reply h is = rw (is, quota_of) refl

pub quota_of-writes : {at : ℕ} {bytes : List ℕ} (pass : ℕ) (call : Call) (reply : Reply) (h : List Effect) → act_of call ≡ Writes at bytes → quota_of (Did pass call reply ∷ h) ≡ quota_of h
unfolding quota_of
quota_of-writes pass call reply h is = rw (is, quota_of) refl

pub quota_of-zeroes : {from to : ℕ} (pass : ℕ) (call : Call) (reply : Reply) (h : List Effect) → act_of call ≡ Zeroes from to → quota_of (Did pass call reply ∷ h) ≡ quota_of h
unfolding quota_of
quota_of-zeroes pass call reply h is = rw (is, quota_of) refl

pub quota_of-stores : {page : ℕ} {bytes : List ℕ} (pass : ℕ) (call : Call) (reply : Reply) (h : List Effect) → act_of call ≡ Stores page bytes → quota_of (Did pass call reply ∷ h) ≡ quota_of h
unfolding quota_of
quota_of-stores pass call reply h is = rw (is, quota_of) refl

pub quota_of-stamps : {hold : ℕ} {lsn : Option ℕ} (pass : ℕ) (call : Call) (reply : Reply) (h : List Effect) → act_of call ≡ Stamps hold lsn → quota_of (Did pass call reply ∷ h) ≡ quota_of h
unfolding quota_of
quota_of-stamps pass call reply h is = rw (is, quota_of) refl

pub quota_of-discards : {span : Option Range} (pass : ℕ) (call : Call) (reply : Reply) (h : List Effect) → act_of call ≡ Discards span → quota_of (Did pass call reply ∷ h) ≡ quota_of h
unfolding quota_of
quota_of-discards pass call reply h is = rw (is, quota_of) refl

pub quota_of-looks : (pass : ℕ) (call : Call) (reply : Reply) (h : List Effect) → act_of call ≡ Looks → quota_of (Did pass call reply ∷ h) ≡ quota_of h
unfolding quota_of
quota_of-looks pass call reply h is = rw (is, quota_of) refl

pub quota_of-came_in : (pass page : ℕ) (from_disk : Bool) (h : List Effect) → quota_of (CameIn pass page from_disk ∷ h) ≡ quota_of h
unfolding quota_of
quota_of-came_in pass page from_disk h = refl

pub quota_of-went_out : (pass page : ℕ) (h : List Effect) → quota_of (WentOut pass page ∷ h) ≡ quota_of h
unfolding quota_of
quota_of-went_out pass page h = refl

pub quota_of-began : (pass page : ℕ) (h : List Effect) → quota_of (Began pass page ∷ h) ≡ quota_of h
unfolding quota_of
quota_of-began pass page h = refl

pub quota_of-ended : (pass page : ℕ) (how : End) (h : List Effect) → quota_of (Ended pass page how ∷ h) ≡ quota_of h
unfolding quota_of
quota_of-ended pass page how h = refl

pub quota_of-synced : (pass : ℕ) (how : End) (h : List Effect) → quota_of (Synced pass how ∷ h) ≡ quota_of h
unfolding quota_of
quota_of-synced pass how h = refl

pub is_temporary-opens_mapped : {file : File} {given : FileSizes} {quota : ℕ} {temporary : Bool} (pass : ℕ) (call : Call) (reply : Reply) (h : List Effect) → act_of call ≡ Opens file given quota temporary → is_mapped h ≡ true → is_temporary (Did pass call reply ∷ h) ≡ is_temporary h
unfolding is_temporary
is_temporary-opens_mapped pass call reply h is p0 = rw (is, p0, is_temporary) refl

pub is_temporary-opens_anew : {file : File} {given : FileSizes} {quota : ℕ} {temporary : Bool} (pass : ℕ) (call : Call) (reply : Reply) (h : List Effect) → act_of call ≡ Opens file given quota temporary → is_mapped h ≡ false → is_temporary (Did pass call reply ∷ h) ≡ temporary
unfolding is_temporary
is_temporary-opens_anew pass call reply h is p0 = rw (is, p0, is_temporary) refl

pub is_temporary-closes : {file : File} {truncate : Option ℕ} (pass : ℕ) (call : Call) (reply : Reply) (h : List Effect) → act_of call ≡ Closes file truncate → is_temporary (Did pass call reply ∷ h) ≡ is_temporary h
unfolding is_temporary
is_temporary-closes pass call reply h is = rw (is, is_temporary) refl

pub is_temporary-resizes : {allocation size : ℕ} (pass : ℕ) (call : Call) (reply : Reply) (h : List Effect) → act_of call ≡ Resizes allocation size → is_temporary (Did pass call reply ∷ h) ≡ is_temporary h
unfolding is_temporary
is_temporary-resizes pass call reply h is = rw (is, is_temporary) refl

pub is_temporary-writes : {at : ℕ} {bytes : List ℕ} (pass : ℕ) (call : Call) (reply : Reply) (h : List Effect) → act_of call ≡ Writes at bytes → is_temporary (Did pass call reply ∷ h) ≡ is_temporary h
unfolding is_temporary
is_temporary-writes pass call reply h is = rw (is, is_temporary) refl

pub is_temporary-zeroes : {from to : ℕ} (pass : ℕ) (call : Call) (reply : Reply) (h : List Effect) → act_of call ≡ Zeroes from to → is_temporary (Did pass call reply ∷ h) ≡ is_temporary h
unfolding is_temporary
is_temporary-zeroes pass call reply h is = rw (is, is_temporary) refl

pub is_temporary-stores : {page : ℕ} {bytes : List ℕ} (pass : ℕ) (call : Call) (reply : Reply) (h : List Effect) → act_of call ≡ Stores page bytes → is_temporary (Did pass call reply ∷ h) ≡ is_temporary h
unfolding is_temporary
is_temporary-stores pass call reply h is = rw (is, is_temporary) refl

pub is_temporary-stamps : {hold : ℕ} {lsn : Option ℕ} (pass : ℕ) (call : Call) (reply : Reply) (h : List Effect) → act_of call ≡ Stamps hold lsn → is_temporary (Did pass call reply ∷ h) ≡ is_temporary h
unfolding is_temporary
is_temporary-stamps pass call reply h is = rw (is, is_temporary) refl

pub is_temporary-discards : {span : Option Range} (pass : ℕ) (call : Call) (reply : Reply) (h : List Effect) → act_of call ≡ Discards span → is_temporary (Did pass call reply ∷ h) ≡ is_temporary h
unfolding is_temporary
is_temporary-discards pass call reply h is = rw (is, is_temporary) refl

pub is_temporary-looks : (pass : ℕ) (call : Call) (reply : Reply) (h : List Effect) → act_of call ≡ Looks → is_temporary (Did pass call reply ∷ h) ≡ is_temporary h
unfolding is_temporary
is_temporary-looks pass call reply h is = rw (is, is_temporary) refl

pub is_temporary-came_in : (pass page : ℕ) (from_disk : Bool) (h : List Effect) → is_temporary (CameIn pass page from_disk ∷ h) ≡ is_temporary h
unfolding is_temporary
is_temporary-came_in pass page from_disk h = refl

pub is_temporary-went_out : (pass page : ℕ) (h : List Effect) → is_temporary (WentOut pass page ∷ h) ≡ is_temporary h
unfolding is_temporary
is_temporary-went_out pass page h = refl

pub is_temporary-began : (pass page : ℕ) (h : List Effect) → is_temporary (Began pass page ∷ h) ≡ is_temporary h
unfolding is_temporary
is_temporary-began pass page h = refl

pub is_temporary-ended : (pass page : ℕ) (how : End) (h : List Effect) → is_temporary (Ended pass page how ∷ h) ≡ is_temporary h
unfolding is_temporary
is_temporary-ended pass page how h = refl

pub is_temporary-synced : (pass : ℕ) (how : End) (h : List Effect) → is_temporary (Synced pass how ∷ h) ≡ is_temporary h
unfolding is_temporary
is_temporary-synced pass how h = refl

pub allocation_of-opens_mapped : {file : File} {given : FileSizes} {quota : ℕ} {temporary : Bool} (pass : ℕ) (call : Call) (reply : Reply) (h : List Effect) → act_of call ≡ Opens file given quota temporary → is_mapped h ≡ true → allocation_of (Did pass call reply ∷ h) ≡ allocation_of h
unfolding allocation_of
allocation_of-opens_mapped pass call reply h is p0 = rw (is, p0, allocation_of) refl

pub allocation_of-opens_anew : {file : File} {given : FileSizes} {quota : ℕ} {temporary : Bool} (pass : ℕ) (call : Call) (reply : Reply) (h : List Effect) → act_of call ≡ Opens file given quota temporary → is_mapped h ≡ false → allocation_of (Did pass call reply ∷ h) ≡ given.allocation
unfolding allocation_of
allocation_of-opens_anew pass call reply h is p0 = rw (is, p0, allocation_of) refl

pub allocation_of-closes : {file : File} {truncate : Option ℕ} (pass : ℕ) (call : Call) (reply : Reply) (h : List Effect) → act_of call ≡ Closes file truncate → allocation_of (Did pass call reply ∷ h) ≡ allocation_of h
unfolding allocation_of
allocation_of-closes pass call reply h is = rw (is, allocation_of) refl

pub allocation_of-resizes : {allocation size : ℕ} (pass : ℕ) (call : Call) (reply : Reply) (h : List Effect) → act_of call ≡ Resizes allocation size → allocation_of (Did pass call reply ∷ h) ≡ allocation
unfolding allocation_of
allocation_of-resizes pass call reply h is = rw (is, allocation_of) refl

pub allocation_of-writes : {at : ℕ} {bytes : List ℕ} (pass : ℕ) (call : Call) (reply : Reply) (h : List Effect) → act_of call ≡ Writes at bytes → allocation_of (Did pass call reply ∷ h) ≡ allocation_of h
unfolding allocation_of
allocation_of-writes pass call reply h is = rw (is, allocation_of) refl

pub allocation_of-zeroes : {from to : ℕ} (pass : ℕ) (call : Call) (reply : Reply) (h : List Effect) → act_of call ≡ Zeroes from to → allocation_of (Did pass call reply ∷ h) ≡ allocation_of h
unfolding allocation_of
allocation_of-zeroes pass call reply h is = rw (is, allocation_of) refl

pub allocation_of-stores : {page : ℕ} {bytes : List ℕ} (pass : ℕ) (call : Call) (reply : Reply) (h : List Effect) → act_of call ≡ Stores page bytes → allocation_of (Did pass call reply ∷ h) ≡ allocation_of h
unfolding allocation_of
allocation_of-stores pass call reply h is = rw (is, allocation_of) refl

pub allocation_of-stamps : {hold : ℕ} {lsn : Option ℕ} (pass : ℕ) (call : Call) (reply : Reply) (h : List Effect) → act_of call ≡ Stamps hold lsn → allocation_of (Did pass call reply ∷ h) ≡ allocation_of h
unfolding allocation_of
allocation_of-stamps pass call reply h is = rw (is, allocation_of) refl

pub allocation_of-discards : {span : Option Range} (pass : ℕ) (call : Call) (reply : Reply) (h : List Effect) → act_of call ≡ Discards span → allocation_of (Did pass call reply ∷ h) ≡ allocation_of h
unfolding allocation_of
allocation_of-discards pass call reply h is = rw (is, allocation_of) refl

pub allocation_of-looks : (pass : ℕ) (call : Call) (reply : Reply) (h : List Effect) → act_of call ≡ Looks → allocation_of (Did pass call reply ∷ h) ≡ allocation_of h
unfolding allocation_of
allocation_of-looks pass call reply h is = rw (is, allocation_of) refl

pub allocation_of-came_in : (pass page : ℕ) (from_disk : Bool) (h : List Effect) → allocation_of (CameIn pass page from_disk ∷ h) ≡ allocation_of h
unfolding allocation_of
allocation_of-came_in pass page from_disk h = refl

pub allocation_of-went_out : (pass page : ℕ) (h : List Effect) → allocation_of (WentOut pass page ∷ h) ≡ allocation_of h
unfolding allocation_of
allocation_of-went_out pass page h = refl

pub allocation_of-began : (pass page : ℕ) (h : List Effect) → allocation_of (Began pass page ∷ h) ≡ allocation_of h
unfolding allocation_of
allocation_of-began pass page h = refl

pub allocation_of-ended : (pass page : ℕ) (how : End) (h : List Effect) → allocation_of (Ended pass page how ∷ h) ≡ allocation_of h
unfolding allocation_of
allocation_of-ended pass page how h = refl

pub allocation_of-synced : (pass : ℕ) (how : End) (h : List Effect) → allocation_of (Synced pass how ∷ h) ≡ allocation_of h
unfolding allocation_of
allocation_of-synced pass how h = refl
