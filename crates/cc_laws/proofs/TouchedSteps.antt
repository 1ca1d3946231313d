-- How the pages that were ever touched step.
use Rattle.std.specs.Prelude.{◌≡◌, ℕ, ◌+◌, Bool, List, ◌∷◌, ◌++◌, length, refl}
use Rattle.std.specs.declared.option.Option.{Option}
use Rattle.cc_entry.specs.Place.{File, Range}
use Rattle.cc_entry.specs.declared.place.FileSizes.{FileSizes}
use Rattle.cc_entry.specs.declared.call.Call.{Call}
use Rattle.cc_entry.specs.declared.reply.Reply.{Reply}
use Rattle.cc_entry.specs.declared.entry.End.{End}
use Rattle.cc_model.specs.History.{Effect, Did, CameIn, WentOut, Began, Ended, Synced}
use Rattle.cc_model.specs.Acts.{act_of, Opens, Closes, Resizes, Writes, Zeroes, Stores, Stamps, Discards, Looks}
use Rattle.cc_entry.specs.Pages.{pages_of}
use Rattle.cc_model.specs.Holds.{holds_of, hold_at}
use Rattle.cc_model.specs.Sizes.{hold_pages}
use Rattle.cc_model.specs.Touches.{touched}

pub touched-opens : {file : File} {given : FileSizes} {quota : ℕ} {temporary : Bool} (pass : ℕ) (call : Call) (reply : Reply) (h : List Effect) → act_of call ≡ Opens file given quota temporary → touched (Did pass call reply ∷ h) ≡ touched h
unfolding touched
touched-opens pass call reply h is = rw (is, touched) refl

pub touched-closes : {file : File} {truncate : Option ℕ} (pass : ℕ) (call : Call) (reply : Reply) (h : List Effect) → act_of call ≡ Closes file truncate → touched (Did pass call reply ∷ h) ≡ touched h
unfolding touched
touched-closes pass call reply h is = rw (is, touched) refl

pub touched-resizes : {allocation size : ℕ} (pass : ℕ) (call : Call) (reply : Reply) (h : List Effect) → act_of call ≡ Resizes allocation size → touched (Did pass call reply ∷ h) ≡ touched h
unfolding touched
touched-resizes pass call reply h is = rw (is, touched) refl

pub touched-writes : {at : ℕ} {bytes : List ℕ} (pass : ℕ) (call : Call) (reply : Reply) (h : List Effect) → act_of call ≡ Writes at bytes → touched (Did pass call reply ∷ h) ≡ pages_of (record { from = at; to = at + length bytes }) ++ touched h
unfolding touched
touched-writes pass call reply h is = rw (is, touched) refl

pub touched-zeroes : {from to : ℕ} (pass : ℕ) (call : Call) (reply : Reply) (h : List Effect) → act_of call ≡ Zeroes from to → touched (Did pass call reply ∷ h) ≡ pages_of (record { from = from; to = to }) ++ touched h
unfolding touched
touched-zeroes pass call reply h is = rw (is, touched) refl

pub touched-stores : {page : ℕ} {bytes : List ℕ} (pass : ℕ) (call : Call) (reply : Reply) (h : List Effect) → act_of call ≡ Stores page bytes → touched (Did pass call reply ∷ h) ≡ page ∷ touched h
unfolding touched
touched-stores pass call reply h is = rw (is, touched) refl

pub touched-stamps : {hold : ℕ} {lsn : Option ℕ} (pass : ℕ) (call : Call) (reply : Reply) (h : List Effect) → act_of call ≡ Stamps hold lsn → touched (Did pass call reply ∷ h) ≡ hold_pages (hold_at (holds_of h) hold) ++ touched h
unfolding touched
touched-stamps pass call reply h is = rw (is, touched) refl

pub touched-discards : {span : Option Range} (pass : ℕ) (call : Call) (reply : Reply) (h : List Effect) → act_of call ≡ Discards span → touched (Did pass call reply ∷ h) ≡ touched h
unfolding touched
touched-discards pass call reply h is = rw (is, touched) refl

pub touched-looks : (pass : ℕ) (call : Call) (reply : Reply) (h : List Effect) → act_of call ≡ Looks → touched (Did pass call reply ∷ h) ≡ touched h
unfolding touched
touched-looks pass call reply h is = rw (is, touched) refl

pub touched-came_in : (pass page : ℕ) (from_disk : Bool) (h : List Effect) → touched (CameIn pass page from_disk ∷ h) ≡ touched h
unfolding touched
touched-came_in pass page from_disk h = refl

pub touched-went_out : (pass page : ℕ) (h : List Effect) → touched (WentOut pass page ∷ h) ≡ touched h
unfolding touched
touched-went_out pass page h = refl

pub touched-began : (pass page : ℕ) (h : List Effect) → touched (Began pass page ∷ h) ≡ touched h
unfolding touched
touched-began pass page h = refl

pub touched-ended : (pass page : ℕ) (how : End) (h : List Effect) → touched (Ended pass page how ∷ h) ≡ touched h
unfolding touched
touched-ended pass page how h = refl

pub touched-synced : (pass : ℕ) (how : End) (h : List Effect) → touched (Synced pass how ∷ h) ≡ touched h
unfolding touched
touched-synced pass how h = refl
