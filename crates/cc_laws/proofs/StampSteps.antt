-- How the least and the greatest LSN of a page that are not yet written step. A change of bytes gives no
-- stamp.
use Rattle.std.specs.Prelude.{◌≡◌, ℕ, ◌*◌, Bool, true, false, ◌==◌, nat_le, List, ◌∷◌, refl}
use Rattle.std.specs.declared.option.Option.{Option}
use Rattle.std.specs.declared.option.Option.TheVariants.{Some, None}
use Rattle.cc_entry.specs.Place.{File, Range}
use Rattle.cc_entry.specs.declared.place.FileSizes.{FileSizes}
use Rattle.cc_entry.specs.declared.call.Call.{Call}
use Rattle.cc_entry.specs.declared.reply.Reply.{Reply}
use Rattle.cc_entry.specs.declared.entry.End.{End}
use Rattle.cc_model.specs.History.{Effect, Did, CameIn, WentOut, Began, Ended, Synced}
use Rattle.cc_model.specs.Acts.{act_of, Opens, Closes, Resizes, Writes, Zeroes, Stores, Stamps, Discards, Looks}
use Rattle.cc_model.specs.Holds.{holds_of, hold_at}
use Rattle.cc_model.specs.Objects.{objects, truncation}
use Rattle.cc_model.specs.Sizes.{Touch, touched_if, hold_has, ended_ok}
use Rattle.cc_model.specs.Ranges.{span_has}
use Rattle.cc_model.specs.Touches.{touches, size_of}
use Rattle.cc_entry.specs.Lsns.{joined, lsn_alone}
use Rattle.cc_model.specs.Stamps.{lsns_among, lsns_of, is_unstamped}
use Rattle.cc_laws.proofs.HoldSteps.{holds_of-came_in, holds_of-went_out, holds_of-began, holds_of-ended, holds_of-synced, changes_holds, holds_of-other}
use Rattle.cc_laws.proofs.TouchSteps.{touches-opens, touches-closes, touches-resizes, touches-writes, touches-zeroes, touches-stores, touches-stamps, touches-discards, touches-looks, touches-came_in, touches-went_out, touches-began_open, touches-ended_bad, touches-ended_other, touches-synced}

lsns_among-unstamped : (b : Bool) (place : ℕ) (rest : List Touch) → lsns_among (touched_if b place None rest) ≡ lsns_among rest
lsns_among-unstamped true place rest = refl
lsns_among-unstamped false place rest = refl

pub lsns_of-opens : {file : File} {given : FileSizes} {quota : ℕ} {temporary : Bool} (pass : ℕ) (call : Call) (reply : Reply) (h : List Effect) (p : ℕ) → act_of call ≡ Opens file given quota temporary → lsns_of (Did pass call reply ∷ h) p ≡ lsns_of h p
lsns_of-opens pass call reply h p is = rw (touches-opens false pass call reply h p is, lsns_of) refl

pub lsns_of-closes_kept : {file : File} {truncate : Option ℕ} (pass : ℕ) (call : Call) (reply : Reply) (h : List Effect) (p : ℕ) → act_of call ≡ Closes file truncate → truncation (objects h) (size_of h) file truncate ≡ None → lsns_of (Did pass call reply ∷ h) p ≡ lsns_of h p
lsns_of-closes_kept pass call reply h p is p0 = rw (touches-closes false pass call reply h p is, p0, lsns_of) refl

pub lsns_of-closes_cut : {file : File} {truncate : Option ℕ} (pass : ℕ) (call : Call) (reply : Reply) (h : List Effect) (p : ℕ) → act_of call ≡ Closes file truncate → {to : ℕ} → truncation (objects h) (size_of h) file truncate ≡ Some to → nat_le to (4096 * p) ≡ true → lsns_of (Did pass call reply ∷ h) p ≡ None
lsns_of-closes_cut pass call reply h p is p0 p1 = rw (touches-closes false pass call reply h p is, p0, lsns_of) (rw p1 refl)

pub lsns_of-closes_below : {file : File} {truncate : Option ℕ} (pass : ℕ) (call : Call) (reply : Reply) (h : List Effect) (p : ℕ) → act_of call ≡ Closes file truncate → {to : ℕ} → truncation (objects h) (size_of h) file truncate ≡ Some to → nat_le to (4096 * p) ≡ false → lsns_of (Did pass call reply ∷ h) p ≡ lsns_of h p
lsns_of-closes_below pass call reply h p is p0 p1 = rw (touches-closes false pass call reply h p is, p0, lsns_of) (rw p1 refl)

pub lsns_of-resizes_cut : {allocation size : ℕ} (pass : ℕ) (call : Call) (reply : Reply) (h : List Effect) (p : ℕ) → act_of call ≡ Resizes allocation size → nat_le size (4096 * p) ≡ true → lsns_of (Did pass call reply ∷ h) p ≡ None
lsns_of-resizes_cut pass call reply h p is p0 = rw (touches-resizes false pass call reply h p is, p0, lsns_of) refl

pub lsns_of-resizes_kept : {allocation size : ℕ} (pass : ℕ) (call : Call) (reply : Reply) (h : List Effect) (p : ℕ) → act_of call ≡ Resizes allocation size → nat_le size (4096 * p) ≡ false → lsns_of (Did pass call reply ∷ h) p ≡ lsns_of h p
lsns_of-resizes_kept pass call reply h p is p0 = rw (touches-resizes false pass call reply h p is, p0, lsns_of) refl

pub lsns_of-writes : {at : ℕ} {bytes : List ℕ} (pass : ℕ) (call : Call) (reply : Reply) (h : List Effect) (p : ℕ) → act_of call ≡ Writes at bytes → lsns_of (Did pass call reply ∷ h) p ≡ lsns_of h p
lsns_of-writes pass call reply h p is = rw (touches-writes false pass call reply h p is, lsns_of) (lsns_among-unstamped _ _ (touches false h p))

pub lsns_of-zeroes : {from to : ℕ} (pass : ℕ) (call : Call) (reply : Reply) (h : List Effect) (p : ℕ) → act_of call ≡ Zeroes from to → lsns_of (Did pass call reply ∷ h) p ≡ lsns_of h p
lsns_of-zeroes pass call reply h p is = rw (touches-zeroes false pass call reply h p is, lsns_of) (lsns_among-unstamped _ _ (touches false h p))

pub lsns_of-stores : {page : ℕ} {bytes : List ℕ} (pass : ℕ) (call : Call) (reply : Reply) (h : List Effect) (p : ℕ) → act_of call ≡ Stores page bytes → lsns_of (Did pass call reply ∷ h) p ≡ lsns_of h p
lsns_of-stores pass call reply h p is = rw (touches-stores false pass call reply h p is, lsns_of) (lsns_among-unstamped _ _ (touches false h p))

pub lsns_of-stamps_on : {hold : ℕ} {lsn : Option ℕ} (pass : ℕ) (call : Call) (reply : Reply) (h : List Effect) (p : ℕ) → act_of call ≡ Stamps hold lsn → hold_has (hold_at (holds_of h) hold) p ≡ true → lsns_of (Did pass call reply ∷ h) p ≡ joined (lsn_alone lsn) (lsns_of h p)
lsns_of-stamps_on pass call reply h p is p0 = rw (touches-stamps false pass call reply h p is, p0, lsns_of) refl

pub lsns_of-stamps_off : {hold : ℕ} {lsn : Option ℕ} (pass : ℕ) (call : Call) (reply : Reply) (h : List Effect) (p : ℕ) → act_of call ≡ Stamps hold lsn → hold_has (hold_at (holds_of h) hold) p ≡ false → lsns_of (Did pass call reply ∷ h) p ≡ lsns_of h p
lsns_of-stamps_off pass call reply h p is p0 = rw (touches-stamps false pass call reply h p is, p0, lsns_of) refl

pub lsns_of-discards_on : {span : Option Range} (pass : ℕ) (call : Call) (reply : Reply) (h : List Effect) (p : ℕ) → act_of call ≡ Discards span → span_has span p ≡ true → lsns_of (Did pass call reply ∷ h) p ≡ None
lsns_of-discards_on pass call reply h p is p0 = rw (touches-discards false pass call reply h p is, p0, lsns_of) refl

pub lsns_of-discards_off : {span : Option Range} (pass : ℕ) (call : Call) (reply : Reply) (h : List Effect) (p : ℕ) → act_of call ≡ Discards span → span_has span p ≡ false → lsns_of (Did pass call reply ∷ h) p ≡ lsns_of h p
lsns_of-discards_off pass call reply h p is p0 = rw (touches-discards false pass call reply h p is, p0, lsns_of) refl

pub lsns_of-looks : (pass : ℕ) (call : Call) (reply : Reply) (h : List Effect) (p : ℕ) → act_of call ≡ Looks → lsns_of (Did pass call reply ∷ h) p ≡ lsns_of h p
lsns_of-looks pass call reply h p is = rw (touches-looks false pass call reply h p is, lsns_of) refl

pub lsns_of-came_in : (pass page : ℕ) (from_disk : Bool) (h : List Effect) (p : ℕ) → lsns_of (CameIn pass page from_disk ∷ h) p ≡ lsns_of h p
lsns_of-came_in pass page from_disk h p = rw (touches-came_in false pass page from_disk h p, lsns_of) refl

pub lsns_of-went_out : (pass page : ℕ) (h : List Effect) (p : ℕ) → lsns_of (WentOut pass page ∷ h) p ≡ lsns_of h p
lsns_of-went_out pass page h p = rw (touches-went_out false pass page h p, lsns_of) refl

pub lsns_of-began : (pass page : ℕ) (h : List Effect) (p : ℕ) → lsns_of (Began pass page ∷ h) p ≡ lsns_of h p
lsns_of-began pass page h p = rw (touches-began_open pass page h p, lsns_of) refl

pub lsns_of-ended_bad : (pass page : ℕ) (how : End) (h : List Effect) (p : ℕ) → ended_ok how ≡ false → lsns_of (Ended pass page how ∷ h) p ≡ lsns_of h p
lsns_of-ended_bad pass page how h p p0 = rw (touches-ended_bad false pass page how h p p0, lsns_of) refl

pub lsns_of-ended_other : (pass page : ℕ) (how : End) (h : List Effect) (p : ℕ) → (page == p) ≡ false → lsns_of (Ended pass page how ∷ h) p ≡ lsns_of h p
lsns_of-ended_other pass page how h p p0 = rw (touches-ended_other false pass page how h p p0, lsns_of) refl

pub lsns_of-synced : (pass : ℕ) (how : End) (h : List Effect) (p : ℕ) → lsns_of (Synced pass how ∷ h) p ≡ lsns_of h p
lsns_of-synced pass how h p = rw (touches-synced false pass how h p, lsns_of) refl

-- whether a page is owed a stamp goes by the holds alone

pub is_unstamped-came_in : (pass page : ℕ) (from_disk : Bool) (h : List Effect) (p : ℕ) → is_unstamped (CameIn pass page from_disk ∷ h) p ≡ is_unstamped h p
is_unstamped-came_in pass page from_disk h p = rw (holds_of-came_in pass page from_disk h, is_unstamped) refl

pub is_unstamped-went_out : (pass page : ℕ) (h : List Effect) (p : ℕ) → is_unstamped (WentOut pass page ∷ h) p ≡ is_unstamped h p
is_unstamped-went_out pass page h p = rw (holds_of-went_out pass page h, is_unstamped) refl

pub is_unstamped-began : (pass page : ℕ) (h : List Effect) (p : ℕ) → is_unstamped (Began pass page ∷ h) p ≡ is_unstamped h p
is_unstamped-began pass page h p = rw (holds_of-began pass page h, is_unstamped) refl

pub is_unstamped-ended : (pass page : ℕ) (how : End) (h : List Effect) (p : ℕ) → is_unstamped (Ended pass page how ∷ h) p ≡ is_unstamped h p
is_unstamped-ended pass page how h p = rw (holds_of-ended pass page how h, is_unstamped) refl

pub is_unstamped-synced : (pass : ℕ) (how : End) (h : List Effect) (p : ℕ) → is_unstamped (Synced pass how ∷ h) p ≡ is_unstamped h p
is_unstamped-synced pass how h p = rw (holds_of-synced pass how h, is_unstamped) refl

pub is_unstamped-other : (pass : ℕ) (call : Call) (reply : Reply) (h : List Effect) (p : ℕ) → changes_holds call ≡ false → is_unstamped (Did pass call reply ∷ h) p ≡ is_unstamped h p
is_unstamped-other pass call reply h p kept = rw (holds_of-other pass call reply h kept, is_unstamped) refl
