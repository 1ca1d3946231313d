-- Whether a page is dirty, behind each kind of entry: what touches it, what cuts it, and what leaves it as it was.
use Rattle.std.specs.Prelude.{◌≡◌, ℕ, ◌+◌, ◌*◌, Bool, true, false, ◌==◌, nat_le, List, ◌∷◌, length, refl}
use Rattle.std.specs.declared.option.Option.{Option}
use Rattle.std.specs.declared.option.Option.TheVariants.{Some, None}
use Rattle.cc_entry.specs.Place.{File, Range}
use Rattle.cc_entry.specs.declared.place.FileSizes.{FileSizes}
use Rattle.cc_entry.specs.declared.call.Call.{Call}
use Rattle.cc_entry.specs.declared.reply.Reply.{Reply}
use Rattle.cc_entry.specs.declared.entry.End.{End}
use Rattle.cc_model.specs.History.{Effect, Did, CameIn, WentOut, Began, Ended, Synced}
use Rattle.cc_model.specs.Acts.{act_of, Opens, Closes, Resizes, Writes, Zeroes, Stores, Stamps, Discards, Looks}
use Rattle.cc_entry.specs.Pages.{has_page}
use Rattle.cc_model.specs.Holds.{holds_of, hold_at}
use Rattle.cc_model.specs.Objects.{objects, truncation}
use Rattle.cc_model.specs.Sizes.{hold_has, stored_range, ended_ok}
use Rattle.cc_model.specs.Ranges.{span_has}
use Rattle.cc_model.specs.Touches.{size_of, is_dirty}
use Rattle.cc_laws.proofs.TouchSteps.{touches-opens, touches-closes, touches-resizes, touches-writes, touches-zeroes, touches-stores, touches-stamps, touches-discards, touches-looks, touches-came_in, touches-went_out, touches-began_open, touches-ended_bad, touches-ended_other, touches-synced}

pub is_dirty-opens : {file : File} {given : FileSizes} {quota : ℕ} {temporary : Bool} (pass : ℕ) (call : Call) (reply : Reply) (h : List Effect) (p : ℕ) → act_of call ≡ Opens file given quota temporary → is_dirty (Did pass call reply ∷ h) p ≡ is_dirty h p
is_dirty-opens pass call reply h p is = rw (touches-opens false pass call reply h p is, is_dirty) refl

pub is_dirty-closes_kept : {file : File} {truncate : Option ℕ} (pass : ℕ) (call : Call) (reply : Reply) (h : List Effect) (p : ℕ) → act_of call ≡ Closes file truncate → truncation (objects h) (size_of h) file truncate ≡ None → is_dirty (Did pass call reply ∷ h) p ≡ is_dirty h p
is_dirty-closes_kept pass call reply h p is p0 = rw (touches-closes false pass call reply h p is, p0, is_dirty) refl

pub is_dirty-closes_cut : {file : File} {truncate : Option ℕ} (pass : ℕ) (call : Call) (reply : Reply) (h : List Effect) (p : ℕ) → act_of call ≡ Closes file truncate → {to : ℕ} → truncation (objects h) (size_of h) file truncate ≡ Some to → nat_le to (4096 * p) ≡ true → is_dirty (Did pass call reply ∷ h) p ≡ false
is_dirty-closes_cut pass call reply h p is p0 p1 = rw (touches-closes false pass call reply h p is, p0, is_dirty) (rw p1 refl)

pub is_dirty-closes_below : {file : File} {truncate : Option ℕ} (pass : ℕ) (call : Call) (reply : Reply) (h : List Effect) (p : ℕ) → act_of call ≡ Closes file truncate → {to : ℕ} → truncation (objects h) (size_of h) file truncate ≡ Some to → nat_le to (4096 * p) ≡ false → is_dirty (Did pass call reply ∷ h) p ≡ is_dirty h p
is_dirty-closes_below pass call reply h p is p0 p1 = rw (touches-closes false pass call reply h p is, p0, is_dirty) (rw p1 refl)

pub is_dirty-resizes_cut : {allocation size : ℕ} (pass : ℕ) (call : Call) (reply : Reply) (h : List Effect) (p : ℕ) → act_of call ≡ Resizes allocation size → nat_le size (4096 * p) ≡ true → is_dirty (Did pass call reply ∷ h) p ≡ false
is_dirty-resizes_cut pass call reply h p is p0 = rw (touches-resizes false pass call reply h p is, p0, is_dirty) refl

pub is_dirty-resizes_kept : {allocation size : ℕ} (pass : ℕ) (call : Call) (reply : Reply) (h : List Effect) (p : ℕ) → act_of call ≡ Resizes allocation size → nat_le size (4096 * p) ≡ false → is_dirty (Did pass call reply ∷ h) p ≡ is_dirty h p
is_dirty-resizes_kept pass call reply h p is p0 = rw (touches-resizes false pass call reply h p is, p0, is_dirty) refl

pub is_dirty-writes_on : {at : ℕ} {bytes : List ℕ} (pass : ℕ) (call : Call) (reply : Reply) (h : List Effect) (p : ℕ) → act_of call ≡ Writes at bytes → has_page (record { from = at; to = at + length bytes }) p ≡ true → is_dirty (Did pass call reply ∷ h) p ≡ true
is_dirty-writes_on pass call reply h p is p0 = rw (touches-writes false pass call reply h p is, p0, is_dirty) refl

pub is_dirty-writes_off : {at : ℕ} {bytes : List ℕ} (pass : ℕ) (call : Call) (reply : Reply) (h : List Effect) (p : ℕ) → act_of call ≡ Writes at bytes → has_page (record { from = at; to = at + length bytes }) p ≡ false → is_dirty (Did pass call reply ∷ h) p ≡ is_dirty h p
is_dirty-writes_off pass call reply h p is p0 = rw (touches-writes false pass call reply h p is, p0, is_dirty) refl

pub is_dirty-zeroes_on : {from to : ℕ} (pass : ℕ) (call : Call) (reply : Reply) (h : List Effect) (p : ℕ) → act_of call ≡ Zeroes from to → has_page (record { from = from; to = to }) p ≡ true → is_dirty (Did pass call reply ∷ h) p ≡ true
is_dirty-zeroes_on pass call reply h p is p0 = rw (touches-zeroes false pass call reply h p is, p0, is_dirty) refl

pub is_dirty-zeroes_off : {from to : ℕ} (pass : ℕ) (call : Call) (reply : Reply) (h : List Effect) (p : ℕ) → act_of call ≡ Zeroes from to → has_page (record { from = from; to = to }) p ≡ false → is_dirty (Did pass call reply ∷ h) p ≡ is_dirty h p
is_dirty-zeroes_off pass call reply h p is p0 = rw (touches-zeroes false pass call reply h p is, p0, is_dirty) refl

pub is_dirty-stores_on : {page : ℕ} {bytes : List ℕ} (pass : ℕ) (call : Call) (reply : Reply) (h : List Effect) (p : ℕ) → act_of call ≡ Stores page bytes → has_page (stored_range page (size_of h)) p ≡ true → is_dirty (Did pass call reply ∷ h) p ≡ true
is_dirty-stores_on pass call reply h p is p0 = rw (touches-stores false pass call reply h p is, p0, is_dirty) refl

pub is_dirty-stores_off : {page : ℕ} {bytes : List ℕ} (pass : ℕ) (call : Call) (reply : Reply) (h : List Effect) (p : ℕ) → act_of call ≡ Stores page bytes → has_page (stored_range page (size_of h)) p ≡ false → is_dirty (Did pass call reply ∷ h) p ≡ is_dirty h p
is_dirty-stores_off pass call reply h p is p0 = rw (touches-stores false pass call reply h p is, p0, is_dirty) refl

pub is_dirty-stamps_on : {hold : ℕ} {lsn : Option ℕ} (pass : ℕ) (call : Call) (reply : Reply) (h : List Effect) (p : ℕ) → act_of call ≡ Stamps hold lsn → hold_has (hold_at (holds_of h) hold) p ≡ true → is_dirty (Did pass call reply ∷ h) p ≡ true
is_dirty-stamps_on pass call reply h p is p0 = rw (touches-stamps false pass call reply h p is, p0, is_dirty) refl

pub is_dirty-stamps_off : {hold : ℕ} {lsn : Option ℕ} (pass : ℕ) (call : Call) (reply : Reply) (h : List Effect) (p : ℕ) → act_of call ≡ Stamps hold lsn → hold_has (hold_at (holds_of h) hold) p ≡ false → is_dirty (Did pass call reply ∷ h) p ≡ is_dirty h p
is_dirty-stamps_off pass call reply h p is p0 = rw (touches-stamps false pass call reply h p is, p0, is_dirty) refl

pub is_dirty-discards_on : {span : Option Range} (pass : ℕ) (call : Call) (reply : Reply) (h : List Effect) (p : ℕ) → act_of call ≡ Discards span → span_has span p ≡ true → is_dirty (Did pass call reply ∷ h) p ≡ false
is_dirty-discards_on pass call reply h p is p0 = rw (touches-discards false pass call reply h p is, p0, is_dirty) refl

pub is_dirty-discards_off : {span : Option Range} (pass : ℕ) (call : Call) (reply : Reply) (h : List Effect) (p : ℕ) → act_of call ≡ Discards span → span_has span p ≡ false → is_dirty (Did pass call reply ∷ h) p ≡ is_dirty h p
is_dirty-discards_off pass call reply h p is p0 = rw (touches-discards false pass call reply h p is, p0, is_dirty) refl

pub is_dirty-looks : (pass : ℕ) (call : Call) (reply : Reply) (h : List Effect) (p : ℕ) → act_of call ≡ Looks → is_dirty (Did pass call reply ∷ h) p ≡ is_dirty h p
is_dirty-looks pass call reply h p is = rw (touches-looks false pass call reply h p is, is_dirty) refl

pub is_dirty-came_in : (pass page : ℕ) (from_disk : Bool) (h : List Effect) (p : ℕ) → is_dirty (CameIn pass page from_disk ∷ h) p ≡ is_dirty h p
is_dirty-came_in pass page from_disk h p = rw (touches-came_in false pass page from_disk h p, is_dirty) refl

pub is_dirty-went_out : (pass page : ℕ) (h : List Effect) (p : ℕ) → is_dirty (WentOut pass page ∷ h) p ≡ is_dirty h p
is_dirty-went_out pass page h p = rw (touches-went_out false pass page h p, is_dirty) refl

pub is_dirty-began : (pass page : ℕ) (h : List Effect) (p : ℕ) → is_dirty (Began pass page ∷ h) p ≡ is_dirty h p
is_dirty-began pass page h p = rw (touches-began_open pass page h p, is_dirty) refl

pub is_dirty-ended_bad : (pass page : ℕ) (how : End) (h : List Effect) (p : ℕ) → ended_ok how ≡ false → is_dirty (Ended pass page how ∷ h) p ≡ is_dirty h p
is_dirty-ended_bad pass page how h p p0 = rw (touches-ended_bad false pass page how h p p0, is_dirty) refl

pub is_dirty-ended_other : (pass page : ℕ) (how : End) (h : List Effect) (p : ℕ) → (page == p) ≡ false → is_dirty (Ended pass page how ∷ h) p ≡ is_dirty h p
is_dirty-ended_other pass page how h p p0 = rw (touches-ended_other false pass page how h p p0, is_dirty) refl

pub is_dirty-synced : (pass : ℕ) (how : End) (h : List Effect) (p : ℕ) → is_dirty (Synced pass how ∷ h) p ≡ is_dirty h p
is_dirty-synced pass how h p = rw (touches-synced false pass how h p, is_dirty) refl
