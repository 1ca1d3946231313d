-- How the touches of a page that are neither written nor cut step.
use Rattle.std.specs.Prelude.{◌≡◌, ℕ, suc, ◌+◌, Bool, true, false, ◌==◌, ◌&&◌, List, [], ◌∷◌, length, refl}
use Rattle.std.proofs.Common.{ap}
use Rattle.std.specs.declared.option.Option.{Option}
use Rattle.std.specs.declared.option.Option.TheVariants.{Some, None}
use Rattle.cc_entry.specs.Place.{File, Range}
use Rattle.cc_entry.specs.declared.place.FileSizes.{FileSizes}
use Rattle.cc_entry.specs.declared.call.Call.{Call}
use Rattle.cc_entry.specs.declared.reply.Reply.{Reply}
use Rattle.cc_entry.specs.declared.entry.End.{End}
use Rattle.cc_model.specs.History.{Effect, Did, CameIn, WentOut, Began, Ended, Synced}
use Rattle.cc_model.specs.Acts.{act_of, Opens, Closes, Resizes, Writes, Zeroes, Stores, Stamps, Discards, Looks}
use Rattle.cc_entry.specs.Pages.{has_page}
use Rattle.cc_model.specs.Objects.{objects, truncation}
use Rattle.cc_model.specs.Holds.{holds_of, hold_at}
use Rattle.cc_model.specs.Sizes.{touched_if, cut_if, dropped_if, hold_has, stored_range, ended_ok}
use Rattle.cc_model.specs.Ranges.{span_has}
use Rattle.cc_model.specs.Touches.{touches, size_of}

pub touches-opens : (ended : Bool) {file : File} {given : FileSizes} {quota : ℕ} {temporary : Bool} (pass : ℕ) (call : Call) (reply : Reply) (h : List Effect) (p : ℕ) → act_of call ≡ Opens file given quota temporary → touches ended (Did pass call reply ∷ h) p ≡ touches ended h p
unfolding touches
touches-opens ended pass call reply h p is = rw (is, touches) refl

pub touches-closes : (ended : Bool) {file : File} {truncate : Option ℕ} (pass : ℕ) (call : Call) (reply : Reply) (h : List Effect) (p : ℕ) → act_of call ≡ Closes file truncate → touches ended (Did pass call reply ∷ h) p ≡ cut_if (truncation (objects h) (size_of h) file truncate) p (touches ended h p)
unfolding touches
touches-closes ended pass call reply h p is = rw (is, touches) refl

pub touches-resizes : (ended : Bool) {allocation size : ℕ} (pass : ℕ) (call : Call) (reply : Reply) (h : List Effect) (p : ℕ) → act_of call ≡ Resizes allocation size → touches ended (Did pass call reply ∷ h) p ≡ cut_if (Some size) p (touches ended h p)
unfolding touches
touches-resizes ended pass call reply h p is = rw (is, touches) refl

pub touches-writes : (ended : Bool) {at : ℕ} {bytes : List ℕ} (pass : ℕ) (call : Call) (reply : Reply) (h : List Effect) (p : ℕ) → act_of call ≡ Writes at bytes → touches ended (Did pass call reply ∷ h) p ≡ touched_if (has_page (record { from = at; to = at + length bytes }) p) (suc (length h)) None (touches ended h p)
unfolding touches
touches-writes ended pass call reply h p is = rw (is, touches) refl

pub touches-zeroes : (ended : Bool) {from to : ℕ} (pass : ℕ) (call : Call) (reply : Reply) (h : List Effect) (p : ℕ) → act_of call ≡ Zeroes from to → touches ended (Did pass call reply ∷ h) p ≡ touched_if (has_page (record { from = from; to = to }) p) (suc (length h)) None (touches ended h p)
unfolding touches
touches-zeroes ended pass call reply h p is = rw (is, touches) refl

pub touches-stores : (ended : Bool) {page : ℕ} {bytes : List ℕ} (pass : ℕ) (call : Call) (reply : Reply) (h : List Effect) (p : ℕ) → act_of call ≡ Stores page bytes → touches ended (Did pass call reply ∷ h) p ≡ touched_if (has_page (stored_range page (size_of h)) p) (suc (length h)) None (touches ended h p)
unfolding touches
touches-stores ended pass call reply h p is = rw (is, touches) refl

pub touches-stamps : (ended : Bool) {hold : ℕ} {lsn : Option ℕ} (pass : ℕ) (call : Call) (reply : Reply) (h : List Effect) (p : ℕ) → act_of call ≡ Stamps hold lsn → touches ended (Did pass call reply ∷ h) p ≡ touched_if (hold_has (hold_at (holds_of h) hold) p) (suc (length h)) lsn (touches ended h p)
unfolding touches
touches-stamps ended pass call reply h p is = rw (is, touches) refl

pub touches-discards : (ended : Bool) {span : Option Range} (pass : ℕ) (call : Call) (reply : Reply) (h : List Effect) (p : ℕ) → act_of call ≡ Discards span → touches ended (Did pass call reply ∷ h) p ≡ dropped_if (span_has span p) (touches ended h p)
unfolding touches
touches-discards ended pass call reply h p is = rw (is, touches) refl

pub touches-looks : (ended : Bool) (pass : ℕ) (call : Call) (reply : Reply) (h : List Effect) (p : ℕ) → act_of call ≡ Looks → touches ended (Did pass call reply ∷ h) p ≡ touches ended h p
unfolding touches
touches-looks ended pass call reply h p is = rw (is, touches) refl

-- a begin ends what stands before it where the transfer ended well, and a good end says that it did

pub touches-came_in : (ended : Bool) (pass page : ℕ) (from_disk : Bool) (h : List Effect) (p : ℕ) → touches ended (CameIn pass page from_disk ∷ h) p ≡ touches ended h p
unfolding touches
touches-came_in ended pass page from_disk h p = refl

pub touches-went_out : (ended : Bool) (pass page : ℕ) (h : List Effect) (p : ℕ) → touches ended (WentOut pass page ∷ h) p ≡ touches ended h p
unfolding touches
touches-went_out ended pass page h p = refl

pub touches-synced : (ended : Bool) (pass : ℕ) (how : End) (h : List Effect) (p : ℕ) → touches ended (Synced pass how ∷ h) p ≡ touches ended h p
unfolding touches
touches-synced ended pass how h p = refl

pub touches-began_open : (pass page : ℕ) (h : List Effect) (p : ℕ) → touches false (Began pass page ∷ h) p ≡ touches false h p
unfolding touches
touches-began_open pass page h p = refl

pub touches-began_written : (pass page : ℕ) (h : List Effect) (p : ℕ) → (page == p) ≡ true → touches true (Began pass page ∷ h) p ≡ []
unfolding touches
touches-began_written pass page h p same = rw (same, touches) refl

pub touches-began_other : (ended : Bool) (pass page : ℕ) (h : List Effect) (p : ℕ) → (page == p) ≡ false → touches ended (Began pass page ∷ h) p ≡ touches ended h p
unfolding touches
touches-began_other true pass page h p other = rw (other, touches) refl
touches-began_other false pass page h p other = refl

pub touches-ended_after : (pass page : ℕ) (how : End) (h : List Effect) (p : ℕ) → touches true (Ended pass page how ∷ h) p ≡ touches true h p
unfolding touches
touches-ended_after pass page how h p = refl

pub touches-ended_good : (ended : Bool) (pass page : ℕ) (how : End) (h : List Effect) (p : ℕ) → (page == p) ≡ true → ended_ok how ≡ true → touches ended (Ended pass page how ∷ h) p ≡ touches true h p
unfolding touches
touches-ended_good true pass page how h p same good = refl
touches-ended_good false pass page how h p same good = rw (same, good) refl

pub touches-ended_bad : (ended : Bool) (pass page : ℕ) (how : End) (h : List Effect) (p : ℕ) → ended_ok how ≡ false → touches ended (Ended pass page how ∷ h) p ≡ touches ended h p
unfolding touches
touches-ended_bad true pass page how h p bad = refl
touches-ended_bad false pass page how h p bad = ap (λ good. touches good h p) (both (page == p) (ended_ok how) bad)
  where
    both : (same good : Bool) → good ≡ false → (same && good) ≡ false
    both true good bad = bad
    both false good bad = refl

pub touches-ended_other : (ended : Bool) (pass page : ℕ) (how : End) (h : List Effect) (p : ℕ) → (page == p) ≡ false → touches ended (Ended pass page how ∷ h) p ≡ touches ended h p
unfolding touches
touches-ended_other true pass page how h p other = refl
touches-ended_other false pass page how h p other = rw other refl
