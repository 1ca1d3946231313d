-- What a turn is of goes on standing while others go on without it, and each turn has a slot of its own.
use Rattle.std.specs.Prelude.{◌≡◌, ℕ, ◌<◌, true, false, List, [], ◌∷◌, ◌++◌, slice_get, refl}
use Rattle.std.proofs.Common.{sym, ap, ◌∙◌, append_assoc, arith}
use Rattle.cc_entry.specs.declared.entry.Entry.{Entry}
use Rattle.cc_entry.specs.declared.entry.Entry.TheVariants as entry
use Rattle.cc_model.specs.Turns.{Turn, Device, Book, Log, Journal, is_journal, needs, is_quiet}
use Rattle.cc_laws.proofs.TurnSteps.{is_quiet-needed, is_quiet-append}
use Rattle.cc_effects.specs.Moments.{Others}
use Rattle.cc_effects.proofs.Stretches.{others-append}
use Rattle.cc_turns.specs.Standing.{Standing, holds}
use Rattle.cc_turns.specs.Takes.{Grows}
use Rattle.cc_turns.specs.Desk.{Begun, Tells, disk_at_first, log_at_first, openings}
use Rattle.cc_turns.specs.Slots.{slot_of, slots_of, HasTurn, Fits}
use Rattle.cc_turns.specs.declared.slots.Place.{Place}
use Rattle.cc_turns.specs.declared.slots.Place.TheVariants as place
use Rattle.cc_turns.proofs.BookGrows.{book_grows}
use Rattle.cc_turns.proofs.DiskGrows.{disk_grows, open_of-quiet}
use Rattle.cc_turns.proofs.LogGrows.{log_grows}

-- each entry needs the journal's turn
needs-journal : (e : Entry) → needs e Journal ≡ true
needs-journal (entry.Call pass nth stream call ended) = refl
needs-journal (entry.PageIn pass page from_disk) = refl
needs-journal (entry.PageOut pass page) = refl
needs-journal (entry.FillFailed pass page) = refl
needs-journal (entry.WriteBegin pass page) = refl
needs-journal (entry.WriteEnd pass page how) = refl
needs-journal (entry.Sync pass stream how) = refl
needs-journal (entry.Append pass handle lsn bytes) = refl
needs-journal (entry.Flushed pass handle to) = refl
needs-journal (entry.LogFailed pass handle) = refl
needs-journal (entry.Defer pass id file pages retrying) = refl
needs-journal (entry.Posted id) = refl
needs-journal (entry.Scan pass picked) = refl
needs-journal (entry.Record pass stream size valid how) = refl
needs-journal (entry.RecordFailed pass stream) = refl
needs-journal (entry.Locked pass file span exclusive granted id) = refl
needs-journal (entry.Unlocked pass file id gone) = refl
needs-journal (entry.Tested pass file span write conflict) = refl

-- so nothing was placed where no entry needs it
pub none_later : (later : List Entry) → is_quiet Journal later ≡ true → later ≡ []
none_later [] quiet = refl
none_later (e ∷ later) quiet = let needed = is_quiet-needed Journal e later (needs-journal e) in absurd (cc)

-- what a turn is of goes on standing while others go on without the turn
pub fits_grows : {D L Q : Type 0} (tells : Tells D L Q) (begun : Begun D L) (later past : List Entry) (n : ℕ) (turn : Turn) (place : Place D L Q) → is_quiet turn later ≡ true → Fits tells begun past n turn place → Fits tells begun (later ++ past) n turn place
fits_grows tells begun later past n (Device s) (place.Device disk) quiet fits = record {
  stands = disk_grows tells.disk tells.disk_faults (disk_at_first tells.disk tells.disk_faults (slice_get begun.disks s)) later past s disk quiet fits.stands;
  at_rest = open_of-quiet later past s quiet ∙ fits.at_rest;
}
fits_grows tells begun later past n (Book s) (place.Book book) quiet fits = record {
  stream_is = fits.stream_is;
  stands = book_grows later past s (openings tells.disk tells.disk_faults begun.disks s) book quiet fits.stream_is fits.stands;
}
fits_grows tells begun later past n (Log handle) (place.Log log) quiet fits = record {
  handle_is = fits.handle_is;
  stands = log_grows tells.log tells.log_faults (log_at_first tells.log tells.log_faults (slice_get begun.logs handle)) later past log (rw fits.handle_is quiet) fits.stands;
}
fits_grows tells begun later past n Journal (place.Journal journal) quiet fits = rw (none_later later quiet) fits
fits_grows tells begun later past n turn other quiet fits = fits

-- of another turn than the journal's, it does so whatever passes have under way
pub fits_any : {D L Q : Type 0} (tells : Tells D L Q) (begun : Begun D L) (past : List Entry) (n m : ℕ) (turn : Turn) (place : Place D L Q) → is_journal turn ≡ false → Fits tells begun past n turn place → Fits tells begun past m turn place
fits_any tells begun past n m (Device s) (place.Device disk) other fits = fits
fits_any tells begun past n m (Book s) (place.Book book) other fits = fits
fits_any tells begun past n m (Log handle) (place.Log log) other fits = fits
fits_any tells begun past n m Journal (place.Journal journal) other fits = absurd (cc)
fits_any tells begun past n m turn place other fits = fits

-- the others go on further, without the pass and its turns
pub grows_more : (w : Standing) (added past : List Entry) → Grows w past → Others w.number added → ((t : Turn) → holds w.held t ≡ true → is_quiet t added ≡ true) → Grows w (added ++ past)
grows_more w added past grows others quiet = record {
  later = added ++ grows.later;
  grew = ap (λ l. added ++ l) grows.grew ∙ sym (append_assoc added grows.later w.seen);
  quiet = λ t held. is_quiet-append t added grows.later (quiet t held) (grows.quiet t held);
  others = others-append w.number added grows.later others grows.others;
}

-- each turn of a run has a slot of the run
pub slot-within : {D L : Type 0} (begun : Begun D L) (t : Turn) → HasTurn begun t → slot_of begun t < slots_of begun
slot-within begun (Device stream) known = omega arith
slot-within begun (Book stream) known = omega arith
slot-within begun (Log handle) known = omega arith
slot-within begun Journal known = omega arith

-- and no two turns have the same
pub slot-apart : {D L : Type 0} (begun : Begun D L) (t u : Turn) → HasTurn begun t → HasTurn begun u → slot_of begun t ≡ slot_of begun u → t ≡ u
slot-apart begun (Device s) (Device r) known other same = ap Device same
slot-apart begun (Device s) (Book r) known other same = absurd (omega arith)
slot-apart begun (Device s) (Log r) known other same = absurd (omega arith)
slot-apart begun (Device s) Journal known other same = absurd (omega arith)
slot-apart begun (Book s) (Device r) known other same = absurd (omega arith)
slot-apart begun (Book s) (Book r) known other same = let is : s ≡ r = omega arith in ap Book is
slot-apart begun (Book s) (Log r) known other same = absurd (omega arith)
slot-apart begun (Book s) Journal known other same = absurd (omega arith)
slot-apart begun (Log s) (Device r) known other same = absurd (omega arith)
slot-apart begun (Log s) (Book r) known other same = absurd (omega arith)
slot-apart begun (Log s) (Log r) known other same = let is : s ≡ r = omega arith in ap Log is
slot-apart begun (Log s) Journal known other same = absurd (omega arith)
slot-apart begun Journal (Device r) known other same = absurd (omega arith)
slot-apart begun Journal (Book r) known other same = absurd (omega arith)
slot-apart begun Journal (Log r) known other same = absurd (omega arith)
slot-apart begun Journal Journal known other same = refl
