-- How the unwritten touches of a page step at an event.
use Rattle.std.specs.Prelude.{◌≡◌, ℕ, suc, ◌+◌, ◌*◌, Bool, true, false, ◌==◌, ◌&&◌, nat_le, List, ◌∷◌, length, if◌then◌else◌, refl}
use Rattle.std.specs.declared.option.Option.{Option}
use Rattle.std.specs.declared.option.Option.TheVariants.{Some, None}
use Rattle.std.specs.List.{cons_option}
use Rattle.std.proofs.Common.{◌∙◌}
use Rattle.cc_entry.specs.declared.entry.End.{End}
use Rattle.cc_events.specs.declared.touching.Touching.TheVariants as touching
use Rattle.cc_entry.specs.Pages.{has_page}
use Rattle.cc_model.specs.History.{Effect, Did, CameIn, WentOut, Began, Ended, Synced}
use Rattle.cc_model.specs.Acts.{Act, act_of, Opens, Closes, Resizes, Writes, Zeroes, Stores, Stamps, Discards, Looks}
use Rattle.cc_model.specs.Objects.{objects, truncation}
use Rattle.cc_model.specs.Holds.{holds_of, hold_at}
use Rattle.cc_model.specs.Ranges.{span_has}
use Rattle.cc_model.specs.Sizes.{cut_if, dropped_if, touched_if, stored_range, hold_has, ended_ok}
use Rattle.cc_model.specs.Touches.{touches, size_of}
use Rattle.cc_events.specs.Events.{event_of, event_of_act}
use Rattle.cc_events.specs.Touchings.{cut_by, touch_if, touching_of, touches_after}
use Rattle.cc_laws.proofs.ActSteps.{touches_by, touches-done}

cuts : (o : Option ℕ) (ended : Bool) (h : List Effect) (p : ℕ) → cut_if o p (touches ended h p) ≡ touches_after (cut_by o p) ended h p
cuts None ended h p = refl
cuts (Some to) ended h p = go (nat_le to (4096 * p)) refl
  where
    go : (b : Bool) → nat_le to (4096 * p) ≡ b → cut_if (Some to) p (touches ended h p) ≡ touches_after (cut_by (Some to) p) ended h p
    go true is = rw is refl
    go false is = rw is refl

adds : (has : Bool) (lsn : Option ℕ) (ended : Bool) (h : List Effect) (p : ℕ) → touched_if has (suc (length h)) lsn (touches ended h p) ≡ touches_after (touch_if has lsn) ended h p
adds true lsn ended h p = refl
adds false lsn ended h p = refl

drops : (has : Bool) (ended : Bool) (h : List Effect) (p : ℕ) → dropped_if has (touches ended h p) ≡ touches_after (if has then touching.Cuts else touching.Rests) ended h p
drops true ended h p = refl
drops false ended h p = refl

by_act : (a : Act) (ended : Bool) (h : List Effect) (p : ℕ) → touches_by ended a h p ≡ touches_after (touching_of (event_of_act a) h p) ended h p
by_act (Opens file given quota temporary) ended h p = refl
by_act (Closes file None) ended h p = refl
by_act (Closes file (Some to)) ended h p = cuts (truncation (objects h) (size_of h) file (Some to)) ended h p
by_act (Resizes allocation size) ended h p = cuts (Some size) ended h p
by_act (Writes at bytes) ended h p = adds (has_page (record { from = at; to = at + length bytes }) p) None ended h p
by_act (Zeroes from to) ended h p = adds (has_page (record { from = from; to = to }) p) None ended h p
by_act (Stores page bytes) ended h p = adds (has_page (stored_range page (size_of h)) p) None ended h p
by_act (Stamps hold lsn) ended h p = adds (hold_has (hold_at (holds_of h) hold) p) lsn ended h p
by_act (Discards span) ended h p = drops (span_has span p) ended h p
by_act Looks ended h p = refl

began : (b ended : Bool) (pass page : ℕ) (h : List Effect) (p : ℕ) → (page == p) ≡ b → touches ended (Began pass page ∷ h) p ≡ touches_after (if page == p then touching.Begins else touching.Rests) ended h p
unfolding touches
began true true pass page h p is = rw (is, touches) refl
began true false pass page h p is = rw (is, touches) refl
began false true pass page h p is = rw (is, touches) refl
began false false pass page h p is = rw (is, touches) refl

ends : (b ended : Bool) (pass page : ℕ) (how : End) (h : List Effect) (p : ℕ) → (page == p && ended_ok how) ≡ b → touches ended (Ended pass page how ∷ h) p ≡ touches_after (if page == p && ended_ok how then touching.Ends else touching.Rests) ended h p
unfolding touches
ends true true pass page how h p is = rw (is, touches) refl
ends true false pass page how h p is = rw (is, touches) refl
ends false true pass page how h p is = rw (is, touches) refl
ends false false pass page how h p is = rw (is, touches) refl

pub touches-event : (o : Option Effect) (ended : Bool) (h : List Effect) (p : ℕ) → touches ended (cons_option o h) p ≡ touches_after (touching_of (event_of o) h p) ended h p
unfolding touches
touches-event None ended h p = refl
touches-event (Some (Did pass call reply)) ended h p = touches-done ended pass call reply h p ∙ by_act (act_of call) ended h p
touches-event (Some (CameIn pass page from_disk)) ended h p = refl
touches-event (Some (WentOut pass page)) ended h p = refl
touches-event (Some (Began pass page)) ended h p = began (page == p) ended pass page h p refl
touches-event (Some (Ended pass page how)) ended h p = ends (page == p && ended_ok how) ended pass page how h p refl
touches-event (Some (Synced pass how)) ended h p = refl
