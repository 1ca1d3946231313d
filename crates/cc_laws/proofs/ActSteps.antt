-- How each definition of a stream steps at a done call, by what the call does: a goal that shows
-- `act_of call` after one of these goes on by the equation of the act.
use Rattle.std.specs.Prelude.{◌≡◌, ℕ, suc, ◌+◌, ◌-◌, ◌*◌, ◌/◌, Bool, true, false, ◌&&◌, List, ◌∷◌, ◌++◌, length, slice_index, refl}
use Rattle.std.specs.declared.option.Option.TheVariants.{Some, None}
use Rattle.cc_entry.specs.declared.call.Call.{Call}
use Rattle.cc_entry.specs.declared.reply.Reply.{Reply}
use Rattle.cc_entry.specs.Pages.{pages_of, has_page, has_byte}
use Rattle.cc_model.specs.Numbers.{without}
use Rattle.cc_model.specs.History.{Effect, Did}
use Rattle.cc_model.specs.Acts.{Act, act_of, Opens, Closes, Resizes, Writes, Zeroes, Stores, Stamps, Discards, Looks}
use Rattle.cc_model.specs.Objects.{objects, truncation}
use Rattle.cc_model.specs.Holds.{holds_of, hold_at}
use Rattle.cc_model.specs.Sizes.{Sizes, resized, resized_by, raised, stored_range, Touch, touched_if, cut_if, dropped_if, hold_has, hold_pages}
use Rattle.cc_model.specs.Ranges.{span_has}
use Rattle.cc_model.specs.Touches.{touched, sizes, touches, size_of, is_mapped, is_dirty}
use Rattle.cc_model.specs.Bytes.{content, on_disk}

abbrev pub objects_by : Act → List Effect → List ℕ
objects_by (Opens file given quota temporary) h = file.object ∷ without file.object (objects h)
objects_by (Closes file truncate) h = without file.object (objects h)
objects_by other h = objects h

abbrev pub touched_by : Act → List Effect → List ℕ
touched_by (Writes at bytes) h = pages_of (record { from = at; to = at + length bytes }) ++ touched h
touched_by (Zeroes from to) h = pages_of (record { from = from; to = to }) ++ touched h
touched_by (Stores page bytes) h = page ∷ touched h
touched_by (Stamps hold lsn) h = hold_pages (hold_at (holds_of h) hold) ++ touched h
touched_by other h = touched h

abbrev pub sizes_by : Act → List Effect → Sizes
sizes_by (Opens file given quota temporary) h =
    elim (is_mapped h) [ true ↦ sizes h | false ↦ record { size = given.size; valid = given.valid } ]
sizes_by (Closes file truncate) h = resized_by (truncation (objects h) (size_of h) file truncate) (sizes h)
sizes_by (Resizes allocation size) h = resized size (sizes h)
sizes_by (Writes at bytes) h = raised (at + length bytes) (sizes h)
sizes_by (Zeroes from to) h = raised to (sizes h)
sizes_by (Stores page bytes) h = raised (stored_range page (size_of h)).to (sizes h)
sizes_by (Stamps hold lsn) h = sizes h
sizes_by (Discards span) h = sizes h
sizes_by Looks h = sizes h

abbrev pub touches_by : Bool → Act → List Effect → ℕ → List Touch
touches_by ended (Opens file given quota temporary) h p = touches ended h p
touches_by ended (Closes file truncate) h p = cut_if (truncation (objects h) (size_of h) file truncate) p (touches ended h p)
touches_by ended (Resizes allocation size) h p = cut_if (Some size) p (touches ended h p)
touches_by ended (Writes at bytes) h p =
    touched_if (has_page (record { from = at; to = at + length bytes }) p) (suc (length h)) None (touches ended h p)
touches_by ended (Zeroes from to) h p =
    touched_if (has_page (record { from = from; to = to }) p) (suc (length h)) None (touches ended h p)
touches_by ended (Stores page bytes) h p =
    touched_if (has_page (stored_range page (size_of h)) p) (suc (length h)) None (touches ended h p)
touches_by ended (Stamps hold lsn) h p = touched_if (hold_has (hold_at (holds_of h) hold) p) (suc (length h)) lsn (touches ended h p)
touches_by ended (Discards span) h p = dropped_if (span_has span p) (touches ended h p)
touches_by ended Looks h p = touches ended h p

abbrev pub content_by : (ℕ → List ℕ) → Act → List Effect → ℕ → ℕ
content_by pages (Writes at bytes) h i =
    elim (has_byte (record { from = at; to = at + length bytes }) i) [ true ↦ slice_index bytes (i - at) | false ↦ content pages h i ]
content_by pages (Zeroes from to) h i = elim (has_byte (record { from = from; to = to }) i) [ true ↦ 0 | false ↦ content pages h i ]
content_by pages (Stores page bytes) h i =
    elim (has_byte (stored_range page (size_of h)) i) [ true ↦ slice_index bytes (i - 4096 * page) | false ↦ content pages h i ]
content_by pages (Discards span) h i =
    elim (span_has span (i / 4096) && is_dirty h (i / 4096)) [ true ↦ on_disk pages false h i | false ↦ content pages h i ]
content_by pages other h i = content pages h i

pub objects-done : (pass : ℕ) (call : Call) (reply : Reply) (h : List Effect) → objects (Did pass call reply ∷ h) ≡ objects_by (act_of call) h
unfolding objects
objects-done pass call reply h = go (act_of call) refl
  where
    go : (a : Act) → act_of call ≡ a → objects (Did pass call reply ∷ h) ≡ objects_by a h
    go (Opens file given quota temporary) is = rw (is, objects) refl
    go other is = rw (is, objects) refl

pub touched-done : (pass : ℕ) (call : Call) (reply : Reply) (h : List Effect) → touched (Did pass call reply ∷ h) ≡ touched_by (act_of call) h
unfolding touched
touched-done pass call reply h = go (act_of call) refl
  where
    go : (a : Act) → act_of call ≡ a → touched (Did pass call reply ∷ h) ≡ touched_by a h
    go (Opens file given quota temporary) is = rw (is, touched) refl
    go other is = rw (is, touched) refl

pub sizes-done : (pass : ℕ) (call : Call) (reply : Reply) (h : List Effect) → sizes (Did pass call reply ∷ h) ≡ sizes_by (act_of call) h
unfolding sizes
sizes-done pass call reply h = go (act_of call) refl
  where
    go : (a : Act) → act_of call ≡ a → sizes (Did pass call reply ∷ h) ≡ sizes_by a h
    go (Opens file given quota temporary) is = rw (is, sizes) refl
    go other is = rw (is, sizes) refl

pub touches-done : (ended : Bool) (pass : ℕ) (call : Call) (reply : Reply) (h : List Effect) (p : ℕ) → touches ended (Did pass call reply ∷ h) p ≡ touches_by ended (act_of call) h p
unfolding touches
touches-done ended pass call reply h p = go (act_of call) refl
  where
    go : (a : Act) → act_of call ≡ a → touches ended (Did pass call reply ∷ h) p ≡ touches_by ended a h p
    go (Opens file given quota temporary) is = rw (is, touches) refl
    go other is = rw (is, touches) refl

pub content-done : (pages : ℕ → List ℕ) (pass : ℕ) (call : Call) (reply : Reply) (h : List Effect) (i : ℕ) → content pages (Did pass call reply ∷ h) i ≡ content_by pages (act_of call) h i
unfolding content
content-done pages pass call reply h i = go (act_of call) refl
  where
    go : (a : Act) → act_of call ≡ a → content pages (Did pass call reply ∷ h) i ≡ content_by pages a h i
    go (Opens file given quota temporary) is = rw (is, content) refl
    go other is = rw (is, content) refl
