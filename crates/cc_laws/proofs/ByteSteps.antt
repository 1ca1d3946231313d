-- How the bytes of a stream step.
use Rattle.std.specs.Prelude.{◌≡◌, ℕ, ◌+◌, ◌-◌, ◌*◌, ◌/◌, Bool, true, false, ◌&&◌, nat_lt, List, ◌∷◌, length, slice_index, refl}
use Rattle.std.specs.declared.option.Option.{Option}
use Rattle.cc_entry.specs.Place.{File, Range}
use Rattle.cc_entry.specs.declared.place.FileSizes.{FileSizes}
use Rattle.cc_entry.specs.declared.call.Call.{Call}
use Rattle.cc_entry.specs.declared.reply.Reply.{Reply}
use Rattle.cc_entry.specs.declared.entry.End.{End}
use Rattle.cc_model.specs.History.{Effect, Did, CameIn, WentOut, Began, Ended, Synced}
use Rattle.cc_model.specs.Acts.{act_of, Opens, Closes, Resizes, Writes, Zeroes, Stores, Stamps, Discards, Looks}
use Rattle.cc_entry.specs.Pages.{has_byte}
use Rattle.cc_model.specs.Sizes.{stored_range}
use Rattle.cc_model.specs.Ranges.{span_has}
use Rattle.cc_model.specs.Touches.{sizes, size_of, valid_of, is_dirty}
use Rattle.cc_model.specs.Bytes.{content, on_disk, byte_of}

pub content-opens : (pages : ℕ → List ℕ) {file : File} {given : FileSizes} {quota : ℕ} {temporary : Bool} (pass : ℕ) (call : Call) (reply : Reply) (h : List Effect) (i : ℕ) → act_of call ≡ Opens file given quota temporary → content pages (Did pass call reply ∷ h) i ≡ content pages h i
unfolding content
content-opens pages pass call reply h i is = rw (is, content) refl

pub content-closes : (pages : ℕ → List ℕ) {file : File} {truncate : Option ℕ} (pass : ℕ) (call : Call) (reply : Reply) (h : List Effect) (i : ℕ) → act_of call ≡ Closes file truncate → content pages (Did pass call reply ∷ h) i ≡ content pages h i
unfolding content
content-closes pages pass call reply h i is = rw (is, content) refl

pub content-resizes : (pages : ℕ → List ℕ) {allocation size : ℕ} (pass : ℕ) (call : Call) (reply : Reply) (h : List Effect) (i : ℕ) → act_of call ≡ Resizes allocation size → content pages (Did pass call reply ∷ h) i ≡ content pages h i
unfolding content
content-resizes pages pass call reply h i is = rw (is, content) refl

pub content-writes_covered : (pages : ℕ → List ℕ) {at : ℕ} {bytes : List ℕ} (pass : ℕ) (call : Call) (reply : Reply) (h : List Effect) (i : ℕ) → act_of call ≡ Writes at bytes → has_byte (record { from = at; to = at + length bytes }) i ≡ true → content pages (Did pass call reply ∷ h) i ≡ slice_index bytes (i - at)
unfolding content
content-writes_covered pages pass call reply h i is p0 = rw (is, p0, content) refl

pub content-writes_past : (pages : ℕ → List ℕ) {at : ℕ} {bytes : List ℕ} (pass : ℕ) (call : Call) (reply : Reply) (h : List Effect) (i : ℕ) → act_of call ≡ Writes at bytes → has_byte (record { from = at; to = at + length bytes }) i ≡ false → content pages (Did pass call reply ∷ h) i ≡ content pages h i
unfolding content
content-writes_past pages pass call reply h i is p0 = rw (is, p0, content) refl

pub content-zeroes_covered : (pages : ℕ → List ℕ) {from to : ℕ} (pass : ℕ) (call : Call) (reply : Reply) (h : List Effect) (i : ℕ) → act_of call ≡ Zeroes from to → has_byte (record { from = from; to = to }) i ≡ true → content pages (Did pass call reply ∷ h) i ≡ 0
unfolding content
content-zeroes_covered pages pass call reply h i is p0 = rw (is, p0, content) refl

pub content-zeroes_past : (pages : ℕ → List ℕ) {from to : ℕ} (pass : ℕ) (call : Call) (reply : Reply) (h : List Effect) (i : ℕ) → act_of call ≡ Zeroes from to → has_byte (record { from = from; to = to }) i ≡ false → content pages (Did pass call reply ∷ h) i ≡ content pages h i
unfolding content
content-zeroes_past pages pass call reply h i is p0 = rw (is, p0, content) refl

pub content-stores_covered : (pages : ℕ → List ℕ) {page : ℕ} {bytes : List ℕ} (pass : ℕ) (call : Call) (reply : Reply) (h : List Effect) (i : ℕ) → act_of call ≡ Stores page bytes → has_byte (stored_range page (size_of h)) i ≡ true → content pages (Did pass call reply ∷ h) i ≡ slice_index bytes (i - 4096 * page)
unfolding content
content-stores_covered pages pass call reply h i is p0 = rw (is, p0, content) refl

pub content-stores_past : (pages : ℕ → List ℕ) {page : ℕ} {bytes : List ℕ} (pass : ℕ) (call : Call) (reply : Reply) (h : List Effect) (i : ℕ) → act_of call ≡ Stores page bytes → has_byte (stored_range page (size_of h)) i ≡ false → content pages (Did pass call reply ∷ h) i ≡ content pages h i
unfolding content
content-stores_past pages pass call reply h i is p0 = rw (is, p0, content) refl

pub content-stamps : (pages : ℕ → List ℕ) {hold : ℕ} {lsn : Option ℕ} (pass : ℕ) (call : Call) (reply : Reply) (h : List Effect) (i : ℕ) → act_of call ≡ Stamps hold lsn → content pages (Did pass call reply ∷ h) i ≡ content pages h i
unfolding content
content-stamps pages pass call reply h i is = rw (is, content) refl

pub content-discards_dirty : (pages : ℕ → List ℕ) {span : Option Range} (pass : ℕ) (call : Call) (reply : Reply) (h : List Effect) (i : ℕ) → act_of call ≡ Discards span → (span_has span (i / 4096) && is_dirty h (i / 4096)) ≡ true → content pages (Did pass call reply ∷ h) i ≡ on_disk pages false h i
unfolding content
content-discards_dirty pages pass call reply h i is p0 = rw (is, p0, content) refl

pub content-discards_kept : (pages : ℕ → List ℕ) {span : Option Range} (pass : ℕ) (call : Call) (reply : Reply) (h : List Effect) (i : ℕ) → act_of call ≡ Discards span → (span_has span (i / 4096) && is_dirty h (i / 4096)) ≡ false → content pages (Did pass call reply ∷ h) i ≡ content pages h i
unfolding content
content-discards_kept pages pass call reply h i is p0 = rw (is, p0, content) refl

pub content-looks : (pages : ℕ → List ℕ) (pass : ℕ) (call : Call) (reply : Reply) (h : List Effect) (i : ℕ) → act_of call ≡ Looks → content pages (Did pass call reply ∷ h) i ≡ content pages h i
unfolding content
content-looks pages pass call reply h i is = rw (is, content) refl

pub content-came_in : (pages : ℕ → List ℕ) (pass page : ℕ) (from_disk : Bool) (h : List Effect) (i : ℕ) → content pages (CameIn pass page from_disk ∷ h) i ≡ content pages h i
unfolding content
content-came_in pages pass page from_disk h i = refl

pub content-went_out : (pages : ℕ → List ℕ) (pass page : ℕ) (h : List Effect) (i : ℕ) → content pages (WentOut pass page ∷ h) i ≡ content pages h i
unfolding content
content-went_out pages pass page h i = refl

pub content-began : (pages : ℕ → List ℕ) (pass page : ℕ) (h : List Effect) (i : ℕ) → content pages (Began pass page ∷ h) i ≡ content pages h i
unfolding content
content-began pages pass page h i = refl

pub content-ended : (pages : ℕ → List ℕ) (pass page : ℕ) (how : End) (h : List Effect) (i : ℕ) → content pages (Ended pass page how ∷ h) i ≡ content pages h i
unfolding content
content-ended pages pass page how h i = refl

pub content-synced : (pages : ℕ → List ℕ) (pass : ℕ) (how : End) (h : List Effect) (i : ℕ) → content pages (Synced pass how ∷ h) i ≡ content pages h i
unfolding content
content-synced pages pass how h i = refl

-- a byte is its content below the valid data length, and zero from there on

pub byte_of-below : (pages : ℕ → List ℕ) (h : List Effect) (i : ℕ) → nat_lt i (valid_of h) ≡ true → byte_of pages h i ≡ content pages h i
unfolding byte_of
byte_of-below pages h i below = rw (below, byte_of) refl

pub byte_of-above : (pages : ℕ → List ℕ) (h : List Effect) (i : ℕ) → nat_lt i (valid_of h) ≡ false → byte_of pages h i ≡ 0
unfolding byte_of
byte_of-above pages h i above = rw (above, byte_of) refl

-- what changes neither the content nor the sizes changes no byte

pub byte_of-same : (pages : ℕ → List ℕ) (h front : List Effect) (i : ℕ) → sizes h ≡ sizes front → content pages h i ≡ content pages front i → byte_of pages h i ≡ byte_of pages front i
unfolding byte_of
byte_of-same pages h front i same_sizes same_content = rw (same_sizes, same_content, byte_of, valid_of) refl

pub byte_of-came_in : (pages : ℕ → List ℕ) (pass page : ℕ) (from_disk : Bool) (h : List Effect) (i : ℕ) → byte_of pages (CameIn pass page from_disk ∷ h) i ≡ byte_of pages h i
unfolding byte_of content sizes
byte_of-came_in pages pass page from_disk h i = refl

pub byte_of-went_out : (pages : ℕ → List ℕ) (pass page : ℕ) (h : List Effect) (i : ℕ) → byte_of pages (WentOut pass page ∷ h) i ≡ byte_of pages h i
unfolding byte_of content sizes
byte_of-went_out pages pass page h i = refl

pub byte_of-began : (pages : ℕ → List ℕ) (pass page : ℕ) (h : List Effect) (i : ℕ) → byte_of pages (Began pass page ∷ h) i ≡ byte_of pages h i
unfolding byte_of content sizes
byte_of-began pages pass page h i = refl

pub byte_of-ended : (pages : ℕ → List ℕ) (pass page : ℕ) (how : End) (h : List Effect) (i : ℕ) → byte_of pages (Ended pass page how ∷ h) i ≡ byte_of pages h i
unfolding byte_of content sizes
byte_of-ended pages pass page how h i = refl

pub byte_of-synced : (pages : ℕ → List ℕ) (pass : ℕ) (how : End) (h : List Effect) (i : ℕ) → byte_of pages (Synced pass how ∷ h) i ≡ byte_of pages h i
unfolding byte_of content sizes
byte_of-synced pages pass how h i = refl
