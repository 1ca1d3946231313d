-- The bytes of a page, each told by its place, and what an effect makes of them.
use Rattle.std.specs.Prelude.{◌≡◌, ℕ, ◌+◌, ◌-◌, ◌*◌, ◌/◌, ◌%◌, ◌<◌, ◌≤◌, Bool, true, false, ◌==◌, ◌&&◌, ◌||◌, nat_lt, List, [], ◌∷◌, length, map, slice_index, if◌then◌else◌, refl}
use Rattle.std.specs.declared.option.Option.{Option}
use Rattle.std.specs.declared.option.Option.TheVariants.{Some, None}
use Rattle.std.specs.List.{range_with_len}
use Rattle.std.specs.Option.{unwrap_or}
use Rattle.std.proofs.Common.{ap, sym, ◌∙◌, arith}
use Rattle.std.proofs.lemmas.List.{ext_get_or}
use Rattle.std.proofs.lemmas.List.FromFn.{length-map-range_with_len, get_or-map-range_with_len}
use Rattle.cc_entry.specs.Pages.{has_byte}
use Rattle.cc_entry.specs.Place.{Range}
use Rattle.cc_entry.specs.declared.call.Call.{Call}
use Rattle.cc_entry.specs.declared.reply.Reply.{Reply}
use Rattle.cc_entry.specs.declared.entry.End.{End}
use Rattle.cc_model.specs.Acts.{Act, act_of, Opens, Closes, Resizes, Writes, Zeroes, Stores, Stamps, Discards, Looks}
use Rattle.cc_model.specs.Bytes.{content, on_disk, byte_of, page_size, page_bytes}
use Rattle.cc_model.specs.History.{Effect, Did, CameIn, WentOut, Began, Ended, Synced}
use Rattle.cc_model.specs.Images.{begun, image}
use Rattle.cc_model.specs.Ranges.{span_has}
use Rattle.cc_model.specs.Sizes.{stored_range, ended_ok}
use Rattle.cc_model.specs.Touches.{size_of, valid_of, is_dirty}
use Rattle.cc_laws.proofs.ActSteps.{content_by, content-done}
use Rattle.cc_laws.proofs.DiskBytes.{on_disk-image, page_bytes-at}
use Rattle.cc_laws.proofs.ImageSteps.{begun-began_page, begun-began_other, image-ended_good}
use Rattle.cc_crash.specs.Changes.{change_by}
use Rattle.cc_crash.specs.DiskPages.{LeavesPage, bytes_by, changed_bytes, shown_bytes}

-- two functions that agree on a page tell the same bytes of it
pub bytes-same : (f g : ℕ → ℕ) (p : ℕ) → ((i : ℕ) → 4096 * p ≤ i → i < 4096 * p + 4096 → f i ≡ g i) → bytes_by f p ≡ bytes_by g p
bytes-same f g p same =
    ext_get_or 0 (bytes_by f p) (bytes_by g p) (length-map-range_with_len f (4096 * p) 4096 ∙ sym (length-map-range_with_len g (4096 * p) 4096))
    (λ k below.
    let within : k < 4096 = omega (arith, length-map-range_with_len f (4096 * p) 4096) in
    get_or-map-range_with_len f (4096 * p) 4096 k (4096 * p + k) 0 within refl
    ∙ (same (4096 * p + k) (omega arith) (omega arith) ∙ sym (get_or-map-range_with_len g (4096 * p) 4096 k (4096 * p + k) 0 within refl)))

-- bytes that were told by their places in the page
pub bytes-shift : (f g : ℕ → ℕ) (p : ℕ) → ((k : ℕ) → k < 4096 → g k ≡ f (4096 * p + k)) → map g (range_with_len 0 4096) ≡ bytes_by f p
bytes-shift f g p same =
    ext_get_or 0 (map g (range_with_len 0 4096)) (bytes_by f p) (length-map-range_with_len g 0 4096 ∙ sym (length-map-range_with_len f (4096 * p) 4096))
    (λ k below.
    let within : k < 4096 = omega (arith, length-map-range_with_len g 0 4096) in
    get_or-map-range_with_len g 0 4096 k k 0 within (omega arith)
    ∙ (same k within ∙ sym (get_or-map-range_with_len f (4096 * p) 4096 k (4096 * p + k) 0 within refl)))

pub bytes-at : (f : ℕ → ℕ) (p k : ℕ) → k < 4096 → slice_index (bytes_by f p) k ≡ f (4096 * p + k)
bytes-at f p k within = get_or-map-range_with_len f (4096 * p) 4096 k (4096 * p + k) 0 within refl

-- a page that is given whole
pub bytes-opening : (bytes : List ℕ) (pages : ℕ → List ℕ) (p : ℕ) → length bytes ≡ 4096 → pages p ≡ bytes → bytes ≡ bytes_by (λ i. slice_index (pages (i / 4096)) (i % 4096)) p
bytes-opening bytes pages p long is =
    ext_get_or 0 bytes (bytes_by (λ i. slice_index (pages (i / 4096)) (i % 4096)) p)
    (long ∙ sym (length-map-range_with_len (λ i. slice_index (pages (i / 4096)) (i % 4096)) (4096 * p) 4096))
    (λ k below.
    let within : k < 4096 = omega (arith, long) in
    let page : (4096 * p + k) / 4096 ≡ p = omega arith in
    let place : (4096 * p + k) % 4096 ≡ k = omega arith in
    sym (bytes-at (λ i. slice_index (pages (i / 4096)) (i % 4096)) p k within
    ∙ (ap (λ (q : ℕ). slice_index (pages q) ((4096 * p + k) % 4096)) page
    ∙ (ap (λ (l : List ℕ). slice_index l ((4096 * p + k) % 4096)) is ∙ ap (slice_index bytes) place))))

-- ---- calls

-- an act that changes no byte of the page
pub bytes-left : (a : Act) (size p : ℕ) (bytes : List ℕ) → length bytes ≡ 4096 → LeavesPage a p → changed_bytes a size p bytes ≡ bytes
bytes-left a size p bytes long leaves =
    ext_get_or 0 (changed_bytes a size p bytes) bytes (length-map-range_with_len at 0 4096 ∙ sym long)
    (λ k below.
    let within : k < 4096 = omega (arith, length-map-range_with_len at 0 4096) in
    get_or-map-range_with_len at 0 4096 k k 0 within (omega arith)
    ∙ ap (λ (o : Option ℕ). unwrap_or o (slice_index bytes k)) (leaves size (4096 * p + k) (omega arith) (omega (arith, within))))
  where
    at : ℕ → ℕ
    at k = unwrap_or (change_by a size (4096 * p + k)) (slice_index bytes k)

chosen : (b : Bool) (byte old : ℕ) → (elim b as (λ x. ℕ) [ true ↦ byte | false ↦ old ]) ≡ unwrap_or (if b then Some byte else None) old
chosen true byte old = refl
chosen false byte old = refl

-- whether an act is a discard
abbrev pub discards_some : Act → Bool
discards_some (Discards span) = true
discards_some other = false

by_act : (pages : ℕ → List ℕ) (a : Act) (h : List Effect) (i : ℕ) → discards_some a ≡ false → content_by pages a h i ≡ unwrap_or (change_by a (size_of h) i) (content pages h i)
by_act pages (Opens file given quota temporary) h i none = refl
by_act pages (Closes file truncate) h i none = refl
by_act pages (Resizes allocation size) h i none = refl
by_act pages (Writes at bytes) h i none = chosen (has_byte (record { from = at; to = at + length bytes }) i) (slice_index bytes (i - at)) (content pages h i)
by_act pages (Zeroes from to) h i none = chosen (has_byte (record { from = from; to = to }) i) 0 (content pages h i)
by_act pages (Stores page bytes) h i none = chosen (has_byte (stored_range page (size_of h)) i) (slice_index bytes (i - 4096 * page)) (content pages h i)
by_act pages (Stamps hold lsn) h i none = refl
by_act pages (Discards span) h i none = absurd (cc)
by_act pages Looks h i none = refl

-- what a call that is no discard gives the bytes
pub given-changed : (pages : ℕ → List ℕ) (pass : ℕ) (call : Call) (reply : Reply) (h : List Effect) (p : ℕ) (a : Act) → act_of call ≡ a → discards_some a ≡ false → changed_bytes a (size_of h) p (bytes_by (content pages h) p) ≡ bytes_by (content pages (Did pass call reply ∷ h)) p
given-changed pages pass call reply h p a is none =
    bytes-shift (content pages (Did pass call reply ∷ h)) (λ k. unwrap_or (change_by a (size_of h) (4096 * p + k)) (slice_index (bytes_by (content pages h) p) k)) p
    (λ k within.
    ap (λ (n : ℕ). unwrap_or (change_by a (size_of h) (4096 * p + k)) n) (bytes-at (content pages h) p k within)
    ∙ sym (content-done pages pass call reply h (4096 * p + k)
    ∙ (ap (λ (b : Act). content_by pages b h (4096 * p + k)) is ∙ by_act pages a h (4096 * p + k) none)))

-- and what a discard gives them
discarded-by : (pages : ℕ → List ℕ) (span : Option Range) (h : List Effect) (p i : ℕ) (b : Bool) → i / 4096 ≡ p → (span_has span p && is_dirty h p) ≡ b → content_by pages (Discards span) h i ≡ (if b then on_disk pages false h i else content pages h i)
discarded-by pages span h p i b at is =
    ap (λ (q : ℕ). elim (span_has span q && is_dirty h q) as (λ x. ℕ) [ true ↦ on_disk pages false h i | false ↦ content pages h i ]) at
    ∙ (ap (λ (c : Bool). elim c as (λ x. ℕ) [ true ↦ on_disk pages false h i | false ↦ content pages h i ]) is ∙ go b)
  where
    go : (c : Bool) → (elim c as (λ x. ℕ) [ true ↦ on_disk pages false h i | false ↦ content pages h i ]) ≡ (if c then on_disk pages false h i else content pages h i)
    go true = refl
    go false = refl

pub given-dropped : (pages : ℕ → List ℕ) (pass : ℕ) (call : Call) (reply : Reply) (h : List Effect) (p : ℕ) (span : Option Range) → act_of call ≡ Discards span → (span_has span p && is_dirty h p) ≡ true → bytes_by (on_disk pages false h) p ≡ bytes_by (content pages (Did pass call reply ∷ h)) p
given-dropped pages pass call reply h p span is drops =
    bytes-same (on_disk pages false h) (content pages (Did pass call reply ∷ h)) p
    (λ i low high.
    sym (content-done pages pass call reply h i
    ∙ (ap (λ (a : Act). content_by pages a h i) is ∙ discarded-by pages span h p i true (omega arith) drops)))

pub given-kept : (pages : ℕ → List ℕ) (pass : ℕ) (call : Call) (reply : Reply) (h : List Effect) (p : ℕ) (span : Option Range) → act_of call ≡ Discards span → (span_has span p && is_dirty h p) ≡ false → bytes_by (content pages h) p ≡ bytes_by (content pages (Did pass call reply ∷ h)) p
given-kept pages pass call reply h p span is keeps =
    bytes-same (content pages h) (content pages (Did pass call reply ∷ h)) p
    (λ i low high.
    sym (content-done pages pass call reply h i
    ∙ (ap (λ (a : Act). content_by pages a h i) is ∙ discarded-by pages span h p i false (omega arith) keeps)))

-- ---- transfers

-- the page as it goes to the disk
pub shown-is : (pages : ℕ → List ℕ) (h : List Effect) (p : ℕ) → page_bytes pages h p ≡ shown_bytes (valid_of h) p (bytes_by (content pages h) p)
unfolding page_bytes page_size byte_of
shown-is pages h p =
    sym (bytes-shift (byte_of pages h) (λ k. if nat_lt (4096 * p + k) (valid_of h) then slice_index (bytes_by (content pages h) p) k else 0) p
    (λ k within. ap (λ (n : ℕ). if nat_lt (4096 * p + k) (valid_of h) then n else 0) (bytes-at (content pages h) p k within)))

-- of a page of which no transfer began the disk has the opening bytes
on_disk-none : (pages : ℕ → List ℕ) (ended : Bool) (h : List Effect) (i : ℕ) → begun h (i / 4096) ≡ None → on_disk pages ended h i ≡ slice_index (pages (i / 4096)) (i % 4096)
unfolding begun on_disk
on_disk-none pages ended [] i none = refl
on_disk-none pages ended (Did pass call reply ∷ h) i none = on_disk-none pages ended h i none
on_disk-none pages ended (CameIn pass page from_disk ∷ h) i none = on_disk-none pages ended h i none
on_disk-none pages ended (WentOut pass page ∷ h) i none = on_disk-none pages ended h i none
on_disk-none pages ended (Began pass page ∷ h) i none = go ended (page == i / 4096) refl (on_disk-none pages ended h i)
  where
    go : (was b : Bool) → (page == i / 4096) ≡ b → (begun h (i / 4096) ≡ None → on_disk pages ended h i ≡ slice_index (pages (i / 4096)) (i % 4096)) → on_disk pages ended (Began pass page ∷ h) i ≡ slice_index (pages (i / 4096)) (i % 4096)
    go was true same rest = absurd (cc (begun-began_page pass page h (i / 4096) same, none))
    go was false other rest = aside ended ∙ rest (sym (begun-began_other pass page h (i / 4096) other) ∙ none)
      where
        aside : (c : Bool) → on_disk pages c (Began pass page ∷ h) i ≡ on_disk pages c h i
        aside true = rw (other, on_disk) refl
        aside false = refl
on_disk-none pages ended (Ended pass page how ∷ h) i none = on_disk-none pages (ended || (page == i / 4096 && ended_ok how)) h i none
on_disk-none pages ended (Synced pass how ∷ h) i none = on_disk-none pages ended h i none

-- what an end makes of the disk's bytes of its page
pub held-none : (pages : ℕ → List ℕ) (pass page : ℕ) (how : End) (h : List Effect) (p : ℕ) → begun h p ≡ None → bytes_by (on_disk pages false (Ended pass page how ∷ h)) p ≡ bytes_by (on_disk pages false h) p
unfolding on_disk
held-none pages pass page how h p none =
    bytes-same (on_disk pages false (Ended pass page how ∷ h)) (on_disk pages false h) p
    (λ i low high.
    let at : i / 4096 ≡ p = omega arith in
    let unbegun : begun h (i / 4096) ≡ None = ap (begun h) at ∙ none in
    on_disk-none pages (page == i / 4096 && ended_ok how) h i unbegun ∙ sym (on_disk-none pages false h i unbegun))

pub held-good : (pages : ℕ → List ℕ) (pass page : ℕ) (how : End) (h front : List Effect) (p : ℕ) → (page == p) ≡ true → ended_ok how ≡ true → begun h p ≡ Some front → bytes_by (on_disk pages false (Ended pass page how ∷ h)) p ≡ page_bytes pages front p
unfolding page_bytes page_size
held-good pages pass page how h front p same good began =
    bytes-same (on_disk pages false (Ended pass page how ∷ h)) (byte_of pages front) p
    (λ i low high.
    let at : i / 4096 ≡ p = omega arith in
    let known : image pages (Ended pass page how ∷ h) (i / 4096) ≡ Some (page_bytes pages front p) =
    ap (image pages (Ended pass page how ∷ h)) at ∙ image-ended_good pages pass page how h front p same good began in
    on_disk-image pages (Ended pass page how ∷ h) i (page_bytes pages front p) known
    ∙ (ap (λ (q : ℕ). slice_index (page_bytes pages front p) (i - 4096 * q)) at ∙ page_bytes-at pages front p i low high))

aside : (pages : ℕ → List ℕ) (b ok : Bool) (h : List Effect) (i : ℕ) → (b && ok) ≡ false → on_disk pages (b && ok) h i ≡ on_disk pages false h i
aside pages b ok h i none = ap (λ (c : Bool). on_disk pages c h i) none

and-false : (b : Bool) → (b && false) ≡ false
and-false true = refl
and-false false = refl

pub held-bad : (pages : ℕ → List ℕ) (pass page : ℕ) (how : End) (h : List Effect) (p : ℕ) → ended_ok how ≡ false → bytes_by (on_disk pages false (Ended pass page how ∷ h)) p ≡ bytes_by (on_disk pages false h) p
unfolding on_disk
held-bad pages pass page how h p bad =
    bytes-same (on_disk pages false (Ended pass page how ∷ h)) (on_disk pages false h) p
    (λ i low high. aside pages (page == i / 4096) (ended_ok how) h i (ap (λ (c : Bool). page == i / 4096 && c) bad ∙ and-false (page == i / 4096)))

pub held-other : (pages : ℕ → List ℕ) (pass page : ℕ) (how : End) (h : List Effect) (p : ℕ) → (page == p) ≡ false → bytes_by (on_disk pages false (Ended pass page how ∷ h)) p ≡ bytes_by (on_disk pages false h) p
unfolding on_disk
held-other pages pass page how h p other =
    bytes-same (on_disk pages false (Ended pass page how ∷ h)) (on_disk pages false h) p
    (λ i low high.
    let at : i / 4096 ≡ p = omega arith in
    aside pages (page == i / 4096) (ended_ok how) h i (ap (λ (q : ℕ). page == q && ended_ok how) at ∙ ap (λ (c : Bool). c && ended_ok how) other))
