-- The rows of a log's dirty page table have numbers that a record can spell: the stamps do, and the pages lie below the size.
use Rattle.std.specs.Prelude.{◌≡◌, ℕ, zero, suc, ◌+◌, ◌*◌, ◌^◌, ◌<◌, ◌≤◌, Bool, true, false, ◌==◌, ◌&&◌, ◌||◌, nat_lt, nat_le, List, [], ◌∷◌, ◌++◌, length, map, min, refl, if◌then◌else◌}
use Rattle.std.specs.List.{AllByRecursion, cons_option, filter_map, flat_map, range_with_len, sum_by}
use Rattle.std.specs.Option.{option_map}
use Rattle.std.specs.declared.option.Option.{Option}
use Rattle.std.specs.declared.option.Option.TheVariants.{Some, None}
use Rattle.std.proofs.Common.{ap, sym, subst, ◌∙◌, arith, append_assoc, length-append}
use Rattle.std.proofs.lemmas.Bool.{and_parts, ltb-false, ltb-true}
use Rattle.std.proofs.lemmas.List.Sums.{sum_by-cons}
use Rattle.cc_entry.specs.Lsns.{lsn_alone, joined}
use Rattle.cc_entry.specs.Pages.{has_page}
use Rattle.cc_entry.specs.Place.{Range}
use Rattle.cc_entry.specs.declared.call.Call.{Call}
use Rattle.cc_entry.specs.declared.call.Call.TheVariants as call
use Rattle.cc_entry.specs.declared.entry.Entry.{Entry}
use Rattle.cc_entry.specs.declared.entry.Entry.TheVariants as entry
use Rattle.cc_entry.specs.declared.place.DirtyRow.{DirtyRow}
use Rattle.cc_entry.specs.declared.reply.Outcome.TheVariants as outcome
use Rattle.cc_entry.specs.declared.reply.Reply.{Reply}
use Rattle.cc_laws.proofs.DirtyPages.{IsWithinLimits-good}
use Rattle.cc_laws.proofs.Lists1.{any-found}
use Rattle.cc_laws.proofs.SafeHistory.{IsSafe, MayChange}
use Rattle.cc_laws.proofs.SafeJournals.{good-safe}
use Rattle.cc_laws.proofs.SizeFacts.{IsSized, change-within, sized}
use Rattle.cc_laws.proofs.TouchSteps.{touches-opens, touches-closes, touches-resizes, touches-writes, touches-zeroes, touches-stores, touches-stamps, touches-discards, touches-looks}
use Rattle.cc_model.specs.Acts.{Act, act_of, Opens, Closes, Resizes, Writes, Zeroes, Stores, Stamps, Discards, Looks}
use Rattle.cc_model.specs.Cache.{dirty_count, dirty_total}
use Rattle.cc_model.specs.Good.{IsGoodSoFar}
use Rattle.cc_model.specs.History.{Effect, Did, CameIn, WentOut, Began, Ended, Synced, effect_of, history}
use Rattle.cc_model.specs.Holds.{Hold, hold_at, holds_of, range_held}
use Rattle.cc_model.specs.Objects.{objects, truncation}
use Rattle.cc_model.specs.Ranges.{span_has}
use Rattle.cc_model.specs.Settings.{log_of}
use Rattle.cc_model.specs.Setup.{Setup}
use Rattle.cc_model.specs.Sizes.{Touch, cut_if, dropped_if, ended_ok, hold_has, stored_range, touched_if}
use Rattle.cc_model.specs.Stamps.{dirty_table, is_log, lsns_among, dirty_row_of, dirty_rows_of}
use Rattle.cc_model.specs.Touches.{dirty_pages, size_of, touches, unwritten}
use Rattle.cc_redo.specs.Reading.{FitsRow}
use Rattle.cc_restart_laws.proofs.Records.{good-rest'}
use Rattle.cc_restart_laws.specs.Updates.{row_told}
use Rattle.cc_update_laws.specs.Keeping.{RowsFit}

-- ---- the stamps of a journal, and those of the history of a stream

-- each LSN with which a hold was set dirty is below 2^64
abbrev pub StampsFit : List Entry → Type 0
StampsFit past =
    (later front : List Entry) (pass nth hold lsn : ℕ) (stream : Option ℕ) (reply : Reply) →
    past ≡ later ++ entry.Call pass nth stream (call.SetDirty hold (Some lsn)) (outcome.Done reply) ∷ front → lsn < 2 ^ 64

-- an LSN is below 2^64, where there is one
abbrev FitsLsn : Option ℕ → Type 0
FitsLsn None = Unit {0}
FitsLsn (Some lsn) = lsn < 2 ^ 64

abbrev FitsAct : Act → Type 0
FitsAct (Stamps hold lsn) = FitsLsn lsn
FitsAct other = Unit {0}

abbrev FitsEffect : Effect → Type 0
FitsEffect (Did pass call reply) = FitsAct (act_of call)
FitsEffect other = Unit {0}

abbrev FitsSome : Option Effect → Type 0
FitsSome None = Unit {0}
FitsSome (Some effect) = FitsEffect effect

fits-call : (it : Call) → ((hold lsn : ℕ) → it ≡ call.SetDirty hold (Some lsn) → lsn < 2 ^ 64) → FitsAct (act_of it)
fits-call (call.PreparePin file at len true exclusive) fits = tt
fits-call (call.PreparePin file at len false exclusive) fits = tt
fits-call (call.SetDirty hold None) fits = tt
fits-call (call.SetDirty hold (Some lsn)) fits = fits hold lsn refl
fits-call other fits = tt

fits-chosen : (b : Bool) (effect : Effect) → FitsEffect effect → FitsSome (if b then Some effect else None)
fits-chosen true effect fits = fits
fits-chosen false effect fits = tt

-- the entry is no set-dirty with a greater LSN
abbrev FitsEntry : Entry → Type 0
FitsEntry e = (pass nth hold lsn : ℕ) (stream : Option ℕ) (reply : Reply) → e ≡ entry.Call pass nth stream (call.SetDirty hold (Some lsn)) (outcome.Done reply) → lsn < 2 ^ 64

fits-entry : (e : Entry) (s : ℕ) → FitsEntry e → FitsSome (effect_of e s)
fits-entry (entry.Call pass nth (Some stream) it (outcome.Done reply)) s fits =
    fits-chosen (stream == s) (Did pass it reply) (fits-call it (λ hold lsn is. fits pass nth hold lsn (Some stream) reply (ap (λ (x : Call). entry.Call pass nth (Some stream) x (outcome.Done reply)) is)))
fits-entry (entry.Call pass nth (Some stream) it (outcome.Failed error)) s fits = tt
fits-entry (entry.Call pass nth None it ended) s fits = tt
fits-entry (entry.PageIn pass page from_disk) s fits = fits-chosen (page.stream == s) (CameIn pass page.page from_disk) tt
fits-entry (entry.PageOut pass page) s fits = fits-chosen (page.stream == s) (WentOut pass page.page) tt
fits-entry (entry.FillFailed pass page) s fits = tt
fits-entry (entry.WriteBegin pass page) s fits = fits-chosen (page.stream == s) (Began pass page.page) tt
fits-entry (entry.WriteEnd pass page how) s fits = fits-chosen (page.stream == s) (Ended pass page.page how) tt
fits-entry (entry.Sync pass stream how) s fits = fits-chosen (stream == s) (Synced pass how) tt
fits-entry (entry.Append pass handle lsn bytes) s fits = tt
fits-entry (entry.Flushed pass handle to) s fits = tt
fits-entry (entry.LogFailed pass handle) s fits = tt
fits-entry (entry.Defer pass id file pages retrying) s fits = tt
fits-entry (entry.Posted id) s fits = tt
fits-entry (entry.Scan pass picked) s fits = tt
fits-entry (entry.Record pass stream size valid how) s fits = tt
fits-entry (entry.RecordFailed pass stream) s fits = tt
fits-entry (entry.Locked pass file span exclusive granted id) s fits = tt
fits-entry (entry.Unlocked pass file id gone) s fits = tt
fits-entry (entry.Tested pass file span write conflict) s fits = tt

fits-more : (o : Option Effect) (h : List Effect) → FitsSome o → AllByRecursion FitsEffect h → AllByRecursion FitsEffect (cons_option o h)
fits-more None h fits rest = rest
fits-more (Some effect) h fits rest = (fits, rest)

pub stamps-rest : (later front : List Entry) → StampsFit (later ++ front) → StampsFit front
stamps-rest later front fits = λ more rest pass nth hold lsn stream reply is.
    fits (later ++ more) rest pass nth hold lsn stream reply (ap (λ (l : List Entry). later ++ l) is ∙ sym (append_assoc later more (entry.Call pass nth stream (call.SetDirty hold (Some lsn)) (outcome.Done reply) ∷ rest)))

fits-history : (past : List Entry) (s : ℕ) → StampsFit past → AllByRecursion FitsEffect (history past s)
unfolding history
fits-history [] s fits = tt
fits-history (e ∷ past) s fits =
    fits-more (effect_of e s) (history past s) (fits-entry e s (λ pass nth hold lsn stream reply is. fits [] past pass nth hold lsn stream reply (ap (λ (x : Entry). x ∷ past) is)))
    (fits-history past s (stamps-rest (e ∷ []) past fits))

-- ---- the touches of a page: each has such an LSN, and the page lies below the greatest size

abbrev FitsTouch : ℕ → Touch → Type 0
FitsTouch p touch = FitsLsn touch.lsn × (4096 * p < 2 ^ 63)

fits-touched : (p : ℕ) (b : Bool) (place : ℕ) (lsn : Option ℕ) (ts : List Touch) → FitsLsn lsn → (b ≡ true → 4096 * p < 2 ^ 63) → AllByRecursion (FitsTouch p) ts → AllByRecursion (FitsTouch p) (touched_if b place lsn ts)
fits-touched p true place lsn ts fits page rest = ((fits, page refl), rest)
fits-touched p false place lsn ts fits page rest = rest

fits-cut : (p : ℕ) (o : Option ℕ) (ts : List Touch) → AllByRecursion (FitsTouch p) ts → AllByRecursion (FitsTouch p) (cut_if o p ts)
fits-cut p None ts rest = rest
fits-cut p (Some to) ts rest = go (nat_le to (4096 * p))
  where
    go : (b : Bool) → AllByRecursion (FitsTouch p) (if b then [] else ts)
    go true = tt
    go false = rest

fits-dropped : (p : ℕ) (b : Bool) (ts : List Touch) → AllByRecursion (FitsTouch p) ts → AllByRecursion (FitsTouch p) (dropped_if b ts)
fits-dropped p true ts rest = tt
fits-dropped p false ts rest = rest

page-below : (r : Range) (p size : ℕ) → r.to ≤ size → size < 2 ^ 63 → has_page r p ≡ true → 4096 * p < 2 ^ 63
page-below r p size within below has =
    let in_it : 4096 * p < r.to = ltb-true (4096 * p) r.to (and_parts (nat_lt r.from (4096 * p + 4096)) (nat_lt (4096 * p) r.to) (and_parts (nat_lt r.from r.to) _ has).1).1 in
    chain (4096 * p) r.to size (2 ^ 63) in_it within below
  where
    chain : (a b c d : ℕ) → a < b → b ≤ c → c < d → a < d
    chain a b c d x y z = omega arith

stored-below : (page size : ℕ) → (stored_range page size).to ≤ size
stored-below page size = go (nat_lt (4096 * page) size)
  where
    go : (b : Bool) → (if b then min (4096 * page + 4096) size else 0) ≤ size
    go true = omega arith
    go false = omega arith

-- a page of an open hold
held-below : (h : List Effect) (is : IsSized h) (id p : ℕ) → hold_has (hold_at (holds_of h) id) p ≡ true → 4096 * p < 2 ^ 63
held-below h is id p has = go (hold_at (holds_of h) id) refl has
  where
    inside : (hold : Hold) → hold_at (holds_of h) id ≡ Some hold → (b : Bool) → nat_lt (size_of h) (hold.at + hold.len) ≡ b → hold.at + hold.len ≤ size_of h
    inside hold found true past = absurd (cc (any-found (λ (x : Hold). x.id == id) (λ (x : Hold). nat_lt (size_of h) (x.at + x.len)) (holds_of h) hold found past, is.held_within))
    inside hold found false within = ltb-false (size_of h) (hold.at + hold.len) within

    go : (o : Option Hold) → hold_at (holds_of h) id ≡ o → hold_has o p ≡ true → 4096 * p < 2 ^ 63
    go None found it = absurd (cc)
    go (Some hold) found it = page-below (range_held hold) p (size_of h) (inside hold found (nat_lt (size_of h) (hold.at + hold.len)) refl) is.size_in_range it

fits-touches : (p : ℕ) (ended : Bool) (h : List Effect) → IsSafe h → AllByRecursion FitsEffect h → AllByRecursion (FitsTouch p) (touches ended h p)
unfolding touches IsSafe
fits-touches p ended [] safe fits = tt
fits-touches p ended (Did pass it reply ∷ h) safe fits = go (act_of it) refl (fits-touches p ended h safe.1 fits.1)
  where
    is : IsSized h
    is = sized h safe.1

    now : (ts : List Touch) → touches ended (Did pass it reply ∷ h) p ≡ ts → AllByRecursion (FitsTouch p) ts → AllByRecursion (FitsTouch p) (touches ended (Did pass it reply ∷ h) p)
    now ts same all = subst (λ (l : List Touch). AllByRecursion (FitsTouch p) l) (sym same) all

    changed : (from to : ℕ) → MayChange h from to → has_page (record { from = from; to = to }) p ≡ true → 4096 * p < 2 ^ 63
    changed from to may = page-below (record { from = from; to = to }) p (size_of h) (change-within h from to is.held_within may) is.size_in_range

    go : (a : Act) → act_of it ≡ a → AllByRecursion (FitsTouch p) (touches ended h p) → AllByRecursion (FitsTouch p) (touches ended (Did pass it reply ∷ h) p)
    go (Opens file given quota temporary) a rest = now _ (touches-opens ended pass it reply h p a) rest
    go (Closes file truncate) a rest = now _ (touches-closes ended pass it reply h p a) (fits-cut p (truncation (objects h) (size_of h) file truncate) _ rest)
    go (Resizes allocation size) a rest = now _ (touches-resizes ended pass it reply h p a) (fits-cut p (Some size) _ rest)
    go (Writes at bytes) a rest = now _ (touches-writes ended pass it reply h p a) (fits-touched p _ _ None _ tt (changed at (at + length bytes) (rw a at safe.0.1)) rest)
    go (Zeroes from to) a rest = now _ (touches-zeroes ended pass it reply h p a) (fits-touched p _ _ None _ tt (changed from to (rw a at safe.0.1)) rest)
    go (Stores page bytes) a rest =
        now _ (touches-stores ended pass it reply h p a) (fits-touched p _ _ None _ tt (page-below (stored_range page (size_of h)) p (size_of h) (stored-below page (size_of h)) is.size_in_range) rest)
    go (Stamps hold lsn) a rest = now _ (touches-stamps ended pass it reply h p a) (fits-touched p _ _ lsn _ (subst FitsAct a fits.0) (held-below h is hold p) rest)
    go (Discards span) a rest = now _ (touches-discards ended pass it reply h p a) (fits-dropped p (span_has span p) _ rest)
    go Looks a rest = now _ (touches-looks ended pass it reply h p a) rest
fits-touches p ended (CameIn pass page from_disk ∷ h) safe fits = fits-touches p ended h safe.1 fits.1
fits-touches p ended (WentOut pass page ∷ h) safe fits = fits-touches p ended h safe.1 fits.1
fits-touches p ended (Began pass page ∷ h) safe fits = go (ended && page == p) (fits-touches p ended h safe.1 fits.1)
  where
    go : (b : Bool) → AllByRecursion (FitsTouch p) (touches ended h p) → AllByRecursion (FitsTouch p) (elim b as (λ x. List Touch) [ true ↦ [] | false ↦ touches ended h p ])
    go true rest = tt
    go false rest = rest
fits-touches p ended (Ended pass page how ∷ h) safe fits = fits-touches p (ended || (page == p && ended_ok how)) h safe.1 fits.1
fits-touches p ended (Synced pass how ∷ h) safe fits = fits-touches p ended h safe.1 fits.1

-- ---- the rows of a stream

-- the least LSN of a page, where it has one
abbrev FitsLsns : ℕ → Option (ℕ × ℕ) → Type 0
FitsLsns p None = Unit {0}
FitsLsns p (Some lsns) = (lsns.0 < 2 ^ 64) × (4096 * p < 2 ^ 63)

fits-joined : (p : ℕ) (lsn : Option ℕ) (o : Option (ℕ × ℕ)) → FitsLsn lsn → 4096 * p < 2 ^ 63 → FitsLsns p o → FitsLsns p (joined (lsn_alone lsn) o)
fits-joined p None o fits page rest = rest
fits-joined p (Some lsn) None fits page rest = (fits, page)
fits-joined p (Some lsn) (Some lsns) fits page rest = (least lsn lsns.0 (2 ^ 64) fits, page)
  where
    least : (a b c : ℕ) → a < c → min a b < c
    least a b c x = omega arith

fits-among : (p : ℕ) (ts : List Touch) → AllByRecursion (FitsTouch p) ts → FitsLsns p (lsns_among ts)
fits-among p [] fits = tt
fits-among p (t ∷ ts) fits = fits-joined p t.lsn (lsns_among ts) fits.0.0 fits.0.1 (fits-among p ts fits.1)

abbrev FitsRows : List DirtyRow → Type 0
FitsRows rows = AllByRecursion (λ (row : DirtyRow). FitsRow (row_told row)) rows

rows-option : (s p : ℕ) (o : Option (ℕ × ℕ)) (rows : List DirtyRow) → s < 16 → FitsLsns p o → FitsRows rows →
    FitsRows (cons_option (option_map (λ (lsns : ℕ × ℕ). record { page = record { stream = s; page = p }; oldest = lsns.0; newest = lsns.1 }) o) rows)
rows-option s p None rows below fits rest = rest
rows-option s p (Some lsns) rows below fits rest = (record { stream_fits = stream s below; page_fits = page p fits.1; oldest_fits = fits.0 }, rest)
  where
    stream : (n : ℕ) → n < 16 → n < 256
    stream n lt = omega arith

    page : (n : ℕ) → 4096 * n < 2 ^ 63 → n < 2 ^ 64
    page n lt = omega arith

rows-filtered : (s : ℕ) (h : List Effect) (ps : List ℕ) → s < 16 → ((p : ℕ) → AllByRecursion (FitsTouch p) (unwritten h p)) → FitsRows (filter_map (dirty_row_of s h) ps)
rows-filtered s h [] below each = tt
rows-filtered s h (p ∷ ps) below each = rows-option s p (lsns_among (unwritten h p)) (filter_map (dirty_row_of s h) ps) below (fits-among p (unwritten h p) (each p)) (rows-filtered s h ps below each)

rows-stream : (u : Setup) (past : List Entry) (log s : ℕ) → s < 16 → IsGoodSoFar u past → StampsFit past → FitsRows (dirty_rows_of past log s)
rows-stream u past log s below good fits = go (is_log log (log_of (history past s)))
  where
    go : (b : Bool) → FitsRows (if b then filter_map (dirty_row_of s (history past s)) (dirty_pages (history past s)) else [])
    go true = rows-filtered s (history past s) (dirty_pages (history past s)) below (λ p. fits-touches p false (history past s) (good-safe u past s good) (fits-history past s fits))
    go false = tt

rows-append : (before behind : List DirtyRow) → FitsRows before → FitsRows behind → FitsRows (before ++ behind)
rows-append [] behind first rest = rest
rows-append (row ∷ before) behind first rest = (first.0, rows-append before behind first.1 rest)

rows-flat : (f : ℕ → List DirtyRow) (from n : ℕ) → from + n ≤ 16 → ((s : ℕ) → s < 16 → FitsRows (f s)) → FitsRows (flat_map f (range_with_len from n))
rows-flat f from zero within each = tt
rows-flat f from (suc n) within each = rows-append (f from) _ (each from (omega (arith, within))) (rows-flat f (from + 1) n (omega (arith, within)) each)

rows-map : (rows : List DirtyRow) → FitsRows rows → AllByRecursion FitsRow (map row_told rows)
rows-map [] fits = tt
rows-map (row ∷ rows) fits = (fits.0, rows-map rows fits.1)

-- ---- how many they are

length-option : {A : Type 0} (o : Option A) (xs : List A) (n : ℕ) → length xs ≤ n → length (cons_option o xs) ≤ suc n
length-option None xs n le = omega arith
length-option (Some x) xs n le = omega arith

length-filtered : (f : ℕ → Option DirtyRow) (ps : List ℕ) → length (filter_map f ps) ≤ length ps
length-filtered f [] = omega arith
length-filtered f (p ∷ ps) = length-option (f p) (filter_map f ps) (length ps) (length-filtered f ps)

length-stream : (past : List Entry) (log s : ℕ) → length (dirty_rows_of past log s) ≤ dirty_count (history past s)
length-stream past log s = go (is_log log (log_of (history past s)))
  where
    go : (b : Bool) → length (if b then filter_map (dirty_row_of s (history past s)) (dirty_pages (history past s)) else []) ≤ dirty_count (history past s)
    go true = length-filtered (dirty_row_of s (history past s)) (dirty_pages (history past s))
    go false = omega arith

length-flat : (f : ℕ → List DirtyRow) (g : ℕ → ℕ) (from n : ℕ) → ((s : ℕ) → length (f s) ≤ g s) → length (flat_map f (range_with_len from n)) ≤ sum_by g (range_with_len from n)
length-flat f g from zero each = omega arith
length-flat f g from (suc n) each =
    let here : length (f from) ≤ g from = each from in
    let rest : length (flat_map f (range_with_len (from + 1) n)) ≤ sum_by g (range_with_len (from + 1) n) = length-flat f g (from + 1) n each in
    let both : length (f from ++ flat_map f (range_with_len (from + 1) n)) ≡ length (f from) + length (flat_map f (range_with_len (from + 1) n)) = length-append (f from) (flat_map f (range_with_len (from + 1) n)) in
    rw (sum_by-cons g from (range_with_len (from + 1) n)) (omega (arith, here, rest, both))

length-map : (rows : List DirtyRow) → length (map row_told rows) ≡ length rows
length-map [] = refl
length-map (row ∷ rows) = ap suc (length-map rows)

length-table : (past : List Entry) (log : ℕ) → length (dirty_table past log) ≤ dirty_total past
unfolding dirty_table dirty_total
length-table past log = length-flat (dirty_rows_of past log) (λ s. dirty_count (history past s)) 0 16 (length-stream past log)

rows-table : (u : Setup) (past : List Entry) (log : ℕ) → IsGoodSoFar u past → StampsFit past → FitsRows (dirty_table past log)
unfolding dirty_table
rows-table u past log good fits = rows-flat (dirty_rows_of past log) 0 16 (omega arith) (λ s below. rows-stream u past log s below good fits)

-- the rows of the dirty page table of a good journal fit where its stamps do
pub rows-fit : (u : Setup) (past : List Entry) (log : ℕ) → IsGoodSoFar u past → StampsFit past → RowsFit log past
rows-fit u past log good fits = record {
  rows_fit = rows-map (dirty_table past log) (rows-table u past log good fits);
  count_fits =
      let within : dirty_total past ≤ 16384 = (IsWithinLimits-good u past good).dirty in
      few (length (map row_told (dirty_table past log))) (length (dirty_table past log)) (dirty_total past) (length-map (dirty_table past log)) (length-table past log) within;
}
  where
    few : (a b c : ℕ) → a ≡ b → b ≤ c → c ≤ 16384 → a < 2 ^ 32
    few a b c x y z = omega arith

-- so at every moment of it
pub rows-front : (u : Setup) (past : List Entry) (log : ℕ) → IsGoodSoFar u past → StampsFit past → (later front : List Entry) → past ≡ later ++ front → RowsFit log front
rows-front u past log good fits later front is =
    rows-fit u front log (good-rest' u later front (subst (λ (l : List Entry). IsGoodSoFar u l) is good)) (stamps-rest later front (subst StampsFit is fits))
