-- A dirty page was touched, so its stream has a map, and it is resident.
use Rattle.std.specs.Prelude.{◌≡◌, ℕ, suc, ◌+◌, ◌*◌, ◌<◌, Bool, true, false, not, ◌&&◌, ◌||◌, ◌==◌, nat_lt, nat_le, List, [], ◌∷◌, length, cond, min, refl}
use Rattle.std.specs.declared.option.Option.{Option}
use Rattle.std.specs.declared.option.Option.TheVariants.{Some, None}
use Rattle.std.proofs.Common.{ap, sym, ◌∙◌, arith}
use Rattle.std.proofs.lemmas.Bool.{and_parts, or_left, or_right, not-true, eq-eqb, eqb-true, ltb-true}
use Rattle.cc_entry.specs.declared.call.Call.{Call}
use Rattle.cc_entry.specs.declared.reply.Reply.{Reply}
use Rattle.cc_entry.specs.declared.entry.End.{End}
use Rattle.cc_entry.specs.Pages.{has_page, pages_of}
use Rattle.cc_model.specs.Numbers.{is_empty, is_among}
use Rattle.cc_model.specs.History.{Effect, Did, CameIn, WentOut, Began, Ended, Synced}
use Rattle.cc_model.specs.Acts.{Act, act_of, Opens, Closes, Resizes, Writes, Zeroes, Stores, Stamps, Discards, Looks}
use Rattle.cc_model.specs.Objects.{objects, truncation}
use Rattle.cc_model.specs.Holds.{Hold, range_held, hold_at, holds_of}
use Rattle.cc_model.specs.Sizes.{Touch, touched_if, cut_if, dropped_if, hold_has, hold_pages, stored_range, ended_ok}
use Rattle.cc_model.specs.Ranges.{span_has}
use Rattle.cc_model.specs.Touches.{touched, touches, unwritten, is_dirty, size_of, is_mapped}
use Rattle.cc_model.specs.Residency.{is_resident}
use Rattle.cc_laws.proofs.ActSteps.{touched_by, touched-done, touches_by, touches-done}
use Rattle.cc_laws.proofs.TouchSteps.{touches-came_in, touches-went_out, touches-synced, touches-began_open}
use Rattle.cc_laws.proofs.ResidencySteps.{residents-stores}
use Rattle.cc_laws.proofs.Lists1.{among-append_left, among-append_right, among-any, among-pages, any-found}
use Rattle.cc_laws.proofs.SafeHistory.{IsActSafe, IsSafe}
use Rattle.cc_laws.proofs.ResidentFacts.{is_cut_to, is_cut_by, resident-kept, held-resident, change-resident}

cut-kept : (o : Option ℕ) (p : ℕ) (ts : List Touch) → is_empty (cut_if o p ts) ≡ false → (is_empty ts ≡ false) × (is_cut_to o p ≡ false)
cut-kept None p ts left = (left, refl)
cut-kept (Some to) p ts left = go (nat_le to (4096 * p)) refl left
  where
    go : (t : Bool) → nat_le to (4096 * p) ≡ t → is_empty (cond t [] ts) ≡ false → (is_empty ts ≡ false) × (nat_le to (4096 * p) ≡ false)
    go true is it = absurd (cc)
    go false is it = (it, is)

dropped-kept : (dropped : Bool) (ts : List Touch) → is_empty (dropped_if dropped ts) ≡ false → (is_empty ts ≡ false) × (dropped ≡ false)
dropped-kept true ts left = absurd (cc)
dropped-kept false ts left = (left, refl)

touched-cases : {P : Type 0} (b : Bool) (place : ℕ) (lsn : Option ℕ) (ts : List Touch) → is_empty (touched_if b place lsn ts) ≡ false → (b ≡ true → P) → (is_empty ts ≡ false → P) → P
touched-cases true place lsn ts left here before = here refl
touched-cases false place lsn ts left here before = before left

-- a noncached store has bytes in its own page alone
stored-page : (page size p : ℕ) → has_page (stored_range page size) p ≡ true → page ≡ p
stored-page page size p has = go (nat_lt (4096 * page) size) has
  where
    numbers : (end : ℕ) → 4096 * page < 4096 * p + 4096 → 4096 * p < min (4096 * page + 4096) end → page ≡ p
    numbers end a b = omega arith

    go : (t : Bool) → has_page (record { from = 4096 * page; to = cond t (min (4096 * page + 4096) size) 0 }) p ≡ true → page ≡ p
    go true it =
        let inner = and_parts (nat_lt (4096 * page) (4096 * p + 4096)) _ (and_parts (nat_lt (4096 * page) (min (4096 * page + 4096) size)) _ it).1 in
        numbers size (ltb-true _ _ inner.0) (ltb-true _ _ inner.1)
    go false it = let none : 4096 * page < 0 = ltb-true (4096 * page) 0 (and_parts (nat_lt (4096 * page) 0) _ it).0 in absurd (omega arith)

hold-among : (o : Option Hold) (p : ℕ) → hold_has o p ≡ true → is_among p (hold_pages o) ≡ true
hold-among None p has = absurd (cc)
hold-among (Some hold) p has = among-pages (range_held hold) p has

act-touched : (ended : Bool) (a : Act) (h : List Effect) (p : ℕ) → (is_empty (touches ended h p) ≡ false → is_among p (touched h) ≡ true) → is_empty (touches_by ended a h p) ≡ false → is_among p (touched_by a h) ≡ true
act-touched ended (Opens file sizes quota temporary) h p rest left = rest left
act-touched ended (Closes file truncate) h p rest left = rest (cut-kept (truncation (objects h) (size_of h) file truncate) p (touches ended h p) left).0
act-touched ended (Resizes allocation size) h p rest left = rest (cut-kept (Some size) p (touches ended h p) left).0
act-touched ended (Writes at bytes) h p rest left =
    touched-cases (has_page (record { from = at; to = at + length bytes }) p) (suc (length h)) None (touches ended h p) left
    (λ has. among-append_left p (pages_of (record { from = at; to = at + length bytes })) (touched h) (among-pages (record { from = at; to = at + length bytes }) p has))
    (λ it. among-append_right p (pages_of (record { from = at; to = at + length bytes })) (touched h) (rest it))
act-touched ended (Zeroes from to) h p rest left =
    touched-cases (has_page (record { from = from; to = to }) p) (suc (length h)) None (touches ended h p) left
    (λ has. among-append_left p (pages_of (record { from = from; to = to })) (touched h) (among-pages (record { from = from; to = to }) p has))
    (λ it. among-append_right p (pages_of (record { from = from; to = to })) (touched h) (rest it))
act-touched ended (Stores page bytes) h p rest left =
    touched-cases (has_page (stored_range page (size_of h)) p) (suc (length h)) None (touches ended h p) left
    (λ has. or_left (page == p) (is_among p (touched h)) (eq-eqb page p (stored-page page (size_of h) p has)))
    (λ it. or_right (page == p) (is_among p (touched h)) (rest it))
act-touched ended (Stamps hold lsn) h p rest left =
    touched-cases (hold_has (hold_at (holds_of h) hold) p) (suc (length h)) lsn (touches ended h p) left
    (λ has. among-append_left p (hold_pages (hold_at (holds_of h) hold)) (touched h) (hold-among (hold_at (holds_of h) hold) p has))
    (λ it. among-append_right p (hold_pages (hold_at (holds_of h) hold)) (touched h) (rest it))
act-touched ended (Discards span) h p rest left = rest (dropped-kept (span_has span p) (touches ended h p) left).0
act-touched ended Looks h p rest left = rest left

-- a page with a touch that is neither written nor cut was touched
pub touched-left : (ended : Bool) (h : List Effect) (p : ℕ) → is_empty (touches ended h p) ≡ false → is_among p (touched h) ≡ true
unfolding touches touched
touched-left ended [] p left = absurd (cc)
touched-left ended (Did pass call reply ∷ h) p left =
    ap (is_among p) (touched-done pass call reply h)
    ∙ act-touched ended (act_of call) h p (touched-left ended h p) (sym (ap is_empty (touches-done ended pass call reply h p)) ∙ left)
touched-left ended (CameIn pass page from_disk ∷ h) p left = touched-left ended h p left
touched-left ended (WentOut pass page ∷ h) p left = touched-left ended h p left
touched-left ended (Began pass page ∷ h) p left = go (ended && page == p) left (touched-left ended h p)
  where
    go : (t : Bool) → is_empty (elim t as (λ x. List Touch) [ true ↦ [] | false ↦ touches ended h p ]) ≡ false → (is_empty (touches ended h p) ≡ false → is_among p (touched h) ≡ true) → is_among p (touched h) ≡ true
    go true it rest = absurd (cc)
    go false it rest = rest it
touched-left ended (Ended pass page how ∷ h) p left = touched-left (ended || (page == p && ended_ok how)) h p left
touched-left ended (Synced pass how ∷ h) p left = touched-left ended h p left

-- a stream with a dirty page has a map
pub dirty-mapped : (h : List Effect) (p : ℕ) → is_dirty h p ≡ true → is_mapped h ≡ true
dirty-mapped h p dirty = or_right (not (is_empty (objects h))) _ (among-any (λ q. not (is_empty (unwritten h q))) p (touched h) (touched-left false h p (not-true _ dirty)) dirty)

fewer-touched : (b : Bool) (place : ℕ) (lsn : Option ℕ) (ts us : List Touch) → (is_empty ts ≡ false → is_empty us ≡ false) → is_empty (touched_if b place lsn ts) ≡ false → is_empty (touched_if b place lsn us) ≡ false
fewer-touched true place lsn ts us rest left = refl
fewer-touched false place lsn ts us rest left = rest left

act-fewer : (a : Act) (h : List Effect) (p : ℕ) → (is_empty (touches true h p) ≡ false → is_empty (touches false h p) ≡ false) → is_empty (touches_by true a h p) ≡ false → is_empty (touches_by false a h p) ≡ false
act-fewer (Opens file sizes quota temporary) h p rest left = rest left
act-fewer (Closes file truncate) h p rest left = fewer-cut (truncation (objects h) (size_of h) file truncate) left
  where
    fewer-cut : (o : Option ℕ) → is_empty (cut_if o p (touches true h p)) ≡ false → is_empty (cut_if o p (touches false h p)) ≡ false
    fewer-cut None it = rest it
    fewer-cut (Some to) it = go (nat_le to (4096 * p)) it
      where
        go : (t : Bool) → is_empty (cond t [] (touches true h p)) ≡ false → is_empty (cond t [] (touches false h p)) ≡ false
        go true it = it
        go false it = rest it
act-fewer (Resizes allocation size) h p rest left = go (nat_le size (4096 * p)) left
  where
    go : (t : Bool) → is_empty (cond t [] (touches true h p)) ≡ false → is_empty (cond t [] (touches false h p)) ≡ false
    go true it = it
    go false it = rest it
act-fewer (Writes at bytes) h p rest left = fewer-touched (has_page (record { from = at; to = at + length bytes }) p) (suc (length h)) None (touches true h p) (touches false h p) rest left
act-fewer (Zeroes from to) h p rest left = fewer-touched (has_page (record { from = from; to = to }) p) (suc (length h)) None (touches true h p) (touches false h p) rest left
act-fewer (Stores page bytes) h p rest left = fewer-touched (has_page (stored_range page (size_of h)) p) (suc (length h)) None (touches true h p) (touches false h p) rest left
act-fewer (Stamps hold lsn) h p rest left = fewer-touched (hold_has (hold_at (holds_of h) hold) p) (suc (length h)) lsn (touches true h p) (touches false h p) rest left
act-fewer (Discards span) h p rest left = go (span_has span p) left
  where
    go : (t : Bool) → is_empty (dropped_if t (touches true h p)) ≡ false → is_empty (dropped_if t (touches false h p)) ≡ false
    go true it = it
    go false it = rest it
act-fewer Looks h p rest left = rest left

-- what is unwritten after a good end was so before it
touches-fewer : (h : List Effect) (p : ℕ) → is_empty (touches true h p) ≡ false → is_empty (touches false h p) ≡ false
unfolding touches
touches-fewer [] p left = left
touches-fewer (Did pass call reply ∷ h) p left =
    ap is_empty (touches-done false pass call reply h p)
    ∙ act-fewer (act_of call) h p (touches-fewer h p) (sym (ap is_empty (touches-done true pass call reply h p)) ∙ left)
touches-fewer (CameIn pass page from_disk ∷ h) p left = touches-fewer h p left
touches-fewer (WentOut pass page ∷ h) p left = touches-fewer h p left
touches-fewer (Began pass page ∷ h) p left = go (page == p) left (touches-fewer h p)
  where
    go : (t : Bool) → is_empty (elim t as (λ x. List Touch) [ true ↦ [] | false ↦ touches true h p ]) ≡ false → (is_empty (touches true h p) ≡ false → is_empty (touches false h p) ≡ false) → is_empty (touches false h p) ≡ false
    go true it rest = absurd (cc)
    go false it rest = rest it
touches-fewer (Ended pass page how ∷ h) p left = go (page == p && ended_ok how) (touches-fewer h p left)
  where
    go : (t : Bool) → is_empty (touches false h p) ≡ false → is_empty (touches t h p) ≡ false
    go true rest = left
    go false rest = rest
touches-fewer (Synced pass how ∷ h) p left = touches-fewer h p left

ended-dirty : (pass page : ℕ) (how : End) (h : List Effect) (p : ℕ) → is_dirty (Ended pass page how ∷ h) p ≡ true → is_dirty h p ≡ true
unfolding touches
ended-dirty pass page how h p dirty = go (page == p && ended_ok how) dirty
  where
    go : (t : Bool) → not (is_empty (touches t h p)) ≡ true → not (is_empty (touches false h p)) ≡ true
    go true it = ap not (touches-fewer h p (not-true _ it))
    go false it = it

done-dirty : (pass : ℕ) (call : Call) (reply : Reply) (h : List Effect) (p : ℕ) → IsSafe (Did pass call reply ∷ h) → (is_empty (unwritten h p) ≡ false → is_resident h p ≡ true) → is_dirty (Did pass call reply ∷ h) p ≡ true → is_resident (Did pass call reply ∷ h) p ≡ true
unfolding IsSafe
done-dirty pass call reply h p safe rest dirty = go (act_of call) refl left
  where
    left : is_empty (touches_by false (act_of call) h p) ≡ false
    left = sym (ap is_empty (touches-done false pass call reply h p)) ∙ not-true _ dirty

    mapped : is_mapped (Did pass call reply ∷ h) ≡ true
    mapped = dirty-mapped (Did pass call reply ∷ h) p dirty

    stays : (a : Act) → act_of call ≡ a → is_cut_by a h p ≡ false → is_resident h p ≡ true → is_resident (Did pass call reply ∷ h) p ≡ true
    stays a is uncut here = resident-kept (Did pass call reply) h p mapped here (ap (λ b. is_cut_by b h p) is ∙ uncut)

    stored : (page : ℕ) (bytes : List ℕ) → act_of call ≡ Stores page bytes → page ≡ p → is_resident (Did pass call reply ∷ h) p ≡ true
    stored page bytes is same = ap (is_among p) (residents-stores pass call reply h is mapped) ∙ or_left (page == p) _ (eq-eqb page p same)

    stamped : (hold : ℕ) (o : Option Hold) → hold_at (holds_of h) hold ≡ o → hold_has o p ≡ true → is_resident h p ≡ true
    stamped hold None found has = absurd (cc)
    stamped hold (Some it) found has = held-resident h p safe.1 (any-found (λ x. x.id == hold) (λ x. has_page (range_held x) p) (holds_of h) it found has)

    go : (a : Act) → act_of call ≡ a → is_empty (touches_by false (act_of call) h p) ≡ false → is_resident (Did pass call reply ∷ h) p ≡ true
    go (Opens file sizes quota temporary) is it = stays (Opens file sizes quota temporary) is refl (rest (rw is at it))
    go (Closes file truncate) is it =
        let kept = cut-kept (truncation (objects h) (size_of h) file truncate) p (unwritten h p) (rw is at it) in
        stays (Closes file truncate) is kept.1 (rest kept.0)
    go (Resizes allocation size) is it =
        let kept = cut-kept (Some size) p (unwritten h p) (rw is at it) in
        stays (Resizes allocation size) is kept.1 (rest kept.0)
    go (Writes at bytes) is it =
        let allowed : IsActSafe h (Writes at bytes) = rw is at safe.0.1 in
        stays (Writes at bytes) is refl
        (touched-cases (has_page (record { from = at; to = at + length bytes }) p) (suc (length h)) None (unwritten h p) (rw is at it) (change-resident h at (at + length bytes) p safe.1 allowed) rest)
    go (Zeroes from to) is it =
        let allowed : IsActSafe h (Zeroes from to) = rw is at safe.0.1 in
        stays (Zeroes from to) is refl
        (touched-cases (has_page (record { from = from; to = to }) p) (suc (length h)) None (unwritten h p) (rw is at it) (change-resident h from to p safe.1 allowed) rest)
    go (Stores page bytes) is it =
        touched-cases (has_page (stored_range page (size_of h)) p) (suc (length h)) None (unwritten h p) (rw is at it)
        (λ has. stored page bytes is (stored-page page (size_of h) p has))
        (λ before. stays (Stores page bytes) is refl (rest before))
    go (Stamps hold lsn) is it =
        stays (Stamps hold lsn) is refl
        (touched-cases (hold_has (hold_at (holds_of h) hold) p) (suc (length h)) lsn (unwritten h p) (rw is at it) (stamped hold (hold_at (holds_of h) hold) refl) rest)
    go (Discards span) is it =
        let kept = dropped-kept (span_has span p) (unwritten h p) (rw is at it) in
        stays (Discards span) is kept.1 (rest kept.0)
    go Looks is it = stays Looks is refl (rest (rw is at it))

dirty-first : (p : ℕ) → is_dirty [] p ≡ true → is_resident [] p ≡ true
unfolding touches
dirty-first p dirty = absurd (cc)

-- each dirty page is resident
pub dirty-resident : (h : List Effect) (p : ℕ) → IsSafe h → is_dirty h p ≡ true → is_resident h p ≡ true
unfolding IsSafe
dirty-resident [] p safe dirty = dirty-first p dirty
dirty-resident (Did pass call reply ∷ h) p safe dirty = done-dirty pass call reply h p safe (λ left. dirty-resident h p safe.1 (ap not left)) dirty
dirty-resident (CameIn pass page from_disk ∷ h) p safe dirty = resident-kept (CameIn pass page from_disk) h p (dirty-mapped (CameIn pass page from_disk ∷ h) p dirty) (dirty-resident h p safe.1 (rw (touches-came_in false pass page from_disk h p) at dirty)) refl
dirty-resident (WentOut pass page ∷ h) p safe dirty = resident-kept (WentOut pass page) h p (dirty-mapped (WentOut pass page ∷ h) p dirty) (dirty-resident h p safe.1 before) (go (page == p) refl)
  where
    before : is_dirty h p ≡ true
    before = rw (touches-went_out false pass page h p) at dirty

    go : (t : Bool) → (page == p) ≡ t → (page == p) ≡ false
    go true same = let clean : is_dirty h page ≡ false = safe.0.clean in let equal = eqb-true page p same in absurd (cc (before, sym (ap (is_dirty h) equal) ∙ clean))
    go false other = other
dirty-resident (Began pass page ∷ h) p safe dirty = resident-kept (Began pass page) h p (dirty-mapped (Began pass page ∷ h) p dirty) (dirty-resident h p safe.1 (rw (touches-began_open pass page h p) at dirty)) refl
dirty-resident (Ended pass page how ∷ h) p safe dirty = resident-kept (Ended pass page how) h p (dirty-mapped (Ended pass page how ∷ h) p dirty) (dirty-resident h p safe.1 (ended-dirty pass page how h p dirty)) refl
dirty-resident (Synced pass how ∷ h) p safe dirty = resident-kept (Synced pass how) h p (dirty-mapped (Synced pass how ∷ h) p dirty) (dirty-resident h p safe.1 (rw (touches-synced false pass how h p) at dirty)) refl
