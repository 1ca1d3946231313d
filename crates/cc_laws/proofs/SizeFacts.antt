-- The valid data length lies within the size, the size below 2^63, and open holds within the size.
use Rattle.std.specs.Prelude.{◌≡◌, ℕ, ◌+◌, ◌*◌, ◌<◌, ◌≤◌, ◌^◌, Bool, true, false, not, ◌&&◌, nat_lt, nat_le, List, [], ◌∷◌, length, cond, min, max, refl}
use Rattle.std.specs.declared.option.Option.{Option}
use Rattle.std.specs.declared.option.Option.TheVariants.{Some, None}
use Rattle.std.specs.List.{list_any}
use Rattle.std.proofs.Common.{ap, ◌∙◌, arith}
use Rattle.std.proofs.lemmas.Bool.{and_parts, or_parts, not-false, ltb-true, leb-true, lt-ltb, ltb-false}
use Rattle.cc_entry.specs.Place.{File}
use Rattle.cc_entry.specs.declared.place.FileSizes.{FileSizes}
use Rattle.cc_entry.specs.declared.call.Call.{Call}
use Rattle.cc_entry.specs.declared.reply.Reply.{Reply}
use Rattle.cc_model.specs.Numbers.{is_empty, is_among, without}
use Rattle.cc_model.specs.History.{Effect, Did, CameIn, WentOut, Began, Ended, Synced}
use Rattle.cc_model.specs.Acts.{Act, act_of, Opens, Closes, Resizes, Writes, Zeroes, Stores, Stamps, Discards, Looks}
use Rattle.cc_model.specs.Objects.{objects, truncation}
use Rattle.cc_model.specs.Holds.{Hold, holds_of, id_of}
use Rattle.cc_model.specs.Sizes.{Sizes, resized, resized_by, raised, stored_range}
use Rattle.cc_model.specs.Touches.{sizes, size_of, valid_of, is_mapped}
use Rattle.cc_model.specs.Reasons.{in_order}
use Rattle.cc_laws.proofs.HoldSteps.{holds_of-done, holds_of-came_in, holds_of-went_out, holds_of-began, holds_of-ended, holds_of-synced}
use Rattle.cc_laws.proofs.SizeSteps.{sizes-opens_mapped, sizes-opens_anew, sizes-closes, sizes-resizes, sizes-writes, sizes-zeroes, sizes-stores, sizes-stamps, sizes-discards, sizes-looks, sizes-came_in, sizes-went_out, sizes-began, sizes-ended, sizes-synced}
use Rattle.cc_laws.proofs.Lists1.{any-weaker, any-none}
use Rattle.cc_laws.proofs.SafeHistory.{MayChange, Filled, Held, IsActSafe, IsSafe}
use Rattle.cc_laws.proofs.HeldFacts.{is_still, holds-clear, holds_of-still, new-within, no-holds}

-- whether an open hold ends past the size
abbrev pub ends_past : ℕ → List Hold → Bool
ends_past size holds = list_any (λ hold. nat_lt size (hold.at + hold.len)) holds

pub record IsSized (h : List Effect) : Type 0 where
  pub valid_within : valid_of h ≤ size_of h
  pub size_in_range : size_of h < 2 ^ 63
  pub held_within : ends_past (size_of h) (holds_of h) ≡ false

-- a range that may change ends within the size
pub change-within : (h : List Effect) (from to : ℕ) → ends_past (size_of h) (holds_of h) ≡ false → MayChange h from to → to ≤ size_of h
change-within h from to within (Filled below filled) = below
change-within h from to within (Held held) = go (nat_lt (size_of h) to) refl
  where
    longer : (hold : Hold) → size_of h < to → (nat_le hold.at from && nat_le to (hold.at + hold.len)) ≡ true → nat_lt (size_of h) (hold.at + hold.len) ≡ true
    longer hold past is = lt-ltb _ _ (after (size_of h) to (hold.at + hold.len) past (leb-true to (hold.at + hold.len) (and_parts (nat_le hold.at from) _ is).1))
      where
        after : (a b c : ℕ) → a < b → b ≤ c → a < c
        after a b c p q = omega arith

    go : (t : Bool) → nat_lt (size_of h) to ≡ t → to ≤ size_of h
    go true past = absurd (cc (any-weaker (λ hold. nat_le hold.at from && nat_le to (hold.at + hold.len)) (λ hold. nat_lt (size_of h) (hold.at + hold.len)) (holds_of h) (λ hold. longer hold (ltb-true (size_of h) to past)) held))
    go false is = ltb-false (size_of h) to is

-- a stream without a map has no open object
pub unmapped-closed : (h : List Effect) → is_mapped h ≡ false → is_empty (objects h) ≡ true
unmapped-closed h unmapped = not-false _ (or_parts (not (is_empty (objects h))) _ unmapped).0

-- a truncate that counts is the last object's, and lies below the size
pub truncation-last : (opened : List ℕ) (size : ℕ) (file : File) (truncate : Option ℕ) (to : ℕ) → truncation opened size file truncate ≡ Some to → (is_empty (without file.object opened) ≡ true) × (to < size)
truncation-last opened size file None to is = absurd (cc)
truncation-last opened size file (Some asked) to is = go (is_among file.object opened && (is_empty (without file.object opened) && nat_lt asked size)) refl is
  where
    go : (t : Bool) → (is_among file.object opened && (is_empty (without file.object opened) && nat_lt asked size)) ≡ t → cond t (Some asked) None ≡ Some to → (is_empty (without file.object opened) ≡ true) × (to < size)
    go true counts it =
        let parts = and_parts (is_empty (without file.object opened)) (nat_lt asked size) (and_parts (is_among file.object opened) _ counts).1 in
        let same : asked ≡ to = cc in
        let below : asked < size = ltb-true asked size parts.1 in
        (parts.0, rw same at below)
    go false counts it = absurd (cc)

stored-within : (page size : ℕ) → (stored_range page size).to ≤ size
stored-within page size = go (nat_lt (4096 * page) size)
  where
    go : (t : Bool) → cond t (min (4096 * page + 4096) size) 0 ≤ size
    go true = omega arith
    go false = omega arith

-- the facts of a history from its sizes
sized-by : (h : List Effect) (s : Sizes) → sizes h ≡ s → s.valid ≤ s.size → s.size < 2 ^ 63 → ends_past s.size (holds_of h) ≡ false → IsSized h
sized-by h s is valid size held = record {
  valid_within = rw (is, valid_of, size_of) valid;
  size_in_range = rw (is, size_of) size;
  held_within = rw (is, size_of) held;
}

sized-same : (new old : List Effect) → sizes new ≡ sizes old → holds_of new ≡ holds_of old → IsSized old → IsSized new
sized-same new old is held before = sized-by new (sizes old) is before.valid_within before.size_in_range (ap (ends_past (size_of old)) held ∙ before.held_within)

lowered : (valid size to most : ℕ) → size < most → to < size → (min valid to ≤ to) × (to < most)
lowered valid size to most a b = (omega arith, omega arith)

raised-within : (valid size end : ℕ) → valid ≤ size → end ≤ size → max valid end ≤ size
raised-within valid size end a b = omega arith

ordered : (given : FileSizes) → in_order given ≡ true → (given.valid ≤ given.size) × (given.size < 2 ^ 63)
ordered given is =
    let a = and_parts (nat_le given.valid given.size) _ is in
    let b = and_parts (nat_le given.size given.allocation) (nat_lt given.allocation (2 ^ 63)) a.1 in
    (leb-true given.valid given.size a.0, below given.size given.allocation (2 ^ 63) (leb-true given.size given.allocation b.0) (ltb-true given.allocation (2 ^ 63) b.1))
  where
    below : (x y most : ℕ) → x ≤ y → y < most → x < most
    below x y most p q = omega arith

sized-done : (pass : ℕ) (call : Call) (reply : Reply) (h : List Effect) → IsSafe (Did pass call reply ∷ h) → IsSized h → IsSized (Did pass call reply ∷ h)
unfolding IsSafe
sized-done pass call reply h safe before = go (act_of call) refl
  where
    still : (size : ℕ) → is_still (act_of call) ≡ true → ends_past size (holds_of h) ≡ false → ends_past size (holds_of (Did pass call reply ∷ h)) ≡ false
    still size is within = ap (ends_past size) (holds_of-still pass call reply h is) ∙ within

    moved : ends_past (size_of h) (holds_of (Did pass call reply ∷ h)) ≡ false
    moved = ap (ends_past (size_of h)) (holds_of-done pass call reply h) ∙ holds-clear (λ at len. nat_lt (size_of h) (at + len)) pass call (id_of reply) (holds_of h) before.held_within (new-within h call safe.0.0)

    changed : (from to : ℕ) → sizes (Did pass call reply ∷ h) ≡ raised to (sizes h) → MayChange h from to → IsSized (Did pass call reply ∷ h)
    changed from to is may = sized-by (Did pass call reply ∷ h) (raised to (sizes h)) is (raised-within (valid_of h) (size_of h) to before.valid_within (change-within h from to before.held_within may)) before.size_in_range moved

    opened : {file : File} {given : FileSizes} {quota : ℕ} {temporary : Bool} → act_of call ≡ Opens file given quota temporary → (t : Bool) → is_mapped h ≡ t → IsSized (Did pass call reply ∷ h)
    opened is true mapped = sized-same (Did pass call reply ∷ h) h (sizes-opens_mapped pass call reply h is mapped) (holds_of-still pass call reply h (ap is_still is)) before
    opened {file} {given} {quota} {temporary} is false unmapped =
        let allowed : IsActSafe h (Opens file given quota temporary) = rw is at safe.0.1 in
        let fine = ordered given (allowed unmapped) in
        sized-by (Did pass call reply ∷ h) (record { size = given.size; valid = given.valid }) (sizes-opens_anew pass call reply h is unmapped) fine.0 fine.1
        (still given.size (ap is_still is) (any-none (λ hold. nat_lt given.size (hold.at + hold.len)) (holds_of h) (no-holds h safe.1 (unmapped-closed h unmapped))))

    closed : {file : File} {truncate : Option ℕ} → act_of call ≡ Closes file truncate → (o : Option ℕ) → truncation (objects h) (size_of h) file truncate ≡ o → IsSized (Did pass call reply ∷ h)
    closed is None cut = sized-same (Did pass call reply ∷ h) h (sizes-closes pass call reply h is ∙ ap (λ o. resized_by o (sizes h)) cut) (holds_of-still pass call reply h (ap is_still is)) before
    closed {file} {truncate} is (Some to) cut =
        let allowed : IsActSafe h (Closes file truncate) = rw is at safe.0.1 in
        let last = truncation-last (objects h) (size_of h) file truncate to cut in
        let fine = lowered (valid_of h) (size_of h) to (2 ^ 63) before.size_in_range last.1 in
        sized-by (Did pass call reply ∷ h) (resized to (sizes h)) (sizes-closes pass call reply h is ∙ ap (λ o. resized_by o (sizes h)) cut) fine.0 fine.1
        (still to (ap is_still is) (any-none (λ hold. nat_lt to (hold.at + hold.len)) (holds_of h) (allowed last.0)))

    go : (a : Act) → act_of call ≡ a → IsSized (Did pass call reply ∷ h)
    go (Opens file given quota temporary) is = opened is (is_mapped h) refl
    go (Closes file truncate) is = closed is (truncation (objects h) (size_of h) file truncate) refl
    go (Resizes allocation size) is =
        let allowed : IsActSafe h (Resizes allocation size) = rw is at safe.0.1 in
        sized-by (Did pass call reply ∷ h) (resized size (sizes h)) (sizes-resizes pass call reply h is) (omega arith) allowed.0 (still size (ap is_still is) allowed.1)
    go (Writes at bytes) is = changed at (at + length bytes) (sizes-writes pass call reply h is) (rw is at safe.0.1)
    go (Zeroes from to) is = changed from to (sizes-zeroes pass call reply h is) (rw is at safe.0.1)
    go (Stores page bytes) is =
        sized-by (Did pass call reply ∷ h) (raised (stored_range page (size_of h)).to (sizes h)) (sizes-stores pass call reply h is)
        (raised-within (valid_of h) (size_of h) (stored_range page (size_of h)).to before.valid_within (stored-within page (size_of h))) before.size_in_range (still (size_of h) (ap is_still is) before.held_within)
    go (Stamps hold lsn) is = sized-by (Did pass call reply ∷ h) (sizes h) (sizes-stamps pass call reply h is) before.valid_within before.size_in_range moved
    go (Discards span) is = sized-same (Did pass call reply ∷ h) h (sizes-discards pass call reply h is) (holds_of-still pass call reply h (ap is_still is)) before
    go Looks is = sized-by (Did pass call reply ∷ h) (sizes h) (sizes-looks pass call reply h is) before.valid_within before.size_in_range moved

sized-first : IsSized []
unfolding sizes holds_of
sized-first = record { valid_within = omega arith; size_in_range = omega arith; held_within = refl }

pub sized : (h : List Effect) → IsSafe h → IsSized h
unfolding IsSafe
sized [] safe = sized-first
sized (Did pass call reply ∷ h) safe = sized-done pass call reply h safe (sized h safe.1)
sized (CameIn pass page from_disk ∷ h) safe = sized-same _ h (sizes-came_in pass page from_disk h) (holds_of-came_in pass page from_disk h) (sized h safe.1)
sized (WentOut pass page ∷ h) safe = sized-same _ h (sizes-went_out pass page h) (holds_of-went_out pass page h) (sized h safe.1)
sized (Began pass page ∷ h) safe = sized-same _ h (sizes-began pass page h) (holds_of-began pass page h) (sized h safe.1)
sized (Ended pass page how ∷ h) safe = sized-same _ h (sizes-ended pass page how h) (holds_of-ended pass page how h) (sized h safe.1)
sized (Synced pass how ∷ h) safe = sized-same _ h (sizes-synced pass how h) (holds_of-synced pass how h) (sized h safe.1)
