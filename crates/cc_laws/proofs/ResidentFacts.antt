-- Resident pages stay but where a size step, a discard or a page-out takes them, and the pages of holds are resident.
use Rattle.std.specs.Prelude.{◌≡◌, ℕ, ◌+◌, ◌*◌, ◌<◌, ◌≤◌, Bool, true, false, not, ◌&&◌, ◌==◌, nat_lt, nat_le, List, [], ◌∷◌, refl}
use Rattle.std.specs.declared.option.Option.{Option}
use Rattle.std.specs.declared.option.Option.TheVariants.{Some, None}
use Rattle.std.specs.List.{list_any}
use Rattle.std.proofs.Common.{ap, sym, ◌∙◌, arith}
use Rattle.std.proofs.lemmas.Bool.{and_parts, and_from, or_left, eqb-true, ltb-true, leb-true, lt-ltb, leb-false}
use Rattle.cc_entry.specs.Place.{File, Range}
use Rattle.cc_entry.specs.declared.call.Call.{Call}
use Rattle.cc_entry.specs.declared.reply.Reply.{Reply}
use Rattle.cc_entry.specs.Pages.{has_page, pages_of}
use Rattle.cc_model.specs.Numbers.{is_empty, is_among}
use Rattle.cc_model.specs.History.{Effect, Did, CameIn, WentOut, Began, Ended, Synced}
use Rattle.cc_model.specs.Acts.{Act, act_of, Opens, Closes, Resizes, Writes, Zeroes, Stores, Stamps, Discards, Looks}
use Rattle.cc_model.specs.Objects.{objects, truncation}
use Rattle.cc_model.specs.Holds.{Hold, range_held, holds_of, is_held, id_of}
use Rattle.cc_model.specs.Touches.{size_of, is_mapped}
use Rattle.cc_model.specs.Ranges.{span_has}
use Rattle.cc_model.specs.Conflicts.{has_page_of}
use Rattle.cc_model.specs.Residency.{below, residents, is_resident}
use Rattle.cc_laws.proofs.HoldSteps.{holds_of-done, holds_of-came_in, holds_of-went_out, holds_of-began, holds_of-ended, holds_of-synced}
use Rattle.cc_laws.proofs.ResidencySteps.{residents-mapped, residents-looks, residents-opens, residents-closes, residents-resizes, residents-writes, residents-zeroes, residents-stores, residents-stamps, residents-discards, residents-went_out, residents-began, residents-ended, residents-synced}
use Rattle.cc_laws.proofs.Lists1.{among-filter, among-without, among-placed, among-any, among-pages, any-weaker, any-none}
use Rattle.cc_laws.proofs.SafeHistory.{MayChange, Filled, Held, IsActSafe, IsSafe}
use Rattle.cc_laws.proofs.HeldFacts.{is_still, holds-clear, holds_of-still, new-resident, no-holds}
use Rattle.cc_laws.proofs.SizeFacts.{truncation-last}

-- whether a size step to this size takes the page
abbrev pub is_cut_to : Option ℕ → ℕ → Bool
is_cut_to None p = false
is_cut_to (Some to) p = nat_le to (4096 * p)

-- whether an act takes the page, given the stream before it
abbrev pub is_cut_by : Act → List Effect → ℕ → Bool
is_cut_by (Closes file truncate) h p = is_cut_to (truncation (objects h) (size_of h) file truncate) p
is_cut_by (Resizes allocation size) h p = is_cut_to (Some size) p
is_cut_by (Discards span) h p = span_has span p
is_cut_by other h p = false

-- whether an effect takes the page
abbrev pub is_cut : Effect → List Effect → ℕ → Bool
is_cut (Did pass call reply) h p = is_cut_by (act_of call) h p
is_cut (WentOut pass page) h p = page == p
is_cut other h p = false

below-kept : (o : Option ℕ) (p : ℕ) (ps : List ℕ) → is_among p ps ≡ true → is_cut_to o p ≡ false → is_among p (below o ps) ≡ true
below-kept None p ps here uncut = here
below-kept (Some to) p ps here uncut = among-filter (λ q. nat_lt (4096 * q) to) p ps here (lt-ltb (4096 * p) to (leb-false to (4096 * p) uncut))

-- a resident page that no effect takes stays, while there is a map
pub resident-kept : (e : Effect) (h : List Effect) (p : ℕ) → is_mapped (e ∷ h) ≡ true → is_resident h p ≡ true → is_cut e h p ≡ false → is_resident (e ∷ h) p ≡ true
resident-kept (Did pass call reply) h p mapped here uncut = go (act_of call) refl
  where
    cut : (a : Act) → act_of call ≡ a → is_cut_by a h p ≡ false
    cut a is = sym (ap (λ b. is_cut_by b h p) is) ∙ uncut

    go : (a : Act) → act_of call ≡ a → is_among p (residents (Did pass call reply ∷ h)) ≡ true
    go (Opens file sizes quota temporary) is = ap (is_among p) (residents-opens pass call reply h is) ∙ here
    go (Closes file truncate) is = ap (is_among p) (residents-closes pass call reply h is mapped) ∙ below-kept (truncation (objects h) (size_of h) file truncate) p (residents h) here (cut (Closes file truncate) is)
    go (Resizes allocation size) is = ap (is_among p) (residents-resizes pass call reply h is mapped) ∙ below-kept (Some size) p (residents h) here (cut (Resizes allocation size) is)
    go (Writes at bytes) is = ap (is_among p) (residents-writes pass call reply h is mapped) ∙ here
    go (Zeroes from to) is = ap (is_among p) (residents-zeroes pass call reply h is mapped) ∙ here
    go (Stores page bytes) is = ap (is_among p) (residents-stores pass call reply h is mapped) ∙ among-placed page p (residents h) here
    go (Stamps hold lsn) is = ap (is_among p) (residents-stamps pass call reply h is mapped) ∙ here
    go (Discards span) is = ap (is_among p) (residents-discards pass call reply h is mapped) ∙ among-filter (λ q. not (span_has span q)) p (residents h) here (ap not (cut (Discards span) is))
    go Looks is = ap (is_among p) (residents-looks pass call reply h is) ∙ here
resident-kept (CameIn pass page from_disk) h p mapped here uncut = ap (is_among p) (residents-mapped (CameIn pass page from_disk) h mapped) ∙ among-placed page p (residents h) here
resident-kept (WentOut pass page) h p mapped here uncut = ap (is_among p) (residents-went_out pass page h) ∙ among-without page p (residents h) here uncut
resident-kept (Began pass page) h p mapped here uncut = ap (is_among p) (residents-began pass page h) ∙ here
resident-kept (Ended pass page how) h p mapped here uncut = ap (is_among p) (residents-ended pass page how h mapped) ∙ here
resident-kept (Synced pass how) h p mapped here uncut = ap (is_among p) (residents-synced pass how h) ∙ here

-- a stream with an open hold has a map
pub held-mapped : (h : List Effect) (p : ℕ) → IsSafe h → is_held (holds_of h) p ≡ true → is_mapped h ≡ true
held-mapped h p safe held = go (is_empty (objects h)) refl
  where
    go : (t : Bool) → is_empty (objects h) ≡ t → is_mapped h ≡ true
    go true empty = absurd (cc (any-none (λ hold. has_page (range_held hold) p) (holds_of h) (no-holds h safe empty)))
    go false full = or_left (not (is_empty (objects h))) _ (ap not full)

-- a page of an open hold begins before its end
held-cut : (h : List Effect) (p to : ℕ) → list_any (λ hold. nat_lt to (hold.at + hold.len)) (holds_of h) ≡ false → is_held (holds_of h) p ≡ true → nat_le to (4096 * p) ≡ false
held-cut h p to within held = go (nat_le to (4096 * p)) refl
  where
    longer : to ≤ 4096 * p → (hold : Hold) → has_page (range_held hold) p ≡ true → nat_lt to (hold.at + hold.len) ≡ true
    longer past hold has = lt-ltb to (hold.at + hold.len) (before (4096 * p) (hold.at + hold.len) past ends)
      where
        before : (a b : ℕ) → to ≤ a → a < b → to < b
        before a b x y = omega arith

        ends : 4096 * p < hold.at + hold.len
        ends = ltb-true (4096 * p) (hold.at + hold.len) (and_parts (nat_lt hold.at (4096 * p + 4096)) _ (and_parts (nat_lt hold.at (hold.at + hold.len)) _ has).1).1

    go : (t : Bool) → nat_le to (4096 * p) ≡ t → nat_le to (4096 * p) ≡ false
    go true past = absurd (cc (any-weaker (λ hold. has_page (range_held hold) p) (λ hold. nat_lt to (hold.at + hold.len)) (holds_of h) (longer (leb-true to (4096 * p) past)) held))
    go false is = is

-- a page of an open hold is of no span of which no open hold has a page
held-apart : (h : List Effect) (p : ℕ) (span : Option Range) → list_any (has_page_of span) (holds_of h) ≡ false → is_held (holds_of h) p ≡ true → span_has span p ≡ false
held-apart h p span free held = go (span_has span p) refl
  where
    among : span_has span p ≡ true → (hold : Hold) → has_page (range_held hold) p ≡ true → has_page_of span hold ≡ true
    among has hold is = among-any (span_has span) p (pages_of (range_held hold)) (among-pages (range_held hold) p is) has

    go : (t : Bool) → span_has span p ≡ t → span_has span p ≡ false
    go true has = absurd (cc (free, any-weaker (λ hold. has_page (range_held hold) p) (has_page_of span) (holds_of h) (among has) held))
    go false is = is

done-held : (pass : ℕ) (call : Call) (reply : Reply) (h : List Effect) (p : ℕ) → IsSafe (Did pass call reply ∷ h) → (is_held (holds_of h) p ≡ true → is_resident h p ≡ true) → is_held (holds_of (Did pass call reply ∷ h)) p ≡ true → is_resident (Did pass call reply ∷ h) p ≡ true
unfolding IsSafe
done-held pass call reply h p safe rest held = resident-kept (Did pass call reply) h p (held-mapped (Did pass call reply ∷ h) p safe held) (before (is_resident h p) refl) (uncut (act_of call) refl)
  where
    holds-before : is_resident h p ≡ false → (t : Bool) → is_held (holds_of h) p ≡ t → t ≡ false
    holds-before absent true is = absurd (cc (rest is))
    holds-before absent false is = refl

    clear : is_resident h p ≡ false → is_held (holds_of (Did pass call reply ∷ h)) p ≡ false
    clear absent =
        ap (λ holds. is_held holds p) (holds_of-done pass call reply h)
        ∙ holds-clear (λ at len. has_page (record { from = at; to = at + len }) p) pass call (id_of reply) (holds_of h) (holds-before absent (is_held (holds_of h) p) refl) (new-resident h p call safe.0.0 absent)

    before : (t : Bool) → is_resident h p ≡ t → is_resident h p ≡ true
    before true here = here
    before false absent = absurd (cc (clear absent))

    still-held : is_still (act_of call) ≡ true → is_held (holds_of h) p ≡ true
    still-held still = sym (ap (λ holds. is_held holds p) (holds_of-still pass call reply h still)) ∙ held

    closed : (file : File) (truncate : Option ℕ) → act_of call ≡ Closes file truncate → (o : Option ℕ) → truncation (objects h) (size_of h) file truncate ≡ o → is_cut_to o p ≡ false
    closed file truncate is None cut = refl
    closed file truncate is (Some to) cut =
        let allowed : IsActSafe h (Closes file truncate) = rw is at safe.0.1 in
        let none = any-none (λ hold. has_page (range_held hold) p) (holds_of h) (allowed (truncation-last (objects h) (size_of h) file truncate to cut).0) in
        absurd (cc (still-held (ap is_still is), none))

    uncut : (a : Act) → act_of call ≡ a → is_cut_by (act_of call) h p ≡ false
    uncut (Closes file truncate) is = ap (λ b. is_cut_by b h p) is ∙ closed file truncate is (truncation (objects h) (size_of h) file truncate) refl
    uncut (Resizes allocation size) is =
        let allowed : IsActSafe h (Resizes allocation size) = rw is at safe.0.1 in
        ap (λ b. is_cut_by b h p) is ∙ held-cut h p size allowed.1 (still-held (ap is_still is))
    uncut (Opens file sizes quota temporary) is = ap (λ b. is_cut_by b h p) is
    uncut (Writes at bytes) is = ap (λ b. is_cut_by b h p) is
    uncut (Zeroes from to) is = ap (λ b. is_cut_by b h p) is
    uncut (Stores page bytes) is = ap (λ b. is_cut_by b h p) is
    uncut (Stamps hold lsn) is = ap (λ b. is_cut_by b h p) is
    uncut (Discards span) is =
        let allowed : IsActSafe h (Discards span) = rw is at safe.0.1 in
        ap (λ b. is_cut_by b h p) is ∙ held-apart h p span allowed (still-held (ap is_still is))
    uncut Looks is = ap (λ b. is_cut_by b h p) is

held-first : (p : ℕ) → is_held (holds_of []) p ≡ true → is_resident [] p ≡ true
unfolding holds_of
held-first p held = absurd (cc)

-- each page of an open hold is resident
pub held-resident : (h : List Effect) (p : ℕ) → IsSafe h → is_held (holds_of h) p ≡ true → is_resident h p ≡ true
unfolding IsSafe
held-resident [] p safe held = held-first p held
held-resident (Did pass call reply ∷ h) p safe held = done-held pass call reply h p safe (held-resident h p safe.1) held
held-resident (CameIn pass page from_disk ∷ h) p safe held = resident-kept (CameIn pass page from_disk) h p (held-mapped (CameIn pass page from_disk ∷ h) p safe held) (held-resident h p safe.1 (rw (holds_of-came_in pass page from_disk h) at held)) refl
held-resident (WentOut pass page ∷ h) p safe held = resident-kept (WentOut pass page) h p (held-mapped (WentOut pass page ∷ h) p safe held) (held-resident h p safe.1 before) (go (page == p) refl)
  where
    before : is_held (holds_of h) p ≡ true
    before = rw (holds_of-went_out pass page h) at held

    go : (t : Bool) → (page == p) ≡ t → (page == p) ≡ false
    go true same = let free : is_held (holds_of h) page ≡ false = safe.0.not_held in let equal = eqb-true page p same in absurd (cc (before, sym (ap (is_held (holds_of h)) equal) ∙ free))
    go false other = other
held-resident (Began pass page ∷ h) p safe held = resident-kept (Began pass page) h p (held-mapped (Began pass page ∷ h) p safe held) (held-resident h p safe.1 (rw (holds_of-began pass page h) at held)) refl
held-resident (Ended pass page how ∷ h) p safe held = resident-kept (Ended pass page how) h p (held-mapped (Ended pass page how ∷ h) p safe held) (held-resident h p safe.1 (rw (holds_of-ended pass page how h) at held)) refl
held-resident (Synced pass how ∷ h) p safe held = resident-kept (Synced pass how) h p (held-mapped (Synced pass how ∷ h) p safe held) (held-resident h p safe.1 (rw (holds_of-synced pass how h) at held)) refl

-- each page of a range that may change is resident
pub change-resident : (h : List Effect) (from to p : ℕ) → IsSafe h → MayChange h from to → has_page (record { from = from; to = to }) p ≡ true → is_resident h p ≡ true
change-resident h from to p safe (Filled below filled) has = filled p has
change-resident h from to p safe (Held held) has = held-resident h p safe (any-weaker (λ hold. nat_le hold.at from && nat_le to (hold.at + hold.len)) (λ hold. has_page (range_held hold) p) (holds_of h) wider held)
  where
    wider : (hold : Hold) → (nat_le hold.at from && nat_le to (hold.at + hold.len)) ≡ true → has_page (range_held hold) p ≡ true
    wider hold is = and_from _ _ (lt-ltb hold.at (hold.at + hold.len) outer.0) (and_from _ _ (lt-ltb hold.at (4096 * p + 4096) outer.1) (lt-ltb (4096 * p) (hold.at + hold.len) outer.2))
      where
        numbers : (a b c d e : ℕ) → a ≤ from → to ≤ b → from < to → from < c → d < to → (a < b) × (a < c) × (d < b)
        numbers a b c d e p1 p2 p3 p4 p5 = (omega arith, omega arith, omega arith)

        parts : (nat_le hold.at from ≡ true) × (nat_le to (hold.at + hold.len) ≡ true)
        parts = and_parts (nat_le hold.at from) _ is

        inner : (nat_lt from to ≡ true) × ((nat_lt from (4096 * p + 4096) && nat_lt (4096 * p) to) ≡ true)
        inner = and_parts (nat_lt from to) _ has

        within : (nat_lt from (4096 * p + 4096) ≡ true) × (nat_lt (4096 * p) to ≡ true)
        within = and_parts (nat_lt from (4096 * p + 4096)) _ inner.1

        outer : (hold.at < hold.at + hold.len) × (hold.at < 4096 * p + 4096) × (4096 * p < hold.at + hold.len)
        outer = numbers hold.at (hold.at + hold.len) (4096 * p + 4096) (4096 * p) 0 (leb-true _ _ parts.0) (leb-true _ _ parts.1) (ltb-true from to inner.0) (ltb-true _ _ within.0) (ltb-true _ _ within.1)
