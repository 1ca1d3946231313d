-- How the definitions of a stream step at an effect, in the words for places.
use Rattle.std.specs.Prelude.{◌≡◌, ℕ, suc, ◌+◌, ◌-◌, ◌*◌, ◌/◌, Bool, true, false, ◌==◌, ◌&&◌, ◌||◌, cond, nat_le, List, [], ◌∷◌, length, slice_index, refl}
use Rattle.std.proofs.Common.{ap, ◌∙◌}
use Rattle.std.specs.declared.option.Option.{Option}
use Rattle.std.specs.declared.option.Option.TheVariants.{Some, None}
use Rattle.cc_entry.specs.Pages.{has_byte}
use Rattle.cc_model.specs.History.{Effect, Did, CameIn, WentOut, Began, Ended, Synced}
use Rattle.cc_model.specs.Acts.{Act, act_of, Opens, Closes, Resizes, Writes, Zeroes, Stores, Stamps, Discards, Looks}
use Rattle.cc_model.specs.Objects.{objects, truncation}
use Rattle.cc_model.specs.Sizes.{Touch, touched_if, cut_if, dropped_if, stored_range}
use Rattle.cc_model.specs.Ranges.{span_has}
use Rattle.cc_model.specs.Touches.{touches, size_of, is_dirty}
use Rattle.cc_model.specs.Bytes.{content, on_disk}
use Rattle.cc_laws.specs.ByPlaces.{act_touches, act_lsn, act_size, act_changes, act_gives, touches_page, lsn_of_touch, changes_byte, byte_given, act_discards, decides_byte, is_past_size, cuts_page, begins_page_transfer, ends_well}
use Rattle.cc_laws.proofs.ActSteps.{touches_by, touches-done, content_by, content-done}

cut-past : (o : Option ℕ) (p : ℕ) (ts : List Touch) → cut_if o p ts ≡ cond (is_past_size o p || false) [] ts
cut-past None p ts = refl
cut-past (Some to) p ts = go (nat_le to (4096 * p))
  where
    go : (b : Bool) → cond b [] ts ≡ cond (b || false) [] ts
    go true = refl
    go false = refl

dropped-cond : (b : Bool) (ts : List Touch) → dropped_if b ts ≡ cond b [] ts
dropped-cond true ts = refl
dropped-cond false ts = refl

act-step : (ended : Bool) (a : Act) (h : List Effect) (p : ℕ) → touches_by ended a h p ≡ touched_if (act_touches a h p) (suc (length h)) (act_lsn a) (cond (is_past_size (act_size a h) p || act_discards a p) [] (touches ended h p))
act-step ended (Opens file given quota temporary) h p = refl
act-step ended (Closes file truncate) h p = cut-past (truncation (objects h) (size_of h) file truncate) p (touches ended h p)
act-step ended (Resizes allocation size) h p = cut-past (Some size) p (touches ended h p)
act-step ended (Writes at bytes) h p = refl
act-step ended (Zeroes from to) h p = refl
act-step ended (Stores page bytes) h p = refl
act-step ended (Stamps hold lsn) h p = refl
act-step ended (Discards span) h p = dropped-cond (span_has span p) (touches ended h p)
act-step ended Looks h p = refl

-- the touches left at an effect: its own, and the earlier ones where it neither cuts nor writes them
abbrev pub touches_after : Bool → Effect → List Effect → ℕ → List Touch
touches_after ended e h p =
    touched_if (touches_page p e h) (suc (length h)) (lsn_of_touch e)
    (cond (cuts_page p e h) [] (cond (ended && begins_page_transfer p e) [] (touches (ended || ends_well p e) h p)))

-- an `elim` of a test, as `cond` has it
abbrev chosen : {A : Type 0} → Bool → A → A → A
chosen b x y = elim b [ true ↦ x | false ↦ y ]

chosen-cond : {A : Type 0} (b : Bool) (x y : A) → chosen b x y ≡ cond b x y
chosen-cond true x y = refl
chosen-cond false x y = refl

neither : (ended : Bool) (h : List Effect) (p : ℕ) → touches ended h p ≡ cond (ended && false) [] (touches (ended || false) h p)
neither true h p = refl
neither false h p = refl

pub touches-effect : (ended : Bool) (e : Effect) (h : List Effect) (p : ℕ) → touches ended (e ∷ h) p ≡ touches_after ended e h p
unfolding touches
touches-effect ended (Did pass call reply) h p =
    touches-done ended pass call reply h p ∙ act-step ended (act_of call) h p
    ∙ ap (λ ts. touched_if (act_touches (act_of call) h p) (suc (length h)) (act_lsn (act_of call)) (cond (is_past_size (act_size (act_of call) h) p || act_discards (act_of call) p) [] ts)) (neither ended h p)
touches-effect ended (CameIn pass page from_disk) h p = neither ended h p
touches-effect ended (WentOut pass page) h p = neither ended h p
touches-effect true (Began pass page) h p = chosen-cond (page == p) [] (touches true h p)
touches-effect false (Began pass page) h p = refl
touches-effect true (Ended pass page how) h p = refl
touches-effect false (Ended pass page how) h p = refl
touches-effect ended (Synced pass how) h p = neither ended h p

-- what decides the byte gives: what a change gives there, or what the disk holds at a discard
abbrev pub byte_decided : (ℕ → List ℕ) → ℕ → Effect → List Effect → ℕ
byte_decided pages i e h = cond (changes_byte i e h) (byte_given i e) (on_disk pages false h i)

chosen-change : (b : Bool) (x y z : ℕ) → chosen b x y ≡ cond (b || false) (cond b x z) y
chosen-change true x y z = refl
chosen-change false x y z = refl

act-content : (pages : ℕ → List ℕ) (a : Act) (h : List Effect) (i : ℕ) → content_by pages a h i ≡ cond (act_changes a h i || (act_discards a (i / 4096) && is_dirty h (i / 4096))) (cond (act_changes a h i) (act_gives a i) (on_disk pages false h i)) (content pages h i)
act-content pages (Opens file given quota temporary) h i = refl
act-content pages (Closes file truncate) h i = refl
act-content pages (Resizes allocation size) h i = refl
act-content pages (Writes at bytes) h i = chosen-change (has_byte (record { from = at; to = at + length bytes }) i) (slice_index bytes (i - at)) (content pages h i) (on_disk pages false h i)
act-content pages (Zeroes from to) h i = chosen-change (has_byte (record { from = from; to = to }) i) 0 (content pages h i) (on_disk pages false h i)
act-content pages (Stores page bytes) h i = chosen-change (has_byte (stored_range page (size_of h)) i) (slice_index bytes (i - 4096 * page)) (content pages h i) (on_disk pages false h i)
act-content pages (Stamps hold lsn) h i = refl
act-content pages (Discards span) h i = chosen-cond (span_has span (i / 4096) && is_dirty h (i / 4096)) (on_disk pages false h i) (content pages h i)
act-content pages Looks h i = refl

pub content-effect : (pages : ℕ → List ℕ) (e : Effect) (h : List Effect) (i : ℕ) → content pages (e ∷ h) i ≡ cond (decides_byte i e h) (byte_decided pages i e h) (content pages h i)
unfolding content
content-effect pages (Did pass call reply) h i = content-done pages pass call reply h i ∙ act-content pages (act_of call) h i
content-effect pages (CameIn pass page from_disk) h i = refl
content-effect pages (WentOut pass page) h i = refl
content-effect pages (Began pass page) h i = refl
content-effect pages (Ended pass page how) h i = refl
content-effect pages (Synced pass how) h i = refl
