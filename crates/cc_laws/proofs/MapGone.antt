-- A stream without a shared map gets none but by an initialise.
use Rattle.std.specs.Prelude.{◌≡◌, ℕ, suc, ◌+◌, ◌*◌, Bool, true, false, cond, not, ◌&&◌, ◌||◌, ◌==◌, nat_le, List, [], ◌∷◌, length, refl}
use Rattle.std.proofs.Common.{sym, ◌∙◌}
use Rattle.std.proofs.lemmas.Bool.{or_parts, or_from}
use Rattle.std.specs.declared.option.Option.{Option}
use Rattle.std.specs.declared.option.Option.TheVariants.{Some, None}
use Rattle.std.specs.List.{list_any}
use Rattle.cc_entry.specs.declared.entry.End.{End}
use Rattle.cc_entry.specs.declared.call.Call.{Call}
use Rattle.cc_entry.specs.declared.reply.Reply.{Reply}
use Rattle.cc_entry.specs.Pages.{has_page}
use Rattle.cc_model.specs.Numbers.{is_empty}
use Rattle.cc_model.specs.History.{Effect, Did, CameIn, WentOut, Began, Ended, Synced}
use Rattle.cc_model.specs.Acts.{Act, act_of, Opens, Closes, Resizes, Writes, Zeroes, Stores, Stamps, Discards, Looks}
use Rattle.cc_model.specs.Objects.{objects, truncation}
use Rattle.cc_model.specs.Holds.{holds_of, hold_at}
use Rattle.cc_model.specs.Sizes.{Touch, touched_if, cut_if, dropped_if, hold_has, stored_range, ended_ok}
use Rattle.cc_model.specs.Ranges.{span_has}
use Rattle.cc_model.specs.Touches.{size_of, touched, touches, is_dirty, is_mapped}
use Rattle.cc_laws.proofs.ActSteps.{touches_by, touches-done}
use Rattle.cc_laws.proofs.MapSteps.{is_mapped-looks, is_mapped-came_in, is_mapped-went_out, is_mapped-began, is_mapped-synced}
use Rattle.cc_laws.proofs.Steady.{needs_no_map, IsSteadyEffect}
use Rattle.cc_laws.proofs.HeldObjects.{HoldsAsOpen}

touched_if-none : (b : Bool) (place : ℕ) (lsn : Option ℕ) (ts us : List Touch) → touched_if b place lsn ts ≡ [] → (ts ≡ [] → us ≡ []) → touched_if b place lsn us ≡ []
touched_if-none true place lsn ts us none rest = absurd (cc)
touched_if-none false place lsn ts us none rest = rest none

cut_if-none : (o : Option ℕ) (p : ℕ) (ts us : List Touch) → cut_if o p ts ≡ [] → (ts ≡ [] → us ≡ []) → cut_if o p us ≡ []
cut_if-none None p ts us none rest = rest none
cut_if-none (Some to) p ts us none rest = go (nat_le to (4096 * p)) none
  where
    go : (b : Bool) → cond b [] ts ≡ [] → cond b [] us ≡ []
    go true none = refl
    go false none = rest none

dropped_if-none : (dropped : Bool) (ts us : List Touch) → dropped_if dropped ts ≡ [] → (ts ≡ [] → us ≡ []) → dropped_if dropped us ≡ []
dropped_if-none true ts us none rest = refl
dropped_if-none false ts us none rest = rest none

-- a page that is clean is clean since the last begin of its transfer
pub touches-since : (h : List Effect) (p : ℕ) → touches false h p ≡ [] → touches true h p ≡ []
unfolding touches
touches-since [] p clean = refl
touches-since (Did pass call reply ∷ h) p clean = touches-done true pass call reply h p ∙ go (act_of call) (sym (touches-done false pass call reply h p) ∙ clean) (touches-since h p)
  where
    go : (a : Act) → touches_by false a h p ≡ [] → (touches false h p ≡ [] → touches true h p ≡ []) → touches_by true a h p ≡ []
    go (Opens file given quota temporary) none rest = rest none
    go (Closes file truncate) none rest = cut_if-none (truncation (objects h) (size_of h) file truncate) p (touches false h p) (touches true h p) none rest
    go (Resizes allocation size) none rest = cut_if-none (Some size) p (touches false h p) (touches true h p) none rest
    go (Writes at bytes) none rest = touched_if-none (has_page (record { from = at; to = at + length bytes }) p) (suc (length h)) None (touches false h p) (touches true h p) none rest
    go (Zeroes from to) none rest = touched_if-none (has_page (record { from = from; to = to }) p) (suc (length h)) None (touches false h p) (touches true h p) none rest
    go (Stores page bytes) none rest = touched_if-none (has_page (stored_range page (size_of h)) p) (suc (length h)) None (touches false h p) (touches true h p) none rest
    go (Stamps hold lsn) none rest = touched_if-none (hold_has (hold_at (holds_of h) hold) p) (suc (length h)) lsn (touches false h p) (touches true h p) none rest
    go (Discards span) none rest = dropped_if-none (span_has span p) (touches false h p) (touches true h p) none rest
    go Looks none rest = rest none
touches-since (CameIn pass page from_disk ∷ h) p clean = touches-since h p clean
touches-since (WentOut pass page ∷ h) p clean = touches-since h p clean
touches-since (Began pass page ∷ h) p clean = go (page == p) (touches-since h p clean)
  where
    go : (b : Bool) → touches true h p ≡ [] → elim b as (λ x. List Touch) [ true ↦ [] | false ↦ touches true h p ] ≡ []
    go true rest = refl
    go false rest = rest
touches-since (Ended pass page how ∷ h) p clean = go (page == p && ended_ok how) clean (touches-since h p)
  where
    go : (b : Bool) → touches b h p ≡ [] → (touches false h p ≡ [] → touches true h p ≡ []) → touches true h p ≡ []
    go true none rest = none
    go false none rest = rest none
touches-since (Synced pass how ∷ h) p clean = touches-since h p clean

list_any-stronger : (test stronger : ℕ → Bool) → ((n : ℕ) → test n ≡ false → stronger n ≡ false) → (ns : List ℕ) → list_any test ns ≡ false → list_any stronger ns ≡ false
list_any-stronger test stronger fails [] none = refl
list_any-stronger test stronger fails (n ∷ ns) none =
    let parts = or_parts (test n) (list_any test ns) none in
    or_from (stronger n) (list_any stronger ns) (fails n parts.0) (list_any-stronger test stronger fails ns parts.1)

is_dirty-ended : (pass page : ℕ) (how : End) (h : List Effect) (p : ℕ) → is_dirty h p ≡ false → is_dirty (Ended pass page how ∷ h) p ≡ false
unfolding touches
is_dirty-ended pass page how h p clean = go (touches false h p) refl clean (page == p && ended_ok how)
  where
    go : (ts : List Touch) → touches false h p ≡ ts → not (is_empty ts) ≡ false → (b : Bool) → not (is_empty (touches b h p)) ≡ false
    go [] is clean true = rw (touches-since h p is) refl
    go [] is clean false = rw is refl
    go (t ∷ ts) is clean b = absurd (cc)

is_mapped-ended_gone : (pass page : ℕ) (how : End) (h : List Effect) → is_mapped h ≡ false → is_mapped (Ended pass page how ∷ h) ≡ false
unfolding objects touched
is_mapped-ended_gone pass page how h gone =
    let parts = or_parts (not (is_empty (objects h))) (list_any (is_dirty h) (touched h)) gone in
    or_from (not (is_empty (objects h))) (list_any (is_dirty (Ended pass page how ∷ h)) (touched h)) parts.0 (list_any-stronger (is_dirty h) (is_dirty (Ended pass page how ∷ h)) (is_dirty-ended pass page how h) (touched h) parts.1)

pub no_objects : (h : List Effect) → is_mapped h ≡ false → objects h ≡ []
no_objects h gone = go (objects h) refl gone
  where
    go : (opened : List ℕ) → objects h ≡ opened → (not (is_empty opened) || list_any (is_dirty h) (touched h)) ≡ false → opened ≡ []
    go [] is gone = refl
    go (object ∷ rest) is gone = absurd (cc)

-- whether an act is an initialise
abbrev pub makes_map : Act → Bool
makes_map (Opens file given quota temporary) = true
makes_map (Closes file truncate) = false
makes_map (Resizes allocation size) = false
makes_map (Writes at bytes) = false
makes_map (Zeroes from to) = false
makes_map (Stores page bytes) = false
makes_map (Stamps hold lsn) = false
makes_map (Discards span) = false
makes_map Looks = false

abbrev pub NoInitialise : Effect → Type 0
NoInitialise (Did pass call reply) = makes_map (act_of call) ≡ false
NoInitialise other = Unit {0}

-- a call that may be done without a map, but for an initialise, makes none
pub is_mapped-done_gone : (pass : ℕ) (call : Call) (reply : Reply) (h : List Effect) → needs_no_map (act_of call) ≡ true → makes_map (act_of call) ≡ false → is_mapped h ≡ false → is_mapped (Did pass call reply ∷ h) ≡ false
is_mapped-done_gone pass call reply h needs makes gone = go (act_of call) refl needs makes
  where
    go : (a : Act) → act_of call ≡ a → needs_no_map a ≡ true → makes_map a ≡ false → is_mapped (Did pass call reply ∷ h) ≡ false
    go Looks is needs makes = is_mapped-looks pass call reply h is ∙ gone
    go (Opens file given quota temporary) is needs makes = absurd (cc)
    go other is needs makes = absurd (cc)

-- nor does another effect
pub is_mapped-effect_gone : (e : Effect) (h : List Effect) → IsSteadyEffect e h → HoldsAsOpen h → NoInitialise e → is_mapped h ≡ false → is_mapped (e ∷ h) ≡ false
is_mapped-effect_gone (Did pass call reply) h steady owned makes gone =
    is_mapped-done_gone pass call reply h (steady.first (no_objects h gone) (owned (no_objects h gone))) makes gone
is_mapped-effect_gone (CameIn pass page from_disk) h steady owned makes gone = is_mapped-came_in pass page from_disk h ∙ gone
is_mapped-effect_gone (WentOut pass page) h steady owned makes gone = is_mapped-went_out pass page h ∙ gone
is_mapped-effect_gone (Began pass page) h steady owned makes gone = is_mapped-began pass page h ∙ gone
is_mapped-effect_gone (Ended pass page how) h steady owned makes gone = is_mapped-ended_gone pass page how h gone
is_mapped-effect_gone (Synced pass how) h steady owned makes gone = is_mapped-synced pass how h ∙ gone
