-- What all touches of a page pass that are neither written nor cut, as an effect comes more.
use Rattle.std.specs.Prelude.{◌≡◌, ℕ, suc, ◌+◌, ◌*◌, ◌≤◌, Bool, true, false, cond, ◌&&◌, ◌==◌, nat_le, List, [], ◌∷◌, length, refl}
use Rattle.std.specs.declared.option.Option.{Option}
use Rattle.std.specs.declared.option.Option.TheVariants.{Some, None}
use Rattle.std.specs.List.{list_all}
use Rattle.std.proofs.Common.{ap, sym, ◌∙◌, arith}
use Rattle.std.proofs.lemmas.Bool.{and_parts, and_from, le-leb}
use Rattle.std.proofs.lemmas.List.Sums.{AllPass-from_list_all, list_all-from_AllPass}
use Rattle.cc_entry.specs.Pages.{has_page}
use Rattle.cc_model.specs.History.{Effect, Did, CameIn, WentOut, Began, Ended, Synced}
use Rattle.cc_model.specs.Acts.{Act, act_of, Opens, Closes, Resizes, Writes, Zeroes, Stores, Stamps, Discards, Looks}
use Rattle.cc_model.specs.Objects.{objects, truncation}
use Rattle.cc_model.specs.Holds.{hold_at, holds_of}
use Rattle.cc_model.specs.Sizes.{Touch, touched_if, cut_if, dropped_if, hold_has, stored_range, ended_ok}
use Rattle.cc_model.specs.Ranges.{span_has}
use Rattle.cc_model.specs.Touches.{touches, size_of}
use Rattle.cc_laws.proofs.ActSteps.{touches_by, touches-done}

-- what passes one test passes another, in a list too
pub all_so : {A : Type 0} (test other : A → Bool) → ((x : A) → test x ≡ true → other x ≡ true) → (xs : List A) → list_all test xs ≡ true → list_all other xs ≡ true
all_so test other so xs all = list_all-from_AllPass other xs (λ k d low. so _ (AllPass-from_list_all test xs all k d low))

-- a touch more, and fewer touches
touched-pass : (test : Touch → Bool) (b : Bool) (place : ℕ) (lsn : Option ℕ) (ts : List Touch) → test (record { place = place; lsn = lsn }) ≡ true → list_all test ts ≡ true → list_all test (touched_if b place lsn ts) ≡ true
touched-pass test true place lsn ts new all = and_from _ _ new all
touched-pass test false place lsn ts new all = all

cut-pass : (test : Touch → Bool) (o : Option ℕ) (p : ℕ) (ts : List Touch) → list_all test ts ≡ true → list_all test (cut_if o p ts) ≡ true
cut-pass test None p ts all = all
cut-pass test (Some to) p ts all = go (nat_le to (4096 * p))
  where
    go : (t : Bool) → list_all test (cond t [] ts) ≡ true
    go true = refl
    go false = all

dropped-pass : (test : Touch → Bool) (b : Bool) (ts : List Touch) → list_all test ts ≡ true → list_all test (dropped_if b ts) ≡ true
dropped-pass test true ts all = refl
dropped-pass test false ts all = all

-- a call adds at most one touch, whose place is its own
act-pass : (test : Touch → Bool) (ended : Bool) (a : Act) (h : List Effect) (p : ℕ) → ((lsn : Option ℕ) → test (record { place = suc (length h); lsn = lsn }) ≡ true) → list_all test (touches ended h p) ≡ true → list_all test (touches_by ended a h p) ≡ true
act-pass test ended (Opens file given quota temporary) h p new all = all
act-pass test ended (Closes file truncate) h p new all = cut-pass test (truncation (objects h) (size_of h) file truncate) p (touches ended h p) all
act-pass test ended (Resizes allocation size) h p new all = cut-pass test (Some size) p (touches ended h p) all
act-pass test ended (Writes at bytes) h p new all = touched-pass test (has_page (record { from = at; to = at + length bytes }) p) (suc (length h)) None (touches ended h p) (new None) all
act-pass test ended (Zeroes from to) h p new all = touched-pass test (has_page (record { from = from; to = to }) p) (suc (length h)) None (touches ended h p) (new None) all
act-pass test ended (Stores page bytes) h p new all = touched-pass test (has_page (stored_range page (size_of h)) p) (suc (length h)) None (touches ended h p) (new None) all
act-pass test ended (Stamps hold lsn) h p new all = touched-pass test (hold_has (hold_at (holds_of h) hold) p) (suc (length h)) lsn (touches ended h p) (new lsn) all
act-pass test ended (Discards span) h p new all = dropped-pass test (span_has span p) (touches ended h p) all
act-pass test ended Looks h p new all = all

-- what is left of a call's touches where fewer were left before
touched-part : (test : Touch → Bool) (b : Bool) (place : ℕ) (lsn : Option ℕ) (ts us : List Touch) → (list_all test us ≡ true → list_all test ts ≡ true) → list_all test (touched_if b place lsn us) ≡ true → list_all test (touched_if b place lsn ts) ≡ true
touched-part test true place lsn ts us so all =
    let parts = and_parts (test (record { place = place; lsn = lsn })) (list_all test us) all in and_from _ _ parts.0 (so parts.1)
touched-part test false place lsn ts us so all = so all

cut-part : (test : Touch → Bool) (o : Option ℕ) (p : ℕ) (ts us : List Touch) → (list_all test us ≡ true → list_all test ts ≡ true) → list_all test (cut_if o p us) ≡ true → list_all test (cut_if o p ts) ≡ true
cut-part test None p ts us so all = so all
cut-part test (Some to) p ts us so all = go (nat_le to (4096 * p)) all
  where
    go : (t : Bool) → list_all test (cond t [] us) ≡ true → list_all test (cond t [] ts) ≡ true
    go true it = refl
    go false it = so it

dropped-part : (test : Touch → Bool) (b : Bool) (ts us : List Touch) → (list_all test us ≡ true → list_all test ts ≡ true) → list_all test (dropped_if b us) ≡ true → list_all test (dropped_if b ts) ≡ true
dropped-part test true ts us so all = refl
dropped-part test false ts us so all = so all

act-part : (test : Touch → Bool) (a : Act) (h : List Effect) (p : ℕ) → (list_all test (touches false h p) ≡ true → list_all test (touches true h p) ≡ true) → list_all test (touches_by false a h p) ≡ true → list_all test (touches_by true a h p) ≡ true
act-part test (Opens file given quota temporary) h p so all = so all
act-part test (Closes file truncate) h p so all = cut-part test (truncation (objects h) (size_of h) file truncate) p (touches true h p) (touches false h p) so all
act-part test (Resizes allocation size) h p so all = cut-part test (Some size) p (touches true h p) (touches false h p) so all
act-part test (Writes at bytes) h p so all = touched-part test (has_page (record { from = at; to = at + length bytes }) p) (suc (length h)) None (touches true h p) (touches false h p) so all
act-part test (Zeroes from to) h p so all = touched-part test (has_page (record { from = from; to = to }) p) (suc (length h)) None (touches true h p) (touches false h p) so all
act-part test (Stores page bytes) h p so all = touched-part test (has_page (stored_range page (size_of h)) p) (suc (length h)) None (touches true h p) (touches false h p) so all
act-part test (Stamps hold lsn) h p so all = touched-part test (hold_has (hold_at (holds_of h) hold) p) (suc (length h)) lsn (touches true h p) (touches false h p) so all
act-part test (Discards span) h p so all = dropped-part test (span_has span p) (touches true h p) (touches false h p) so all
act-part test Looks h p so all = so all

-- what is unwritten after a good end was unwritten before it
pub touches-part : (test : Touch → Bool) (h : List Effect) (p : ℕ) → list_all test (touches false h p) ≡ true → list_all test (touches true h p) ≡ true
unfolding touches
touches-part test [] p all = all
touches-part test (Did pass call reply ∷ h) p all =
    ap (list_all test) (touches-done true pass call reply h p)
    ∙ act-part test (act_of call) h p (touches-part test h p) (sym (ap (list_all test) (touches-done false pass call reply h p)) ∙ all)
touches-part test (CameIn pass page from_disk ∷ h) p all = touches-part test h p all
touches-part test (WentOut pass page ∷ h) p all = touches-part test h p all
touches-part test (Began pass page ∷ h) p all = go (page == p) (touches-part test h p all)
  where
    go : (t : Bool) → list_all test (touches true h p) ≡ true → list_all test (elim t as (λ x. List Touch) [ true ↦ [] | false ↦ touches true h p ]) ≡ true
    go true rest = refl
    go false rest = rest
touches-part test (Ended pass page how ∷ h) p all = go (page == p && ended_ok how) all (touches-part test h p)
  where
    go : (t : Bool) → list_all test (touches t h p) ≡ true → (list_all test (touches false h p) ≡ true → list_all test (touches true h p) ≡ true) → list_all test (touches true h p) ≡ true
    go true it rest = it
    go false it rest = rest it
touches-part test (Synced pass how ∷ h) p all = touches-part test h p all

-- what the touch passes that an effect may add: only a call adds one
abbrev pub AddsPass : (Touch → Bool) → Effect → ℕ → Type 0
AddsPass test (Did pass call reply) front = (lsn : Option ℕ) → test (record { place = suc front; lsn = lsn }) ≡ true
AddsPass test other front = Unit {0}

-- what all touches pass, they pass after one effect more, if the touch that it may add passes it
pub touches-pass : (test : Touch → Bool) (ended : Bool) (e : Effect) (h : List Effect) (p : ℕ) → AddsPass test e (length h) → list_all test (touches ended h p) ≡ true → list_all test (touches ended (e ∷ h) p) ≡ true
unfolding touches
touches-pass test ended (Did pass call reply) h p new all =
    ap (list_all test) (touches-done ended pass call reply h p) ∙ act-pass test ended (act_of call) h p new all
touches-pass test ended (CameIn pass page from_disk) h p new all = all
touches-pass test ended (WentOut pass page) h p new all = all
touches-pass test ended (Began pass page) h p new all = go (ended && page == p)
  where
    go : (t : Bool) → list_all test (elim t as (λ x. List Touch) [ true ↦ [] | false ↦ touches ended h p ]) ≡ true
    go true = refl
    go false = all
touches-pass test true (Ended pass page how) h p new all = all
touches-pass test false (Ended pass page how) h p new all = go (page == p && ended_ok how)
  where
    go : (t : Bool) → list_all test (touches t h p) ≡ true
    go true = touches-part test h p all
    go false = all
touches-pass test ended (Synced pass how) h p new all = all

-- where each place passes, the touch that an effect may add does
pub adds-any : (test : Touch → Bool) (e : Effect) (front : ℕ) → ((lsn : Option ℕ) → test (record { place = suc front; lsn = lsn }) ≡ true) → AddsPass test e front
adds-any test (Did pass call reply) front new = new
adds-any test (CameIn pass page from_disk) front new = tt
adds-any test (WentOut pass page) front new = tt
adds-any test (Began pass page) front new = tt
adds-any test (Ended pass page how) front new = tt
adds-any test (Synced pass how) front new = tt

-- no touch has a later place than the effects that the stream had
pub places-within : (n : ℕ) (h : List Effect) (p : ℕ) → length h ≤ n → list_all (λ touch. nat_le touch.place n) (touches false h p) ≡ true
unfolding touches
places-within n [] p le = refl
places-within n (e ∷ h) p le =
    touches-pass (λ touch. nat_le touch.place n) false e h p
    (adds-any (λ touch. nat_le touch.place n) e (length h) (λ lsn. le-leb (suc (length h)) n (omega (arith, le))))
    (places-within n h p (omega (arith, le)))
