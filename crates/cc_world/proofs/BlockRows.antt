-- The view blocks that may be mapped are told as pages come in.
use Rattle.std.specs.Prelude.{◌≡◌, ◌⊎◌, ℕ, ◌/◌, Bool, true, false, not, ◌&&◌, ◌||◌, ◌==◌, is_some, List, [], ◌∷◌, ◌++◌, refl, if◌then◌else◌}
use Rattle.std.specs.declared.option.Option.{Option}
use Rattle.std.specs.declared.option.Option.TheVariants.{Some, None}
use Rattle.std.specs.List.{cons_option, filter, list_any}
use Rattle.std.proofs.Common.{ap, sym, subst, ◌∙◌, inl, inr}
use Rattle.std.proofs.lemmas.Bool.{and_from, and_parts, eqb-true, eq-eqb, or_left, or_parts, or_right}
use Rattle.std.proofs.lemmas.List.Folds.{list_any-append}
use Rattle.cc_entry.specs.Pages.{block_of}
use Rattle.cc_entry.specs.Place.{Page, Range}
use Rattle.cc_entry.specs.declared.call.Call.{Call}
use Rattle.cc_entry.specs.declared.call.Call.TheVariants as call
use Rattle.cc_entry.specs.declared.entry.Entry.{Entry}
use Rattle.cc_entry.specs.declared.entry.Entry.TheVariants as entry
use Rattle.cc_entry.specs.declared.reply.Outcome.TheVariants as outcome
use Rattle.cc_entry.specs.declared.reply.Reply.{Reply}
use Rattle.cc_laws.proofs.HistorySteps.{history-effect}
use Rattle.cc_laws.proofs.Lists1.{among-any}
use Rattle.cc_laws.proofs.PlacesResident.{resident-places}
use Rattle.cc_laws.specs.ByPlaces.{SincePlace, some_effect}
use Rattle.cc_laws.specs.ByPlacesResident.{act_stores, brings_page_in, comes_in, goes_away}
use Rattle.cc_model.specs.Acts.{act_of}
use Rattle.cc_model.specs.History.{Effect, Did, CameIn, WentOut, Began, Ended, Synced, effect_of, history}
use Rattle.cc_model.specs.Ranges.{span_has}
use Rattle.cc_model.specs.Residency.{block_is_mapped, is_resident, residents}
use Rattle.cc_model.specs.Touches.{is_mapped}
use Rattle.cc_world.proofs.Residing.{none-resident}
use Rattle.cc_world.specs.Blocks.{BlocksStand, HasBlocks, has_block, is_of_block, page_brought}
use Rattle.cc_world.specs.Residents.{IsInBlock}
use Rattle.cc_world.specs.declared.blocks.PagePlace.{PagePlace}

-- a page that is resident after an effect was so before, or the effect brought it in
resident-step : (x : Effect) (h : List Effect) (p : ℕ) → SincePlace (comes_in p) (goes_away p) (x ∷ h) → (brings_page_in p x ≡ true) ⊎ (is_resident h p ≡ true)
resident-step x h p since = go since.later since.places since.kept
  where
    heads : (a b : Effect) (g k : List Effect) → a ∷ g ≡ b ∷ k → (a ≡ b) × (g ≡ k)
    heads a b g k same = (cc, cc)

    go : (later : List Effect) → x ∷ h ≡ later ++ since.effect ∷ since.before → some_effect (goes_away p) later (since.effect ∷ since.before) ≡ false → (brings_page_in p x ≡ true) ⊎ (is_resident h p ≡ true)
    go [] places kept =
        let same = heads x since.effect h since.before places in
        inl (ap (brings_page_in p) same.0 ∙ (and_parts (is_mapped (since.effect ∷ since.before)) (brings_page_in p since.effect) since.brings_it).1)
    go (y ∷ later) places kept =
        let same = heads x y h (later ++ since.effect ∷ since.before) places in
        inr ((resident-places h p).1 (record {
          later = later;
          effect = since.effect;
          before = since.before;
          places = same.1;
          brings_it = since.brings_it;
          kept = (or_parts _ (some_effect (goes_away p) later (since.effect ∷ since.before)) kept).1;
        }))

pub resident-effect : (x : Effect) (h : List Effect) (p : ℕ) → is_resident (x ∷ h) p ≡ true → (brings_page_in p x ≡ true) ⊎ (is_resident h p ≡ true)
resident-effect x h p here = resident-step x h p ((resident-places (x ∷ h) p).0 here)

-- an entry with such an effect tells the page
store-call : (pass nth stream p : ℕ) (it : Call) (reply : Reply) → act_stores p (act_of it) ≡ true → page_brought (entry.Call pass nth (Some stream) it (outcome.Done reply)) ≡ Some (record { stream = stream; page = p })
store-call pass nth stream p (call.NcStore file page bytes) reply brings =
    ap (λ (n : ℕ). let place : PagePlace = record { stream = stream; page = n } in Some place) (eqb-true page p brings)
store-call pass nth stream p (call.PreparePin file at len true exclusive) reply brings = absurd (cc)
store-call pass nth stream p (call.PreparePin file at len false exclusive) reply brings = absurd (cc)
store-call pass nth stream p other reply brings = absurd (cc)

in-stream : (o : Option PagePlace) (t s p : ℕ) → t ≡ s → o ≡ Some (record { stream = t; page = p }) → o ≡ Some (record { stream = s; page = p })
in-stream o t s p same is = is ∙ ap (λ (n : ℕ). let place : PagePlace = record { stream = n; page = p } in Some place) same

differ : false ≡ true → ⊥
differ same = absurd (cc)

effect-is : (b : Bool) (y x : Effect) → (if b then Some y else None) ≡ Some x → (b ≡ true) × (y ≡ x)
effect-is true y x is = (refl, cc)
effect-is false y x is = absurd (cc)

brings-entry : (e : Entry) (s p : ℕ) (x : Effect) → effect_of e s ≡ Some x → brings_page_in p x ≡ true → page_brought e ≡ Some (record { stream = s; page = p })
brings-entry (entry.Call pass nth (Some stream) it (outcome.Done reply)) s p x is brings =
    let its = effect-is (stream == s) (Did pass it reply) x is in
    in-stream (page_brought (entry.Call pass nth (Some stream) it (outcome.Done reply))) stream s p (eqb-true stream s its.0)
    (store-call pass nth stream p it reply (ap (brings_page_in p) its.1 ∙ brings))
brings-entry (entry.PageIn pass page from_disk) s p x is brings =
    let its = effect-is (page.stream == s) (CameIn pass page.page from_disk) x is in
    let number : page.page ≡ p = eqb-true page.page p (ap (brings_page_in p) its.1 ∙ brings) in
    in-stream (page_brought (entry.PageIn pass page from_disk)) page.stream s p (eqb-true page.stream s its.0)
    (ap (λ (n : ℕ). let place : PagePlace = record { stream = page.stream; page = n } in Some place) number)
brings-entry (entry.PageOut pass page) s p x is brings =
    let its = effect-is (page.stream == s) (WentOut pass page.page) x is in
    absurd (differ (ap (brings_page_in p) its.1 ∙ brings))
brings-entry (entry.WriteBegin pass page) s p x is brings =
    let its = effect-is (page.stream == s) (Began pass page.page) x is in
    absurd (differ (ap (brings_page_in p) its.1 ∙ brings))
brings-entry (entry.WriteEnd pass page how) s p x is brings =
    let its = effect-is (page.stream == s) (Ended pass page.page how) x is in
    absurd (differ (ap (brings_page_in p) its.1 ∙ brings))
brings-entry (entry.Sync pass stream how) s p x is brings =
    let its = effect-is (stream == s) (Synced pass how) x is in
    absurd (differ (ap (brings_page_in p) its.1 ∙ brings))
brings-entry other s p x is brings = absurd (cc)

-- The blocks go on standing with an entry, where they have that of the page that it brings in.
pub blocks-after : (past : List Entry) (e : Entry) (old new : List PagePlace) → HasBlocks old new → ((place : PagePlace) → page_brought e ≡ Some place → has_block new place.stream (place.page / 64) ≡ true) → BlocksStand past old → BlocksStand (e ∷ past) new
blocks-after past e old new more brought stood s p here = go (effect_of e s) refl
  where
    by : (x : Effect) → effect_of e s ≡ Some x → (brings_page_in p x ≡ true) ⊎ (is_resident (history past s) p ≡ true) → has_block new s (p / 64) ≡ true
    by x is (inl brings) = brought (record { stream = s; page = p }) (brings-entry e s p x is brings)
    by x is (inr was) = more s (p / 64) (stood s p was)

    go : (o : Option Effect) → effect_of e s ≡ o → has_block new s (p / 64) ≡ true
    go None is =
        more s (p / 64) (stood s p (sym (ap (λ (h : List Effect). is_resident h p) (history-effect e past s None is)) ∙ here))
    go (Some x) is =
        by x is (resident-effect x (history past s) p (sym (ap (λ (h : List Effect). is_resident h p) (history-effect e past s (Some x) is)) ∙ here))

pub blocks-same : (past : List Entry) (e : Entry) (pages : List PagePlace) → page_brought e ≡ None → BlocksStand past pages → BlocksStand (e ∷ past) pages
blocks-same past e pages none stood = blocks-after past e pages pages (λ s block has. has) (λ place some. absurd (cc (none, some))) stood

-- an entry that brings a page in, whose block is noted
pub blocks-noted : (past : List Entry) (e : Entry) (old new : List PagePlace) (place : PagePlace) → page_brought e ≡ Some place → HasBlocks old new → has_block new place.stream (place.page / 64) ≡ true → BlocksStand past old → BlocksStand (e ∷ past) new
blocks-noted past e old new place is more its stood =
    blocks-after past e old new more (λ other some. subst (λ (p : PagePlace). has_block new p.stream (p.page / 64) ≡ true) (one place other (sym is ∙ some)) its) stood
  where
    one : (a b : PagePlace) → Some a ≡ Some b → a ≡ b
    one a b same = cc

pub blocks-fresh : (pages : List PagePlace) → BlocksStand [] pages
unfolding residents history
blocks-fresh pages s p here = absurd (cc)

-- those that are mapped are kept
any-kept : {X : Type 0} (test keep : X → Bool) (xs : List X) → ((x : X) → test x ≡ true → keep x ≡ true) → list_any test xs ≡ true → list_any test (filter keep xs) ≡ true
any-kept test keep [] keeps some = absurd (cc)
any-kept {X} test keep (x ∷ xs) keeps some = go (test x) refl (keep x) refl some (any-kept test keep xs keeps)
  where
    go : (t : Bool) → test x ≡ t → (k : Bool) → keep x ≡ k → (t || list_any test xs) ≡ true → (list_any test xs ≡ true → list_any test (filter keep xs) ≡ true) → list_any test (filter keep (x ∷ xs)) ≡ true
    go true is true kept some rest = rw (kept, is) refl
    go true is false drop some rest = absurd (cc (keeps x is))
    go false is true kept some rest = rw (kept, is) (rest some)
    go false is false drop some rest = rw drop (rest some)

pub blocks-pruned : (past : List Entry) (old new : List PagePlace) → new ≡ filter (λ place. block_is_mapped (history past place.stream) (place.page / 64)) old → BlocksStand past old → BlocksStand past new
blocks-pruned past old new is stood s p here =
    ap (λ (pages : List PagePlace). has_block pages s (p / 64)) is
    ∙ any-kept (is_of_block s (p / 64)) (λ place. block_is_mapped (history past place.stream) (place.page / 64)) old keeps (stood s p here)
  where
    keeps : (place : PagePlace) → is_of_block s (p / 64) place ≡ true → block_is_mapped (history past place.stream) (place.page / 64) ≡ true
    keeps place its =
        let parts = and_parts (place.stream == s) (place.page / 64 == p / 64) its in
        ap (λ (n : ℕ). block_is_mapped (history past n) (place.page / 64)) (eqb-true place.stream s parts.0)
        ∙ (ap (λ (n : ℕ). block_is_mapped (history past s) n) (eqb-true (place.page / 64) (p / 64) parts.1)
        ∙ among-any (λ q. block_of q == p / 64) p (residents (history past s)) here (eq-eqb (p / 64) (p / 64) refl))

-- No page of the span is resident that is of one of these blocks.
abbrev pub NoneIn : List Effect → ℕ → Option Range → List PagePlace → Type 0
NoneIn h s span pages = (p : ℕ) → has_block pages s (p / 64) ≡ true → span_has span p ≡ true → is_resident h p ≡ false

pub none-first : (h : List Effect) (s : ℕ) (span : Option Range) → NoneIn h s span []
none-first h s span p some has = absurd (cc)

-- nor of one more
pub none-with : (h : List Effect) (s : ℕ) (span : Option Range) (pages : List PagePlace) (place : PagePlace) → ((place.stream == s) ≡ true → IsInBlock h span (place.page / 64) false) → NoneIn h s span pages → NoneIn h s span (pages ++ place ∷ [])
none-with h s span pages place its none p some has = go (has_block pages s (p / 64)) refl (is_of_block s (p / 64) place) refl
  where
    split : (has_block pages s (p / 64) || (is_of_block s (p / 64) place || false)) ≡ true
    split = sym (list_any-append (is_of_block s (p / 64)) pages (place ∷ [])) ∙ some

    go : (a : Bool) → has_block pages s (p / 64) ≡ a → (b : Bool) → is_of_block s (p / 64) place ≡ b → is_resident h p ≡ false
    go true is b other = none p is has
    go false is true other =
        let parts = and_parts (place.stream == s) (place.page / 64 == p / 64) other in
        its parts.0 p (sym (eqb-true (place.page / 64) (p / 64) parts.1)) has
    go false is false other = absurd (cc (is, other, split))

-- so no page of the span is resident
pub none-at-all : (past : List Entry) (s : ℕ) (span : Option Range) (pages : List PagePlace) → BlocksStand past pages → NoneIn (history past s) s span pages → list_any (span_has span) (residents (history past s)) ≡ false
none-at-all past s span pages stood none = none-resident (history past s) span (λ p has. by p has (is_resident (history past s) p) refl)
  where
    by : (p : ℕ) → span_has span p ≡ true → (b : Bool) → is_resident (history past s) p ≡ b → is_resident (history past s) p ≡ false
    by p has true here = none p (stood s p here) has
    by p has false out = out
