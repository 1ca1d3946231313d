-- Each resident page of a stream begins below its size.
use Rattle.std.specs.Prelude.{◌≡◌, ℕ, ◌*◌, ◌<◌, ◌^◌, Bool, true, false, not, ◌==◌, ◌||◌, nat_lt, List, [], ◌∷◌, refl}
use Rattle.std.specs.declared.option.Option.{Option}
use Rattle.std.specs.declared.option.Option.TheVariants.{Some, None}
use Rattle.std.specs.List.{cons_option, filter}
use Rattle.std.proofs.Common.{ap, sym, ◌∙◌, subst, arith}
use Rattle.std.proofs.lemmas.Bool.{and_parts, eqb-true, ltb-true}
use Rattle.cc_entry.specs.declared.call.Call.{Call}
use Rattle.cc_entry.specs.declared.call.Call.TheVariants as call
use Rattle.cc_entry.specs.declared.entry.Entry.{Entry}
use Rattle.cc_entry.specs.declared.reply.Reply.{Reply}
use Rattle.cc_laws.proofs.ActSteps.{sizes_by, sizes-done}
use Rattle.cc_laws.proofs.AdmittedCalls.{stores_below}
use Rattle.cc_laws.proofs.BlockLists.{is_among-filter}
use Rattle.cc_laws.proofs.OrderOfUse.{StoresBelow}
use Rattle.cc_laws.proofs.ResidencySteps.{residents-mapped, residents-unmapped}
use Rattle.cc_laws.proofs.RoomPasts.{RoomEffect, RoomOption, RoomOption-legal}
use Rattle.cc_laws.proofs.SafeHistory.{IsEffectSafe, IsSafe}
use Rattle.cc_laws.proofs.SafeJournals.{good-safe}
use Rattle.cc_laws.proofs.SizeSteps.{sizes-came_in, sizes-went_out, sizes-began, sizes-ended, sizes-synced}
use Rattle.cc_laws.proofs.SoundFacts.{size_of-good}
use Rattle.cc_laws.proofs.RoomPasts.{IsGoodSoFar-before}
use Rattle.cc_model.specs.Acts.{Act, act_of, Opens, Closes, Resizes, Writes, Zeroes, Stores, Stamps, Discards, Looks}
use Rattle.cc_model.specs.Good.{IsGoodSoFar}
use Rattle.cc_model.specs.History.{Effect, Did, CameIn, WentOut, Began, Ended, Synced, effect_of, history}
use Rattle.cc_model.specs.Numbers.{is_among, without}
use Rattle.cc_model.specs.Objects.{objects, truncation}
use Rattle.cc_model.specs.Ranges.{span_has}
use Rattle.cc_model.specs.Residency.{below, moved_by, residents, is_resident}
use Rattle.cc_model.specs.Setup.{Setup}
use Rattle.cc_model.specs.Sizes.{resized_by}
use Rattle.cc_model.specs.Touches.{sizes, size_of, is_mapped}

-- each of these pages begins below the size
abbrev AllBegin : ℕ → List ℕ → Type 0
AllBegin size pages = (p : ℕ) → is_among p pages ≡ true → 4096 * p < size

begin-filtered : (size : ℕ) (test : ℕ → Bool) (pages : List ℕ) → AllBegin size pages → AllBegin size (filter test pages)
begin-filtered size test pages all p is = all p (and_parts (is_among p pages) (test p) (sym (is_among-filter test p pages) ∙ is)).0

begin-placed : (size page : ℕ) (pages : List ℕ) → 4096 * page < size → AllBegin size pages → AllBegin size (page ∷ without page pages)
begin-placed size page pages inside all p is = go (page == p) refl is
  where
    go : (b : Bool) → (page == p) ≡ b → (b || is_among p (without page pages)) ≡ true → 4096 * p < size
    go true same is = let equal = eqb-true page p same in subst (λ n. 4096 * n < size) equal inside
    go false other is = begin-filtered size (λ m. not (m == page)) pages all p is

begin-cut : (o : Option ℕ) (h : List Effect) (pages : List ℕ) → AllBegin (size_of h) pages → AllBegin (resized_by o (sizes h)).size (below o pages)
begin-cut None h pages all = all
begin-cut (Some to) h pages all = λ p is.
    ltb-true (4096 * p) to (and_parts (is_among p pages) (nat_lt (4096 * p) to) (sym (is_among-filter (λ q. nat_lt (4096 * q) to) p pages) ∙ is)).1

-- what an effect asks of the pages that it makes resident
abbrev BringsBelow : Effect → List Effect → Type 0
BringsBelow (CameIn pass page from_disk) h = 4096 * page < size_of h
BringsBelow other h = StoresBelow other h

stored-below : (pass : ℕ) (it : Call) (r : Reply) (h : List Effect) (page : ℕ) (bytes : List ℕ) → StoresBelow (Did pass it r) h → act_of it ≡ Stores page bytes → 4096 * page < size_of h
stored-below pass (call.NcStore file number bytes) r h page given inside is = let same : number ≡ page = cc in rw (sym same) inside
stored-below pass (call.PreparePin file at len true exclusive) r h page given inside is = absurd (cc)
stored-below pass (call.PreparePin file at len false exclusive) r h page given inside is = absurd (cc)
stored-below pass other r h page given inside is = absurd (cc)

done-begin : (pass : ℕ) (it : Call) (r : Reply) (h : List Effect) → StoresBelow (Did pass it r) h → AllBegin (size_of h) (residents h) → AllBegin (size_of (Did pass it r ∷ h)) (moved_by (Did pass it r) h (residents h))
done-begin pass it r h inside all = subst (λ (n : ℕ). AllBegin n (moved_by (Did pass it r) h (residents h))) (sym (ap (λ s. s.size) (sizes-done pass it r h))) (go (act_of it) refl)
  where
    go : (a : Act) → act_of it ≡ a → AllBegin (sizes_by (act_of it) h).size (moved_by (Did pass it r) h (residents h))
    go (Opens file given quota temporary) is = rw (is, moved_by, sizes_by) (opens (is_mapped h) refl)
      where
        opens : (b : Bool) → is_mapped h ≡ b → AllBegin (sizes_by (Opens file given quota temporary) h).size (residents h)
        opens true mapped = rw (mapped, sizes_by) all
        opens false unmapped = λ p among. let none : is_among p [] ≡ true = rw (residents-unmapped h unmapped) at among in absurd (cc)
    go (Closes file truncate) is = rw (is, moved_by, sizes_by) (begin-cut (truncation (objects h) (size_of h) file truncate) h (residents h) all)
    go (Resizes allocation size) is = rw (is, moved_by, sizes_by) (begin-cut (Some size) h (residents h) all)
    go (Writes at bytes) is = rw (is, moved_by, sizes_by) all
    go (Zeroes from to) is = rw (is, moved_by, sizes_by) all
    go (Stores page bytes) is = rw (is, moved_by, sizes_by) (begin-placed (size_of h) page (residents h) (stored-below pass it r h page bytes inside is) all)
    go (Stamps hold lsn) is = rw (is, moved_by, sizes_by) all
    go (Discards span) is = rw (is, moved_by, sizes_by) (begin-filtered (size_of h) (λ p. not (span_has span p)) (residents h) all)
    go Looks is = rw (is, moved_by, sizes_by) all

moved-begin : (e : Effect) (h : List Effect) → BringsBelow e h → AllBegin (size_of h) (residents h) → AllBegin (size_of (e ∷ h)) (moved_by e h (residents h))
moved-begin (Did pass it r) h brings all = done-begin pass it r h brings all
moved-begin (CameIn pass page from_disk) h brings all = rw (ap (λ s. s.size) (sizes-came_in pass page from_disk h)) (begin-placed (size_of h) page (residents h) brings all)
moved-begin (WentOut pass page) h brings all = rw (ap (λ s. s.size) (sizes-went_out pass page h)) (begin-filtered (size_of h) (λ m. not (m == page)) (residents h) all)
moved-begin (Began pass page) h brings all = rw (ap (λ s. s.size) (sizes-began pass page h)) all
moved-begin (Ended pass page how) h brings all = rw (ap (λ s. s.size) (sizes-ended pass page how h)) all
moved-begin (Synced pass how) h brings all = rw (ap (λ s. s.size) (sizes-synced pass how h)) all

effect-begin : (e : Effect) (h : List Effect) → BringsBelow e h → AllBegin (size_of h) (residents h) → AllBegin (size_of (e ∷ h)) (residents (e ∷ h))
effect-begin e h brings all = go (is_mapped (e ∷ h)) refl
  where
    go : (b : Bool) → is_mapped (e ∷ h) ≡ b → AllBegin (size_of (e ∷ h)) (residents (e ∷ h))
    go true mapped = rw (residents-mapped e h mapped) (moved-begin e h brings all)
    go false unmapped = λ p is. let none : is_among p [] ≡ true = rw (residents-unmapped (e ∷ h) unmapped) at is in absurd (cc)

brings-below : (past : List Entry) (e : Effect) (h : List Effect) → RoomEffect past e h → IsEffectSafe e h → BringsBelow e h
brings-below past (Did pass (call.NcStore file page bytes) r) h room safe = stores_below (size_of h) page _ room.within
brings-below past (Did pass other r) h room safe = tt
brings-below past (CameIn pass page from_disk) h room safe = safe.below_size
brings-below past (WentOut pass page) h room safe = tt
brings-below past (Began pass page) h room safe = tt
brings-below past (Ended pass page how) h room safe = tt
brings-below past (Synced pass how) h room safe = tt

onto-begin : (past : List Entry) (o : Option Effect) (h : List Effect) → RoomOption past o h → IsSafe (cons_option o h) → AllBegin (size_of h) (residents h) → AllBegin (size_of (cons_option o h)) (residents (cons_option o h))
unfolding IsSafe
onto-begin past None h room safe all = all
onto-begin past (Some e) h room safe all = effect-begin e h (brings-below past e h room safe.0) all

past-begin : (u : Setup) (past : List Entry) (s : ℕ) → IsGoodSoFar u past → AllBegin (size_of (history past s)) (residents (history past s))
unfolding history residents
past-begin u [] s good = λ p is. absurd (cc)
past-begin u (e ∷ past) s good =
    onto-begin past (effect_of e s) (history past s) (RoomOption-legal u past e s good.legal) (good-safe u (e ∷ past) s good) (past-begin u past s (IsGoodSoFar-before u past e good))

pub resident-below : (u : Setup) (past : List Entry) (s p : ℕ) → IsGoodSoFar u past → is_resident (history past s) p ≡ true → 4096 * p < size_of (history past s)
resident-below u past s p good is = past-begin u past s good p is

-- so it has a number
pub resident-numbered : (u : Setup) (past : List Entry) (s p : ℕ) → IsGoodSoFar u past → is_resident (history past s) p ≡ true → p < 2 ^ 51
resident-numbered u past s p good is = number (size_of (history past s)) (resident-below u past s p good is) (size_of-good u past s good)
  where
    number : (size : ℕ) → 4096 * p < size → size < 2 ^ 63 → p < 2 ^ 51
    number size inside most = omega arith
