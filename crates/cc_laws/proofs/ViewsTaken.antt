-- The views that mapped streams take are at most 256.
use Rattle.std.specs.Prelude.{◌≡◌, ℕ, ◌-◌, ◌≤◌, Bool, true, false, not, ◌&&◌, ◌==◌, nat_lt, List, [], ◌∷◌, refl, if◌then◌else◌}
use Rattle.std.proofs.Common.{ap, sym, ◌∙◌, arith, subst}
use Rattle.std.proofs.lemmas.Bool.{ltb-false, eqb-true, eq-eqb}
use Rattle.std.specs.declared.option.Option.{Option}
use Rattle.std.specs.declared.option.Option.TheVariants.{Some, None}
use Rattle.std.specs.List.{sum_by, range_with_len}
use Rattle.cc_entry.specs.Place.{File}
use Rattle.cc_entry.specs.declared.place.FileSizes.{FileSizes}
use Rattle.cc_entry.specs.declared.call.Call.{Call}
use Rattle.cc_entry.specs.declared.call.Call.TheVariants as call
use Rattle.cc_entry.specs.declared.error.CcError.{CcError}
use Rattle.cc_entry.specs.declared.reply.Reply.{Reply}
use Rattle.cc_entry.specs.declared.reply.Outcome.TheVariants as outcome
use Rattle.cc_entry.specs.declared.entry.Entry.{Entry}
use Rattle.cc_entry.specs.declared.entry.Entry.TheVariants as entry
use Rattle.cc_model.specs.Setup.{Setup}
use Rattle.cc_model.specs.History.{Effect, Did, CameIn, WentOut, Began, Ended, Synced, effect_of, history}
use Rattle.cc_model.specs.Acts.{Act, act_of, Opens, Closes, Resizes, Writes, Zeroes, Stores, Stamps, Discards, Looks}
use Rattle.cc_model.specs.Objects.{objects}
use Rattle.cc_model.specs.Touches.{touched, touches, is_mapped}
use Rattle.cc_model.specs.Reasons.{refuse_if}
use Rattle.cc_model.specs.Settings.{quota_of}
use Rattle.cc_model.specs.Cache.{views_of, views_taken}
use Rattle.cc_model.specs.Good.{IsGoodSoFar}
use Rattle.cc_model.specs.Legal.{IsLegal, IsLegalEntry}
use Rattle.cc_laws.proofs.HistorySteps.{history-effect, history-no_effect, history-done, history-done_other}
use Rattle.cc_laws.proofs.QuotaSteps.{quota_of-opens_mapped, quota_of-opens_anew, quota_of-closes, quota_of-resizes, quota_of-writes, quota_of-zeroes, quota_of-stores, quota_of-stamps, quota_of-discards, quota_of-looks, quota_of-came_in, quota_of-went_out, quota_of-began, quota_of-ended, quota_of-synced}
use Rattle.cc_laws.proofs.Steady.{IsSteadyEffect, IsSteady}
use Rattle.cc_laws.proofs.SteadyPasts.{IsSteady-good}
use Rattle.cc_laws.proofs.AdmittedCalls.{HasRoom, HasRoomFor-admitted}
use Rattle.cc_laws.proofs.UnrefusedCalls.{refuse_if-none}
use Rattle.cc_laws.proofs.RoomPasts.{IsGoodSoFar-before}
use Rattle.cc_laws.proofs.BlockLists.{same-flip}
use Rattle.cc_laws.proofs.HeldObjects.{HoldsAsOpen, HoldsAsOpen-good}
use Rattle.cc_laws.proofs.MapGone.{NoInitialise, is_mapped-effect_gone}
use Rattle.cc_laws.proofs.ViewSums.{sum_by-one_within, sum_by-none_rose}

-- a stream with a map keeps its quota
quota_of-mapped : (e : Effect) (h : List Effect) → is_mapped h ≡ true → quota_of (e ∷ h) ≡ quota_of h
quota_of-mapped (Did pass call reply) h mapped = go (act_of call) refl
  where
    go : (a : Act) → act_of call ≡ a → quota_of (Did pass call reply ∷ h) ≡ quota_of h
    go (Opens file given quota temporary) is = quota_of-opens_mapped pass call reply h is mapped
    go (Closes file truncate) is = quota_of-closes pass call reply h is
    go (Resizes allocation size) is = quota_of-resizes pass call reply h is
    go (Writes at bytes) is = quota_of-writes pass call reply h is
    go (Zeroes from to) is = quota_of-zeroes pass call reply h is
    go (Stores page bytes) is = quota_of-stores pass call reply h is
    go (Stamps hold lsn) is = quota_of-stamps pass call reply h is
    go (Discards span) is = quota_of-discards pass call reply h is
    go Looks is = quota_of-looks pass call reply h is
quota_of-mapped (CameIn pass page from_disk) h mapped = quota_of-came_in pass page from_disk h
quota_of-mapped (WentOut pass page) h mapped = quota_of-went_out pass page h
quota_of-mapped (Began pass page) h mapped = quota_of-began pass page h
quota_of-mapped (Ended pass page how) h mapped = quota_of-ended pass page how h
quota_of-mapped (Synced pass how) h mapped = quota_of-synced pass how h

pub views_of-mapped : (h : List Effect) → is_mapped h ≡ true → views_of h ≡ quota_of h
views_of-mapped h mapped = rw mapped refl

views_of-gone : (h : List Effect) → is_mapped h ≡ false → views_of h ≡ 0
views_of-gone h gone = rw gone refl

views_of-within : (h : List Effect) → views_of h ≤ quota_of h
views_of-within h = go (is_mapped h) refl
  where
    go : (t : Bool) → is_mapped h ≡ t → views_of h ≤ quota_of h
    go true is = let k : views_of h ≡ quota_of h = views_of-mapped h is in omega arith
    go false is = let k : views_of h ≡ 0 = views_of-gone h is in omega arith

-- an effect that makes no map takes no view more
views_of-effect : (e : Effect) (h : List Effect) → IsSteadyEffect e h → HoldsAsOpen h → (is_mapped h ≡ false → NoInitialise e) → views_of (e ∷ h) ≤ views_of h
views_of-effect e h steady owned makes = go (is_mapped h) refl
  where
    go : (t : Bool) → is_mapped h ≡ t → views_of (e ∷ h) ≤ views_of h
    go true is =
        let now : views_of (e ∷ h) ≤ quota_of (e ∷ h) = views_of-within (e ∷ h) in
        let same : quota_of (e ∷ h) ≡ quota_of h = quota_of-mapped e h is in
        let was : views_of h ≡ quota_of h = views_of-mapped h is in
        omega arith
    go false is =
        let now : views_of (e ∷ h) ≡ 0 = views_of-gone (e ∷ h) (is_mapped-effect_gone e h steady owned (makes is) is) in
        omega arith

views_of-entry : (u : Setup) (past : List Entry) (e : Entry) (s : ℕ) → IsGoodSoFar u (e ∷ past) → ((x : Effect) → effect_of e s ≡ Some x → is_mapped (history past s) ≡ false → NoInitialise x) → views_of (history (e ∷ past) s) ≤ views_of (history past s)
views_of-entry u past e s good makes = go (effect_of e s) refl
  where
    go : (o : Option Effect) → effect_of e s ≡ o → views_of (history (e ∷ past) s) ≤ views_of (history past s)
    go None is =
        let same : views_of (history (e ∷ past) s) ≡ views_of (history past s) = ap views_of (history-no_effect e past s is) in
        omega arith
    go (Some x) is =
        let steady : IsSteady (x ∷ history past s) = subst IsSteady (history-effect e past s (Some x) is) (IsSteady-good u (e ∷ past) s good) in
        subst (λ h. views_of h ≤ views_of (history past s)) (sym (history-effect e past s (Some x) is)) (views_of-effect x (history past s) steady.0 (HoldsAsOpen-good u past s (IsGoodSoFar-before u past e good)) (makes x is))

-- no entry but a done initialise makes a map
abbrev NotInitialise : Entry → Type 0
NotInitialise (entry.Call pass nth (Some stream) (call.Initialise file sizes quota temporary) (outcome.Done reply)) = ⊥
NotInitialise other = Unit {0}

of_this : (b : Bool) (e x : Effect) → (if b then Some e else None) ≡ Some x → e ≡ x
of_this true e x is = cc
of_this false e x is = absurd (cc)

never : (e : Entry) (s : ℕ) (x : Effect) → NotInitialise e → effect_of e s ≡ Some x → NoInitialise x
never (entry.Call pass nth (Some stream) (call.Initialise file sizes quota temporary) (outcome.Done reply)) s x other is = absurd other
never (entry.Call pass nth (Some stream) (call.PreparePin file at len true exclusive) (outcome.Done reply)) s x other is =
    subst NoInitialise (of_this (stream == s) (Did pass (call.PreparePin file at len true exclusive) reply) x is) refl
never (entry.Call pass nth (Some stream) call (outcome.Done reply)) s x other is =
    subst NoInitialise (of_this (stream == s) (Did pass call reply) x is) refl
never (entry.PageIn pass page from_disk) s x other is = subst NoInitialise (of_this (page.stream == s) (CameIn pass page.page from_disk) x is) tt
never (entry.PageOut pass page) s x other is = subst NoInitialise (of_this (page.stream == s) (WentOut pass page.page) x is) tt
never (entry.WriteBegin pass page) s x other is = subst NoInitialise (of_this (page.stream == s) (Began pass page.page) x is) tt
never (entry.WriteEnd pass page how) s x other is = subst NoInitialise (of_this (page.stream == s) (Ended pass page.page how) x is) tt
never (entry.Sync pass stream how) s x other is = subst NoInitialise (of_this (stream == s) (Synced pass how) x is) tt
never e s x other is = absurd (cc)

views_taken-kept : (u : Setup) (past : List Entry) (e : Entry) → IsGoodSoFar u (e ∷ past) → ((s : ℕ) (x : Effect) → effect_of e s ≡ Some x → is_mapped (history past s) ≡ false → NoInitialise x) → views_taken past ≤ 256 → views_taken (e ∷ past) ≤ 256
unfolding views_taken
views_taken-kept u past e good makes before =
    sum_by-none_rose (λ s. views_of (history (e ∷ past) s)) (λ s. views_of (history past s)) 16 256 (λ s. views_of-entry u past e s good (makes s)) before

at_most : (m n : ℕ) → m ≡ n → m ≤ n
at_most m n e = omega arith

through : (m q n top : ℕ) → m ≤ q → q ≡ n → n ≤ top → m ≤ top
through m q n top a b c = omega arith

-- an initialise that makes a map takes no more than the views left
views-anew : (past : List Entry) (pass nth stream : ℕ) (file : File) (given : FileSizes) (quota : ℕ) (temporary : Bool) (reply : Reply) → is_mapped (history past stream) ≡ false → quota ≤ 256 - sum_by (λ s. views_of (history past s)) (range_with_len 0 16) → sum_by (λ s. views_of (history past s)) (range_with_len 0 16) ≤ 256 → sum_by (λ s. views_of (history (entry.Call pass nth (Some stream) (call.Initialise file given quota temporary) (outcome.Done reply) ∷ past) s)) (range_with_len 0 16) ≤ 256
views-anew past pass nth stream file given quota temporary reply gone room before =
    sum_by-one_within (λ s. views_of (history (entry.Call pass nth (Some stream) initialise (outcome.Done reply) ∷ past) s)) (λ s. views_of (history past s)) stream 16 256 others before one
  where
    initialise : Call
    initialise = call.Initialise file given quota temporary

    others : (s : ℕ) → (s == stream) ≡ false → views_of (history (entry.Call pass nth (Some stream) initialise (outcome.Done reply) ∷ past) s) ≤ views_of (history past s)
    others s other = at_most _ _ (ap views_of (history-done_other pass nth stream initialise reply past s (same-flip stream s ∙ other)))

    one : views_of (history (entry.Call pass nth (Some stream) initialise (outcome.Done reply) ∷ past) stream) ≤ 256 - sum_by (λ s. views_of (history past s)) (range_with_len 0 16)
    one =
        subst (λ h. views_of h ≤ 256 - sum_by (λ s. views_of (history past s)) (range_with_len 0 16)) (sym (history-done pass nth stream initialise reply past stream (eq-eqb stream stream refl))) (through _ _ _ _ (views_of-within (Did pass initialise reply ∷ history past stream)) (quota_of-opens_anew pass initialise reply (history past stream) refl gone) room)

views_taken-anew : (past : List Entry) (pass nth stream : ℕ) (file : File) (given : FileSizes) (quota : ℕ) (temporary : Bool) (reply : Reply) → is_mapped (history past stream) ≡ false → quota ≤ 256 - views_taken past → views_taken past ≤ 256 → views_taken (entry.Call pass nth (Some stream) (call.Initialise file given quota temporary) (outcome.Done reply) ∷ past) ≤ 256
unfolding views_taken
views_taken-anew = views-anew

-- an initialise of a stream with a map makes none
mapped_already : (past : List Entry) (stream s : ℕ) (e x : Effect) → is_mapped (history past stream) ≡ true → (if stream == s then Some e else None) ≡ Some x → is_mapped (history past s) ≡ false → NoInitialise x
mapped_already past stream s e x mapped is gone = go (stream == s) refl is
  where
    go : (b : Bool) → (stream == s) ≡ b → (if b then Some e else None) ≡ Some x → NoInitialise x
    go true same is = let here : is_mapped (history past s) ≡ true = subst (λ t. is_mapped (history past t) ≡ true) (eqb-true stream s same) mapped in absurd (cc)
    go false same is = absurd (cc)

pool_room : (mapped : Bool) (left quota : ℕ) (e : CcError) → mapped ≡ false → refuse_if (not mapped && nat_lt left quota) e ≡ None → quota ≤ left
pool_room true left quota e gone is = absurd (cc)
pool_room false left quota e gone is = ltb-false left quota (refuse_if-none (nat_lt left quota) e is)

views_taken-initialise : (u : Setup) (past : List Entry) (pass nth stream : ℕ) (file : File) (given : FileSizes) (quota : ℕ) (temporary : Bool) (reply : Reply) → IsGoodSoFar u (entry.Call pass nth (Some stream) (call.Initialise file given quota temporary) (outcome.Done reply) ∷ past) → HasRoom past (history past stream) (call.Initialise file given quota temporary) → views_taken past ≤ 256 → views_taken (entry.Call pass nth (Some stream) (call.Initialise file given quota temporary) (outcome.Done reply) ∷ past) ≤ 256
views_taken-initialise u past pass nth stream file given quota temporary reply good room before = go (is_mapped (history past stream)) refl
  where
    go : (t : Bool) → is_mapped (history past stream) ≡ t → views_taken (entry.Call pass nth (Some stream) (call.Initialise file given quota temporary) (outcome.Done reply) ∷ past) ≤ 256
    go true is = views_taken-kept u past _ good (λ s x. mapped_already past stream s _ x is) before
    go false is = views_taken-anew past pass nth stream file given quota temporary reply is (pool_room (is_mapped (history past stream)) (256 - views_taken past) quota _ is room.in_pool) before

views_taken-entry : (u : Setup) (past : List Entry) (e : Entry) → IsGoodSoFar u (e ∷ past) → views_taken past ≤ 256 → views_taken (e ∷ past) ≤ 256
unfolding IsLegal IsLegalEntry
views_taken-entry u past (entry.Call pass nth (Some stream) (call.Initialise file given quota temporary) (outcome.Done reply)) good before =
    views_taken-initialise u past pass nth stream file given quota temporary reply good (HasRoomFor-admitted u past (history past stream) (call.Initialise file given quota temporary) good.legal.0.0) before
views_taken-entry u past other good before = views_taken-kept u past other good (λ s x is gone. never other s x tt is) before

views_taken-none : views_taken [] ≤ 256
unfolding views_taken history quota_of touches touched objects
views_taken-none = omega arith

pub views_taken-good : (u : Setup) (past : List Entry) → IsGoodSoFar u past → views_taken past ≤ 256
views_taken-good u [] good = views_taken-none
views_taken-good u (e ∷ past) good = views_taken-entry u past e good (views_taken-good u past (IsGoodSoFar-before u past e good))
