-- After a flush by a pass that was alone no page of the span is dirty.
use Rattle.std.specs.Prelude.{◌≡◌, ℕ, Bool, true, false, not, cond, ◌||◌, ◌==◌, nat_lt, nat_le, List, [], ◌∷◌, ◌++◌, length, refl}
use Rattle.std.specs.declared.option.Option.{Option}
use Rattle.std.specs.declared.option.Option.TheVariants.{Some, None}
use Rattle.std.specs.List.{list_all, cons_option}
use Rattle.std.proofs.Common.{ap, sym, subst, ◌∙◌, arith}
use Rattle.std.proofs.lemmas.Bool.{and_parts, eq-eqb, ltb-true, leb-true}
use Rattle.std.proofs.lemmas.List.Sums.{length-filter, count_by-le-length}
use Rattle.cc_entry.specs.Place.{Range}
use Rattle.cc_entry.specs.declared.call.Call.{Call}
use Rattle.cc_entry.specs.declared.entry.Entry.{Entry}
use Rattle.cc_entry.specs.declared.entry.Entry.TheVariants as entry
use Rattle.cc_entry.specs.declared.entry.End.TheVariants as how
use Rattle.cc_model.specs.Numbers.{is_empty}
use Rattle.cc_model.specs.History.{Effect, Did, CameIn, WentOut, Began, Ended, Synced, effect_of, history}
use Rattle.cc_model.specs.Passes.{is_mine}
use Rattle.cc_model.specs.Sizes.{Touch}
use Rattle.cc_model.specs.Ranges.{span_has}
use Rattle.cc_model.specs.Touches.{touches, unwritten, dirty_pages, is_dirty}
use Rattle.cc_model.specs.Flushed.{settled_since}
use Rattle.cc_laws.proofs.DirtyAmong.{dirty-among}
use Rattle.cc_laws.proofs.HistorySteps.{history-sync}
use Rattle.cc_laws.proofs.Lists1.{among-all}
use Rattle.cc_laws.proofs.QuietSteps.{none_or}
use Rattle.cc_laws.proofs.TouchSteps.{touches-synced}
use Rattle.cc_effects.specs.Moments.{own, Others, EachOwn}
use Rattle.cc_effects.specs.Asked.{Work, Calls}
use Rattle.cc_effects.specs.Places.{MayPlace, Works}
use Rattle.cc_effects.specs.Calls.{IsSynced}
use Rattle.cc_turns.proofs.Keeping.{of_own}
use Rattle.cc_ranges.proofs.LaterTouches.{AddsPass, touches-pass, places-within}

-- of a stretch that is all of the pass: each entry is of it, and so is the rest
own-first : (me : ℕ) (e : Entry) (during : List Entry) → own me (e ∷ during) ≡ e ∷ during → is_mine me e ≡ true
own-first me e during alone = go (is_mine me e) alone
  where
    go : (b : Bool) → cond b (e ∷ own me during) (own me during) ≡ e ∷ during → b ≡ true
    go true is = refl
    go false is =
        let count = length-filter (is_mine me) during in
        let most = count_by-le-length (is_mine me) during in
        let long = ap (λ (l : List Entry). length l) is in
        absurd (omega (arith, count, most, long))

pub own-rest : (me : ℕ) (e : Entry) (during : List Entry) → own me (e ∷ during) ≡ e ∷ during → own me during ≡ during
own-rest me e during alone = go (is_mine me e) (own-first me e during alone) alone
  where
    go : (b : Bool) → b ≡ true → cond b (e ∷ own me during) (own me during) ≡ e ∷ during → own me during ≡ during
    go true mine is = cc
    go false mine is = absurd (cc)

pub own-tail : (me : ℕ) (first rest : List Entry) → own me (first ++ rest) ≡ first ++ rest → own me rest ≡ rest
own-tail me [] rest alone = alone
own-tail me (e ∷ first) rest alone = own-tail me first rest (own-rest me e (first ++ rest) alone)

-- no entry of it is another's
pub none-other : (me : ℕ) (after rest : List Entry) → own me (after ++ rest) ≡ after ++ rest → Others me after → after ≡ []
none-other me [] rest alone others = refl
none-other me (e ∷ after) rest alone others = let mine = own-first me e (after ++ rest) alone in absurd (cc (mine, others.0))

each-tail : (me : ℕ) (May : List Entry → Entry → Type 0) (first rest old : List Entry) → EachOwn me May (first ++ rest) old → EachOwn me May rest old
each-tail me May [] rest old each = each
each-tail me May (e ∷ first) rest old each = each-tail me May first rest old each.1

-- whether an effect is none of a call
abbrev is_undone : Effect → Bool
is_undone (Did pass call reply) = false
is_undone other = true

undone-adds : (test : Touch → Bool) (e : Effect) (front : ℕ) → is_undone e ≡ true → AddsPass test e front
undone-adds test (Did pass call reply) front undone = absurd (cc)
undone-adds test (CameIn pass page from_disk) front undone = tt
undone-adds test (WentOut pass page) front undone = tt
undone-adds test (Began pass page) front undone = tt
undone-adds test (Ended pass page how) front undone = tt
undone-adds test (Synced pass how) front undone = tt

-- an entry that a pass may place before its call's own one has no call's effect
undone-placed : (me : ℕ) (work : Work) (old past : List Entry) (e : Entry) (s : ℕ) → MayPlace me work old past e → none_or is_undone (effect_of e s) ≡ true
undone-placed me work old past (entry.Call pass nth stream call ended) s may = absurd may
undone-placed me work old past (entry.PageIn pass page from_disk) s may = of_own is_undone (page.stream == s) (CameIn pass page.page from_disk) refl
undone-placed me work old past (entry.PageOut pass page) s may = of_own is_undone (page.stream == s) (WentOut pass page.page) refl
undone-placed me work old past (entry.FillFailed pass page) s may = refl
undone-placed me work old past (entry.WriteBegin pass page) s may = of_own is_undone (page.stream == s) (Began pass page.page) refl
undone-placed me work old past (entry.WriteEnd pass page how) s may = of_own is_undone (page.stream == s) (Ended pass page.page how) refl
undone-placed me work old past (entry.Sync pass stream how) s may = of_own is_undone (stream == s) (Synced pass how) refl
undone-placed me work old past (entry.Append pass handle lsn bytes) s may = refl
undone-placed me work old past (entry.Flushed pass handle to) s may = refl
undone-placed me work old past (entry.LogFailed pass handle) s may = refl
undone-placed me work old past (entry.Defer pass id file pages retrying) s may = refl
undone-placed me work old past (entry.Posted id) s may = refl
undone-placed me work old past (entry.Scan pass picked) s may = refl
undone-placed me work old past (entry.Record pass stream size valid how) s may = refl
undone-placed me work old past (entry.RecordFailed pass stream) s may = refl
undone-placed me work old past (entry.Locked pass file span exclusive granted id) s may = refl
undone-placed me work old past (entry.Unlocked pass file id gone) s may = refl
undone-placed me work old past (entry.Tested pass file span write conflict) s may = refl

-- so what all touches of a page passed before the work, they pass in it
pass-option : (test : Touch → Bool) (o : Option Effect) (h : List Effect) (p : ℕ) → none_or is_undone o ≡ true → list_all test (touches false h p) ≡ true → list_all test (touches false (cons_option o h) p) ≡ true
pass-option test None h p undone all = all
pass-option test (Some e) h p undone all = touches-pass test false e h p (undone-adds test e (length h) undone) all

pass-works : (test : Touch → Bool) (me : ℕ) (work : Work) (old during begun : List Entry) (s p : ℕ) → EachOwn me (MayPlace me work old) during begun → own me during ≡ during → list_all test (touches false (history begun s) p) ≡ true → list_all test (touches false (history (during ++ begun) s) p) ≡ true
unfolding history
pass-works test me work old [] begun s p each alone all = all
pass-works test me work old (e ∷ during) begun s p each alone all =
    pass-option test (effect_of e s) (history (during ++ begun) s) p
    (undone-placed me work old (during ++ begun) e s (each.0 (own-first me e during alone)))
    (pass-works test me work old during begun s p each.1 (own-rest me e during alone) all)

-- a page is clean, if its touches have no later places and no earlier ones
clean-between : (n : ℕ) (ts : List Touch) → list_all (λ touch. nat_lt n touch.place) ts ≡ true → list_all (λ touch. nat_le touch.place n) ts ≡ true → not (is_empty ts) ≡ false
clean-between n [] after before = refl
clean-between n (t ∷ ts) after before =
    let later = ltb-true n t.place (and_parts (nat_lt n t.place) (list_all (λ touch. nat_lt n touch.place) ts) after).0 in
    let earlier = leb-true t.place n (and_parts (nat_le t.place n) (list_all (λ touch. nat_le touch.place n) ts) before).0 in
    absurd (omega (arith, later, earlier))

clean-settled : (n : ℕ) (h : List Effect) (span : Option Range) (p : ℕ) → settled_since n h span ≡ true → list_all (λ touch. nat_le touch.place n) (unwritten h p) ≡ true → span_has span p ≡ true → is_dirty h p ≡ false
clean-settled n h span p settled before has = go (is_dirty h p) refl
  where
    go : (b : Bool) → is_dirty h p ≡ b → is_dirty h p ≡ false
    go false clean = clean
    go true dirty =
        let here = among-all (λ q. not (span_has span q) || list_all (λ touch. nat_lt n touch.place) (unwritten h q)) p (dirty_pages h) settled (dirty-among h p dirty) in
        clean-between n (unwritten h p) (ap (λ b. not b || list_all (λ touch. nat_lt n touch.place) (unwritten h p)) (sym has) ∙ here) before

-- A pass that was alone since `old`, and worked for a flush, and synced well with its span settled, left no page of the
-- span dirty.
pub clean-alone : (me s : ℕ) (it : Call) (span : Option Range) (during old : List Entry) → Works me (Calls it) during old → IsSynced me s span during old → own me during ≡ during → (p : ℕ) → span_has span p ≡ true → is_dirty (history (during ++ old) s) p ≡ false
clean-alone me s it span during old works synced alone p has =
    ap (λ past. is_dirty (history past s) p) (ap (λ l. l ++ old) split)
    ∙ (ap (λ h. is_dirty h p) (history-sync me s how.Good (synced.before ++ old) s (eq-eqb s s refl))
    ∙ (ap (λ (ts : List Touch). not (is_empty ts)) (touches-synced false me how.Good (history (synced.before ++ old) s) p)
    ∙ clean-settled (length (history old s)) (history (synced.before ++ old) s) span p synced.settled before has))
  where
    whole : own me (synced.after ++ entry.Sync me s how.Good ∷ synced.before) ≡ synced.after ++ entry.Sync me s how.Good ∷ synced.before
    whole = subst (λ l. own me l ≡ l) synced.split alone

    split : during ≡ entry.Sync me s how.Good ∷ synced.before
    split = synced.split ∙ ap (λ l. l ++ entry.Sync me s how.Good ∷ synced.before) (none-other me synced.after (entry.Sync me s how.Good ∷ synced.before) whole synced.quiet)

    before : list_all (λ touch. nat_le touch.place (length (history old s))) (unwritten (history (synced.before ++ old) s) p) ≡ true
    before =
        let each = subst (λ l. EachOwn me (MayPlace me (Calls it) old) l old) split works.each in
        let mine = subst (λ l. own me l ≡ l) split alone in
        pass-works (λ touch. nat_le touch.place (length (history old s))) me (Calls it) old synced.before old s p each.1
        (own-rest me (entry.Sync me s how.Good) synced.before mine)
        (places-within (length (history old s)) (history old s) p (omega arith))
