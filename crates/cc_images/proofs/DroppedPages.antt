-- No page that a discard throws away has grown.
use Rattle.std.specs.Prelude.{◌≡◌, ℕ, Bool, true, false, ◌==◌, List, [], ◌∷◌, refl, if◌then◌else◌}
use Rattle.std.proofs.Common.{subst}
use Rattle.std.proofs.lemmas.Bool.{eqb-true}
use Rattle.std.specs.declared.option.Option.{Option}
use Rattle.std.specs.declared.option.Option.TheVariants.{Some, None}
use Rattle.std.specs.List.{cons_option}
use Rattle.cc_entry.specs.declared.call.Call.{Call}
use Rattle.cc_entry.specs.declared.call.Call.TheVariants as call
use Rattle.cc_entry.specs.declared.reply.Outcome.TheVariants as outcome
use Rattle.cc_entry.specs.declared.entry.Entry.{Entry}
use Rattle.cc_entry.specs.declared.entry.Entry.TheVariants as entry
use Rattle.cc_model.specs.Setup.{Setup}
use Rattle.cc_model.specs.Acts.{Act, act_of, Discards}
use Rattle.cc_model.specs.History.{Effect, Did, effect_of, history}
use Rattle.cc_model.specs.Ranges.{span_has}
use Rattle.cc_model.specs.Touches.{is_dirty}
use Rattle.cc_model.specs.Discards.{has_grown, grown}
use Rattle.cc_model.specs.Legal.{IsLegal, IsLegalEntry, IsAdmitted}
use Rattle.cc_model.specs.Good.{IsGoodSoFar}
use Rattle.cc_laws.proofs.UnrefusedCalls.{unrefused}
use Rattle.cc_laws.proofs.LeastPages.{grown-none}

-- no dirty page that an act discards has grown
abbrev pub DropsNoGrown : List Effect → Act → Type 0
DropsNoGrown h (Discards span) = (p : ℕ) → is_dirty h p ≡ true → span_has span p ≡ true → has_grown h p ≡ false
DropsNoGrown h other = Unit {0}

abbrev pub DropsNoneBy : Effect → List Effect → Type 0
DropsNoneBy (Did pass call reply) h = DropsNoGrown h (act_of call)
DropsNoneBy other h = Unit {0}

-- of each discard of a history
abbrev pub DropsNone : List Effect → Type 0
DropsNone [] = Unit {0}
DropsNone (e ∷ h) = DropsNoneBy e h × DropsNone h

drops-unrefused : (h : List Effect) (call : Call) → grown h call ≡ None → DropsNoGrown h (act_of call)
drops-unrefused h (call.Discard file span) none = (grown-none h file span).0 none
drops-unrefused h (call.PreparePin file at len true exclusive) none = tt
drops-unrefused h (call.PreparePin file at len false exclusive) none = tt
drops-unrefused h other none = tt

drops-admitted : (u : Setup) (past : List Entry) (h : List Effect) (call : Call) → IsAdmitted u past h call → DropsNoGrown h (act_of call)
drops-admitted u past h (call.NcWrite file page) admitted = tt
drops-admitted u past h other admitted = drops-unrefused h other (unrefused u past h other admitted).none_grown

abbrev DropsNoneOption : Option Effect → List Effect → Type 0
DropsNoneOption None h = Unit {0}
DropsNoneOption (Some e) h = DropsNoneBy e h

drops-onto : (o : Option Effect) (h : List Effect) → DropsNoneOption o h → DropsNone h → DropsNone (cons_option o h)
drops-onto None h this before = before
drops-onto (Some e) h this before = (this, before)

-- of an effect that is no done call
drops-quiet : (b : Bool) (e : Effect) (h : List Effect) → DropsNoneBy e h → DropsNoneOption (if b then Some e else None) h
drops-quiet true e h this = this
drops-quiet false e h this = tt

drops-called : (stream s : ℕ) (past : List Entry) (e : Effect) → DropsNoneBy e (history past stream) → DropsNoneOption (if stream == s then Some e else None) (history past s)
drops-called stream s past e this = go (stream == s) refl
  where
    go : (same : Bool) → (stream == s) ≡ same → DropsNoneOption (if same then Some e else None) (history past s)
    go true is = subst (λ t. DropsNoneBy e (history past t)) (eqb-true stream s is) this
    go false is = tt

drops-entry : (u : Setup) (past : List Entry) (e : Entry) (s : ℕ) → IsLegalEntry u past e → DropsNoneOption (effect_of e s) (history past s)
unfolding IsLegalEntry
drops-entry u past (entry.Call pass nth (Some stream) call (outcome.Done reply)) s legal =
    drops-called stream s past (Did pass call reply) (drops-admitted u past (history past stream) call legal.0)
drops-entry u past (entry.Call pass nth (Some stream) call (outcome.Failed error)) s legal = tt
drops-entry u past (entry.Call pass nth None call ended) s legal = tt
drops-entry u past (entry.PageIn pass page from_disk) s legal = drops-quiet (page.stream == s) _ _ tt
drops-entry u past (entry.PageOut pass page) s legal = drops-quiet (page.stream == s) _ _ tt
drops-entry u past (entry.WriteBegin pass page) s legal = drops-quiet (page.stream == s) _ _ tt
drops-entry u past (entry.WriteEnd pass page how) s legal = drops-quiet (page.stream == s) _ _ tt
drops-entry u past (entry.Sync pass stream how) s legal = drops-quiet (stream == s) _ _ tt
drops-entry u past (entry.FillFailed pass page) s legal = tt
drops-entry u past (entry.Append pass handle lsn bytes) s legal = tt
drops-entry u past (entry.Flushed pass handle to) s legal = tt
drops-entry u past (entry.LogFailed pass handle) s legal = tt
drops-entry u past (entry.Defer pass id file pages retrying) s legal = tt
drops-entry u past (entry.Posted id) s legal = tt
drops-entry u past (entry.Scan pass picked) s legal = tt
drops-entry u past (entry.Record pass stream size valid how) s legal = tt
drops-entry u past (entry.RecordFailed pass stream) s legal = tt
drops-entry u past (entry.Locked pass file span exclusive granted id) s legal = tt
drops-entry u past (entry.Unlocked pass file id gone) s legal = tt
drops-entry u past (entry.Tested pass file span write conflict) s legal = tt

drops-legal : (u : Setup) (past : List Entry) (s : ℕ) → IsLegal u past → DropsNone (history past s)
unfolding IsLegal history
drops-legal u [] s legal = tt
drops-legal u (e ∷ past) s legal =
    drops-onto (effect_of e s) (history past s) (drops-entry u past e s legal.0) (drops-legal u past s legal.1)

pub DropsNone-good : (u : Setup) (past : List Entry) (s : ℕ) → IsGoodSoFar u past → DropsNone (history past s)
DropsNone-good u past s good = drops-legal u past s good.legal
