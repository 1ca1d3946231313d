-- A discard of a good journal drops no page that has grown.
use Rattle.std.specs.Prelude.{◌≡◌, ℕ, Bool, true, false, ◌==◌, List, [], ◌∷◌, refl, if◌then◌else◌}
use Rattle.std.specs.List.{cons_option}
use Rattle.std.proofs.Common.{ap, sym, subst, ◌∙◌}
use Rattle.std.proofs.lemmas.Bool.{eqb-true}
use Rattle.std.specs.declared.option.Option.{Option}
use Rattle.std.specs.declared.option.Option.TheVariants.{Some, None}
use Rattle.cc_entry.specs.Place.{Range}
use Rattle.cc_entry.specs.declared.call.Call.{Call}
use Rattle.cc_entry.specs.declared.reply.Reply.{Reply}
use Rattle.cc_entry.specs.declared.call.Call.TheVariants as call
use Rattle.cc_entry.specs.declared.reply.Outcome.TheVariants as outcome
use Rattle.cc_entry.specs.declared.entry.Entry.{Entry}
use Rattle.cc_entry.specs.declared.entry.Entry.TheVariants as entry
use Rattle.cc_model.specs.Setup.{Setup}
use Rattle.cc_model.specs.History.{Effect, Did, CameIn, WentOut, Began, Ended, Synced, effect_of, history}
use Rattle.cc_model.specs.Acts.{Act, act_of, Discards}
use Rattle.cc_model.specs.Discards.{has_grown}
use Rattle.cc_model.specs.Ranges.{span_has}
use Rattle.cc_model.specs.Touches.{is_dirty}
use Rattle.cc_model.specs.Legal.{IsLegal, IsLegalEntry, IsAdmitted}
use Rattle.cc_model.specs.Good.{IsGoodSoFar}
use Rattle.cc_laws.proofs.LeastPages.{grown-none}
use Rattle.cc_laws.proofs.UnrefusedCalls.{unrefused}

abbrev pub DropsUngrown : List Effect → Call → Type 0
DropsUngrown h (call.Discard file span) = (p : ℕ) → is_dirty h p ≡ true → span_has span p ≡ true → has_grown h p ≡ false
DropsUngrown h other = Unit {0}

abbrev pub IsCareful : List Effect → Type 0
IsCareful [] = Unit {0}
IsCareful (Did pass call reply ∷ h) = DropsUngrown h call × IsCareful h
IsCareful (CameIn pass page from_disk ∷ h) = IsCareful h
IsCareful (WentOut pass page ∷ h) = IsCareful h
IsCareful (Began pass page ∷ h) = IsCareful h
IsCareful (Ended pass page how ∷ h) = IsCareful h
IsCareful (Synced pass how ∷ h) = IsCareful h

drops-ungrown : (u : Setup) (past : List Entry) (h : List Effect) (it : Call) → IsAdmitted u past h it → DropsUngrown h it
drops-ungrown u past h (call.Discard file span) admitted =
    let known = unrefused u past h (call.Discard file span) admitted in
    λ p dirty has. (grown-none h file span).0 known.none_grown p dirty has
drops-ungrown u past h other admitted = tt

-- a discard by what it does
pub dropped : (h : List Effect) (it : Call) (span : Option Range) → act_of it ≡ Discards span → DropsUngrown h it → (p : ℕ) → is_dirty h p ≡ true → span_has span p ≡ true → has_grown h p ≡ false
dropped h (call.Discard file its_span) span is drops p dirty has =
    let same : span ≡ its_span = cc (is) in drops p dirty (ap (λ (o : Option Range). span_has o p) (sym same) ∙ has)
dropped h (call.PreparePin file at len true exclusive) span is drops p dirty has = absurd (cc (is))
dropped h (call.PreparePin file at len false exclusive) span is drops p dirty has = absurd (cc (is))
dropped h other span is drops p dirty has = absurd (cc (is))

careful-if : (stream s : ℕ) (past : List Entry) (pass : ℕ) (it : Call) (reply : Reply) → DropsUngrown (history past stream) it → IsCareful (history past s) → IsCareful (cons_option (if stream == s then Some (Did pass it reply) else None) (history past s))
careful-if stream s past pass it reply drops before = go (stream == s) refl
  where
    go : (same : Bool) → (stream == s) ≡ same → IsCareful (cons_option (if same then Some (Did pass it reply) else None) (history past s))
    go true is = (subst (λ t. DropsUngrown (history past t) it) (eqb-true stream s is) drops, before)
    go false is = before

-- what another effect is to a stream
careful-onto : (stream s : ℕ) (past : List Entry) (e : Effect) → ((h : List Effect) → IsCareful h → IsCareful (e ∷ h)) → IsCareful (history past s) → IsCareful (cons_option (if stream == s then Some e else None) (history past s))
careful-onto stream s past e step before = go (stream == s)
  where
    go : (same : Bool) → IsCareful (cons_option (if same then Some e else None) (history past s))
    go true = step (history past s) before
    go false = before

careful-entry : (u : Setup) (past : List Entry) (e : Entry) (s : ℕ) → IsLegalEntry u past e → IsCareful (history past s) → IsCareful (history (e ∷ past) s)
unfolding IsLegalEntry history
careful-entry u past (entry.Call pass nth (Some stream) call (outcome.Done reply)) s legal before =
    careful-if stream s past pass call reply (drops-ungrown u past (history past stream) call legal.0) before
careful-entry u past (entry.Call pass nth (Some stream) call (outcome.Failed error)) s legal before = before
careful-entry u past (entry.Call pass nth None call ended) s legal before = before
careful-entry u past (entry.PageIn pass page from_disk) s legal before =
    careful-onto page.stream s past (CameIn pass page.page from_disk) (λ h c. c) before
careful-entry u past (entry.PageOut pass page) s legal before = careful-onto page.stream s past (WentOut pass page.page) (λ h c. c) before
careful-entry u past (entry.WriteBegin pass page) s legal before = careful-onto page.stream s past (Began pass page.page) (λ h c. c) before
careful-entry u past (entry.WriteEnd pass page how) s legal before =
    careful-onto page.stream s past (Ended pass page.page how) (λ h c. c) before
careful-entry u past (entry.Sync pass stream how) s legal before = careful-onto stream s past (Synced pass how) (λ h c. c) before
careful-entry u past other s legal before = before

careful-legal : (u : Setup) (past : List Entry) (s : ℕ) → IsLegal u past → IsCareful (history past s)
unfolding IsLegal history
careful-legal u [] s legal = tt
careful-legal u (e ∷ past) s legal = careful-entry u past e s legal.0 (careful-legal u past s legal.1)

pub IsCareful-good : (u : Setup) (past : List Entry) (s : ℕ) → IsGoodSoFar u past → IsCareful (history past s)
IsCareful-good u past s good = careful-legal u past s good.legal
