-- The history of a stream in a good journal is steady.
use Rattle.std.specs.Prelude.{◌≡◌, ℕ, Bool, true, false, ◌==◌, List, [], ◌∷◌, refl, if◌then◌else◌}
use Rattle.std.proofs.Common.{subst}
use Rattle.std.proofs.lemmas.Bool.{eqb-true}
use Rattle.std.specs.declared.option.Option.TheVariants.{Some, None}
use Rattle.cc_entry.specs.declared.call.Call.{Call}
use Rattle.cc_entry.specs.declared.call.Call.TheVariants as call
use Rattle.cc_entry.specs.declared.reply.Outcome.TheVariants as outcome
use Rattle.cc_entry.specs.declared.entry.Entry.{Entry}
use Rattle.cc_entry.specs.declared.entry.Entry.TheVariants as entry
use Rattle.cc_model.specs.Setup.{Setup}
use Rattle.cc_model.specs.History.{Effect, Did, CameIn, WentOut, Began, Ended, Synced, effect_of, history}
use Rattle.cc_model.specs.Conditions.{IsReady}
use Rattle.cc_model.specs.Legal.{IsLegal, IsLegalEntry}
use Rattle.cc_model.specs.Allowed.{MayStand, IsAllowedSoFar}
use Rattle.cc_model.specs.Good.{IsGoodSoFar}
use Rattle.cc_laws.proofs.Steady.{IsSteadyEffect, IsSteady, IsSteadyOption, IsSteady-onto}
use Rattle.cc_laws.proofs.SteadyCalls.{FindsNoTransfer, IsSteadyCall-admitted}

-- an effect on the stream of an entry, where that stream is the one
IsSteadyOption-if : (stream s : ℕ) (past : List Entry) (e : Effect) → IsSteadyEffect e (history past stream) → IsSteadyOption (if stream == s then Some e else None) (history past s)
IsSteadyOption-if stream s past e steady = go (stream == s) refl
  where
    go : (same : Bool) → (stream == s) ≡ same → IsSteadyOption (if same then Some e else None) (history past s)
    go true is = subst (λ t. IsSteadyEffect e (history past t)) (eqb-true stream s is) steady
    go false is = tt

-- a discard may be done while no transfer is under way
finds-none : (past : List Entry) (pass s : ℕ) (call : Call) → IsReady past pass s call → FindsNoTransfer (history past s) call
finds-none past pass s (call.Discard file span) ready = ready
finds-none past pass s other ready = tt

IsSteadyOption-entry : (u : Setup) (past : List Entry) (e : Entry) (s : ℕ) → IsLegalEntry u past e → MayStand u past e → IsSteadyOption (effect_of e s) (history past s)
unfolding IsLegalEntry
IsSteadyOption-entry u past (entry.Call pass nth (Some stream) call (outcome.Done reply)) s legal stands =
    IsSteadyOption-if stream s past (Did pass call reply) (IsSteadyCall-admitted u past (history past stream) pass (Some stream) call legal.0 stands.filed (finds-none past pass stream call stands.may_end.1))
IsSteadyOption-entry u past (entry.Call pass nth (Some stream) call (outcome.Failed error)) s legal stands = tt
IsSteadyOption-entry u past (entry.Call pass nth None call ended) s legal stands = tt
IsSteadyOption-entry u past (entry.PageIn pass page from_disk) s legal stands =
    IsSteadyOption-if page.stream s past (CameIn pass page.page from_disk) tt
IsSteadyOption-entry u past (entry.PageOut pass page) s legal stands =
    IsSteadyOption-if page.stream s past (WentOut pass page.page) tt
IsSteadyOption-entry u past (entry.WriteBegin pass page) s legal stands =
    IsSteadyOption-if page.stream s past (Began pass page.page) stands.dirty
IsSteadyOption-entry u past (entry.WriteEnd pass page how) s legal stands =
    IsSteadyOption-if page.stream s past (Ended pass page.page how) stands
IsSteadyOption-entry u past (entry.Sync pass stream how) s legal stands =
    IsSteadyOption-if stream s past (Synced pass how) tt
IsSteadyOption-entry u past (entry.FillFailed pass page) s legal stands = tt
IsSteadyOption-entry u past (entry.Append pass handle lsn bytes) s legal stands = tt
IsSteadyOption-entry u past (entry.Flushed pass handle to) s legal stands = tt
IsSteadyOption-entry u past (entry.LogFailed pass handle) s legal stands = tt
IsSteadyOption-entry u past (entry.Defer pass id file pages retrying) s legal stands = tt
IsSteadyOption-entry u past (entry.Posted id) s legal stands = tt
IsSteadyOption-entry u past (entry.Scan pass picked) s legal stands = tt
IsSteadyOption-entry u past (entry.Record pass stream size valid how) s legal stands = tt
IsSteadyOption-entry u past (entry.RecordFailed pass stream) s legal stands = tt
IsSteadyOption-entry u past (entry.Locked pass file span exclusive granted id) s legal stands = tt
IsSteadyOption-entry u past (entry.Unlocked pass file id gone) s legal stands = tt
IsSteadyOption-entry u past (entry.Tested pass file span write conflict) s legal stands = tt

IsSteady-allowed : (u : Setup) (past : List Entry) (s : ℕ) → IsLegal u past → IsAllowedSoFar u past → IsSteady (history past s)
unfolding IsLegal IsAllowedSoFar history
IsSteady-allowed u [] s legal allowed = tt
IsSteady-allowed u (e ∷ past) s legal allowed =
    IsSteady-onto (effect_of e s) (history past s) (IsSteadyOption-entry u past e s legal.0 allowed.1) (IsSteady-allowed u past s legal.1 allowed.2)

pub IsSteady-good : (u : Setup) (past : List Entry) (s : ℕ) → IsGoodSoFar u past → IsSteady (history past s)
IsSteady-good u past s good = IsSteady-allowed u past s good.legal good.allowed
