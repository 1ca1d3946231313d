-- The log of a stream is one of the setup's.
use Rattle.std.specs.Prelude.{◌≡◌, ℕ, ◌<◌, Bool, true, false, ◌==◌, nat_le, List, [], ◌∷◌, refl, if◌then◌else◌}
use Rattle.std.specs.declared.option.Option.TheVariants.{Some, None}
use Rattle.std.specs.List.{cons_option}
use Rattle.std.proofs.Common.{ap, sym, ◌∙◌, subst}
use Rattle.std.proofs.lemmas.Bool.{leb-false}
use Rattle.cc_entry.specs.declared.call.Call.{Call}
use Rattle.cc_entry.specs.declared.call.Call.TheVariants as call
use Rattle.cc_entry.specs.declared.error.CcError.TheVariants as error
use Rattle.cc_entry.specs.declared.reply.Outcome.TheVariants as outcome
use Rattle.cc_entry.specs.declared.entry.Entry.{Entry}
use Rattle.cc_entry.specs.declared.entry.Entry.TheVariants as entry
use Rattle.cc_laws.proofs.HistorySteps.{history-done, history-done_other}
use Rattle.cc_laws.proofs.SettingSteps.{log_of-done}
use Rattle.cc_laws.proofs.SettingEffects.{log_of-came_in, log_of-went_out, log_of-began, log_of-ended, log_of-synced}
use Rattle.cc_laws.proofs.UnrefusedCalls.{unrefused, refuse_if-none}
use Rattle.cc_model.specs.History.{Effect, CameIn, WentOut, Began, Ended, Synced, history}
use Rattle.cc_model.specs.Legal.{IsLegal, IsLegalEntry, IsAdmitted}
use Rattle.cc_model.specs.Settings.{log_of, log_after}
use Rattle.cc_model.specs.Setup.{Setup}

-- a call that may be done gives a stream a log of the setup, or leaves the one that it has
below-done : (u : Setup) (past : List Entry) (h g : List Effect) (it : Call) (handle : ℕ) → IsAdmitted u past g it → (log_of h ≡ Some handle → handle < u.logs) → log_after it (log_of h) ≡ Some handle → handle < u.logs
below-done u past h g (call.SetLog file given) handle admitted before is =
    let within : given < u.logs = leb-false u.logs given (refuse_if-none (nat_le u.logs given) (error.NoLog given) (unrefused u past g (call.SetLog file given) admitted).log_exists) in
    subst (λ (n : ℕ). n < u.logs) (same given handle is) within
  where
    same : (a b : ℕ) → Some a ≡ Some b → a ≡ b
    same a b e = cc
below-done u past h g other handle admitted before is = before is

-- an effect that is no call leaves it
log-left : (effect : Effect) (h : List Effect) (b : Bool) → ((g : List Effect) → log_of (effect ∷ g) ≡ log_of g) → log_of (cons_option (if b then Some effect else None) h) ≡ log_of h
log-left effect h true left = left h
log-left effect h false left = refl

pub handle-below : (u : Setup) (past : List Entry) (s handle : ℕ) → IsLegal u past → log_of (history past s) ≡ Some handle → handle < u.logs
unfolding IsLegal IsLegalEntry history log_of
handle-below u [] s handle legal is = absurd (cc)
handle-below u (entry.Call pass nth (Some stream) it (outcome.Done reply) ∷ past) s handle legal is = go (stream == s) refl (λ before. handle-below u past s handle legal.1 before) is
  where
    go : (b : Bool) → (stream == s) ≡ b → (log_of (history past s) ≡ Some handle → handle < u.logs) → log_of (history (entry.Call pass nth (Some stream) it (outcome.Done reply) ∷ past) s) ≡ Some handle → handle < u.logs
    go true here rest now =
        below-done u past (history past s) (history past stream) it handle legal.0.0 rest
        (sym (log_of-done pass it reply (history past s)) ∙ (ap log_of (sym (history-done pass nth stream it reply past s here)) ∙ now))
    go false away rest now = rest (ap log_of (sym (history-done_other pass nth stream it reply past s away)) ∙ now)
handle-below u (entry.Call pass nth (Some stream) it (outcome.Failed e) ∷ past) s handle legal is = handle-below u past s handle legal.1 is
handle-below u (entry.Call pass nth None it ended ∷ past) s handle legal is = handle-below u past s handle legal.1 is
handle-below u (entry.PageIn pass page from_disk ∷ past) s handle legal is =
    handle-below u past s handle legal.1 (sym (log-left (CameIn pass page.page from_disk) (history past s) (page.stream == s) (λ g. log_of-came_in pass page.page from_disk g)) ∙ is)
handle-below u (entry.PageOut pass page ∷ past) s handle legal is =
    handle-below u past s handle legal.1 (sym (log-left (WentOut pass page.page) (history past s) (page.stream == s) (λ g. log_of-went_out pass page.page g)) ∙ is)
handle-below u (entry.FillFailed pass page ∷ past) s handle legal is = handle-below u past s handle legal.1 is
handle-below u (entry.WriteBegin pass page ∷ past) s handle legal is =
    handle-below u past s handle legal.1 (sym (log-left (Began pass page.page) (history past s) (page.stream == s) (λ g. log_of-began pass page.page g)) ∙ is)
handle-below u (entry.WriteEnd pass page how ∷ past) s handle legal is =
    handle-below u past s handle legal.1 (sym (log-left (Ended pass page.page how) (history past s) (page.stream == s) (λ g. log_of-ended pass page.page how g)) ∙ is)
handle-below u (entry.Sync pass stream how ∷ past) s handle legal is =
    handle-below u past s handle legal.1 (sym (log-left (Synced pass how) (history past s) (stream == s) (λ g. log_of-synced pass how g)) ∙ is)
handle-below u (entry.Append pass log lsn bytes ∷ past) s handle legal is = handle-below u past s handle legal.1 is
handle-below u (entry.Flushed pass log to ∷ past) s handle legal is = handle-below u past s handle legal.1 is
handle-below u (entry.LogFailed pass log ∷ past) s handle legal is = handle-below u past s handle legal.1 is
handle-below u (entry.Defer pass id file pages retrying ∷ past) s handle legal is = handle-below u past s handle legal.1 is
handle-below u (entry.Posted id ∷ past) s handle legal is = handle-below u past s handle legal.1 is
handle-below u (entry.Scan pass picked ∷ past) s handle legal is = handle-below u past s handle legal.1 is
handle-below u (entry.Record pass stream size valid how ∷ past) s handle legal is = handle-below u past s handle legal.1 is
handle-below u (entry.RecordFailed pass stream ∷ past) s handle legal is = handle-below u past s handle legal.1 is
handle-below u (entry.Locked pass file span exclusive granted id ∷ past) s handle legal is = handle-below u past s handle legal.1 is
handle-below u (entry.Unlocked pass file id gone ∷ past) s handle legal is = handle-below u past s handle legal.1 is
handle-below u (entry.Tested pass file span write conflict ∷ past) s handle legal is = handle-below u past s handle legal.1 is
