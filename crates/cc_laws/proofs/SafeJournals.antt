-- The history of each stream of a good journal is safe.
use Rattle.std.specs.Prelude.{◌≡◌, ℕ, Bool, true, false, ◌==◌, List, [], ◌∷◌, if◌then◌else◌, refl}
use Rattle.std.specs.List.{cons_option}
use Rattle.std.specs.declared.option.Option.TheVariants.{Some, None}
use Rattle.std.proofs.lemmas.Bool.{eqb-true}
use Rattle.cc_entry.specs.declared.reply.Outcome.TheVariants as outcome
use Rattle.cc_entry.specs.declared.entry.Entry.{Entry}
use Rattle.cc_entry.specs.declared.entry.Entry.TheVariants as entry
use Rattle.cc_model.specs.Setup.{Setup}
use Rattle.cc_model.specs.History.{Effect, Did, CameIn, WentOut, Began, Ended, Synced, history}
use Rattle.cc_model.specs.Legal.{IsLegalEntry, IsLegal}
use Rattle.cc_model.specs.Allowed.{MayStand, IsAllowedSoFar}
use Rattle.cc_model.specs.Good.{IsGoodSoFar}
use Rattle.cc_laws.proofs.SafeHistory.{IsEffectSafe, IsSafe}
use Rattle.cc_laws.proofs.SafeCalls.{done-safe}

grown : (past : List Entry) (t s : ℕ) (e : Effect) (b : Bool) → (t == s) ≡ b → IsEffectSafe e (history past t) → IsSafe (history past s) → IsSafe (cons_option (if b then Some e else None) (history past s))
unfolding IsSafe
grown past t s e true same safe before = (rw (eqb-true t s same) at safe, before)
grown past t s e false other safe before = before

entry-safe : (u : Setup) (past : List Entry) (e : Entry) (s : ℕ) → IsLegalEntry u past e → MayStand u past e → IsSafe (history past s) → IsSafe (history (e ∷ past) s)
unfolding IsSafe IsLegalEntry history
entry-safe u past (entry.Call pass nth (Some stream) call (outcome.Done reply)) s legal stands before = grown past stream s (Did pass call reply) (stream == s) refl (done-safe u past pass stream call reply legal.0 stands.filed stands.may_end.0 stands.may_end.1) before
entry-safe u past (entry.Call pass nth (Some stream) call (outcome.Failed error)) s legal stands before = before
entry-safe u past (entry.Call pass nth None call ended) s legal stands before = before
entry-safe u past (entry.PageIn pass page from_disk) s legal stands before = grown past page.stream s (CameIn pass page.page from_disk) (page.stream == s) refl stands before
entry-safe u past (entry.PageOut pass page) s legal stands before = grown past page.stream s (WentOut pass page.page) (page.stream == s) refl stands before
entry-safe u past (entry.FillFailed pass page) s legal stands before = before
entry-safe u past (entry.WriteBegin pass page) s legal stands before = grown past page.stream s (Began pass page.page) (page.stream == s) refl tt before
entry-safe u past (entry.WriteEnd pass page how) s legal stands before = grown past page.stream s (Ended pass page.page how) (page.stream == s) refl tt before
entry-safe u past (entry.Sync pass stream how) s legal stands before = grown past stream s (Synced pass how) (stream == s) refl tt before
entry-safe u past (entry.Append pass handle lsn bytes) s legal stands before = before
entry-safe u past (entry.Flushed pass handle to) s legal stands before = before
entry-safe u past (entry.LogFailed pass handle) s legal stands before = before
entry-safe u past (entry.Defer pass id file pages retrying) s legal stands before = before
entry-safe u past (entry.Posted id) s legal stands before = before
entry-safe u past (entry.Scan pass picked) s legal stands before = before
entry-safe u past (entry.Record pass stream size valid how) s legal stands before = before
entry-safe u past (entry.RecordFailed pass stream) s legal stands before = before
entry-safe u past (entry.Locked pass file span exclusive granted id) s legal stands before = before
entry-safe u past (entry.Unlocked pass file id gone) s legal stands before = before
entry-safe u past (entry.Tested pass file span write conflict) s legal stands before = before

history-safe : (u : Setup) (past : List Entry) (s : ℕ) → IsLegal u past → IsAllowedSoFar u past → IsSafe (history past s)
unfolding IsLegal IsAllowedSoFar IsSafe history
history-safe u [] s legal allowed = tt
history-safe u (e ∷ past) s legal allowed = entry-safe u past e s legal.0 allowed.1 (history-safe u past s legal.1 allowed.2)

pub good-safe : (u : Setup) (past : List Entry) (s : ℕ) → IsGoodSoFar u past → IsSafe (history past s)
good-safe u past s good = history-safe u past s good.legal good.allowed
