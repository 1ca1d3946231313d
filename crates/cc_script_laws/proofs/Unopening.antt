-- The checkpoints of a run in which the stream has no map: no update of it is recorded, and it has no page.
use Rattle.std.specs.Prelude.{◌≡◌, ℕ, true, false, List, [], ◌∷◌, ◌++◌}
use Rattle.std.specs.List.{AllByRecursion}
use Rattle.std.specs.declared.option.Option.TheVariants.{None}
use Rattle.std.proofs.Common.{ap, sym, ◌∙◌, append_assoc}
use Rattle.cc_entry.specs.declared.call.Call.TheVariants as call
use Rattle.cc_entry.specs.declared.query.Query.TheVariants as query
use Rattle.cc_entry.specs.declared.entry.Entry.{Entry}
use Rattle.cc_entry.specs.declared.entry.Entry.TheVariants as entry
use Rattle.cc_entry.specs.declared.entry.End.TheVariants as how
use Rattle.cc_entry.specs.declared.reply.Outcome.TheVariants as outcome
use Rattle.cc_script.specs.declared.script.ActionLine.{ActionLine}
use Rattle.cc_model.specs.Good.{IsGoodSoFar}
use Rattle.cc_model.specs.History.{history}
use Rattle.cc_model.specs.Objects.{had_map}
use Rattle.cc_model.specs.Passes.{HasSeen}
use Rattle.cc_model.specs.Setup.{Setup}
use Rattle.cc_update_laws.specs.Keeping.{OthersRecordNone}
use Rattle.cc_pieces.proofs.Grown.{grew-then}
use Rattle.cc_script_laws.specs.Lines.{IsKnownAt, checkpoints}
use Rattle.cc_script_laws.proofs.Growing.{good-seen}
use Rattle.cc_script_laws.proofs.Stamping.{IsInvariant, stays, table-seen}
use Rattle.cc_script_laws.proofs.Unopened.{never-before, unopened-known, unopened-stamped}

pub unopened-invariant : (u : Setup) (whole : List Entry) → IsGoodSoFar u whole → (s log : ℕ) → had_map (history whole s) ≡ false → (me : ℕ) (base end : List Entry) → HasSeen end whole → OthersRecordNone s log me base end →
    IsInvariant u whole s log me base end (λ past. Unit {0}) (λ asked told. Unit {0})
unopened-invariant u whole good s log never me base end seen_end others = record {
  none = λ old new since seen to none inv. tt;
  update = λ file at bytes told answered old new says same wants so since seen to left inv. tt;
  listed = λ old front new between since seen to it none updated inv.
      let front_end = grew-then front new end (table-seen log me between front new it) to in
      let old_whole = grew-then old end whole (grew-then old front end seen front_end) seen_end in
      stays u whole good s log me base end seen_end others old front since seen front_end none
      (unopened-stamped u s log old (good-seen u old whole old_whole good) (never-before u s old whole old_whole never) updated);
}

pub unopened-known-at : (u : Setup) (s log : ℕ) (past : List Entry) → IsGoodSoFar u past → had_map (history past s) ≡ false → (lines : List ActionLine) →
    AllByRecursion (λ (each : ActionLine). checkpoints log each.action ≡ true → IsKnownAt s log each.caller past) lines
unopened-known-at u s log past good never [] = tt
unopened-known-at u s log past good never (line ∷ lines) = (
  (λ of_log between listed later during it is.
      let listing : Entry = entry.Call line.caller it.nth None (call.Query (query.DirtyPages log)) (outcome.Done it.reply) in
      let sync : Entry = entry.Sync line.caller s how.Good in
      let append : Entry = entry.Append line.caller log it.lsn it.bytes in
      let front : List Entry = during ++ listing ∷ listed in
      let seen : HasSeen front past = record {
        later = it.later ++ append ∷ (later ++ sync ∷ []);
        grew =
            it.splits
            ∙ (ap (λ (l : List Entry). it.later ++ append ∷ (l ++ listing ∷ listed)) is
            ∙ (ap (λ (l : List Entry). it.later ++ append ∷ l) (append_assoc later (sync ∷ during) (listing ∷ listed) ∙ sym (append_assoc later (sync ∷ []) front))
            ∙ sym (append_assoc it.later (append ∷ (later ++ sync ∷ [])) front)));
      } in
      unopened-known u s front (good-seen u front past seen good) (never-before u s front past seen never)),
  unopened-known-at u s log past good never lines,
)
