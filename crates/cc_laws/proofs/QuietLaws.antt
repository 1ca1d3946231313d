-- What a stream keeps while its book, or its disk, is not with those who go on.
use Rattle.std.specs.Prelude.{◌≡◌, ℕ, true, List, ◌∷◌, ◌++◌}
use Rattle.std.proofs.Common.{ap, ◌∙◌}
use Rattle.cc_entry.specs.declared.call.Call.{Call}
use Rattle.cc_entry.specs.declared.reply.Reply.{Reply}
use Rattle.cc_entry.specs.declared.entry.End.{End}
use Rattle.cc_entry.specs.declared.entry.Entry.{Entry}
use Rattle.cc_model.specs.History.{Effect, Did, Synced, history}
use Rattle.cc_model.specs.Turns.{Device, Book, is_quiet}
use Rattle.cc_laws.proofs.HistorySteps.{history-grown}
use Rattle.cc_laws.proofs.QuietSteps.{history-bookless, history-deviceless, kept_by_syncs, kept_by_calls}

-- what no sync changes is kept by all entries that do not need the book of the stream
pub kept_without_book : {A : Type 0} (f : List Effect → A) → ((pass : ℕ) (how : End) (h : List Effect) → f (Synced pass how ∷ h) ≡ f h) → (later past : List Entry) (s : ℕ) → is_quiet (Book s) later ≡ true → f (history (later ++ past) s) ≡ f (history past s)
kept_without_book f step later past s quiet =
    ap f (history-grown later past s) ∙ kept_by_syncs f step (history later s) (history past s) (history-bookless later s quiet)

-- what no call changes is kept by all entries that do not need the disk of the stream
pub kept_without_disk : {A : Type 0} (f : List Effect → A) → ((pass : ℕ) (call : Call) (reply : Reply) (h : List Effect) → f (Did pass call reply ∷ h) ≡ f h) → (later past : List Entry) (s : ℕ) → is_quiet (Device s) later ≡ true → f (history (later ++ past) s) ≡ f (history past s)
kept_without_disk f step later past s quiet =
    ap f (history-grown later past s) ∙ kept_by_calls f step (history later s) (history past s) (history-deviceless later s quiet)
