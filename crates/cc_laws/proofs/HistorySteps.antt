-- How the history of a stream steps at each kind of entry.
use Rattle.std.specs.Prelude.{◌≡◌, ℕ, Bool, true, false, ◌==◌, List, [], ◌∷◌, ◌++◌, refl}
use Rattle.std.specs.declared.option.Option.{Option}
use Rattle.std.specs.declared.option.Option.TheVariants.{Some, None}
use Rattle.std.proofs.Common.{ap, ◌∙◌}
use Rattle.std.specs.List.{cons_option}
use Rattle.cc_entry.specs.Place.{Page, File}
use Rattle.cc_entry.specs.declared.call.Call.{Call}
use Rattle.cc_entry.specs.declared.reply.Reply.{Reply}
use Rattle.cc_entry.specs.declared.reply.Outcome.{Outcome}
use Rattle.cc_entry.specs.declared.reply.Outcome.TheVariants as outcome
use Rattle.cc_entry.specs.declared.error.CcError.{CcError}
use Rattle.cc_entry.specs.declared.entry.Entry.{Entry}
use Rattle.cc_entry.specs.declared.entry.Entry.TheVariants as entry
use Rattle.cc_entry.specs.declared.entry.End.{End}
use Rattle.cc_model.specs.History.{Effect, Did, CameIn, WentOut, Began, Ended, Synced, effect_of, history}

-- an entry steps the history by its effect
pub history-effect : (e : Entry) (past : List Entry) (s : ℕ) (o : Option Effect) → effect_of e s ≡ o → history (e ∷ past) s ≡ cons_option o (history past s)
unfolding history
history-effect e past s o is = rw is refl

-- an entry without an effect on the stream leaves its history
pub history-no_effect : (e : Entry) (past : List Entry) (s : ℕ) → effect_of e s ≡ None → history (e ∷ past) s ≡ history past s
unfolding history
history-no_effect e past s is = rw is refl

pub history-done : (pass nth stream : ℕ) (call : Call) (reply : Reply) (past : List Entry) (s : ℕ) → (stream == s) ≡ true → history (entry.Call pass nth (Some stream) call (outcome.Done reply) ∷ past) s ≡ Did pass call reply ∷ history past s
unfolding history
history-done pass nth stream call reply past s same = rw same refl

pub history-done_other : (pass nth stream : ℕ) (call : Call) (reply : Reply) (past : List Entry) (s : ℕ) → (stream == s) ≡ false → history (entry.Call pass nth (Some stream) call (outcome.Done reply) ∷ past) s ≡ history past s
unfolding history
history-done_other pass nth stream call reply past s other = rw other refl

pub history-failed : (pass nth stream : ℕ) (call : Call) (error : CcError) (past : List Entry) (s : ℕ) → history (entry.Call pass nth (Some stream) call (outcome.Failed error) ∷ past) s ≡ history past s
unfolding history
history-failed pass nth stream call error past s = refl

-- the same whether or not the call has a stream
pub history-call_failed : (pass nth : ℕ) (stream : Option ℕ) (call : Call) (error : CcError) (past : List Entry) (s : ℕ) → history (entry.Call pass nth stream call (outcome.Failed error) ∷ past) s ≡ history past s
unfolding history
history-call_failed pass nth (Some stream) call error past s = refl
history-call_failed pass nth None call error past s = refl

pub history-no_stream : (pass nth : ℕ) (call : Call) (ended : Outcome) (past : List Entry) (s : ℕ) → history (entry.Call pass nth None call ended ∷ past) s ≡ history past s
unfolding history
history-no_stream pass nth call ended past s = refl

pub history-page_in : (pass : ℕ) (page : Page) (from_disk : Bool) (past : List Entry) (s : ℕ) → (page.stream == s) ≡ true → history (entry.PageIn pass page from_disk ∷ past) s ≡ CameIn pass page.page from_disk ∷ history past s
unfolding history
history-page_in pass page from_disk past s same = rw same refl

pub history-page_in_other : (pass : ℕ) (page : Page) (from_disk : Bool) (past : List Entry) (s : ℕ) → (page.stream == s) ≡ false → history (entry.PageIn pass page from_disk ∷ past) s ≡ history past s
unfolding history
history-page_in_other pass page from_disk past s other = rw other refl

pub history-page_out : (pass : ℕ) (page : Page) (past : List Entry) (s : ℕ) → (page.stream == s) ≡ true → history (entry.PageOut pass page ∷ past) s ≡ WentOut pass page.page ∷ history past s
unfolding history
history-page_out pass page past s same = rw same refl

pub history-page_out_other : (pass : ℕ) (page : Page) (past : List Entry) (s : ℕ) → (page.stream == s) ≡ false → history (entry.PageOut pass page ∷ past) s ≡ history past s
unfolding history
history-page_out_other pass page past s other = rw other refl

pub history-fill_failed : (pass : ℕ) (page : Page) (past : List Entry) (s : ℕ) → history (entry.FillFailed pass page ∷ past) s ≡ history past s
unfolding history
history-fill_failed pass page past s = refl

pub history-write_begin : (pass : ℕ) (page : Page) (past : List Entry) (s : ℕ) → (page.stream == s) ≡ true → history (entry.WriteBegin pass page ∷ past) s ≡ Began pass page.page ∷ history past s
unfolding history
history-write_begin pass page past s same = rw same refl

pub history-write_begin_other : (pass : ℕ) (page : Page) (past : List Entry) (s : ℕ) → (page.stream == s) ≡ false → history (entry.WriteBegin pass page ∷ past) s ≡ history past s
unfolding history
history-write_begin_other pass page past s other = rw other refl

pub history-write_end : (pass : ℕ) (page : Page) (how : End) (past : List Entry) (s : ℕ) → (page.stream == s) ≡ true → history (entry.WriteEnd pass page how ∷ past) s ≡ Ended pass page.page how ∷ history past s
unfolding history
history-write_end pass page how past s same = rw same refl

pub history-write_end_other : (pass : ℕ) (page : Page) (how : End) (past : List Entry) (s : ℕ) → (page.stream == s) ≡ false → history (entry.WriteEnd pass page how ∷ past) s ≡ history past s
unfolding history
history-write_end_other pass page how past s other = rw other refl

pub history-sync : (pass stream : ℕ) (how : End) (past : List Entry) (s : ℕ) → (stream == s) ≡ true → history (entry.Sync pass stream how ∷ past) s ≡ Synced pass how ∷ history past s
unfolding history
history-sync pass stream how past s same = rw same refl

pub history-sync_other : (pass stream : ℕ) (how : End) (past : List Entry) (s : ℕ) → (stream == s) ≡ false → history (entry.Sync pass stream how ∷ past) s ≡ history past s
unfolding history
history-sync_other pass stream how past s other = rw other refl

pub history-log_append : (pass handle lsn : ℕ) (bytes : List ℕ) (past : List Entry) (s : ℕ) → history (entry.Append pass handle lsn bytes ∷ past) s ≡ history past s
unfolding history
history-log_append pass handle lsn bytes past s = refl

pub history-log_flushed : (pass handle to : ℕ) (past : List Entry) (s : ℕ) → history (entry.Flushed pass handle to ∷ past) s ≡ history past s
unfolding history
history-log_flushed pass handle to past s = refl

pub history-log_failed : (pass handle : ℕ) (past : List Entry) (s : ℕ) → history (entry.LogFailed pass handle ∷ past) s ≡ history past s
unfolding history
history-log_failed pass handle past s = refl

pub history-deferred : (pass id : ℕ) (file : File) (pages : ℕ) (retrying : Bool) (past : List Entry) (s : ℕ) → history (entry.Defer pass id file pages retrying ∷ past) s ≡ history past s
unfolding history
history-deferred pass id file pages retrying past s = refl

pub history-posted : (id : ℕ) (past : List Entry) (s : ℕ) → history (entry.Posted id ∷ past) s ≡ history past s
unfolding history
history-posted id past s = refl

pub history-scan : (pass : ℕ) (picked : List Page) (past : List Entry) (s : ℕ) → history (entry.Scan pass picked ∷ past) s ≡ history past s
unfolding history
history-scan pass picked past s = refl

-- the history of a past that grew is what came, before what was
pub history-grown : (later past : List Entry) (s : ℕ) → history (later ++ past) s ≡ history later s ++ history past s
unfolding history
history-grown [] past s = refl
history-grown (e ∷ later) past s = ap (cons_option (effect_of e s)) (history-grown later past s) ∙ onto (effect_of e s) (history later s) (history past s)
  where
    onto : (o : Option Effect) (us vs : List Effect) → cons_option o (us ++ vs) ≡ cons_option o us ++ vs
    onto None us vs = refl
    onto (Some x) us vs = refl
