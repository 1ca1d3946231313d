-- How the faults of a pass since its last call step at each kind of entry, and what its last call
-- stored.
--
-- The visits of a pass that met a fault cite it.
use Rattle.std.specs.Prelude.{◌≡◌, ℕ, Bool, true, false, ◌&&◌, ◌==◌, List, [], ◌∷◌, refl, if◌then◌else◌}
use Rattle.std.specs.declared.option.Option.{Option}
use Rattle.std.specs.declared.option.Option.TheVariants.{Some, None}
use Rattle.std.specs.List.{cons_option}
use Rattle.cc_entry.specs.Place.{File, Page}
use Rattle.cc_entry.specs.declared.call.Call.{Call}
use Rattle.cc_entry.specs.declared.call.Call.TheVariants as call
use Rattle.cc_entry.specs.declared.reply.Reply.{Reply}
use Rattle.cc_entry.specs.declared.reply.Outcome.{Outcome}
use Rattle.cc_entry.specs.declared.reply.Outcome.TheVariants as outcome
use Rattle.cc_entry.specs.declared.error.CcError.{CcError}
use Rattle.cc_entry.specs.declared.entry.Entry.{Entry}
use Rattle.cc_entry.specs.declared.entry.Entry.TheVariants as entry
use Rattle.cc_entry.specs.declared.entry.End.{End}
use Rattle.cc_entry.specs.declared.entry.End.TheVariants as how
use Rattle.cc_model.specs.Sizes.{ended_ok}
use Rattle.cc_model.specs.Passes.{is_store, is_same_page, is_written_since, up_to_call, store_of}
use Rattle.cc_model.specs.Faults.{ReadFailed, WriteFailed, SyncFailed, LogFailed, is_failed, faults_since}
use Rattle.cc_laws.proofs.PassSteps.{up_to_call-not_mine}
use Rattle.cc_model.specs.Passes.{is_mine}

-- a call that failed is no done store
pub is_store-failed : (call : Call) (error : CcError) → is_store call (outcome.Failed error) ≡ false
is_store-failed (call.NcStore file page bytes) error = refl
is_store-failed other error = refl

-- a call ends the faults of its pass, but a done noncached store does not
pub faults_since-call : (pass nth : ℕ) (stream : Option ℕ) (call : Call) (ended : Outcome) (past : List Entry) (me : ℕ) → (pass == me) ≡ true → is_store call ended ≡ false → faults_since (entry.Call pass nth stream call ended ∷ past) me ≡ []
unfolding faults_since
faults_since-call pass nth stream call ended past me same other = rw (same, other, faults_since) refl

pub faults_since-store : (pass nth : ℕ) (stream : Option ℕ) (file : File) (page : ℕ) (bytes : List ℕ) (reply : Reply) (past : List Entry) (me : ℕ) → faults_since (entry.Call pass nth stream (call.NcStore file page bytes) (outcome.Done reply) ∷ past) me ≡ faults_since past me
unfolding faults_since
faults_since-store pass nth stream file page bytes reply past me = go (pass == me)
  where
    go : (t : Bool) → elim (t && false) [ true ↦ [] | false ↦ faults_since past me ] ≡ faults_since past me
    go true = refl
    go false = refl

pub faults_since-fill_failed : (pass : ℕ) (page : Page) (past : List Entry) (me : ℕ) → (pass == me) ≡ true → faults_since (entry.FillFailed pass page ∷ past) me ≡ ReadFailed page.page ∷ faults_since past me
unfolding faults_since
faults_since-fill_failed pass page past me same = rw (same, faults_since) refl

pub faults_since-write_failed : (pass : ℕ) (page : Page) (how : End) (past : List Entry) (me : ℕ) → (pass == me) ≡ true → is_failed how ≡ true → faults_since (entry.WriteEnd pass page how ∷ past) me ≡ WriteFailed page.page ∷ faults_since past me
unfolding faults_since
faults_since-write_failed pass page how past me same failed = rw (same, failed, faults_since) refl

pub faults_since-write_ended : (pass : ℕ) (page : Page) (how : End) (past : List Entry) (me : ℕ) → is_failed how ≡ false → faults_since (entry.WriteEnd pass page how ∷ past) me ≡ faults_since past me
unfolding faults_since
faults_since-write_ended pass page how.Good past me ended = go (pass == me)
  where
    go : (t : Bool) → cons_option (if t && false then Some (WriteFailed page.page) else None) (faults_since past me) ≡ faults_since past me
    go true = refl
    go false = refl
faults_since-write_ended pass page how.Failed past me ended = cc
faults_since-write_ended pass page how.NoMemory past me ended = go (pass == me)
  where
    go : (t : Bool) → cons_option (if t && false then Some (WriteFailed page.page) else None) (faults_since past me) ≡ faults_since past me
    go true = refl
    go false = refl

pub faults_since-sync_failed : (pass stream : ℕ) (how : End) (past : List Entry) (me : ℕ) → (pass == me) ≡ true → is_failed how ≡ true → faults_since (entry.Sync pass stream how ∷ past) me ≡ SyncFailed ∷ faults_since past me
unfolding faults_since
faults_since-sync_failed pass stream how past me same failed = rw (same, failed, faults_since) refl

pub faults_since-sync_ended : (pass stream : ℕ) (how : End) (past : List Entry) (me : ℕ) → is_failed how ≡ false → faults_since (entry.Sync pass stream how ∷ past) me ≡ faults_since past me
unfolding faults_since
faults_since-sync_ended pass stream how.Good past me ended = go (pass == me)
  where
    go : (t : Bool) → cons_option (if t && false then Some SyncFailed else None) (faults_since past me) ≡ faults_since past me
    go true = refl
    go false = refl
faults_since-sync_ended pass stream how.Failed past me ended = cc
faults_since-sync_ended pass stream how.NoMemory past me ended = go (pass == me)
  where
    go : (t : Bool) → cons_option (if t && false then Some SyncFailed else None) (faults_since past me) ≡ faults_since past me
    go true = refl
    go false = refl

pub faults_since-log_failed : (pass handle : ℕ) (past : List Entry) (me : ℕ) → (pass == me) ≡ true → faults_since (entry.LogFailed pass handle ∷ past) me ≡ LogFailed handle ∷ faults_since past me
unfolding faults_since
faults_since-log_failed pass handle past me same = rw (same, faults_since) refl

-- an entry that is neither a call, nor a failure, tells no fault
pub faults_since-page_in : (pass : ℕ) (page : Page) (from_disk : Bool) (past : List Entry) (me : ℕ) → faults_since (entry.PageIn pass page from_disk ∷ past) me ≡ faults_since past me
unfolding faults_since
faults_since-page_in pass page from_disk past me = refl

pub faults_since-page_out : (pass : ℕ) (page : Page) (past : List Entry) (me : ℕ) → faults_since (entry.PageOut pass page ∷ past) me ≡ faults_since past me
unfolding faults_since
faults_since-page_out pass page past me = refl

pub faults_since-write_begin : (pass : ℕ) (page : Page) (past : List Entry) (me : ℕ) → faults_since (entry.WriteBegin pass page ∷ past) me ≡ faults_since past me
unfolding faults_since
faults_since-write_begin pass page past me = refl

-- a good end of the pass's own transfer of the page
pub is_written_since-write_end : (pass : ℕ) (page other : Page) (how : End) (past : List Entry) (me : ℕ) → (pass == me) ≡ true → is_same_page page other ≡ true → ended_ok how ≡ true → is_written_since (entry.WriteEnd pass other how ∷ past) me page ≡ true
unfolding is_written_since
is_written_since-write_end pass page other how past me same same_page good = rw (same, same_page, good, is_written_since) refl

-- what the pass's last call stored
pub store_of-store : (pass nth stream : ℕ) (file : File) (page : ℕ) (bytes : List ℕ) (reply : Reply) (past : List Entry) (me : ℕ) → (pass == me) ≡ true → store_of (entry.Call pass nth (Some stream) (call.NcStore file page bytes) (outcome.Done reply) ∷ past) me ≡ Some (record { stream = stream; page = page })
unfolding up_to_call
store_of-store pass nth stream file page bytes reply past me same = rw (same, up_to_call) refl

pub store_of-not_mine : (e : Entry) (past : List Entry) (me : ℕ) → is_mine me e ≡ false → store_of (e ∷ past) me ≡ store_of past me
store_of-not_mine e past me other = rw (up_to_call-not_mine e past me other, store_of) refl
