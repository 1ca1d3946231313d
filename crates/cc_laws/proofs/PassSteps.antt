-- How what a pass did, and what has befallen it since its last call, step.
use Rattle.std.specs.Prelude.{◌≡◌, ℕ, suc, ◌+◌, true, false, ◌==◌, List, [], ◌∷◌, refl}
use Rattle.std.specs.declared.option.Option.{Option}
use Rattle.std.specs.declared.option.Option.TheVariants.{Some, None}
use Rattle.std.proofs.Common.{arith}
use Rattle.cc_entry.specs.Place.{Page}
use Rattle.cc_entry.specs.declared.call.Call.{Call}
use Rattle.cc_entry.specs.declared.reply.Reply.{Reply}
use Rattle.cc_entry.specs.declared.reply.Outcome.{Outcome}
use Rattle.cc_entry.specs.declared.reply.Outcome.TheVariants as outcome
use Rattle.cc_entry.specs.declared.entry.Entry.{Entry}
use Rattle.cc_entry.specs.declared.entry.Entry.TheVariants as entry
use Rattle.cc_model.specs.Cache.{makes_hold, holds_made_by, holds_made}
use Rattle.cc_model.specs.Passes.{is_mine, mine_of, is_call_of, calls_of, up_to_call, ends_call_of, is_ok_end_of, is_written_since}
use Rattle.cc_model.specs.Faults.{Fault, fault_of, faults_since}

-- the entries of a pass
pub mine_of-mine : (me : ℕ) (e : Entry) (past : List Entry) → is_mine me e ≡ true → mine_of me (e ∷ past) ≡ e ∷ mine_of me past
unfolding mine_of
mine_of-mine me e past mine = rw (mine, mine_of) refl

pub mine_of-other : (me : ℕ) (e : Entry) (past : List Entry) → is_mine me e ≡ false → mine_of me (e ∷ past) ≡ mine_of me past
unfolding mine_of
mine_of-other me e past other = rw (other, mine_of) refl

-- how many calls of it have ended
pub calls_of-call : (pass nth : ℕ) (stream : Option ℕ) (call : Call) (ended : Outcome) (past : List Entry) (me : ℕ) → (pass == me) ≡ true → calls_of (entry.Call pass nth stream call ended ∷ past) me ≡ suc (calls_of past me)
unfolding calls_of
calls_of-call pass nth stream call ended past me same = rw (same, calls_of) refl

pub calls_of-other : (e : Entry) (past : List Entry) (me : ℕ) → is_call_of me e ≡ false → calls_of (e ∷ past) me ≡ calls_of past me
unfolding calls_of
calls_of-other e past me other = rw (other, calls_of) refl

-- the past since its last call
pub up_to_call-call : (pass nth : ℕ) (stream : Option ℕ) (call : Call) (ended : Outcome) (past : List Entry) (me : ℕ) → (pass == me) ≡ true → up_to_call (entry.Call pass nth stream call ended ∷ past) me ≡ entry.Call pass nth stream call ended ∷ past
unfolding up_to_call
up_to_call-call pass nth stream call ended past me same = rw (same, up_to_call) refl

pub up_to_call-other : (e : Entry) (past : List Entry) (me : ℕ) → is_call_of me e ≡ false → up_to_call (e ∷ past) me ≡ up_to_call past me
unfolding up_to_call
up_to_call-other e past me other = rw (other, up_to_call) refl

-- its faults since its last call other than a done noncached store
pub faults_since-ended : (e : Entry) (past : List Entry) (me : ℕ) → ends_call_of me e ≡ true → faults_since (e ∷ past) me ≡ []
unfolding faults_since
faults_since-ended e past me ends = rw (ends, faults_since) refl

pub faults_since-fault : (e : Entry) (past : List Entry) (me : ℕ) (fault : Fault) → ends_call_of me e ≡ false → fault_of me e ≡ Some fault → faults_since (e ∷ past) me ≡ fault ∷ faults_since past me
unfolding faults_since
faults_since-fault e past me fault goes_on is = rw (goes_on, is, faults_since) refl

pub faults_since-none : (e : Entry) (past : List Entry) (me : ℕ) → ends_call_of me e ≡ false → fault_of me e ≡ None → faults_since (e ∷ past) me ≡ faults_since past me
unfolding faults_since
faults_since-none e past me goes_on is = rw (goes_on, is, faults_since) refl

-- whether a good end of its transfer of the page stands after its last call
pub is_written_since-call : (pass nth : ℕ) (stream : Option ℕ) (call : Call) (ended : Outcome) (past : List Entry) (me : ℕ) (page : Page) → (pass == me) ≡ true → is_written_since (entry.Call pass nth stream call ended ∷ past) me page ≡ false
unfolding is_written_since
is_written_since-call pass nth stream call ended past me page same = rw (same, is_written_since) refl

pub is_written_since-ok_end : (e : Entry) (past : List Entry) (me : ℕ) (page : Page) → is_call_of me e ≡ false → is_ok_end_of me page e ≡ true → is_written_since (e ∷ past) me page ≡ true
unfolding is_written_since
is_written_since-ok_end e past me page other good = rw (other, good, is_written_since) refl

pub is_written_since-other : (e : Entry) (past : List Entry) (me : ℕ) (page : Page) → is_call_of me e ≡ false → is_ok_end_of me page e ≡ false → is_written_since (e ∷ past) me page ≡ is_written_since past me page
unfolding is_written_since
is_written_since-other e past me page other not_good = rw (other, not_good, is_written_since) refl

-- an entry that another pass placed tells nothing of this one
is_call_of-other : (me : ℕ) (e : Entry) → is_mine me e ≡ false → is_call_of me e ≡ false
is_call_of-other me (entry.Call pass nth stream call ended) other = other
is_call_of-other me e other = refl

pub calls_of-not_mine : (e : Entry) (past : List Entry) (me : ℕ) → is_mine me e ≡ false → calls_of (e ∷ past) me ≡ calls_of past me
calls_of-not_mine e past me other = calls_of-other e past me (is_call_of-other me e other)

pub up_to_call-not_mine : (e : Entry) (past : List Entry) (me : ℕ) → is_mine me e ≡ false → up_to_call (e ∷ past) me ≡ up_to_call past me
up_to_call-not_mine e past me other = up_to_call-other e past me (is_call_of-other me e other)

ends_call_of-other : (me : ℕ) (e : Entry) → is_mine me e ≡ false → ends_call_of me e ≡ false
ends_call_of-other me (entry.Call pass nth stream call ended) other = rw other refl
ends_call_of-other me e other = refl

fault_of-other : (me : ℕ) (e : Entry) → is_mine me e ≡ false → fault_of me e ≡ None
fault_of-other me (entry.FillFailed pass page) other = rw other refl
fault_of-other me (entry.WriteEnd pass page how) other = rw other refl
fault_of-other me (entry.Sync pass stream how) other = rw other refl
fault_of-other me (entry.LogFailed pass handle) other = rw other refl
fault_of-other me e other = refl

pub faults_since-not_mine : (e : Entry) (past : List Entry) (me : ℕ) → is_mine me e ≡ false → faults_since (e ∷ past) me ≡ faults_since past me
faults_since-not_mine e past me other = faults_since-none e past me (ends_call_of-other me e other) (fault_of-other me e other)

is_ok_end_of-other : (me : ℕ) (page : Page) (e : Entry) → is_mine me e ≡ false → is_ok_end_of me page e ≡ false
is_ok_end_of-other me page (entry.WriteEnd pass other how) apart = rw apart refl
is_ok_end_of-other me page e apart = refl

pub is_written_since-not_mine : (e : Entry) (past : List Entry) (me : ℕ) (page : Page) → is_mine me e ≡ false → is_written_since (e ∷ past) me page ≡ is_written_since past me page
is_written_since-not_mine e past me page other = is_written_since-other e past me page (is_call_of-other me e other) (is_ok_end_of-other me page e other)

-- how many holds were ever made
pub holds_made-entry : (e : Entry) (past : List Entry) → holds_made (e ∷ past) ≡ holds_made_by e + holds_made past
unfolding holds_made
holds_made-entry e past = refl

pub holds_made-made : (pass nth : ℕ) (stream : Option ℕ) (call : Call) (reply : Reply) (past : List Entry) → makes_hold call ≡ true → holds_made (entry.Call pass nth stream call (outcome.Done reply) ∷ past) ≡ suc (holds_made past)
unfolding holds_made
holds_made-made pass nth stream call reply past makes = rw (makes, holds_made) (omega arith)

pub holds_made-other : (e : Entry) (past : List Entry) → holds_made_by e ≡ 0 → holds_made (e ∷ past) ≡ holds_made past
unfolding holds_made
holds_made-other e past none = rw (none, holds_made) (omega arith)
