-- What is left of a stream, or of a log, by entries that do not need its turns.
use Rattle.std.specs.Prelude.{◌≡◌, ℕ, Bool, true, false, not, ◌||◌, ◌==◌, List, [], ◌∷◌, ◌++◌, refl, if◌then◌else◌}
use Rattle.std.specs.declared.option.Option.{Option}
use Rattle.std.specs.declared.option.Option.TheVariants.{Some, None}
use Rattle.std.proofs.Common.{sym, ◌∙◌}
use Rattle.std.proofs.lemmas.Bool.{eqb-true, eqb-false, and_parts}
use Rattle.std.specs.List.{cons_option, list_all}
use Rattle.cc_entry.specs.declared.call.Call.{Call}
use Rattle.cc_entry.specs.declared.call.Call.TheVariants as call
use Rattle.cc_entry.specs.declared.reply.Reply.{Reply}
use Rattle.cc_entry.specs.declared.reply.Outcome.TheVariants as outcome
use Rattle.cc_entry.specs.declared.entry.Entry.{Entry}
use Rattle.cc_entry.specs.declared.entry.Entry.TheVariants as entry
use Rattle.cc_entry.specs.declared.entry.End.{End}
use Rattle.cc_model.specs.History.{Effect, Did, CameIn, WentOut, Began, Ended, Synced, effect_of, history}
use Rattle.cc_model.specs.Turns.{Turn, Device, Book, needs, call_needs, is_quiet}
use Rattle.cc_laws.proofs.HistorySteps.{history-no_effect}

-- a test of numbers that fails, fails the other way round
pub eqb-swapped : (a b : ℕ) → (a == b) ≡ false → (b == a) ≡ false
eqb-swapped a b apart = go (b == a) refl
  where
    go : (t : Bool) → (b == a) ≡ t → t ≡ false
    go false is = refl
    go true is = absurd (eqb-false a b apart (sym (eqb-true b a is)))

-- where neither of two tests holds, the first does not
or-left : (a b : Bool) → (a || b) ≡ false → a ≡ false
or-left false b e = refl
or-left true b e = e

-- a call that does not need the book of the stream is of another stream
call_needs-book : (stream s : ℕ) (call : Call) (reply : Reply) → call_needs (Some stream) call (outcome.Done reply) (Book s) ≡ false → (stream == s) ≡ false
call_needs-book stream s (call.NcStore file page bytes) reply b = eqb-swapped s stream (or-left _ _ b)
call_needs-book stream s (call.NcRead file page) reply b = eqb-swapped s stream (or-left _ _ b)
call_needs-book stream s (call.Discard file span) reply b = eqb-swapped s stream (or-left _ _ b)
call_needs-book stream s other reply b = eqb-swapped s stream b

-- an effect that a sync has
abbrev pub is_sync : Effect → Bool
is_sync (Synced pass how) = true
is_sync other = false

-- whether a done call needs the disk of its stream
abbrev pub needs_disk : Call → Bool
needs_disk (call.NcStore file page bytes) = true
needs_disk (call.NcRead file page) = true
needs_disk (call.Discard file span) = true
needs_disk other = false

-- an effect of a call that does not need the disk
abbrev pub is_cached_call : Effect → Bool
is_cached_call (Did pass call reply) = not (needs_disk call)
is_cached_call other = false

-- whether there is no effect, or one that passes a test
abbrev pub none_or : (Effect → Bool) → Option Effect → Bool
none_or test None = true
none_or test (Some effect) = test effect

-- an entry that needs neither turn of the stream has no effect on it
pub effect_of-unneeded : (e : Entry) (s : ℕ) → needs e (Book s) ≡ false → needs e (Device s) ≡ false → effect_of e s ≡ None
effect_of-unneeded (entry.Call pass nth (Some stream) call (outcome.Done reply)) s b d = rw (call_needs-book stream s call reply b) refl
effect_of-unneeded (entry.Call pass nth (Some stream) call (outcome.Failed error)) s b d = refl
effect_of-unneeded (entry.Call pass nth None call ended) s b d = refl
effect_of-unneeded (entry.PageIn pass page from_disk) s b d = rw (eqb-swapped s page.stream (or-left _ _ b)) refl
effect_of-unneeded (entry.PageOut pass page) s b d = rw (eqb-swapped s page.stream (or-left _ _ b)) refl
effect_of-unneeded (entry.FillFailed pass page) s b d = refl
effect_of-unneeded (entry.WriteBegin pass page) s b d = rw (eqb-swapped s page.stream (or-left _ _ b)) refl
effect_of-unneeded (entry.WriteEnd pass page how) s b d = rw (eqb-swapped s page.stream (or-left _ _ b)) refl
effect_of-unneeded (entry.Sync pass stream how) s b d = rw (eqb-swapped s stream d) refl
effect_of-unneeded (entry.Append pass handle lsn bytes) s b d = refl
effect_of-unneeded (entry.Flushed pass handle to) s b d = refl
effect_of-unneeded (entry.LogFailed pass handle) s b d = refl
effect_of-unneeded (entry.Defer pass id file pages retrying) s b d = refl
effect_of-unneeded (entry.Posted id) s b d = refl
effect_of-unneeded (entry.Scan pass picked) s b d = refl
effect_of-unneeded (entry.Record pass stream size valid how) s b d = refl
effect_of-unneeded (entry.RecordFailed pass stream) s b d = refl
effect_of-unneeded (entry.Locked pass file span exclusive granted id) s b d = refl
effect_of-unneeded (entry.Unlocked pass file id gone) s b d = refl
effect_of-unneeded (entry.Tested pass file span write conflict) s b d = refl

-- an entry that does not need the book of the stream has no effect on it, or that of a sync
pub effect_of-bookless : (e : Entry) (s : ℕ) → needs e (Book s) ≡ false → none_or is_sync (effect_of e s) ≡ true
effect_of-bookless (entry.Call pass nth (Some stream) call (outcome.Done reply)) s b = rw (call_needs-book stream s call reply b) refl
effect_of-bookless (entry.Call pass nth (Some stream) call (outcome.Failed error)) s b = refl
effect_of-bookless (entry.Call pass nth None call ended) s b = refl
effect_of-bookless (entry.PageIn pass page from_disk) s b = rw (eqb-swapped s page.stream (or-left _ _ b)) refl
effect_of-bookless (entry.PageOut pass page) s b = rw (eqb-swapped s page.stream (or-left _ _ b)) refl
effect_of-bookless (entry.FillFailed pass page) s b = refl
effect_of-bookless (entry.WriteBegin pass page) s b = rw (eqb-swapped s page.stream (or-left _ _ b)) refl
effect_of-bookless (entry.WriteEnd pass page how) s b = rw (eqb-swapped s page.stream (or-left _ _ b)) refl
effect_of-bookless (entry.Sync pass stream how) s b = go (stream == s)
  where
    go : (t : Bool) → none_or is_sync (if t then Some (Synced pass how) else None) ≡ true
    go true = refl
    go false = refl
effect_of-bookless (entry.Append pass handle lsn bytes) s b = refl
effect_of-bookless (entry.Flushed pass handle to) s b = refl
effect_of-bookless (entry.LogFailed pass handle) s b = refl
effect_of-bookless (entry.Defer pass id file pages retrying) s b = refl
effect_of-bookless (entry.Posted id) s b = refl
effect_of-bookless (entry.Scan pass picked) s b = refl
effect_of-bookless (entry.Record pass stream size valid how) s b = refl
effect_of-bookless (entry.RecordFailed pass stream) s b = refl
effect_of-bookless (entry.Locked pass file span exclusive granted id) s b = refl
effect_of-bookless (entry.Unlocked pass file id gone) s b = refl
effect_of-bookless (entry.Tested pass file span write conflict) s b = refl

-- a done call without the turn of the stream's disk has no effect on the stream, or does not need the disk
call_needs-device : (pass stream : ℕ) (call : Call) (reply : Reply) (s : ℕ) → call_needs (Some stream) call (outcome.Done reply) (Device s) ≡ false → none_or is_cached_call (if stream == s then Some (Did pass call reply) else None) ≡ true
call_needs-device pass stream (call.NcStore file page bytes) reply s d = rw (eqb-swapped s stream d) refl
call_needs-device pass stream (call.NcRead file page) reply s d = rw (eqb-swapped s stream d) refl
call_needs-device pass stream (call.Discard file span) reply s d = rw (eqb-swapped s stream d) refl
call_needs-device pass stream other reply s d = either (stream == s)
  where
    either : (t : Bool) → none_or is_cached_call (if t then Some (Did pass other reply) else None) ≡ true
    either true = refl
    either false = refl

-- an entry without the turn of the stream's disk has no effect on the stream, or that of a call that does
-- not need the disk
pub effect_of-deviceless : (e : Entry) (s : ℕ) → needs e (Device s) ≡ false → none_or is_cached_call (effect_of e s) ≡ true
effect_of-deviceless (entry.Call pass nth (Some stream) call (outcome.Done reply)) s d = call_needs-device pass stream call reply s d
effect_of-deviceless (entry.Call pass nth (Some stream) call (outcome.Failed error)) s d = refl
effect_of-deviceless (entry.Call pass nth None call ended) s d = refl
effect_of-deviceless (entry.PageIn pass page from_disk) s d = rw (eqb-swapped s page.stream d) refl
effect_of-deviceless (entry.PageOut pass page) s d = rw (eqb-swapped s page.stream d) refl
effect_of-deviceless (entry.FillFailed pass page) s d = refl
effect_of-deviceless (entry.WriteBegin pass page) s d = rw (eqb-swapped s page.stream d) refl
effect_of-deviceless (entry.WriteEnd pass page how) s d = rw (eqb-swapped s page.stream d) refl
effect_of-deviceless (entry.Sync pass stream how) s d = rw (eqb-swapped s stream d) refl
effect_of-deviceless (entry.Append pass handle lsn bytes) s d = refl
effect_of-deviceless (entry.Flushed pass handle to) s d = refl
effect_of-deviceless (entry.LogFailed pass handle) s d = refl
effect_of-deviceless (entry.Defer pass id file pages retrying) s d = refl
effect_of-deviceless (entry.Posted id) s d = refl
effect_of-deviceless (entry.Scan pass picked) s d = refl
effect_of-deviceless (entry.Record pass stream size valid how) s d = refl
effect_of-deviceless (entry.RecordFailed pass stream) s d = refl
effect_of-deviceless (entry.Locked pass file span exclusive granted id) s d = refl
effect_of-deviceless (entry.Unlocked pass file id gone) s d = refl
effect_of-deviceless (entry.Tested pass file span write conflict) s d = refl

-- one effect more, or none, all of which pass a test
cons_option-passes : (test : Effect → Bool) (o : Option Effect) (effects : List Effect) → none_or test o ≡ true → list_all test effects ≡ true → list_all test (cons_option o effects) ≡ true
cons_option-passes test None effects one all = all
cons_option-passes test (Some effect) effects one all = rw one all

not-true : (b : Bool) → not b ≡ true → b ≡ false
not-true false e = refl
not-true true e = sym e

-- of entries that do not need a turn, the first and the others
pub is_quiet-first : (turn : Turn) (e : Entry) (later : List Entry) → is_quiet turn (e ∷ later) ≡ true → needs e turn ≡ false
unfolding is_quiet
is_quiet-first turn e later quiet = not-true _ (and_parts _ _ quiet).0

pub is_quiet-rest : (turn : Turn) (e : Entry) (later : List Entry) → is_quiet turn (e ∷ later) ≡ true → is_quiet turn later ≡ true
unfolding is_quiet
is_quiet-rest turn e later quiet = (and_parts _ _ quiet).1

-- entries that need neither turn of the stream leave its history
pub history-quiet : (later past : List Entry) (s : ℕ) → is_quiet (Book s) later ≡ true → is_quiet (Device s) later ≡ true → history (later ++ past) s ≡ history past s
history-quiet [] past s b d = refl
history-quiet (e ∷ later) past s b d =
    history-no_effect e (later ++ past) s (effect_of-unneeded e s (is_quiet-first (Book s) e later b) (is_quiet-first (Device s) e later d))
    ∙ history-quiet later past s (is_quiet-rest (Book s) e later b) (is_quiet-rest (Device s) e later d)

-- entries that do not need the book of the stream add only syncs to its history
pub history-bookless : (later : List Entry) (s : ℕ) → is_quiet (Book s) later ≡ true → list_all is_sync (history later s) ≡ true
unfolding history
history-bookless [] s b = refl
history-bookless (e ∷ later) s b =
    cons_option-passes is_sync (effect_of e s) (history later s) (effect_of-bookless e s (is_quiet-first (Book s) e later b)) (history-bookless later s (is_quiet-rest (Book s) e later b))

-- entries that do not need the disk of the stream add only calls that do not go to the disk
pub history-deviceless : (later : List Entry) (s : ℕ) → is_quiet (Device s) later ≡ true → list_all is_cached_call (history later s) ≡ true
unfolding history
history-deviceless [] s d = refl
history-deviceless (e ∷ later) s d =
    cons_option-passes is_cached_call (effect_of e s) (history later s) (effect_of-deviceless e s (is_quiet-first (Device s) e later d)) (history-deviceless later s (is_quiet-rest (Device s) e later d))

-- what no sync changes, syncs in a row do not
pub kept_by_syncs : {A : Type 0} (f : List Effect → A) → ((pass : ℕ) (how : End) (h : List Effect) → f (Synced pass how ∷ h) ≡ f h) → (more h : List Effect) → list_all is_sync more ≡ true → f (more ++ h) ≡ f h
kept_by_syncs f step [] h all = refl
kept_by_syncs f step (Synced pass how ∷ more) h all = step pass how (more ++ h) ∙ kept_by_syncs f step more h all
kept_by_syncs f step (Did pass call reply ∷ more) h all = cc
kept_by_syncs f step (CameIn pass page from_disk ∷ more) h all = cc
kept_by_syncs f step (WentOut pass page ∷ more) h all = cc
kept_by_syncs f step (Began pass page ∷ more) h all = cc
kept_by_syncs f step (Ended pass page how ∷ more) h all = cc

-- what no call changes, calls in a row do not
pub kept_by_calls : {A : Type 0} (f : List Effect → A) → ((pass : ℕ) (call : Call) (reply : Reply) (h : List Effect) → f (Did pass call reply ∷ h) ≡ f h) → (more h : List Effect) → list_all is_cached_call more ≡ true → f (more ++ h) ≡ f h
kept_by_calls f step [] h all = refl
kept_by_calls f step (Did pass call reply ∷ more) h all = step pass call reply (more ++ h) ∙ kept_by_calls f step more h (and_parts _ _ all).1
kept_by_calls f step (Synced pass how ∷ more) h all = cc
kept_by_calls f step (CameIn pass page from_disk ∷ more) h all = cc
kept_by_calls f step (WentOut pass page ∷ more) h all = cc
kept_by_calls f step (Began pass page ∷ more) h all = cc
kept_by_calls f step (Ended pass page how ∷ more) h all = cc
