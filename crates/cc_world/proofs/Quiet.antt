-- Entries of one stream need no turn of another stream, nor of a log. Entries of one log need no turn of a stream, nor of
-- another log. Those of the journal alone need no turn of a disk or a log, and mean nothing to a stream. What is placed at
-- once is one event.
use Rattle.std.specs.Prelude.{◌≡◌, ℕ, true, false, ◌==◌, List, [], ◌∷◌, ◌++◌, refl}
use Rattle.std.specs.declared.option.Option.{Option}
use Rattle.std.specs.declared.option.Option.TheVariants.{Some, None}
use Rattle.std.proofs.Common.{ap, ◌∙◌}
use Rattle.cc_entry.specs.declared.call.Call.{Call}
use Rattle.cc_entry.specs.declared.call.Call.TheVariants as call
use Rattle.cc_entry.specs.declared.entry.Entry.{Entry}
use Rattle.cc_entry.specs.declared.entry.Entry.TheVariants as entry
use Rattle.cc_entry.specs.declared.reply.Outcome.{Outcome}
use Rattle.cc_entry.specs.declared.reply.Outcome.TheVariants as outcome
use Rattle.cc_laws.proofs.HistorySteps.{history-no_effect}
use Rattle.cc_laws.proofs.TurnSteps.{is_quiet-none, is_quiet-unneeded}
use Rattle.cc_book.specs.Book.{BookState, BookStands}
use Rattle.cc_book.proofs.BookSteps.{goes_on_none}
use Rattle.cc_model.specs.History.{effect_of, history}
use Rattle.cc_model.specs.Turns.{Device, Book, Log, call_needs, needs, is_quiet}
use Rattle.cc_turns.specs.Takes.{IsOneEvent}

-- an entry is of a call of the stream, of a page of it, or of a sync of its disk
abbrev pub IsOn : ℕ → Entry → Type 0
IsOn s (entry.Call pass nth stream call ended) = stream ≡ Some s
IsOn s (entry.PageIn pass page from_disk) = page.stream ≡ s
IsOn s (entry.PageOut pass page) = page.stream ≡ s
IsOn s (entry.FillFailed pass page) = page.stream ≡ s
IsOn s (entry.WriteBegin pass page) = page.stream ≡ s
IsOn s (entry.WriteEnd pass page how) = page.stream ≡ s
IsOn s (entry.Sync pass stream how) = stream ≡ s
IsOn s other = ⊥

-- Entries are one event, which needs no turn of another stream, nor of a log.
pub record AreWithin (s : ℕ) (added : List Entry) : Type 0 where
  pub device : (t : ℕ) → (t == s) ≡ false → is_quiet (Device t) added ≡ true
  pub book : (t : ℕ) → (t == s) ≡ false → is_quiet (Book t) added ≡ true
  pub log : (handle : ℕ) → is_quiet (Log handle) added ≡ true
  pub event : IsOneEvent added

call-device : (s t : ℕ) (it : Call) (ended : Outcome) → (t == s) ≡ false → call_needs (Some s) it ended (Device t) ≡ false
call-device s t (call.NcStore file page bytes) (outcome.Done reply) away = away
call-device s t (call.NcRead file page) (outcome.Done reply) away = away
call-device s t (call.Discard file span) (outcome.Done reply) away = away
call-device s t other ended away = refl

call-book : (s t : ℕ) (it : Call) (ended : Outcome) → (t == s) ≡ false → call_needs (Some s) it ended (Book t) ≡ false
call-book s t (call.NcStore file page bytes) (outcome.Done reply) away = rw away refl
call-book s t (call.NcRead file page) (outcome.Done reply) away = rw away refl
call-book s t (call.Discard file span) (outcome.Done reply) away = rw away refl
call-book s t other ended away = away

call-log : (s handle : ℕ) (it : Call) (ended : Outcome) → call_needs (Some s) it ended (Log handle) ≡ false
call-log s handle (call.NcStore file page bytes) (outcome.Done reply) = refl
call-log s handle (call.NcRead file page) (outcome.Done reply) = refl
call-log s handle (call.Discard file span) (outcome.Done reply) = refl
call-log s handle other ended = refl

device-away : (e : Entry) (s t : ℕ) → IsOn s e → (t == s) ≡ false → needs e (Device t) ≡ false
device-away (entry.Call pass nth stream it ended) s t on away = rw on (call-device s t it ended away)
device-away (entry.PageIn pass page from_disk) s t on away = ap (λ (n : ℕ). t == n) on ∙ away
device-away (entry.PageOut pass page) s t on away = ap (λ (n : ℕ). t == n) on ∙ away
device-away (entry.FillFailed pass page) s t on away = ap (λ (n : ℕ). t == n) on ∙ away
device-away (entry.WriteBegin pass page) s t on away = ap (λ (n : ℕ). t == n) on ∙ away
device-away (entry.WriteEnd pass page how) s t on away = ap (λ (n : ℕ). t == n) on ∙ away
device-away (entry.Sync pass stream how) s t on away = ap (λ (n : ℕ). t == n) on ∙ away
device-away other s t on away = absurd on

book-away : (e : Entry) (s t : ℕ) → IsOn s e → (t == s) ≡ false → needs e (Book t) ≡ false
book-away (entry.Call pass nth stream it ended) s t on away = rw on (call-book s t it ended away)
book-away (entry.PageIn pass page from_disk) s t on away = rw (ap (λ (n : ℕ). t == n) on ∙ away) refl
book-away (entry.PageOut pass page) s t on away = rw (ap (λ (n : ℕ). t == n) on ∙ away) refl
book-away (entry.FillFailed pass page) s t on away = refl
book-away (entry.WriteBegin pass page) s t on away = rw (ap (λ (n : ℕ). t == n) on ∙ away) refl
book-away (entry.WriteEnd pass page how) s t on away = rw (ap (λ (n : ℕ). t == n) on ∙ away) refl
book-away (entry.Sync pass stream how) s t on away = refl
book-away other s t on away = absurd on

log-away : (e : Entry) (s handle : ℕ) → IsOn s e → needs e (Log handle) ≡ false
log-away (entry.Call pass nth stream it ended) s handle on = rw on (call-log s handle it ended)
log-away (entry.PageIn pass page from_disk) s handle on = refl
log-away (entry.PageOut pass page) s handle on = refl
log-away (entry.FillFailed pass page) s handle on = refl
log-away (entry.WriteBegin pass page) s handle on = refl
log-away (entry.WriteEnd pass page how) s handle on = refl
log-away (entry.Sync pass stream how) s handle on = refl
log-away other s handle on = absurd on

pub within-none : (s : ℕ) → AreWithin s []
within-none s = record {
  device = λ t away. is_quiet-none (Device t);
  book = λ t away. is_quiet-none (Book t);
  log = λ handle. is_quiet-none (Log handle);
  event = tt;
}

pub within-more : (s : ℕ) (e : Entry) (added : List Entry) → IsOn s e → IsOneEvent (e ∷ added) → AreWithin s added → AreWithin s (e ∷ added)
within-more s e added on event within = record {
  device = λ t away. is_quiet-unneeded (Device t) e added (device-away e s t on away) ∙ within.device t away;
  book = λ t away. is_quiet-unneeded (Book t) e added (book-away e s t on away) ∙ within.book t away;
  log = λ handle. is_quiet-unneeded (Log handle) e added (log-away e s handle on) ∙ within.log handle;
  event = event;
}

pub within-one : (s : ℕ) (e : Entry) → IsOn s e → AreWithin s (e ∷ [])
within-one s e on = within-more s e [] on tt (within-none s)

-- an entry is of this log
abbrev pub IsOnLog : ℕ → Entry → Type 0
IsOnLog n (entry.Append pass handle lsn bytes) = handle ≡ n
IsOnLog n (entry.Flushed pass handle to) = handle ≡ n
IsOnLog n (entry.LogFailed pass handle) = handle ≡ n
IsOnLog n other = ⊥

-- Entries are one event, which needs no turn of a stream, nor of another log.
pub record AreOnLog (n : ℕ) (added : List Entry) : Type 0 where
  pub device : (s : ℕ) → is_quiet (Device s) added ≡ true
  pub book : (s : ℕ) → is_quiet (Book s) added ≡ true
  pub log : (handle : ℕ) → (handle == n) ≡ false → is_quiet (Log handle) added ≡ true
  pub event : IsOneEvent added

log-device : (e : Entry) (n s : ℕ) → IsOnLog n e → needs e (Device s) ≡ false
log-device (entry.Append pass handle lsn bytes) n s on = refl
log-device (entry.Flushed pass handle to) n s on = refl
log-device (entry.LogFailed pass handle) n s on = refl
log-device other n s on = absurd on

log-book : (e : Entry) (n s : ℕ) → IsOnLog n e → needs e (Book s) ≡ false
log-book (entry.Append pass handle lsn bytes) n s on = refl
log-book (entry.Flushed pass handle to) n s on = refl
log-book (entry.LogFailed pass handle) n s on = refl
log-book other n s on = absurd on

log-other : (e : Entry) (n handle : ℕ) → IsOnLog n e → (handle == n) ≡ false → needs e (Log handle) ≡ false
log-other (entry.Append pass own lsn bytes) n handle on away = ap (λ (m : ℕ). handle == m) on ∙ away
log-other (entry.Flushed pass own to) n handle on away = ap (λ (m : ℕ). handle == m) on ∙ away
log-other (entry.LogFailed pass own) n handle on away = ap (λ (m : ℕ). handle == m) on ∙ away
log-other other n handle on away = absurd on

pub on-log-none : (n : ℕ) → AreOnLog n []
on-log-none n = record {
  device = λ s. is_quiet-none (Device s);
  book = λ s. is_quiet-none (Book s);
  log = λ handle away. is_quiet-none (Log handle);
  event = tt;
}

pub on-log-one : (n : ℕ) (e : Entry) → IsOnLog n e → AreOnLog n (e ∷ [])
on-log-one n e on = record {
  device = λ s. is_quiet-unneeded (Device s) e [] (log-device e n s on) ∙ is_quiet-none (Device s);
  book = λ s. is_quiet-unneeded (Book s) e [] (log-book e n s on) ∙ is_quiet-none (Book s);
  log = λ handle away. is_quiet-unneeded (Log handle) e [] (log-other e n handle on away) ∙ is_quiet-none (Log handle);
  event = tt;
}

-- an entry is of the journal alone: of a scan, a deferral or a post, or of a call that is filed under no stream
abbrev pub IsAlone : Entry → Type 0
IsAlone (entry.Call pass nth stream call ended) = stream ≡ None
IsAlone (entry.Defer pass id file pages retrying) = Unit {0}
IsAlone (entry.Posted id) = Unit {0}
IsAlone (entry.Scan pass picked) = Unit {0}
IsAlone other = ⊥

-- Entries are one event, which needs no turn of a disk, nor of a log, and leaves the history of each stream, and what its
-- book stands for.
pub record AreAlone (added : List Entry) : Type 0 where
  pub device : (s : ℕ) → is_quiet (Device s) added ≡ true
  pub log : (handle : ℕ) → is_quiet (Log handle) added ≡ true
  pub same : (past : List Entry) (s : ℕ) → history (added ++ past) s ≡ history past s
  pub book : (opening : Option (ℕ → List ℕ)) (past : List Entry) (b : BookState) → BookStands opening past b → BookStands opening (added ++ past) b
  pub event : IsOneEvent added

alone-device : (e : Entry) (s : ℕ) → IsAlone e → needs e (Device s) ≡ false
alone-device (entry.Call pass nth stream it ended) s alone = rw alone refl
alone-device (entry.Defer pass id file pages retrying) s alone = refl
alone-device (entry.Posted id) s alone = refl
alone-device (entry.Scan pass picked) s alone = refl
alone-device other s alone = absurd alone

alone-log : (e : Entry) (handle : ℕ) → IsAlone e → needs e (Log handle) ≡ false
alone-log (entry.Call pass nth stream it ended) handle alone = rw alone refl
alone-log (entry.Defer pass id file pages retrying) handle alone = refl
alone-log (entry.Posted id) handle alone = refl
alone-log (entry.Scan pass picked) handle alone = refl
alone-log other handle alone = absurd alone

alone-effect : (e : Entry) (s : ℕ) → IsAlone e → effect_of e s ≡ None
alone-effect (entry.Call pass nth stream it ended) s alone = rw alone refl
alone-effect (entry.Defer pass id file pages retrying) s alone = refl
alone-effect (entry.Posted id) s alone = refl
alone-effect (entry.Scan pass picked) s alone = refl
alone-effect other s alone = absurd alone

pub alone-none : AreAlone []
alone-none = record {
  device = λ s. is_quiet-none (Device s);
  log = λ handle. is_quiet-none (Log handle);
  same = λ past s. refl;
  book = λ opening past b stands. stands;
  event = tt;
}

pub alone-one : (e : Entry) → IsAlone e → AreAlone (e ∷ [])
alone-one e alone = record {
  device = λ s. is_quiet-unneeded (Device s) e [] (alone-device e s alone) ∙ is_quiet-none (Device s);
  log = λ handle. is_quiet-unneeded (Log handle) e [] (alone-log e handle alone) ∙ is_quiet-none (Log handle);
  same = λ past s. history-no_effect e past s (alone-effect e s alone);
  book = λ opening past b stands. goes_on_none e past b opening (alone-effect e b.stream alone) stands;
  event = tt;
}
