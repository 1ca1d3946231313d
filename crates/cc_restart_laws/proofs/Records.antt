-- What is known of an update that has its record: its entry in the log, and its pin, which stays as it is.
use Rattle.std.specs.Prelude.{◌≡◌, ℕ, suc, ◌≤◌, ◌⊎◌, true, ◌==◌, List, [], ◌∷◌, ◌++◌, length, refl}
use Rattle.std.specs.List.{cons_option}
use Rattle.std.specs.declared.option.Option.{Option}
use Rattle.std.specs.declared.option.Option.TheVariants.{Some, None}
use Rattle.std.proofs.Common.{ap, sym, subst, ◌∙◌, inl, inr, arith}
use Rattle.std.proofs.lemmas.Bool.{eq-eqb, and_from, or_left}
use Rattle.cc_entry.specs.Kinds.{is_pin}
use Rattle.cc_entry.specs.Place.{Range}
use Rattle.cc_entry.specs.Pages.{has_page, whole_range}
use Rattle.cc_entry.specs.declared.call.Call.{Call}
use Rattle.cc_entry.specs.declared.call.Call.TheVariants as call
use Rattle.cc_entry.specs.declared.entry.Entry.{Entry}
use Rattle.cc_entry.specs.declared.entry.Entry.TheVariants as entry
use Rattle.cc_entry.specs.declared.reply.Outcome.TheVariants as outcome
use Rattle.cc_entry.specs.declared.reply.Reply.{Reply}
use Rattle.cc_effects.specs.Moments.{Others}
use Rattle.cc_laws.proofs.HistorySteps.{history-effect, history-log_append}
use Rattle.cc_laws.proofs.Lists1.{any-found}
use Rattle.cc_laws.proofs.LogSteps.{floor_of-entry, flushed_to-entry}
use Rattle.cc_laws.proofs.SettingEffects.{log_of-came_in, log_of-went_out, log_of-began, log_of-ended, log_of-synced}
use Rattle.cc_laws.proofs.SettingSteps.{log_of-done}
use Rattle.cc_model.specs.Good.{IsGoodSoFar}
use Rattle.cc_model.specs.History.{Effect, Did, CameIn, WentOut, Began, Ended, Synced, effect_of, history}
use Rattle.cc_model.specs.Holds.{Hold, holds_of, range_held}
use Rattle.cc_model.specs.Logs.{floor_of, flushed_to, reach_of}
use Rattle.cc_model.specs.Settings.{log_after, log_of}
use Rattle.cc_model.specs.Setup.{Setup}
use Rattle.cc_model.specs.Stamps.{is_unstamped, owes_stamp}
use Rattle.cc_own.proofs.OwnHolds.{done-changes, others-keep, own-keeps}
use Rattle.cc_own.specs.Own.{HasHold, hold_after}
use Rattle.cc_redo.specs.Reading.{said_by}
use Rattle.cc_redo.specs.declared.record.LogRecord.{LogRecord}
use Rattle.cc_redo.specs.declared.record.LogRecord.TheVariants.{Update}
use Rattle.cc_restart_laws.proofs.Entries.{did-entry, good-tail, next-lsn, updated-head, updated-rest, updated-tail}
use Rattle.cc_restart_laws.specs.Updates.{HasRecord, UpdateHasWritten, IsPinned, IsUpdated, IsUpdatedBy, MayAppend, MayLogRecord, Updating}

-- the bytes of an update
abbrev pub range_of : Updating → Range
range_of it = whole_range it.at (length it.bytes)

-- ---- appends

-- the log was given an entry of this LSN and these bytes
abbrev pub IsAppended : ℕ → ℕ → List ℕ → List Entry → Type 0
IsAppended log lsn bytes [] = ⊥
IsAppended log lsn bytes (e ∷ past) = ((pass : ℕ) × (e ≡ entry.Append pass log lsn bytes)) ⊎ IsAppended log lsn bytes past

pub appended-more : (log lsn : ℕ) (bytes : List ℕ) (later past : List Entry) → IsAppended log lsn bytes past → IsAppended log lsn bytes (later ++ past)
appended-more log lsn bytes [] past is = is
appended-more log lsn bytes (e ∷ later) past is = inr (appended-more log lsn bytes later past is)

pub floor-grows : (log : ℕ) (later past : List Entry) → floor_of past log ≤ floor_of (later ++ past) log
floor-grows log [] past = omega arith
floor-grows log (e ∷ later) past = let rest = floor-grows log later past in let step = floor_of-entry e (later ++ past) log in omega arith

pub flushed-grows : (log : ℕ) (later past : List Entry) → flushed_to past log ≤ flushed_to (later ++ past) log
flushed-grows log [] past = omega arith
flushed-grows log (e ∷ later) past = let rest = flushed-grows log later past in let step = flushed_to-entry e (later ++ past) log in omega arith

reach-append : (pass log lsn : ℕ) (bytes : List ℕ) → reach_of log (entry.Append pass log lsn bytes) ≡ lsn
reach-append pass log lsn bytes = rw (eq-eqb log log refl) refl

pub appended-floor : (log lsn : ℕ) (bytes : List ℕ) (past : List Entry) → IsAppended log lsn bytes past → lsn ≤ floor_of past log
appended-floor log lsn bytes [] is = absurd is
appended-floor log lsn bytes (e ∷ past) (inl here) =
    let reached : reach_of log e ≡ lsn = ap (λ (x : Entry). reach_of log x) here.1 ∙ reach-append here.0 log lsn bytes in
    let step = floor_of-entry e past log in
    omega arith
appended-floor log lsn bytes (e ∷ past) (inr before) = let rest = appended-floor log lsn bytes past before in let step = floor_of-entry e past log in omega arith

next-of : (u : Setup) (e : Entry) (past : List Entry) (pass log lsn : ℕ) (bytes : List ℕ) → IsGoodSoFar u (e ∷ past) → e ≡ entry.Append pass log lsn bytes → lsn ≡ suc (floor_of past log)
next-of u e past pass log lsn bytes good is = (next-lsn u past pass log lsn bytes (subst (λ (x : Entry). IsGoodSoFar u (x ∷ past)) is good)).next

append-bytes : (p q log lsn : ℕ) (b c : List ℕ) (e : Entry) → e ≡ entry.Append p log lsn b → e ≡ entry.Append q log lsn c → b ≡ c
append-bytes p q log lsn b c e one other = parts (sym one ∙ other)
  where
    parts : entry.Append p log lsn b ≡ entry.Append q log lsn c → b ≡ c
    parts is = cc

-- an LSN is given once
pub appended-once : (u : Setup) (log lsn : ℕ) (b c : List ℕ) (past : List Entry) → IsGoodSoFar u past → IsAppended log lsn b past → IsAppended log lsn c past → b ≡ c
appended-once u log lsn b c [] good one other = absurd one
appended-once u log lsn b c (e ∷ past) good (inl here) (inl there) = append-bytes here.0 there.0 log lsn b c e here.1 there.1
appended-once u log lsn b c (e ∷ past) good (inl here) (inr before) =
    let next = next-of u e past here.0 log lsn b good here.1 in let least = appended-floor log lsn c past before in absurd (omega arith)
appended-once u log lsn b c (e ∷ past) good (inr before) (inl there) =
    let next = next-of u e past there.0 log lsn c good there.1 in let least = appended-floor log lsn b past before in absurd (omega arith)
appended-once u log lsn b c (e ∷ past) good (inr before) (inr others) = appended-once u log lsn b c past (good-tail u e past good) before others

-- an LSN that a past reaches was given in it
pub appended-before : (u : Setup) (log lsn : ℕ) (bytes : List ℕ) (later past : List Entry) → IsGoodSoFar u (later ++ past) → IsAppended log lsn bytes (later ++ past) → lsn ≤ floor_of past log →
    IsAppended log lsn bytes past
appended-before u log lsn bytes [] past good is least = is
appended-before u log lsn bytes (e ∷ later) past good (inl here) least =
    let next = next-of u e (later ++ past) here.0 log lsn bytes good here.1 in let grows = floor-grows log later past in absurd (omega arith)
appended-before u log lsn bytes (e ∷ later) past good (inr before) least = appended-before u log lsn bytes later past (good-tail u e (later ++ past) good) before least

pub recorded-appended : (s log : ℕ) (it : Updating) (past : List Entry) (k : HasRecord s log it past) → IsAppended log it.lsn k.spelled past
recorded-appended s log it past k =
    subst (λ (l : List Entry). IsAppended log it.lsn k.spelled l) (sym k.idle.grew)
    (appended-more log it.lsn k.spelled k.idle.during (entry.Append it.pass log it.lsn k.spelled ∷ k.front) (inl (it.pass, refl)))

-- ---- the pin of an update

-- the pin of an update is open
pub record IsHeldPin (s : ℕ) (it : Updating) (past : List Entry) : Type 0 where
  pub hold : Hold
  pub has : HasHold it.pass s it.hold hold past
  pub kind : is_pin hold.kind ≡ true
  pub alone : hold.exclusive ≡ true
  pub from : hold.at ≡ it.at
  pub long : hold.len ≡ length it.bytes

pub held-range : (s : ℕ) (it : Updating) (past : List Entry) (k : IsHeldPin s it past) → range_held k.hold ≡ range_of it
held-range s it past k = ap (λ (n : ℕ). whole_range n k.hold.len) k.from ∙ ap (λ (n : ℕ). whole_range it.at n) k.long

pub held-page : (s : ℕ) (it : Updating) (past : List Entry) (p : ℕ) (k : IsHeldPin s it past) → has_page (range_of it) p ≡ true → has_page (range_held k.hold) p ≡ true
held-page s it past p k in_range = ap (λ (r : Range). has_page r p) (held-range s it past k) ∙ in_range

held-begun : (u : Setup) (s log : ℕ) (it : Updating) (spelled : List ℕ) (front : List Entry) → IsGoodSoFar u (entry.Append it.pass log it.lsn spelled ∷ front) →
    IsPinned s it.pass it.hold it.at (length it.bytes) front → IsHeldPin s it (entry.Append it.pass log it.lsn spelled ∷ front)
held-begun u s log it spelled front good k = record {
  hold = k.it;
  has = own-keeps u it.pass s it.hold k.it (entry.Append it.pass log it.lsn spelled) front good refl (record { found = k.found; mine = k.mine });
  kind = k.kind;
  alone = k.alone;
  from = k.from;
  long = k.long;
}

held-later : (u : Setup) (s : ℕ) (it : Updating) (during past : List Entry) → IsGoodSoFar u (during ++ past) → Others it.pass during → IsHeldPin s it past → IsHeldPin s it (during ++ past)
held-later u s it during past good others k = record {
  hold = k.hold;
  has = others-keep u it.pass s it.hold k.hold during past good others k.has;
  kind = k.kind;
  alone = k.alone;
  from = k.from;
  long = k.long;
}

pub good-rest' : (u : Setup) (later past : List Entry) → IsGoodSoFar u (later ++ past) → IsGoodSoFar u past
good-rest' u [] past good = good
good-rest' u (e ∷ later) past good = good-rest' u later past (good-tail u e (later ++ past) good)

pub held-on : (u : Setup) (s log : ℕ) (it : Updating) (spelled : List ℕ) (during front : List Entry) → IsGoodSoFar u (during ++ entry.Append it.pass log it.lsn spelled ∷ front) → Others it.pass during →
    IsPinned s it.pass it.hold it.at (length it.bytes) front → IsHeldPin s it (during ++ entry.Append it.pass log it.lsn spelled ∷ front)
held-on u s log it spelled during front good others k =
    held-later u s it during (entry.Append it.pass log it.lsn spelled ∷ front) good others
    (held-begun u s log it spelled front (good-rest' u during (entry.Append it.pass log it.lsn spelled ∷ front) good) k)

pub held-of : (u : Setup) (s log : ℕ) (it : Updating) (past : List Entry) → IsGoodSoFar u past → HasRecord s log it past → IsHeldPin s it past
held-of u s log it past good k =
    subst (λ (l : List Entry). IsHeldPin s it l) (sym k.idle.grew)
    (held-on u s log it k.spelled k.idle.during k.front (subst (λ (l : List Entry). IsGoodSoFar u l) k.idle.grew good) k.idle.others k.pinned)

-- behind the write the pin owes a stamp to its pages
pub record IsOwing (s : ℕ) (it : Updating) (past : List Entry) : Type 0 where
  pub held : IsHeldPin s it past
  pub owes : (p : ℕ) → has_page (range_of it) p ≡ true → owes_stamp p held.hold ≡ true

abbrev written_hold : Updating → Hold → Hold
written_hold it hold = record hold { owed = range_of it ∷ hold.owed }

after-write : (it : Updating) (hold : Hold) → hold_after it.hold (call.PinnedWrite it.hold it.at it.bytes) hold ≡ Some (written_hold it hold)
after-write it hold = rw (eq-eqb it.hold it.hold refl) refl

owing-begun : (u : Setup) (s nth : ℕ) (it : Updating) (reply : Reply) (front : List Entry) →
    IsGoodSoFar u (entry.Call it.pass nth (Some s) (call.PinnedWrite it.hold it.at it.bytes) (outcome.Done reply) ∷ front) → IsHeldPin s it front →
    IsOwing s it (entry.Call it.pass nth (Some s) (call.PinnedWrite it.hold it.at it.bytes) (outcome.Done reply) ∷ front)
owing-begun u s nth it reply front good k = record {
  held = record {
    hold = written_hold it k.hold;
    has = done-changes u it.pass s it.hold k.hold (written_hold it k.hold) it.pass nth (call.PinnedWrite it.hold it.at it.bytes) reply front good k.has (after-write it k.hold);
    kind = k.kind;
    alone = k.alone;
    from = k.from;
    long = k.long;
  };
  owes = λ p in_range. and_from (is_pin k.hold.kind) _ k.kind (or_left (has_page (range_of it) p) _ in_range);
}

owing-later : (u : Setup) (s : ℕ) (it : Updating) (during past : List Entry) → IsGoodSoFar u (during ++ past) → Others it.pass during → IsOwing s it past → IsOwing s it (during ++ past)
unfolding held-later
owing-later u s it during past good others k = record { held = held-later u s it during past good others k.held; owes = k.owes }

pub owing-of : (u : Setup) (s log : ℕ) (it : Updating) (past : List Entry) → IsGoodSoFar u past → UpdateHasWritten s log it past → IsOwing s it past
owing-of u s log it past good k =
    let wrote : Entry = entry.Call it.pass k.nth (Some s) (call.PinnedWrite it.hold it.at it.bytes) (outcome.Done k.reply) in
    let whole : IsGoodSoFar u (k.idle.during ++ wrote ∷ k.front) = subst (λ (l : List Entry). IsGoodSoFar u l) k.idle.grew good in
    let there : IsGoodSoFar u (wrote ∷ k.front) = good-rest' u k.idle.during (wrote ∷ k.front) whole in
    subst (λ (l : List Entry). IsOwing s it l) (sym k.idle.grew)
    (owing-later u s it k.idle.during (wrote ∷ k.front) whole k.idle.others
    (owing-begun u s k.nth it k.reply k.front there (held-of u s log it k.front (good-tail u wrote k.front there) k.recorded)))

pub unstamped-of : (u : Setup) (s log : ℕ) (it : Updating) (past : List Entry) (p : ℕ) → IsGoodSoFar u past → UpdateHasWritten s log it past → has_page (range_of it) p ≡ true → is_unstamped (history past s) p ≡ true
unstamped-of u s log it past p good k in_range =
    let owing = owing-of u s log it past good k in
    any-found (λ (hold : Hold). hold.id == it.hold) (owes_stamp p) (holds_of (history past s)) owing.held.hold owing.held.has.found (owing.owes p in_range)

-- ---- the stream's log

log-step : (s log : ℕ) (e : Entry) (past : List Entry) (o : Option Effect) → effect_of e s ≡ o → IsUpdated s log (e ∷ past) → log_of (history past s) ≡ Some log → log_of (cons_option o (history past s)) ≡ Some log
log-step s log e past None is updated so = so
log-step s log e past (Some (Did pass it reply)) is updated so =
    let k = did-entry e s pass it reply is in
    let by : IsUpdatedBy s log past (entry.Call pass k.nth (Some s) it (outcome.Done reply)) = subst (λ (x : Entry). IsUpdatedBy s log past x) k.is (updated-head s log e past updated).by in
    log_of-done pass it reply (history past s) ∙ (ap (λ (x : Option ℕ). log_after it x) so ∙ (by refl).keeps_log)
log-step s log e past (Some (CameIn pass page from_disk)) is updated so = log_of-came_in pass page from_disk (history past s) ∙ so
log-step s log e past (Some (WentOut pass page)) is updated so = log_of-went_out pass page (history past s) ∙ so
log-step s log e past (Some (Began pass page)) is updated so = log_of-began pass page (history past s) ∙ so
log-step s log e past (Some (Ended pass page how)) is updated so = log_of-ended pass page how (history past s) ∙ so
log-step s log e past (Some (Synced pass how)) is updated so = log_of-synced pass how (history past s) ∙ so

pub log-stays : (s log : ℕ) (later past : List Entry) → IsUpdated s log (later ++ past) → log_of (history past s) ≡ Some log → log_of (history (later ++ past) s) ≡ Some log
log-stays s log [] past updated so = so
log-stays s log (e ∷ later) past updated so =
    ap log_of (history-effect e (later ++ past) s (effect_of e s) refl)
    ∙ log-step s log e (later ++ past) (effect_of e s) refl updated (log-stays s log later past (updated-tail s log e (later ++ past) updated) so)

-- it is this one, where it has one: a stream that changes by updates alone is given no other
abbrev IsOneLog : ℕ → Option ℕ → Type 0
IsOneLog log o = (handle : ℕ) → o ≡ Some handle → handle ≡ log

some-both : (a b c : ℕ) → Some a ≡ Some b → Some a ≡ Some c → c ≡ b
some-both a b c one other = cc

after-one : (log : ℕ) (it : Call) (o : Option ℕ) → log_after it (Some log) ≡ Some log → IsOneLog log o → IsOneLog log (log_after it o)
after-one log (call.SetLog file handle) o keeps one = λ other is. some-both handle log other keeps is
after-one log other o keeps one = one

one-step : (s log : ℕ) (e : Entry) (past : List Entry) (o : Option Effect) → effect_of e s ≡ o → IsUpdated s log (e ∷ past) → IsOneLog log (log_of (history past s)) → IsOneLog log (log_of (cons_option o (history past s)))
one-step s log e past None is updated one = one
one-step s log e past (Some (Did pass it reply)) is updated one =
    let k = did-entry e s pass it reply is in
    let by : IsUpdatedBy s log past (entry.Call pass k.nth (Some s) it (outcome.Done reply)) = subst (λ (x : Entry). IsUpdatedBy s log past x) k.is (updated-head s log e past updated).by in
    subst (IsOneLog log) (sym (log_of-done pass it reply (history past s))) (after-one log it (log_of (history past s)) (by refl).keeps_log one)
one-step s log e past (Some (CameIn pass page from_disk)) is updated one = subst (IsOneLog log) (sym (log_of-came_in pass page from_disk (history past s))) one
one-step s log e past (Some (WentOut pass page)) is updated one = subst (IsOneLog log) (sym (log_of-went_out pass page (history past s))) one
one-step s log e past (Some (Began pass page)) is updated one = subst (IsOneLog log) (sym (log_of-began pass page (history past s))) one
one-step s log e past (Some (Ended pass page how)) is updated one = subst (IsOneLog log) (sym (log_of-ended pass page how (history past s))) one
one-step s log e past (Some (Synced pass how)) is updated one = subst (IsOneLog log) (sym (log_of-synced pass how (history past s))) one

none-logged : (s handle : ℕ) → log_of (history [] s) ≡ Some handle → ⊥
unfolding history log_of
none-logged s handle is = cc is

pub log-one : (s log : ℕ) (past : List Entry) → IsUpdated s log past → IsOneLog log (log_of (history past s))
log-one s log [] updated = λ handle is. absurd (none-logged s handle is)
log-one s log (e ∷ past) updated =
    subst (IsOneLog log) (sym (ap log_of (history-effect e past s (effect_of e s) refl)))
    (one-step s log e past (effect_of e s) refl updated (log-one s log past (updated-tail s log e past updated)))

-- an append of an update's record is one that may be
pub may-append : (s log pass lsn at : ℕ) (bytes spelled : List ℕ) (front : List Entry) → IsUpdated s log (entry.Append pass log lsn spelled ∷ front) → said_by spelled ≡ Some (Update s at bytes) →
    MayAppend s log pass at bytes front
may-append s log pass lsn at bytes spelled front updated said =
    let may : MayLogRecord s log pass (said_by spelled) front = (updated-head s log (entry.Append pass log lsn spelled) front updated).by refl in
    (subst (λ (o : Option LogRecord). MayLogRecord s log pass o front) said may) refl

pub recorded-log : (s log : ℕ) (it : Updating) (past : List Entry) → IsUpdated s log past → HasRecord s log it past → log_of (history past s) ≡ Some log
recorded-log s log it past updated k =
    let appended : Entry = entry.Append it.pass log it.lsn k.spelled in
    let whole : IsUpdated s log (k.idle.during ++ appended ∷ k.front) = subst (λ (l : List Entry). IsUpdated s log l) k.idle.grew updated in
    let may = may-append s log it.pass it.lsn it.at it.bytes k.spelled k.front (updated-rest s log k.idle.during (appended ∷ k.front) whole) k.said in
    ap (λ (l : List Entry). log_of (history l s)) k.idle.grew
    ∙ log-stays s log k.idle.during (appended ∷ k.front) whole (ap log_of (history-log_append it.pass log it.lsn k.spelled k.front s) ∙ may.logged)
