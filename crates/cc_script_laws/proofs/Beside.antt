-- Entries that keep the form of a journal of updates: those of calls that change no byte of the stream, and the plain ones.
use Rattle.std.specs.Prelude.{◌≡◌, ℕ, ◌==◌, Bool, true, false, List, [], ◌∷◌, refl, ◌⊎◌, if◌then◌else◌}
use Rattle.std.specs.declared.option.Option.{Option}
use Rattle.std.specs.declared.option.Option.TheVariants.{Some, None}
use Rattle.std.specs.List.{cons_option}
use Rattle.std.proofs.Common.{ap, sym, subst, ◌∙◌, inl, inr, eq-eqb}
use Rattle.std.proofs.lemmas.Bool.{eqb-true}
use Rattle.cc_entry.specs.Place.{File}
use Rattle.cc_entry.specs.declared.call.Call.{Call}
use Rattle.cc_entry.specs.declared.call.Call.TheVariants as call
use Rattle.cc_entry.specs.declared.entry.Entry.{Entry}
use Rattle.cc_entry.specs.declared.entry.Entry.TheVariants as entry
use Rattle.cc_entry.specs.declared.entry.End.{End}
use Rattle.cc_entry.specs.declared.error.CcError.{CcError}
use Rattle.cc_entry.specs.declared.place.FileSizes.{FileSizes}
use Rattle.cc_entry.specs.declared.reply.Outcome.{Outcome}
use Rattle.cc_entry.specs.declared.reply.Outcome.TheVariants as outcome
use Rattle.cc_entry.specs.declared.reply.Reply.{Reply}
use Rattle.cc_laws.proofs.HistorySteps.{history-effect}
use Rattle.cc_laws.proofs.Lists1.{among-placed, among-without}
use Rattle.cc_laws.proofs.ObjectSteps.{objects-opens, objects-closes, objects-stamps, objects-looks, objects-came_in, objects-went_out, objects-began, objects-ended, objects-synced, had_map-closes, had_map-stamps, had_map-looks, had_map-came_in, had_map-went_out, had_map-began, had_map-ended, had_map-synced}
use Rattle.cc_model.specs.Acts.{Act, act_of, file_of, Opens, Closes, Resizes, Writes, Zeroes, Stores, Stamps, Discards, Looks}
use Rattle.cc_model.specs.Filing.{IsFiled}
use Rattle.cc_model.specs.History.{Effect, Did, CameIn, WentOut, Began, Ended, Synced, effect_of, history}
use Rattle.cc_model.specs.Holds.{holds_of}
use Rattle.cc_model.specs.Legal.{stream_history}
use Rattle.cc_model.specs.Numbers.{is_among, without}
use Rattle.cc_model.specs.Objects.{had_map, objects}
use Rattle.cc_model.specs.Passes.{is_mine}
use Rattle.cc_model.specs.Settings.{log_after}
use Rattle.cc_own.proofs.CallsKeep.{filed-stream}
use Rattle.cc_restart_laws.specs.Updates.{IsUpdated, IsUpdatedBy, MayActByUpdate, MayDoByUpdate}
use Rattle.cc_update_laws.specs.Keeping.{HasNoneOpen}
use Rattle.cc_update_laws.proofs.Keeping.{KeepsAll, OpensNone, StaysOpen, is_write, one-pass, open-entry, stays-on, stays-open}
use Rattle.cc_script_laws.proofs.LineWalks.{is_plain, same-pass}

clash : {b : Bool} → b ≡ true → b ≡ false → ⊥
clash a b = cc

-- ---- one entry

pub all-kept : (s log me : ℕ) (e : Entry) (past : List Entry) → is_mine me e ≡ true → is_write s e ≡ false → (IsUpdated s log past → IsUpdatedBy s log past e) → (IsUpdated s log past → StaysOpen s (e ∷ past)) → HasNoneOpen s log me past → KeepsAll s log me past (e ∷ past)
all-kept s log me e past own other by stays none = (
  record {
    during = e ∷ [];
    grew = refl;
    each = (
      λ is updated. record {
        by = by updated;
        finishes = λ it written mine. absurd (none it (one-pass me it.pass e own mine) written);
        stays_open = stays updated;
      },
      tt,
    );
  },
  open-entry s log me e past own other,
)

-- ---- plain entries

plain-write : (s : ℕ) (e : Entry) → is_plain e ≡ true → is_write s e ≡ false
plain-write s (entry.Call pass nth stream it ended) plain = absurd (cc plain)
plain-write s other plain = refl

plain-by : (s log : ℕ) (past : List Entry) (e : Entry) → is_plain e ≡ true → IsUpdatedBy s log past e
plain-by s log past (entry.Call pass nth stream it ended) plain = absurd (cc plain)
plain-by s log past (entry.Append pass handle lsn bytes) plain = absurd (cc plain)
plain-by s log past other plain = tt

-- an effect that opens no object and closes none, where it is one of the stream
abbrev SteadyIf : Bool → Effect → Type 0
SteadyIf b x = (h : List Effect) → (objects (cons_option (if b then Some x else None) h) ≡ objects h) × (had_map (cons_option (if b then Some x else None) h) ≡ had_map h)

steady-if : (b : Bool) (x : Effect) → ((h : List Effect) → (objects (x ∷ h) ≡ objects h) × (had_map (x ∷ h) ≡ had_map h)) → SteadyIf b x
steady-if true x steady h = steady h
steady-if false x steady h = (refl, refl)

plain-steady : (s : ℕ) (e : Entry) → is_plain e ≡ true → OpensNone s e
plain-steady s (entry.Call pass nth stream it ended) plain = absurd (cc plain)
plain-steady s (entry.Append pass handle lsn bytes) plain = absurd (cc plain)
plain-steady s (entry.Record pass stream size valid end) plain = absurd (cc plain)
plain-steady s (entry.PageIn pass page from_disk) plain =
    steady-if (page.stream == s) (CameIn pass page.page from_disk) (λ h. (objects-came_in pass page.page from_disk h, had_map-came_in pass page.page from_disk h))
plain-steady s (entry.PageOut pass page) plain =
    steady-if (page.stream == s) (WentOut pass page.page) (λ h. (objects-went_out pass page.page h, had_map-went_out pass page.page h))
plain-steady s (entry.WriteBegin pass page) plain =
    steady-if (page.stream == s) (Began pass page.page) (λ h. (objects-began pass page.page h, had_map-began pass page.page h))
plain-steady s (entry.WriteEnd pass page end) plain =
    steady-if (page.stream == s) (Ended pass page.page end) (λ h. (objects-ended pass page.page end h, had_map-ended pass page.page end h))
plain-steady s (entry.Sync pass stream end) plain =
    steady-if (stream == s) (Synced pass end) (λ h. (objects-synced pass end h, had_map-synced pass end h))
plain-steady s other plain = λ h. (refl, refl)

pub kept-plain : (s log me : ℕ) (e : Entry) (past : List Entry) → is_plain e ≡ true → is_mine me e ≡ true → HasNoneOpen s log me past → KeepsAll s log me past (e ∷ past)
kept-plain s log me e past plain own none =
    all-kept s log me e past own (plain-write s e plain) (λ updated. plain-by s log past e plain) (λ updated. stays-on s e past (plain-steady s e plain) (stays-open s log past updated)) none

pub kept-record : (s log me stream size valid : ℕ) (end : End) (past : List Entry) → HasNoneOpen s log me past → KeepsAll s log me past (entry.Record me stream size valid end ∷ past)
kept-record s log me stream size valid end past none =
    all-kept s log me (entry.Record me stream size valid end) past (same-pass me) refl (λ updated. tt) (λ updated. stays-on s (entry.Record me stream size valid end) past (λ h. (refl, refl)) (stays-open s log past updated)) none

-- an append to another log, or of what says neither an update of the stream nor a checkpoint
pub kept-append : (s log me handle lsn : ℕ) (bytes : List ℕ) (past : List Entry) → (IsUpdated s log past → IsUpdatedBy s log past (entry.Append me handle lsn bytes)) → HasNoneOpen s log me past → KeepsAll s log me past (entry.Append me handle lsn bytes ∷ past)
kept-append s log me handle lsn bytes past by none =
    all-kept s log me (entry.Append me handle lsn bytes) past (same-pass me) refl by
    (λ updated. stays-on s (entry.Append me handle lsn bytes) past (λ h. (refl, refl)) (stays-open s log past updated)) none

-- ---- calls

-- a file is of another stream
abbrev pub IsApart : ℕ → Option File → Type 0
IsApart s None = ⊥
IsApart s (Some file) = (file.stream == s) ≡ false

-- What a call may do: it changes no byte and no size of the stream, and its first object stays open. Whether another object may be opened
-- hangs on whether the stream has had a map.
abbrev pub ActsBeside : ℕ → Type 0 → Option File → Act → Type 0
ActsBeside s opened named (Opens file sizes quota temporary) = ((file.stream == s) ≡ false) ⊎ ((file.object ≡ 0) ⊎ opened)
ActsBeside s opened named (Closes file truncate) = ((file.stream == s) ≡ false) ⊎ ((file.object == 0) ≡ false)
ActsBeside s opened named (Stamps hold lsn) = Unit {0}
ActsBeside s opened named Looks = Unit {0}
ActsBeside s opened named other = IsApart s named

-- and it gives the stream no other log
abbrev pub SetsBeside : ℕ → ℕ → Call → Type 0
SetsBeside s log (call.SetLog file handle) = ((file.stream == s) ≡ false) ⊎ (handle ≡ log)
SetsBeside s log other = Unit {0}

abbrev pub IsBeside : ℕ → ℕ → Type 0 → Call → Type 0
IsBeside s log opened it = ActsBeside s opened (file_of it) (act_of it) × SetsBeside s log it

some-stream : (a b : ℕ) → Some a ≡ Some b → a ≡ b
some-stream a b is = cc is

-- the file of a call that opens or closes
opens-file : {file : File} {sizes : FileSizes} {quota : ℕ} {temporary : Bool} (it : Call) → act_of it ≡ Opens file sizes quota temporary → file_of it ≡ Some file
opens-file (call.Initialise other given many mark) is = cc is
opens-file (call.PreparePin other at len true exclusive) is = absurd (cc is)
opens-file (call.PreparePin other at len false exclusive) is = absurd (cc is)
opens-file other is = absurd (cc is)

closes-file : {file : File} {truncate : Option ℕ} (it : Call) → act_of it ≡ Closes file truncate → file_of it ≡ Some file
closes-file (call.Uninitialise other to) is = cc is
closes-file (call.PreparePin other at len true exclusive) is = absurd (cc is)
closes-file (call.PreparePin other at len false exclusive) is = absurd (cc is)
closes-file other is = absurd (cc is)

write-other : (s me nth t : ℕ) (it : Call) (ended : Outcome) → (t == s) ≡ false → is_write s (entry.Call me nth (Some t) it ended) ≡ false
write-other s me nth t (call.PinnedWrite hold at bytes) (outcome.Done reply) apart = apart
write-other s me nth t (call.PinnedWrite hold at bytes) (outcome.Failed e) apart = refl
write-other s me nth t other (outcome.Done reply) apart = refl
write-other s me nth t other (outcome.Failed e) apart = refl

write-none : (s me nth : ℕ) (it : Call) (ended : Outcome) → is_write s (entry.Call me nth None it ended) ≡ false
write-none s me nth it ended = refl

write-failed : (s me nth : ℕ) (stream : Option ℕ) (it : Call) (e : CcError) → is_write s (entry.Call me nth stream it (outcome.Failed e)) ≡ false
write-failed s me nth None it e = refl
write-failed s me nth (Some t) (call.PinnedWrite hold at bytes) e = refl
write-failed s me nth (Some t) other e = refl

write-acts : (s me nth t : ℕ) (it : Call) (reply : Reply) → ((at : ℕ) (bytes : List ℕ) → act_of it ≡ Writes at bytes → ⊥) → is_write s (entry.Call me nth (Some t) it (outcome.Done reply)) ≡ false
write-acts s me nth t (call.PinnedWrite hold at bytes) reply none = absurd (none at bytes refl)
write-acts s me nth t other reply none = refl

by-failed : (s log me nth : ℕ) (stream : Option ℕ) (it : Call) (e : CcError) (past : List Entry) → IsUpdatedBy s log past (entry.Call me nth stream it (outcome.Failed e))
by-failed s log me nth None it e past = tt
by-failed s log me nth (Some t) it e past = tt

-- an entry that means nothing to the stream opens none
none-opens : (s : ℕ) (e : Entry) → effect_of e s ≡ None → OpensNone s e
none-opens s e is h = rw is (refl, refl)

apart-effect : (s me nth t : ℕ) (it : Call) (reply : Reply) → (t == s) ≡ false → effect_of (entry.Call me nth (Some t) it (outcome.Done reply)) s ≡ None
apart-effect s me nth t it reply apart = rw apart refl

failed-effect : (s me nth : ℕ) (stream : Option ℕ) (it : Call) (e : CcError) → effect_of (entry.Call me nth stream it (outcome.Failed e)) s ≡ None
failed-effect s me nth None it e = refl
failed-effect s me nth (Some t) it e = refl

same-effect : (s me nth : ℕ) (it : Call) (reply : Reply) → effect_of (entry.Call me nth (Some s) it (outcome.Done reply)) s ≡ Some (Did me it reply)
same-effect s me nth it reply = rw (eq-eqb s s refl) refl

module _ (s log me nth : ℕ) (past : List Entry) where
  -- an entry of a call without an effect on the stream
  kept-none : (stream : Option ℕ) (it : Call) (ended : Outcome) → effect_of (entry.Call me nth stream it ended) s ≡ None → is_write s (entry.Call me nth stream it ended) ≡ false → IsUpdatedBy s log past (entry.Call me nth stream it ended) → HasNoneOpen s log me past → KeepsAll s log me past (entry.Call me nth stream it ended ∷ past)
  kept-none stream it ended effect other by none =
      let e : Entry = entry.Call me nth stream it ended in
      all-kept s log me e past (same-pass me) other (λ updated. by) (λ updated. stays-on s e past (none-opens s e effect) (stays-open s log past updated)) none

  -- a done call of the stream
  module _ (opened : Type 0) (has_opened : opened → had_map (history past s) ≡ true) (it : Call) (reply : Reply) (file_is : (file : File) → file_of it ≡ Some file → file.stream ≡ s) (sets : SetsBeside s log it) where
    abbrev done_entry : Entry
    done_entry = entry.Call me nth (Some s) it (outcome.Done reply)

    log-kept : (it : Call) → ((file : File) → file_of it ≡ Some file → file.stream ≡ s) → SetsBeside s log it → log_after it (Some log) ≡ Some log
    log-kept (call.SetLog file handle) is (inl apart) = absurd (clash (eq-eqb file.stream s (is file refl)) apart)
    log-kept (call.SetLog file handle) is (inr same) = ap (λ (h : ℕ). Some h) same
    log-kept other is sets = refl

    not-apart : (named : Option File) → file_of it ≡ named → IsApart s named → ⊥
    not-apart None is apart = apart
    not-apart (Some file) is apart = clash (eq-eqb file.stream s (file_is file is)) apart

    now : history (done_entry ∷ past) s ≡ Did me it reply ∷ history past s
    now = history-effect done_entry past s (Some (Did me it reply)) (same-effect s me nth it reply)

    may : (a : Act) → act_of it ≡ a → MayActByUpdate s log past me it a → (t : ℕ) → t ≡ s → MayDoByUpdate s log past me it
    may a is acts t same = record { acts = subst (MayActByUpdate s log past me it) (sym is) acts; keeps_log = log-kept it file_is sets }

    -- object 0 stays open, where it was and the call leaves the objects alone
    stays-alone : (objects (Did me it reply ∷ history past s) ≡ objects (history past s)) → (had_map (Did me it reply ∷ history past s) ≡ had_map (history past s)) → IsUpdated s log past → StaysOpen s (done_entry ∷ past)
    stays-alone objs had updated had_now =
        ap (is_among 0) (ap objects now ∙ objs) ∙ stays-open s log past updated (sym had ∙ (sym (ap had_map now) ∙ had_now))

    among-opened : (file : File) → (file.object ≡ 0) ⊎ opened → IsUpdated s log past → is_among 0 (file.object ∷ without file.object (objects (history past s))) ≡ true
    among-opened file (inl zero_is) updated = rw zero_is refl
    among-opened file (inr was) updated = among-placed file.object 0 (objects (history past s)) (stays-open s log past updated (has_opened was))

    kept-did : (a : Act) → act_of it ≡ a → ActsBeside s opened (file_of it) a → HasNoneOpen s log me past → KeepsAll s log me past (done_entry ∷ past)
    kept-did (Opens file sizes quota temporary) is (inl apart) none = absurd (clash (eq-eqb file.stream s (file_is file (opens-file it is))) apart)
    kept-did (Opens file sizes quota temporary) is (inr may_open) none =
        all-kept s log me done_entry past (same-pass me) (write-acts s me nth s it reply (λ at bytes w. absurd (cc (is, w)))) (λ updated same. may (Opens file sizes quota temporary) is tt s same)
        (λ updated had. ap (is_among 0) (ap objects now ∙ objects-opens {file = file} {given = sizes} {quota = quota} {temporary = temporary} me it reply (history past s) is) ∙ among-opened file may_open updated) none
    kept-did (Closes file truncate) is (inl apart) none = absurd (clash (eq-eqb file.stream s (file_is file (closes-file it is))) apart)
    kept-did (Closes file truncate) is (inr other) none =
        all-kept s log me done_entry past (same-pass me) (write-acts s me nth s it reply (λ at bytes w. absurd (cc (is, w)))) (λ updated same. may (Closes file truncate) is tt s same)
        (λ updated had.
        let before : had_map (history past s) ≡ true = sym (had_map-closes {file = file} {truncate = truncate} me it reply (history past s) is) ∙ (sym (ap had_map now) ∙ had) in
        ap (is_among 0) (ap objects now ∙ objects-closes {file = file} {truncate = truncate} me it reply (history past s) is)
        ∙ among-without file.object 0 (objects (history past s)) (stays-open s log past updated before) other) none
    kept-did (Stamps hold lsn) is acts none =
        all-kept s log me done_entry past (same-pass me) (write-acts s me nth s it reply (λ at bytes w. absurd (cc (is, w)))) (λ updated same. may (Stamps hold lsn) is tt s same)
        (stays-alone (objects-stamps {hold = hold} {lsn = lsn} me it reply (history past s) is) (had_map-stamps {hold = hold} {lsn = lsn} me it reply (history past s) is)) none
    kept-did Looks is acts none =
        all-kept s log me done_entry past (same-pass me) (write-acts s me nth s it reply (λ at bytes w. absurd (cc (is, w)))) (λ updated same. may Looks is tt s same)
        (stays-alone (objects-looks me it reply (history past s) is) (had_map-looks me it reply (history past s) is)) none
    kept-did (Resizes allocation size) is acts none = absurd (not-apart (file_of it) refl acts)
    kept-did (Writes at bytes) is acts none = absurd (not-apart (file_of it) refl acts)
    kept-did (Zeroes from to) is acts none = absurd (not-apart (file_of it) refl acts)
    kept-did (Stores page bytes) is acts none = absurd (not-apart (file_of it) refl acts)
    kept-did (Discards span) is acts none = absurd (not-apart (file_of it) refl acts)

-- the entry of a call that failed
pub kept-failed : (s log me nth : ℕ) (past : List Entry) (it : Call) (e : CcError) (stream : Option ℕ) → HasNoneOpen s log me past → KeepsAll s log me past (entry.Call me nth stream it (outcome.Failed e) ∷ past)
kept-failed s log me nth past it e stream none =
    kept-none s log me nth past stream it (outcome.Failed e) (failed-effect s me nth stream it e) (write-failed s me nth stream it e) (by-failed s log me nth stream it e past) none

-- the entry of a call that may stand beside updates
pub kept-call : (s log me nth : ℕ) (past : List Entry) (opened : Type 0) → (opened → had_map (history past s) ≡ true) → (it : Call) (ended : Outcome) (stream : Option ℕ) → IsBeside s log opened it → IsFiled (holds_of (stream_history past stream)) me stream it (file_of it) → HasNoneOpen s log me past →
    KeepsAll s log me past (entry.Call me nth stream it ended ∷ past)
kept-call s log me nth past opened has it (outcome.Failed e) stream beside filed none = kept-failed s log me nth past it e stream none
kept-call s log me nth past opened has it (outcome.Done reply) None beside filed none = kept-none s log me nth past None it (outcome.Done reply) refl refl tt none
kept-call s log me nth past opened has it (outcome.Done reply) (Some t) beside filed none = go (t == s) refl
  where
    go : (b : Bool) → (t == s) ≡ b → KeepsAll s log me past (entry.Call me nth (Some t) it (outcome.Done reply) ∷ past)
    go false apart =
        kept-none s log me nth past (Some t) it (outcome.Done reply) (apart-effect s me nth t it reply apart) (write-other s me nth t it (outcome.Done reply) apart)
        (λ same. absurd (clash (eq-eqb t s same) apart)) none
    go true is =
        let same : t ≡ s = eqb-true t s is in
        subst (λ (n : ℕ). KeepsAll s log me past (entry.Call me nth (Some n) it (outcome.Done reply) ∷ past)) (sym same)
        (kept-did s log me nth past opened has it reply
        (λ file named. sym (some-stream t file.stream (filed-stream (holds_of (stream_history past (Some t))) me (Some t) it file named filed)) ∙ same) beside.1 (act_of it) refl beside.0 none)
