-- Which of the updates that a pass recorded are set dirty behind its lines, whatever other passes record meanwhile.
use Rattle.std.specs.Prelude.{◌≡◌, ℕ, ◌^◌, ◌==◌, ◌&&◌, ◌||◌, nat_lt, not, Bool, true, false, List, [], ◌∷◌, ◌++◌, length, Result, Err, refl, ◌⊎◌}
use Rattle.std.specs.declared.option.Option.TheVariants.{Some}
use Rattle.std.specs.List.{list_any}
use Rattle.std.proofs.Common.{ap, sym, subst, ◌∙◌, inl, inr, eq-eqb}
use Rattle.std.proofs.lemmas.Bool.{and_parts, eqb-true}
use Rattle.cc_entry.specs.Place.{File}
use Rattle.cc_entry.specs.declared.answer.Answer.{Answer}
use Rattle.cc_entry.specs.declared.answer.Answer.TheVariants as answer
use Rattle.cc_entry.specs.declared.entry.Entry.{Entry}
use Rattle.cc_entry.specs.declared.entry.Entry.TheVariants as entry
use Rattle.cc_entry.specs.declared.error.CcError.{CcError}
use Rattle.cc_entry.specs.declared.place.FileState.{FileState}
use Rattle.cc_entry.specs.declared.reply.Outcome.TheVariants as outcome
use Rattle.cc_script.specs.declared.script.Action.{Action}
use Rattle.cc_script.specs.declared.script.Action.TheVariants as action
use Rattle.cc_model.specs.Good.{IsGoodSoFar}
use Rattle.cc_model.specs.Passes.{HasSeen}
use Rattle.cc_model.specs.Setup.{Setup}
use Rattle.cc_effects.specs.Moments.{IsIdle, own}
use Rattle.cc_records.specs.Left.{SettleLeft}
use Rattle.cc_redo.specs.Reading.{said_by}
use Rattle.cc_redo.specs.declared.record.LogRecord.TheVariants.{Update}
use Rattle.cc_restart_laws.proofs.Entries.{updated-rest}
use Rattle.cc_restart_laws.specs.Updates.{HasRecorded, IsUpdated, WasStamped, records_update}
use Rattle.cc_update_laws.proofs.Recorded.{IsBefore, IsInside, RecordsNone, cut-at, is-record, none-entry, none-idle, own-inside, stamped-later}
use Rattle.cc_update_laws.proofs.Said.{said-update}
use Rattle.cc_update_laws.proofs.Updates.{HasUpdate, leaves-update}
use Rattle.cc_update_laws.specs.Keeping.{AreStamped}
use Rattle.cc_pieces.proofs.Grown.{grew-then}
use Rattle.cc_pieces.specs.Bindings.{Binding}
use Rattle.cc_pieces.specs.Checkpoints.{CheckpointLeft}
use Rattle.cc_pieces.specs.Served.{Served}
use Rattle.cc_pieces.specs.Shim.{IsForWant, UpdateLeft, update_record_of_file}
use Rattle.cc_script_laws.specs.Lines.{IsUnwanting, is_one_call, leaves_to_updates, left_to_updates, says_neither, was_refused}
use Rattle.cc_script_laws.proofs.Beside.{IsBeside}
use Rattle.cc_script_laws.proofs.BesideLines.{admits-by, either, lt-told, seen-follows, seen-update}
use Rattle.cc_script_laws.proofs.Growing.{good-seen, seen-entry, seen-idle}
use Rattle.cc_script_laws.proofs.LineWalks.{Follows, IsToldSo, follow-checkpoint-left, follow-refused, follow-served, follow-settle-left, follow-update}
use Rattle.cc_script_laws.proofs.RecordsNone.{none-append, none-checkpoint, none-other, plain-none}

-- each update that the pass recorded was written and set dirty
abbrev pub StampedBy : ℕ → ℕ → ℕ → List Entry → Type 0
StampedBy s log me past = (lsn : ℕ) (has : HasRecorded s log lsn past) → has.pass ≡ me → WasStamped s log lsn past

pub stamped-all : (s log : ℕ) (past : List Entry) → ((me : ℕ) → StampedBy s log me past) → AreStamped s log past
stamped-all s log past each lsn has = each has.pass lsn has refl

pub stamped-each : (s log me : ℕ) (past : List Entry) → AreStamped s log past → StampedBy s log me past
stamped-each s log me past stamped lsn has is = stamped lsn has

-- ---- stretches

by-none : (s log me : ℕ) (old new : List Entry) → RecordsNone s log me old new → StampedBy s log me old → StampedBy s log me new
by-none s log me old new k stamped lsn has is = go (cut-at a k.during has.later has.front old (sym k.grew ∙ has.splits))
  where
    a : Entry
    a = entry.Append has.pass log lsn has.spelled

    go : IsInside a k.during has.front old ⊎ IsBefore a has.front old → WasStamped s log lsn new
    go (inl i) =
        absurd
        (own-inside me (records_update s log) i.later a i.rest (ap (λ (l : List Entry). list_any (records_update s log) (own me l)) (sym i.is) ∙ k.none) (eq-eqb has.pass me is)
        (is-record s log has.pass lsn has.at has.bytes has.spelled has.said))
    go (inr b) =
        subst (λ (l : List Entry). WasStamped s log lsn l) (sym k.grew)
        (stamped-later s log lsn old k.during
        (stamped lsn (record { pass = has.pass; at = has.at; bytes = has.bytes; spelled = has.spelled; later = b.rest; front = has.front; splits = b.is; said = has.said }) is))

head_of : (x y : Entry) (xs ys : List Entry) → x ∷ xs ≡ y ∷ ys → x ≡ y
head_of x y xs ys is = cc

tail_of : (x y : Entry) (xs ys : List Entry) → x ∷ xs ≡ y ∷ ys → xs ≡ ys
tail_of x y xs ys is = cc

-- the record of an update is no other's
record IsTheRecord (s log stream handle n lsn : ℕ) : Type 0 where
  of_log : handle ≡ log
  of_stream : stream ≡ s
  its_lsn : lsn ≡ n

same-record : (s log me handle lsn pass n place : ℕ) (file : File) (at : ℕ) (bytes xs spell : List ℕ) → said_by (update_record_of_file file at bytes) ≡ Some (Update file.stream at bytes) → entry.Append me handle lsn (update_record_of_file file at bytes) ≡ entry.Append pass log n spell → said_by spell ≡ Some (Update s place xs) →
    IsTheRecord s log file.stream handle n lsn
same-record s log me handle lsn pass n place file at bytes xs spell says is said =
    let same : update_record_of_file file at bytes ≡ spell = cc is in
    let parts : Some (Update file.stream at bytes) ≡ Some (Update s place xs) = sym says ∙ (ap said_by same ∙ said) in
    record { of_log = cc is; of_stream = cc parts; its_lsn = cc is }

module _ (u : Setup) (s log me : ℕ) (file : File) (at : ℕ) (bytes : List ℕ) (says : said_by (update_record_of_file file at bytes) ≡ Some (Update file.stream at bytes)) (old : List Entry) where
  by-update : (new : List Entry) → HasUpdate u s log me file at bytes says old old new → IsUpdated s log new → StampedBy s log me old → StampedBy s log me new
  by-update new k updated stamped lsn has is = go (cut-at a k.then.during has.later has.front (e ∷ k.front) (sym k.then.grew ∙ has.splits))
    where
      a : Entry
      a = entry.Append has.pass log lsn has.spelled

      e : Entry
      e = entry.Append me k.handle k.lsn (update_record_of_file file at bytes)

      first : StampedBy s log me k.front
      first = by-none s log me old k.front k.first stamped

      before : (rest : List Entry) → e ∷ k.front ≡ rest ++ a ∷ has.front → WasStamped s log lsn new
      before [] is_it =
          let same = same-record s log me k.handle k.lsn has.pass lsn has.at file at bytes has.bytes has.spelled says (head_of e a k.front has.front is_it) has.said in
          subst (λ (n : ℕ). WasStamped s log n new) same.its_lsn (k.stamped same.of_log same.of_stream updated)
      before (x ∷ rest) is_it =
          subst (λ (l : List Entry). WasStamped s log lsn l) (sym k.then.grew)
          (stamped-later s log lsn (e ∷ k.front) k.then.during
          (stamped-later s log lsn k.front (e ∷ [])
          (first lsn (record { pass = has.pass; at = has.at; bytes = has.bytes; spelled = has.spelled; later = rest; front = has.front; splits = tail_of e x k.front (rest ++ a ∷ has.front) is_it; said = has.said }) is)))

      go : IsInside a k.then.during has.front (e ∷ k.front) ⊎ IsBefore a has.front (e ∷ k.front) → WasStamped s log lsn new
      go (inl i) =
          absurd
          (own-inside me (records_update s log) i.later a i.rest (ap (λ (l : List Entry). list_any (records_update s log) (own me l)) (sym i.is) ∙ k.then.none) (eq-eqb has.pass me is)
          (is-record s log has.pass lsn has.at has.bytes has.spelled has.said))
      go (inr b) = before b.rest b.is

  stamps-update : (answered : Result ℕ CcError) (new : List Entry) → IsGoodSoFar u new → ((e : CcError) → answered ≡ Err e → IsForWant e → ⊥) → UpdateLeft u me file at bytes answered old new → IsUpdated s log new → StampedBy s log me old → StampedBy s log me new
  stamps-update answered new good wants left updated stamped = go (leaves-update u s log me file at bytes says old answered new good wants left)
    where
      go : RecordsNone s log me old new ⊎ HasUpdate u s log me file at bytes says old old new → StampedBy s log me new
      go (inl none) = by-none s log me old new none stamped
      go (inr k) = by-update new k updated stamped

-- what a line was answered that is not refused for want
pub told-wants : (told : Answer) (answered : Result ℕ CcError) → IsToldSo told answered → (e : CcError) → answered ≡ Err e → IsForWant e → ((x : CcError) → told ≡ answer.Refused x → IsForWant x → ⊥) → ⊥
told-wants (answer.NewLsn lsn) answered so e is want none = absurd (cc (so, is))
told-wants (answer.Refused x) answered so e is want none = none e (same-refused x e (sym so ∙ is)) want
  where
    same-refused : (x e : CcError) → ◌≡◌ {A = Result ℕ CcError} (Err x) (Err e) → answer.Refused x ≡ answer.Refused e
    same-refused x e same = cc same
told-wants other answered so e is want none = absurd so

-- ---- lines

module _ (u : Setup) (whole : List Entry) (good : IsGoodSoFar u whole) (s log : ℕ) (begun : List Entry) (me : ℕ) where
  abbrev pub Stamps : List Entry → List Entry → Type 0
  Stamps old new = HasSeen old new × (HasSeen begun old → HasSeen new whole → IsUpdated s log new → StampedBy s log me old → StampedBy s log me new)

  pub stamps-by : (old new : List Entry) → HasSeen old new → RecordsNone s log me old new → Stamps old new
  stamps-by old new seen none = (seen, λ since to updated stamped. by-none s log me old new none stamped)

  pub stamps-idle : (old new : List Entry) → IsIdle me old new → Stamps old new
  stamps-idle old new idle = stamps-by old new (seen-idle me old new idle) (none-idle s log me old new idle)

  pub stamps-then : (old between new : List Entry) → Stamps old between → Stamps between new → Stamps old new
  stamps-then old between new first second = (
    grew-then old between new first.0 second.0,
    λ since to updated stamped.
        second.1 (grew-then begun old between since first.0) to updated
        (first.1 since (grew-then between new whole second.0 to) (updated-rest s log second.0.later between (subst (IsUpdated s log) second.0.grew updated)) stamped),
  )

  stamps-entry : (e : Entry) (past : List Entry) → records_update s log e ≡ false → Stamps past (e ∷ past)
  stamps-entry e past none = stamps-by past (e ∷ past) (seen-entry e past) (none-entry s log me e past none)

  stamps-follows : Follows me (IsBeside s log (Unit {0})) Stamps
  stamps-follows = record {
    idle = stamps-idle;
    joins = stamps-then;
    plain = λ e past plain mine. stamps-entry e past (plain-none s log e plain);
    called = λ it ended nth stream past makes filed. stamps-entry (entry.Call me nth stream it ended) past refl;
  }

  stamps-append : (handle lsn : ℕ) (bytes : List ℕ) (past : List Entry) → (not (handle == log) || says_neither s (said_by bytes)) ≡ true → Stamps past (entry.Append me handle lsn bytes ∷ past)
  stamps-append handle lsn bytes past may = stamps-by past (entry.Append me handle lsn bytes ∷ past) (seen-entry (entry.Append me handle lsn bytes) past) (none-append u s log me handle lsn bytes past may)

  stamps-settle : (file : File) (answered : Result FileState CcError) (old new : List Entry) → SettleLeft u me file answered old new → Stamps old new
  stamps-settle file answered old new left =
      follow-settle-left u me (IsBeside s log (Unit {0})) Stamps stamps-follows file (tt, tt) (tt, tt)
      (λ told begun_at first flushed front size valid end_of has idle is. stamps-entry (entry.Record me file.stream size valid end_of) front refl) answered old new left

  stamps-logs : (streams handle : ℕ) (answered : Result ℕ CcError) (old new : List Entry) → CheckpointLeft u me streams handle answered old new → Stamps old new
  stamps-logs streams handle answered old new left =
      stamps-by old new (follow-checkpoint-left u me _ HasSeen (seen-follows me) streams handle (λ it is. tt) (λ rows lsn past. seen-entry (entry.Append me handle lsn _) past) answered old new left)
      (none-checkpoint u s log me streams handle answered old new left)

  stamps-line : (file : File) (at : ℕ) (bytes : List ℕ) → (nat_lt file.stream 255 && (nat_lt at (2 ^ 64) && nat_lt (length bytes) (2 ^ 32))) ≡ true → (answered : Result ℕ CcError) → (file.stream ≡ s → (e : CcError) → answered ≡ Err e → IsForWant e → ⊥) → (old new : List Entry) →
      UpdateLeft u me file at bytes answered old new → Stamps old new
  stamps-line file at bytes fits answered wants old new left = go (file.stream == s) refl
    where
      first : (nat_lt file.stream 255 ≡ true) × ((nat_lt at (2 ^ 64) && nat_lt (length bytes) (2 ^ 32)) ≡ true)
      first = and_parts (nat_lt file.stream 255) _ fits

      second : (nat_lt at (2 ^ 64) ≡ true) × (nat_lt (length bytes) (2 ^ 32) ≡ true)
      second = and_parts (nat_lt at (2 ^ 64)) _ first.1

      says : said_by (update_record_of_file file at bytes) ≡ Some (Update file.stream at bytes)
      says = said-update file at bytes (lt-told file.stream 255 first.0) (lt-told at (2 ^ 64) second.0) (lt-told (length bytes) (2 ^ 32) second.1)

      seen : HasSeen old new
      seen = seen-update u me file at bytes answered old new left

      go : (b : Bool) → (file.stream == s) ≡ b → Stamps old new
      go false apart = stamps-by old new seen (none-other u s log me file at bytes says apart answered old new left)
      go true same = (
        seen,
        λ since to updated stamped.
            stamps-update u s log me file at bytes says old answered new (good-seen u new whole to good) (wants (eqb-true file.stream s same)) left updated stamped,
      )

  stamps-left : (bindings : List Binding) (asked : Action) (told : Answer) (old new : List Entry) → leaves_to_updates s log asked ≡ true → IsUnwanting s asked told → Served u me bindings asked told old new → Stamps old new
  stamps-left bindings (action.Update file at bytes) told old new leaves wants left =
      follow-update u me (IsBeside s log (Unit {0})) Stamps stamps-follows file at bytes told old new (tt, tt)
      (λ answered first last so one. stamps-line file at bytes leaves answered (λ same e is want. told-wants told answered so e is want (wants same)) first last one) left
  stamps-left bindings asked told old new leaves wants left =
      follow-served u me (IsBeside s log (Unit {0})) Stamps stamps-follows bindings asked told old new
      (admits-by u s log (Unit {0}) me Stamps stamps-follows stamps-append stamps-settle asked leaves (λ file at bytes is. absurd (cc is)) (λ streams handle is. stamps-logs streams handle) (inl tt)) left

  pub stamps-served : (bindings : List Binding) (asked : Action) (told : Answer) (old new : List Entry) → left_to_updates s log asked told ≡ true → IsUnwanting s asked told → Served u me bindings asked told old new → Stamps old new
  stamps-served bindings asked told old new fits wants left = by (either (leaves_to_updates s log asked) (is_one_call asked && was_refused told) fits)
    where
      by : (leaves_to_updates s log asked ≡ true) ⊎ ((is_one_call asked && was_refused told) ≡ true) → Stamps old new
      by (inl leaves) = stamps-left bindings asked told old new leaves wants left
      by (inr refused) =
          follow-refused u me (IsBeside s log (Unit {0})) Stamps stamps-follows bindings asked told old new refused
          (λ it e nth stream past filed. stamps-entry (entry.Call me nth stream it (outcome.Failed e)) past refl) left
