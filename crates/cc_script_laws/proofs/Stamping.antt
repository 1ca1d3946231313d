-- The lines of one caller, while no other pass records an update: each keeps the form, and behind each every recorded update is set
-- dirty, if it was so before. So a checkpoint among them is a right one.
use Rattle.std.specs.Prelude.{◌≡◌, ℕ, ◌^◌, ◌<◌, ◌==◌, ◌&&◌, ◌||◌, nat_lt, Bool, true, false, not, List, [], ◌∷◌, ◌++◌, length, Result, refl, ◌⊎◌}
use Rattle.std.specs.declared.option.Option.{Option}
use Rattle.std.specs.declared.option.Option.TheVariants.{Some, None}
use Rattle.std.specs.List.{list_any}
use Rattle.std.proofs.Common.{ap, sym, subst, ◌∙◌, inl, inr, append_assoc}
use Rattle.std.proofs.lemmas.Bool.{and_parts, eqb-true}
use Rattle.std.proofs.lemmas.List.{append_cancel_right}
use Rattle.cc_entry.specs.Place.{File}
use Rattle.cc_entry.specs.declared.answer.Answer.{Answer}
use Rattle.cc_entry.specs.declared.call.Call.{Call}
use Rattle.cc_entry.specs.declared.call.Call.TheVariants as call
use Rattle.cc_entry.specs.declared.query.Query.TheVariants as query
use Rattle.cc_entry.specs.declared.entry.Entry.{Entry}
use Rattle.cc_entry.specs.declared.entry.Entry.TheVariants as entry
use Rattle.cc_entry.specs.declared.error.CcError.{CcError}
use Rattle.cc_entry.specs.declared.place.FileState.{FileState}
use Rattle.cc_entry.specs.declared.reply.Outcome.{Outcome}
use Rattle.cc_entry.specs.declared.reply.Outcome.TheVariants as outcome
use Rattle.cc_script.specs.declared.script.Action.{Action}
use Rattle.cc_script.specs.declared.script.Action.TheVariants as action
use Rattle.cc_model.specs.Good.{IsGoodSoFar}
use Rattle.cc_model.specs.History.{history}
use Rattle.cc_model.specs.Objects.{had_map}
use Rattle.cc_model.specs.Passes.{HasSeen}
use Rattle.cc_model.specs.Settings.{log_of}
use Rattle.cc_model.specs.Setup.{Setup}
use Rattle.cc_effects.specs.Moments.{EachOwn, IsIdle}
use Rattle.cc_records.specs.Left.{SettleLeft}
use Rattle.cc_redo.specs.Reading.{said_by}
use Rattle.cc_redo.specs.declared.record.LogRecord.TheVariants.{Update}
use Rattle.cc_restart_laws.proofs.Entries.{updated-rest}
use Rattle.cc_restart_laws.proofs.Records.{log-stays}
use Rattle.cc_restart_laws.specs.Updates.{IsUpdated, records_update}
use Rattle.cc_update_laws.proofs.Checkpoints.{all-checkpoint}
use Rattle.cc_update_laws.proofs.Keeping.{KeepsAll, all-idle, all-then, is_write, open-entry, open-idle}
use Rattle.cc_update_laws.proofs.Recorded.{RecordsNone, none-entry, none-idle, stamped-over}
use Rattle.cc_update_laws.proofs.Said.{said-update}
use Rattle.cc_update_laws.proofs.Updates.{all-update, stays-stamped}
use Rattle.cc_update_laws.specs.Keeping.{AreStamped, HasCheckpoint, HasNoneOpen, IsCalmForCheckpoint, PassKeepsForm, KeepsForm, OthersRecordNone, RowsFit}
use Rattle.cc_pieces.proofs.Grown.{grew-then}
use Rattle.cc_pieces.specs.Bindings.{Binding}
use Rattle.cc_pieces.specs.Checkpoints.{CheckpointLeft, record_of_rows}
use Rattle.cc_pieces.specs.Served.{Served}
use Rattle.cc_pieces.specs.Shim.{UpdateLeft, update_record_of_file}
use Rattle.cc_script_laws.specs.Told.{initialises}
use Rattle.cc_script_laws.specs.Lines.{AreStampedAtTables, IsKnownAt, IsUnwanting, checkpoints, is_one_call, leaves_to_updates, left_to_updates, says_neither, was_refused}
use Rattle.cc_script_laws.proofs.Beside.{IsBeside, kept-append, kept-call, kept-failed, kept-plain, kept-record}
use Rattle.cc_script_laws.proofs.BesideLines.{admits-by, append-by, by-checkpoint, either, lt-told, seen-follows, seen-update}
use Rattle.cc_script_laws.proofs.Growing.{good-seen, had-seen, seen-entry, seen-idle}
use Rattle.cc_script_laws.proofs.LineWalks.{Follows, IsCheckpointOf, IsToldSo, follow-checkpoint-left, follow-refused, follow-served, follow-settle-left, follow-update, is_plain, same-pass}
use Rattle.cc_script_laws.proofs.Stamps.{told-wants}
use Rattle.cc_script_laws.proofs.RecordsNone.{all-none, any-back, any-front, any-own, none-checkpoint, none-other, others-front, plain-none, append-none}

clash : {b : Bool} → b ≡ true → b ≡ false → ⊥
clash a b = cc

-- ---- behind a checkpoint no update is under way

abbrev WritesNone : Call → Type 0
WritesNone (call.PinnedWrite hold at bytes) = ⊥
WritesNone other = Unit {0}

no-write : (s me nth : ℕ) (stream : Option ℕ) (it : Call) (ended : Outcome) → WritesNone it → is_write s (entry.Call me nth stream it ended) ≡ false
no-write s me nth None it ended none = refl
no-write s me nth (Some t) (call.PinnedWrite hold at bytes) ended none = absurd none
no-write s me nth (Some t) other (outcome.Done reply) none = refl
no-write s me nth (Some t) other (outcome.Failed e) none = refl

plain-no : (s : ℕ) (e : Entry) → is_plain e ≡ true → is_write s e ≡ false
plain-no s (entry.Call pass nth stream it ended) plain = absurd (cc plain)
plain-no s other plain = refl

by-writes : (it : Call) → IsCheckpointOf it → WritesNone it
by-writes (call.PinnedWrite hold at bytes) is = absurd is
by-writes other is = tt

abbrev Opens : ℕ → ℕ → ℕ → List Entry → List Entry → Type 0
Opens s log me old new = HasNoneOpen s log me old → HasNoneOpen s log me new

open-follows : (s log me : ℕ) → Follows me WritesNone (Opens s log me)
open-follows s log me = record {
  idle = λ old new idle none. open-idle s log me old new none idle;
  joins = λ old between new first second none. second (first none);
  plain = λ e past plain mine none. open-entry s log me e past mine (plain-no s e plain);
  called = λ it ended nth stream past makes filed none. open-entry s log me (entry.Call me nth stream it ended) past (same-pass me) (no-write s me nth stream it ended makes);
}

open-checkpoint : (u : Setup) (s log me streams handle : ℕ) (answered : Result ℕ CcError) (old new : List Entry) → CheckpointLeft u me streams handle answered old new → HasNoneOpen s log me old → HasNoneOpen s log me new
open-checkpoint u s log me streams handle answered old new left =
    follow-checkpoint-left u me WritesNone (Opens s log me) (open-follows s log me) streams handle by-writes
    (λ rows lsn past none. open-entry s log me (entry.Append me handle lsn (record_of_rows rows)) past (same-pass me) refl) answered old new left

seen-checkpoint : (u : Setup) (me streams handle : ℕ) (answered : Result ℕ CcError) (old new : List Entry) → CheckpointLeft u me streams handle answered old new → HasSeen old new
seen-checkpoint u me streams handle answered old new left =
    follow-checkpoint-left u me _ HasSeen (seen-follows me) streams handle (λ it is. tt) (λ rows lsn past. seen-entry (entry.Append me handle lsn (record_of_rows rows)) past) answered old new left

-- ---- a stretch keeps the form, if it does so where the past has it

each-given : (s log me : ℕ) (during old : List Entry) → (IsUpdated s log old → EachOwn me (KeepsForm s log) during old) → EachOwn me (KeepsForm s log) during old
each-given s log me [] old given = tt
each-given s log me (e ∷ during) old given =
    ((λ mine updated. (given (updated-rest s log during old updated)).0 mine updated), each-given s log me during old (λ updated. (given updated).1))

keeps-given : (s log me : ℕ) (old new : List Entry) → HasSeen old new → (IsUpdated s log old → PassKeepsForm s log me old new) → PassKeepsForm s log me old new
keeps-given s log me old new seen given = record {
  during = seen.later;
  grew = seen.grew;
  each = each-given s log me seen.later old
      (λ updated. let k = given updated in subst (λ (l : List Entry). EachOwn me (KeepsForm s log) l old) (append_cancel_right k.during seen.later old (sym k.grew ∙ seen.grew)) k.each);
}

-- ---- the checkpoint of a past is one of a longer past, and its table stands there

abbrev pub checkpoint-seen : (log me : ℕ) (between listed new whole : List Entry) → HasSeen new whole → HasCheckpoint log me between listed new → HasCheckpoint log me between listed whole
checkpoint-seen log me between listed new whole seen it = record {
  later = seen.later ++ it.later;
  lsn = it.lsn;
  bytes = it.bytes;
  rows = it.rows;
  nth = it.nth;
  reply = it.reply;
  splits = seen.grew ∙ (ap (λ (l : List Entry). seen.later ++ l) it.splits ∙ sym (append_assoc seen.later it.later _));
  said = it.said;
  alone = it.alone;
}

pub table-seen : (log me : ℕ) (between listed past : List Entry) → HasCheckpoint log me between listed past → HasSeen listed past
table-seen log me between listed past it =
    let listing : Entry = entry.Call me it.nth None (call.Query (query.DirtyPages log)) (outcome.Done it.reply) in
    let append : Entry = entry.Append me log it.lsn it.bytes in
    record {
      later = it.later ++ append ∷ (between ++ listing ∷ []);
      grew =
          it.splits
          ∙ (ap (λ (l : List Entry). it.later ++ append ∷ l) (sym (append_assoc between (listing ∷ []) listed))
          ∙ sym (append_assoc it.later (append ∷ (between ++ listing ∷ [])) listed));
    }

-- ---- what is kept beside the form

-- What a caller's lines keep in a stretch, beside the form: it is kept where the caller records none, and by an update of the stream
-- that is answered in such a way; and where a table is listed for a checkpoint every recorded update is set dirty.
pub record IsInvariant (u : Setup) (whole : List Entry) (s log me : ℕ) (base end : List Entry) (Inv : List Entry → Type 0) (Line : Action → Answer → Type 0) : Type 0 where
  pub none : (old new : List Entry) → HasSeen base old → HasSeen old new → HasSeen new end → RecordsNone s log me old new → Inv old → Inv new
  pub update : (file : File) (at : ℕ) (bytes : List ℕ) (told : Answer) (answered : Result ℕ CcError) (old new : List Entry) → said_by (update_record_of_file file at bytes) ≡ Some (Update file.stream at bytes) → file.stream ≡ s → Line (action.Update file at bytes) told → IsToldSo told answered →
      HasSeen base old → HasSeen old new → HasSeen new end → UpdateLeft u me file at bytes answered old new → Inv old → Inv new
  pub listed : (old front new between : List Entry) → HasSeen base old → HasSeen old front → HasSeen new end → HasCheckpoint log me between front new → RecordsNone s log me old front → IsUpdated s log old → Inv old → AreStamped s log front

-- so each recorded update is set dirty, where the past has the form
abbrev pub StampedIf : ℕ → ℕ → List Entry → Type 0
StampedIf s log past = IsUpdated s log past → AreStamped s log past

module _ (u : Setup) (whole : List Entry) (good : IsGoodSoFar u whole) (s log : ℕ) (me : ℕ) (base end : List Entry) (seen_end : HasSeen end whole)
    (others : OthersRecordNone s log me base end) where
  pub stays : (old new : List Entry) → HasSeen base old → HasSeen old new → HasSeen new end → RecordsNone s log me old new → AreStamped s log old → AreStamped s log new
  stays old new since seen to none stamped = stamped-over s log me base old new none (others-front s log me base new end to others) since.later since.grew stamped

  before-it : (old new : List Entry) → HasSeen old new → IsUpdated s log new → IsUpdated s log old
  before-it old new seen updated = updated-rest s log seen.later old (subst (IsUpdated s log) seen.grew updated)

  others-from : (old new : List Entry) → HasSeen base old → OthersRecordNone s log me base new → OthersRecordNone s log me old new
  others-from old new since none later during e is apart =
      none later (during ++ since.later) e
      (is ∙ ap (λ (l : List Entry). later ++ e ∷ l) (ap (λ (l : List Entry). during ++ l) since.grew ∙ sym (append_assoc during since.later base))) apart

  pub stamped-invariant : IsInvariant u whole s log me base end (StampedIf s log) (IsUnwanting s)
  stamped-invariant = record {
    none = λ old new since seen to none stamped updated. stays old new since seen to none (stamped (before-it old new seen updated));
    update = λ file at bytes told answered old new says same wants so since seen to left stamped updated.
        stays-stamped u s log me file at bytes says old answered new (good-seen u new whole (grew-then new end whole to seen_end) good) updated (λ e is want. told-wants told answered so e is want (wants same))
        (others-from old new since (others-front s log me base new end to others)) (stamped (before-it old new seen updated)) left;
    listed = λ old front new between since seen to it none updated stamped.
        stays old front since seen (grew-then front new end (table-seen log me between front new it) to) none (stamped updated);
  }

-- where it is said of each such table
pub given-invariant : (u : Setup) (whole : List Entry) (s log me : ℕ) (base end : List Entry) → HasSeen end whole → AreStampedAtTables s log whole → IsInvariant u whole s log me base end (λ past. Unit {0}) (λ asked told. Unit {0})
given-invariant u whole s log me base end seen_end stamped = record {
  none = λ old new since seen to none inv. tt;
  update = λ file at bytes told answered old new says same wants so since seen to left inv. tt;
  listed = λ old front new between since seen to it none updated inv.
      stamped me between front (checkpoint-seen log me between front new whole (grew-then new end whole to seen_end) it);
}

-- ---- the lines of the caller

module _ (u : Setup) (whole : List Entry) (good : IsGoodSoFar u whole) (s log : ℕ) (begun : List Entry) (opened : Type 0) (has_opened : opened → had_map (history begun s) ≡ true)
    (has_log : (log_of (history begun s) ≡ Some log) ⊎ (had_map (history whole s) ≡ false)) (me : ℕ) (base end : List Entry) (since_begun : HasSeen begun base) (seen_end : HasSeen end whole) (others : OthersRecordNone s log me base end)
    (fit : (front : List Entry) → HasSeen front whole → RowsFit log front) (Inv : List Entry → Type 0) (Line : Action → Answer → Type 0) (inv : IsInvariant u whole s log me base end Inv Line) where
  abbrev pub Alone : List Entry → List Entry → Type 0
  Alone old new = HasSeen old new × (HasSeen base old → HasSeen new end → Inv old → HasNoneOpen s log me old → KeepsAll s log me old new × Inv new)

  alone-by : (old new : List Entry) → HasSeen old new → RecordsNone s log me old new → (HasSeen base old → HasSeen new end → HasNoneOpen s log me old → KeepsAll s log me old new) → Alone old new
  alone-by old new seen none keeps = (seen, λ since to held now. (keeps since to now, inv.none old new since seen to none held))

  pub alone-idle : (old new : List Entry) → IsIdle me old new → Alone old new
  alone-idle old new idle = alone-by old new (seen-idle me old new idle) (none-idle s log me old new idle) (λ since to now. all-idle s log me old new now idle)

  pub alone-then : (old between new : List Entry) → Alone old between → Alone between new → Alone old new
  alone-then old between new first second = (
    grew-then old between new first.0 second.0,
    λ since to held now.
        let one = first.1 since (grew-then between new end second.0 to) held now in
        let two = second.1 (grew-then base old between since first.0) to one.1 one.0.1 in
        (all-then s log me old between new one.0 (λ then. two.0), two.1),
  )

  alone-entry : (e : Entry) (past : List Entry) → records_update s log e ≡ false → (HasSeen base past → HasNoneOpen s log me past → KeepsAll s log me past (e ∷ past)) → Alone past (e ∷ past)
  alone-entry e past none keeps = alone-by past (e ∷ past) (seen-entry e past) (none-entry s log me e past none) (λ since to now. keeps since now)

  had-at : (past : List Entry) → HasSeen base past → opened → had_map (history past s) ≡ true
  had-at past since was = had-seen u s begun past (grew-then begun base past since_begun since) (has_opened was)

  alone-follows : Follows me (IsBeside s log opened) Alone
  alone-follows = record {
    idle = alone-idle;
    joins = alone-then;
    plain = λ e past plain mine. alone-entry e past (plain-none s log e plain) (λ since now. kept-plain s log me e past plain mine now);
    called = λ it ended nth stream past makes filed.
        alone-entry (entry.Call me nth stream it ended) past refl (λ since now. kept-call s log me nth past opened (had-at past since) it ended stream makes filed now);
  }

  alone-append : (handle lsn : ℕ) (bytes : List ℕ) (past : List Entry) → (not (handle == log) || says_neither s (said_by bytes)) ≡ true → Alone past (entry.Append me handle lsn bytes ∷ past)
  alone-append handle lsn bytes past may =
      alone-entry (entry.Append me handle lsn bytes) past (append-none s log me handle lsn bytes may)
      (λ since now. kept-append s log me handle lsn bytes past (λ updated. append-by s log me handle lsn bytes past may) now)

  alone-settle : (file : File) (answered : Result FileState CcError) (old new : List Entry) → SettleLeft u me file answered old new → Alone old new
  alone-settle file answered old new left =
      follow-settle-left u me (IsBeside s log opened) Alone alone-follows file (tt, tt) (tt, tt)
      (λ told begun_at first flushed front size valid end_of has idle is. alone-entry (entry.Record me file.stream size valid end_of) front refl (λ since now. kept-record s log me file.stream size valid end_of front now))
      answered old new left

  -- the stream has its log as a stretch begins, or no map behind it
  log-at : (old new : List Entry) → HasSeen base old → HasSeen new whole → IsUpdated s log old → (log_of (history old s) ≡ Some log) ⊎ (had_map (history new s) ≡ false)
  log-at old new since to updated = by has_log
    where
      without : (b : Bool) → had_map (history new s) ≡ b → had_map (history whole s) ≡ false → had_map (history new s) ≡ false
      without false is never = is
      without true is never = absurd (clash (had-seen u s new whole to is) never)

      by : (log_of (history begun s) ≡ Some log) ⊎ (had_map (history whole s) ≡ false) → (log_of (history old s) ≡ Some log) ⊎ (had_map (history new s) ≡ false)
      by (inl logged) =
          let all = grew-then begun base old since_begun since in
          inl (subst (λ (l : List Entry). log_of (history l s) ≡ Some log) (sym all.grew) (log-stays s log all.later begun (subst (IsUpdated s log) all.grew updated) logged))
      by (inr never) = inr (without (had_map (history new s)) refl never)

  to-whole : (past : List Entry) → HasSeen past end → HasSeen past whole
  to-whole past seen = grew-then past end whole seen seen_end

  -- an update, of this stream or of another
  alone-update : (file : File) (at : ℕ) (bytes : List ℕ) (told : Answer) → (nat_lt file.stream 255 && (nat_lt at (2 ^ 64) && nat_lt (length bytes) (2 ^ 32))) ≡ true → Line (action.Update file at bytes) told → (answered : Result ℕ CcError) (old new : List Entry) → IsToldSo told answered →
      UpdateLeft u me file at bytes answered old new → Alone old new
  alone-update file at bytes told fits line answered old new so left = go (file.stream == s) refl
    where
      first : (nat_lt file.stream 255 ≡ true) × ((nat_lt at (2 ^ 64) && nat_lt (length bytes) (2 ^ 32)) ≡ true)
      first = and_parts (nat_lt file.stream 255) _ fits

      second : (nat_lt at (2 ^ 64) ≡ true) × (nat_lt (length bytes) (2 ^ 32) ≡ true)
      second = and_parts (nat_lt at (2 ^ 64)) _ first.1

      says : said_by (update_record_of_file file at bytes) ≡ Some (Update file.stream at bytes)
      says = said-update file at bytes (lt-told file.stream 255 first.0) (lt-told at (2 ^ 64) second.0) (lt-told (length bytes) (2 ^ 32) second.1)

      seen : HasSeen old new
      seen = seen-update u me file at bytes answered old new left

      keeps : HasSeen base old → HasSeen new end → HasNoneOpen s log me old → KeepsAll s log me old new
      keeps since to now = all-update u s log me file at bytes says old answered new (good-seen u new whole (to-whole new to) good) now left

      go : (b : Bool) → (file.stream == s) ≡ b → Alone old new
      go false apart = alone-by old new seen (none-other u s log me file at bytes says apart answered old new left) keeps
      go true same = (seen, λ since to held now. (keeps since to now, inv.update file at bytes told answered old new says (eqb-true file.stream s same) line so since seen to left held))

  -- a checkpoint of the log, behind which every recorded update is set dirty as before it
  alone-checkpoint : IsKnownAt s log me whole → (streams : ℕ) → s < streams → (answered : Result ℕ CcError) (old new : List Entry) → CheckpointLeft u me streams log answered old new → Alone old new
  alone-checkpoint known streams below answered old new left =
      (seen, λ since to held now. ((keeps-given s log me old new seen (λ updated. (keeps since to held now updated).0), open-checkpoint u s log me streams log answered old new left now), inv.none old new since seen to none held))
    where
      seen : HasSeen old new
      seen = seen-checkpoint u me streams log answered old new left

      none : RecordsNone s log me old new
      none = none-checkpoint u s log me streams log answered old new left

      -- no entry of the stretch records an update
      silent : HasSeen base old → HasSeen new end → list_any (records_update s log) none.during ≡ false
      silent since to =
          all-none s log me base none.during old since.later since.grew none.none
          (subst (λ (l : List Entry). OthersRecordNone s log me base l) none.grew (others-front s log me base new end to others))

      part : (later during : List Entry) → new ≡ later ++ (during ++ old) → none.during ≡ later ++ during
      part later during is = append_cancel_right none.during (later ++ during) old (sym none.grew ∙ (is ∙ sym (append_assoc later during old)))

      keeps : HasSeen base old → HasSeen new end → Inv old → HasNoneOpen s log me old → IsUpdated s log old → KeepsAll s log me old new
      keeps since to held now updated =
          all-checkpoint u s log me old new (log-at old new since (to-whole new to) updated) calm (λ later during is. fit (during ++ old) (grew-then (during ++ old) new whole (record { later = later; grew = is }) (to-whole new to)))
          streams log answered below (good-seen u new whole (to-whole new to) good) now left
        where
          quiet : (later during : List Entry) → new ≡ later ++ (during ++ old) → list_any (records_update s log) during ≡ false
          quiet later during is = any-back (records_update s log) later during (subst (λ (l : List Entry). list_any (records_update s log) l ≡ false) (part later during is) (silent since to))

          calm : IsCalmForCheckpoint s log me old new
          calm = record {
            stamped = λ between since_old it.
                let before = table-seen log me between (since_old ++ old) new it in
                inv.listed old (since_old ++ old) new between since (record { later = since_old; grew = refl }) to it
                (record { during = since_old; grew = refl; none = any-own me (records_update s log) since_old (quiet before.later since_old before.grew) }) updated held;
            none_between = λ between since_old it.
                let listing : Entry = entry.Call me it.nth None (call.Query (query.DirtyPages log)) (outcome.Done it.reply) in
                let append : Entry = entry.Append me log it.lsn it.bytes in
                let whole_of : new ≡ (it.later ++ append ∷ []) ++ ((between ++ listing ∷ since_old) ++ old) =
                it.splits ∙ (sym (append_assoc it.later (append ∷ []) (between ++ listing ∷ (since_old ++ old))) ∙ ap (λ (l : List Entry). (it.later ++ append ∷ []) ++ l) (sym (append_assoc between (listing ∷ since_old) old))) in
                any-front (records_update s log) between (listing ∷ since_old) (quiet (it.later ++ append ∷ []) (between ++ listing ∷ since_old) whole_of);
            known = λ between since_old later during it is.
                known between (since_old ++ old) later during (checkpoint-seen log me between (since_old ++ old) new whole (to-whole new to) it) is;
          }

  -- a checkpoint of another log
  alone-other : (streams handle : ℕ) → (handle == log) ≡ false → (answered : Result ℕ CcError) (old new : List Entry) → CheckpointLeft u me streams handle answered old new → Alone old new
  alone-other streams handle apart answered old new left =
      follow-checkpoint-left u me (IsBeside s log opened) Alone alone-follows streams handle (by-checkpoint u s log opened) (λ rows lsn past. alone-append handle lsn (record_of_rows rows) past (rw apart refl)) answered old new left

  alone-logs : (streams handle : ℕ) → ((handle == log) ≡ true → IsKnownAt s log me whole) → leaves_to_updates s log (action.Checkpoint streams handle) ≡ true → (answered : Result ℕ CcError) (old new : List Entry) → CheckpointLeft u me streams handle answered old new → Alone old new
  alone-logs streams handle known leaves answered old new left = go (handle == log) refl leaves
    where
      go : (b : Bool) → (handle == log) ≡ b → (not b || nat_lt s streams) ≡ true → Alone old new
      go true same low =
          alone-checkpoint (known same) streams (lt-told s streams low) answered old new (subst (λ (n : ℕ). CheckpointLeft u me streams n answered old new) (eqb-true handle log same) left)
      go false apart low = alone-other streams handle apart answered old new left

  -- a line that is not refused for want where it updates the stream
  alone-left : (bindings : List Binding) (asked : Action) (told : Answer) (old new : List Entry) → leaves_to_updates s log asked ≡ true → opened ⊎ (initialises s asked ≡ false) → Line asked told → (checkpoints log asked ≡ true → IsKnownAt s log me whole) → Served u me bindings asked told old new → Alone old new
  alone-left bindings (action.Update file at bytes) told old new leaves may its_line known left =
      follow-update u me (IsBeside s log opened) Alone alone-follows file at bytes told old new (tt, tt)
      (λ answered first last so one. alone-update file at bytes told leaves its_line answered first last so one) left
  alone-left bindings (action.Checkpoint streams handle) told old new leaves may its_line known left =
      follow-served u me (IsBeside s log opened) Alone alone-follows bindings (action.Checkpoint streams handle) told old new (alone-logs streams handle known leaves) left
  alone-left bindings asked told old new leaves may its_line known left =
      follow-served u me (IsBeside s log opened) Alone alone-follows bindings asked told old new
      (admits-by u s log opened me Alone alone-follows alone-append alone-settle asked leaves (λ file at bytes is. absurd (cc is)) (λ streams handle is. absurd (cc is)) may) left

  pub alone-served : (bindings : List Binding) (asked : Action) (told : Answer) (old new : List Entry) → left_to_updates s log asked told ≡ true → opened ⊎ (initialises s asked ≡ false) → Line asked told → (checkpoints log asked ≡ true → IsKnownAt s log me whole) → Served u me bindings asked told old new → Alone old new
  alone-served bindings asked told old new fits may its_line known left = by (either (leaves_to_updates s log asked) (is_one_call asked && was_refused told) fits)
    where
      by : (leaves_to_updates s log asked ≡ true) ⊎ ((is_one_call asked && was_refused told) ≡ true) → Alone old new
      by (inl leaves) = alone-left bindings asked told old new leaves may its_line known left
      by (inr refused) =
          follow-refused u me (IsBeside s log opened) Alone alone-follows bindings asked told old new refused
          (λ it e nth stream past filed. alone-entry (entry.Call me nth stream it (outcome.Failed e)) past refl (λ since now. kept-failed s log me nth past it e stream now)) left
