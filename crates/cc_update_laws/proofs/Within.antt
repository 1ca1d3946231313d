-- Each update that a run recorded ends within the size of its stream, so a restart passes over none of them.
use Rattle.std.specs.Prelude.{◌≡◌, ℕ, suc, ◌+◌, ◌≤◌, Bool, true, false, ◌==◌, List, [], ◌∷◌, ◌++◌, length, refl, if◌then◌else◌}
use Rattle.std.specs.List.{cons_option, filter}
use Rattle.std.specs.declared.option.Option.{Option}
use Rattle.std.specs.declared.option.Option.TheVariants.{Some, None}
use Rattle.std.proofs.Common.{ap, subst, ◌∙◌, arith}
use Rattle.std.proofs.lemmas.Bool.{eqb-true}
use Rattle.cc_entry.specs.declared.entry.Entry.{Entry}
use Rattle.cc_entry.specs.declared.entry.Entry.TheVariants as entry
use Rattle.cc_log.specs.Turn.{appended}
use Rattle.cc_model.specs.Good.{IsGoodSoFar}
use Rattle.cc_model.specs.History.{history}
use Rattle.cc_model.specs.Objects.{had_map}
use Rattle.cc_model.specs.Setup.{Setup}
use Rattle.cc_model.specs.Touches.{size_of}
use Rattle.cc_traits.specs.Log.{LogEntry}
use Rattle.cc_own.proofs.CallsKeep.{good-tail}
use Rattle.cc_own.proofs.HeldPages.{held-within}
use Rattle.cc_redo.specs.Heard.{Change, change_said}
use Rattle.cc_redo.specs.Reading.{said_by}
use Rattle.cc_redo.specs.declared.record.LogRecord.{LogRecord}
use Rattle.cc_redo.specs.declared.record.LogRecord.TheVariants.{Update, Checkpoint}
use Rattle.cc_redo.specs.declared.redo.Redo.{Redo}
use Rattle.cc_restart_laws.proofs.Contents.{had-more, size-more}
use Rattle.cc_restart_laws.proofs.Entries.{updated-rest}
use Rattle.cc_restart_laws.proofs.Listed.{append-at, held-had}
use Rattle.cc_restart_laws.proofs.Logs.{all-among, all-both, all-first, is-appended, update-said}
use Rattle.cc_restart_laws.proofs.Records.{may-append}
use Rattle.cc_restart_laws.proofs.Redoing.{IsAmong}
use Rattle.cc_restart_laws.specs.Stops.{LogKeeps, updates_in}
use Rattle.cc_restart_laws.specs.Updates.{IsUpdated, is_update_of}
use Rattle.cc_update_laws.specs.Logs.{EachEndsWithin, EndsWithin}

module _ (u : Setup) (past : List Entry) (s log size : ℕ) (good : IsGoodSoFar u past) (updated : IsUpdated s log past) (sized : had_map (history past s) ≡ true → size_of (history past s) ≡ size) where
  -- an update that was recorded ends within the size
  within : (x : LogEntry) (at : ℕ) (bytes : List ℕ) → IsAmong (appended past log) x → said_by x.bytes ≡ Some (Update s at bytes) → at + length bytes ≤ size
  within x at bytes among said =
      let k = append-at log x.lsn x.bytes past (is-appended log x past among) in
      let e : Entry = entry.Append k.pass log x.lsn x.bytes in
      let good_all : IsGoodSoFar u (k.later ++ e ∷ k.front) = subst (λ (l : List Entry). IsGoodSoFar u l) k.splits good in
      let updated_all : IsUpdated s log (k.later ++ e ∷ k.front) = subst (λ (l : List Entry). IsUpdated s log l) k.splits updated in
      let good_e : IsGoodSoFar u (e ∷ k.front) = good-tail u k.later (e ∷ k.front) good_all in
      let updated_e : IsUpdated s log (e ∷ k.front) = updated-rest s log k.later (e ∷ k.front) updated_all in
      let good_front : IsGoodSoFar u k.front = good-tail u (e ∷ []) k.front good_e in
      let may = may-append s log k.pass x.lsn at bytes x.bytes k.front updated_e said in
      let pin = may.pinned in
      let inside = held-within u k.pass s may.hold pin.it k.front good_front (record { found = pin.found; mine = pin.mine }) in
      let had : had_map (history k.front s) ≡ true = held-had u k.front s may.hold pin.it good_front pin.found in
      let had_e : had_map (history (e ∷ k.front) s) ≡ true = had-more u s log (e ∷ []) k.front had in
      let size_e : size_of (history (e ∷ k.front) s) ≡ size_of (history k.front s) = size-more u s log (e ∷ []) k.front good_e updated_e had in
      let size_all : size_of (history (k.later ++ e ∷ k.front) s) ≡ size_of (history (e ∷ k.front) s) = size-more u s log k.later (e ∷ k.front) good_all updated_all had_e in
      let had_past : had_map (history past s) ≡ true = ap (λ (l : List Entry). had_map (history l s)) k.splits ∙ had-more u s log k.later (e ∷ k.front) had_e in
      let size_past : size_of (history past s) ≡ size_of (history (k.later ++ e ∷ k.front) s) = ap (λ (l : List Entry). size_of (history l s)) k.splits in
      let its : size_of (history past s) ≡ size = sized had_past in
      let from = pin.from in
      let long = pin.long in
      omega (arith, inside, its, size_past, size_all, size_e, from, long)

  ends-within : (x : LogEntry) → IsAmong (appended past log) x → (o : Option LogRecord) → said_by x.bytes ≡ o → EndsWithin s size o
  ends-within x among None said = tt
  ends-within x among (Some (Checkpoint rows)) said = tt
  ends-within x among (Some (Update stream at bytes)) said = λ same. within x at bytes among (said ∙ ap (λ (n : ℕ). Some (Update n at bytes)) same)

  pub appended-within : EachEndsWithin s size (appended past log)
  appended-within = all-among (λ (x : LogEntry). EndsWithin s size (said_by x.bytes)) (appended past log) (λ x among. ends-within x among (said_by x.bytes) refl)

  -- so it is of what the log had before, and of what is kept
  pub kept-within : (begun kept : List LogEntry) (durable : ℕ) → EachEndsWithin s size begun → LogKeeps durable (begun ++ appended past log) kept → EachEndsWithin s size kept
  kept-within begun kept durable before keeps =
      all-first (λ (x : LogEntry). EndsWithin s size (said_by x.bytes)) kept keeps.rest
      (subst (EachEndsWithin s size) keeps.splits (all-both (λ (x : LogEntry). EndsWithin s size (said_by x.bytes)) begun (appended past log) before appended-within))

-- ---- a restart takes each of them

module _ (redo : Redo) where
  -- whether an entry records an update of the stream
  abbrev is_record : LogEntry → Bool
  is_record x = is_update_of redo.stream (said_by x.bytes)

  apart : (stream at : ℕ) (bytes : List ℕ) → (stream == redo.stream) ≡ false → change_said redo (Some (Update stream at bytes)) ≡ None
  apart stream at bytes other = rw other refl

  taken : (stream at : ℕ) (bytes : List ℕ) → stream ≡ redo.stream → at + length bytes ≤ redo.size → change_said redo (Some (Update stream at bytes)) ≡ Some (record { at = at; bytes = bytes })
  taken stream at bytes same ends = ap (λ (n : ℕ). change_said redo (Some (Update n at bytes))) same ∙ update-said redo at bytes ends

  one : (o : Option LogRecord) → EndsWithin redo.stream redo.size o → (rest : List Change) (n : ℕ) → length rest ≡ n → length (cons_option (change_said redo o) rest) ≡ (if is_update_of redo.stream o then suc n else n)
  one None ends rest n is = is
  one (Some (Checkpoint rows)) ends rest n is = is
  one (Some (Update stream at bytes)) ends rest n is = by (stream == redo.stream) refl
    where
      by : (b : Bool) → (stream == redo.stream) ≡ b → length (cons_option (change_said redo (Some (Update stream at bytes))) rest) ≡ (if b then suc n else n)
      by true same =
          let its : stream ≡ redo.stream = eqb-true stream redo.stream same in
          ap (λ (o : Option Change). length (cons_option o rest)) (taken stream at bytes its (ends its)) ∙ ap suc is
      by false other = ap (λ (o : Option Change). length (cons_option o rest)) (apart stream at bytes other) ∙ is

  sized : (b : Bool) (x : LogEntry) (xs : List LogEntry) → (if b then suc (length xs) else length xs) ≡ length (if b then x ∷ xs else xs)
  sized true x xs = refl
  sized false x xs = refl

  pub kept-counted : (kept : List LogEntry) → EachEndsWithin redo.stream redo.size kept → length (updates_in redo kept) ≡ length (filter is_record kept)
  kept-counted [] all = refl
  kept-counted (x ∷ kept) all =
      let rest = kept-counted kept all.1 in
      one (said_by x.bytes) all.0 (updates_in redo kept) (length (filter is_record kept)) rest ∙ sized (is_update_of redo.stream (said_by x.bytes)) x (filter is_record kept)
