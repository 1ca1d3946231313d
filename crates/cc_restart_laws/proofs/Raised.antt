-- A stream that is given to the next restart with the valid data length to which its updates raised it: that one makes the same.
use Rattle.std.specs.Prelude.{◌≡◌, ℕ, ◌+◌, ◌/◌, ◌%◌, ◌&&◌, ◌==◌, nat_le, nat_lt, min, List, [], ◌∷◌, length, slice_index, refl, if◌then◌else◌}
use Rattle.std.specs.List.{cons_option}
use Rattle.std.specs.declared.option.Option.{Option}
use Rattle.std.specs.declared.option.Option.TheVariants.{Some, None}
use Rattle.std.proofs.Common.{ap, sym, ◌∙◌}
use Rattle.cc_traits.specs.Log.{LogEntry}
use Rattle.cc_format.specs.declared.log.OldestRow.{OldestRow}
use Rattle.cc_redo.proofs.Again.{valid-again}
use Rattle.cc_redo.specs.Changes.{page_after}
use Rattle.cc_redo.specs.Heard.{Change, change_said, from_behind, from_of, from_said, is_given, oldest_given_in, raised_by_change, reading, readings, redone_by, redone_of, valid_behind, redone_valid}
use Rattle.cc_redo.specs.Reading.{said_by}
use Rattle.cc_redo.specs.declared.record.LogRecord.{LogRecord}
use Rattle.cc_redo.specs.declared.record.LogRecord.TheVariants.{Update, Checkpoint}
use Rattle.cc_redo.specs.declared.redo.Redo.{Redo}
use Rattle.cc_restart_laws.specs.Stops.{MakesFile, updated_byte, updates_in}

-- ---- what a restart takes from a log hangs on the number and the size of a stream alone, and on which streams are given

module _ (redo later : Redo) (streams_are : later.stream ≡ redo.stream) (sizes_are : later.size ≡ redo.size) where
  said-same : (o : Option LogRecord) → change_said later o ≡ change_said redo o
  said-same None = refl
  said-same (Some (Checkpoint rows)) = refl
  said-same (Some (Update n at bytes)) =
      ap (λ (m : ℕ). if (n == m) && nat_le (at + length bytes) later.size then Some (record { at = at; bytes = bytes }) else None) streams_are
      ∙ ap (λ (m : ℕ). if (n == redo.stream) && nat_le (at + length bytes) m then Some (record { at = at; bytes = bytes }) else None) sizes_are

  pub redone-same : (from : ℕ) (entries : List LogEntry) → redone_of later from (readings entries) ≡ redone_of redo from (readings entries)
  redone-same from [] = refl
  redone-same from (entry ∷ entries) =
      ap (λ (o : Option Change). cons_option (if nat_le from entry.lsn then o else None) (redone_of later from (readings entries))) (said-same (said_by entry.bytes))
      ∙ ap (cons_option (redone_by redo from (reading entry))) (redone-same from entries)

  pub updates-same : (entries : List LogEntry) → updates_in later entries ≡ updates_in redo entries
  updates-same [] = refl
  updates-same (entry ∷ entries) =
      ap (λ (o : Option Change). cons_option o (updates_in later entries)) (said-same (said_by entry.bytes)) ∙ ap (cons_option (change_said redo (said_by entry.bytes))) (updates-same entries)

  pub behind-same : (entries : List LogEntry) (valid : ℕ) → valid_behind (readings entries) later valid ≡ valid_behind (readings entries) redo valid
  behind-same [] valid = refl
  behind-same (entry ∷ entries) valid =
      ap (λ (o : Option Change). valid_behind (readings entries) later (raised_by_change valid o)) (said-same (said_by entry.bytes)) ∙ behind-same entries (raised_by_change valid (change_said redo (said_by entry.bytes)))

module _ (streams others : List Redo) (given : (n : ℕ) → is_given others n ≡ is_given streams n) where
  oldest-same : (lsn : ℕ) (rows : List OldestRow) → oldest_given_in others lsn rows ≡ oldest_given_in streams lsn rows
  oldest-same lsn [] = refl
  oldest-same lsn (row ∷ rows) =
      ap (λ b. oldest_given_in others (if b then min lsn row.oldest else lsn) rows) (given row.stream) ∙ oldest-same (if is_given streams row.stream then min lsn row.oldest else lsn) rows

  said-from : (from lsn : ℕ) (o : Option LogRecord) → from_said others from (record { lsn = lsn; says = o }) ≡ from_said streams from (record { lsn = lsn; says = o })
  said-from from lsn None = refl
  said-from from lsn (Some (Update stream at bytes)) = refl
  said-from from lsn (Some (Checkpoint rows)) = oldest-same lsn rows

  pub from-same : (from : ℕ) (entries : List LogEntry) → from_behind others from (readings entries) ≡ from_behind streams from (readings entries)
  from-same from [] = refl
  from-same from (entry ∷ entries) =
      ap (λ (n : ℕ). from_behind others n (readings entries)) (said-from from entry.lsn (said_by entry.bytes)) ∙ from-same (from_said streams from (reading entry)) entries

pub makes-same : (streams others : List Redo) (kept : List LogEntry) (redo later : Redo) (pages : ℕ → List ℕ) (first : ℕ) → later.stream ≡ redo.stream → later.size ≡ redo.size → later.valid ≡ redone_valid (readings kept) redo →
    ((n : ℕ) → is_given others n ≡ is_given streams n) → (page : ℕ) (bytes : List ℕ) → MakesFile streams kept redo pages first page bytes → MakesFile others kept later pages first page bytes
makes-same streams others kept redo later pages first same_stream same_size is_raised given page bytes makes = λ i at.
    ap (λ (v : ℕ). if nat_lt i v then slice_index (page_after (redone_of later (from_of others (readings kept)) (readings kept)) (i / 4096) bytes) (i % 4096) else 0) valid
    ∙ (ap (λ (l : List Change). if nat_lt i (redone_valid (readings kept) redo) then slice_index (page_after l (i / 4096) bytes) (i % 4096) else 0) changes
    ∙ (makes i at ∙ sym (ap (λ (l : List Change). updated_byte pages first l i) (updates-same redo later same_stream same_size kept))))
  where
    valid : redone_valid (readings kept) later ≡ redone_valid (readings kept) redo
    valid =
        ap (valid_behind (readings kept) later) is_raised
        ∙ (behind-same redo later same_stream same_size kept (redone_valid (readings kept) redo) ∙ valid-again (readings kept) redo redo.valid)

    changes : redone_of later (from_of others (readings kept)) (readings kept) ≡ redone_of redo (from_of streams (readings kept)) (readings kept)
    changes =
        ap (λ (n : ℕ). redone_of later n (readings kept)) (from-same streams others given 1 kept)
        ∙ redone-same redo later same_stream same_size (from_of streams (readings kept)) kept
