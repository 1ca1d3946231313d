-- How what the journal says of a log steps at each kind of entry.
use Rattle.std.specs.Prelude.{◌≡◌, ℕ, Bool, true, false, ◌==◌, List, [], ◌∷◌, ◌++◌, max, refl}
use Rattle.std.proofs.Common.{◌∙◌, arith}
use Rattle.cc_entry.specs.declared.entry.Entry.{Entry}
use Rattle.cc_entry.specs.declared.entry.Entry.TheVariants as entry
use Rattle.cc_model.specs.Logs.{flushed_to, floor_of, flush_of, reach_of}
use Rattle.cc_model.specs.Turns.{Log, needs, is_quiet}
use Rattle.cc_laws.proofs.QuietSteps.{eqb-swapped, is_quiet-first, is_quiet-rest}

max-zero : (n : ℕ) → max 0 n ≡ n
max-zero n = omega arith

-- an entry steps where the log was flushed to, and its floor
pub flushed_to-entry : (e : Entry) (past : List Entry) (log : ℕ) → flushed_to (e ∷ past) log ≡ max (flush_of log e) (flushed_to past log)
unfolding flushed_to
flushed_to-entry e past log = refl

pub floor_of-entry : (e : Entry) (past : List Entry) (log : ℕ) → floor_of (e ∷ past) log ≡ max (reach_of log e) (floor_of past log)
unfolding floor_of
floor_of-entry e past log = refl

pub flushed_to-flushed : (pass handle to : ℕ) (past : List Entry) (log : ℕ) → (handle == log) ≡ true → flushed_to (entry.Flushed pass handle to ∷ past) log ≡ max to (flushed_to past log)
unfolding flushed_to
flushed_to-flushed pass handle to past log same = rw same refl

pub flushed_to-flushed_other : (pass handle to : ℕ) (past : List Entry) (log : ℕ) → (handle == log) ≡ false → flushed_to (entry.Flushed pass handle to ∷ past) log ≡ flushed_to past log
unfolding flushed_to
flushed_to-flushed_other pass handle to past log other = rw other (max-zero (flushed_to past log))

pub floor_of-flushed : (pass handle to : ℕ) (past : List Entry) (log : ℕ) → (handle == log) ≡ true → floor_of (entry.Flushed pass handle to ∷ past) log ≡ max to (floor_of past log)
unfolding floor_of
floor_of-flushed pass handle to past log same = rw same refl

pub floor_of-flushed_other : (pass handle to : ℕ) (past : List Entry) (log : ℕ) → (handle == log) ≡ false → floor_of (entry.Flushed pass handle to ∷ past) log ≡ floor_of past log
unfolding floor_of
floor_of-flushed_other pass handle to past log other = rw other (max-zero (floor_of past log))

pub floor_of-appended : (pass handle lsn : ℕ) (bytes : List ℕ) (past : List Entry) (log : ℕ) → (handle == log) ≡ true → floor_of (entry.Append pass handle lsn bytes ∷ past) log ≡ max lsn (floor_of past log)
unfolding floor_of
floor_of-appended pass handle lsn bytes past log same = rw same refl

pub floor_of-appended_other : (pass handle lsn : ℕ) (bytes : List ℕ) (past : List Entry) (log : ℕ) → (handle == log) ≡ false → floor_of (entry.Append pass handle lsn bytes ∷ past) log ≡ floor_of past log
unfolding floor_of
floor_of-appended_other pass handle lsn bytes past log other = rw other (max-zero (floor_of past log))

-- whether an entry flushes a log, and whether it gives one an LSN
abbrev pub is_flushed_entry : Entry → Bool
is_flushed_entry (entry.Flushed pass handle to) = true
is_flushed_entry other = false

abbrev pub gives_lsn : Entry → Bool
gives_lsn (entry.Flushed pass handle to) = true
gives_lsn (entry.Append pass handle lsn bytes) = true
gives_lsn other = false

-- no other entry moves them
flush_of-other : (e : Entry) (log : ℕ) → is_flushed_entry e ≡ false → flush_of log e ≡ 0
flush_of-other (entry.Flushed pass handle to) log kept = cc
flush_of-other other log kept = refl

reach_of-other : (e : Entry) (log : ℕ) → gives_lsn e ≡ false → reach_of log e ≡ 0
reach_of-other (entry.Flushed pass handle to) log kept = cc
reach_of-other (entry.Append pass handle lsn bytes) log kept = cc
reach_of-other other log kept = refl

pub flushed_to-other : (e : Entry) (past : List Entry) (log : ℕ) → is_flushed_entry e ≡ false → flushed_to (e ∷ past) log ≡ flushed_to past log
unfolding flushed_to
flushed_to-other e past log kept = rw (flush_of-other e log kept) (max-zero (flushed_to past log))

pub floor_of-other : (e : Entry) (past : List Entry) (log : ℕ) → gives_lsn e ≡ false → floor_of (e ∷ past) log ≡ floor_of past log
unfolding floor_of
floor_of-other e past log kept = rw (reach_of-other e log kept) (max-zero (floor_of past log))

-- an entry that does not need the log's turn moves neither
flush_of-unneeded : (e : Entry) (log : ℕ) → needs e (Log log) ≡ false → flush_of log e ≡ 0
flush_of-unneeded (entry.Flushed pass handle to) log n = rw (eqb-swapped log handle n) refl
flush_of-unneeded other log n = refl

reach_of-unneeded : (e : Entry) (log : ℕ) → needs e (Log log) ≡ false → reach_of log e ≡ 0
reach_of-unneeded (entry.Flushed pass handle to) log n = rw (eqb-swapped log handle n) refl
reach_of-unneeded (entry.Append pass handle lsn bytes) log n = rw (eqb-swapped log handle n) refl
reach_of-unneeded other log n = refl

pub flushed_to-unneeded : (e : Entry) (past : List Entry) (log : ℕ) → needs e (Log log) ≡ false → flushed_to (e ∷ past) log ≡ flushed_to past log
unfolding flushed_to
flushed_to-unneeded e past log n = rw (flush_of-unneeded e log n) (max-zero (flushed_to past log))

pub floor_of-unneeded : (e : Entry) (past : List Entry) (log : ℕ) → needs e (Log log) ≡ false → floor_of (e ∷ past) log ≡ floor_of past log
unfolding floor_of
floor_of-unneeded e past log n = rw (reach_of-unneeded e log n) (max-zero (floor_of past log))

-- nor do entries in a row that do not
pub flushed_to-quiet : (later past : List Entry) (log : ℕ) → is_quiet (Log log) later ≡ true → flushed_to (later ++ past) log ≡ flushed_to past log
flushed_to-quiet [] past log quiet = refl
flushed_to-quiet (e ∷ later) past log quiet =
    flushed_to-unneeded e (later ++ past) log (is_quiet-first (Log log) e later quiet) ∙ flushed_to-quiet later past log (is_quiet-rest (Log log) e later quiet)

pub floor_of-quiet : (later past : List Entry) (log : ℕ) → is_quiet (Log log) later ≡ true → floor_of (later ++ past) log ≡ floor_of past log
floor_of-quiet [] past log quiet = refl
floor_of-quiet (e ∷ later) past log quiet =
    floor_of-unneeded e (later ++ past) log (is_quiet-first (Log log) e later quiet) ∙ floor_of-quiet later past log (is_quiet-rest (Log log) e later quiet)
