-- What an action that is read names and moves, by cases on its verb.
use Rattle.std.proofs.Common.{◌≡◌, ℕ, suc, ◌+◌, Bool, true, false, Some, None, is_some, List, [], ◌∷◌, ◌++◌, length, if◌then◌else◌, codes, refl, ap, sym, ◌∙◌, subst, length-append, arith}
use Rattle.cc_script.specs.declared.script.Mode.{Mode}
use Rattle.cc_script.specs.declared.script.Mode.TheVariants as mode
use Rattle.cc_script.specs.declared.stretch.Stretch.{Stretch}
use Rattle.cc_script.specs.declared.script.StreamLine.{StreamLine}
use Rattle.cc_script.specs.declared.script.Action.{Action}
use Rattle.cc_script.specs.declared.script.Action.TheVariants as action
use Rattle.cc_script.specs.declared.verb.Verb.{Verb}
use Rattle.cc_script.specs.declared.verb.Verb.TheVariants as verb
use Rattle.cc_script.specs.Words.{parsed_number, number_between, name_of_word, parsed_bytes}
use Rattle.cc_script.specs.HoldNames.{word_of, new_word}
use Rattle.cc_script.specs.Actions.{next, flag, ended, parsed_file, parsed_span, parsed_optional_span, parsed_optional_number, parsed_quota, parsed_sizes, parsed_initialise, parsed_uninitialise, parsed_copy_read, parsed_copy_write, parsed_zero, parsed_nc_read, parsed_nc_write, parsed_set_sizes, parsed_flush, parsed_purge, parsed_discard, parsed_set_log, parsed_append, parsed_log_flush}
use Rattle.cc_script.specs.HoldActions.{parsed_stretch, parsed_map, parsed_pin_read, parsed_pin_mapped, parsed_prepare_pin, parsed_held_read, parsed_pinned_write, parsed_stamp, parsed_set_dirty, parsed_unpin, parsed_repin, parsed_unpin_repinned, parsed_mdl_read, parsed_mdl_write, parsed_mdl_bytes, parsed_mdl_store, parsed_mdl_done, parsed_mdl_abort}
use Rattle.cc_script.specs.EventActions.{nc_read_in, nc_write_in, parsed_nc_store_page, parsed_ask_ahead, parsed_set_granularity, parsed_set_attributes, parsed_set_threshold, parsed_fill, parsed_drop, parsed_write_begin, parsed_write_end, parsed_sync, parsed_defer, parsed_async_read}
use Rattle.cc_script.specs.QueryLines.{parsed_query}
use Rattle.cc_script.specs.ShimActions.{parsed_read, parsed_write, parsed_update, parsed_levels, parsed_settle, parsed_checkpoint, parsed_lock, parsed_unlock}
use Rattle.cc_script.specs.ActionTable.{action_of}
use Rattle.cc_script.specs.Modes.{Both, RunAlone, stands, verb_modes}
use Rattle.cc_script.specs.Within.{IsFileWithin}
use Rattle.cc_script.proofs.Steps.{then-gives, next-gives, ended-gives, between-gives, file-gives, bytes-give}
use Rattle.cc_script.proofs.Plain.{IsRead, IsPlain, none-bound}
use Rattle.cc_script.proofs.EventsRead.{nc_read_page-gives, nc_store_page-gives, nc_write_page-gives, set_granularity-gives, set_attributes-gives, set_threshold-gives, fill-gives, drop-gives, write_begin-gives, write_end-gives, sync-gives, scan-gives, ask_ahead-gives, ahead_step-gives, tick-gives, defer-gives, post-gives, async_read-gives, complete-gives}
use Rattle.cc_script.proofs.QueriesRead.{query-gives}
use Rattle.cc_script.proofs.ShimRead.{read-gives, write-gives, update-gives, levels-gives, settle-gives, checkpoint-gives, lock-gives, unlock-gives}

-- a new word has the next number
new-gives : (names : List (List ℕ)) (name : List ℕ) (found : ℕ × List (List ℕ)) → new_word names name ≡ Some found → (found.0 ≡ length names) × (length found.1 ≡ suc (length names))
unfolding new_word
new-gives names name found e = either (is_some (word_of names name)) e
  where
    either : (t : Bool) → (if t then None else Some (length names, names ++ name ∷ [])) ≡ Some found → (found.0 ≡ length names) × (length found.1 ≡ suc (length names))
    either true g = absurd (cc)
    either false g =
        let same : (let it : ℕ × List (List ℕ) = (length names, names ++ name ∷ []) in it) ≡ found = cc in
        let len : length (names ++ name ∷ []) ≡ length names + 1 = length-append names (name ∷ []) in
        subst (λ (found : ℕ × List (List ℕ)). (found.0 ≡ length names) × (length found.1 ≡ suc (length names))) same (refl, omega (arith, len))

-- the hold that a line makes is on a file of the script, and its word has the next number
record IsMade (streams : List StreamLine) (names : List (List ℕ)) (on : Stretch) (bound : List (List ℕ)) : Type 0 where
  file : IsFileWithin streams on.file
  word : (on.word ≡ length names) × (length bound ≡ suc (length names))

stretch-gives : (streams : List StreamLine) (names ws : List (List ℕ)) (on : Stretch) (bound more : List (List ℕ)) → parsed_stretch streams names ws ≡ Some (on, bound, more) → IsMade streams names on bound
unfolding parsed_stretch
stretch-gives streams names ws on bound more e =
    let file = then-gives (next (parsed_file streams) ws) _ (on, bound, more) e in
    let at = then-gives (next parsed_number file.0.1) _ (on, bound, more) file.2 in
    let len = then-gives (next parsed_number at.0.1) _ (on, bound, more) at.2 in
    let name = then-gives (next name_of_word len.0.1) _ (on, bound, more) len.2 in
    let made = then-gives (new_word names name.0.0) _ (on, bound, more) name.2 in
    let f = next-gives (parsed_file streams) ws file.0.0 file.0.1 file.1 in
    let number = new-gives names name.0.0 made.0 made.1 in
    let pair : (let it : Stretch × List (List ℕ) × List (List ℕ) = (record { file = file.0.0; at = at.0.0; len = len.0.0; word = made.0.0 }, made.0.1, name.0.1) in it) ≡ (on, bound, more) = cc in
    let same_file : file.0.0 ≡ on.file = ap (λ (it : Stretch × List (List ℕ) × List (List ℕ)). it.0.file) pair in
    let same_word : made.0.0 ≡ on.word = ap (λ (it : Stretch × List (List ℕ) × List (List ℕ)). it.0.word) pair in
    let same_bound : made.0.1 ≡ bound = ap (λ (it : Stretch × List (List ℕ) × List (List ℕ)). it.1) pair in
    record {
      file = subst (IsFileWithin streams) same_file (file-gives streams f.word file.0.0 f.reads);
      word = (sym same_word ∙ number.0, ap length (sym same_bound) ∙ number.1);
    }

initialise-gives : (m : Mode) (streams : List StreamLine) (ws : List (List ℕ)) (a : Action) → parsed_initialise streams ws ≡ Some a → IsPlain m streams a
unfolding parsed_initialise
initialise-gives m streams ws a e =
    let file = then-gives (next (parsed_file streams) ws) _ a e in
    let sizes = then-gives (parsed_sizes file.0.1) _ a file.2 in
    let quota = then-gives (parsed_quota sizes.0.1) _ a sizes.2 in
    let end = ended-gives _ _ a quota.2 in
    let f = next-gives (parsed_file streams) ws file.0.0 file.0.1 file.1 in
    subst (IsPlain m streams) end.1
    (record { file = file-gives streams f.word file.0.0 f.reads; moved = omega arith; numbered = λ n. refl; in_mode = refl })

uninitialise-gives : (m : Mode) (streams : List StreamLine) (ws : List (List ℕ)) (a : Action) → parsed_uninitialise streams ws ≡ Some a → IsPlain m streams a
unfolding parsed_uninitialise
uninitialise-gives m streams ws a e =
    let file = then-gives (next (parsed_file streams) ws) _ a e in
    let truncate = then-gives (parsed_optional_number file.0.1) _ a file.2 in
    let f = next-gives (parsed_file streams) ws file.0.0 file.0.1 file.1 in
    let same : action.Uninitialise file.0.0 truncate.0 ≡ a = cc in
    subst (IsPlain m streams) same
    (record { file = file-gives streams f.word file.0.0 f.reads; moved = omega arith; numbered = λ n. refl; in_mode = refl })

copy_read-gives : (m : Mode) (streams : List StreamLine) (ws : List (List ℕ)) (a : Action) → parsed_copy_read streams ws ≡ Some a → IsPlain m streams a
unfolding parsed_copy_read
copy_read-gives m streams ws a e =
    let file = then-gives (next (parsed_file streams) ws) _ a e in
    let at = then-gives (next parsed_number file.0.1) _ a file.2 in
    let len = then-gives (next (number_between 0 2097152) at.0.1) _ a at.2 in
    let end = ended-gives _ _ a len.2 in
    let f = next-gives (parsed_file streams) ws file.0.0 file.0.1 file.1 in
    let l = next-gives (number_between 0 2097152) at.0.1 len.0.0 len.0.1 len.1 in
    let b = between-gives 0 2097152 l.word len.0.0 l.reads in
    subst (IsPlain m streams) end.1
    (record { file = file-gives streams f.word file.0.0 f.reads; moved = b.most; numbered = λ n. refl; in_mode = refl })

copy_write-gives : (m : Mode) (streams : List StreamLine) (ws : List (List ℕ)) (a : Action) → parsed_copy_write streams ws ≡ Some a → IsPlain m streams a
unfolding parsed_copy_write
copy_write-gives m streams ws a e =
    let file = then-gives (next (parsed_file streams) ws) _ a e in
    let at = then-gives (next parsed_number file.0.1) _ a file.2 in
    let bytes = then-gives (next parsed_bytes at.0.1) _ a at.2 in
    let end = ended-gives _ _ a bytes.2 in
    let f = next-gives (parsed_file streams) ws file.0.0 file.0.1 file.1 in
    let b = next-gives parsed_bytes at.0.1 bytes.0.0 bytes.0.1 bytes.1 in
    subst (IsPlain m streams) end.1
    (record { file = file-gives streams f.word file.0.0 f.reads; moved = bytes-give b.word bytes.0.0 b.reads; numbered = λ n. refl; in_mode = refl })

zero-gives : (m : Mode) (streams : List StreamLine) (ws : List (List ℕ)) (a : Action) → parsed_zero streams ws ≡ Some a → IsPlain m streams a
unfolding parsed_zero
zero-gives m streams ws a e =
    let file = then-gives (next (parsed_file streams) ws) _ a e in
    let span = then-gives (parsed_span file.0.1) _ a file.2 in
    let end = ended-gives _ _ a span.2 in
    let f = next-gives (parsed_file streams) ws file.0.0 file.0.1 file.1 in
    subst (IsPlain m streams) end.1
    (record { file = file-gives streams f.word file.0.0 f.reads; moved = omega arith; numbered = λ n. refl; in_mode = refl })

nc_read-gives : (streams : List StreamLine) (ws : List (List ℕ)) (a : Action) → parsed_nc_read streams ws ≡ Some a → IsPlain mode.Run streams a
unfolding parsed_nc_read
nc_read-gives streams ws a e =
    let file = then-gives (next (parsed_file streams) ws) _ a e in
    let at = then-gives (next parsed_number file.0.1) _ a file.2 in
    let len = then-gives (next (number_between 0 2097152) at.0.1) _ a at.2 in
    let end = ended-gives _ _ a len.2 in
    let f = next-gives (parsed_file streams) ws file.0.0 file.0.1 file.1 in
    let l = next-gives (number_between 0 2097152) at.0.1 len.0.0 len.0.1 len.1 in
    let b = between-gives 0 2097152 l.word len.0.0 l.reads in
    subst (IsPlain mode.Run streams) end.1
    (record { file = file-gives streams f.word file.0.0 f.reads; moved = b.most; numbered = λ n. refl; in_mode = refl })

nc_write-gives : (streams : List StreamLine) (ws : List (List ℕ)) (a : Action) → parsed_nc_write streams ws ≡ Some a → IsPlain mode.Run streams a
unfolding parsed_nc_write
nc_write-gives streams ws a e =
    let file = then-gives (next (parsed_file streams) ws) _ a e in
    let at = then-gives (next parsed_number file.0.1) _ a file.2 in
    let bytes = then-gives (next parsed_bytes at.0.1) _ a at.2 in
    let end = ended-gives _ _ a bytes.2 in
    let f = next-gives (parsed_file streams) ws file.0.0 file.0.1 file.1 in
    let b = next-gives parsed_bytes at.0.1 bytes.0.0 bytes.0.1 bytes.1 in
    subst (IsPlain mode.Run streams) end.1
    (record { file = file-gives streams f.word file.0.0 f.reads; moved = bytes-give b.word bytes.0.0 b.reads; numbered = λ n. refl; in_mode = refl })

set_sizes-gives : (m : Mode) (streams : List StreamLine) (ws : List (List ℕ)) (a : Action) → parsed_set_sizes streams ws ≡ Some a → IsPlain m streams a
unfolding parsed_set_sizes
set_sizes-gives m streams ws a e =
    let file = then-gives (next (parsed_file streams) ws) _ a e in
    let allocation = then-gives (next parsed_number file.0.1) _ a file.2 in
    let size = then-gives (next parsed_number allocation.0.1) _ a allocation.2 in
    let end = ended-gives _ _ a size.2 in
    let f = next-gives (parsed_file streams) ws file.0.0 file.0.1 file.1 in
    subst (IsPlain m streams) end.1
    (record { file = file-gives streams f.word file.0.0 f.reads; moved = omega arith; numbered = λ n. refl; in_mode = refl })

flush-gives : (m : Mode) (streams : List StreamLine) (ws : List (List ℕ)) (a : Action) → parsed_flush streams ws ≡ Some a → IsPlain m streams a
unfolding parsed_flush
flush-gives m streams ws a e =
    let file = then-gives (next (parsed_file streams) ws) _ a e in
    let span = then-gives (parsed_optional_span file.0.1) _ a file.2 in
    let f = next-gives (parsed_file streams) ws file.0.0 file.0.1 file.1 in
    let same : action.Flush file.0.0 span.0 ≡ a = cc in
    subst (IsPlain m streams) same
    (record { file = file-gives streams f.word file.0.0 f.reads; moved = omega arith; numbered = λ n. refl; in_mode = refl })

purge-gives : (m : Mode) (streams : List StreamLine) (ws : List (List ℕ)) (a : Action) → parsed_purge streams ws ≡ Some a → IsPlain m streams a
unfolding parsed_purge
purge-gives m streams ws a e =
    let file = then-gives (next (parsed_file streams) ws) _ a e in
    let span = then-gives (parsed_optional_span file.0.1) _ a file.2 in
    let f = next-gives (parsed_file streams) ws file.0.0 file.0.1 file.1 in
    let same : action.Purge file.0.0 span.0 ≡ a = cc in
    subst (IsPlain m streams) same
    (record { file = file-gives streams f.word file.0.0 f.reads; moved = omega arith; numbered = λ n. refl; in_mode = refl })

discard-gives : (m : Mode) (streams : List StreamLine) (ws : List (List ℕ)) (a : Action) → parsed_discard streams ws ≡ Some a → IsPlain m streams a
unfolding parsed_discard
discard-gives m streams ws a e =
    let file = then-gives (next (parsed_file streams) ws) _ a e in
    let span = then-gives (parsed_optional_span file.0.1) _ a file.2 in
    let f = next-gives (parsed_file streams) ws file.0.0 file.0.1 file.1 in
    let same : action.Discard file.0.0 span.0 ≡ a = cc in
    subst (IsPlain m streams) same
    (record { file = file-gives streams f.word file.0.0 f.reads; moved = omega arith; numbered = λ n. refl; in_mode = refl })

set_log-gives : (m : Mode) (streams : List StreamLine) (ws : List (List ℕ)) (a : Action) → parsed_set_log streams ws ≡ Some a → IsPlain m streams a
unfolding parsed_set_log
set_log-gives m streams ws a e =
    let file = then-gives (next (parsed_file streams) ws) _ a e in
    let log = then-gives (next (number_between 0 3) file.0.1) _ a file.2 in
    let end = ended-gives _ _ a log.2 in
    let f = next-gives (parsed_file streams) ws file.0.0 file.0.1 file.1 in
    subst (IsPlain m streams) end.1
    (record { file = file-gives streams f.word file.0.0 f.reads; moved = omega arith; numbered = λ n. refl; in_mode = refl })

append-gives : (m : Mode) (streams : List StreamLine) (ws : List (List ℕ)) (a : Action) → parsed_append ws ≡ Some a → IsPlain m streams a
unfolding parsed_append
append-gives m streams ws a e =
    let log = then-gives (next (number_between 0 3) ws) _ a e in
    let bytes = then-gives (next parsed_bytes log.0.1) _ a log.2 in
    let end = ended-gives _ _ a bytes.2 in
    let b = next-gives parsed_bytes log.0.1 bytes.0.0 bytes.0.1 bytes.1 in
    subst (IsPlain m streams) end.1
    (record { file = tt; moved = bytes-give b.word bytes.0.0 b.reads; numbered = λ n. refl; in_mode = refl })

log_flush-gives : (m : Mode) (streams : List StreamLine) (ws : List (List ℕ)) (a : Action) → parsed_log_flush ws ≡ Some a → IsPlain m streams a
unfolding parsed_log_flush
log_flush-gives m streams ws a e =
    let log = then-gives (next (number_between 0 3) ws) _ a e in
    let lsn = then-gives (next (number_between 1 4611686018427387904) log.0.1) _ a log.2 in
    let end = ended-gives _ _ a lsn.2 in
    subst (IsPlain m streams) end.1 (record { file = tt; moved = omega arith; numbered = λ n. refl; in_mode = refl })

map-gives : (m : Mode) (streams : List StreamLine) (names ws : List (List ℕ)) (found : Action × List (List ℕ)) → parsed_map streams names ws ≡ Some found → IsRead m streams (length names) found
unfolding parsed_map
map-gives m streams names ws found e =
    let on = then-gives (parsed_stretch streams names ws) _ found e in
    let end = ended-gives _ _ found on.2 in
    let made = stretch-gives streams names ws on.0.0 on.0.1 on.0.2 on.1 in
    subst (IsRead m streams (length names)) end.1 (record { file = made.file; moved = omega arith; numbered = made.word; in_mode = refl })

pin_read-gives : (m : Mode) (streams : List StreamLine) (names ws : List (List ℕ)) (found : Action × List (List ℕ)) → parsed_pin_read streams names ws ≡ Some found → IsRead m streams (length names) found
unfolding parsed_pin_read
pin_read-gives m streams names ws found e =
    let on = then-gives (parsed_stretch streams names ws) _ found e in
    let end = ended-gives _ _ found on.2 in
    let made = stretch-gives streams names ws on.0.0 on.0.1 on.0.2 on.1 in
    subst (IsRead m streams (length names)) end.1 (record { file = made.file; moved = omega arith; numbered = made.word; in_mode = refl })

pin_mapped-gives : (m : Mode) (streams : List StreamLine) (names ws : List (List ℕ)) (a : Action) → parsed_pin_mapped names ws ≡ Some a → IsPlain m streams a
unfolding parsed_pin_mapped
pin_mapped-gives m streams names ws a e =
    let word = then-gives (next (word_of names) ws) _ a e in
    let end = ended-gives _ _ a word.2 in
    subst (IsPlain m streams) end.1 (record { file = tt; moved = omega arith; numbered = λ n. refl; in_mode = refl })

prepare_pin-gives : (m : Mode) (streams : List StreamLine) (names ws : List (List ℕ)) (found : Action × List (List ℕ)) → parsed_prepare_pin streams names ws ≡ Some found → IsRead m streams (length names) found
unfolding parsed_prepare_pin
prepare_pin-gives m streams names ws found e =
    let on = then-gives (parsed_stretch streams names ws) _ found e in
    let end = ended-gives _ _ found on.2 in
    let made = stretch-gives streams names ws on.0.0 on.0.1 on.0.2 on.1 in
    subst (IsRead m streams (length names)) end.1 (record { file = made.file; moved = omega arith; numbered = made.word; in_mode = refl })

held_read-gives : (m : Mode) (streams : List StreamLine) (names ws : List (List ℕ)) (a : Action) → parsed_held_read names ws ≡ Some a → IsPlain m streams a
unfolding parsed_held_read
held_read-gives m streams names ws a e =
    let word = then-gives (next (word_of names) ws) _ a e in
    let at = then-gives (next parsed_number word.0.1) _ a word.2 in
    let len = then-gives (next (number_between 0 2097152) at.0.1) _ a at.2 in
    let end = ended-gives _ _ a len.2 in
    let l = next-gives (number_between 0 2097152) at.0.1 len.0.0 len.0.1 len.1 in
    let b = between-gives 0 2097152 l.word len.0.0 l.reads in
    subst (IsPlain m streams) end.1 (record { file = tt; moved = b.most; numbered = λ n. refl; in_mode = refl })

pinned_write-gives : (m : Mode) (streams : List StreamLine) (names ws : List (List ℕ)) (a : Action) → parsed_pinned_write names ws ≡ Some a → IsPlain m streams a
unfolding parsed_pinned_write
pinned_write-gives m streams names ws a e =
    let word = then-gives (next (word_of names) ws) _ a e in
    let at = then-gives (next parsed_number word.0.1) _ a word.2 in
    let bytes = then-gives (next parsed_bytes at.0.1) _ a at.2 in
    let end = ended-gives _ _ a bytes.2 in
    let b = next-gives parsed_bytes at.0.1 bytes.0.0 bytes.0.1 bytes.1 in
    subst (IsPlain m streams) end.1 (record { file = tt; moved = bytes-give b.word bytes.0.0 b.reads; numbered = λ n. refl; in_mode = refl })

set_dirty-gives : (m : Mode) (streams : List StreamLine) (names ws : List (List ℕ)) (a : Action) → parsed_set_dirty names ws ≡ Some a → IsPlain m streams a
unfolding parsed_set_dirty
set_dirty-gives m streams names ws a e =
    let word = then-gives (next (word_of names) ws) _ a e in
    let lsn = then-gives (parsed_stamp word.0.1) _ a word.2 in
    let same : action.SetDirty word.0.0 lsn.0 ≡ a = cc in
    subst (IsPlain m streams) same (record { file = tt; moved = omega arith; numbered = λ n. refl; in_mode = refl })

unpin-gives : (m : Mode) (streams : List StreamLine) (names ws : List (List ℕ)) (a : Action) → parsed_unpin names ws ≡ Some a → IsPlain m streams a
unfolding parsed_unpin
unpin-gives m streams names ws a e =
    let word = then-gives (next (word_of names) ws) _ a e in
    let end = ended-gives _ _ a word.2 in
    subst (IsPlain m streams) end.1 (record { file = tt; moved = omega arith; numbered = λ n. refl; in_mode = refl })

repin-gives : (m : Mode) (streams : List StreamLine) (names ws : List (List ℕ)) (found : Action × List (List ℕ)) → parsed_repin names ws ≡ Some found → IsRead m streams (length names) found
unfolding parsed_repin
repin-gives m streams names ws found e =
    let word = then-gives (next (word_of names) ws) _ found e in
    let name = then-gives (next name_of_word word.0.1) _ found word.2 in
    let bound = then-gives (new_word names name.0.0) _ found name.2 in
    let end = ended-gives _ _ found bound.2 in
    subst (IsRead m streams (length names)) end.1
    (record { file = tt; moved = omega arith; numbered = new-gives names name.0.0 bound.0 bound.1; in_mode = refl })

-- with `through` or without, an end of a repin stands in a run
ends-in_run : (through : Bool) → stands (if through then RunAlone else Both) mode.Run ≡ true
ends-in_run true = refl
ends-in_run false = refl

unpin_repinned-gives : (m : Mode) (streams : List StreamLine) (names ws : List (List ℕ)) (a : Action) → parsed_unpin_repinned m names ws ≡ Some a → IsPlain m streams a
unfolding parsed_unpin_repinned
unpin_repinned-gives mode.Run streams names ws a e =
    let word = then-gives (next (word_of names) ws) _ a e in
    let end = ended-gives _ _ a word.2 in
    subst (IsPlain mode.Run streams) end.1
    (record { file = tt; moved = omega arith; numbered = λ n. refl; in_mode = ends-in_run (flag (codes "through") word.0.1).0 })
unpin_repinned-gives mode.Steps streams names ws a e =
    let word = then-gives (next (word_of names) ws) _ a e in
    let end = ended-gives _ _ a word.2 in
    subst (IsPlain mode.Steps streams) end.1 (record { file = tt; moved = omega arith; numbered = λ n. refl; in_mode = refl })

mdl_read-gives : (m : Mode) (streams : List StreamLine) (names ws : List (List ℕ)) (found : Action × List (List ℕ)) → parsed_mdl_read streams names ws ≡ Some found → IsRead m streams (length names) found
unfolding parsed_mdl_read
mdl_read-gives m streams names ws found e =
    let on = then-gives (parsed_stretch streams names ws) _ found e in
    let end = ended-gives _ _ found on.2 in
    let made = stretch-gives streams names ws on.0.0 on.0.1 on.0.2 on.1 in
    subst (IsRead m streams (length names)) end.1 (record { file = made.file; moved = omega arith; numbered = made.word; in_mode = refl })

mdl_write-gives : (m : Mode) (streams : List StreamLine) (names ws : List (List ℕ)) (found : Action × List (List ℕ)) → parsed_mdl_write streams names ws ≡ Some found → IsRead m streams (length names) found
unfolding parsed_mdl_write
mdl_write-gives m streams names ws found e =
    let on = then-gives (parsed_stretch streams names ws) _ found e in
    let end = ended-gives _ _ found on.2 in
    let made = stretch-gives streams names ws on.0.0 on.0.1 on.0.2 on.1 in
    subst (IsRead m streams (length names)) end.1 (record { file = made.file; moved = omega arith; numbered = made.word; in_mode = refl })

mdl_bytes-gives : (m : Mode) (streams : List StreamLine) (names ws : List (List ℕ)) (a : Action) → parsed_mdl_bytes names ws ≡ Some a → IsPlain m streams a
unfolding parsed_mdl_bytes
mdl_bytes-gives m streams names ws a e =
    let word = then-gives (next (word_of names) ws) _ a e in
    let at = then-gives (next parsed_number word.0.1) _ a word.2 in
    let len = then-gives (next (number_between 0 2097152) at.0.1) _ a at.2 in
    let end = ended-gives _ _ a len.2 in
    let l = next-gives (number_between 0 2097152) at.0.1 len.0.0 len.0.1 len.1 in
    let b = between-gives 0 2097152 l.word len.0.0 l.reads in
    subst (IsPlain m streams) end.1 (record { file = tt; moved = b.most; numbered = λ n. refl; in_mode = refl })

mdl_store-gives : (m : Mode) (streams : List StreamLine) (names ws : List (List ℕ)) (a : Action) → parsed_mdl_store names ws ≡ Some a → IsPlain m streams a
unfolding parsed_mdl_store
mdl_store-gives m streams names ws a e =
    let word = then-gives (next (word_of names) ws) _ a e in
    let at = then-gives (next parsed_number word.0.1) _ a word.2 in
    let bytes = then-gives (next parsed_bytes at.0.1) _ a at.2 in
    let end = ended-gives _ _ a bytes.2 in
    let b = next-gives parsed_bytes at.0.1 bytes.0.0 bytes.0.1 bytes.1 in
    subst (IsPlain m streams) end.1 (record { file = tt; moved = bytes-give b.word bytes.0.0 b.reads; numbered = λ n. refl; in_mode = refl })

mdl_done-gives : (m : Mode) (streams : List StreamLine) (names ws : List (List ℕ)) (a : Action) → parsed_mdl_done names ws ≡ Some a → IsPlain m streams a
unfolding parsed_mdl_done
mdl_done-gives m streams names ws a e =
    let word = then-gives (next (word_of names) ws) _ a e in
    let end = ended-gives _ _ a word.2 in
    subst (IsPlain m streams) end.1 (record { file = tt; moved = omega arith; numbered = λ n. refl; in_mode = refl })

mdl_abort-gives : (m : Mode) (streams : List StreamLine) (names ws : List (List ℕ)) (a : Action) → parsed_mdl_abort names ws ≡ Some a → IsPlain m streams a
unfolding parsed_mdl_abort
mdl_abort-gives m streams names ws a e =
    let word = then-gives (next (word_of names) ws) _ a e in
    let end = ended-gives _ _ a word.2 in
    subst (IsPlain m streams) end.1 (record { file = tt; moved = omega arith; numbered = λ n. refl; in_mode = refl })

-- a noncached line in either mode
nc_read_in-gives : (m : Mode) (streams : List StreamLine) (ws : List (List ℕ)) (a : Action) → nc_read_in m streams ws ≡ Some a → IsPlain m streams a
nc_read_in-gives mode.Run streams ws a e = nc_read-gives streams ws a e
nc_read_in-gives mode.Steps streams ws a e = nc_read_page-gives streams ws a e

nc_write_in-gives : (m : Mode) (streams : List StreamLine) (ws : List (List ℕ)) (a : Action) → nc_write_in m streams ws ≡ Some a → IsPlain m streams a
nc_write_in-gives mode.Run streams ws a e = nc_write-gives streams ws a e
nc_write_in-gives mode.Steps streams ws a e = nc_write_page-gives streams ws a e

-- an action keeps within what a line may name and move, stands in its mode, and binds a word of the next number, or none
pub action-gives : (m : Mode) (streams : List StreamLine) (names : List (List ℕ)) (v : Verb) (ws : List (List ℕ)) (found : Action × List (List ℕ)) → stands (verb_modes v) m ≡ true → action_of m streams names v ws ≡ Some found → IsRead m streams (length names) found
unfolding action_of
action-gives m streams names verb.Initialise ws found in_mode e = none-bound m streams names (parsed_initialise streams ws) found (initialise-gives m streams ws) e
action-gives m streams names verb.Uninitialise ws found in_mode e = none-bound m streams names (parsed_uninitialise streams ws) found (uninitialise-gives m streams ws) e
action-gives m streams names verb.CopyRead ws found in_mode e = none-bound m streams names (parsed_copy_read streams ws) found (copy_read-gives m streams ws) e
action-gives m streams names verb.CopyWrite ws found in_mode e = none-bound m streams names (parsed_copy_write streams ws) found (copy_write-gives m streams ws) e
action-gives m streams names verb.Zero ws found in_mode e = none-bound m streams names (parsed_zero streams ws) found (zero-gives m streams ws) e
action-gives m streams names verb.NcRead ws found in_mode e = none-bound m streams names (nc_read_in m streams ws) found (nc_read_in-gives m streams ws) e
action-gives m streams names verb.NcWrite ws found in_mode e = none-bound m streams names (nc_write_in m streams ws) found (nc_write_in-gives m streams ws) e
action-gives m streams names verb.SetSizes ws found in_mode e = none-bound m streams names (parsed_set_sizes streams ws) found (set_sizes-gives m streams ws) e
action-gives m streams names (verb.Query asked) ws found in_mode e = none-bound m streams names (parsed_query streams asked ws) found (query-gives m streams asked ws) e
action-gives m streams names verb.Flush ws found in_mode e = none-bound m streams names (parsed_flush streams ws) found (flush-gives m streams ws) e
action-gives m streams names verb.Purge ws found in_mode e = none-bound m streams names (parsed_purge streams ws) found (purge-gives m streams ws) e
action-gives m streams names verb.Discard ws found in_mode e = none-bound m streams names (parsed_discard streams ws) found (discard-gives m streams ws) e
action-gives m streams names verb.Read ws found in_mode e = none-bound m streams names (parsed_read streams ws) found (read-gives m streams ws in_mode) e
action-gives m streams names verb.Write ws found in_mode e = none-bound m streams names (parsed_write streams ws) found (write-gives m streams ws in_mode) e
action-gives m streams names verb.Update ws found in_mode e = none-bound m streams names (parsed_update streams ws) found (update-gives m streams ws in_mode) e
action-gives m streams names verb.Lock ws found in_mode e = none-bound m streams names (parsed_lock streams ws) found (lock-gives m streams ws in_mode) e
action-gives m streams names verb.Unlock ws found in_mode e = none-bound m streams names (parsed_unlock streams ws) found (unlock-gives m streams ws in_mode) e
action-gives m streams names verb.Levels ws found in_mode e = none-bound m streams names (parsed_levels streams ws) found (levels-gives m streams ws in_mode) e
action-gives m streams names verb.Settle ws found in_mode e = none-bound m streams names (parsed_settle streams ws) found (settle-gives m streams ws in_mode) e
action-gives m streams names verb.Checkpoint ws found in_mode e = none-bound m streams names (parsed_checkpoint streams ws) found (checkpoint-gives m streams ws in_mode) e
action-gives m streams names verb.SetLog ws found in_mode e = none-bound m streams names (parsed_set_log streams ws) found (set_log-gives m streams ws) e
action-gives m streams names verb.Append ws found in_mode e = none-bound m streams names (parsed_append ws) found (append-gives m streams ws) e
action-gives m streams names verb.LogFlush ws found in_mode e = none-bound m streams names (parsed_log_flush ws) found (log_flush-gives m streams ws) e
action-gives m streams names verb.PinMapped ws found in_mode e = none-bound m streams names (parsed_pin_mapped names ws) found (pin_mapped-gives m streams names ws) e
action-gives m streams names verb.HeldRead ws found in_mode e = none-bound m streams names (parsed_held_read names ws) found (held_read-gives m streams names ws) e
action-gives m streams names verb.PinnedWrite ws found in_mode e = none-bound m streams names (parsed_pinned_write names ws) found (pinned_write-gives m streams names ws) e
action-gives m streams names verb.SetDirty ws found in_mode e = none-bound m streams names (parsed_set_dirty names ws) found (set_dirty-gives m streams names ws) e
action-gives m streams names verb.Unpin ws found in_mode e = none-bound m streams names (parsed_unpin names ws) found (unpin-gives m streams names ws) e
action-gives m streams names verb.MdlBytes ws found in_mode e = none-bound m streams names (parsed_mdl_bytes names ws) found (mdl_bytes-gives m streams names ws) e
action-gives m streams names verb.MdlStore ws found in_mode e = none-bound m streams names (parsed_mdl_store names ws) found (mdl_store-gives m streams names ws) e
action-gives m streams names verb.MdlDone ws found in_mode e = none-bound m streams names (parsed_mdl_done names ws) found (mdl_done-gives m streams names ws) e
action-gives m streams names verb.MdlAbort ws found in_mode e = none-bound m streams names (parsed_mdl_abort names ws) found (mdl_abort-gives m streams names ws) e
action-gives m streams names verb.UnpinRepinned ws found in_mode e = none-bound m streams names (parsed_unpin_repinned m names ws) found (unpin_repinned-gives m streams names ws) e
action-gives m streams names verb.Map ws found in_mode e = map-gives m streams names ws found e
action-gives m streams names verb.PinRead ws found in_mode e = pin_read-gives m streams names ws found e
action-gives m streams names verb.PreparePin ws found in_mode e = prepare_pin-gives m streams names ws found e
action-gives m streams names verb.MdlRead ws found in_mode e = mdl_read-gives m streams names ws found e
action-gives m streams names verb.MdlWrite ws found in_mode e = mdl_write-gives m streams names ws found e
action-gives m streams names verb.Repin ws found in_mode e = repin-gives m streams names ws found e
action-gives m streams names verb.SetGranularity ws found in_mode e = none-bound m streams names (parsed_set_granularity streams ws) found (set_granularity-gives m streams ws) e
action-gives m streams names verb.SetAttributes ws found in_mode e = none-bound m streams names (parsed_set_attributes streams ws) found (set_attributes-gives m streams ws) e
action-gives m streams names verb.SetThreshold ws found in_mode e = none-bound m streams names (parsed_set_threshold streams ws) found (set_threshold-gives m streams ws) e
action-gives m streams names verb.NcStore ws found in_mode e = none-bound m streams names (parsed_nc_store_page streams ws) found (nc_store_page-gives m streams ws in_mode) e
action-gives m streams names verb.Fill ws found in_mode e = none-bound m streams names (parsed_fill streams ws) found (fill-gives m streams ws in_mode) e
action-gives m streams names verb.Drop ws found in_mode e = none-bound m streams names (parsed_drop streams ws) found (drop-gives m streams ws in_mode) e
action-gives m streams names verb.WriteBegin ws found in_mode e = none-bound m streams names (parsed_write_begin streams ws) found (write_begin-gives m streams ws in_mode) e
action-gives m streams names verb.WriteEnd ws found in_mode e = none-bound m streams names (parsed_write_end streams ws) found (write_end-gives m streams ws in_mode) e
action-gives m streams names verb.Sync ws found in_mode e = none-bound m streams names (parsed_sync streams ws) found (sync-gives m streams ws in_mode) e
action-gives m streams names verb.Scan ws found in_mode e = none-bound m streams names (ended ws action.Scan) found (scan-gives m streams ws in_mode) e
action-gives m streams names verb.AskAhead ws found in_mode e = none-bound m streams names (parsed_ask_ahead streams ws) found (ask_ahead-gives m streams ws in_mode) e
action-gives m streams names verb.AheadStep ws found in_mode e = none-bound m streams names (ended ws action.AheadStep) found (ahead_step-gives m streams ws in_mode) e
action-gives m streams names verb.AsyncRead ws found in_mode e = none-bound m streams names (parsed_async_read streams ws) found (async_read-gives m streams ws in_mode) e
action-gives m streams names verb.Complete ws found in_mode e = none-bound m streams names (ended ws action.Complete) found (complete-gives m streams ws in_mode) e
action-gives m streams names verb.Tick ws found in_mode e = none-bound m streams names (ended ws action.Tick) found (tick-gives m streams ws in_mode) e
action-gives m streams names verb.Defer ws found in_mode e = none-bound m streams names (parsed_defer streams ws) found (defer-gives m streams ws) e
action-gives m streams names verb.Post ws found in_mode e = none-bound m streams names (ended ws action.Post) found (post-gives m streams ws) e
action-gives m streams names verb.Stream ws found in_mode e = absurd (cc)
action-gives m streams names verb.Journal ws found in_mode e = absurd (cc)
action-gives m streams names verb.Threshold ws found in_mode e = absurd (cc)
action-gives m streams names verb.Workers ws found in_mode e = absurd (cc)
action-gives m streams names verb.Restart ws found in_mode e = absurd (cc)
action-gives m streams names verb.Phase ws found in_mode e = absurd (cc)
action-gives m streams names verb.Fail ws found in_mode e = absurd (cc)
