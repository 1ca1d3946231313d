-- What each exit status says, and when it comes.
use Rattle.std.proofs.Common.{◌≡◌, ◌≢◌, true≢false, ℕ, Bool, ◌+◌, ◌<◌, ◌≤◌, true, false, List, [], ◌++◌, length, length-append, append-nil, is_some, IfSome, Option, Some, None, Result, Ok, Err, ◌⊎◌, inl, inr, refl, sym, subst, ◌∙◌, ap, arith}
use Rattle.std.proofs.lemmas.List.{append_cancel_left}
use Rattle.cc_entry.specs.declared.answer.LineReply.{LineReply}
use Rattle.cc_entry.specs.declared.entry.Entry.{Entry}
use Rattle.cc_traits.specs.Told.{Both, IfTold, Gave}
use Rattle.cc_script.specs.declared.script.Script.{Script}
use Rattle.cc_script.specs.Generator.{generated}
use Rattle.cc_script.specs.Grammar.{script_of}
use Rattle.cc_command.specs.Words.{command_of, is_command, is_reading, mode_in, reads_source}
use Rattle.cc_command.specs.declared.words.Command.{Command}
use Rattle.cc_command.specs.declared.words.Command.TheVariants as command
use Rattle.cc_command.specs.NoRun.{status_of}
use Rattle.cc_command.specs.Taken.{WasTaken}
use Rattle.cc_program.specs.Ends.{Input, ProgramOutput, GaveAll, IsAsked, IsCause, SourceIsRead, IsWrong, TookMany, HasTooFewDevices, SinkHasFailed, SpellsScript, IsTextPut, IsProgramRun, ProgramIsEnded, has_devices, printed_by}
use Rattle.cc_program.specs.Complete.{Comes, IsFound}
use Rattle.cc_command.specs.declared.no_run.NoRun.{NoRun}
use Rattle.cc_command.specs.declared.no_run.NoRun.TheVariants as no_run

-- what the source told is what was read
told-same : (left : Option (List ℕ)) (told bytes : List ℕ) → left ≡ Some told → IfTold left (λ l. bytes ≡ l) → bytes ≡ told
told-same None told bytes is all = absurd (cc is)
told-same (Some l) told bytes is all = all ∙ (cc is)

-- a source that was read to its end told as many bytes as were taken from it
read-count : (left after : Option (List ℕ)) (told bytes : List ℕ) → left ≡ Some told → Both left after (Gave bytes) → IfTold after (λ rest. rest ≡ []) → length told ≡ length bytes
read-count None after told bytes is gave end = absurd (cc is)
read-count (Some l) None told bytes is gave end = absurd gave
read-count (Some l) (Some a) told bytes is gave end =
    let same : l ≡ told = cc is in
    ap length (sym same ∙ (gave ∙ (ap (λ rest. bytes ++ rest) end ∙ append-nil bytes)))

-- at most as many bytes were taken as a source told
taken-count : (left after : Option (List ℕ)) (told bytes : List ℕ) → left ≡ Some told → Both left after (Gave bytes) → length bytes ≤ length told
taken-count None after told bytes is gave = absurd (cc is)
taken-count (Some l) None told bytes is gave = absurd gave
taken-count (Some l) (Some a) told bytes is gave =
    let same : l ≡ told = cc is in
    omega (arith, ap length (sym same ∙ gave), length-append bytes a)

module _ (i : Input) (w : WasTaken i.left i.left_after i.given i.given_after) where
  -- how many bytes were taken
  count : length i.given_after ≡ length i.given + length w.bytes
  count = ap length w.gave ∙ length-append i.given w.bytes

  -- a source that was read to its end told few bytes
  read-few : (told : List ℕ) → i.left ≡ Some told → SourceIsRead i → length told ≤ 16777216
  read-few told is read = omega (arith, read-count i.left i.left_after told w.bytes is w.front read.end, count, read.few)

  -- where many bytes were taken, a source told many
  many-told : (told : List ℕ) → i.left ≡ Some told → TookMany i → 16777216 < length told
  many-told told is many = omega (arith, taken-count i.left i.left_after told w.bytes is w.front, count, many)

  -- of a source from which few bytes come, few are taken
  not-many : (bytes : List ℕ) → Comes i bytes → TookMany i → ⊥
  not-many bytes comes many = go comes.come
    where
      go : (i.left ≡ Some bytes) ⊎ GaveAll i bytes → ⊥
      go (inl told) = absurd (omega (arith, many-told bytes told many, comes.short))
      go (inr all) = absurd (omega (arith, ap length all.gave, length-append i.given bytes, many, comes.short))

-- all bytes that the source gave are those that come
same-bytes : (i : Input) (bytes given : List ℕ) → (i.left ≡ Some bytes) ⊎ GaveAll i bytes → GaveAll i given → given ≡ bytes
same-bytes i bytes given (inl told) all = told-same i.left bytes given told all.all
same-bytes i bytes given (inr come) all = append_cancel_left i.given given bytes (sym all.gave ∙ come.gave)

wrong-is : (i : Input) (bytes : List ℕ) (line : ℕ) → Comes i bytes → IsWrong i line → script_of (mode_in i.words) bytes ≡ Err line
wrong-is i bytes line comes w = rw (same-bytes i bytes w.bytes comes.come w.given) at w.wrong

spells-is : (i : Input) (bytes : List ℕ) (script : Script) → Comes i bytes → SpellsScript i script → script_of (mode_in i.words) bytes ≡ Ok script
spells-is i bytes script comes w = rw (same-bytes i bytes w.bytes comes.come w.given) at w.spelled

not-both : (r : Result Script ℕ) (script : Script) (line : ℕ) → r ≡ Ok script → r ≡ Err line → ⊥
not-both r script line ok err = absurd (cc (ok, err))

one-script : (r : Result Script ℕ) (a b : Script) → r ≡ Ok a → r ≡ Ok b → a ≡ b
one-script r a b first second = cc (first, second)

-- words that ask for the source ask for no number
reads-no-number : (words : List (List ℕ)) (number : ℕ) → reads_source words ≡ true → command_of words ≡ Some (command.Generate number) → ⊥
reads-no-number words number reads asks = true≢false (sym reads ∙ ap is_reading asks)

-- words that ask for the source, or for a number, are a command
reads-command : (words : List (List ℕ)) → reads_source words ≡ true → is_command words ≡ true
reads-command words = go (command_of words)
  where
    go : (asked : Option Command) → is_reading asked ≡ true → is_some asked ≡ true
    go None reads = absurd (cc reads)
    go (Some one) reads = refl

asked-command : (i : Input) (script : Script) → IsAsked i script → is_command i.words ≡ true
asked-command i script (inl found) = reads-command i.words found.0.words
asked-command i script (inr made) = ap is_some made.words

-- words ask for one script
one-found : (i : Input) (a b : Script) → IsAsked i a → IsFound i b → a ≡ b
one-found i a b (inl it) (inl found) = one-script _ a b (spells-is i found.bytes a found.comes it.1) found.spelled
one-found i a b (inl it) (inr made) = absurd (reads-no-number i.words made.number it.0.words made.words)
one-found i a b (inr made) (inl found) = absurd (reads-no-number i.words made.number found.comes.words made.words)
one-found i a b (inr first) (inr second) =
    let same : first.number ≡ second.number = cc (first.words, second.words) in
    first.is ∙ ap generated same ∙ sym second.is

-- the script that is found has no wrong line
found-right : (i : Input) (script : Script) (line : ℕ) → IsFound i script → SourceIsRead i → IsWrong i line → ⊥
found-right i script line (inl found) read wrong = not-both _ script line found.spelled (wrong-is i found.bytes line found.comes wrong)
found-right i script line (inr made) read wrong = reads-no-number i.words made.number read.words made.words

-- nor is the source of one that is found asked in vain
found-calm : (i : Input) (script : Script) → IsFound i script → reads_source i.words ≡ true → i.faults_after ≡ i.faults
found-calm i script (inl found) reads = found.comes.no_fault
found-calm i script (inr made) reads = absurd (reads-no-number i.words made.number reads made.words)

found-short : (i : Input) (script : Script) → WasTaken i.left i.left_after i.given i.given_after → IsFound i script → reads_source i.words ≡ true → TookMany i → ⊥
found-short i script w (inl found) reads many = not-many i w found.bytes found.comes many
found-short i script w (inr made) reads many = reads-no-number i.words made.number reads made.words

found-command : (i : Input) (script : Script) → IsFound i script → is_command i.words ≡ true
found-command i script (inl found) = reads-command i.words found.comes.words
found-command i script (inr made) = ap is_some made.words

-- few bytes were taken for a script that was asked of the source
asked-few : (i : Input) (script : Script) → IsAsked i script → reads_source i.words ≡ true → TookMany i → ⊥
asked-few i script (inl it) reads many = absurd (omega (arith, it.0.few, many))
asked-few i script (inr made) reads many = reads-no-number i.words made.number reads made.words

-- a sink that did not fail
module _ (o : ProgramOutput) (calm : o.faults_after ≡ o.faults) (steady : o.stalls_after ≡ o.stalls) where
  not-failed : SinkHasFailed o → ⊥
  not-failed (inl risen) = absurd (omega (arith, risen, calm))
  not-failed (inr risen) = absurd (omega (arith, risen, steady))

module _ (i : Input) (o : ProgramOutput) (script : Option Script) (replies : List LineReply) (journal : List Entry) (status : ℕ) (ended : ProgramIsEnded i o script replies journal status) where
  -- a status that no run has, by its cause
  cause-at : (n : ℕ) (P : Type 0) → ((why : NoRun) → n ≡ status_of why → IsCause i why → P) → n ≢ 0 → n ≢ 4 → n ≢ 6 → status ≡ n → P
  cause-at n P by not0 not4 not6 is = go script ended
    where
      run : (status ≡ 0) ⊎ ((status ≡ 4) ⊎ (status ≡ 6)) → P
      run (inl at) = absurd (not0 (sym is ∙ at))
      run (inr (inl at)) = absurd (not4 (sym is ∙ at))
      run (inr (inr at)) = absurd (not6 (sym is ∙ at))

      go : (s : Option Script) → ProgramIsEnded i o s replies journal status → P
      go None e = by e.2.why (sym is ∙ e.2.status_is) e.2.cause
      go (Some one) e = run e.printed.status_is

  pub usage-at : status ≡ 1 → is_command i.words ≡ false
  usage-at = cause-at 1 (is_command i.words ≡ false) by (λ e. absurd (cc e)) (λ e. absurd (cc e)) (λ e. absurd (cc e))
    where
      by : (why : NoRun) → 1 ≡ status_of why → IsCause i why → is_command i.words ≡ false
      by no_run.Usage is cause = cause
      by other is cause = absurd (cc is)

  pub syntax-at : status ≡ 2 → (line : ℕ) × IsWrong i line
  syntax-at = cause-at 2 ((line : ℕ) × IsWrong i line) by (λ e. absurd (cc e)) (λ e. absurd (cc e)) (λ e. absurd (cc e))
    where
      by : (why : NoRun) → 2 ≡ status_of why → IsCause i why → (line : ℕ) × IsWrong i line
      by (no_run.Syntax line) is cause = (line, cause.1)
      by other is cause = absurd (cc is)

  pub read_fault-at : status ≡ 3 → i.faults < i.faults_after
  read_fault-at = cause-at 3 (i.faults < i.faults_after) by (λ e. absurd (cc e)) (λ e. absurd (cc e)) (λ e. absurd (cc e))
    where
      by : (why : NoRun) → 3 ≡ status_of why → IsCause i why → i.faults < i.faults_after
      by no_run.ReadFault is cause = cause.1
      by other is cause = absurd (cc is)

  pub too_long-at : status ≡ 5 → TookMany i
  too_long-at = cause-at 5 (TookMany i) by (λ e. absurd (cc e)) (λ e. absurd (cc e)) (λ e. absurd (cc e))
    where
      by : (why : NoRun) → 5 ≡ status_of why → IsCause i why → TookMany i
      by no_run.TooLong is cause = cause.1
      by other is cause = absurd (cc is)

  pub too_few-at : status ≡ 7 → HasTooFewDevices i
  too_few-at = cause-at 7 (HasTooFewDevices i) by (λ e. absurd (cc e)) (λ e. absurd (cc e)) (λ e. absurd (cc e))
    where
      by : (why : NoRun) → 7 ≡ status_of why → IsCause i why → HasTooFewDevices i
      by no_run.TooFewDevices is cause = cause
      by other is cause = absurd (cc is)

  -- only a failed sink leaves a text unprinted at status 4
  pub write_fault-at : status ≡ 4 → SinkHasFailed o
  write_fault-at is = go script ended
    where
      none : (why : NoRun) → 4 ≡ status_of why → SinkHasFailed o
      none no_run.Usage at = absurd (cc at)
      none other at = absurd (cc at)

      go : (s : Option Script) → ProgramIsEnded i o s replies journal status → SinkHasFailed o
      go None e = none e.2.why (sym is ∙ e.2.status_is)
      go (Some one) e = e.printed.failed is

  -- wrong words are always status 1, or memory was wanting
  pub words-always : is_command i.words ≡ false → (status ≡ 1) ⊎ (status ≡ 6)
  words-always wrong = go script ended
    where
      by : (why : NoRun) → IsCause i why → (status_of why ≡ 1) ⊎ (status_of why ≡ 6)
      by no_run.Usage cause = inl refl
      by no_run.NoMemory cause = inr refl
      by (no_run.Syntax line) cause = absurd (cc (reads-command i.words cause.0.words, wrong))
      by no_run.TooFewDevices cause = absurd (cc (asked-command i cause.script cause.asked, wrong))
      by no_run.ReadFault cause = absurd (cc (reads-command i.words cause.0, wrong))
      by no_run.TooLong cause = absurd (cc (reads-command i.words cause.0, wrong))

      at : (why : NoRun) → status ≡ status_of why → (status_of why ≡ 1) ⊎ (status_of why ≡ 6) → (status ≡ 1) ⊎ (status ≡ 6)
      at why is (inl one) = inl (is ∙ one)
      at why is (inr six) = inr (is ∙ six)

      go : (s : Option Script) → ProgramIsEnded i o s replies journal status → (status ≡ 1) ⊎ (status ≡ 6)
      go None e = at e.2.why e.2.status_is (by e.2.why e.2.cause)
      go (Some one) e = absurd (cc (asked-command i one e.asked, wrong))

  -- a run was made at statuses 0 and 4
  pub made-at : (status ≡ 0) ⊎ (status ≡ 4) → is_some script ≡ true
  made-at at = go script ended at
    where
      none : (why : NoRun) → status ≡ status_of why → (status ≡ 0) ⊎ (status ≡ 4) → is_some {T = Script} None ≡ true
      none no_run.Usage is (inl zero) = absurd (cc (is, zero))
      none no_run.Usage is (inr four) = absurd (cc (is, four))
      none other is (inl zero) = absurd (cc (is, zero))
      none other is (inr four) = absurd (cc (is, four))

      go : (s : Option Script) → ProgramIsEnded i o s replies journal status → (status ≡ 0) ⊎ (status ≡ 4) → is_some s ≡ true
      go None e at' = none e.2.why e.2.status_is at'
      go (Some one) e at' = refl

  pub asked-at : IfSome script (IsAsked i)
  asked-at = go script ended
    where
      go : (s : Option Script) → ProgramIsEnded i o s replies journal status → IfSome s (IsAsked i)
      go None e = tt
      go (Some one) e = e.asked

  pub empty-at : script ≡ None → journal ≡ []
  empty-at is = go script ended is
    where
      go : (s : Option Script) → ProgramIsEnded i o s replies journal status → s ≡ None → journal ≡ []
      go None e is' = e.1
      go (Some one) e is' = absurd (cc is')

  pub printed-at : status ≡ 0 → IfSome script (λ made. IsTextPut o (printed_by (command_of i.words) made replies journal))
  printed-at is = go script ended
    where
      go : (s : Option Script) → ProgramIsEnded i o s replies journal status → IfSome s (λ made. IsTextPut o (printed_by (command_of i.words) made replies journal))
      go None e = tt
      go (Some one) e = e.printed.whole is

  -- the status of a cause, where no run was made
  refused-at : (n : ℕ) → ((why : NoRun) → IsCause i why → (status_of why ≡ n) ⊎ (status_of why ≡ 6)) → ((made : Script) → IsProgramRun i o made replies journal status → (status ≡ n) ⊎ (status ≡ 6)) → (status ≡ n) ⊎ (status ≡ 6)
  refused-at n by run = go script ended
    where
      at : (why : NoRun) → status ≡ status_of why → (status_of why ≡ n) ⊎ (status_of why ≡ 6) → (status ≡ n) ⊎ (status ≡ 6)
      at why is (inl one) = inl (is ∙ one)
      at why is (inr six) = inr (is ∙ six)

      go : (s : Option Script) → ProgramIsEnded i o s replies journal status → (status ≡ n) ⊎ (status ≡ 6)
      go None e = at e.2.why e.2.status_is (by e.2.why e.2.cause)
      go (Some one) e = run one e

  pub syntax-always : WasTaken i.left i.left_after i.given i.given_after → (bytes : List ℕ) (line : ℕ) → Comes i bytes → script_of (mode_in i.words) bytes ≡ Err line → (status ≡ 2) ⊎ (status ≡ 6)
  syntax-always w bytes line comes wrong = refused-at 2 by run
    where
      right : (made : Script) → IsAsked i made → ⊥
      right made (inl it) = not-both _ made line (spells-is i bytes made comes it.1) wrong
      right made (inr it) = reads-no-number i.words it.number comes.words it.words

      by : (why : NoRun) → IsCause i why → (status_of why ≡ 2) ⊎ (status_of why ≡ 6)
      by no_run.Usage cause = absurd (cc (cause, reads-command i.words comes.words))
      by (no_run.Syntax l) cause = inl refl
      by no_run.ReadFault cause = absurd (omega (arith, cause.1, comes.no_fault))
      by no_run.TooLong cause = absurd (not-many i w bytes comes cause.1)
      by no_run.NoMemory cause = inr refl
      by no_run.TooFewDevices cause = absurd (right cause.script cause.asked)

      run : (made : Script) → IsProgramRun i o made replies journal status → (status ≡ 2) ⊎ (status ≡ 6)
      run made e = absurd (right made e.asked)

  pub too_long-always : (reads_source i.words ≡ false → i.given_after ≡ i.given) → TookMany i → (status ≡ 5) ⊎ (status ≡ 6)
  too_long-always untouched many = go (reads_source i.words) refl
    where
      by : reads_source i.words ≡ true → (why : NoRun) → IsCause i why → (status_of why ≡ 5) ⊎ (status_of why ≡ 6)
      by reads no_run.Usage cause = absurd (cc (cause, reads-command i.words reads))
      by reads (no_run.Syntax l) cause = absurd (omega (arith, cause.0.few, many))
      by reads no_run.ReadFault cause = absurd (omega (arith, cause.2, many))
      by reads no_run.TooLong cause = inl refl
      by reads no_run.NoMemory cause = inr refl
      by reads no_run.TooFewDevices cause = absurd (asked-few i cause.script cause.asked reads many)

      run : reads_source i.words ≡ true → (made : Script) → IsProgramRun i o made replies journal status → (status ≡ 5) ⊎ (status ≡ 6)
      run reads made e = absurd (asked-few i made e.asked reads many)

      go : (b : Bool) → reads_source i.words ≡ b → (status ≡ 5) ⊎ (status ≡ 6)
      go true reads = refused-at 5 (by reads) (run reads)
      go false none = absurd (omega (arith, ap length (untouched none), many))

  pub too_long-told : WasTaken i.left i.left_after i.given i.given_after → (bytes : List ℕ) → reads_source i.words ≡ true → i.left ≡ Some bytes → i.faults_after ≡ i.faults → 16777216 < length bytes → (status ≡ 5) ⊎ (status ≡ 6)
  too_long-told w bytes words told no_fault many = refused-at 5 by run
    where
      long : (made : Script) → IsAsked i made → ⊥
      long made (inl it) = absurd (omega (arith, read-few i w bytes told it.0, many))
      long made (inr it) = reads-no-number i.words it.number words it.words

      by : (why : NoRun) → IsCause i why → (status_of why ≡ 5) ⊎ (status_of why ≡ 6)
      by no_run.Usage cause = absurd (cc (cause, reads-command i.words words))
      by (no_run.Syntax l) cause = absurd (omega (arith, read-few i w bytes told cause.0, many))
      by no_run.ReadFault cause = absurd (omega (arith, cause.1, no_fault))
      by no_run.TooLong cause = inl refl
      by no_run.NoMemory cause = inr refl
      by no_run.TooFewDevices cause = absurd (long cause.script cause.asked)

      run : (made : Script) → IsProgramRun i o made replies journal status → (status ≡ 5) ⊎ (status ≡ 6)
      run made e = absurd (long made e.asked)

  pub too_few-always : WasTaken i.left i.left_after i.given i.given_after → (made : Script) → IsFound i made → has_devices i.disks i.logs i.posts made ≡ false → (status ≡ 7) ⊎ (status ≡ 6)
  too_few-always w made found few = refused-at 7 by run
    where
      by : (why : NoRun) → IsCause i why → (status_of why ≡ 7) ⊎ (status_of why ≡ 6)
      by no_run.Usage cause = absurd (cc (cause, found-command i made found))
      by (no_run.Syntax l) cause = absurd (found-right i made l found cause.0 cause.1)
      by no_run.ReadFault cause = absurd (omega (arith, cause.1, found-calm i made found cause.0))
      by no_run.TooLong cause = absurd (found-short i made w found cause.0 cause.1)
      by no_run.NoMemory cause = inr refl
      by no_run.TooFewDevices cause = inl refl

      run : (one : Script) → IsProgramRun i o one replies journal status → (status ≡ 7) ⊎ (status ≡ 6)
      run one e = absurd (cc (few, subst (λ s. has_devices i.disks i.logs i.posts s ≡ true) (one-found i one made e.asked found) e.enough))

  pub complete : WasTaken i.left i.left_after i.given i.given_after → (made : Script) → IsFound i made → has_devices i.disks i.logs i.posts made ≡ true → o.faults_after ≡ o.faults → o.stalls_after ≡ o.stalls → (status ≡ 0) ⊎ (status ≡ 6)
  complete w made found enough calm steady = refused-at 0 by run
    where
      by : (why : NoRun) → IsCause i why → (status_of why ≡ 0) ⊎ (status_of why ≡ 6)
      by no_run.Usage cause = absurd (cc (cause, found-command i made found))
      by (no_run.Syntax l) cause = absurd (found-right i made l found cause.0 cause.1)
      by no_run.ReadFault cause = absurd (omega (arith, cause.1, found-calm i made found cause.0))
      by no_run.TooLong cause = absurd (found-short i made w found cause.0 cause.1)
      by no_run.NoMemory cause = inr refl
      by no_run.TooFewDevices cause =
          absurd (cc (enough, subst (λ s. has_devices i.disks i.logs i.posts s ≡ false) (one-found i cause.script made cause.asked found) cause.few))

      at : (status ≡ 0) ⊎ ((status ≡ 4) ⊎ (status ≡ 6)) → (status ≡ 4 → SinkHasFailed o) → (status ≡ 0) ⊎ (status ≡ 6)
      at (inl zero) failed = inl zero
      at (inr (inl four)) failed = absurd (not-failed o calm steady (failed four))
      at (inr (inr six)) failed = inr six

      run : (one : Script) → IsProgramRun i o one replies journal status → (status ≡ 0) ⊎ (status ≡ 6)
      run one e = at e.printed.status_is e.printed.failed
