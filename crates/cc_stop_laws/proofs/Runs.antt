-- What a run leaves of a stream's disk, of its record page and of its log can be redone.
use Rattle.std.specs.Prelude.{◌≡◌, ℕ, ◌*◌, ◌/◌, ◌%◌, ◌^◌, ◌<◌, ◌≤◌, ◌⊎◌, Bool, true, false, nat_lt, List, [], ◌++◌, slice_index, Contains, refl, if◌then◌else◌}
use Rattle.std.specs.declared.option.Option.{Option}
use Rattle.std.specs.declared.option.Option.TheVariants.{Some, None}
use Rattle.std.proofs.Common.{ap, append-nil, sym, subst, ◌∙◌, arith, inl, inr}
use Rattle.cc_entry.specs.declared.entry.Entry.{Entry}
use Rattle.cc_format.specs.Spelling.{IsReadAs}
use Rattle.cc_format.specs.declared.record.StreamRecord.{StreamRecord}
use Rattle.cc_format.specs.declared.record.StreamRecord.TheVariants.{V2}
use Rattle.cc_laws.proofs.SoundFacts.{size_of-good, valid_of-good}
use Rattle.cc_log.specs.Turn.{HoldsLogEntries, appended}
use Rattle.cc_model.specs.Good.{IsGoodSoFar}
use Rattle.cc_model.specs.History.{history}
use Rattle.cc_model.specs.Images.{crash_pages}
use Rattle.cc_model.specs.Logs.{flushed_to}
use Rattle.cc_model.specs.Objects.{had_map}
use Rattle.cc_model.specs.Records.{crash_records}
use Rattle.cc_model.specs.Setup.{Setup}
use Rattle.cc_model.specs.Touches.{size_of}
use Rattle.cc_records.specs.Recorded.{told_valid}
use Rattle.cc_redo.specs.Disks.{record_number}
use Rattle.cc_redo.specs.Heard.{Change, last_lsn_of, readings}
use Rattle.cc_redo.specs.declared.redo.Redo.{Redo}
use Rattle.cc_restart_laws.proofs.Again.{after-least}
use Rattle.cc_restart_laws.proofs.Contents.{had-more, size-more}
use Rattle.cc_restart_laws.proofs.Files.{later-page}
use Rattle.cc_restart_laws.proofs.Left.{log-left}
use Rattle.cc_restart_laws.proofs.Raised.{updates-same}
use Rattle.cc_restart_laws.proofs.Told.{IsToldAt, IsWrittenAt, read-once, told-at, told-settled, written-at}
use Rattle.cc_restart_laws.specs.Stops.{HadBegun, IsGivenAs, LogKeeps, LogKeepsBehind, MakesFile, updated_byte, updates_in, valid_after_changes}
use Rattle.cc_restart_laws.specs.Updates.{IsUpdated}
use Rattle.cc_restarts.specs.Given.{AreRestartSizes, IsRedoOf, size_said, valid_said}
use Rattle.cc_script.specs.declared.script.StreamLine.{StreamLine}
use Rattle.cc_traits.specs.Disk.{Disk, may_of, page_of}
use Rattle.cc_traits.specs.Log.{Log, LogEntry}
use Rattle.cc_turns.proofs.RecordPage.{apart}
use Rattle.cc_turns.specs.Disk.{HasGone}
use Rattle.cc_turns.specs.RecordPage.{RecordHasGone}
use Rattle.cc_update_laws.proofs.Devices.{begun-durable, log-whole}
use Rattle.cc_update_laws.specs.Devices.{GoesOnFrom, IsWholeDisk}
use Rattle.cc_update_laws.specs.Logs.{IsLogOf}
use Rattle.cc_stop_laws.proofs.Given.{SameSaid}
use Rattle.cc_stop_laws.proofs.Made.{redoable-line}
use Rattle.cc_stop_laws.specs.Redoable.{HasFile, IsFileMade, StreamIsNumbered, IsRedoable, NamesAgain}
use Rattle.cc_stop_laws.specs.Runs.{HasBegunWith, IsRedoneFrom}

-- ---- what it then tells

told-said : (stream : StreamLine) (read : Option StreamRecord) → told_valid read ≤ valid_said stream read
told-said stream None = omega arith
told-said stream (Some told) = omega arith

module _ (u : Setup) (past : List Entry) (s log : ℕ) (stream : StreamLine) (before : Option StreamRecord) (opening left : Disk) (good : IsGoodSoFar u past) (updated : IsUpdated s log past) (whole : IsWholeDisk opening) (gone : HasGone (history past s) opening left)
    (record_gone : RecordHasGone past s opening left) (reads : IsReadAs (page_of opening record_number) before) (numbered : StreamIsNumbered s stream before past) where
  -- the record that a crash leaves
  record IsTold (content : List ℕ) (read : Option StreamRecord) : Type 0 where
    sizes : AreRestartSizes stream read
    size : size_said stream read ≡ size_said stream before
    least : valid_said stream before ≤ valid_said stream read
    told : valid_said stream before < valid_said stream read → valid_said stream read ≡ told_valid read
    known : read ≡ None → before ≡ None
    among : Contains (crash_records (page_of opening record_number) past s) content

  module _ (content : List ℕ) (among : Contains (crash_records (page_of opening record_number) past s) content) where
    told-same : (read : Option StreamRecord) → read ≡ before → IsTold content read
    told-same read is = record {
      sizes = subst (λ o. AreRestartSizes stream o) (sym is) numbered.sizes;
      size = ap (size_said stream) is;
      least = let same = ap (valid_said stream) is in omega (arith, same);
      told = λ above. let same = ap (valid_said stream) is in absurd (omega (arith, same, above));
      known = λ none. sym is ∙ none;
      among = among;
    }

    told-written : (read : Option StreamRecord) → IsReadAs content read → IsWrittenAt s past content → IsTold content read
    told-written read reads_it k = record {
      sizes = subst (λ o. AreRestartSizes stream o) (sym is) (record { within = within; in_range = fits });
      size = ap (size_said stream) is ∙ (its.may.its_size ∙ (sym grown ∙ numbered.size had_past));
      least = let least = facts.1 in let same = ap (valid_said stream) is in omega (arith, least, same);
      told = λ above. ap (valid_said stream) is ∙ sym (ap told_valid is);
      known = λ none. absurd (cc (is, none));
      among = among;
    }
      where
        its : IsToldAt u s past k.front k.size k.valid
        its = told-at u past s content good k

        facts : (had_map (history k.front s) ≡ true) × (valid_said stream before ≤ k.valid)
        facts = numbered.records k.later k.front k.pass k.size k.valid k.how k.splits

        had_past : had_map (history past s) ≡ true
        had_past = ap (λ (l : List Entry). had_map (history l s)) its.grew ∙ had-more u s log its.later k.front facts.0

        grown : size_of (history past s) ≡ size_of (history k.front s)
        grown =
            ap (λ (l : List Entry). size_of (history l s)) its.grew
            ∙ size-more u s log its.later k.front (subst (λ (l : List Entry). IsGoodSoFar u l) its.grew good) (subst (λ (l : List Entry). IsUpdated s log l) its.grew updated) facts.0

        fits : k.size < 2 ^ 63
        fits = let low = size_of-good u k.front s its.good in let same = its.may.its_size in omega (arith, low, same)

        within : k.valid ≤ k.size
        within = let low = valid_of-good u k.front s its.good in let same = its.may.its_size in let le = its.may.within in omega (arith, low, same, le)

        is : read ≡ Some (V2 k.size k.valid)
        is = read-once content read (Some (V2 k.size k.valid)) reads_it (record { in_range = record { size_in_range = fits; within = within }; spelled = sym k.spelled })

  told-of : (content : List ℕ) (read : Option StreamRecord) → Contains (may_of left record_number) content → IsReadAs content read → IsTold content read
  told-of content read may reads_it = go (written-at (page_of opening record_number) past s content crash)
    where
      crash : Contains (crash_records (page_of opening record_number) past s) content
      crash = record_gone.crash content (whole.alone record_number) may

      go : (page_of opening record_number ≡ content) ⊎ IsWrittenAt s past content → IsTold content read
      go (inl is) = told-same content crash read (read-once content read before reads_it (subst (λ (l : List ℕ). IsReadAs l before) is reads))
      go (inr k) = told-written content crash read reads_it k

  -- so the stream may be given to a restart
  given-as : (content : List ℕ) (read : Option StreamRecord) (redo : Redo) → IsReadAs content read → IsTold content read → IsRedoOf s stream read redo → IsGivenAs s (valid_said stream before) past redo
  given-as content read redo reads_it told its = record {
    stream = its.stream_is;
    size = λ had. its.size_is ∙ (told.size ∙ sym (numbered.size had));
    opened = numbered.opened;
    least = let le = told.least in let is = its.valid_is in omega (arith, le, is);
    told = λ p above low high.
        let is = its.valid_is in
        let more : valid_said stream before < valid_said stream read = omega (arith, above, is) in
        let same = told.told more in
        told-settled u past s (valid_said stream before) good numbered.opened (page_of opening record_number) content before read reads (told-said stream before) told.among reads_it p (omega (arith, more, same)) low (omega (arith, high, is, same));
  }

  crash-of : (p : ℕ) (bytes : List ℕ) → 4096 * p < 2 ^ 63 → Contains (may_of left p) bytes → Contains (crash_pages (page_of opening) (history past s) p) bytes
  crash-of p bytes fits may = gone.crash p bytes (apart p (omega (arith, fits))) (whole.alone p) may

  module _ (kept : List LogEntry) (pages : ℕ → List ℕ) (first : ℕ) (reaches : first ≤ valid_said stream before)
      (makes : (streams : List Redo) (redo : Redo) → Contains streams redo → redo.stream ≡ s → redo.size ≡ size_said stream before → IsGivenAs s (valid_said stream before) past redo → (p : ℕ) (bytes : List ℕ) → 4096 * p < redo.size →
      Contains (crash_pages (page_of opening) (history past s) p) bytes → MakesFile streams kept redo pages first p bytes) where
    redoable-by : IsRedoable s stream (size_said stream before) kept pages first left
    redoable-by = record {
      sizes = λ content read may reads_it.
          let told = told-of content read may reads_it in
          let le = told.least in
          let low = reaches in
          (told.sizes, told.size, omega (arith, le, low));
      makes = λ content read may reads_it streams redo its among p bytes below contained.
          let told = told-of content read may reads_it in
          let same : redo.size ≡ size_said stream before = its.size_is ∙ told.size in
          let inside : 4096 * p < redo.size = omega (arith, same, below) in
          let fits = redo.in_range in
          makes streams redo among its.stream_is same (given-as content read redo reads_it told its) p bytes inside (crash-of p bytes (omega (arith, inside, fits)) contained);
    }

  -- and another line says the same of it that names the numbers of this one again
  said-left : (other : StreamLine) → NamesAgain opening other stream → (content : List ℕ) (read : Option StreamRecord) → Contains (may_of left record_number) content → IsReadAs content read → SameSaid stream other read
  said-left other again content (Some told) may reads_it = (refl, refl)
  said-left other again content None may reads_it =
      let none : before ≡ None = (told-of content None may reads_it).known refl in
      let same = again (subst (λ o. IsReadAs (page_of opening record_number) o) none reads) in
      (sym same.size, sym same.valid)

  module _ (begun after : Log) (holds : HoldsLogEntries (appended past log) (flushed_to past log) begun after) (below : s < 16) (pages : ℕ → List ℕ) (first : ℕ) (had : HasBegunWith past s log stream before pages first opening begun) where
    whole-log : IsLogOf s (size_said stream before) (begun.entries ++ appended past log)
    whole-log = log-whole u past s log (size_said stream before) begun.entries good updated numbered.size had.goes_on had.entries

    -- what the log had at first is durable
    behind : (kept : List LogEntry) → LogKeeps after.durable after.entries kept → LogKeepsBehind after.durable begun.entries (appended past log) kept
    behind kept keeps = log-left past log begun after kept holds (begun-durable past log begun after had.goes_on had.entries.in_range holds) keeps

    had-of : (redo : Redo) → redo.stream ≡ s → redo.size ≡ size_said stream before → HadBegun redo begun.entries (appended past log) (page_of opening) (valid_said stream before) pages first
    had-of redo same_stream same_size = record {
      ascending = whole-log.ascending;
      valid = subst (λ (l : List Change). valid_after_changes l first ≤ valid_said stream before) (sym (updates-same had.has.redo redo its_stream its_size begun.entries)) had.has.least;
      file = λ i inside.
          had.has.file i (let same = same_size in omega (arith, same, inside))
          ∙ ap (λ (l : List Change). updated_byte pages first l i) (sym (updates-same had.has.redo redo its_stream its_size begun.entries));
    }
      where
        its_stream : redo.stream ≡ had.has.redo.stream
        its_stream = same_stream ∙ sym had.has.stream_is

        its_size : redo.size ≡ had.has.redo.size
        its_size = same_size ∙ sym had.has.size_is

    left-redoable : (kept : List LogEntry) → LogKeeps after.durable after.entries kept → IsRedoable s stream (size_said stream before) kept pages first left
    left-redoable kept keeps =
        redoable-by kept pages first (let more = had.has.least in let grown = after-least (updates_in had.has.redo begun.entries) first in omega (arith, more, grown))
        (λ streams redo among stream_is size_is given p bytes inside crash.
        subst (λ (l : List LogEntry). MakesFile streams l redo pages first p bytes) (sym (behind kept keeps).is)
        (later-page u past s log (valid_said stream before) after.durable (page_of opening) below good updated whole.long streams redo among given (behind kept keeps).kept holds.durable (behind kept keeps).keeps begun.entries pages first
        (had-of redo stream_is size_is) p bytes inside crash))

    pub left-redone : (other : StreamLine) → NamesAgain opening other stream → IsRedoneFrom s other (size_said stream before) pages first left after
    left-redone other again = record {
      entries = subst (IsLogOf s (size_said stream before)) (sym holds.entries_are) whole-log;
      redoable = λ kept keeps. redoable-line s (size_said stream before) first stream other kept pages left (left-redoable kept keeps) (said-left other again);
    }

-- ---- the first run, whose log has no entry

appended-none : (log : ℕ) → appended [] log ≡ []
unfolding appended
appended-none log = refl

goes-on-none : (log : ℕ) (past : List Entry) → GoesOnFrom log 0 past
goes-on-none log past = record { later = past; front = []; splits = sym (append-nil past); none = appended-none log; reached = omega arith }

opened-file : (s : ℕ) (stream : StreamLine) (read : Option StreamRecord) (opening : Disk) → AreRestartSizes stream read → IsWholeDisk opening → HasFile s (size_said stream read) [] (page_of opening) (valid_said stream read) (valid_said stream read) opening
opened-file s stream read opening sizes whole = record {
  redo = record { stream = s; disk = s; size = size_said stream read; valid = valid_said stream read; within = sizes.within; in_range = sizes.in_range };
  stream_is = refl;
  size_is = refl;
  least = same-least (valid_said stream read);
  file = λ i below. twice (nat_lt i (valid_said stream read)) (slice_index (page_of opening (i / 4096)) (i % 4096));
  whole = whole;
}
  where
    same-least : (n : ℕ) → n ≤ n
    same-least n = omega arith

    twice : (b : Bool) (byte : ℕ) → (if b then byte else 0) ≡ (if b then (if b then byte else 0) else 0)
    twice true byte = refl
    twice false byte = refl

pub first-begun : (past : List Entry) (s log : ℕ) (stream : StreamLine) (read : Option StreamRecord) (opening : Disk) (begun : Log) → AreRestartSizes stream read → IsWholeDisk opening → begun.entries ≡ [] →
    HasBegunWith past s log stream read (page_of opening) (valid_said stream read) opening begun
first-begun past s log stream read opening begun sizes whole none = record {
  has = subst (λ (l : List LogEntry). HasFile s (size_said stream read) l (page_of opening) (valid_said stream read) (valid_said stream read) opening) (sym none) (opened-file s stream read opening sizes whole);
  entries = let empty : IsLogOf s (size_said stream read) [] = record { ascending = tt; in_range = tt; within = tt } in subst (IsLogOf s (size_said stream read)) (sym none) empty;
  goes_on = subst (λ (l : List LogEntry). GoesOnFrom log (last_lsn_of (readings l)) past) (sym none) (goes-on-none log past);
}

-- ---- a later run, which begins with what a restart made

module _ (past : List Entry) (s log size first : ℕ) (pages : ℕ → List ℕ) (made : Disk) (begun : Log) (file : IsFileMade s size begun.entries pages first made) (entries : IsLogOf s size begun.entries) (goes : GoesOnFrom log (last_lsn_of (readings begun.entries)) past)
    (line : StreamLine) where
  begun-as : (read : Option StreamRecord) → read ≡ Some (V2 size file.valid) → (size_said line read ≡ size) × HasBegunWith past s log line read pages first made begun
  begun-as read is =
      subst (λ o. (size_said line o ≡ size) × HasBegunWith past s log line o pages first made begun) (sym is)
      (refl, record { has = file.has; entries = entries; goes_on = goes })

  pub made-begun : (read : Option StreamRecord) → IsReadAs (page_of made record_number) read → (size_said line read ≡ size) × HasBegunWith past s log line read pages first made begun
  made-begun read reads = begun-as read (read-once (page_of made record_number) read (Some (V2 size file.valid)) reads file.spelled)

pub names-made : (s size first : ℕ) (kept : List LogEntry) (pages : ℕ → List ℕ) (made : Disk) → IsFileMade s size kept pages first made → (stream line : StreamLine) → NamesAgain made stream line
names-made s size first kept pages made file stream line none = absurd (none (V2 size file.valid) file.spelled)
