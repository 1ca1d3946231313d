-- One stop and the call behind it, and any number of them.
use Rattle.std.specs.Prelude.{◌≡◌, ℕ, ◌<◌, true, List, [], ◌∷◌, length, refl}
use Rattle.std.specs.List.{filter}
use Rattle.std.specs.declared.option.Option.{Option}
use Rattle.std.specs.declared.option.Option.TheVariants.{Some, None}
use Rattle.std.proofs.Common.{sym, subst, arith, inl, inr}
use Rattle.cc_entry.specs.declared.entry.Entry.{Entry}
use Rattle.cc_format.specs.declared.record.StreamRecord.{StreamRecord}
use Rattle.cc_model.specs.Setup.{Setup}
use Rattle.cc_redo.specs.Heard.{last_lsn_of, readings}
use Rattle.cc_redo.specs.Reading.{said_by}
use Rattle.cc_redo.specs.declared.redo.Redo.{Redo}
use Rattle.cc_restart_laws.specs.Stops.{updates_in}
use Rattle.cc_restart_laws.specs.Updates.{is_update_of}
use Rattle.cc_restarts.specs.Given.{size_said, valid_said}
use Rattle.cc_restarts.specs.Restarting.{LogsRestarted}
use Rattle.cc_restarts.specs.declared.ended.LogRestart.{LogRestart}
use Rattle.cc_command.specs.Words.{mode_in}
use Rattle.cc_program.specs.Begun.{RunIsBegun}
use Rattle.cc_program.specs.Ends.{IsAsked}
use Rattle.cc_program.specs.Restarting.{LeftAlone}
use Rattle.cc_program.specs.Setups.{setup_of}
use Rattle.cc_script.specs.Within.{ScriptIsWithin}
use Rattle.cc_script.specs.declared.script.Mode.TheVariants as mode
use Rattle.cc_script.specs.declared.script.Script.{Script}
use Rattle.cc_script.specs.declared.script.StreamLine.{StreamLine}
use Rattle.cc_stop_laws.proofs.Restarting.{made-again, made-file, possible-handed, redone-handed}
use Rattle.cc_stop_laws.proofs.Runs.{first-begun, left-redone, made-begun, names-made}
use Rattle.cc_stop_laws.proofs.Unopened.{unopened-redone}
use Rattle.cc_script_laws.proofs.Settles.{tells-at, told-run}
use Rattle.cc_restart_laws.proofs.Contents.{had-more}
use Rattle.cc_model.specs.Good.{IsGoodSoFar}
use Rattle.cc_model.specs.History.{history}
use Rattle.cc_model.specs.Objects.{had_map}
use Rattle.cc_program.specs.Runs.{given_of}
use Rattle.cc_turns.specs.Disk.{HasGone}
use Rattle.cc_turns.specs.RecordPage.{RecordHasGone}
use Rattle.cc_run_laws.proofs.Left.{disk-gone, so-far}
use Rattle.cc_stop_laws.specs.Redoable.{HoldsPossible, IsFileMade, IsHandedIn, NamesAgain, RecordsTell, TellsAt, TellsGreatest}
use Rattle.cc_stop_laws.specs.Runs.{HasBegunWith, IsRedoneFrom, IsUpdatedRun, as_read}
use Rattle.cc_traits.specs.Disk.{Disk, page_of}
use Rattle.cc_traits.specs.Log.{Log, LogEntry}
use Rattle.cc_update_laws.proofs.Within.{kept-counted}
use Rattle.cc_update_laws.specs.Devices.{GoesOnFrom}
use Rattle.cc_update_laws.specs.Logs.{EachEndsWithin, IsLogOf}
use Rattle.cc_run_laws.proofs.Asked.{asked-run, asked-within, log-below, restarts-once, restarts-run, stream-below, within-run}
use Rattle.cc_run_laws.proofs.Calls.{behind, explained-run, good-run, has-end, its-end, its-once, numbers-told, ran-behind, tells-once, updated-run, went-on}
use Rattle.cc_run_laws.specs.Calls.{HasRestarted, IsScriptOf, NamesStream}
use Rattle.cc_program.specs.Calls.{HasClauses, ProgramCall}
use Rattle.cc_run_laws.specs.Chains.{HaveLeft, IsFirst, RunsOn, RunsUnopened, StopsBefore}

-- what a run leaves, from which the file is redone
left-by : (u : Setup) (past : List Entry) (s log first : ℕ) (stream line : StreamLine) (read : Option StreamRecord) (pages : ℕ → List ℕ) (opening left : Disk) (begun after : Log) → IsUpdatedRun u past s log line read opening left begun after →
    HasBegunWith past s log line read pages first opening begun → NamesAgain opening stream line → IsRedoneFrom s stream (size_said line read) pages first left after
left-by u past s log first stream line read pages opening left begun after run had again =
    left-redone u past s log line read opening left run.good run.updated had.has.whole run.has_left.gone run.has_left.record_gone run.reads run.numbered begun after run.has_left.logged run.below pages first had stream again

-- a restart applies all updates of the stream that are kept
counted : (s size : ℕ) (entries : List LogEntry) (redo : Redo) → redo.stream ≡ s → redo.size ≡ size → EachEndsWithin s size entries →
    length (updates_in redo entries) ≡ length (filter (λ entry. is_update_of s (said_by entry.bytes)) entries)
counted s size entries redo stream_is size_is within =
    subst (λ (n : ℕ). length (updates_in redo entries) ≡ length (filter (λ (entry : LogEntry). is_update_of n (said_by entry.bytes)) entries)) stream_is
    (kept-counted redo entries (subst (λ (n : ℕ). EachEndsWithin n redo.size entries) (sym stream_is) (subst (λ (n : ℕ). EachEndsWithin s n entries) (sym size_is) within)))

-- what was made is that with which a run began
moved : (past : List Entry) (s log size first : ℕ) (pages : ℕ → List ℕ) (made opening : Disk) (kept begun : Log) → made ≡ opening → kept ≡ begun → IsFileMade s size kept.entries pages first made → IsLogOf s size kept.entries →
    GoesOnFrom log (last_lsn_of (readings kept.entries)) past → IsFileMade s size begun.entries pages first opening × IsLogOf s size begun.entries × GoesOnFrom log (last_lsn_of (readings begun.entries)) past
moved past s log size first pages made opening kept begun same_disk same_log file entries goes =
    subst (λ (l : Log). IsFileMade s size l.entries pages first opening × IsLogOf s size l.entries × GoesOnFrom log (last_lsn_of (readings l.entries)) past) same_log
    (subst (λ (d : Disk). IsFileMade s size kept.entries pages first d) same_disk file, entries, goes)

module _ {D L : Type 0} (told : D → Option Disk) (faults : D → ℕ) (log_told : L → Option Log) (log_faults : L → ℕ) where
  pub first-left : (s log : ℕ) (stream : StreamLine) (read : Option StreamRecord) (opening : Disk) (call : ProgramCall D L) (left : Disk) (after : Log) → IsFirst told faults log_told log_faults s log stream read opening call left after →
      IsRedoneFrom s stream (size_said stream read) (page_of opening) (valid_said stream read) left after
  first-left s log stream read opening call left after is =
      left-by (setup_of told faults is.script call.disks_begun call.logs_begun) call.past s log (valid_said stream read) stream stream read (page_of opening) opening left is.begun after
      (updated-run told faults log_told log_faults call is.clauses is.script is.ran s log stream read opening left is.begun after (stream-below is.script within s stream is.named) (log-below is.script within s log stream is.named is.logged) is.run)
      (first-begun call.past s log stream read opening is.begun is.run.numbered.sizes is.whole is.none) (λ none. record { size = refl; valid = refl })
    where
      within : ScriptIsWithin is.script
      within = within-run told faults log_told log_faults call is.clauses is.script is.ran

  -- ---- one call behind what can be redone

  module _ (s log size first : ℕ) (stream : StreamLine) (pages : ℕ → List ℕ) (was : Disk) (had : Log) (redone : IsRedoneFrom s stream size pages first was had) (call : ProgramCall D L) where
    module _ (restarted : HasRestarted told faults log_told log_faults s log stream was had call) where
      pub its-file : (made : Disk) × TellsAt told call.disks_begun s made × TellsAt log_told call.logs_begun log restarted.kept × (file : IsFileMade s size restarted.kept.entries pages first made) × IsLogOf s size restarted.kept.entries
          × TellsGreatest restarted.line restarted.handed restarted.kept.entries file.has.redo file.valid
      its-file =
          made-file told faults log_told log_faults restarted.script.streams restarted.script.restarts (behind told faults log_told log_faults s log stream was had call restarted).ended call.disks call.disks_begun call.logs call.logs_begun
          (behind told faults log_told log_faults s log stream was had call restarted).made s log restarted.n restarted.line (its-end told faults log_told log_faults s log stream was had call restarted).one restarted.kept restarted.lines
          (its-once told faults log_told log_faults s log stream was had call restarted) (its-end told faults log_told log_faults s log stream was had call restarted).at restarted.handed_in.log_at size first stream pages was restarted.handed had redone restarted.handed_in restarted.names
          (numbers-told told faults log_told log_faults s log stream was had call restarted).0 (numbers-told told faults log_told log_faults s log stream was had call restarted).1

      pub file-made-by : (made : Disk) × TellsAt told call.disks_begun s made × TellsAt log_told call.logs_begun log restarted.kept × (file : IsFileMade s size restarted.kept.entries pages first made)
          × (length (updates_in file.has.redo restarted.kept.entries) ≡ length (filter (λ entry. is_update_of s (said_by entry.bytes)) restarted.kept.entries))
          × TellsGreatest restarted.line restarted.handed restarted.kept.entries file.has.redo file.valid
      file-made-by = (
        its-file.0,
        its-file.1,
        its-file.2,
        its-file.3,
        counted s size restarted.kept.entries its-file.3.has.redo its-file.3.has.stream_is its-file.3.has.size_is its-file.4.within,
        its-file.5,
      )

    pub runs-left : (left : Disk) (after : Log) → RunsOn told faults log_told log_faults s log stream was had call left after → IsRedoneFrom s stream size pages first left after
    runs-left left after is = subst (λ (n : ℕ). IsRedoneFrom s stream n pages first left after) with_begun.0
        (left-by (setup_of told faults is.restarted.script call.disks_begun call.logs_begun) call.past s log first stream is.restarted.line is.read pages is.opening left is.begun after
        (updated-run told faults log_told log_faults call is.restarted.clauses is.restarted.script is.restarted.ran s log is.restarted.line is.read is.opening left is.begun after (stream-below is.restarted.script within s is.restarted.line is.restarted.lines.named)
        (log-below is.restarted.script within s log is.restarted.line is.restarted.lines.named is.restarted.lines.logged) is.run) with_begun.1
        (names-made s size first is.begun.entries pages is.opening here.0 stream is.restarted.line))
      where
        within : ScriptIsWithin is.restarted.script
        within = within-run told faults log_told log_faults call is.restarted.clauses is.restarted.script is.restarted.ran

        made : (made : Disk) × TellsAt told call.disks_begun s made × TellsAt log_told call.logs_begun log is.restarted.kept × IsFileMade s size is.restarted.kept.entries pages first made × IsLogOf s size is.restarted.kept.entries
        made = let its = its-file is.restarted in (its.0, its.1, its.2, its.3, its.4)

        here : IsFileMade s size is.begun.entries pages first is.opening × IsLogOf s size is.begun.entries × GoesOnFrom log (last_lsn_of (readings is.begun.entries)) call.past
        here =
            moved call.past s log size first pages made.0 is.opening is.restarted.kept is.begun (tells-once told call.disks_begun s made.0 is.opening made.1 is.run.disk_begun)
            (tells-once log_told call.logs_begun log is.restarted.kept is.begun made.2 is.run.log_begun) made.3 made.4 (went-on told faults log_told log_faults s log stream was had call is.restarted)

        with_begun : (size_said is.restarted.line is.read ≡ size) × HasBegunWith call.past s log is.restarted.line is.read pages first is.opening is.begun
        with_begun = made-begun call.past s log size first pages is.opening is.begun here.0 here.1 here.2 is.restarted.line is.read is.run.reads

    -- the disk with which it began can be redone again
    module _ (handed : Disk) (kept : Log) (clauses : HasClauses told faults log_told log_faults call) (handed_in : IsHandedIn told log_told call.disks call.logs s log was had handed kept)
        (named : (script : Script) → IsScriptOf call.input call.script script → NamesStream s log stream handed script) where
      abbrev pub Begun : Type 0
      Begun = (left : Disk) × TellsAt told call.disks_begun s left × TellsAt log_told call.logs_begun log kept × IsRedoneFrom s stream size pages first left (as_read kept) × HoldsPossible left

      behind-restarts : (script : Script) (ended : List LogRestart) → IsAsked call.input script → LogsRestarted told faults log_told log_faults script.streams script.restarts ended call.disks call.disks_begun call.logs call.logs_begun → NamesStream s log stream handed script → Begun
      behind-restarts script ended asked made names =
          let one = has-end told faults log_told log_faults script.streams script.restarts ended call.disks call.disks_begun call.logs call.logs_begun made names.n names.lines.restart names.lines.at in
          made-again told faults log_told log_faults script.streams script.restarts ended call.disks call.disks_begun call.logs call.logs_begun made s log names.n names.line one.one kept names.lines
          (restarts-once script.restarts (asked-within call.input script asked).restarts log names.n names.lines.restart names.lines.at names.lines.of_log) one.at handed_in.log_at size first stream pages was handed
          had redone handed_in names.names

      by-script : (o : Option Script) → call.script ≡ o → Begun
      by-script (Some script) ran =
          let its = ran-behind told faults log_told log_faults call clauses script ran in
          behind-restarts script its.ended (asked-run told faults log_told log_faults call clauses script ran) its.made (named script (subst (λ (o : Option Script). IsScriptOf call.input o script) (sym ran) refl))
      by-script None ran =
          alone (subst (λ (o : Option Script). RunIsBegun told faults log_told log_faults call.input o call.told.replies call.past call.status call.disks call.disks_begun call.logs call.logs_begun) ran clauses.restarted)
        where
          alone : LeftAlone told faults log_told log_faults call.input call.status call.disks call.disks_begun call.logs call.logs_begun → Begun
          alone (inl same) = (
            handed,
            subst (λ (l : List D). TellsAt told l s handed) (sym same.disks_are) handed_in.disk_at,
            subst (λ (l : List L). TellsAt log_told l log kept) (sym same.logs_are) handed_in.log_at,
            redone-handed s size first stream pages was handed had kept redone handed_in.handed_on handed_in.keeps,
            possible-handed was handed handed_in.handed_on,
          )
          alone (inr made) = behind-restarts made.script made.alone.ended made.asked made.alone.made (named made.script (subst (λ (o : Option Script). IsScriptOf call.input o made.script) (sym ran) made.asked))

      pub begun-redone : Begun
      begun-redone = by-script call.script refl

    pub stops-left : (left : Disk) (after : Log) → StopsBefore told faults log_told log_faults s log stream was had call left after → IsRedoneFrom s stream size pages first left after
    stops-left left after is =
        let begun = begun-redone is.handed is.kept is.clauses is.handed_in is.named in
        subst (λ (l : Log). IsRedoneFrom s stream size pages first left l) (sym is.after_is)
        (subst (λ (d : Disk). IsRedoneFrom s stream size pages first d (as_read is.kept)) (tells-once told call.disks_begun s begun.0 left begun.1 is.disk_left) begun.3)

    stops-possible : (left : Disk) (after : Log) → StopsBefore told faults log_told log_faults s log stream was had call left after → HoldsPossible left
    stops-possible left after is =
        let begun = begun-redone is.handed is.kept is.clauses is.handed_in is.named in
        subst (λ (d : Disk). HoldsPossible d) (tells-once told call.disks_begun s begun.0 left begun.1 is.disk_left) begun.4

    -- a run that opens the stream at no time gives its disk back as it was
    pub unopened-left : (left : Disk) (after : Log) → RunsUnopened told faults log_told log_faults s log stream was had call left after → IsRedoneFrom s stream size pages first left after
    unopened-left left after is =
        unopened-redone (setup_of told faults is.script call.disks_begun call.logs_begun) call.past s so_far is.unopened records is.opening is.back (stops-possible is.opening after is.stops) gone.0 gone.1 left is.leaves stream size first pages after
        (stops-left is.opening after is.stops)
      where
        so_far : IsGoodSoFar (setup_of told faults is.script call.disks_begun call.logs_begun) call.past
        so_far = so-far (setup_of told faults is.script call.disks_begun call.logs_begun) call.past (good-run told faults log_told log_faults call is.stops.clauses is.script is.ran)

        asked : IsAsked call.input is.script
        asked = asked-run told faults log_told log_faults call is.stops.clauses is.script is.ran

        names : NamesStream s log stream is.stops.handed is.script
        names = is.stops.named is.script (subst (λ (o : Option Script). IsScriptOf call.input o is.script) (sym is.ran) refl)

        mode-is : mode_in call.input.words ≡ mode.Run
        mode-is = restarts-run call.input is.script asked names.n names.lines.restart names.lines.at

        below : s < 16
        below = stream-below is.script (asked-within call.input is.script asked) s names.line names.lines.named

        gone : HasGone (history call.past s) is.opening is.back × RecordHasGone call.past s is.opening is.back
        gone = disk-gone told faults call.past call.disks_begun call.disks_left is.stops.clauses.disks s below is.opening is.back is.stops.disk_left is.disk_back

        records : RecordsTell s 0 call.past
        records later front pass size valid how splits =
            let tells = tells-at s later front pass size valid how call.past splits
            (told-run (setup_of told faults is.script call.disks_begun call.logs_begun) call.past so_far s (given_of is.script) call.told call.taken (explained-run told faults log_told log_faults call is.stops.clauses is.script is.ran mode-is)) in
            (subst (λ (l : List Entry). had_map (history l s) ≡ true) (sym tells.since.grew) (had-more (setup_of told faults is.script call.disks_begun call.logs_begun) s 0 tells.since.later tells.moment tells.had), omega arith)

  -- ---- any number of calls

  module _ (s log : ℕ) (stream : StreamLine) (read : Option StreamRecord) (opening : Disk) where
    pub all-left : (calls : List (ProgramCall D L)) (left : Disk) (after : Log) → HaveLeft told faults log_told log_faults s log stream read opening calls left after →
        IsRedoneFrom s stream (size_said stream read) (page_of opening) (valid_said stream read) left after
    all-left [] left after have = absurd have
    all-left (call ∷ []) left after have = first-left s log stream read opening call left after have
    all-left (call ∷ one ∷ earlier) left after (was, had, have, inl runs) =
        runs-left s log (size_said stream read) (valid_said stream read) stream (page_of opening) was had (all-left (one ∷ earlier) was had have) call left after runs
    all-left (call ∷ one ∷ earlier) left after (was, had, have, inr (inr runs)) =
        unopened-left s log (size_said stream read) (valid_said stream read) stream (page_of opening) was had (all-left (one ∷ earlier) was had have) call left after runs
    all-left (call ∷ one ∷ earlier) left after (was, had, have, inr (inl stops)) =
        stops-left s log (size_said stream read) (valid_said stream read) stream (page_of opening) was had (all-left (one ∷ earlier) was had have) call left after stops

    pub all-made : (calls : List (ProgramCall D L)) (was : Disk) (had : Log) → HaveLeft told faults log_told log_faults s log stream read opening calls was had → (call : ProgramCall D L) →
        (restarted : HasRestarted told faults log_told log_faults s log stream was had call) → (made : Disk) × TellsAt told call.disks_begun s made
        × (file : IsFileMade s (size_said stream read) restarted.kept.entries (page_of opening) (valid_said stream read) made)
        × (length (updates_in file.has.redo restarted.kept.entries) ≡ length (filter (λ entry. is_update_of s (said_by entry.bytes)) restarted.kept.entries))
        × TellsGreatest restarted.line restarted.handed restarted.kept.entries file.has.redo file.valid
    all-made calls was had have call restarted =
        let its = file-made-by s log (size_said stream read) (valid_said stream read) stream (page_of opening) was had (all-left calls was had have) call restarted in
        (its.0, its.1, its.3, its.4, its.5)
