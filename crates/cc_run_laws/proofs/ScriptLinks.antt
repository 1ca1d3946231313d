-- Calls of which each run is known by its script are ones of which the laws on stops speak.
use Rattle.std.specs.Prelude.{ℕ, List, [], ◌∷◌}
use Rattle.std.specs.declared.option.Option.{Option}
use Rattle.std.proofs.Common.{inl, inr}
use Rattle.cc_format.specs.declared.record.StreamRecord.{StreamRecord}
use Rattle.cc_script.specs.declared.script.StreamLine.{StreamLine}
use Rattle.cc_traits.specs.Disk.{Disk}
use Rattle.cc_traits.specs.Log.{Log}
use Rattle.cc_run_laws.specs.Calls.{RanUpdated}
use Rattle.cc_program.specs.Calls.{HasClauses, ProgramCall}
use Rattle.cc_run_laws.specs.Chains.{HaveLeft, IsFirst, RunsOn}
use Rattle.cc_run_laws.specs.ScriptChains.{HaveLeftByScripts, IsFirstScript, RanScript, RunsScript}

module _ {D L : Type 0} (told : D → Option Disk) (faults : D → ℕ) (log_told : L → Option Log) (log_faults : L → ℕ) (s log : ℕ)
    (updated : (call : ProgramCall D L) → HasClauses told faults log_told log_faults call → (s log : ℕ) (line : StreamLine) (read : Option StreamRecord) (opening left : Disk) (begun after : Log) →
    RanScript told log_told call s log line read opening left begun after → RanUpdated told log_told call s log line read opening left begun after) (stream : StreamLine) where
  is-first : (read : Option StreamRecord) (opening : Disk) (call : ProgramCall D L) (left : Disk) (after : Log) → IsFirstScript told faults log_told log_faults s log stream read opening call left after →
      IsFirst told faults log_told log_faults s log stream read opening call left after
  is-first read opening call left after is = record {
    clauses = is.clauses;
    script = is.ran.leaves.its.script;
    ran = is.ran.leaves.its.ran;
    named = is.ran.leaves.its.named;
    logged = is.ran.leaves.its.logged;
    begun = is.begun;
    run = updated call is.clauses s log stream read opening left is.begun after is.ran;
    whole = is.whole;
    none = is.none;
  }

  runs-on : (was : Disk) (had : Log) (call : ProgramCall D L) (left : Disk) (after : Log) → RunsScript told faults log_told log_faults s log stream was had call left after →
      RunsOn told faults log_told log_faults s log stream was had call left after
  runs-on was had call left after is = record {
    restarted = is.restarted;
    read = is.read;
    opening = is.opening;
    begun = is.begun;
    run = updated call is.restarted.clauses s log is.restarted.line is.read is.opening left is.begun after is.ran;
  }

  pub have-left : (read : Option StreamRecord) (opening : Disk) (calls : List (ProgramCall D L)) (left : Disk) (after : Log) → HaveLeftByScripts told faults log_told log_faults s log stream read opening calls left after →
      HaveLeft told faults log_told log_faults s log stream read opening calls left after
  have-left read opening [] left after have = have
  have-left read opening (call ∷ []) left after have = is-first read opening call left after have
  have-left read opening (call ∷ one ∷ earlier) left after (was, had, have, inl runs) = (was, had, have-left read opening (one ∷ earlier) was had have, inl (runs-on was had call left after runs))
  have-left read opening (call ∷ one ∷ earlier) left after (was, had, have, inr apart) = (was, had, have-left read opening (one ∷ earlier) was had have, inr apart)
