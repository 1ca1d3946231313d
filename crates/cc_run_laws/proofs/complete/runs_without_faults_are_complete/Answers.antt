use Rattle.std.specs.Prelude.{reverse}
use Rattle.cc_run_laws.proofs.Found.{run-of, put-of}
use Rattle.cc_run_laws.proofs.complete.runs_without_faults_are_complete.Goals as goal

pub returns : goal.returns
returns g c = λ u i o script made replies told journal status disks disks_after logs logs_after main good calm found devices sink_calm sink_took disks_stayed logs_stayed.
    let none = calm disks_stayed logs_stayed in
    record {
      ends = main.complete script found devices sink_calm sink_took;
      run = run-of i o script made replies journal status found main.ended;
      whole = put-of i o script made replies journal status found main.ended;
      no_fault = none;
      by_table = c.runs_without_faults_answer_by_the_table.ensures u (reverse journal) told good none;
    }
