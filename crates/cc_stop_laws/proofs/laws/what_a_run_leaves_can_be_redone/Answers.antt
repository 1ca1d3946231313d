use Rattle.cc_stop_laws.proofs.Runs.{first-begun, left-redone}
use Rattle.cc_stop_laws.proofs.laws.what_a_run_leaves_can_be_redone.Goals as goal

pub returns-clause-first : goal.returns-clause-first
returns-clause-first c = λ u past s log stream read opening left begun after run whole none. first-begun past s log stream read opening begun run.numbered.sizes whole none

pub returns-clause-left : goal.returns-clause-left
returns-clause-left c = λ u past s log first stream line read pages opening left begun after run had again.
    left-redone u past s log line read opening left run.good run.updated had.has.whole run.has_left.gone run.has_left.record_gone run.reads run.numbered begun after run.has_left.logged run.below pages first had stream again
