use Rattle.cc_faultless_laws.proofs.Quiet.{by-table}
use Rattle.cc_faultless_laws.proofs.laws.runs_without_faults_answer_by_the_table.Goals as goal

pub returns : goal.returns
returns c = λ u past told good none. by-table u past good.legal none.entries
