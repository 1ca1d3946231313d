use Rattle.cc_own.proofs.OpenIds.{ids-apart}
use Rattle.cc_own.proofs.DistinctIds.{ids-distinct}
use Rattle.cc_own.proofs.laws.ids_are_apart.Goals as goal

pub returns-clause-distinct : goal.returns-clause-distinct
returns-clause-distinct c = ids-distinct

pub returns-clause-one_stream : goal.returns-clause-one_stream
returns-clause-one_stream c = λ u past s t id hold other legal here there. ids-apart u past s t id legal (hold, here) (other, there)
