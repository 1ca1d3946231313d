use Rattle.std.proofs.lemmas.Result.{on_ok_weaker}
use Rattle.cc_crash_laws.proofs.Written.{keeps-wrote}
use Rattle.cc_crash_laws.proofs.flushes.what_a_flush_wrote_stays.Goals as goal

pub returns : goal.returns
returns c = λ old new file span answer ends.
    on_ok_weaker answer (keeps-wrote old.setup old.number file.stream span old.seen new.seen ends.good) ends.durable
