use Rattle.std.proofs.Common.{arith}
use Rattle.cc_log.specs.Turn.{appended}
use Rattle.cc_crash_laws.specs.Logged.{HasStamps}
use Rattle.cc_crash_laws.proofs.Logged.{has-stamps, if-told}
use Rattle.cc_crash_laws.proofs.logs.begun_pages_are_logged.Goals as goal

pub returns-clause-holds : goal.returns-clause-holds
returns-clause-holds g c = λ past later front pass s p log begun now covered is holds.
    has-stamps past later front pass s p log now covered is holds.durable

pub returns-clause-stands : goal.returns-clause-stands
returns-clause-stands g c = λ past later front pass s p first log covered is stands.
    if-told first.told (g.L.LogFile.told log.file) (appended past log.handle) log.flushed (HasStamps front s p log.handle) stands.stands.file_is
    (λ now durable. let same = stands.stands.flushed_is in has-stamps past later front pass s p log.handle now covered is (omega (arith, same, durable)))
