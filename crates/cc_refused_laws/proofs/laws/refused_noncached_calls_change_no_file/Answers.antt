use Rattle.cc_refused_laws.proofs.Noncached.{read-files, page-refused-files, first-write-files, transfer-cause, transfer-refused-files}
use Rattle.cc_refused_laws.proofs.laws.refused_noncached_calls_change_no_file.Goals as goal

pub returns-clause-read : goal.returns-clause-read
returns-clause-read c = read-files

pub returns-clause-page : goal.returns-clause-page
returns-clause-page c = page-refused-files

pub returns-clause-first : goal.returns-clause-first
returns-clause-first c = first-write-files

pub returns-clause-cause : goal.returns-clause-cause
returns-clause-cause c = transfer-cause

pub returns-clause-store : goal.returns-clause-store
returns-clause-store c = transfer-refused-files
