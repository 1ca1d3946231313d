use Rattle.cc_refused_laws.proofs.Others.{append-nothing, log_flush-nothing, defer-idle, post-idle, levels-idle, page_write-files, tick-files, ahead-files}
use Rattle.cc_refused_laws.proofs.laws.refused_others_change_no_file.Goals as goal

pub returns-clause-append : goal.returns-clause-append
returns-clause-append c = append-nothing

pub returns-clause-log_flush : goal.returns-clause-log_flush
returns-clause-log_flush c = log_flush-nothing

pub returns-clause-deferral : goal.returns-clause-deferral
returns-clause-deferral c = defer-idle

pub returns-clause-post : goal.returns-clause-post
returns-clause-post c = post-idle

pub returns-clause-levels : goal.returns-clause-levels
returns-clause-levels c = levels-idle

pub returns-clause-write_one : goal.returns-clause-write_one
returns-clause-write_one c = page_write-files

pub returns-clause-tick : goal.returns-clause-tick
returns-clause-tick c = tick-files

pub returns-clause-ahead_step : goal.returns-clause-ahead_step
returns-clause-ahead_step c = ahead-files
