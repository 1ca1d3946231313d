use Rattle.cc_restart_laws.proofs.Files.{first-file, first-page}
use Rattle.cc_restart_laws.proofs.laws.stopped_runs_are_redone.Goals as goal

pub returns-clause-file : goal.returns-clause-file
returns-clause-file c = λ u past s log first durable pages below good updated long streams redo handed given kept flushed keeps disk left i.
    first-file u past s log first durable pages below good updated long streams redo handed given kept flushed keeps disk left i

pub returns-clause-page : goal.returns-clause-page
returns-clause-page c = λ u past s log first durable pages below good updated long streams redo handed given kept flushed keeps page bytes in_size contains.
    first-page u past s log first durable pages below good updated long streams redo handed given kept flushed keeps page bytes in_size contains
