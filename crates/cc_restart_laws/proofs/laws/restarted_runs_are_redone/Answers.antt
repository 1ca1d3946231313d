use Rattle.cc_restart_laws.proofs.Files.{later-file, later-page}
use Rattle.cc_restart_laws.proofs.laws.restarted_runs_are_redone.Goals as goal

pub returns-clause-file : goal.returns-clause-file
returns-clause-file c = λ u past s log first durable pages below good updated long streams redo handed given kept flushed keeps begun old_pages old_first had disk left i.
    later-file u past s log first durable pages below good updated long streams redo handed given kept flushed keeps begun old_pages old_first had disk left i

pub returns-clause-page : goal.returns-clause-page
returns-clause-page c = λ u past s log first durable pages below good updated long streams redo handed given kept flushed keeps begun old_pages old_first had page bytes in_size contains.
    later-page u past s log first durable pages below good updated long streams redo handed given kept flushed keeps begun old_pages old_first had page bytes in_size contains
