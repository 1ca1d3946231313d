use Rattle.cc_print.proofs.call.push_call.Goals as goal

pub returns-in-SetGranularity : goal.returns-in-SetGranularity
returns-in-SetGranularity c = rw (c.in-SetGranularity.is) (c.push_of_file_number-in-SetGranularity.ensures)
