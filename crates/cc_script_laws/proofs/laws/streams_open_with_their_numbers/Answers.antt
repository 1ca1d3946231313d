use Rattle.cc_script_laws.proofs.Numbered.{numbered-done, numbered-kept}
use Rattle.cc_script_laws.proofs.laws.streams_open_with_their_numbers.Goals as goal

pub returns-clause-done : goal.returns-clause-done
returns-clause-done c = λ u given told taken past is good s log updated stream line at answered read pages tells reads known done.
    numbered-done u given told taken past is good s log updated stream line at answered read pages tells reads known done

pub returns-clause-kept : goal.returns-clause-kept
returns-clause-kept c = λ u given told taken past is good s log updated stream line at answered read pages tells reads known none are.
    numbered-kept u given told taken past is good s log updated stream line at answered read pages tells reads known none are
