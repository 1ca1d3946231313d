use Rattle.cc_laws.proofs.LeastPages.{unsettled-page, unsettled-none, grown-page, grown-none}
use Rattle.cc_laws.proofs.discards.discards_are_refused_for_the_least_page.Goals as goal

pub returns-clause-unsettled : goal.returns-clause-unsettled
returns-clause-unsettled c = unsettled-page

pub returns-clause-settled : goal.returns-clause-settled
returns-clause-settled c = unsettled-none

pub returns-clause-grown : goal.returns-clause-grown
returns-clause-grown c = grown-page

pub returns-clause-not_grown : goal.returns-clause-not_grown
returns-clause-not_grown c = grown-none
