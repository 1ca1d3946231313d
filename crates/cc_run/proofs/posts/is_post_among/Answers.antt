-- An entry of the post is among them where one of them is it.
use Rattle.std.proofs.Common.{rules, ◌≡◌, true, false}
use Rattle.std.proofs.lemmas.Iterator.{cases_from_any, YieldsList-from_slice}
use borrow.Author.Tests.{tests}
use Rattle.cc_entry.specs.declared.entry.Entry.TheVariants as entry
use Rattle.cc_pieces.specs.Steps.{posts_it}
use Rattle.cc_run.proofs.PostSteps.{found}
use Rattle.cc_run.proofs.posts.is_post_among.Goals as goal

pub returns : goal.returns
returns c =
    found (posts_it c.args.id) c.args.entries.now (entry.Posted c.args.id) c.any.result
    (cases_from_any _ _ _ (λ e. posts_it c.args.id e ≡ true) (λ e. posts_it c.args.id e ≡ false) c.any.ensures.ran
    (YieldsList-from_slice c.args.entries.now cc) (λ x q k. search (rules, tests)) (λ x q k. search (rules, tests)))
