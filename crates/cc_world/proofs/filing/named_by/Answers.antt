-- A query is filed by the file that it names, and under no stream where it names none.
use Rattle.std.specs.Prelude.{◌≡◌, Bool, true, not, is_some, Option}
use Rattle.std.proofs.Common.{ap, sym, ◌∙◌}
use Rattle.cc_entry.specs.Place.{File}
use Rattle.cc_model.specs.Acts.{file_of}
use Rattle.cc_world.specs.Filing.{is_unfiled}
use Rattle.cc_world.proofs.FiledUnder.{filed-file}
use Rattle.cc_world.proofs.Unfiled.{unfiled-under}
use Rattle.cc_world.proofs.filing.named_by.Goals as goal

pub returns-in-Some : goal.returns-in-Some
returns-in-Some c =
    let is = ap file_of c.in-Query.is ∙ (sym c.file.ensures ∙ c.in-Some.is) in
    (is, λ past. filed-file past c.args.call.now c.in-Some.file is)

pub returns-in-None : goal.returns-in-None
returns-in-None c =
    let none = sym c.file.ensures ∙ c.in-None.is in
    let unfiled : is_unfiled c.args.call.now ≡ true = ap is_unfiled c.in-Query.is ∙ ap (λ (named : Option File). not (is_some named)) none in
    (unfiled, λ past. unfiled-under past c.args.call.now unfiled)
