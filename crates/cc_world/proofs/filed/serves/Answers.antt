use Rattle.std.proofs.Common.{ap, sym, ◌∙◌}
use Rattle.std.specs.Option.{option_map}
use Rattle.cc_holds.specs.Stands.{shown_row}
use Rattle.cc_world.proofs.HoldServes.{serves-there, serves-unmade, serves-unshown}
use Rattle.cc_world.proofs.filed.serves.Goals as goal

pub returns-in_default : goal.returns-in_default
returns-in_default c opening past stands =
    serves-unmade c.args.pass c.args.asked _ (sym c.in_default.is ∙ c.maker.ensures opening past stands)

pub returns-in-Some-hold : goal.returns-in-Some-hold
returns-in-Some-hold c opening past stands =
    c.fits.ensures
    ∙ serves-there c.args.pass c.in-Some.maker c.args.asked c.in-Some-hold.hold _ (sym c.in-Some.is ∙ c.maker.ensures opening past stands)
    (ap (option_map shown_row) (sym c.in-Some-hold.is) ∙ c.hold.ensures opening past stands)

pub returns-in-None : goal.returns-in-None
returns-in-None c opening past stands =
    serves-unshown c.args.pass c.args.asked _ (ap (option_map shown_row) (sym c.in-None.is) ∙ c.hold.ensures opening past stands)
