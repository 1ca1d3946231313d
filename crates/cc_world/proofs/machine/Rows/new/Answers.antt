-- The books are made for as many streams as there are disks.
use Rattle.std.proofs.Common.{subst, ◌∙◌, arith}
use Rattle.cc_world.specs.World.{AreAt, IsNewBook}
use Rattle.cc_world.proofs.machine.Rows.new.Goals as goal

pub returns : goal.returns
returns g c =
    let streams = c.len-streams.ensures ∙ c.args.setup.now.disks.ok.0 in
    let logs = c.len-logs.ensures ∙ c.args.setup.now.logs.ok.0 in
    let limits = c.in_ok-new.ensures.limits in
    let empty = c.in_ok-new.ensures.empty in
    record {
      rows = record { empty = c.in_ok-with_capacity-2.ensures.items; room = omega (arith, c.in_ok-with_capacity-2.ensures.capacity, streams) };
      books = subst (λ n. AreAt n IsNewBook c.in_ok-books_of.field-0.items) streams c.in_ok-books_of.ensures;
      logs = record { empty = c.in_ok-with_capacity.ensures.items; room = omega (arith, c.in_ok-with_capacity.ensures.capacity, logs) };
      journal = record { limits = (limits.0 ∙ c.capacity.ensures, limits.1, limits.2 ∙ logs); empty = (empty.0, empty.1, empty.3) };
    }
