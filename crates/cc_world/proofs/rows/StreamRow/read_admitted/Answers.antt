-- A page that may not be read now leaves all as it was; one that may is read with a place reserved, or finds none.
use Rattle.std.specs.Prelude.{◌≡◌, ◌||◌, is_none, refl}
use Rattle.std.proofs.Common.{sym, ◌∙◌}
use Rattle.cc_entry.specs.declared.call.Call.TheVariants as call
use Rattle.cc_turns.specs.Disk.{opening_of}
use Rattle.cc_world.proofs.Tests.{clash}
use Rattle.cc_world.proofs.UncachedCalls.{left-reserving, left-unreserved, may-read, not-read, ready-reserving}
use Rattle.cc_world.proofs.rows.StreamRow.read_admitted.Goals as goal

pub returns-then-not-may_read : goal.returns-then-not-may_read
returns-then-not-may_read g c u first made = (
  not-read g.D.Told.told g.D.Told.faults u first 0 c.args.pass c.args.file c.args.page c.args.self.now c.args.journal.now made
      (λ ready. clash (sym ready ∙ (sym (c.may_read.ensures (opening_of first.told) first c.args.journal.now.entries made.stands.row_is) ∙ c.if-not-may_read.true))),
  refl,
  refl,
)

pub read_ready-requires : goal.read_ready-requires
read_ready-requires g c =
    let u = c.requires.0 in
    let first = c.requires.1 in
    let made = c.requires.2 in (
      u,
      first,
      ready-reserving g.D.Told.told g.D.Told.faults u first c.args.pass 1 (call.NcRead c.args.file c.args.page) c.args.self.now c.args.journal.now made refl c.reserve.new.self c.in-Ok.ensures.reserved
          (sym (c.may_read.ensures (opening_of first.told) first c.args.journal.now.entries made.stands.row_is) ∙ c.if-not-may_read.false),
    )

pub returns-in-Ok : goal.returns-in-Ok
returns-in-Ok g c u first made =
    let it = call.NcRead c.args.file c.args.page in
    let row = c.args.self.now in
    let j = c.args.journal.now in
    let ready = sym (c.may_read.ensures (opening_of first.told) first j.entries made.stands.row_is) ∙ c.if-not-may_read.false in
    left-reserving g.D.Told.told g.D.Told.faults u first c.args.pass 1 it row j made refl c.reserve.new.self c.read_ready.new.journal c.read_ready.result c.read_ready.new.self _ _
    c.in-Ok.ensures.reserved c.in-Ok.ensures.full.1 (may-read g.D.Told.told g.D.Told.faults u first 0 c.args.pass c.args.file c.args.page row j made ready)
    (c.read_ready.ensures u first (ready-reserving g.D.Told.told g.D.Told.faults u first c.args.pass 1 it row j made refl c.reserve.new.self c.in-Ok.ensures.reserved ready))

pub returns-in-Err : goal.returns-in-Err
returns-in-Err g c u first made =
    let row = c.args.self.now in
    let j = c.args.journal.now in
    let ready = sym (c.may_read.ensures (opening_of first.told) first j.entries made.stands.row_is) ∙ c.if-not-may_read.false in
    left-unreserved g.D.Told.told g.D.Told.faults u first c.args.pass 1 (call.NcRead c.args.file c.args.page) row j made refl c.in-Err.error c.reserve.new.self
    (may-read g.D.Told.told g.D.Told.faults u first 0 c.args.pass c.args.file c.args.page row j made ready) c.in-Err.ensures.full c.in-Err.ensures.causes c.in-Err.ensures.err
