-- Without room for the block of the page a block has to go; with room the place for the page is reserved.
use Rattle.std.specs.Prelude.{refl}
use Rattle.std.proofs.Common.{sym, ◌∙◌}
use Rattle.cc_step.proofs.Placed.{so-far}
use Rattle.cc_step.proofs.Failing.{stepped-answered}
use Rattle.cc_step.proofs.Rooms.{room-within}
use Rattle.cc_step.proofs.Waiting.{brings-room}
use Rattle.cc_step.proofs.filling.bring.Goals as goal

pub make_room-requires-clause-answered : goal.make_room-requires-clause-answered
make_room-requires-clause-answered g c = stepped-answered c.args.call c.requires.stepped

pub make_room-requires-clause-room : goal.make_room-requires-clause-room
make_room-requires-clause-room g c = brings-room c.args.call c.requires.brings

pub make_room-requires-clause-may : goal.make_room-requires-clause-may
make_room-requires-clause-may g c =
    let u = c.requires.may.0 in
    let may = c.requires.may.1 in
    let stand = may.may.stand in (
      u,
      c.args.page,
      may,
      record {
        good = stand.good;
        stands = stand.stands;
        waits = c.requires.may.2;
        full = sym (c.has_room.ensures (u.opening c.args.book.now.stream) c.args.journal.now.entries stand.stands) ∙ c.if-has_room.false;
      },
    )

pub returns-in-Ok : goal.returns-in-Ok
returns-in-Ok g c u may waits =
    let stand = may.may.stand in
    let past = c.args.journal.now.entries in
    let room = sym (c.has_room.ensures (u.opening c.args.book.now.stream) past stand.stands) ∙ c.if-has_room.true in
    record {
      call_is = refl;
      admitted = waits.admitted;
      least = waits.least;
      room = room;
      in_quota = room-within u past c.args.book.now.stream c.args.page (so-far u past stand.good) room;
      same_book = refl;
      reserved = c.in-Ok.ensures.reserved;
    }

pub returns-in-Ok-make_room : goal.returns-in-Ok-make_room
returns-in-Ok-make_room g c u may waits =
    let stand = may.may.stand in
    c.in-Ok-make_room.ensures.left u c.args.page may
    (record {
      good = stand.good;
      stands = stand.stands;
      waits = waits;
      full = sym (c.has_room.ensures (u.opening c.args.book.now.stream) c.args.journal.now.entries stand.stands) ∙ c.if-has_room.false;
    })

pub returns-in-Err-make_room : goal.returns-in-Err-make_room
returns-in-Err-make_room g c u may waits =
    let stand = may.may.stand in
    c.in-Err-make_room.ensures.left u c.args.page may
    (record {
      good = stand.good;
      stands = stand.stands;
      waits = waits;
      full = sym (c.has_room.ensures (u.opening c.args.book.now.stream) c.args.journal.now.entries stand.stands) ∙ c.if-has_room.false;
    })
