-- The page was read, or not: the entry of a failure is placed, or the place given back, and the disk stands for what is seen.
use Rattle.std.proofs.Common.{refl}
use Rattle.cc_stored.proofs.Unread.{failed-left, failed-rest, failed-stands, idle-rest, idle-stands, read-known}
use Rattle.cc_stored.proofs.load.load_reserved.Goals as goal

pub returns-in-Ok-clause-stands : goal.returns-in-Ok-clause-stands
returns-in-Ok-clause-stands g c =
    let w = g.T.Turns.standing c.args.turns.now in
    let x = g.T.Turns.standing c.give_back.new.turns in
    idle-stands g.T.Disk.Told.told g.T.Disk.Told.faults w x c.args.stream 0 c.args.disk.now c.read_page.new.self c.requires.held c.requires.rest c.requires.stands c.give_back.ensures.went
    0 c.give_back.ensures.grows c.read_page.ensures.stays c.in-Ok.ensures.counted

pub returns-in-Ok-clause-rest : goal.returns-in-Ok-clause-rest
returns-in-Ok-clause-rest g c =
    let w = g.T.Turns.standing c.args.turns.now in
    let x = g.T.Turns.standing c.give_back.new.turns in
    idle-rest g.T.Disk.Told.told g.T.Disk.Told.faults w x c.args.stream 0 c.args.disk.now c.read_page.new.self c.requires.held c.requires.rest c.requires.stands c.give_back.ensures.went
    c.give_back.ensures.grows

pub returns-in-Ok-clause-read : goal.returns-in-Ok-clause-read
returns-in-Ok-clause-read g c =
    let w = g.T.Turns.standing c.args.turns.now in
    let x = g.T.Turns.standing c.give_back.new.turns in
    read-known g.T.Disk.Told.told g.T.Disk.Told.faults w x c.args.stream 0 c.args.disk.now c.read_page.new.self c.requires.held c.requires.rest c.requires.stands c.give_back.ensures.went
    c.read_page.new.out c.read_record.result c.give_back.ensures.grows c.in-Ok.ensures.found c.read_record.ensures

pub returns-in-Err-Failed-clause-stands : goal.returns-in-Err-Failed-clause-stands
returns-in-Err-Failed-clause-stands g c =
    let w = g.T.Turns.standing c.args.turns.now in
    let x = g.T.Turns.standing c.place_held.new.turns in
    failed-stands g.T.Disk.Told.told g.T.Disk.Told.faults w x c.args.stream 0 c.args.disk.now c.read_page.new.self c.requires.held c.requires.rest c.requires.stands c.place_held.ensures.went
    c.read_page.ensures.stays (rw c.in-Err-Failed.field-0-is at c.in-Err-Failed.ensures.counted) (rw c.me-pass.ensures at c.place_held.ensures.placed)

pub returns-in-Err-Failed-clause-rest : goal.returns-in-Err-Failed-clause-rest
returns-in-Err-Failed-clause-rest g c =
    let w = g.T.Turns.standing c.args.turns.now in
    let x = g.T.Turns.standing c.place_held.new.turns in
    failed-rest g.T.Disk.Told.told g.T.Disk.Told.faults w x c.args.stream 0 c.args.disk.now c.read_page.new.self c.requires.held c.requires.rest c.requires.stands c.place_held.ensures.went
    (rw c.me-pass.ensures at c.place_held.ensures.placed)

pub returns-in-Err-Failed-clause-left : goal.returns-in-Err-Failed-clause-left
returns-in-Err-Failed-clause-left g c =
    let w = g.T.Turns.standing c.args.turns.now in
    let x = g.T.Turns.standing c.place_held.new.turns in (
      refl,
      failed-left g.T.Disk.Told.told g.T.Disk.Told.faults w x c.args.stream 0 c.args.disk.now c.read_page.new.self c.requires.held c.requires.rest c.requires.stands c.place_held.ensures.went
          (rw c.me-pass.ensures at c.place_held.ensures.placed),
    )

pub returns-in-Err-NoMemory-clause-stands : goal.returns-in-Err-NoMemory-clause-stands
returns-in-Err-NoMemory-clause-stands g c =
    let w = g.T.Turns.standing c.args.turns.now in
    let x = g.T.Turns.standing c.give_back-in-Err-NoMemory.new.turns in
    idle-stands g.T.Disk.Told.told g.T.Disk.Told.faults w x c.args.stream 0 c.args.disk.now c.read_page.new.self c.requires.held c.requires.rest c.requires.stands c.give_back-in-Err-NoMemory.ensures.went
    0 c.give_back-in-Err-NoMemory.ensures.grows c.read_page.ensures.stays (rw c.in-Err-NoMemory.field-0-is at c.in-Err-NoMemory.ensures.counted)

pub returns-in-Err-NoMemory-clause-rest : goal.returns-in-Err-NoMemory-clause-rest
returns-in-Err-NoMemory-clause-rest g c =
    let w = g.T.Turns.standing c.args.turns.now in
    let x = g.T.Turns.standing c.give_back-in-Err-NoMemory.new.turns in
    idle-rest g.T.Disk.Told.told g.T.Disk.Told.faults w x c.args.stream 0 c.args.disk.now c.read_page.new.self c.requires.held c.requires.rest c.requires.stands c.give_back-in-Err-NoMemory.ensures.went
    c.give_back-in-Err-NoMemory.ensures.grows
