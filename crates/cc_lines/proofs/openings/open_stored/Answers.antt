-- The record was read, and then the other calls of the line were made.
use Rattle.std.specs.Prelude.{◌≡◌, ℕ, Ok}
use Rattle.std.proofs.Common.{subst}
use Rattle.cc_stored.specs.Stored.{LoadEnds}
use Rattle.cc_lines.specs.Line.{told_answer}
use Rattle.cc_lines.proofs.StoredOpenings.{stored-read}
use Rattle.cc_lines.proofs.openings.open_stored.Goals as goal

pub returns-in-Ok-clause-opened : goal.returns-in-Ok-clause-opened
returns-in-Ok-clause-opened g c =
    let w = g.T.Turns.standing c.args.turns.now in
    let v = g.T.Turns.standing c.load_record.new.turns in
    let x = g.T.Turns.standing c.open_recorded.new.turns in
    let same : c.unwrap-id.result ≡ c.args.number = rw c.unwrap-id.ensures at c.new.ensures.number in
    let ends : LoadEnds w v c.args.number (Ok c.in-Ok.told) = subst (λ (n : ℕ). LoadEnds w v n (Ok c.in-Ok.told)) same c.in-Ok.ensures.ends in
    stored-read w v c.args.number c.requires.first x c.args.stream.now c.in-Ok.told (told_answer c.open_recorded.result) c.requires.told ends c.open_recorded.ensures.opened
