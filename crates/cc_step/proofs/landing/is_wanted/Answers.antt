-- The page that the call waits for is this one or another, and the book says whether there is room for its block.
use Rattle.std.specs.Prelude.{◌≡◌, ℕ, ◌&&◌, Bool, true, false, Option, Some, nat_eq}
use Rattle.std.specs.Option.{option_eq}
use Rattle.std.proofs.Common.{ap, sym, ◌∙◌}
use Rattle.cc_model.specs.History.{history}
use Rattle.cc_step.specs.Step.{is_awaited}
use Rattle.cc_step.specs.Room.{has_room}
use Rattle.cc_step.proofs.landing.is_wanted.Goals as goal

pub returns-then-waits : goal.returns-then-waits
returns-then-waits g c u stand =
    let past = c.args.journal.now.entries in
    let s = c.args.book.now.stream in
    let awaited : is_awaited u past s c.args.call.now c.args.page ≡ true =
    ap (λ (o : Option ℕ). option_eq nat_eq o (Some c.args.page)) (sym (c.in_ok-waits_for.ensures u stand)) ∙ (sym c.eq-waits.ensures ∙ c.if-waits.true) in
    c.has_room.ensures (u.opening s) past stand.stands ∙ ap (λ (b : Bool). b && has_room (history past s) c.args.page) (sym awaited)

pub returns-else-waits : goal.returns-else-waits
returns-else-waits g c u stand =
    let past = c.args.journal.now.entries in
    let s = c.args.book.now.stream in
    let other : is_awaited u past s c.args.call.now c.args.page ≡ false =
    ap (λ (o : Option ℕ). option_eq nat_eq o (Some c.args.page)) (sym (c.in_ok-waits_for.ensures u stand)) ∙ (sym c.eq-waits.ensures ∙ c.if-waits.false) in
    c.if-waits.false ∙ ap (λ (b : Bool). b && has_room (history past s) c.args.page) (sym other)
