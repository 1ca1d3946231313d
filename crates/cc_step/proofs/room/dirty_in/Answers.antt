use Rattle.std.specs.Prelude.{◌≡◌, ℕ, ◌+◌, ◌*◌, Option, Some}
use Rattle.std.specs.List.{find}
use Rattle.std.specs.Option.{option_map}
use Rattle.std.proofs.Common.{sym, subst, ◌∙◌}
use Rattle.cc_dirty.specs.Order.{is_between}
use Rattle.cc_dirty.specs.declared.row.Row.{Row}
use Rattle.cc_model.specs.History.{history}
use Rattle.cc_step.specs.Room.{IsDirtyIn}
use Rattle.cc_step.proofs.Dirty.{row-dirty}
use Rattle.cc_step.proofs.room.dirty_in.Goals as goal

pub returns-in-Some : goal.returns-in-Some
returns-in-Some g c =
    let past = c.args.journal.now.entries in
    let s = c.args.book.now.stream in
    let rows = c.dirty.result.now.rows in
    let first = 64 * c.args.block in
    let found = subst (λ (n : ℕ). c.first_between.result ≡ find (λ r. is_between n first (first + 64) r.page) rows) c.stream.ensures c.first_between.ensures.first in
    let row = subst (λ (o : Option Row). IsDirtyIn (history past s) c.args.block (option_map (λ (row : Row). row.page.page) o)) (sym found ∙ c.in-Some.is)
    (row-dirty past s c.args.block rows c.first_between.ensures.sound c.dirty.ensures.follows) in
    subst (λ (n : ℕ). IsDirtyIn (history past s) c.args.block (Some n)) (sym c.page.ensures.same) row

pub returns-in-None : goal.returns-in-None
returns-in-None g c =
    let past = c.args.journal.now.entries in
    let s = c.args.book.now.stream in
    let rows = c.dirty.result.now.rows in
    let first = 64 * c.args.block in
    let found = subst (λ (n : ℕ). c.first_between.result ≡ find (λ r. is_between n first (first + 64) r.page) rows) c.stream.ensures c.first_between.ensures.first in
    subst (λ (o : Option Row). IsDirtyIn (history past s) c.args.block (option_map (λ (row : Row). row.page.page) o)) (sym found ∙ c.in-None.is)
    (row-dirty past s c.args.block rows c.first_between.ensures.sound c.dirty.ensures.follows)
