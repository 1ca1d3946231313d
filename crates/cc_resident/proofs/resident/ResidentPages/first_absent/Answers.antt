-- A block after the other: the pages of one lie before those of the next.
use Rattle.std.proofs.Common.{◌≡◌, ◌+◌, ◌-◌, ◌/◌, ◌<◌, ◌≤◌, true, None, ap, sym, ◌∙◌, is_some, not, arith}
use Rattle.std.specs.List.{find, range_with_len}
use Rattle.cc_resident.specs.Residents.{is_resident}
use Rattle.cc_resident.proofs.Frames.{none_from}
use Rattle.cc_resident.proofs.Lists.{find_past, find_before}
use Rattle.cc_resident.proofs.resident.ResidentPages.first_absent.Goals as goal

pub returns-then-is_some : goal.returns-then-is_some
returns-then-is_some c =
    let m = c.self.inside.views in
    let page = c.loop-page.page in
    let end = (c.args.to - 1) / 4096 + 1 in
    let next = c.min-next.result in
    let upto : next ≤ end = omega (arith, c.min-next.ensures) in
    let more : page < next = omega (arith, c.min-next.ensures, c.loop-page-test.true) in
    let some : is_some (find (λ p. not (is_resident m p)) (range_with_len page (next - page))) ≡ true = ap is_some (sym c.absent_in_block-absent.ensures) ∙ sym c.is_some.ensures ∙ c.if-is_some.true in
    rw (← c.self.view_is) (c.absent_in_block-absent.ensures
    ∙ sym (find_before (λ p. not (is_resident m p)) page (end - page) (next - page) (omega arith) some)
    ∙ c.loop-page.invariant)

pub loop-page-preserved : goal.loop-page-preserved
loop-page-preserved c =
    let m = c.self.inside.views in
    let page = c.loop-page.page in
    let end = (c.args.to - 1) / 4096 + 1 in
    let next = c.min-next.result in
    let upto : next ≤ end = omega (arith, c.min-next.ensures) in
    let more : page < next = omega (arith, c.min-next.ensures, c.loop-page-test.true) in
    let none : find (λ p. not (is_resident m p)) (range_with_len page (next - page)) ≡ None = sym c.absent_in_block-absent.ensures ∙ none_from c.absent_in_block-absent.result (sym c.is_some.ensures ∙ c.if-is_some.false) in
    ap (λ i. find (λ p. not (is_resident m p)) (range_with_len i (end - next))) {x = next} {y = page + (next - page)} (omega arith)
    ∙ sym (find_past (λ p. not (is_resident m p)) page (end - page) (next - page) (end - next) (omega arith) none)
    ∙ c.loop-page.invariant
