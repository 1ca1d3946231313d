use Rattle.std.proofs.Common.{◌≡◌, ◌+◌, ◌*◌, ◌/◌, ◌≤◌, length, refl, sym, ◌∙◌, arith}
use Rattle.std.proofs.lemmas.Bool.{eqb-true}
use Rattle.std.specs.Ordering.{nat_cmp}
use Rattle.std.specs.BTreeMap.{get}
use Rattle.cc_redo.proofs.Changing.{IsChanged, IsChanging, changing-begun, changing-done, changing-none}
use Rattle.cc_redo.proofs.Keeping.{told-each, told-map}
use Rattle.cc_redo.specs.Heard.{Change}
use Rattle.cc_redo.proofs.pages.change_pages.Goals as goal

pub returns-then-is_empty-clause-changed : goal.returns-then-is_empty-clause-changed
returns-then-is_empty-clause-changed g c =
    let change : Change = record { at = c.args.at; bytes = c.args.bytes.now } in
    let kept = get nat_cmp c.args.kept.now in
    let none : length c.args.bytes.now ≡ 0 = eqb-true (length c.args.bytes.now) 0 (sym c.is_empty.ensures ∙ c.if-is_empty.true) in
    told-each (IsChanged change kept kept) (g.D.Told.told c.args.disk.now) (λ disk. changing-none change kept disk none)

pub loop-page-init : goal.loop-page-init
loop-page-init g c =
    let change : Change = record { at = c.args.at; bytes = c.args.bytes.now } in
    let kept = get nat_cmp c.args.kept.now in
    record {
      stays = refl;
      counted = refl;
      keeps = c.requires.keeps;
      apart = λ page e. refl;
      changing = told-each (IsChanging change (c.args.at / 4096) kept kept) (g.D.Told.told c.args.disk.now) (λ disk. changing-begun change (c.args.at / 4096) kept disk (omega arith));
    }

pub returns-clause-changed : goal.returns-clause-changed
returns-clause-changed g c =
    let change : Change = record { at = c.args.at; bytes = c.args.bytes.now } in
    let old = get nat_cmp c.args.kept.now in
    let now = get nat_cmp c.loop-page.kept in
    let last : c.args.at + length c.args.bytes.now ≤ 4096 * c.loop-page.page = omega arith in
    told-map (IsChanging change c.loop-page.page old now) (IsChanged change old now) (g.D.Told.told c.args.disk.now)
    (λ disk changing. changing-done change c.loop-page.page old now disk last changing) c.loop-page.invariant.changing
