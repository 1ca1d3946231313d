use Rattle.std.specs.Prelude.{true, IfErr}
use Rattle.std.proofs.Common.{◌≡◌, ◌+◌, ℕ, List, ap, sym, subst, ◌∙◌, arith, drop}
use Rattle.std.specs.Ordering.{nat_cmp}
use Rattle.std.specs.BTreeMap.{BTreeMap, get}
use Rattle.std.specs.declared.option.Option.{Option}
use Rattle.cc_traits.specs.Told.{IfTold}
use Rattle.cc_traits.specs.Disk.{Disk}
use Rattle.cc_redo.proofs.Changing.{IsChanged, IsRedoing, entries-done, entry-changed, entry-early, entry-other, redone-some}
use Rattle.cc_redo.proofs.Covering.{changed-by, read-so, spared-by}
use Rattle.cc_redo.proofs.Steps.{handed-on}
use Rattle.cc_redo.specs.Changes.{change_covers, is_changed}
use Rattle.cc_redo.specs.Heard.{Change, redone_of}
use Rattle.cc_redo.specs.Scanned.{IsReadRefusal}
use Rattle.cc_redo.proofs.pages.changed_pages.Goals as goal
use Rattle.cc_redo.proofs.pages.changed_pages.Goals.{then-entry-from+in-Some+in_ok-change_pages, then-entry-from+in_default, else-entry-from}

pub loop-entry-preserved : goal.loop-entry-preserved
loop-entry-preserved g c =
    let told = g.D.Told.told c.args.disk.now in
    let redo = c.args.redo.now in
    let i = c.loop-entry.entry-index in
    let entries = c.args.entries.now in
    let entry = c.entry-item.result in
    let before = get nat_cmp c.loop-entry.kept in
    elim c.if-entry-from.branch [
      | then-entry-from+in-Some+in_ok-change_pages w ↦ record {
        stays = ap g.D.Told.told w.disk-is ∙ w.change_pages.ensures.stays ∙ c.loop-entry.invariant.stays;
        counted = ap g.D.Told.faults w.disk-is ∙ (let e = w.in_ok-change_pages.ensures.counted in omega arith);
        keeps = λ page beyond. ap (λ (m : BTreeMap ℕ (List ℕ)). get nat_cmp m page) w.kept-is ∙ w.change_pages.ensures.keeps page beyond;
        apart = λ page none.
            ap (λ (m : BTreeMap ℕ (List ℕ)). get nat_cmp m page) w.kept-is
            ∙ w.in_ok-change_pages.ensures.apart page
            (spared-by redo c.args.from entries i entry (record { at = w.in-Some.at; bytes = w.in-Some.bytes.now }) page c.loop-entry-test.true c.entry-item.is
            (redone-some redo c.args.from entry (record { at = w.in-Some.at; bytes = w.in-Some.bytes.now }) w.if-entry-from.true w.in-Some.ensures) none)
            ∙ c.loop-entry.invariant.apart page none;
        redoing =
            subst (λ (m : BTreeMap ℕ (List ℕ)). IfTold told (IsRedoing redo c.args.from (drop (i + 1) entries) entries (get nat_cmp m))) (sym w.kept-is)
            (entry-changed told redo c.args.from i entries entry (record { at = w.in-Some.at; bytes = w.in-Some.bytes.now }) before (get nat_cmp w.change_pages.new.kept) c.loop-entry-test.true c.entry-item.is
            w.if-entry-from.true w.in-Some.ensures
            (subst (λ (t : Option Disk). IfTold t (IsChanged (record { at = w.in-Some.at; bytes = w.in-Some.bytes.now }) before (get nat_cmp w.change_pages.new.kept))) c.loop-entry.invariant.stays w.in_ok-change_pages.ensures.changed)
            c.loop-entry.invariant.redoing);
      }
      | then-entry-from+in_default w ↦ record {
        stays = ap g.D.Told.told w.disk-is ∙ c.loop-entry.invariant.stays;
        counted = ap g.D.Told.faults w.disk-is ∙ c.loop-entry.invariant.counted;
        keeps = λ page beyond. ap (λ (m : BTreeMap ℕ (List ℕ)). get nat_cmp m page) w.kept-is ∙ c.loop-entry.invariant.keeps page beyond;
        apart = λ page none. ap (λ (m : BTreeMap ℕ (List ℕ)). get nat_cmp m page) w.kept-is ∙ c.loop-entry.invariant.apart page none;
        redoing =
            subst (λ (m : BTreeMap ℕ (List ℕ)). IfTold told (IsRedoing redo c.args.from (drop (i + 1) entries) entries (get nat_cmp m))) (sym w.kept-is)
            (entry-other told redo c.args.from i entries entry before c.loop-entry-test.true c.entry-item.is w.in_default.ensures c.loop-entry.invariant.redoing);
      }
      | else-entry-from w ↦ record {
        stays = ap g.D.Told.told w.disk-is ∙ c.loop-entry.invariant.stays;
        counted = ap g.D.Told.faults w.disk-is ∙ c.loop-entry.invariant.counted;
        keeps = λ page beyond. ap (λ (m : BTreeMap ℕ (List ℕ)). get nat_cmp m page) w.kept-is ∙ c.loop-entry.invariant.keeps page beyond;
        apart = λ page none. ap (λ (m : BTreeMap ℕ (List ℕ)). get nat_cmp m page) w.kept-is ∙ c.loop-entry.invariant.apart page none;
        redoing =
            subst (λ (m : BTreeMap ℕ (List ℕ)). IfTold told (IsRedoing redo c.args.from (drop (i + 1) entries) entries (get nat_cmp m))) (sym w.kept-is)
            (entry-early told redo c.args.from i entries entry before c.loop-entry-test.true c.entry-item.is w.if-entry-from.false c.loop-entry.invariant.redoing);
      }
    ]

pub returns-clause-changed : goal.returns-clause-changed
returns-clause-changed g c =
    entries-done (g.D.Told.told c.args.disk.now) c.args.redo.now c.args.from c.loop-entry.entry-index c.args.entries.now (get nat_cmp c.loop-entry.kept)
    c.loop-entry-test.false c.loop-entry.invariant.redoing

pub returns-in_err-change_pages-clause-refused : goal.returns-in_err-change_pages-clause-refused
returns-in_err-change_pages-clause-refused g c =
    let redo = c.args.redo.now in
    let entries = c.args.entries.now in
    let entry = c.entry-item.result in
    let change : Change = record { at = c.in-Some.at; bytes = c.in-Some.bytes.now } in
    let e = c.in_err-change_pages.field-0.0 in
    handed-on (λ answer. IfErr answer (IsReadRefusal (λ page. is_changed (redone_of redo c.args.from entries) page ≡ true))) c.from_residual.result e c.from_residual.ensures.1
    (read-so (λ page. change_covers change page ≡ true) (λ page. is_changed (redone_of redo c.args.from entries) page ≡ true) e
    (λ page covered.
    changed-by redo c.args.from entries c.loop-entry.entry-index entry change page c.loop-entry-test.true c.entry-item.is
    (redone-some redo c.args.from entry change c.if-entry-from.true c.in-Some.ensures) covered) c.in_err-change_pages.ensures.refused)
