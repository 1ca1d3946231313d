use Rattle.std.specs.Prelude.{ℕ, true, is_some}
use Rattle.std.proofs.Common.{◌≡◌, ◌+◌, arith, subst, sym}
use Rattle.cc_entry.specs.declared.error.CcError.{CcError}
use Rattle.cc_redo.proofs.Covering.{kept-some, write-at}
use Rattle.cc_redo.specs.Scanned.{IsWriteRefusal}
use Rattle.std.specs.Ordering.{nat_cmp}
use Rattle.std.specs.BTreeMap.{get}
use Rattle.cc_redo.proofs.Popping.{pop-keeps, pop-none, popped-stopped, popped-wrote}
use Rattle.cc_redo.proofs.pages.write_pages.Goals as goal

pub loop-first-preserved : goal.loop-first-preserved
loop-first-preserved g c = record {
  counted = let e : g.D.Told.faults c.write_page.new.self ≡ g.D.Told.faults c.loop-first.disk + 0 = c.in-Ok.ensures.counted in let f = c.loop-first.invariant.counted in omega arith;
  keeps = pop-keeps c.loop-first.left c.pop_first.new.self c.in-Some.first.0 c.in-Some.ensures.updates c.loop-first.invariant.keeps;
  among = λ page none. pop-none c.loop-first.left c.pop_first.new.self c.in-Some.first.0 c.in-Some.ensures.updates page (c.loop-first.invariant.among page none);
  going =
      popped-wrote (get nat_cmp c.args.kept) c.loop-first.left c.pop_first.new.self c.in-Some.first.0 c.in-Some.first.1
      (g.D.Told.told c.args.disk.now) (g.D.Told.told c.loop-first.disk) (g.D.Told.told c.write_page.new.self)
      c.loop-first.invariant.keeps c.in-Some.ensures.value c.in-Some.ensures.updates c.loop-first.invariant.going c.in-Ok.ensures.wrote;
}

pub returns-in-Err-clause-writing : goal.returns-in-Err-clause-writing
returns-in-Err-clause-writing g c =
    popped-stopped c.in-Err.stop (get nat_cmp c.args.kept) c.loop-first.left c.in-Some.first.0 c.in-Some.first.1
    (g.D.Told.told c.args.disk.now) (g.D.Told.told c.loop-first.disk) (g.D.Told.told c.write_page.new.self)
    c.loop-first.invariant.keeps c.in-Some.ensures.value c.loop-first.invariant.going c.in-Err.ensures.failed c.in-Err.ensures.no_memory

pub returns-in-Err-clause-refused : goal.returns-in-Err-clause-refused
returns-in-Err-clause-refused g c =
    let P : ℕ → Type 0 = λ page. is_some (get nat_cmp c.args.kept page) ≡ true in
    subst (λ (e : CcError). IsWriteRefusal P e) (sym c.write_refusal.ensures)
    (write-at c.in-Err.stop c.in-Some.first.0 P
    (kept-some (get nat_cmp c.args.kept c.in-Some.first.0) (get nat_cmp c.loop-first.left c.in-Some.first.0) c.in-Some.first.1 (c.loop-first.invariant.among c.in-Some.first.0) c.in-Some.ensures.value))
