-- Each page goes on behind the pages before, with its bytes behind theirs; a page without bytes, one behind a short one,
-- one that failed, or the last ends the read.
use Rattle.std.specs.Prelude.{◌≡◌, ℕ, suc, ◌+◌, ◌-◌, ◌/◌, ◌≤◌, Ok, Err, List, length, refl}
use Rattle.std.proofs.Common.{sym, subst, arith}
use Rattle.std.proofs.lemmas.List.{length-take-le}
use borrow.Rule.Slice.PartMut.{put_mid}
use Rattle.cc_ranges.specs.Reads.{PageReadEnds}
use Rattle.cc_ranges.proofs.ReadPages.{ReadsOn, reads-begin, reads-more, can-again, ends-end, ends-untold, ends-all, ends-refused}
use Rattle.cc_ranges.proofs.reads.read_pages.Goals as goal

one-further : (n : ℕ) → suc n ≡ n + 1
one-further n = omega arith

pub loop-done-init : goal.loop-done-init
loop-done-init g c = reads-begin (g.T.Turns.standing c.args.turns.now) c.args.file c.args.first c.args.out.now

pub read_page-requires-clause-can : goal.read_page-requires-clause-can
read_page-requires-clause-can g c =
    can-again (g.T.Turns.standing c.args.turns.now) (g.T.Turns.standing c.loop-done.turns) c.args.file.stream c.requires.can c.loop-done.invariant.went

pub returns-then-told-whole : goal.returns-then-told-whole
returns-then-told-whole g c =
    let w = g.T.Turns.standing c.args.turns.now in
    let v = g.T.Turns.standing c.loop-done.turns in
    let x = g.T.Turns.standing c.read_page.new.turns in
    let on = c.loop-done.invariant in
    let below = c.loop-done-test.true in
    let page = subst (λ (n : ℕ). PageReadEnds v x c.args.file (c.args.first + n) (Ok c.in-Ok.count) c.loop-done.bytes c.read_page.new.out) c.from.ensures c.in-Ok.ensures.ends in
    record {
      ends = ends-untold w v x c.args.file c.args.first c.loop-done.done c.loop-done.told (length c.args.out.now / 4096) c.in-Ok.count c.args.out.now c.loop-done.out c.loop-done.bytes c.read_page.new.out on
          page c.if-told-whole.true below refl (omega (arith, on.within, below));
    }

pub returns-then-count-eq0 : goal.returns-then-count-eq0
returns-then-count-eq0 g c =
    let w = g.T.Turns.standing c.args.turns.now in
    let v = g.T.Turns.standing c.loop-done.turns in
    let x = g.T.Turns.standing c.read_page.new.turns in
    let on = c.loop-done.invariant in
    let below = c.loop-done-test.true in
    let page = subst (λ (n : ℕ). PageReadEnds v x c.args.file (c.args.first + n) (Ok c.in-Ok.count) c.loop-done.bytes c.read_page.new.out) c.from.ensures c.in-Ok.ensures.ends in
    record {
      ends = ends-end w v x c.args.file c.args.first c.loop-done.done c.loop-done.told (length c.args.out.now / 4096) c.args.out.now c.loop-done.out c.loop-done.bytes c.read_page.new.out on
          (subst (λ (count : ℕ). PageReadEnds v x c.args.file (c.args.first + c.loop-done.done) (Ok count) c.loop-done.bytes c.read_page.new.out) c.if-count-eq0.true page)
          (omega (arith, on.within, c.if-told-whole.false)) below refl (omega (arith, on.within, below));
    }

pub returns-in-Err : goal.returns-in-Err
returns-in-Err g c =
    let w = g.T.Turns.standing c.args.turns.now in
    let v = g.T.Turns.standing c.loop-done.turns in
    let x = g.T.Turns.standing c.read_page.new.turns in
    record {
      ends = ends-refused w v x c.args.file c.args.first c.loop-done.done c.loop-done.told (length c.args.out.now / 4096) c.args.out.now c.loop-done.out c.loop-done.bytes c.read_page.new.out
          (record { done = c.loop-done.done; cause = c.in-Err.cause }) c.loop-done.invariant
          (subst (λ (n : ℕ). PageReadEnds v x c.args.file (c.args.first + n) (Err c.in-Err.cause) c.loop-done.bytes c.read_page.new.out) c.from.ensures c.in-Err.ensures.ends)
          refl c.loop-done-test.true refl;
    }

pub loop-done-preserved : goal.loop-done-preserved
loop-done-preserved g c =
    let w = g.T.Turns.standing c.args.turns.now in
    let v = g.T.Turns.standing c.loop-done.turns in
    let x = g.T.Turns.standing c.read_page.new.turns in
    let on = c.loop-done.invariant in
    let below = c.loop-done-test.true in
    let done = c.loop-done.done in
    let told = c.loop-done.told in
    let count = c.in-Ok.count in
    let out = c.loop-done.out in
    let after = c.read_page.new.out in
    let page = subst (λ (n : ℕ). PageReadEnds v x c.args.file (c.args.first + n) (Ok count) c.loop-done.bytes after) c.from.ensures c.in-Ok.ensures.ends in
    let whole : length c.loop-done.bytes ≡ 4096 = first_of (search, omega arith) in
    let most : count ≤ 4096 = subst (λ (n : ℕ). count ≤ n) whole page.ended.behind.0 in
    let inside : count ≤ length after = omega (arith, most, whole, c.read_page.auto.out) in
    subst (λ (n : ℕ). ReadsOn w x c.args.file c.args.first n (told + count) c.args.out.now (put_mid told (told + count - told) out c.copy_from_slice.new.self)) (one-further done)
    (subst (λ (part : List ℕ). ReadsOn w x c.args.file c.args.first (suc done) (told + count) c.args.out.now (put_mid told (told + count - told) out part)) (sym c.copy_from_slice.ensures.after)
    (reads-more w v x c.args.file c.args.first done told c.args.out.now out on count c.loop-done.bytes after page (omega (arith, on.within, c.if-told-whole.false)) (omega arith) (length-take-le count after inside)
    (omega (arith, on.within, below, most, c.loop-done.auto.out)) most))

pub returns : goal.returns
returns g c =
    let on = c.loop-done.invariant in
    let over = c.loop-done-test.false in
    record {
      ends = ends-all (g.T.Turns.standing c.args.turns.now) (g.T.Turns.standing c.loop-done.turns) c.args.file c.args.first c.loop-done.done c.loop-done.told (length c.args.out.now / 4096) c.args.out.now c.loop-done.out on
          (omega (arith, over, c.loop-done.auto.done-end)) refl (omega (arith, on.within, c.loop-done.auto.done-end));
    }
