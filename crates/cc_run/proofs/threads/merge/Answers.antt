-- One line more, and the last one.
use Rattle.std.proofs.Common.{◌≡◌, ◌+◌, ◌-◌, ◌<◌, ◌++◌, ◌∷◌, [], length, drop, map, slice_set, get_or, sym, ap, subst, ◌∙◌, arith, suc, refl, add-one}
use Rattle.std.proofs.Math.ListN.{set}
use Rattle.std.proofs.Math.Seq.{drop-cons}
use Rattle.std.proofs.lemmas.List.{get_or-map, map-set, drop_all, length-map}
use Rattle.std.specs.declared.vec.Vec.{Vec}
use Rattle.std.specs.Global.{Global}
use Rattle.cc_entry.specs.declared.answer.Answer.{Answer}
use Rattle.cc_run.specs.Callers.{AreAnswerRows}
use Rattle.cc_run.specs.Lines.{IsCaller}
use Rattle.cc_run.specs.Threads.{Merged}
use Rattle.cc_run.proofs.Lists.{all-at}
use Rattle.cc_run.proofs.RowSteps.{longer}
use Rattle.cc_run.proofs.Merging.{rows-left, merged-more, merged-none}
use Rattle.cc_run.proofs.threads.merge.Goals as goal

pub loop-line-preserved : goal.loop-line-preserved
loop-line-preserved c =
    let i = c.loop-line.line-index in
    let lines = c.args.lines.now in
    let line = c.line-item.result in
    let was = c.loop-line.rows.items in
    let items = λ (row : Vec Answer Global). row.items in
    let caller = subst (λ l. IsCaller l.caller) (sym c.line-item.is) (all-at (λ l. IsCaller l.caller) lines i line c.loop-line-test.true c.requires.callers) in
    let sixteen : c.from.result ≡ 16 = omega arith in
    let within : 16 - line.caller < length was = omega (arith, c.loop-line.invariant.rows.0, length-map was items, caller.first) in
    let there : get_or (map items was) (16 - line.caller) [] ≡ c.pop.new.self.items ++ c.in-Some.answer ∷ [] =
    get_or-map items was (16 - line.caller) c.index_mut.result.now [] within
    ∙ (ap (λ n. (get_or was (n - line.caller) c.index_mut.result.now).items) (sym sixteen)
    ∙ (ap items (sym c.index_mut.ensures.value) ∙ c.in-Some.ensures.items)) in
    let same : map items (slice_set was (c.from.result - line.caller) c.pop.new.self) ≡ set (map items was) (16 - line.caller) c.pop.new.self.items =
    map-set items was (c.from.result - line.caller) c.pop.new.self ∙ ap (λ n. set (map items was) (n - line.caller) c.pop.new.self.items) sixteen in
    let parted : drop i lines ≡ line ∷ drop (i + 1) lines =
    drop-cons lines i line c.loop-line-test.true
    ∙ (ap (λ l. l ∷ drop (suc i) lines) (sym c.line-item.is) ∙ ap (λ n. line ∷ drop n lines) (sym (add-one i))) in
    record {
      rows = rw same (rows-left line (drop (i + 1) lines) (map items was) c.pop.new.self.items c.in-Some.answer caller there (subst (λ l. AreAnswerRows l (map items was)) parted c.loop-line.invariant.rows));
      long = omega (arith, longer _ _ _ c.push_reserved.ensures.items, c.loop-line.invariant.long);
      room = c.push_reserved.ensures.capacity ∙ c.loop-line.invariant.room;
      rest = λ after merged. c.loop-line.invariant.rest after (subst (λ l. Merged l (map items was) c.loop-line.replies.items after) (sym parted)
          (merged-more line (drop (i + 1) lines) (map items was) c.pop.new.self.items c.in-Some.answer caller there c.loop-line.replies.items after _ refl c.loop-line.invariant.rows.0
          (rw (← same, ← c.push_reserved.ensures.items) merged)));
    }

pub returns-clause-merged : goal.returns-clause-merged
returns-clause-merged c =
    let none : drop c.loop-line.line-index c.args.lines.now ≡ [] = drop_all c.loop-line.line-index c.args.lines.now c.loop-line-test.false in
    c.loop-line.invariant.rest _ (rw none (merged-none _ _))
