-- One line more is the front of the lines served: its words stand at the moment at hand, and its answer comes behind.
use Rattle.std.proofs.Common.{◌≡◌, ◌+◌, ◌-◌, ◌<◌, ◌++◌, ◌∷◌, [], ℕ, List, suc, length, take, drop, get_or, refl, sym, subst, ◌∙◌, arith, ap, append_assoc}
use Rattle.std.proofs.lemmas.List.{append-nil, length-append, take_all, take_more}
use Rattle.cc_script.specs.declared.script.ActionLine.{ActionLine}
use Rattle.cc_turns.specs.Desk.{standing_of}
use Rattle.cc_run.specs.Lines.{IsCaller, LinesEnd}
use Rattle.cc_run.proofs.Acting.{run-same, run-then}
use Rattle.std.specs.List.{AllByRecursion}
use Rattle.cc_model.specs.Good.{IsGood}
use Rattle.cc_run.proofs.LinesRan.{lines-more, may-line, put-keeps, put-long, row-at}
use Rattle.cc_run.proofs.Lists.{all-at, parted}
use Rattle.cc_run.proofs.PlacesWent.{PlacesSo, both-queues, own-at, own-put, places-more, places-none, places-ran}
use Rattle.cc_run.proofs.RowSteps.{longer}
use Rattle.cc_run.proofs.lines.serve_lines.Goals as goal

-- the lines are those before this one, it, and those behind it
parts-at : (lines : List ActionLine) (i : ℕ) (line : ActionLine) → i < length lines → line ≡ get_or lines i line → lines ≡ take i lines ++ line ∷ drop (suc i) lines
parts-at lines i line low is = parted lines i line low ∙ ap (λ one. take i lines ++ one ∷ drop (suc i) lines) (sym is)

-- the line's caller is one of the 16
caller-at : (lines : List ActionLine) (i : ℕ) (line : ActionLine) → i < length lines → line ≡ get_or lines i line → AllByRecursion (λ line. IsCaller line.caller) lines → IsCaller line.caller
caller-at lines i line low is all = subst (λ (l : ActionLine). IsCaller l.caller) (sym is) (all-at (λ line. IsCaller line.caller) lines i line low all)

behind-one : (line : ActionLine) → IsCaller line.caller → line.caller ≡ suc (line.caller - 1)
behind-one line own = omega (arith, own.first)

pub loop-line-init : goal.loop-line-init
loop-line-init g c = record {
  run = run-same _;
  ready = c.requires.ready;
  long = omega arith;
  room = refl;
  counted = c.requires.words.stand.counted;
  own = c.requires.own;
  answers = [];
  grew = sym (append-nil _);
  answered = refl;
  placed = places-none c.args.names.now c.args.desk.now.last.entries;
  keep = refl;
  served = λ bounds bindings stand right. record {
    served = record { answers = []; grew = sym (append-nil _); left = refl };
    stand = record { counted = stand.counted; each = stand.each };
  };
}

pub serve_line-answer-requires-clause-own : goal.serve_line-answer-requires-clause-own
serve_line-answer-requires-clause-own g c κs within =
    let before = c.loop-line.invariant in
    let line = c.line-item.result in
    let caller = caller-at c.args.lines.now c.loop-line.line-index line c.loop-line-test.true c.line-item.is c.requires.callers in
    own-at c.args.queues.now c.loop-line.names (line.caller - 1) _ before.own
    (row-at c.loop-line.names (line.caller - 1) c.index-names-line.result (omega (arith, caller.first, caller.last, before.counted)))

pub serve_line-answer-requires-clause-words : goal.serve_line-answer-requires-clause-words
serve_line-answer-requires-clause-words g c κs within =
    let before = c.loop-line.invariant in
    let lines = c.args.lines.now in
    let i = c.loop-line.line-index in
    let line = c.line-item.result in
    let own = caller-at lines i line c.loop-line-test.true c.line-item.is c.requires.callers in
    let w = standing_of g.D.Told.told g.D.Told.faults g.L.LogFile.told g.L.LogFile.faults c.args.desk.now in
    rw before.run.streams
    (may-line w lines (take i lines) (drop (suc i) lines) line c.args.replies.now.items c.loop-line.replies.items c.args.desk.now.last.entries c.loop-line.desk.last.entries
    c.args.names.now c.loop-line.names (line.caller - 1) _ c.requires.words (parts-at lines i line c.loop-line-test.true c.line-item.is) (behind-one line own)
    (row-at c.loop-line.names (line.caller - 1) c.index-names-line.result (omega (arith, own.first, own.last, before.counted))) before.keep
    (before.served c.requires.words.bounds c.requires.words.bindings c.requires.words.stand c.requires.words.right))

pub loop-line-preserved : goal.loop-line-preserved
loop-line-preserved g c =
    let before = c.loop-line.invariant in
    let lines = c.args.lines.now in
    let i = c.loop-line.line-index in
    let line = c.line-item.result in
    let own = caller-at lines i line c.loop-line-test.true c.line-item.is c.requires.callers in
    let w = standing_of g.D.Told.told g.D.Told.faults g.L.LogFile.told g.L.LogFile.faults c.args.desk.now in
    let v = standing_of g.D.Told.told g.D.Told.faults g.L.LogFile.told g.L.LogFile.faults c.loop-line.desk in
    let here = row-at c.loop-line.names (line.caller - 1) c.index-names-line.result (omega (arith, own.first, own.last, before.counted)) in
    let more : take (i + 1) lines ≡ take i lines ++ line ∷ [] =
    take_more lines i line c.loop-line-test.true ∙ ap (λ x. take i lines ++ x ∷ []) (sym c.line-item.is) in
    record {
      run = run-then _ _ _ before.run c.serve_line-answer.ensures.run;
      ready = c.serve_line-answer.ensures.ready;
      long = omega (arith, longer _ _ _ c.push_reserved.ensures.items, before.long);
      room = c.push_reserved.ensures.capacity ∙ before.room;
      counted = put-long c.loop-line.names (line.caller - 1) c.serve_line-answer.new.names ∙ before.counted;
      own = own-put c.args.queues.now c.loop-line.names (line.caller - 1) _ c.serve_line-answer.new.names before.own here
          (both-queues _ _ _ _ _ _ c.serve_line-answer.ensures.placed);
      answers = before.answers ++ record { line = line.line; answer = c.serve_line-answer.result } ∷ [];
      grew = c.push_reserved.ensures.items
          ∙ (ap (λ l. l ++ record { line = line.line; answer = c.serve_line-answer.result } ∷ []) before.grew
          ∙ append_assoc c.args.replies.now.items before.answers (record { line = line.line; answer = c.serve_line-answer.result } ∷ []));
      answered = ap length more ∙ (length-append (take i lines) (line ∷ [])
          ∙ (ap (λ n. n + 1) before.answered ∙ sym (length-append before.answers (record { line = line.line; answer = c.serve_line-answer.result } ∷ []))));
      placed = rw more (places-more (take i lines) before.answers line (record { line = line.line; answer = c.serve_line-answer.result }) c.args.names.now c.loop-line.names (line.caller - 1) _ c.serve_line-answer.new.names
          c.args.desk.now.last.entries c.loop-line.desk.last.entries c.serve_line-answer.new.desk.last.entries before.answered (behind-one line own) here before.placed
          c.serve_line-answer.ensures.placed c.serve_line-answer.ensures.alone);
      keep = put-keeps c.loop-line.names (line.caller - 1) _ c.serve_line-answer.new.names here c.serve_line-answer.ensures.kept_room ∙ before.keep;
      served = λ bounds bindings stand right.
          rw (more, c.push_reserved.ensures.items)
          (lines-more w v bounds bindings lines (take i lines) (drop (suc i) lines) line c.serve_line-answer.result c.args.replies.now.items c.loop-line.replies.items
          c.args.desk.now.last.entries c.loop-line.desk.last.entries c.serve_line-answer.new.desk.last.entries c.loop-line.names (line.caller - 1) _ c.serve_line-answer.new.names
          before.run.setup before.run.streams (parts-at lines i line c.loop-line-test.true c.line-item.is) (behind-one line own) here
          (subst (λ u. IsGood u c.serve_line-answer.new.desk.last.entries) before.run.setup c.serve_line-answer.ensures.good) right
          (before.served bounds bindings stand right) c.serve_line-answer.ensures.left);
    }

pub returns-clause-served : goal.returns-clause-served
returns-clause-served g c = λ bounds bindings stand right.
    let w = standing_of g.D.Told.told g.D.Told.faults g.L.LogFile.told g.L.LogFile.faults c.args.desk.now in
    subst (λ lines. LinesEnd w bounds bindings lines c.args.replies.now.items c.loop-line.replies.items c.args.desk.now.last.entries c.loop-line.desk.last.entries c.loop-line.names)
    (take_all c.loop-line.line-index c.args.lines.now c.loop-line-test.false) (c.loop-line.invariant.served bounds bindings stand right)

pub returns-clause-placed : goal.returns-clause-placed
returns-clause-placed g c =
    let all = take_all c.loop-line.line-index c.args.lines.now c.loop-line-test.false in
    let last = c.loop-line.invariant in
    places-ran c.args.lines.now c.args.replies.now.items c.loop-line.replies.items last.answers c.args.names.now c.loop-line.names c.args.desk.now.last.entries c.loop-line.desk.last.entries
    last.grew (subst (λ lines. PlacesSo lines last.answers c.args.names.now c.loop-line.names c.args.desk.now.last.entries c.loop-line.desk.last.entries) all last.placed)
