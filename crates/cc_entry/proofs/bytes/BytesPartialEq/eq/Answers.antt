-- Runs are equal one by one exactly where the bytes are, since the longest runs of bytes are a function of them.
use Rattle.std.proofs.Common.{◌≡◌, ◌∷◌, [], Bool, true, false, ◌&&◌, List, Option, Some, None, ap, ◌∙◌, sym, refl}
use Rattle.std.specs.Prelude.{is_some, not}
use Rattle.std.proofs.lemmas.Bool.{false≢true}
use Rattle.std.specs.Cmp.Lexicographic.{pointwise}
use Rattle.std.specs.Iterator.{YieldsFirst}
use Rattle.cc_entry.specs.declared.runs.Run.{Run}
use Rattle.cc_entry.proofs.Longest.{same_run, same_bytes}
use Rattle.cc_entry.proofs.bytes.BytesPartialEq.eq.Goals as goal

-- a list that gives no further item is as long as one that has none left
none_left : (theirs left : List Run) (item : Option Run) (none : Bool) → YieldsFirst (λ (runs : List Run). runs) theirs item left → is_some item ≡ not none → none ≡ pointwise same_run [] theirs
none_left theirs left None true gave e = rw gave.0 refl
none_left theirs left None false gave e = absurd (false≢true e)
none_left theirs left (Some run) true gave e = absurd (false≢true (sym e))
none_left theirs left (Some run) false gave e = rw gave refl

pub returns-in_default : goal.returns-in_default
returns-in_default c =
    let all = sym c.loop-run.invariant ∙ same_bytes c.args.self.now c.args.other.now in
    let mine = c.next.new.self in let theirs = c.next-in-loop-run.new.self in
    let here : pointwise same_run c.loop-run.run-iterator c.loop-run.theirs ≡ false =
    ap (λ runs. pointwise same_run runs c.loop-run.theirs) c.in-Some.ensures.steps
    ∙ ap (λ runs. pointwise same_run (c.in-Some.run' ∷ mine) runs) c.in-Some-next.ensures.steps
    ∙ ap (λ same. same && pointwise same_run mine theirs) (sym c.if-eq.ensures) in
    sym here ∙ all

pub returns-in_default-2 : goal.returns-in_default-2
returns-in_default-2 c =
    let all = sym c.loop-run.invariant ∙ same_bytes c.args.self.now c.args.other.now in
    let none = rw c.in_default.is at c.next-in-loop-run.ensures.steps in
    let here : pointwise same_run c.loop-run.run-iterator c.loop-run.theirs ≡ false =
    ap (λ runs. pointwise same_run runs c.loop-run.theirs) c.in-Some.ensures.steps
    ∙ ap (λ runs. pointwise same_run (c.in-Some.run' ∷ c.next.new.self) runs) none.0 in
    sym here ∙ all

pub returns : goal.returns
returns c =
    let all = sym c.loop-run.invariant ∙ same_bytes c.args.self.now c.args.other.now in
    none_left c.loop-run.theirs c.next-2.new.self c.next-2.result c.is_none.result c.next-2.ensures.steps c.is_none.ensures
    ∙ ap (λ runs. pointwise same_run runs c.loop-run.theirs) (sym c.in-None.ensures.steps.0)
    ∙ all
