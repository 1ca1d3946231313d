-- A number stays where none behind it is the same, and no line tells it.
use Rattle.std.proofs.Common.{◌≡◌, ◌-◌, ◌+◌, ◌<◌, ◌++◌, ◌∷◌, suc, length, drop, take, sym, ap, ◌∙◌, arith, inl, inr}
use Rattle.std.proofs.Math.Seq.{drop-cons}
use Rattle.cc_pieces.specs.Explained.{posted_in}
use Rattle.cc_run.specs.Once.{tells_it}
use Rattle.cc_run.proofs.Untold.{behind, either-told, neither-told, told-same, untold-first, untold-kept, untold-out}
use Rattle.cc_run.proofs.once.untold_ids.Goals as goal
use Rattle.cc_run.proofs.once.untold_ids.Goals.{then-contains-via-then-contains, then-contains-via-else-contains+then-is_told}

pub loop-at-init : goal.loop-at-init
loop-at-init c = untold-first _ _ _ (omega arith) c.requires.apart

pub loop-at-preserved-in-loop-at : goal.loop-at-preserved-in-loop-at
loop-at-preserved-in-loop-at c =
    let at = c.loop-at.at - 1 in
    let now = c.loop-at.ids.items in
    let id = c.index.result.now in
    let others = posted_in c.args.lines.now c.args.replies.now in
    let next : c.loop-at.at ≡ suc at = omega (arith, c.loop-at-test.true) in
    let within : at < length now = omega (arith, next, c.loop-at.invariant.within) in
    let here = drop-cons now at id within ∙ ap (λ x. x ∷ drop (suc at) now) (sym c.index.ensures) in
    let on : at + 1 ≡ suc at = omega arith in
    let is : c.contains.result ≡ tells_it id (drop (suc at) now) =
    c.contains.ensures.value ∙ (told-same id _ ∙ ap (tells_it id) (behind c.deref.result.now at ∙ ap (drop (suc at)) c.deref.ensures.value)) in
    untold-out c.args.ids.items others now c.loop-at.at at id next here c.loop-at.invariant c.remove.new.self.items
    (c.remove.ensures.by_index.2 ∙ ap (λ n. take at now ++ drop n now) on)
    (elim c.then-contains.branch [
      | then-contains-via-then-contains w ↦ either-told id (drop (suc at) now) others c.contains.result (sym is) (inl w.if-contains.true)
      | then-contains-via-else-contains+then-is_told w ↦
          either-told id (drop (suc at) now) others c.contains.result (sym is) (inr (sym w.is_told.ensures ∙ w.if-is_told.true))
    ])

pub loop-at-preserved : goal.loop-at-preserved
loop-at-preserved c =
    let at = c.loop-at.at - 1 in
    let now = c.loop-at.ids.items in
    let id = c.index.result.now in
    let others = posted_in c.args.lines.now c.args.replies.now in
    let next : c.loop-at.at ≡ suc at = omega (arith, c.loop-at-test.true) in
    let within : at < length now = omega (arith, next, c.loop-at.invariant.within) in
    let here = drop-cons now at id within ∙ ap (λ x. x ∷ drop (suc at) now) (sym c.index.ensures) in
    let is : c.contains.result ≡ tells_it id (drop (suc at) now) =
    c.contains.ensures.value ∙ (told-same id _ ∙ ap (tells_it id) (behind c.deref.result.now at ∙ ap (drop (suc at)) c.deref.ensures.value)) in
    untold-kept c.args.ids.items others now c.loop-at.at at id next here c.loop-at.invariant
    (neither-told id (drop (suc at) now) others (sym is ∙ c.if-contains.false) (sym c.is_told.ensures ∙ c.if-is_told.false))
