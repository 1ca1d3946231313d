-- By the entry: a done call, or the step of a transfer.
use Rattle.std.proofs.Common.{ℕ, ap, sym, refl, ◌∙◌}
use Rattle.cc_model.specs.History.{effect_of}
use Rattle.cc_model.specs.Touches.{valid_of}
use Rattle.cc_crash.specs.Effects.{effects}
use Rattle.cc_crash.specs.DiskPages.{call_of}
use Rattle.cc_crash.specs.declared.steps.Step.TheVariants as step
use Rattle.cc_crash.proofs.PageSteps.{page_state-call, page_state-by, left_as}
use Rattle.cc_crash.proofs.contents.follow.Goals as goal

pub returns-in-Some : goal.returns-in-Some
returns-in-Some c = λ pages was.
    let o = effect_of c.args.entry.now c.args.page.stream in
    let h = effects c.args.before.now c.args.page.stream in
    let is = sym (c.in-Some.ensures ∙ ap (λ (s : ℕ). call_of (effect_of c.args.entry.now s)) c.stream.ensures) in
    left_as c.call_done.result _ _ _ c.call_done.ensures
    (page_state-call pages o h c.args.page.page c.in-Some.call.now c.args.left.now is was)

pub returns-in-Rests : goal.returns-in-Rests
returns-in-Rests c = λ pages was.
    let o = effect_of c.args.entry.now c.args.page.stream in
    let h = effects c.args.before.now c.args.page.stream in
    let none = sym (c.in_default.ensures ∙ ap (λ (s : ℕ). call_of (effect_of c.args.entry.now s)) c.stream.ensures) in
    page_state-by pages o h c.args.page.page step.Rests (valid_of h) c.args.left.now none c.in-Rests.ensures refl was

pub returns-in_ok-valid-in-Begins : goal.returns-in_ok-valid-in-Begins
returns-in_ok-valid-in-Begins c = λ pages was.
    let o = effect_of c.args.entry.now c.args.page.stream in
    let h = effects c.args.before.now c.args.page.stream in
    let none = sym (c.in_default.ensures ∙ ap (λ (s : ℕ). call_of (effect_of c.args.entry.now s)) c.stream.ensures) in
    let valid = c.in_ok-valid-in-Begins.ensures ∙ ap (λ (s : ℕ). valid_of (effects c.args.before.now s)) c.stream-in-Begins.ensures in
    left_as c.begins.result _ _ _ c.begins.ensures
    (page_state-by pages o h c.args.page.page step.Begins c.in_ok-valid-in-Begins.valid c.args.left.now none c.in-Begins.ensures valid was)

pub returns-in-Ends : goal.returns-in-Ends
returns-in-Ends c = λ pages was.
    let o = effect_of c.args.entry.now c.args.page.stream in
    let h = effects c.args.before.now c.args.page.stream in
    let none = sym (c.in_default.ensures ∙ ap (λ (s : ℕ). call_of (effect_of c.args.entry.now s)) c.stream.ensures) in
    c.ends.ensures ∙ page_state-by pages o h c.args.page.page (step.Ends c.in-Ends.ok) (valid_of h) c.args.left.now none c.in-Ends.ensures refl was

pub returns-in-Syncs : goal.returns-in-Syncs
returns-in-Syncs c = λ pages was.
    let o = effect_of c.args.entry.now c.args.page.stream in
    let h = effects c.args.before.now c.args.page.stream in
    let none = sym (c.in_default.ensures ∙ ap (λ (s : ℕ). call_of (effect_of c.args.entry.now s)) c.stream.ensures) in
    left_as c.syncs.result _ _ _ c.syncs.ensures
    (page_state-by pages o h c.args.page.page step.Syncs (valid_of h) c.args.left.now none c.in-Syncs.ensures refl was)
