-- By the frames of the block: the first page without one ends the loop, and where there are none it is the first of all.
use Rattle.std.proofs.Common.{◌≡◌, ℕ, ◌+◌, ◌-◌, ◌/◌, Bool, true, false, Option, None, Some, if◌then◌else◌, not, ap, sym, ◌∙◌, is_some, List, inl, inr, refl, nat_lt, arith}
use Rattle.std.specs.List.{find, range_with_len}
use Rattle.std.proofs.lemmas.Bool.{cases_lt}
use Rattle.std.proofs.lemmas.Bool.Decides.{nat_tests}
use Rattle.std.specs.Bool.{then_some}
use Rattle.std.specs.Option.{option_map}
use Rattle.cc_pages.specs.Pages.{PageFrame}
use Rattle.cc_views.specs.Views.{MappedViews, ViewFrames, frames_at}
use Rattle.cc_resident.specs.Residents.{page_bytes_at, is_resident}
use Rattle.cc_resident.proofs.Frames.{frame_in, frame_is, some_map}
use Rattle.cc_resident.proofs.Kept.{page_from}
use Rattle.cc_resident.proofs.Lists.{find_more}
use Rattle.cc_resident.proofs.steps.absent_in_block.Goals as goal

-- the page in the frames of its block
page_in_block : (m : MappedViews) (frames : Option ViewFrames) (from page : ℕ) → frames ≡ frames_at m (from / 64) → page / 64 ≡ from / 64 → page_bytes_at m page ≡ option_map (λ (f : PageFrame). f.bytes) (frame_in page frames)
page_in_block m frames from page there same = page_from m page (frame_in page frames) (frame_is m page ∙ ap (λ (b : ℕ). frame_in page (frames_at m b)) same ∙ ap (frame_in page) (sym there))

-- where each page lacks
first_lacks : (test : ℕ → Bool) (from to : ℕ) → ((p : ℕ) → p / 64 ≡ from / 64 → test p ≡ true) → then_some (nat_lt from to) from ≡ find test (range_with_len from (to - from))
first_lacks test from to lacks = elim (cases_lt from to) [
  | inl less ↦
      let yes : nat_lt from to ≡ true = grind (arith, nat_tests) in
      ap (λ b. then_some b from) yes
      ∙ sym (find_more test from to less ∙ ap (λ b. if b then Some from else find test (range_with_len (from + 1) (to - (from + 1)))) (lacks from refl))
  | inr past ↦
      let no : nat_lt from to ≡ false = grind (arith, nat_tests) in
      ap (λ b. then_some b from) no ∙ sym (ap (λ n. find test (range_with_len from n)) {x = to - from} {y = 0} (omega arith))
]

pub returns-in-None : goal.returns-in-None
returns-in-None c = c.then_some.ensures ∙ first_lacks (λ p. not (is_resident c.args.views.now p)) c.args.from c.args.to
    (λ p same. ap (λ (bytes : Option (List ℕ)). not (is_some bytes)) (page_in_block c.args.views.now None c.args.from p c.in-None.ensures.frames same))

pub returns-then-is_none : goal.returns-then-is_none
returns-then-is_none c =
    let m = c.args.views.now in
    let page = c.loop-page.page in
    let to = c.args.to in
    let here = c.get.ensures ∙ sym (page_in_block m (Some c.in-Some.frames.now) c.args.from page c.in-Some.ensures.frames (omega (arith, c.requires, c.loop-page.auto.page, c.loop-page-test.true))) in
    let gone : not (is_resident m page) ≡ true = ap (λ b. not b) (ap is_some (sym here) ∙ some_map (λ x. x.now) c.get.result ∙ c.is_none.ensures ∙ ap (λ b. not b) c.if-is_none.true) in
    sym (sym c.loop-page.invariant ∙ find_more (λ p. not (is_resident m p)) page to c.loop-page-test.true
    ∙ ap (λ b. if b then Some page else find (λ p. not (is_resident m p)) (range_with_len (page + 1) (to - (page + 1)))) gone)

pub loop-page-preserved : goal.loop-page-preserved
loop-page-preserved c =
    let m = c.args.views.now in
    let page = c.loop-page.page in
    let to = c.args.to in
    let here = c.get.ensures ∙ sym (page_in_block m (Some c.in-Some.frames.now) c.args.from page c.in-Some.ensures.frames (omega (arith, c.requires, c.loop-page.auto.page, c.loop-page-test.true))) in
    let there : not (is_resident m page) ≡ false = ap (λ b. not b) (ap is_some (sym here) ∙ some_map (λ x. x.now) c.get.result ∙ c.is_none.ensures ∙ ap (λ b. not b) c.if-is_none.false) in
    sym (find_more (λ p. not (is_resident m p)) page to c.loop-page-test.true
    ∙ ap (λ b. if b then Some page else find (λ p. not (is_resident m p)) (range_with_len (page + 1) (to - (page + 1)))) there)
    ∙ c.loop-page.invariant
