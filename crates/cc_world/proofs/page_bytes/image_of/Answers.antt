-- The page starts below the size; its bytes, cleared from the size on, are those that go to the disk.
use Rattle.std.specs.Prelude.{◌≡◌, ℕ, ◌-◌, ◌*◌, ◌<◌, ◌≤◌, List, length}
use Rattle.std.proofs.Common.{ap, sym, ◌∙◌, subst, arith}
use Rattle.std.proofs.lemmas.Result.{IfOk-weaker}
use Rattle.cc_content.specs.Filling.{IsClearedFrom}
use Rattle.cc_model.specs.History.{history}
use Rattle.cc_model.specs.Touches.{size_of}
use Rattle.cc_world.specs.Uncached.{IsImage}
use Rattle.cc_world.proofs.PageBytes.{as-cut}
use Rattle.cc_world.proofs.page_bytes.image_of.Goals as goal

pub overflow_sub-size : goal.overflow_sub-size
overflow_sub-size c = omega (arith, c.size.ensures c.requires.below.0 c.requires.below.1 c.requires.below.2, c.page.ensures.same, c.requires.below.3)

pub returns : goal.returns
returns c =
    let cut = c.cleared.result in
    let whole : length cut ≡ 4096 = search in
    let stored : c.copy_from_slice.new.self ≡ c.args.bytes.now = c.copy_from_slice.ensures.after ∙ (c.deref.ensures.value ∙ c.in_ok-listed.ensures) in
    IfOk-weaker c.frame_of.result _ _
    (λ image same opening past stands.
    let size = size_of (history past c.args.book.now.stream) in
    let from : c.size.result - 4096 * c.page.result ≡ size - 4096 * c.args.page.page =
    ap (λ (n : ℕ). n - 4096 * c.page.result) (c.size.ensures opening past stands) ∙ ap (λ (n : ℕ). size - 4096 * n) c.page.ensures.same in
    subst (λ (l : List ℕ). IsImage size c.args.page.page c.args.bytes.now l) (sym same)
    (record {
      whole = whole;
      bytes_are = λ i small. as-cut size c.args.page.page (c.size.result - 4096 * c.page.result) c.args.bytes.now cut from
          (subst (λ (l : List ℕ). IsClearedFrom (c.size.result - 4096 * c.page.result) l cut) stored c.cleared.ensures) i;
    }))
    c.frame_of.ensures
