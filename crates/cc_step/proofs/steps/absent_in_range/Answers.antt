-- By kinds of call: one that nothing refuses ends below the size, so the book looks for its whole range.
use Rattle.std.specs.Prelude.{◌≡◌, ℕ, ◌+◌, List, Option, None, Some, refl, length}
use Rattle.std.proofs.Common.{ap, sym, ◌∙◌}
use Rattle.cc_entry.specs.Pages.{whole_range}
use Rattle.cc_entry.specs.Place.{Range}
use Rattle.cc_entry.specs.declared.call.Call.{Call}
use Rattle.cc_entry.specs.declared.call.Call.TheVariants as call
use Rattle.cc_laws.proofs.UnrefusedCalls.{unrefused}
use Rattle.cc_model.specs.History.{Effect, history}
use Rattle.cc_model.specs.Ranges.{cut_range, range_of}
use Rattle.cc_model.specs.Reasons.{past_size}
use Rattle.cc_model.specs.Touches.{size_of}
use Rattle.cc_step.specs.Step.{least_absent}
use Rattle.cc_step.proofs.Within.{whole-cut}
use Rattle.cc_step.proofs.steps.absent_in_range.Goals as goal

-- the least absent page of a call whose range is whole
whole : (h : List Effect) (it : Call) (at n : ℕ) (page : Option ℕ) → range_of (size_of h) it ≡ Some (whole_range at n) → past_size (size_of h) (at + n) ≡ None → page ≡ least_absent h (Some (cut_range (size_of h) at n)) → page ≡ least_absent h (range_of (size_of h) it)
whole h it at n page is none found = found ∙ ap (λ (r : Range). least_absent h (Some r)) (whole-cut (size_of h) at n none) ∙ ap (λ (r : Option Range). least_absent h r) (sym is)

pub returns-in-CopyWrite : goal.returns-in-CopyWrite
returns-in-CopyWrite c u opening past stands admitted =
    let h = history past c.args.book.now.stream in
    let it = call.CopyWrite c.in-CopyWrite.file c.in-CopyWrite.at c.in-CopyWrite.bytes in
    let free = unrefused u past h it (rw c.in-CopyWrite.is at admitted) in
    rw c.in-CopyWrite.is (whole h it c.in-CopyWrite.at (length c.in-CopyWrite.bytes) c.absent_below.result refl free.within_size
    (c.absent_below.ensures opening past stands ∙ rw c.len.ensures refl))

pub returns-in-Zero : goal.returns-in-Zero
returns-in-Zero c u opening past stands admitted =
    rw c.in-Zero.is (c.first_absent.ensures opening past stands ∙ rw (c.from.ensures.same, c.to.ensures.same) refl)

pub returns-in-CopyRead : goal.returns-in-CopyRead
returns-in-CopyRead c u opening past stands admitted =
    rw c.in-CopyRead.is (c.absent_below-in-CopyRead.ensures opening past stands)

pub returns-in-Map : goal.returns-in-Map
returns-in-Map c u opening past stands admitted =
    let h = history past c.args.book.now.stream in
    let it = call.Map c.in-Map.file c.in-Map.at c.in-Map.len in
    let free = unrefused u past h it (rw c.in-Map.is at admitted) in
    rw c.in-Map.is (whole h it c.in-Map.at c.in-Map.len c.absent_below-in-Map.result refl free.within_size (c.absent_below-in-Map.ensures opening past stands))

pub returns-in-PinRead : goal.returns-in-PinRead
returns-in-PinRead c u opening past stands admitted =
    let h = history past c.args.book.now.stream in
    let it = call.PinRead c.in-PinRead.file c.in-PinRead.at c.in-PinRead.len c.in-PinRead.exclusive in
    let free = unrefused u past h it (rw c.in-PinRead.is at admitted) in
    rw c.in-PinRead.is (whole h it c.in-PinRead.at c.in-PinRead.len c.absent_below-in-PinRead.result refl free.within_size (c.absent_below-in-PinRead.ensures opening past stands))

pub returns-in-PreparePin : goal.returns-in-PreparePin
returns-in-PreparePin c u opening past stands admitted =
    let h = history past c.args.book.now.stream in
    let it = call.PreparePin c.in-PreparePin.file c.in-PreparePin.at c.in-PreparePin.len c.in-PreparePin.zero c.in-PreparePin.exclusive in
    let free = unrefused u past h it (rw c.in-PreparePin.is at admitted) in
    rw c.in-PreparePin.is (whole h it c.in-PreparePin.at c.in-PreparePin.len c.absent_below-in-PreparePin.result refl free.within_size (c.absent_below-in-PreparePin.ensures opening past stands))

pub returns-in-MdlRead : goal.returns-in-MdlRead
returns-in-MdlRead c u opening past stands admitted =
    let h = history past c.args.book.now.stream in
    let it = call.MdlRead c.in-MdlRead.file c.in-MdlRead.at c.in-MdlRead.len in
    let free = unrefused u past h it (rw c.in-MdlRead.is at admitted) in
    rw c.in-MdlRead.is (whole h it c.in-MdlRead.at c.in-MdlRead.len c.absent_below-in-MdlRead.result refl free.within_size (c.absent_below-in-MdlRead.ensures opening past stands))

pub returns-in-MdlWrite : goal.returns-in-MdlWrite
returns-in-MdlWrite c u opening past stands admitted =
    let h = history past c.args.book.now.stream in
    let it = call.MdlWrite c.in-MdlWrite.file c.in-MdlWrite.at c.in-MdlWrite.len in
    let free = unrefused u past h it (rw c.in-MdlWrite.is at admitted) in
    rw c.in-MdlWrite.is (whole h it c.in-MdlWrite.at c.in-MdlWrite.len c.absent_below-in-MdlWrite.result refl free.within_size (c.absent_below-in-MdlWrite.ensures opening past stands))

pub returns-in-AheadStep : goal.returns-in-AheadStep
returns-in-AheadStep c u opening past stands admitted =
    rw c.in-AheadStep.is (c.absent_below-in-AheadStep.ensures opening past stands)

pub returns-in-Query : goal.returns-in-Query
returns-in-Query c u opening past stands admitted = rw c.in-Query.is (c.absent_for.ensures opening past stands)
