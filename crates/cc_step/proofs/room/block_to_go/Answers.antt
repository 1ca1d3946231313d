-- A waiting call has a range, which is the span of the search; with the blocks used up one of them may go.
use Rattle.std.specs.Prelude.{◌≡◌, ℕ, true, List, Option, Some, None, IsSome, refl}
use Rattle.std.proofs.Common.{sym, ◌∙◌, subst}
use Rattle.cc_entry.specs.Place.{Range}
use Rattle.cc_entry.specs.declared.call.Call.{Call}
use Rattle.cc_entry.specs.declared.entry.Entry.{Entry}
use Rattle.cc_book.specs.Book.{BookState}
use Rattle.cc_effects.specs.Asked.{block_to_go, makes_room}
use Rattle.cc_model.specs.History.{history}
use Rattle.cc_model.specs.Ranges.{range_of}
use Rattle.cc_model.specs.Setup.{Setup}
use Rattle.cc_model.specs.Touches.{size_of}
use Rattle.cc_step.proofs.Placed.{so-far}
use Rattle.cc_step.specs.Step.{is_answered}
use Rattle.cc_step.specs.Room.{IsCrowded}
use Rattle.cc_step.proofs.Rooms.{some-to-go}
use Rattle.cc_step.proofs.Waiting.{Needs, needs}
use Rattle.cc_step.proofs.room.block_to_go.Goals as goal

-- the span of a waiting call is its range
same-range : (u : Setup) (past : List Entry) (it : Call) (page : ℕ) (b : BookState) (span : Range) → (n : Needs (history past b.stream) it page) → Some span ≡ range_of (size_of (history past b.stream)) it → span ≡ n.range
same-range u past it page b span n is = let both : Some span ≡ Some n.range = is ∙ n.range_is in cc

found-block : (u : Setup) (past : List Entry) (it : Call) (page : ℕ) (b : BookState) (span : Range) (o : Option ℕ) → is_answered it ≡ true → makes_room it ≡ true → IsCrowded u past it page b → Some span ≡ range_of (size_of (history past b.stream)) it → o ≡ block_to_go (history past b.stream) span → IsSome o
found-block u past it page b span None answered room crowded is found =
    let n = needs u past b.stream it page crowded.waits in
    let same = same-range u past it page b span n is in
    absurd (some-to-go u past b.stream it page answered room crowded.good (so-far u past crowded.good) crowded.waits crowded.full n
    (subst (λ (r : Range). block_to_go (history past b.stream) r ≡ None) same (sym found)))
found-block u past it page b span (Some block) answered room crowded is found = refl

pub unwrap-span-requires : goal.unwrap-span-requires
unwrap-span-requires c =
    let u = c.requires.crowded.0 in
    let past = c.requires.crowded.1 in
    let page = c.requires.crowded.2 in
    let crowded = c.requires.crowded.3 in
    let n = needs u past c.args.book.now.stream c.args.call.now page crowded.waits in
    rw (c.span_of.ensures u (u.opening c.args.book.now.stream) past page crowded.stands crowded.waits, n.range_is) refl

pub unwrap-requires : goal.unwrap-requires
unwrap-requires c =
    let u = c.requires.crowded.0 in
    let past = c.requires.crowded.1 in
    let page = c.requires.crowded.2 in
    let crowded = c.requires.crowded.3 in
    let opening = u.opening c.args.book.now.stream in
    found-block u past c.args.call.now page c.args.book.now c.unwrap-span.result c.in_ok-block.block c.requires.answered c.requires.room crowded
    (sym c.unwrap-span.ensures ∙ c.span_of.ensures u opening past page crowded.stands crowded.waits)
    (c.in_ok-block.ensures opening past crowded.stands)

pub returns : goal.returns
returns c u past page crowded =
    let opening = u.opening c.args.book.now.stream in
    let n = needs u past c.args.book.now.stream c.args.call.now page crowded.waits in
    let same = same-range u past c.args.call.now page c.args.book.now c.unwrap-span.result n (sym c.unwrap-span.ensures ∙ c.span_of.ensures u opening past page crowded.stands crowded.waits) in
    rw n.range_is (subst (λ (r : Range). block_to_go (history past c.args.book.now.stream) r ≡ Some c.unwrap.result) same (sym (c.in_ok-block.ensures opening past crowded.stands) ∙ c.unwrap.ensures))
