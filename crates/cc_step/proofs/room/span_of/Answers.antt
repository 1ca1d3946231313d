-- By kinds of call: one that nothing refuses has a range with its ends in order, cut by the size where it is cut.
use Rattle.std.specs.Prelude.{◌≡◌, ℕ, ◌+◌, ◌*◌, ◌<◌, nat_lt, Bool, true, false, if◌then◌else◌, List, length, min, Option, None, Some, refl}
use Rattle.std.proofs.Common.{ap, sym, ◌∙◌, subst, arith}
use Rattle.std.proofs.lemmas.Bool.{and_parts, ltb-true}
use Rattle.cc_entry.specs.Pages.{has_page, whole_range}
use Rattle.cc_entry.specs.Place.{File, Range}
use Rattle.cc_entry.specs.declared.call.Call.{Call}
use Rattle.cc_entry.specs.declared.call.Call.TheVariants as call
use Rattle.cc_entry.specs.declared.entry.Entry.{Entry}
use Rattle.cc_entry.specs.declared.place.Request.{Request}
use Rattle.cc_laws.proofs.UnrefusedCalls.{unrefused}
use Rattle.cc_model.specs.History.{history}
use Rattle.cc_model.specs.Ranges.{cut_range, range_of}
use Rattle.cc_model.specs.Reasons.{past_size}
use Rattle.cc_model.specs.Setup.{Setup}
use Rattle.cc_model.specs.Sizes.{stored_range}
use Rattle.cc_model.specs.Touches.{size_of}
use Rattle.cc_step.proofs.Within.{whole-cut}
use Rattle.cc_step.specs.Room.{IsWaiting}
use Rattle.cc_step.proofs.Waiting.{needs}
use Rattle.cc_step.proofs.room.span_of.Goals as goal

-- a range that has a page has its ends in order
in-order : (r other : Range) (page : ℕ) → Some r ≡ Some other → has_page other page ≡ true → r.from < r.to
in-order r other page is has =
    let same : other ≡ r = cc in
    ltb-true r.from r.to (and_parts (nat_lt r.from r.to) _ (subst (λ (it : Range). has_page it page ≡ true) same has)).0

written : (u : Setup) (past : List Entry) (s : ℕ) (file : File) (at : ℕ) (bytes : List ℕ) (page : ℕ) (o : Option Range) → IsWaiting u past s (call.CopyWrite file at bytes) page → (at < min (at + length bytes) (size_of (history past s)) → o ≡ Some (cut_range (size_of (history past s)) at (length bytes))) → o ≡ Some (whole_range at (length bytes))
written u past s file at bytes page o waits found =
    let size = size_of (history past s) in
    let n = needs u past s (call.CopyWrite file at bytes) page waits in
    let within = (unrefused u past (history past s) (call.CopyWrite file at bytes) waits.admitted).within_size in
    let same : cut_range size at (length bytes) ≡ whole_range at (length bytes) = whole-cut size at (length bytes) within in
    let order = in-order (whole_range at (length bytes)) n.range page n.range_is n.has in
    found (subst (λ (r : Range). r.from < r.to) (sym same) order) ∙ ap (λ (r : Range). Some r) same

read : (u : Setup) (past : List Entry) (s : ℕ) (file : File) (at len : ℕ) (wait : Bool) (page : ℕ) (o : Option Range) → IsWaiting u past s (call.CopyRead file at len wait) page → (at < min (at + len) (size_of (history past s)) → o ≡ Some (cut_range (size_of (history past s)) at len)) → o ≡ Some (cut_range (size_of (history past s)) at len)
read u past s file at len wait page o waits found =
    let n = needs u past s (call.CopyRead file at len wait) page waits in
    found (in-order (cut_range (size_of (history past s)) at len) n.range page n.range_is n.has)

step : (u : Setup) (past : List Entry) (s : ℕ) (request : Request) (page : ℕ) (o : Option Range) → IsWaiting u past s (call.AheadStep request) page → (request.at < min (request.at + request.len) (size_of (history past s)) → o ≡ Some (cut_range (size_of (history past s)) request.at request.len)) → o ≡ Some (cut_range (size_of (history past s)) request.at request.len)
step u past s request page o waits found =
    let n = needs u past s (call.AheadStep request) page waits in
    found (in-order (cut_range (size_of (history past s)) request.at request.len) n.range page n.range_is n.has)

-- the range of a call that is whole
whole : (u : Setup) (past : List Entry) (s : ℕ) (it : Call) (at n page : ℕ) (o : Option Range) → range_of (size_of (history past s)) it ≡ Some (whole_range at n) → past_size (size_of (history past s)) (at + n) ≡ None → IsWaiting u past s it page → (at < min (at + n) (size_of (history past s)) → o ≡ Some (cut_range (size_of (history past s)) at n)) → o ≡ range_of (size_of (history past s)) it
whole u past s it at n page o is within waits found =
    let size = size_of (history past s) in
    let needed = needs u past s it page waits in
    let same : cut_range size at n ≡ whole_range at n = whole-cut size at n within in
    let order = in-order (whole_range at n) needed.range page (sym is ∙ needed.range_is) needed.has in
    found (subst (λ (r : Range). r.from < r.to) (sym same) order) ∙ (ap (λ (r : Range). Some r) same ∙ sym is)

pub returns-in-CopyWrite : goal.returns-in-CopyWrite
returns-in-CopyWrite c u opening past page stands waits =
    let s = c.args.book.now.stream in
    let size = size_of (history past s) in
    rw c.in-CopyWrite.is
    (written u past s c.in-CopyWrite.file c.in-CopyWrite.at c.in-CopyWrite.bytes page c.span_below.result (rw c.in-CopyWrite.is at waits)
    (subst (λ (n : ℕ). c.in-CopyWrite.at < min (c.in-CopyWrite.at + n) size → c.span_below.result ≡ Some (cut_range size c.in-CopyWrite.at n)) c.len.ensures (c.span_below.ensures opening past stands)))

pub returns-in-CopyRead : goal.returns-in-CopyRead
returns-in-CopyRead c u opening past page stands waits =
    let s = c.args.book.now.stream in
    rw c.in-CopyRead.is
    (read u past s c.in-CopyRead.file c.in-CopyRead.at c.in-CopyRead.len c.in-CopyRead.wait page c.span_below-in-CopyRead.result (rw c.in-CopyRead.is at waits)
    (c.span_below-in-CopyRead.ensures opening past stands))

pub returns-in-Map : goal.returns-in-Map
returns-in-Map c u opening past page stands waits =
    let s = c.args.book.now.stream in
    let it = call.Map c.in-Map.file c.in-Map.at c.in-Map.len in
    let waiting : IsWaiting u past s it page = rw c.in-Map.is at waits in
    rw c.in-Map.is
    (whole u past s it c.in-Map.at c.in-Map.len page c.span_below-in-Map.result refl (unrefused u past (history past s) it waiting.admitted).within_size waiting
    (c.span_below-in-Map.ensures opening past stands))

pub returns-in-PinRead : goal.returns-in-PinRead
returns-in-PinRead c u opening past page stands waits =
    let s = c.args.book.now.stream in
    let it = call.PinRead c.in-PinRead.file c.in-PinRead.at c.in-PinRead.len c.in-PinRead.exclusive in
    let waiting : IsWaiting u past s it page = rw c.in-PinRead.is at waits in
    rw c.in-PinRead.is
    (whole u past s it c.in-PinRead.at c.in-PinRead.len page c.span_below-in-PinRead.result refl (unrefused u past (history past s) it waiting.admitted).within_size waiting
    (c.span_below-in-PinRead.ensures opening past stands))

pub returns-in-PreparePin : goal.returns-in-PreparePin
returns-in-PreparePin c u opening past page stands waits =
    let s = c.args.book.now.stream in
    let it = call.PreparePin c.in-PreparePin.file c.in-PreparePin.at c.in-PreparePin.len c.in-PreparePin.zero c.in-PreparePin.exclusive in
    let waiting : IsWaiting u past s it page = rw c.in-PreparePin.is at waits in
    rw c.in-PreparePin.is
    (whole u past s it c.in-PreparePin.at c.in-PreparePin.len page c.span_below-in-PreparePin.result refl (unrefused u past (history past s) it waiting.admitted).within_size waiting
    (c.span_below-in-PreparePin.ensures opening past stands))

pub returns-in-MdlRead : goal.returns-in-MdlRead
returns-in-MdlRead c u opening past page stands waits =
    let s = c.args.book.now.stream in
    let it = call.MdlRead c.in-MdlRead.file c.in-MdlRead.at c.in-MdlRead.len in
    let waiting : IsWaiting u past s it page = rw c.in-MdlRead.is at waits in
    rw c.in-MdlRead.is
    (whole u past s it c.in-MdlRead.at c.in-MdlRead.len page c.span_below-in-MdlRead.result refl (unrefused u past (history past s) it waiting.admitted).within_size waiting
    (c.span_below-in-MdlRead.ensures opening past stands))

pub returns-in-MdlWrite : goal.returns-in-MdlWrite
returns-in-MdlWrite c u opening past page stands waits =
    let s = c.args.book.now.stream in
    let it = call.MdlWrite c.in-MdlWrite.file c.in-MdlWrite.at c.in-MdlWrite.len in
    let waiting : IsWaiting u past s it page = rw c.in-MdlWrite.is at waits in
    rw c.in-MdlWrite.is
    (whole u past s it c.in-MdlWrite.at c.in-MdlWrite.len page c.span_below-in-MdlWrite.result refl (unrefused u past (history past s) it waiting.admitted).within_size waiting
    (c.span_below-in-MdlWrite.ensures opening past stands))

-- a page of a noncached write that is waited for starts below the size
starts-below : (page size other : ℕ) → has_page (stored_range page size) other ≡ true → 4096 * page < size
starts-below page size other has = go (nat_lt (4096 * page) size) refl (ltb-true _ _ (and_parts (nat_lt (4096 * page) (stored_range page size).to) _ has).0)
  where
    go : (b : Bool) → nat_lt (4096 * page) size ≡ b → 4096 * page < (if b then min (4096 * page + 4096) size else 0) → 4096 * page < size
    go true is less = ltb-true _ _ is
    go false is less = absurd (omega (arith, less))

pub returns-in-NcWrite : goal.returns-in-NcWrite
returns-in-NcWrite c u opening past page stands waits =
    let size = size_of (history past c.args.book.now.stream) in
    let it = call.NcWrite c.in-NcWrite.file c.in-NcWrite.page in
    let n = needs u past c.args.book.now.stream it page (rw c.in-NcWrite.is at waits) in
    let same : n.range ≡ stored_range c.in-NcWrite.page size = cc (n.range_is) in
    let has = subst (λ (r : Range). has_page r page ≡ true) same n.has in
    rw c.in-NcWrite.is (c.stored_span.ensures opening past stands (starts-below c.in-NcWrite.page size page has))

pub returns-in-AheadStep : goal.returns-in-AheadStep
returns-in-AheadStep c u opening past page stands waits =
    let s = c.args.book.now.stream in
    rw c.in-AheadStep.is
    (step u past s c.in-AheadStep.request page c.span_below-in-AheadStep.result (rw c.in-AheadStep.is at waits)
    (c.span_below-in-AheadStep.ensures opening past stands))

pub returns-in-Query : goal.returns-in-Query
returns-in-Query c u opening past page stands waits =
    let s = c.args.book.now.stream in
    let it = call.Query c.in-Query.query in
    let n = needs u past s it page (rw c.in-Query.is at waits) in
    rw c.in-Query.is
    (c.span_for.ensures opening past n.range stands n.range_is (in-order n.range n.range page refl n.has) ∙ sym n.range_is)
