-- How a pass goes on over the calls of a list.
use Rattle.std.specs.Prelude.{◌≡◌, ℕ, Bool, ◌≤◌, max, List, [], ◌∷◌, ◌++◌, length, Result, Ok, Err, refl}
use Rattle.std.specs.Result.{IsErrAnd}
use Rattle.std.proofs.Common.{ap, sym, ◌∙◌, subst, append_assoc, arith}
use Rattle.cc_entry.specs.Place.{File}
use Rattle.cc_entry.specs.declared.call.Call.{Call}
use Rattle.cc_entry.specs.declared.call.Call.TheVariants as call
use Rattle.cc_entry.specs.declared.error.CcError.{CcError}
use Rattle.cc_entry.specs.declared.error.CcError.TheVariants as error
use Rattle.cc_entry.specs.declared.hold.HoldKind.{HoldKind}
use Rattle.cc_entry.specs.declared.reply.Outcome.{Outcome}
use Rattle.cc_entry.specs.declared.reply.Outcome.TheVariants as outcome
use Rattle.cc_entry.specs.declared.reply.Reply.TheVariants as reply
use Rattle.cc_model.specs.Good.{IsGood}
use Rattle.cc_model.specs.Passes.{HasSeen}
use Rattle.cc_model.specs.Setup.{Setup}
use Rattle.cc_effects.specs.LogCalls.{AppendLeft}
use Rattle.cc_effects.specs.Moments.{Between}
use Rattle.cc_pieces.proofs.Grown.{grew-call, grew-then}
use Rattle.cc_own.proofs.VerbsKeep.{append-unchanged, nc_read-unchanged}
use Rattle.cc_ranges.specs.Answers.{read_answer}
use Rattle.cc_ranges.specs.Reads.{NcReadEnds}
use Rattle.cc_ranges.specs.declared.error.NcError.{NcError}
use Rattle.cc_turns.specs.Standing.{Standing}
use Rattle.cc_writes.specs.Hands.{Went}
use Rattle.cc_writes.specs.Ways.{IsFull, IsFullError}
use Rattle.cc_calls.specs.Answers.{CallEnds, CanCall, IsFree}
use Rattle.cc_calls.specs.Ends.{HeldReadEnds, HoldEnded, filled_outcome}
use Rattle.cc_calls.specs.Logs.{LogEnds}
use Rattle.cc_calls.specs.Pages.{CallWithPagesLeft, StaysGood, WentOn}
use Rattle.cc_calls.specs.declared.held.Held.{Held}
use Rattle.cc_shim.specs.Ends.{ListEnds, CallListWasFull, WasFullError}

-- A call came to its end: the pass goes on as it stood, what it had seen stands, and what it has seen stays good.
pub record HasGone (w v : Standing) : Type 0 where
  pub on : WentOn w v
  pub grew : HasSeen w.seen v.seen
  pub good : StaysGood w v

-- ---- one pass of one run

pub same-setup : (w v : Standing) → WentOn w v → v.setup ≡ w.setup
same-setup w v on = ap (λ (x : Standing). x.setup) on.same

pub same-number : (w v : Standing) → WentOn w v → v.number ≡ w.number
same-number w v on = ap (λ (x : Standing). x.number) on.same

pub moved : (w v : Standing) → WentOn w v → (P : Setup → ℕ → Type 0) → P v.setup v.number → P w.setup w.number
moved w v on P p = subst (λ (n : ℕ). P w.setup n) (same-number w v on) (subst (λ (u : Setup). P u v.number) (same-setup w v on) p)

pub on-then : (w v x : Standing) → WentOn w v → WentOn v x → WentOn w x
on-then w v x first second = record {
  same = second.same ∙ ap (λ (a : Standing). record a { seen = x.seen; others = x.others; device_turns = x.device_turns }) first.same;
}

pub on-went : (w v : Standing) → Went w v → WentOn w v
on-went w v went =
    let turns : v.device_turns ≡ w.device_turns = ap (λ (x : Standing). x.device_turns) went.same in
    record { same = went.same ∙ ap (λ (n : ℕ). record w { seen = v.seen; others = v.others; device_turns = n }) (sym turns) }

pub can-then : (w v : Standing) (s : ℕ) → CanCall w s → WentOn w v → CanCall v s
can-then w v s can on = subst (λ (x : Standing). CanCall x s) (sym on.same) (record { known = can.known; free = can.free; none = can.none })

pub is-free : (w : Standing) (s : ℕ) → CanCall w s → IsFree w
is-free w s can = record { free = can.free; none = can.none }

-- as many places as a call asks at once that brings pages in
pub one-asked : max 2 1 ≤ 2
one-asked = omega arith

pub two-asked : max 2 2 ≤ 2
two-asked = omega arith

-- ---- calls that came to their ends

pub gone-none : (w : Standing) → HasGone w w
gone-none w = record { on = record { same = refl }; grew = record { later = []; grew = refl }; good = λ good. good }

pub gone-then : (w v x : Standing) → HasGone w v → HasGone v x → HasGone w x
gone-then w v x first second = record {
  on = on-then w v x first.on second.on;
  grew = grew-then w.seen v.seen x.seen first.grew second.grew;
  good = λ good.
      let same = same-setup w v first.on in
      subst (λ (u : Setup). IsGood u x.seen) same (second.good (subst (λ (u : Setup). IsGood u v.seen) (sym same) (first.good good)));
}

pub gone-ends : {A : Type 0} (ended : Result A CcError → Outcome) (w v : Standing) (it : Call) (answer : Result A CcError) → CallEnds ended w v it answer → HasGone w v
gone-ends ended w v it answer ends = record {
  on = on-went w v ends.goes_on;
  grew = grew-call w.setup w.number it (ended answer) w.seen v.seen ends.left;
  good = ends.good;
}

pub gone-pages : (w v : Standing) (it : Call) (ended : Outcome) → CallWithPagesLeft w v it ended → HasGone w v
gone-pages w v it ended pages = record {
  on = pages.goes_on;
  grew = grew-call w.setup w.number it ended w.seen v.seen pages.left;
  good = pages.good;
}

pub gone-ended : (w v : Standing) (held : Held) → HoldEnded w v held → HasGone w v
gone-ended w v held ended = record {
  on = on-went w v ended.goes_on;
  grew = grew-call w.setup w.number (call.EndHold held.id) (outcome.Done reply.Unit) w.seen v.seen ended.left;
  good = λ good. ended.good;
}

pub gone-read : (w v : Standing) (of_kind : HoldKind → Bool) (held : Held) (it : Call) (answer : Result (Unit {0}) CcError) (was now : List ℕ) → HeldReadEnds w v of_kind held it answer was now → HasGone w v
gone-read w v of_kind held it answer was now read = record {
  on = on-went w v read.goes_on;
  grew = grew-call w.setup w.number it (filled_outcome answer now) w.seen v.seen read.left;
  good = read.good;
}

pub gone-append : (w v : Standing) (handle : ℕ) (bytes : List ℕ) (answer : Result ℕ CcError) → LogEnds w v (AppendLeft w.setup w.number handle bytes) answer → HasGone w v
gone-append w v handle bytes answer ends =
    let kept = append-unchanged w.setup w.number 0 handle bytes answer w.seen v.seen ends.left in
    record { on = on-went w v ends.goes_on; grew = record { later = kept.during; grew = kept.grew }; good = ends.good }

pub gone-noncached : (w v : Standing) (file : File) (at : ℕ) (answer : Result ℕ NcError) (was now : List ℕ) → NcReadEnds w v file at answer was now → HasGone w v
gone-noncached w v file at answer was now ends =
    let kept = nc_read-unchanged w.setup w.number 0 file at (length was) (read_answer answer now) w.seen v.seen ends.left in
    record { on = ends.goes_on; grew = record { later = kept.during; grew = kept.grew }; good = ends.good }

-- ---- a journal that is full

full-here : (w v : Standing) (asked : ℕ) (e : CcError) → HasGone w v → v.others ≤ v.most_others → asked ≤ 2 → IsFullError asked v e → WasFullError 2 w v e
full-here w v asked (error.JournalFull entries) gone few most full =
    let capacity : v.setup.capacity ≡ w.setup.capacity = ap (λ (x : Standing). x.setup.capacity) gone.on.same in
    let flight : v.in_flight ≡ w.in_flight = ap (λ (x : Standing). x.in_flight) gone.on.same in
    let bound : v.most_others ≡ w.most_others = ap (λ (x : Standing). x.most_others) gone.on.same in
    record {
      moment = v.seen;
      later = [];
      since = gone.grew.later;
      ends = refl;
      begins = gone.grew.grew;
      holds = (v.others, omega (arith, few, bound), (full.0, omega (arith, full.1, capacity, flight, most)));
    }
full-here w v asked other gone few most full = tt

-- others had no more under way than they ever have
pub full-now : {A : Type 0} (w v : Standing) (asked : ℕ) (answer : Result A CcError) → HasGone w v → v.others ≤ v.most_others → asked ≤ 2 → IsFull asked v answer → CallListWasFull w v answer
full-now w v asked (Ok a) gone few most full = tt
full-now w v asked (Err e) gone few most full = full-here w v asked e gone few most full

full-before : (w v x : Standing) (e : CcError) → HasGone w v → WasFullError 2 v x e → WasFullError 2 w x e
full-before w v x (error.JournalFull entries) gone full =
    let capacity : v.setup.capacity ≡ w.setup.capacity = ap (λ (y : Standing). y.setup.capacity) gone.on.same in
    let flight : v.in_flight ≡ w.in_flight = ap (λ (y : Standing). y.in_flight) gone.on.same in
    let bound : v.most_others ≡ w.most_others = ap (λ (y : Standing). y.most_others) gone.on.same in
    record {
      moment = full.moment;
      later = full.later;
      since = full.since ++ gone.grew.later;
      ends = full.ends;
      begins = full.begins ∙ (ap (λ l. full.since ++ l) gone.grew.grew ∙ sym (append_assoc full.since gone.grew.later w.seen));
      holds = (full.holds.0, omega (arith, full.holds.1, bound), (full.holds.2.0, omega (arith, full.holds.2.1, capacity, flight)));
    }
full-before w v x other gone full = tt

full-after : (w v x : Standing) (e : CcError) → HasSeen v.seen x.seen → WasFullError 2 w v e → WasFullError 2 w x e
full-after w v x (error.JournalFull entries) grew full = record {
  moment = full.moment;
  later = grew.later ++ full.later;
  since = full.since;
  ends = grew.grew ∙ (ap (λ l. grew.later ++ l) full.ends ∙ sym (append_assoc grew.later full.later full.moment));
  begins = full.begins;
  holds = full.holds;
}
full-after w v x other grew full = tt

-- ---- the ends of a list

pub gone-list : {A : Type 0} (w v : Standing) (Left : Result A CcError → Between) (answer : Result A CcError) → ListEnds w v Left answer → HasGone w v
gone-list w v Left answer ends = record { on = ends.goes_on; grew = ends.grew; good = ends.good }

-- it ends with this call
pub ends-here : {A : Type 0} (w v : Standing) (Left : Result A CcError → Between) (answer : Result A CcError) → HasGone w v → CallListWasFull w v answer → Left answer w.seen v.seen → ListEnds w v Left answer
ends-here w v Left answer gone full left = record { left = left; full = full; goes_on = gone.on; grew = gone.grew; good = gone.good }

full-since : {A : Type 0} (w v x : Standing) (answer : Result A CcError) → HasGone w v → CallListWasFull v x answer → CallListWasFull w x answer
full-since w v x (Ok a) gone full = tt
full-since w v x (Err e) gone full = full-before w v x e gone full

full-until : {A : Type 0} (w v x : Standing) (answer : Result A CcError) → HasGone v x → CallListWasFull w v answer → CallListWasFull w x answer
full-until w v x (Ok a) gone full = tt
full-until w v x (Err e) gone full = full-after w v x e gone.grew full

-- a call came to its end, and the rest of the list after it
pub ends-after : {A : Type 0} (w v x : Standing) (Left Rest : Result A CcError → Between) (answer : Result A CcError) → HasGone w v → ListEnds v x Rest answer → (Rest answer v.seen x.seen → Left answer w.seen x.seen) → ListEnds w x Left answer
ends-after w v x Left Rest answer gone rest whole =
    let all = gone-then w v x gone (gone-list v x Rest answer rest) in
    record { left = whole rest.left; full = full-since w v x answer gone rest.full; goes_on = all.on; grew = all.grew; good = all.good }

-- a list came to its end, and the end of its hold after it
pub ends-before : {A : Type 0} (w v x : Standing) (Left First : Result A CcError → Between) (answer : Result A CcError) → ListEnds w v First answer → HasGone v x → (First answer w.seen v.seen → Left answer w.seen x.seen) → ListEnds w x Left answer
ends-before w v x Left First answer first gone whole =
    let all = gone-then w v x (gone-list w v First answer first) gone in
    record { left = whole first.left; full = full-until w v x answer gone first.full; goes_on = all.on; grew = all.grew; good = all.good }

-- the same by what it left otherwise said
pub ends-more : {A : Type 0} (w v : Standing) (Left More : Result A CcError → Between) (answer : Result A CcError) → (Left answer w.seen v.seen → More answer w.seen v.seen) → ListEnds w v Left answer → ListEnds w v More answer
ends-more w v Left More answer leads ends = record { left = leads ends.left; full = ends.full; goes_on = ends.goes_on; grew = ends.grew; good = ends.good }

-- the error that a call met is handed on
pub handed : {A : Type 0} (P : Result A CcError → Type 0) (answer : Result A CcError) (e : CcError) → IsErrAnd answer (λ x. x ≡ e) → P (Err e) → P answer
handed P (Ok done) e is p = absurd is
handed P (Err x) e is p = subst (λ x. P (Err x)) (sym is) p
