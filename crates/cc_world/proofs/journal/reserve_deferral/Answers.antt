-- Whether the object is open is what the book tells, which stands for the past.
use Rattle.std.specs.Prelude.{◌≡◌, ℕ, Bool, List, Result, Ok, Err, OnOk}
use Rattle.std.specs.declared.option.Option.{Option}
use Rattle.std.proofs.Common.{ap, sym, ◌∙◌, arith}
use Rattle.cc_book.specs.Book.{BookState, BookStands}
use Rattle.cc_entry.specs.Place.{File}
use Rattle.cc_entry.specs.declared.entry.Entry.{Entry}
use Rattle.cc_model.specs.History.{history}
use Rattle.cc_model.specs.Numbers.{is_among}
use Rattle.cc_model.specs.Objects.{objects}
use Rattle.cc_model.specs.Reasons.{is_open}
use Rattle.cc_world.proofs.journal.reserve_deferral.Goals as goal

on-ok : {T E : Type 0} (r : Result T E) (P R : Type 0) → P → OnOk r R → OnOk r (P × R)
on-ok (Ok t) P R p holds = (p, holds)
on-ok (Err e) P R p holds = holds

open-as : (past : List Entry) (book : BookState) (file : File) (object : ℕ) (told : Bool) → file.stream ≡ book.stream → object ≡ file.object → ((opening : Option (ℕ → List ℕ)) × BookStands opening past book) → ((opening : Option (ℕ → List ℕ)) (its : List Entry) → BookStands opening its book → told ≡ is_among object (objects (history its book.stream))) → is_open (history past file.stream) file ≡ told
open-as past book file object told stream same stands tells =
    ap (λ (s : ℕ). is_open (history past s) file) stream
    ∙ (ap (λ (o : ℕ). is_among o (objects (history past book.stream))) (sym same) ∙ sym (tells stands.0 past stands.1))

pub returns-then-not-is_open-clause-causes : goal.returns-then-not-is_open-clause-causes
returns-then-not-is_open-clause-causes g c = (
  omega (arith, c.room.ensures, c.if-room-eq0.false),
  open-as c.args.journal.now.entries c.args.book.now c.args.file c.object.result c.is_open.result c.requires.stream c.object.ensures.same c.requires.book c.is_open.ensures
      ∙ c.if-not-is_open.true,
)

pub returns-then-queued-ge64-clause-causes : goal.returns-then-queued-ge64-clause-causes
returns-then-queued-ge64-clause-causes g c = (
  omega (arith, c.room.ensures, c.if-room-eq0.false),
  open-as c.args.journal.now.entries c.args.book.now c.args.file c.object.result c.is_open.result c.requires.stream c.object.ensures.same c.requires.book c.is_open.ensures
      ∙ c.if-not-is_open.false,
  omega (arith, c.queued.ensures.queue, c.if-queued-ge64.true),
)

pub returns-clause-ok : goal.returns-clause-ok
returns-clause-ok g c =
    on-ok c.reserve.result _ _ (record {
      room = omega (arith, c.room.ensures, c.if-room-eq0.false);
      cached =
          open-as c.args.journal.now.entries c.args.book.now c.args.file c.object.result c.is_open.result c.requires.stream c.object.ensures.same c.requires.book c.is_open.ensures
          ∙ c.if-not-is_open.false;
      few = omega (arith, c.queued.ensures.queue, c.if-queued-ge64.false);
    }) c.reserve.ensures.reserved
