-- A call that makes a hold: the pass has what it hands over.
use Rattle.std.specs.Prelude.{◌≡◌, ℕ, Bool, true, false, List, [], Ok, Err, refl}
use Rattle.std.proofs.Common.{ap, inl, sym, subst}
use Rattle.cc_entry.specs.Place.{File, Range}
use Rattle.cc_entry.specs.Kinds.{is_pin, is_repin}
use Rattle.cc_entry.specs.declared.call.Call.{Call}
use Rattle.cc_entry.specs.declared.call.Call.TheVariants as call
use Rattle.cc_entry.specs.declared.error.CcError.{CcError}
use Rattle.cc_entry.specs.declared.hold.HoldKind.{HoldKind}
use Rattle.cc_entry.specs.declared.hold.HoldKind.TheVariants as kind
use Rattle.cc_entry.specs.declared.reply.Outcome.TheVariants as outcome
use Rattle.cc_entry.specs.declared.reply.Reply.TheVariants as reply
use Rattle.cc_calls.specs.Paged.{CalledAtOnce, Paged}
use Rattle.cc_effects.specs.Calls.{CallLeft}
use Rattle.cc_model.specs.Good.{IsGoodSoFar}
use Rattle.cc_own.specs.Own.{HasHold, hold_of_range}
use Rattle.cc_own.proofs.CallsKeep.{map-leaves, pin_read-leaves, prepare_zeroed-leaves, prepare-leaves, mdl_read-leaves, mdl_write-leaves, repin-leaves}
use Rattle.cc_turns.specs.Standing.{Standing}
use Rattle.cc_writes.specs.declared.tell.Returned.{Returned}
use Rattle.cc_writes.specs.declared.tell.Returned.TheVariants as returned
use Rattle.cc_calls.specs.Held.{IsHolding}
use Rattle.cc_calls.specs.Ends.{MakesHold, MakingEnds, RepinEnds, held_of_range, kind_made}
use Rattle.cc_calls.specs.declared.held.Held.{Held}
use Rattle.cc_calls.proofs.Answered.{made-told, repin-told}
use Rattle.cc_calls.proofs.Holding.{call-still, failed-still, so-far}

module _ (w v : Standing) (of_kind : HoldKind → Bool) (number : v.number ≡ w.number) (file : File) (at len n : ℕ) where
  -- a new hold of the pass is what the caller holds
  new-held : (its_file : File) (its_at its_len : ℕ) (its_kind : HoldKind) (exclusive : Bool) (owed : List Range) → of_kind its_kind ≡ true → (its_file ≡ file) × (its_at ≡ at) × (its_len ≡ len) → HasHold w.number its_file.stream n (hold_of_range n w.number its_file its_at its_len its_kind exclusive owed) v.seen → IsHolding v of_kind (held_of_range file at len n)
  new-held its_file its_at its_len its_kind exclusive owed of is has = record {
    hold = hold_of_range n w.number its_file its_at its_len its_kind exclusive owed;
    has =
        subst (λ (me : ℕ). HasHold me file.stream n (hold_of_range n w.number its_file its_at its_len its_kind exclusive owed) v.seen) (sym number)
        (subst (λ (f : File). HasHold w.number f.stream n (hold_of_range n w.number its_file its_at its_len its_kind exclusive owed) v.seen) is.0 has);
    kind_is = of;
    file_is = is.0;
    at_is = is.1;
    len_is = is.2;
  }

  made-held : (it : Call) → of_kind (kind_made it) ≡ true → MakesHold it file at len → CallLeft w.setup w.number it (outcome.Done (reply.Hold n)) w.seen v.seen → IsGoodSoFar w.setup v.seen → IsHolding v of_kind (held_of_range file at len n)
  made-held (call.Map its_file its_at its_len) of makes left good =
      new-held its_file its_at its_len kind.Map false [] of makes (map-leaves w.setup w.number n its_file its_at its_len w.seen v.seen left good)
  made-held (call.PinRead its_file its_at its_len exclusive) of makes left good =
      new-held its_file its_at its_len kind.Pin exclusive [] of makes (pin_read-leaves w.setup w.number n its_file its_at its_len exclusive w.seen v.seen left good)
  made-held (call.PreparePin its_file its_at its_len true exclusive) of makes left good =
      new-held its_file its_at its_len kind.Pin exclusive _ of makes (prepare_zeroed-leaves w.setup w.number n its_file its_at its_len exclusive w.seen v.seen left good)
  made-held (call.PreparePin its_file its_at its_len false exclusive) of makes left good =
      new-held its_file its_at its_len kind.Pin exclusive [] of makes (prepare-leaves w.setup w.number n its_file its_at its_len exclusive w.seen v.seen left good)
  made-held (call.MdlRead its_file its_at its_len) of makes left good =
      new-held its_file its_at its_len kind.ReadChain false [] of makes (mdl_read-leaves w.setup w.number n its_file its_at its_len w.seen v.seen left good)
  made-held (call.MdlWrite its_file its_at its_len) of makes left good =
      new-held its_file its_at its_len kind.WriteChain false [] of makes (mdl_write-leaves w.setup w.number n its_file its_at its_len w.seen v.seen left good)
  made-held other of makes left good = absurd makes

-- the id that a caller was told is that of the reply
pub same-id : (n id : ℕ) → returned.Hold id ≡ returned.Hold n → n ≡ id
same-id n id same = cc

module _ (w v : Standing) (of_kind : HoldKind → Bool) (file : File) (at len : ℕ) (it : Call) (was now : List ℕ) (makes : MakesHold it file at len) where
  -- its caller is told an id, and nothing else
  pub made-id : (told : Returned) → Paged w v it (Ok told) was now → (n : ℕ) × ((told ≡ returned.Hold n) × CallLeft w.setup w.number it (outcome.Done (reply.Hold n)) w.seen v.seen)
  made-id told ended =
      let n = made-told w.setup w.number w.seen v.seen ended.good it file at len ended.left.0 makes ended.left.1 in
      let tells = rw n.1 at ended.left.2 in
      (n.0, (tells.0, rw n.1 at ended.left.1))

  pub made-ends : (id : ℕ) → of_kind (kind_made it) ≡ true → Paged w v it (Ok (returned.Hold id)) was now → MakingEnds w v of_kind file at len it (Ok (held_of_range file at len id))
  made-ends id of ended =
      let told = made-id (returned.Hold id) ended in
      let left = rw (same-id told.0 id told.1.0) at told.1.1 in
      record {
        pages = record { left = left; goes_on = ended.goes_on; good = λ was_good. ended.good; missed = ended.missed };
        full = inl (tt, inl tt);
        range = refl;
        holding = made-held w v of_kind (ap (λ (x : Standing). x.number) ended.goes_on.same) file at len id it of makes left (so-far w.setup v.seen ended.good);
      }

  pub made-failed : (e : CcError) → Paged w v it (Err e) was now → MakingEnds w v of_kind file at len it (Err e)
  made-failed e ended = record {
    pages = record { left = ended.left.0; goes_on = ended.goes_on; good = λ was_good. ended.good; missed = ended.missed };
    full = ended.full;
    range = tt;
    holding = tt;
  }

module _ (w v : Standing) (pinned : Held) (was now : List ℕ) (h : IsHolding w is_pin pinned) where
  -- a repin is told an id, and nothing else
  pub repin-id : (told : Returned) → CalledAtOnce w v (call.Repin pinned.id) (Ok told) was now → (n : ℕ) × ((told ≡ returned.Hold n) × CallLeft w.setup w.number (call.Repin pinned.id) (outcome.Done (reply.Hold n)) w.seen v.seen)
  repin-id told ended =
      let n = repin-told w.setup w.number w.seen v.seen ended.good pinned.id ended.left.0 ended.left.1 in
      let tells = rw n.1 at ended.left.2 in
      (n.0, (tells.0, rw n.1 at ended.left.1))

  -- it has a range of its own, and the pin is there still
  pub repin-ends : (id : ℕ) → CalledAtOnce w v (call.Repin pinned.id) (Ok (returned.Hold id)) was now → RepinEnds w v is_repin pinned (Ok (held_of_range pinned.file pinned.at pinned.len id))
  repin-ends id ended =
      let told = repin-id (returned.Hold id) ended in
      let left = rw (same-id told.0 id told.1.0) at told.1.1 in
      let number = ap (λ (x : Standing). x.number) ended.goes_on.same in
      let has = repin-leaves w.setup w.number pinned.file.stream id pinned.id h.hold w.seen v.seen left (so-far w.setup v.seen ended.good) h.has in
      record {
        call_ends = record { left = left; full = tt; goes_on = ended.goes_on; good = λ was_good. ended.good };
        range = refl;
        holding = record {
          hold = hold_of_range id w.number h.hold.file h.hold.at h.hold.len kind.Repin false [];
          has = rw number has;
          kind_is = refl;
          file_is = h.file_is;
          at_is = h.at_is;
          len_is = h.len_is;
        };
        pinned_still = call-still w v is_pin pinned number h (call.Repin pinned.id) (outcome.Done (reply.Hold id)) left ended.good refl;
      }

  pub repin-failed : (e : CcError) → CalledAtOnce w v (call.Repin pinned.id) (Err e) was now → RepinEnds w v is_repin pinned (Err e)
  repin-failed e ended = record {
    call_ends = record { left = ended.left.0; full = ended.full; goes_on = ended.goes_on; good = λ was_good. ended.good };
    range = tt;
    holding = tt;
    pinned_still = failed-still w v is_pin pinned (ap (λ (x : Standing). x.number) ended.goes_on.same) h (call.Repin pinned.id) (outcome.Failed e) e refl ended.left.0 ended.good;
  }
