-- A pass took the turns of a stream's disk and of its book: what is in hand then, and what the call leaves at its end.
use Rattle.std.specs.Prelude.{◌≡◌, ℕ, Result, List, refl}
use Rattle.std.specs.declared.option.Option.{Option}
use Rattle.std.specs.declared.option.Option.TheVariants.{Some, None}
use Rattle.std.proofs.Common.{sym, ap, ◌∙◌, subst}
use Rattle.cc_entry.specs.declared.call.Call.{Call}
use Rattle.cc_entry.specs.declared.error.CcError.{CcError}
use Rattle.cc_entry.specs.declared.entry.Entry.{Entry}
use Rattle.cc_traits.specs.Disk.{Disk}
use Rattle.cc_book.specs.Book.{BookState, BookStands}
use Rattle.cc_effects.specs.Calls.{IsUnderWay}
use Rattle.cc_effects.specs.Moments.{IsIdle, Others}
use Rattle.cc_effects.proofs.Stretches.{idle-then}
use Rattle.cc_model.specs.History.{history}
use Rattle.cc_model.specs.Images.{open_of}
use Rattle.cc_model.specs.Setup.{Setup}
use Rattle.cc_turns.specs.Disk.{DiskStands, opening_of}
use Rattle.cc_turns.specs.Standing.{Standing, TurnsHeld, nothing}
use Rattle.cc_turns.specs.Takes.{Takes, with_device, with_book, without_device, without_book}
use Rattle.cc_turns.proofs.Taking.{disk_kept, transfer_kept}
use Rattle.cc_writes.specs.Ways.{EndedSo}
use Rattle.cc_writes.specs.declared.tell.Returned.{Returned}
use Rattle.cc_writes.proofs.Others.{under_way-on}
use Rattle.cc_writes.specs.Writes.{HasBoth}
use Rattle.cc_writes.specs.Fetch.{CanCall}

module _ (w v x : Standing) (s : ℕ) (can : CanCall w s) (first : Takes (with_device s) w v) (second : Takes (with_book s) v x) where
  device_held : v.held ≡ record nothing { device = Some s }
  device_held = ap (λ (y : Standing). y.held) first.same ∙ ap (λ (h : TurnsHeld). record h { device = Some s }) can.free

  both_held : x.held ≡ record nothing { device = Some s; book = Some s }
  both_held = ap (λ (y : Standing). y.held) second.same ∙ ap (λ (h : TurnsHeld). record h { book = Some s }) device_held

  number_first : v.number ≡ w.number
  number_first = ap (λ (y : Standing). y.number) first.same

  pub number_both : x.number ≡ w.number
  number_both = ap (λ (y : Standing). y.number) second.same ∙ number_first

  pub setup_both : x.setup ≡ w.setup
  setup_both = ap (λ (y : Standing). y.setup) second.same ∙ ap (λ (y : Standing). y.setup) first.same

  -- the pass placed nothing
  pub idle : IsIdle w.number w.seen x.seen
  idle = idle-then w.number w.seen v.seen x.seen
      (record { during = first.grows.later; grew = first.grows.grew; others = first.grows.others })
      (record { during = second.grows.later; grew = second.grows.grew; others = subst (λ (n : ℕ). Others n second.grows.later) number_first second.grows.others })

  module _ {D : Type 0} (told : D → Option Disk) (faults : D → ℕ) (b : BookState) (disk : D) (opening : v.setup.opening s ≡ opening_of (v.disks s).told)
      (stands : DiskStands told faults (v.disks s) v.seen s disk) (at_rest : open_of (history v.seen s) ≡ None)
      (b_is : b.stream ≡ s) (b_stands : BookStands (x.setup.opening s) x.seen b) where
    in_hand : HasBoth told faults x s b disk
    in_hand = record {
      book = record {
        held = both_held ∙ ap (λ (o : Option ℕ). record nothing { device = o; book = Some s }) (sym (ap (λ (h : TurnsHeld). h.device) both_held));
        stream = b_is;
        stands = b_stands;
        good = second.good;
      };
      rest = record {
        device = ap (λ (h : TurnsHeld). h.device) both_held;
        no_transfer = transfer_kept (with_book s) v x s second (ap (λ (h : TurnsHeld). h.device) device_held) ∙ at_rest;
      };
      disk = disk_kept told faults (with_book s) v x s disk second refl (ap (λ (h : TurnsHeld). h.device) device_held) stands;
      opening = ap (λ (y : Standing). y.setup.opening s) second.same ∙ (opening ∙ ap (λ (y : Standing). opening_of (y.disks s).told) (sym second.same));
    }

    -- both are in hand
    pub both_begun : HasBoth told faults x b.stream b disk
    both_begun = subst (λ (n : ℕ). HasBoth told faults x n b disk) (sym b_is) in_hand

  -- what a call leaves from then on, it leaves from before the takes, with both given back
  pub left_since : (Left : Setup → ℕ → List Entry → List Entry → Type 0) (y z : Standing) (it : Call) → z ≡ without_device (without_book y) → ((begun : List Entry) → IsUnderWay x.number it begun x.seen → Left x.setup x.number begun y.seen) → (begun : List Entry) → IsUnderWay w.number it begun w.seen → Left w.setup w.number begun z.seen
  left_since Left y z it given left begun way =
      let here : IsUnderWay x.number it begun x.seen =
      subst (λ (n : ℕ). IsUnderWay n it begun x.seen) (sym number_both) (under_way-on w.number it begun w.seen x.seen way idle) in
      subst (λ (past : List Entry). Left w.setup w.number begun past) (sym (ap (λ (a : Standing). a.seen) given))
      (subst (λ (n : ℕ). Left w.setup n begun y.seen) number_both
      (subst (λ (u : Setup). Left u x.number begun y.seen) setup_both (left begun here)))

  -- so of how a call ended
  pub ended_since : (y z : Standing) (it : Call) (r : Result Returned CcError) (was now : List ℕ) → z ≡ without_device (without_book y) → ((begun : List Entry) → IsUnderWay x.number it begun x.seen → EndedSo x.setup x.number it r begun y.seen was now) → (begun : List Entry) → IsUnderWay w.number it begun w.seen → EndedSo w.setup w.number it r begun z.seen was now
  ended_since y z it r was now = left_since (λ u me begun past. EndedSo u me it r begun past was now) y z it
