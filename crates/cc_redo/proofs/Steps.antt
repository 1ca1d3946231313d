-- The loops over streams: what a step on the disk of the next stream leaves.
use Rattle.std.specs.Prelude.{◌≡◌, ℕ, ◌+◌, ◌<◌, List, length, slice_get, All, Result, Ok, Err, IsErrAnd, refl}
use Rattle.std.specs.declared.option.Option.TheVariants.{Some}
use Rattle.std.proofs.Common.{ap, sym, subst, arith, get_or, set}
use Rattle.std.proofs.lemmas.List.{length-set}
use Rattle.std.proofs.lemmas.List.Elements.{All-get_or}
use Rattle.std.proofs.lemmas.Option.{slice_get_read, slice_get-get_or}
use Rattle.cc_entry.specs.declared.error.CcError.{CcError}
use Rattle.cc_entry.specs.declared.error.CcError.TheVariants as error
use Rattle.cc_redo.specs.declared.redo.Redo.{Redo}
use Rattle.cc_redo.specs.Ends.{DisksDiffer, EachDisk}
use Rattle.cc_redo.specs.Scanned.{disk_faults}
use Rattle.cc_redo.specs.Stages.{StageIsReached, IsStageRefusal}
use Rattle.cc_redo.proofs.Disking.{Changed, failed-at, get-set_other, get-set_same, reached-some, reached-step}

-- what is handed on by a `?` is an error
pub handed-on : {A : Type 0} (P : Result A CcError → Type 0) (answer : Result A CcError) (e : CcError) → IsErrAnd answer (λ x. x ≡ e) → P (Err e) → P answer
handed-on P (Ok done) e is p = absurd is
handed-on P (Err x) e is p = subst (λ x. P (Err x)) (sym is) p

-- a fault of a disk of which this holds, or want of memory
abbrev pub IsFault : (CcError → Type 0) → CcError → Type 0
IsFault P (error.ReadFault page) = P (error.ReadFault page)
IsFault P (error.WriteFault page) = P (error.WriteFault page)
IsFault P error.NoMemory = Unit {0}
IsFault P other = ⊥

-- the loop has come to a stream, and the disk of that stream was changed
pub record IsAt {D : Type 0} (streams : List Redo) (n : ℕ) (P : Redo → D → D → Type 0) (old now : List D) (redo : Redo) : Type 0 where
  pub differ : DisksDiffer streams
  pub disks : All (λ r. r.disk < length old) streams
  pub below : n < length streams
  pub redo_is : redo ≡ get_or streams n redo
  pub reached : StageIsReached streams n P old now

module _ {D : Type 0} (streams : List Redo) (n : ℕ) (P : Redo → D → D → Type 0) (old now : List D) (redo : Redo) (one next : D) (at_it : IsAt streams n P old now redo) where
  abbrev here : D
  here = get_or now redo.disk one

  given : slice_get streams n ≡ Some redo
  given = slice_get_read streams (length streams) n redo refl at_it.below at_it.redo_is

  inside : redo.disk < length now
  inside =
      let of_it : (get_or streams n redo).disk < length old = All-get_or (λ r. r.disk < length old) streams n redo at_it.below at_it.disks in
      let same : redo.disk ≡ (get_or streams n redo).disk = ap (λ (r : Redo). r.disk) at_it.redo_is in
      let long = at_it.reached.count in
      omega arith

  changed : Changed redo.disk here next now (set now redo.disk next)
  changed = record {
    was = slice_get-get_or now redo.disk one inside;
    is = get-set_same now redo.disk next inside;
    others = λ other apart. get-set_other now redo.disk other next apart;
    count = length-set now redo.disk next;
  }

  pub goes-on : P redo (get_or now redo.disk one) next → StageIsReached streams (n + 1) P old (set now redo.disk next)
  goes-on holds = reached-step streams n P old now (set now redo.disk next) redo here next at_it.differ given at_it.reached changed holds

  pub stops : (Q : Redo → D → D → Type 0) → ((r : Redo) (was is : D) → P r was is → Q r was is) → ((r : Redo) (d : D) → Q r d d) → Q redo (get_or now redo.disk one) next →
      EachDisk streams Q old (set now redo.disk next)
  stops Q weaker itself holds =
      let weak : StageIsReached streams n Q old now = record {
        behind = λ i r was is less of old_is now_is. weaker r was is (at_it.reached.behind i r was is less of old_is now_is);
        ahead = at_it.reached.ahead;
        others = at_it.reached.others;
        count = at_it.reached.count;
      } in
      reached-some streams (n + 1) Q Q old (set now redo.disk next) (λ r was is q. q) itself
      (reached-step streams n Q old now (set now redo.disk next) redo here next at_it.differ given weak changed holds)

  pub refuses : (faults : D → ℕ) (Q : CcError → Redo → D → D → Type 0) (e : CcError) → IsFault (λ x. Q x redo (get_or now redo.disk one) next) e →
      faults next ≡ faults (get_or now redo.disk one) + disk_faults e → IsStageRefusal faults Q streams old (set now redo.disk next) e
  refuses faults Q (error.ReadFault page) of_it count =
      failed-at faults (Q (error.ReadFault page)) streams n P old now (set now redo.disk next) redo here next given at_it.reached changed count of_it
  refuses faults Q (error.WriteFault page) of_it count =
      failed-at faults (Q (error.WriteFault page)) streams n P old now (set now redo.disk next) redo here next given at_it.reached changed count of_it
  refuses faults Q error.NoMemory of_it count = tt
  refuses faults Q other of_it count = absurd of_it
