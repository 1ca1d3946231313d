-- The records of streams are read, one after the other.
use Rattle.std.specs.Prelude.{◌≡◌, ◌≢◌, ℕ, zero, suc, ◌+◌, ◌<◌, ◌≤◌, ◌==◌, true, false, List, [], ◌∷◌, ◌++◌, length, slice_get, Result, Ok, Err, IsErrAnd, refl, ◌⊎◌, if◌then◌else◌}
use Rattle.std.specs.declared.option.Option.{Option}
use Rattle.std.specs.declared.option.Option.TheVariants.{Some}
use Rattle.std.proofs.Common.{ap, sym, subst, ◌∙◌, arith, inl, inr, get_or, set, take, eq-eqb, ne_eqb}
use Rattle.std.proofs.lemmas.Bool.{cases_eq}
use Rattle.std.proofs.lemmas.List.{length-set, length-take, take_more}
use Rattle.std.proofs.lemmas.Option.{same_Some, slice_get_read, slice_get-get_or, slice_get_within}
use Rattle.cc_entry.specs.declared.error.CcError.{CcError}
use Rattle.cc_entry.specs.declared.error.CcError.TheVariants as error
use Rattle.cc_traits.specs.Disk.{Disk}
use Rattle.cc_script.specs.declared.script.StreamLine.{StreamLine}
use Rattle.cc_redo.specs.declared.redo.Redo.{Redo}
use Rattle.cc_redo.specs.Scanned.{IsRecordRefusal, disk_faults}
use Rattle.cc_redo.proofs.Disking.{get-set_other, get-set_same}
use Rattle.cc_restarts.specs.Given.{GivenOf, GivenTo, GivesRedo, is_restarted}
use Rattle.cc_restarts.specs.Restarting.{ReadingLeft, RecordsRead, no_rise, one_rise}
use Rattle.cc_restarts.proofs.Counts.{held}
use Rattle.cc_restarts.proofs.Giving.{given-more}

pub read-none : {D : Type 0} (told : D → Option Disk) (faults : D → ℕ) (handle : ℕ) (streams : List StreamLine) (disks : List D) → RecordsRead told faults handle streams no_rise disks disks
read-none told faults handle streams disks = record {
  count = refl;
  tells = λ s was now is now_is. ap told (same_Some now was (sym now_is ∙ is));
  counted = λ s was now is now_is. let same = ap faults (same_Some now was (sym now_is ∙ is)) in omega arith;
  others = λ s apart. refl;
}

-- the loop has come to a stream
pub record IsAt {D : Type 0} (told : D → Option Disk) (faults : D → ℕ) (handle : ℕ) (streams : List StreamLine) (n : ℕ) (old now : List D) (stream : StreamLine) : Type 0 where
  pub enough : length streams ≤ length old
  pub below : n < length streams
  pub stream_is : stream ≡ get_or streams n stream
  pub read : RecordsRead told faults handle streams no_rise old now

one-else : (n k : ℕ) → k ≢ n → one_rise n k ≡ 0
one-else n k apart = rw (ne_eqb k n apart) refl

one-there : (n : ℕ) → one_rise n n ≡ 1
one-there n = rw (eq-eqb n n refl) refl

module _ {D : Type 0} (told : D → Option Disk) (faults : D → ℕ) (handle : ℕ) (streams : List StreamLine) (n : ℕ) (old now : List D) (stream : StreamLine) (one next : D)
    (at_it : IsAt told faults handle streams n old now stream) (stays : told next ≡ told (get_or now n one)) (untouched : is_restarted handle stream ≡ false → next ≡ get_or now n one) where
  abbrev here : D
  here = get_or now n one

  named : slice_get streams n ≡ Some stream
  named = slice_get_read streams (length streams) n stream refl at_it.below at_it.stream_is

  inside : n < length now
  inside = let enough = at_it.enough in let below = at_it.below in let count = at_it.read.count in omega arith

  here_is : slice_get now n ≡ Some here
  here_is = slice_get-get_or now n one inside

  set-read : (rise : ℕ → ℕ) → faults next ≡ faults here + rise n → ((k : ℕ) → k ≢ n → rise k ≡ 0) → RecordsRead told faults handle streams rise old (set now n next)
  set-read rise rose none = record {
    count = length-set now n next ∙ at_it.read.count;
    tells = λ s was after is after_is. elim (cases_eq n s) [
      | inl same ↦
          let after_next : after ≡ next = same_Some after next (sym after_is ∙ sym (ap (λ (k : ℕ). slice_get (set now n next) k) same) ∙ get-set_same now n next inside) in
          let was_here : slice_get old n ≡ Some was = ap (λ (k : ℕ). slice_get old k) same ∙ is in
          ap told after_next ∙ stays ∙ at_it.read.tells n was here was_here here_is
      | inr apart ↦ at_it.read.tells s was after is (sym (get-set_other now n s next apart) ∙ after_is)
    ];
    counted = λ s was after is after_is. elim (cases_eq n s) [
      | inl same ↦
          let after_next : after ≡ next = same_Some after next (sym after_is ∙ sym (ap (λ (k : ℕ). slice_get (set now n next) k) same) ∙ get-set_same now n next inside) in
          let was_here : slice_get old n ≡ Some was = ap (λ (k : ℕ). slice_get old k) same ∙ is in
          let before : faults here ≡ faults was + no_rise n = at_it.read.counted n was here was_here here_is in
          let counts : faults after ≡ faults next = ap faults after_next in
          let place : rise n ≡ rise s = ap rise same in
          omega arith
      | inr apart ↦
          let before : faults after ≡ faults was + no_rise s = at_it.read.counted s was after is (sym (get-set_other now n s next apart) ∙ after_is) in
          let zero_here = none s (λ e. apart (sym e)) in
          omega arith
    ];
    others = λ s apart_it. elim (cases_eq n s) [
      | inl same ↦
          let quiet : is_restarted handle stream ≡ false = apart_it stream (sym (ap (λ (k : ℕ). slice_get streams k) same) ∙ named) in
          sym (ap (λ (k : ℕ). slice_get (set now n next) k) same) ∙ get-set_same now n next inside ∙ ap Some (untouched quiet) ∙ sym here_is ∙ ap (λ (k : ℕ). slice_get now k) same
          ∙ at_it.read.others s apart_it
      | inr apart ↦ get-set_other now n s next apart ∙ at_it.read.others s apart_it
    ];
  }

  pub goes-on : faults next ≡ faults (get_or now n one) + 0 → RecordsRead told faults handle streams no_rise old (set now n next)
  goes-on counted = set-read no_rise counted (λ k apart. refl)

  pub stops : (e : CcError) → IsRecordRefusal e → is_restarted handle stream ≡ true → faults next ≡ faults (get_or now n one) + disk_faults e → ReadingLeft told faults handle streams old (set now n next) e
  stops (error.ReadFault page) may restarted counted =
      let begun = held old n (let enough = at_it.enough in let below = at_it.below in omega arith) in (
        may,
        record {
          s = n;
          stream = stream;
          named = named;
          restarted = restarted;
          disk = begun.0;
          before = begun.1;
          read = set-read (one_rise n) (let there = one-there n in omega (arith, counted, there)) (one-else n);
        },
      )
  stops error.NoMemory may restarted counted = goes-on counted
  stops other may restarted counted = absurd may

  pub gives-more : (given more : List Redo) → GivenTo told old handle 0 (take n streams) given → GivesRedo (told (get_or now n one)) handle n stream given more → GivenTo told old handle 0 (take (n + 1) streams) more
  gives-more given more before gives =
      let begun = held old n (let enough = at_it.enough in let below = at_it.below in omega arith) in
      let tells : told here ≡ told begun.0 = at_it.read.tells n begun.0 here begun.1 here_is in
      let of_it : GivenOf (told begun.0) n stream (is_restarted handle stream) gives.one = subst (λ (d : Option Disk). GivenOf d n stream (is_restarted handle stream) gives.one) tells gives.given in
      let long : n ≡ 0 + length (take n streams) = let below = at_it.below in omega (arith, length-take n streams, below) in
      let all = given-more told old handle 0 n (take n streams) stream given gives.one begun.0 long before begun.1 of_it in
      let front : take n streams ++ stream ∷ [] ≡ take (n + 1) streams = ap (λ (l : StreamLine). take n streams ++ l ∷ []) at_it.stream_is ∙ sym (take_more streams n stream at_it.below) in
      subst (λ (l : List Redo). GivenTo told old handle 0 (take (n + 1) streams) l) (sym gives.is)
      (subst (λ (l : List StreamLine). GivenTo told old handle 0 l (given ++ gives.one)) front all)
