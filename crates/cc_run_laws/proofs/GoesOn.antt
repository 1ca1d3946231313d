-- A run whose restart was answered as done goes on with the log from the last LSN that was read.
use Rattle.std.specs.Prelude.{◌≡◌, ℕ, zero, suc, ◌+◌, ◌^◌, ◌≤◌, ◌&&◌, Bool, true, false, nat_le, max, List, [], ◌∷◌, ◌++◌, slice_get, Result, Ok, Err, refl, if◌then◌else◌}
use Rattle.std.specs.List.{AllByRecursion}
use Rattle.std.specs.declared.option.Option.{Option}
use Rattle.std.specs.declared.option.Option.TheVariants.{Some, None}
use Rattle.std.proofs.Common.{ap, append-nil, append_assoc, sym, subst, ◌∙◌, arith}
use Rattle.std.proofs.lemmas.Bool.{le-leb}
use Rattle.std.proofs.lemmas.Option.{same_Some}
use Rattle.cc_entry.specs.declared.answer.Answer.{Answer}
use Rattle.cc_entry.specs.declared.answer.Answer.TheVariants as answer
use Rattle.cc_entry.specs.declared.answer.LineReply.{LineReply}
use Rattle.cc_entry.specs.declared.entry.Entry.{Entry}
use Rattle.cc_entry.specs.declared.error.CcError.{CcError}
use Rattle.cc_effects.specs.Moments.{EachOwn, Others}
use Rattle.cc_model.specs.Setup.{Setup}
use Rattle.cc_pieces.specs.Explained.{Answered}
use Rattle.cc_redo.specs.Heard.{last_behind, last_lsn_of, lsn_read, reading, readings}
use Rattle.cc_restarts.specs.Restarting.{lsn_of}
use Rattle.cc_restarts.specs.declared.ended.LogRestart.{LogRestart}
use Rattle.cc_restarts.specs.declared.ended.Numbers.{Numbers}
use Rattle.cc_program.specs.Restarting.{RestartsTold, TellsEnd, last_number}
use Rattle.cc_traits.specs.Log.{LogEntry}
use Rattle.cc_update_laws.specs.Devices.{GoesOnFrom}
use Rattle.cc_run_laws.proofs.Quiet.{IsEndOf, IsFlush, IsReached, end-of, ends-walked, is_append, no-appends, nothing-appended, reached-last}

-- ---- lists

all-back : {A : Type 0} (P : A → Type 0) (xs ys : List A) → AllByRecursion P (xs ++ ys) → AllByRecursion P ys
all-back P [] ys all = all
all-back P (x ∷ xs) ys all = all-back P xs ys all.1

get-front : {A : Type 0} (xs ys : List A) (n : ℕ) (x : A) → slice_get xs n ≡ Some x → slice_get (xs ++ ys) n ≡ Some x
get-front [] ys n x at = absurd (cc at)
get-front (y ∷ xs) ys zero x at = at
get-front (y ∷ xs) ys (suc n) x at = get-front xs ys n x at

-- ---- the flush behind the restart

module _ (u : Setup) (log : ℕ) (updates : ℕ) (before after : List Entry) where
  -- what it reached, where the restart was done
  pub record IsFlushed (ended : Result Numbers CcError) : Type 0 where
    pub numbers : Numbers
    pub is : ended ≡ Ok numbers
    pub reached : IsReached u log (last_number numbers.last) after

  pub flushed-by : (ended : Result Numbers CcError) (told : Answer) → told ≡ answer.Restarted updates → TellsEnd u log ended told before after → IsFlushed ended
  flushed-by ended told is left = go ended (subst (λ (a : Answer). TellsEnd u log ended a before after) is left)
    where
      go : (ended : Result Numbers CcError) → TellsEnd u log ended (answer.Restarted updates) before after → IsFlushed ended
      go (Err e) left = let other = left.0 in absurd (cc other)
      go (Ok numbers) left = record { numbers = numbers; is = refl; reached = reached-last u log (last_number numbers.last) before after left.1 }

-- ---- the greatest LSN of a log, as it is told

lsn-small : (x : LogEntry) → lsn_read (reading x) ≤ 2 ^ 62
lsn-small x = go (nat_le x.lsn (2 ^ 62)) refl
  where
    go : (b : Bool) → nat_le x.lsn (2 ^ 62) ≡ b → (if b then x.lsn else 0) ≤ 2 ^ 62
    go true is = grind arith
    go false is = omega arith

last-small : (n : ℕ) (kept : List LogEntry) → n ≤ 2 ^ 62 → last_behind n (readings kept) ≤ 2 ^ 62
last-small n [] fits = fits
last-small n (x ∷ kept) fits = last-small (max n (lsn_read (reading x))) kept (most n (lsn_read (reading x)) fits (lsn-small x))
  where
    most : (a b : ℕ) → a ≤ 2 ^ 62 → b ≤ 2 ^ 62 → max a b ≤ 2 ^ 62
    most a b first second = omega arith

number-told : (m : ℕ) → m ≤ 2 ^ 62 → last_number (lsn_of m) ≡ m
number-told zero fits = refl
number-told (suc k) fits = pick (nat_le 1 (suc k)) (nat_le (suc k) (2 ^ 62)) (le-leb 1 (suc k) (omega arith)) (le-leb (suc k) (2 ^ 62) fits)
  where
    pick : (b c : Bool) → b ≡ true → c ≡ true → last_number (if b && c then Some (suc k) else None) ≡ suc k
    pick true true one other = refl
    pick true false one other = absurd (cc other)
    pick false c one other = absurd (cc one)

pub number-last : (kept : List LogEntry) (last : Option ℕ) → last ≡ lsn_of (last_lsn_of (readings kept)) → last_number last ≡ last_lsn_of (readings kept)
number-last kept last is = ap last_number is ∙ number-told (last_lsn_of (readings kept)) (last-small 0 kept (omega arith))

-- ---- the run

module _ (u : Setup) (ended : List LogRestart) (told : Answered) (past : List Entry) (ends : RestartsTold u ended told.replies past) (n : ℕ) (one : LogRestart) (log : ℕ) (restart : LineReply) (updates : ℕ)
    (at : slice_get ended n ≡ Some one) (its_log : one.handle ≡ log) (restart_at : slice_get told.replies n ≡ Some restart) (restarted : restart.answer ≡ answer.Restarted updates) where
  its-end : IsEndOf u one n ends.first ends.begun
  its-end = end-of u ended ends.first [] ends.begun ends.ended_are n one at

  replied : its-end.reply ≡ restart
  replied =
      same_Some its-end.reply restart
      (sym (get-front ends.first ends.others n its-end.reply its-end.at) ∙ (sym (ap (λ (l : List LineReply). slice_get l n) ends.replies_are) ∙ restart_at))

  flushed : IsFlushed u log updates its-end.before its-end.after one.ended
  flushed =
      flushed-by u log updates its-end.before its-end.after one.ended its-end.reply.answer (ap (λ (r : LineReply). r.answer) replied ∙ restarted)
      (subst (λ (h : ℕ). TellsEnd u h one.ended its-end.reply.answer its-end.before its-end.after) its_log its-end.told)

  -- the restart of a line that was answered as done was done
  pub answered-done : (numbers : Numbers) × (one.ended ≡ Ok numbers)
  answered-done = (flushed.numbers, flushed.is)

  -- nothing was appended while the restarts were ended
  walked : EachOwn 0 IsFlush ends.begun []
  walked =
      let all = ends-walked u ended ends.first [] ends.begun ends.ended_are in
      subst (λ (l : List Entry). EachOwn 0 IsFlush l []) (sym (all.grew ∙ append-nil all.during)) all.each

  none : AllByRecursion (λ (e : Entry). is_append e ≡ false) ends.begun
  none =
      no-appends ends.begun []
      (λ me other. subst (Others me) (sym ((ends.alone me other).grew ∙ append-nil (ends.alone me other).during)) (ends.alone me other).others) walked

  behind : ends.begun ≡ (its-end.later ++ flushed.reached.later) ++ flushed.reached.front
  behind = its-end.grew ∙ (ap (λ (l : List Entry). its-end.later ++ l) flushed.reached.splits ∙ sym (append_assoc its-end.later flushed.reached.later flushed.reached.front))

  goes : GoesOnFrom log (last_number flushed.numbers.last) past
  goes = record {
    later = ends.later ++ (its-end.later ++ flushed.reached.later);
    front = flushed.reached.front;
    splits = ends.grew ∙ (ap (λ (l : List Entry). ends.later ++ l) behind ∙ sym (append_assoc ends.later (its-end.later ++ flushed.reached.later) flushed.reached.front));
    none = nothing-appended log flushed.reached.front
        (all-back (λ (e : Entry). is_append e ≡ false) (its-end.later ++ flushed.reached.later) flushed.reached.front (subst (AllByRecursion (λ (e : Entry). is_append e ≡ false)) behind none));
    reached = flushed.reached.reached;
  }

  -- and the run goes on from the last LSN that it told
  pub goes-on : (numbers : Numbers) × (one.ended ≡ Ok numbers) × GoesOnFrom log (last_number numbers.last) past
  goes-on = (flushed.numbers, flushed.is, goes)
