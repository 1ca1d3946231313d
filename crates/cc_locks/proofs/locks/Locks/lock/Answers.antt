-- Refused by what the index found, or granted where it found none.
use Rattle.std.proofs.Common.{◌≡◌, ℕ, ◌+◌, List, [], ◌∷◌, ◌++◌, Option, None, Some, Ok, Err, Result, OnOk, Bool, true, false, refl, sym, ◌∙◌, ap, subst, arith}
use Rattle.std.specs.Result.{is_err}
use Rattle.cc_entry.specs.Locks.{lock_conflict}
use Rattle.cc_entry.specs.declared.lock.Lock.{Lock}
use Rattle.cc_entry.specs.declared.lock.LockCall.{LockCall}
use Rattle.cc_entry.specs.declared.lock.LockCall.TheVariants as call
use Rattle.cc_locks.specs.Locks.{held_locks, IsReplayed}
use Rattle.cc_locks.proofs.Replay.{IsReplayed-granted, IsReplayed-refused}
use Rattle.cc_locks.proofs.locks.Locks.lock.Goals as goal

none-is : (o : Option ℕ) → ((n : ℕ) → o ≡ Some n → ⊥) → o ≡ None
none-is None other = refl
none-is (Some n) other = absurd (other n refl)

ok-of : {T E : Type 0} (r : Result T E) (P : Type 0) → is_err r ≡ false → OnOk r P → P
ok-of (Ok x) P e h = h
ok-of (Err y) P e h = absurd (cc)

pub invariant_of-self : goal.invariant_of-self
invariant_of-self c =
    let i = c.self.inside in
    let conflict : lock_conflict i.index c.args.span c.args.exclusive ≡ Some c.in-Some.id = sym c.least.ensures ∙ c.in-Some.is in
    let noted : c.grow.new.self.noted ≡ call.Lock c.args.file c.args.span c.args.exclusive false c.in-Some.id ∷ i.past.noted =
    c.grow.ensures ∙ ap (λ (k : LockCall). k ∷ i.past.noted) c.lock_call.ensures in
    subst (λ (p : List LockCall). IsReplayed (held_locks i.stream i.granted i.index p)) (sym noted)
    (IsReplayed-refused (held_locks i.stream i.granted i.index i.past.noted) c.args.file c.args.span c.args.exclusive c.in-Some.id c.self.invariant conflict)

pub invariant_of-self-2 : goal.invariant_of-self-2
invariant_of-self-2 c =
    let i = c.self.inside in
    let id = c.in-Some-checked_add.id in
    let lock : ℕ → Lock = λ k. record { id = k; file = c.args.file; span = c.args.span; exclusive = c.args.exclusive } in
    let call_of : ℕ → LockCall = λ k. call.Lock c.args.file c.args.span c.args.exclusive true k in
    let free : lock_conflict i.index c.args.span c.args.exclusive ≡ None = sym c.least.ensures ∙ none-is c.least.result c.in_default.not-Some in
    let next : id ≡ i.granted + 1 = grind arith in
    let added : c.insert.new.self ≡ i.index ++ lock id ∷ [] =
    ok-of c.insert.result (c.insert.new.self ≡ i.index ++ lock id ∷ []) (sym c.is_err.ensures.value ∙ c.if-is_err.false) c.insert.ensures.ok in
    let noted : c.grow-2.new.self.noted ≡ call_of id ∷ i.past.noted = c.grow-2.ensures ∙ ap (λ (k : LockCall). k ∷ i.past.noted) c.lock_call-2.ensures in
    subst (λ (p : List LockCall). IsReplayed (held_locks i.stream id c.insert.new.self p)) (sym noted)
    (subst (λ (ls : List Lock). IsReplayed (held_locks i.stream id ls (call_of id ∷ i.past.noted))) (sym added)
    (subst (λ k. IsReplayed (held_locks i.stream k (i.index ++ lock k ∷ []) (call_of k ∷ i.past.noted))) (sym next)
    (IsReplayed-granted (held_locks i.stream i.granted i.index i.past.noted) c.args.file c.args.span c.args.exclusive c.self.invariant free)))
