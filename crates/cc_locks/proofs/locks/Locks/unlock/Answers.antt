-- The call is noted with the answer that the index gave.
use Rattle.std.proofs.Common.{◌≡◌, List, ◌∷◌, sym, ◌∙◌, ap, subst}
use Rattle.std.specs.List.{list_any}
use Rattle.cc_entry.specs.Locks.{is_named}
use Rattle.cc_entry.specs.declared.lock.Lock.{Lock}
use Rattle.cc_entry.specs.declared.lock.LockCall.{LockCall}
use Rattle.cc_entry.specs.declared.lock.LockCall.TheVariants as call
use Rattle.cc_locks.specs.Locks.{held_locks, IsReplayed}
use Rattle.cc_locks.proofs.Replay.{IsReplayed-unlocked}
use Rattle.cc_locks.proofs.locks.Locks.unlock.Goals as goal

pub invariant_of-self : goal.invariant_of-self
invariant_of-self c =
    let i = c.self.inside in
    let noted : c.grow.new.self.noted ≡ call.Unlock c.args.file c.args.id (list_any (is_named c.args.file c.args.id) i.index) ∷ i.past.noted =
    c.grow.ensures ∙ ap (λ b. call.Unlock c.args.file c.args.id b ∷ i.past.noted) c.remove-gone.ensures.owned in
    subst (λ (p : List LockCall). IsReplayed (held_locks i.stream i.granted c.remove-gone.new.self p)) (sym noted)
    (subst (λ (ls : List Lock). IsReplayed (held_locks i.stream i.granted ls (call.Unlock c.args.file c.args.id (list_any (is_named c.args.file c.args.id) i.index) ∷ i.past.noted)))
    (sym c.remove-gone.ensures.rest) (IsReplayed-unlocked (held_locks i.stream i.granted i.index i.past.noted) c.args.file c.args.id c.self.invariant))
