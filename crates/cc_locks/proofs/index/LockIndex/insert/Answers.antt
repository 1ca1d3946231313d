-- The lock comes to both, or to neither.
use Rattle.std.proofs.Common.{◌≡◌, ℕ, ◌<◌, ◌++◌, [], ◌∷◌, List, cond, None, Some, true, All, length, set, sym, ◌∙◌, ap, subst, arith}
use Rattle.std.proofs.lemmas.List.{map-append}
use Rattle.std.specs.Map.{values_of}
use Rattle.std.specs.BTreeMap.{is_at}
use Rattle.cc_entry.specs.declared.lock.Lock.{Lock}
use Rattle.cc_locks.specs.Place.{LockPlace, place_of, place_cmp, class_of, lock_at, LocksAreIndexed}
use Rattle.cc_locks.proofs.Ids.{insert-last}
use Rattle.cc_locks.proofs.Indexed.{IsIndexed-added, IsIndexed-back, IsIndexed-noted}
use Rattle.cc_locks.proofs.index.LockIndex.insert.Goals as goal

pub invariant_of-self : goal.invariant_of-self
invariant_of-self c =
    let i = c.self.inside in
    subst (λ (es : List (LockPlace × Lock)). LocksAreIndexed i.ids.entries es (set i.used c.class_of.result true)) (sym c.in_err-insert.ensures.err)
    (IsIndexed-noted i.ids.entries i.places.entries i.used c.args.lock c.self.invariant c.class_of.result)

pub invariant_of-self-in-Ok : goal.invariant_of-self-in-Ok
invariant_of-self-in-Ok c =
    let i = c.self.inside in
    let lock = c.args.lock in
    let above : All (λ (l : Lock). l.id < lock.id) (values_of i.ids.entries) = subst (All (λ (l : Lock). l.id < lock.id)) (sym c.self.view_is) c.requires in
    let within : class_of lock.span < length i.used = omega (arith, c.class_of.ensures.within, c.class_of.ensures.class) in
    let put : (p : LockPlace) → lock_at c.insert.new.self.entries p ≡ cond (is_at (place_cmp (place_of lock)) p) (Some lock) (lock_at i.places.entries p) =
    λ p. c.in_ok-insert.ensures.updates.0 p ∙ ap (λ (k : LockPlace). cond (is_at (place_cmp k) p) (Some lock) (lock_at i.places.entries p)) c.place_of-place.ensures in
    subst (λ k. LocksAreIndexed c.insert-2.new.self.entries c.insert.new.self.entries (set i.used k true)) (sym c.class_of.ensures.class)
    (IsIndexed-added i.ids.entries i.places.entries i.used lock c.self.invariant above within c.insert.new.self.entries put c.insert-2.new.self.entries c.in-Ok.ensures.entries
    c.in-Ok.ensures.updates.0 c.in-Ok.ensures.ordered c.in_ok-insert.ensures.ordered c.class_of.ensures.fits)

pub invariant_of-self-in-Err : goal.invariant_of-self-in-Err
invariant_of-self-in-Err c =
    let i = c.self.inside in
    let lock = c.args.lock in
    let above : All (λ (l : Lock). l.id < lock.id) (values_of i.ids.entries) = subst (All (λ (l : Lock). l.id < lock.id)) (sym c.self.view_is) c.requires in
    let within : class_of lock.span < length i.used = omega (arith, c.class_of.ensures.within, c.class_of.ensures.class) in
    let put : (p : LockPlace) → lock_at c.insert.new.self.entries p ≡ cond (is_at (place_cmp (place_of lock)) p) (Some lock) (lock_at i.places.entries p) =
    λ p. c.in_ok-insert.ensures.updates.0 p ∙ ap (λ (k : LockPlace). cond (is_at (place_cmp k) p) (Some lock) (lock_at i.places.entries p)) c.place_of-place.ensures in
    let back : (p : LockPlace) → lock_at c.remove.new.self.entries p ≡ cond (is_at (place_cmp (place_of lock)) p) None (lock_at c.insert.new.self.entries p) =
    λ p. c.remove.ensures.updates.0 p ∙ ap (λ (k : LockPlace). cond (is_at (place_cmp k) p) None (lock_at c.insert.new.self.entries p)) c.place_of-place.ensures in
    subst (λ (es : List (ℕ × Lock)). LocksAreIndexed es c.remove.new.self.entries (set i.used c.class_of.result true)) (sym c.in-Err.ensures.err)
    (subst (λ k. LocksAreIndexed i.ids.entries c.remove.new.self.entries (set i.used k true)) (sym c.class_of.ensures.class)
    (IsIndexed-back i.ids.entries i.places.entries i.used lock c.self.invariant above within c.insert.new.self.entries put c.remove.new.self.entries back c.remove.ensures.ordered))

pub returns-in-Ok-clause-ok : goal.returns-in-Ok-clause-ok
returns-in-Ok-clause-ok c =
    let i = c.self.inside in
    let lock = c.args.lock in
    let above : All (λ (l : Lock). l.id < lock.id) (values_of i.ids.entries) = subst (All (λ (l : Lock). l.id < lock.id)) (sym c.self.view_is) c.requires in
    ap (λ (es : List (ℕ × Lock)). values_of es) (c.in-Ok.ensures.entries ∙ insert-last i.ids.entries lock c.self.invariant.keyed above)
    ∙ (map-append (λ (e : ℕ × Lock). e.1) i.ids.entries ((lock.id, lock) ∷ []) ∙ ap (λ (ls : List Lock). ls ++ lock ∷ []) c.self.view_is)
