-- By what stands at the id: nothing, the lock of another file object, or the one that goes.
use Rattle.std.proofs.Common.{◌≡◌, ℕ, List, Option, None, Some, Bool, true, false, cond, not, refl, sym, ◌∙◌, ap, subst, arith}
use Rattle.std.specs.List.{list_any, filter}
use Rattle.std.specs.Map.{values_of}
use Rattle.cc_entry.specs.Locks.{is_of, is_named}
use Rattle.cc_entry.specs.declared.lock.Lock.{Lock}
use Rattle.cc_locks.specs.Place.{LockPlace, lock_of, lock_at, place_of, place_cmp}
use Rattle.std.specs.BTreeMap.{is_at}
use Rattle.cc_locks.proofs.Members.{filter-none}
use Rattle.cc_locks.proofs.Ids.{none-named, named-is, values-remove}
use Rattle.cc_locks.proofs.Indexed.{IsIndexed-removed_id}
use Rattle.cc_locks.proofs.index.LockIndex.remove.Goals as goal

none-is : (o : Option Lock) → ((l : Lock) → o ≡ Some l → ⊥) → o ≡ None
none-is None other = refl
none-is (Some l) other = absurd (other l refl)

pub returns-in_default-clause-owned : goal.returns-in_default-clause-owned
returns-in_default-clause-owned c =
    let i = c.self.inside in
    let none : lock_of i.ids.entries c.args.id ≡ None = sym (c.copied.ensures ∙ c.get.ensures.value) ∙ none-is c.copied.result c.in_default.not-Some in
    sym (subst (λ (ls : List Lock). list_any (is_named c.args.file c.args.id) ls ≡ false) c.self.view_is (none-named c.args.file c.args.id i.ids.entries c.self.invariant.keyed none))

pub returns-in_default-clause-rest : goal.returns-in_default-clause-rest
returns-in_default-clause-rest c =
    let i = c.self.inside in
    let none : lock_of i.ids.entries c.args.id ≡ None = sym (c.copied.ensures ∙ c.get.ensures.value) ∙ none-is c.copied.result c.in_default.not-Some in
    sym (filter-none (is_named c.args.file c.args.id) (λ (l : Lock). not (is_named c.args.file c.args.id l)) (λ l fails. ap not fails) c.args.self.now
    (subst (λ (ls : List Lock). list_any (is_named c.args.file c.args.id) ls ≡ false) c.self.view_is (none-named c.args.file c.args.id i.ids.entries c.self.invariant.keyed none)))

pub returns-then-not-is_of-clause-owned : goal.returns-then-not-is_of-clause-owned
returns-then-not-is_of-clause-owned c =
    let i = c.self.inside in
    let there : lock_of i.ids.entries c.args.id ≡ Some c.in-Some.lock = sym (c.copied.ensures ∙ c.get.ensures.value) ∙ c.in-Some.is in
    let other : c.is_of.result ≡ false = grind arith in
    sym (subst (λ (ls : List Lock). list_any (is_named c.args.file c.args.id) ls ≡ false) c.self.view_is
    (named-is c.args.file c.args.id i.ids.entries c.in-Some.lock c.self.invariant.ids_ascend c.self.invariant.keyed there ∙ (sym c.is_of.ensures ∙ other)))

pub returns-then-not-is_of-clause-rest : goal.returns-then-not-is_of-clause-rest
returns-then-not-is_of-clause-rest c =
    let i = c.self.inside in
    let there : lock_of i.ids.entries c.args.id ≡ Some c.in-Some.lock = sym (c.copied.ensures ∙ c.get.ensures.value) ∙ c.in-Some.is in
    let other : c.is_of.result ≡ false = grind arith in
    sym (filter-none (is_named c.args.file c.args.id) (λ (l : Lock). not (is_named c.args.file c.args.id l)) (λ l fails. ap not fails) c.args.self.now
    (subst (λ (ls : List Lock). list_any (is_named c.args.file c.args.id) ls ≡ false) c.self.view_is
    (named-is c.args.file c.args.id i.ids.entries c.in-Some.lock c.self.invariant.ids_ascend c.self.invariant.keyed there ∙ (sym c.is_of.ensures ∙ other))))

pub invariant_of-self : goal.invariant_of-self
invariant_of-self c =
    let i = c.self.inside in
    let there : lock_of i.ids.entries c.args.id ≡ Some c.in-Some.lock = sym (c.copied.ensures ∙ c.get.ensures.value) ∙ c.in-Some.is in
    IsIndexed-removed_id i.ids.entries i.places.entries i.used c.in-Some.lock c.self.invariant c.args.id c.remove.new.self.entries c.remove-2.new.self.entries there
    c.remove.ensures.entries c.remove.ensures.updates.0
    (λ p. c.remove-2.ensures.updates.0 p ∙ ap (λ (k : LockPlace). cond (is_at (place_cmp k) p) None (lock_at i.places.entries p)) c.place_of.ensures)
    c.remove.ensures.ordered c.remove-2.ensures.ordered

pub returns-clause-owned : goal.returns-clause-owned
returns-clause-owned c =
    let i = c.self.inside in
    let there : lock_of i.ids.entries c.args.id ≡ Some c.in-Some.lock = sym (c.copied.ensures ∙ c.get.ensures.value) ∙ c.in-Some.is in
    let own : c.is_of.result ≡ true = grind arith in
    sym (subst (λ (ls : List Lock). list_any (is_named c.args.file c.args.id) ls ≡ true) c.self.view_is
    (named-is c.args.file c.args.id i.ids.entries c.in-Some.lock c.self.invariant.ids_ascend c.self.invariant.keyed there ∙ (sym c.is_of.ensures ∙ own)))

pub returns-clause-rest : goal.returns-clause-rest
returns-clause-rest c =
    let i = c.self.inside in
    let there : lock_of i.ids.entries c.args.id ≡ Some c.in-Some.lock = sym (c.copied.ensures ∙ c.get.ensures.value) ∙ c.in-Some.is in
    let own : c.is_of.result ≡ true = grind arith in
    ap (λ (es : List (ℕ × Lock)). values_of es) c.remove.ensures.entries
    ∙ (values-remove c.args.file c.args.id i.ids.entries c.in-Some.lock c.self.invariant.ids_ascend c.self.invariant.keyed there (sym c.is_of.ensures ∙ own)
    ∙ ap (λ (ls : List Lock). filter (λ (l : Lock). not (is_named c.args.file c.args.id l)) ls) c.self.view_is)
