use Rattle.std.proofs.Common.{◌≡◌, ◌-◌, List, None, false, get_or, sym, ◌∙◌, ap, subst, arith}
use Rattle.cc_entry.specs.Place.{Range}
use Rattle.cc_entry.specs.declared.lock.Lock.{Lock}
use Rattle.cc_locks.specs.Asked.{span_of}
use Rattle.cc_locks.specs.Place.{IsLeastOfClass}
use Rattle.cc_locks.proofs.Classes.{IsLeastOfClass-none, IsLeastOfClass-found}
use Rattle.cc_locks.proofs.index.LockIndex.least_of_class.Goals as goal

pub returns-then-not-used : goal.returns-then-not-used
returns-then-not-used c =
    let i = c.self.inside in
    let unused : get_or i.used c.args.class false ≡ false = grind arith in
    subst (λ (ls : List Lock). IsLeastOfClass c.args.asked.now ls c.args.class None) c.self.view_is
    (IsLeastOfClass-none i.ids.entries i.places.entries i.used c.self.invariant c.args.asked.now c.args.class unused)

pub returns : goal.returns
returns c =
    let i = c.self.inside in
    let a = c.args.asked.now in
    let low : c.saturating_sub-low.result ≡ (span_of a).from - c.args.reach =
    c.saturating_sub-low.ensures ∙ (ap (λ n. n - c.args.reach) (c.from.ensures.same ∙ ap (λ (r : Range). r.from) c.span-span.ensures)) in
    let high : c.to.result ≡ (span_of a).to = c.to.ensures.same ∙ ap (λ (r : Range). r.to) c.span-span.ensures in
    subst (λ (ls : List Lock). IsLeastOfClass a ls c.args.class c.least_between.result) c.self.view_is
    (IsLeastOfClass-found i.ids.entries i.places.entries i.used c.self.invariant a c.args.class c.args.reach c.saturating_sub-low.result c.to.result c.least_between.result
    c.requires.covers low high c.least_between.ensures)
