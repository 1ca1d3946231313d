use Rattle.std.proofs.Common.{◌≡◌, ℕ, ◌+◌, ◌<◌, ◌==◌, ◌||◌, false, true, length, ap, sym, subst, ◌∙◌, arith}
use Rattle.std.proofs.lemmas.Bool.{both_ways}
use Rattle.cc_images.specs.PageSet.{PageSet, is_in_set, neighbours}
use Rattle.cc_images.proofs.PageRanges.{put-has, put-disjoint, put-again}
use Rattle.cc_images.proofs.page_set.PageSet.insert.Goals as goal

pub put_in-requires-clause-room : goal.put_in-requires-clause-room
put_in-requires-clause-room c = subst (λ (s : PageSet). length s.ranges < s.room) (sym c.self.view_is) c.requires.room

pub put_in-requires-clause-is_new : goal.put_in-requires-clause-is_new
put_in-requires-clause-is_new c =
    let out : c.contains.result ≡ false = grind arith in
    ap (λ (s : PageSet). is_in_set c.args.page s) c.self.view_is ∙ (sym c.contains.ensures ∙ out)

pub invariant_of-self : goal.invariant_of-self
invariant_of-self c =
    let out : c.contains.result ≡ false = grind arith in
    put-disjoint c.args.page c.self.inside.ranges.items c.put_in.new.ranges.items c.put_in.ensures.pages
    (ap (λ (s : PageSet). is_in_set c.args.page s) c.self.view_is ∙ (sym c.contains.ensures ∙ out)) c.self.invariant

pub returns-then-not-contains-clause-has : goal.returns-then-not-contains-clause-has
returns-then-not-contains-clause-has c = λ p.
    put-has c.args.page c.self.inside.ranges.items c.put_in.new.ranges.items c.put_in.ensures.pages p
    ∙ ap (λ (s : PageSet). p == c.args.page || is_in_set p s) c.self.view_is

pub returns-then-not-contains-clause-ranges : goal.returns-then-not-contains-clause-ranges
returns-then-not-contains-clause-ranges c = λ out.
    subst (λ (s : PageSet). length c.put_in.new.ranges.items + neighbours (λ p. is_in_set p s) c.args.page ≡ length s.ranges + 1) c.self.view_is c.put_in.ensures.ranges

pub returns-else-not-contains-clause-has : goal.returns-else-not-contains-clause-has
returns-else-not-contains-clause-has c =
    let here : c.contains.result ≡ true = grind arith in
    put-again (λ q. is_in_set q c.args.self.now) c.args.page (sym c.contains.ensures ∙ here)

pub returns-else-not-contains-clause-ranges : goal.returns-else-not-contains-clause-ranges
returns-else-not-contains-clause-ranges c = λ out.
    let here : c.contains.result ≡ true = grind arith in
    absurd (both_ways (is_in_set c.args.page c.args.self.now) out (sym c.contains.ensures ∙ here))
