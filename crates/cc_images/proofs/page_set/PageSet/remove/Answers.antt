use Rattle.std.proofs.Common.{false, ◌≡◌, ◌+◌, ◌<◌, ◌≤◌, ◌==◌, ◌&&◌, not, length, ap, sym, subst, ◌∙◌}
use Rattle.std.proofs.lemmas.Bool.{both_ways}
use Rattle.std.specs.List.{position}
use Rattle.cc_images.specs.PageSet.{PageSet, is_in_set, is_in_range, neighbours}
use Rattle.cc_images.proofs.PageRanges.{found-there, none-there, taken-again, taken-has, taken-disjoint}
use Rattle.cc_images.proofs.page_set.PageSet.remove.Goals as goal

pub take_out-requires-clause-room : goal.take_out-requires-clause-room
take_out-requires-clause-room c = subst (λ (s : PageSet). length s.ranges < s.room) (sym c.self.view_is) c.requires.room

pub take_out-requires-clause-place : goal.take_out-requires-clause-place
take_out-requires-clause-place c =
    found-there c.args.page c.in-Some.place c.self.inside.ranges.items
    (ap (position (is_in_range c.args.page)) (sym c.deref.ensures.value) ∙ (sym c.place_with.ensures ∙ c.in-Some.is))

pub invariant_of-self : goal.invariant_of-self
invariant_of-self c =
    taken-disjoint c.args.page c.self.inside.ranges.items c.take_out.new.ranges.items c.take_out.ensures.pages c.self.invariant

pub returns-in-Some-clause-has : goal.returns-in-Some-clause-has
returns-in-Some-clause-has c = λ p.
    taken-has c.args.page c.self.inside.ranges.items c.take_out.new.ranges.items c.take_out.ensures.pages c.self.invariant p
    ∙ ap (λ (s : PageSet). is_in_set p s && not (p == c.args.page)) c.self.view_is

pub returns-in-Some-clause-ranges : goal.returns-in-Some-clause-ranges
returns-in-Some-clause-ranges c = λ there.
    subst (λ (s : PageSet). length c.take_out.new.ranges.items + 1 ≤ length s.ranges + neighbours (λ p. is_in_set p s) c.args.page) c.self.view_is c.take_out.ensures.ranges

pub returns-in_default-clause-has : goal.returns-in_default-clause-has
returns-in_default-clause-has c =
    let none = none-there c.args.page c.self.inside.ranges.items
    (ap (position (is_in_range c.args.page)) (sym c.deref.ensures.value) ∙ (sym c.place_with.ensures ∙ c.in_default.is)) in
    taken-again (λ q. is_in_set q c.args.self.now) c.args.page (sym (ap (λ (s : PageSet). is_in_set c.args.page s) c.self.view_is) ∙ none)

pub returns-in_default-clause-ranges : goal.returns-in_default-clause-ranges
returns-in_default-clause-ranges c = λ there.
    let none = none-there c.args.page c.self.inside.ranges.items
    (ap (position (is_in_range c.args.page)) (sym c.deref.ensures.value) ∙ (sym c.place_with.ensures ∙ c.in_default.is)) in
    absurd (both_ways (is_in_set c.args.page c.args.self.now) (sym (ap (λ (s : PageSet). is_in_set c.args.page s) c.self.view_is) ∙ none) there)
