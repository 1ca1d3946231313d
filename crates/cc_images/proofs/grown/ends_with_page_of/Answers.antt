use Rattle.std.proofs.Common.{ℕ, ◌≡◌, ◌-◌, ◌<◌, length, get_or, IfSome, is_some, ap, subst, ◌∙◌, arith}
use Rattle.std.proofs.lemmas.Option.{slice_get_read}
use Rattle.cc_images.proofs.Lists.{last-page}
use Rattle.cc_images.proofs.grown.ends_with_page_of.Goals as goal

pub returns-in-Some : goal.returns-in-Some
returns-in-Some c =
    let items = c.args.bytes.now.items in
    let last = length items - 1 in
    let long : 0 < length items = omega (arith, c.args.bytes.now.ok.0, c.back.ensures.variant.0 (ap is_some c.in-Some.is)) in
    let there = subst (λ o. IfSome o (λ x. x.now ≡ get_or items (c.args.bytes.now.len - 1) x.now)) c.in-Some.is c.back.ensures.lookup in
    let at : c.in-Some.last.now ≡ get_or items last c.in-Some.last.now =
    there ∙ ap (λ (n : ℕ). get_or items n c.in-Some.last.now) {x = c.args.bytes.now.len - 1} {y = last} (omega (arith, c.args.bytes.now.ok.0)) in
    last-page items c.args.byte c.in-Some.last.now (slice_get_read items (length items) last c.in-Some.last.now (omega arith) (omega (arith, long)) at)
    c.requires.in_order c.requires.below
