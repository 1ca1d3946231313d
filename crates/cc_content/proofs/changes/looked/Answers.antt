-- The blocks of the span are used, or with none the pages stay as they are; a look changes nothing else.
use Rattle.std.proofs.Common.{◌≡◌, ℕ, Option, None, Some, refl, sym, ap, ◌∙◌}
use Rattle.cc_entry.specs.Pages.{blocks_of}
use Rattle.cc_entry.specs.Place.{Range}
use Rattle.cc_resident.specs.Residents.{blocks, used}
use Rattle.cc_model.specs.Residency.{blocks_of_range}
use Rattle.cc_content.proofs.LooksStand.{stands-left, LeavesAll-looks}
use Rattle.cc_content.proofs.changes.looked.Goals as goal

span-is : (r : Range) (from to : ℕ) → from ≡ r.from → to ≡ r.to → record { from = from; to = to } ≡ r
span-is r from to a b = rw (a, b) refl

none-is : (o : Option Range) → ((r : Range) → o ≡ Some r → ⊥) → o ≡ None
none-is None other = refl
none-is (Some r) other = absurd (other r refl)

pub returns-in-Some : goal.returns-in-Some
returns-in-Some c = λ opening h pass call reply was looks uses mapped.
    let m = c.args.pages.now in
    let n = c.use_range.new.self in
    let same = span-is c.in-Some.span c.from.result c.to.result c.from.ensures.same c.to.ensures.same in
    let order =
    c.use_range.ensures.blocks ∙ ap (λ r. used (blocks_of r) (blocks m)) same
    ∙ ap (λ o. used (blocks_of_range o) (blocks m)) (sym c.in-Some.is) in
    stands-left opening h pass call reply m n (LeavesAll-looks h pass call reply looks mapped) was
    (record { pages = c.use_range.ensures.pages; quota = c.use_range.ensures.quota; size = c.use_range.ensures.size }) c.args.used c.requires uses.blocks order mapped

pub returns-in_default : goal.returns-in_default
returns-in_default c = λ opening h pass call reply was looks uses mapped.
    let m = c.args.pages.now in
    let order =
    ap (λ o. used (blocks_of_range o) (blocks m)) (sym (none-is c.args.used c.in_default.not-Some)) in
    stands-left opening h pass call reply m m (LeavesAll-looks h pass call reply looks mapped) was
    (record { pages = λ p. refl; quota = refl; size = refl }) c.args.used c.requires uses.blocks order mapped
