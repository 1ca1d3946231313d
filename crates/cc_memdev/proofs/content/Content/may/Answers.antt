use Rattle.std.proofs.Common.{◌≡◌, ◌∙◌, ◌∷◌, [], sym, ap, Some, None}
use Rattle.cc_traits.specs.Disk.{blank_page, last_content, may_of}
use Rattle.cc_memdev.proofs.ContentLemmas.{may_of-found}
use Rattle.cc_memdev.proofs.content.Content.may.Goals as goal

pub returns-in-Some : goal.returns-in-Some
returns-in-Some c =
    let i = c.self.inside in
    let e : c.may.result.now ≡ may_of c.args.self.now c.args.page = c.may.ensures ∙ sym (may_of-found c.args.self.now i.fill i.opening.items i.written.entries c.args.page (Some c.in-Some.written.now) c.self.view_is c.self.invariant c.in-Some.ensures.value) in
    rw (← e) c.from_slice.ensures.items

pub returns-in-None : goal.returns-in-None
returns-in-None c =
    let i = c.self.inside in
    let e : c.from_ref.result.now ≡ may_of c.args.self.now c.args.page = c.from_ref.ensures.value ∙ ap (λ b. b ∷ []) (c.last_listed-alone.ensures ∙ ap (λ pages. last_content pages c.args.page (blank_page i.fill)) c.deref.ensures.value) ∙ sym (may_of-found c.args.self.now i.fill i.opening.items i.written.entries c.args.page None c.self.view_is c.self.invariant c.in-None.ensures.value) in
    rw (← e) c.from_slice-in-None.ensures.items
