-- A page that was written before records one more content; any other begins with what the disk opened with.
use Rattle.std.proofs.Common.{◌≡◌, ◌∙◌, ◌∷◌, [], sym, ap, refl, cond, Some, None}
use Rattle.std.specs.Ordering.{nat_cmp}
use Rattle.std.specs.BTreeMap.{is_at}
use Rattle.std.proofs.lemmas.Result.{on_ok_weaker, on_err_weaker}
use Rattle.std.proofs.lemmas.Map.Steps.{set_value_same}
use Rattle.cc_traits.specs.Disk.{blank_page, last_content}
use Rattle.cc_memdev.specs.Content.{PageContents, recorded, disk_over}
use Rattle.cc_memdev.proofs.ContentLemmas.{Records-updated, written_at, page_of-found, may_of-found}
use Rattle.cc_memdev.proofs.content.Content.record.Goals as goal

pub returns-in-Some-clause-ok : goal.returns-in-Some-clause-ok
returns-in-Some-clause-ok c =
    let i = c.self.inside in
    let page = c.args.page in
    let w = c.record.new.self in
    let was = c.in-Some.written.now in
    let opening = i.opening.items in
    let pages = i.written.entries in
    let disk = disk_over i.fill opening pages in
    let through = c.get_mut.follows.holds w in
    let update = through.3 (rw (← c.in-Some.ensures.value) refl) in
    on_ok_weaker c.record.result (λ e. rw (← c.self.view_is) (Records-updated c.args.stays page was c.args.bytes.now i.fill opening pages (c.get_mut.follows.lender w).entries c.self.invariant through.4 (λ q. update.0 q ∙ ap (λ p. cond (is_at (nat_cmp page) q) (Some p) (written_at q pages)) e) (sym (page_of-found disk i.fill opening pages page (Some was) refl c.self.invariant c.in-Some.ensures.value)) (sym (may_of-found disk i.fill opening pages page (Some was) refl c.self.invariant c.in-Some.ensures.value)))) c.record.ensures.ok

pub returns-in-Some-clause-err : goal.returns-in-Some-clause-err
returns-in-Some-clause-err c =
    let i = c.self.inside in
    let w = c.record.new.self in
    let at = is_at (nat_cmp c.args.page) in
    on_err_weaker c.record.result (λ e. ap (disk_over i.fill i.opening.items) ((c.get_mut.follows.holds w).0 ∙ set_value_same at i.written.entries w (sym c.in-Some.ensures.value ∙ ap (λ p. Some p) (sym e))) ∙ c.self.view_is) c.record.ensures.err

pub returns-in_ok-insert-in-None-clause-ok : goal.returns-in_ok-insert-in-None-clause-ok
returns-in_ok-insert-in-None-clause-ok c =
    let i = c.self.inside in
    let page = c.args.page in
    let opening = i.opening.items in
    let pages = i.written.entries in
    let disk = disk_over i.fill opening pages in
    let base : c.last_listed-held.result ≡ last_content opening page (blank_page i.fill) = c.last_listed-held.ensures ∙ ap (λ listed. last_content listed page (blank_page i.fill)) c.deref.ensures.value in
    let held = base ∙ sym (page_of-found disk i.fill opening pages page None refl c.self.invariant c.in-None.ensures.value) in
    let may = ap (λ b. b ∷ []) base ∙ sym (may_of-found disk i.fill opening pages page None refl c.self.invariant c.in-None.ensures.value) in
    let update = c.in_ok-insert-in-None.ensures.updates in
    let e = c.in_ok-record-in-None.ensures.ok in
    let none = c.get_mut.follows.holds-at-none in
    let at : PageContents = record { held = c.last_listed-held.result; may = [] } in
    rw (← c.self.view_is) (Records-updated c.args.stays page at c.args.bytes.now i.fill opening pages c.insert.new.self.entries c.self.invariant c.in_ok-insert-in-None.ensures.ordered (λ q. update.0 q ∙ ap (λ p. cond (is_at (nat_cmp page) q) (Some p) (written_at q c.get_mut.follows.lender-at-none.entries)) (e ∙ ap (λ p. recorded c.args.stays p c.args.bytes.now) c.new-written.ensures) ∙ ap (λ m. cond (is_at (nat_cmp page) q) (Some (recorded c.args.stays at c.args.bytes.now)) (written_at q m.entries)) none) held may)
