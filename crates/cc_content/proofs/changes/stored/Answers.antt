-- Where the page comes in, its bytes below the size are those stored, and the other pages stay.
use Rattle.std.proofs.Common.{◌≡◌, ℕ, ◌-◌, ◌*◌, ◌<◌, ◌≤◌, true, nat_lt, if◌then◌else◌, List, [], ◌∷◌, get_or, Option, Some, Result, Ok, Err, OnOk, ap, ◌∙◌}
use Rattle.cc_entry.specs.Pages.{block_of}
use Rattle.cc_entry.specs.declared.call.Call.{Call}
use Rattle.cc_entry.specs.declared.reply.Reply.{Reply}
use Rattle.cc_views.specs.Views.{MappedViews}
use Rattle.cc_resident.specs.Changes.{KeepsOthers}
use Rattle.cc_resident.specs.Residents.{page_bytes_at, blocks, used}
use Rattle.cc_model.specs.Acts.{act_of, Stores}
use Rattle.cc_model.specs.History.{Effect, Did}
use Rattle.cc_model.specs.Touches.{size_of, valid_of, is_mapped}
use Rattle.cc_content.specs.Contents.{PagesStand}
use Rattle.cc_content.proofs.StoresStand.{stands-stored}
use Rattle.cc_content.proofs.changes.stored.Goals as goal

stands-ok : {E : Type 0} (r : Result (Unit {0}) E) (m n : MappedViews) (page : ℕ) (bytes frame : List ℕ)
    → OnOk r (page_bytes_at n page ≡ Some frame)
    → ((i : ℕ) → get_or frame i 0 ≡ (if nat_lt i (m.size - 4096 * page) then get_or bytes i 0 else 0))
    → KeepsOthers m n page → OnOk r (blocks n ≡ used (block_of page ∷ []) (blocks m))
    → n.quota ≡ m.quota → n.size ≡ m.size → 4096 * page < m.size
    → OnOk r ((opening : Option (ℕ → List ℕ)) (h : List Effect) (pass : ℕ) (call : Call) (reply : Reply) → PagesStand opening h m → act_of call ≡ Stores page bytes
    → 4096 * page ≤ valid_of h → valid_of h ≤ size_of h → is_mapped (Did pass call reply ∷ h) ≡ true
    → PagesStand opening (Did pass call reply ∷ h) n)
stands-ok (Ok x) m n page bytes frame here below others order quota size inside =
    λ opening h pass call reply was is starts ends mapped.
    stands-stored opening h pass call reply m n page bytes
    (record { frame = frame; here = here; bytes_of = below; others = others; blocks = order; quota = quota; size = size }) is was mapped inside starts ends
stands-ok (Err e) m n page bytes frame here below others order quota size inside = tt

pub returns-clause-stands : goal.returns-clause-stands
returns-clause-stands c =
    let page = c.args.page in
    let bytes = c.args.bytes.now in
    stands-ok c.bring_in.result c.args.pages.now c.bring_in.new.self page bytes c.bytes_below.result c.bring_in.ensures.page
    (λ i. c.bytes_below.ensures i ∙ ap (λ size. if nat_lt i (size - 4096 * page) then get_or bytes i 0 else 0) c.size.ensures)
    c.bring_in.ensures.others c.bring_in.ensures.blocks c.bring_in.ensures.quota c.bring_in.ensures.size c.requires.starts
