-- Where the cut finds memory, the pages that stay are those of the new size, and the rest of the last one is zeros.
use Rattle.std.proofs.Common.{◌≡◌, ℕ, true, List, ◌∷◌, Option, Result, Ok, Err, OnOk}
use Rattle.std.specs.List.{filter}
use Rattle.cc_entry.specs.declared.call.Call.{Call}
use Rattle.cc_entry.specs.declared.reply.Reply.{Reply}
use Rattle.cc_views.specs.Views.{MappedViews}
use Rattle.cc_resident.specs.Changes.{Cuts}
use Rattle.cc_resident.specs.Residents.{blocks, has_pages}
use Rattle.cc_model.specs.Acts.{act_of, Resizes}
use Rattle.cc_model.specs.History.{Effect, Did}
use Rattle.cc_model.specs.Touches.{is_mapped}
use Rattle.cc_content.specs.Contents.{PagesStand}
use Rattle.cc_content.proofs.CutsStand.{stands-resized}
use Rattle.cc_content.proofs.changes.resized.Goals as goal

stands-ok : {E : Type 0} (r : Result (Unit {0}) E) (m n : MappedViews) (size : ℕ) → OnOk r (Cuts m n size)
    → OnOk r (blocks n ≡ filter (has_pages n) (blocks m)) → n.quota ≡ m.quota → OnOk r (n.size ≡ size)
    → OnOk r ((opening : Option (ℕ → List ℕ)) (h : List Effect) (pass : ℕ) (call : Call) (reply : Reply)
    (allocation : ℕ) → PagesStand opening h m → act_of call ≡ Resizes allocation size
    → is_mapped (Did pass call reply ∷ h) ≡ true → PagesStand opening (Did pass call reply ∷ h) n)
stands-ok (Ok x) m n size cuts order quota sized = λ opening h pass call reply allocation was is mapped.
    stands-resized opening h pass call reply m n size
    (record { cuts = cuts; blocks = order; quota = quota; sized = sized }) was is mapped
stands-ok (Err e) m n size cuts order quota sized = tt

pub returns-clause-stands : goal.returns-clause-stands
returns-clause-stands c =
    stands-ok c.cut.result c.args.pages.now c.cut.new.self c.args.size
    c.cut.ensures.pages c.cut.ensures.blocks c.cut.ensures.quota c.cut.ensures.size
