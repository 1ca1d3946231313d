-- A page of the block to give up is none of the range for which room is made; and which pages a range has.
use Rattle.std.specs.Prelude.{◌≡◌, ℕ, ◌+◌, ◌*◌, ◌<◌, ◌&&◌, not, Bool, true, false, List, refl}
use Rattle.std.specs.declared.option.Option.{Option}
use Rattle.std.specs.declared.option.Option.TheVariants.{Some, None}
use Rattle.std.proofs.Common.{ap, sym, ◌∙◌, arith}
use Rattle.std.proofs.lemmas.Bool.{and_from, and_parts, eqb-true, lt-ltb}
use Rattle.cc_entry.specs.Pages.{block_of, blocks_of, has_page, pages_of}
use Rattle.cc_entry.specs.Place.{Range}
use Rattle.cc_entry.specs.declared.call.Call.{Call}
use Rattle.cc_entry.specs.declared.entry.Entry.{Entry}
use Rattle.cc_effects.specs.Asked.{block_to_go, goes_for, is_admitted, is_in_the_way, is_number, is_file_of_page, makes_room}
use Rattle.cc_holds.proofs.PagesOwed.{among-pages_of}
use Rattle.cc_images.proofs.Found.{found-passes}
use Rattle.cc_model.specs.Acts.{file_of}
use Rattle.cc_model.specs.History.{Effect, history}
use Rattle.cc_model.specs.Holds.{holds_of, held_blocks}
use Rattle.cc_model.specs.Numbers.{is_among}
use Rattle.cc_model.specs.Ranges.{range_of}
use Rattle.cc_model.specs.Residency.{order_of_use}
use Rattle.cc_model.specs.Touches.{size_of}
use Rattle.cc_step.proofs.Found.{not-true, block-among}

-- the range, which does not have the page
pub record IsOutside (o : Option Range) (page : ℕ) : Type 0 where
  pub range : Range
  pub is : o ≡ Some range
  pub has : has_page range page ≡ false

other-block : (r : Range) (page b : ℕ) → b ≡ block_of page → is_among b (blocks_of r) ≡ false → (t : Bool) → has_page r page ≡ t → t ≡ false
other-block r page b same away false is = refl
other-block r page b same away true is =
    absurd (both-no (is_among (block_of page) (blocks_of r)) (block-among r page is) (ap (λ (n : ℕ). is_among n (blocks_of r)) (sym same) ∙ away))
  where
    both-no : (t : Bool) → t ≡ true → t ≡ false → ⊥
    both-no t is isnt = absurd (cc)

pub outside : (h : List Effect) (o : Option Range) (page : ℕ) → goes_for h o page ≡ true → IsOutside o page
outside h None page way = absurd (cc)
outside h (Some r) page way = record {
  range = r;
  is = refl;
  has = by (block_to_go h r) refl (and_parts _ _ (and_parts _ _ way).1).1;
}
  where
    away : (b : ℕ) → block_to_go h r ≡ Some b → is_among b (blocks_of r) ≡ false
    away b found =
        let test : ℕ → Bool = λ n. not (is_among n (held_blocks (holds_of h))) && not (is_among n (blocks_of r)) in
        not-true _ (and_parts (not (is_among b (held_blocks (holds_of h)))) _ (found-passes test (order_of_use h) b found)).1

    by : (o : Option ℕ) → block_to_go h r ≡ o → is_number (block_of page) o ≡ true → has_page r page ≡ false
    by None found is = absurd (cc)
    by (Some b) found is = other-block r page b (eqb-true b (block_of page) is) (away b found) (has_page r page) refl

pub goes-for : (it : Call) (s page : ℕ) (past : List Entry) → is_in_the_way it (record { stream = s; page = page }) past ≡ true → goes_for (history past s) (range_of (size_of (history past s)) it) page ≡ true
goes-for it s page past way =
    let goes : Bool = goes_for (history past s) (range_of (size_of (history past s)) it) page in
    let of : Bool = is_file_of_page (file_of it) (record { stream = s; page = page }) in
    let admitted : Bool = is_admitted it s past in
    (and_parts admitted goes (and_parts of (admitted && goes) (and_parts (makes_room it) (of && (admitted && goes)) way).1).1).1

-- a page that begins below the size is one of the pages as far as the size
pub page-among : (page size : ℕ) → 4096 * page < size → is_among page (pages_of (record { from = 0; to = size })) ≡ true
page-among page size below =
    among-pages_of (record { from = 0; to = size }) page
    ∙ and_from _ _ (lt-ltb 0 size (omega (arith, below))) (and_from _ _ (lt-ltb 0 (4096 * page + 4096) (omega arith)) (lt-ltb (4096 * page) size below))
