-- What is known of the pages of the block to give up.
use Rattle.std.specs.Prelude.{◌≡◌, ℕ, ◌+◌, ◌/◌, ◌<◌, ◌^◌, Bool, true, false, not, ◌&&◌, ◌||◌, ◌==◌, List, [], ◌∷◌, refl}
use Rattle.std.specs.declared.option.Option.TheVariants.{Some, None}
use Rattle.std.specs.List.{list_all, range_with_len}
use Rattle.std.proofs.Common.{ap, sym, ◌∙◌, arith}
use Rattle.std.proofs.lemmas.Bool.{and_parts, and_from, or_left, or_right, eqb-true, eq-eqb}
use Rattle.std.proofs.lemmas.List.Folds.{list_any-append}
use Rattle.cc_entry.specs.Pages.{block_of, blocks_of, has_page}
use Rattle.cc_entry.specs.declared.call.Call.{Call}
use Rattle.cc_entry.specs.declared.entry.Entry.{Entry}
use Rattle.cc_content.proofs.Found.{Found-any, among-within}
use Rattle.cc_content.proofs.Orders.{order_of_use-mapped}
use Rattle.cc_effects.specs.Asked.{is_admitted, is_file_of_page, is_number, block_to_go, makes_room, goes_for, is_in_the_way, goes_next, makes_way}
use Rattle.cc_images.proofs.Found.{found-passes}
use Rattle.cc_laws.proofs.BlockLists.{is_among-filter}
use Rattle.cc_laws.proofs.Lists1.{among-any}
use Rattle.cc_model.specs.Acts.{file_of}
use Rattle.cc_model.specs.Conditions.{MayGoOut}
use Rattle.cc_model.specs.Good.{IsGoodSoFar}
use Rattle.cc_model.specs.History.{Effect, history}
use Rattle.cc_model.specs.Holds.{Hold, range_held, holds_of, held_blocks, is_held}
use Rattle.cc_model.specs.Images.{open_of}
use Rattle.cc_model.specs.Numbers.{is_among, ascending}
use Rattle.cc_model.specs.Ranges.{range_of}
use Rattle.cc_model.specs.Residency.{residents, is_resident, block_is_mapped, order_of_use}
use Rattle.cc_model.specs.Setup.{Setup}
use Rattle.cc_model.specs.Stamps.{is_unstamped}
use Rattle.cc_model.specs.Touches.{size_of, touched, is_dirty, dirty_pages}
use Rattle.cc_step.specs.Room.{IsToGo, IsDirtyIn, IsLeastIn}
use Rattle.cc_step.proofs.Below.{resident-numbered}
use Rattle.cc_step.proofs.Found.{not-true, found-among, block-among}
use Rattle.cc_step.proofs.Owed.{unheld-stamped}
use Rattle.cc_step.proofs.Rooms.{IsFull}
use Rattle.cc_step.proofs.Waiting.{Needs}

-- the block to give up is mapped, and no open hold has it
pub record Goes (h : List Effect) (block : ℕ) : Type 0 where
  pub mapped : block_is_mapped h block ≡ true
  pub unheld : is_among block (held_blocks (holds_of h)) ≡ false

pub goes : (h : List Effect) (it : Call) (page block : ℕ) → Needs h it page → IsToGo h (range_of (size_of h) it) block → Goes h block
goes h it page block n to_go = by (rw n.range_is at to_go)
  where
    by : block_to_go h n.range ≡ Some block → Goes h block
    by found =
        let test : ℕ → Bool = λ b. not (is_among b (held_blocks (holds_of h))) && not (is_among b (blocks_of n.range)) in
        record {
          mapped = order_of_use-mapped h block (found-among test (order_of_use h) block found);
          unheld = not-true _ (and_parts (not (is_among block (held_blocks (holds_of h)))) _ (found-passes test (order_of_use h) block found)).0;
        }

-- so each of its pages is in the way of the call, where nothing refuses that
pub in-the-way : (past : List Entry) (s : ℕ) (it : Call) (page block p : ℕ) → is_admitted it s past ≡ true → makes_room it ≡ true → is_file_of_page (file_of it) (record { stream = s; page = p }) ≡ true → IsFull (history past s) page → (n : Needs (history past s) it page) → IsToGo (history past s) (range_of (size_of (history past s)) it) block → block_of p ≡ block → is_in_the_way it (record { stream = s; page = p }) past ≡ true
in-the-way past s it page block p admitted room of is_full n to_go here =
    and_from (makes_room it) _ room
    (and_from (is_file_of_page (file_of it) (record { stream = s; page = p })) _ of (and_from (is_admitted it s past) _ admitted (rw n.range_is by)))
  where
    h : List Effect
    h = history past s

    found : block_to_go h n.range ≡ Some block
    found = rw n.range_is at to_go

    number : is_number (block_of p) (block_to_go h n.range) ≡ true
    number = rw found (eq-eqb block (block_of p) (sym here))

    by : goes_for h (Some n.range) p ≡ true
    by =
        and_from _ _ (eq-eqb _ _ is_full.all_taken)
        (and_from _ _ (among-any (λ b. not (block_is_mapped h b)) (block_of page) (blocks_of n.range) (block-among n.range page n.has) (ap not is_full.unmapped)) number)

-- a page of an open hold lies in one of the blocks of open holds
held-block : (p : ℕ) (holds : List Hold) → is_held holds p ≡ true → is_among (block_of p) (held_blocks holds) ≡ true
held-block p [] held = absurd (cc)
held-block p (hold ∷ holds) held =
    list_any-append (λ m. m == block_of p) (blocks_of (range_held hold)) (held_blocks holds)
    ∙ go (has_page (range_held hold) p) refl held (held-block p holds)
  where
    go : (b : Bool) → has_page (range_held hold) p ≡ b → (b || is_held holds p) ≡ true → (is_held holds p ≡ true → is_among (block_of p) (held_blocks holds) ≡ true) → (is_among (block_of p) (blocks_of (range_held hold)) || is_among (block_of p) (held_blocks holds)) ≡ true
    go true has is rest = or_left _ _ (block-among (range_held hold) p has)
    go false none is rest = or_right (is_among (block_of p) (blocks_of (range_held hold))) _ (rest is)

pub goes-unheld : (h : List Effect) (block p : ℕ) → Goes h block → block_of p ≡ block → is_held (holds_of h) p ≡ false
goes-unheld h block p away here = go (is_held (holds_of h) p) refl
  where
    go : (b : Bool) → is_held (holds_of h) p ≡ b → is_held (holds_of h) p ≡ false
    go true held = absurd (cc (held-block p (holds_of h) held, here, away.unheld))
    go false is = is

pub goes-stamped : (u : Setup) (past : List Entry) (s block p : ℕ) → IsGoodSoFar u past → Goes (history past s) block → block_of p ≡ block → is_unstamped (history past s) p ≡ false
goes-stamped u past s block p good away here = unheld-stamped u past s p good (goes-unheld (history past s) block p away here)

-- it has a resident page
pub record HasPage (h : List Effect) (block : ℕ) : Type 0 where
  pub page : ℕ
  pub here : block_of page ≡ block
  pub resident : is_resident h page ≡ true

pub goes-page : (h : List Effect) (block : ℕ) → Goes h block → HasPage h block
goes-page h block away =
    let found = Found-any (λ p. block_of p == block) (residents h) away.mapped in
    record { page = found.at; here = eqb-true _ _ found.passes; resident = found.among }

-- so its number is in range
pub goes-numbered : (u : Setup) (past : List Entry) (s block : ℕ) → IsGoodSoFar u past → Goes (history past s) block → block < 2 ^ 45
goes-numbered u past s block good away =
    let has = goes-page (history past s) block away in
    number has.page block has.here (resident-numbered u past s has.page good has.resident)
  where
    number : (p b : ℕ) → p / 64 ≡ b → p < 2 ^ 51 → b < 2 ^ 45
    number p b same less = omega arith

-- where none of its pages is dirty, one of them is resident
pub some-least : (h : List Effect) (block : ℕ) → Goes h block → IsLeastIn h block None → ⊥
some-least h block away none = let has = goes-page h block away in absurd (cc (none has.page has.here, has.resident))

all-fail : (test : ℕ → Bool) (ns : List ℕ) → ((n : ℕ) → is_among n ns ≡ true → test n ≡ false) → list_all (λ n. not (test n)) ns ≡ true
all-fail test [] none = refl
all-fail test (n ∷ ns) none = and_from _ _ (ap not (none n (or_left _ _ (eq-eqb n n refl)))) (all-fail test ns (λ m is. none m (or_right (n == m) _ is)))

-- and the least of them goes next
pub goes-next : (h : List Effect) (block page : ℕ) → IsDirtyIn h block None → IsLeastIn h block (Some page) → goes_next h (λ q. block_of q == block_of page) page ≡ true
goes-next h block page clean least =
    and_from _ _
    (all-fail (λ q. block_of q == block_of page) (dirty_pages h) (λ q is. away q is (block_of q == block_of page) refl))
    (all-fail (λ q. (block_of q == block_of page) && is_resident h q) (range_with_len 0 page) (λ q is. lesser q (among-within q 0 page is).1 (block_of q == block_of page) refl))
  where
    same : (q : ℕ) → (block_of q == block_of page) ≡ true → block_of q ≡ block
    same q is = eqb-true (block_of q) (block_of page) is ∙ least.0

    dirty-among : (q : ℕ) → is_among q (dirty_pages h) ≡ true → is_dirty h q ≡ true
    dirty-among q is = (and_parts (is_among q (ascending (touched h))) (is_dirty h q) (sym (is_among-filter (is_dirty h) q (ascending (touched h))) ∙ is)).1

    away : (q : ℕ) → is_among q (dirty_pages h) ≡ true → (b : Bool) → (block_of q == block_of page) ≡ b → b ≡ false
    away q is true here = absurd (cc (dirty-among q is, clean q (same q here)))
    away q is false other = refl

    lesser : (q : ℕ) → q < 0 + page → (b : Bool) → (block_of q == block_of page) ≡ b → (b && is_resident h q) ≡ false
    lesser q less true here = least.2 q (below q less) (same q here)
      where
        below : (n : ℕ) → n < 0 + page → n < page
        below n less = omega arith
    lesser q less false other = refl

pub makes-way : (past : List Entry) (s : ℕ) (it : Call) (page : ℕ) → is_in_the_way it (record { stream = s; page = page }) past ≡ true → goes_next (history past s) (λ q. block_of q == block_of page) page ≡ true → makes_way it (record { stream = s; page = page }) past ≡ true
makes-way past s it page way next = and_from _ _ way next

pub goes-out : (h : List Effect) (block page : ℕ) → Goes h block → open_of h ≡ None → IsDirtyIn h block None → IsLeastIn h block (Some page) → MayGoOut h page
goes-out h block page away rest clean least = record {
  resident = least.1;
  not_held = goes-unheld h block page away least.0;
  clean = clean page least.0;
  no_transfer = rest;
}
