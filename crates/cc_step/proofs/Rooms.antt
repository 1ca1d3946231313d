-- Room for the block of a page: within the quota, or a block to give up.
use Rattle.std.specs.Prelude.{◌≡◌, ℕ, suc, ◌<◌, ◌≤◌, Bool, true, false, cond, not, ◌&&◌, ◌||◌, ◌==◌, nat_eq, nat_lt, List, [], ◌∷◌, ◌++◌, length, map, refl}
use Rattle.std.specs.declared.option.Option.TheVariants.{Some, None}
use Rattle.std.specs.Cmp.{nat_eq_equiv}
use Rattle.std.specs.List.{list_any}
use Rattle.std.specs.Set.{distinct_count, is_member, unique_keys}
use Rattle.std.proofs.Common.{ap, sym, ◌∙◌, arith}
use Rattle.std.proofs.lemmas.Bool.{and_parts, or_parts, or_right, eqb-true, leb-true, ltb-true, ltb-false}
use Rattle.std.proofs.lemmas.List.Folds.{list_any-append}
use Rattle.std.proofs.lemmas.Map.Made.{distinct_count-from_IsDistinct}
use Rattle.cc_entry.specs.Pages.{block_of, blocks_of}
use Rattle.cc_entry.specs.Place.{Range}
use Rattle.cc_entry.specs.declared.call.Call.{Call}
use Rattle.cc_entry.specs.declared.call.Call.TheVariants as call
use Rattle.cc_entry.specs.declared.entry.Entry.{Entry}
use Rattle.cc_content.proofs.Found.{IsDistinct-front}
use Rattle.cc_content.proofs.Orders.{order_of_use-distinct, order_of_use-mapped, length-mapped}
use Rattle.cc_effects.specs.Asked.{block_to_go, makes_room}
use Rattle.cc_laws.proofs.BlockPages.{is_member-among}
use Rattle.cc_laws.proofs.Lists1.{count-le}
use Rattle.cc_laws.proofs.OrderedPasts.{IsOrderOfMapped-legal}
use Rattle.cc_laws.proofs.SoundFacts.{within_quota-good}
use Rattle.cc_laws.proofs.UnrefusedCalls.{unrefused, refuse_if-none}
use Rattle.cc_model.specs.Good.{IsGood, IsGoodSoFar}
use Rattle.cc_model.specs.History.{Effect, history}
use Rattle.cc_model.specs.Holds.{holds_of, held_blocks}
use Rattle.cc_model.specs.Numbers.{is_among}
use Rattle.cc_model.specs.Ranges.{cut_range, range_of}
use Rattle.cc_model.specs.Reasons.{is_open}
use Rattle.cc_model.specs.Refusals.{refusal}
use Rattle.cc_model.specs.Residency.{residents, block_is_mapped, mapped_block_count, mapped_blocks_with, order_of_use}
use Rattle.cc_model.specs.Settings.{quota_of}
use Rattle.cc_model.specs.Setup.{Setup}
use Rattle.cc_model.specs.Touches.{size_of}
use Rattle.cc_model.specs.Views.{needed_blocks, no_views, viewed}
use Rattle.cc_step.specs.Step.{is_answered, IsNeeding}
use Rattle.cc_step.specs.Room.{has_room, IsWaiting}
use Rattle.cc_step.proofs.Found.{none-passes, block-among}
use Rattle.cc_step.proofs.Waiting.{Needs, is_ahead, room-viewed}

-- one block more is at most one more
counted-more : (b : ℕ) (bs : List ℕ) → distinct_count nat_eq (b ∷ bs) ≤ suc (distinct_count nat_eq bs)
counted-more b bs = go (is_member nat_eq bs b)
  where
    go : (t : Bool) → length (cond t (unique_keys nat_eq bs) (b ∷ unique_keys nat_eq bs)) ≤ suc (length (unique_keys nat_eq bs))
    go true = omega arith
    go false = omega arith

-- and none more where it is there
counted-there : (b : ℕ) (bs : List ℕ) → is_among b bs ≡ true → distinct_count nat_eq (b ∷ bs) ≡ distinct_count nat_eq bs
counted-there b bs among = let there : is_member nat_eq bs b ≡ true = is_member-among b bs ∙ among in rw there refl

-- a block that has a page is one of the blocks of the pages
block-of-some : (b : ℕ) (ps : List ℕ) → list_any (λ p. block_of p == b) ps ≡ true → is_among b (map block_of ps) ≡ true
block-of-some b [] some = some
block-of-some b (p ∷ ps) some = go (block_of p == b) some (block-of-some b ps)
  where
    go : (t : Bool) → (t || list_any (λ q. block_of q == b) ps) ≡ true → (list_any (λ q. block_of q == b) ps ≡ true → is_among b (map block_of ps) ≡ true) → (t || is_among b (map block_of ps)) ≡ true
    go true is rest = refl
    go false is rest = rest is

-- where there is room for a page, its block would be within the quota
pub room-within : (u : Setup) (past : List Entry) (s page : ℕ) → IsGoodSoFar u past → has_room (history past s) page ≡ true → mapped_blocks_with (history past s) page ≤ quota_of (history past s)
room-within u past s page good room = go (block_is_mapped h (block_of page)) refl room
  where
    h : List Effect
    h = history past s

    within : mapped_block_count h ≤ quota_of h
    within = within_quota-good u past s good

    go : (t : Bool) → block_is_mapped h (block_of page) ≡ t → (t || nat_lt (mapped_block_count h) (quota_of h)) ≡ true → mapped_blocks_with h page ≤ quota_of h
    go true mapped has = rw (counted-there (block_of page) (map block_of (residents h)) (block-of-some (block_of page) (residents h) mapped)) within
    go false unmapped fewer = fits (mapped_blocks_with h page) (mapped_block_count h) (quota_of h) (counted-more (block_of page) (map block_of (residents h))) (ltb-true (mapped_block_count h) (quota_of h) fewer)
      where
        fits : (with_it all quota : ℕ) → with_it ≤ suc all → all < quota → with_it ≤ quota
        fits with_it all quota a b = omega arith

-- where there is none, as many blocks as the quota are mapped, and the page's is not
pub record IsFull (h : List Effect) (page : ℕ) : Type 0 where
  pub unmapped : block_is_mapped h (block_of page) ≡ false
  pub all_taken : mapped_block_count h ≡ quota_of h

pub full : (u : Setup) (past : List Entry) (s page : ℕ) → IsGoodSoFar u past → has_room (history past s) page ≡ false → IsFull (history past s) page
full u past s page good none =
    let h = history past s in
    let parts = or_parts (block_is_mapped h (block_of page)) (nat_lt (mapped_block_count h) (quota_of h)) none in
    record { unmapped = parts.0; all_taken = even (mapped_block_count h) (quota_of h) (within_quota-good u past s good) (ltb-false (mapped_block_count h) (quota_of h) parts.1) }
  where
    even : (a b : ℕ) → a ≤ b → b ≤ a → a ≡ b
    even a b x y = omega arith

-- nothing refuses the call, and a read-ahead step is whole, so the blocks of open holds and of its range are within the quota
needed-within : (u : Setup) (past : List Entry) (s : ℕ) (it : Call) (r : Range) → is_answered it ≡ true → makes_room it ≡ true → IsNeeding (history past s) it → refusal u past (history past s) it ≡ None → range_of (size_of (history past s)) it ≡ Some r → needed_blocks (holds_of (history past s)) r ≤ quota_of (history past s)
needed-within u past s it r answered room needing admitted is = go it answered room needing (unrefused u past h it admitted).within_quota is
  where
    h : List Effect
    h = history past s

    viewed-within : (c : Call) → is_answered c ≡ true → makes_room c ≡ true → is_ahead c ≡ false → no_views h (viewed h c (range_of (size_of h) c)) ≡ None → range_of (size_of h) c ≡ Some r → needed_blocks (holds_of h) r ≤ quota_of h
    viewed-within c answered room other views is =
        let seen : no_views h (Some r) ≡ None = ap (no_views h) (sym (room-viewed h c (range_of (size_of h) c) answered room other ∙ is)) ∙ views in
        ltb-false (quota_of h) (needed_blocks (holds_of h) r) (refuse_if-none (nat_lt (quota_of h) (needed_blocks (holds_of h) r)) _ seen)

    go : (c : Call) → is_answered c ≡ true → makes_room c ≡ true → IsNeeding h c → no_views h (viewed h c (range_of (size_of h) c)) ≡ None → range_of (size_of h) c ≡ Some r → needed_blocks (holds_of h) r ≤ quota_of h
    go (call.AheadStep request) answered room needing views is =
        let same : cut_range (size_of h) request.at request.len ≡ r = cc in
        rw (sym same) (leb-true _ _ (and_parts (is_open h request.file) _ needing).1)
    go other answered room needing views is = viewed-within other answered room refl views is

-- so one of the mapped blocks is none of these
pub some-to-go : (u : Setup) (past : List Entry) (s : ℕ) (it : Call) (page : ℕ) → is_answered it ≡ true → makes_room it ≡ true → IsGood u past → IsGoodSoFar u past → IsWaiting u past s it page → has_room (history past s) page ≡ false → (n : Needs (history past s) it page) → block_to_go (history past s) n.range ≡ None → ⊥
some-to-go u past s it page answered room good so_far waits none n none_to_go = over (length order) (mapped_block_count h) (quota_of h) _ _ counted is_full.all_taken whole few (needed-within u past s it n.range answered room n.needing waits.admitted n.range_is)
  where
    h : List Effect
    h = history past s

    order : List ℕ
    order = order_of_use h

    b : ℕ
    b = block_of page

    is_full : IsFull h page
    is_full = full u past s page so_far none

    counted : length order ≡ mapped_block_count h
    counted = let mapped = IsOrderOfMapped-legal u past s good.legal in length-mapped h order mapped.distinct mapped.mapped

    away : is_among b order ≡ false
    away = go (is_among b order) refl
      where
        go : (t : Bool) → is_among b order ≡ t → is_among b order ≡ false
        go true there = absurd (cc (order_of_use-mapped h b there, is_full.unmapped))
        go false is = is

    needed : List ℕ
    needed = held_blocks (holds_of h) ++ blocks_of n.range

    among-needed : (q : ℕ) → is_among q needed ≡ (is_among q (held_blocks (holds_of h)) || is_among q (blocks_of n.range))
    among-needed q = list_any-append (λ m. m == q) (held_blocks (holds_of h)) (blocks_of n.range)

    -- each mapped block is needed
    kept : (q : ℕ) → is_among q order ≡ true → is_among q needed ≡ true
    kept q there = among-needed q ∙ go (is_among q (held_blocks (holds_of h))) (is_among q (blocks_of n.range)) (none-passes (λ m. not (is_among m (held_blocks (holds_of h))) && not (is_among m (blocks_of n.range))) order q none_to_go there)
      where
        go : (x y : Bool) → (not x && not y) ≡ false → (x || y) ≡ true
        go true y fails = refl
        go false true fails = refl
        go false false fails = absurd (cc)

    -- and so is the page's
    wanted : is_among b needed ≡ true
    wanted = among-needed b ∙ or_right (is_among b (held_blocks (holds_of h))) _ (block-among n.range page n.has)

    each : (q : ℕ) → is_member nat_eq (b ∷ order) q ≡ true → is_member nat_eq needed q ≡ true
    each q is = is_member-among q needed ∙ go (nat_eq q b) refl is
      where
        go : (t : Bool) → nat_eq q b ≡ t → (t || is_member nat_eq order q) ≡ true → is_among q needed ≡ true
        go true same k = ap (λ m. is_among m needed) (eqb-true q b same) ∙ wanted
        go false other k = kept q (sym (is_member-among q order) ∙ k)

    whole : distinct_count nat_eq (b ∷ order) ≡ suc (length order)
    whole = distinct_count-from_IsDistinct nat_eq_equiv (b ∷ order) (IsDistinct-front b order away (order_of_use-distinct h))

    few : distinct_count nat_eq (b ∷ order) ≤ distinct_count nat_eq needed
    few = count-le (b ∷ order) needed each

    over : (len all quota count need : ℕ) → len ≡ all → all ≡ quota → count ≡ suc len → count ≤ need → need ≤ quota → ⊥
    over len all quota count need a e c d f = omega arith
