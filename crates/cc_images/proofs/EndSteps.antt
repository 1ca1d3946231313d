-- What is kept stands after the end of a transfer.
use Rattle.std.specs.Prelude.{◌≡◌, ℕ, ◌*◌, ◌/◌, ◌<◌, ◌≤◌, Bool, true, false, not, ◌==◌, ◌&&◌, ◌||◌, nat_lt, nat_le, max, is_some, List, [], ◌∷◌, length, refl, if◌then◌else◌}
use Rattle.std.proofs.Common.{ap, sym, subst, ◌∙◌, arith}
use Rattle.std.proofs.lemmas.Bool.{and_parts, and_from, eqb-true, eq-eqb, ltb-true, lt-ltb, leb-true}
use Rattle.std.specs.declared.option.Option.TheVariants.{Some}
use Rattle.cc_entry.specs.Place.{Page}
use Rattle.cc_entry.specs.declared.entry.End.{End}
use Rattle.cc_entry.specs.declared.entry.Entry.{Entry}
use Rattle.cc_entry.specs.declared.entry.Entry.TheVariants as entry
use Rattle.cc_model.specs.Allowed.{IsAllowedSoFar}
use Rattle.cc_model.specs.Discards.{is_known, low_since, low_of, has_grown}
use Rattle.cc_model.specs.Good.{IsGoodSoFar}
use Rattle.cc_model.specs.History.{Effect, Did, CameIn, WentOut, Began, Ended, Synced, history}
use Rattle.cc_model.specs.Images.{Transfer, open_of, begun}
use Rattle.cc_model.specs.Numbers.{is_among}
use Rattle.cc_model.specs.Setup.{Setup}
use Rattle.cc_model.specs.Sizes.{ended_ok}
use Rattle.cc_model.specs.Touches.{valid_of, is_dirty}
use Rattle.cc_laws.proofs.BlockLists.{is_among-filter}
use Rattle.cc_laws.proofs.HistorySteps.{history-write_end}
use Rattle.cc_laws.proofs.ImageSteps.{open_of-ended, image-ended_good, image-ended_bad, image-ended_other, begun-began_page}
use Rattle.cc_laws.proofs.QuotaSteps.{quota_of-ended}
use Rattle.cc_laws.proofs.SizeSteps.{sizes-ended}
use Rattle.cc_images.specs.Images.{Images, ImagesStand, AscendsByPage, is_first_grown}
use Rattle.cc_images.specs.Changes.{grew_past, moved_up, regrown, without_page, with_written_page}
use Rattle.cc_images.specs.Following.{MayEndTransfer}
use Rattle.cc_images.specs.PageSet.{PageSet, is_in_set}
use Rattle.cc_images.proofs.LowSteps.{low-order, low-ended_good, low-ended_other}
use Rattle.cc_images.proofs.GrownPages.{grown-dirty}
use Rattle.cc_images.proofs.FirstBytes.{same_tests, IsFirst, IsFirst-grown, grown-IsFirst}
use Rattle.cc_images.proofs.Lists.{IsMapped, among-map, map-among, ascends-filter, ascends-map}
use Rattle.cc_images.proofs.Standing.{SameLow, same-first}

-- an open transfer began
pub record HasBegun (h : List Effect) (p : ℕ) : Type 0 where
  pub front : List Effect
  pub is : begun h p ≡ Some front

pub HasBegun-open : (h : List Effect) (t : Transfer) → open_of h ≡ Some t → HasBegun h t.page
unfolding open_of begun
HasBegun-open [] t under = absurd (cc)
HasBegun-open (Did pass call reply ∷ h) t under = let k = HasBegun-open h t under in record { front = k.front; is = k.is }
HasBegun-open (CameIn pass page from_disk ∷ h) t under = let k = HasBegun-open h t under in record { front = k.front; is = k.is }
HasBegun-open (WentOut pass page ∷ h) t under = let k = HasBegun-open h t under in record { front = k.front; is = k.is }
HasBegun-open (Began pass page ∷ h) t under = record { front = h; is = begun-began_page pass page h t.page (eq-eqb page t.page (same _ _ under)) }
  where
    same : (s u : Transfer) → Some s ≡ Some u → s.page ≡ u.page
    same s u e = let whole : s ≡ u = cc in ap (λ (v : Transfer). v.page) whole
HasBegun-open (Ended pass page how ∷ h) t under = absurd (cc)
HasBegun-open (Synced pass how ∷ h) t under = let k = HasBegun-open h t under in record { front = k.front; is = k.is }

-- what is known of an end with which the journal is good
pub record IsEnd (h : List Effect) (pass page : ℕ) (how : End) : Type 0 where
  pub under_way : open_of h ≡ Some (record { pass = pass; page = page })
  pub grown_is_dirty : (p : ℕ) → has_grown (Ended pass page how ∷ h) p ≡ true → is_dirty (Ended pass page how ∷ h) p ≡ true

under-allowed : (u : Setup) (past : List Entry) (pass : ℕ) (page : Page) (how : End) → IsAllowedSoFar u (entry.WriteEnd pass page how ∷ past) → open_of (history past page.stream) ≡ Some (record { pass = pass; page = page.page })
unfolding IsAllowedSoFar
under-allowed u past pass page how allowed = allowed.1

IsEnd-good : (u : Setup) (past : List Entry) (pass : ℕ) (page : Page) (how : End) → IsGoodSoFar u (entry.WriteEnd pass page how ∷ past) → IsEnd (history past page.stream) pass page.page how
IsEnd-good u past pass page how good =
    let step = history-write_end pass page how past page.stream (eq-eqb page.stream page.stream refl) in
    record {
      under_way = under-allowed u past pass page how good.allowed;
      grown_is_dirty = subst (λ (g : List Effect). (p : ℕ) → has_grown g p ≡ true → is_dirty g p ≡ true) step (grown-dirty u (entry.WriteEnd pass page how ∷ past) page.stream good);
    }

module _ (h : List Effect) (pass page : ℕ) (how : End) (i : Images) (end : IsEnd h pass page how) (stands : ImagesStand h i) where
  later : List Effect
  later = Ended pass page how ∷ h

  begun-front : HasBegun h page
  begun-front = HasBegun-open h (record { pass = pass; page = page }) end.under_way

  none_open : (t : Transfer) → open_of (Ended pass page how ∷ h) ≡ Some t → ⊥
  none_open t under = cc (open_of-ended pass page how h)

  valid-ended : valid_of (Ended pass page how ∷ h) ≡ valid_of h
  valid-ended = ap (λ s. s.valid) (sizes-ended pass page how h)

  known-other : (p : ℕ) → (page == p) ≡ false → is_known (Ended pass page how ∷ h) p ≡ is_known h p
  known-other p other = ap is_some (image-ended_other (λ q. []) pass page how h p other)

  flipped : (a b : ℕ) → (a == b) ≡ (b == a)
  flipped a b = grind (arith, eq-eqb)

  -- an end that is not good: the image is not known, and the least valid data length stays
  pub stands-failed : ended_ok how ≡ false → (unknown : PageSet) → ((p : ℕ) → is_in_set p unknown ≡ (p == page || is_in_set p i.unknown)) → ImagesStand (Ended pass page how ∷ h) (record i { unknown = unknown })
  stands-failed failed unknown has = record {
    grown_are = λ byte. stands.grown_are byte ∙ sym (same-first (Ended pass page how ∷ h) h low byte);
    in_order = stands.in_order;
    grown_is_dirty = end.grown_is_dirty;
    grown_has_room = subst (λ n. 64 * n ≤ i.grown_room) (sym (quota_of-ended pass page how h)) stands.grown_has_room;
    begun_is = λ t under. absurd (none_open t under);
    unknown_are = λ p. has p ∙ at p (page == p) refl;
    unknown_has_room = λ t under. absurd (none_open t under);
  }
    where
      bad : (b : Bool) → (b && ended_ok how) ≡ false
      bad true = failed
      bad false = refl

      low : SameLow (Ended pass page how ∷ h) h
      low = record { valid = valid-ended; low = λ p. low-ended_other pass page how h p (bad (page == p)) }

      at : (p : ℕ) → (b : Bool) → (page == p) ≡ b → (p == page || is_in_set p i.unknown) ≡ not (is_known (Ended pass page how ∷ h) p)
      at p true same =
          let k = subst (HasBegun h) (eqb-true page p same) begun-front in
          ap (λ b. b || is_in_set p i.unknown) (flipped p page ∙ same)
          ∙ sym (ap (λ o. not (is_some o)) (image-ended_bad (λ q. []) pass page how h k.front p same failed k.is))
      at p false other =
          ap (λ b. b || is_in_set p i.unknown) (flipped p page ∙ other)
          ∙ (stands.unknown_are p ∙ sym (ap not (known-other p other)))

  module _ (good : ended_ok how ≡ true) where
    -- the least valid data length of the page is that since its transfer began
    low-page : (p : ℕ) → (page == p) ≡ true → low_of (Ended pass page how ∷ h) p ≡ i.begun
    low-page p same =
        low-ended_good pass page how h p same good
        ∙ (ap (low_since true h) (sym (eqb-true page p same)) ∙ sym (stands.begun_is (record { pass = pass; page = page }) end.under_way))

    low-other : (p : ℕ) → (page == p) ≡ false → low_of (Ended pass page how ∷ h) p ≡ low_of h p
    low-other p other = low-ended_other pass page how h p (ap (λ b. b && ended_ok how) other)

    begun-order : low_of h page ≤ i.begun
    begun-order =
        let is : i.begun ≡ low_since true h page = stands.begun_is (record { pass = pass; page = page }) end.under_way in
        let within : low_of h page ≤ low_since true h page = low-order h page in
        omega arith

    kept-first : (byte : ℕ) → is_among byte i.grown ≡ true → IsFirst (low_of h (byte / 4096)) (valid_of h) byte
    kept-first byte among = IsFirst-grown h byte (sym (stands.grown_are byte) ∙ among)

    first-kept_too : (byte : ℕ) → IsFirst (low_of h (byte / 4096)) (valid_of h) byte → is_among byte i.grown ≡ true
    first-kept_too byte first = stands.grown_are byte ∙ grown-IsFirst h byte first

    -- a first byte after the end, by its least valid data length
    to-later : (byte low : ℕ) → low_of (Ended pass page how ∷ h) (byte / 4096) ≡ low → IsFirst low (valid_of h) byte → is_first_grown (Ended pass page how ∷ h) byte ≡ true
    to-later byte low is first =
        grown-IsFirst (Ended pass page how ∷ h) byte
        (subst (λ v. IsFirst (low_of (Ended pass page how ∷ h) (byte / 4096)) v byte) (sym valid-ended)
        (subst (λ l. IsFirst l (valid_of h) byte) (sym is) first))

    from-later : (byte low : ℕ) → low_of (Ended pass page how ∷ h) (byte / 4096) ≡ low → is_first_grown (Ended pass page how ∷ h) byte ≡ true → IsFirst low (valid_of h) byte
    from-later byte low is grown =
        subst (λ l. IsFirst l (valid_of h) byte) is
        (subst (λ v. IsFirst (low_of (Ended pass page how ∷ h) (byte / 4096)) v byte) valid-ended (IsFirst-grown (Ended pass page how ∷ h) byte grown))

    module _ (grew : grew_past page i.begun (valid_of h) ≡ true) where
      begun-below : i.begun < valid_of h
      begun-below = ltb-true _ _ (and_parts (nat_lt i.begun (valid_of h)) _ grew).0

      begun-within : i.begun / 4096 ≤ page
      begun-within = leb-true _ _ (and_parts (nat_lt i.begun (valid_of h)) _ grew).1

      moved : (n : ℕ) → (n / 4096 == page) ≡ true → moved_up page i.begun n ≡ max n i.begun
      moved n same = ap (λ b. if b then max n i.begun else n) same

      stayed : (n : ℕ) → (n / 4096 == page) ≡ false → moved_up page i.begun n ≡ n
      stayed n other = ap (λ b. if b then max n i.begun else n) other

      same-page : (n : ℕ) → moved_up page i.begun n / 4096 ≡ n / 4096
      same-page n = go (n / 4096 == page) refl
        where
          go : (b : Bool) → (n / 4096 == page) ≡ b → (if b then max n i.begun else n) / 4096 ≡ n / 4096
          go true same = let is : n / 4096 ≡ page = eqb-true _ _ same in let within : i.begun / 4096 ≤ page = begun-within in omega arith
          go false other = refl

      regrown-first : (byte : ℕ) → is_among byte (regrown i.grown page i.begun) ≡ true → is_first_grown (Ended pass page how ∷ h) byte ≡ true
      regrown-first byte among = go (among-map (λ n. moved_up page i.begun n) byte i.grown among)
        where
          at : (n : ℕ) → is_among n i.grown ≡ true → moved_up page i.begun n ≡ byte → (b : Bool) → (n / 4096 == page) ≡ b → is_first_grown (Ended pass page how ∷ h) byte ≡ true
          at n there is true same =
              let of_page : n / 4096 ≡ page = eqb-true _ _ same in
              let byte_is : byte ≡ max n i.begun = sym is ∙ moved n same in
              let byte_page : byte / 4096 ≡ page = ap (λ m. m / 4096) (sym is) ∙ (same-page n ∙ of_page) in
              let first = kept-first n there in
              let number : n ≡ max (4096 * page) (low_of h page) = first.is ∙ ap (λ p. max (4096 * p) (low_of h p)) of_page in
              let under : n < valid_of h = first.below in
              let order : low_of h page ≤ i.begun = begun-order in
              let below : i.begun < valid_of h = begun-below in
              let value : byte ≡ max (4096 * page) i.begun = omega arith in
              to-later byte i.begun (low-page (byte / 4096) (eq-eqb _ _ (sym byte_page)))
              (record { is = value ∙ ap (λ p. max (4096 * p) i.begun) (sym byte_page); below = omega arith })
          at n there is false other =
              let same : n ≡ byte = sym (stayed n other) ∙ is in
              let first = subst (λ m. IsFirst (low_of h (m / 4096)) (valid_of h) m) same (kept-first n there) in
              to-later byte (low_of h (byte / 4096)) (low-other (byte / 4096) (flipped page (byte / 4096) ∙ (ap (λ m. m / 4096 == page) (sym same) ∙ other))) first

          go : IsMapped (λ n. moved_up page i.begun n) i.grown byte → is_first_grown (Ended pass page how ∷ h) byte ≡ true
          go k = at k.number k.among k.is (k.number / 4096 == page) refl

      first-regrown : (byte : ℕ) → is_first_grown (Ended pass page how ∷ h) byte ≡ true → is_among byte (regrown i.grown page i.begun) ≡ true
      first-regrown byte grown = go (byte / 4096 == page) refl
        where
          go : (b : Bool) → (byte / 4096 == page) ≡ b → is_among byte (regrown i.grown page i.begun) ≡ true
          go true same =
              let of_page : byte / 4096 ≡ page = eqb-true _ _ same in
              let first = from-later byte i.begun (low-page (byte / 4096) (flipped page (byte / 4096) ∙ same)) grown in
              let value : byte ≡ max (4096 * page) i.begun = first.is ∙ ap (λ p. max (4096 * p) i.begun) of_page in
              let below : byte < valid_of h = first.below in
              let order : low_of h page ≤ i.begun = begun-order in
              let within : i.begun / 4096 ≤ page = begun-within in
              let n : ℕ = max (4096 * page) (low_of h page) in
              let n_page : n / 4096 ≡ page = omega arith in
              let there = first-kept_too n (record { is = ap (λ p. max (4096 * p) (low_of h p)) (sym n_page); below = omega arith }) in
              let is : moved_up page i.begun n ≡ byte = moved n (eq-eqb _ _ n_page) ∙ omega arith in
              subst (λ m. is_among m (regrown i.grown page i.begun) ≡ true) is (map-among (λ m. moved_up page i.begun m) n i.grown there)
          go false other =
              let first = from-later byte (low_of h (byte / 4096)) (low-other (byte / 4096) (flipped page (byte / 4096) ∙ other)) grown in
              subst (λ m. is_among m (regrown i.grown page i.begun) ≡ true) (stayed byte other) (map-among (λ m. moved_up page i.begun m) byte i.grown (first-kept_too byte first))

    module _ (not_grew : grew_past page i.begun (valid_of h) ≡ false) where
      without-first : (byte : ℕ) → is_among byte (without_page i.grown page) ≡ true → is_first_grown (Ended pass page how ∷ h) byte ≡ true
      without-first byte among =
          let parts = and_parts (is_among byte i.grown) (not (byte / 4096 == page)) (sym (is_among-filter (λ n. not (n / 4096 == page)) byte i.grown) ∙ among) in
          to-later byte (low_of h (byte / 4096)) (low-other (byte / 4096) (flipped page (byte / 4096) ∙ not-not _ parts.1)) (kept-first byte parts.0)
        where
          not-not : (b : Bool) → not b ≡ true → b ≡ false
          not-not true is = absurd (cc)
          not-not false is = refl

      first-without : (byte : ℕ) → is_first_grown (Ended pass page how ∷ h) byte ≡ true → is_among byte (without_page i.grown page) ≡ true
      first-without byte grown = is_among-filter (λ n. not (n / 4096 == page)) byte i.grown ∙ go (byte / 4096 == page) refl
        where
          go : (b : Bool) → (byte / 4096 == page) ≡ b → (is_among byte i.grown && not (byte / 4096 == page)) ≡ true
          go true same =
              let of_page : byte / 4096 ≡ page = eqb-true _ _ same in
              let first = from-later byte i.begun (low-page (byte / 4096) (flipped page (byte / 4096) ∙ same)) grown in
              let value : byte ≡ max (4096 * page) i.begun = first.is ∙ ap (λ p. max (4096 * p) i.begun) of_page in
              let below : byte < valid_of h = first.below in
              let least : i.begun < valid_of h = omega arith in
              let within : i.begun / 4096 ≤ page = omega arith in
              absurd (cc (not_grew, and_from _ _ (lt-ltb i.begun (valid_of h) least) (le-leb (i.begun / 4096) page within)))
            where
              le-leb : (a b : ℕ) → a ≤ b → nat_le a b ≡ true
              le-leb a b le = grind (arith, lt-ltb, leb-true)
          go false other =
              and_from _ _ (first-kept_too byte (from-later byte (low_of h (byte / 4096)) (low-other (byte / 4096) (flipped page (byte / 4096) ∙ other)) grown)) (ap not other)

    grown-written : (valid : ℕ) → valid ≡ valid_of h → (byte : ℕ) → is_among byte (with_written_page i.grown page i.begun valid) ≡ is_first_grown (Ended pass page how ∷ h) byte
    grown-written valid is byte =
        ap (λ v. is_among byte (with_written_page i.grown page i.begun v)) is ∙ go (grew_past page i.begun (valid_of h)) refl
      where
        go : (b : Bool) → grew_past page i.begun (valid_of h) ≡ b → is_among byte (if b then regrown i.grown page i.begun else without_page i.grown page) ≡ is_first_grown (Ended pass page how ∷ h) byte
        go true grew = same_tests _ _ (regrown-first grew byte) (first-regrown grew byte)
        go false not_grew = same_tests _ _ (without-first not_grew byte) (first-without not_grew byte)

    order-written : (valid : ℕ) → valid ≡ valid_of h → AscendsByPage (with_written_page i.grown page i.begun valid)
    order-written valid is = subst (λ v. AscendsByPage (with_written_page i.grown page i.begun v)) (sym is) (go (grew_past page i.begun (valid_of h)) refl)
      where
        go : (b : Bool) → grew_past page i.begun (valid_of h) ≡ b → AscendsByPage (if b then regrown i.grown page i.begun else without_page i.grown page)
        go true grew = ascends-map (λ n. moved_up page i.begun n) (same-page grew) i.grown stands.in_order
        go false not_grew = ascends-filter (λ n. not (n / 4096 == page)) i.grown stands.in_order

    -- a good end
    pub stands-good : (valid : ℕ) → valid ≡ valid_of h → (unknown : PageSet) → ((p : ℕ) → is_in_set p unknown ≡ (is_in_set p i.unknown && not (p == page))) → ImagesStand (Ended pass page how ∷ h) (record i { grown = with_written_page i.grown page i.begun valid; unknown = unknown })
    stands-good valid is unknown has = record {
      grown_are = grown-written valid is;
      in_order = order-written valid is;
      grown_is_dirty = end.grown_is_dirty;
      grown_has_room = subst (λ n. 64 * n ≤ i.grown_room) (sym (quota_of-ended pass page how h)) stands.grown_has_room;
      begun_is = λ t under. absurd (none_open t under);
      unknown_are = λ p. has p ∙ at p (page == p) refl;
      unknown_has_room = λ t under. absurd (none_open t under);
    }
      where
        none : (b : Bool) → (b && false) ≡ false
        none true = refl
        none false = refl

        all : (b : Bool) → (b && true) ≡ b
        all true = refl
        all false = refl

        at : (p : ℕ) → (b : Bool) → (page == p) ≡ b → (is_in_set p i.unknown && not (p == page)) ≡ not (is_known (Ended pass page how ∷ h) p)
        at p true same =
            let k = subst (HasBegun h) (eqb-true page p same) begun-front in
            ap (λ b. is_in_set p i.unknown && not b) (flipped p page ∙ same)
            ∙ (none (is_in_set p i.unknown) ∙ sym (ap (λ o. not (is_some o)) (image-ended_good (λ q. []) pass page how h k.front p same good k.is)))
        at p false other =
            ap (λ b. is_in_set p i.unknown && not b) (flipped p page ∙ other)
            ∙ (all (is_in_set p i.unknown) ∙ (stands.unknown_are p ∙ sym (ap not (known-other p other))))

-- the end of a transfer, with what it may do
module _ {u : Setup} {past : List Entry} {pass page s : ℕ} {how : End} {i : Images} {valid : ℕ} (may : MayEndTransfer u past pass (record { stream = s; page = page }) how i valid) where
  end-may : IsEnd (history past s) pass page how
  end-may = IsEnd-good u past pass (record { stream = s; page = page }) how may.good

  pub good-may : ended_ok how ≡ true → (unknown : PageSet) → ((p : ℕ) → is_in_set p unknown ≡ (is_in_set p i.unknown && not (p == page))) → ImagesStand (Ended pass page how ∷ history past s) (record i { grown = with_written_page i.grown page i.begun valid; unknown = unknown })
  good-may good = stands-good (history past s) pass page how i end-may may.stands good valid may.valid_is

  pub failed-may : ended_ok how ≡ false → (unknown : PageSet) → ((p : ℕ) → is_in_set p unknown ≡ (p == page || is_in_set p i.unknown)) → ImagesStand (Ended pass page how ∷ history past s) (record i { unknown = unknown })
  failed-may failed = stands-failed (history past s) pass page how i end-may may.stands failed

  -- an end has its place among the ranges of pages whose image is not known
  pub room-may : length i.unknown.ranges < i.unknown.room
  room-may = may.stands.unknown_has_room (record { pass = pass; page = page }) end-may.under_way
