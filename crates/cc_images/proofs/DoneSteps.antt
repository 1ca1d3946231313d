-- What is kept stands after a done call.
use Rattle.std.specs.Prelude.{◌≡◌, ℕ, ◌+◌, ◌-◌, ◌*◌, ◌/◌, ◌<◌, ◌≤◌, Bool, true, false, not, ◌==◌, ◌||◌, nat_lt, min, max, is_some, List, [], ◌∷◌, ◌++◌, length, refl, if◌then◌else◌}
use Rattle.std.specs.List.{AllByRecursion}
use Rattle.std.proofs.Common.{ap, sym, subst, ◌∙◌, arith}
use Rattle.std.proofs.lemmas.Bool.{and_parts, and_from, or_left, or_right, eqb-true, eq-eqb, ltb-true, lt-ltb}
use Rattle.std.specs.declared.option.Option.TheVariants.{Some}
use Rattle.cc_entry.specs.Place.{File}
use Rattle.cc_entry.specs.declared.place.FileSizes.{FileSizes}
use Rattle.cc_entry.specs.declared.call.Call.{Call}
use Rattle.cc_entry.specs.declared.call.Call.TheVariants as call
use Rattle.cc_entry.specs.declared.reply.Reply.{Reply}
use Rattle.cc_entry.specs.declared.reply.Outcome.TheVariants as outcome
use Rattle.cc_entry.specs.declared.entry.Entry.{Entry}
use Rattle.cc_entry.specs.declared.entry.Entry.TheVariants as entry
use Rattle.cc_model.specs.Acts.{Act, act_of, Opens, Closes, Resizes, Writes, Zeroes, Stores, Stamps, Discards, Looks}
use Rattle.cc_model.specs.Cache.{dirty_count}
use Rattle.cc_model.specs.Discards.{is_known, least_valid, low_since, low_of, has_grown}
use Rattle.cc_model.specs.Good.{IsGoodSoFar}
use Rattle.cc_model.specs.History.{Effect, Did, history}
use Rattle.cc_model.specs.Images.{Transfer, open_of}
use Rattle.cc_model.specs.Numbers.{is_among}
use Rattle.cc_model.specs.Objects.{had_map}
use Rattle.cc_model.specs.Residency.{is_resident, mapped_block_count}
use Rattle.cc_model.specs.Settings.{quota_of}
use Rattle.cc_model.specs.Setup.{Setup}
use Rattle.cc_model.specs.Touches.{sizes, valid_of, is_dirty, is_mapped}
use Rattle.cc_laws.proofs.BlockLists.{is_among-filter}
use Rattle.cc_laws.proofs.DirtyFacts.{dirty-mapped}
use Rattle.cc_laws.proofs.DirtyPages.{dirty_count-views}
use Rattle.cc_laws.proofs.FirstMap.{IsFirst-steady}
use Rattle.cc_laws.proofs.HistorySteps.{history-done}
use Rattle.cc_laws.proofs.ImageSteps.{open_of-done, image-done}
use Rattle.cc_laws.proofs.QuotaSteps.{quota_of-opens_mapped, quota_of-opens_anew, quota_of-closes, quota_of-resizes, quota_of-writes, quota_of-zeroes, quota_of-stores, quota_of-stamps, quota_of-discards, quota_of-looks}
use Rattle.cc_laws.proofs.SizeSteps.{sizes-opens_mapped, sizes-opens_anew, sizes-looks}
use Rattle.cc_laws.proofs.SoundFacts.{dirty_resident-good, within_quota-good}
use Rattle.cc_laws.proofs.Steady.{IsSteady, needs_no_map}
use Rattle.cc_laws.proofs.SteadyPasts.{IsSteady-good}
use Rattle.cc_images.specs.Images.{Images, ImagesStand, AscendsByPage, is_first_grown}
use Rattle.cc_images.specs.Changes.{has_page_of_bytes, with_page_of, starts, with_raised_length, lowered}
use Rattle.cc_images.specs.Following.{makes_map, MayFollowImages, MayOpen}
use Rattle.cc_images.proofs.LowSteps.{low-done, low-within, low-kept, low-uninitialised}
use Rattle.cc_images.proofs.GrownPages.{grown-dirty}
use Rattle.cc_images.proofs.FirstBytes.{same_tests, IsFirst, IsFirst-grown, grown-IsFirst, has-grown, first-fallen, fallen-first, first-kept, first-here, first-start, Risen, AsBefore, Here, Start, risen}
use Rattle.cc_images.proofs.Lists.{IsPassed, any-some, any-among, all-among, among-append, among-range, range-among, ascends-filter, ascends-raised, length-dirty}
use Rattle.cc_images.proofs.Standing.{stands-kept}

-- what is known of a done call with which the journal is good
pub record IsDone (h : List Effect) (pass : ℕ) (call : Call) (reply : Reply) : Type 0 where
  pub steady : IsSteady (Did pass call reply ∷ h)
  pub grown_is_dirty : (p : ℕ) → has_grown (Did pass call reply ∷ h) p ≡ true → is_dirty (Did pass call reply ∷ h) p ≡ true
  pub few : dirty_count (Did pass call reply ∷ h) ≤ 64 * quota_of (Did pass call reply ∷ h)

-- dirty pages are within the quota
few-dirty : (h : List Effect) → ((p : ℕ) → is_dirty h p ≡ true → is_resident h p ≡ true) → mapped_block_count h ≤ quota_of h → dirty_count h ≤ 64 * quota_of h
few-dirty h resident within = chain (is_mapped h) (dirty_count-views h resident within)
  where
    chain : (b : Bool) → dirty_count h ≤ 64 * (if b then quota_of h else 0) → dirty_count h ≤ 64 * quota_of h
    chain true few = few
    chain false few = omega arith

pub IsDone-good : (u : Setup) (past : List Entry) (pass nth s : ℕ) (call : Call) (reply : Reply) → IsGoodSoFar u (entry.Call pass nth (Some s) call (outcome.Done reply) ∷ past) → IsDone (history past s) pass call reply
IsDone-good u past pass nth s call reply good =
    let now : List Entry = entry.Call pass nth (Some s) call (outcome.Done reply) ∷ past in
    let step = history-done pass nth s call reply past s (eq-eqb s s refl) in
    record {
      steady = subst IsSteady step (IsSteady-good u now s good);
      grown_is_dirty = subst (λ (g : List Effect). (p : ℕ) → has_grown g p ≡ true → is_dirty g p ≡ true) step (grown-dirty u now s good);
      few = subst (λ (g : List Effect). dirty_count g ≤ 64 * quota_of g) step (few-dirty (history now s) (dirty_resident-good u now s good) (within_quota-good u now s good));
    }

-- a call that makes no map joins one where it is an initialise
joins-map : (h : List Effect) (it : Call) {file : File} {given : FileSizes} {quota : ℕ} {temporary : Bool} → makes_map h it ≡ false → act_of it ≡ Opens file given quota temporary → is_mapped h ≡ true
joins-map h (call.Initialise file sizes quota temporary) none is = go (is_mapped h) none
  where
    go : (b : Bool) → not b ≡ false → b ≡ true
    go true none = refl
    go false none = absurd (cc)
joins-map h (call.PreparePin file at len true exclusive) none is = absurd (cc)
joins-map h (call.PreparePin file at len false exclusive) none is = absurd (cc)
joins-map h other none is = absurd (cc)

module _ (h : List Effect) (pass : ℕ) (it : Call) (reply : Reply) (done : IsDone h pass it reply) where
  known-done : (p : ℕ) → is_known (Did pass it reply ∷ h) p ≡ is_known h p
  known-done p = ap is_some (image-done (λ q. []) pass it reply h p)

  -- a stream with an open transfer had a map
  open-had : (t : Transfer) → open_of h ≡ Some t → had_map h ≡ true
  open-had t under = go (had_map h) refl
    where
      go : (b : Bool) → had_map h ≡ b → b ≡ true
      go true had = refl
      go false never = let first = IsFirst-steady h done.steady.1 never in absurd (cc (first.no_transfer, under))

  -- the least valid data length since the open transfer began
  begun-done : (t : Transfer) → open_of (Did pass it reply ∷ h) ≡ Some t → low_since true (Did pass it reply ∷ h) t.page ≡ min (valid_of (Did pass it reply ∷ h)) (low_since true h t.page)
  begun-done t under =
      low-done true pass it reply h t.page
      ∙ ap (λ b. least_valid b (valid_of (Did pass it reply ∷ h)) (low_since true h t.page)) (open-had t (sym (open_of-done pass it reply h) ∙ under))

  module _ (none : makes_map h it ≡ false) where
    quota-done : quota_of (Did pass it reply ∷ h) ≡ quota_of h
    quota-done = go (act_of it) refl
      where
        go : (a : Act) → act_of it ≡ a → quota_of (Did pass it reply ∷ h) ≡ quota_of h
        go (Opens file given quota temporary) is = quota_of-opens_mapped pass it reply h is (joins-map h it none is)
        go (Closes file truncate) is = quota_of-closes pass it reply h is
        go (Resizes allocation size) is = quota_of-resizes pass it reply h is
        go (Writes at bytes) is = quota_of-writes pass it reply h is
        go (Zeroes from to) is = quota_of-zeroes pass it reply h is
        go (Stores page bytes) is = quota_of-stores pass it reply h is
        go (Stamps hold lsn) is = quota_of-stamps pass it reply h is
        go (Discards span) is = quota_of-discards pass it reply h is
        go Looks is = quota_of-looks pass it reply h is

    -- only a stream that had a map has its valid data length raised
    had-raised : valid_of h < valid_of (Did pass it reply ∷ h) → had_map h ≡ true
    had-raised rises = go (had_map h) refl
      where
        same : valid_of (Did pass it reply ∷ h) ≡ valid_of h → ⊥
        same e = omega arith

        by : (a : Act) → act_of it ≡ a → needs_no_map a ≡ true → ⊥
        by (Opens file given quota temporary) is free = same (ap (λ s. s.valid) (sizes-opens_mapped pass it reply h is (joins-map h it none is)))
        by Looks is free = same (ap (λ s. s.valid) (sizes-looks pass it reply h is))
        by other is free = cc

        go : (b : Bool) → had_map h ≡ b → b ≡ true
        go true had = refl
        go false never =
            let first = IsFirst-steady h done.steady.1 never in
            absurd (by (act_of it) refl (done.steady.0.first first.unopened first.unheld))

    -- the valid data length stays
    pub stands-same : (i : Images) (was now : ℕ) → was ≡ valid_of h → now ≡ valid_of (Did pass it reply ∷ h) → was ≡ now → ImagesStand h i → ImagesStand (Did pass it reply ∷ h) i
    stands-same i was now was_is now_is stays stands =
        let valid : valid_of (Did pass it reply ∷ h) ≡ valid_of h = sym now_is ∙ (sym stays ∙ was_is) in
        stands-kept (Did pass it reply ∷ h) h i
        (record { valid = valid; low = low false valid })
        (record { quota = quota-done; under_way = open_of-done pass it reply h; begun = λ t under. low true valid t.page; known = known-done })
        done.grown_is_dirty stands
      where
        low : (ended : Bool) → valid_of (Did pass it reply ∷ h) ≡ valid_of h → (p : ℕ) → low_since ended (Did pass it reply ∷ h) p ≡ low_since ended h p
        low ended valid p =
            low-done ended pass it reply h p
            ∙ (ap (λ v. least_valid (had_map h) v (low_since ended h p)) valid ∙ low-kept ended h p)

    -- it falls
    pub stands-fallen : (i : Images) (was now begun : ℕ) → was ≡ valid_of h → now ≡ valid_of (Did pass it reply ∷ h) → now ≤ was → begun ≡ min i.begun now → ImagesStand h i → ImagesStand (Did pass it reply ∷ h) (record { grown = lowered i.grown now; begun = begun; unknown = i.unknown; grown_room = i.grown_room })
    stands-fallen i was now begun was_is now_is falls begun_is stands = record {
      grown_are = λ byte. same_tests _ _ (to byte) (from byte);
      in_order = ascends-filter (λ byte. nat_lt byte now) i.grown stands.in_order;
      grown_is_dirty = done.grown_is_dirty;
      grown_has_room = subst (λ n. 64 * n ≤ i.grown_room) (sym quota-done) stands.grown_has_room;
      begun_is = λ t under.
          begun_is
          ∙ (swap i.begun now
          ∙ (ap (min now) (stands.begun_is t (sym (open_of-done pass it reply h) ∙ under))
          ∙ (ap (λ v. min v (low_since true h t.page)) now_is ∙ sym (begun-done t under))));
      unknown_are = λ p. stands.unknown_are p ∙ sym (ap not (known-done p));
      unknown_has_room = λ t under. stands.unknown_has_room t (sym (open_of-done pass it reply h) ∙ under);
    }
      where
        swap : (a b : ℕ) → min a b ≡ min b a
        swap a b = omega arith

        low : (p : ℕ) → low_of (Did pass it reply ∷ h) p ≡ min now (low_of h p)
        low p = low-done false pass it reply h p ∙ (ap (λ v. least_valid (had_map h) v (low_of h p)) (sym now_is) ∙ go (had_map h) refl)
          where
            least : (a b : ℕ) → a ≤ b → a ≡ min a b
            least a b le = omega arith

            go : (b : Bool) → had_map h ≡ b → least_valid b now (low_of h p) ≡ min now (low_of h p)
            go true had = refl
            go false never =
                let all : low_of h p ≡ valid_of h = low-uninitialised false h p never in
                least now (low_of h p) (omega arith)

        to : (byte : ℕ) → is_among byte (lowered i.grown now) ≡ true → is_first_grown (Did pass it reply ∷ h) byte ≡ true
        to byte among =
            let parts = and_parts (is_among byte i.grown) (nat_lt byte now) (sym (is_among-filter (λ b. nat_lt b now) byte i.grown) ∙ among) in
            let first = IsFirst-grown h byte (sym (stands.grown_are byte) ∙ parts.0) in
            let within : low_of h (byte / 4096) ≤ valid_of h = low-within false h (byte / 4096) in
            let fallen = first-fallen (low_of h (byte / 4096)) (valid_of h) now byte within (omega arith) first (ltb-true byte now parts.1) in
            grown-IsFirst (Did pass it reply ∷ h) byte
            (subst (λ v. IsFirst (low_of (Did pass it reply ∷ h) (byte / 4096)) v byte) now_is
            (subst (λ l. IsFirst l now byte) (sym (low (byte / 4096))) fallen))

        from : (byte : ℕ) → is_first_grown (Did pass it reply ∷ h) byte ≡ true → is_among byte (lowered i.grown now) ≡ true
        from byte is =
            let first = subst (λ l. IsFirst l now byte) (low (byte / 4096)) (subst (λ v. IsFirst (low_of (Did pass it reply ∷ h) (byte / 4096)) v byte) (sym now_is) (IsFirst-grown (Did pass it reply ∷ h) byte is)) in
            let was_first = fallen-first (low_of h (byte / 4096)) (valid_of h) now byte (omega arith) first in
            is_among-filter (λ b. nat_lt b now) byte i.grown
            ∙ and_from _ _ (stands.grown_are byte ∙ grown-IsFirst h byte was_first) (lt-ltb byte now first.below)

    module _ (i : Images) (was now : ℕ) (was_is : was ≡ valid_of h) (now_is : now ≡ valid_of (Did pass it reply ∷ h)) (rises : was < now) (stands : ImagesStand h i) where
      low-raised : (p : ℕ) → low_of (Did pass it reply ∷ h) p ≡ low_of h p
      low-raised p =
          let within : low_of h p ≤ valid_of h = low-within false h p in
          low-done false pass it reply h p
          ∙ (ap (λ b. least_valid b (valid_of (Did pass it reply ∷ h)) (low_of h p)) (had-raised (omega arith))
          ∙ lesser (valid_of (Did pass it reply ∷ h)) (low_of h p) (omega arith))
        where
          lesser : (a b : ℕ) → b ≤ a → min a b ≡ b
          lesser a b le = omega arith

      -- a byte that is kept is the first of its page that has grown
      kept-first : (byte : ℕ) → is_among byte i.grown ≡ true → IsFirst (low_of h (byte / 4096)) was byte
      kept-first byte among = subst (λ v. IsFirst (low_of h (byte / 4096)) v byte) (sym was_is) (IsFirst-grown h byte (sym (stands.grown_are byte) ∙ among))

      first-kept_too : (byte : ℕ) → IsFirst (low_of h (byte / 4096)) was byte → is_among byte i.grown ≡ true
      first-kept_too byte first = stands.grown_are byte ∙ grown-IsFirst h byte (subst (λ v. IsFirst (low_of h (byte / 4096)) v byte) was_is first)

      low-below : (p : ℕ) → low_of h p ≤ was
      low-below p = let within : low_of h p ≤ valid_of h = low-within false h p in omega arith

      later-first : (byte : ℕ) → IsFirst (low_of h (byte / 4096)) now byte → is_first_grown (Did pass it reply ∷ h) byte ≡ true
      later-first byte first =
          grown-IsFirst (Did pass it reply ∷ h) byte
          (subst (λ v. IsFirst (low_of (Did pass it reply ∷ h) (byte / 4096)) v byte) now_is
          (subst (λ l. IsFirst l now byte) (sym (low-raised (byte / 4096))) first))

      first-later : (byte : ℕ) → is_first_grown (Did pass it reply ∷ h) byte ≡ true → IsFirst (low_of h (byte / 4096)) now byte
      first-later byte is =
          subst (λ l. IsFirst l now byte) (low-raised (byte / 4096))
          (subst (λ v. IsFirst (low_of (Did pass it reply ∷ h) (byte / 4096)) v byte) (sym now_is) (IsFirst-grown (Did pass it reply ∷ h) byte is))

      abbrev last : ℕ
      last = (now - 1) / 4096 + 1

      with-first : (byte : ℕ) → (b : Bool) → has_page_of_bytes i.grown (was / 4096) ≡ b → is_among byte (if b then i.grown else i.grown ++ was ∷ []) ≡ true → IsFirst (low_of h (byte / 4096)) now byte
      with-first byte true some among = first-kept (low_of h (byte / 4096)) was now byte rises (kept-first byte among)
      with-first byte false none among = go (is_among byte i.grown) refl (sym (among-append byte i.grown (was ∷ [])) ∙ among)
        where
          here : IsFirst (low_of h (was / 4096)) now was
          here = first-here (low_of h (was / 4096)) was now (low-below (was / 4096)) rises (λ n page first. absurd (no n page first))
            where
              no : (n : ℕ) → n / 4096 ≡ was / 4096 → IsFirst (low_of h (was / 4096)) was n → ⊥
              no n page first = none-passes (first-kept_too n (subst (λ p. IsFirst (low_of h p) was n) (sym page) first))
                where
                  none-passes : is_among n i.grown ≡ true → ⊥
                  none-passes among = cc (none, any-passes n page among)
                    where
                      any-passes : (m : ℕ) → m / 4096 ≡ was / 4096 → is_among m i.grown ≡ true → has_page_of_bytes i.grown (was / 4096) ≡ true
                      any-passes m same there = any-among (λ byte. byte / 4096 == was / 4096) m i.grown there (eq-eqb _ _ same)

          go : (b : Bool) → is_among byte i.grown ≡ b → (b || (was == byte || false)) ≡ true → IsFirst (low_of h (byte / 4096)) now byte
          go true there it = first-kept (low_of h (byte / 4096)) was now byte rises (kept-first byte there)
          go false absent it = at (was == byte) refl it
            where
              at : (c : Bool) → (was == byte) ≡ c → (c || false) ≡ true → IsFirst (low_of h (byte / 4096)) now byte
              at true same it = subst (λ n. IsFirst (low_of h (n / 4096)) now n) (eqb-true was byte same) here
              at false other it = absurd (cc)

      raised-first : (byte : ℕ) → is_among byte (with_raised_length i.grown was now) ≡ true → is_first_grown (Did pass it reply ∷ h) byte ≡ true
      raised-first byte among = later-first byte (go (is_among byte (with_page_of i.grown was)) refl (sym (among-append byte (with_page_of i.grown was) (starts (was / 4096 + 1) last)) ∙ among))
        where
          go : (b : Bool) → is_among byte (with_page_of i.grown was) ≡ b → (b || is_among byte (starts (was / 4096 + 1) last)) ≡ true → IsFirst (low_of h (byte / 4096)) now byte
          go true there it = with-first byte (has_page_of_bytes i.grown (was / 4096)) refl there
          go false absent it =
              let k = among-range (was / 4096 + 1) (last - (was / 4096 + 1)) byte it in
              let above : was / 4096 + 1 ≤ k.page = k.above in
              let below : k.page < was / 4096 + 1 + (last - (was / 4096 + 1)) = k.below in
              let page : byte / 4096 ≡ k.page = omega (arith, k.is) in
              let within : k.page ≤ (now - 1) / 4096 = omega arith in
              let start : 4096 * k.page < now = omega arith in
              let first = first-start (low_of h k.page) was now k.page (low-below k.page) (omega arith) start in
              subst (λ n. IsFirst (low_of h (byte / 4096)) now n) (sym k.is) (subst (λ p. IsFirst (low_of h p) now (4096 * k.page)) (sym page) first)

      first-raised : (byte : ℕ) → is_first_grown (Did pass it reply ∷ h) byte ≡ true → is_among byte (with_raised_length i.grown was now) ≡ true
      first-raised byte is = among-append byte (with_page_of i.grown was) (starts (was / 4096 + 1) last) ∙ go (risen (low_of h (byte / 4096)) was now byte (low-below (byte / 4096)) rises first)
        where
          first : IsFirst (low_of h (byte / 4096)) now byte
          first = first-later byte is

          kept : (b : Bool) → is_among byte i.grown ≡ true → is_among byte (if b then i.grown else i.grown ++ was ∷ []) ≡ true
          kept true there = there
          kept false there = among-append byte i.grown (was ∷ []) ∙ or_left _ _ there

          -- where the page of the place is there already, the place itself is not its first byte
          here : byte ≡ was → (b : Bool) → has_page_of_bytes i.grown (was / 4096) ≡ b → is_among byte (if b then i.grown else i.grown ++ was ∷ []) ≡ true
          here same true some = absurd (no (any-some (λ n. n / 4096 == was / 4096) i.grown some))
            where
              no : IsPassed (λ n. n / 4096 == was / 4096) i.grown → ⊥
              no k =
                  let other = kept-first k.number k.among in
                  let below : k.number < was = other.below in
                  let page : k.number / 4096 ≡ byte / 4096 = eqb-true _ _ k.passes ∙ ap (λ n. n / 4096) (sym same) in
                  let is_first : k.number ≡ byte = other.is ∙ (ap (λ p. max (4096 * p) (low_of h p)) page ∙ sym first.is) in
                  omega arith
          here same false none = among-append byte i.grown (was ∷ []) ∙ or_right (is_among byte i.grown) _ (or_left _ _ (eq-eqb was byte (sym same)))

          go : Risen (low_of h (byte / 4096)) was now byte → (is_among byte (with_page_of i.grown was) || is_among byte (starts (was / 4096 + 1) last)) ≡ true
          go (AsBefore was_first) = or_left _ _ (kept (has_page_of_bytes i.grown (was / 4096)) (first-kept_too byte was_first))
          go (Here same) = or_left _ _ (here same (has_page_of_bytes i.grown (was / 4096)) refl)
          go (Start start later) =
              let below : byte < now = first.below in
              let within : byte / 4096 ≤ (now - 1) / 4096 = omega arith in
              let among = range-among (was / 4096 + 1) (last - (was / 4096 + 1)) (byte / 4096) (omega arith) (omega arith) in
              or_right (is_among byte (with_page_of i.grown was)) _ (subst (λ n. is_among n (starts (was / 4096 + 1) last) ≡ true) (sym start) among)

      in-order : AscendsByPage (with_raised_length i.grown was now)
      in-order = ascends-raised i.grown was stands.in_order (λ n among. (kept-first n among).below) last

      -- there is room for the pages that have grown
      pub room-raised : length (with_raised_length i.grown was now) ≤ i.grown_room
      room-raised =
          let dirty = length-dirty (Did pass it reply ∷ h) (with_raised_length i.grown was now) in-order
          (λ n among. done.grown_is_dirty (n / 4096) (has-grown (Did pass it reply ∷ h) n (IsFirst-grown (Did pass it reply ∷ h) n (raised-first n among)))) in
          let few : dirty_count (Did pass it reply ∷ h) ≤ 64 * quota_of (Did pass it reply ∷ h) = done.few in
          let room : 64 * quota_of h ≤ i.grown_room = stands.grown_has_room in
          omega (arith, dirty, quota-done)

      -- it rises
      pub stands-raised : (room : ℕ) → i.grown_room ≤ room → ImagesStand (Did pass it reply ∷ h) (record { grown = with_raised_length i.grown was now; begun = i.begun; unknown = i.unknown; grown_room = room })
      stands-raised room more = record {
        grown_are = λ byte. same_tests _ _ (raised-first byte) (first-raised byte);
        in_order = in-order;
        grown_is_dirty = done.grown_is_dirty;
        grown_has_room = let had : 64 * quota_of h ≤ i.grown_room = stands.grown_has_room in omega (arith, quota-done);
        begun_is = λ t under.
            stands.begun_is t (sym (open_of-done pass it reply h) ∙ under)
            ∙ (least (valid_of (Did pass it reply ∷ h)) (valid_of h) (low_since true h t.page) (omega arith) (low-within true h t.page)
            ∙ sym (begun-done t under));
        unknown_are = λ p. stands.unknown_are p ∙ sym (ap not (known-done p));
        unknown_has_room = λ t under. stands.unknown_has_room t (sym (open_of-done pass it reply h) ∙ under);
      }
        where
          least : (a b c : ℕ) → b ≤ a → c ≤ b → c ≡ min a c
          least a b c ab cb = omega arith

-- a done call that makes no map, with what it may do
module _ {u : Setup} {past : List Entry} {pass nth s : ℕ} {it : Call} {reply : Reply} {i : Images} {was now : ℕ} (may : MayFollowImages u past pass nth s it reply i was now) where
  done-may : IsDone (history past s) pass it reply
  done-may = IsDone-good u past pass nth s it reply may.good

  pub room-may : was < now → length (with_raised_length i.grown was now) ≤ i.grown_room
  room-may rises = room-raised (history past s) pass it reply done-may may.makes_none i was now may.was_is may.now_is rises may.stands

  -- the bytes that are kept are below the valid data length before the call
  pub below-may : AllByRecursion (λ byte. byte < was) i.grown
  below-may = all-among (λ byte. byte < was) i.grown (λ byte among. less byte (IsFirst-grown (history past s) byte (sym (may.stands.grown_are byte) ∙ among)))
    where
      less : (byte : ℕ) → IsFirst (low_of (history past s) (byte / 4096)) (valid_of (history past s)) byte → byte < was
      less byte first = let below : byte < valid_of (history past s) = first.below in omega (arith, may.was_is)

  pub raised-may : was < now → (room : ℕ) → i.grown_room ≤ room → ImagesStand (Did pass it reply ∷ history past s) (record { grown = with_raised_length i.grown was now; begun = i.begun; unknown = i.unknown; grown_room = room })
  raised-may rises = stands-raised (history past s) pass it reply done-may may.makes_none i was now may.was_is may.now_is rises may.stands

  pub fallen-may : now ≤ was → (begun : ℕ) → begun ≡ min i.begun now → ImagesStand (Did pass it reply ∷ history past s) (record { grown = lowered i.grown now; begun = begun; unknown = i.unknown; grown_room = i.grown_room })
  fallen-may falls begun is = stands-fallen (history past s) pass it reply done-may may.makes_none i was now begun may.was_is may.now_is falls is may.stands

  pub same-may : was ≡ now → ImagesStand (Did pass it reply ∷ history past s) i
  same-may stays = stands-same (history past s) pass it reply done-may may.makes_none i was now may.was_is may.now_is stays may.stands

-- an initialise that makes the map
pub stands-opened : {u : Setup} {past : List Entry} {pass nth s : ℕ} {file : File} {given : FileSizes} {quota : ℕ} {temporary : Bool} {reply : Reply} {i : Images} → MayOpen u past pass nth s file given quota temporary reply i → (begun room : ℕ) → begun ≡ min i.begun given.valid → 64 * quota ≤ room
    → ImagesStand (Did pass (call.Initialise file given quota temporary) reply ∷ history past s) (record { grown = []; begun = begun; unknown = i.unknown; grown_room = room })
stands-opened {u} {past} {pass} {nth} {s} {file} {given} {quota} {temporary} {reply} {i} may begun room begun_is more = record {
  grown_are = λ byte. same_tests _ _ (λ among. absurd (cc)) (λ is. absurd (none byte (IsFirst-grown later byte is)));
  in_order = tt;
  grown_is_dirty = done.grown_is_dirty;
  grown_has_room = subst (λ n. 64 * n ≤ room) (sym (quota_of-opens_anew pass it reply h refl may.unmapped)) more;
  begun_is = λ t under.
      begun_is
      ∙ (swap i.begun given.valid
      ∙ (ap (min given.valid) (may.stands.begun_is t (sym (open_of-done pass it reply h) ∙ under))
      ∙ (ap (λ v. min v (low_since true h t.page)) (sym valid) ∙ sym (begun-done h pass it reply done t under))));
  unknown_are = λ p. may.stands.unknown_are p ∙ sym (ap not (known-done h pass it reply done p));
  unknown_has_room = λ t under. may.stands.unknown_has_room t (sym (open_of-done pass it reply h) ∙ under);
}
  where
    h : List Effect
    h = history past s

    it : Call
    it = call.Initialise file given quota temporary

    later : List Effect
    later = Did pass it reply ∷ h

    done : IsDone h pass it reply
    done = IsDone-good u past pass nth s it reply may.good

    swap : (a b : ℕ) → min a b ≡ min b a
    swap a b = omega arith

    valid : valid_of later ≡ given.valid
    valid = ap (λ z. z.valid) (sizes-opens_anew pass it reply h refl may.unmapped)

    -- a page of a stream without a map has not grown
    unmapped : (byte : ℕ) → IsFirst (low_of h (byte / 4096)) (valid_of h) byte → ⊥
    unmapped byte first =
        let dirty = may.stands.grown_is_dirty (byte / 4096) (has-grown h byte first) in
        cc (may.unmapped, dirty-mapped h (byte / 4096) dirty)

    none : (byte : ℕ) → IsFirst (low_of later (byte / 4096)) (valid_of later) byte → ⊥
    none byte first = go (had_map h) refl
      where
        at : (had : Bool) → had_map h ≡ had → IsFirst (least_valid had given.valid (low_of h (byte / 4096))) given.valid byte
        at had is =
            subst (λ b. IsFirst (least_valid b given.valid (low_of h (byte / 4096))) given.valid byte) is
            (subst (λ v. IsFirst (least_valid (had_map h) v (low_of h (byte / 4096))) v byte) valid
            (subst (λ l. IsFirst l (valid_of later) byte) (low-done false pass it reply h (byte / 4096)) first))

        go : (b : Bool) → had_map h ≡ b → ⊥
        go true had =
            let back : given.valid ≤ valid_of h = done.steady.0.back may.unmapped had in
            unmapped byte (fallen-first (low_of h (byte / 4096)) (valid_of h) given.valid byte back (at true had))
        go false never =
            let k = at false never in
            let is : byte ≡ max (4096 * (byte / 4096)) given.valid = k.is in
            let below : byte < given.valid = k.below in
            omega arith
