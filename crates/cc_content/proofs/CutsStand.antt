-- Kept pages stand for a history after a done call that takes pages: a size step, or a discard.
use Rattle.std.proofs.Common.{◌≡◌, ℕ, ◌*◌, ◌/◌, ◌%◌, ◌<◌, ◌≤◌, ◌⊎◌, inl, inr, Bool, true, false, not, ◌&&◌, nat_lt, nat_le, List, [], ◌∷◌, get_or, min, Option, None, Some, is_some, refl, sym, ap, ◌∙◌, true≢false, arith}
use Rattle.std.proofs.lemmas.Bool.{ltb-true, ltb-false, leb-true, cases_lt}
use Rattle.std.proofs.lemmas.Bool.Decides.{nat_tests}
use Rattle.std.specs.List.{filter}
use Rattle.std.specs.Option.{option_map}
use Rattle.cc_entry.specs.Place.{File, Range}
use Rattle.cc_entry.specs.declared.call.Call.{Call}
use Rattle.cc_entry.specs.declared.reply.Reply.{Reply}
use Rattle.cc_views.specs.Views.{MappedViews}
use Rattle.cc_resident.specs.Residents.{page_bytes_at, byte_at, blocks, has_pages, is_resident as is_kept}
use Rattle.cc_resident.specs.Changes.{Cuts, is_number_between}
use Rattle.cc_model.specs.Acts.{act_of, Closes, Resizes, Discards}
use Rattle.cc_model.specs.Bytes.{content}
use Rattle.cc_model.specs.History.{Effect, Did}
use Rattle.cc_model.specs.Numbers.{is_among}
use Rattle.cc_model.specs.Objects.{objects, truncation}
use Rattle.cc_model.specs.Ranges.{span_has}
use Rattle.cc_model.specs.Residency.{below, residents, is_resident, block_is_mapped, used_by, used, order_of_use}
use Rattle.cc_model.specs.Settings.{quota_of}
use Rattle.cc_model.specs.Sizes.{resized}
use Rattle.cc_model.specs.Touches.{sizes, size_of, valid_of, is_mapped, is_dirty}
use Rattle.cc_laws.proofs.BlockLists.{is_among-filter}
use Rattle.cc_laws.proofs.ByteSteps.{content-closes, content-resizes, content-discards_kept}
use Rattle.cc_laws.proofs.QuotaSteps.{quota_of-closes, quota_of-resizes, quota_of-discards}
use Rattle.cc_laws.proofs.ResidencySteps.{residents-closes, residents-resizes, residents-discards, order_of_use-done}
use Rattle.cc_laws.proofs.SizeSteps.{sizes-closes_cut, sizes-resizes, sizes-discards}
use Rattle.cc_content.specs.Contents.{PagesStand, IsByteOfContents}
use Rattle.cc_content.proofs.DoneBytes.{IsByteOf-agree, IsByteOf-zero}
use Rattle.cc_content.proofs.KeptBlocks.{both_true, filter_alike, has_pages-is}
use Rattle.cc_content.proofs.LooksStand.{used_by-closes, used_by-resizes, used_by-discards}
use Rattle.cc_content.proofs.ChangesStand.{given-byte}

-- a byte that is there is of a page that is kept
pub byte-kept : (m : MappedViews) (i byte : ℕ) → byte_at m i ≡ Some byte → is_kept m (i / 4096) ≡ true
unfolding byte_at
byte-kept m i byte is = by (page_bytes_at m (i / 4096)) is
  where
    by : (o : Option (List ℕ)) → option_map (λ bytes. get_or bytes (i % 4096) 0) o ≡ Some byte
        → is_some o ≡ true
    by None k = cc
    by (Some bytes) k = refl

-- the bytes of a page that is as it was
pub byte-alike : (m n : MappedViews) (i : ℕ) → page_bytes_at n (i / 4096) ≡ page_bytes_at m (i / 4096)
    → byte_at n i ≡ byte_at m i
unfolding byte_at
byte-alike m n i same = rw same refl

-- the order of use after a call that takes pages and uses no block
pub order-taken : (h : List Effect) (pass : ℕ) (call : Call) (reply : Reply) (m n : MappedViews)
    → used_by (Did pass call reply) h ≡ [] → ((p : ℕ) → is_kept n p ≡ is_resident (Did pass call reply ∷ h) p)
    → blocks m ≡ order_of_use h → blocks n ≡ filter (has_pages n) (blocks m)
    → blocks n ≡ order_of_use (Did pass call reply ∷ h)
order-taken h pass call reply m n unused kept was order =
    let f = block_is_mapped (Did pass call reply ∷ h) in
    order ∙ filter_alike (has_pages n) f (blocks m) (has_pages-is n (Did pass call reply ∷ h) kept)
    ∙ ap (filter f) was
    ∙ sym (order_of_use-done pass call reply h ∙ ap (λ bs. filter f (used bs (order_of_use h))) unused)

-- what a call makes of a stream that it cuts to a size
pub record CutsTo (h : List Effect) (pass : ℕ) (call : Call) (reply : Reply) (size : ℕ) : Type 0 where
  pub quota : quota_of (Did pass call reply ∷ h) ≡ quota_of h
  pub sizes : sizes (Did pass call reply ∷ h) ≡ resized size (sizes h)
  pub residents : residents (Did pass call reply ∷ h) ≡ below (Some size) (residents h)
  pub content : (pages : ℕ → List ℕ) (i : ℕ) → content pages (Did pass call reply ∷ h) i ≡ content pages h i
  pub unused : used_by (Did pass call reply) h ≡ []

-- what became of the pages that are kept
pub record CutPages (m n : MappedViews) (size : ℕ) : Type 0 where
  pub cuts : Cuts m n size
  pub blocks : blocks n ≡ filter (has_pages n) (blocks m)
  pub quota : n.quota ≡ m.quota
  pub sized : n.size ≡ size

module _ (opening : Option (ℕ → List ℕ)) (h : List Effect) (pass : ℕ) (call : Call) (reply : Reply)
    (m n : MappedViews) where
  module _ (size : ℕ) (c : CutsTo h pass call reply size) (w : CutPages m n size)
      (was : PagesStand opening h m) where
    resident-cut : (p : ℕ) → is_kept n p ≡ is_resident (Did pass call reply ∷ h) p
    resident-cut p =
        by (nat_lt (4096 * p) size) refl
        ∙ sym (rw c.residents (is_among-filter (λ q. nat_lt (4096 * q) size) p (residents h)))
      where
        by : (t : Bool) → nat_lt (4096 * p) size ≡ t
            → is_kept n p ≡ (is_resident h p && nat_lt (4096 * p) size)
        by true t =
            w.cuts.kept p (ltb-true (4096 * p) size t) ∙ was.resident p
            ∙ sym (rw t (and_true (is_resident h p)))
          where
            and_true : (b : Bool) → (b && true) ≡ b
            and_true true = refl
            and_true false = refl
        by false t =
            ap is_some (w.cuts.gone p (ltb-false (4096 * p) size t))
            ∙ sym (rw t (and_false (is_resident h p)))
          where
            and_false : (b : Bool) → (b && false) ≡ false
            and_false true = refl
            and_false false = refl

    valid-cut : valid_of (Did pass call reply ∷ h) ≡ min (valid_of h) size
    valid-cut = ap (λ s. s.valid) c.sizes

    bytes-cut : (i byte : ℕ) → byte_at n i ≡ Some byte → IsByteOfContents opening (Did pass call reply ∷ h) i byte
    bytes-cut i byte is = by (nat_lt i size) refl
      where
        past : size ≤ i → (t : Bool) → nat_lt (4096 * (i / 4096)) size ≡ t
            → IsByteOfContents opening (Did pass call reply ∷ h) i byte
        past above true t =
            IsByteOf-zero opening (Did pass call reply ∷ h) i byte (omega (arith, valid-cut, above))
            (given-byte (byte_at m i) 0 byte (sym (w.cuts.past i above (ltb-true _ _ t)) ∙ is))
        past above false t =
            absurd (true≢false (sym (byte-kept n i byte is) ∙ ap is_some (w.cuts.gone (i / 4096) (ltb-false _ _ t))))

        by : (t : Bool) → nat_lt i size ≡ t → IsByteOfContents opening (Did pass call reply ∷ h) i byte
        by true t =
            let inside : i < size = ltb-true i size t in
            IsByteOf-agree opening h (Did pass call reply ∷ h) i byte
            (λ b. omega (arith, valid-cut, b, inside)) (λ b. omega (arith, valid-cut, b))
            (λ pages. c.content pages i) (was.bytes i byte (sym (w.cuts.below i inside) ∙ is))
        by false t = past (ltb-false i size t) (nat_lt (4096 * (i / 4096)) size) refl

    pub stands-cut : is_mapped (Did pass call reply ∷ h) ≡ true
        → PagesStand opening (Did pass call reply ∷ h) n
    stands-cut mapped =
        record {
          mapped = mapped;
          quota = w.quota ∙ was.quota ∙ sym c.quota;
          size = w.sized ∙ sym (ap (λ s. s.size) c.sizes);
          resident = resident-cut;
          order = order-taken h pass call reply m n c.unused resident-cut was.order w.blocks;
          bytes = bytes-cut;
        }

  -- a set of sizes
  pub stands-resized : {allocation : ℕ} (size : ℕ) → CutPages m n size → PagesStand opening h m
      → act_of call ≡ Resizes allocation size → is_mapped (Did pass call reply ∷ h) ≡ true
      → PagesStand opening (Did pass call reply ∷ h) n
  stands-resized size w was is mapped =
      stands-cut size (record {
        quota = quota_of-resizes pass call reply h is;
        sizes = sizes-resizes pass call reply h is;
        residents = residents-resizes pass call reply h is mapped;
        content = λ pages i. content-resizes pages pass call reply h i is;
        unused = used_by-resizes h pass call reply is;
      }) w was mapped

  -- an uninitialise that sets a size
  pub stands-truncated : {file : File} {truncate : Option ℕ} (size : ℕ) → CutPages m n size
      → PagesStand opening h m → act_of call ≡ Closes file truncate
      → truncation (objects h) (size_of h) file truncate ≡ Some size
      → is_mapped (Did pass call reply ∷ h) ≡ true → PagesStand opening (Did pass call reply ∷ h) n
  stands-truncated size w was is cut mapped =
      stands-cut size (record {
        quota = quota_of-closes pass call reply h is;
        sizes = sizes-closes_cut pass call reply h is cut;
        residents = residents-closes pass call reply h is mapped ∙ ap (λ o. below o (residents h)) cut;
        content = λ pages i. content-closes pages pass call reply h i is;
        unused = used_by-closes h pass call reply is;
      }) w was mapped

  -- a discard: the pages of its span go, and no other page does
  module _ {span : Option Range} (from to : ℕ) (is : act_of call ≡ Discards span)
      (mapped : is_mapped (Did pass call reply ∷ h) ≡ true) (was : PagesStand opening h m)
      (spans : (p : ℕ) → is_kept m p ≡ true → is_number_between from to p ≡ span_has span p)
      (gone : (p : ℕ) → from ≤ p → p < to → page_bytes_at n p ≡ None)
      (others : (p : ℕ) → (p < from) ⊎ (to ≤ p) → page_bytes_at n p ≡ page_bytes_at m p)
    where
      left : (p : ℕ) → is_number_between from to p ≡ false → page_bytes_at n p ≡ page_bytes_at m p
      left p out = others p (apart from to p out)
        where
          apart : (a b q : ℕ) → is_number_between a b q ≡ false → (q < a) ⊎ (b ≤ q)
          apart a b q out = elim (cases_lt q a) [ inl below ↦ inl below | inr above ↦ inr (past above) ]
            where
              past : a ≤ q → b ≤ q
              past above = grind (arith, nat_tests)

      taken : (p : ℕ) → is_number_between from to p ≡ true → page_bytes_at n p ≡ None
      taken p in_span =
          let parts = both_true (nat_le from p) (nat_lt p to) in_span in
          gone p (leb-true from p parts.0) (ltb-true p to parts.1)

      resident-left : (p : ℕ) → is_kept n p ≡ is_resident (Did pass call reply ∷ h) p
      resident-left p =
          by (is_number_between from to p) refl (is_kept m p) refl
          ∙ sym (rw (residents-discards pass call reply h is mapped) after)
        where
          after : is_among p (filter (λ q. not (span_has span q)) (residents h)) ≡ (is_kept m p && not (span_has span p))
          after =
              is_among-filter (λ q. not (span_has span q)) p (residents h)
              ∙ ap (λ b. b && not (span_has span p)) (sym (was.resident p))

          and_true : (b : Bool) → (b && true) ≡ b
          and_true true = refl
          and_true false = refl

          by : (t : Bool) → is_number_between from to p ≡ t → (k : Bool) → is_kept m p ≡ k
              → is_kept n p ≡ (is_kept m p && not (span_has span p))
          by true t true k = ap is_some (taken p t) ∙ sym (rw (k, sym (spans p k) ∙ t) refl)
          by true t false k = ap is_some (taken p t) ∙ sym (rw k refl)
          by false t true k =
              ap is_some (left p t)
              ∙ sym (ap (λ b. is_kept m p && not b) (sym (spans p k) ∙ t) ∙ and_true (is_kept m p))
          by false t false k = ap is_some (left p t) ∙ k ∙ sym (rw k refl)

      bytes-left : (i byte : ℕ) → byte_at n i ≡ Some byte → IsByteOfContents opening (Did pass call reply ∷ h) i byte
      bytes-left i byte there = by (is_number_between from to (i / 4096)) refl
        where
          by : (t : Bool) → is_number_between from to (i / 4096) ≡ t
              → IsByteOfContents opening (Did pass call reply ∷ h) i byte
          by true t = absurd (true≢false (sym (byte-kept n i byte there) ∙ ap is_some (taken (i / 4096) t)))
          by false t =
              let old = sym (byte-alike m n i (left (i / 4096) t)) ∙ there in
              let out : span_has span (i / 4096) ≡ false =
              sym (spans (i / 4096) (byte-kept m i byte old)) ∙ t in
              let same : valid_of (Did pass call reply ∷ h) ≡ valid_of h =
              ap (λ s. s.valid) (sizes-discards pass call reply h is) in
              IsByteOf-agree opening h (Did pass call reply ∷ h) i byte (λ b. omega (arith, same, b))
              (λ b. omega (arith, same, b))
              (λ pages. content-discards_kept pages pass call reply h i is (ap (λ b. b && is_dirty h (i / 4096)) out))
              (was.bytes i byte old)

      pub stands-dropped : blocks n ≡ filter (has_pages n) (blocks m) → n.quota ≡ m.quota → n.size ≡ m.size
          → PagesStand opening (Did pass call reply ∷ h) n
      stands-dropped order quota size =
          record {
            mapped = mapped;
            quota = quota ∙ was.quota ∙ sym (quota_of-discards pass call reply h is);
            size = size ∙ was.size ∙ sym (ap (λ s. s.size) (sizes-discards pass call reply h is));
            resident = resident-left;
            order =
                order-taken h pass call reply m n
                (used_by-discards h pass call reply is) resident-left was.order order;
            bytes = bytes-left;
          }
