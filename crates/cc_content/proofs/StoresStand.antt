-- Kept pages stand for a history after a noncached store.
use Rattle.std.proofs.Common.{◌≡◌, ℕ, ◌+◌, ◌-◌, ◌*◌, ◌/◌, ◌%◌, ◌<◌, ◌≤◌, Bool, true, false, ◌||◌, ◌==◌, nat_lt, if◌then◌else◌, List, [], ◌∷◌, get_or, min, Option, Some, is_some, refl, sym, ap, ◌∙◌, true≢false, arith}
use Rattle.std.proofs.lemmas.Bool.{eqb-true, eq-eqb, lt-ltb, le-ltb}
use Rattle.std.specs.List.{list_all, range_with_len}
use Rattle.std.specs.Option.{option_map}
use Rattle.cc_entry.specs.Pages.{block_of, blocks_of, has_byte}
use Rattle.cc_entry.specs.declared.call.Call.{Call}
use Rattle.cc_entry.specs.declared.call.Call.TheVariants as call
use Rattle.cc_entry.specs.declared.reply.Reply.{Reply}
use Rattle.cc_views.specs.Views.{MappedViews}
use Rattle.cc_resident.specs.Residents.{page_bytes_at, byte_at, blocks, is_resident as is_kept, used as used_after}
use Rattle.cc_resident.specs.Changes.{KeepsOthers}
use Rattle.cc_model.specs.Acts.{act_of, Stores}
use Rattle.cc_model.specs.History.{Effect, Did}
use Rattle.cc_model.specs.Numbers.{without}
use Rattle.cc_model.specs.Residency.{residents, is_resident, block_is_mapped, used_by, used, order_of_use}
use Rattle.cc_model.specs.Sizes.{stored_range}
use Rattle.cc_model.specs.Touches.{size_of, valid_of, is_mapped}
use Rattle.cc_laws.proofs.ByteSteps.{content-stores_covered, content-stores_past}
use Rattle.cc_laws.proofs.Lists1.{among-any, among-placed}
use Rattle.cc_laws.proofs.PlacesResident.{among-in}
use Rattle.cc_laws.proofs.QuotaSteps.{quota_of-stores}
use Rattle.cc_laws.proofs.ResidencySteps.{residents-stores}
use Rattle.cc_laws.proofs.SizeSteps.{sizes-stores}
use Rattle.cc_content.specs.Contents.{PagesStand, IsByteOfContents}
use Rattle.cc_content.proofs.DoneBytes.{IsByteOf-changed, IsByteOf-zero, has_byte-true, has_byte-false}
use Rattle.cc_content.proofs.KeptBlocks.{PassesIn-any, all_weaker, order-used, order-mapped, used-same}
use Rattle.cc_content.proofs.CutsStand.{byte-alike}

-- a noncached store uses the block of its page
pub used_by-stores : {page : ℕ} {bytes : List ℕ} (h : List Effect) (pass : ℕ) (call : Call) (reply : Reply)
    → act_of call ≡ Stores page bytes
    → used_by (Did pass call reply) h ≡ blocks_of (stored_range page (size_of h))
used_by-stores {page} {bytes} h pass (call.NcStore f p b) reply is =
    let same : p ≡ page = cc in
    ap (λ q. blocks_of (stored_range q (size_of h))) same
used_by-stores h pass (call.PreparePin file at len true exclusive) reply is = cc
used_by-stores h pass (call.PreparePin file at len false exclusive) reply is = cc
used_by-stores h pass other reply is = cc

-- where its page ends
pub stored-end : (page size : ℕ) → 4096 * page < size
    → (stored_range page size).to ≡ min (4096 * page + 4096) size
stored-end page size inside = rw (lt-ltb (4096 * page) size inside) refl

pub stored-block : (page size : ℕ) → 4096 * page < size
    → blocks_of (stored_range page size) ≡ block_of page ∷ []
stored-block page size inside =
    rw (lt-ltb (4096 * page) size inside) (go (min (4096 * page + 4096) size) (omega arith) (omega arith))
  where
    go : (to : ℕ) → 4096 * page < to → to ≤ 4096 * page + 4096
        → blocks_of (record { from = 4096 * page; to = to }) ≡ block_of page ∷ []
    go to low high =
        let one : ((to - 1) / 262144 + 1) - 4096 * page / 262144 ≡ 1 = omega arith in
        let first : 4096 * page / 262144 ≡ page / 64 = omega arith in
        rw (lt-ltb (4096 * page) to low)
        (ap (range_with_len (4096 * page / 262144)) one ∙ ap (λ b. b ∷ []) first)

-- what became of the pages that are kept: one has these bytes up to the size, and 0 from there on
pub record Stored (m n : MappedViews) (page : ℕ) (bytes : List ℕ) : Type 0 where
  pub frame : List ℕ
  pub here : page_bytes_at n page ≡ Some frame
  pub bytes_of : (i : ℕ)
      → get_or frame i 0 ≡ (if nat_lt i (m.size - 4096 * page) then get_or bytes i 0 else 0)
  pub others : KeepsOthers m n page
  pub blocks : blocks n ≡ used_after (block_of page ∷ []) (blocks m)
  pub quota : n.quota ≡ m.quota
  pub size : n.size ≡ m.size

byte-here : (n : MappedViews) (i byte : ℕ) (frame : List ℕ) → page_bytes_at n (i / 4096) ≡ Some frame
    → byte_at n i ≡ Some byte → byte ≡ get_or frame (i % 4096) 0
unfolding byte_at
byte-here n i byte frame here there =
    let some : Some (get_or frame (i % 4096) 0) ≡ Some byte =
    sym (ap (option_map (λ bytes. get_or bytes (i % 4096) 0)) here) ∙ there in
    cc

module _ (opening : Option (ℕ → List ℕ)) (h : List Effect) (pass : ℕ) (call : Call) (reply : Reply)
    (m n : MappedViews) (page : ℕ) (bytes : List ℕ)
    (w : Stored m n page bytes) (is : act_of call ≡ Stores page bytes) (was : PagesStand opening h m)
    (mapped : is_mapped (Did pass call reply ∷ h) ≡ true)
    (inside : 4096 * page < m.size) (starts : 4096 * page ≤ valid_of h) (ends : valid_of h ≤ size_of h)
  where
    now : residents (Did pass call reply ∷ h) ≡ page ∷ without page (residents h)
    now = residents-stores pass call reply h is mapped

    below : 4096 * page < size_of h
    below = omega (arith, inside, was.size)

    resident-stored : (p : ℕ) → is_kept n p ≡ is_resident (Did pass call reply ∷ h) p
    resident-stored p = by (page == p) refl ∙ sym (rw now (among-in page p (residents h)))
      where
        by : (t : Bool) → (page == p) ≡ t → is_kept n p ≡ ((page == p) || is_resident h p)
        by true t = ap (is_kept n) (sym (eqb-true page p t)) ∙ ap is_some w.here ∙ sym (rw t refl)
        by false t =
            ap is_some (w.others p (λ e. true≢false (sym (eq-eqb page p (sym e)) ∙ t))) ∙ was.resident p
            ∙ sym (rw t refl)

    order-stored : blocks n ≡ order_of_use (Did pass call reply ∷ h)
    order-stored =
        w.blocks ∙ used-same (block_of page ∷ []) (blocks m) ∙ ap (used (block_of page ∷ [])) was.order
        ∙ sym (order-used pass call reply h (block_of page ∷ []) (used_by-stores h pass call reply is ∙ stored-block page (size_of h) below) new old)
      where
        new : list_all (block_is_mapped (Did pass call reply ∷ h)) (block_of page ∷ []) ≡ true
        new = rw (now, block_is_mapped, eq-eqb (block_of page) (block_of page) refl) refl

        stays : (b : ℕ) → block_is_mapped h b ≡ true → block_is_mapped (Did pass call reply ∷ h) b ≡ true
        stays b some =
            let k = PassesIn-any (λ p. block_of p == b) (residents h) some in
            rw (now, block_is_mapped)
            (among-any (λ p. block_of p == b) k.at (page ∷ without page (residents h)) (among-placed page k.at (residents h) k.there) k.passes)

        old : list_all (block_is_mapped (Did pass call reply ∷ h)) (order_of_use h) ≡ true
        old =
            all_weaker (block_is_mapped h) (block_is_mapped (Did pass call reply ∷ h)) (order_of_use h) stays
            (order-mapped h)

    bytes-stored : (i byte : ℕ) → byte_at n i ≡ Some byte → IsByteOfContents opening (Did pass call reply ∷ h) i byte
    bytes-stored i byte there =
        IsByteOf-changed opening h (Did pass call reply ∷ h) (stored_range page (size_of h))
        (λ k. get_or bytes (k - 4096 * page) 0)
        (ap (λ s. s.valid) (sizes-stores pass call reply h is)) starts
        (λ pages k has. content-stores_covered pages pass call reply h k is has)
        (λ pages k out. content-stores_past pages pass call reply h k is out)
        i byte new old
      where
        end : (stored_range page (size_of h)).to ≡ min (4096 * page + 4096) (size_of h)
        end = stored-end page (size_of h) below

        at_page : i / 4096 ≡ page → page_bytes_at n (i / 4096) ≡ Some w.frame
        at_page e = ap (page_bytes_at n) e ∙ w.here

        new : has_byte (stored_range page (size_of h)) i ≡ true → byte ≡ get_or bytes (i - 4096 * page) 0
        new has =
            let k = has_byte-true (stored_range page (size_of h)) i has in
            let e : i / 4096 ≡ page = omega (arith, k.0, k.1, end) in
            let place : i % 4096 ≡ i - 4096 * page = omega (arith, k.0, k.1, end) in
            let within : i % 4096 < m.size - 4096 * page = omega (arith, k.0, k.1, end, was.size) in
            byte-here n i byte w.frame (at_page e) there ∙ w.bytes_of (i % 4096)
            ∙ ap (λ t. if t then get_or bytes (i % 4096) 0 else 0)
            (lt-ltb (i % 4096) (m.size - 4096 * page) within)
            ∙ ap (λ k. get_or bytes k 0) place

        old : has_byte (stored_range page (size_of h)) i ≡ false → IsByteOfContents opening h i byte
        old out = by (i / 4096 == page) refl
          where
            by : (t : Bool) → (i / 4096 == page) ≡ t → IsByteOfContents opening h i byte
            by true t =
                let e : i / 4096 ≡ page = eqb-true (i / 4096) page t in
                let k : (stored_range page (size_of h)).to ≤ i =
                has_byte-false (stored_range page (size_of h)) i out (omega (arith, e)) in
                let past : m.size - 4096 * page ≤ i % 4096 = omega (arith, k, e, end, was.size) in
                let above : valid_of h ≤ i = omega (arith, k, e, end, ends) in
                IsByteOf-zero opening h i byte above
                (byte-here n i byte w.frame (at_page e) there ∙ w.bytes_of (i % 4096)
                ∙ ap (λ t. if t then get_or bytes (i % 4096) 0 else 0)
                (le-ltb (i % 4096) (m.size - 4096 * page) past))
            by false t =
                was.bytes i byte
                (sym (byte-alike m n i (w.others (i / 4096) (λ e. true≢false (sym (eq-eqb (i / 4096) page e) ∙ t)))) ∙ there)

    pub stands-stored : PagesStand opening (Did pass call reply ∷ h) n
    stands-stored =
        record {
          mapped = mapped;
          quota = w.quota ∙ was.quota ∙ sym (quota_of-stores pass call reply h is);
          size = w.size ∙ was.size ∙ sym (ap (λ s. s.size) (sizes-stores pass call reply h is));
          resident = resident-stored;
          order = order-stored;
          bytes = bytes-stored;
        }
