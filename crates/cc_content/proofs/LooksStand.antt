-- Kept pages stand for a history after a done call that changes no byte, size or page.
use Rattle.std.proofs.Common.{◌≡◌, ℕ, ◌/◌, Bool, true, false, List, [], ◌∷◌, Option, None, Some, refl, sym, ap, ◌∙◌, true≢false}
use Rattle.std.specs.List.{list_all}
use Rattle.cc_entry.specs.Place.{File, Range}
use Rattle.cc_entry.specs.declared.place.FileSizes.{FileSizes}
use Rattle.cc_entry.specs.declared.call.Call.{Call}
use Rattle.cc_entry.specs.declared.call.Call.TheVariants as call
use Rattle.cc_entry.specs.declared.reply.Reply.{Reply}
use Rattle.cc_views.specs.Views.{MappedViews}
use Rattle.cc_resident.specs.Residents.{page_bytes_at, byte_at, blocks, is_block_among, used as used_after}
use Rattle.cc_model.specs.Acts.{Act, act_of, Opens, Closes, Resizes, Writes, Zeroes, Stores, Stamps, Discards, Looks}
use Rattle.cc_model.specs.Bytes.{content}
use Rattle.cc_model.specs.History.{Effect, Did}
use Rattle.cc_model.specs.Objects.{objects, truncation}
use Rattle.cc_model.specs.Residency.{residents, block_is_mapped, used_by, used, order_of_use, blocks_of_range, below}
use Rattle.cc_model.specs.Settings.{quota_of}
use Rattle.cc_model.specs.Touches.{sizes, size_of, is_mapped}
use Rattle.cc_laws.proofs.ByteSteps.{content-looks, content-stamps, content-opens, content-closes}
use Rattle.cc_laws.proofs.MapSteps.{is_mapped-opens}
use Rattle.cc_laws.proofs.QuotaSteps.{quota_of-looks, quota_of-stamps, quota_of-opens_mapped, quota_of-closes}
use Rattle.cc_laws.proofs.ResidencySteps.{residents-looks, residents-stamps, residents-opens, residents-closes}
use Rattle.cc_laws.proofs.SizeSteps.{sizes-looks, sizes-stamps, sizes-opens_mapped, sizes-closes_kept}
use Rattle.cc_content.specs.Contents.{PagesStand}
use Rattle.cc_content.specs.Done.{is_look, IsMapped}
use Rattle.cc_content.proofs.DoneBytes.{IsByteOf-same}
use Rattle.cc_content.proofs.KeptBlocks.{order-used, order-mapped, mapped-blocks, used-same}

-- the same pages are kept, with the same bytes
pub record SamePages (m n : MappedViews) : Type 0 where
  pub pages : (p : ℕ) → page_bytes_at n p ≡ page_bytes_at m p
  pub quota : n.quota ≡ m.quota
  pub size : n.size ≡ m.size

pub SamePages-byte : (m n : MappedViews) → SamePages m n → (i : ℕ) → byte_at n i ≡ byte_at m i
unfolding byte_at
SamePages-byte m n same i = rw (same.pages (i / 4096)) refl

-- what a call leaves of a stream that changes no byte, size or page
pub record LeavesAll (h : List Effect) (pass : ℕ) (call : Call) (reply : Reply) : Type 0 where
  pub quota : quota_of (Did pass call reply ∷ h) ≡ quota_of h
  pub sizes : sizes (Did pass call reply ∷ h) ≡ sizes h
  pub residents : residents (Did pass call reply ∷ h) ≡ residents h
  pub content : (pages : ℕ → List ℕ) (i : ℕ) → content pages (Did pass call reply ∷ h) i ≡ content pages h i

-- a call that leaves the residents uses blocks that are mapped
pub order-left : (h : List Effect) (pass : ℕ) (call : Call) (reply : Reply) (m : MappedViews) (bs : List ℕ)
    → residents (Did pass call reply ∷ h) ≡ residents h → blocks m ≡ order_of_use h
    → used_by (Did pass call reply) h ≡ bs → list_all (λ b. is_block_among b (blocks m)) bs ≡ true
    → order_of_use (Did pass call reply ∷ h) ≡ used bs (order_of_use h)
order-left h pass call reply m bs left order uses all =
    order-used pass call reply h bs uses (now bs (mapped-blocks h m bs order all))
    (now (order_of_use h) (order-mapped h))
  where
    now : (xs : List ℕ) → list_all (block_is_mapped h) xs ≡ true
        → list_all (block_is_mapped (Did pass call reply ∷ h)) xs ≡ true
    now xs was = rw (left, block_is_mapped) was

-- each of the blocks of a range, where there is one, is mapped
pub blocks-mapped : (m : MappedViews) (o : Option Range) → IsMapped m o
    → list_all (λ b. is_block_among b (blocks m)) (blocks_of_range o) ≡ true
blocks-mapped m None is = refl
blocks-mapped m (Some r) is = is

module _ (opening : Option (ℕ → List ℕ)) (h : List Effect) (pass : ℕ) (call : Call) (reply : Reply)
    (m n : MappedViews) where
  pub stands-left : LeavesAll h pass call reply → PagesStand opening h m → SamePages m n → (o : Option Range)
      → IsMapped m o → used_by (Did pass call reply) h ≡ blocks_of_range o
      → blocks n ≡ used_after (blocks_of_range o) (blocks m) → is_mapped (Did pass call reply ∷ h) ≡ true
      → PagesStand opening (Did pass call reply ∷ h) n
  stands-left leaves was same o there uses order mapped =
      record {
        mapped = mapped;
        quota = same.quota ∙ was.quota ∙ sym leaves.quota;
        size = same.size ∙ was.size ∙ sym (ap (λ s. s.size) leaves.sizes);
        resident = λ p. rw (same.pages p, leaves.residents) (was.resident p);
        order =
            order ∙ used-same (blocks_of_range o) (blocks m) ∙ ap (used (blocks_of_range o)) was.order
            ∙ sym (order-left h pass call reply m (blocks_of_range o) leaves.residents was.order uses (blocks-mapped m o there));
        bytes =
            λ i byte is.
            IsByteOf-same opening h (Did pass call reply ∷ h) leaves.sizes leaves.content i byte
            (was.bytes i byte (sym (SamePages-byte m n same i) ∙ is));
      }

-- a look, and a stamp
pub LeavesAll-looks : (h : List Effect) (pass : ℕ) (call : Call) (reply : Reply)
    → is_look (act_of call) ≡ true → is_mapped (Did pass call reply ∷ h) ≡ true → LeavesAll h pass call reply
LeavesAll-looks h pass call reply looks mapped = by (act_of call) refl looks
  where
    by : (a : Act) → act_of call ≡ a → is_look a ≡ true → LeavesAll h pass call reply
    by Looks is k =
        record {
          quota = quota_of-looks pass call reply h is;
          sizes = sizes-looks pass call reply h is;
          residents = residents-looks pass call reply h is;
          content = λ pages i. content-looks pages pass call reply h i is;
        }
    by (Stamps hold lsn) is k =
        record {
          quota = quota_of-stamps pass call reply h is;
          sizes = sizes-stamps pass call reply h is;
          residents = residents-stamps pass call reply h is mapped;
          content = λ pages i. content-stamps pages pass call reply h i is;
        }
    by (Opens file sizes quota temporary) is k = absurd (true≢false (sym k))
    by (Closes file truncate) is k = absurd (true≢false (sym k))
    by (Resizes allocation size) is k = absurd (true≢false (sym k))
    by (Writes at bytes) is k = absurd (true≢false (sym k))
    by (Zeroes from to) is k = absurd (true≢false (sym k))
    by (Stores page bytes) is k = absurd (true≢false (sym k))
    by (Discards span) is k = absurd (true≢false (sym k))

-- an initialise that joins a map uses no block, nor does an uninitialise, a set of sizes or a discard
pub used_by-opens : {file : File} {given : FileSizes} {quota : ℕ} {temporary : Bool} (h : List Effect)
    (pass : ℕ) (call : Call) (reply : Reply)
    → act_of call ≡ Opens file given quota temporary → used_by (Did pass call reply) h ≡ []
used_by-opens h pass (call.Initialise f s q t) reply is = refl
used_by-opens h pass (call.PreparePin file at len true exclusive) reply is = cc
used_by-opens h pass (call.PreparePin file at len false exclusive) reply is = cc
used_by-opens h pass other reply is = cc

pub used_by-closes : {file : File} {truncate : Option ℕ} (h : List Effect) (pass : ℕ) (call : Call)
    (reply : Reply)
    → act_of call ≡ Closes file truncate → used_by (Did pass call reply) h ≡ []
used_by-closes h pass (call.Uninitialise f t) reply is = refl
used_by-closes h pass (call.PreparePin file at len true exclusive) reply is = cc
used_by-closes h pass (call.PreparePin file at len false exclusive) reply is = cc
used_by-closes h pass other reply is = cc

pub used_by-resizes : {allocation size : ℕ} (h : List Effect) (pass : ℕ) (call : Call) (reply : Reply)
    → act_of call ≡ Resizes allocation size → used_by (Did pass call reply) h ≡ []
used_by-resizes h pass (call.SetSizes f a s) reply is = refl
used_by-resizes h pass (call.PreparePin file at len true exclusive) reply is = cc
used_by-resizes h pass (call.PreparePin file at len false exclusive) reply is = cc
used_by-resizes h pass other reply is = cc

pub used_by-discards : {span : Option Range} (h : List Effect) (pass : ℕ) (call : Call) (reply : Reply)
    → act_of call ≡ Discards span → used_by (Did pass call reply) h ≡ []
used_by-discards h pass (call.Discard f s) reply is = refl
used_by-discards h pass (call.PreparePin file at len true exclusive) reply is = cc
used_by-discards h pass (call.PreparePin file at len false exclusive) reply is = cc
used_by-discards h pass other reply is = cc

-- where nothing changes and no block is used
module _ (opening : Option (ℕ → List ℕ)) (h : List Effect) (pass : ℕ) (call : Call) (reply : Reply)
    (m : MappedViews) where
  pub stands-unused : LeavesAll h pass call reply → PagesStand opening h m
      → used_by (Did pass call reply) h ≡ [] → is_mapped (Did pass call reply ∷ h) ≡ true
      → PagesStand opening (Did pass call reply ∷ h) m
  stands-unused leaves was unused mapped =
      stands-left opening h pass call reply m m leaves was
      (record { pages = λ p. refl; quota = refl; size = refl }) None tt unused refl mapped

  -- an initialise that joins the map
  pub stands-joined : {file : File} {given : FileSizes} {quota : ℕ} {temporary : Bool}
      → PagesStand opening h m → act_of call ≡ Opens file given quota temporary
      → PagesStand opening (Did pass call reply ∷ h) m
  stands-joined was is =
      stands-unused (record {
        quota = quota_of-opens_mapped pass call reply h is was.mapped;
        sizes = sizes-opens_mapped pass call reply h is was.mapped;
        residents = residents-opens pass call reply h is;
        content = λ pages i. content-opens pages pass call reply h i is;
      }) was (used_by-opens h pass call reply is) (is_mapped-opens pass call reply h is)

  -- an uninitialise that sets no size, where the map stays
  pub stands-closed : {file : File} {truncate : Option ℕ} → PagesStand opening h m
      → act_of call ≡ Closes file truncate → truncation (objects h) (size_of h) file truncate ≡ None
      → is_mapped (Did pass call reply ∷ h) ≡ true → PagesStand opening (Did pass call reply ∷ h) m
  stands-closed was is uncut mapped =
      stands-unused (record {
        quota = quota_of-closes pass call reply h is;
        sizes = sizes-closes_kept pass call reply h is uncut;
        residents = residents-closes pass call reply h is mapped ∙ ap (λ o. below o (residents h)) uncut;
        content = λ pages i. content-closes pages pass call reply h i is;
      }) was (used_by-closes h pass call reply is) mapped
