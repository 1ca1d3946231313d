-- Kept pages stand for a history after a done call that writes or zeroes bytes.
use Rattle.std.proofs.Common.{◌≡◌, ℕ, ◌-◌, ◌≤◌, true, false, List, ◌∷◌, length, get_or, max, Option, None, Some, sym, ap, ◌∙◌}
use Rattle.std.specs.Option.{option_map}
use Rattle.cc_entry.specs.Pages.{has_byte, whole_range}
use Rattle.cc_entry.specs.Place.{Range}
use Rattle.cc_entry.specs.declared.call.Call.{Call}
use Rattle.cc_entry.specs.declared.reply.Reply.{Reply}
use Rattle.cc_views.specs.Views.{MappedViews}
use Rattle.cc_resident.specs.Residents.{byte_at, is_shared, blocks, used as used_after}
use Rattle.cc_resident.specs.Changes.{CoversRange}
use Rattle.cc_model.specs.Acts.{act_of, Writes, Zeroes}
use Rattle.cc_model.specs.Bytes.{content}
use Rattle.cc_model.specs.History.{Effect, Did}
use Rattle.cc_model.specs.Residency.{residents, used_by, used, blocks_of_range}
use Rattle.cc_model.specs.Settings.{quota_of}
use Rattle.cc_model.specs.Touches.{size_of, valid_of, is_mapped}
use Rattle.cc_laws.proofs.ByteSteps.{content-writes_covered, content-writes_past, content-zeroes_covered, content-zeroes_past}
use Rattle.cc_laws.proofs.QuotaSteps.{quota_of-writes, quota_of-zeroes}
use Rattle.cc_laws.proofs.ResidencySteps.{residents-writes, residents-zeroes}
use Rattle.cc_laws.proofs.SizeSteps.{sizes-writes, sizes-zeroes}
use Rattle.cc_content.specs.Contents.{PagesStand}
use Rattle.cc_content.specs.Done.{IsMapped, UsesBlocks}
use Rattle.cc_content.proofs.DoneBytes.{IsByteOf-changed}
use Rattle.cc_content.proofs.KeptBlocks.{used-same}
use Rattle.cc_content.proofs.LooksStand.{SamePages, SamePages-byte, order-left, blocks-mapped}

-- what a call makes of a stream whose bytes of a range it changes
pub record Changes (h : List Effect) (pass : ℕ) (call : Call) (reply : Reply) (r : Range)
    (given : ℕ → ℕ) : Type 0 where
  pub quota : quota_of (Did pass call reply ∷ h) ≡ quota_of h
  pub size : size_of (Did pass call reply ∷ h) ≡ size_of h
  pub valid : valid_of (Did pass call reply ∷ h) ≡ max (valid_of h) r.to
  pub residents : residents (Did pass call reply ∷ h) ≡ residents h
  pub covered : (pages : ℕ → List ℕ) (i : ℕ) → has_byte r i ≡ true
      → content pages (Did pass call reply ∷ h) i ≡ given i
  pub past : (pages : ℕ → List ℕ) (i : ℕ) → has_byte r i ≡ false
      → content pages (Did pass call reply ∷ h) i ≡ content pages h i

-- what became of the pages that are kept
pub record Changed (m n : MappedViews) (r : Range) (given : ℕ → ℕ) (o : Option Range) : Type 0 where
  pub bytes : CoversRange m n r given
  pub blocks : blocks n ≡ used_after (blocks_of_range o) (blocks m)
  pub quota : n.quota ≡ m.quota
  pub size : n.size ≡ m.size

-- a byte that a change gave
pub given-byte : (o : Option ℕ) (value byte : ℕ) → option_map (λ _. value) o ≡ Some byte → byte ≡ value
given-byte None value byte is = cc
given-byte (Some old) value byte is = cc

module _ (opening : Option (ℕ → List ℕ)) (h : List Effect) (pass : ℕ) (call : Call) (reply : Reply)
    (m n : MappedViews) where
  pub stands-changed : (r : Range) (given : ℕ → ℕ) (o : Option Range) → Changes h pass call reply r given
      → Changed m n r given o → r.from ≤ valid_of h → PagesStand opening h m → IsMapped m o
      → used_by (Did pass call reply) h ≡ blocks_of_range o → is_mapped (Did pass call reply ∷ h) ≡ true
      → PagesStand opening (Did pass call reply ∷ h) n
  stands-changed r given o c w starts was there uses mapped =
      record {
        mapped = mapped;
        quota = w.quota ∙ was.quota ∙ sym c.quota;
        size = w.size ∙ was.size ∙ sym c.size;
        resident = λ p. rw c.residents (w.bytes.pages p ∙ was.resident p);
        order =
            w.blocks ∙ used-same (blocks_of_range o) (blocks m) ∙ ap (used (blocks_of_range o)) was.order
            ∙ sym (order-left h pass call reply m (blocks_of_range o) c.residents was.order uses (blocks-mapped m o there));
        bytes = λ i byte is.
            IsByteOf-changed opening h
            (Did pass call reply ∷ h) r given c.valid starts c.covered c.past i byte
            (λ has. given-byte (byte_at m i) (given i) byte (sym (w.bytes.inside i has) ∙ is))
            (λ out. was.bytes i byte (sym (w.bytes.outside i out) ∙ is));
      }

  pub stands-written : (at : ℕ) (bytes : List ℕ) (o : Option Range)
      → Changed m n (whole_range at (length bytes)) (λ i. get_or bytes (i - at) 0) o → PagesStand opening h m
      → IsMapped m o
      → act_of call ≡ Writes at bytes → UsesBlocks h pass call reply o → at ≤ valid_of h
      → is_mapped (Did pass call reply ∷ h) ≡ true → PagesStand opening (Did pass call reply ∷ h) n
  stands-written at bytes o w was there is uses starts mapped =
      stands-changed (whole_range at (length bytes)) (λ i. get_or bytes (i - at) 0) o (record {
        quota = quota_of-writes pass call reply h is;
        size = ap (λ s. s.size) (sizes-writes pass call reply h is);
        valid = ap (λ s. s.valid) (sizes-writes pass call reply h is);
        residents = residents-writes pass call reply h is mapped;
        covered = λ pages i has. content-writes_covered pages pass call reply h i is has;
        past = λ pages i out. content-writes_past pages pass call reply h i is out;
      }) w starts was there uses.blocks mapped

  pub stands-zeroed : (from to : ℕ) (o : Option Range)
      → Changed m n (record { from = from; to = to }) (λ _. 0) o → PagesStand opening h m → IsMapped m o
      → act_of call ≡ Zeroes from to → UsesBlocks h pass call reply o → from ≤ valid_of h
      → is_mapped (Did pass call reply ∷ h) ≡ true → PagesStand opening (Did pass call reply ∷ h) n
  stands-zeroed from to o w was there is uses starts mapped =
      stands-changed (record { from = from; to = to }) (λ _. 0) o (record {
        quota = quota_of-zeroes pass call reply h is;
        size = ap (λ s. s.size) (sizes-zeroes pass call reply h is);
        valid = ap (λ s. s.valid) (sizes-zeroes pass call reply h is);
        residents = residents-zeroes pass call reply h is mapped;
        covered = λ pages i has. content-zeroes_covered pages pass call reply h i is has;
        past = λ pages i out. content-zeroes_past pages pass call reply h i is out;
      }) w starts was there uses.blocks mapped

-- a change, and then a use of blocks
pub Changed-then : (m k n : MappedViews) (r : Range) (given : ℕ → ℕ) (o : Option Range) → CoversRange m k r given
    → blocks k ≡ blocks m → k.quota ≡ m.quota → k.size ≡ m.size → SamePages k n
    → blocks n ≡ used_after (blocks_of_range o) (blocks k) → ((p : ℕ) → is_shared n p ≡ is_shared k p)
    → Changed m n r given o
Changed-then m k n r given o w order quota size same uses shared =
    record {
      bytes = record {
        inside = λ i has. SamePages-byte k n same i ∙ w.inside i has;
        outside = λ i out. SamePages-byte k n same i ∙ w.outside i out;
        pages = λ p. rw (same.pages p) (w.pages p);
        shared = λ p. shared p ∙ w.shared p;
      };
      blocks = uses ∙ ap (used_after (blocks_of_range o)) order;
      quota = same.quota ∙ quota;
      size = same.size ∙ size;
    }
