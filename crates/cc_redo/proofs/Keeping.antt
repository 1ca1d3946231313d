-- A page that is kept in a map.
use Rattle.std.specs.Prelude.{◌≡◌, ◌≢◌, ℕ, ◌<◌, false, List, [], ◌∷◌, unwrap_or}
use Rattle.std.specs.declared.option.Option.{Option}
use Rattle.std.specs.declared.option.Option.TheVariants.{Some, None}
use Rattle.std.specs.Ordering.{nat_cmp}
use Rattle.std.specs.BTreeMap.{BTreeMap, is_at, Updates}
use Rattle.std.proofs.Common.{ap, ◌∙◌, arith}
use Rattle.std.proofs.lemmas.Bool.Decides.{nat_tests}
use Rattle.cc_traits.specs.Told.{IfTold}
use Rattle.cc_traits.specs.Disk.{Disk, page_of}
use Rattle.cc_redo.specs.Heard.{Change}
use Rattle.cc_redo.specs.Changes.{page_after}
use Rattle.cc_redo.specs.Disks.{record_number}
use Rattle.cc_redo.specs.Scanned.{KeepsData, page_with}

pub not-at : (k q : ℕ) → q ≢ k → is_at (nat_cmp k) q ≡ false
not-at k q apart = grind (arith, nat_tests)

-- what is told gives a fact of every disk
pub told-each : {A : Type 0} (F : A → Type 0) (told : Option A) → ((a : A) → F a) → IfTold told F
told-each F None each = tt
told-each F (Some a) each = each a

pub told-map : {A : Type 0} (F G : A → Type 0) (told : Option A) → ((a : A) → F a → G a) → IfTold told F → IfTold told G
told-map F G None each f = tt
told-map F G (Some a) each f = each a f

pub told-both : {A : Type 0} (F G H : A → Type 0) (told : Option A) → ((a : A) → F a → G a → H a) → IfTold told F → IfTold told G → IfTold told H
told-both F G H None each f g = tt
told-both F G H (Some a) each f g = each a f g

-- a page was put in
pub put-others : (m n : BTreeMap ℕ (List ℕ)) (k : ℕ) (v : List ℕ) → Updates nat_cmp m n k (Some v) → (disk : Disk) (q : ℕ) → q ≢ k →
    page_with n disk q ≡ page_with m disk q
put-others m n k v updates disk q apart = ap (λ (o : Option (List ℕ)). unwrap_or o (page_of disk q)) (updates.2 q (not-at k q apart))

pub put-keeps : (m n : BTreeMap ℕ (List ℕ)) (k : ℕ) (v : List ℕ) → Updates nat_cmp m n k (Some v) → k < record_number → KeepsData m → KeepsData n
put-keeps m n k v updates below keeps = λ page beyond. updates.2 page (not-at k page (λ e. omega arith)) ∙ keeps page beyond

pub put-changed : (told : Option Disk) (m n : BTreeMap ℕ (List ℕ)) (k : ℕ) (content v : List ℕ) (change : Change) → Updates nat_cmp m n k (Some v) →
    v ≡ page_after (change ∷ []) k content → IfTold told (λ disk. content ≡ page_with m disk k) →
    IfTold told (λ disk. page_with n disk k ≡ page_after (change ∷ []) k (page_with m disk k))
put-changed told m n k content v change updates patched read =
    told-map (λ disk. content ≡ page_with m disk k) (λ disk. page_with n disk k ≡ page_after (change ∷ []) k (page_with m disk k)) told
    (λ disk is. ap (λ (o : Option (List ℕ)). unwrap_or o (page_of disk k)) updates.1 ∙ patched ∙ ap (λ (l : List ℕ). page_after (change ∷ []) k l) is)
    read
