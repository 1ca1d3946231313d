-- What a change of the mapped blocks leaves of the frames of the pages, and of the order.
use Rattle.std.proofs.Common.{◌≡◌, ◌≢◌, ℕ, ◌+◌, ◌*◌, ◌%◌, ◌<◌, zero, suc, Bool, true, false, cond, not, ◌||◌, ◌==◌, nat_eq, List, [], ◌∷◌, ◌++◌, Option, None, Some, IsSome, is_some, refl, sym, ap, subst, ◌∙◌, true≢false, arith}
use Rattle.std.proofs.lemmas.Bool.{eqb-true}
use Rattle.std.proofs.lemmas.Map.{lookup-set_value, lookup-remove_entry, keys-set_value}
use Rattle.std.proofs.lemmas.Map.Made.{is_some-lookup}
use Rattle.std.proofs.lemmas.Map.Steps.{set_value_same}
use Rattle.std.specs.Cmp.{nat_eq_equiv}
use Rattle.std.specs.List.{IsDistinct, AllByRecursion, list_any, range_with_len}
use Rattle.std.specs.Map.{keys_of, lookup, remove_entry}
use Rattle.std.specs.Option.{option_and_then, option_map, option_map_or, IfSome}
use Rattle.cc_entry.specs.Pages.{block_of}
use Rattle.cc_pages.specs.Pages.{PageFrame, page_at as page_in, bytes_at, is_owned, KeepsOtherFrames}
use Rattle.cc_views.specs.Views.{ViewFrames, MappedViews, frames_at, with_frames, without_view as without_block, views_after_use as used_views, MapsLast}
use Rattle.cc_resident.specs.Residents.{frame_at, page_bytes_at, is_resident, shares, is_shared, blocks, has_pages, is_block_among, order_without, used}
use Rattle.cc_resident.specs.Changes.{Puts, KeepsFrames}
use Rattle.cc_resident.proofs.Lists.{any_alike, none_within, without_absent}

-- a map as it is, with other views
abbrev pub put_views : MappedViews → List (ℕ × ViewFrames) → MappedViews
put_views m views = record m { views = views }

-- page p in the frames of a block
abbrev pub frame_in : ℕ → Option ViewFrames → Option PageFrame
frame_in p frames = option_and_then (λ (pages : ViewFrames). page_in pages (p % 64)) frames

pub frame_is : (m : MappedViews) (p : ℕ) → frame_at m p ≡ frame_in p (frames_at m (block_of p))
unfolding frame_at
frame_is m p = refl

pub page_is : (m : MappedViews) (p : ℕ) → page_bytes_at m p ≡ option_map (λ (frame : PageFrame). frame.bytes) (frame_at m p)
unfolding page_bytes_at
page_is m p = refl

pub none_from : {A : Type 0} (o : Option A) → is_some o ≡ false → o ≡ None
none_from None e = refl
none_from (Some x) e = absurd (true≢false e)

pub some_from : {A : Type 0} (o : Option A) → is_some o ≡ true → (x : A) × (o ≡ Some x)
some_from None e = absurd (true≢false (sym e))
some_from (Some x) e = (x, refl)

pub some_map : {A B : Type 0} (f : A → B) (o : Option A) → is_some (option_map f o) ≡ is_some o
some_map f None = refl
some_map f (Some x) = refl

-- a page is resident where it has a frame
pub resident_is : (m : MappedViews) (p : ℕ) → is_resident m p ≡ is_some (frame_at m p)
resident_is m p = ap is_some (page_is m p) ∙ some_map (λ (frame : PageFrame). frame.bytes) (frame_at m p)

-- a resident page that is not shared is owned
pub owned_where : (m : MappedViews) (p : ℕ) → is_shared m p ≡ false → is_resident m p ≡ true → is_owned (frame_at m p) ≡ true
owned_where m p own h = by (frame_at m p) own (sym (resident_is m p) ∙ h)
  where
    by : (o : Option PageFrame) → shares o ≡ false → is_some o ≡ true → is_owned o ≡ true
    by None own some = absurd (true≢false (sym some))
    by (Some frame) own some = flip frame.owned own
      where
        flip : (b : Bool) → not b ≡ false → b ≡ true
        flip true e = refl
        flip false e = absurd (true≢false e)

-- a block with no page has none at any place
pub page_of_none : (m : MappedViews) (block p : ℕ) → has_pages m block ≡ false → block_of p ≡ block → frame_at m p ≡ None
unfolding has_pages
page_of_none m block p h e =
    let at : 64 * block + p % 64 ≡ p = omega arith in
    none_from (frame_at m p) (sym (resident_is m p) ∙ ap (is_resident m) (sym at) ∙ none_within (is_resident m) (64 * block) 64 (p % 64) (omega arith) h)

-- a block that is not mapped has no page
pub no_pages : (m : MappedViews) (block : ℕ) → frames_at m block ≡ None → has_pages m block ≡ false
unfolding has_pages
no_pages m block h = none (is_resident m) (64 * block) 64 (λ i l. resident_is m (64 * block + i) ∙ ap is_some (frame_is m (64 * block + i) ∙ ap (λ b. frame_in (64 * block + i) (frames_at m b)) (omega arith) ∙ ap (frame_in (64 * block + i)) h))
  where
    none : (f : ℕ → Bool) (a n : ℕ) → ((i : ℕ) → i < n → f (a + i) ≡ false) → list_any f (range_with_len a n) ≡ false
    none f a n h = any_alike f (λ _. false) a 0 n h ∙ never 0 n
      where
        never : (b k : ℕ) → list_any (λ (_ : ℕ). false) (range_with_len b k) ≡ false
        never b zero = refl
        never b (suc k) = never (b + 1) k

-- the pages of a block are those of its frames
pub pages_there : (m : MappedViews) (block : ℕ) (frames : ViewFrames) → frames_at m block ≡ Some frames → has_pages m block ≡ list_any (λ i. is_some (bytes_at frames i)) (range_with_len 0 64)
unfolding has_pages
pages_there m block frames h = any_alike (is_resident m) (λ i. is_some (bytes_at frames i)) (64 * block) 0 64 (λ i l.
    let p = 64 * block + i in
    let at : p % 64 ≡ 0 + i = omega arith in
    let in_block : block_of p ≡ block = omega arith in
    let frame : frame_at m p ≡ page_in frames (0 + i) = frame_is m p ∙ ap (λ b. frame_in p (frames_at m b)) in_block ∙ ap (frame_in p) h ∙ ap (page_in frames) at in
    ap is_some (page_is m p ∙ ap (option_map (λ (f : PageFrame). f.bytes)) frame))

-- a block that is among those of a list of views is mapped
pub among_is : (m : MappedViews) (block : ℕ) → is_some (frames_at m block) ≡ is_block_among block (blocks m)
among_is m block = is_some-lookup (nat_eq block) m.views ∙ flipped (keys_of m.views)
  where
    flipped : (xs : List ℕ) → list_any (nat_eq block) xs ≡ is_block_among block xs
    flipped [] = refl
    flipped (x ∷ xs) = ap (λ b. b || list_any (nat_eq block) xs) (nat_eq_equiv.symm block x) ∙ ap (λ b. (x == block) || b) (flipped xs)

module _ (m : MappedViews) (block : ℕ) where
  -- other frames of a block
  pub frames-with : (w : ViewFrames) (q : ℕ) → IsSome (frames_at m block) → frames_at (put_views m (with_frames m.views block w)) q ≡ cond (nat_eq block q) (Some w) (frames_at m q)
  frames-with w q some = lookup-set_value nat_eq_equiv (nat_eq block) (nat_eq_equiv.congr block) q w m.views some

  pub blocks-with : (w : ViewFrames) → blocks (put_views m (with_frames m.views block w)) ≡ blocks m
  blocks-with w = keys-set_value (nat_eq block) m.views w

  -- the same frames
  pub same-with : (w : ViewFrames) → frames_at m block ≡ Some w → put_views m (with_frames m.views block w) ≡ m
  same-with w there = ap (put_views m) (set_value_same (nat_eq block) m.views w there)

  -- no frames of a block
  pub frames-without : (q : ℕ) → IsDistinct nat_eq (blocks m) → frames_at (put_views m (without_block m.views block)) q ≡ cond (nat_eq block q) None (frames_at m q)
  frames-without q d = lookup-remove_entry nat_eq_equiv (nat_eq block) (nat_eq_equiv.congr block) q m.views d

-- the order without a block
pub keys-without : (es : List (ℕ × ViewFrames)) (block : ℕ) → IsDistinct nat_eq (keys_of es) → keys_of (without_block es block) ≡ order_without block (keys_of es)
unfolding IsDistinct
keys-without [] block d = refl
keys-without (e ∷ es) block d = by (nat_eq block e.0) refl (keys-without es block d.1)
  where
    absent : (ks : List ℕ) → AllByRecursion (λ y. nat_eq e.0 y ≡ false) ks → is_block_among e.0 ks ≡ false
    absent [] h = refl
    absent (k ∷ ks) h = ap (λ b. b || is_block_among e.0 ks) (nat_eq_equiv.symm k e.0 ∙ h.0) ∙ absent ks h.1

    by : (b : Bool) → nat_eq block e.0 ≡ b → keys_of (without_block es block) ≡ order_without block (keys_of es) → keys_of (cond b es (e ∷ without_block es block)) ≡ order_without block (e.0 ∷ keys_of es)
    by true t rest =
        let same : block ≡ e.0 = eqb-true block e.0 t in
        sym (ap (λ c. cond (not c) (e.0 ∷ order_without block (keys_of es)) (order_without block (keys_of es))) (nat_eq_equiv.symm e.0 block ∙ t)
        ∙ ap (λ c. order_without c (keys_of es)) same ∙ without_absent e.0 (keys_of es) (absent (keys_of es) d.0))
    by false t rest =
        ap (λ l. e.0 ∷ l) rest ∙ sym (ap (λ c. cond (not c) (e.0 ∷ order_without block (keys_of es)) (order_without block (keys_of es))) (nat_eq_equiv.symm e.0 block ∙ t))

keys-push : (es : List (ℕ × ViewFrames)) (e : ℕ × ViewFrames) → keys_of (es ++ e ∷ []) ≡ keys_of es ++ e.0 ∷ []
keys-push [] e = refl
keys-push (x ∷ es) e = ap (λ l. x.0 ∷ l) (keys-push es e)

lookup-push_other : (test : ℕ → Bool) (es : List (ℕ × ViewFrames)) (e : ℕ × ViewFrames) → test e.0 ≡ false → lookup test (es ++ e ∷ []) ≡ lookup test es
lookup-push_other test [] e h = ap (λ b. cond b (Some e.1) None) h
lookup-push_other test (x ∷ es) e h = ap (λ r. cond (test x.0) (Some x.1) r) (lookup-push_other test es e h)

lookup-push_here : (test : ℕ → Bool) (es : List (ℕ × ViewFrames)) (e : ℕ × ViewFrames) → lookup test es ≡ None → test e.0 ≡ true → lookup test (es ++ e ∷ []) ≡ Some e.1
lookup-push_here test [] e n h = ap (λ b. cond b (Some e.1) None) h
lookup-push_here test (x ∷ es) e n h = by (test x.0) (λ k. lookup-push_here test es e k h) n
  where
    by : (b : Bool) → (lookup test es ≡ None → lookup test (es ++ e ∷ []) ≡ Some e.1) → cond b (Some x.1) (lookup test es) ≡ None → cond b (Some x.1) (lookup test (es ++ e ∷ [])) ≡ Some e.1
    by true rest k = absurd (true≢false (ap is_some k))
    by false rest k = rest k

remove-push : (test : ℕ → Bool) (es : List (ℕ × ViewFrames)) (e : ℕ × ViewFrames) → lookup test es ≡ None → test e.0 ≡ true → remove_entry test (es ++ e ∷ []) ≡ es
remove-push test [] e n h = ap (λ b. cond b [] (e ∷ [])) h
remove-push test (x ∷ es) e n h = by (test x.0) (λ k. remove-push test es e k h) n
  where
    by : (b : Bool) → (lookup test es ≡ None → remove_entry test (es ++ e ∷ []) ≡ es) → cond b (Some x.1) (lookup test es) ≡ None → cond b (es ++ e ∷ []) (x ∷ remove_entry test (es ++ e ∷ [])) ≡ x ∷ es
    by true rest k = absurd (true≢false (ap is_some k))
    by false rest k = ap (λ l. x ∷ l) (rest k)

-- one page of a block changes with its frames
pub Puts-with : (m : MappedViews) (page : ℕ) (f w : ViewFrames) (frame : Option PageFrame) → frames_at m (block_of page) ≡ Some f → page_in w (page % 64) ≡ frame → KeepsOtherFrames f w (page % 64)
    → Puts m (put_views m (with_frames m.views (block_of page) w)) page frame
Puts-with m page f w frame there here others =
    let n = put_views m (with_frames m.views (block_of page) w) in
    let some : IsSome (frames_at m (block_of page)) = ap is_some there in
    record {
      here = frame_is n page ∙ ap (frame_in page) (frames-with m (block_of page) w (block_of page) some ∙ ap (λ b. cond b (Some w) (frames_at m (block_of page))) (nat_eq_equiv.refl (block_of page))) ∙ here;
      others = λ p ne. frame_is n p ∙ ap (frame_in p) (frames-with m (block_of page) w (block_of p) some) ∙ by p ne (nat_eq (block_of page) (block_of p)) refl ∙ sym (frame_is m p);
      quota = refl;
      size = refl;
    }
  where
    by : (p : ℕ) → p ≢ page → (b : Bool) → nat_eq (block_of page) (block_of p) ≡ b → frame_in p (cond b (Some w) (frames_at m (block_of p))) ≡ frame_in p (frames_at m (block_of p))
    by p ne true e =
        let same : block_of page ≡ block_of p = eqb-true (block_of page) (block_of p) e in
        let apart : p % 64 ≢ page % 64 = λ h. ne (omega arith) in
        others (p % 64) apart ∙ sym (ap (frame_in p) (ap (frames_at m) (sym same) ∙ there))
    by p ne false e = refl

pub Puts-if_some : (m : MappedViews) (page : ℕ) (f w : ViewFrames) (made : PageFrame → PageFrame) → frames_at m (block_of page) ≡ Some f → IfSome (page_in f (page % 64)) (λ frame. page_in w (page % 64) ≡ Some (made frame)) → KeepsOtherFrames f w (page % 64)
    → IfSome (frame_at m page) (λ frame. Puts m (put_views m (with_frames m.views (block_of page) w)) page (Some (made frame)))
Puts-if_some m page f w made there here others =
    let n = put_views m (with_frames m.views (block_of page) w) in
    let is : frame_at m page ≡ page_in f (page % 64) = frame_is m page ∙ ap (frame_in page) there in
    subst (λ o. IfSome o (λ frame. Puts m n page (Some (made frame)))) (sym is) (by (page_in f (page % 64)) here)
  where
    by : (o : Option PageFrame) → IfSome o (λ frame. page_in w (page % 64) ≡ Some (made frame)) → IfSome o (λ frame. Puts m (put_views m (with_frames m.views (block_of page) w)) page (Some (made frame)))
    by None h = tt
    by (Some frame) h = Puts-with m page f w (Some (made frame)) there h others

-- a page of a block that is not mapped is out already
pub Puts-none : (m : MappedViews) (page : ℕ) → frames_at m (block_of page) ≡ None → Puts m m page None
Puts-none m page none = record { here = frame_is m page ∙ ap (frame_in page) none; others = λ p _. refl; quota = refl; size = refl }

-- a use of a block
pub Keeps-used : (m : MappedViews) (block : ℕ) → IsDistinct nat_eq (blocks m) → KeepsFrames m (put_views m (used_views m.views block))
Keeps-used m block d =
    record {
      frames = λ p. frame_is (put_views m (used_views m.views block)) p ∙ ap (frame_in p) (by (frames_at m block) refl (block_of p)) ∙ sym (frame_is m p);
      quota = refl;
      size = refl;
    }
  where
    pushed : (f : ViewFrames) (q : ℕ) → frames_at m block ≡ Some f → (b : Bool) → nat_eq block q ≡ b → lookup (nat_eq q) (without_block m.views block ++ (block, f) ∷ []) ≡ frames_at m q
    pushed f q e true t =
        let same : block ≡ q = eqb-true block q t in
        let gone : lookup (nat_eq q) (without_block m.views block) ≡ None = frames-without m block q d ∙ ap (λ b. cond b None (frames_at m q)) t in
        lookup-push_here (nat_eq q) (without_block m.views block) (block, f) gone (nat_eq_equiv.symm q block ∙ t) ∙ sym e ∙ ap (frames_at m) same
    pushed f q e false t =
        lookup-push_other (nat_eq q) (without_block m.views block) (block, f) (nat_eq_equiv.symm q block ∙ t) ∙ frames-without m block q d ∙ ap (λ b. cond b None (frames_at m q)) t

    by : (o : Option ViewFrames) → frames_at m block ≡ o → (q : ℕ) → lookup (nat_eq q) (option_map_or (λ frames. without_block m.views block ++ (block, frames) ∷ []) o m.views) ≡ frames_at m q
    by None e q = refl
    by (Some f) e q = pushed f q e (nat_eq block q) refl

pub blocks-used : (m : MappedViews) (block : ℕ) → IsDistinct nat_eq (blocks m) → IsSome (frames_at m block) → blocks (put_views m (used_views m.views block)) ≡ used (block ∷ []) (blocks m)
blocks-used m block d some =
    let f = some_from (frames_at m block) some in
    ap (λ o. keys_of (option_map_or (λ frames. without_block m.views block ++ (block, frames) ∷ []) o m.views)) f.1
    ∙ keys-push (without_block m.views block) (block, f.0) ∙ ap (λ l. l ++ block ∷ []) (keys-without m.views block d)

-- a block that has no page is given up
pub Keeps-without : (m : MappedViews) (block : ℕ) → IsDistinct nat_eq (blocks m) → has_pages m block ≡ false → KeepsFrames m (put_views m (without_block m.views block))
Keeps-without m block d h =
    let n = put_views m (without_block m.views block) in
    record {
      frames = λ p. frame_is n p ∙ ap (frame_in p) (frames-without m block (block_of p) d) ∙ by p (nat_eq block (block_of p)) refl;
      quota = refl;
      size = refl;
    }
  where
    by : (p : ℕ) (b : Bool) → nat_eq block (block_of p) ≡ b → frame_in p (cond b None (frames_at m (block_of p))) ≡ frame_at m p
    by p true e = sym (page_of_none m block p h (sym (eqb-true block (block_of p) e)))
    by p false e = sym (frame_is m p)

-- a block is mapped, with no page
pub Keeps-last : (old new : MappedViews) (block : ℕ) → frames_at old block ≡ None → MapsLast old new block → new.quota ≡ old.quota → new.size ≡ old.size → KeepsFrames old new
Keeps-last old new block none last quota size =
    record {
      frames = λ p. frame_is new p ∙ by p (nat_eq (block_of p) block) refl;
      quota = quota;
      size = size;
    }
  where
    by : (p : ℕ) (b : Bool) → nat_eq (block_of p) block ≡ b → frame_in p (frames_at new (block_of p)) ≡ frame_at old p
    by p true e =
        let same : block_of p ≡ block = eqb-true (block_of p) block e in
        let was : frames_at old (block_of p) ≡ None = ap (frames_at old) same ∙ none in
        ap (frame_in p) (ap (lookup (nat_eq (block_of p))) last.last ∙ lookup-push_here (nat_eq (block_of p)) old.views (block, last.frames) was e)
        ∙ last.empty (p % 64) ∙ sym (frame_is old p ∙ ap (frame_in p) was)
    by p false e = ap (frame_in p) (ap (lookup (nat_eq (block_of p))) last.last ∙ lookup-push_other (nat_eq (block_of p)) old.views (block, last.frames) e) ∙ sym (frame_is old p)

pub mapped_last : (old new : MappedViews) (block : ℕ) → frames_at old block ≡ None → MapsLast old new block → IsSome (frames_at new block)
mapped_last old new block none last = ap is_some (ap (lookup (nat_eq block)) last.last ∙ lookup-push_here (nat_eq block) old.views (block, last.frames) none (nat_eq_equiv.refl block))

pub blocks-last : (old new : MappedViews) (block : ℕ) → frames_at old block ≡ None → MapsLast old new block → blocks new ≡ used (block ∷ []) (blocks old)
blocks-last old new block none last =
    ap keys_of last.last ∙ keys-push old.views (block, last.frames)
    ∙ ap (λ l. l ++ block ∷ []) (sym (without_absent block (blocks old) (sym (among_is old block) ∙ ap is_some none)))

-- and given up again
pub unmapped : (old new : MappedViews) (block : ℕ) → frames_at old block ≡ None → MapsLast old new block → new.quota ≡ old.quota → new.size ≡ old.size → put_views new (without_block new.views block) ≡ old
unmapped old new block none last quota size =
    let views : without_block new.views block ≡ old.views = ap (λ l. without_block l block) last.last ∙ remove-push (nat_eq block) old.views (block, last.frames) none (nat_eq_equiv.refl block) in
    λ i. record { views = views i; quota = quota i; size = size i }
