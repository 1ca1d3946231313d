-- What a change makes of a page: the bytes that it covers are its own, in their order, and all others stay.
use Rattle.std.specs.Prelude.{◌≡◌, ℕ, suc, ◌+◌, ◌-◌, ◌*◌, ◌<◌, ◌≤◌, min, max, ◌⊎◌, List, [], ◌∷◌, ◌++◌, length, take, drop, slice_index, refl}
use Rattle.std.proofs.Common.{ap, sym, ◌∙◌, arith, inl, inr, ⊎_elim}
use Rattle.std.proofs.lemmas.Bool.{cases_lt}
use Rattle.std.proofs.lemmas.Bool.Decides.{nat_tests}
use Rattle.std.proofs.lemmas.List.{take-append-drop, length-take, length-drop, drop-drop}
use Rattle.std.proofs.Math.Seq.{drop-cons}
use borrow.Rule.Slice.PartMut.{put_mid}
use Rattle.cc_redo.specs.Heard.{Change, end_of_change}
use Rattle.cc_redo.specs.Changes.{byte_after, byte_by, bytes_after, page_after}

-- the changes of a list are made one after the other
pub after-cons : (change : Change) (changes : List Change) (page place : ℕ) (bytes : List ℕ) →
    bytes_after (change ∷ changes) page place bytes ≡ bytes_after changes page place (bytes_after (change ∷ []) page place bytes)
unfolding bytes_after
after-cons change changes page place [] = refl
after-cons change changes page place (byte ∷ bytes) =
    ap (λ (l : List ℕ). byte_after (change ∷ changes) page place byte ∷ l) (after-cons change changes page (place + 1) bytes)

pub after-none : (page place : ℕ) (bytes : List ℕ) → bytes_after [] page place bytes ≡ bytes
unfolding bytes_after
after-none page place [] = refl
after-none page place (byte ∷ bytes) = ap (λ (l : List ℕ). byte ∷ l) (after-none page (place + 1) bytes)

pub length-after : (changes : List Change) (page place : ℕ) (bytes : List ℕ) → length (bytes_after changes page place bytes) ≡ length bytes
unfolding bytes_after
length-after changes page place [] = refl
length-after changes page place (byte ∷ bytes) = let rest = length-after changes page (place + 1) bytes in omega (arith, rest)

pub after-append : (changes : List Change) (page place : ℕ) (xs ys : List ℕ) →
    bytes_after changes page place (xs ++ ys) ≡ bytes_after changes page place xs ++ bytes_after changes page (place + length xs) ys
unfolding bytes_after
after-append changes page place [] ys = ap (λ (n : ℕ). bytes_after changes page n ys) (omega arith)
after-append changes page place (x ∷ xs) ys =
    let rest = after-append changes page (place + 1) xs ys in
    let moved : place + 1 + length xs ≡ place + length (x ∷ xs) = omega arith in
    ap (λ (l : List ℕ). byte_after changes page place x ∷ l) (rest ∙ ap (λ (n : ℕ). bytes_after changes page (place + 1) xs ++ bytes_after changes page n ys) moved)

-- a byte that the change does not cover, and one that it covers
byte-out : (change : Change) (page place byte : ℕ) →
    ((4096 ≤ place) ⊎ (4096 * page + place < change.at)) ⊎ (end_of_change change ≤ 4096 * page + place) → byte_by change page place byte ≡ byte
byte-out change page place byte out = grind (arith, nat_tests)

byte-in : (change : Change) (page place byte : ℕ) → place < 4096 → change.at ≤ 4096 * page + place → 4096 * page + place < end_of_change change →
    byte_by change page place byte ≡ slice_index change.bytes (4096 * page + place - change.at)
byte-in change page place byte below begins ends = grind (arith, nat_tests)

-- bytes that the change does not cover
before : (change : Change) (page place : ℕ) (bytes : List ℕ) → 4096 * page + place + length bytes ≤ change.at → bytes_after (change ∷ []) page place bytes ≡ bytes
unfolding bytes_after
before change page place [] h = refl
before change page place (byte ∷ bytes) h =
    let first = byte-out change page place byte (inl (inr (omega arith))) in
    let rest = before change page (place + 1) bytes (omega arith) in
    rw (first, rest) refl

behind : (change : Change) (page place : ℕ) (bytes : List ℕ) → end_of_change change ≤ 4096 * page + place → bytes_after (change ∷ []) page place bytes ≡ bytes
unfolding bytes_after
behind change page place [] h = refl
behind change page place (byte ∷ bytes) h =
    let first = byte-out change page place byte (inr h) in
    let rest = behind change page (place + 1) bytes (omega arith) in
    rw (first, rest) refl

past : (change : Change) (page place : ℕ) (bytes : List ℕ) → 4096 ≤ place → bytes_after (change ∷ []) page place bytes ≡ bytes
unfolding bytes_after
past change page place [] h = refl
past change page place (byte ∷ bytes) h =
    let first = byte-out change page place byte (inl (inl h)) in
    let rest = past change page (place + 1) bytes (omega arith) in
    rw (first, rest) refl

-- a page of which the change covers no byte, however long a list of bytes stands for it
beyond : (change : Change) (page place : ℕ) (bytes : List ℕ) → 4096 * page + 4096 ≤ change.at → bytes_after (change ∷ []) page place bytes ≡ bytes
unfolding bytes_after
beyond change page place [] h = refl
beyond change page place (byte ∷ bytes) h =
    let out : ((4096 ≤ place) ⊎ (4096 * page + place < change.at)) ⊎ (end_of_change change ≤ 4096 * page + place) =
    ⊎_elim (λ (b : place < 4096). inl (inr (omega arith))) (λ (p : 4096 ≤ place). inl (inl p)) (cases_lt place 4096) in
    let first = byte-out change page place byte out in
    let rest = beyond change page (place + 1) bytes h in
    rw (first, rest) refl

pub untouched : (change : Change) (page : ℕ) (bytes : List ℕ) →
    (4096 * page + 4096 ≤ change.at) ⊎ (end_of_change change ≤ 4096 * page) → page_after (change ∷ []) page bytes ≡ bytes
untouched change page bytes (inl before_it) = beyond change page 0 bytes before_it
untouched change page bytes (inr behind_it) = behind change page 0 bytes (omega arith)

-- bytes that it covers
within : (change : Change) (page place : ℕ) (bytes : List ℕ) → change.at ≤ 4096 * page + place →
    4096 * page + place + length bytes ≤ end_of_change change → place + length bytes ≤ 4096 →
    bytes_after (change ∷ []) page place bytes ≡ take (length bytes) (drop (4096 * page + place - change.at) change.bytes)
unfolding bytes_after
within change page place [] begins ends below = refl
within change page place (byte ∷ bytes) begins ends below =
    let first = byte-in change page place byte (omega arith) begins (omega arith) in
    let rest = within change page (place + 1) bytes (omega arith) (omega arith) (omega arith) in
    let at = 4096 * page + place - change.at in
    let next : 4096 * page + (place + 1) - change.at ≡ suc at = omega arith in
    let inside : at < length change.bytes = omega arith in
    let piece : drop at change.bytes ≡ slice_index change.bytes at ∷ drop (suc at) change.bytes = drop-cons change.bytes at 0 inside in
    ap (λ (b : ℕ). b ∷ bytes_after (change ∷ []) page (place + 1) bytes) first
    ∙ ap (λ (l : List ℕ). slice_index change.bytes at ∷ l) (rest ∙ ap (λ (n : ℕ). take (length bytes) (drop n change.bytes)) next)
    ∙ sym (ap (λ (l : List ℕ). take (length (byte ∷ bytes)) l) piece)

nothing-stays : (change : Change) (page : ℕ) (front : List ℕ) → length front ≡ 0 → bytes_after (change ∷ []) page 0 front ≡ front
unfolding bytes_after
nothing-stays change page [] long = refl
nothing-stays change page (b ∷ bs) long = absurd (omega arith)

-- a page of which a part is covered: the front stays, the part is that of the change, and the rest stays
pub patched : (change : Change) (page from to : ℕ) (bytes : List ℕ) → length bytes ≡ 4096 → from ≤ to → to ≤ 4096 →
    change.at ≤ 4096 * page + from → 4096 * page + to ≤ end_of_change change →
    (from ≡ 0) ⊎ (4096 * page + from ≡ change.at) → (to ≡ 4096) ⊎ (4096 * page + to ≡ end_of_change change) →
    page_after (change ∷ []) page bytes
    ≡ take from bytes ++ (take (to - from) (drop (4096 * page + from - change.at) change.bytes) ++ drop to bytes)
patched change page from to bytes long order fits begins ends starts stops =
    let changes : List Change = change ∷ [] in
    let front : List ℕ = take from bytes in
    let middle : List ℕ = take (to - from) (drop from bytes) in
    let rest : List ℕ = drop to bytes in
    let front_long : length front ≡ from = length-take from bytes ∙ omega arith in
    let dropped : length (drop from bytes) ≡ 4096 - from = length-drop from bytes ∙ omega arith in
    let middle_long : length middle ≡ to - from = length-take (to - from) (drop from bytes) ∙ omega arith in
    let split_rest : drop (to - from) (drop from bytes) ≡ rest = drop-drop (to - from) from bytes ∙ ap (λ (n : ℕ). drop n bytes) (omega arith) in
    let split : bytes ≡ front ++ (middle ++ rest) =
    sym (take-append-drop from bytes)
    ∙ ap (λ (l : List ℕ). front ++ l) (sym (take-append-drop (to - from) (drop from bytes)) ∙ ap (λ (l : List ℕ). middle ++ l) split_rest) in
    let of_front : bytes_after changes page 0 front ≡ front = front-stays change page from front front_long starts in
    let of_middle : bytes_after changes page from middle ≡ take (to - from) (drop (4096 * page + from - change.at) change.bytes) =
    within change page from middle begins (omega arith) (omega arith) ∙ ap (λ (n : ℕ). take n (drop (4096 * page + from - change.at) change.bytes)) middle_long in
    let of_rest : bytes_after changes page to rest ≡ rest = rest-stays change page to rest stops in
    ap (λ (l : List ℕ). bytes_after changes page 0 l) split
    ∙ after-append changes page 0 front (middle ++ rest)
    ∙ ap (λ (l : List ℕ). l ++ bytes_after changes page (0 + length front) (middle ++ rest)) of_front
    ∙ ap (λ (n : ℕ). front ++ bytes_after changes page n (middle ++ rest)) (omega arith)
    ∙ ap (λ (l : List ℕ). front ++ l) (after-append changes page from middle rest)
    ∙ ap (λ (l : List ℕ). front ++ (l ++ bytes_after changes page (from + length middle) rest)) of_middle
    ∙ ap (λ (n : ℕ). front ++ (take (to - from) (drop (4096 * page + from - change.at) change.bytes) ++ bytes_after changes page n rest)) (omega arith)
    ∙ ap (λ (l : List ℕ). front ++ (take (to - from) (drop (4096 * page + from - change.at) change.bytes) ++ l)) of_rest
  where
    front-stays : (change : Change) (page from : ℕ) (front : List ℕ) → length front ≡ from → (from ≡ 0) ⊎ (4096 * page + from ≡ change.at) →
        bytes_after (change ∷ []) page 0 front ≡ front
    front-stays change page from front long (inl none) = nothing-stays change page front (long ∙ none)
    front-stays change page from front long (inr at) = before change page 0 front (omega arith)

    rest-stays : (change : Change) (page to : ℕ) (rest : List ℕ) → (to ≡ 4096) ⊎ (4096 * page + to ≡ end_of_change change) →
        bytes_after (change ∷ []) page to rest ≡ rest
    rest-stays change page to rest (inl all) = past change page to rest (omega arith)
    rest-stays change page to rest (inr end) = behind change page to rest (omega arith)

-- a change of no byte
pub empty-stays : (change : Change) (page place : ℕ) (bytes : List ℕ) → length change.bytes ≡ 0 → bytes_after (change ∷ []) page place bytes ≡ bytes
unfolding bytes_after
empty-stays change page place [] none = refl
empty-stays change page place (byte ∷ bytes) none =
    let out : ((4096 ≤ place) ⊎ (4096 * page + place < change.at)) ⊎ (end_of_change change ≤ 4096 * page + place) =
    ⊎_elim (λ (b : 4096 * page + place < change.at). inl (inr b)) (λ (a : change.at ≤ 4096 * page + place). inr (omega arith)) (cases_lt (4096 * page + place) change.at) in
    let first = byte-out change page place byte out in
    let rest = empty-stays change page (place + 1) bytes none in
    rw (first, rest) refl

same-part : (a b n m : ℕ) (l : List ℕ) → a ≡ b → n ≡ m → take n (drop a l) ≡ take m (drop b l)
same-part a b n m l e f = rw (e, f) refl

-- what is copied into a page from the first place of a change in it to the last
pub patch-whole : (change : Change) (page first last : ℕ) (bytes copied : List ℕ) → length bytes ≡ 4096 → first ≡ max change.at (4096 * page) →
    last ≡ min (end_of_change change) (4096 * page + 4096) → change.at < 4096 * page + 4096 → 4096 * page < end_of_change change →
    copied ≡ take (last - change.at - (first - change.at)) (drop (first - change.at) change.bytes) →
    put_mid (first - 4096 * page) (last - 4096 * page - (first - 4096 * page)) bytes copied ≡ page_after (change ∷ []) page bytes
patch-whole change page first last bytes copied long first_is last_is begins ends copied_is =
    let from : ℕ = first - 4096 * page in
    let to : ℕ = last - 4096 * page in
    let starts : (from ≡ 0) ⊎ (4096 * page + from ≡ change.at) =
    ⊎_elim (λ (b : change.at < 4096 * page). inl (omega arith)) (λ (a : 4096 * page ≤ change.at). inr (omega arith)) (cases_lt change.at (4096 * page)) in
    let stops : (to ≡ 4096) ⊎ (4096 * page + to ≡ end_of_change change) =
    ⊎_elim (λ (b : end_of_change change < 4096 * page + 4096). inr (omega arith)) (λ (a : 4096 * page + 4096 ≤ end_of_change change). inl (omega arith)) (cases_lt (end_of_change change) (4096 * page + 4096)) in
    let order : from ≤ to = omega arith in
    let fits : to ≤ 4096 = omega arith in
    let begin : change.at ≤ 4096 * page + from = omega arith in
    let end : 4096 * page + to ≤ end_of_change change = omega arith in
    let piece : copied ≡ take (to - from) (drop (4096 * page + from - change.at) change.bytes) =
    copied_is ∙ same-part (first - change.at) (4096 * page + from - change.at) (last - change.at - (first - change.at)) (to - from) change.bytes (omega arith) (omega arith) in
    let rest : drop (to - from) (drop from bytes) ≡ drop to bytes = drop-drop (to - from) from bytes ∙ ap (λ (n : ℕ). drop n bytes) (omega arith) in
    let tail : copied ++ drop (to - from) (drop from bytes) ≡ take (to - from) (drop (4096 * page + from - change.at) change.bytes) ++ drop to bytes =
    ap (λ (l : List ℕ). l ++ drop (to - from) (drop from bytes)) piece ∙ ap (λ (l : List ℕ). take (to - from) (drop (4096 * page + from - change.at) change.bytes) ++ l) rest in
    ap (λ (l : List ℕ). take from bytes ++ l) tail ∙ sym (patched change page from to bytes long order fits begin end starts stops)
