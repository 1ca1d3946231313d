-- Bytes at their places, in a list that is kept in parts.
use Rattle.std.proofs.Common.{◌≡◌, ℕ, ◌==◌, Bool, false, not, suc, zero, ◌+◌, ◌-◌, ◌<◌, ◌≤◌, List, [], ◌∷◌, ◌++◌, replicate, take, drop, set, length, get_or, slice_get, Some, refl, ap, sym, ◌∙◌, arith, append_assoc}
use Rattle.std.proofs.lemmas.List.{append-nil, length-append, length-replicate, length-drop, get_or-replicate, drop_more, take_more, take_all, take-take, take-append-le, drop-append-le, drop-take, drop-drop, take-append-drop, length-take-le, replicate-append-replicate, nil_from_length}
use Rattle.std.proofs.lemmas.Bool.Decides.{nat_tests}
use Rattle.std.proofs.lemmas.Option.{slice_get-get_or, get_or_from_slice_get, slice_get_within}
use Rattle.cc_entry.specs.declared.part.Part.{Part}
use Rattle.cc_entry.specs.Parts.{bytes_in, plain_in}

-- a byte of those of one value
pub replicated_at : (x n i : ℕ) → i < n → slice_get (replicate n x) i ≡ Some x
replicated_at x n i h = slice_get-get_or (replicate n x) i 0 (omega (arith, length-replicate n x, h)) ∙ ap Some (get_or-replicate n i x 0 h)

-- a byte of the first bytes, and one past them
pub within_first : (part bytes : List ℕ) (i : ℕ) → i < length part → slice_get (part ++ bytes) i ≡ slice_get part i
within_first [] bytes i h = absurd (omega arith)
within_first (x ∷ part) bytes zero h = refl
within_first (x ∷ part) bytes (suc i) h = within_first part bytes i (omega arith)

pub past_first : (part bytes : List ℕ) (i : ℕ) → length part ≤ i → slice_get (part ++ bytes) i ≡ slice_get bytes (i - length part)
past_first [] bytes i h = let e : i - 0 ≡ i = omega arith in rw e refl
past_first (x ∷ part) bytes zero h = absurd (omega arith)
past_first (x ∷ part) bytes (suc i) h =
    let e : suc i - suc (length part) ≡ i - length part = omega arith in rw e (past_first part bytes i (omega arith))

-- the first of the bytes from a place on
pub first_from : (bytes : List ℕ) (i : ℕ) → slice_get (drop i bytes) 0 ≡ slice_get bytes i
first_from [] zero = refl
first_from [] (suc i) = refl
first_from (x ∷ bytes) zero = refl
first_from (x ∷ bytes) (suc i) = first_from bytes i

-- bytes of one value, and more of it behind them
pub same_more : (b n m : ℕ) (before after all : List ℕ) → replicate n b ++ before ≡ all → before ≡ replicate m b ++ after → replicate (n + m) b ++ after ≡ all
same_more b n m before after all e f =
    ap (λ bytes. bytes ++ after) (sym (replicate-append-replicate n m b)) ∙ append_assoc (replicate n b) (replicate m b) after ∙ ap (replicate n b ++◌) (sym f) ∙ e

-- the next bytes behind the first ones
pub take_add : (bytes : List ℕ) (at n : ℕ) → take (at + n) bytes ≡ take at bytes ++ take n (drop at bytes)
take_add bytes at n =
    sym (take-append-drop at (take (at + n) bytes)) ∙ ap (λ xs. xs ++ drop at (take (at + n) bytes)) (take-take at (at + n) bytes (omega arith)) ∙ ap (take at bytes ++◌) (drop-take at n bytes)

-- more bytes of the same value
pub same_longer : (bytes : List ℕ) (at end n b : ℕ) → at ≤ end → take end bytes ≡ take at bytes ++ replicate (end - at) b → take (end + n) bytes ≡ take end bytes ++ replicate n b → take (end + n) bytes ≡ take at bytes ++ replicate (end + n - at) b
same_longer bytes at end n b from e more =
    let long : end - at + n ≡ end + n - at = omega (arith, from) in
    more ∙ ap (λ front. front ++ replicate n b) e ∙ append_assoc (take at bytes) (replicate (end - at) b) (replicate n b)
    ∙ ap (take at bytes ++◌) (replicate-append-replicate (end - at) n b ∙ ap (λ m. replicate m b) long)

-- one more byte of the same value, and one more block
pub byte_longer : (bytes : List ℕ) (at end b : ℕ) → at ≤ end → end < length bytes → get_or bytes end 0 ≡ b → take end bytes ≡ take at bytes ++ replicate (end - at) b → take (end + 1) bytes ≡ take at bytes ++ replicate (end + 1 - at) b
byte_longer bytes at end b from within is e =
    same_longer bytes at end 1 b from e (take_more bytes end 0 within ∙ ap (λ x. take end bytes ++ x ∷ []) is)

pub block_longer : (bytes : List ℕ) (at end k b : ℕ) → at ≤ end → end + 64 ≤ length bytes → k ≡ 64 → take k (drop end bytes) ≡ replicate (length (take k (drop end bytes))) b → take end bytes ≡ take at bytes ++ replicate (end - at) b → take (end + 64) bytes ≡ take at bytes ++ replicate (end + 64 - at) b
block_longer bytes at end k b from within whole all e =
    let long : length (take k (drop end bytes)) ≡ 64 = length-take-le k (drop end bytes) (omega (arith, length-drop end bytes, within, whole)) ∙ whole in
    let block : take 64 (drop end bytes) ≡ replicate 64 b = ap (λ n. take n (drop end bytes)) (sym whole) ∙ all ∙ ap (λ n. replicate n b) long in
    same_longer bytes at end 64 b from e (take_add bytes end 64 ∙ ap (take end bytes ++◌) block)

-- bytes of one value from a place on
pub same_next : (bytes : List ℕ) (end b : ℕ) → end ≤ length bytes → take end bytes ≡ replicate end b → bytes ≡ replicate end b ++ drop end bytes
same_next bytes end b within e = sym (take-append-drop end bytes) ∙ ap (λ front. front ++ drop end bytes) e

-- of a part all is read where its bytes are of one value
pub all_read : (front rest : List ℕ) (same count b byte : ℕ) → front ≡ replicate same byte → (0 < count → b ≡ byte) → front ++ (replicate count b ++ rest) ≡ replicate (same + count) byte ++ rest
all_read front rest same zero b byte e f =
    let n : same ≡ same + 0 = omega arith in ap (λ l. l ++ rest) (e ∙ ap (λ m. replicate m byte) n)
all_read front rest same (suc n) b byte e f =
    ap (λ v. front ++ (replicate (suc n) v ++ rest)) (f (omega arith)) ∙ ap (λ l. l ++ (replicate (suc n) byte ++ rest)) e
    ∙ sym (append_assoc (replicate same byte) (replicate (suc n) byte) rest) ∙ ap (λ l. l ++ rest) (replicate-append-replicate same (suc n) byte)

-- two bytes of which it was tested that they do not differ
pub same_from_not : (a b : ℕ) (differ : Bool) → differ ≡ not (a == b) → differ ≡ false → a ≡ b
same_from_not a b differ test none = let e : not (a == b) ≡ false = sym test ∙ none in grind (arith, nat_tests)

-- lists that are the same from a place on are so from a later one on
pub drop_further : (xs ys : List ℕ) (n m : ℕ) → drop n xs ≡ drop n ys → drop (n + m) xs ≡ drop (n + m) ys
drop_further xs ys n m e = sym (drop-drop m n xs) ∙ ap (drop m) e ∙ drop-drop m n ys

-- the same value does not follow at the end, nor past it
pub other_follows : (bytes : List ℕ) (i b : ℕ) → (get_or bytes i 0 ≡ b → ⊥) → slice_get bytes i ≡ Some b → ⊥
other_follows bytes i b other e = other (get_or_from_slice_get bytes i b 0 e)

pub none_follows : (bytes : List ℕ) (i b : ℕ) → length bytes ≤ i → slice_get bytes i ≡ Some b → ⊥
none_follows bytes i b past e = omega (arith, past, slice_get_within bytes i b e)

-- bytes each of which is the next one are of one value
pub all_same : (bytes : List ℕ) (b : ℕ) → get_or bytes 0 0 ≡ b → drop 1 bytes ≡ take (length bytes - 1) bytes → bytes ≡ replicate (length bytes) b
all_same [] b first shifted = refl
all_same (x ∷ []) b first shifted = ap (λ y. y ∷ []) first
all_same (x ∷ y ∷ bytes) b first shifted =
    let n : suc (suc (length bytes)) - 1 ≡ suc (length bytes) = omega arith in
    let moved : y ∷ bytes ≡ x ∷ take (length bytes) (y ∷ bytes) = shifted ∙ ap (λ m. take m (x ∷ y ∷ bytes)) n in
    let second : y ≡ x = ap (λ l. get_or l 0 0) moved in
    let rest : drop 1 (y ∷ bytes) ≡ take (length bytes) (y ∷ bytes) = ap (drop 1) moved in
    let m : suc (length bytes) - 1 ≡ length bytes = omega arith in
    let follow = all_same (y ∷ bytes) b (second ∙ first) (rest ∙ ap (λ k. take k (y ∷ bytes)) (sym m)) in
    ap (λ z. z ∷ y ∷ bytes) first ∙ ap (b ∷◌) follow

-- a part behind others, with the bytes that it keeps as they are
pub part_behind : (parts : List Part) (p : Part) (plain more : List ℕ) → plain_in parts ≡ length plain → p.plain ≡ length more → bytes_in (parts ++ p ∷ []) (plain ++ more) ≡ bytes_in parts plain ++ (more ++ replicate p.count p.byte)
part_behind [] p plain more whole long =
    let none : plain ≡ [] = nil_from_length plain (sym whole) in
    rw none (ap (λ front. front ++ (replicate p.count p.byte ++ [])) (take_all p.plain more (omega (arith, long))) ∙ ap (more ++◌) (append-nil (replicate p.count p.byte)))
part_behind (q ∷ parts) p plain more whole long =
    let within : q.plain ≤ length plain = omega (arith, whole) in
    let rest : plain_in parts ≡ length (drop q.plain plain) = omega (arith, whole, length-drop q.plain plain) in
    let same = replicate q.count q.byte in let front = take q.plain plain in let behind = bytes_in parts (drop q.plain plain) in
    let added = more ++ replicate p.count p.byte in
    ap (λ bytes. bytes ++ (same ++ bytes_in (parts ++ p ∷ []) (drop q.plain (plain ++ more)))) (take-append-le q.plain plain more within)
    ∙ ap (λ bytes. front ++ (same ++ bytes_in (parts ++ p ∷ []) bytes)) (drop-append-le q.plain plain more within)
    ∙ ap (λ bytes. front ++ (same ++ bytes)) (part_behind parts p (drop q.plain plain) more rest long)
    ∙ ap (front ++◌) (sym (append_assoc same behind added)) ∙ sym (append_assoc front (same ++ behind) added)

pub plain_behind : (parts : List Part) (p : Part) → plain_in (parts ++ p ∷ []) ≡ plain_in parts + p.plain
plain_behind [] p = omega arith
plain_behind (q ∷ parts) p = let more = plain_behind parts p in omega (arith, more)

-- another part in place of the last, with more bytes that it keeps as they are
pub last_longer : (parts : List Part) (i : ℕ) (d p : Part) (plain more added : List ℕ) → i + 1 ≡ length parts → plain_in parts ≡ length plain → p.plain ≡ (get_or parts i d).plain + length more → more ++ replicate p.count p.byte ≡ replicate (get_or parts i d).count (get_or parts i d).byte ++ added → bytes_in (set parts i p) (plain ++ more) ≡ bytes_in parts plain ++ added
last_longer [] i d p plain more added h whole long e = absurd (omega arith)
last_longer (q ∷ []) zero d p plain more added h whole long e =
    let same = replicate q.count q.byte in
    let all : q.plain ≡ length plain = omega (arith, whole) in
    ap (λ front. front ++ (replicate p.count p.byte ++ [])) (take_all p.plain (plain ++ more) (omega (arith, all, long, length-append plain more)))
    ∙ ap ((plain ++ more) ++◌) (append-nil (replicate p.count p.byte))
    ∙ append_assoc plain more (replicate p.count p.byte) ∙ ap (plain ++◌) e ∙ sym (append_assoc plain same added)
    ∙ ap (λ front. (plain ++ front) ++ added) (sym (append-nil same))
    ∙ ap (λ front. (front ++ (same ++ [])) ++ added) (sym (take_all q.plain plain (omega (arith, all))))
last_longer (q ∷ []) (suc i) d p plain more added h whole long e = absurd (omega arith)
last_longer (q ∷ r ∷ parts) zero d p plain more added h whole long e = absurd (omega arith)
last_longer (q ∷ r ∷ parts) (suc i) d p plain more added h whole long e =
    let within : q.plain ≤ length plain = omega (arith, whole) in
    let rest : plain_in (r ∷ parts) ≡ length (drop q.plain plain) = omega (arith, whole, length-drop q.plain plain) in
    let same = replicate q.count q.byte in let front = take q.plain plain in let behind = bytes_in (r ∷ parts) (drop q.plain plain) in
    ap (λ bytes. bytes ++ (same ++ bytes_in (set (r ∷ parts) i p) (drop q.plain (plain ++ more)))) (take-append-le q.plain plain more within)
    ∙ ap (λ bytes. front ++ (same ++ bytes_in (set (r ∷ parts) i p) bytes)) (drop-append-le q.plain plain more within)
    ∙ ap (λ bytes. front ++ (same ++ bytes)) (last_longer (r ∷ parts) i d p (drop q.plain plain) more added (omega arith) rest long e)
    ∙ ap (front ++◌) (sym (append_assoc same behind added)) ∙ sym (append_assoc front (same ++ behind) added)

pub plain_longer : (parts : List Part) (i : ℕ) (d p : Part) → i < length parts → plain_in (set parts i p) + (get_or parts i d).plain ≡ plain_in parts + p.plain
plain_longer [] i d p h = absurd (omega arith)
plain_longer (q ∷ parts) zero d p h = omega arith
plain_longer (q ∷ parts) (suc i) d p h = let more = plain_longer parts i d p (omega arith) in omega (arith, more)

-- the bytes of parts from one on
pub parts_more : (parts : List Part) (i : ℕ) (d : Part) (plain : List ℕ) → i < length parts → bytes_in (drop i parts) plain ≡ take (get_or parts i d).plain plain ++ (replicate (get_or parts i d).count (get_or parts i d).byte ++ bytes_in (drop (i + 1) parts) (drop (get_or parts i d).plain plain))
parts_more parts i d plain h = ap (λ rest. bytes_in rest plain) (drop_more parts i d h)

pub plain_more : (parts : List Part) (i : ℕ) (d : Part) → i < length parts → plain_in (drop i parts) ≡ (get_or parts i d).plain + plain_in (drop (i + 1) parts)
plain_more parts i d h = ap plain_in (drop_more parts i d h)

-- the last part is no longer than all bytes
pub last_within : (parts : List Part) (i : ℕ) (d : Part) (plain : List ℕ) → i < length parts → plain_in parts ≡ length plain → (get_or parts i d).plain + (get_or parts i d).count ≤ length (bytes_in parts plain)
last_within [] i d plain h whole = absurd (omega arith)
last_within (q ∷ parts) zero d plain h whole =
    let rest = bytes_in parts (drop q.plain plain) in
    let front : length (take q.plain plain) ≡ q.plain = length-take-le q.plain plain (omega (arith, whole)) in
    omega (arith, front, length-append (take q.plain plain) (replicate q.count q.byte ++ rest), length-append (replicate q.count q.byte) rest, length-replicate q.count q.byte)
last_within (q ∷ parts) (suc i) d plain h whole =
    let rest = bytes_in parts (drop q.plain plain) in
    let deeper = last_within parts i d (drop q.plain plain) (omega arith) (let long = length-drop q.plain plain in omega (arith, whole, long)) in
    omega (arith, deeper, length-append (take q.plain plain) (replicate q.count q.byte ++ rest), length-append (replicate q.count q.byte) rest)

-- the next part: its bytes are the first of those that are left, and so are those that it keeps as they are
pub parts_next : (parts : List Part) (i : ℕ) (p : Part) (plain front behind : List ℕ) → i < length parts → p ≡ get_or parts i p → front ≡ take p.plain plain → behind ≡ drop p.plain plain → bytes_in (drop i parts) plain ≡ front ++ (replicate p.count p.byte ++ bytes_in (drop (i + 1) parts) behind)
parts_next parts i p plain front behind h is first last =
    let after = drop (i + 1) parts in let same = replicate p.count p.byte in
    parts_more parts i p plain h
    ∙ ap (λ (q : Part). take q.plain plain ++ (replicate q.count q.byte ++ bytes_in after (drop q.plain plain))) (sym is)
    ∙ ap (λ l. l ++ (same ++ bytes_in after (drop p.plain plain))) (sym first) ∙ ap (λ l. front ++ (same ++ bytes_in after l)) (sym last)

pub plain_next : (parts : List Part) (i : ℕ) (p : Part) (plain : List ℕ) → i < length parts → p ≡ get_or parts i p → plain_in (drop i parts) ≡ length plain → (p.plain ≤ length plain) × (plain_in (drop (i + 1) parts) ≡ length (drop p.plain plain))
plain_next parts i p plain h is whole =
    let more = plain_more parts i p h in let same = ap (λ (q : Part). q.plain) is in let left = length-drop p.plain plain in
    (omega (arith, more, same, whole), omega (arith, more, same, whole, left))

-- a part is copied, behind what was
pub copied : (out once twice front rest all : List ℕ) (at count byte : ℕ) → take (at + length front) once ≡ take at out ++ front → take (at + length front + count) twice ≡ take (at + length front) once ++ replicate count byte → take at out ++ (front ++ (replicate count byte ++ rest)) ≡ all → take (at + length front + count) twice ++ rest ≡ all
copied out once twice front rest all at count byte first second e =
    ap (λ l. l ++ rest) second ∙ ap (λ l. (l ++ replicate count byte) ++ rest) first
    ∙ append_assoc (take at out ++ front) (replicate count byte) rest ∙ append_assoc (take at out) front (replicate count byte ++ rest) ∙ e

pub behind_copied : (out once twice was : List ℕ) (at n m : ℕ) → drop (at + n) once ≡ drop (at + n) out → drop (at + n + m) twice ≡ drop (at + n + m) once → drop at out ≡ drop at was → drop (at + n + m) twice ≡ drop (at + n + m) was
behind_copied out once twice was at n m first second e =
    second ∙ drop_further once out (at + n) m first ∙ drop_further out was (at + n) m (drop_further out was at n e)
