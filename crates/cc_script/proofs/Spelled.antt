-- Each word that is read as bytes is a spelling of them.
use Rattle.std.proofs.Common.{◌≡◌, ℕ, ◌+◌, ◌-◌, ◌*◌, ◌/◌, ◌%◌, ◌<◌, ◌≤◌, ◌==◌, Bool, true, false, ◌&&◌, Some, None, Option, option_and_then, List, [], ◌∷◌, ◌++◌, ◌↔◌, inl, inr, length, replicate, map, nat_lt, nat_le, codes, if◌then◌else◌, refl, ap, sym, ◌∙◌, append_assoc, arith, length-append}
use Rattle.std.specs.List.{join_with_byte, list_all, flat_map}
use Rattle.std.specs.Char.{is_ascii_digit}
use Rattle.std.specs.Str.{bytes_eq}
use Rattle.std.specs.Fmt.{decimal, digit_glyph}
use Rattle.std.proofs.lemmas.List.{append-nil, length-replicate}
use Rattle.std.proofs.lemmas.List.Splits.{join_with_byte-slice_split}
use Rattle.std.proofs.lemmas.Slice.Eq.{bytes_eq-Decides}
use Rattle.std.proofs.lemmas.Bool.Decides.{nat_tests}
use Rattle.cc_script.specs.Text.{parts}
use Rattle.cc_script.specs.Words.{parsed_number, number_between, parsed_hex_digit, parsed_pair, with_bytes, pair_onto, pairs_onto, run_onto, item_onto, items_onto, parsed_bytes}
use Rattle.cc_script.specs.Laws.{Item, Pairs, Times, pair_text, item_text, item_bytes, items_bytes, IsItem, AreItems, IsSpelling, SpellsBytes}
use Rattle.cc_script.proofs.Numbers.{decimal-number_of}
use Rattle.cc_script.proofs.Parts.{some_part}
use Rattle.cc_script.proofs.Items.{items_spell}

-- what is read as a digit is its glyph
glyph_of : (c d : ℕ) → parsed_hex_digit c ≡ Some d → (c ≡ digit_glyph true d) × (d < 16)
glyph_of c d h = either (is_ascii_digit c) refl h
  where
    letter : (s t : Bool) → nat_le 65 c ≡ s → nat_le c 70 ≡ t → (if s && t then Some (c - 55) else None) ≡ Some d → (c ≡ digit_glyph true d) × (d < 16)
    letter true true e f g =
        let low : 65 ≤ c = grind (arith, nat_tests) in
        let high : c ≤ 70 = grind (arith, nat_tests) in
        let z : c - 55 ≡ d = cc in
        let no_digit : nat_lt d 10 ≡ false = grind (arith, nat_tests) in
        let same : c ≡ 55 + d = omega (arith, z, low) in
        (rw no_digit same, omega (arith, z, high))
    letter true false e f g = absurd (cc)
    letter false t e f g = absurd (cc)

    either : (t : Bool) → is_ascii_digit c ≡ t → (if t then Some (c - 48) else (if nat_le 65 c && nat_le c 70 then Some (c - 55) else None)) ≡ Some d → (c ≡ digit_glyph true d) × (d < 16)
    either true e g =
        let low : 48 ≤ c = grind (arith, nat_tests) in
        let high : c ≤ 57 = grind (arith, nat_tests) in
        let z : c - 48 ≡ d = cc in
        let digit : nat_lt d 10 ≡ true = grind (arith, nat_tests) in
        let same : c ≡ 48 + d = omega (arith, z, low) in
        (rw digit same, omega (arith, z, high))
    either false e g = letter (nat_le 65 c) (nat_le c 70) refl refl g

-- what is read as a pair is its text
pair_of_text : (a b v : ℕ) → parsed_pair a b ≡ Some v → (a ∷ b ∷ [] ≡ pair_text v) × (v < 256)
unfolding parsed_pair
pair_of_text a b v h = either (parsed_hex_digit a) (parsed_hex_digit b) refl refl h
  where
    either : (s t : Option ℕ) → parsed_hex_digit a ≡ s → parsed_hex_digit b ≡ t → option_and_then (λ high. option_and_then (λ low. Some (16 * high + low)) t) s ≡ Some v → (a ∷ b ∷ [] ≡ pair_text v) × (v < 256)
    either (Some m) (Some n) e f g =
        let p = glyph_of a m e in
        let q = glyph_of b n f in
        let z : 16 * m + n ≡ v = cc in
        let high : v / 16 ≡ m = omega (arith, z, q.1) in
        let low : v % 16 ≡ n = omega (arith, z, q.1) in
        (rw (high, low, p.0, q.0) refl, omega (arith, z, p.1, q.1))
    either (Some m) None e f g = absurd (cc)
    either None t e f g = absurd (cc)

-- what bytes become with more behind them
with_added : (before : List ℕ) (byte count : ℕ) (after : List ℕ) → with_bytes before byte count ≡ Some after → (before ++ replicate count byte ≡ after) × (length after ≤ 2097152)
unfolding with_bytes
with_added before byte count after h = either (nat_le (length before + count) 2097152) refl h
  where
    either : (t : Bool) → nat_le (length before + count) 2097152 ≡ t → (if t then Some (before ++ replicate count byte) else None) ≡ Some after → (before ++ replicate count byte ≡ after) × (length after ≤ 2097152)
    either true e g =
        let same : before ++ replicate count byte ≡ after = cc in
        let within : length before + count ≤ 2097152 = grind (arith, nat_tests) in
        let len : length (before ++ replicate count byte) ≡ length before + length (replicate count byte) = length-append before (replicate count byte) in
        (same, rw (← same) (omega (arith, len, within, length-replicate count byte)))
    either false e g = absurd (cc)

pair_added : (before : List ℕ) (a b : ℕ) (after : List ℕ) → pair_onto before a b ≡ Some after → (v : ℕ) × (a ∷ b ∷ [] ≡ pair_text v) × (v < 256) × (before ++ v ∷ [] ≡ after) × (length after ≤ 2097152)
unfolding pair_onto
pair_added before a b after h = either (parsed_pair a b) refl h
  where
    either : (o : Option ℕ) → parsed_pair a b ≡ o → option_and_then (λ byte. with_bytes before byte 1) o ≡ Some after → (v : ℕ) × (a ∷ b ∷ [] ≡ pair_text v) × (v < 256) × (before ++ v ∷ [] ≡ after) × (length after ≤ 2097152)
    either (Some v) e g =
        let p = pair_of_text a b v e in
        let w = with_added before v 1 after g in
        (v, p.0, p.1, w.0, w.1)
    either None e g = absurd (cc)

-- a text is the pairs of these bytes, which came behind the bytes before
record PairsRead (before text after : List ℕ) : Type 0 where
  bytes : List ℕ
  spelled : flat_map pair_text bytes ≡ text
  small : list_all (λ b. nat_lt b 256) bytes ≡ true
  added : before ++ bytes ≡ after
  most : length before ≤ 2097152 → length after ≤ 2097152

pairs_added : (text before after : List ℕ) → pairs_onto before text ≡ Some after → PairsRead before text after
unfolding pairs_onto
pairs_added [] before after h =
    let same : before ≡ after = cc in
    record { bytes = []; spelled = refl; small = refl; added = append-nil before ∙ same; most = λ m. rw (← same) m }
pairs_added (a ∷ []) before after h = absurd (cc)
pairs_added (a ∷ b ∷ more) before after h = either (pair_onto before a b) refl h (λ now g. pairs_added more now after g)
  where
    either : (o : Option (List ℕ)) → pair_onto before a b ≡ o → option_and_then (λ bytes. pairs_onto bytes more) o ≡ Some after → ((now : List ℕ) → pairs_onto now more ≡ Some after → PairsRead now more after) → PairsRead before (a ∷ b ∷ more) after
    either (Some now) e g rest =
        let p = pair_added before a b now e in
        let r = rest now g in
        let test : nat_lt p.0 256 ≡ true = grind (arith, nat_tests, p.2) in
        let joined : (before ++ p.0 ∷ []) ++ r.bytes ≡ after = rw p.3 r.added in
        record {
          bytes = p.0 ∷ r.bytes;
          spelled = ap (λ (t : List ℕ). pair_text p.0 ++ t) r.spelled ∙ ap (λ (t : List ℕ). t ++ more) (sym p.1);
          small = simp test r.small;
          added = sym (append_assoc before (p.0 ∷ []) r.bytes) ∙ joined;
          most = λ _. r.most p.4;
        }
    either None e g rest = absurd (cc)

-- a text is that of an item, whose bytes came behind the bytes before
record ItemRead (before text after : List ℕ) : Type 0 where
  item : Item
  is_item : IsItem item
  spelled : item_text item ≡ text
  added : before ++ item_bytes item ≡ after
  most : length before ≤ 2097152 → length after ≤ 2097152

run_added : (before : List ℕ) (a b : ℕ) (number after : List ℕ) → run_onto before a b number ≡ Some after → ItemRead before (a ∷ b ∷ 120 ∷ number) after
unfolding run_onto number_between
run_added before a b number after h = either (parsed_pair a b) (parsed_number number) refl refl h
  where
    counted : (v n : ℕ) (s t : Bool) → parsed_pair a b ≡ Some v → parsed_number number ≡ Some n → nat_le 1 n ≡ s → nat_le n 2097152 ≡ t → option_and_then (λ count. with_bytes before v count) (if s && t then Some n else None) ≡ Some after → ItemRead before (a ∷ b ∷ 120 ∷ number) after
    counted v n true true e f k l g =
        let p = pair_of_text a b v e in
        let d = decimal-number_of number n f in
        let w = with_added before v n after g in
        let some : 0 < n = grind (arith, nat_tests) in
        let text : pair_text v ++ (120 ∷ decimal n) ≡ a ∷ b ∷ 120 ∷ number = rw (← d.1) (ap (λ (t : List ℕ). t ++ (120 ∷ number)) (sym p.0)) in
        record { item = Times v n; is_item = (p.1, some); spelled = text; added = w.0; most = λ _. w.1 }
    counted v n true false e f k l g = absurd (cc)
    counted v n false t e f k l g = absurd (cc)

    either : (o q : Option ℕ) → parsed_pair a b ≡ o → parsed_number number ≡ q → option_and_then (λ byte. option_and_then (λ count. with_bytes before byte count) (option_and_then (λ n. if nat_le 1 n && nat_le n 2097152 then Some n else None) q)) o ≡ Some after → ItemRead before (a ∷ b ∷ 120 ∷ number) after
    either (Some v) (Some n) e f g = counted v n (nat_le 1 n) (nat_le n 2097152) e f refl refl g
    either (Some v) None e f g = absurd (cc)
    either None q e f g = absurd (cc)

-- pairs that are not none are an item
pairs_item : (before : List ℕ) (a : ℕ) (more after : List ℕ) → PairsRead before (a ∷ more) after → ItemRead before (a ∷ more) after
pairs_item before a more after r = record { item = Pairs r.bytes; is_item = (some r.bytes r.spelled, r.small); spelled = r.spelled; added = r.added; most = r.most }
  where
    some : (bytes : List ℕ) → flat_map pair_text bytes ≡ a ∷ more → 0 < length bytes
    some [] e = absurd (cc)
    some (b ∷ bytes) e = omega arith

item_added : (text before after : List ℕ) → item_onto before text ≡ Some after → ItemRead before text after
unfolding item_onto
item_added [] before after h = absurd (cc)
item_added (a ∷ []) before after h = absurd (cc)
item_added (a ∷ b ∷ []) before after h = pairs_item before a (b ∷ []) after (pairs_added (a ∷ b ∷ []) before after h)
item_added (a ∷ b ∷ c ∷ more) before after h = either (c == 120) refl h
  where
    either : (t : Bool) → (c == 120) ≡ t → (if t then run_onto before a b more else pairs_onto before (a ∷ b ∷ c ∷ more)) ≡ Some after → ItemRead before (a ∷ b ∷ c ∷ more) after
    either true e g =
        let x : c ≡ 120 = grind (arith, nat_tests) in
        rw x (run_added before a b more after g)
    either false e g = pairs_item before a (b ∷ c ∷ more) after (pairs_added (a ∷ b ∷ c ∷ more) before after g)

-- texts are those of items, whose bytes came behind the bytes before
record ItemsRead (before : List ℕ) (texts : List (List ℕ)) (after : List ℕ) : Type 0 where
  items : List Item
  are_items : AreItems items
  spelled : map item_text items ≡ texts
  added : before ++ items_bytes items ≡ after
  most : length before ≤ 2097152 → length after ≤ 2097152

items_added : (texts : List (List ℕ)) (before after : List ℕ) → items_onto before texts ≡ Some after → ItemsRead before texts after
unfolding items_onto
items_added [] before after h =
    let same : before ≡ after = cc in
    record { items = []; are_items = tt; spelled = refl; added = append-nil before ∙ same; most = λ m. rw (← same) m }
items_added (text ∷ texts) before after h = either (item_onto before text) refl h (λ now g. items_added texts now after g)
  where
    either : (o : Option (List ℕ)) → item_onto before text ≡ o → option_and_then (λ bytes. items_onto bytes texts) o ≡ Some after → ((now : List ℕ) → items_onto now texts ≡ Some after → ItemsRead now texts after) → ItemsRead before (text ∷ texts) after
    either (Some now) e g rest =
        let i = item_added text before now e in
        let r = rest now g in
        let joined : (before ++ item_bytes i.item) ++ items_bytes r.items ≡ after = rw i.added r.added in
        record {
          items = i.item ∷ r.items;
          are_items = (i.is_item, r.are_items);
          spelled = ap (λ (t : List ℕ). t ∷ map item_text r.items) i.spelled ∙ ap (λ (ts : List (List ℕ)). text ∷ ts) r.spelled;
          added = sym (append_assoc before (item_bytes i.item) (items_bytes r.items)) ∙ joined;
          most = λ m. r.most (i.most m);
        }
    either None e g rest = absurd (cc)

-- a word other than `-` that is read is a spelling
spelling : (word bytes : List ℕ) → items_onto [] (parts 44 word) ≡ Some bytes → (items : List Item) × IsSpelling items word bytes
spelling word bytes h =
    let r = items_added (parts 44 word) [] bytes h in
    let p = some_part (λ b. b == 44) word in
    let text : join_with_byte 44 (map item_text r.items) ≡ word = rw r.spelled (join_with_byte-slice_split 44 word) in
    (r.items, record { some = some r.items p.0 p.1 (r.spelled ∙ p.2); are_items = r.are_items; text = text; gives = r.added; most = r.most (omega arith) })
  where
    some : (items : List Item) (front : List ℕ) (more : List (List ℕ)) → map item_text items ≡ front ∷ more → 0 < length items
    some [] front more e = absurd (cc)
    some (i ∷ items) front more e = omega arith

-- what is read is spelled
read_spells : (word bytes : List ℕ) → parsed_bytes word ≡ Some bytes → SpellsBytes word bytes
unfolding parsed_bytes
read_spells word bytes h = either (bytes_eq word (codes "-")) refl h
  where
    either : (t : Bool) → bytes_eq word (codes "-") ≡ t → (if t then Some [] else items_onto [] (parts 44 word)) ≡ Some bytes → SpellsBytes word bytes
    either true e g =
        let dash : word ≡ codes "-" = (bytes_eq-Decides word (codes "-")).0 e in
        let none : [] ≡ bytes = cc in
        inl (dash, sym none)
    either false e g = inr (spelling word bytes g)

dash_read : parsed_bytes (codes "-") ≡ Some []
unfolding parsed_bytes
dash_read = refl

-- what is spelled is read
spells_read : (word bytes : List ℕ) → SpellsBytes word bytes → parsed_bytes word ≡ Some bytes
spells_read word bytes (inl s) = rw (s.0, s.1) dash_read
spells_read word bytes (inr s) =
    let i = s.1 in
    rw (← i.text, ← i.gives) (items_spell s.0 i.some i.are_items (rw i.gives i.most))

pub words_spell : (word bytes : List ℕ) → (parsed_bytes word ≡ Some bytes) ↔ SpellsBytes word bytes
words_spell word bytes = (read_spells word bytes, spells_read word bytes)
