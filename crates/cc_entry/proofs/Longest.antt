-- The longest runs of equal bytes spell the bytes, and one more stands before those of the bytes behind it.
use Rattle.std.proofs.Common.{◌≡◌, ◌≢◌, ℕ, suc, zero, ◌+◌, ◌<◌, ◌==◌, Bool, true, false, List, [], ◌∷◌, ◌++◌, replicate, length, map, take, drop, get_or, append_assoc, refl, ap, sym, ◌∙◌, arith, slice_get, Option, Some, None, subst, nat_eq, ◌&&◌, Decides}
use Rattle.std.proofs.lemmas.List.{drop_more, take_more, map-append}
use Rattle.std.proofs.lemmas.Option.{get_or_from_slice_get}
use Rattle.std.proofs.lemmas.Bool.Decides.{nat_tests, Decides-eqb, Decides-like, Decides-and, same_from_decides}
use Rattle.std.specs.Cmp.Lexicographic.{pointwise, pointwise_decides, bytes_decides}
use Rattle.cc_entry.specs.declared.runs.Run.{Run}
use Rattle.cc_entry.specs.Runs.{spelled, joined_runs, runs_of, byte_alone, AreLongest}

-- a byte before the longest runs leaves them the longest
joined-longest : (x : ℕ) (rs : List Run) → AreLongest rs → AreLongest (joined_runs x rs)
joined-longest x [] h = omega arith
joined-longest x (r ∷ []) h = either (r.byte == x) refl
  where
    either : (s : Bool) → (r.byte == x) ≡ s → AreLongest (joined_runs x (r ∷ []))
    either true e = rw e (omega arith)
    either false e = rw e (omega arith, (λ same. grind (arith, nat_tests)), h)
joined-longest x (r ∷ next ∷ rs) h = either (r.byte == x) refl
  where
    either : (s : Bool) → (r.byte == x) ≡ s → AreLongest (joined_runs x (r ∷ next ∷ rs))
    either true e = rw e (omega arith, h.1, h.2)
    either false e = rw e (omega arith, (λ same. grind (arith, nat_tests)), h)

-- no run of a list's is empty, and neighbours differ
pub runs_of-longest : (bs : List ℕ) → AreLongest (runs_of bs)
runs_of-longest [] = tt
runs_of-longest (x ∷ bs) = joined-longest x (runs_of bs) (runs_of-longest bs)

-- a byte before runs stands before their bytes
spelled-joined : (x : ℕ) (rs : List Run) → spelled (joined_runs x rs) ≡ x ∷ spelled rs
spelled-joined x [] = refl
spelled-joined x (r ∷ rs) = either (r.byte == x) refl
  where
    either : (s : Bool) → (r.byte == x) ≡ s → spelled (joined_runs x (r ∷ rs)) ≡ x ∷ spelled (r ∷ rs)
    either true e =
        let same : r.byte ≡ x = (Decides-eqb r.byte x).0 e in
        let more : r.count + 1 ≡ suc r.count = omega arith in
        rw e (rw more (ap (λ b. b ∷ replicate r.count r.byte ++ spelled rs) same))
    either false e = rw e refl

-- the longest runs of bytes spell them
pub spelled-runs_of : (bs : List ℕ) → spelled (runs_of bs) ≡ bs
spelled-runs_of [] = refl
spelled-runs_of (x ∷ bs) = spelled-joined x (runs_of bs) ∙ ap (x ∷◌) (spelled-runs_of bs)

-- one byte is a run of its own before bytes that begin with another
alone_first : (b : ℕ) (bs : List ℕ) → slice_get bs 0 ≢ Some b → runs_of (b ∷ bs) ≡ record { byte = b; count = 1 } ∷ runs_of bs
alone_first b [] other = refl
alone_first b (x ∷ bs) other = before (runs_of bs)
  where
    differs : (x == b) ≡ false
    differs = either (x == b) refl
      where
        either : (s : Bool) → (x == b) ≡ s → (x == b) ≡ false
        either true e = absurd (other (ap Some ((Decides-eqb x b).0 e)))
        either false e = e

    before : (rs : List Run) → joined_runs b (joined_runs x rs) ≡ record { byte = b; count = 1 } ∷ joined_runs x rs
    before [] = rw differs refl
    before (r ∷ rs) = first (r.byte == x) refl
      where
        first : (s : Bool) → (r.byte == x) ≡ s → joined_runs b (joined_runs x (r ∷ rs)) ≡ record { byte = b; count = 1 } ∷ joined_runs x (r ∷ rs)
        first true e =
            let same : r.byte ≡ x = (Decides-eqb r.byte x).0 e in
            rw e (rw same (rw differs refl))
        first false e = rw e (rw differs refl)

-- bytes of one value are the first run where another byte follows, or none
pub runs_of-first : (b n : ℕ) (bs : List ℕ) → slice_get bs 0 ≢ Some b → runs_of (replicate (suc n) b ++ bs) ≡ record { byte = b; count = suc n } ∷ runs_of bs
runs_of-first b zero bs other = alone_first b bs other
runs_of-first b (suc n) bs other =
    let same : (b == b) ≡ true = (Decides-eqb b b).1 refl in let more : suc n + 1 ≡ suc (suc n) = omega arith in
    rw (runs_of-first b n bs other) (simp (same, more))

-- the same of all bytes, which begin with that value
pub first_run : (b n : ℕ) (bs all : List ℕ) → replicate n b ++ bs ≡ all → slice_get all 0 ≡ Some b → slice_get bs 0 ≢ Some b → runs_of all ≡ record { byte = b; count = n } ∷ runs_of bs
first_run b zero bs all e first other = absurd (other (ap (λ bytes. slice_get bytes 0) e ∙ first))
first_run b (suc n) bs all e first other = ap runs_of (sym e) ∙ runs_of-first b n bs other

-- a byte that another one follows is one more run of one byte
pub alone_more : (bytes behind : List ℕ) (n : ℕ) → n + 1 < length bytes → (get_or bytes n 0 ≡ get_or bytes (n + 1) 0 → ⊥) → runs_of (bytes ++ behind) ≡ map byte_alone (take n bytes) ++ runs_of (drop n bytes ++ behind) → runs_of (bytes ++ behind) ≡ map byte_alone (take (n + 1) bytes) ++ runs_of (drop (n + 1) bytes ++ behind)
alone_more bytes behind n h other e =
    let b = get_or bytes n 0 in let rest = drop (n + 1) bytes ++ behind in let before = map byte_alone (take n bytes) in
    let next : drop (n + 1) bytes ≡ get_or bytes (n + 1) 0 ∷ drop (n + 1 + 1) bytes = drop_more bytes (n + 1) 0 h in
    let follows : slice_get rest 0 ≢ Some b =
    λ same. other (sym (get_or_from_slice_get rest 0 b 0 same) ∙ ap (λ bs. get_or (bs ++ behind) 0 0) next) in
    e ∙ ap (λ bs. before ++ runs_of (bs ++ behind)) (drop_more bytes n 0 (omega arith)) ∙ ap (before ++◌) (alone_first b rest follows)
    ∙ sym (append_assoc before (byte_alone b ∷ []) (runs_of rest))
    ∙ ap (λ rs. rs ++ runs_of rest) (sym (ap (map byte_alone) (take_more bytes n 0 (omega arith)) ∙ map-append byte_alone (take n bytes) (b ∷ [])))

-- no byte is first only where there is none
pub no_run : (bs : List ℕ) → slice_get bs 0 ≡ None → runs_of bs ≡ []
no_run [] e = refl
no_run (x ∷ bs) e = absurd (let Q : Option ℕ → Type 0 = λ o. elim o [ Some _ ↦ Unit {0} | None ↦ ⊥ ] in subst Q e tt)

-- whether two runs are the same
abbrev pub same_run : Run → Run → Bool
same_run r s = (r.byte == s.byte) && (r.count == s.count)

same_run-decides : (r s : Run) → Decides (same_run r s) (r ≡ s)
same_run-decides r s =
    Decides-like _ (λ both. same both.0 both.1) (λ e. (ap (λ (x : Run). x.byte) e, ap (λ (x : Run). x.count) e)) (Decides-and _ _ (Decides-eqb r.byte s.byte) (Decides-eqb r.count s.count))
  where
    same : r.byte ≡ s.byte → r.count ≡ s.count → r ≡ s
    same e f = λ i. record { byte = e i; count = f i }

-- bytes are the same exactly where their longest runs are
pub same_bytes : (bs cs : List ℕ) → pointwise same_run (runs_of bs) (runs_of cs) ≡ pointwise nat_eq bs cs
same_bytes bs cs =
    same_from_decides _ _
    (Decides-like _ (λ same. sym (spelled-runs_of bs) ∙ ap spelled same ∙ spelled-runs_of cs) (λ same. ap runs_of same) (pointwise_decides same_run-decides (runs_of bs) (runs_of cs)))
    (bytes_decides bs cs)
