-- Touches with the LSN of an update: how they stay until the page is written.
use Rattle.std.specs.Prelude.{◌≡◌, ℕ, suc, ◌+◌, ◌*◌, ◌≤◌, Bool, true, false, ◌==◌, ◌&&◌, ◌||◌, nat_le, nat_lt, List, [], ◌∷◌, length, min, max, refl, if◌then◌else◌}
use Rattle.std.specs.List.{list_any}
use Rattle.std.specs.declared.option.Option.{Option}
use Rattle.std.specs.declared.option.Option.TheVariants.{Some, None}
use Rattle.std.proofs.Common.{ap, sym, subst, ◌∙◌, arith}
use Rattle.std.proofs.lemmas.Bool.{eqb-true, eq-eqb, or_right}
use Rattle.cc_entry.specs.Lsns.{lsn_alone, joined}
use Rattle.cc_entry.specs.Pages.{has_page}
use Rattle.cc_entry.specs.Place.{File}
use Rattle.cc_entry.specs.declared.call.Call.{Call}
use Rattle.cc_entry.specs.declared.entry.Entry.{Entry}
use Rattle.cc_entry.specs.declared.entry.Entry.TheVariants as entry
use Rattle.cc_entry.specs.declared.reply.Outcome.TheVariants as outcome
use Rattle.cc_entry.specs.declared.reply.Reply.{Reply}
use Rattle.cc_laws.proofs.FirstMap.{IsFirst-steady}
use Rattle.cc_laws.proofs.HistorySteps.{history-effect}
use Rattle.cc_laws.proofs.Lists1.{among-not_empty}
use Rattle.cc_laws.proofs.ObjectSteps.{had_map-closes, objects-closes}
use Rattle.cc_laws.proofs.SteadyPasts.{IsSteady-good}
use Rattle.cc_laws.proofs.TouchSteps.{touches-opens, touches-closes, touches-resizes, touches-writes, touches-zeroes, touches-stores, touches-stamps, touches-discards, touches-looks, touches-began_written, touches-began_other, touches-ended_after, touches-ended_good, touches-ended_bad, touches-ended_other}
use Rattle.cc_model.specs.Acts.{Act, act_of, Opens, Closes, Resizes, Writes, Zeroes, Stores, Stamps, Discards, Looks}
use Rattle.cc_model.specs.Good.{IsGoodSoFar}
use Rattle.cc_model.specs.History.{Effect, Did, CameIn, WentOut, Began, Ended, Synced, history}
use Rattle.cc_model.specs.Holds.{hold_at, holds_of}
use Rattle.cc_model.specs.Numbers.{is_among, is_empty, without}
use Rattle.cc_model.specs.Objects.{had_map, objects, truncation}
use Rattle.cc_model.specs.Ranges.{span_has}
use Rattle.cc_model.specs.Setup.{Setup}
use Rattle.cc_model.specs.Sizes.{Touch, cut_if, dropped_if, ended_ok, hold_has, stored_range, touched_if}
use Rattle.cc_model.specs.Stamps.{is_log, lsns_among}
use Rattle.cc_model.specs.Touches.{size_of, touches}
use Rattle.cc_restart_laws.proofs.Entries.{good-tail, updated-head}
use Rattle.cc_restart_laws.specs.Updates.{IsUpdated, MayActByUpdate, MayDoByUpdate}

-- whether one of the touches has the LSN
abbrev pub has_stamp : ℕ → List Touch → Bool
has_stamp lsn ts = list_any (λ t. is_log lsn t.lsn) ts

clash : true ≡ false → ⊥
clash is = absurd (cc)

pub stamp-more : (n : ℕ) (b : Bool) (place : ℕ) (lsn : Option ℕ) (ts : List Touch) → has_stamp n ts ≡ true → has_stamp n (touched_if b place lsn ts) ≡ true
stamp-more n false place lsn ts is = is
stamp-more n true place lsn ts is = or_right (is_log n lsn) (has_stamp n ts) is

pub stamp-new : (n place : ℕ) (ts : List Touch) (b : Bool) → b ≡ true → has_stamp n (touched_if b place (Some n) ts) ≡ true
stamp-new n place ts true is = rw (eq-eqb n n refl) refl
stamp-new n place ts false is = absurd (clash (sym is))

-- ---- the least and the greatest LSN

-- the LSN lies between the two
pub record IsBetween (n : ℕ) (o : Option (ℕ × ℕ)) : Type 0 where
  pub pair : ℕ × ℕ
  pub is : o ≡ Some pair
  pub least : pair.0 ≤ n
  pub greatest : n ≤ pair.1

between-first : (n : ℕ) (o : Option (ℕ × ℕ)) → IsBetween n (joined (lsn_alone (Some n)) o)
between-first n None = record { pair = (n, n); is = refl; least = omega arith; greatest = omega arith }
between-first n (Some b) = record { pair = (min n b.0, max n b.1); is = refl; least = omega arith; greatest = omega arith }

none-pair : (x : ℕ × ℕ) → None ≡ Some x → ⊥
none-pair x is = cc

some-pair : (x y : ℕ × ℕ) → Some x ≡ Some y → x ≡ y
some-pair x y is = cc

between-rest : (n : ℕ) (lsn : Option ℕ) (o : Option (ℕ × ℕ)) → IsBetween n o → IsBetween n (joined (lsn_alone lsn) o)
between-rest n None o k = k
between-rest n (Some m) None k = absurd (none-pair k.pair k.is)
between-rest n (Some m) (Some b) k =
    let same : b ≡ k.pair = some-pair b k.pair k.is in
    let first : b.0 ≡ k.pair.0 = ap (λ (q : ℕ × ℕ). q.0) same in
    let second : b.1 ≡ k.pair.1 = ap (λ (q : ℕ × ℕ). q.1) same in
    let least : k.pair.0 ≤ n = k.least in
    let greatest : n ≤ k.pair.1 = k.greatest in
    record { pair = (min m b.0, max m b.1); is = refl; least = omega (arith, least, first); greatest = omega (arith, greatest, second) }

pub stamp-between : (n : ℕ) (ts : List Touch) → has_stamp n ts ≡ true → IsBetween n (lsns_among ts)
stamp-between n [] is = absurd (cc)
stamp-between n (t ∷ ts) is = go t.lsn is (stamp-between n ts)
  where
    first : (m : ℕ) (b : Bool) → (m == n) ≡ b → (b || has_stamp n ts) ≡ true → (has_stamp n ts ≡ true → IsBetween n (lsns_among ts)) → IsBetween n (joined (lsn_alone (Some m)) (lsns_among ts))
    first m true same is rest = subst (λ (k : ℕ). IsBetween n (joined (lsn_alone (Some k)) (lsns_among ts))) (sym (eqb-true m n same)) (between-first n (lsns_among ts))
    first m false same is rest = between-rest n (Some m) (lsns_among ts) (rest is)

    go : (o : Option ℕ) → (is_log n o || has_stamp n ts) ≡ true → (has_stamp n ts ≡ true → IsBetween n (lsns_among ts)) → IsBetween n (joined (lsn_alone o) (lsns_among ts))
    go None is rest = rest is
    go (Some m) is rest = first m (m == n) refl is rest

-- ---- what is left of touches if a transfer ended is left if it did not

touched-mono : (n : ℕ) (b : Bool) (place : ℕ) (lsn : Option ℕ) (ts us : List Touch) → (has_stamp n ts ≡ true → has_stamp n us ≡ true) → has_stamp n (touched_if b place lsn ts) ≡ true → has_stamp n (touched_if b place lsn us) ≡ true
touched-mono n false place lsn ts us mono is = mono is
touched-mono n true place lsn ts us mono is = go (is_log n lsn) is
  where
    go : (x : Bool) → (x || has_stamp n ts) ≡ true → (x || has_stamp n us) ≡ true
    go true is = refl
    go false is = mono is

cut-mono : (n : ℕ) (o : Option ℕ) (p : ℕ) (ts us : List Touch) → (has_stamp n ts ≡ true → has_stamp n us ≡ true) → has_stamp n (cut_if o p ts) ≡ true → has_stamp n (cut_if o p us) ≡ true
cut-mono n None p ts us mono is = mono is
cut-mono n (Some to) p ts us mono is = go (nat_le to (4096 * p)) is
  where
    go : (x : Bool) → has_stamp n (if x then [] else ts) ≡ true → has_stamp n (if x then [] else us) ≡ true
    go true is = is
    go false is = mono is

dropped-mono : (n : ℕ) (b : Bool) (ts us : List Touch) → (has_stamp n ts ≡ true → has_stamp n us ≡ true) → has_stamp n (dropped_if b ts) ≡ true → has_stamp n (dropped_if b us) ≡ true
dropped-mono n true ts us mono is = is
dropped-mono n false ts us mono is = mono is

-- both are as they are
through : (n : ℕ) (ts us ts' us' : List Touch) → ts ≡ ts' → us ≡ us' → (has_stamp n ts' ≡ true → has_stamp n us' ≡ true) → has_stamp n ts ≡ true → has_stamp n us ≡ true
through n ts us ts' us' one two mono is = ap (has_stamp n) two ∙ mono (sym (ap (has_stamp n) one) ∙ is)

pub stamp-open : (n : ℕ) (h : List Effect) (p : ℕ) → has_stamp n (touches true h p) ≡ true → has_stamp n (touches false h p) ≡ true
unfolding touches
stamp-open n [] p is = is
stamp-open n (Did pass it reply ∷ h) p is = go (act_of it) refl (stamp-open n h p) is
  where
    go : (a : Act) → act_of it ≡ a → (has_stamp n (touches true h p) ≡ true → has_stamp n (touches false h p) ≡ true) →
        has_stamp n (touches true (Did pass it reply ∷ h) p) ≡ true → has_stamp n (touches false (Did pass it reply ∷ h) p) ≡ true
    go (Opens file given quota temporary) a mono = through n _ _ _ _ (touches-opens true pass it reply h p a) (touches-opens false pass it reply h p a) mono
    go (Closes file truncate) a mono =
        through n _ _ _ _ (touches-closes true pass it reply h p a) (touches-closes false pass it reply h p a) (cut-mono n (truncation (objects h) (size_of h) file truncate) p _ _ mono)
    go (Resizes allocation size) a mono = through n _ _ _ _ (touches-resizes true pass it reply h p a) (touches-resizes false pass it reply h p a) (cut-mono n (Some size) p _ _ mono)
    go (Writes at bytes) a mono =
        through n _ _ _ _ (touches-writes true pass it reply h p a) (touches-writes false pass it reply h p a)
        (touched-mono n (has_page (record { from = at; to = at + length bytes }) p) (suc (length h)) None _ _ mono)
    go (Zeroes from to) a mono =
        through n _ _ _ _ (touches-zeroes true pass it reply h p a) (touches-zeroes false pass it reply h p a)
        (touched-mono n (has_page (record { from = from; to = to }) p) (suc (length h)) None _ _ mono)
    go (Stores page bytes) a mono =
        through n _ _ _ _ (touches-stores true pass it reply h p a) (touches-stores false pass it reply h p a)
        (touched-mono n (has_page (stored_range page (size_of h)) p) (suc (length h)) None _ _ mono)
    go (Stamps hold lsn) a mono =
        through n _ _ _ _ (touches-stamps true pass it reply h p a) (touches-stamps false pass it reply h p a)
        (touched-mono n (hold_has (hold_at (holds_of h) hold) p) (suc (length h)) lsn _ _ mono)
    go (Discards span) a mono = through n _ _ _ _ (touches-discards true pass it reply h p a) (touches-discards false pass it reply h p a) (dropped-mono n (span_has span p) _ _ mono)
    go Looks a mono = through n _ _ _ _ (touches-looks true pass it reply h p a) (touches-looks false pass it reply h p a) mono
stamp-open n (CameIn pass page from_disk ∷ h) p is = stamp-open n h p is
stamp-open n (WentOut pass page ∷ h) p is = stamp-open n h p is
stamp-open n (Began pass page ∷ h) p is = go (page == p) refl (stamp-open n h p) is
  where
    go : (b : Bool) → (page == p) ≡ b → (has_stamp n (touches true h p) ≡ true → has_stamp n (touches false h p) ≡ true) →
        has_stamp n (touches true (Began pass page ∷ h) p) ≡ true → has_stamp n (touches false (Began pass page ∷ h) p) ≡ true
    go true same mono is = absurd (clash (sym is ∙ ap (has_stamp n) (touches-began_written pass page h p same)))
    go false other mono is = through n _ _ _ _ (touches-began_other true pass page h p other) (touches-began_other false pass page h p other) mono is
stamp-open n (Ended pass page how ∷ h) p is = go (page == p) refl (ended_ok how) refl (stamp-open n h p) is
  where
    go : (b : Bool) → (page == p) ≡ b → (c : Bool) → ended_ok how ≡ c → (has_stamp n (touches true h p) ≡ true → has_stamp n (touches false h p) ≡ true) →
        has_stamp n (touches true (Ended pass page how ∷ h) p) ≡ true → has_stamp n (touches false (Ended pass page how ∷ h) p) ≡ true
    go true same true good mono is =
        ap (has_stamp n) (touches-ended_good false pass page how h p same good) ∙ (sym (ap (has_stamp n) (touches-ended_after pass page how h p)) ∙ is)
    go true same false bad mono is = through n _ _ _ _ (touches-ended_after pass page how h p) (touches-ended_bad false pass page how h p bad) mono is
    go false other c is_c mono is = through n _ _ _ _ (touches-ended_after pass page how h p) (touches-ended_other false pass page how h p other) mono is
stamp-open n (Synced pass how ∷ h) p is = stamp-open n h p is

-- ---- done calls of a stream that is updated leave each stamp

truncation-other : (opened : List ℕ) (size : ℕ) (file : File) (o : Option ℕ) → is_empty (without file.object opened) ≡ false → truncation opened size file o ≡ None
truncation-other opened size file None some = refl
truncation-other opened size file (Some to) some = go (is_among file.object opened) (is_empty (without file.object opened)) some
  where
    go : (x y : Bool) → y ≡ false → (if x && (y && nat_lt to size) then Some to else None) ≡ None
    go true true is = absurd (clash is)
    go true false is = refl
    go false y is = refl

truncation-unopened : (opened : List ℕ) (size : ℕ) (file : File) (o : Option ℕ) → opened ≡ [] → truncation opened size file o ≡ None
truncation-unopened opened size file None none = refl
truncation-unopened opened size file (Some to) none = subst (λ (l : List ℕ). truncation l size file (Some to) ≡ None) (sym none) refl

module _ (u : Setup) (s log : ℕ) (past : List Entry) (pass nth : ℕ) (it : Call) (reply : Reply)
    (good : IsGoodSoFar u (entry.Call pass nth (Some s) it (outcome.Done reply) ∷ past)) (updated : IsUpdated s log (entry.Call pass nth (Some s) it (outcome.Done reply) ∷ past)) where
  abbrev h : List Effect
  h = history past s

  abbrev did : Entry
  did = entry.Call pass nth (Some s) it (outcome.Done reply)

  may : MayDoByUpdate s log past pass it
  may = (updated-head s log did past updated).by refl

  now : history (did ∷ past) s ≡ Did pass it reply ∷ h
  now = history-effect did past s (Some (Did pass it reply)) (rw (eq-eqb s s refl) refl)

  pub no-truncation : (file : File) (truncate : Option ℕ) → act_of it ≡ Closes file truncate → truncation (objects h) (size_of h) file truncate ≡ None
  no-truncation file truncate is = go (had_map h) refl
    where
      go : (b : Bool) → had_map h ≡ b → truncation (objects h) (size_of h) file truncate ≡ None
      go true had =
          let had_now : had_map (history (did ∷ past) s) ≡ true = ap had_map now ∙ (had_map-closes pass it reply h is ∙ had) in
          let open_now : is_among 0 (objects (history (did ∷ past) s)) ≡ true = (updated-head s log did past updated).stays_open had_now in
          let left : is_among 0 (without file.object (objects h)) ≡ true = sym (ap (is_among 0) (ap objects now ∙ objects-closes pass it reply h is)) ∙ open_now in
          truncation-other (objects h) (size_of h) file truncate (among-not_empty 0 (without file.object (objects h)) left)
      go false never = truncation-unopened (objects h) (size_of h) file truncate (IsFirst-steady h (IsSteady-good u past s (good-tail u did past good)) never).unopened

  pub stamp-did : (ended : Bool) (n p : ℕ) → has_stamp n (touches ended h p) ≡ true → has_stamp n (touches ended (Did pass it reply ∷ h) p) ≡ true
  stamp-did ended n p is = go (act_of it) refl may.acts
    where
      go : (a : Act) → act_of it ≡ a → MayActByUpdate s log past pass it a → has_stamp n (touches ended (Did pass it reply ∷ h) p) ≡ true
      go (Opens file given quota temporary) a acts = ap (has_stamp n) (touches-opens ended pass it reply h p a) ∙ is
      go (Closes file truncate) a acts =
          ap (has_stamp n) (touches-closes ended pass it reply h p a) ∙ (ap (λ (o : Option ℕ). has_stamp n (cut_if o p (touches ended h p))) (no-truncation file truncate a) ∙ is)
      go (Resizes allocation size) a acts = absurd acts
      go (Writes at bytes) a acts =
          ap (has_stamp n) (touches-writes ended pass it reply h p a) ∙ stamp-more n (has_page (record { from = at; to = at + length bytes }) p) (suc (length h)) None (touches ended h p) is
      go (Zeroes from to) a acts = absurd acts
      go (Stores page bytes) a acts = absurd acts
      go (Stamps hold lsn) a acts = ap (has_stamp n) (touches-stamps ended pass it reply h p a) ∙ stamp-more n (hold_has (hold_at (holds_of h) hold) p) (suc (length h)) lsn (touches ended h p) is
      go (Discards span) a acts = absurd acts
      go Looks a acts = ap (has_stamp n) (touches-looks ended pass it reply h p a) ∙ is
