-- Pages are written, one after the other, and the record behind them.
use Rattle.std.specs.Prelude.{◌≡◌, ℕ, ◌<◌, Bool, true, false, ◌==◌, List, [], ◌∷◌, ◌++◌, Contains, ◌⊎◌, unwrap_or, Result, Ok, Err, OnOk, OnErr, if◌then◌else◌, refl}
use Rattle.std.specs.declared.option.Option.{Option}
use Rattle.std.specs.declared.option.Option.TheVariants.{Some, None}
use Rattle.std.proofs.Common.{ap, sym, subst, ◌∙◌, arith, inl, inr, ⊎_elim}
use Rattle.std.proofs.lemmas.Bool.{eqb-true}
use Rattle.std.proofs.lemmas.List.Elements.{Contains-push, Contains-push_cases}
use Rattle.cc_entry.specs.declared.error.CcError.{CcError}
use Rattle.cc_traits.specs.Told.{Both}
use Rattle.cc_traits.specs.Disk.{Disk, page_of, may_of, Settled, Wrote, WriteFailed}
use Rattle.cc_redo.specs.Disks.{IsLeftOrMade, IsPossible, RecordStands, Was, record_number}
use Rattle.cc_redo.specs.Scanned.{HoldsMadePages, IsAllSettled, DiskIsSettled, IsSettling, IsPartlyWritten}
use Rattle.cc_redo.proofs.Options.{both-map, both-then, chosen, passed}

-- a write puts its bytes behind what a crash can leave of its page, whether it ended well or not
abbrev pub Adds : ℕ → List ℕ → Disk → Disk → Type 0
Adds page content now next = (p : ℕ) → may_of next p ≡ (if page == p then may_of now p ++ content ∷ [] else may_of now p)

-- what a crash can leave then
added : (page p : ℕ) (content bytes : List ℕ) (now next : Disk) → Adds page content now next → (b : Bool) → (page == p) ≡ b →
    Contains (may_of next p) bytes → Contains (may_of now p) bytes ⊎ ((page ≡ p) × (bytes ≡ content))
added page p content bytes now next adds true e c =
    let more : may_of next p ≡ may_of now p ++ content ∷ [] = adds p ∙ chosen (page == p) (may_of now p ++ content ∷ []) (may_of now p) e in
    let inside : Contains (may_of now p ++ content ∷ []) bytes = rw more at c in
    ⊎_elim (λ (i : Contains (may_of now p) bytes). inl i) (λ (is : content ≡ bytes). inr (eqb-true page p e, sym is)) (Contains-push_cases (may_of now p) content bytes inside)
added page p content bytes now next adds false e c =
    let same : may_of next p ≡ may_of now p = adds p ∙ passed (page == p) (may_of now p ++ content ∷ []) (may_of now p) e in
    inl (rw same at c)

wrote-possible : (page p : ℕ) (content : List ℕ) (now next : Disk) → Wrote page content now next → IsPossible now p → (b : Bool) → (page == p) ≡ b → IsPossible next p
wrote-possible page p content now next wrote was true e =
    let held : page_of next p ≡ content = wrote.holds p ∙ chosen (page == p) content (page_of now p) e in
    let more : may_of next p ≡ may_of now p ++ content ∷ [] = wrote.may p ∙ chosen (page == p) (may_of now p ++ content ∷ []) (may_of now p) e in
    rw (held, more) (Contains-push (may_of now p) content)
wrote-possible page p content now next wrote was false e =
    let held : page_of next p ≡ page_of now p = wrote.holds p ∙ passed (page == p) content (page_of now p) e in
    let same : may_of next p ≡ may_of now p = wrote.may p ∙ passed (page == p) (may_of now p ++ content ∷ []) (may_of now p) e in
    rw (held, same) was

failed-possible : (page p : ℕ) (content : List ℕ) (now next : Disk) → WriteFailed page content now next → IsPossible now p → (b : Bool) → (page == p) ≡ b → IsPossible next p
failed-possible page p content now next failed was true e =
    let same : page ≡ p = eqb-true page p e in
    let there : IsPossible now page = subst (λ (n : ℕ). IsPossible now n) (sym same) was in
    subst (λ (n : ℕ). IsPossible next n) same (failed.among there)
failed-possible page p content now next failed was false e =
    let held : page_of next p ≡ page_of now p = failed.others p e in
    let same : may_of next p ≡ may_of now p = failed.may p ∙ passed (page == p) (may_of now p ++ content ∷ []) (may_of now p) e in
    rw (held, same) was

left-or-made : (made : ℕ → List ℕ) (page p : ℕ) (content bytes : List ℕ) (old now next : Disk) → IsLeftOrMade made old now → content ≡ made page →
    Adds page content now next → Contains (may_of next p) bytes → Was old p bytes ⊎ (bytes ≡ made p)
left-or-made made page p content bytes old now next was is adds c =
    ⊎_elim
    (λ (i : Contains (may_of now p) bytes). was.may p bytes i)
    (λ (own : (page ≡ p) × (bytes ≡ content)). inr (own.1 ∙ is ∙ ap made own.0))
    (added page p content bytes now next adds (page == p) refl c)

wrote-record : (page : ℕ) (content : List ℕ) (now next : Disk) → (page == record_number) ≡ false → Wrote page content now next → RecordStands now next
wrote-record page content now next apart wrote = record {
  holds = wrote.holds record_number ∙ passed (page == record_number) content (page_of now record_number) apart;
  may = wrote.may record_number ∙ passed (page == record_number) (may_of now record_number ++ content ∷ []) (may_of now record_number) apart;
}

failed-record : (page : ℕ) (content : List ℕ) (now next : Disk) → (page == record_number) ≡ false → WriteFailed page content now next → RecordStands now next
failed-record page content now next apart failed = record {
  holds = failed.others record_number apart;
  may = failed.may record_number ∙ passed (page == record_number) (may_of now record_number ++ content ∷ []) (may_of now record_number) apart;
}

stands-then : (old now next : Disk) → RecordStands old now → RecordStands now next → RecordStands old next
stands-then old now next first second = record { holds = second.holds ∙ first.holds; may = second.may ∙ first.may }

writing-wrote : (made : ℕ → List ℕ) (page : ℕ) (content : List ℕ) (old now next : Disk) → IsPartlyWritten made old now → content ≡ made page →
    (page == record_number) ≡ false → Wrote page content now next → IsPartlyWritten made old next
writing-wrote made page content old now next writing is apart wrote = record {
  pages = record {
    holds = λ p was. wrote-possible page p content now next wrote (writing.pages.holds p was) (page == p) refl;
    may = λ p bytes c. left-or-made made page p content bytes old now next writing.pages is wrote.may c;
  };
  stands = stands-then old now next writing.stands (wrote-record page content now next apart wrote);
}

writing-failed : (made : ℕ → List ℕ) (page : ℕ) (content : List ℕ) (old now next : Disk) → IsPartlyWritten made old now → content ≡ made page →
    (page == record_number) ≡ false → WriteFailed page content now next → IsPartlyWritten made old next
writing-failed made page content old now next writing is apart failed = record {
  pages = record {
    holds = λ p was. failed-possible page p content now next failed (writing.pages.holds p was) (page == p) refl;
    may = λ p bytes c. left-or-made made page p content bytes old now next writing.pages is failed.may c;
  };
  stands = stands-then old now next writing.stands (failed-record page content now next apart failed);
}

pub writing-begun : (made : ℕ → List ℕ) (disk : Disk) → IsPartlyWritten made disk disk
writing-begun made disk = record {
  pages = record { holds = λ p was. was; may = λ p bytes c. inl (inl c) };
  stands = record { holds = refl; may = refl };
}

-- Pages are kept as f says, and those are left that g says.
abbrev pub page_by : (ℕ → Option (List ℕ)) → Disk → ℕ → List ℕ
page_by f disk page = unwrap_or (f page) (page_of disk page)

pub record IsGoingOn (f g : ℕ → Option (List ℕ)) (old now : Disk) : Type 0 where
  pub writing : IsPartlyWritten (page_by f old) old now
  pub left : (page : ℕ) → page_by g now page ≡ page_by f old page

pub going-begun : (f : ℕ → Option (List ℕ)) (disk : Disk) → IsGoingOn f f disk disk
going-begun f disk = record { writing = writing-begun (page_by f disk) disk; left = λ p. refl }

pub going-done : (f g : ℕ → Option (List ℕ)) (old now : Disk) → ((p : ℕ) → g p ≡ None) → IsGoingOn f g old now → HoldsMadePages (page_by f old) now
going-done f g old now none going = λ p. sym (ap (λ (o : Option (List ℕ)). unwrap_or o (page_of now p)) (none p)) ∙ going.left p

-- a page that is left is written
left-page : (f g : ℕ → Option (List ℕ)) (page : ℕ) (content : List ℕ) (old now : Disk) → g page ≡ Some content → IsGoingOn f g old now → content ≡ page_by f old page
left-page f g page content old now is going = sym (ap (λ (o : Option (List ℕ)). unwrap_or o (page_of now page)) is) ∙ going.left page

pub going-wrote : (f g h : ℕ → Option (List ℕ)) (page : ℕ) (content : List ℕ) (old now next : Disk) → g page ≡ Some content → h page ≡ None →
    ((q : ℕ) → (page == q) ≡ false → h q ≡ g q) → (page == record_number) ≡ false → IsGoingOn f g old now → Wrote page content now next → IsGoingOn f h old next
going-wrote f g h page content old now next is none rest apart going wrote = record {
  writing = writing-wrote (page_by f old) page content old now next going.writing (left-page f g page content old now is going) apart wrote;
  left = λ p. left_at p (page == p) refl;
}
  where
    left_at : (p : ℕ) (b : Bool) → (page == p) ≡ b → page_by h next p ≡ page_by f old p
    left_at p true e =
        let same : page ≡ p = eqb-true page p e in
        let held : page_of next p ≡ content = wrote.holds p ∙ chosen (page == p) content (page_of now p) e in
        let empty : h p ≡ None = subst (λ (n : ℕ). h n ≡ None) same none in
        ap (λ (o : Option (List ℕ)). unwrap_or o (page_of next p)) empty ∙ held ∙ left-page f g page content old now is going ∙ ap (page_by f old) same
    left_at p false e =
        let held : page_of next p ≡ page_of now p = wrote.holds p ∙ passed (page == p) content (page_of now p) e in
        ap (λ (o : Option (List ℕ)). unwrap_or o (page_of next p)) (rest p e) ∙ ap (λ (l : List ℕ). unwrap_or (g p) l) held ∙ going.left p

pub going-failed : (f g : ℕ → Option (List ℕ)) (page : ℕ) (content : List ℕ) (old now next : Disk) → g page ≡ Some content →
    (page == record_number) ≡ false → IsGoingOn f g old now → WriteFailed page content now next → IsPartlyWritten (page_by f old) old next
going-failed f g page content old now next is apart going failed =
    writing-failed (page_by f old) page content old now next going.writing (left-page f g page content old now is going) apart failed

-- The record: a disk that was synced, a write of the record, and a sync. Of one content a crash leaves that
pub alone : (held bytes : List ℕ) → Contains (held ∷ []) bytes → bytes ≡ held
alone held bytes c = ⊎_elim (λ (i : Contains [] bytes). absurd (let below : i.0 < 0 = i.1 in omega arith)) (λ (is : held ≡ bytes). sym is) (Contains-push_cases [] held bytes c)

the-one : (held : List ℕ) → Contains (held ∷ []) held
the-one held = Contains-push [] held

other-page : (told : List ℕ) (s n : Disk) (p : ℕ) → IsAllSettled s → Adds record_number told s n → (record_number == p) ≡ false → may_of n p ≡ page_of s p ∷ []
other-page told s n p settled adds e = adds p ∙ passed (record_number == p) (may_of s p ++ told ∷ []) (may_of s p) e ∙ settled p

record-left : (told bytes : List ℕ) (s n : Disk) → IsAllSettled s → Adds record_number told s n → Contains (may_of n record_number) bytes →
    (bytes ≡ page_of s record_number) ⊎ (bytes ≡ told)
record-left told bytes s n settled adds c =
    ⊎_elim
    (λ (i : Contains (may_of s record_number) bytes). inl (alone (page_of s record_number) bytes (rw (settled record_number) at i)))
    (λ (own : (record_number ≡ record_number) × (bytes ≡ told)). inr own.1)
    (added record_number record_number told bytes s n adds (record_number == record_number) refl c)

possible-settled : (disk : Disk) (p : ℕ) → IsAllSettled disk → IsPossible disk p
possible-settled disk p settled = rw (settled p) (the-one (page_of disk p))

pub settling-wrote : (told : List ℕ) (s n : Disk) → IsAllSettled s → Wrote record_number told s n → IsSettling told s n
settling-wrote told s n settled wrote = record {
  others = λ p e. (wrote.holds p ∙ passed (record_number == p) told (page_of s p) e, other-page told s n p settled wrote.may e);
  record_is = wrote-possible record_number record_number told s n wrote (possible-settled s record_number settled) (record_number == record_number) refl;
  record_may = λ bytes c. record-left told bytes s n settled wrote.may c;
}

pub settling-failed : (told : List ℕ) (s n : Disk) → IsAllSettled s → WriteFailed record_number told s n → IsSettling told s n
settling-failed told s n settled failed = record {
  others = λ p e. (failed.others p e, other-page told s n p settled failed.may e);
  record_is = failed-possible record_number record_number told s n failed (possible-settled s record_number settled) (record_number == record_number) refl;
  record_may = λ bytes c. record-left told bytes s n settled failed.may c;
}

pub settling-synced : (told : List ℕ) (s n x : Disk) → IsSettling told s n → Settled n x → IsSettling told s x
settling-synced told s n x settling synced = record {
  others = λ p e. (synced.holds p ∙ (settling.others p e).0, synced.may p ∙ ap (λ (l : List ℕ). l ∷ []) (settling.others p e).0);
  record_is = rw (synced.may record_number, synced.holds record_number) (the-one (page_of n record_number));
  record_may = λ bytes c. of_held bytes (alone (page_of n record_number) bytes (rw (synced.may record_number) at c));
}
  where
    of_held : (bytes : List ℕ) → bytes ≡ page_of n record_number → (bytes ≡ page_of s record_number) ⊎ (bytes ≡ told)
    of_held bytes is =
        ⊎_elim
        (λ (was : page_of n record_number ≡ page_of s record_number). inl (is ∙ was))
        (λ (made : page_of n record_number ≡ told). inr (is ∙ made))
        (settling.record_may (page_of n record_number) settling.record_is)

pub settled-synced : (told : List ℕ) (s n x : Disk) → Wrote record_number told s n → Settled n x → DiskIsSettled told s x
settled-synced told s n x wrote synced = λ p. (synced.holds p ∙ wrote.holds p, synced.may p ∙ ap (λ (l : List ℕ). l ∷ []) (sym (synced.holds p)))

pub all-settled : (old s : Disk) → Settled old s → IsAllSettled s
all-settled old s synced = λ p. synced.may p ∙ ap (λ (l : List ℕ). l ∷ []) (sym (synced.holds p))

-- what is said of the synced disk is said of the disk before
pub settling-behind : (told : List ℕ) (old s x : Disk) → Settled old s → IsSettling told s x → IsSettling told old x
settling-behind told old s x synced settling = record {
  others = λ p e. ((settling.others p e).0 ∙ synced.holds p, (settling.others p e).1 ∙ ap (λ (l : List ℕ). l ∷ []) (synced.holds p));
  record_is = settling.record_is;
  record_may = λ bytes c.
      ⊎_elim
      (λ (was : bytes ≡ page_of s record_number). inl (was ∙ synced.holds record_number))
      (λ (made : bytes ≡ told). inr made)
      (settling.record_may bytes c);
}

pub settled-behind : (told : List ℕ) (old s x : Disk) → Settled old s → DiskIsSettled told s x → DiskIsSettled told old x
settled-behind told old s x synced settled = λ p. ((settled p).0 ∙ ap (λ (l : List ℕ). if record_number == p then told else l) (synced.holds p), (settled p).1)

settling-begin : (told : List ℕ) (old s n : Option Disk) → Both old s Settled → Both s n (Wrote record_number told) → Both old n (λ o w. IsSettling told o w)
settling-begin told old s n first wrote =
    both-then Settled (Wrote record_number told) (λ o w. IsSettling told o w) old s n
    (λ o m w synced w_is. settling-behind told o m w synced (settling-wrote told m w (all-settled o m synced) w_is))
    first wrote

-- how the sync behind the record ends
pub settling-end : (told : List ℕ) (answer : Result (Unit {0}) CcError) (old s n x : Option Disk) → Both old s Settled → Both s n (Wrote record_number told) →
    OnOk answer (Both n x Settled) → OnErr answer (x ≡ n) → Both old x (λ o w. (w ≡ o) ⊎ IsSettling told o w)
settling-end told (Ok done) old s n x first wrote last none =
    both-then (λ o w. IsSettling told o w) Settled (λ o w. (w ≡ o) ⊎ IsSettling told o w) old n x
    (λ o m w settling synced. inr (settling-synced told o m w settling synced))
    (settling-begin told old s n first wrote) last
settling-end told (Err e) old s n x first wrote none same =
    subst (λ (d : Option Disk). Both old d (λ o w. (w ≡ o) ⊎ IsSettling told o w)) (sym same)
    (both-map (λ o w. IsSettling told o w) (λ o w. (w ≡ o) ⊎ IsSettling told o w) old n (λ o w settling. inr settling) (settling-begin told old s n first wrote))

-- a disk whose record was written and synced
pub settled-settling : (told : List ℕ) (old new : Disk) → DiskIsSettled told old new → IsSettling told old new
settled-settling told old new settled = record {
  others = λ p e.
      let held : page_of new p ≡ page_of old p = (settled p).0 ∙ passed (record_number == p) told (page_of old p) e in
      (held, (settled p).1 ∙ ap (λ (l : List ℕ). l ∷ []) held);
  record_is = rw ((settled record_number).1) (the-one (page_of new record_number));
  record_may = λ bytes c. inr (alone (page_of new record_number) bytes (rw ((settled record_number).1) at c) ∙ (settled record_number).0);
}
