-- How the deferred writes that wait step.
use Prim.Native.Nat.{zero}
use Rattle.std.specs.Prelude.{◌≡◌, ℕ, suc, ◌+◌, ◌<◌, Bool, true, false, List, [], ◌∷◌, ◌++◌, length, map, drop, insert, slice_get, slice_index_or, Some, if◌then◌else◌, refl}
use Rattle.std.specs.Option.{option_map, ForSome}
use Rattle.std.proofs.Common.{ap, sym, ◌∙◌, arith}
use Rattle.std.proofs.lemmas.List.{length-map, map-append}
use Rattle.std.proofs.lemmas.List.Edits.{insert_end}
use Rattle.std.proofs.lemmas.List.Elements.{All-append, All-drop}
use Rattle.cc_entry.specs.declared.entry.Entry.{Entry}
use Rattle.cc_entry.specs.declared.entry.Entry.TheVariants as entry
use Rattle.cc_entry.specs.declared.hold.Deferral.{Deferral}
use Rattle.cc_model.specs.Throttle.{queue, deferred}
use Rattle.cc_laws.proofs.QueueSteps.{queue-deferred, queue-retried, queue-posted, queue-other, deferred-deferred, deferred-other, is_defer, is_defer_or_post}
use Rattle.cc_journal.specs.Queue.{with_routines, SameIds, deferrals_of_writes, routines_of, QueueStands, AllUnposted}

-- as many routines as writes
pub same_length : {Q : Type 0} (deferrals : List Deferral) (routines : List (ℕ × Q))
    → SameIds deferrals routines → length routines ≡ length deferrals
same_length deferrals routines same = sym (length-map routines (λ w. w.0)) ∙ (ap length same ∙ length-map deferrals (λ d. d.id))

pub length_with_routines : {Q : Type 0} (deferrals : List Deferral) (routines : List (ℕ × Q))
    → length routines ≡ length deferrals → length (with_routines deferrals routines) ≡ length routines
length_with_routines [] [] same = refl
length_with_routines [] (r ∷ rs) same = absurd (cc)
length_with_routines (d ∷ ds) [] same = absurd (cc)
length_with_routines (d ∷ ds) (r ∷ rs) same = ap suc (length_with_routines ds rs (omega (arith, same)))

pub routines_with_routines : {Q : Type 0} (deferrals : List Deferral) (routines : List (ℕ × Q))
    → SameIds deferrals routines → routines_of (with_routines deferrals routines) ≡ routines
routines_with_routines [] [] same = refl
routines_with_routines [] (r ∷ rs) same = absurd (cc)
routines_with_routines (d ∷ ds) [] same = absurd (cc)
routines_with_routines {Q} (d ∷ ds) (r ∷ rs) same =
    let id : d.id ≡ r.0 = cc in
    let rest : SameIds ds rs = cc in
    ap (λ (n : ℕ). (n, r.1) ∷ routines_of (with_routines ds rs)) id ∙ ap (λ (l : List (ℕ × Q)). r ∷ l) (routines_with_routines ds rs rest)

map_drop : {X Y : Type 0} (f : X → Y) (xs : List X) → map f (drop 1 xs) ≡ drop 1 (map f xs)
map_drop f [] = refl
map_drop f (x ∷ xs) = refl

-- one more write and its routine at the same place
pub with_routines_insert : {Q : Type 0} (deferrals : List Deferral) (routines : List (ℕ × Q)) (i : ℕ)
    (d : Deferral) (r : ℕ × Q)
    → length routines ≡ length deferrals
    → with_routines (insert deferrals i d) (insert routines i r) ≡ insert (with_routines deferrals routines) i (d, r.1)
with_routines_insert ds rs zero d r same = refl
with_routines_insert [] [] (suc i) d r same = refl
with_routines_insert [] (q ∷ rs) (suc i) d r same = absurd (cc)
with_routines_insert (e ∷ ds) [] (suc i) d r same = absurd (cc)
with_routines_insert {Q} (e ∷ ds) (q ∷ rs) (suc i) d r same = ap (λ (l : List (Deferral × Q)). (e, q.1) ∷ l) (with_routines_insert ds rs i d r (omega (arith, same)))

-- without the first
pub with_routines_drop : {Q : Type 0} (deferrals : List Deferral) (routines : List (ℕ × Q))
    → length routines ≡ length deferrals
    → with_routines (drop 1 deferrals) (drop 1 routines) ≡ drop 1 (with_routines deferrals routines)
with_routines_drop [] rs same = refl
with_routines_drop (d ∷ ds) [] same = absurd (cc)
with_routines_drop (d ∷ ds) (r ∷ rs) same = refl

pub writes_post : {Q : Type 0} (ds ds' : List Deferral) (rs rs' : List (ℕ × Q)) (old : List (Deferral × Q))
    → with_routines ds rs ≡ old → SameIds ds rs → ds' ≡ drop 1 ds → rs' ≡ drop 1 rs
    → with_routines ds' rs' ≡ drop 1 old
writes_post ds ds' rs rs' old was same deferrals routines =
    ap (λ (l : List Deferral). with_routines l rs') deferrals
    ∙ (ap (with_routines (drop 1 ds)) routines
    ∙ (with_routines_drop ds rs (same_length ds rs same)
    ∙ ap (drop 1) was))

-- the routine that is taken is that of the head
pub head_unposted : {Q : Type 0} (posted : Q → Bool) (ds : List Deferral) (rs : List (ℕ × Q))
    (old : List (Deferral × Q)) (r : ℕ × Q)
    → with_routines ds rs ≡ old → SameIds ds rs → 0 < length old → r ≡ slice_index_or rs 0 r
    → ForSome (slice_get old 0) (λ w. posted w.1 ≡ false) → posted r.1 ≡ false
head_unposted posted [] rs old r was same some is unposted = absurd (omega (arith, some, ap length was))
head_unposted posted (d ∷ ds) [] old r was same some is unposted = absurd (cc)
head_unposted {Q} posted (d ∷ ds) (q ∷ rs) old r was same some is unposted =
    unposted (d, r.1) (ap (λ (l : List (Deferral × Q)). slice_get l 0) (sym was) ∙ ap (λ (w : ℕ × Q). Some (d, w.1)) (sym is))

-- the place of one more
place_first : {X : Type 0} (retrying : Bool) (xs : List X) (x : X)
    → insert xs (if retrying then 0 else length xs) x ≡ (if retrying then x ∷ xs else xs ++ x ∷ [])
place_first true xs x = refl
place_first false xs x = insert_end xs x

pub insert_at : {X : Type 0} (retrying : Bool) (xs : List X) (n : ℕ) (x : X) → n ≡ length xs
    → insert xs (if retrying then 0 else n) x ≡ (if retrying then x ∷ xs else xs ++ x ∷ [])
insert_at retrying xs n x is = ap (λ (m : ℕ). insert xs (if retrying then 0 else m) x) is ∙ place_first retrying xs x

-- the writes with one more, in the two lists that keep them
pub writes_defer : {Q : Type 0} (ds ds' : List Deferral) (rs rs' : List (ℕ × Q)) (old : List (Deferral × Q))
    (place n : ℕ) (retrying : Bool) (d : Deferral) (r : ℕ × Q)
    → with_routines ds rs ≡ old → SameIds ds rs → n ≡ length ds → place ≡ (if retrying then 0 else n)
    → ds' ≡ insert ds place d → rs' ≡ insert rs place r
    → with_routines ds' rs' ≡ (if retrying then (d, r.1) ∷ old else old ++ (d, r.1) ∷ [])
writes_defer {Q} ds ds' rs rs' old place n retrying d r was same at is deferrals routines =
    let as_long : length rs ≡ length ds = same_length ds rs same in
    let n_is : n ≡ length old = at ∙ (sym as_long ∙ (sym (length_with_routines ds rs as_long) ∙ ap length was)) in
    ap (λ (l : List Deferral). with_routines l rs') deferrals
    ∙ (ap (with_routines (insert ds place d)) routines
    ∙ (with_routines_insert ds rs place d r as_long
    ∙ (ap (λ (l : List (Deferral × Q)). insert l place (d, r.1)) was
    ∙ (ap (λ (m : ℕ). insert old m (d, r.1)) is
    ∙ insert_at retrying old n (d, r.1) n_is))))

-- none wait in an empty past
pub stands_none : {Q : Type 0} (deferrals : List Deferral) (routines : List (ℕ × Q)) → deferrals ≡ []
    → QueueStands [] (with_routines deferrals routines) 0
unfolding queue deferred
stands_none deferrals routines none = rw none (refl, refl)

-- a deferred write
pub stands_defer : {Q : Type 0} (old new : List (Deferral × Q)) (count count' : ℕ)
    (d : Deferral) (routine : Q) (retrying : Bool) (past : List Entry) (pass : ℕ)
    → count' ≡ count → new ≡ (if retrying then (d, routine) ∷ old else old ++ (d, routine) ∷ [])
    → QueueStands past old count
    → QueueStands (entry.Defer pass d.id d.file d.pages retrying ∷ past) new (count' + 1)
stands_defer old new count count' d routine true past pass kept is stood = (
  ap deferrals_of_writes is ∙ (ap (λ (l : List Deferral). d ∷ l) stood.0 ∙ sym (queue-retried pass d.id d.file d.pages past)),
  omega (arith, kept, stood.1, deferred-deferred pass d.id d.file d.pages true past),
)
stands_defer old new count count' d routine false past pass kept is stood = (
  ap deferrals_of_writes is
      ∙ (map-append (λ w. w.0) old ((d, routine) ∷ [])
      ∙ (ap (λ (l : List Deferral). l ++ d ∷ []) stood.0
      ∙ sym (queue-deferred pass d.id d.file d.pages past))),
  omega (arith, kept, stood.1, deferred-deferred pass d.id d.file d.pages false past),
)

-- the head was posted
pub stands_post : {Q : Type 0} (old new : List (Deferral × Q)) (count count' id : ℕ) (past : List Entry)
    → new ≡ drop 1 old → count' ≡ count → QueueStands past old count
    → QueueStands (entry.Posted id ∷ past) new count'
stands_post old new count count' id past is kept stood = (
  ap deferrals_of_writes is ∙ (map_drop (λ w. w.0) old ∙ (ap (drop 1) stood.0 ∙ sym (queue-posted id past))),
  kept ∙ (stood.1 ∙ sym (deferred-other (entry.Posted id) past refl)),
)

-- as many writes wait as are in the queue, and the same head
pub stands_length : {Q : Type 0} (writes : List (Deferral × Q)) (count : ℕ) (past : List Entry)
    → QueueStands past writes count → length writes ≡ length (queue past)
stands_length writes count past stood = sym (length-map writes (λ w. w.0)) ∙ ap length stood.0

head_id : {Q : Type 0} (writes : List (Deferral × Q))
    → option_map (λ d. d.id) (slice_get (deferrals_of_writes writes) 0) ≡ option_map (λ w. w.0.id) (slice_get writes 0)
head_id [] = refl
head_id (w ∷ writes) = refl

pub stands_head : {Q : Type 0} (writes : List (Deferral × Q)) (count id : ℕ) (past : List Entry)
    → QueueStands past writes count → option_map (λ w. w.0.id) (slice_get writes 0) ≡ Some id
    → option_map (λ d. d.id) (slice_get (queue past) 0) ≡ Some id
stands_head writes count id past stood is = ap (λ (l : List Deferral). option_map (λ d. d.id) (slice_get l 0)) (sym stood.0) ∙ (head_id writes ∙ is)

-- another entry leaves the queue
is_defer_too : (e : Entry) → is_defer_or_post e ≡ false → is_defer e ≡ false
is_defer_too (entry.Defer pass id file pages retrying) kept = cc
is_defer_too other kept = refl

pub queue_stands_other : {Q : Type 0} (writes : List (Deferral × Q)) (count : ℕ) (e : Entry) (past : List Entry)
    → is_defer_or_post e ≡ false → QueueStands past writes count → QueueStands (e ∷ past) writes count
queue_stands_other writes count e past other stood =
    (stood.0 ∙ sym (queue-other e past other), stood.1 ∙ sym (deferred-other e past (is_defer_too e other)))

unposted_alone : {Q : Type 0} (posted : Q → Bool) (d : Deferral) (routine : Q) → posted routine ≡ false
    → AllUnposted posted ((d, routine) ∷ [])
unposted_alone posted d routine one zero other within = one
unposted_alone posted d routine one (suc k) other within = absurd (omega (arith, within))

-- one more that was not posted
pub unposted_defer : {Q : Type 0} (posted : Q → Bool) (old new : List (Deferral × Q))
    (d : Deferral) (routine : Q) (retrying : Bool)
    → new ≡ (if retrying then (d, routine) ∷ old else old ++ (d, routine) ∷ []) → posted routine ≡ false
    → AllUnposted posted old → AllUnposted posted new
unposted_defer {Q} posted old new d routine true is one all =
    rw is (All-append (λ (w : Deferral × Q). posted w.1 ≡ false) ((d, routine) ∷ []) old (unposted_alone posted d routine one) all)
unposted_defer {Q} posted old new d routine false is one all =
    rw is (All-append (λ (w : Deferral × Q). posted w.1 ≡ false) old ((d, routine) ∷ []) all (unposted_alone posted d routine one))

pub unposted_post : {Q : Type 0} (posted : Q → Bool) (old new : List (Deferral × Q)) → new ≡ drop 1 old
    → AllUnposted posted old → AllUnposted posted new
unposted_post {Q} posted old new is all = rw is (All-drop (λ (w : Deferral × Q). posted w.1 ≡ false) 1 old all)

-- the head was not posted
pub unposted_head : {Q : Type 0} (posted : Q → Bool) (writes : List (Deferral × Q))
    → AllUnposted posted writes → ForSome (slice_get writes 0) (λ w. posted w.1 ≡ false)
unposted_head posted [] all w is = absurd (cc)
unposted_head posted (v ∷ writes) all w is = let same : v ≡ w = cc in rw (← same) (all 0 v (omega arith))

-- the routines that wait have the ids of their writes
pub ids_same : {Q : Type 0} (writes : List (Deferral × Q)) → map (λ (w : ℕ × Q). w.0) (routines_of writes) ≡ map (λ (d : Deferral). d.id) (deferrals_of_writes writes)
ids_same [] = refl
ids_same (w ∷ writes) = ap (λ ids. w.0.id ∷ ids) (ids_same writes)
