-- How the least valid data length of a page steps.
use Rattle.std.specs.Prelude.{◌≡◌, ℕ, ◌≤◌, Bool, true, false, ◌==◌, ◌&&◌, ◌||◌, min, List, [], ◌∷◌, refl}
use Rattle.std.proofs.Common.{ap, sym, ◌∙◌, arith}
use Rattle.cc_entry.specs.declared.call.Call.{Call}
use Rattle.cc_entry.specs.declared.reply.Reply.{Reply}
use Rattle.cc_entry.specs.declared.entry.End.{End}
use Rattle.cc_model.specs.History.{Effect, Did, CameIn, WentOut, Began, Ended, Synced}
use Rattle.cc_model.specs.Acts.{Act, act_of, Opens}
use Rattle.cc_model.specs.Objects.{had_map}
use Rattle.cc_model.specs.Sizes.{ended_ok}
use Rattle.cc_model.specs.Touches.{sizes, valid_of}
use Rattle.cc_model.specs.Discards.{least_valid, low_since, low_of}

least-now : (had : Bool) (now before : ℕ) → least_valid had now before ≤ now
least-now true now before = omega arith
least-now false now before = omega arith

pub low-done : (ended : Bool) (pass : ℕ) (call : Call) (reply : Reply) (h : List Effect) (p : ℕ) → low_since ended (Did pass call reply ∷ h) p ≡ least_valid (had_map h) (valid_of (Did pass call reply ∷ h)) (low_since ended h p)
unfolding low_since
low-done ended pass call reply h p = refl

-- it is no more than the valid data length now
pub low-within : (ended : Bool) (h : List Effect) (p : ℕ) → low_since ended h p ≤ valid_of h
unfolding low_since sizes
low-within ended [] p = omega arith
low-within ended (Did pass call reply ∷ h) p = least-now (had_map h) (valid_of (Did pass call reply ∷ h)) (low_since ended h p)
low-within ended (CameIn pass page from_disk ∷ h) p = least-now (had_map h) (valid_of h) (low_since ended h p)
low-within ended (WentOut pass page ∷ h) p = least-now (had_map h) (valid_of h) (low_since ended h p)
low-within ended (Began pass page ∷ h) p = go (ended && page == p)
  where
    go : (b : Bool) → elim b as (λ x. ℕ) [ true ↦ valid_of h | false ↦ least_valid (had_map h) (valid_of h) (low_since ended h p) ] ≤ valid_of h
    go true = omega arith
    go false = least-now (had_map h) (valid_of h) (low_since ended h p)
low-within ended (Ended pass page how ∷ h) p = least-now (had_map h) (valid_of h) (low_since (ended || (page == p && ended_ok how)) h p)
low-within ended (Synced pass how ∷ h) p = least-now (had_map h) (valid_of h) (low_since ended h p)

-- a stream that had a map has had one ever since
had-done : (pass : ℕ) (call : Call) (reply : Reply) (h : List Effect) → had_map h ≡ true → had_map (Did pass call reply ∷ h) ≡ true
unfolding had_map
had-done pass call reply h had = go (act_of call)
  where
    go : (a : Act) → elim a as (λ x. Bool) [ Opens file given quota temporary ↦ true | _ ↦ had_map h ] ≡ true
    go (Opens file given quota temporary) = refl
    go other = had

-- before its first initialise a stream had no less valid data than now
pub low-uninitialised : (ended : Bool) (h : List Effect) (p : ℕ) → had_map h ≡ false → low_since ended h p ≡ valid_of h
unfolding low_since sizes had_map
low-uninitialised ended [] p never = refl
low-uninitialised ended (Did pass call reply ∷ h) p never = go (had_map h) refl
  where
    go : (had : Bool) → had_map h ≡ had → least_valid had (valid_of (Did pass call reply ∷ h)) (low_since ended h p) ≡ valid_of (Did pass call reply ∷ h)
    go true was = absurd (cc (had-done pass call reply h was, never))
    go false was = refl
low-uninitialised ended (CameIn pass page from_disk ∷ h) p never = ap (λ b. least_valid b (valid_of h) (low_since ended h p)) never
low-uninitialised ended (WentOut pass page ∷ h) p never = ap (λ b. least_valid b (valid_of h) (low_since ended h p)) never
low-uninitialised ended (Began pass page ∷ h) p never = go (ended && page == p)
  where
    go : (b : Bool) → elim b as (λ x. ℕ) [ true ↦ valid_of h | false ↦ least_valid (had_map h) (valid_of h) (low_since ended h p) ] ≡ valid_of h
    go true = refl
    go false = ap (λ b. least_valid b (valid_of h) (low_since ended h p)) never
low-uninitialised ended (Ended pass page how ∷ h) p never =
    ap (λ b. least_valid b (valid_of h) (low_since (ended || (page == p && ended_ok how)) h p)) never
low-uninitialised ended (Synced pass how ∷ h) p never = ap (λ b. least_valid b (valid_of h) (low_since ended h p)) never

-- an effect that leaves the valid data length leaves it
pub low-kept : (ended : Bool) (h : List Effect) (p : ℕ) → least_valid (had_map h) (valid_of h) (low_since ended h p) ≡ low_since ended h p
low-kept ended h p = go (had_map h) refl
  where
    least : (a b : ℕ) → b ≤ a → min a b ≡ b
    least a b le = omega arith

    go : (had : Bool) → had_map h ≡ had → least_valid had (valid_of h) (low_since ended h p) ≡ low_since ended h p
    go true was = least (valid_of h) (low_since ended h p) (low-within ended h p)
    go false was = sym (low-uninitialised ended h p was)

pub low-came_in : (ended : Bool) (pass page : ℕ) (from_disk : Bool) (h : List Effect) (p : ℕ) → low_since ended (CameIn pass page from_disk ∷ h) p ≡ low_since ended h p
unfolding low_since sizes
low-came_in ended pass page from_disk h p = low-kept ended h p

pub low-went_out : (ended : Bool) (pass page : ℕ) (h : List Effect) (p : ℕ) → low_since ended (WentOut pass page ∷ h) p ≡ low_since ended h p
unfolding low_since sizes
low-went_out ended pass page h p = low-kept ended h p

pub low-synced : (ended : Bool) (pass : ℕ) (how : End) (h : List Effect) (p : ℕ) → low_since ended (Synced pass how ∷ h) p ≡ low_since ended h p
unfolding low_since sizes
low-synced ended pass how h p = low-kept ended h p

pub low-began : (pass page : ℕ) (h : List Effect) (p : ℕ) → low_of (Began pass page ∷ h) p ≡ low_of h p
unfolding low_since sizes
low-began pass page h p = low-kept false h p

pub low-began_page : (pass page : ℕ) (h : List Effect) (p : ℕ) → (page == p) ≡ true → low_since true (Began pass page ∷ h) p ≡ valid_of h
unfolding low_since
low-began_page pass page h p same = rw (same, low_since) refl

-- a good end of the page's transfer makes it the one since that began, and any other leaves it
pub low-ended_good : (pass page : ℕ) (how : End) (h : List Effect) (p : ℕ) → (page == p) ≡ true → ended_ok how ≡ true → low_of (Ended pass page how ∷ h) p ≡ low_since true h p
unfolding low_since sizes
low-ended_good pass page how h p same good =
    ap (λ b. least_valid (had_map h) (valid_of h) (low_since b h p)) (ap (λ b. b && ended_ok how) same ∙ good) ∙ low-kept true h p

pub low-ended_other : (pass page : ℕ) (how : End) (h : List Effect) (p : ℕ) → (page == p && ended_ok how) ≡ false → low_of (Ended pass page how ∷ h) p ≡ low_of h p
unfolding low_since sizes
low-ended_other pass page how h p other =
    ap (λ b. least_valid (had_map h) (valid_of h) (low_since b h p)) other ∙ low-kept false h p

least-order : (had : Bool) (now a b : ℕ) → a ≤ b → least_valid had now a ≤ least_valid had now b
least-order true now a b within = omega arith
least-order false now a b within = omega arith

-- since the last begin it is no less
pub low-order : (h : List Effect) (p : ℕ) → low_of h p ≤ low_since true h p
unfolding low_since sizes
low-order [] p = omega arith
low-order (Did pass call reply ∷ h) p = least-order (had_map h) (valid_of (Did pass call reply ∷ h)) (low_of h p) (low_since true h p) (low-order h p)
low-order (CameIn pass page from_disk ∷ h) p = least-order (had_map h) (valid_of h) (low_of h p) (low_since true h p) (low-order h p)
low-order (WentOut pass page ∷ h) p = least-order (had_map h) (valid_of h) (low_of h p) (low_since true h p) (low-order h p)
low-order (Began pass page ∷ h) p = go (page == p) (low-order h p)
  where
    go : (b : Bool) → low_of h p ≤ low_since true h p → least_valid (had_map h) (valid_of h) (low_of h p) ≤ elim b as (λ x. ℕ) [ true ↦ valid_of h | false ↦ least_valid (had_map h) (valid_of h) (low_since true h p) ]
    go true before = least-now (had_map h) (valid_of h) (low_of h p)
    go false before = least-order (had_map h) (valid_of h) (low_of h p) (low_since true h p) before
low-order (Ended pass page how ∷ h) p = go (page == p && ended_ok how) (low-order h p)
  where
    go : (b : Bool) → low_of h p ≤ low_since true h p → least_valid (had_map h) (valid_of h) (low_since b h p) ≤ least_valid (had_map h) (valid_of h) (low_since true h p)
    go true before = omega arith
    go false before = least-order (had_map h) (valid_of h) (low_of h p) (low_since true h p) before
low-order (Synced pass how ∷ h) p = least-order (had_map h) (valid_of h) (low_of h p) (low_since true h p) (low-order h p)
