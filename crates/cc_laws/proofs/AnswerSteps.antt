-- What keeps each byte keeps every page and every answer.
use Rattle.std.specs.Prelude.{◌≡◌, ℕ, ◌+◌, ◌-◌, ◌*◌, Bool, List, ◌∷◌, map, min}
use Rattle.std.proofs.Common.{ap, ◌∙◌}
use Rattle.std.specs.List.{range_with_len}
use Rattle.cc_entry.specs.declared.call.Call.{Call}
use Rattle.cc_entry.specs.declared.reply.Reply.{Reply}
use Rattle.cc_entry.specs.declared.entry.End.{End}
use Rattle.cc_model.specs.History.{Effect, Did, CameIn, WentOut, Began, Ended, Synced}
use Rattle.cc_model.specs.Acts.{act_of, Looks}
use Rattle.cc_model.specs.Sizes.{Sizes}
use Rattle.cc_model.specs.Touches.{sizes}
use Rattle.cc_model.specs.Bytes.{byte_of, answer, answer_length, page_bytes, page_size}
use Rattle.cc_laws.proofs.SizeSteps.{sizes-looks, sizes-came_in, sizes-went_out, sizes-began, sizes-ended, sizes-synced}
use Rattle.cc_laws.proofs.ByteSteps.{byte_of-came_in, byte_of-went_out, byte_of-began, byte_of-ended, byte_of-synced}
use Rattle.cc_laws.proofs.ByteLaws.{byte_of-looks}

pub page_bytes-same : (pages : ℕ → List ℕ) (h front : List Effect) (p : ℕ) → ((i : ℕ) → byte_of pages h i ≡ byte_of pages front i) → page_bytes pages h p ≡ page_bytes pages front p
unfolding page_bytes
page_bytes-same pages h front p same = ap (λ f. map f (range_with_len (4096 * p) page_size)) (λ k i. same i k)

pub answer-same : (pages : ℕ → List ℕ) (h front : List Effect) (at n : ℕ) → sizes h ≡ sizes front → ((i : ℕ) → byte_of pages h i ≡ byte_of pages front i) → answer pages h at n ≡ answer pages front at n
unfolding answer
answer-same pages h front at n same_sizes same =
    ap (λ f. map f (range_with_len at (answer_length h at n))) (λ k i. same i k)
    ∙ ap (λ (s : Sizes). map (byte_of pages front) (range_with_len at (min (at + n) s.size - at))) same_sizes

pub page_bytes-looks : (pages : ℕ → List ℕ) (pass : ℕ) (call : Call) (reply : Reply) (h : List Effect) (p : ℕ) → act_of call ≡ Looks → page_bytes pages (Did pass call reply ∷ h) p ≡ page_bytes pages h p
page_bytes-looks pages pass call reply h p is = page_bytes-same pages (Did pass call reply ∷ h) h p (λ i. byte_of-looks pages pass call reply h i is)

pub answer-looks : (pages : ℕ → List ℕ) (pass : ℕ) (call : Call) (reply : Reply) (h : List Effect) (at n : ℕ) → act_of call ≡ Looks → answer pages (Did pass call reply ∷ h) at n ≡ answer pages h at n
answer-looks pages pass call reply h at n is = answer-same pages (Did pass call reply ∷ h) h at n (sizes-looks pass call reply h is) (λ i. byte_of-looks pages pass call reply h i is)

pub page_bytes-came_in : (pages : ℕ → List ℕ) (pass page : ℕ) (from_disk : Bool) (h : List Effect) (p : ℕ) → page_bytes pages (CameIn pass page from_disk ∷ h) p ≡ page_bytes pages h p
page_bytes-came_in pages pass page from_disk h p = page_bytes-same pages (CameIn pass page from_disk ∷ h) h p (byte_of-came_in pages pass page from_disk h)

pub answer-came_in : (pages : ℕ → List ℕ) (pass page : ℕ) (from_disk : Bool) (h : List Effect) (at n : ℕ) → answer pages (CameIn pass page from_disk ∷ h) at n ≡ answer pages h at n
answer-came_in pages pass page from_disk h at n = answer-same pages (CameIn pass page from_disk ∷ h) h at n (sizes-came_in pass page from_disk h) (byte_of-came_in pages pass page from_disk h)

pub page_bytes-went_out : (pages : ℕ → List ℕ) (pass page : ℕ) (h : List Effect) (p : ℕ) → page_bytes pages (WentOut pass page ∷ h) p ≡ page_bytes pages h p
page_bytes-went_out pages pass page h p = page_bytes-same pages (WentOut pass page ∷ h) h p (byte_of-went_out pages pass page h)

pub answer-went_out : (pages : ℕ → List ℕ) (pass page : ℕ) (h : List Effect) (at n : ℕ) → answer pages (WentOut pass page ∷ h) at n ≡ answer pages h at n
answer-went_out pages pass page h at n = answer-same pages (WentOut pass page ∷ h) h at n (sizes-went_out pass page h) (byte_of-went_out pages pass page h)

pub page_bytes-began : (pages : ℕ → List ℕ) (pass page : ℕ) (h : List Effect) (p : ℕ) → page_bytes pages (Began pass page ∷ h) p ≡ page_bytes pages h p
page_bytes-began pages pass page h p = page_bytes-same pages (Began pass page ∷ h) h p (byte_of-began pages pass page h)

pub answer-began : (pages : ℕ → List ℕ) (pass page : ℕ) (h : List Effect) (at n : ℕ) → answer pages (Began pass page ∷ h) at n ≡ answer pages h at n
answer-began pages pass page h at n = answer-same pages (Began pass page ∷ h) h at n (sizes-began pass page h) (byte_of-began pages pass page h)

pub page_bytes-ended : (pages : ℕ → List ℕ) (pass page : ℕ) (how : End) (h : List Effect) (p : ℕ) → page_bytes pages (Ended pass page how ∷ h) p ≡ page_bytes pages h p
page_bytes-ended pages pass page how h p = page_bytes-same pages (Ended pass page how ∷ h) h p (byte_of-ended pages pass page how h)

pub answer-ended : (pages : ℕ → List ℕ) (pass page : ℕ) (how : End) (h : List Effect) (at n : ℕ) → answer pages (Ended pass page how ∷ h) at n ≡ answer pages h at n
answer-ended pages pass page how h at n = answer-same pages (Ended pass page how ∷ h) h at n (sizes-ended pass page how h) (byte_of-ended pages pass page how h)

pub page_bytes-synced : (pages : ℕ → List ℕ) (pass : ℕ) (how : End) (h : List Effect) (p : ℕ) → page_bytes pages (Synced pass how ∷ h) p ≡ page_bytes pages h p
page_bytes-synced pages pass how h p = page_bytes-same pages (Synced pass how ∷ h) h p (byte_of-synced pages pass how h)

pub answer-synced : (pages : ℕ → List ℕ) (pass : ℕ) (how : End) (h : List Effect) (at n : ℕ) → answer pages (Synced pass how ∷ h) at n ≡ answer pages h at n
answer-synced pages pass how h at n = answer-same pages (Synced pass how ∷ h) h at n (sizes-synced pass how h) (byte_of-synced pages pass how h)
