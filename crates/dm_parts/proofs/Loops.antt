-- Lists that loops go through, place by place.
use Rattle.std.proofs.Common.{◌≡◌, ℕ, zero, suc, ◌+◌, ◌-◌, ◌<◌, ◌≤◌, List, [], ◌∷◌, ◌++◌, length, get_or, set, drop, map, refl, ap, sym, ◌∙◌, arith, append_assoc}
use Rattle.std.proofs.Math.ListN.{drop_of_length-le}
use Rattle.std.proofs.lemmas.Grind.{common_steps}
use Rattle.std.proofs.lemmas.List.{drop_more}
use Rattle.dm_link.specs.declared.Link.{Link}
use Rattle.dm_onekernel.specs.declared.boot.Boot.{Boot}
use Rattle.dm_onekernel.specs.declared.boot.BootProcess.{BootProcess}
use Rattle.dm_parts.specs.Parts.{alone, joins, with_link, with_links, with_processes}

-- each place by itself
pub alone-last : (done : List ℕ) (i last : ℕ) → last ≤ i → i ≤ last → done ++ alone i ((last + 1) - i) ≡ done ++ last ∷ []
alone-last done i last past within =
    let one : (last + 1) - i ≡ 1 = omega arith in
    let here : i ≡ last = omega arith in
    ap (λ k. done ++ alone i k) one ∙ ap (λ k. done ++ k ∷ []) here

pub alone-more : (done : List ℕ) (i last : ℕ) → i < last → (done ++ i ∷ []) ++ alone (i + 1) ((last + 1) - (i + 1)) ≡ done ++ alone i ((last + 1) - i)
alone-more done i last within =
    let more : (last + 1) - i ≡ suc ((last + 1) - (i + 1)) = omega arith in
    append_assoc done (i ∷ []) (alone (i + 1) ((last + 1) - (i + 1))) ∙ sym (ap (λ k. done ++ alone i k) more)

-- an element that was read, whatever is read behind the end
get_or_same : {X : Type 0} (xs : List X) (i : ℕ) (d e : X) → i < length xs → get_or xs i d ≡ get_or xs i e
get_or_same [] i d e within = absurd (omega arith)
get_or_same (x ∷ xs) zero d e within = refl
get_or_same (x ∷ xs) (suc i) d e within = get_or_same xs i d e (omega arith)

read_at : {X : Type 0} (xs : List X) (i : ℕ) (d : X) → i < length xs → drop i xs ≡ get_or xs i d ∷ drop (i + 1) xs
read_at xs i d within = drop_more xs i d within

-- the links of a process
pub links-end : (b : Boot) (place : ℕ) (parts : List ℕ) (ls : List Link) (i : ℕ) → length ls ≤ i → with_links b place parts (drop i ls) ≡ parts
unfolding with_links
links-end b place parts ls i past = ap (with_links b place parts) (drop_of_length-le ls past)

pub links-more : (b : Boot) (place : ℕ) (parts : List ℕ) (ls : List Link) (i : ℕ) (d : Link) → i < length ls → with_links b place (with_link parts place (joins b (get_or ls i d))) (drop (i + 1) ls) ≡ with_links b place parts (drop i ls)
unfolding with_links
links-more b place parts ls i d within = sym (ap (with_links b place parts) (read_at ls i d within))

-- the processes
pub processes-end : (b : Boot) (parts : List ℕ) (ps : List BootProcess) (i : ℕ) → length ps ≤ i → with_processes b i parts (drop i ps) ≡ parts
unfolding with_processes
processes-end b parts ps i past = ap (with_processes b i parts) (drop_of_length-le ps past)

pub processes-more : (b : Boot) (parts : List ℕ) (ps : List BootProcess) (i : ℕ) (p : BootProcess) → i < length ps → p ≡ get_or ps i p → with_processes b (i + 1) (with_links b i parts p.links) (drop (i + 1) ps) ≡ with_processes b i parts (drop i ps)
unfolding with_processes
processes-more b parts ps i p within read = sym (ap (with_processes b i parts) (read_at ps i p within ∙ ap (λ q. q ∷ drop (i + 1) ps) (sym read)))

-- numbers that are changed one by one are all changed
module _ {X : Type 0} (f : X → X) where
  -- the first n are
  abbrev pub first_changed : ℕ → List X → List X
  first_changed zero xs = xs
  first_changed (suc n) [] = []
  first_changed (suc n) (x ∷ xs) = f x ∷ first_changed n xs

  pub set_changed : (n : ℕ) (xs : List X) (d : X) → n < length xs → set (first_changed n xs) n (f (get_or (first_changed n xs) n d)) ≡ first_changed (n + 1) xs
  set_changed n [] d lt = absurd (omega (arith, lt))
  set_changed zero (x ∷ xs) d lt = grind (arith, common_steps)
  set_changed (suc n) (x ∷ xs) d lt = grind (arith, common_steps, set_changed n xs d (grind (arith, common_steps, lt)))

  pub all_changed : (xs : List X) → first_changed (length xs) xs ≡ map f xs
  all_changed [] = refl
  all_changed (x ∷ xs) = ap (λ ys. f x ∷ ys) (all_changed xs)
