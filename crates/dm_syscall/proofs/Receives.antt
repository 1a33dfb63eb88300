-- How a receive ends: its links one by one, and all of it.
use Rattle.dm_syscall.proofs.Names.{◌≡◌, ◌∙◌, ℕ, ◌+◌, ◌<◌, List, [], ◌∷◌, length, map, drop, get_or, Some, None, refl, ap, sym, add-one, arith, count_by, drop-cons, common_steps, Option, is_none, Link, plain_link, first_empty, plain_slot}
use Rattle.dm_syscall.proofs.Names.{MsgId, What, Process, Reply, plain_process, receive_refusals, first_failed, Completion, Placed, completes, completes_unless, place_into, place_links, receives}
use Rattle.dm_message.specs.declared.What.TheVariants as what

-- as many slots are empty without places
pub free_plainly : (table : List (Option Link)) → count_by is_none (map plain_slot table) ≡ count_by is_none table
free_plainly [] = refl
free_plainly (None ∷ table) = grind (arith, common_steps, free_plainly table)
free_plainly (Some l ∷ table) = grind (arith, common_steps, free_plainly table)

rest : (links : List Link) (i : ℕ) (d : Link) → i < length links → drop i links ≡ get_or links i d ∷ drop (i + 1) links
rest links i d h = rw add-one (drop-cons links i d h)

-- one more link is placed
pub place_next : (t u : Placed) (links : List Link) (i : ℕ) (d : Link) → i < length links → u ≡ place_into t (5 + i) (get_or links i d) (first_empty t.table)
    → place_links u (5 + (i + 1)) (drop (i + 1) links) ≡ place_links t (5 + i) (drop i links)
place_next t u links i d h e =
    let n : 5 + (i + 1) ≡ 5 + i + 1 = omega arith in
    (λ j. place_links (e j) (n j) (drop (i + 1) links)) ∙ ap (place_links t (5 + i)) (sym (rest links i d h))

-- what a user message says
abbrev pub Says : What → ℕ → ℕ → List ℕ → List Link → Type 0
Says (what.User c n body links) code channel bytes ls = (c ≡ code) × (n ≡ channel) × (body.items ≡ bytes) × (links.items ≡ ls)
Says w code channel bytes ls = ⊥

pub completes_saying : (p : Process) (place : ℕ) (id : MsgId) (base cap : ℕ) (w : What) (code channel : ℕ) (bytes : List ℕ) (ls : List Link) (o : Option Reply) (d : Completion)
    → Says w code channel bytes ls → first_failed (receive_refusals (plain_process p) cap bytes (map plain_link ls)) ≡ o
    → completes_unless o p (receives p place id base code channel bytes ls) ≡ d → completes p place id base cap w ≡ Some d
completes_saying p place id base cap (what.User c n body links) code channel bytes ls o d h f g =
    (λ i. Some (completes_unless (first_failed (receive_refusals (plain_process p) cap (h.2 i) (map plain_link (h.3 i)))) p (receives p place id base (h.0 i) (h.1 i) (h.2 i) (h.3 i))))
    ∙ ap (λ o. Some (completes_unless o p (receives p place id base code channel bytes ls))) f
    ∙ ap Some g
completes_saying p place id base cap w code channel bytes ls o d h f g = absurd h
