-- The processes with their links, as a loop goes through them.
use Rattle.dm_boot.proofs.Imports.{◌≡◌, ℕ, ◌+◌, ◌<◌, ◌≤◌, List, [], ◌∷◌, ◌++◌, length, get_or, drop, ap, sym, ◌∙◌, append_assoc, append-nil, drop_more, drop_of_length-le, Value, Data, view, items_view, Link, BootProcess}
use Rattle.dm_boot.proofs.Imports.{linked, linked_all, links_of, name_in}
use Rattle.dm_boot.proofs.Elements.{element_at}

start_at : (ps : List BootProcess) (i : ℕ) (p : BootProcess) → i < length ps → p ≡ get_or ps i p → drop i ps ≡ p ∷ drop (i + 1) ps
start_at ps i p within read = drop_more ps i p within ∙ ap (λ q. q ∷ drop (i + 1) ps) (sym read)

pub linked-end : (d : Data) (done starts ps : List BootProcess) (vs : List Value) (i : ℕ) → length ps ≤ i → done ++ linked_all d starts (drop i ps) (items_view (drop i vs)) ≡ done
unfolding linked_all
linked-end d done starts ps vs i past = ap (λ l. done ++ linked_all d starts l (items_view (drop i vs))) (drop_of_length-le ps past) ∙ append-nil done

pub linked-more : (d : Data) (done starts ps : List BootProcess) (vs : List Value) (i : ℕ) (p : BootProcess) (v : Value) (name : List ℕ) (ls : List Link) → i < length ps → p ≡ get_or ps i p → i < length vs → v ≡ get_or vs i v → name ≡ name_in (view v) → ls ≡ links_of d starts (view v) → done ++ linked_all d starts (drop i ps) (items_view (drop i vs)) ≡ (done ++ linked p name ls ∷ []) ++ linked_all d starts (drop (i + 1) ps) (items_view (drop (i + 1) vs))
unfolding linked_all
linked-more d done starts ps vs i p v name ls within read within_too read_too named links =
    rw (start_at ps i p within read, element_at vs i v within_too read_too, named, links)
    (sym (append_assoc done (linked p (name_in (view v)) (links_of d starts (view v)) ∷ []) (linked_all d starts (drop (i + 1) ps) (items_view (drop (i + 1) vs)))))
