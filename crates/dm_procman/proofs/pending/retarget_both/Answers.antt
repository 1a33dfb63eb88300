-- Requests that are told keep their places and their numbers.
use Rattle.std.specs.Map.{values_of}
use Rattle.dm_procman.proofs.Names.{◌≡◌, ◌∙◌, ◌++◌, ℕ, List, length, take, drop, map, ap, sym, subst, take-append_seam, length-map, Pending, retargeted_pending}
use Rattle.dm_procman.specs.Numbered.{IsNumbered, retargeted_entry}
use Rattle.dm_procman.proofs.Numbered.{told_both, told_numbered}
use Rattle.dm_procman.proofs.pending.retarget_both.Goals as goal

pub returns-clause-pending : goal.returns-clause-pending
returns-clause-pending c =
    let es = c.args.ascending.now.entries in
    let old = c.args.others.now.items in
    let new = c.retarget_pending.new.pending in
    let f : Pending → Pending = retargeted_pending c.args.about c.args.at c.args.moves in
    let all : new ≡ map f old = c.retarget_pending.ensures.pending ∙ ap (map f) c.as_mut_slice.ensures.value in
    let many : c.args.others.now.len ≡ length new = sym (ap length c.retarget_pending.ensures.pending ∙ length-map c.as_mut_slice.result.now f ∙ c.as_mut_slice.ensures.len) in
    let told : take c.args.others.now.len (new ++ drop (length new) old) ≡ map f old =
    ap (λ n. take n (new ++ drop (length new) old)) many ∙ take-append_seam new (drop (length new) old) ∙ all
    in
    ap (λ (xs : List (ℕ × Pending)). values_of xs ++ take c.args.others.now.len (new ++ drop (length new) old)) c.retarget_values.ensures
    ∙ ap (λ (rs : List Pending). values_of (map (retargeted_entry c.args.about c.args.at c.args.moves) es) ++ rs) told
    ∙ told_both c.args.about c.args.at c.args.moves es old

pub returns-clause-numbered : goal.returns-clause-numbered
returns-clause-numbered c =
    subst IsNumbered (sym c.retarget_values.ensures) (told_numbered c.args.about c.args.at c.args.moves c.args.ascending.now.entries c.requires.numbered)
